-- What a pass has seen of a board.
use Rattle.std.specs.Prelude.{ℕ, Bool, List, map}
use Rattle.std.specs.List.{list_any}
use Rattle.run_journal.specs.declared.entries.Entry.{Entry}
use Rattle.run_journal.specs.Told.{is_seal}

-- the entries without the limits
abbrev pub entries_of : List (Entry × ℕ) → List Entry
entries_of seen = map (λ (e : Entry × ℕ). e.0) seen

-- the seal is among them
abbrev pub has_seal : List (Entry × ℕ) → Bool
has_seal seen = list_any is_seal (entries_of seen)
