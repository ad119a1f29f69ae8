-- The past that a lock over the board sees.
use Rattle.std.specs.Prelude.{ℕ, List, map}
use Rattle.run_journal.specs.declared.entries.Entry.{Entry}
use Rattle.run_journal.specs.Entries.{maker_of}
use Rattle.board_core.specs.Core.{Recorded}

-- the entries of the journal, each with the board's step limit beside it
abbrev pub past_of : Recorded → List (Entry × ℕ)
past_of b = map (λ e. (e, b.limit)) b.journal.entries

-- the processor that made one of them
abbrev pub author_of : Entry × ℕ → ℕ
author_of e = maker_of e.0
