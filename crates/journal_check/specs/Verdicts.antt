-- What a verdict on a journal says.
use Rattle.std.specs.Prelude.{◌≡◌, List}
use Rattle.flat_machine.specs.flat_state.specs.declared.events.Decl.{Decl}
use Rattle.flat_machine.specs.flat_state.specs.Events.{flat}
use Rattle.run_journal.specs.declared.entries.Entry.{Entry}
use Rattle.run_journal.specs.Entries.{erase}
use Rattle.run_journal.specs.Points.{KeepsAll, IsFirstBroken}
use Rattle.journal_check.specs.declared.checking.Verdict.{Verdict}
use Rattle.journal_check.specs.declared.checking.Verdict.TheVariants.{Yes, No}

-- Where the journal is to begin with these declarations: each place keeps each rule, and this is the machine of what is left of it;
-- or this is the first place that breaks a rule, and the first rule there.
abbrev pub IsVerdict : List Decl → List Entry → Verdict → Type 0
IsVerdict ds j (Yes s) = KeepsAll ds j × (s ≡ flat (erase j))
IsVerdict ds j (No at point) = IsFirstBroken ds j at point

abbrev pub IsYes : Verdict → Type 0
IsYes (Yes s) = Unit {0}
IsYes (No at point) = ⊥

-- P where the verdict is yes
abbrev pub OnYes : Verdict → Type 0 → Type 0
OnYes (Yes s) P = P
OnYes (No at point) P = Unit {0}
