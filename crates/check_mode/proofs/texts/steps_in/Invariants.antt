use Rattle.std.proofs.Common.{◌≡◌, take}
use Rattle.run_journal.specs.Entries.{steps_in}
use Rattle.check_mode.proofs.texts.steps_in.Given as goal

-- the steps so far are those of the entries so far
abbrev pub invariant-loop-entry : goal.invariant-loop-entry
invariant-loop-entry l = l.steps ≡ steps_in (take l.entry-index l.entries)
