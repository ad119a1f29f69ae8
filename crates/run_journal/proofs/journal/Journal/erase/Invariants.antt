use Rattle.std.proofs.Common.{◌≡◌, take}
use Rattle.std.specs.List.{flat_map}
use Rattle.run_journal.specs.Entries.{events_of}
use Rattle.run_journal.proofs.journal.Journal.erase.Given as goal

abbrev pub invariant-loop-entry : goal.invariant-loop-entry
invariant-loop-entry l = l.events.items ≡ flat_map events_of (take l.entry-index l.entry-items)
