use Rattle.journal_rules.specs.Touched.{AddsPlaces}
use Rattle.journal_rules.proofs.calls.add_of_frames.Given as goal

abbrev pub invariant-loop-place : goal.invariant-loop-place
invariant-loop-place l = AddsPlaces l.relying l.group l.place l.fn.names.items l.names.items
