use Rattle.journal_rules.proofs.Among.{places_none, places_more}
use Rattle.journal_rules.proofs.calls.add_of_frames.Goals as goal

pub loop-place-init : goal.loop-place-init
loop-place-init c = places_none c.args.relying.now c.args.group c.args.names.now.items

pub loop-place-preserved : goal.loop-place-preserved
loop-place-preserved c = places_more c.args.relying.now c.args.group c.loop-place.place c.args.names.now.items _ _ c.loop-place.invariant c.in_ok-add_one.ensures
