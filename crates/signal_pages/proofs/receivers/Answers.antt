use Rattle.std.proofs.Common.{◌∙◌, refl, sym, arith, lit<}
use Rattle.signal_pages.proofs.Walks.{all_walked, has_room, walks_past, walks_with}
use Rattle.signal_pages.proofs.receivers.Goals.{in-Some, in_default}
use Rattle.signal_pages.proofs.receivers.Goals as goal

pub loop-i-init : goal.loop-i-init
loop-i-init c = rw c.new-found.ensures (record { joined = refl; few = omega (arith, c.requires.at_most_four) })

pub push-requires : goal.push-requires
push-requires c = (lit< tt, has_room c.args.frame c.args.rows.now c.args.fit.now c.loop-i.i c.loop-i.found.items _ _ c.loop-i-test.true c.requires.told c.loop-i.invariant c.in-Some.receiver (sym c.receiver.ensures ∙ c.in-Some.is))

pub loop-i-preserved : goal.loop-i-preserved
loop-i-preserved c = elim c.match-receiver.branch [
  | in-Some w ↦ rw (w.found-is, w.push.ensures.items) (walks_with c.args.frame c.args.rows.now c.args.fit.now c.loop-i.i c.loop-i.found.items _ _ c.loop-i-test.true c.requires.told c.loop-i.invariant w.in-Some.receiver (sym c.receiver.ensures ∙ w.in-Some.is))
  | in_default w ↦ rw w.found-is (walks_past c.args.frame c.args.rows.now c.args.fit.now c.loop-i.i c.loop-i.found.items _ _ c.loop-i-test.true c.requires.told c.loop-i.invariant (sym c.receiver.ensures ∙ w.in_default.is))
]

pub returns : goal.returns
returns c = all_walked _ _ _ _ _ c.loop-i-test.false c.loop-i.invariant
