use Rattle.std.proofs.Common.{arith, length-drop, length-take, ◌∙◌}
use Rattle.byte_ports.proofs.ToldBytes.{Appends-next}
use Rattle.byte_ports.proofs.whole.write_all.Goals as goal

pub loop-written-preserved : goal.loop-written-preserved
loop-written-preserved g c =
    let before = c.loop-written.invariant in
    let call = c.in_ok-written.ensures in
    record {
      within = let bound = simp (length-take, length-drop) at call.bound in omega (arith, bound, before.within);
      held = Appends-next _ _ _ c.args.text.now c.loop-written.written c.in_ok-written.field-0 before.held call.appended;
      faultless = call.faultless ∙ before.faultless;
    }
