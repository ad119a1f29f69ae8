use Rattle.std.proofs.Common.{refl, sym, ap, ◌∙◌, subst}
use Rattle.std.specs.Prelude.{IsSome}
use Rattle.turn_lock.proofs.Calls.{there}
use Rattle.turn_lock.proofs.Ends.{closes}
use Rattle.turn_lock.proofs.turn.Turn.close.Goals as goal

pub unwrap-requires : goal.unwrap-requires
unwrap-requires g c = let p = c.args.pass in let all = c.requires.all in
    let got = closes g.V.History.entries g.V.History.maker _ p.seat.me.0 _ _ p.at_rest.0 all.0 all.1 c.close_with-closed.ensures.values.2 in
    subst IsSome (sym (there g.V.History.entries g.V.History.maker _ _ _ c.take-value.ensures.value got.1)) refl

pub returns : goal.returns
returns g c = let p = c.args.pass in let all = c.requires.all in
    let got = closes g.V.History.entries g.V.History.maker _ p.seat.me.0 _ _ p.at_rest.0 all.0 all.1 c.close_with-closed.ensures.values.2 in
    let is = there g.V.History.entries g.V.History.maker _ _ _ c.take-value.ensures.value got.1 in
    ap g.V.History.entries (cc (c.unwrap.ensures, is)) ∙ got.2
