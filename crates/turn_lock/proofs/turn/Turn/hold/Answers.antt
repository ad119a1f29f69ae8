use Rattle.std.proofs.Common.{rules, ◌∷◌, sym, ap, ◌∙◌}
use Rattle.std.specs.Prelude.{Some}
use Rattle.atomic_table.specs.Table.{rest}
use Rattle.turn_lock.proofs.Calls.{took, same_own, same_value}
use Rattle.turn_lock.proofs.turn.Turn.hold.Goals as goal

pub exchange-requires : goal.exchange-requires
exchange-requires g c = let p = c.args.pass in
    let got = took g.V.History.entries g.V.History.maker p.seat.me.0 p.seat.me.1 _ _ _ c.draw-ticket.ensures.ticket p.at_rest.1 c.wait_for_turn.ensures.turn in
    let one = ap (λ m. m.1) got.1 in
    (search rules, (Some got.0, one ∙ ap (λ z. (0, Some got.0) ∷ z) (sym (ap rest one))))

pub returns-clause-own : goal.returns-clause-own
returns-clause-own g c = let p = c.args.pass in let entries = g.V.History.entries in
    let got = took entries g.V.History.maker p.seat.me.0 p.seat.me.1 _ _ _ c.draw-ticket.ensures.ticket p.at_rest.1 c.wait_for_turn.ensures.turn in
    same_own g.V.History.maker p.seat.me.0.first p.seat.me.0.end p.seat.me.0.seen got.2.0 (entries c.in-Some.value)
    (got.2.1 ∙ ap entries (same_value entries g.V.History.maker _ _ _ got.0 c.in-Some.value (ap (λ m. m.1) got.1) c.in-Some.ensures.2)) got.2.2
