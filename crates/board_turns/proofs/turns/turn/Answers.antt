use Rattle.std.proofs.Common.{Bool, subst, sym, ap, ◌∙◌}
use Rattle.app_kernel.specs.owner_ports.specs.Boards.{OnTold}
use Rattle.board_turns.specs.Holds.{found_if}
use Rattle.board_turns.specs.Looks.{HasLooked}
use Rattle.board_turns.specs.Paces.{beat_of, wants_first, Beat}
use Rattle.board_turns.specs.Turning.{IsNext}
use Rattle.board_turns.proofs.Told.{turn_looked, Takes}
use Rattle.board_turns.proofs.turns.turn.Goals as goal

pub returns-else-looked-clause-next : goal.returns-else-looked-clause-next
returns-else-looked-clause-next g c =
    let before = c.args.port.now in
    let mid = c.take.new.port in
    let after = c.look.new.self in
    let a = g.P.Port.board before in
    let m = g.P.Port.board mid in
    let b = g.P.Port.board after in
    let takes = subst (λ (l : Bool). OnTold a m (Takes c.args.owners.now c.take.new.owners (beat_of c.args.pace.now) c.args.found.now (found_if l c.take.new.found))) c.if-looked.false c.in_ok-looked.ensures.told in
    let looked = subst (λ (w : Bool). OnTold m b (λ x y. HasLooked w x y c.look.new.next)) (c.wants_first.ensures ∙ ap wants_first c.after-else-looked.ensures) c.look.ensures.told in
    subst (λ (k : Beat). OnTold a b (λ x y. IsNext x c.args.owners.now (beat_of c.args.pace.now) c.args.found.now → IsNext y c.take.new.owners k c.look.new.next)) (sym c.after-else-looked.ensures)
    (turn_looked a m b c.args.owners.now c.take.new.owners (beat_of c.args.pace.now) c.args.found.now c.look.new.next _ (g.P.Processor.progress before) (g.P.Processor.progress mid) (g.P.Processor.progress after)
    (g.met.P.Processor.grew before mid c.take.ensures.continued) takes (g.met.P.Processor.grew mid after c.look.ensures.continued) looked)
