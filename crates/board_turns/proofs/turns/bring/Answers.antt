use Rattle.std.proofs.Common.{Bool, subst, sym, ap, ◌∙◌}
use Rattle.app_kernel.specs.owner_ports.specs.Boards.{OnTold}
use Rattle.board_turns.specs.declared.found.Found.{Found}
use Rattle.board_turns.specs.declared.found.Found.TheVariants.{Wanted}
use Rattle.board_turns.proofs.Told.{bring_nothing, bring_out, bring_step, grown_owned, Brings, Brought}
use Rattle.board_turns.proofs.turns.bring.Goals as goal

pub returns-in-Out-clause-owned : goal.returns-in-Out-clause-owned
returns-in-Out-clause-owned g c =
    let before = c.args.port.now in
    let after = c.heal.new.port in
    grown_owned (g.P.Port.board before) (g.P.Port.board after) (g.P.Processor.progress before) (g.P.Processor.progress after) (g.met.P.Processor.grew before after c.heal.ensures.continued) c.args.owners.now

pub returns-in-Out-clause-told : goal.returns-in-Out-clause-told
returns-in-Out-clause-told g c =
    let a = g.P.Port.board c.args.port.now in
    let b = g.P.Port.board c.heal.new.port in
    let known = c.args.owners.now in
    subst (λ (f : Found). OnTold a b (Brings c.heal.result known known f)) (sym c.in-Out.is) (bring_out c.heal.result a b known c.in-Out.ticket c.heal.ensures.rests c.heal.ensures.healed)

pub returns-else-trapped-clause-owned : goal.returns-else-trapped-clause-owned
returns-else-trapped-clause-owned g c =
    let before = c.args.port.now in
    let after = c.heal-else-trapped.new.port in
    grown_owned (g.P.Port.board before) (g.P.Port.board after) (g.P.Processor.progress before) (g.P.Processor.progress after) (g.met.P.Processor.grew before after c.heal-else-trapped.ensures.continued) c.args.owners.now

pub returns-else-trapped-clause-told : goal.returns-else-trapped-clause-told
returns-else-trapped-clause-told g c =
    let a = g.P.Port.board c.args.port.now in
    let b = g.P.Port.board c.heal-else-trapped.new.port in
    let known = c.args.owners.now in
    let is = c.in-Wanted.is ∙ ap (λ (t : Bool). Wanted c.in-Wanted.no t c.in-Wanted.pc) c.if-trapped.false in
    subst (λ (f : Found). OnTold a b (Brings c.heal-else-trapped.result known known f)) (sym is) (bring_step c.heal-else-trapped.result a b known c.in-Wanted.no c.in-Wanted.pc c.heal-else-trapped.ensures.rests c.heal-else-trapped.ensures.healed)

pub returns-in-Nothing-clause-told : goal.returns-in-Nothing-clause-told
returns-in-Nothing-clause-told g c =
    let a = g.P.Port.board c.args.port.now in
    let known = c.args.owners.now in
    subst (λ (f : Found). OnTold a a (Brought known known f)) (sym c.in-Nothing.is) (bring_nothing a known)
