use Rattle.std.proofs.Common.{subst}
use Rattle.flat_state.specs.declared.events.Decl.{Decl}
use Rattle.cached_machine.specs.Moved.{MayBeMade}
use Rattle.cached_machine.proofs.AdmitLaws.{machine_once}
use Rattle.cached_machine.proofs.machine.CachedMachine.make_declaration.Goals as goal

pub returns-in-Machine-clause-ok : goal.returns-in-Machine-clause-ok
returns-in-Machine-clause-ok c =
    let m = c.args.self.now in
    let may = subst (λ (d : Decl). MayBeMade d m) c.in-Machine.is c.requires in
    absurd (machine_once m.machine m.memory m.held.contents c.in-Machine.machine may.fits)
