use Rattle.std.proofs.Common.{map, ap, ◌∙◌}
use Rattle.phys_groups.specs.Rows.{marked}
use Rattle.cached_machine.specs.Aside.{aside_of}
use Rattle.cached_machine.specs.Cached.{state_of, Cached}
use Rattle.cached_machine.proofs.AsideLaws.{out_stays}
use Rattle.cached_machine.proofs.StepLaws.{mark_left}
use Rattle.cached_machine.proofs.machine.CachedMachine.mark_near.Goals as goal

pub invariant_of-self : goal.invariant_of-self
invariant_of-self c =
    let i = c.self.inside in
    let left = mark_left i.machine i.memory i.tables c.mark_named.new.tables i.sets c.args.space c.args.vpn c.args.written c.mark_named.ensures in
    let was : Cached = record { machine = i.machine; memory = i.memory; held = i.tables; sets = i.sets } in
    let now : Cached = record { machine = i.machine; memory = i.memory; held = c.mark_named.new.tables; sets = i.sets } in
    (left.sound i.granted c.self.invariant.0, out_stays was now left.aside c.self.invariant.1)

pub returns-clause-state : goal.returns-clause-state
returns-clause-state c =
    let i = c.self.inside in
    (mark_left i.machine i.memory i.tables c.mark_named.new.tables i.sets c.args.space c.args.vpn c.args.written c.mark_named.ensures).state
    ∙ ap (λ (m : Cached). record (state_of m) { rows = map (marked c.args.space c.args.vpn.0 c.args.written) (state_of m).rows }) c.self.view_is

pub returns-clause-rest : goal.returns-clause-rest
returns-clause-rest c =
    let i = c.self.inside in
    (mark_left i.machine i.memory i.tables c.mark_named.new.tables i.sets c.args.space c.args.vpn c.args.written c.mark_named.ensures).aside ∙ ap aside_of c.self.view_is
