use Rattle.std.proofs.Common.{refl, sym, subst}
use Rattle.flat_state.specs.declared.events.Decl.TheVariants as decls
use Rattle.cached_machine.specs.Cached.{Cached}
use Rattle.cached_machine.specs.Moved.{IsMade, MayBeMade, OnlyRoom}
use Rattle.cached_machine.proofs.MadeLaws.{on_err, room_only, room_sound}
use Rattle.cached_machine.proofs.ThreadLaws.{fresh, next_in_sets, shows_fresh, thread_declares, thread_is_made, thread_keeps}
use Rattle.cached_machine.proofs.machine.CachedMachine.declare_thread.Goals as goal

pub push-requires-clause-next : goal.push-requires-clause-next
push-requires-clause-next c =
    let i = c.self.inside in
    let a = c.args in
    let may = subst (MayBeMade (decls.Thread a.no a.space a.pc a.priority a.a0 a.a1)) (sym c.self.view_is) c.requires in
    let thread = fresh a.no a.space a.priority c.new_context.result c.new.result c.new-2.result in
    let its = shows_fresh a.no a.space a.pc a.priority a.a0 a.a1 c.new_context.result c.new.result c.new-2.result c.new_context.ensures c.new.ensures c.new-2.ensures in
    next_in_sets i.machine i.memory i.tables c.make_room-2.new.self i.sets c.make_room.new.self c.make_room-2.ensures.rest c.make_room-2.ensures.only c.make_room.ensures.same a.no a.space a.pc a.priority a.a0 a.a1 may.fits thread its c.known.ensures.one c.self.invariant.0.sets

pub declare-requires : goal.declare-requires
declare-requires c =
    let i = c.self.inside in
    let a = c.args in
    let may = subst (MayBeMade (decls.Thread a.no a.space a.pc a.priority a.a0 a.a1)) (sym c.self.view_is) c.requires in
    let thread = fresh a.no a.space a.priority c.new_context.result c.new.result c.new-2.result in
    let its = shows_fresh a.no a.space a.pc a.priority a.a0 a.a1 c.new_context.result c.new.result c.new-2.result c.new_context.ensures c.new.ensures c.new-2.ensures in
    thread_declares i.machine i.memory i.tables c.make_room-2.new.self i.sets c.make_room.new.self c.make_room-2.ensures.rest c.make_room-2.ensures.only c.make_room.ensures.same a.no a.space a.pc a.priority a.a0 a.a1 may.fits thread its c.known.ensures.one c.self.invariant.0.caps

pub returns-clause-ok : goal.returns-clause-ok
returns-clause-ok c =
    let i = c.self.inside in
    let a = c.args in
    let d = decls.Thread a.no a.space a.pc a.priority a.a0 a.a1 in
    let may = subst (MayBeMade d) (sym c.self.view_is) c.requires in
    let thread = fresh a.no a.space a.priority c.new_context.result c.new.result c.new-2.result in
    let its = shows_fresh a.no a.space a.pc a.priority a.a0 a.a1 c.new_context.result c.new.result c.new-2.result c.new_context.ensures c.new.ensures c.new-2.ensures in
    subst (λ (m : Cached). IsMade d m (record { machine = i.machine; memory = i.memory; held = c.declare.new.self; sets = c.push.new.self })) c.self.view_is
    (thread_is_made i.machine i.memory i.tables c.make_room-2.new.self i.sets c.make_room.new.self c.make_room-2.ensures.rest c.make_room-2.ensures.only c.make_room.ensures.same a.no a.space a.pc a.priority a.a0 a.a1 may.fits thread its c.known.ensures.one c.self.invariant.0.caps c.declare.new.self c.push.new.self c.declare.ensures.rest c.declare.ensures.residents c.declare.ensures.issued c.in_ok-declare.ensures.contents refl refl c.in_ok-declare.ensures.shows c.declare.ensures.spare)

pub invariant_of-self-in_err-make_room-2 : goal.invariant_of-self-in_err-make_room-2
invariant_of-self-in_err-make_room-2 c =
    let i = c.self.inside in
    room_sound i.machine i.memory i.tables c.make_room-2.new.self i.sets c.make_room.new.self c.make_room-2.ensures.rest c.make_room-2.ensures.only i.granted c.make_room.ensures.same c.self.invariant

pub returns-in_err-make_room-2-clause-err : goal.returns-in_err-make_room-2-clause-err
returns-in_err-make_room-2-clause-err c =
    let i = c.self.inside in
    on_err c.from_residual-in_err-make_room-2.result
    (subst (λ (m : Cached). OnlyRoom m (record { machine = i.machine; memory = i.memory; held = c.make_room-2.new.self; sets = c.make_room.new.self })) c.self.view_is
    (room_only i.machine i.memory i.tables c.make_room-2.new.self i.sets c.make_room.new.self c.make_room-2.ensures.rest c.make_room-2.ensures.only c.make_room.ensures.kept))

pub invariant_of-self-2 : goal.invariant_of-self-2
invariant_of-self-2 c =
    let i = c.self.inside in
    let a = c.args in
    let d = decls.Thread a.no a.space a.pc a.priority a.a0 a.a1 in
    let may = subst (MayBeMade d) (sym c.self.view_is) c.requires in
    let thread = fresh a.no a.space a.priority c.new_context.result c.new.result c.new-2.result in
    let its = shows_fresh a.no a.space a.pc a.priority a.a0 a.a1 c.new_context.result c.new.result c.new-2.result c.new_context.ensures c.new.ensures c.new-2.ensures in
    thread_keeps i.machine i.memory i.tables c.make_room-2.new.self i.sets c.make_room.new.self c.make_room-2.ensures.rest c.make_room-2.ensures.only c.make_room.ensures.same a.no a.space a.pc a.priority a.a0 a.a1 may.fits thread its c.known.ensures.one c.self.invariant.0.caps c.declare.new.self c.push.new.self c.declare.ensures.rest c.declare.ensures.residents c.declare.ensures.issued c.in_ok-declare.ensures.contents refl refl c.in_ok-declare.ensures.shows i.granted c.push.ensures.sets c.self.invariant
