use Rattle.std.proofs.Common.{refl, ap, sym, subst, arith}
use Rattle.flat_state.specs.declared.events.Decl.TheVariants as decls
use Rattle.board_laws.specs.desc_stores.specs.declared.items.Item.TheVariants as item
use Rattle.board_laws.specs.desc_tables.specs.Tables.{Held}
use Rattle.cached_machine.specs.Cached.{Cached}
use Rattle.cached_machine.specs.Moved.{IsMade, MayBeMade, OnlyRoom}
use Rattle.cached_machine.specs.contracts.machine.CachedMachine.{the_view}
use Rattle.board_laws.proofs.Admitted.{space_may}
use Rattle.cached_machine.proofs.MadeLaws.{on_err, put_made, put_out, put_state, room_only, room_sound, space_made}
use Rattle.cached_machine.proofs.machine.CachedMachine.declare_space.Goals as goal

pub declare-requires : goal.declare-requires
declare-requires c =
    let i = c.self.inside in
    let a = c.args in
    let may = subst (MayBeMade (decls.Space a.no a.kernel)) (sym c.self.view_is) c.requires in
    space_may i.machine i.memory i.tables.contents c.known.ensures.one i.tables.caps c.self.invariant.0.caps a.no a.kernel (record { no = a.no; kernel = a.kernel }) may.fits (refl, refl)

pub invariant_of-self : goal.invariant_of-self
invariant_of-self c =
    let i = c.self.inside in
    room_sound i.machine i.memory i.tables c.declare.new.self i.sets i.sets c.declare.ensures.rest c.in_err-declare.ensures.err i.granted (record { completable = refl; ready = refl }) c.self.invariant

pub returns-in_err-declare-clause-err : goal.returns-in_err-declare-clause-err
returns-in_err-declare-clause-err c =
    let i = c.self.inside in
    on_err c.from_residual.result
    (subst (λ (m : Cached). OnlyRoom m (record { machine = i.machine; memory = i.memory; held = c.declare.new.self; sets = i.sets })) c.self.view_is
    (room_only i.machine i.memory i.tables c.declare.new.self i.sets i.sets c.declare.ensures.rest c.in_err-declare.ensures.err (omega arith)))

pub invariant_of-self-2 : goal.invariant_of-self-2
invariant_of-self-2 c =
    let i = c.self.inside in
    let a = c.args in
    let d = decls.Space a.no a.kernel in
    let it = item.Space (record { no = a.no; kernel = a.kernel }) in
    let h = c.declare.new.self in
    let may = subst (MayBeMade d) (sym c.self.view_is) c.requires in
    let absent = (space_may i.machine i.memory i.tables.contents c.known.ensures.one i.tables.caps c.self.invariant.0.caps a.no a.kernel (record { no = a.no; kernel = a.kernel }) may.fits (refl, refl)).absent in
    let state = put_state i.machine i.memory i.tables h i.sets i.sets c.declare.ensures.rest d it (refl, refl) c.in_ok-declare.ensures.shows in (
      space_made (the_view i) (record { machine = i.machine; memory = i.memory; held = h; sets = i.sets }) i.granted refl (ap (λ (x : Held). x.caps) c.declare.ensures.rest) c.self.invariant.0 a.no a.kernel may.fits state c.self.invariant.0.sets,
      put_out i.machine i.memory i.tables h i.sets i.sets c.declare.ensures.rest d it c.declare.ensures.residents c.declare.ensures.issued c.in_ok-declare.ensures.contents absent refl refl c.self.invariant.1,
    )

pub returns-clause-ok : goal.returns-clause-ok
returns-clause-ok c =
    let i = c.self.inside in
    let a = c.args in
    let d = decls.Space a.no a.kernel in
    let it = item.Space (record { no = a.no; kernel = a.kernel }) in
    let h = c.declare.new.self in
    let may = subst (MayBeMade d) (sym c.self.view_is) c.requires in
    let absent = (space_may i.machine i.memory i.tables.contents c.known.ensures.one i.tables.caps c.self.invariant.0.caps a.no a.kernel (record { no = a.no; kernel = a.kernel }) may.fits (refl, refl)).absent in
    let state = put_state i.machine i.memory i.tables h i.sets i.sets c.declare.ensures.rest d it (refl, refl) c.in_ok-declare.ensures.shows in
    subst (λ (m : Cached). IsMade d m (record { machine = i.machine; memory = i.memory; held = h; sets = i.sets })) c.self.view_is
    (put_made i.machine i.memory i.tables h i.sets i.sets c.declare.ensures.rest d it c.declare.ensures.residents c.declare.ensures.issued c.in_ok-declare.ensures.contents absent refl refl c.declare.ensures.spare state)
