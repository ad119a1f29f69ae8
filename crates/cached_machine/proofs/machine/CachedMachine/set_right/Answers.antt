use Rattle.std.proofs.Common.{Some, refl, ap, sym, subst}
use Rattle.flat_state.specs.declared.events.Decl.TheVariants as decls
use Rattle.flat_machine.proofs.DeclareSound.{right_rules}
use Rattle.board_laws.specs.desc_stores.specs.Contents.{residents_of}
use Rattle.board_laws.specs.desc_tables.specs.Tables.{Held}
use Rattle.cached_machine.specs.Cached.{state_of, Cached}
use Rattle.cached_machine.specs.Moved.{IsMade, MayBeMade}
use Rattle.cached_machine.specs.contracts.machine.CachedMachine.{the_view}
use Rattle.cached_machine.proofs.AdmitLaws.{kernel_there}
use Rattle.cached_machine.proofs.GoodLaws.{good_seen}
use Rattle.cached_machine.proofs.MadeLaws.{beside_held, held_right, out_kept, right_made}
use Rattle.cached_machine.proofs.machine.CachedMachine.set_right.Goals as goal

pub set_rights-requires-clause-there : goal.set_rights-requires-clause-there
set_rights-requires-clause-there c =
    let i = c.self.inside in
    let a = c.args in
    let may = subst (MayBeMade (decls.Right a.kernel a.group a.read a.write)) (sym c.self.view_is) c.requires in
    let rules = right_rules (state_of (the_view i)) i.granted (record { formed = c.self.invariant.0.formed; sums = c.self.invariant.0.sums }) a.kernel a.group a.read a.write may.fits in
    kernel_there i.machine i.memory i.tables.contents c.known.ensures.one a.kernel rules.0

pub set_rights-requires-clause-group : goal.set_rights-requires-clause-group
set_rights-requires-clause-group c =
    let i = c.self.inside in
    let a = c.args in
    let may = subst (MayBeMade (decls.Right a.kernel a.group a.read a.write)) (sym c.self.view_is) c.requires in
    (right_rules (state_of (the_view i)) i.granted (record { formed = c.self.invariant.0.formed; sums = c.self.invariant.0.sums }) a.kernel a.group a.read a.write may.fits).1

pub set_rights-requires-clause-good : goal.set_rights-requires-clause-good
set_rights-requires-clause-good c =
    let i = c.self.inside in
    let a = c.args in
    let may = subst (MayBeMade (decls.Right a.kernel a.group a.read a.write)) (sym c.self.view_is) c.requires in
    good_seen i.machine i.memory i.tables.contents (residents_of i.tables.contents) a.kernel a.group (a.read, a.write) may.good

pub invariant_of-self : goal.invariant_of-self
invariant_of-self c =
    let i = c.self.inside in
    let a = c.args in
    let h = c.set_rights.new.self in
    let may = subst (MayBeMade (decls.Right a.kernel a.group a.read a.write)) (sym c.self.view_is) c.requires in
    let rules = right_rules (state_of (the_view i)) i.granted (record { formed = c.self.invariant.0.formed; sums = c.self.invariant.0.sums }) a.kernel a.group a.read a.write may.fits in
    let there = kernel_there i.machine i.memory i.tables.contents c.known.ensures.one a.kernel rules.0 in
    let kept = held_right i.tables h a.kernel a.group (a.read, a.write) c.set_rights.ensures.rest c.set_rights.ensures.residents c.set_rights.ensures.issued there c.set_rights.ensures.contents in (
      right_made (the_view i) (record { machine = i.machine; memory = i.memory; held = h; sets = i.sets }) i.granted refl (ap (λ (x : Held). x.caps) c.set_rights.ensures.rest) c.self.invariant.0 a.kernel a.group a.read a.write may.fits (c.set_rights.ensures.shows (Some i.machine) i.memory) c.self.invariant.0.sets,
      out_kept i.tables h kept c.self.invariant.1,
    )

pub returns : goal.returns
returns c =
    let i = c.self.inside in
    let a = c.args in
    let d = decls.Right a.kernel a.group a.read a.write in
    let h = c.set_rights.new.self in
    let after : Cached = record { machine = i.machine; memory = i.memory; held = h; sets = i.sets } in
    let may = subst (MayBeMade d) (sym c.self.view_is) c.requires in
    let rules = right_rules (state_of (the_view i)) i.granted (record { formed = c.self.invariant.0.formed; sums = c.self.invariant.0.sums }) a.kernel a.group a.read a.write may.fits in
    let there = kernel_there i.machine i.memory i.tables.contents c.known.ensures.one a.kernel rules.0 in
    let kept = held_right i.tables h a.kernel a.group (a.read, a.write) c.set_rights.ensures.rest c.set_rights.ensures.residents c.set_rights.ensures.issued there c.set_rights.ensures.contents in
    subst (λ (m : Cached). IsMade d m after) c.self.view_is
    (record { state = c.set_rights.ensures.shows (Some i.machine) i.memory; beside = beside_held (the_view i) after refl kept c.set_rights.ensures.spare })
