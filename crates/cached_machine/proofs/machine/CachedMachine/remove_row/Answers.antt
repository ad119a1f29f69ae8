use Rattle.std.proofs.Common.{◌≡◌, true, sym, ap, subst, ◌∙◌}
use Rattle.std.specs.Prelude.{is_some}
use Rattle.cache_ident.specs.declared.names.Name.TheVariants as name
use Rattle.cache_ident.specs.Residents.{IsNameResident}
use Rattle.phys_groups.specs.Translation.{row_of, without}
use Rattle.board_laws.specs.desc_stores.specs.Contents.{residents_of}
use Rattle.board_laws.specs.store_residents.proofs.ContentLemmas.{shelved_iff}
use Rattle.cached_machine.specs.Cached.{state_of, Cached}
use Rattle.cached_machine.proofs.AdmitLaws.{row_there}
use Rattle.cached_machine.proofs.CompleteLaws.{row_went, row_went_sound}
use Rattle.cached_machine.proofs.machine.CachedMachine.remove_row.Goals as goal

pub retract-requires-clause-shelved : goal.retract-requires-clause-shelved
retract-requires-clause-shelved c =
    let i = c.self.inside in
    let a = c.args in
    let there = subst (λ (m : Cached). is_some (row_of (state_of m).rows a.space a.vpn.0) ≡ true) (sym c.self.view_is) c.requires.there in
    let absent = subst (λ (m : Cached). IsNameResident (residents_of m.held.contents) (name.Mapping a.space a.vpn) → ⊥) (sym c.self.view_is) c.requires.absent in
    (shelved_iff i.tables.contents c.known.ensures.one (name.Mapping a.space a.vpn)).1 (row_there i.machine i.memory i.tables.contents c.known.ensures.one a.space a.vpn there, absent)

pub invariant_of-self : goal.invariant_of-self
invariant_of-self c =
    let i = c.self.inside in
    let a = c.args in
    let e = c.retract.ensures in
    row_went_sound i.machine i.memory i.tables c.retract.new.self i.sets a.space a.vpn e.rest (record { contents = e.contents; names = e.names; only = e.only }) i.granted e.residents c.self.invariant

pub returns-clause-rows : goal.returns-clause-rows
returns-clause-rows c =
    let i = c.self.inside in
    let a = c.args in
    let e = c.retract.ensures in
    row_went i.machine i.memory i.tables c.retract.new.self i.sets a.space a.vpn e.rest (record { contents = e.contents; names = e.names; only = e.only })
    ∙ ap (λ (m : Cached). record (state_of m) { rows = without a.space a.vpn.0 (state_of m).rows }) c.self.view_is
