-- The name comes to the lowest slot that is free once the victim has left with its group, where there is one.
use Rattle.std.proofs.Common.{◌≡◌, ℕ, ◌<◌, List, [], length, None, ap, subst, sym, ◌∙◌, arith}
use Rattle.cache_ident.specs.Names.{kind_of}
use Rattle.cache_ident.specs.Residents.{Resident}
use Rattle.depend_lists.specs.Pairs.{count_of}
use Rattle.desc_groups.specs.run_journal.specs.Legal.{IsTaken}
use Rattle.desc_groups.specs.desc_stores.specs.Contents.{residents_of}
use Rattle.desc_groups.specs.store_residents.proofs.SlotLaws.{lowest_free}
use Rattle.desc_groups.specs.group_laws.specs.Leaving.{without_all}
use Rattle.desc_groups.specs.Moves.{idents_of, AreNamed, MayEnter}
use Rattle.desc_tables.specs.Tables.{Held}
use Rattle.desc_tables.proofs.Limits.{loaded_sound}
use Rattle.desc_tables.proofs.Victims.{length-departed_all}
use Rattle.desc_tables.proofs.tables.Tables.load.Goals as goal

pub enter-requires-clause-may : goal.enter-requires-clause-may
enter-requires-clause-may c = subst (λ (h : Held). MayEnter h.contents c.args.name) (sym c.self.view_is) c.make_place.ensures.ready

pub invariant_of-self : goal.invariant_of-self
invariant_of-self c =
    let room = c.self.invariant.1 in
    let for_names = c.self.invariant.2 in
    let caps = ap count_of c.enter.ensures.caps in
    (loaded_sound _ _ _ _ c.enter.result c.args.name c.self.invariant.0 c.enter.ensures.whole c.enter.ensures.caps (c.enter.ensures.shows None []) c.enter.ensures.residents, omega arith, omega arith, c.self.invariant.3 ∙ sym c.enter.ensures.caps)

pub returns-clause-nothing : goal.returns-clause-nothing
returns-clause-nothing c = λ place. ap (λ (h : Held). h.gone) c.self.view_is ∙ c.make_place.ensures.nothing place

pub returns-clause-ident : goal.returns-clause-ident
returns-clause-ident c =
    let issued : length c.self.inside.stores.issued ≡ length c.args.self.now.contents.issued =
    ap (λ (h : Held). length h.contents.issued) c.self.view_is ∙ ap length c.make_place.ensures.issued ∙ length-departed_all c.args.self.now.contents.issued (idents_of c.make_place.new.self.gone) c.args.at in
    c.enter.ensures.ident ∙ ap (λ (n : ℕ). record { kind = kind_of c.args.name; slot = c.enter.result.slot; serial = n }) issued

pub returns-clause-free : goal.returns-clause-free
returns-clause-free c =
    let left = subst (λ (h : Held). residents_of h.contents ≡ without_all (idents_of h.gone) (residents_of c.args.self.now.contents)) (sym c.self.view_is) c.make_place.ensures.residents in
    subst (λ (xs : List Resident). IsTaken xs (kind_of c.args.name) c.enter.result.slot → ⊥) left (lowest_free c.self.inside.stores c.self.invariant.0.whole.one.sound (kind_of c.args.name) c.enter.result.slot c.enter.ensures.lowest).1

pub returns-clause-lowest : goal.returns-clause-lowest
returns-clause-lowest c =
    let left = subst (λ (h : Held). residents_of h.contents ≡ without_all (idents_of h.gone) (residents_of c.args.self.now.contents)) (sym c.self.view_is) c.make_place.ensures.residents in
    subst (λ (xs : List Resident). (slot : ℕ) → slot < c.enter.result.slot → IsTaken xs (kind_of c.args.name) slot) left (lowest_free c.self.inside.stores c.self.invariant.0.whole.one.sound (kind_of c.args.name) c.enter.result.slot c.enter.ensures.lowest).2

pub returns-clause-named : goal.returns-clause-named
returns-clause-named c = subst (λ (h : Held). AreNamed (residents_of c.args.self.now.contents) (idents_of h.gone) h.left) (sym c.self.view_is) c.make_place.ensures.named
