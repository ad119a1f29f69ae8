-- There is a victim, and once it has left with its group the name can come.
use Rattle.std.proofs.Common.{ap, subst, sym, ◌∙◌, arith}
use Rattle.cache_ident.specs.Names.{kind_of}
use Rattle.depend_lists.specs.Pairs.{count_of}
use Rattle.desc_groups.specs.desc_stores.specs.Contents.{residents_of, IsFullOf, IsVictimOf, NoneMayGoOf}
use Rattle.desc_groups.specs.run_journal.specs.Groups.{IsGroup}
use Rattle.desc_groups.specs.store_residents.specs.Victims.{IsOldest}
use Rattle.desc_groups.specs.store_residents.proofs.ResidentLemmas.{live_iff}
use Rattle.desc_groups.specs.store_residents.proofs.VictimLemmas.{victim_resident}
use Rattle.desc_groups.specs.desc_parents.specs.Seen.{seen}
use Rattle.desc_groups.specs.Moves.{idents_of, AreNamed, HasPlaces}
use Rattle.desc_tables.specs.May.{MayBeLoaded}
use Rattle.desc_tables.specs.Calls.{HasPlacesFor}
use Rattle.desc_tables.specs.Tables.{Held}
use Rattle.desc_tables.proofs.Limits.{few_residents, left_sound}
use Rattle.desc_tables.proofs.Victims.{ready_behind, some_may_go}
use Rattle.desc_tables.proofs.tables.Tables.displace.Goals as goal

pub unreachable-requires : goal.unreachable-requires
unreachable-requires c =
    let may = subst (λ (h : Held). MayBeLoaded h.contents c.args.name c.args.keep.now) (sym c.self.view_is) c.requires.may in
    let full = subst (λ (h : Held). IsFullOf h.contents (kind_of c.args.name)) (sym c.self.view_is) c.requires.full in
    some_may_go _ _ c.self.invariant.0 c.args.name c.args.keep.now may full (subst (λ k. NoneMayGoOf c.self.inside.stores k c.args.keep.now) c.kind.ensures c.in_default.ensures.none)

pub leave-requires-clause-room : goal.leave-requires-clause-room
leave-requires-clause-room c =
    let few = few_residents _ _ _ c.self.invariant.0.whole in
    let room = c.self.invariant.1 in
    omega arith

pub leave-requires-clause-for_names : goal.leave-requires-clause-for_names
leave-requires-clause-for_names c =
    let few = few_residents _ _ _ c.self.invariant.0.whole in
    let room = c.self.invariant.2 in
    omega arith

pub invariant_of-self : goal.invariant_of-self
invariant_of-self c =
    let room = c.self.invariant.1 in
    let for_names = c.self.invariant.2 in
    let capacity = c.leave.ensures.capacity in
    let names = c.leave.ensures.for_names in
    let caps = ap count_of c.leave.ensures.caps in
    (left_sound _ _ _ _ (idents_of c.leave.new.gone.items) c.self.invariant.0 c.leave.ensures.whole c.leave.ensures.caps c.leave.ensures.residents c.leave.ensures.kept, omega arith, omega arith, c.self.invariant.3 ∙ sym c.leave.ensures.caps)

pub returns-clause-victim : goal.returns-clause-victim
returns-clause-victim c =
    let is = subst (λ k. IsVictimOf c.self.inside.stores k c.args.keep.now c.in-Some.victim) c.kind.ensures c.in-Some.ensures.victim in
    let victim = victim_resident c.self.inside.stores c.args.keep.now c.self.invariant.0.whole.one.sound (kind_of c.args.name) c.in-Some.victim is in (
      victim.0,
      subst (λ (h : Held). IsOldest (residents_of h.contents) (kind_of c.args.name) c.args.keep.now victim.0) c.self.view_is victim.2,
      subst (λ (h : Held). IsGroup (seen h.contents) (residents_of h.contents) victim.0 (idents_of c.leave.new.gone.items)) c.self.view_is (c.leave.ensures.group victim.0 victim.2.there victim.1),
    )

pub returns-clause-ready : goal.returns-clause-ready
returns-clause-ready c =
    let may = subst (λ (h : Held). MayBeLoaded h.contents c.args.name c.args.keep.now) (sym c.self.view_is) c.requires.may in
    let is = subst (λ k. IsVictimOf c.self.inside.stores k c.args.keep.now c.in-Some.victim) c.kind.ensures c.in-Some.ensures.victim in
    let victim = victim_resident c.self.inside.stores c.args.keep.now c.self.invariant.0.whole.one.sound (kind_of c.args.name) c.in-Some.victim is in
    let new : Held = record { caps = c.leave.new.pairs.caps; contents = c.leave.new.stores; gone = c.leave.new.gone.items; left = c.leave.new.names.items } in
    ready_behind _ _ c.self.invariant.0 c.args.name c.args.keep.now may new c.leave.new.pairs.pairs victim.0 (idents_of c.leave.new.gone.items) victim.2 (c.leave.ensures.group victim.0 victim.2.there victim.1) c.leave.ensures.whole c.leave.ensures.caps c.leave.ensures.residents c.leave.ensures.kept

pub leave-requires-clause-live : goal.leave-requires-clause-live
leave-requires-clause-live c =
    let is = subst (λ k. IsVictimOf c.self.inside.stores k c.args.keep.now c.in-Some.victim) c.kind.ensures c.in-Some.ensures.victim in
    let victim = victim_resident c.self.inside.stores c.args.keep.now c.self.invariant.0.whole.one.sound (kind_of c.args.name) c.in-Some.victim is in
    (live_iff c.self.inside.stores c.self.invariant.0.whole.one.sound c.in-Some.victim).1 (victim.0, victim.2.there, victim.1)

pub leave-requires-clause-places : goal.leave-requires-clause-places
leave-requires-clause-places c =
    let places = subst (λ (h : Held). HasPlacesFor h.contents c.args.name c.args.keep.now c.args.at) (sym c.self.view_is) c.requires.places in
    let full = subst (λ (h : Held). IsFullOf h.contents (kind_of c.args.name)) (sym c.self.view_is) c.requires.full in
    let is = subst (λ k. IsVictimOf c.self.inside.stores k c.args.keep.now c.in-Some.victim) c.kind.ensures c.in-Some.ensures.victim in
    let victim = victim_resident c.self.inside.stores c.args.keep.now c.self.invariant.0.whole.one.sound (kind_of c.args.name) c.in-Some.victim is in
    subst (λ i. HasPlaces c.self.inside.stores i c.args.at) victim.1 (places full victim.0 victim.2)

pub returns-clause-named : goal.returns-clause-named
returns-clause-named c = subst (λ (h : Held). AreNamed (residents_of h.contents) (idents_of c.leave.new.gone.items) c.leave.new.names.items) c.self.view_is c.leave.ensures.named
