-- A slot that is free needs no victim.
use Rattle.std.proofs.Common.{List, [], subst, sym}
use Rattle.cache_ident.specs.declared.names.Name.{Name}
use Rattle.cache_ident.specs.Names.{kind_of}
use Rattle.desc_groups.specs.desc_stores.specs.Contents.{residents_of, IsLowestFreeOf}
use Rattle.desc_groups.specs.declared.departures.Gone.{Gone}
use Rattle.desc_groups.specs.Moves.{idents_of, AreNamed}
use Rattle.desc_tables.specs.May.{MayBeLoaded}
use Rattle.desc_tables.specs.Tables.{Held}
use Rattle.desc_tables.proofs.Victims.{not_full, ready_now}
use Rattle.desc_tables.proofs.tables.Tables.make_place.Goals as goal

pub returns-in-Some-clause-ready : goal.returns-in-Some-clause-ready
returns-in-Some-clause-ready c =
    let may = subst (λ (h : Held). MayBeLoaded h.contents c.args.name c.args.keep.now) (sym c.self.view_is) c.requires.may in
    let free = subst (λ k. IsLowestFreeOf c.self.inside.stores k c.in-Some.field-0) c.kind.ensures c.in-Some.ensures.lowest in
    ready_now _ _ c.self.invariant.0 c.args.name c.args.keep.now may (not_full c.self.inside.stores (kind_of c.args.name) c.in-Some.field-0 free)

pub returns-in-Some-clause-named : goal.returns-in-Some-clause-named
returns-in-Some-clause-named c =
    let rs = residents_of c.args.self.now.contents in
    subst (λ (gone : List Gone). AreNamed rs (idents_of gone) c.clear-in-Some.new.self.items) (sym c.clear.ensures.items) (subst (λ (left : List Name). AreNamed rs [] left) (sym c.clear-in-Some.ensures.items) tt)
