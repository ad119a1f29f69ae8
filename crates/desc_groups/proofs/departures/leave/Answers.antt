use Rattle.std.proofs.Common.{◌≡◌, Bool, true, cond, List, [], ◌∷◌, ◌++◌, length, Some, slice_get, refl, sym, ◌∙◌, ap, subst, arith}
use Rattle.cache_ident.specs.declared.idents.Cause.{Cause}
use Rattle.cache_ident.specs.declared.idents.Cause.TheVariants.{Dependent}
use Rattle.cache_ident.specs.declared.idents.Ident.{Ident}
use Rattle.cache_ident.specs.declared.names.Caps.{Caps}
use Rattle.cache_ident.specs.Rolls.{is_same}
use Rattle.depend_lists.specs.declared.nodes.Node.{Node}
use Rattle.desc_parents.specs.resident_pairs.specs.Among.{Among}
use Rattle.cache_ident.specs.declared.names.Name.{Name}
use Rattle.desc_parents.specs.desc_stores.specs.Contents.{residents_of}
use Rattle.desc_groups.specs.Moves.{AreNamed}
use Rattle.desc_groups.specs.Whole.{AreWhole}
use Rattle.desc_groups.proofs.LeaveLemmas.{causes_all, gone_before, gone_of, group_all, issued_all, named_all, named_before, next_fits, next_last, next_left, next_live, next_within, places_all, residents_all}
use Rattle.desc_groups.proofs.ShowLemmas.{but_counts_itself}
use Rattle.desc_groups.proofs.departures.leave.Goals as goal
use Rattle.desc_groups.proofs.departures.leave.Goals.{then-eq, else-eq}

pub loop-node-init : goal.loop-node-init
loop-node-init c = (
  record {
    order = refl;
    whole = subst (λ (caps : Caps). AreWhole caps c.args.stores.now c.order_from.new.pairs.pairs) (sym c.order_from.ensures.caps)
        (subst (λ (pairs : List (Ident × Node)). AreWhole c.args.pairs.now.caps c.args.stores.now pairs) (sym c.order_from.ensures.pairs) c.requires.whole);
    within = omega arith;
    residents = refl;
    issued = refl;
    kept = but_counts_itself c.args.stores.now;
    gone_are = c.clear.ensures.items;
    named = subst (λ (names : List Name). AreNamed (residents_of c.args.stores.now) [] names) (sym c.clear-2.ensures.items) tt;
    few = omega arith;
  },
  c.order_from.ensures.caps,
  omega arith,
  omega arith,
)

pub overflow_add-at : goal.overflow_add-at
overflow_add-at c =
    let low = next_within c.requires.whole c.args.root c.requires.live c.order_from.ensures.order c.loop-node.invariant.0 (sym c.at.ensures ∙ c.in-Some.is) in
    let places = places_all c.requires.whole c.args.root c.requires.live c.order_from.ensures.order c.args.at c.requires.places in
    omega arith

pub name_by-name-requires-clause-one : goal.name_by-name-requires-clause-one
name_by-name-requires-clause-one c = c.loop-node.invariant.0.whole.one

pub name_by-name-requires-clause-live : goal.name_by-name-requires-clause-live
name_by-name-requires-clause-live c = next_live c.requires.whole c.args.root c.requires.live c.order_from.ensures.order c.loop-node.invariant.0 (sym c.at.ensures ∙ c.in-Some.is)

pub depart-requires-clause-whole : goal.depart-requires-clause-whole
depart-requires-clause-whole c = c.loop-node.invariant.0.whole

pub depart-requires-clause-live : goal.depart-requires-clause-live
depart-requires-clause-live c = next_live c.requires.whole c.args.root c.requires.live c.order_from.ensures.order c.loop-node.invariant.0 (sym c.at.ensures ∙ c.in-Some.is)

pub depart-requires-clause-last : goal.depart-requires-clause-last
depart-requires-clause-last c = next_last c.requires.whole c.args.root c.requires.live c.order_from.ensures.order c.loop-node.invariant.0 (sym c.at.ensures ∙ c.in-Some.is)

pub overflow_add-place : goal.overflow_add-place
overflow_add-place c =
    let low = next_fits c.requires.whole c.args.root c.requires.live c.order_from.ensures.order c.loop-node.invariant.0 (sym c.at.ensures ∙ c.in-Some.is) in
    omega arith

pub push_reserved-requires : goal.push_reserved-requires
push_reserved-requires c =
    let left = c.loop-node.invariant.0 in
    let at_place : slice_get c.loop-node.pairs.order c.loop-node.place ≡ Some c.in-Some.node = sym c.at.ensures ∙ c.in-Some.is in
    let low = next_fits c.requires.whole c.args.root c.requires.live c.order_from.ensures.order left at_place in
    let count : length c.loop-node.gone.items ≡ c.loop-node.place = gone_before c.requires.whole c.args.root c.requires.live c.order_from.ensures.order left at_place in
    let grown = c.loop-node.invariant.2 in
    omega arith

pub push_reserved-requires-in-Some : goal.push_reserved-requires-in-Some
push_reserved-requires-in-Some c =
    let left = c.loop-node.invariant.0 in
    let at_place : slice_get c.loop-node.pairs.order c.loop-node.place ≡ Some c.in-Some.node = sym c.at.ensures ∙ c.in-Some.is in
    let low = next_fits c.requires.whole c.args.root c.requires.live c.order_from.ensures.order left at_place in
    let count : length c.loop-node.names.items ≡ c.loop-node.place = named_before c.requires.whole c.args.root c.requires.live c.order_from.ensures.order left at_place in
    let grown = c.loop-node.invariant.3 in
    omega arith

pub loop-node-smaller : goal.loop-node-smaller
loop-node-smaller c =
    let low = next_within c.requires.whole c.args.root c.requires.live c.order_from.ensures.order c.loop-node.invariant.0 (sym c.at.ensures ∙ c.in-Some.is) in
    omega arith

pub loop-node-preserved : goal.loop-node-preserved
loop-node-preserved c =
    let left = c.loop-node.invariant.0 in
    let at_place : slice_get c.loop-node.pairs.order c.loop-node.place ≡ Some c.in-Some.node = sym c.at.ensures ∙ c.in-Some.is in
    let low = next_fits c.requires.whole c.args.root c.requires.live c.order_from.ensures.order left at_place in
    let why : c.if-eq.why ≡ cond (is_same c.in-Some.node.ident c.args.root) c.args.cause Dependent = elim c.if-eq.branch [
      | then-eq w ↦ w.why-is ∙ ap (λ (b : Bool). cond b c.args.cause Dependent) (sym w.if-eq.true ∙ c.eq.ensures)
      | else-eq w ↦ w.why-is ∙ ap (λ (b : Bool). cond b c.args.cause Dependent) (sym w.if-eq.false ∙ c.eq.ensures)
    ] in
    let items : c.push_reserved.new.self.items ≡ c.loop-node.gone.items ++ gone_of c.args.root c.args.cause c.in-Some.node ∷ [] =
    c.push_reserved.ensures.items
    ∙ ap (λ (cause : Cause). c.loop-node.gone.items ++ record { ident = c.in-Some.node.ident; cause = cause } ∷ []) why in (
      next_left c.requires.whole c.args.root c.requires.live c.order_from.ensures.order left at_place c.depart.new.stores c.depart.new.pairs c.push_reserved.new.self.items c.push_reserved-in-Some.new.self.items c.name_by-name.result c.depart.ensures.whole (ap (λ (all : Among). all.order) c.depart.ensures.rest)
          c.depart.ensures.residents c.depart.ensures.issued c.depart.ensures.kept items c.name_by-name.ensures c.push_reserved-in-Some.ensures.items,
      ap (λ (all : Among). all.caps) c.depart.ensures.rest ∙ c.loop-node.invariant.1,
      (let kept = c.push_reserved.ensures.capacity in omega arith),
      (let kept = c.push_reserved-in-Some.ensures.capacity in omega arith),
    )

pub returns-clause-caps : goal.returns-clause-caps
returns-clause-caps c = c.loop-node.invariant.1

pub returns-clause-whole : goal.returns-clause-whole
returns-clause-whole c = c.loop-node.invariant.0.whole

pub returns-clause-group : goal.returns-clause-group
returns-clause-group c = group_all c.requires.whole c.args.root c.requires.live c.order_from.ensures.order c.loop-node.invariant.0 (sym c.at.ensures ∙ c.in_default.is)

pub returns-clause-causes : goal.returns-clause-causes
returns-clause-causes c = causes_all c.requires.whole c.args.root c.requires.live c.order_from.ensures.order c.loop-node.invariant.0 (sym c.at.ensures ∙ c.in_default.is)

pub returns-clause-residents : goal.returns-clause-residents
returns-clause-residents c = residents_all c.requires.whole c.args.root c.requires.live c.order_from.ensures.order c.loop-node.invariant.0 (sym c.at.ensures ∙ c.in_default.is)

pub returns-clause-issued : goal.returns-clause-issued
returns-clause-issued c = issued_all c.requires.whole c.args.root c.requires.live c.order_from.ensures.order c.loop-node.invariant.0 (sym c.at.ensures ∙ c.in_default.is)

pub returns-clause-kept : goal.returns-clause-kept
returns-clause-kept c = c.loop-node.invariant.0.kept

pub returns-clause-capacity : goal.returns-clause-capacity
returns-clause-capacity c = c.loop-node.invariant.2

pub returns-clause-named : goal.returns-clause-named
returns-clause-named c = named_all c.requires.whole c.args.root c.requires.live c.order_from.ensures.order c.loop-node.invariant.0 (sym c.at.ensures ∙ c.in_default.is)

pub returns-clause-for_names : goal.returns-clause-for_names
returns-clause-for_names c = c.loop-node.invariant.3
