-- How far a way down a tree has come to where something comes.
use Rattle.std.proofs.Common.{◌≡◌, ℕ, ◌+◌, ◌<◌, ◌≤◌, Bool, true, false, List, ◌∷◌, ◌++◌, AllPairs, count_by, refl, sym, ◌∙◌, ap, subst, arith, length-append}
use Rattle.std.specs.Prelude.{slice_get, Option, None, Some}
use Rattle.std.specs.Option.{option_or}
use Rattle.std.proofs.lemmas.List.Sums.{count_by-le-length}
use Rattle.sorted_list.specs.declared.nodes.Branch.{Branch}
use Rattle.sorted_list.specs.declared.nodes.Node.{Node}
use Rattle.sorted_list.specs.Trees.{Tree, leaf, fork, Stands, items_of}
use Rattle.sorted_list.proofs.CountLemmas.{count_before, count_behind, get_behind, get_upto, given_once, or_none, pairs_before, pairs_behind, Falls}
use Rattle.sorted_list.proofs.TreeLemmas.{counts, opened, opened_count}

module _ {T : Type 0} (nodes : List (Node T)) (p : T → Bool) (root : Branch) (whole : Tree T) where
  -- what is behind the passed ones stands in the branch that is left
  pub record IsCounting (left : Branch) (passed : ℕ) : Type 0 where
    pub tree : Tree T
    pub stands : Stands nodes left tree
    pub few : passed + left.count ≤ root.count
    pub falls : AllPairs (Falls p) (items_of whole) → AllPairs (Falls p) (items_of tree)
    pub counted : AllPairs (Falls p) (items_of whole) → passed + count_by p (items_of tree) ≡ count_by p (items_of whole)

  pub counting_all : Stands nodes root whole → IsCounting root 0
  counting_all stands = record { tree = whole; stands = stands; few = omega arith; falls = λ falls. falls; counted = λ falls. omega arith }

  -- the first item that fails stands in the branch that is left, or else is the one that was met last
  pub record IsNearing (left : Branch) (met : Option T) : Type 0 where
    pub tree : Tree T
    pub stands : Stands nodes left tree
    pub falls : AllPairs (Falls p) (items_of whole) → AllPairs (Falls p) (items_of tree)
    pub first : AllPairs (Falls p) (items_of whole) → option_or (slice_get (items_of tree) (count_by p (items_of tree))) met ≡ slice_get (items_of whole) (count_by p (items_of whole))

  pub nearing_all : Stands nodes root whole → IsNearing root None
  nearing_all stands = record { tree = whole; stands = stands; falls = λ falls. falls; first = λ falls. or_none (slice_get (items_of whole) (count_by p (items_of whole))) }

  module _ (left : Branch) (node : Node T) (some : 0 < left.count) (read : slice_get nodes left.seat ≡ Some node) where
    pub counting_behind : (passed : ℕ) → IsCounting left passed → p node.item ≡ true → IsCounting node.behind (passed + (node.before.count + 1))
    counting_behind passed way passes =
        let o = opened nodes left node way.tree way.stands some read in
        let split = ap items_of o.is in
        let front = counts nodes node.before o.before o.joins.before_it in
        let parts = λ (falls : AllPairs (Falls p) (items_of whole)). subst (AllPairs (Falls p)) split (way.falls falls) in
        record {
          tree = o.behind;
          stands = o.joins.behind_it;
          few = omega (arith, way.few, opened_count nodes left node way.tree way.stands o);
          falls = λ falls. pairs_behind (Falls p) (items_of o.before) node.item (items_of o.behind) (parts falls);
          counted = λ falls. omega (arith, way.counted falls, ap (count_by p) split, count_behind p (items_of o.before) node.item (items_of o.behind) (parts falls) passes, front);
        }

    pub counting_before : (passed : ℕ) → IsCounting left passed → p node.item ≡ false → IsCounting node.before passed
    counting_before passed way fails =
        let o = opened nodes left node way.tree way.stands some read in
        let split = ap items_of o.is in
        let parts = λ (falls : AllPairs (Falls p) (items_of whole)). subst (AllPairs (Falls p)) split (way.falls falls) in
        record {
          tree = o.before;
          stands = o.joins.before_it;
          few = omega (arith, way.few, opened_count nodes left node way.tree way.stands o);
          falls = λ falls. pairs_before (Falls p) (items_of o.before) node.item (items_of o.behind) (parts falls);
          counted = λ falls. omega (arith, way.counted falls, ap (count_by p) split, count_before p (items_of o.before) node.item (items_of o.behind) (parts falls) fails);
        }

    pub nearing_behind : (met : Option T) → IsNearing left met → p node.item ≡ true → IsNearing node.behind met
    nearing_behind met way passes =
        let o = opened nodes left node way.tree way.stands some read in
        let split = ap items_of o.is in
        let parts = λ (falls : AllPairs (Falls p) (items_of whole)). subst (AllPairs (Falls p)) split (way.falls falls) in
        let counted = λ (falls : AllPairs (Falls p) (items_of whole)). ap (count_by p) split ∙ count_behind p (items_of o.before) node.item (items_of o.behind) (parts falls) passes in
        let there = λ (falls : AllPairs (Falls p) (items_of whole)). ap (λ l. slice_get l (count_by p (items_of way.tree))) split ∙ get_behind (items_of o.before) node.item (items_of o.behind) (count_by p (items_of o.behind)) (count_by p (items_of way.tree)) (counted falls) in
        record {
          tree = o.behind;
          stands = o.joins.behind_it;
          falls = λ falls. pairs_behind (Falls p) (items_of o.before) node.item (items_of o.behind) (parts falls);
          first = λ falls. ap (λ found. option_or found met) (sym (there falls)) ∙ way.first falls;
        }

    pub nearing_before : (met : Option T) → IsNearing left met → p node.item ≡ false → IsNearing node.before (Some node.item)
    nearing_before met way fails =
        let o = opened nodes left node way.tree way.stands some read in
        let split = ap items_of o.is in
        let parts = λ (falls : AllPairs (Falls p) (items_of whole)). subst (AllPairs (Falls p)) split (way.falls falls) in
        let within = count_by-le-length p (items_of o.before) in
        let counted = λ (falls : AllPairs (Falls p) (items_of whole)). ap (count_by p) split ∙ count_before p (items_of o.before) node.item (items_of o.behind) (parts falls) fails in
        let there = λ (falls : AllPairs (Falls p) (items_of whole)). ap (λ l. slice_get l (count_by p (items_of way.tree))) split ∙ ap (slice_get (items_of o.before ++ node.item ∷ items_of o.behind)) (counted falls) ∙ get_upto (items_of o.before) node.item (items_of o.behind) (count_by p (items_of o.before)) within in
        record {
          tree = o.before;
          stands = o.joins.before_it;
          falls = λ falls. pairs_before (Falls p) (items_of o.before) node.item (items_of o.behind) (parts falls);
          first = λ falls. sym (given_once (slice_get (items_of o.before) (count_by p (items_of o.before))) node.item met) ∙ ap (λ found. option_or found met) (sym (there falls)) ∙ way.first falls;
        }

  -- at the end nothing is left
  nothing_left : (left : Branch) (tree : Tree T) → Stands nodes left tree → left.count ≡ 0 → items_of tree ≡ items_of {T = T} leaf
  nothing_left left leaf stands none = refl
  nothing_left left (fork own before item behind) stands none = absurd (omega (arith, none, counts nodes left (fork own before item behind) stands, length-append (items_of before) (item ∷ items_of behind)))

  pub all_counted : (left : Branch) (passed : ℕ) → IsCounting left passed → left.count ≡ 0 → AllPairs (Falls p) (items_of whole) → passed ≡ count_by p (items_of whole)
  all_counted left passed way none falls = omega (arith, way.counted falls, ap (count_by p) (nothing_left left way.tree way.stands none))

  pub first_met : (left : Branch) (met : Option T) → IsNearing left met → left.count ≡ 0 → AllPairs (Falls p) (items_of whole) → met ≡ slice_get (items_of whole) (count_by p (items_of whole))
  first_met left met way none falls = ap (λ l. option_or (slice_get l (count_by p l)) met) (sym (nothing_left left way.tree way.stands none)) ∙ way.first falls
