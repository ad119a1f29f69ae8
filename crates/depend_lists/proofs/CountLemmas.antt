-- How many pairs there can be.
use Rattle.std.proofs.Common.{◌≡◌, ℕ, ◌*◌, ◌≤◌, true, cond, not, List, [], ◌∷◌, ◌++◌, length, filter, count_by, Contains, sym, ◌∙◌, ap, inl, inr, refl, arith}
use Rattle.std.proofs.Math.Nat.{mul-suc}
use Rattle.std.proofs.lemmas.Bool.{false≢true}
use Rattle.std.proofs.lemmas.List.{length-append}
use Rattle.std.proofs.lemmas.List.Elements.{Contains-append_left, Contains-append_right}
use Rattle.std.proofs.lemmas.List.Filters.{length-filter_both, sum_by-filter_both}
use Rattle.std.proofs.lemmas.List.Sums.{length-filter}
use Rattle.cache_ident.specs.declared.idents.Ident.{Ident}
use Rattle.cache_ident.specs.declared.idents.Kind.{Kind}
use Rattle.cache_ident.specs.declared.idents.Kind.TheVariants as kind
use Rattle.cache_ident.specs.declared.names.Caps.{Caps}
use Rattle.cache_ident.specs.Rolls.{is_same}
use Rattle.cache_ident.proofs.RollLemmas.{is_same-refl}
use Rattle.depend_lists.specs.declared.nodes.Node.{Node}
use Rattle.depend_lists.specs.declared.nodes.TheConstants.{MOST_PARENTS}
use Rattle.depend_lists.specs.Pairs.{count_of, parent_count, IsWithin}
use Rattle.sorted_list.proofs.ListLemmas.{Contains-cons_cases, Contains-first, Contains-from_filter}

module _ {X : Type 0} (key : X → Ident) (most : ℕ) where
  none : (xs : List X) → ((x : X) → Contains xs x → ⊥) → length xs ≡ 0
  none [] nothing = refl
  none (x ∷ xs) nothing = absurd (nothing x (Contains-first xs x))

  -- items whose keys are in a list, none in more than so many: no more than so many for each
  pub few_by_key : (idents : List Ident) (xs : List X) → ((x : X) → Contains xs x → Contains idents (key x)) → ((i : Ident) → count_by (λ x. is_same (key x) i) xs ≤ most) → length xs ≤ most * length idents
  few_by_key [] xs among few = omega (arith, none xs (λ x there. absurd (omega (arith, (among x there).1))))
  few_by_key (i ∷ idents) xs among few =
      let here = λ (x : X). is_same (key x) i in
      let others = filter (λ x. not (here x)) xs in
      let rest = few_by_key idents others others_among (λ j. omega (arith, few j, sum_by-filter_both here (λ x. not (here x)) (λ _. refl) (λ x. cond (is_same (key x) j) 1 0) xs)) in
      rw mul-suc (omega (arith, rest, few i, length-filter here xs, length-filter_both here (λ x. not (here x)) (λ _. refl) xs))
    where
      other : (x : X) → key x ≡ i → not (is_same (key x) i) ≡ true → ⊥
      other x same passes = false≢true (sym (ap not (ap (λ k. is_same k i) same ∙ is_same-refl i)) ∙ passes)

      others_among : (x : X) → Contains (filter (λ x. not (is_same (key x) i)) xs) x → Contains idents (key x)
      others_among x there =
          let was = Contains-from_filter (λ x. not (is_same (key x) i)) xs x there in
          elim (Contains-cons_cases idents i (key x) (among x was.0)) [
            | inl same ↦ absurd (other x same was.1)
            | inr later ↦ later
          ]

-- a list of all children, no longer than the capacities
abbrev pub Covers : Caps → List (Ident × Node) → List Ident → Type 0
Covers caps pairs idents = (length idents ≤ count_of caps) × ((pair : Ident × Node) → Contains pairs pair → Contains idents pair.1.ident)

pub all_children : (caps : Caps) (pairs : List (Ident × Node)) → IsWithin caps pairs → (idents : List Ident) × Covers caps pairs idents
all_children caps pairs within =
    let kernels = within kind.Kernel in
    let spaces = within kind.Space in
    let threads = within kind.Thread in
    let mappings = within kind.Mapping in
    let first = kernels.0 ++ spaces.0 in
    let last = threads.0 ++ mappings.0 in
    (first ++ last, (omega (arith, kernels.1, spaces.1, threads.1, mappings.1, length-append first last, length-append kernels.0 spaces.0, length-append threads.0 mappings.0), λ pair there. by_kind pair there pair.1.ident.kind refl))
  where
    in_first : (pair : Ident × Node) → Contains ((within kind.Kernel).0 ++ (within kind.Space).0) pair.1.ident → Contains (((within kind.Kernel).0 ++ (within kind.Space).0) ++ ((within kind.Thread).0 ++ (within kind.Mapping).0)) pair.1.ident
    in_first pair there = Contains-append_left ((within kind.Kernel).0 ++ (within kind.Space).0) ((within kind.Thread).0 ++ (within kind.Mapping).0) pair.1.ident there

    in_last : (pair : Ident × Node) → Contains ((within kind.Thread).0 ++ (within kind.Mapping).0) pair.1.ident → Contains (((within kind.Kernel).0 ++ (within kind.Space).0) ++ ((within kind.Thread).0 ++ (within kind.Mapping).0)) pair.1.ident
    in_last pair there = Contains-append_right ((within kind.Kernel).0 ++ (within kind.Space).0) ((within kind.Thread).0 ++ (within kind.Mapping).0) pair.1.ident there

    by_kind : (pair : Ident × Node) → Contains pairs pair → (of : Kind) → pair.1.ident.kind ≡ of → Contains (((within kind.Kernel).0 ++ (within kind.Space).0) ++ ((within kind.Thread).0 ++ (within kind.Mapping).0)) pair.1.ident
    by_kind pair there kind.Kernel is = in_first pair (Contains-append_left (within kind.Kernel).0 (within kind.Space).0 pair.1.ident ((within kind.Kernel).2 pair there is))
    by_kind pair there kind.Space is = in_first pair (Contains-append_right (within kind.Kernel).0 (within kind.Space).0 pair.1.ident ((within kind.Space).2 pair there is))
    by_kind pair there kind.Thread is = in_last pair (Contains-append_left (within kind.Thread).0 (within kind.Mapping).0 pair.1.ident ((within kind.Thread).2 pair there is))
    by_kind pair there kind.Mapping is = in_last pair (Contains-append_right (within kind.Thread).0 (within kind.Mapping).0 pair.1.ident ((within kind.Mapping).2 pair there is))

-- the pairs are at most so many for each descriptor that the capacities allow
pub few_pairs : (caps : Caps) (pairs : List (Ident × Node)) → IsWithin caps pairs → ((child : Ident) → parent_count pairs child ≤ MOST_PARENTS) → length pairs ≤ MOST_PARENTS * count_of caps
few_pairs caps pairs within few =
    let all = all_children caps pairs within in
    omega (arith, all.1.0, few_by_key (λ pair. pair.1.ident) MOST_PARENTS all.0 pairs all.1.1 few)
