-- What of a chain fits into few places, and has all that it depends on.
use Rattle.std.proofs.Common.{◌≡◌, ℕ, zero, suc, ◌+◌, ◌<◌, ◌≤◌, false, List, [], ◌∷◌, ◌++◌, length, filter, get_or, Contains, Option, Some, None, slice_get, refl, sym, ◌∙◌, ap, subst, inl, inr, arith, length-append}
use Rattle.std.specs.List.{flat_map}
use Rattle.std.proofs.lemmas.Bool.{cases_eq}
use Rattle.std.proofs.lemmas.List.{append-nil, append_assoc, get_or_append_left, get_or_default}
use Rattle.std.proofs.lemmas.List.Elements.{Contains-append_cases, Contains-append_left, Contains-append_right, Contains-push_cases}
use Rattle.std.proofs.lemmas.List.Sums.{length-filter}
use Rattle.cached_machine.specs.flat_laws.proofs.Members.{Contains-filter, Contains-from_flat_map, contains_nothing}
use Rattle.cache_ident.specs.declared.idents.Kind.{Kind}
use Rattle.cache_ident.specs.declared.idents.Kind.TheVariants as kind
use Rattle.cache_ident.specs.declared.names.Name.{Name}
use Rattle.cache_ident.specs.Names.{kind_of}
use Rattle.flat_state.specs.declared.records.FlatThread.{FlatThread}
use Rattle.flat_state.specs.Dependence.{parents, up}
use Rattle.flat_state.specs.State.{FlatState}
use Rattle.flat_state.specs.WellFormed.{IsWellFormed}
use Rattle.cached_machine.specs.flat_laws.specs.Counts.{AtMost}
use Rattle.cached_machine.specs.flat_laws.proofs.ShortChains.{AreFew}
use Rattle.cached_machine.specs.flat_laws.proofs.StepChains.{chain_is_few}
use Rattle.cached_machine.specs.flat_laws.proofs.WholeChains.{chain_is_whole}
use Rattle.cached_machine.specs.run_journal.specs.Legal.{is_kind}
use Rattle.cached_machine.specs.run_journal.proofs.KindLemmas.{kind_is}
use Rattle.cached_machine.specs.desc_tables.specs.May.{wanted_of}
use Rattle.board_chains.specs.Chains.{chain_at, chain_found, HasParents, HoldsAllParents, IsFewByKind, IsPart, StartsWith}
use Rattle.board_chains.specs.Lists.{has, with_also, AreAllOnce}
use Rattle.board_chains.proofs.ListLemmas.{also_apart, also_cases, apart_filter, apart_push, fits_in, has_not}

-- ---- names that begin with others

pub starts_same : (names : List Name) → StartsWith names names
starts_same names = ([], sym (append-nil names))

pub starts_so : (old mid new : List Name) → StartsWith old mid → StartsWith mid new → StartsWith old new
starts_so old mid new first second = (first.0 ++ second.0, second.1 ∙ ap (λ (k : List Name). k ++ second.0) first.1 ∙ append_assoc old first.0 second.0)

pub still_there : (old new : List Name) → StartsWith old new → (name : Name) → Contains old name → Contains new name
still_there old new starts name there = subst (λ (k : List Name). Contains k name) (sym starts.1) (Contains-append_left old starts.0 name there)

pub same_at : (old new : List Name) → StartsWith old new → (k : ℕ) (d : Name) → k < length old → get_or new k d ≡ get_or old k d
same_at old new starts k d within = ap (λ (names : List Name). get_or names k d) starts.1 ∙ get_or_append_left old starts.0 d k within

-- ---- how many there are

no_names : AreFew []
no_names = record {
  kernels = record { among = []; few = omega arith; all = λ name of there. there };
  spaces = record { among = []; few = omega arith; all = λ name of there. there };
  threads = record { among = []; few = omega arith; all = λ name of there. there };
  rows = record { among = []; few = omega arith; all = λ name of there. there };
}

module _ (names all : List Name) (apart : AreAllOnce names) (within : (name : Name) → Contains names name → Contains all name) (few : AreFew all) where
  most : (of : Kind) → AtMost (wanted_of of) of all
  most kind.Kernel = few.kernels
  most kind.Space = few.spaces
  most kind.Thread = few.threads
  most kind.Mapping = few.rows

  pub few_of_kind : IsFewByKind names
  few_of_kind of =
      let p = λ (name : Name). is_kind (kind_of name) of in
      let fits = fits_in (filter p names) (most of).among (apart_filter p names apart) (λ name there.
      let kept = Contains-filter p names name there in
      (most of).all name (kind_is (kind_of name) of kept.1) (within name kept.0)) in
      let counted = length-filter p names in
      let most_so = (most of).few in
      omega arith

  abbrev among : List Name
  among = few.kernels.among ++ (few.spaces.among ++ (few.threads.among ++ few.rows.among))

  in_among : (name : Name) (of : Kind) → kind_of name ≡ of → Contains all name → Contains among name
  in_among name kind.Kernel is there = Contains-append_left few.kernels.among _ name (few.kernels.all name is there)
  in_among name kind.Space is there = Contains-append_right few.kernels.among _ name (Contains-append_left few.spaces.among _ name (few.spaces.all name is there))
  in_among name kind.Thread is there = Contains-append_right few.kernels.among _ name (Contains-append_right few.spaces.among _ name (Contains-append_left few.threads.among _ name (few.threads.all name is there)))
  in_among name kind.Mapping is there = Contains-append_right few.kernels.among _ name (Contains-append_right few.spaces.among _ name (Contains-append_right few.threads.among few.rows.among name (few.rows.all name is there)))

  pub at_most_21 : length names ≤ 21
  at_most_21 =
      let fits = fits_in names among apart (λ name there. in_among name (kind_of name) refl (within name there)) in
      let k = few.kernels.few in
      let s = few.spaces.few in
      let t = few.threads.few in
      let m = few.rows.few in
      let a = length-append few.kernels.among (few.spaces.among ++ (few.threads.among ++ few.rows.among)) in
      let b = length-append few.spaces.among (few.threads.among ++ few.rows.among) in
      let c = length-append few.threads.among few.rows.among in
      omega arith

module _ (s : FlatState) (formed : IsWellFormed s) (n : ℕ) where
  -- the chain has with each descriptor all that it depends on
  pub closed_at : HoldsAllParents s (chain_at s n)
  closed_at = by (slice_get s.threads n)
    where
      by : (o : Option FlatThread) → HoldsAllParents s (chain_found s o)
      by None name there parent depends = absurd (contains_nothing name there)
      by (Some t) name there parent depends = chain_is_whole s formed t name parent there depends

  -- and is short
  pub few_at : AreFew (chain_at s n)
  few_at = by (slice_get s.threads n) refl
    where
      by : (o : Option FlatThread) → slice_get s.threads n ≡ o → AreFew (chain_found s o)
      by None is = no_names
      by (Some t) is = chain_is_few s formed n t is

  pub part_is_few : (names : List Name) → IsPart s n names → length names ≤ 21
  part_is_few names part = at_most_21 names (chain_at s n) part.apart part.among few_at

  -- one more of the chain, if it isn't there
  pub part_grows : (names : List Name) (name : Name) → IsPart s n names → Contains (chain_at s n) name → IsPart s n (with_also names name)
  part_grows names name part its = record {
    apart = also_apart names name part.apart;
    among = λ other there. elim (also_cases names name other there) [
      | inl before ↦ part.among other before
      | inr same ↦ subst (Contains (chain_at s n)) same its
    ];
  }

  -- .. has room
  pub room_for : (names : List Name) (name : Name) → IsPart s n names → Contains (chain_at s n) name → has names name ≡ false → length names < 21
  room_for names name part its absent =
      let fresh = has_not names name absent in
      let pushed : IsPart s n (names ++ name ∷ []) = record {
        apart = apart_push names name part.apart fresh;
        among = λ other there. elim (Contains-push_cases names name other there) [
          | inl before ↦ part.among other before
          | inr same ↦ subst (Contains (chain_at s n)) same its
        ];
      } in
      let few = part_is_few (names ++ name ∷ []) pushed in
      let longer = length-append names (name ∷ []) in
      omega arith

-- ---- steps of loops

-- one parent more is there
pub one_parent_more : (above old new : List Name) → StartsWith old new → (i : ℕ) (d : Name) → i < length above → ((k : ℕ) (e : Name) → k < i → Contains old (get_or above k e)) → Contains new (get_or above i d) → (k : ℕ) (e : Name) → k < i + 1 → Contains new (get_or above k e)
one_parent_more above old new starts i d within before here k e below = elim (cases_eq k i) [
  | inl same ↦ subst (Contains new) (get_or_default above i d e within ∙ ap (λ (j : ℕ). get_or above j e) (sym same)) here
  | inr other ↦ still_there old new starts (get_or above k e) (before k e (omega (arith, below, other)))
]

-- in the end all are
pub all_parents_there : (s : FlatState) (name : Name) (above names : List Name) → above ≡ parents s name → (i : ℕ) → length above ≤ i → ((k : ℕ) (e : Name) → k < i → Contains names (get_or above k e)) → HasParents s names name
all_parents_there s name above names is i all each parent depends =
    let listed = subst (λ (xs : List Name). Contains xs parent) (sym is) depends in
    subst (Contains names) listed.2 (each listed.0 parent (omega (arith, listed.1, all)))

module _ (s : FlatState) (old new : List Name) (starts : StartsWith old new) where
  -- of one name more all that it depends on is there
  pub one_further : (at : ℕ) (name : Name) → at < length old → name ≡ get_or old at name → ((k : ℕ) (d : Name) → k < at → HasParents s old (get_or old k d)) → HasParents s new name → (k : ℕ) (d : Name) → k < at + 1 → HasParents s new (get_or new k d)
  one_further at name within is before here k d below = elim (cases_eq k at) [
    | inl same ↦
        let found : name ≡ get_or new k d = is ∙ get_or_default old at name d within ∙ ap (λ (j : ℕ). get_or old j d) (sym same) ∙ sym (same_at old new starts k d (omega (arith, same, within))) in
        subst (HasParents s new) found here
    | inr other ↦
        let earlier : k < at = omega (arith, below, other) in
        subst (HasParents s new) (sym (same_at old new starts k d (omega (arith, earlier, within)))) (λ parent depends. still_there old new starts parent (before k d earlier parent depends))
  ]

pub all_closed : (s : FlatState) (names : List Name) (at : ℕ) → length names ≤ at → ((k : ℕ) (d : Name) → k < at → HasParents s names (get_or names k d)) → HoldsAllParents s names
all_closed s names at all each name there = subst (HasParents s names) there.2 (each there.0 name (omega (arith, there.1, all)))

-- what has the roots, and with each name all that it depends on, has all that is reached
pub up_within : (s : FlatState) (names : List Name) → HoldsAllParents s names → (steps : ℕ) (roots : List Name) → ((name : Name) → Contains roots name → Contains names name) → (name : Name) → Contains (up steps s roots) name → Contains names name
up_within s names closed zero roots all name there = all name there
up_within s names closed (suc steps) roots all name there = elim (Contains-append_cases roots (up steps s (flat_map (parents s) roots)) name there) [
  | inl first ↦ all name first
  | inr later ↦ up_within s names closed steps (flat_map (parents s) roots) (λ x above. let child = Contains-from_flat_map (parents s) roots x above in closed child.0 (all child.0 child.1) x child.2) name later
]
