-- That few are kept, and that all that is needed is.
use Rattle.std.proofs.Common.{◌≡◌, ◌≢◌, ℕ, ◌+◌, ◌<◌, ◌≤◌, Bool, true, false, cond, List, [], ◌∷◌, ◌++◌, length, filter, filter_map, get_or, AllPairs, Contains, Option, Some, None, refl, sym, ◌∙◌, ap, subst, inl, inr, arith}
use Rattle.std.specs.Prelude.{if◌then◌else◌}
use Rattle.std.specs.List.{cons_option}
use Rattle.std.proofs.lemmas.Bool.{cases_eq}
use Rattle.std.proofs.lemmas.List.{append-nil, append_assoc, get_or_append_left, get_or_default}
use Rattle.std.proofs.lemmas.List.Elements.{Contains-append_left, Contains-append_right, Contains-get_or, Contains-push_cases}
use Rattle.std.proofs.lemmas.List.Kept.{AllPairs-filter}
use Rattle.std.proofs.lemmas.List.Quantifiers.{all_pairs_push}
use Rattle.std.proofs.lemmas.List.Sums.{length-filter}
use Rattle.board_ops.specs.flat_laws.proofs.Members.{Contains-behind, Contains-cases, Contains-filter, Contains-filter_map, Contains-here, contains_nothing, length-filter_map}
use Rattle.desc_tables.specs.group_laws.proofs.Remaining.{pairs_head, pairs_tail}
use Rattle.cache_ident.specs.declared.idents.Ident.{Ident}
use Rattle.cache_ident.specs.declared.idents.Kind.{Kind}
use Rattle.cache_ident.specs.declared.idents.Kind.TheVariants as kind
use Rattle.cache_ident.specs.declared.names.Name.{Name}
use Rattle.cache_ident.specs.Names.{kind_of}
use Rattle.cache_ident.specs.Residents.{Resident, IsNameResident}
use Rattle.board_ops.specs.flat_state.specs.declared.events.Machine.{Machine}
use Rattle.board_ops.specs.flat_state.specs.Dependence.{all_parents, parents, Depends, DependsFar, directly, further}
use Rattle.board_ops.specs.flat_state.specs.State.{FlatState}
use Rattle.board_ops.specs.flat_state.proofs.Places.{count_by-cons}
use Rattle.board_ops.specs.flat_laws.specs.Counts.{AtMost}
use Rattle.board_ops.specs.flat_laws.proofs.FarParents.{far_is_there, name_is_few}
use Rattle.board_ops.specs.flat_laws.proofs.ShortChains.{AreFew}
use Rattle.desc_tables.specs.run_journal.specs.Legal.{is_kind}
use Rattle.desc_tables.specs.run_journal.proofs.KindLemmas.{kind_is}
use Rattle.desc_tables.specs.resident_pairs.specs.Among.{AreParents}
use Rattle.desc_tables.specs.desc_stores.specs.declared.items.Item.{Item}
use Rattle.desc_tables.specs.desc_stores.specs.Contents.{item_as, residents_of, Contents}
use Rattle.desc_tables.specs.desc_stores.specs.Items.{name_of}
use Rattle.desc_tables.specs.desc_stores.specs.Sound.{IsExactlyOne}
use Rattle.desc_tables.specs.shown_state.specs.Shown.{shown}
use Rattle.desc_tables.specs.shown_state.proofs.DependenceLemmas.{same_parents}
use Rattle.desc_tables.specs.shown_state.proofs.ContentLemmas.{item_has_name}
use Rattle.desc_tables.specs.store_residents.proofs.ContentLemmas.{loaded_item, resident_item, shelved_iff}
use Rattle.desc_tables.specs.store_residents.proofs.ResidentLemmas.{one_each, resident_kind, resident_loaded}
use Rattle.desc_tables.specs.desc_parents.specs.Idents.{ident_of, idents_of}
use Rattle.desc_tables.specs.desc_parents.specs.Seen.{seen}
use Rattle.desc_tables.specs.desc_parents.proofs.IdentLemmas.{ident_found, ident_none}
use Rattle.desc_tables.specs.Keeps.{KeepsParentsAs, KeepsParentsOf}
use Rattle.desc_tables.specs.May.{kept_of, MayBeLoaded, wanted_of}
use Rattle.board_checks.specs.Facts.{IsFormed, IsLoadable}
use Rattle.board_checks.specs.Keeps.{HasAlso, IsAbove, IsKept, IsLoadableBeside, IsOrIsAbove, StartsWith}

-- ---- lists

module _ {X : Type 0} where
  -- a list without an element has one less, and all others
  taken_out : (ys : List X) (x : X) → Contains ys x → (rest : List X) × (length ys ≡ length rest + 1) × ((y : X) → Contains ys y → y ≢ x → Contains rest y)
  taken_out [] x there = absurd (contains_nothing x there)
  taken_out (z ∷ zs) x there = elim (Contains-cases z zs x there) [
    | inl same ↦ (
      zs,
      omega arith,
      λ y in_all other. elim (Contains-cases z zs y in_all) [
        | inl is ↦ absurd (other (sym is ∙ same))
        | inr behind ↦ behind
      ],
    )
    | inr later ↦
        let t = taken_out zs x later in
        let less = t.1 in (
          z ∷ t.0,
          omega arith,
          λ y in_all other. elim (Contains-cases z zs y in_all) [
            | inl is ↦ subst (Contains (z ∷ t.0)) is (Contains-here z t.0)
            | inr behind ↦ Contains-behind z t.0 y (t.2 y behind other)
          ],
        )
  ]

  -- what is in a list, each once, is no more than the list has
  fits_in : (xs ys : List X) → AllPairs ◌≢◌ xs → ((x : X) → Contains xs x → Contains ys x) → length xs ≤ length ys
  fits_in [] ys apart all = omega arith
  fits_in (x ∷ xs) ys apart all =
      let t = taken_out ys x (all x (Contains-here x xs)) in
      let rest = fits_in xs t.0 (pairs_tail (λ (a : X) (b : X). a ≢ b) x xs apart) (λ y there. t.2 y (all y (Contains-behind x xs y there)) (λ same. pairs_head (λ (a : X) (b : X). a ≢ b) x xs apart y there (sym same))) in
      let less = t.1 in
      omega arith

one_more_value : {Y : Type 0} (o : Option Y) (ys : List Y) → length (cons_option o ys) ≤ length ys + 1
one_more_value None ys = omega arith
one_more_value (Some y) ys = omega arith

-- where one of them has no value there are fewer values
values_fewer : {X Y : Type 0} (f : X → Option Y) (xs : List X) (x : X) → Contains xs x → f x ≡ None → length (filter_map f xs) + 1 ≤ length xs
values_fewer f [] x there none = absurd (contains_nothing x there)
values_fewer {X} {Y} f (z ∷ zs) x there none = elim (Contains-cases z zs x there) [
  | inl same ↦
      let gone : length (filter_map f (z ∷ zs)) ≡ length (filter_map f zs) = ap (λ (o : Option Y). length (cons_option o (filter_map f zs))) (ap f same ∙ none) in
      let most = length-filter_map f zs in
      omega arith
  | inr later ↦
      let rest = values_fewer f zs x later none in
      let more = one_more_value (f z) (filter_map f zs) in
      omega arith
]

-- ---- how many are kept

-- the names of a kind are at most so many as are wanted of it
few_by_kind : (names : List Name) → AreFew names → (of : Kind) → AtMost (wanted_of of) of names
few_by_kind names few kind.Kernel = few.kernels
few_by_kind names few kind.Space = few.spaces
few_by_kind names few kind.Thread = few.threads
few_by_kind names few kind.Mapping = few.rows

-- what is kept, by kind
length_by_kind : (keep : List Ident) → length keep ≡ kept_of keep kind.Kernel + kept_of keep kind.Space + kept_of keep kind.Thread + kept_of keep kind.Mapping
length_by_kind [] = refl
length_by_kind (ident ∷ keep) =
    let k : kept_of (ident ∷ keep) kind.Kernel ≡ cond (is_kind ident.kind kind.Kernel) 1 0 + kept_of keep kind.Kernel = count_by-cons (λ (i : Ident). is_kind i.kind kind.Kernel) ident keep in
    let s : kept_of (ident ∷ keep) kind.Space ≡ cond (is_kind ident.kind kind.Space) 1 0 + kept_of keep kind.Space = count_by-cons (λ (i : Ident). is_kind i.kind kind.Space) ident keep in
    let t : kept_of (ident ∷ keep) kind.Thread ≡ cond (is_kind ident.kind kind.Thread) 1 0 + kept_of keep kind.Thread = count_by-cons (λ (i : Ident). is_kind i.kind kind.Thread) ident keep in
    let m : kept_of (ident ∷ keep) kind.Mapping ≡ cond (is_kind ident.kind kind.Mapping) 1 0 + kept_of keep kind.Mapping = count_by-cons (λ (i : Ident). is_kind i.kind kind.Mapping) ident keep in
    let one = by ident.kind in
    let later = length_by_kind keep in
    omega arith
  where
    by : (k : Kind) → cond (is_kind k kind.Kernel) 1 0 + cond (is_kind k kind.Space) 1 0 + cond (is_kind k kind.Thread) 1 0 + cond (is_kind k kind.Mapping) 1 0 ≡ 1
    by kind.Kernel = refl
    by kind.Space = refl
    by kind.Thread = refl
    by kind.Mapping = refl

-- what depends on what is said by the contents alone
far_there : (machine : Option Machine) (memory : List ℕ) (c : Contents) (child parent : Name) → DependsFar (seen c) child parent → DependsFar (shown machine memory c) child parent
far_there machine memory c child parent (directly {parent = p} depends) = directly (subst (λ (names : List Name). Contains names p) (sym (same_parents machine memory c child)) depends)
far_there machine memory c child parent (further {between} {parent = p} far depends) =
    further (far_there machine memory c child between far) (subst (λ (names : List Name). Contains names p) (sym (same_parents machine memory c between)) depends)

module _ (c : Contents) (one : IsExactlyOne c) (formed : IsFormed c) (root : Name) (absent : IsNameResident (residents_of c) root → ⊥) where
  abbrev rs : List Resident
  rs = residents_of c

  abbrev s : FlatState
  s = shown formed.0 formed.1 c

  most : (of : Kind) → AtMost (wanted_of of) of (root ∷ all_parents s root)
  most of = few_by_kind (root ∷ all_parents s root) (name_is_few s formed.2 root) of

  module _ (keep : List Ident) (kept : IsKept c root keep) (of : Kind) where
    abbrev its : List Ident
    its = filter (λ (ident : Ident). is_kind ident.kind of) keep

    -- those of a kind are among the identifiers of what the root depends on
    among_all : (ident : Ident) → Contains its ident → Contains (idents_of rs (most of).among) ident
    among_all ident there =
        let in_keep = Contains-filter (λ (i : Ident). is_kind i.kind of) keep ident there in
        let above = kept.above ident in_keep.0 in
        let of_kind : kind_of above.0.name ≡ of = sym (resident_kind c one.sound above.0 above.1) ∙ ap (λ (i : Ident). i.kind) above.2 ∙ kind_is ident.kind of in_keep.1 in
        let far = far_is_there s formed.2 root above.0.name (far_there formed.0 formed.1 c root above.0.name above.3) in
        let listed = (most of).all above.0.name of_kind (Contains-behind root (all_parents s root) above.0.name far) in
        Contains-filter_map (ident_of rs) (most of).among above.0.name ident listed (ident_found rs (one_each c one) above.0 above.1 ∙ ap (λ (i : Ident). Some i) above.2)

    no_more : kept_of keep of ≤ length (idents_of rs (most of).among)
    no_more =
        let fits = fits_in its (idents_of rs (most of).among) (AllPairs-filter (λ (a : Ident) (b : Ident). a ≢ b) (λ (ident : Ident). is_kind ident.kind of) keep kept.once) among_all in
        let counted = length-filter (λ (ident : Ident). is_kind ident.kind of) keep in
        omega arith

    -- with the root no more are kept than are wanted
    pub few_kept : kept_of keep of + (if is_kind (kind_of root) of then 1 else 0) ≤ wanted_of of
    few_kept = by (is_kind (kind_of root) of) refl
      where
        by : (b : Bool) → is_kind (kind_of root) of ≡ b → kept_of keep of + (if b then 1 else 0) ≤ wanted_of of
        by true same =
            let listed = (most of).all root (kind_is (kind_of root) of same) (Contains-here root (all_parents s root)) in
            let fewer = values_fewer (ident_of rs) (most of).among root listed (ident_none rs root absent) in
            let within = no_more in
            let few = (most of).few in
            omega arith
        by false other =
            let within = no_more in
            let values = length-filter_map (ident_of rs) (most of).among in
            let few = (most of).few in
            omega arith

  -- so there is room for one more
  pub room_for_one : (keep : List Ident) → IsKept c root keep → length keep < 21
  room_for_one keep kept =
      let k = few_kept keep kept kind.Kernel in
      let s = few_kept keep kept kind.Space in
      let t = few_kept keep kept kind.Thread in
      let m = few_kept keep kept kind.Mapping in
      let all = length_by_kind keep in
      let one = by (kind_of root) in
      omega arith
    where
      by : (k : Kind) → cond (is_kind k kind.Kernel) 1 0 + cond (is_kind k kind.Space) 1 0 + cond (is_kind k kind.Thread) 1 0 + cond (is_kind k kind.Mapping) 1 0 ≡ 1
      by kind.Kernel = refl
      by kind.Space = refl
      by kind.Thread = refl
      by kind.Mapping = refl

-- ---- one more

module _ (c : Contents) (root : Name) where
  pub none_kept : (keep : List Ident) → keep ≡ [] → IsKept c root keep
  none_kept keep empty = record {
    above = λ ident there. absurd (contains_nothing ident (subst (λ (k : List Ident). Contains k ident) empty there));
    once = λ i j d lt within. absurd (let none = ap length empty in omega arith);
  }

  -- what a name that is kept, or is the root, depends on, the root depends on
  pub parent_above : (name : Name) → IsOrIsAbove c root name → (idents : List Ident) → AreParents (seen c) (residents_of c) name idents → (ident : Ident) → Contains idents ident → IsAbove c root ident
  parent_above name above idents are ident there =
      let r = are.sound ident there in (
        r.0,
        r.1,
        r.2,
        elim above [
          | inl same ↦ directly (subst (λ (n : Name). Depends (seen c) n r.0.name) (sym same) r.3)
          | inr far ↦ further far r.3
        ],
      )

  pub one_more_kept : (keep : List Ident) (ident : Ident) → IsKept c root keep → IsAbove c root ident → (Contains keep ident → ⊥) → IsKept c root (keep ++ ident ∷ [])
  one_more_kept keep ident kept above fresh = record {
    above = λ other there. elim (Contains-push_cases keep ident other there) [
      | inl before ↦ kept.above other before
      | inr same ↦ subst (IsAbove c root) same above
    ];
    once = all_pairs_push (λ (a : Ident) (b : Ident). a ≢ b) keep ident kept.once (λ k d within same. fresh (subst (Contains keep) same (Contains-get_or keep k d within)));
  }

pub starts_same : (keep : List Ident) → StartsWith keep keep
starts_same keep = ([], sym (append-nil keep))

pub starts_so : (old mid new : List Ident) → StartsWith old mid → StartsWith mid new → StartsWith old new
starts_so old mid new first second = (first.0 ++ second.0, second.1 ∙ ap (λ (k : List Ident). k ++ second.0) first.1 ∙ append_assoc old first.0 second.0)

pub stays_kept : (old new : List Ident) → StartsWith old new → (ident : Ident) → Contains old ident → Contains new ident
stays_kept old new starts ident there = subst (λ (k : List Ident). Contains k ident) (sym starts.1) (Contains-append_left old starts.0 ident there)

-- one was added, if it wasn't there
module _ (old new : List Ident) (ident : Ident) (also : HasAlso old new ident) where
  pub also_starts : StartsWith old new
  also_starts = elim also [
    | inl there ↦ ([], there.1 ∙ sym (append-nil old))
    | inr fresh ↦ (ident ∷ [], fresh.1)
  ]

  pub also_there : Contains new ident
  also_there = elim also [
    | inl there ↦ subst (λ (k : List Ident). Contains k ident) (sym there.1) there.0
    | inr fresh ↦ subst (λ (k : List Ident). Contains k ident) (sym fresh.1) (Contains-append_right old (ident ∷ []) ident (Contains-here ident []))
  ]

  pub also_kept : (c : Contents) (root : Name) → IsKept c root old → IsAbove c root ident → IsKept c root new
  also_kept c root kept above = elim also [
    | inl there ↦ subst (IsKept c root) (sym there.1) kept
    | inr fresh ↦ subst (IsKept c root) (sym fresh.1) (one_more_kept c root old ident kept above fresh.0)
  ]

-- of the parents one more is kept
pub one_parent_more : (parents old new : List Ident) → StartsWith old new → (i : ℕ) (d : Ident) → i < length parents → ((k : ℕ) (e : Ident) → k < i → Contains old (get_or parents k e)) → Contains new (get_or parents i d) → (k : ℕ) (e : Ident) → k < i + 1 → Contains new (get_or parents k e)
one_parent_more parents old new starts i d within before here k e below = elim (cases_eq k i) [
  | inl same ↦ subst (Contains new) (get_or_default parents i d e within ∙ ap (λ (j : ℕ). get_or parents j e) (sym same)) here
  | inr other ↦ stays_kept old new starts (get_or parents k e) (before k e (omega (arith, below, other)))
]

-- in the end all that the name depends on is
pub parents_kept : (c : Contents) (name : Name) (parents keep : List Ident) → AreParents (seen c) (residents_of c) name parents → (i : ℕ) → length parents ≤ i → ((k : ℕ) (e : Ident) → k < i → Contains keep (get_or parents k e)) → KeepsParentsOf c keep name
parents_kept c name parents keep are i all each r there depends =
    let listed = are.complete r there depends in
    subst (Contains keep) listed.2 (each listed.0 r.ident (omega (arith, listed.1, all)))

-- ---- what has all that it depends on kept

module _ (c : Contents) (old new : List Ident) (starts : StartsWith old new) where
  pub parents_stay : (name : Name) → KeepsParentsOf c old name → KeepsParentsOf c new name
  parents_stay name keeps r there depends = stays_kept old new starts r.ident (keeps r there depends)

  pub parents_stay_as : (ident : Ident) → KeepsParentsAs c old ident → KeepsParentsAs c new ident
  parents_stay_as ident keeps r there own = parents_stay r.name (keeps r there own)

  same_at : (k : ℕ) (d : Ident) → k < length old → get_or new k d ≡ get_or old k d
  same_at k d within = ap (λ (keep : List Ident). get_or keep k d) starts.1 ∙ get_or_append_left old starts.0 d k within

  -- one further identifier has
  pub one_further : (at : ℕ) (ident : Ident) → at < length old → ident ≡ get_or old at ident → ((k : ℕ) (d : Ident) → k < at → KeepsParentsAs c old (get_or old k d)) → KeepsParentsAs c new ident → (k : ℕ) (d : Ident) → k < at + 1 → KeepsParentsAs c new (get_or new k d)
  one_further at ident within is before here k d below = elim (cases_eq k at) [
    | inl same ↦
        let found : ident ≡ get_or new k d = is ∙ get_or_default old at ident d within ∙ ap (λ (j : ℕ). get_or old j d) (sym same) ∙ sym (same_at k d (omega (arith, same, within))) in
        subst (KeepsParentsAs c new) found here
    | inr other ↦
        let earlier : k < at = omega (arith, below, other) in
        subst (KeepsParentsAs c new) (sym (same_at k d (omega (arith, earlier, within)))) (parents_stay_as (get_or old k d) (before k d earlier))
  ]

-- once all of them have, the name may be loaded
pub all_kept : (c : Contents) → IsExactlyOne c → IsFormed c → (name : Name) → IsLoadable c name → (keep : List Ident) → IsKept c name keep → KeepsParentsOf c keep name → (at : ℕ) → length keep ≤ at → ((k : ℕ) (d : Ident) → k < at → KeepsParentsAs c keep (get_or keep k d)) → MayBeLoaded c name keep
all_kept c one formed name may keep kept has at all each = record {
  shelved = may.shelved;
  fit = may.fit;
  kept = record {
    has = may.has;
    direct = has;
    closed = λ r parent there kept_so p_there depends. each kept_so.0 r.ident (omega (arith, kept_so.1, all)) r there (sym kept_so.2) parent p_there depends;
    few = few_kept c one formed name ((shelved_iff c one name).0 may.shelved).1 keep kept;
  };
}

-- the same where it is known of each that is kept
pub all_beside : (c : Contents) → IsExactlyOne c → IsFormed c → (name : Name) → IsLoadable c name → (keep : List Ident) → IsKept c name keep → KeepsParentsOf c keep name → ((ident : Ident) → Contains keep ident → KeepsParentsAs c keep ident) → IsLoadableBeside c name keep
all_beside c one formed name may keep kept has closed = record {
  may = all_kept c one formed name may keep kept has (length keep) (omega arith) (λ k d below. closed (get_or keep k d) (Contains-get_or keep k d below));
  only = kept.above;
}

-- ---- what is loaded with an identifier that is kept

module _ (c : Contents) (one : IsExactlyOne c) (ident : Ident) where
  module _ (it : Item) (is : item_as c ident ≡ Some it) where
    pub same_name : (r : Resident) → Contains (residents_of c) r → r.ident ≡ ident → name_of it ≡ r.name
    same_name r there own = item_has_name c r.name it (sym (resident_item c one r there) ∙ ap (item_as c) own ∙ is)

    -- it is above what the others are above
    pub item_above : (root : Name) (keep : List Ident) → IsKept c root keep → Contains keep ident → IsOrIsAbove c root (name_of it)
    item_above root keep kept there = let r = kept.above ident there in inr (subst (λ (n : Name). DependsFar (seen c) root n) (sym (same_name r.0 r.1 r.2)) r.3)

    pub item_keeps : (keep : List Ident) (n : Name) → n ≡ name_of it → KeepsParentsOf c keep n → KeepsParentsAs c keep ident
    item_keeps keep n named keeps r there own = subst (KeepsParentsOf c keep) (named ∙ same_name r there own) keeps

  -- where nothing is loaded with it, nothing is wanted
  pub nothing_keeps : (keep : List Ident) → None ≡ item_as c ident → KeepsParentsAs c keep ident
  nothing_keeps keep none r there own =
      let it = loaded_item c one r.ident r (resident_loaded c r there) in
      let some : None ≡ Some it.0 = none ∙ ap (item_as c) (sym own) ∙ it.1 in
      absurd (cc)
