-- The chain of a ready thread's step is what is collected, in order.
use Rattle.std.proofs.Common.{◌≡◌, ◌↔◌, ℕ, zero, suc, ◌<◌, ◌≤◌, Bool, true, false, not, List, [], ◌∷◌, ◌++◌, length, map, take, Contains, Option, Some, None, slice_get, refl, sym, ◌∙◌, ap, subst, ◌⊎◌, inl, inr, arith}
use Rattle.std.specs.Prelude.{◌&&◌, ◌||◌, is_some, option_to_list}
use Rattle.std.specs.List.{flat_map}
use Rattle.std.specs.Option.{option_map}
use Rattle.std.proofs.lemmas.Bool.{cases_Bool, false≢true}
use Rattle.std.proofs.lemmas.List.{append_assoc}
use Rattle.std.proofs.Math.Seq.{take-append_seam}
use Rattle.std.proofs.lemmas.List.Elements.{Contains-append_cases, Contains-append_left, Contains-append_right, Contains-push_cases}
use Rattle.std.proofs.lemmas.Option.{same_Some}
use Rattle.cached_machine.specs.flat_laws.proofs.Members.{Contains-behind, Contains-cases, Contains-filter, Contains-from_flat_map, Contains-here, contains_nothing}
use Rattle.cache_ident.specs.declared.names.Name.{Name}
use Rattle.cache_ident.specs.declared.names.Name.TheVariants.{Kernel, Space, Thread, Mapping}
use Rattle.cache_ident.specs.declared.names.SpaceNo.{SpaceNo}
use Rattle.cache_ident.specs.declared.names.ThreadNo.{ThreadNo}
use Rattle.cache_ident.proofs.Numbers.{same_thread}
use Rattle.phys_groups.specs.declared.rows.Flags.{Flags}
use Rattle.phys_groups.specs.declared.rows.Row.{Row}
use Rattle.phys_groups.specs.Rows.{row_name}
use Rattle.phys_groups.specs.Translation.{allows_fetch, is_fit, translated}
use Rattle.flat_state.specs.rv32_exec.specs.declared.statuses.Status.{Status}
use Rattle.flat_state.specs.rv32_exec.specs.declared.statuses.Status.TheVariants.{Ready}
use Rattle.flat_state.specs.rv32_exec.specs.declared.actions.Action.{Action}
use Rattle.flat_state.specs.declared.records.DataAccess.{DataAccess}
use Rattle.flat_state.specs.declared.records.FlatThread.{FlatThread}
use Rattle.flat_state.specs.declared.records.NextStep.{NextStep}
use Rattle.flat_state.specs.Dependence.{parents, up, Depends}
use Rattle.flat_state.specs.Names.{is_fit_name, stands}
use Rattle.flat_state.specs.NextSteps.{chain, data_access, data_row, fetch_row, next_step, next_step_if, next_step_of, row_of_access, row_of_action}
use Rattle.flat_state.specs.Pages.{pages_of}
use Rattle.flat_state.specs.Signals.{next_action}
use Rattle.flat_state.specs.State.{FlatState, is_ready}
use Rattle.flat_state.specs.Translation.{rights_of, row_through, wants}
use Rattle.flat_state.specs.WellFormed.{IsWellFormed}
use Rattle.flat_state.proofs.Found.{found-fit}
use Rattle.flat_state.proofs.Places.{Contains-from_get}
use Rattle.cached_machine.specs.flat_laws.proofs.ShortChains.{goes_through}
use Rattle.cached_machine.specs.flat_laws.proofs.WholeChains.{first_in_up}
use Rattle.board_chains.specs.Chains.{chain_at, chain_found, row_parents, rows_in_order, AreParentsFirst, IsChainInOrder, HoldsAllParents, IsFewByKind, IsPart, MayBeChained, StartsWith}
use Rattle.board_chains.specs.Lists.{with_also, with_any, AreAllOnce}
use Rattle.board_chains.specs.Ranks.{is_row, rank_of, AreInOrder}
use Rattle.board_chains.proofs.ListLemmas.{also_apart, also_cases, also_stays, also_there, apart_append, apart_push}
use Rattle.board_chains.proofs.RankLemmas.{order_apart}
use Rattle.board_chains.proofs.ChainLemmas.{at_most_21, closed_at, few_at, few_of_kind, still_there, up_within}
use Rattle.board_chains.proofs.RowLemmas.{earlier, none_above, none_also, none_append, none_numbered, none_of_rows, parent_is_good, passes, rank_falls, row_above, row_is_good, row_parents_apart, IsFitRow, IsPlainRow, IsRowThere, NoneLater}

-- a row with x has no m
no_m_with_x : (m w x receives : Bool) → ((not m || (w && (not x && not receives))) && (not receives || not x)) ≡ true → x ≡ true → m ≡ false
no_m_with_x m w false receives agrees is = absurd (cc)
no_m_with_x false w true receives agrees is = refl
no_m_with_x true false true receives agrees is = absurd (cc)
no_m_with_x true true true receives agrees is = absurd (cc)

pub any_stays : (names : List Name) (o : Option Name) (name : Name) → Contains names name → Contains (with_any names o) name
any_stays names None name there = there
any_stays names (Some x) name there = also_stays names x name there

pub any_there : (names : List Name) (o : Option Name) (name : Name) → o ≡ Some name → Contains (with_any names o) name
any_there names None name is = absurd (cc)
any_there names (Some x) name is = subst (λ (y : Name). Contains (with_also names y) name) (sym (same_Some x name is)) (also_there names name)

any_cases : (names : List Name) (o : Option Name) (name : Name) → Contains (with_any names o) name → Contains names name ⊎ (o ≡ Some name)
any_cases names None name there = inl there
any_cases names (Some x) name there = elim (also_cases names x name there) [
  | inl before ↦ inl before
  | inr same ↦ inr (ap (λ (y : Name). Some y) same)
]

any_apart : (names : List Name) (o : Option Name) → AreAllOnce names → AreAllOnce (with_any names o)
any_apart names None apart = apart
any_apart names (Some x) apart = also_apart names x apart

from_option : (o : Option Row) (name : Name) → Contains (map row_name (option_to_list o)) name → option_map row_name o ≡ Some name
from_option None name there = absurd (contains_nothing name there)
from_option (Some row) name there = elim (Contains-cases (row_name row) [] name there) [
  | inl same ↦ ap (λ (y : Name). Some y) same
  | inr nothing ↦ absurd (contains_nothing name nothing)
]

to_option : (o : Option Row) (name : Name) → option_map row_name o ≡ Some name → Contains (map row_name (option_to_list o)) name
to_option None name is = absurd (cc)
to_option (Some row) name is = subst (Contains (row_name row ∷ [])) (same_Some (row_name row) name is) (Contains-here (row_name row) [])

row_named : (o : Option Row) (name : Name) → option_map row_name o ≡ Some name → (row : Row) × (o ≡ Some row) × (row_name row ≡ name)
row_named None name is = absurd (cc)
row_named (Some row) name is = (row, refl, same_Some (row_name row) name is)

rank_of_other : (name : Name) → is_row name ≡ false → rank_of name < 3
rank_of_other (Kernel kernel) is = omega arith
rank_of_other (Space space) is = omega arith
rank_of_other (Thread thread) is = omega arith
rank_of_other (Mapping space vpn) is = absurd (cc)

rank_of_row : (name : Name) → is_row name ≡ true → rank_of name ≡ 3
rank_of_row (Kernel kernel) is = absurd (cc)
rank_of_row (Space space) is = absurd (cc)
rank_of_row (Thread thread) is = absurd (cc)
rank_of_row (Mapping space vpn) is = refl

module _ (s : FlatState) (formed : IsWellFormed s) (t : FlatThread) where
  -- an access goes through a fit row that is there
  through_there : (allows : Flags → Bool) (va : ℕ) (row : Row) → row_through (translated (rights_of s t.space) s.rows allows t.space va) ≡ Some row → IsFitRow s row
  through_there allows va row e =
      let is = goes_through (rights_of s t.space) s.rows allows t.space va row e in
      let fits = found-fit (rights_of s t.space) s.rows allows t.space va row e in
      record { there = is.there; fit = ap (λ (x : SpaceNo). is_fit (rights_of s x) row) is.in_space ∙ fits }

  fetched : (row : Row) → fetch_row s t ≡ Some row → IsFitRow s row × (row.flags.m ≡ false)
  fetched row e =
      let it = through_there allows_fetch t.context.pc row e in
      let goes = goes_through (rights_of s t.space) s.rows allows_fetch t.space t.context.pc row e in
      (it, no_m_with_x row.flags.m row.flags.w row.flags.x (is_some row.receiver) (formed.rows.each row it.there).flags goes.allowed)

  of_access : (o : Option DataAccess) (row : Row) → row_of_access s t o ≡ Some row → IsFitRow s row
  of_access None row e = absurd (cc)
  of_access (Some a) row e = through_there (wants a.access) a.va row e

  of_action : (o : Option Action) (row : Row) → row_of_action s t o ≡ Some row → IsFitRow s row
  of_action None row e = absurd (cc)
  of_action (Some action) row e = of_access (data_access action) row e

  accessed : (row : Row) → data_row s t ≡ Some row → IsFitRow s row
  accessed row e = of_action (next_action t.context (pages_of s t.space)) row e

-- what isn't a row depends on none
plain_above : (s : FlatState) → IsWellFormed s → (child parent : Name) → is_row child ≡ false → Depends s child parent → is_row parent ≡ true → ⊥
plain_above s formed child parent plain depends row =
    let falls = rank_falls s formed child parent plain depends in
    let low = rank_of_other child plain in
    let high = rank_of_row parent row in
    omega arith

thread_stands : (s : FlatState) (whom : ThreadNo) (t : FlatThread) → slice_get s.threads whom.0 ≡ Some t → MayBeChained s (Thread whom)
unfolding stands is_fit_name
thread_stands s whom t here = record { there = ap is_some here; fit = refl }

-- what is said of the chain in the end
pub record IsWhole (s : FlatState) (n : ℕ) (next : NextStep) (names : List Name) : Type 0 where
  pub order : IsChainInOrder s n next names
  pub once : AreAllOnce names
  pub short : length names ≤ 21
  pub few : IsFewByKind names
  pub parents : AreParentsFirst s names
  pub good : (name : Name) → Contains names name → MayBeChained s name

-- there is a thread of whose next step something is known
pub known_thread : (s : FlatState) (n : ℕ) (next : NextStep) → next_step s n ≡ Some next → (t : FlatThread) × (slice_get s.threads n ≡ Some t)
unfolding next_step
known_thread s n next known = by (slice_get s.threads n) refl known
  where
    by : (o : Option FlatThread) → slice_get s.threads n ≡ o → option_map (next_step_of s) o ≡ Some next → (t : FlatThread) × (slice_get s.threads n ≡ Some t)
    by None is known = absurd (cc)
    by (Some t) is known = (t, is)

-- the first of the names are the rows
pub first_are : (rows all : List Name) (last : Name) → StartsWith (rows ++ last ∷ []) all → (count : ℕ) → count ≡ length rows → take count all ≡ rows
first_are rows all last starts count is =
    let whole : all ≡ rows ++ (last ∷ starts.0) = starts.1 ∙ append_assoc rows (last ∷ []) starts.0 in
    ap (λ (k : ℕ). take k all) is ∙ ap (take (length rows)) whole ∙ take-append_seam rows (last ∷ starts.0)

module _ (s : FlatState) (formed : IsWellFormed s) (no : ThreadNo) (t : FlatThread) (here : slice_get s.threads no.0 ≡ Some t) (next : NextStep) (known : next_step s no.0 ≡ Some next) (ready : t.status ≡ Ready) where
  is_next : next_step_of s t ≡ next
  unfolding next_step
  is_next = same_Some (next_step_of s t) next (sym (ap (option_map (next_step_of s)) here) ∙ known)

  pub if_ready : next_step_if true s t ≡ next
  if_ready = ap (λ (status : Status). next_step_if (is_ready status) s t) (sym ready) ∙ is_next

  fetch_is : next.fetch_row ≡ option_map row_name (fetch_row s t)
  fetch_is = sym (ap (λ (x : NextStep). x.fetch_row) if_ready)

  data_is : next.data_row ≡ option_map row_name (data_row s t)
  data_is = sym (ap (λ (x : NextStep). x.data_row) if_ready)

  number_is : t.no ≡ no
  number_is = same_thread t.no no (formed.threads.each no.0 t here).number

  abbrev roots : List Name
  roots = Thread t.no ∷ (map row_name (option_to_list (fetch_row s t)) ++ map row_name (option_to_list (data_row s t)))

  chain_is : chain_at s no.0 ≡ up 4 s roots
  unfolding chain
  chain_is = ap (chain_found s) here

  root_there : (name : Name) → Contains roots name → Contains (chain_at s no.0) name
  root_there name there = subst (λ (names : List Name). Contains names name) (sym chain_is) (first_in_up s formed 4 roots name there)

  pub thread_there : Contains (chain_at s no.0) (Thread no)
  thread_there = root_there (Thread no) (subst (λ (x : ThreadNo). Contains (Thread x ∷ (map row_name (option_to_list (fetch_row s t)) ++ map row_name (option_to_list (data_row s t)))) (Thread no)) (sym number_is) (Contains-here (Thread no) _))

  root_cases : (name : Name) → Contains roots name → (Thread no ≡ name) ⊎ ((next.fetch_row ≡ Some name) ⊎ (next.data_row ≡ Some name))
  root_cases name there = elim (Contains-cases (Thread t.no) _ name there) [
    | inl same ↦ inl (ap Thread (sym number_is) ∙ same)
    | inr behind ↦ inr (elim (Contains-append_cases (map row_name (option_to_list (fetch_row s t))) (map row_name (option_to_list (data_row s t))) name behind) [
      | inl fetch ↦ inl (fetch_is ∙ from_option (fetch_row s t) name fetch)
      | inr access ↦ inr (data_is ∙ from_option (data_row s t) name access)
    ])
  ]

  fetch_there : (name : Name) → next.fetch_row ≡ Some name → Contains (chain_at s no.0) name
  fetch_there name is = root_there name (Contains-behind (Thread t.no) _ name (Contains-append_left (map row_name (option_to_list (fetch_row s t))) _ name (to_option (fetch_row s t) name (sym fetch_is ∙ is))))

  data_there : (name : Name) → next.data_row ≡ Some name → Contains (chain_at s no.0) name
  data_there name is = root_there name (Contains-behind (Thread t.no) _ name (Contains-append_right (map row_name (option_to_list (fetch_row s t))) _ name (to_option (data_row s t) name (sym data_is ∙ is))))

  -- ---- the rows

  abbrev rows : List Name
  rows = rows_in_order s next.fetch_row next.data_row

  abbrev signals : List Name
  signals = row_parents s next.data_row

  row_cases : (name : Name) → Contains rows name → Contains signals name ⊎ ((next.fetch_row ≡ Some name) ⊎ (next.data_row ≡ Some name))
  row_cases name there = elim (any_cases (with_any signals next.fetch_row) next.data_row name there) [
    | inl before ↦ elim (any_cases signals next.fetch_row name before) [
      | inl signal ↦ inl signal
      | inr fetch ↦ inr (inl fetch)
    ]
    | inr access ↦ inr (inr access)
  ]

  -- a signal row is one that the row of the data depends on
  signal_of : (o : Option Name) (name : Name) → Contains (row_parents s o) name → (child : Name) × (o ≡ Some child) × Depends s child name × (is_row name ≡ true)
  signal_of None name there = absurd (contains_nothing name there)
  signal_of (Some child) name there = let kept = Contains-filter is_row (parents s child) name there in (child, refl, kept.0, kept.1)

  signal_plain : (name : Name) → Contains signals name → IsPlainRow s name
  signal_plain name there = let its = signal_of next.data_row name there in row_above s formed its.0 name its.2 its.3

  fetch_plain : (name : Name) → next.fetch_row ≡ Some name → IsPlainRow s name
  fetch_plain name is =
      let found = row_named (fetch_row s t) name (sym fetch_is ∙ is) in
      let it = fetched s formed t found.0 found.1 in
      record { row = found.0; there = it.0.there; named = found.2; fit = it.0.fit; no_m = it.1 }

  data_row_there : (name : Name) → next.data_row ≡ Some name → IsRowThere s name
  data_row_there name is =
      let found = row_named (data_row s t) name (sym data_is ∙ is) in
      let it = accessed s formed t found.0 found.1 in
      record { row = found.0; there = it.there; named = found.2; fit = it.fit }

  plain_is_row : (name : Name) → IsPlainRow s name → is_row name ≡ true
  plain_is_row name plain = ap is_row (sym plain.named)

  there_is_row : (name : Name) → IsRowThere s name → is_row name ≡ true
  there_is_row name it = ap is_row (sym it.named)

  pub rows_are_rows : (name : Name) → Contains rows name → is_row name ≡ true
  rows_are_rows name there = elim (row_cases name there) [
    | inl signal ↦ plain_is_row name (signal_plain name signal)
    | inr other ↦ elim other [
      | inl fetch ↦ plain_is_row name (fetch_plain name fetch)
      | inr access ↦ there_is_row name (data_row_there name access)
    ]
  ]

  rows_there : (name : Name) → Contains rows name → Contains (chain_at s no.0) name
  rows_there name there = elim (row_cases name there) [
    | inl signal ↦ let its = signal_of next.data_row name signal in closed_at s formed no.0 its.0 (data_there its.0 its.1) name its.2
    | inr other ↦ elim other [
      | inl fetch ↦ fetch_there name fetch
      | inr access ↦ data_there name access
    ]
  ]

  rows_apart : AreAllOnce rows
  rows_apart =
      let apart : AreAllOnce signals = subst (λ (o : Option Name). AreAllOnce (row_parents s o)) (sym data_is) (row_parents_apart s formed (data_row s t) (λ row e. (accessed s formed t row e).there)) in
      any_apart (with_any signals next.fetch_row) next.data_row (any_apart signals next.fetch_row apart)

  -- each row of the chain is one of them
  IsListed : Name → Type 0
  IsListed name = is_row name ≡ true → Contains rows name

  listed_above : (child parent : Name) → IsListed child → Depends s child parent → IsListed parent
  unfolding IsListed
  listed_above child parent listed depends is = elim (cases_Bool (is_row child)) [
    | inl row ↦ elim (row_cases child (listed row)) [
      | inl signal ↦ absurd (none_above s formed child parent (signal_plain child signal) depends is)
      | inr other ↦ elim other [
        | inl fetch ↦ absurd (none_above s formed child parent (fetch_plain child fetch) depends is)
        | inr access ↦ any_stays (with_any signals next.fetch_row) next.data_row parent (any_stays signals next.fetch_row parent (subst (λ (o : Option Name). Contains (row_parents s o) parent) (sym access) (passes is_row (parents s child) parent depends is)))
      ]
    ]
    | inr other ↦ absurd (plain_above s formed child parent other depends is)
  ]

  up_listed : (P : Name → Type 0) → ((child parent : Name) → P child → Depends s child parent → P parent) → (steps : ℕ) (names : List Name) → ((name : Name) → Contains names name → P name) → (name : Name) → Contains (up steps s names) name → P name
  up_listed P above zero names all name there = all name there
  up_listed P above (suc steps) names all name there = elim (Contains-append_cases names (up steps s (flat_map (parents s) names)) name there) [
    | inl first ↦ all name first
    | inr later ↦ up_listed P above steps (flat_map (parents s) names) (λ x up_x. let child = Contains-from_flat_map (parents s) names x up_x in above child.0 x (all child.0 child.1) child.2) name later
  ]

  chain_rows : (name : Name) → Contains (chain_at s no.0) name → is_row name ≡ true → Contains rows name
  unfolding IsListed
  chain_rows name there = up_listed IsListed listed_above 4 roots root_listed name (subst (λ (names : List Name). Contains names name) chain_is there)
    where
      root_listed : (x : Name) → Contains roots x → is_row x ≡ true → Contains rows x
      root_listed x root is = elim (root_cases x root) [
        | inl thread ↦ absurd (false≢true (ap is_row thread ∙ is))
        | inr other ↦ elim other [
          | inl fetch ↦ any_stays (with_any signals next.fetch_row) next.data_row x (any_there signals next.fetch_row x fetch)
          | inr access ↦ any_there (with_any signals next.fetch_row) next.data_row x access
        ]
      ]

  -- and each name of it stands and is fit
  pub chain_is_good : (name : Name) → Contains (chain_at s no.0) name → MayBeChained s name
  chain_is_good name there = up_listed (MayBeChained s) (λ child parent good depends. parent_is_good s formed child parent depends) 4 roots root_good name (subst (λ (names : List Name). Contains names name) chain_is there)
    where
      row_good : (x : Name) → IsPlainRow s x → MayBeChained s x
      row_good x it = row_is_good s formed x (record { row = it.row; there = it.there; named = it.named; fit = it.fit })

      root_good : (x : Name) → Contains roots x → MayBeChained s x
      root_good x root = elim (root_cases x root) [
        | inl thread ↦ subst (MayBeChained s) thread (thread_stands s no t here)
        | inr other ↦ elim other [
          | inl fetch ↦ row_good x (fetch_plain x fetch)
          | inr access ↦ row_is_good s formed x (data_row_there x access)
        ]
      ]

  -- ---- all together

  begins : IsPart s no.0 (rows ++ Thread no ∷ [])
  begins = record {
    apart = apart_push rows (Thread no) rows_apart (λ there. false≢true (rows_are_rows (Thread no) there));
    among = λ name there. elim (Contains-push_cases rows (Thread no) name there) [
      | inl row ↦ rows_there name row
      | inr same ↦ subst (Contains (chain_at s no.0)) same thread_there
    ];
  }

  pub begins_so : (collected all : List Name) → collected ≡ rows → all ≡ collected ++ Thread no ∷ [] → IsPart s no.0 all
  begins_so collected all is pushed = subst (IsPart s no.0) (sym (pushed ∙ ap (λ (names : List Name). names ++ Thread no ∷ []) is)) begins

  module _ (all : List Name) (part : IsPart s no.0 all) (starts : StartsWith (rows ++ Thread no ∷ []) all) (closed : HoldsAllParents s all) (numbered : List Name) (order : AreInOrder numbered) (exact : (name : Name) → Contains numbered name ↔ (Contains all name × (is_row name ≡ false))) where
    has_root : (name : Name) → Contains roots name → Contains all name
    has_root name root = elim (root_cases name root) [
      | inl thread ↦ subst (Contains all) thread (still_there _ all starts (Thread no) (Contains-append_right rows (Thread no ∷ []) (Thread no) (Contains-here (Thread no) [])))
      | inr other ↦ still_there _ all starts name (Contains-append_left rows (Thread no ∷ []) name (elim other [
        | inl fetch ↦ any_stays (with_any signals next.fetch_row) next.data_row name (any_there signals next.fetch_row name fetch)
        | inr access ↦ any_there (with_any signals next.fetch_row) next.data_row name access
      ]))
    ]

    all_of_chain : (name : Name) → Contains (chain_at s no.0) name → Contains all name
    all_of_chain name there = up_within s all closed 4 roots has_root name (subst (λ (names : List Name). Contains names name) chain_is there)

    abbrev names : List Name
    names = numbered ++ rows

    each : (name : Name) → Contains names name ↔ Contains (chain_at s no.0) name
    each name = (
      λ there. elim (Contains-append_cases numbered rows name there) [
        | inl early ↦ part.among name ((exact name).0 early).0
        | inr late ↦ rows_there name late
      ],
      λ there. elim (cases_Bool (is_row name)) [
        | inl row ↦ Contains-append_right numbered rows name (chain_rows name there row)
        | inr other ↦ Contains-append_left numbered rows name ((exact name).1 (all_of_chain name there, other))
      ],
    )

    plain : (name : Name) → Contains numbered name → is_row name ≡ false
    plain name there = ((exact name).0 there).1

    in_order : IsChainInOrder s no.0 next names
    in_order = record { numbered = numbered; order = order; plain = plain; parts = refl; each = each }

    once : AreAllOnce names
    once = apart_append numbered rows (order_apart numbered order) rows_apart (λ name early late. false≢true (sym (plain name early) ∙ rows_are_rows name late))

    few : IsFewByKind names
    few = few_of_kind names (chain_at s no.0) once (λ name there. (each name).0 there) (few_at s formed no.0)

    good : (name : Name) → Contains names name → MayBeChained s name
    good name there = chain_is_good name ((each name).0 there)

    none_in_rows : NoneLater s formed rows
    none_in_rows =
        let first = none_of_rows s formed signals signal_plain (λ name there. plain_is_row name (signal_plain name there)) in
        let second = none_also s formed signals next.fetch_row first (λ x y there is depends. none_above s formed x y (signal_plain x there) depends (plain_is_row y (fetch_plain y is))) in
        none_also s formed (with_any signals next.fetch_row) next.data_row second (λ x y there is depends. elim (any_cases signals next.fetch_row x there) [
          | inl signal ↦ none_above s formed x y (signal_plain x signal) depends (there_is_row y (data_row_there y is))
          | inr fetch ↦ none_above s formed x y (fetch_plain x fetch) depends (there_is_row y (data_row_there y is))
        ])

    none_later : NoneLater s formed names
    none_later = none_append s formed numbered rows (none_numbered s formed numbered order plain) none_in_rows (λ x y early late depends. plain_above s formed x y (plain x early) depends (rows_are_rows y late))

    parents_first : AreParentsFirst s names
    parents_first i child parent at depends =
        let there = Contains-from_get names i child at in
        let parent_there = (each parent).1 (closed_at s formed no.0 child ((each child).0 there) parent depends) in
        earlier s formed names none_later i child parent at parent_there depends

    pub is_whole : (found listed : List Name) → listed ≡ rows → found ≡ numbered ++ listed → IsWhole s no.0 next found
    is_whole found listed are is = subst (IsWhole s no.0 next) (sym (is ∙ ap (λ (xs : List Name). numbered ++ xs) are)) (record {
      order = in_order;
      once = once;
      short = at_most_21 names (chain_at s no.0) once (λ name there. (each name).0 there) (few_at s formed no.0);
      few = few;
      parents = parents_first;
      good = good;
    })

  -- the same of lists that are known to be these
  pub whole_so : (collected pushed all seen : List Name) → collected ≡ rows → pushed ≡ collected ++ Thread no ∷ [] → ((n : ℕ) → IsPart s n pushed → IsPart s n all) → StartsWith pushed all → HoldsAllParents s all → seen ≡ all
      → (numbered : List Name) → AreInOrder numbered → ((name : Name) → Contains numbered name ↔ (Contains seen name × (is_row name ≡ false)))
      → (sliced : List Name) → sliced ≡ all → (count : ℕ) → count ≡ length collected → IsWhole s no.0 next (numbered ++ take count sliced)
  whole_so collected pushed all seen are behind part starts closed same numbered order exact sliced slice count is =
      let begun : pushed ≡ rows ++ Thread no ∷ [] = behind ∙ ap (λ (names : List Name). names ++ Thread no ∷ []) are in
      let from : StartsWith (rows ++ Thread no ∷ []) all = subst (λ (names : List Name). StartsWith names all) begun starts in
      let listed : take count sliced ≡ rows = ap (take count) slice ∙ first_are rows all (Thread no) from count (is ∙ ap length are) in
      is_whole all (part no.0 (begins_so collected pushed are behind)) from closed numbered order (subst (λ (names : List Name). (name : Name) → Contains numbered name ↔ (Contains names name × (is_row name ≡ false))) same exact) (numbered ++ take count sliced) (take count sliced) listed refl
