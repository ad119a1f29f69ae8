-- Who waits for a processor, slot by slot, and who of these is chosen.
use Rattle.std.proofs.Common.{◌≡◌, ◌↔◌, ℕ, ◌+◌, ◌<◌, ◌≤◌, Bool, true, false, not, ◌&&◌, List, [], ◌∷◌, ◌++◌, length, get_or, Contains, Option, Some, None, IfSome, IfNone, refl, sym, ap, ap₂, ◌∙◌, subst, inl, inr, arith, below_more, slice_get, ◌⊎◌}
use Rattle.std.specs.Option.{is_some, option_map}
use Rattle.std.specs.Cmp.{IsStrictWeakOrder}
use Rattle.std.specs.List.Sorted.{IsPermutation, IsSortedBy}
use Rattle.std.proofs.lemmas.Bool.{cases_lt}
use Rattle.std.proofs.lemmas.Bool.Decides.{nat_tests}
use Rattle.std.proofs.lemmas.List.{get_or_default}
use Rattle.std.proofs.lemmas.List.Elements.{Contains-append_left, Contains-push, Contains-push_cases}
use Rattle.std.proofs.lemmas.List.Sorted.{sorted_far, Contains-permutation, IsPermutation-sym}
use Rattle.cache_ident.specs.declared.idents.Kind.TheVariants as kind
use Rattle.cache_ident.specs.declared.names.Name.TheVariants as name
use Rattle.cache_ident.specs.declared.names.ThreadNo.{ThreadNo}
use Rattle.cache_ident.specs.Residents.{Resident, IsNameResident}
use Rattle.cache_ident.proofs.Numbers.{same_thread}
use Rattle.number_set.specs.First.{IsFirst}
use Rattle.rv32_exec.specs.declared.statuses.Status.TheVariants.{Ready}
use Rattle.flat_state.specs.declared.records.FlatThread.{FlatThread}
use Rattle.flat_state.specs.Signals.{full_receiver, is_runnable}
use Rattle.flat_state.specs.State.{is_ready}
use Rattle.slot_cache.specs.declared.loaded.Loaded.{Loaded}
use Rattle.slot_cache.specs.Cells.{cell_at, HasExactlyLoaded}
use Rattle.thread_cache.specs.Threads as thread_rec
use Rattle.thread_cache.specs.declared.ThreadRec.{ThreadRec}
use Rattle.board_checks.specs.desc_stores.specs.declared.items.Item.TheVariants as item
use Rattle.board_checks.specs.desc_stores.specs.Contents.{content_of, resident_of, residents_of}
use Rattle.board_checks.specs.desc_stores.specs.Sound.{IsExactlyOne}
use Rattle.board_checks.specs.shown_state.proofs.ContentLemmas.{item_has_name}
use Rattle.board_checks.specs.shown_state.specs.Found.{AreFound}
use Rattle.board_checks.specs.shown_state.specs.Shown.{flat_thread, thread_of}
use Rattle.board_core.specs.store_residents.proofs.ResidentLemmas.{seat_resident}
use Rattle.board_core.specs.thread_sets.specs.SetsOf.{takes_steps}
use Rattle.ready_queue.specs.declared.Candidate.{Candidate}
use Rattle.ready_queue.specs.Choice.{is_before}
use Rattle.board_core.specs.cached_machine.specs.Cached.{state_of}
use Rattle.board_core.specs.cached_machine.specs.Posts.{last_in, last_of, mark_in}
use Rattle.board_core.specs.cached_machine.proofs.OutLaws.{resident_slot, slot_content}
use Rattle.board_core.specs.Core.{contents_of, Recorded}
use Rattle.board_core.proofs.CheckLaws.{ready_is}
use Rattle.board_threads.specs.Tests.{goes_on, is_ready_at, passes}
use Rattle.board_threads.specs.Waiting.{candidate_of, is_free, IsChosenOf, IsEarlier, IsFirstAmong, IsFirstFree, IsFirstOf, IsFirstThat, IsFree, IsFreeAmong, IsWaiting}

-- ---- the order of choice

pub choice_ranks : IsStrictWeakOrder is_before
choice_ranks = record {
  one_way = λ a b earlier. one_way a b earlier;
  chain = λ a b c first second. chain a b c first second;
}
  where
    one_way : (a b : Candidate) → is_before a b ≡ true → is_before b a ≡ false
    one_way a b earlier = grind (arith, nat_tests)

    chain : (a b c : Candidate) → is_before a b ≡ false → is_before b c ≡ false → is_before a c ≡ false
    chain a b c first second = grind (arith, nat_tests)

pub not_before_itself : (c : Candidate) → is_before c c ≡ false
not_before_itself c = grind (arith, nat_tests)

-- what is known of some holds of others, of which there are no more, or one
module _ (Was Is : Candidate → Type 0) (stays : (c : Candidate) → Was c → Is c) where
  same_first : ((c : Candidate) → Is c → Was c) → (first : Option Candidate) → IsFirstOf Was first → IsFirstOf Is first
  same_first back None none = λ c is. none c (back c is)
  same_first back (Some first) was = (stays first was.0, λ c is. was.1 c (back c is))

  module _ (this : Candidate) (is : Is this) (back : (c : Candidate) → Is c → Was c ⊎ (this ≡ c)) where
    not_before_this : (c : Candidate) → this ≡ c → is_before c this ≡ false
    not_before_this c same = subst (λ (x : Candidate). is_before x this ≡ false) same (not_before_itself this)

    earlier_first : (first : Option Candidate) (now : Candidate) → IsFirstOf Was first → IsEarlier first this now → IsFirstOf Is (Some now)
    earlier_first None now none only = subst (λ (c : Candidate). IsFirstOf Is (Some c)) (sym only) (
      is,
      λ c among. elim (back c among) [
        | inl before ↦ absurd (none c before)
        | inr same ↦ not_before_this c same
      ],
    )
    earlier_first (Some first) now was (inl keeps) = subst (λ (c : Candidate). IsFirstOf Is (Some c)) (sym keeps.0) (
      stays first was.0,
      λ c among. elim (back c among) [
        | inl before ↦ was.1 c before
        | inr same ↦ subst (λ (x : Candidate). is_before x first ≡ false) same keeps.1
      ],
    )
    earlier_first (Some first) now was (inr comes) = subst (λ (c : Candidate). IsFirstOf Is (Some c)) (sym comes.0) (
      is,
      λ c among. elim (back c among) [
        | inl before ↦ choice_ranks.chain c first this (was.1 c before) comes.1
        | inr same ↦ not_before_this c same
      ],
    )

-- these are the free ones among those
abbrev pub AreThose : List (Loaded ThreadRec) → List Candidate → Type 0
AreThose list waiting = (c : Candidate) → Contains waiting c ↔ IsFreeAmong list c

-- ---- one thread

-- of one number one is free
free_alone : (b : Recorded) (c d : Candidate) → c.no ≡ d.no → IsFree takes_steps b c → IsFree takes_steps b d → c ≡ d
free_alone b c d number first second =
    let shows : Some first.thread ≡ Some second.thread = sym first.there ∙ ap (λ (n : ThreadNo). slice_get (state_of b.machine).threads n.0) number ∙ second.there in
    let thread : first.thread ≡ second.thread = cc in
    let priority : c.priority ≡ d.priority = first.priority ∙ ap (λ (t : FlatThread). t.priority) thread ∙ sym second.priority in
    let last : c.last ≡ d.last = first.last ∙ ap (last_of (contents_of b)) number ∙ sym second.last in
    ap (λ (n : ThreadNo). let x : Candidate = record { no = n; priority = c.priority; last = c.last } in x) number
    ∙ ap₂ (λ (p l : ℕ). let x : Candidate = record { no = d.no; priority = p; last = l } in x) priority last

module _ (b : Recorded) (one : IsExactlyOne (contents_of b)) (found : AreFound (state_of b.machine) (contents_of b)) where
  module _ (whom : ThreadNo) (t : ThreadRec) (content : content_of (contents_of b) (name.Thread whom) ≡ Some (item.Thread t)) where
    pub number_is : t.no ≡ whom
    number_is = let named : name.Thread t.no ≡ name.Thread whom = item_has_name (contents_of b) (name.Thread whom) (item.Thread t) content in cc

    own : content_of (contents_of b) (name.Thread t.no) ≡ Some (item.Thread t)
    own = subst (λ (n : ThreadNo). content_of (contents_of b) (name.Thread n) ≡ Some (item.Thread t)) (sym number_is) content

    -- if it is loaded and free, it is so on the board
    pub free_if_loaded : IsNameResident (residents_of (contents_of b)) (name.Thread whom) → is_free t ≡ true → IsFree takes_steps b (candidate_of t)
    free_if_loaded loaded free = record {
      thread = flat_thread t;
      there = found.threads t.no.0 ∙ ap thread_of own;
      passes = both_left (is_ready t.status) (not (is_some t.on_cpu)) free;
      loaded = subst (λ (n : ThreadNo). IsNameResident (residents_of (contents_of b)) (name.Thread n)) (sym number_is) loaded;
      free = ap mark_in own ∙ is_none_if t.on_cpu (both_right (is_ready t.status) (not (is_some t.on_cpu)) free);
      priority = refl;
      last = sym (ap last_in own);
    }
      where
        both_left : (x y : Bool) → (x && y) ≡ true → x ≡ true
        both_left true y is = refl
        both_left false y is = is

        both_right : (x y : Bool) → (x && y) ≡ true → y ≡ true
        both_right true y is = is
        both_right false y is = absurd (cc)

        is_none_if : (o : Option ℕ) → not (is_some o) ≡ true → o ≡ None
        is_none_if None is = refl
        is_none_if (Some cpu) is = absurd (cc)

    -- and one of its number that is free on the board is this one
    pub free_is_this : (c : Candidate) → c.no ≡ whom → IsFree takes_steps b c → (is_free t ≡ true) × (candidate_of t ≡ c)
    free_is_this c number free =
        let its : content_of (contents_of b) (name.Thread c.no) ≡ Some (item.Thread t) = ap (λ (n : ThreadNo). content_of (contents_of b) (name.Thread n)) number ∙ content in
        let shows : Some (flat_thread t) ≡ Some free.thread = sym (ap thread_of its) ∙ sym (found.threads c.no.0) ∙ free.there in
        let thread : flat_thread t ≡ free.thread = cc in
        let ready : is_ready t.status ≡ true = ap (λ (x : FlatThread). is_ready x.status) thread ∙ free.passes in
        let away : t.on_cpu ≡ None = sym (ap mark_in its) ∙ free.free in
        let is : is_free t ≡ true = ap₂ (λ (x : Bool) (o : Option ℕ). x && not (is_some o)) ready away in
        let loaded = subst (λ (n : ThreadNo). IsNameResident (residents_of (contents_of b)) (name.Thread n)) number free.loaded in
        (is, free_alone b (candidate_of t) c (number_is ∙ sym number) (free_if_loaded loaded is) free)

  module _ (l : Loaded ThreadRec) (there : cell_at (contents_of b).threads.cells l.ident.slot ≡ Some l) where
    its : Resident
    its = resident_of thread_rec.name_of l

    is_resident : Contains (residents_of (contents_of b)) its
    unfolding its
    is_resident = seat_resident (contents_of b) one.sound kind.Thread l.ident.slot its (ap (option_map (resident_of thread_rec.name_of)) there)

    -- if a loaded one is free, it is so on the board
    pub free_there : is_free l.value ≡ true → IsFree takes_steps b (candidate_of l.value)
    unfolding its
    free_there = free_if_loaded l.value.no l.value (slot_content (contents_of b) one l there) (its, is_resident, refl)

  -- a free one on the board is one of the loaded threads
  pub free_here : (c : Candidate) → IsFree takes_steps b c → (l : Loaded ThreadRec) × (cell_at (contents_of b).threads.cells l.ident.slot ≡ Some l) × (is_free l.value ≡ true) × (candidate_of l.value ≡ c)
  free_here c free =
      let at = resident_slot (contents_of b) one c.no free.loaded in
      let l = at.0 in
      let is = free_is_this l.value.no l.value (slot_content (contents_of b) one l at.1) c (sym at.2) free in
      (l, at.1, is.0, is.1)

  -- those among all that is loaded are those on the board
  pub free_iff : (list : List (Loaded ThreadRec)) → HasExactlyLoaded (contents_of b).threads.cells list → (c : Candidate) → IsFreeAmong list c ↔ IsFree takes_steps b c
  free_iff list exact c = (
    λ among. subst (IsFree takes_steps b) among.its (free_there among.loaded ((exact among.loaded).0 among.there) among.free),
    λ free. let here = free_here c free in record { loaded = here.0; there = (exact here.0).1 here.1; free = here.2; its = here.3 },
  )

  pub free_among_all : (list : List (Loaded ThreadRec)) → HasExactlyLoaded (contents_of b).threads.cells list → (waiting : List Candidate) → AreThose list waiting → (c : Candidate) → Contains waiting c ↔ IsFree takes_steps b c
  free_among_all list exact waiting those c = (
    λ there. (free_iff list exact c).0 ((those c).0 there),
    λ free. (those c).1 ((free_iff list exact c).1 free),
  )

  pub first_of_all : (list : List (Loaded ThreadRec)) → HasExactlyLoaded (contents_of b).threads.cells list → (first : Option Candidate) → IsFirstAmong list first → IsFirstFree b first
  first_of_all list exact = same_first (IsFreeAmong list) (IsFree takes_steps b) (λ c. (free_iff list exact c).0) (λ c. (free_iff list exact c).1)

-- ---- one after another

module _ (list : List (Loaded ThreadRec)) (l : Loaded ThreadRec) where
  longer : (c : Candidate) → IsFreeAmong list c → IsFreeAmong (list ++ l ∷ []) c
  longer c is = record { loaded = is.loaded; there = Contains-append_left list (l ∷ []) is.loaded is.there; free = is.free; its = is.its }

  here : is_free l.value ≡ true → IsFreeAmong (list ++ l ∷ []) (candidate_of l.value)
  here free = record { loaded = l; there = Contains-push list l; free = free; its = refl }

  -- the last one isn't free, or it is that candidate, or the candidate is among those before
  was : (c : Candidate) → IsFreeAmong (list ++ l ∷ []) c → IsFreeAmong list c ⊎ ((is_free l.value ≡ true) × (candidate_of l.value ≡ c))
  was c is = elim (Contains-push_cases list l is.loaded is.there) [
    | inl before ↦ inl (record { loaded = is.loaded; there = before; free = is.free; its = is.its })
    | inr same ↦ inr (ap (λ (x : Loaded ThreadRec). is_free x.value) same ∙ is.free, ap (λ (x : Loaded ThreadRec). candidate_of x.value) same ∙ is.its)
  ]

  pub none_more : (waiting : List Candidate) → AreThose list waiting → is_free l.value ≡ false → AreThose (list ++ l ∷ []) waiting
  none_more waiting those busy c = (
    λ there. longer c ((those c).0 there),
    λ is. elim (was c is) [
      | inl before ↦ (those c).1 before
      | inr last ↦ absurd (let never : false ≡ true = sym busy ∙ last.0 in cc)
    ],
  )

  pub one_more : (waiting : List Candidate) → AreThose list waiting → is_free l.value ≡ true → AreThose (list ++ l ∷ []) (waiting ++ candidate_of l.value ∷ [])
  one_more waiting those free c = (
    λ there. elim (Contains-push_cases waiting (candidate_of l.value) c there) [
      | inl before ↦ longer c ((those c).0 before)
      | inr same ↦ subst (IsFreeAmong (list ++ l ∷ [])) same (here free)
    ],
    λ is. elim (was c is) [
      | inl before ↦ Contains-append_left waiting (candidate_of l.value ∷ []) c ((those c).1 before)
      | inr last ↦ subst (Contains (waiting ++ candidate_of l.value ∷ [])) last.1 (Contains-push waiting (candidate_of l.value))
    ],
  )

  pub first_stays : (first : Option Candidate) → IsFirstAmong list first → is_free l.value ≡ false → IsFirstAmong (list ++ l ∷ []) first
  first_stays first is busy = same_first (IsFreeAmong list) (IsFreeAmong (list ++ l ∷ [])) longer (λ c among. elim (was c among) [
    | inl before ↦ before
    | inr last ↦ absurd (let never : false ≡ true = sym busy ∙ last.0 in cc)
  ]) first is

  pub first_or_this : (first : Option Candidate) (now : Candidate) → IsFirstAmong list first → is_free l.value ≡ true → IsEarlier first (candidate_of l.value) now → IsFirstAmong (list ++ l ∷ []) (Some now)
  first_or_this first now is free = earlier_first (IsFreeAmong list) (IsFreeAmong (list ++ l ∷ [])) longer (candidate_of l.value) (here free) (λ c among. elim (was c among) [
    | inl before ↦ inl before
    | inr last ↦ inr last.1
  ]) first now is

-- ---- the ready threads, one after another

-- the candidate is a free one whose number is below
abbrev pub IsFreeBelow : Recorded → ℕ → Candidate → Type 0
IsFreeBelow b from c = (c.no.0 < from) × IsFree takes_steps b c

module _ (b : Recorded) (from : ℕ) where
  ready_there : (c : Candidate) → IsFree takes_steps b c → is_ready_at b c.no.0 ≡ true
  ready_there c free = ap (passes takes_steps) free.there ∙ free.passes

  -- none more is ready
  pub first_of_ready : ((n : ℕ) → from ≤ n → is_ready_at b n ≡ false) → (first : Option Candidate) → IsFirstOf (IsFreeBelow b from) first → IsFirstFree b first
  first_of_ready none = same_first (IsFreeBelow b from) (IsFree takes_steps b) (λ c is. is.1) (λ c free. elim (cases_lt c.no.0 from) [
    | inl low ↦ (low, free)
    | inr high ↦ absurd (let never : false ≡ true = sym (none c.no.0 high) ∙ ready_there c free in cc)
  ])

  module _ (whom : ThreadNo) (next : IsFirst (is_ready_at b) from whom.0) where
    still_below : (c : Candidate) → IsFreeBelow b from c → IsFreeBelow b (whom.0 + 1) c
    still_below c is = (omega (arith, is.0, next.from_there), is.1)

    -- up to the next that is ready, a free one was there before, or it is that one
    was_or_next : (c : Candidate) → IsFreeBelow b (whom.0 + 1) c → IsFreeBelow b from c ⊎ (c.no ≡ whom)
    was_or_next c is = elim (cases_lt c.no.0 from) [
      | inl low ↦ inl (low, is.1)
      | inr high ↦ inr (same_thread c.no whom (elim (cases_lt c.no.0 whom.0) [
        | inl between ↦ absurd (let never : false ≡ true = sym (next.none_before c.no.0 high between) ∙ ready_there c is.1 in cc)
        | inr last ↦ omega (arith, last, is.0)
      ]))
    ]

    pub busy_next : ((c : Candidate) → c.no ≡ whom → IsFree takes_steps b c → ⊥) → (first : Option Candidate) → IsFirstOf (IsFreeBelow b from) first → IsFirstOf (IsFreeBelow b (whom.0 + 1)) first
    busy_next busy = same_first (IsFreeBelow b from) (IsFreeBelow b (whom.0 + 1)) still_below (λ c is. elim (was_or_next c is) [
      | inl was ↦ was
      | inr same ↦ absurd (busy c same is.1)
    ])

    pub free_next : (this : Candidate) → IsFree takes_steps b this → this.no ≡ whom → (first : Option Candidate) (now : Candidate) → IsFirstOf (IsFreeBelow b from) first → IsEarlier first this now → IsFirstOf (IsFreeBelow b (whom.0 + 1)) (Some now)
    free_next this free named =
        let below : this.no.0 < whom.0 + 1 = let same = ap (λ (n : ThreadNo). n.0) named in omega arith in
        earlier_first (IsFreeBelow b from) (IsFreeBelow b (whom.0 + 1)) still_below this (below, free) (λ c is. elim (was_or_next c is) [
          | inl was ↦ inl was
          | inr same ↦ inr (free_alone b this c (named ∙ sym same) free is.1)
        ])

-- ---- who is chosen

-- of a sorted list, the first that passes is the first in order that does
pub first_of_sorted : (test : Candidate → Bool) (waiting : List Candidate) → IsSortedBy is_before waiting → (i : ℕ) (e : Candidate) → i < length waiting → ((k : ℕ) (d : Candidate) → k < i → test (get_or waiting k d) ≡ false) → test (get_or waiting i e) ≡ true → IsFirstThat test waiting (get_or waiting i e)
first_of_sorted test waiting sorted i e within before holds = record {
  there = (i, within, get_or_default waiting i (get_or waiting i e) e within);
  passes = holds;
  first = λ other there passing. elim (cases_lt there.0 i) [
    | inl low ↦ absurd (let both : false ≡ true = sym (before there.0 other low) ∙ ap test there.2 ∙ passing in cc)
    | inr high ↦
        let far = sorted_far is_before choice_ranks waiting sorted i there.0 other high there.1 in
        subst (λ (x : Candidate). is_before x (get_or waiting i e) ≡ false) there.2 (subst (λ (x : Candidate). is_before (get_or waiting there.0 other) x ≡ false) (get_or_default waiting i other e within) far)
  ];
}

pub none_so_far : (test : Candidate → Bool) (waiting : List Candidate) (i : ℕ) (e : Candidate) → i < length waiting → ((k : ℕ) (d : Candidate) → k < i → test (get_or waiting k d) ≡ false) → test (get_or waiting i e) ≡ false → (k : ℕ) (d : Candidate) → k < i + 1 → test (get_or waiting k d) ≡ false
none_so_far test waiting i e within before fails k d =
    below_more (λ (n : ℕ). test (get_or waiting n d) ≡ false) i (λ n low. before n d low) (subst (λ (c : Candidate). test c ≡ false) (get_or_default waiting i e d within) fails) k

-- ---- of the board

module _ (b : Recorded) where
  goes_if : (c : Candidate) (w : IsWaiting b c) → goes_on b c.no.0 ≡ true
  goes_if c w = ap (passes (is_runnable (state_of b.machine))) w.there ∙ w.passes

  ready_if : (t : FlatThread) → is_runnable (state_of b.machine) t ≡ true → is_ready t.status ≡ true
  ready_if t runs = by (is_ready t.status) refl
    where
      by : (x : Bool) → is_ready t.status ≡ x → x ≡ true
      by true ready = refl
      by false idle = absurd (let never : false ≡ true = sym (ap (λ (x : Bool). x && not (is_some (full_receiver (state_of b.machine) t))) idle) ∙ runs in cc)

  free_if : (c : Candidate) → IsWaiting b c → IsFree takes_steps b c
  free_if c w = record { thread = w.thread; there = w.there; passes = ready_if w.thread w.passes; loaded = w.loaded; free = w.free; priority = w.priority; last = w.last }

  waits_if : (c : Candidate) → IsFree takes_steps b c → goes_on b c.no.0 ≡ true → IsWaiting b c
  waits_if c f goes = record { thread = f.thread; there = f.there; passes = sym (ap (passes (is_runnable (state_of b.machine))) f.there) ∙ goes; loaded = f.loaded; free = f.free; priority = f.priority; last = f.last }

  pub nobody_free : ((c : Candidate) → IsFree takes_steps b c → ⊥) → (c : Candidate) → IsWaiting b c → ⊥
  nobody_free none c w = none c (free_if c w)

  -- the first of all free ones is chosen, if it is runnable
  pub first_is_chosen : (first : Candidate) → IsFirstFree b (Some first) → goes_on b first.no.0 ≡ true → IsChosenOf b first.no
  first_is_chosen first is goes = record { candidate = first; named = refl; waits = waits_if first is.0 goes; first = λ other w. is.1 other (free_if other w) }

  module _ (found sorted : List Candidate) (all : (c : Candidate) → Contains found c ↔ IsFree takes_steps b c) (moved : IsPermutation found sorted) where
    to_sorted : (c : Candidate) → IsWaiting b c → Contains sorted c
    to_sorted c w = Contains-permutation found sorted c moved ((all c).1 (free_if c w))

    from_sorted : (c : Candidate) → Contains sorted c → IsFree takes_steps b c
    from_sorted c there = (all c).0 (Contains-permutation sorted found c (IsPermutation-sym found sorted moved) there)

    pub nobody_waits : (o : Option ThreadNo) → IfNone o ((c : Candidate) → Contains sorted c → goes_on b c.no.0 ≡ false) → IfNone o ((c : Candidate) → IsWaiting b c → ⊥)
    nobody_waits None none = λ c w. let both : false ≡ true = sym (none c (to_sorted c w)) ∙ goes_if c w in cc
    nobody_waits (Some whom) none = tt

    pub chosen_among : (o : Option ThreadNo) → IfSome o (λ whom. (c : Candidate) × (c.no ≡ whom) × IsFirstThat (λ other. goes_on b other.no.0) sorted c) → IfSome o (IsChosenOf b)
    chosen_among None first = tt
    chosen_among (Some whom) first = record {
      candidate = first.0;
      named = first.1;
      waits = waits_if first.0 (from_sorted first.0 first.2.there) first.2.passes;
      first = λ other w. first.2.first other (to_sorted other w) (goes_if other w);
    }

-- who is chosen is loaded and ready
module _ (b : Recorded) (whom : ThreadNo) (chosen : IsChosenOf b whom) where
  pub chosen_loaded : IsNameResident (residents_of (contents_of b)) (name.Thread whom)
  chosen_loaded = subst (λ (n : ThreadNo). IsNameResident (residents_of (contents_of b)) (name.Thread n)) chosen.named chosen.waits.loaded

  pub chosen_ready : (t : FlatThread) → slice_get (state_of b.machine).threads whom.0 ≡ Some t → t.status ≡ Ready
  chosen_ready t there =
      let same : Some chosen.waits.thread ≡ Some t = sym chosen.waits.there ∙ ap (λ (n : ThreadNo). slice_get (state_of b.machine).threads n.0) chosen.named ∙ there in
      let one : chosen.waits.thread ≡ t = cc in
      ready_is t.status (ap (λ (u : FlatThread). is_ready u.status) (sym one) ∙ ready_if b chosen.waits.thread chosen.waits.passes)
