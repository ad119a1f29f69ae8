-- Why the chain may be loaded and the step taken, and what that leaves.
use Rattle.std.proofs.Common.{◌≡◌, ℕ, ◌+◌, ◌-◌, ◌<◌, ◌≤◌, Bool, true, false, not, List, [], ◌∷◌, ◌++◌, length, filter, count_by, take, Contains, Option, Some, None, slice_get, refl, ap, sym, ◌∙◌, subst, arith}
use Rattle.std.specs.Prelude.{if◌then◌else◌, ◌&&◌, is_some, unwrap_or, IsSome}
use Rattle.std.specs.Option.{option_map, option_or}
use Rattle.std.proofs.lemmas.Bool.{le-ltb}
use Rattle.std.proofs.lemmas.List.{append-nil, take_all}
use Rattle.std.proofs.lemmas.List.Elements.{Contains-append_right}
use Rattle.std.proofs.lemmas.List.Sums.{count_by-le-length, length-filter}
use Rattle.std.proofs.lemmas.Option.{slice_get_within}
use Rattle.cache_ident.specs.declared.names.Name.{Name}
use Rattle.cache_ident.specs.declared.names.Name.TheVariants.{Thread}
use Rattle.cache_ident.specs.declared.names.ThreadNo.{ThreadNo}
use Rattle.cache_ident.specs.Residents.{Resident, IsNameResident}
use Rattle.thread_cache.specs.rv32_exec.specs.declared.statuses.Status.{Status}
use Rattle.thread_cache.specs.rv32_exec.specs.declared.statuses.Status.TheVariants.{Ready}
use Rattle.flat_state.specs.declared.events.Event.{Event}
use Rattle.flat_state.specs.declared.events.Event.TheVariants.{Step}
use Rattle.flat_state.specs.declared.records.FlatThread.{FlatThread}
use Rattle.flat_state.specs.declared.records.NextStep.{NextStep}
use Rattle.flat_state.specs.Dependence.{Depends}
use Rattle.flat_state.specs.Events.{after_event, after_events, applied}
use Rattle.flat_state.specs.NextSteps.{next_step, next_step_of}
use Rattle.flat_state.specs.Signals.{full_receiver, is_runnable}
use Rattle.flat_state.specs.State.{is_ready, FlatState}
use Rattle.flat_state.specs.Step.{after_step, outcome, step_if, step_of, stepped}
use Rattle.flat_state.specs.WellFormed.{IsWellFormed}
use Rattle.flat_state.proofs.Places.{Contains-from_get}
use Rattle.board_core.specs.run_journal.specs.declared.entries.Entry.{Entry}
use Rattle.board_core.specs.run_journal.specs.Entries.{erase, is_step, steps_in}
use Rattle.board_core.specs.run_journal.specs.Legal.{IsRowResident, MayStep}
use Rattle.board_core.specs.run_journal.proofs.Growth.{erase-append}
use Rattle.board_core.specs.desc_stores.specs.Contents.{residents_of, Contents}
use Rattle.board_core.specs.board_ops.specs.declared.refusals.Refused.{Refused}
use Rattle.board_core.specs.board_ops.specs.declared.refusals.Refused.TheVariants as why
use Rattle.board_core.specs.board_laws.proofs.Growing.{formed_told}
use Rattle.board_core.specs.cached_machine.specs.Cached.{is_loaded, state_of, Cached}
use Rattle.board_core.specs.cached_machine.specs.Posts.{mark_of, HasLoadedMarks}
use Rattle.board_chains.specs.Chains.{rows_in_order, row_parents, AreParentsFirst, IsChainInOrder, HoldsAllParents, IsFewByKind, MayBeChained}
use Rattle.board_chains.specs.Lists.{has, with_any, AreAllOnce}
use Rattle.board_chains.proofs.ChainLemmas.{closed_at}
use Rattle.board_chains.proofs.WholeLemmas.{any_stays, any_there, if_ready, thread_there}
use Rattle.board_core.specs.Core.{contents_of, IsSound, Recorded}
use Rattle.board_core.specs.Growth.{count_loaded, entry_of_step, GrowsBy, KeepsPlaces, IsRoomMade}
use Rattle.board_core.specs.Refusals.{not_ready, not_waiting, over}
use Rattle.board_core.proofs.CheckLaws.{enough_left, ready_is}
use Rattle.board_core.proofs.GrowthLaws.{grows_more, same_marks_more}
use Rattle.board_heal.specs.Healed.{IsHealed}
use Rattle.board_heal.specs.Loads.{count_others, is_to_load, AreLoadedTo, AreLoads, MayComeNext}
use Rattle.board_heal.specs.Promise.{HasStepped, IsHealable}
use Rattle.board_heal.specs.Refusals.{not_sealed, refusal_of_found, refusal_of_heal, refusal_of_step, refusal_of_waiting}
use Rattle.board_heal.proofs.WayLaws.{erase_loads}

-- ---- a step that isn't refused

neither : (a b : Option Refused) → option_or a b ≡ None → (a ≡ None) × (b ≡ None)
neither None b none = (refl, none)
neither (Some x) b none = absurd (cc)

no_value : {X : Type 0} (f : X → Refused) (o : Option X) → option_map f o ≡ None → o ≡ None
no_value f None none = refl
no_value f (Some x) none = absurd (cc)

passed : (test : Bool) (refused : Refused) → (if test then None else Some refused) ≡ None → test ≡ true
passed true refused none = refl
passed false refused none = absurd (cc)

pub can_heal : (b : Recorded) (whom : ThreadNo) → refusal_of_heal b whom ≡ None → IsHealable b whom
can_heal b whom none = by (slice_get (state_of b.machine).threads whom.0) refl none
  where
    by : (o : Option FlatThread) → slice_get (state_of b.machine).threads whom.0 ≡ o → refusal_of_found b whom o ≡ None → IsHealable b whom
    by None is none = absurd (cc)
    by (Some t) is none =
        let first = neither _ _ none in
        let second = neither _ _ first.1 in
        let third = neither _ _ second.1 in
        let fourth = neither _ _ third.1 in
        let ready = ready_is t.status (passed (is_ready t.status) _ first.0) in
        record {
          thread = t;
          there = is;
          ready = ready;
          away = no_value why.OnCpu (mark_of (contents_of b) whom) second.0;
          left = let enough = enough_left b 1 (sym third.0) in omega arith;
          not_held = ap (λ (status : Status). is_ready status && is_some (full_receiver (state_of b.machine) t)) ready ∙ ap is_some (no_value why.Held (full_receiver (state_of b.machine) t) fourth.0);
          sealed = passed b.sealed _ fourth.1;
        }

-- where nobody is held there is room for what is sent
pub not_full : (b : Recorded) (whom : ThreadNo) (can : IsHealable b whom) → full_receiver (state_of b.machine) can.thread ≡ None
not_full b whom can = by (full_receiver (state_of b.machine) can.thread) (ap (λ (status : Status). is_ready status && is_some (full_receiver (state_of b.machine) can.thread)) (sym can.ready) ∙ can.not_held)
  where
    by : (o : Option ThreadNo) → is_some o ≡ false → o ≡ None
    by None is = refl
    by (Some x) is = absurd (cc)

both_none : (a b : Option Refused) → a ≡ None → b ≡ None → option_or a b ≡ None
both_none a b none rest = ap (λ (o : Option Refused). option_or o b) none ∙ rest

one_left : (b : Recorded) → b.steps < b.limit → over b 1 ≡ None
unfolding over
one_left b left = ap (λ (fewer : Bool). if fewer then Some (why.Over (b.limit - b.steps)) else None) (le-ltb (b.limit - b.steps) 1 (omega arith))

-- and so no test fails
pub not_refused : (b : Recorded) (whom : ThreadNo) → IsHealable b whom → refusal_of_heal b whom ≡ None
not_refused b whom can =
    let t = can.thread in
    ap (refusal_of_found b whom) can.there
    ∙ both_none (not_ready t) _ (ap (λ (status : Status). if is_ready status then None else Some (why.NotRunnable status)) can.ready)
    (both_none (option_map why.OnCpu (mark_of (contents_of b) whom)) _ (ap (option_map why.OnCpu) can.away)
    (both_none (over b 1) _ (one_left b can.left)
    (both_none (option_map why.Held (full_receiver (state_of b.machine) t)) (not_sealed b) (ap (option_map why.Held) (not_full b whom can))
    (ap (λ (sealed : Bool). if sealed then None else Some why.NotSealed) can.sealed))))

-- its first two tests are those of a thread that waits
either_first : (a b c : Option Refused) → option_or a (option_or b c) ≡ option_or (option_or a b) c
either_first None b c = refl
either_first (Some x) b c = refl

pub first_tests : (b : Recorded) (whom : ThreadNo) (t : FlatThread) → t.no ≡ whom → refusal_of_step b whom t ≡ option_or (not_waiting (contents_of b) t) (refusal_of_waiting b t)
unfolding not_waiting
first_tests b whom t named =
    either_first (not_ready t) (option_map why.OnCpu (mark_of (contents_of b) whom)) (refusal_of_waiting b t)
    ∙ ap (λ (no : ThreadNo). option_or (option_or (not_ready t) (option_map why.OnCpu (mark_of (contents_of b) no))) (refusal_of_waiting b t)) (sym named)

some_kept : {X : Type 0} (o : Option X) (d x : X) → o ≡ Some x → o ≡ Some (unwrap_or o d)
some_kept None d x is = absurd (cc)
some_kept (Some y) d x is = refl

-- the same holds behind room that was made
module _ (old mid : Recorded) (whom : ThreadNo) (room : IsRoomMade old mid) (can : IsHealable old whom) where
  pub here_still : slice_get (state_of mid.machine).threads whom.0 ≡ Some can.thread
  here_still = ap (λ (s : FlatState). slice_get s.threads whom.0) room.only.state ∙ can.there

  pub some_next : IsSome (next_step (state_of mid.machine) whom.0)
  unfolding next_step
  some_next = ap (λ (o : Option FlatThread). is_some (option_map (next_step_of (state_of mid.machine)) o)) here_still

  pub room_for_all : (chain : List Name) → length chain ≤ 21 → count_loaded old + 21 + 1 ≤ mid.journal.spare → count_others mid chain + length chain + 1 ≤ mid.journal.spare
  room_for_all chain short fits =
      let few = count_by-le-length (λ (r : Resident). not (has chain r.name)) (residents_of (contents_of mid)) in
      let same = ap (λ (rs : List Resident). length rs) room.only.loaded.residents in
      omega arith

-- the entry of a step is that event
step_event : (cpu : ℕ) (whom : ThreadNo) (faults : Bool) → erase (entry_of_step whom faults cpu ∷ []) ≡ Step whom ∷ []
step_event cpu whom true = refl
step_event cpu whom false = refl

-- ---- each load

module _ (cpu : ℕ) (whom : ThreadNo) (old b : Recorded) (s : FlatState) (formed : IsWellFormed s) (same : state_of old.machine ≡ s) (next : NextStep) (chain : List Name)
    (order : IsChainInOrder s whom.0 next chain) (i : ℕ) (way : AreLoadedTo cpu chain i old b) where
  closed : HoldsAllParents s chain
  closed name there parent depends = (order.each parent).1 (closed_at s formed whom.0 name ((order.each name).0 there) parent depends)

  state_is : s ≡ state_of b.machine
  state_is = sym (way.state ∙ same)

  pub may_come : (once : AreAllOnce chain) → IsFewByKind chain → AreParentsFirst s chain → ((name : Name) → Contains chain name → MayBeChained s name) → (name : Name) → slice_get chain i ≡ Some name → MayComeNext b chain name
  may_come once few first good name at =
      let within = slice_get_within chain i name at in
      let listed = Contains-from_get chain i name at in
      record {
        listed = listed;
        once = once;
        few = few;
        closed = subst (λ (x : FlatState). HoldsAllParents x chain) state_is closed;
        good = subst (λ (x : FlatState). MayBeChained x name) state_is (good name listed);
        parents = λ parent depends. way.there parent (first i name parent at (subst (λ (x : FlatState). Depends x name parent) (sym state_is) depends));
        room = let fits = way.room in omega arith;
        issue = let fits = way.issues in omega arith;
      }

  -- ---- the step

  module _ (all : length chain ≤ i) (t : FlatThread) (here : slice_get s.threads whom.0 ≡ Some t) (known : next_step s whom.0 ≡ Some next) (ready : t.status ≡ Ready) (free : full_receiver s t ≡ None) where
    whole : take i chain ≡ chain
    whole = take_all i chain all

    there : (name : Name) → Contains chain name → IsNameResident (residents_of (contents_of b)) name
    there name listed = way.there name (subst (λ (names : List Name). Contains names name) (sym whole) listed)

    in_chain : (name : Name) → Contains (rows_in_order s next.fetch_row next.data_row) name → Contains chain name
    in_chain name row = subst (λ (names : List Name). Contains names name) (sym order.parts) (Contains-append_right order.numbered (rows_in_order s next.fetch_row next.data_row) name row)

    row_there : (o : Option Name) → ((name : Name) → o ≡ Some name → Contains chain name) → IsRowResident (residents_of (contents_of b)) o
    row_there None listed = tt
    row_there (Some name) listed = there name (listed name refl)

    runs_so : is_runnable s t ≡ true
    runs_so = ap (λ (status : Status). is_ready status && not (is_some (full_receiver s t))) ready ∙ ap (λ (o : Option ThreadNo). not (is_some o)) free

    runs : next.runnable ≡ true
    runs = sym (ap (λ (x : NextStep). x.runnable) (if_ready s formed whom t here next known ready)) ∙ runs_so

    pub may_step : MayStep (state_of b.machine) (residents_of (contents_of b)) whom next.faults
    may_step = record {
      next = next;
      its = ap (λ (x : FlatState). next_step x whom.0) (sym state_is) ∙ known;
      runs = runs;
      faulty = refl;
      fetch = row_there next.fetch_row (λ name is. in_chain name (any_stays (with_any (row_parents s next.data_row) next.fetch_row) next.data_row name (any_there (row_parents s next.data_row) next.fetch_row name is)));
      «data» = λ fine. row_there next.data_row (λ name is. in_chain name (any_there (with_any (row_parents s next.data_row) next.fetch_row) next.data_row name is));
    }

    pub thread_loaded : IsNameResident (residents_of (contents_of b)) (Thread whom)
    thread_loaded = there (Thread whom) ((order.each (Thread whom)).1 (thread_there s formed whom t here next known ready))

    -- no step was taken yet
    pub steps_still : (mid : Recorded) → IsRoomMade old mid → IsSound mid → IsSound b → b.steps ≡ old.steps
    steps_still mid room mid_sound sound =
        sound.steps
        ∙ ap steps_in way.grows.entries
        ∙ ap (count_by is_step) (erase-append old.journal.entries way.loads ∙ ap (λ (es : List Event). erase old.journal.entries ++ es) (erase_loads cpu _ chain _ _ _ _ way.loads way.are) ∙ append-nil (erase old.journal.entries))
        ∙ ap (λ (j : List Entry). steps_in j) (sym (ap (λ (x : Recorded). x.journal.entries) room.rest))
        ∙ sym mid_sound.steps
        ∙ ap (λ (x : Recorded). x.steps) room.rest

    fits : after_event s (Step whom) ≡ Some (applied s (Step whom))
    unfolding after_step
    fits = some_kept (after_event s (Step whom)) s (stepped s whom.0 t (outcome s t)) (ap (step_of s whom.0) here ∙ ap (λ (runnable : Bool). step_if runnable s whom.0 t) runs_so)

    pub healed : IsFewByKind chain → length chain ≤ 21 → (new : Recorded) → GrowsBy (entry_of_step whom next.faults cpu ∷ []) b new → KeepsPlaces b new → new.steps ≡ b.steps + 1 → b.steps ≡ old.steps → IsHealed cpu whom old new
    healed few short new grows places steps still = record {
      next = next;
      its = ap (λ (x : FlatState). next_step x whom.0) same ∙ known;
      chain = chain;
      order = subst (λ (x : FlatState). IsChainInOrder x whom.0 next chain) (sym same) order;
      few = few;
      begun = way.begun;
      begins = way.begins;
      loaded = contents_of b;
      loads = way.loads;
      are = subst (λ (names : List Name). AreLoads cpu old.machine.held.caps chain (filter (is_to_load (contents_of old)) names) (contents_of way.begun) (length old.journal.entries) (contents_of b) way.loads) whole way.are;
      keeps = places.loaded;
      spare = let before = way.spare in let same = places.spare in let names = ap (λ (ns : List Name). length (filter (is_to_load (contents_of old)) ns)) whole in omega arith;
      most =
          let counted = length-filter (is_to_load (contents_of old)) chain in
          let fewer = count_by-le-length (is_to_load (contents_of old)) chain in
          omega arith;
      entries = grows_more way.loads (entry_of_step whom next.faults cpu ∷ []) old b new way.grows grows;
      state =
          ap (λ (x : FlatState). after_event x (Step whom)) same
          ∙ fits
          ∙ ap (λ (x : FlatState). Some (applied x (Step whom))) state_is
          ∙ ap (λ (events : List Event). Some (after_events (state_of b.machine) events)) (sym (step_event cpu whom next.faults))
          ∙ ap (λ (x : FlatState). Some x) (sym grows.state);
      steps = steps ∙ ap (λ (n : ℕ). n + 1) still;
      there = λ name listed. let found = there name listed in (found.0, loaded found.0 found.1, found.2);
      stay = λ r here listed. loaded r (way.stay r here listed);
      marks = same_marks_more (contents_of old) (contents_of b) (contents_of new) places.loaded.residents way.marks places.marks;
      sealed = places.sealed ∙ way.sealed;
      checkouts = places.checkouts ∙ way.checkouts;
    }
      where
        loaded : (r : Resident) → Contains (residents_of (contents_of b)) r → Contains (residents_of (contents_of new)) r
        loaded r there = subst (λ (rs : List Resident). Contains rs r) (sym places.loaded.residents) there

-- what healed took exactly that step
pub has_stepped : (cpu : ℕ) (whom : ThreadNo) (old new : Recorded) → IsHealed cpu whom old new → HasStepped whom old new
has_stepped cpu whom old new healed = record {
  fits = healed.state;
  only =
      ap erase healed.entries.entries
      ∙ erase-append old.journal.entries (healed.loads ++ entry_of_step whom healed.next.faults cpu ∷ [])
      ∙ ap (λ (es : List Event). erase old.journal.entries ++ es) (erase-append healed.loads (entry_of_step whom healed.next.faults cpu ∷ [])
      ∙ ap (λ (es : List Event). es ++ erase (entry_of_step whom healed.next.faults cpu ∷ [])) (erase_loads cpu _ healed.chain _ _ _ _ healed.loads healed.are)
      ∙ step_event cpu whom healed.next.faults);
  steps = healed.steps;
  stay = λ r here listed. healed.stay r here ((healed.order.each r.name).1 listed);
  there = λ name listed. healed.there name ((healed.order.each name).1 listed);
}

-- ---- the chain that was collected

pub record IsChain (s : FlatState) (n : ℕ) (next : NextStep) (names : List Name) : Type 0 where
  pub order : IsChainInOrder s n next names
  pub once : AreAllOnce names
  pub few : IsFewByKind names
  pub parents : AreParentsFirst s names
  pub good : (name : Name) → Contains names name → MayBeChained s name

pub chain_so : (given m : Cached) → given ≡ m → (n : ℕ) (next : NextStep) (items names : List Name) → names ≡ items → IsChainInOrder (state_of given) n next items → AreAllOnce items → IsFewByKind items → AreParentsFirst (state_of given) items
    → ((name : Name) → Contains items name → MayBeChained (state_of given) name) → IsChain (state_of m) n next names
chain_so given m same n next items names are order once few parents good = subst (IsChain (state_of m) n next) (sym are) (subst (λ (x : Cached). IsChain (state_of x) n next items) same (record { order = order; once = once; few = few; parents = parents; good = good }))

pub formed_so : (b : Recorded) → IsSound b → IsWellFormed (state_of b.machine)
formed_so b sound = formed_told b.machine.machine b.machine.memory (contents_of b) b.sealed b.journal.entries sound.told

pub unmarked_still : (old new : Contents) (whom : ThreadNo) → HasLoadedMarks old new → mark_of old whom ≡ None → mark_of new whom ≡ None
unmarked_still old new whom marks none = marks.marks whom ∙ by (is_loaded new (Thread whom))
  where
    by : (on : Bool) → (if on then mark_of old whom else None) ≡ None
    by true = none
    by false = refl
