-- What a completion finds, and what it leaves.
use Rattle.std.proofs.Common.{◌≡◌, ◌≢◌, ℕ, ◌+◌, ◌<◌, ◌≤◌, true, List, [], ◌∷◌, length, Some, slice_get, refl, sym, ◌∙◌, ap, subst, inl, inr, arith}
use Rattle.std.proofs.lemmas.Option.{same_Some, slice_get_within}
use Rattle.std.specs.List.Sorted.{IsNonDecreasingBy}
use Rattle.cache_ident.specs.declared.classes.Class.TheVariants as classes
use Rattle.cache_ident.specs.declared.idents.Ident.{Ident}
use Rattle.cache_ident.specs.declared.idents.Kind.TheVariants as kind
use Rattle.cache_ident.specs.declared.names.Name.{Name}
use Rattle.cache_ident.specs.declared.names.Name.TheVariants as name
use Rattle.cache_ident.specs.declared.names.ThreadNo.{ThreadNo}
use Rattle.cache_ident.specs.Names.{kind_of}
use Rattle.cache_ident.specs.Residents.{Resident, IsNameResident, IsResident}
use Rattle.flat_state.specs.declared.events.Event.TheVariants.{Complete}
use Rattle.flat_state.specs.Call.{is_completable}
use Rattle.flat_state.specs.Events.{applied}
use Rattle.flat_state.specs.Names.{class_of}
use Rattle.flat_state.specs.State.{FlatState}
use Rattle.flat_state.specs.WellFormed.{IsWellFormed}
use Rattle.flat_state.proofs.FormedEvents.{applied_formed}
use Rattle.flat_rules.specs.Readings.{OfThread}
use Rattle.board_core.specs.flat_events.specs.declared.asked.Asked.TheVariants.{Nothing}
use Rattle.board_core.specs.flat_events.specs.Asked.{asked_of}
use Rattle.board_checks.specs.flat_laws.proofs.EventKeeps.{event_keeps}
use Rattle.board_checks.specs.flat_laws.proofs.StepSame.{same_class}
use Rattle.board_checks.specs.run_journal.specs.declared.entries.Entry.TheVariants as entry
use Rattle.board_checks.specs.run_journal.specs.Legal.{AreGood}
use Rattle.board_checks.specs.thread_cache.specs.declared.ThreadRec.{ThreadRec}
use Rattle.board_checks.specs.desc_stores.specs.declared.items.Item.TheVariants as item
use Rattle.board_checks.specs.desc_stores.specs.Contents.{content_of, item_as, residents_of, Contents}
use Rattle.board_checks.specs.shown_state.specs.Shown.{flat_thread, thread_of}
use Rattle.board_checks.specs.shown_state.proofs.LookupLemmas.{found_thread}
use Rattle.board_core.specs.store_residents.proofs.ContentLemmas.{resident_item}
use Rattle.board_core.specs.store_residents.proofs.ResidentLemmas.{one_each, resident_kind}
use Rattle.board_checks.specs.desc_groups.specs.Whole.{IsWhole}
use Rattle.board_checks.specs.desc_parents.specs.Seen.{seen}
use Rattle.board_core.specs.cached_machine.specs.Cached.{state_of}
use Rattle.board_core.specs.Core.{contents_of, Recorded}
use Rattle.board_core.specs.Growth.{count_loaded, GrowsBy, KeepsPlaces, IsRoomMade}
use Rattle.board_core.proofs.GrowthLaws.{grows_more, same_marks_more}
use Rattle.board_core.proofs.RoomLaws.{rooms_more, same_seen}
use Rattle.board_checks.proofs.IdentifierLemmas.{item_resident}
use Rattle.board_calls.specs.Calls.{IsCompletion}
use Rattle.board_calls.specs.Departures.{AreDepartures, HaveLeft, LeaveInTurn}
use Rattle.board_calls.specs.Leaving.{AreBad}
use Rattle.board_calls.proofs.GroupLaws.{all_left, left_good, AreLeft}
use Rattle.board_calls.proofs.RowLaws.{seen_same}
use Rattle.board_calls.proofs.TurnLaws.{departures_since}

-- ---- the thread

module _ (a : Recorded) (whole : IsWhole (contents_of a)) (thread : Ident) (found : ThreadRec) (is : item_as (contents_of a) thread ≡ Some (item.Thread found)) where
  pub thread_resident : IsResident (residents_of (contents_of a)) thread (name.Thread found.no)
  thread_resident = item_resident (contents_of a) thread whole.2.one (item.Thread found) is

  pub thread_shown : slice_get (state_of a.machine).threads found.no.0 ≡ Some (flat_thread found)
  thread_shown =
      let c = contents_of a in
      let r = thread_resident in
      let content : content_of c (name.Thread found.no) ≡ Some (item.Thread found) = ap (content_of c) (sym r.3) ∙ sym (resident_item c whole.2.one r.0 r.1) ∙ ap (item_as c) r.2 ∙ is in
      found_thread (Some a.machine.machine) a.machine.memory c whole.2.one found.no.0 ∙ ap thread_of content

  pub thread_within : found.no.0 < length (state_of a.machine).threads
  thread_within = slice_get_within (state_of a.machine).threads found.no.0 (flat_thread found) thread_shown

  pub thread_completable : is_completable (flat_thread found) ≡ true → OfThread (state_of a.machine) found.no.0 (λ t. is_completable t ≡ true)
  thread_completable completable t here = ap is_completable (same_Some t (flat_thread found) (sym here ∙ thread_shown)) ∙ completable

  pub some_loaded : 0 < count_loaded a
  some_loaded = let r = thread_resident in let within = r.1.1 in omega arith

-- a thread is no message row
no_thread : (s : FlatState) (which : ThreadNo) → class_of s (name.Thread which) ≡ classes.MessageRow → ⊥
unfolding class_of
no_thread s which message = let clash : classes.Thread ≡ classes.MessageRow = message in cc

-- ---- what left

module _ (cpu : ℕ) (a b d : Recorded) (idents : List Ident) (whole : IsWhole (contents_of a)) (made : IsRoomMade a b) (left : HaveLeft cpu idents b d) where
  abbrev c : Contents
  c = contents_of a

  abbrev rs : List Resident
  rs = residents_of c

  -- since before the room was made
  pub since : AreDepartures left.entries a d
  since = departures_since cpu idents a b d made left

  pub turns : LeaveInTurn (seen c) cpu idents rs left.entries (residents_of (contents_of d))
  turns =
      subst (λ (xs : List Resident). LeaveInTurn (seen c) cpu idents xs left.entries (residents_of (contents_of d))) made.only.loaded.residents
      (subst (λ (s : FlatState). LeaveInTurn s cpu idents (residents_of (contents_of b)) left.entries (residents_of (contents_of d))) (same_seen a b made) left.turns)

  -- there is room for an entry more
  pub room_left : count_loaded a + 1 ≤ b.journal.spare → 1 ≤ d.journal.spare
  room_left room =
      let few = since.fewer in
      let same = ap (λ (xs : List Resident). length xs) made.only.loaded.residents in
      let spare = left.are.grows.spare in
      let fewer = left.are.fewer in
      omega arith

  module _ (whom : ThreadNo) (bad : AreBad (applied (state_of a.machine) (Complete whom)) rs idents) where
    are_left : AreLeft (seen c) idents rs (residents_of (contents_of d))
    are_left =
        all_left (seen c) cpu idents rs left.entries (residents_of (contents_of d)) (one_each c whole.2.one) (resident_kind c whole.2.one.sound) (λ i there. (bad.bad i there).row) turns

    -- of the machine that is shown the same rows are message rows
    are_left_shown : AreLeft (state_of a.machine) idents rs (residents_of (contents_of d))
    are_left_shown = record {
      stay = λ q q_there. elim (are_left.stay q q_there) [
        | inl still ↦ inl still
        | inr out ↦ elim out [
          | inl within ↦ inr (inl within)
          | inr message ↦ inr (inr (sym (same_class (state_of a.machine) (seen c) (seen_same (Some a.machine.machine) a.machine.memory c) q.name) ∙ message))
        ]
      ];
      were = are_left.were;
      gone = are_left.gone;
      one = are_left.one;
    }

    -- what is left is good once the call is completed
    pub good_then : IsWellFormed (state_of a.machine) → AreGood (state_of a.machine) rs → AreGood (applied (state_of d.machine) (Complete whom)) (residents_of (contents_of d))
    good_then formed good =
        let s = state_of a.machine in
        subst (λ (t : FlatState). AreGood (applied t (Complete whom)) (residents_of (contents_of d))) (sym since.state)
        (left_good s (applied s (Complete whom)) idents rs (residents_of (contents_of d)) (applied_formed s (Complete whom) formed) (event_keeps s (Complete whom)) (one_each c whole.2.one) good bad are_left_shown)

    -- a thread that was loaded is
    pub thread_left : (which : ThreadNo) → IsNameResident rs (name.Thread which) → IsNameResident (residents_of (contents_of d)) (name.Thread which)
    thread_left which r = elim (are_left.stay r.0 r.1) [
      | inl still ↦ (r.0, still, r.2)
      | inr out ↦ elim out [
        | inl within ↦ absurd (
            let clash : kind.Thread ≡ kind.Mapping = sym (resident_kind c whole.2.one.sound r.0 r.1 ∙ ap kind_of r.2) ∙ (bad.bad r.0.ident within).row in
            cc
            )
        | inr message ↦ absurd (no_thread (seen c) which (subst (λ (n : Name). class_of (seen c) n ≡ classes.MessageRow) r.2 message))
      ]
    ]

    -- the whole call
    pub completion : (e : Recorded) (thread : Ident) → IsResident rs thread (name.Thread whom) → IsNonDecreasingBy (λ (i : Ident). i.serial) idents → GrowsBy (entry.Completed whom cpu ∷ []) d e → KeepsPlaces d e → IsCompletion cpu thread a e
    completion e thread r ordered grows places = record {
      no = whom;
      its = r;
      idents = idents;
      bad = bad;
      ordered = ordered;
      departures = left.entries;
      turns = subst (λ (xs : List Resident). LeaveInTurn (seen c) cpu idents rs left.entries xs) (sym places.loaded.residents) turns;
      grows = grows_more left.entries (entry.Completed whom cpu ∷ []) a d e since.grows grows;
      state = grows.state ∙ ap (λ (t : FlatState). applied t (Complete whom)) since.state;
      marks = same_marks_more c (contents_of d) (contents_of e) places.loaded.residents since.marks places.marks;
      sealed = places.sealed ∙ since.sealed;
      checkouts = places.checkouts ∙ since.checkouts;
      spare = let before = since.spare in let same = places.spare in omega arith;
    }

-- ---- refusals

-- where the completion itself is refused nothing has left
pub nothing_left : (a b d e : Recorded) (idents : List Ident) → IsRoomMade a b → (idents ≡ [] → d ≡ b) → IsRoomMade d e → (idents ≢ [] → ⊥) → IsRoomMade a e
nothing_left a b d e [] made same more never = rooms_more a b e made (subst (λ (x : Recorded). IsRoomMade x e) (same refl) more)
nothing_left a b d e (ident ∷ idents) made same more never = absurd (never (λ empty. cc))

-- since what asks for nothing leaves nothing
pub asks_for_some : (s t : FlatState) (n : ℕ) (idents : List Ident) → s ≡ t → idents ≢ [] → OfThread s n (λ x. asked_of s x ≡ Nothing → idents ≡ []) → OfThread t n (λ x. asked_of t x ≢ Nothing)
asks_for_some s t n idents same some quiet x here nothing = some (subst (λ (w : FlatState). OfThread w n (λ y. asked_of w y ≡ Nothing → idents ≡ [])) same quiet x here nothing)
