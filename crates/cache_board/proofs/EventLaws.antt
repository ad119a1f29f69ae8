-- Each call is one event.
use Rattle.std.proofs.Common.{◌≡◌, ℕ, zero, suc, Bool, true, false, List, [], ◌∷◌, ◌++◌, map, Option, Some, None, Result, Ok, Err, append_assoc, append-nil, refl, sym, ◌∙◌, ap, subst, inl, inr, arith}
use Rattle.std.specs.Prelude.{IfErr, IfNone, IfOk, IfSome, OnOk}
use Rattle.std.proofs.lemmas.List.{map-append}
use Rattle.cache_ident.specs.declared.idents.Ident.{Ident}
use Rattle.cache_ident.specs.declared.names.Caps.{Caps}
use Rattle.cache_ident.specs.declared.names.Name.{Name}
use Rattle.cache_ident.specs.declared.names.Name.TheVariants.{Mapping}
use Rattle.cache_ident.specs.declared.names.SpaceNo.{SpaceNo}
use Rattle.cache_ident.specs.declared.names.ThreadNo.{ThreadNo}
use Rattle.cache_ident.specs.declared.names.Vpn.{Vpn}
use Rattle.cache_ident.specs.Residents.{Resident}
use Rattle.cache_ident.specs.Names.{first_name}
use Rattle.flat_state.specs.declared.events.Decl.{Decl}
use Rattle.flat_state.specs.State.{FlatState}
use Rattle.run_journal.specs.declared.entries.Entry.{Entry}
use Rattle.run_journal.specs.declared.entries.Entry.TheVariants.{Completed, Declared, Ended, Loaded, Locked, Sealed}
use Rattle.run_journal.specs.Legal.{first_ident}
use Rattle.turn_lock.specs.Lists.{AllMadeBy, IsContinuedBy}
use Rattle.turn_lock.proofs.Lists.{all_append}
use Rattle.board_core.specs.board_ops.specs.declared.refusals.Refused.{Refused}
use Rattle.board_core.specs.desc_stores.specs.Contents.{Contents}
use Rattle.board_core.specs.desc_groups.specs.declared.departures.Gone.{Gone}
use Rattle.board_core.specs.desc_groups.specs.Moves.{gone_as}
use Rattle.board_core.specs.desc_tables.specs.Tables.{Held}
use Rattle.board_core.specs.quantum.specs.Ahead.{Ahead}
use Rattle.board_core.specs.board_laws.specs.Moves.{written_back}
use Rattle.board_core.specs.cached_machine.specs.Cached.{Cached}
use Rattle.board_core.specs.cached_machine.specs.Posts.{OnlyPosts}
use Rattle.board_core.specs.Answers.{IsRefused}
use Rattle.board_core.specs.Core.{IsSound, Recorded}
use Rattle.board_core.specs.Going.{AreMadeBy, GoesOn, Grew, IsOneEvent}
use Rattle.board_core.specs.Growth.{entries_of_run, entry_of_step, GrowsBy, IsRoomMade}
use Rattle.board_core.proofs.AheadLaws.{same_posted}
use Rattle.board_core.proofs.GoingLaws.{goes_on, goes_on_so, grew_by, grew_nothing, made_more, room_goes_on, room_grew}
use Rattle.board_commits.specs.board_threads.specs.declared.tickets.Ticket.{Ticket}
use Rattle.board_commits.specs.board_threads.specs.Faults.{HasEnded}
use Rattle.board_commits.specs.board_threads.specs.Posts.{IsCheckedOut, OnlyMarks}
use Rattle.board_commits.specs.Commits.{IsCommitted}
use Rattle.board_loads.specs.Holds.{entries_of_lock, IsLockedAs, IsUnloadedAs}
use Rattle.board_loads.specs.Loads.{IsLoadedAs}
use Rattle.board_calls.specs.Calls.{IsCompletion, IsDeclaring, IsSealing}
use Rattle.board_calls.specs.Departures.{LeaveInTurn, LeavesIfThere}
use Rattle.board_heal.specs.Healed.{IsHealed}
use Rattle.board_heal.specs.Loads.{AreLoads}
use Rattle.cache_board.specs.Events.{author_of, past_of}

-- ---- who makes the entries

departures_by : (cpu : ℕ) (gone : List Gone) → AreMadeBy cpu (written_back cpu gone)
departures_by cpu [] = tt
departures_by cpu (g ∷ gone) = (refl, departures_by cpu gone)

lock_by : (on was : Bool) (ident : Ident) (cpu : ℕ) → AreMadeBy cpu (entries_of_lock on was ident cpu)
lock_by true true ident cpu = tt
lock_by true false ident cpu = (refl, tt)
lock_by false true ident cpu = (refl, tt)
lock_by false false ident cpu = tt

run_by : (whom : ThreadNo) (steps cpu : ℕ) → AreMadeBy cpu (entries_of_run whom steps cpu)
run_by whom zero cpu = tt
run_by whom (suc steps) cpu = (refl, tt)

step_by : (whom : ThreadNo) (faults : Bool) (cpu : ℕ) → AreMadeBy cpu (entry_of_step whom faults cpu ∷ [])
step_by whom true cpu = (refl, tt)
step_by whom false cpu = (refl, tt)

loads_by : (cpu : ℕ) (caps : Caps) (chain names : List Name) (old : Contents) (at : ℕ) (new : Contents) (es : List Entry) → AreLoads cpu caps chain names old at new es → AreMadeBy cpu es
loads_by cpu caps chain [] old at new es (same, none) = rw none tt
loads_by cpu caps chain (name ∷ names) old at new es (mid, gone, ident, rest, first, told, are) =
    rw told (made_more cpu (written_back cpu gone ++ Loaded ident name cpu ∷ []) rest
    (made_more cpu (written_back cpu gone) (Loaded ident name cpu ∷ []) (departures_by cpu gone) (refl, tt)) (loads_by cpu caps chain names mid _ new rest are))

leaves_by : (s : FlatState) (cpu : ℕ) (ident : Ident) (rs : List Resident) (es : List Entry) (left : List Resident) → LeavesIfThere s cpu ident rs es left → AreMadeBy cpu es
leaves_by s cpu ident rs es left (inl gone) = rw gone.nothing tt
leaves_by s cpu ident rs es left (inr whole) = rw whole.told (departures_by cpu (gone_as _ whole.idents))

turns_by : (s : FlatState) (cpu : ℕ) (idents : List Ident) (rs : List Resident) (es : List Entry) (left : List Resident) → LeaveInTurn s cpu idents rs es left → AreMadeBy cpu es
turns_by s cpu [] rs es left turns = rw turns.0 tt
turns_by s cpu (ident ∷ idents) rs es left (first, later, between, told, leaves, turns) =
    rw told (made_more cpu first later (leaves_by s cpu ident rs first between leaves) (turns_by s cpu idents between later left turns))

-- ---- nothing is written

-- only processors changed
posts_grow : (old new : Recorded) (checkouts : ℕ) → OnlyPosts old.machine.held new.machine.held → new ≡ record old { machine = record old.machine { held = new.machine.held }; checkouts = checkouts } → GrowsBy [] old new
posts_grow old new checkouts only rest =
    let machine : new.machine ≡ record old.machine { held = new.machine.held } = ap (λ (b : Recorded). b.machine) rest in
    let spare : new.journal.spare ≡ old.journal.spare = ap (λ (b : Recorded). b.journal.spare) rest in
    record {
      entries = ap (λ (b : Recorded). b.journal.entries) rest ∙ sym (append-nil old.journal.entries);
      state = same_posted old.machine new.machine machine only;
      limit = ap (λ (b : Recorded). b.limit) rest;
      machine = ap (λ (m : Cached). m.machine) machine;
      caps = ap (λ (held : Held). held.caps) only.rest;
      spare = omega arith;
    }

-- ---- calls

module _ (cpu : ℕ) (old mid new : Recorded) (same : mid ≡ old) (was : IsSound old) (sound : IsSound new) where
  was_still : IsSound mid
  was_still = subst IsSound (sym same) was

  grew_since : Grew cpu mid new → Grew cpu old new
  grew_since grew = subst (λ (b : Recorded). Grew cpu b new) same grew

  went_on_since : GoesOn cpu mid new → GoesOn cpu old new
  went_on_since on = subst (λ (b : Recorded). GoesOn cpu b new) same on

  by_entries : (es : List Entry) → AreMadeBy cpu es → GrowsBy es mid new → Grew cpu mid new
  by_entries es made grows = grew_by cpu es mid new made grows was_still sound

  -- a call that is refused, or done
  refused_or : {A : Type 0} (result : Result A Refused) (refusal : Option Refused) (Done : A → Type 0) → IfErr result (IsRefused refusal mid new) → IfOk result Done → ((x : A) → Done x → GoesOn cpu mid new) → GoesOn cpu old new
  refused_or (Ok x) refusal Done refused done on = went_on_since (on x done)
  refused_or (Err why) refusal Done refused done on = went_on_since (room_goes_on cpu mid new refused.only)

  pub one_event : Grew cpu old new → IsOneEvent cpu old new
  one_event grew = record { grew = grew; was = was; sound = sound }

  -- ---- what owners call

  loaded : (name : Name) (ident : Ident) → IsLoadedAs cpu name ident mid new → GoesOn cpu mid new
  loaded name ident is =
      let gone = new.machine.held.gone in
      goes_on cpu mid new
      (by_entries (written_back cpu gone ++ Loaded ident name cpu ∷ []) (made_more cpu (written_back cpu gone) (Loaded ident name cpu ∷ []) (departures_by cpu gone) (refl, tt)) is.entries)
      is.marks is.checkouts

  pub load_goes_on : (result : Result Ident Refused) (refusal : Option Refused) (name : Name) → IfErr result (IsRefused refusal mid new) → IfOk result (λ ident. IsLoadedAs cpu name ident mid new) → GoesOn cpu old new
  load_goes_on result refusal name refused done = refused_or result refusal (λ ident. IsLoadedAs cpu name ident mid new) refused done (loaded name)

  -- the row of a page, in a space that is known by something
  pub row_goes_on : (result : Result Ident Refused) (refusal : Option Refused) (vpn : Vpn) (IsKnown : SpaceNo → Type 0) → IfErr result (IsRefused refusal mid new) → IfOk result (λ ident. (space : SpaceNo) × IsKnown space × IsLoadedAs cpu (Mapping space vpn) ident mid new) → GoesOn cpu old new
  row_goes_on result refusal vpn IsKnown refused done =
      refused_or result refusal (λ ident. (space : SpaceNo) × IsKnown space × IsLoadedAs cpu (Mapping space vpn) ident mid new) refused done (λ ident is. loaded (Mapping is.0 vpn) ident is.2)

  pub unload_goes_on : (result : Result (Unit {0}) Refused) (refusal : Option Refused) (ident : Ident) → IfErr result (IsRefused refusal mid new) → OnOk result (IsUnloadedAs cpu ident mid new) → GoesOn cpu old new
  unload_goes_on result refusal ident refused done =
      let gone = new.machine.held.gone in
      refused_or result refusal (λ _. IsUnloadedAs cpu ident mid new) refused done (λ _ is. goes_on cpu mid new (by_entries (written_back cpu gone) (departures_by cpu gone) is.entries) is.marks is.checkouts)

  pub lock_goes_on : (result : Result (Unit {0}) Refused) (refusal : Option Refused) (ident : Ident) (on : Bool) → IfErr result (IsRefused refusal mid new) → OnOk result (IsLockedAs cpu ident on mid new) → GoesOn cpu old new
  lock_goes_on result refusal ident on refused done =
      refused_or result refusal (λ _. IsLockedAs cpu ident on mid new) refused done (λ _ is.
      goes_on_so cpu mid new (by_entries (entries_of_lock on is.found.locked ident cpu) (lock_by on is.found.locked ident cpu) is.entries) is.marks is.checkouts)

  pub completion_goes_on : (result : Result (Unit {0}) Refused) (refusal : Option Refused) (thread : Ident) → IfErr result (IsRefused refusal mid new) → OnOk result (IsCompletion cpu thread mid new) → GoesOn cpu old new
  completion_goes_on result refusal thread refused done =
      refused_or result refusal (λ _. IsCompletion cpu thread mid new) refused done (λ _ is.
      goes_on cpu mid new
      (by_entries (is.departures ++ Completed is.no cpu ∷ []) (made_more cpu is.departures (Completed is.no cpu ∷ []) (turns_by _ cpu is.idents _ is.departures _ is.turns) (refl, tt)) is.grows)
      is.marks is.checkouts)

  pub fault_goes_on : (result : Result (Unit {0}) Refused) (refusal : Option Refused) (thread : Ident) → IfErr result (IsRefused refusal mid new) → OnOk result (HasEnded thread cpu mid new) → GoesOn cpu old new
  fault_goes_on result refusal thread refused done =
      refused_or result refusal (λ _. HasEnded thread cpu mid new) refused done (λ _ is. goes_on_so cpu mid new (by_entries (Ended is.whom cpu ∷ []) (refl, tt) is.entries) is.marks is.checkouts)

  pub heal_goes_on : (result : Result (Unit {0}) Refused) (refusal : Option Refused) (whom : ThreadNo) → IfErr result (IsRefused refusal mid new) → OnOk result (IsHealed cpu whom mid new) → GoesOn cpu old new
  heal_goes_on result refusal whom refused done =
      refused_or result refusal (λ _. IsHealed cpu whom mid new) refused done (λ _ is.
      goes_on cpu mid new
      (by_entries (is.loads ++ entry_of_step whom is.next.faults cpu ∷ []) (made_more cpu is.loads (entry_of_step whom is.next.faults cpu ∷ []) (loads_by cpu _ is.chain _ _ _ is.loaded is.loads is.are) (step_by whom is.next.faults cpu)) is.entries)
      is.marks is.checkouts)

  pub room_event : IsRoomMade mid new → IsOneEvent cpu old new
  room_event only = one_event (grew_since (room_grew cpu mid new only))

  -- ---- threads on processors

  posted : (checkouts : ℕ) → OnlyPosts mid.machine.held new.machine.held → new ≡ record mid { machine = record mid.machine { held = new.machine.held }; checkouts = checkouts } → Grew cpu mid new
  posted checkouts only rest = by_entries [] tt (posts_grow mid new checkouts only rest)

  pub checkout_event : (result : Option Ticket) → IfNone result (new ≡ mid) → IfSome result (λ ticket. IsCheckedOut ticket.no cpu mid new) → IsOneEvent cpu old new
  checkout_event None nothing out = one_event (grew_since (subst (λ (b : Recorded). Grew cpu mid b) (sym nothing) (grew_nothing cpu mid)))
  checkout_event (Some ticket) nothing out = one_event (grew_since (posted _ out.only out.rest))

  pub marks_event : OnlyMarks mid new → IsOneEvent cpu old new
  marks_event is = one_event (grew_since (posted mid.checkouts is.only is.rest))

-- ---- commits, declarations and the seal

module _ (old mid new : Recorded) (same : mid ≡ old) (was : IsSound old) (sound : IsSound new) where
  grew_or : {A : Type 0} (cpu : ℕ) (result : Result A Refused) (refusal : Option Refused) (Done : A → Type 0) → IfErr result (IsRefused refusal mid new) → IfOk result Done → ((x : A) → Done x → Grew cpu mid new) → IsOneEvent cpu old new
  grew_or cpu (Ok x) refusal Done refused done grew = one_event cpu old mid new same was sound (grew_since cpu old mid new same was sound (grew x done))
  grew_or cpu (Err why) refusal Done refused done grew = room_event cpu old mid new same was sound refused.only

  pub commit_event : (result : Result ℕ Refused) (refusal : Option Refused) (ticket : Ticket) (a : Ahead) → IfErr result (IsRefused refusal mid new) → OnOk result (IsCommitted ticket a mid new) → IsOneEvent ticket.cpu old new
  commit_event result refusal ticket a refused done =
      grew_or ticket.cpu result refusal (λ _. IsCommitted ticket a mid new) refused done (λ _ is.
      by_entries ticket.cpu old mid new same was sound (entries_of_run is.whom a.steps ticket.cpu) (run_by is.whom a.steps ticket.cpu) is.entries)

  pub declare_event : (result : Result (Unit {0}) Refused) (refusal : Option Refused) (d : Decl) → IfErr result (IsRefused refusal mid new) → OnOk result (IsDeclaring d mid new) → IsOneEvent 0 old new
  declare_event result refusal d refused done =
      grew_or 0 result refusal (λ _. IsDeclaring d mid new) refused done (λ _ is. by_entries 0 old mid new same was sound (Declared d ∷ []) (refl, tt) is.grows)

  pub seal_event : (result : Result Ident Refused) (refusal : Option Refused) → IfErr result (IsRefused refusal mid new) → IfOk result (IsSealing mid new) → IsOneEvent 0 old new
  seal_event result refusal refused done =
      grew_or 0 result refusal (IsSealing mid new) refused done (λ _ is.
      by_entries 0 old mid new same was sound (Sealed ∷ Loaded first_ident first_name 0 ∷ Locked first_ident 0 ∷ []) (refl, (refl, (refl, tt))) is.grows)

-- ---- the past

-- the entries, each with the limit
abbrev with_limit : ℕ → List Entry → List (Entry × ℕ)
with_limit limit es = map (λ e. (e, limit)) es

authored : (cpu limit : ℕ) (es : List Entry) → AreMadeBy cpu es → AllMadeBy author_of cpu (with_limit limit es)
authored cpu limit [] made = tt
authored cpu limit (e ∷ es) made = (made.0, authored cpu limit es made.1)

pub past_continued : (cpu : ℕ) (found : List (Entry × ℕ)) (old new : Recorded) → IsContinuedBy author_of cpu found (past_of old) → IsOneEvent cpu old new → IsContinuedBy author_of cpu found (past_of new)
past_continued cpu found old new before event =
    let more = with_limit old.limit event.grew.entries in
    let limits : past_of new ≡ with_limit old.limit new.journal.entries = ap (λ (limit : ℕ). with_limit limit new.journal.entries) event.grew.grows.limit in
    let split : with_limit old.limit new.journal.entries ≡ past_of old ++ more = ap (with_limit old.limit) event.grew.grows.entries ∙ map-append _ old.journal.entries event.grew.entries in (
      before.0 ++ more,
      sym (append_assoc found before.0 more) ∙ ap (λ (known : List (Entry × ℕ)). known ++ more) before.1 ∙ sym split ∙ sym limits,
      all_append (λ (e : Entry × ℕ). author_of e ≡ cpu) before.0 more before.2 (authored cpu old.limit event.grew.entries event.grew.made),
    )
