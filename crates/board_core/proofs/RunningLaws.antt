-- Steps and completed calls, with their entries.
use Rattle.std.proofs.Common.{◌≡◌, ℕ, ◌+◌, ◌<◌, ◌≤◌, Bool, true, false, List, [], ◌∷◌, ◌++◌, length, Option, Some, None, is_some, slice_get, refl, ap, sym, ◌∙◌, subst, inl, inr, arith}
use Rattle.std.specs.Prelude.{not, unwrap_or, ◌&&◌}
use Rattle.std.specs.Option.{option_map}
use Rattle.std.proofs.lemmas.Bool.{cases_eq}
use Rattle.cache_ident.specs.declared.names.Frame.{Frame}
use Rattle.cache_ident.specs.declared.names.Name.{Name}
use Rattle.cache_ident.specs.declared.names.Name.TheVariants as name
use Rattle.cache_ident.specs.declared.names.ThreadNo.{ThreadNo}
use Rattle.cache_ident.specs.Residents.{IsNameResident}
use Rattle.cache_ident.specs.declared.names.Caps.{Caps}
use Rattle.cache_ident.specs.declared.idents.Ident.{Ident}
use Rattle.board_ops.specs.depend_lists.specs.declared.nodes.Node.{Node}
use Rattle.phys_groups.specs.Memory.{page_at, HasFrame}
use Rattle.rv32_exec.specs.declared.statuses.Status.{Status}
use Rattle.rv32_exec.specs.declared.statuses.Status.TheVariants.{Ready}
use Rattle.flat_state.specs.declared.events.Event.TheVariants.{Complete, Step}
use Rattle.flat_state.specs.declared.events.Machine.{Machine}
use Rattle.flat_state.specs.declared.records.FlatThread.{FlatThread}
use Rattle.flat_state.specs.declared.records.NextStep.{NextStep}
use Rattle.flat_state.specs.Call.{is_completable, waits}
use Rattle.flat_state.specs.Events.{applied, flat}
use Rattle.flat_state.specs.Names.{stands}
use Rattle.flat_state.specs.NextSteps.{next_step, next_step_of}
use Rattle.flat_state.specs.State.{is_trapped, FlatState}
use Rattle.flat_state.specs.Step.{after_step}
use Rattle.flat_state.specs.WellFormed.{IsWellFormed}
use Rattle.board_ops.specs.flat_laws.proofs.RightsLaws.{keeps_size}
use Rattle.flat_rules.specs.Readings.{OfThread}
use Rattle.run_journal.specs.declared.entries.Entry.{Entry}
use Rattle.run_journal.specs.declared.entries.Entry.TheVariants.{Completed}
use Rattle.run_journal.specs.Entries.{erase, steps_in, Written}
use Rattle.run_journal.specs.Legal.{after_steps, MayStep}
use Rattle.run_journal.proofs.Growth.{steps-append}
use Rattle.cached_machine.specs.desc_stores.specs.Contents.{content_of, residents_of, Contents}
use Rattle.cached_machine.specs.desc_stores.specs.Sound.{IsExactlyOne}
use Rattle.cached_machine.specs.shown_state.specs.Shown.{shown}
use Rattle.cached_machine.specs.shown_state.proofs.LookupLemmas.{all_found}
use Rattle.cached_machine.specs.store_residents.proofs.ContentLemmas.{resident_content}
use Rattle.cached_machine.specs.desc_groups.specs.Whole.{AreWhole}
use Rattle.cached_machine.specs.board_laws.specs.Telling.{AreAsTold}
use Rattle.cached_machine.specs.board_laws.proofs.Growing.{formed_told, state_is_flat}
use Rattle.cached_machine.specs.board_laws.proofs.Runs.{completed_told, ended_told, ran_told}
use Rattle.cached_machine.specs.Aside.{aside_of, Aside}
use Rattle.cached_machine.specs.Cached.{state_of, Cached}
use Rattle.cached_machine.specs.Moved.{IsCompleted}
use Rattle.cached_machine.specs.Posts.{mark_of, HasSameMarks, OnlyLoadedAreOut}
use Rattle.cached_machine.proofs.AlikeLaws.{same_loaded, same_out}
use Rattle.cached_machine.proofs.AsideLaws.{loaded_stays, marks_stay, residents_stay}
use Rattle.board_core.specs.Core.{contents_of, AreCounted, AreReady, IsSound, Recorded}
use Rattle.board_core.specs.Growth.{entry_of_step, KeepsPlaces}
use Rattle.board_core.specs.Stamps.{frame_stored, stamped_at, AreStamped, AreStamps, IsWithin}
use Rattle.board_core.proofs.OpeningLaws.{memory_shown}
use Rattle.board_core.proofs.OthersLaws.{call_fits, call_memory, call_others, step_others, OthersStay}
use Rattle.board_core.proofs.SoundLaws.{told_again, HasSoundTables}
use Rattle.board_core.proofs.StampLaws.{have_places, one_stamped, stamps_grow}
use Rattle.board_core.proofs.StoredLaws.{step_elsewhere, stored_within}

-- ---- what isn't changed by steps

pub places_aside : (old now new : Recorded) → old ≡ now → aside_of new.machine ≡ aside_of old.machine → new.sealed ≡ old.sealed → new.checkouts ≡ old.checkouts → KeepsPlaces now new
places_aside old now new is same sealed checkouts = subst (λ (b : Recorded). KeepsPlaces b new) is (record {
  loaded = loaded_stays old.machine new.machine same;
  marks = marks_stay old.machine new.machine same;
  sealed = sealed;
  checkouts = checkouts;
  spare = ap (λ (a : Aside). a.spare) same;
})

-- ---- who is ready

number_is : (a b : ThreadNo) → a.0 ≡ b.0 → a ≡ b
number_is a b same = ap (λ (n : ℕ). let no : ThreadNo = record { 0 = n } in no) same

pub others_ready : (old : Recorded) (machine : Cached) (whom : ThreadNo) → IsSound old → HasSameMarks (contents_of old) machine.held.contents → mark_of (contents_of old) whom ≡ None → OthersStay whom.0 (state_of old.machine).threads (state_of machine).threads → AreReady machine
others_ready old machine whom sound marks none stay other cpu is =
    let was = sym (marks.marks other) ∙ is in
    let before = sound.marks other cpu was in
    record {
      processor = before.processor;
      ready = λ u there. elim (cases_eq other.0 whom.0) [
        | inl same ↦ absurd (let on = sym (ap (mark_of (contents_of old)) (number_is other whom same)) ∙ was in cc)
        | inr apart ↦ elim (stay.each other.0 u apart there) [
          | inl ready ↦ ready
          | inr was_so ↦ was_so.2 ∙ before.ready was_so.0 was_so.1
        ]
      ];
    }

pub same_counts : (old new : Contents) (checkouts : ℕ) → HasSameMarks old new → AreCounted old checkouts → AreCounted new checkouts
same_counts old new checkouts marks counted whom = let last = marks.lasts whom in let was = counted whom in omega arith

-- a thread that is loaded stands
pub loaded_stands : (m : Machine) (memory : List ℕ) (c : Contents) (whom : ThreadNo) → IsExactlyOne c → IsNameResident (residents_of c) (name.Thread whom) → is_some (slice_get (shown (Some m) memory c).threads whom.0) ≡ true
unfolding stands
loaded_stands m memory c whom one there =
    (all_found (Some m) memory c one).stands (name.Thread whom) ∙ subst (λ (n : Name). is_some (content_of c n) ≡ true) there.2 (resident_content c one there.0 there.1)

pub thread_of_some : (o : Option FlatThread) → is_some o ≡ true → (t : FlatThread) × (o ≡ Some t)
thread_of_some None some = absurd (cc)
thread_of_some (Some t) some = (t, refl)

-- whose call can be completed is on no processor
pub trapped_unmarked : (old : Recorded) (whom : ThreadNo) (t : FlatThread) → IsSound old → slice_get (state_of old.machine).threads whom.0 ≡ Some t → is_completable t ≡ true → mark_of (contents_of old) whom ≡ None
trapped_unmarked old whom t sound here able = by (mark_of (contents_of old) whom) refl
  where
    trapped : (status : Status) (waiting : Bool) → status ≡ Ready → (is_trapped status && not waiting) ≡ true → ⊥
    trapped status waiting ready both = let no_trap : is_trapped status ≡ false = ap is_trapped ready in let none : (is_trapped status && not waiting) ≡ false = ap (λ (b : Bool). b && not waiting) no_trap in absurd (cc)

    by : (o : Option ℕ) → mark_of (contents_of old) whom ≡ o → o ≡ None
    by None is = refl
    by (Some cpu) is = absurd (trapped t.status (waits t) ((sound.marks whom cpu is).ready t here) able)

-- ---- one entry more

module _ (old : Recorded) (machine : Cached) (w : Written) (e : Entry) (sound : IsSound old) (sealed : old.sealed ≡ true) (grown : w.entries ≡ old.journal.entries ++ e ∷ []) (same_machine : machine.machine ≡ old.machine.machine)
    (told : AreAsTold old.machine.machine machine.memory machine.held.contents true (old.journal.entries ++ e ∷ [])) (tables : HasSoundTables machine) where
  memory_then : (flat (erase (old.journal.entries ++ e ∷ []))).memory ≡ machine.memory
  memory_then =
      ap (λ (s : FlatState). s.memory) (sym (state_is_flat old.machine.machine machine.memory machine.held.contents true (old.journal.entries ++ e ∷ []) told))
      ∙ memory_shown old.machine.machine machine.memory machine.held.contents

  pub entry_sound : (n at : ℕ) (news : List ℕ) → at ≡ length w.entries → n ≡ old.steps + steps_in (e ∷ []) → n ≤ old.limit → AreReady machine → OnlyLoadedAreOut machine.held.contents → AreCounted machine.held.contents old.checkouts
      → AreStamped at old.machine.memory old.stamps machine.memory news → IsSound (record old { machine = machine; journal = w; steps = n; stamps = news })
  entry_sound n at news end steps within ready out counted stamped =
      let j = old.journal.entries in
      let more : steps_in (j ++ e ∷ []) ≡ steps_in j + steps_in (e ∷ []) = steps-append j (e ∷ []) in
      let before = sound.steps in
      let whole = ap steps_in grown in
      record {
        told = told_again old.machine.machine machine.machine machine.memory machine.memory machine.held.contents old.sealed (j ++ e ∷ []) w.entries same_machine refl grown
            (subst (λ (b : Bool). AreAsTold old.machine.machine machine.memory machine.held.contents b (j ++ e ∷ [])) (sym sealed) told);
        steps = omega arith;
        limit = within;
        marks = ready;
        out = out;
        lasts = counted;
        stamps = subst (λ (k : List Entry). AreStamps k machine.memory news) (sym grown) (stamps_grow j e old.machine.memory old.stamps machine.memory news memory_then at (end ∙ ap length grown) sound.stamps stamped);
        tables = tables;
      }

-- ---- a step

thread_next : (s : FlatState) (n : ℕ) (next : NextStep) → next_step s n ≡ Some next → (t : FlatThread) × (slice_get s.threads n ≡ Some t)
unfolding next_step
thread_next s n next is = by (slice_get s.threads n) refl
  where
    by : (o : Option FlatThread) → slice_get s.threads n ≡ o → (t : FlatThread) × (slice_get s.threads n ≡ Some t)
    by None here = absurd (let none : option_map (next_step_of s) (slice_get s.threads n) ≡ None = ap (option_map (next_step_of s)) here in cc)
    by (Some t) here = (t, here)

step_size : (s : FlatState) (n : ℕ) (o : Option FlatState) → after_step s n ≡ o → length (unwrap_or o s).memory ≡ length s.memory
step_size s n None is = refl
step_size s n (Some u) is = keeps_size s u n is

steps_elsewhere : (s : FlatState) (n : ℕ) (next : NextStep) → IsWellFormed s → next_step s n ≡ Some next → next.runnable ≡ true → (o : Option FlatState) → after_step s n ≡ o
    → (frame : Frame) → HasFrame s.memory frame → (frame_stored s next ≡ Some frame → ⊥) → page_at (unwrap_or o s).memory frame ≡ page_at s.memory frame
steps_elsewhere s n next formed is runs None after frame there apart = refl
steps_elsewhere s n next formed is runs (Some u) after frame there apart = let t = thread_next s n next is in step_elsewhere s u n t.0 next formed t.1 after is runs frame there apart

no_steps_yet : (n : ℕ) → n < 1 → n ≡ 0
no_steps_yet n low = omega arith

module _ (old : Recorded) (machine : Cached) (whom : ThreadNo) (next : NextStep) (cpu : ℕ) (sound : IsSound old) (sealed : old.sealed ≡ true) (few : cpu < 8)
    (is : next_step (state_of old.machine) whom.0 ≡ Some next) (may : MayStep (state_of old.machine) (residents_of (contents_of old)) whom next.faults)
    (loaded : IsNameResident (residents_of (contents_of old)) (name.Thread whom)) (unmarked : mark_of (contents_of old) whom ≡ None)
    (state : state_of machine ≡ applied (state_of old.machine) (Step whom)) (aside : aside_of machine ≡ aside_of old.machine) where
  told_sealed : AreAsTold old.machine.machine old.machine.memory (contents_of old) true old.journal.entries
  told_sealed = subst (λ (b : Bool). AreAsTold old.machine.machine old.machine.memory (contents_of old) b old.journal.entries) sealed sound.told

  formed_now : IsWellFormed (state_of old.machine)
  formed_now = formed_told old.machine.machine old.machine.memory (contents_of old) true old.journal.entries told_sealed

  pub same_machine_stepped : machine.machine ≡ old.machine.machine
  same_machine_stepped = ap (λ (a : Aside). a.machine) aside

  shown_then : shown (Some old.machine.machine) machine.memory machine.held.contents ≡ after_steps (state_of old.machine) whom 1
  shown_then = ap (λ (m : Machine). shown (Some m) machine.memory machine.held.contents) (sym same_machine_stepped) ∙ state

  by_fault : (faults : Bool) → MayStep (state_of old.machine) (residents_of (contents_of old)) whom faults → AreAsTold old.machine.machine machine.memory machine.held.contents true (old.journal.entries ++ entry_of_step whom faults cpu ∷ [])
  by_fault true step = ended_told old.machine.machine old.machine.memory machine.memory (contents_of old) machine.held.contents old.journal.entries whom cpu told_sealed few loaded (loaded_stays old.machine machine aside) step shown_then
  by_fault false step =
      ran_told old.machine.machine old.machine.memory machine.memory (contents_of old) machine.held.contents old.journal.entries whom cpu told_sealed few loaded (loaded_stays old.machine machine aside) 1 (omega arith)
      (λ n low. subst (λ (k : ℕ). MayStep (after_steps (state_of old.machine) whom k) (residents_of (contents_of old)) whom false) {x = 0} {y = n} (sym (no_steps_yet n low)) step) shown_then

  steps_of_entry : (faults : Bool) → steps_in (entry_of_step whom faults cpu ∷ []) ≡ 1
  steps_of_entry true = refl
  steps_of_entry false = refl

  runs : next.runnable ≡ true
  runs = let its = may.its in let on = may.runs in let same : may.next ≡ next = cc in ap (λ (x : NextStep). x.runnable) (sym same) ∙ on

  memory_stepped : machine.memory ≡ (applied (state_of old.machine) (Step whom)).memory
  memory_stepped = sym (memory_shown machine.machine machine.memory machine.held.contents) ∙ ap (λ (s : FlatState). s.memory) state

  pub has_stored_stamp : IsWithin (frame_stored (state_of old.machine) next) old.stamps
  has_stored_stamp =
      stored_within (state_of old.machine) next old.stamps formed_now
      (λ frame there. have_places old.journal.entries old.machine.memory old.stamps sound.stamps frame (subst (λ (m : List ℕ). HasFrame m frame) (memory_shown old.machine.machine old.machine.memory (contents_of old)) there))

  stamped : (at : ℕ) → AreStamped at old.machine.memory old.stamps machine.memory (stamped_at (frame_stored (state_of old.machine) next) at old.stamps)
  stamped at =
      let s = state_of old.machine in
      let was = memory_shown old.machine.machine old.machine.memory (contents_of old) in
      one_stamped at old.machine.memory old.stamps machine.memory (frame_stored s next)
      (ap length memory_stepped ∙ step_size s whom.0 (after_step s whom.0) refl ∙ ap length was)
      has_stored_stamp
      (λ frame there apart.
      ap (λ (x : List ℕ). page_at x frame) memory_stepped
      ∙ steps_elsewhere s whom.0 next formed_now is runs (after_step s whom.0) refl frame (subst (λ (m : List ℕ). HasFrame m frame) (sym was) there) apart
      ∙ ap (λ (x : List ℕ). page_at x frame) was)

  pub step_sound : HasSoundTables machine → (w : Written) (at : ℕ) (news : List ℕ) → w.entries ≡ old.journal.entries ++ entry_of_step whom next.faults cpu ∷ [] → at ≡ length w.entries → old.steps + 1 ≤ old.limit
      → news ≡ stamped_at (frame_stored (state_of old.machine) next) at old.stamps → IsSound (record old { machine = machine; journal = w; steps = old.steps + 1; stamps = news })
  step_sound tables w at news grown end left are =
      let marks = marks_stay old.machine machine aside in
      entry_sound old machine w (entry_of_step whom next.faults cpu) sound sealed grown same_machine_stepped (by_fault next.faults may) tables (old.steps + 1) at news end
      (ap (λ (n : ℕ). old.steps + n) (sym (steps_of_entry next.faults))) left
      (others_ready old machine whom sound marks unmarked (subst (λ (s : FlatState). OthersStay whom.0 (state_of old.machine).threads s.threads) (sym state) (step_others (state_of old.machine) whom)))
      (same_out (contents_of old) machine.held.contents marks (same_loaded (contents_of old) machine.held.contents (residents_stay old.machine machine aside)) sound.out)
      (same_counts (contents_of old) machine.held.contents old.checkouts marks sound.lasts)
      (subst (λ (xs : List ℕ). AreStamped at old.machine.memory old.stamps machine.memory xs) (sym are) (stamped at))

-- ---- a completed call

all_stamped : (at : ℕ) (memory stamps after : List ℕ) → after ≡ memory → AreStamped at memory stamps after stamps
all_stamped at memory stamps after same = record { size = ap length same; places = refl; each = λ frame there. inr (refl, ap (λ (m : List ℕ). page_at m frame) same) }

module _ (old : Recorded) (machine : Cached) (whom : ThreadNo) (cpu : ℕ) (caps : Caps) (pairs : List (Ident × Node)) (sound : IsSound old) (sealed : old.sealed ≡ true) (few : cpu < 8)
    (one : IsExactlyOne (contents_of old)) (whole : AreWhole caps machine.held.contents pairs) (loaded : IsNameResident (residents_of (contents_of old)) (name.Thread whom))
    (able : OfThread (state_of old.machine) whom.0 (λ t. is_completable t ≡ true)) (done : IsCompleted whom old.machine machine) where
  its_thread : (t : FlatThread) × (slice_get (state_of old.machine).threads whom.0 ≡ Some t)
  its_thread = thread_of_some (slice_get (state_of old.machine).threads whom.0) (loaded_stands old.machine.machine old.machine.memory (contents_of old) whom one loaded)

  shown_completed : shown (Some old.machine.machine) machine.memory machine.held.contents ≡ applied (state_of old.machine) (Complete whom)
  shown_completed = ap (λ (m : Machine). shown (Some m) machine.memory machine.held.contents) (sym done.beside.machine) ∙ done.state

  call_told : AreAsTold old.machine.machine machine.memory machine.held.contents true (old.journal.entries ++ Completed whom cpu ∷ [])
  call_told =
      completed_told old.machine.machine old.machine.memory machine.memory (contents_of old) machine.held.contents old.journal.entries whom cpu
      (subst (λ (b : Bool). AreAsTold old.machine.machine old.machine.memory (contents_of old) b old.journal.entries) sealed sound.told) few loaded done.beside.loaded caps pairs whole
      (call_fits (state_of old.machine) whom its_thread.0 its_thread.1 (able its_thread.0 its_thread.1)) shown_completed

  same_memory : machine.memory ≡ old.machine.memory
  same_memory =
      sym (memory_shown old.machine.machine machine.memory machine.held.contents) ∙ ap (λ (s : FlatState). s.memory) shown_completed
      ∙ call_memory (state_of old.machine) whom ∙ memory_shown old.machine.machine old.machine.memory (contents_of old)

  pub call_sound : HasSoundTables machine → (w : Written) → w.entries ≡ old.journal.entries ++ Completed whom cpu ∷ [] → IsSound (record old { machine = machine; journal = w })
  call_sound tables w grown =
      entry_sound old machine w (Completed whom cpu) sound sealed grown done.beside.machine call_told tables old.steps (length w.entries) old.stamps refl (omega arith) sound.limit
      (others_ready old machine whom sound done.beside.marks (trapped_unmarked old whom its_thread.0 sound its_thread.1 (able its_thread.0 its_thread.1))
      (subst (λ (s : FlatState). OthersStay whom.0 (state_of old.machine).threads s.threads) (sym done.state) (call_others (state_of old.machine) whom)))
      (same_out (contents_of old) machine.held.contents done.beside.marks (same_loaded (contents_of old) machine.held.contents done.beside.loaded.residents) sound.out)
      (same_counts (contents_of old) machine.held.contents old.checkouts done.beside.marks sound.lasts)
      (all_stamped (length w.entries) old.machine.memory old.stamps machine.memory same_memory)
