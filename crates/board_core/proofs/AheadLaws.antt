-- Steps that were taken ahead, with their entry.
use Rattle.std.proofs.Common.{◌≡◌, ℕ, zero, suc, ◌+◌, ◌<◌, ◌≤◌, Bool, true, List, [], ◌∷◌, ◌++◌, length, replicate, Some, None, slice_get, refl, ap, sym, ◌∙◌, subst, arith}
use Rattle.std.specs.Prelude.{count_by}
use Rattle.std.proofs.lemmas.List.{append-nil}
use Rattle.cache_ident.specs.declared.names.Name.TheVariants as name
use Rattle.cache_ident.specs.declared.names.ThreadNo.{ThreadNo}
use Rattle.cache_ident.specs.Residents.{IsNameResident}
use Rattle.flat_state.proofs.Places.{count_by-cons}
use Rattle.flat_state.specs.declared.events.Event.TheVariants.{Step}
use Rattle.flat_state.specs.declared.events.Machine.{Machine}
use Rattle.flat_state.specs.declared.records.FlatThread.{FlatThread}
use Rattle.flat_state.specs.State.{FlatState}
use Rattle.cached_machine.specs.quantum.specs.Ahead.{Ahead}
use Rattle.cached_machine.specs.quantum.specs.LocalRun.{committed, status_by, touched_views, CouldRun, IsLocalRun}
use Rattle.run_journal.specs.declared.entries.Entry.TheVariants.{Ran}
use Rattle.run_journal.specs.Entries.{is_step, steps_in, Written}
use Rattle.cached_machine.specs.desc_stores.specs.Contents.{residents_of}
use Rattle.cached_machine.specs.shown_state.specs.Shown.{shown}
use Rattle.cached_machine.specs.board_laws.specs.Telling.{AreAsTold}
use Rattle.cached_machine.specs.board_laws.proofs.Quanta.{quantum_told}
use Rattle.cached_machine.specs.Aside.{aside_of, Aside}
use Rattle.cached_machine.specs.Cached.{state_of, Cached}
use Rattle.cached_machine.specs.Posts.{mark_of, OnlyPosts}
use Rattle.board_core.specs.Core.{contents_of, IsSound, Recorded}
use Rattle.board_core.specs.Growth.{AreOfLoaded}
use Rattle.board_core.specs.Stamps.{AreStamped}
use Rattle.board_core.proofs.OthersLaws.{one_set, OthersStay}
use Rattle.cached_machine.proofs.AlikeLaws.{same_loaded, same_out}
use Rattle.cached_machine.proofs.AsideLaws.{loaded_stays, marks_stay, residents_stay}
use Rattle.board_core.proofs.RunningLaws.{entry_sound, others_ready, same_counts}
use Rattle.board_core.proofs.SoundLaws.{HasSoundTables}

all_steps : (whom : ThreadNo) (n : ℕ) → count_by is_step (replicate n (Step whom)) ≡ n
all_steps whom zero = refl
all_steps whom (suc n) =
    let later = all_steps whom n in
    let whole : count_by is_step (Step whom ∷ replicate n (Step whom)) ≡ 1 + count_by is_step (replicate n (Step whom)) = count_by-cons is_step (Step whom) (replicate n (Step whom)) in
    omega arith

pub steps_of_run : (whom : ThreadNo) (n cpu : ℕ) → steps_in (Ran whom n cpu ∷ []) ≡ n
steps_of_run whom n cpu = ap (count_by is_step) (append-nil (replicate n (Step whom))) ∙ all_steps whom n

module _ (old : Recorded) (machine : Cached) (whom : ThreadNo) (t : FlatThread) (a : Ahead) (cpu : ℕ) (sound : IsSound old) (sealed : old.sealed ≡ true) (few : cpu < 8) (some : 0 < a.steps)
    (loaded : IsNameResident (residents_of (contents_of old)) (name.Thread whom)) (unmarked : mark_of (contents_of old) whom ≡ None)
    (here : slice_get (state_of old.machine).threads whom.0 ≡ Some t) (could : CouldRun (state_of old.machine) t a) (local_run : IsLocalRun a) (views : AreOfLoaded old t (touched_views a.views))
    (state : state_of machine ≡ committed (state_of old.machine) whom.0 t a) (aside : aside_of machine ≡ aside_of old.machine) where
  same_machine : machine.machine ≡ old.machine.machine
  same_machine = ap (λ (x : Aside). x.machine) aside

  told_then : AreAsTold old.machine.machine machine.memory machine.held.contents true (old.journal.entries ++ Ran whom a.steps cpu ∷ [])
  told_then =
      quantum_told old.machine.machine old.machine.memory machine.memory (contents_of old) machine.held.contents old.journal.entries whom t a cpu
      (subst (λ (b : Bool). AreAsTold old.machine.machine old.machine.memory (contents_of old) b old.journal.entries) sealed sound.told) few some loaded local_run here could views
      (ap (λ (m : Machine). shown (Some m) machine.memory machine.held.contents) (sym same_machine) ∙ state) (loaded_stays old.machine machine aside)

  pub ahead_sound : HasSoundTables machine → (w : Written) (at n taken : ℕ) (news : List ℕ) → n ≡ a.steps → taken ≡ a.steps → w.entries ≡ old.journal.entries ++ Ran whom n cpu ∷ [] → at ≡ length w.entries → old.steps + a.steps ≤ old.limit
      → AreStamped at old.machine.memory old.stamps machine.memory news → IsSound (record old { machine = machine; journal = w; steps = old.steps + taken; stamps = news })
  ahead_sound tables w at n taken news all_told all_taken grown end left stamped =
      let marks = marks_stay old.machine machine aside in
      let u : FlatThread = record t { context = a.context; status = status_by a.paused } in
      let grown_so = grown ∙ ap (λ (k : ℕ). old.journal.entries ++ Ran whom k cpu ∷ []) all_told in
      entry_sound old machine w (Ran whom a.steps cpu) sound sealed grown_so same_machine told_then tables (old.steps + taken) at news end
      (ap (λ (k : ℕ). old.steps + k) (all_taken ∙ sym (steps_of_run whom a.steps cpu))) (omega arith)
      (others_ready old machine whom sound marks unmarked (subst (λ (s : FlatState). OthersStay whom.0 (state_of old.machine).threads s.threads) (sym state) (one_set whom.0 (state_of old.machine).threads u)))
      (same_out (contents_of old) machine.held.contents marks (same_loaded (contents_of old) machine.held.contents (residents_stay old.machine machine aside)) sound.out)
      (same_counts (contents_of old) machine.held.contents old.checkouts marks sound.lasts) stamped

-- ---- processors

-- a machine in which only processors changed shows the same
pub same_posted : (old new : Cached) → new ≡ record old { held = new.held } → OnlyPosts old.held new.held → state_of new ≡ state_of old
same_posted old new is only = ap state_of is ∙ only.shows (Some old.machine) old.memory
