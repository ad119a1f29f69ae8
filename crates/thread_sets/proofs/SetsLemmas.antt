-- The sets of a list of threads as one of them changes, or another comes.
use Rattle.std.proofs.Common.{◌≡◌, ℕ, zero, suc, ◌≤◌, ◌<◌, Bool, true, false, List, [], ◌∷◌, ◌++◌, Some, length, map, set, get_or, refl, sym, ◌∙◌, ap, arith}
use Rattle.std.specs.List.{list_any}
use Rattle.std.specs.Prelude.{slice_get}
use Rattle.std.proofs.lemmas.Bool.{false≢true}
use Rattle.std.proofs.lemmas.List.{get_or-map, map-set, map_push, set-get_or}
use Rattle.std.proofs.lemmas.List.Folds.{list_any_none}
use Rattle.std.proofs.lemmas.Option.{get_or_from_slice_get, slice_get_within}
use Rattle.shown_state.specs.flat_state.specs.declared.records.FlatThread.{FlatThread}
use Rattle.shown_state.specs.flat_state.specs.Call.{is_completable}
use Rattle.shown_state.specs.flat_state.specs.State.{is_ready}
use Rattle.thread_cache.specs.declared.ThreadRec.{ThreadRec}
use Rattle.shown_state.specs.Shown.{flat_thread}
use Rattle.thread_sets.specs.Sets.{noted, pushed, Sets}
use Rattle.thread_sets.specs.SetsOf.{takes_steps, AreSetsOf, IsThread}

-- a thread that is noted has its place
pub sets_noted : (threads : List FlatThread) (sets : Sets) (thread : ThreadRec) → thread.no.0 < length threads → AreSetsOf threads sets → AreSetsOf (set threads thread.no.0 (flat_thread thread)) (noted sets thread)
sets_noted threads sets thread within of =
    let at = thread.no.0 in
    let shown = flat_thread thread in
    record {
      completable = ap (λ flags. set flags at (is_completable shown)) of.completable ∙ sym (map-set is_completable threads at shown);
      ready = ap (λ flags. set flags at (takes_steps shown)) of.ready ∙ sym (map-set takes_steps threads at shown);
    }

-- a thread that has come is the last
pub sets_pushed : (threads : List FlatThread) (sets : Sets) (thread : ThreadRec) → AreSetsOf threads sets → AreSetsOf (threads ++ flat_thread thread ∷ []) (pushed sets thread)
sets_pushed threads sets thread of =
    let shown = flat_thread thread in
    record {
      completable = ap (λ flags. flags ++ is_completable shown ∷ []) of.completable ∙ sym (map_push is_completable threads shown);
      ready = ap (λ flags. flags ++ takes_steps shown ∷ []) of.ready ∙ sym (map_push takes_steps threads shown);
    }

-- where no flag is true, no thread passes the test
pub none_passes : (test : FlatThread → Bool) (threads : List FlatThread) (flags : List Bool) → flags ≡ map test threads → ((number : ℕ) → 0 ≤ number → get_or flags number false ≡ false) → list_any test threads ≡ false
none_passes test threads flags are none = list_any_none test threads (λ k d within. sym (get_or-map test threads k d false within) ∙ ap (λ list. get_or list k false) (sym are) ∙ none k (omega arith))

-- a thread that looks the same keeps the flags
flags_stay : (test : FlatThread → Bool) (threads : List FlatThread) (number : ℕ) (old new : FlatThread) → slice_get threads number ≡ Some old → test new ≡ test old → map test threads ≡ map test (set threads number new)
flags_stay test threads number old new stands same =
    let within = slice_get_within threads number old stands in
    let flag : get_or (map test threads) number false ≡ test new = get_or-map test threads number old false within ∙ ap test (get_or_from_slice_get threads number old old stands) ∙ sym same in
    sym (map-set test threads number new ∙ ap (set (map test threads) number) (sym flag) ∙ set-get_or (map test threads) number false)

pub sets_stay : (threads : List FlatThread) (sets : Sets) (number : ℕ) (old new : FlatThread) → slice_get threads number ≡ Some old → is_completable new ≡ is_completable old → is_ready new.status ≡ is_ready old.status → AreSetsOf threads sets → AreSetsOf (set threads number new) sets
sets_stay threads sets number old new stands completable ready of = record {
  completable = of.completable ∙ flags_stay is_completable threads number old new stands completable;
  ready = of.ready ∙ flags_stay takes_steps threads number old new stands ready;
}

-- a flag that is true is that of a thread which passes the test
pub passing : (test : FlatThread → Bool) (threads : List FlatThread) (number : ℕ) → get_or (map test threads) number false ≡ true → IsThread threads number test
passing test [] number on = absurd (false≢true on)
passing test (thread ∷ threads) zero on = record { thread = thread; stands = refl; passes = on }
passing test (thread ∷ threads) (suc number) on =
    let rest = passing test threads number on in
    record { thread = rest.thread; stands = rest.stands; passes = rest.passes }

pub passing_in : (test : FlatThread → Bool) (threads : List FlatThread) (flags : List Bool) (number : ℕ) → flags ≡ map test threads → get_or flags number false ≡ true → IsThread threads number test
passing_in test threads flags number are on = passing test threads number (ap (λ list. get_or list number false) (sym are) ∙ on)
