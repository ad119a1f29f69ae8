-- What is left of a run on a board falls by the calls that bring something.
use Rattle.std.proofs.Common.{◌≡◌, ◌<◌, ◌^◌, ℕ, ◌+◌, ◌-◌, ◌≤◌, true, Some, None, Result, Ok, Err, slice_get, zero, suc, sym, ap, ◌∙◌, refl, arith}
use Rattle.std.specs.Prelude.{OnOk}
use Rattle.std.proofs.Math.Nat.{le_refl}
use Rattle.cache_ident.specs.declared.idents.Ident.{Ident}
use Rattle.cache_ident.specs.declared.names.ThreadNo.{ThreadNo}
use Rattle.left_laws.specs.flat_state.specs.declared.events.Event.TheVariants.{Complete}
use Rattle.left_laws.specs.flat_state.specs.declared.records.FlatThread.{FlatThread}
use Rattle.left_laws.specs.flat_state.specs.Call.{is_completable}
use Rattle.left_laws.specs.flat_state.specs.Events.{applied}
use Rattle.left_laws.specs.Left.{left}
use Rattle.left_laws.proofs.Falling.{completion_left, event_falls}
use Rattle.cache_board.specs.board_calls.specs.Calls.{IsCompletion}
use Rattle.cache_board.specs.board_checks.specs.Refusals.{refusal_of_complete}
use Rattle.cache_board.specs.board_threads.specs.Faults.{HasEnded}
use Rattle.cache_board.specs.board_core.specs.Core.{contents_of, Recorded}
use Rattle.cache_board.specs.board_core.specs.Going.{GoesOn, IsOneEvent}
use Rattle.cache_board.specs.board_core.specs.Growth.{one_more}
use Rattle.cache_board.specs.board_ops.specs.declared.refusals.Refused.{Refused}
use Rattle.cache_board.specs.cached_machine.specs.Cached.{state_of}
use Rattle.cache_board.specs.run_journal.specs.Entries.{steps_in}
use Rattle.cache_board.specs.run_journal.proofs.Growth.{steps-append}
use Rattle.owner_ports.specs.Brought.{brought_by, HasGained, IsCalledOn}
use Rattle.owner_ports.proofs.Completing.{completable_of}

-- ---- on numbers alone

falls_so : (before now taken_before taken p q : ℕ) → now + taken ≤ before + taken_before → q + taken_before ≤ p + taken → now + q ≤ before + p
falls_so before now taken_before taken p q fell more = omega (arith, fell, more)

-- ---- a call

-- at most as many brought something as steps were taken
pub event_gains : (cpu : ℕ) (old new : Recorded) (before after : ℕ) → IsOneEvent cpu old new → before ≤ after → after + old.steps ≤ before + new.steps → HasGained old before new after
event_gains cpu old new before after event rose more = record {
  rose = rose;
  fell = falls_so (left old) (left new) old.steps new.steps before after (event_falls cpu old new event) more;
}

module _ (old new : Recorded) (event : IsOneEvent 0 old new) where
  pub called_on : GoesOn 0 old new → IsCalledOn old new
  called_on on = record { on = on; sound = λ sound. event.sound }

  steps_grew : new.steps ≡ old.steps + steps_in event.grew.entries
  steps_grew =
      event.sound.steps ∙ ap steps_in event.grew.grows.entries ∙ steps-append old.journal.entries event.grew.entries
      ∙ ap (λ n. n + steps_in event.grew.entries) (sym event.was.steps)

  more_steps : (n : ℕ) → n + old.steps ≤ n + new.steps
  more_steps n = let so = steps_grew in omega (arith, so)

  -- it brought nothing, or whatever it brought isn't counted
  pub call_gains : (n : ℕ) → HasGained old n new n
  call_gains n = event_gains 0 old new n n event (le_refl n) (more_steps n)

  -- a completion leaves less, by steps or by the call
  pub completion_falls : (thread : ThreadNo) (t : FlatThread) → slice_get (state_of old.machine).threads thread.0 ≡ Some t → is_completable t ≡ true → state_of new.machine ≡ applied (state_of old.machine) (Complete thread) → left new + 1 ≤ left old
  completion_falls thread t here can is = by (steps_in event.grew.entries) refl
    where
      by : (n : ℕ) → steps_in event.grew.entries ≡ n → left new + 1 ≤ left old
      by zero none =
          let same : new.steps ≡ old.steps = let so = steps_grew in omega (arith, so, none) in
          let one : left new + 1 ≡ left old = completion_left thread t old new here can is same event.grew.grows.limit in
          omega (arith, one)
      by (suc n) some =
          let fell = event_falls 0 old new event in
          let so = steps_grew in
          omega (arith, fell, so, some)

  one_fewer : (n : ℕ) → n < 2 ^ 64 → left new + 1 ≤ left old → HasGained old n new (one_more n)
  one_fewer n fits fell = record { rose = omega (arith, fits); fell = omega (arith, fell) }

  pub completed_gains : (caller thread : Ident) (n : ℕ) (answer : Result (Unit {0}) Refused) → n < 2 ^ 64 → OnOk answer (refusal_of_complete (contents_of old) caller thread ≡ None) → OnOk answer (IsCompletion 0 thread old new) → HasGained old n new (brought_by answer n)
  completed_gains caller thread n (Ok done) fits passes made =
      let t = completable_of old event.was caller thread made.no made.its passes in
      one_fewer n fits (completion_falls made.no t.0 t.1 t.2 made.state)
  completed_gains caller thread n (Err why) fits passes made = call_gains n

  pub ended_gains : (thread : Ident) (n : ℕ) (answer : Result (Unit {0}) Refused) → n < 2 ^ 64 → OnOk answer (HasEnded thread 0 old new) → HasGained old n new (brought_by answer n)
  ended_gains thread n (Ok done) fits made =
      let fell = event_falls 0 old new event in
      one_fewer n fits (omega (arith, fell, made.steps))
  ended_gains thread n (Err why) fits made = call_gains n
