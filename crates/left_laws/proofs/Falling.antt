-- What is left falls.
use Rattle.std.proofs.Common.{◌≡◌, ℕ, ◌+◌, ◌-◌, ◌*◌, ◌≤◌, true, List, Some, slice_get, ap, ap₂, sym, ◌∙◌, subst, arith}
use Rattle.board_core.specs.run_journal.specs.declared.entries.Entry.{Entry}
use Rattle.board_core.specs.run_journal.specs.Entries.{erase, steps_in}
use Rattle.board_core.specs.run_journal.proofs.Growth.{steps-append}
use Rattle.cache_ident.specs.declared.names.ThreadNo.{ThreadNo}
use Rattle.board_core.specs.flat_state.specs.declared.events.Event.TheVariants.{Complete}
use Rattle.board_core.specs.flat_state.specs.declared.records.FlatThread.{FlatThread}
use Rattle.board_core.specs.flat_state.specs.Call.{is_completable}
use Rattle.board_core.specs.flat_state.specs.Events.{applied}
use Rattle.board_core.specs.flat_state.specs.State.{FlatState}
use Rattle.left_laws.proofs.EventsLeft.{completion_takes_one, events_bring}
use Rattle.board_core.specs.Core.{IsSound, Recorded}
use Rattle.board_core.specs.Going.{IsOneEvent}
use Rattle.board_core.specs.Growth.{GrowsBy}
use Rattle.board_core.specs.cached_machine.specs.Cached.{state_of}
use Rattle.left_laws.specs.Left.{calls_in, left}

-- on numbers alone
falls : (limit before taken calls calls′ : ℕ) → before + taken ≤ limit → calls′ ≤ calls + taken → 2 * (limit - (before + taken)) + calls′ + taken ≤ 2 * (limit - before) + calls
falls limit before taken calls calls′ most brought = omega (arith, most, brought)

-- as many more steps were taken as the entries have
steps_more : (es : List Entry) (old new : Recorded) → GrowsBy es old new → IsSound old → IsSound new → new.steps ≡ old.steps + steps_in es
steps_more es old new grows was is = is.steps ∙ ap steps_in grows.entries ∙ steps-append old.journal.entries es ∙ ap (λ n. n + steps_in es) (sym was.steps)

pub left_falls : (es : List Entry) (old new : Recorded) → GrowsBy es old new → IsSound old → IsSound new → left new + steps_in es ≤ left old
left_falls es old new grows was is =
    let more : new.steps ≡ old.steps + steps_in es = steps_more es old new grows was is in
    let most : old.steps + steps_in es ≤ old.limit = subst (λ n. n ≤ old.limit) more (subst (λ n. new.steps ≤ n) grows.limit is.limit) in
    let brought : calls_in (state_of new.machine) ≤ calls_in (state_of old.machine) + steps_in es = subst (λ (s : FlatState). calls_in s ≤ calls_in (state_of old.machine) + steps_in es) (sym grows.state) (events_bring (state_of old.machine) (erase es)) in
    let so = falls old.limit old.steps (steps_in es) (calls_in (state_of old.machine)) (calls_in (state_of new.machine)) most brought in
    subst (λ n. 2 * (n - new.steps) + calls_in (state_of new.machine) + steps_in es ≤ left old) (sym grows.limit)
    (subst (λ n. 2 * (old.limit - n) + calls_in (state_of new.machine) + steps_in es ≤ left old) (sym more) so)

falls_so : (before now taken_before taken n : ℕ) → now + n ≤ before → taken ≡ taken_before + n → now + taken ≤ before + taken_before
falls_so before now taken_before taken n fell more = omega (arith, fell, more)

pub event_falls : (cpu : ℕ) (old new : Recorded) → IsOneEvent cpu old new → left new + new.steps ≤ left old + old.steps
event_falls cpu old new event =
    let es = event.grew.entries in
    let fell : left new + steps_in es ≤ left old = left_falls es old new event.grew.grows event.was event.sound in
    let more : new.steps ≡ old.steps + steps_in es = steps_more es old new event.grew.grows event.was event.sound in
    falls_so (left old) (left new) old.steps new.steps (steps_in es) fell more

pub completion_left : (thread : ThreadNo) (t : FlatThread) (old new : Recorded) → slice_get (state_of old.machine).threads thread.0 ≡ Some t → is_completable t ≡ true → state_of new.machine ≡ applied (state_of old.machine) (Complete thread) → new.steps ≡ old.steps → new.limit ≡ old.limit → left new + 1 ≡ left old
completion_left thread t old new here can is steps limit =
    let one : calls_in (applied (state_of old.machine) (Complete thread)) + 1 ≡ calls_in (state_of old.machine) = completion_takes_one (state_of old.machine) thread t here can in
    let so : calls_in (state_of new.machine) ≡ calls_in (applied (state_of old.machine) (Complete thread)) = ap calls_in is in
    let number : 2 * (new.limit - new.steps) ≡ 2 * (old.limit - old.steps) = ap₂ (λ (n m : ℕ). 2 * (n - m)) limit steps in
    omega (arith, one, so, number)
