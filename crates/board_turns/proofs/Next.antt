-- What a turn's deeds leave on a board with its owners.
use Rattle.std.proofs.Common.{◌≡◌, ◌≢◌, ℕ, ◌+◌, ◌-◌, ◌*◌, ◌<◌, ◌≤◌, min, Bool, true, false, not, Option, Some, None, Result, Ok, Err, slice_get, refl, sym, ap, ◌∙◌, subst, inl, inr, arith}
use Rattle.std.specs.Prelude.{if◌then◌else◌, ◌&&◌, ◌||◌, ◌==◌, IfSome}
use Rattle.std.specs.Option.{is_some}
use Rattle.std.proofs.lemmas.Bool.{eq-eqb, eqb-true}
use Rattle.cache_ident.specs.declared.names.Name.TheVariants as name
use Rattle.cache_ident.specs.declared.names.ThreadNo.{ThreadNo}
use Rattle.rv32_exec.specs.declared.statuses.Status.{Status}
use Rattle.rv32_exec.specs.declared.statuses.Status.TheVariants.{Ready, Trapped, Ended}
use Rattle.flat_state.specs.declared.records.Settled.TheVariants.{Running}
use Rattle.flat_state.specs.Call.{is_completable, waits}
use Rattle.flat_state.specs.Signals.{full_receiver, is_held, is_runnable}
use Rattle.flat_state.specs.State.{FlatState, is_ready, is_trapped}
use Rattle.app_kernel.specs.left_laws.specs.Left.{left}
use Rattle.app_kernel.specs.left_laws.proofs.Falling.{completion_left, event_falls}
use Rattle.app_kernel.specs.Serving.{IsCallCompleted, IsInCall}
use Rattle.app_kernel.specs.owners.specs.Known.{Known}
use Rattle.app_kernel.specs.owners.specs.Owning.{AreOwnersOf}
use Rattle.app_kernel.specs.owner_laws.proofs.Naming.{owners_stay}
use Rattle.app_kernel.specs.owner_ports.specs.Brought.{HasGained, IsCalledOn}
use Rattle.app_kernel.specs.answer_laws.proofs.Running.{somebody_waits, steps_left}
use Rattle.cache_board.specs.board_ops.specs.declared.refusals.Refused.{Refused}
use Rattle.cache_board.specs.board_ops.specs.declared.refusals.Refused.TheVariants as why
use Rattle.cache_board.specs.cached_machine.specs.Cached.{is_loaded, state_of}
use Rattle.quantum.specs.Ahead.{Ahead}
use Rattle.cache_board.specs.board_core.specs.Core.{contents_of, IsSound, Recorded}
use Rattle.cache_board.specs.board_core.proofs.AheadLaws.{same_posted}
use Rattle.cache_board.specs.board_threads.specs.declared.tickets.Ticket.{Ticket}
use Rattle.cache_board.specs.board_threads.specs.Tests.{completes, goes_on, wants_load, IsWanted}
use Rattle.cache_board.specs.board_threads.proofs.SettleLemmas.{found_by}
use Rattle.cache_board.specs.board_heal.specs.Promise.{IsHealable}
use Rattle.app_kernel.specs.reach_laws.specs.Reaching.{IsOwned}
use Rattle.board_turns.specs.declared.committed.Committed.{Committed}
use Rattle.board_turns.specs.declared.committed.Committed.TheVariants.{Taken, TooMany, Lost}
use Rattle.board_turns.specs.declared.found.Found.{Found}
use Rattle.board_turns.specs.declared.found.Found.TheVariants.{Out, Wanted, Nothing, Over}
use Rattle.board_turns.specs.Holds.{AreTaken, HasCommitted, HasHealed, HasLeft}
use Rattle.board_turns.specs.Looks.{settled_on, HasLooked, StandsAt}
use Rattle.board_turns.specs.Paces.{must_bring, paced, wants_first, Beat}
use Rattle.board_turns.specs.Turning.{turns_left, HasGrown, IsAtRest, IsAtRestBut, IsLeftBy, IsNext, IsOnQuantum, IsToStep, IsTriedBy, IsUnmarked}
use Rattle.board_turns.proofs.Looking.{steps_looked}
use Rattle.board_turns.proofs.Marks.{called_unmarked, committed_unmarked, healed_unmarked, left_unmarked, out_alone, room_out}

-- ---- boards that grew

module _ (a b : Recorded) (p q : ℕ) (grown : HasGrown a p b q) where
  -- no more is left
  pub not_more : left b ≤ left a
  not_more = let rose = grown.gained.rose in let fell = grown.gained.fell in omega (arith, rose, fell)

  pub owned_still : (known : Known) → IsOwned a known → IsOwned b known
  owned_still known owned = record {
    sound = grown.sound owned.sound;
    sealed = grown.grew.sealed owned.sealed;
    are = owners_stay 0 a b known grown.grew (grown.sound owned.sound) owned.are;
  }

  pub rests : (known : Known) → IsOwned a known → IsUnmarked b → IsAtRest b known
  rests known owned unmarked = record { owned = owned_still known owned; unmarked = unmarked }

  -- with more steps less is left
  pub less_left : IsSound a → a.steps < b.steps → left b < left a
  less_left sound more =
      let fell = event_falls 0 a b (record { grew = grown.grew; was = sound; sound = grown.sound sound }) in
      omega (arith, fell, more)

  pub next_after : (known : Known) (beat : Beat) (found : Found) → IsOwned a known → (before : Recorded) → IsUnmarked before → HasLooked (wants_first beat) before b found → IsNext b known beat found
  next_after known beat found owned before unmarked looked = record { owned = owned_still known owned; before = before; unmarked = unmarked; looked = looked }

  -- a look at a board on which nobody is on a processor
  pub next_looked : (known : Known) (beat : Beat) (found : Found) → IsAtRest a known → HasLooked (wants_first beat) a b found → IsNext b known beat found
  next_looked known beat found rest looked = next_after known beat found rest.owned a rest.unmarked looked

pub owned_called : (a b : Recorded) (known after : Known) → IsCalledOn a b → IsOwned a known → AreOwnersOf b.journal.entries after → IsOwned b after
owned_called a b known after called owned are = record { sound = called.sound owned.sound; sealed = called.on.grew.sealed owned.sealed; are = are }

pub rests_called : (a b : Recorded) (known after : Known) → IsCalledOn a b → IsAtRest a known → AreOwnersOf b.journal.entries after → IsAtRest b after
rests_called a b known after called rest are = record { owned = owned_called a b known after called rest.owned are; unmarked = called_unmarked a b called.on rest.unmarked }

-- ---- steps on a processor

module _ (a b : Recorded) (p r : ℕ) (known : Known) (beat : Beat) (ticket : Ticket) (q : Ahead) (on : IsOnQuantum a known ticket) (grown : HasGrown a p b r) where
  unmarked_between : (between : Recorded) → AreTaken ticket q None a b None → IsUnmarked b
  unmarked_between between taken =
      subst (λ (x : Recorded). IsUnmarked x) (sym taken.looked) (committed_unmarked a taken.between ticket q on.owned.sound on.out taken.committed)

  behind : (want_first : Bool) (found : Found) → 0 < q.steps → want_first ≡ wants_first (paced true beat) → AreTaken ticket q (Some want_first) a b (Some found) → IsLeftBy a b known beat (Some found)
  behind want_first found some order taken =
      let looked : HasLooked (wants_first (paced true beat)) taken.between b found = subst (λ (x : Bool). HasLooked x taken.between b found) order taken.looked in
      let steps : b.steps ≡ taken.between.steps = steps_looked want_first taken.between b found taken.looked in
      let took : taken.between.steps ≡ a.steps + q.steps = taken.committed.steps_taken in
      record {
        next = next_after a b p r grown known (paced true beat) found on.owned taken.between (committed_unmarked a taken.between ticket q on.owned.sound on.out taken.committed) looked;
        less = less_left a b p r grown on.owned.sound (omega (arith, steps, took, some));
      }

  pub tried : (look : Option Bool) (next : Found) (committed : Committed) → IfSome look (λ want_first. (0 < q.steps) × (want_first ≡ wants_first (paced true beat))) → HasCommitted ticket q look a b next committed → IsTriedBy a b known beat ticket next committed
  tried None next (Taken false) order taken = rests a b p r grown known on.owned (unmarked_between taken.between taken)
  tried None next (Taken true) order taken = absurd taken.looked
  tried (Some want_first) next (Taken false) order taken = absurd taken.looked
  tried (Some want_first) next (Taken true) order taken = behind want_first next order.0 order.1 taken
  tried look next (TooMany left_steps) order many = (
    record { owned = owned_still a b p r grown known on.owned; out = room_out a b ticket many.only on.out },
    not_more a b p r grown,
  )
  tried look next Lost order lost =
      rests a b p r grown known on.owned (left_unmarked lost.between b ticket (room_out a lost.between ticket lost.only on.out) lost.left)

-- what a try left behind no more than there was is left by the whole
pub left_sooner : (a m b : Recorded) (known : Known) (beat : Beat) (next : Option Found) → left m ≤ left a → IsLeftBy m b known beat next → IsLeftBy a b known beat next
left_sooner a m b known beat None fewer rest = rest
left_sooner a m b known beat (Some found) fewer behind = let less = behind.less in record { next = behind.next; less = omega (arith, less, fewer) }

-- ---- healing

module _ (a b : Recorded) (p r : ℕ) (known : Known) (whom : ThreadNo) (answer : Result (Unit {0}) Refused) (grown : HasGrown a p b r) where
  pub healed_rests : (ticket : Option Ticket) → IsAtRestBut ticket a known → HasHealed 0 ticket whom a b answer → IsAtRest b known
  healed_rests None rest healed =
      let unmarked : IsUnmarked healed.between = subst (λ (x : Recorded). IsUnmarked x) (sym healed.left) rest.unmarked in
      rests a b p r grown known rest.owned (healed_unmarked healed.between b whom answer healed.refused healed.done unmarked)
  healed_rests (Some ticket) on healed =
      rests a b p r grown known on.owned (healed_unmarked healed.between b whom answer healed.refused healed.done (left_unmarked a healed.between ticket on.out healed.left))

-- the same is shown where nothing changed but who is on which processor
same_machine : (a b : Recorded) (ticket : Ticket) → HasLeft ticket a b → state_of b.machine ≡ state_of a.machine
same_machine a b ticket left = same_posted a.machine b.machine (ap (λ (x : Recorded). x.machine) left.only.rest) left.only.only

still_to_step : (a b : Recorded) (whom : ThreadNo) → state_of b.machine ≡ state_of a.machine → b.steps ≡ a.steps → b.limit ≡ a.limit → IsToStep a whom → IsToStep b whom
still_to_step a b whom same steps limit step = record {
  steps = let few = step.steps in omega (arith, few, steps, limit);
  thread = step.thread;
  there = ap (λ (s : FlatState). slice_get s.threads whom.0) same ∙ step.there;
  ready = step.ready;
  not_held = ap (λ (s : FlatState). is_held s step.thread) same ∙ step.not_held;
}

healable : (b : Recorded) (whom : ThreadNo) → b.sealed ≡ true → IsUnmarked b → IsToStep b whom → IsHealable b whom
healable b whom sealed unmarked step = record { sealed = sealed; left = step.steps; thread = step.thread; there = step.there; ready = step.ready; away = unmarked whom; not_held = step.not_held }

module _ (a b : Recorded) (p r : ℕ) (known : Known) (whom : ThreadNo) (grown : HasGrown a p b r) (step : IsToStep a whom) where
  less_by : (ticket : Option Ticket) (answer : Result (Unit {0}) Refused) → (answer ≡ Err why.NoMemory → ⊥) → IsSound a → (healed : HasHealed 0 ticket whom a b answer) → healed.between.steps ≡ a.steps → IsHealable healed.between whom → left b < left a
  less_by ticket (Ok done) fine sound healed same can =
      let steps : b.steps ≡ healed.between.steps + 1 = (healed.promised can).1.steps in
      less_left a b p r grown sound (omega (arith, steps, same))
  less_by ticket (Err refused) fine sound healed same can = absurd (fine (ap (λ (x : Refused). let e : Result (Unit {0}) Refused = Err x in e) (healed.promised can).0))

  pub healed_less : (ticket : Option Ticket) (answer : Result (Unit {0}) Refused) → (answer ≡ Err why.NoMemory → ⊥) → IsAtRestBut ticket a known → HasHealed 0 ticket whom a b answer → left b < left a
  healed_less None answer fine rest healed =
      let same : healed.between ≡ a = healed.left in
      let can : IsHealable healed.between whom = subst (λ (x : Recorded). IsHealable x whom) (sym same) (healable a whom rest.owned.sealed rest.unmarked step) in
      less_by None answer fine rest.owned.sound healed (ap (λ (x : Recorded). x.steps) same) can
  healed_less (Some ticket) answer fine on healed =
      let m = healed.between in
      let rest = healed.left.only.rest in
      let steps : m.steps ≡ a.steps = ap (λ (x : Recorded). x.steps) rest in
      let there = still_to_step a m whom (same_machine a m ticket healed.left) steps (ap (λ (x : Recorded). x.limit) rest) step in
      let can = healable m whom (ap (λ (x : Recorded). x.sealed) rest ∙ on.owned.sealed) (left_unmarked a m ticket on.out healed.left) there in
      less_by (Some ticket) answer fine on.owned.sound healed steps can

-- ---- whom a turn was for

module _ (b : Recorded) (known : Known) (beat : Beat) where
  pub on_quantum : (ticket : Ticket) → IsNext b known beat (Out ticket) → IsOnQuantum b known ticket
  on_quantum ticket next = record { owned = next.owned; out = out_alone next.before b (wants_first beat) ticket next.unmarked next.looked.found }

  resting : (found : Found) (next : IsNext b known beat found) → b ≡ next.before → IsAtRest b known
  resting found next same = record { owned = next.owned; unmarked = subst (λ (x : Recorded). IsUnmarked x) (sym same) next.unmarked }

  pub at_rest_wanted : (whom : ThreadNo) (trapped : Bool) (pc : ℕ) → IsNext b known beat (Wanted whom trapped pc) → IsAtRest b known
  at_rest_wanted whom trapped pc next = resting (Wanted whom trapped pc) next next.looked.found.same

  pub at_rest_nothing : IsNext b known beat Nothing → IsAtRest b known
  at_rest_nothing next = resting Nothing next next.looked.found.same

  pub at_rest_over : IsNext b known beat Over → IsAtRest b known
  at_rest_over next = resting Over next next.looked.same

-- ---- what it can bring

runs_ready : (status : Status) (full : Bool) → (is_ready status && not full) ≡ true → (status ≡ Ready) × ((is_ready status && full) ≡ false)
runs_ready Ready false runs = (refl, refl)
runs_ready Ready true runs = absurd (cc)
runs_ready Trapped full runs = absurd (cc)
runs_ready (Ended reason) full runs = absurd (cc)

second_of : (x y : Bool) → (x && y) ≡ true → y ≡ true
second_of true y both = both
second_of false y both = absurd (cc)

not_both : (status : Status) → is_trapped status ≡ true → status ≡ Ready → ⊥
not_both status trapped ready = let test : is_trapped status ≡ is_trapped Ready = ap is_trapped ready in cc

call_trapped : (trapped waits : Bool) → (trapped && not waits) ≡ true → trapped ≡ true
call_trapped true waits both = refl
call_trapped false waits both = absurd (cc)

module _ (b : Recorded) (known : Known) (beat : Beat) (must : must_bring beat ≡ true) where
  first : wants_first beat ≡ true
  first = ap (λ (x : Bool). x || (beat.turns + 1 == 16)) must

  pub step_of_out : (ticket : Ticket) → IsNext b known beat (Out ticket) → IsToStep b ticket.no
  step_of_out ticket next =
      let a = next.before in
      let out = next.looked.found in
      let rest = out.out.rest in
      let same = same_posted a.machine b.machine (ap (λ (x : Recorded). x.machine) rest) out.out.only in
      let steps : b.steps ≡ a.steps = ap (λ (x : Recorded). x.steps) rest in
      let limit : b.limit ≡ a.limit = ap (λ (x : Recorded). x.limit) rest in
      let most = next.owned.sound.limit in
      let waits = out.chosen.waits in
      let runs = runs_ready waits.thread.status (is_some (full_receiver (state_of a.machine) waits.thread)) waits.passes in
      let few = steps_left a next.looked.running (out.nobody_first first).0 (omega (arith, most, steps, limit)) in
      still_to_step a b ticket.no same steps limit (record {
        steps = few;
        thread = waits.thread;
        there = ap (λ (w : ThreadNo). slice_get (state_of a.machine).threads w.0) (sym out.chosen.named) ∙ waits.there;
        ready = runs.0;
        not_held = runs.1;
      })

  wants : (whom : ThreadNo) (pc : ℕ) (trapped : Bool) → IsNext b known beat (Wanted whom trapped pc) → IsWanted b (Some whom) × StandsAt b whom trapped pc
  wants whom pc trapped next =
      let served = next.looked.found in (
        subst (λ (x : Recorded). IsWanted x (Some whom)) (sym served.same) served.wanted,
        subst (λ (x : Recorded). StandsAt x whom trapped pc) (sym served.same) served.stands,
      )

  called : (whom : ThreadNo) (pc : ℕ) (trapped : Bool) → completes b whom.0 ≡ true → StandsAt b whom trapped pc → IsInCall (state_of b.machine) whom × (trapped ≡ true)
  called whom pc trapped calls stands =
      let t = found_by is_completable (state_of b.machine).threads whom.0 calls in (
        record { found = t.0; there = t.1; completable = t.2 },
        sym (stands t.0 t.1).0 ∙ call_trapped (is_trapped t.0.status) (waits t.0) t.2,
      )

  absent : (whom : ThreadNo) (pc : ℕ) (trapped : Bool) → b.steps < b.limit → wants_load b whom.0 ≡ true → StandsAt b whom trapped pc → IsToStep b whom × (trapped ≡ false)
  absent whom pc trapped few waits stands =
      let s = state_of b.machine in
      let t = found_by (is_runnable s) s.threads whom.0 (second_of (not (is_loaded (contents_of b) (name.Thread whom))) (goes_on b whom.0) waits) in
      let runs = runs_ready t.0.status (is_some (full_receiver s t.0)) t.2 in (
        record { steps = few; thread = t.0; there = t.1; ready = runs.0; not_held = runs.1 },
        sym (stands t.0 t.1).0 ∙ ap is_trapped runs.0,
      )

  few_left : (found : Found) (next : IsNext b known beat found) → settled_on b ≡ Running → ((n : ℕ) → completes b n ≡ false) → b.steps < b.limit
  few_left found next running none = steps_left b running none next.owned.sound.limit

  pub call_of_wanted : (whom : ThreadNo) (pc : ℕ) → IsNext b known beat (Wanted whom true pc) → IsInCall (state_of b.machine) whom
  call_of_wanted whom pc next =
      let w = wants whom pc true next in
      let running : settled_on b ≡ Running = ap settled_on next.looked.found.same ∙ next.looked.running in
      elim w.0 [
        | inl calls ↦ (called whom pc true calls.in_it w.1).0
        | inr load ↦ absurd (let never = (absent whom pc true (few_left (Wanted whom true pc) next running load.0) load.1.in_it w.1).1 in cc)
      ]

  pub step_of_wanted : (whom : ThreadNo) (pc : ℕ) → IsNext b known beat (Wanted whom false pc) → IsToStep b whom
  step_of_wanted whom pc next =
      let w = wants whom pc false next in
      let running : settled_on b ≡ Running = ap settled_on next.looked.found.same ∙ next.looked.running in
      elim w.0 [
        | inl calls ↦ absurd (let never = (called whom pc false calls.in_it w.1).1 in cc)
        | inr load ↦ (absent whom pc false (few_left (Wanted whom false pc) next running load.0) load.1.in_it w.1).0
      ]

pub never_nothing : (b : Recorded) (known : Known) (beat : Beat) → IsNext b known beat Nothing → ⊥
never_nothing b known beat next = somebody_waits next.before next.looked.running next.unmarked next.looked.found.wanted next.looked.found.waiting

-- ---- nearer to the end

closer_by : (l0 l1 l2 p q b : ℕ) (brought : Bool) → p ≤ q → l1 + q ≤ l0 + p → l2 ≤ l1 → b ≤ 3 → (brought ≡ true → p < q) → (brought ≡ false → q ≤ p) → ((b == 3) ≡ true → l1 < l0) → 4 * l2 + (3 - (if brought then 0 else min (b + 1) 3)) < 4 * l0 + (3 - b)
closer_by l0 l1 l2 p q b true rose fell fewer most more same must = let up = more refl in omega (arith, rose, fell, fewer, most, up)
closer_by l0 l1 l2 p q b false rose fell fewer most more same must = by (b == 3) refl
  where
    by : (t : Bool) → (b == 3) ≡ t → 4 * l2 + (3 - min (b + 1) 3) < 4 * l0 + (3 - b)
    by true test = let full : b ≡ 3 = eqb-true b 3 test in let less = must test in omega (arith, full, less, fewer)
    by false test =
        let other : b ≢ 3 = λ is. let clash = eq-eqb b 3 is in cc in
        let still = same refl in
        omega (arith, rose, fell, fewer, most, other, still)

pub closer : (a m b : Recorded) (beat : Beat) (p q n : ℕ) (brought : Bool) → beat.barren ≤ 3 → HasGained a p m q → HasGained m q b n → (brought ≡ true → p < q) → (brought ≡ false → q ≤ p) → (must_bring beat ≡ true → left m < left a) → turns_left b (paced brought beat) < turns_left a beat
closer a m b beat p q n brought most first second more same must =
    let rose = second.rose in
    let fell = second.fell in
    closer_by (left a) (left m) (left b) p q beat.barren brought first.rose first.fell (omega (arith, rose, fell)) most more same must

-- .. where it was found in the same hold
pub closer_behind : (a b : Recorded) (beat : Beat) → left b < left a → turns_left b (paced true beat) < turns_left a beat
closer_behind a b beat less = omega (arith, less)

-- ---- calls

pub completed_less : (a b : Recorded) (whom : ThreadNo) → IsInCall (state_of a.machine) whom → IsCallCompleted whom a b → left b < left a
completed_less a b whom todo done =
    let one = completion_left whom todo.found a b todo.there todo.completable done.state done.steps done.limit in
    omega (arith, one)
