-- What a ready thread does next.
use Rattle.std.specs.Prelude.{◌≡◌, ℕ, ◌<◌, Bool, true, false, map, Some, None, slice_get}
use Rattle.rv32_exec.specs.declared.statuses.Status.TheVariants.{Ready}
use Rattle.flat_state.specs.declared.records.FlatThread.{FlatThread}
use Rattle.flat_state.specs.State.{FlatState}
use Rattle.flat_state.specs.Signals.{full_among, receivers_of}
use Rattle.quantum.specs.Ahead.{signal_store, Ahead}
use Rattle.paged_steps.specs.declared.ahead.Stands.TheVariants.{Faults}
use Rattle.paged_steps.specs.declared.looking.Next.{Next}
use Rattle.paged_steps.specs.declared.looking.Next.TheVariants.{Held, Takes, Ends, Sends}
use Rattle.paged_steps.specs.Aheads.{IsAheadOf, IsSentBy, StandsSo}
use Rattle.paged_steps.specs.Knowing.{IsHeldAhead}

-- what the steps ahead say of it
abbrev pub DoesSo : FlatState → FlatThread → Ahead → Next → Type 0
DoesSo tables t a Held = IsHeldAhead tables t a
DoesSo tables t a Takes = 0 < a.steps
DoesSo tables t a (Ends kind access va) = (a.steps ≡ 0) × StandsSo tables t a (Faults kind access va)
DoesSo tables t a (Sends store signal) =
    (a.steps ≡ 0) × (signal_store a ≡ Some store) × IsSentBy tables t store signal × (full_among tables.threads (map (λ r. r.0) (receivers_of tables signal.frame)) ≡ None)

-- is it held?
abbrev pub says_held : Next → Bool
says_held Held = true
says_held Takes = false
says_held (Ends kind access va) = false
says_held (Sends store signal) = false

-- there is such a thread, it is ready, and that is what it does next
pub record GoesSo (tables : FlatState) (a : Ahead) (n : ℕ) (next : Next) : Type 0 where
  pub thread : FlatThread
  pub there : slice_get tables.threads n ≡ Some thread
  pub ready : thread.status ≡ Ready
  pub ahead : IsAheadOf tables thread a
  pub does : DoesSo tables thread a next
  pub goes : says_held next ≡ false
