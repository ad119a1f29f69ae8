-- What the tests of a thread and of the steps tell.
use Rattle.std.proofs.Common.{◌≡◌, ℕ, ◌-◌, ◌≤◌, Bool, true, false, Option, Some, None, refl}
use Rattle.std.specs.Prelude.{if◌then◌else◌, nat_lt}
use Rattle.std.specs.Option.{option_map, option_or}
use Rattle.std.proofs.lemmas.Bool.{ltb-false}
use Rattle.rv32_exec.specs.declared.statuses.Status.{Status}
use Rattle.rv32_exec.specs.declared.statuses.Status.TheVariants.{Ready, Trapped, Ended}
use Rattle.flat_state.specs.declared.records.FlatThread.{FlatThread}
use Rattle.flat_state.specs.State.{is_ready}
use Rattle.board_ops.specs.declared.refusals.Refused.TheVariants as why
use Rattle.cached_machine.specs.desc_stores.specs.Contents.{Contents}
use Rattle.cached_machine.specs.Posts.{mark_of}
use Rattle.board_core.specs.Core.{Recorded}
use Rattle.board_core.specs.Refusals.{not_waiting, over}

-- where so many steps aren't refused, they are left
pub enough_left : (b : Recorded) (steps : ℕ) → None ≡ over b steps → steps ≤ b.limit - b.steps
unfolding over
enough_left b steps passes = by (nat_lt (b.limit - b.steps) steps) refl passes
  where
    by : (fewer : Bool) → nat_lt (b.limit - b.steps) steps ≡ fewer → None ≡ (if fewer then Some (why.Over (b.limit - b.steps)) else None) → steps ≤ b.limit - b.steps
    by true is told = absurd (cc)
    by false is told = ltb-false (b.limit - b.steps) steps is

-- ---- no test wants memory

pub over_tells : (b : Recorded) (steps : ℕ) → over b steps ≡ Some why.NoMemory → ⊥
unfolding over
over_tells b steps = by (nat_lt (b.limit - b.steps) steps)
  where
    by : (fewer : Bool) → (if fewer then Some (why.Over (b.limit - b.steps)) else None) ≡ Some why.NoMemory → ⊥
    by true = λ is. cc
    by false = λ is. cc

pub waiting_tells : (c : Contents) (t : FlatThread) → not_waiting c t ≡ Some why.NoMemory → ⊥
unfolding not_waiting
waiting_tells c t = by (is_ready t.status) (mark_of c t.no)
  where
    by : (ready : Bool) (on : Option ℕ) → option_or (if ready then None else Some (why.NotRunnable t.status)) (option_map why.OnCpu on) ≡ Some why.NoMemory → ⊥
    by true None = λ is. cc
    by true (Some cpu) = λ is. cc
    by false on = λ is. cc

-- ---- who takes steps

pub ready_is : (status : Status) → is_ready status ≡ true → status ≡ Ready
ready_is Ready is = refl
ready_is Trapped is = absurd (cc)
ready_is (Ended reason) is = absurd (cc)
