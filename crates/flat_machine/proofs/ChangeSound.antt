-- What the changes of a machine's parts keep.
use Rattle.std.proofs.Common.{◌≡◌, ℕ, ◌<◌, ◌≤◌, Bool, true, false, ◌∷◌, [], ◌++◌, length, map, Some, slice_get, refl, inl, inr, arith, length-append}
use Rattle.std.specs.Prelude.{◌||◌, if◌then◌else◌}
use Rattle.std.proofs.lemmas.Bool.{cases_Bool}
use Rattle.cache_ident.specs.declared.names.Caps.{Caps}
use Rattle.cache_ident.specs.declared.names.SpaceNo.{SpaceNo}
use Rattle.phys_groups.specs.declared.rows.Row.{Row}
use Rattle.phys_groups.specs.Translation.{is_row_of, without}
use Rattle.flat_state.specs.fault_forward.specs.declared.effects.Effect.{Effect}
use Rattle.flat_state.specs.fault_forward.specs.declared.effects.Effect.TheVariants as effects
use Rattle.flat_state.specs.fault_forward.specs.Calls.{Completion}
use Rattle.rv32_exec.specs.Pages.{put_bytes}
use Rattle.flat_state.specs.declared.records.FlatThread.{FlatThread}
use Rattle.flat_state.specs.State.{FlatState, is_ended, with_thread}
use Rattle.flat_state.specs.Signals.{with_address}
use Rattle.flat_state.specs.Call.{answered}
use Rattle.flat_state.specs.WellFormed.{IsWellFormed}
use Rattle.flat_state.proofs.FormedParts.{KeepsRow, memory_formed, rows_formed, thread_formed, without_formed}
use Rattle.flat_state.proofs.FormedEvents.{KeepsCall, call_keeps}
use Rattle.flat_state.proofs.Storing.{length-put_bytes}
use Rattle.flat_thread.specs.Calls.{call_of, own_part, own_part_so}
use Rattle.phys_groups.specs.Rows.{marked}
use Rattle.flat_machine.proofs.DeclareSound.{Sound}

module _ (s : FlatState) (granted : Caps) (sound : Sound s granted) (n : ℕ) (t : FlatThread) (here : slice_get s.threads n ≡ Some t) where
  -- a thread in the place of one with its number, its space, its priority, its pc and no more in its queue
  pub in_place : (u : FlatThread) → u.no ≡ t.no → u.space ≡ t.space → u.priority ≡ t.priority → u.context.pc ≡ t.context.pc → length u.queue.items ≤ length t.queue.items → Sound (with_thread s n u) granted
  in_place u same_no same_space same_priority same_pc shorter =
      let is = sound.formed.threads.each n t here in
      let queued = is.queued in
      record { formed = thread_formed s n t u sound.formed here same_no same_space same_priority (rw same_pc is.aligned) (omega (arith, queued, shorter)); sums = sound.sums }

  pub answered_sound : (value : ℕ) → Sound (with_thread s n (answered t value)) granted
  answered_sound value = in_place (answered t value) refl refl refl refl (omega arith)

  own_sound_so : (x : Completion) (effect : Effect) → KeepsCall t.context t.queue.items x → Sound (with_thread s n (own_part_so t x effect)) granted
  own_sound_so x effects.Ready keeps = in_place _ refl refl refl keeps.pc keeps.shorter
  own_sound_so x (effects.Put byte) keeps = in_place _ refl refl refl keeps.pc keeps.shorter
  own_sound_so x (effects.Decimal number) keeps = in_place _ refl refl refl keeps.pc keeps.shorter
  own_sound_so x (effects.End reason) keeps = in_place _ refl refl refl refl (omega arith)
  own_sound_so x (effects.Map vpn frame flags receiver) keeps = in_place _ refl refl refl refl (omega arith)
  own_sound_so x (effects.Unmap vpn) keeps = in_place _ refl refl refl refl (omega arith)
  own_sound_so x (effects.Spawn pc a0 priority) keeps = in_place _ refl refl refl refl (omega arith)
  own_sound_so x (effects.Grant kernel group bits) keeps = in_place _ refl refl refl refl (omega arith)

  pub own_sound : Sound (with_thread s n (own_part t)) granted
  unfolding call_of
  own_sound = own_sound_so (call_of t) (call_of t).effect (call_keeps t.no t.context t.queue.items)

-- the rows without that of a page
pub without_sound : (s : FlatState) (granted : Caps) (sound : Sound s granted) (space : SpaceNo) (vpn : ℕ) → Sound (record s { rows = without space vpn s.rows }) granted
without_sound s granted sound space vpn = record { formed = without_formed s space vpn sound.formed; sums = sound.sums }

-- a number more in memory
pub stored_sound : (s : FlatState) (granted : Caps) (sound : Sound s granted) (size at value : ℕ) → Sound (record s { memory = put_bytes size s.memory at value }) granted
stored_sound s granted sound size at value =
    record { formed = memory_formed s (put_bytes size s.memory at value) sound.formed (length-put_bytes size s.memory at value); sums = sound.sums }

-- marks are bits of rows, and nothing else
marked_keeps : (space : SpaceNo) (vpn : ℕ) (written : Bool) → KeepsRow (marked space vpn written)
marked_keeps space vpn written = record {
  space = λ row. by (λ (r : Row). r.space) row (is_row_of space vpn row) refl;
  vpn = λ row. by (λ (r : Row). r.vpn) row (is_row_of space vpn row) refl;
  frame = λ row. by (λ (r : Row). r.frame) row (is_row_of space vpn row) refl;
  flags = λ row. by (λ (r : Row). r.flags) row (is_row_of space vpn row) refl;
  receiver = λ row. by (λ (r : Row). r.receiver) row (is_row_of space vpn row) refl;
}
  where
    by : {X : Type 0} (part : Row → X) (row : Row) (b : Bool) → part (record row { referenced = true; modified = row.modified || written }) ≡ part row → part (if b then record row { referenced = true; modified = row.modified || written } else row) ≡ part row
    by part row true same = same
    by part row false same = refl

pub marked_sound : (s : FlatState) (granted : Caps) (sound : Sound s granted) (space : SpaceNo) (vpn : ℕ) (written : Bool) → Sound (record s { rows = map (marked space vpn written) s.rows }) granted
marked_sound s granted sound space vpn written =
    record { formed = rows_formed (marked space vpn written) (marked_keeps space vpn written) s sound.formed; sums = sound.sums }

-- a state in which a thread with room got an address is well-formed
pub addressed_formed : (s : FlatState) → IsWellFormed s → (n : ℕ) (t : FlatThread) (va : ℕ) → slice_get s.threads n ≡ Some t → (is_ended t.status ≡ false → length t.queue.items < 64) → IsWellFormed (with_thread s n (with_address va t))
addressed_formed s formed n t va here room =
    let known = formed.threads.each n t here in
    elim (cases_Bool (is_ended t.status)) [
      | inl ended ↦ rw ended (thread_formed s n t t formed here refl refl refl known.aligned known.queued)
      | inr running ↦ rw running (thread_formed s n t (record t { queue = record { items = t.queue.items ++ va ∷ [] } }) formed here refl refl refl known.aligned (rw length-append (omega (arith, room running))))
    ]
