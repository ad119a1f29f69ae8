-- How receivers get their addresses one after another.
use Rattle.std.proofs.Common.{◌≡◌, ℕ, zero, suc, ◌+◌, ◌<◌, false, List, [], ◌∷◌, length, map, drop, Option, Some, None, refl, sym, ◌∙◌, ap, subst, arith}
use Rattle.std.specs.List.{slice_get}
use Rattle.std.proofs.lemmas.List.{length-set}
use Rattle.cache_ident.specs.declared.names.KernelNo.{KernelNo}
use Rattle.cache_ident.specs.declared.names.ThreadNo.{ThreadNo}
use Rattle.cache_ident.specs.declared.names.Vpn.{Vpn}
use Rattle.signal_pages.specs.Signals.{address_of}
use Rattle.flat_state.specs.declared.records.FlatThread.{FlatThread}
use Rattle.flat_state.specs.State.{is_ended}
use Rattle.flat_state.specs.Signals.{HasRoom, sent, sent_to, with_address}
use Rattle.flat_state.specs.WellFormed.{AreThreads}
use Rattle.flat_state.proofs.FormedParts.{IsRoomFor, room_from, room_here, sent_one, times_in-here}

-- the first i receivers have their addresses, and the others have room for theirs
pub record IsSending (spaces : List KernelNo) (offset : ℕ) (before now : List FlatThread) (receivers : List (ThreadNo × Vpn)) (i : ℕ) : Type 0 where
  pub rest : sent now offset (drop i receivers) ≡ sent before offset receivers
  pub are : AreThreads spaces now
  pub room : IsRoomFor now (map (λ r. r.0) (drop i receivers))
  pub each : (k : ℕ) (r : ThreadNo × Vpn) → slice_get receivers k ≡ Some r → (r.0.0 < length now) × (r.1.0 < 1048576)

has_each : (threads : List FlatThread) (receivers : List (ThreadNo × Vpn)) → HasRoom threads receivers → (k : ℕ) (r : ThreadNo × Vpn) → slice_get receivers k ≡ Some r → (r.0.0 < length threads) × (r.1.0 < 1048576)
has_each threads [] has k r at = grind (arith, at)
has_each threads ((thread, vpn) ∷ rest) has zero r at = grind (arith, at, has.0, has.1)
has_each threads ((thread, vpn) ∷ rest) has (suc k) r at = has_each threads rest has.3 k r at

pub sending_none : (spaces : List KernelNo) (offset : ℕ) (threads : List FlatThread) (receivers : List (ThreadNo × Vpn)) → AreThreads spaces threads → HasRoom threads receivers → IsSending spaces offset threads threads receivers 0
sending_none spaces offset threads receivers are has = record { rest = refl; are = are; room = room_from threads receivers has; each = has_each threads receivers has }

length-sent_to : (threads : List FlatThread) (thread : ThreadNo) (va : ℕ) (o : Option FlatThread) → length (sent_to threads thread va o) ≡ length threads
length-sent_to threads thread va None = refl
length-sent_to threads thread va (Some t) = length-set threads thread.0 (with_address va t)

module _ (spaces : List KernelNo) (offset : ℕ) (before now : List FlatThread) (receivers : List (ThreadNo × Vpn)) (i : ℕ) (r : ThreadNo × Vpn) (at : slice_get receivers i ≡ Some r) (split : drop i receivers ≡ r ∷ drop (i + 1) receivers) (sending : IsSending spaces offset before now receivers i) where
  room_now : IsRoomFor now (r.0 ∷ map (λ q. q.0) (drop (i + 1) receivers))
  room_now = subst (λ (rs : List (ThreadNo × Vpn)). IsRoomFor now (map (λ q. q.0) rs)) split sending.room

  -- the next receiver has room for its address
  pub sending_room : (t : FlatThread) → slice_get now r.0.0 ≡ Some t → is_ended t.status ≡ false → length t.queue.items < 64
  sending_room t here running =
      let most = room_here spaces now r.0 (map (λ q. q.0) (drop (i + 1) receivers)) (address_of r.1 offset) sending.are room_now t here running in
      omega (arith, most, times_in-here r.0 (map (λ q. q.0) (drop (i + 1) receivers)) r.0 refl)

  pub sending_more : IsSending spaces offset before (sent_to now r.0 (address_of r.1 offset) (slice_get now r.0.0)) receivers (i + 1)
  sending_more =
      let one = sent_one spaces now r.0 (map (λ q. q.0) (drop (i + 1) receivers)) (address_of r.1 offset) sending.are room_now (slice_get now r.0.0) refl in
      record {
        rest = sym (ap (sent now offset) split) ∙ sending.rest;
        are = one.are;
        room = one.room;
        each = λ k q there. let known = sending.each k q there in (omega (arith, known.0, length-sent_to now r.0 (address_of r.1 offset) (slice_get now r.0.0)), known.1);
      }
