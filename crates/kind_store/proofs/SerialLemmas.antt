-- The list by serial, once what stands at a slot has changed.
use Rattle.std.proofs.Common.{◌≡◌, ℕ, zero, suc, ◌+◌, ◌<◌, false, true, List, [], length, count_by, set, replicate, Option, Some, None, sym, ◌∙◌, ap, refl, arith}
use Rattle.std.specs.Ordering.{nat_cmp}
use Rattle.std.proofs.lemmas.Bool.{false≢true}
use Rattle.std.proofs.lemmas.List.{length-replicate, length-set}
use Rattle.std.proofs.lemmas.List.Sums.{count_by-le-length}
use Rattle.cache_ident.specs.declared.idents.Ident.{Ident}
use Rattle.sorted_list.specs.Sorted.{Sorted}
use Rattle.slot_cache.specs.declared.loaded.Loaded.{Loaded}
use Rattle.slot_cache.specs.Cells.{cell_at, with_lock, HasNoSerial}
use Rattle.slot_cache.specs.Index.{IsRelisted, IsRising}
use Rattle.slot_cache.specs.Table.{is_unlocked, places_of, IsUnlocked}
use Rattle.slot_cache.proofs.SlotLemmas.{all_none, as_it_is, cell_within, lists-nil, not_none, once-set, one_at, others_apart, some_same, unlocked-count_lock, unlocked-count_put, unlocked-count_take, unlocked-set}
use Rattle.kind_store.specs.Seated.{AreBySerial}

none_counts : (T : Type 0) (n : ℕ) → 0 ≡ count_by (is_unlocked {T = T}) (replicate n None)
none_counts T zero = refl
none_counts T (suc n) = none_counts T n

module _ {T : Type 0} (cells : List (Option (Loaded T))) (by_serial new : Sorted ℕ ℕ) (listed : AreBySerial cells by_serial) (slot : ℕ) (rising : IsRising nat_cmp new.entries) (room : new.room ≡ by_serial.room) where
  -- one came
  pub serials-put : (e : Loaded T) → slot < length cells → cell_at cells slot ≡ None → e.locked ≡ false → HasNoSerial cells e.ident.serial → IsRelisted by_serial.entries new.entries (e.ident.serial, slot) false → length new.entries ≡ length by_serial.entries + 1 → AreBySerial (set cells slot (Some e)) new
  serials-put e within none clear fresh relisted len = record {
    once = once-set cells slot (Some e) e.ident.serial (λ x is. ap (λ (x : Loaded T). x.ident.serial) (some_same x e (sym is))) within (λ k x there same. absurd (fresh k x there same)) listed.once;
    lists = unlocked-set cells slot (Some e) e.ident.serial false by_serial.entries new.entries within (λ x there. absurd (not_none cells slot x there none)) (λ _. (e, refl, refl, clear)) (λ x is _. (refl, ap (λ (x : Loaded T). x.ident.serial) (some_same x e (sym is)))) listed.lists rising relisted;
    len = omega (arith, len, listed.len, unlocked-count_put cells slot e within none clear);
    room = omega (arith, room, listed.room, length-set cells slot (Some e));
  }

  module _ (e : Loaded T) (there : cell_at cells slot ≡ Some e) where
    -- one left
    pub serials-take : IsRelisted by_serial.entries new.entries (e.ident.serial, slot) true → length new.entries + places_of e.locked ≡ length by_serial.entries → AreBySerial (set cells slot None) new
    serials-take relisted len =
        let within = cell_within cells slot e there in
        let none_some : (x : Loaded T) → None ≡ Some x → ⊥ = λ x is. cc in
        record {
          once = once-set cells slot None e.ident.serial (λ x is. absurd (none_some x is)) within (others_apart cells slot e there listed.once) listed.once;
          lists = unlocked-set cells slot None e.ident.serial true by_serial.entries new.entries within (λ x at. ap (λ (x : Loaded T). x.ident.serial) (one_at cells slot x e at there)) (λ off. absurd (false≢true (sym off))) (λ x is _. absurd (none_some x is)) listed.lists rising relisted;
          len = omega (arith, len, listed.len, unlocked-count_take cells slot e there);
          room = omega (arith, room, listed.room, length-set cells slot None);
        }

    -- one was locked, or its lock ended
    pub serials-lock : (now : Loaded T) → now.ident ≡ e.ident → IsRelisted by_serial.entries new.entries (e.ident.serial, slot) now.locked → length new.entries + places_of e.locked ≡ length by_serial.entries + places_of now.locked → AreBySerial (set cells slot (Some now)) new
    serials-lock now own relisted len =
        let within = cell_within cells slot e there in
        let serial : now.ident.serial ≡ e.ident.serial = ap (λ (i : Ident). i.serial) own in
        record {
          once = once-set cells slot (Some now) e.ident.serial (λ x is. ap (λ (x : Loaded T). x.ident.serial) (some_same x now (sym is)) ∙ serial) within (others_apart cells slot e there listed.once) listed.once;
          lists = unlocked-set cells slot (Some now) e.ident.serial now.locked by_serial.entries new.entries within (λ x at. ap (λ (x : Loaded T). x.ident.serial) (one_at cells slot x e at there)) (λ clear. (now, refl, serial, clear)) (λ x is clear. (ap (λ (x : Loaded T). x.locked) (some_same now x is) ∙ clear, ap (λ (x : Loaded T). x.ident.serial) (some_same x now (sym is)) ∙ serial)) listed.lists rising relisted;
          len = omega (arith, len, listed.len, unlocked-count_lock cells slot e now there);
          room = omega (arith, room, listed.room, length-set cells slot (Some now));
        }

module _ {T : Type 0} (cells : List (Option (Loaded T))) (by_serial : Sorted ℕ ℕ) (listed : AreBySerial cells by_serial) (slot : ℕ) where
  -- one has another content
  pub serials-same : (e now : Loaded T) → cell_at cells slot ≡ Some e → now.ident ≡ e.ident → now.locked ≡ e.locked → AreBySerial (set cells slot (Some now)) by_serial
  serials-same e now there own lock =
      let relisted : IsRelisted by_serial.entries by_serial.entries (e.ident.serial, slot) now.locked = rw lock (as_it_is cells slot e by_serial.entries there listed.lists) in
      serials-lock cells by_serial by_serial listed slot listed.lists.rising refl e there now own relisted (omega (arith, ap places_of lock))

  -- there is room for one more that isn't locked
  pub serials-room_put : (e : Loaded T) → slot < length cells → cell_at cells slot ≡ None → e.locked ≡ false → length by_serial.entries < by_serial.room
  serials-room_put e within none clear = omega (arith, listed.len, listed.room, unlocked-count_put cells slot e within none clear, length-set cells slot (Some e), count_by-le-length is_unlocked (set cells slot (Some e)))

  pub serials-room_lock : (e : Loaded T) → cell_at cells slot ≡ Some e → e.locked ≡ true → length by_serial.entries < by_serial.room
  serials-room_lock e there on =
      let now : Loaded T = with_lock false e in
      let out : places_of e.locked ≡ 0 = ap places_of on in
      omega (arith, listed.len, listed.room, unlocked-count_lock cells slot e now there, out, length-set cells slot (Some now), count_by-le-length is_unlocked (set cells slot (Some now)))

-- nothing is listed of slots that hold nothing
pub serials-new : {T : Type 0} (cap : ℕ) (by_serial : Sorted ℕ ℕ) → by_serial ≡ record { room = cap; entries = [] } → AreBySerial {T = T} (replicate cap None) by_serial
serials-new {T} cap by_serial is =
    let none : (slot : ℕ) (l : Loaded T) → cell_at (replicate cap None) slot ≡ Some l → ⊥ = λ slot l there. not_none (replicate cap None) slot l there (all_none cap slot) in
    rw is (record {
      once = λ i j a b at. absurd (none i a at);
      lists = lists-nil nat_cmp (IsUnlocked (replicate cap None)) (λ place clear. none place.1 clear.0 clear.1);
      len = none_counts T cap;
      room = sym (length-replicate {A = Option (Loaded T)} cap None);
    })
