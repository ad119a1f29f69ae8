-- A slot is taken where a resident has it.
use Rattle.std.proofs.Common.{◌≡◌, ◌↔◌, ℕ, ◌<◌, ◌≤◌, List, length, Option, Some, None, IsSome, ap, subst, refl}
use Rattle.std.specs.Option.{option_map}
use Rattle.cache_ident.specs.declared.idents.Kind.{Kind}
use Rattle.cache_ident.specs.declared.idents.Kind.TheVariants as kind
use Rattle.cache_ident.specs.declared.names.Caps.{Caps}
use Rattle.cache_ident.specs.declared.names.Name.{Name}
use Rattle.cache_ident.specs.Residents.{Resident}
use Rattle.desc_stores.specs.slot_cache.specs.declared.loaded.Loaded.{Loaded}
use Rattle.desc_stores.specs.slot_cache.specs.Cells.{cell_at, IsFull, IsLowestFree}
use Rattle.desc_stores.specs.slot_cache.specs.Rows.{row_name}
use Rattle.desc_stores.specs.owner_shelf.proofs.SoundLemmas.{some_is}
use Rattle.desc_stores.specs.kernel_cache.specs.Kernels as kernel_rec
use Rattle.desc_stores.specs.space_cache.specs.Spaces as space_rec
use Rattle.desc_stores.specs.thread_cache.specs.Threads as thread_rec
use Rattle.resident_pairs.specs.run_journal.specs.Legal.{count_of, IsTaken}
use Rattle.resident_pairs.specs.Among.{AreFew}
use Rattle.desc_stores.specs.Contents.{resident_of, residents_of, Contents, IsFullOf, IsLowestFreeOf}
use Rattle.desc_stores.specs.Sound.{AreSound}
use Rattle.desc_stores.proofs.PutLemmas.{some_under}
use Rattle.store_residents.specs.Slots.{resident_at, slots_of, HasSlots}
use Rattle.store_residents.proofs.CellLemmas.{seen}
use Rattle.store_residents.proofs.KindLemmas.{seat}
use Rattle.store_residents.proofs.ResidentLemmas.{one_in_slot, resident_seat, seat_resident, serials_rise}
use Rattle.store_residents.proofs.SlotLemmas.{count_all, count_few, none_free}

pub some_map : {A B : Type 0} (f : A → B) (o : Option A) → IsSome o → IsSome (option_map f o)
some_map f None some = absurd (cc)
some_map f (Some x) some = some

pub what_is_there : {X : Type 0} (o : Option X) → IsSome o → (x : X) × (o ≡ Some x)
what_is_there None some = absurd (cc)
what_is_there (Some x) some = (x, refl)

some_or_none : {X : Type 0} (o : Option X) → ((IsSome o → ⊥) → ⊥) → IsSome o
some_or_none None not_none = absurd (not_none (λ some. cc))
some_or_none (Some x) not_none = some_is (Some x) x refl

-- the lowest free slot of a kind
pub lowest_at : (c : Contents) (k : Kind) (slot : ℕ) → IsLowestFreeOf c k slot → (slot < slots_of c k) × (resident_at c k slot ≡ None) × ((other : ℕ) → other < slot → IsSome (resident_at c k other))
lowest_at c k slot lowest = by k lowest
  where
    of : {T : Type 0} (called : T → Name) (cells : List (Option (Loaded T))) → IsLowestFree cells slot → (slot < length cells) × (seen called (cell_at cells slot) ≡ None) × ((other : ℕ) → other < slot → IsSome (seen called (cell_at cells other)))
    of called cells lowest = (lowest.below, ap (seen called) lowest.free, λ other low. some_map (resident_of called) (cell_at cells other) (lowest.lowest other low))

    by : (k : Kind) → IsLowestFreeOf c k slot → (slot < slots_of c k) × (resident_at c k slot ≡ None) × ((other : ℕ) → other < slot → IsSome (resident_at c k other))
    by kind.Kernel = of kernel_rec.name_of c.kernels.cells
    by kind.Space = of space_rec.name_of c.spaces.cells
    by kind.Thread = of thread_rec.name_of c.threads.cells
    by kind.Mapping = of row_name c.rows.kept.cells

-- each slot of a kind is taken
pub full_at : (c : Contents) (k : Kind) → IsFullOf c k ↔ ((slot : ℕ) → slot < slots_of c k → IsSome (resident_at c k slot))
full_at c k = by k
  where
    of : {T : Type 0} (called : T → Name) (cells : List (Option (Loaded T))) → IsFull cells ↔ ((slot : ℕ) → slot < length cells → IsSome (seen called (cell_at cells slot)))
    of called cells = (
      λ full slot within. some_map (resident_of called) (cell_at cells slot) (full slot within),
      λ full slot within. some_under (resident_of called) (cell_at cells slot) (full slot within),
    )

    by : (k : Kind) → IsFullOf c k ↔ ((slot : ℕ) → slot < slots_of c k → IsSome (resident_at c k slot))
    by kind.Kernel = of kernel_rec.name_of c.kernels.cells
    by kind.Space = of space_rec.name_of c.spaces.cells
    by kind.Thread = of thread_rec.name_of c.threads.cells
    by kind.Mapping = of row_name c.rows.kept.cells

-- what has a slot stands in it
pub taken_at : (c : Contents) (k : Kind) (slot : ℕ) → IsTaken (residents_of c) k slot → (r : Resident) × (resident_at c k slot ≡ Some r)
taken_at c k slot is = (is.0, subst (λ s. resident_at c k s ≡ Some is.0) is.3 (subst (λ (j : Kind). resident_at c j is.0.ident.slot ≡ Some is.0) is.2 (resident_seat c is.0 is.1)))

module _ (c : Contents) (sound : AreSound c) where
  pub taken_iff : (k : Kind) (slot : ℕ) → IsTaken (residents_of c) k slot ↔ IsSome (resident_at c k slot)
  taken_iff k slot = (
    λ is. let r = taken_at c k slot is in some_is (resident_at c k slot) r.0 r.1,
    λ some.
        let r = what_is_there (resident_at c k slot) some in
        let at = seat c sound k slot r.0 r.1 in
        (r.0, seat_resident c sound k slot r.0 r.1, at.kind_is, at.slot_is),
  )

  pub taken_within : (k : Kind) (slot : ℕ) → IsTaken (residents_of c) k slot → slot < slots_of c k
  taken_within k slot is = let r = taken_at c k slot is in (seat c sound k slot r.0 r.1).within

  pub lowest_free : (k : Kind) (slot : ℕ) → IsLowestFreeOf c k slot → (slot < slots_of c k) × (IsTaken (residents_of c) k slot → ⊥) × ((other : ℕ) → other < slot → IsTaken (residents_of c) k other)
  lowest_free k slot is =
      let lowest = lowest_at c k slot is in
      (lowest.0, λ taken. (let r = taken_at c k slot taken in let there = r.1 in let free = lowest.1 in cc), λ other low. (taken_iff k other).1 (lowest.2 other low))

  pub few : (k : Kind) → count_of (residents_of c) k ≤ slots_of c k
  few k = count_few k (residents_of c) (serials_rise c sound) (one_in_slot c sound) (slots_of c k) (taken_within k)

  pub full_iff : (k : Kind) → IsFullOf c k ↔ (count_of (residents_of c) k ≡ slots_of c k)
  full_iff k = (
    λ full. count_all k (residents_of c) (serials_rise c sound) (one_in_slot c sound) (slots_of c k) (taken_within k) (λ slot within. (taken_iff k slot).1 ((full_at c k).0 full slot within)),
    λ whole. (full_at c k).1 (λ slot within. some_or_none (resident_at c k slot) (λ free. none_free k (residents_of c) (serials_rise c sound) (one_in_slot c sound) (slots_of c k) (taken_within k) whole slot within (λ taken. free ((taken_iff k slot).0 taken)))),
  )

  pub are_few : (caps : Caps) → HasSlots caps c → AreFew caps (residents_of c)
  are_few caps slots k = subst (λ n. count_of (residents_of c) k ≤ n) (slots k) (few k)
