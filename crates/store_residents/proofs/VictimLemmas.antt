-- A victim is a resident.
use Rattle.std.proofs.Common.{◌≡◌, ◌⊎◌, ℕ, ◌≤◌, Bool, true, false, List, [], ◌∷◌, Contains, Option, Some, ◌∙◌, ap, subst, inl, inr, refl, arith}
use Rattle.cache_ident.specs.declared.idents.Ident.{Ident}
use Rattle.cache_ident.specs.declared.idents.Kind.{Kind}
use Rattle.cache_ident.specs.declared.idents.Kind.TheVariants as kind
use Rattle.cache_ident.specs.declared.names.Name.{Name}
use Rattle.cache_ident.specs.Residents.{Resident}
use Rattle.resident_pairs.specs.flat_laws.proofs.Members.{contains_nothing, Contains-behind, Contains-cases, Contains-here}
use Rattle.desc_stores.specs.slot_cache.specs.declared.loaded.Loaded.{Loaded}
use Rattle.desc_stores.specs.slot_cache.specs.Cells.{cell_at, IsVictim, NoneMayGo}
use Rattle.desc_stores.specs.slot_cache.specs.Rows.{row_name}
use Rattle.desc_stores.specs.kernel_cache.specs.Kernels as kernel_rec
use Rattle.desc_stores.specs.space_cache.specs.Spaces as space_rec
use Rattle.desc_stores.specs.thread_cache.specs.Threads as thread_rec
use Rattle.desc_stores.specs.kind_store.proofs.OrderLemmas.{cases_ident}
use Rattle.desc_stores.specs.Contents.{resident_of, residents_of, Contents, IsVictimOf, NoneMayGoOf}
use Rattle.desc_stores.specs.Sound.{AreSound}
use Rattle.store_residents.specs.Slots.{resident_at}
use Rattle.store_residents.specs.Victims.{IsOldest}
use Rattle.store_residents.proofs.CellLemmas.{seen, seen_back}
use Rattle.store_residents.proofs.KindLemmas.{seat}
use Rattle.store_residents.proofs.ResidentLemmas.{resident_seat, seat_resident}

-- what stands in the slots with that view has one that may go and was loaded first
record IsVictimIn (at : ℕ → Option Resident) (keep : List Ident) (ident : Ident) : Type 0 where
  victim : Resident
  there : at ident.slot ≡ Some victim
  own : victim.ident ≡ ident
  unlocked : victim.locked ≡ false
  not_kept : Contains keep victim.ident → ⊥
  smallest : (slot : ℕ) (other : Resident) → at slot ≡ Some other → other.locked ≡ false → (Contains keep other.ident → ⊥) → ident.serial ≤ other.ident.serial

module _ (c : Contents) (keep : List Ident) where
  victim_at : (k : Kind) (ident : Ident) → IsVictimOf c k keep ident → IsVictimIn (resident_at c k) keep ident
  victim_at k ident is = by k is
    where
      of : {T : Type 0} (called : T → Name) (cells : List (Option (Loaded T))) → IsVictim cells keep ident → IsVictimIn (λ slot. seen called (cell_at cells slot)) keep ident
      of called cells is = record {
        victim = resident_of called is.candidate.0;
        there = ap (seen called) is.candidate.1;
        own = is.candidate.2;
        unlocked = is.candidate.3.unlocked;
        not_kept = is.candidate.3.not_kept;
        smallest = λ slot other there unlocked not_kept.
            let back = seen_back called (cell_at cells slot) other there in
            let lower = is.smallest slot back.0 back.1 (record {
              unlocked = ap (λ (r : Resident). r.locked) back.2 ∙ unlocked;
              not_kept = λ kept. not_kept (subst (Contains keep) (ap (λ (r : Resident). r.ident) back.2) kept);
            }) in
            omega (arith, lower, ap (λ (r : Resident). r.ident.serial) back.2);
      }

      by : (k : Kind) → IsVictimOf c k keep ident → IsVictimIn (resident_at c k) keep ident
      by kind.Kernel = of kernel_rec.name_of c.kernels.cells
      by kind.Space = of space_rec.name_of c.spaces.cells
      by kind.Thread = of thread_rec.name_of c.threads.cells
      by kind.Mapping = of row_name c.rows.kept.cells

  none_at : (k : Kind) → NoneMayGoOf c k keep → (slot : ℕ) (r : Resident) → resident_at c k slot ≡ Some r → r.locked ≡ false → (Contains keep r.ident → ⊥) → ⊥
  none_at k none = by k none
    where
      of : {T : Type 0} (called : T → Name) (cells : List (Option (Loaded T))) → NoneMayGo cells keep → (slot : ℕ) (r : Resident) → seen called (cell_at cells slot) ≡ Some r → r.locked ≡ false → (Contains keep r.ident → ⊥) → ⊥
      of called cells none slot r there unlocked not_kept =
          let back = seen_back called (cell_at cells slot) r there in
          none slot back.0 back.1 (record {
            unlocked = ap (λ (r : Resident). r.locked) back.2 ∙ unlocked;
            not_kept = λ kept. not_kept (subst (Contains keep) (ap (λ (r : Resident). r.ident) back.2) kept);
          })

      by : (k : Kind) → NoneMayGoOf c k keep → (slot : ℕ) (r : Resident) → resident_at c k slot ≡ Some r → r.locked ≡ false → (Contains keep r.ident → ⊥) → ⊥
      by kind.Kernel = of kernel_rec.name_of c.kernels.cells
      by kind.Space = of space_rec.name_of c.spaces.cells
      by kind.Thread = of thread_rec.name_of c.threads.cells
      by kind.Mapping = of row_name c.rows.kept.cells

  pub victim_resident : AreSound c → (k : Kind) (ident : Ident) → IsVictimOf c k keep ident → (r : Resident) × (r.ident ≡ ident) × IsOldest (residents_of c) k keep r
  victim_resident sound k ident is =
      let at = victim_at k ident is in
      let place = seat c sound k ident.slot at.victim at.there in (
        at.victim,
        at.own,
        record {
          there = seat_resident c sound k ident.slot at.victim at.there;
          may_go = record { of_kind = place.kind_is; unlocked = at.unlocked; not_kept = at.not_kept };
          oldest = λ other there may_go.
              let stands = subst (λ (j : Kind). resident_at c j other.ident.slot ≡ Some other) may_go.of_kind (resident_seat c other there) in
              omega (arith, at.smallest other.ident.slot other stands may_go.unlocked may_go.not_kept, ap (λ (i : Ident). i.serial) at.own);
        },
      )

contains_or : (keep : List Ident) (i : Ident) → Contains keep i ⊎ (Contains keep i → ⊥)
contains_or [] i = inr (contains_nothing i)
contains_or (x ∷ keep) i = by (contains_or keep i) (cases_ident x i)
  where
    by : Contains keep i ⊎ (Contains keep i → ⊥) → (x ≡ i) ⊎ (x ≡ i → ⊥) → Contains (x ∷ keep) i ⊎ (Contains (x ∷ keep) i → ⊥)
    by rest (inl same) = inl (subst (Contains (x ∷ keep)) same (Contains-here x keep))
    by (inl behind) (inr apart) = inl (Contains-behind x keep i behind)
    by (inr nowhere) (inr apart) = inr (λ there. elim (Contains-cases x keep i there) [
      | inl same ↦ apart same
      | inr behind ↦ nowhere behind
    ])

-- where there is no victim
pub locked_or_kept : (c : Contents) (k : Kind) (keep : List Ident) (r : Resident) → NoneMayGoOf c k keep → Contains (residents_of c) r → r.ident.kind ≡ k → (r.locked ≡ true) ⊎ Contains keep r.ident
locked_or_kept c k keep r none there of_kind = by r.locked refl (contains_or keep r.ident)
  where
    stands : resident_at c k r.ident.slot ≡ Some r
    stands = subst (λ (j : Kind). resident_at c j r.ident.slot ≡ Some r) of_kind (resident_seat c r there)

    by : (locked : Bool) → r.locked ≡ locked → Contains keep r.ident ⊎ (Contains keep r.ident → ⊥) → (r.locked ≡ true) ⊎ Contains keep r.ident
    by true is kept = inl is
    by false is (inl kept) = inr kept
    by false is (inr apart) = absurd (none_at c keep k none r.ident.slot r stands is apart)
