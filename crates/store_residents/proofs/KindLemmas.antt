-- What stands in the slots of each kind.
use Rattle.std.proofs.Common.{◌≡◌, ℕ, List, Option, Some, sym, ◌∙◌, ap, subst, refl}
use Rattle.std.specs.Option.{option_map}
use Rattle.cache_ident.specs.declared.idents.Ident.{Ident}
use Rattle.cache_ident.specs.declared.idents.Kind.{Kind}
use Rattle.cache_ident.specs.declared.idents.Kind.TheVariants as kind
use Rattle.cache_ident.specs.declared.idents.Standing.TheVariants.{Live}
use Rattle.cache_ident.specs.declared.names.Name.{Name}
use Rattle.cache_ident.specs.Residents.{Resident}
use Rattle.cache_ident.specs.Rolls.{standing_in}
use Rattle.desc_stores.specs.slot_cache.specs.declared.loaded.Loaded.{Loaded}
use Rattle.desc_stores.specs.slot_cache.specs.Cells.{cell_at}
use Rattle.desc_stores.specs.slot_cache.specs.Rows.{row_name}
use Rattle.desc_stores.specs.kernel_cache.specs.Kernels as kernel_rec
use Rattle.desc_stores.specs.space_cache.specs.Spaces as space_rec
use Rattle.desc_stores.specs.thread_cache.specs.Threads as thread_rec
use Rattle.desc_stores.specs.kind_store.specs.Kept as stored
use Rattle.desc_stores.specs.kind_store.specs.Rolls.{loaded_as}
use Rattle.desc_stores.specs.Contents.{resident_as, resident_in, resident_of, Contents}
use Rattle.desc_stores.specs.Sound.{AreSound, IsExactlyOne, IsListed}
use Rattle.desc_stores.proofs.CellLemmas.{as_loaded}
use Rattle.desc_stores.proofs.KindLemmas.{resident_back}
use Rattle.store_residents.specs.Slots.{resident_at, slots_of}
use Rattle.store_residents.proofs.CellLemmas.{as_seen, seated, seen_as, seen_back, IsSeated}

-- what is loaded with an identifier stands in its slot
pub at_as : (c : Contents) (i : Ident) (r : Resident) → resident_as c i ≡ Some r → (resident_at c i.kind i.slot ≡ Some r) × (r.ident ≡ i)
at_as c i r held = by i.kind held
  where
    by : (k : Kind) → resident_in c k i ≡ Some r → (resident_at c k i.slot ≡ Some r) × (r.ident ≡ i)
    by kind.Kernel held = seen_as kernel_rec.name_of c.kernels.cells i r held
    by kind.Space held = seen_as space_rec.name_of c.spaces.cells i r held
    by kind.Thread held = seen_as thread_rec.name_of c.threads.cells i r held
    by kind.Mapping held = seen_as row_name c.rows.kept.cells i r held

-- and back
as_at_own : (c : Contents) (i : Ident) (r : Resident) → resident_at c i.kind i.slot ≡ Some r → r.ident ≡ i → resident_as c i ≡ Some r
as_at_own c i r there own = by i.kind there
  where
    by : (k : Kind) → resident_at c k i.slot ≡ Some r → resident_in c k i ≡ Some r
    by kind.Kernel there = as_seen kernel_rec.name_of c.kernels.cells i r there own
    by kind.Space there = as_seen space_rec.name_of c.spaces.cells i r there own
    by kind.Thread there = as_seen thread_rec.name_of c.threads.cells i r there own
    by kind.Mapping there = as_seen row_name c.rows.kept.cells i r there own

module _ (c : Contents) (sound : AreSound c) where
  -- what stands in a slot of a kind
  pub seat : (k : Kind) (slot : ℕ) (r : Resident) → resident_at c k slot ≡ Some r → IsSeated k slot (slots_of c k) r
  seat kind.Kernel = seated kernel_rec.name_of c.kernels.cells kind.Kernel sound.kernels.placed (λ v. refl)
  seat kind.Space = seated space_rec.name_of c.spaces.cells kind.Space sound.spaces.placed (λ v. refl)
  seat kind.Thread = seated thread_rec.name_of c.threads.cells kind.Thread sound.threads.placed (λ v. refl)
  seat kind.Mapping = seated row_name c.rows.kept.cells kind.Mapping sound.rows.placed (λ v. refl)

  -- is loaded with its identifier
  pub as_at : (k : Kind) (slot : ℕ) (r : Resident) → resident_at c k slot ≡ Some r → resident_as c r.ident ≡ Some r
  as_at k slot r there =
      let at = seat k slot r there in
      as_at_own c r.ident r (subst (λ s. resident_at c r.ident.kind s ≡ Some r) (sym at.slot_is) (subst (λ (j : Kind). resident_at c j slot ≡ Some r) (sym at.kind_is) there)) refl

  -- what is loaded is live
  pub loaded_live : (i : Ident) (r : Resident) → resident_as c i ≡ Some r → standing_in c.issued i ≡ Live
  loaded_live i r held = by i.kind held
    where
      of : {T : Type 0} (k : Kind) (called : T → Name) (cells : List (Option (Loaded T))) → IsListed k c.issued cells → option_map (resident_of called) (loaded_as cells i) ≡ Some r → standing_in c.issued i ≡ Live
      of k called cells listed held =
          let back = resident_back called cells i r held in
          listed.enrolled.live i (back.0, back.1, back.2)

      by : (k : Kind) → resident_in c k i ≡ Some r → standing_in c.issued i ≡ Live
      by kind.Kernel = of kind.Kernel kernel_rec.name_of c.kernels.cells sound.kernels
      by kind.Space = of kind.Space space_rec.name_of c.spaces.cells sound.spaces
      by kind.Thread = of kind.Thread thread_rec.name_of c.threads.cells sound.threads
      by kind.Mapping = of kind.Mapping row_name c.rows.kept.cells sound.rows

  -- and back
  pub live_loaded : (i : Ident) → standing_in c.issued i ≡ Live → (r : Resident) × (resident_as c i ≡ Some r)
  live_loaded i live = by i.kind refl
    where
      of : {T : Type 0} (k : Kind) (called : T → Name) (cells : List (Option (Loaded T))) → IsListed k c.issued cells → i.kind ≡ k → (r : Resident) × (option_map (resident_of called) (loaded_as cells i) ≡ Some r)
      of k called cells listed is =
          let l = listed.enrolled.loaded i is live in
          (resident_of called l.0, ap (option_map (resident_of called)) (as_loaded cells i l.0 l.1 l.2))

      by : (k : Kind) → i.kind ≡ k → (r : Resident) × (resident_in c k i ≡ Some r)
      by kind.Kernel = of kind.Kernel kernel_rec.name_of c.kernels.cells sound.kernels
      by kind.Space = of kind.Space space_rec.name_of c.spaces.cells sound.spaces
      by kind.Thread = of kind.Thread thread_rec.name_of c.threads.cells sound.threads
      by kind.Mapping = of kind.Mapping row_name c.rows.kept.cells sound.rows

module _ (c : Contents) (one : IsExactlyOne c) where
  -- no name stands in two slots of a kind
  pub one_named : (k : Kind) (i j : ℕ) (a b : Resident) → resident_at c k i ≡ Some a → resident_at c k j ≡ Some b → a.name ≡ b.name → i ≡ j
  one_named k i j a b first second same = by k first second
    where
      of : {T : Type 0} (called : T → Name) (of_kind : Kind) (kept : stored.Kept T) → stored.IsExactlyOne called of_kind kept → option_map (resident_of called) (cell_at kept.cells i) ≡ Some a → option_map (resident_of called) (cell_at kept.cells j) ≡ Some b → i ≡ j
      of called of_kind kept once first second =
          let x = seen_back called (cell_at kept.cells i) a first in
          let y = seen_back called (cell_at kept.cells j) b second in
          once.slots.one_name i j x.0 y.0 x.1 y.1 (ap (λ (r : Resident). r.name) x.2 ∙ same ∙ ap (λ (r : Resident). r.name) (sym y.2))

      by : (k : Kind) → resident_at c k i ≡ Some a → resident_at c k j ≡ Some b → i ≡ j
      by kind.Kernel = of kernel_rec.name_of kind.Kernel c.kernels one.kernels
      by kind.Space = of space_rec.name_of kind.Space c.spaces one.spaces
      by kind.Thread = of thread_rec.name_of kind.Thread c.threads one.threads
      by kind.Mapping = of row_name kind.Mapping c.rows.kept one.rows
