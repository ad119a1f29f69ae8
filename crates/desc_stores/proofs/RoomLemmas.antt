-- Contents with more room, and no contents at all.
use Rattle.std.proofs.Common.{◌≡◌, ℕ, List, replicate, Option, Some, None, IsSome, sym, ◌∙◌, ap, subst, arith, refl}
use Rattle.std.specs.Option.{option_map, IfNone, IfSome}
use Rattle.cache_ident.specs.declared.idents.Ident.{Ident}
use Rattle.cache_ident.specs.declared.idents.Kind.{Kind}
use Rattle.cache_ident.specs.declared.idents.Kind.TheVariants as kind
use Rattle.cache_ident.specs.declared.names.Caps.{Caps}
use Rattle.cache_ident.specs.declared.names.Name.{Name}
use Rattle.cache_ident.specs.declared.names.Name.TheVariants as name
use Rattle.cache_ident.specs.declared.names.ThreadNo.{ThreadNo}
use Rattle.cache_ident.specs.Residents.{Resident}
use Rattle.slot_cache.specs.declared.loaded.Loaded.{Loaded}
use Rattle.slot_cache.specs.Cells.{HasNoName, IsFoundAs}
use Rattle.slot_cache.specs.Rows.{row_name}
use Rattle.slot_cache.proofs.SlotLemmas.{all_none, not_none, some_same}
use Rattle.kind_store.specs.owner_shelf.specs.declared.shelved.Shelved.{Shelved}
use Rattle.kind_store.specs.owner_shelf.specs.Rows.{row_under}
use Rattle.kernel_cache.specs.declared.KernelRec.{KernelRec}
use Rattle.kernel_cache.specs.Kernels as kernel_rec
use Rattle.space_cache.specs.declared.SpaceRec.{SpaceRec}
use Rattle.space_cache.specs.Spaces as space_rec
use Rattle.thread_cache.specs.declared.ThreadRec.{ThreadRec}
use Rattle.thread_cache.specs.Threads as thread_rec
use Rattle.kind_store.specs.Kept as stored
use Rattle.kind_store.specs.Rolls.{loaded_as}
use Rattle.row_store.specs.Kept.{KeptRows}
use Rattle.kind_store.specs.Changes as moves
use Rattle.kind_store.proofs.CellLemmas.{found, found-absent}
use Rattle.kind_store.proofs.ContentLemmas.{content-same, content-shelved}
use Rattle.desc_stores.specs.Contents.{resident_in, resident_of, Contents, HasNoResident, IsResidentAs}
use Rattle.desc_stores.specs.Sound.{kernel_named, space_named, thread_named, AreSound, IsNumbered}
use Rattle.desc_stores.specs.Changes.{no_kept, IsNothing}
use Rattle.desc_stores.proofs.CellLemmas.{loaded_back}
use Rattle.desc_stores.proofs.SoundLemmas.{listed-none, numbered-keeps}
use Rattle.desc_stores.proofs.KindLemmas.{kernels_resident, rows_resident, spaces_resident, threads_resident}

module _ {T : Type 0} (called : T → Name) where
  -- room changes no content
  room-keeps : (old new : stored.Kept T) → new.cells ≡ old.cells → new.rows ≡ old.rows → moves.KeepsContents called old new
  room-keeps old new cells rows n = content-same called old new n (ap (λ (x : List (Option (Loaded T))). found called x n) cells) (ap (λ (x : List (Shelved T)). row_under called x n) rows)

  -- nothing has no name
  pub numbered-nothing : (named : ℕ → Name) (kept : stored.Kept T) (count cap : ℕ) → kept ≡ no_kept cap → count ≡ 0 → IsNumbered called named kept count
  numbered-nothing named kept count cap nothing none = record {
    stands = λ number below. absurd (omega arith);
    only = λ other some. absurd (absent other (subst (λ (k : stored.Kept T). IsSome (stored.content_of called k other)) nothing some));
  }
    where
      absent : (other : Name) → IsSome (stored.content_of called (no_kept cap) other) → ⊥
      absent other some =
          let unloaded : HasNoName called (replicate cap None) other = λ slot l there same. not_none (replicate cap None) slot l there (all_none cap slot) in
          let none = content-shelved called (no_kept cap) other (found-absent called (replicate cap None) other unloaded) in
          never (subst (λ o. IsSome o) none some)
        where
          never : IsSome {T = T} None → ⊥
          never some = absurd (cc)

-- where nothing stands all holds
pub sound-nothing : (caps : Caps) (c : Contents) → IsNothing caps c → AreSound c
sound-nothing caps c nothing = record {
  numbered = rw nothing.issued tt;
  kernels = rw (nothing.issued, nothing.kernels) (listed-none kind.Kernel caps.kernels);
  spaces = rw (nothing.issued, nothing.spaces) (listed-none kind.Space caps.spaces);
  threads = rw (nothing.issued, nothing.threads) (listed-none kind.Thread caps.threads);
  rows = rw (nothing.issued, nothing.rows) (listed-none kind.Mapping caps.mappings);
  kernel_names = numbered-nothing kernel_rec.name_of kernel_named c.kernels c.kernel_count caps.kernels nothing.kernels nothing.kernel_count;
  space_names = numbered-nothing space_rec.name_of space_named c.spaces c.space_count caps.spaces nothing.spaces nothing.space_count;
  thread_names = numbered-nothing thread_rec.name_of thread_named c.threads c.thread_count caps.threads nothing.threads nothing.thread_count;
}

-- where each kind has the same in its cache and on its shelf, all holds again
pub sound-roomy : (c : Contents) → AreSound c → (k : stored.Kept KernelRec) (s : stored.Kept SpaceRec) (t : stored.Kept ThreadRec) (r : KeptRows) → k.cells ≡ c.kernels.cells → k.rows ≡ c.kernels.rows → s.cells ≡ c.spaces.cells → s.rows ≡ c.spaces.rows → t.cells ≡ c.threads.cells → t.rows ≡ c.threads.rows → r.kept.cells ≡ c.rows.kept.cells → AreSound (record c { kernels = k; spaces = s; threads = t; rows = r })
sound-roomy c sound k s t r k_cells k_rows s_cells s_rows t_cells t_rows r_cells = record {
  numbered = sound.numbered;
  kernels = rw k_cells sound.kernels;
  spaces = rw s_cells sound.spaces;
  threads = rw t_cells sound.threads;
  rows = rw r_cells sound.rows;
  kernel_names = numbered-keeps kernel_rec.name_of kernel_named c.kernels k c.kernel_count sound.kernel_names (room-keeps kernel_rec.name_of c.kernels k k_cells k_rows);
  space_names = numbered-keeps space_rec.name_of space_named c.spaces s c.space_count sound.space_names (room-keeps space_rec.name_of c.spaces s s_cells s_rows);
  thread_names = numbered-keeps thread_rec.name_of thread_named c.threads t c.thread_count sound.thread_names (room-keeps thread_rec.name_of c.threads t t_cells t_rows);
}

-- what is found of kernels by name is resident
pub kernels_found : (c : Contents) → AreSound c → (n : Name) (r : Option Ident) → IfSome r (IsFoundAs kernel_rec.name_of c.kernels.cells n) → IfSome r (IsResidentAs c n)
kernels_found c sound n None found = found
kernels_found c sound n (Some ident) (l, there, own, named) =
    let of_kind = ap (λ (i : Ident). i.kind) (sym own) ∙ (sound.kernels.placed ident.slot l there).1 in
    (resident_of kernel_rec.name_of l, kernels_resident c ident l of_kind there own, named)

-- what is found of spaces by name is resident
pub spaces_found : (c : Contents) → AreSound c → (n : Name) (r : Option Ident) → IfSome r (IsFoundAs space_rec.name_of c.spaces.cells n) → IfSome r (IsResidentAs c n)
spaces_found c sound n None found = found
spaces_found c sound n (Some ident) (l, there, own, named) =
    let of_kind = ap (λ (i : Ident). i.kind) (sym own) ∙ (sound.spaces.placed ident.slot l there).1 in
    (resident_of space_rec.name_of l, spaces_resident c ident l of_kind there own, named)

-- what is found of threads by name is resident
pub threads_found : (c : Contents) → AreSound c → (n : Name) (r : Option Ident) → IfSome r (IsFoundAs thread_rec.name_of c.threads.cells n) → IfSome r (IsResidentAs c n)
threads_found c sound n None found = found
threads_found c sound n (Some ident) (l, there, own, named) =
    let of_kind = ap (λ (i : Ident). i.kind) (sym own) ∙ (sound.threads.placed ident.slot l there).1 in
    (resident_of thread_rec.name_of l, threads_resident c ident l of_kind there own, named)

-- what is found of rows by name is resident
pub rows_found : (c : Contents) → AreSound c → (n : Name) (r : Option Ident) → IfSome r (IsFoundAs row_name c.rows.kept.cells n) → IfSome r (IsResidentAs c n)
rows_found c sound n None found = found
rows_found c sound n (Some ident) (l, there, own, named) =
    let of_kind = ap (λ (i : Ident). i.kind) (sym own) ∙ (sound.rows.placed ident.slot l there).1 in
    (resident_of row_name l, rows_resident c ident l of_kind there own, named)

-- of what a change gives something is what it makes of something
some_made : {A B : Type 0} (make : A → B) (o : Option A) (made : B) → option_map make o ≡ Some made → (x : A) × (o ≡ Some x) × (make x ≡ made)
some_made make None made is = absurd (cc)
some_made make (Some x) made is = (x, refl, some_same (make x) made is)

-- a thread that isn't found by name isn't resident
pub threads_absent : (c : Contents) (number : ThreadNo) (r : Option Ident) → IfNone r (HasNoName thread_rec.name_of c.threads.cells (name.Thread number)) → IfNone r (HasNoResident c (name.Thread number))
threads_absent c number (Some ident) none = none
threads_absent c number None none = λ ident resident held same. by ident resident same ident.kind held
  where
    by : (ident : Ident) (resident : Resident) → resident.name ≡ name.Thread number → (k : Kind) → resident_in c k ident ≡ Some resident → ⊥
    by ident resident same kind.Kernel held =
        let l = some_made (resident_of kernel_rec.name_of) (loaded_as c.kernels.cells ident) resident held in
        absurd (cc (ap (λ (r : Resident). r.name) l.2 ∙ same))
    by ident resident same kind.Space held =
        let l = some_made (resident_of space_rec.name_of) (loaded_as c.spaces.cells ident) resident held in
        absurd (cc (ap (λ (r : Resident). r.name) l.2 ∙ same))
    by ident resident same kind.Thread held =
        let l = some_made (resident_of thread_rec.name_of) (loaded_as c.threads.cells ident) resident held in
        none ident.slot l.0 (loaded_back c.threads.cells ident l.0 l.1).0 (ap (λ (r : Resident). r.name) l.2 ∙ same)
    by ident resident same kind.Mapping held =
        let l = some_made (resident_of row_name) (loaded_as c.rows.kept.cells ident) resident held in
        absurd (cc (ap (λ (r : Resident). r.name) l.2 ∙ same))
