-- What a content that may stand in the place of a loaded one means.
use Rattle.std.proofs.Common.{◌≡◌, ℕ, zero, suc, Bool, true, false, cond, List, [], ◌∷◌, Option, Some, None, IsSome, sym, ◌∙◌, ap, subst, refl, arith}
use Rattle.std.specs.Option.{option_map}
use Rattle.cache_ident.specs.declared.idents.Ident.{Ident}
use Rattle.cache_ident.specs.declared.idents.Kind.{Kind}
use Rattle.cache_ident.specs.declared.idents.Kind.TheVariants as kind
use Rattle.cache_ident.specs.declared.idents.Standing.TheVariants.{Live}
use Rattle.cache_ident.specs.declared.names.KernelNo.{KernelNo}
use Rattle.cache_ident.specs.declared.names.SpaceNo.{SpaceNo}
use Rattle.cache_ident.specs.declared.names.ThreadNo.{ThreadNo}
use Rattle.cache_ident.specs.declared.names.Name.{Name}
use Rattle.cache_ident.specs.declared.names.Name.TheVariants as name
use Rattle.cache_ident.specs.Rolls.{standing_in}
use Rattle.phys_groups.specs.declared.rows.Row.{Row}
use Rattle.slot_cache.specs.declared.loaded.Loaded.{Loaded}
use Rattle.slot_cache.specs.Cells.{cell_at, IsLoaded, NameIs}
use Rattle.slot_cache.specs.Rows.{row_name}
use Rattle.slot_cache.proofs.SlotLemmas.{cell_within, one_at, some_same}
use Rattle.kind_store.specs.owner_shelf.proofs.NameLemmas.{eq_same}
use Rattle.kernel_cache.specs.declared.KernelRec.{KernelRec}
use Rattle.kernel_cache.specs.Kernels as kernel_rec
use Rattle.space_cache.specs.declared.SpaceRec.{SpaceRec}
use Rattle.space_cache.specs.Spaces as space_rec
use Rattle.thread_cache.specs.declared.ThreadRec.{ThreadRec}
use Rattle.thread_cache.specs.Threads as thread_rec
use Rattle.kind_store.specs.Kept as stored
use Rattle.kind_store.specs.Changes as moves
use Rattle.kind_store.proofs.CellLemmas.{found}
use Rattle.kind_store.proofs.ContentLemmas.{content-loaded}
use Rattle.desc_stores.specs.declared.items.Item.{Item}
use Rattle.desc_stores.specs.declared.items.Item.TheVariants as item
use Rattle.desc_stores.specs.Items.{Agrees}
use Rattle.desc_stores.specs.Contents.{item_as, item_in, Contents}
use Rattle.desc_stores.specs.Sound.{AreSound, IsNumbered}
use Rattle.desc_stores.proofs.CellLemmas.{as_loaded}
use Rattle.desc_stores.proofs.SoundLemmas.{numbered-has}

module _ {T : Type 0} (called : T → Name) where
  -- under the name of what is loaded something is found
  found_some : (cells : List (Option (Loaded T))) (slot : ℕ) (l : Loaded T) → cell_at cells slot ≡ Some l → (x : Loaded T) × (found called cells (called l.value) ≡ Some x)
  found_some [] slot l there = absurd (omega (arith, cell_within [] slot l there))
  found_some (None ∷ cells) zero l there = absurd (cc)
  found_some (None ∷ cells) (suc slot) l there = found_some cells slot l there
  found_some (Some x ∷ cells) zero l there =
      let same : stored.is_called called (called l.value) x ≡ true = eq_same (called x.value) (called l.value) (ap (λ (y : Loaded T). called y.value) (some_same x l there)) in
      (x, rw same refl)
  found_some (Some x ∷ cells) (suc slot) l there =
      let later = found_some cells slot l there in
      by (stored.is_called called (called l.value) x) later
    where
      by : (b : Bool) → ((y : Loaded T) × (found called cells (called l.value) ≡ Some y)) → (y : Loaded T) × (cond b (Some x) (found called cells (called l.value)) ≡ Some y)
      by true later = (x, refl)
      by false later = later

  -- so its name has a content
  content_some : (kept : stored.Kept T) (slot : ℕ) (l : Loaded T) → cell_at kept.cells slot ≡ Some l → IsSome (stored.content_of called kept (called l.value))
  content_some kept slot l there =
      let x = found_some kept.cells slot l there in
      subst (λ o. IsSome o) (sym (content-loaded called kept (called l.value) x.0 x.1)) (some x.0.value)
    where
      some : (v : T) → IsSome (Some v)
      some v = search

  -- the names that stand, once a content of the same name stands in the place of what is loaded
  pub numbered-changing : (named : ℕ → Name) (old new : stored.Kept T) (count : ℕ) (ident : Ident) (v : T) → IsLoaded old.cells ident → NameIs called old.cells ident.slot (called v) → IsNumbered called named old count → moves.HasContent called old new (called v) v → IsNumbered called named new count
  numbered-changing named old new count ident v held same numbered has =
      let some = subst (λ n. IsSome (stored.content_of called old n)) (same held.0 held.1) (content_some old ident.slot held.0 held.1) in
      numbered-has called named old new count (called v) v numbered some has

-- the content that is loaded of kernels
pub kernels_item : (c : Contents) (ident : Ident) (l : Loaded KernelRec) → ident.kind ≡ kind.Kernel → cell_at c.kernels.cells ident.slot ≡ Some l → l.ident ≡ ident → item_as c ident ≡ Some (item.Kernel l.value)
kernels_item c ident l of_kind there own = ap (λ of. item_in c of ident) of_kind ∙ ap (option_map (λ (l : Loaded KernelRec). item.Kernel l.value)) (as_loaded c.kernels.cells ident l there own)

-- the content that is loaded of spaces
pub spaces_item : (c : Contents) (ident : Ident) (l : Loaded SpaceRec) → ident.kind ≡ kind.Space → cell_at c.spaces.cells ident.slot ≡ Some l → l.ident ≡ ident → item_as c ident ≡ Some (item.Space l.value)
spaces_item c ident l of_kind there own = ap (λ of. item_in c of ident) of_kind ∙ ap (option_map (λ (l : Loaded SpaceRec). item.Space l.value)) (as_loaded c.spaces.cells ident l there own)

-- the content that is loaded of threads
pub threads_item : (c : Contents) (ident : Ident) (l : Loaded ThreadRec) → ident.kind ≡ kind.Thread → cell_at c.threads.cells ident.slot ≡ Some l → l.ident ≡ ident → item_as c ident ≡ Some (item.Thread l.value)
threads_item c ident l of_kind there own = ap (λ of. item_in c of ident) of_kind ∙ ap (option_map (λ (l : Loaded ThreadRec). item.Thread l.value)) (as_loaded c.threads.cells ident l there own)

-- the content that is loaded of rows
pub rows_item : (c : Contents) (ident : Ident) (l : Loaded Row) → ident.kind ≡ kind.Mapping → cell_at c.rows.kept.cells ident.slot ≡ Some l → l.ident ≡ ident → item_as c ident ≡ Some (item.Mapping l.value)
rows_item c ident l of_kind there own = ap (λ of. item_in c of ident) of_kind ∙ ap (option_map (λ (l : Loaded Row). item.Mapping l.value)) (as_loaded c.rows.kept.cells ident l there own)

module _ (c : Contents) (sound : AreSound c) (ident : Ident) (live : standing_in c.issued ident ≡ Live) (v : KernelRec) (agrees : (was : Item) → item_as c ident ≡ Some was → Agrees was (item.Kernel v)) where
  -- only one of kernels may stand in the place of one
  pub kernels_kind : ident.kind ≡ kind.Kernel
  kernels_kind = by ident.kind refl
    where
      by : (of : Kind) → ident.kind ≡ of → ident.kind ≡ kind.Kernel
      by kind.Kernel is = is
      by kind.Space is =
          let held = sound.spaces.enrolled.loaded ident is live in
          absurd (agrees (item.Space held.0.value) (spaces_item c ident held.0 is held.1 held.2))
      by kind.Thread is =
          let held = sound.threads.enrolled.loaded ident is live in
          absurd (agrees (item.Thread held.0.value) (threads_item c ident held.0 is held.1 held.2))
      by kind.Mapping is =
          let held = sound.rows.enrolled.loaded ident is live in
          absurd (agrees (item.Mapping held.0.value) (rows_item c ident held.0 is held.1 held.2))

  pub kernels_held : IsLoaded c.kernels.cells ident
  kernels_held = sound.kernels.enrolled.loaded ident kernels_kind live

  pub kernels_agreed : (l : Loaded KernelRec) → cell_at c.kernels.cells ident.slot ≡ Some l → Agrees (item.Kernel l.value) (item.Kernel v)
  kernels_agreed l there =
      let held = kernels_held in
      let one = one_at c.kernels.cells ident.slot l held.0 there held.1 in
      agrees (item.Kernel l.value) (kernels_item c ident l kernels_kind there (ap (λ (x : Loaded KernelRec). x.ident) one ∙ held.2))

  pub kernels_named : NameIs kernel_rec.name_of c.kernels.cells ident.slot (kernel_rec.name_of v)
  kernels_named l there = ap (λ (n : KernelNo). name.Kernel n) (kernels_agreed l there)

module _ (c : Contents) (sound : AreSound c) (ident : Ident) (live : standing_in c.issued ident ≡ Live) (v : SpaceRec) (agrees : (was : Item) → item_as c ident ≡ Some was → Agrees was (item.Space v)) where
  -- only one of spaces may stand in the place of one
  pub spaces_kind : ident.kind ≡ kind.Space
  spaces_kind = by ident.kind refl
    where
      by : (of : Kind) → ident.kind ≡ of → ident.kind ≡ kind.Space
      by kind.Kernel is =
          let held = sound.kernels.enrolled.loaded ident is live in
          absurd (agrees (item.Kernel held.0.value) (kernels_item c ident held.0 is held.1 held.2))
      by kind.Space is = is
      by kind.Thread is =
          let held = sound.threads.enrolled.loaded ident is live in
          absurd (agrees (item.Thread held.0.value) (threads_item c ident held.0 is held.1 held.2))
      by kind.Mapping is =
          let held = sound.rows.enrolled.loaded ident is live in
          absurd (agrees (item.Mapping held.0.value) (rows_item c ident held.0 is held.1 held.2))

  pub spaces_held : IsLoaded c.spaces.cells ident
  spaces_held = sound.spaces.enrolled.loaded ident spaces_kind live

  pub spaces_agreed : (l : Loaded SpaceRec) → cell_at c.spaces.cells ident.slot ≡ Some l → Agrees (item.Space l.value) (item.Space v)
  spaces_agreed l there =
      let held = spaces_held in
      let one = one_at c.spaces.cells ident.slot l held.0 there held.1 in
      agrees (item.Space l.value) (spaces_item c ident l spaces_kind there (ap (λ (x : Loaded SpaceRec). x.ident) one ∙ held.2))

  pub spaces_named : NameIs space_rec.name_of c.spaces.cells ident.slot (space_rec.name_of v)
  spaces_named l there = ap (λ (n : SpaceNo). name.Space n) (spaces_agreed l there)

module _ (c : Contents) (sound : AreSound c) (ident : Ident) (live : standing_in c.issued ident ≡ Live) (v : ThreadRec) (agrees : (was : Item) → item_as c ident ≡ Some was → Agrees was (item.Thread v)) where
  -- only one of threads may stand in the place of one
  pub threads_kind : ident.kind ≡ kind.Thread
  threads_kind = by ident.kind refl
    where
      by : (of : Kind) → ident.kind ≡ of → ident.kind ≡ kind.Thread
      by kind.Kernel is =
          let held = sound.kernels.enrolled.loaded ident is live in
          absurd (agrees (item.Kernel held.0.value) (kernels_item c ident held.0 is held.1 held.2))
      by kind.Space is =
          let held = sound.spaces.enrolled.loaded ident is live in
          absurd (agrees (item.Space held.0.value) (spaces_item c ident held.0 is held.1 held.2))
      by kind.Thread is = is
      by kind.Mapping is =
          let held = sound.rows.enrolled.loaded ident is live in
          absurd (agrees (item.Mapping held.0.value) (rows_item c ident held.0 is held.1 held.2))

  pub threads_held : IsLoaded c.threads.cells ident
  threads_held = sound.threads.enrolled.loaded ident threads_kind live

  pub threads_agreed : (l : Loaded ThreadRec) → cell_at c.threads.cells ident.slot ≡ Some l → Agrees (item.Thread l.value) (item.Thread v)
  threads_agreed l there =
      let held = threads_held in
      let one = one_at c.threads.cells ident.slot l held.0 there held.1 in
      agrees (item.Thread l.value) (threads_item c ident l threads_kind there (ap (λ (x : Loaded ThreadRec). x.ident) one ∙ held.2))

  pub threads_named : NameIs thread_rec.name_of c.threads.cells ident.slot (thread_rec.name_of v)
  threads_named l there = ap (λ (n : ThreadNo). name.Thread n) (threads_agreed l there)

module _ (c : Contents) (sound : AreSound c) (ident : Ident) (live : standing_in c.issued ident ≡ Live) (v : Row) (agrees : (was : Item) → item_as c ident ≡ Some was → Agrees was (item.Mapping v)) where
  -- only one of rows may stand in the place of one
  pub rows_kind : ident.kind ≡ kind.Mapping
  rows_kind = by ident.kind refl
    where
      by : (of : Kind) → ident.kind ≡ of → ident.kind ≡ kind.Mapping
      by kind.Kernel is =
          let held = sound.kernels.enrolled.loaded ident is live in
          absurd (agrees (item.Kernel held.0.value) (kernels_item c ident held.0 is held.1 held.2))
      by kind.Space is =
          let held = sound.spaces.enrolled.loaded ident is live in
          absurd (agrees (item.Space held.0.value) (spaces_item c ident held.0 is held.1 held.2))
      by kind.Thread is =
          let held = sound.threads.enrolled.loaded ident is live in
          absurd (agrees (item.Thread held.0.value) (threads_item c ident held.0 is held.1 held.2))
      by kind.Mapping is = is

  pub rows_held : IsLoaded c.rows.kept.cells ident
  rows_held = sound.rows.enrolled.loaded ident rows_kind live

  pub rows_agreed : (l : Loaded Row) → cell_at c.rows.kept.cells ident.slot ≡ Some l → Agrees (item.Mapping l.value) (item.Mapping v)
  rows_agreed l there =
      let held = rows_held in
      let one = one_at c.rows.kept.cells ident.slot l held.0 there held.1 in
      agrees (item.Mapping l.value) (rows_item c ident l rows_kind there (ap (λ (x : Loaded Row). x.ident) one ∙ held.2))

  pub rows_named : NameIs row_name c.rows.kept.cells ident.slot (row_name v)
  rows_named l there = (rows_agreed l there).0
