-- What one kind's change means for all contents.
use Rattle.std.proofs.Common.{◌≡◌, ◌≢◌, ℕ, ◌<◌, Bool, true, false, cond, List, [], ◌∷◌, ◌++◌, length, set, Option, Some, None, sym, ◌∙◌, ap, subst, inl, inr, refl}
use Rattle.std.specs.Option.{option_map}
use Rattle.cache_ident.specs.declared.idents.Ident.{Ident}
use Rattle.cache_ident.specs.declared.idents.Kind.{Kind}
use Rattle.cache_ident.specs.declared.idents.Kind.TheVariants as kind
use Rattle.cache_ident.specs.declared.names.Name.{Name}
use Rattle.cache_ident.specs.declared.names.Name.TheVariants as name
use Rattle.cache_ident.specs.declared.idents.Standing.TheVariants.{Never}
use Rattle.cache_ident.specs.declared.rolls.Issued.{Issued}
use Rattle.cache_ident.specs.Residents.{locked_if, with_loaded, with_lock, without, Resident}
use Rattle.cache_ident.specs.Rolls.{departed, just_issued, standing_in}
use Rattle.phys_groups.specs.declared.rows.Row.{Row}
use Rattle.slot_cache.specs.declared.loaded.Loaded.{Loaded}
use Rattle.slot_cache.specs.Cells.{cell_at, changed, just_loaded, IsLoaded}
use Rattle.slot_cache.specs.Cells as cells
use Rattle.slot_cache.specs.Rows.{row_name}
use Rattle.kernel_cache.specs.declared.KernelRec.{KernelRec}
use Rattle.kernel_cache.specs.Kernels as kernel_rec
use Rattle.space_cache.specs.declared.SpaceRec.{SpaceRec}
use Rattle.space_cache.specs.Spaces as space_rec
use Rattle.thread_cache.specs.declared.ThreadRec.{ThreadRec}
use Rattle.thread_cache.specs.Threads as thread_rec
use Rattle.kind_store.specs.Kept as stored
use Rattle.row_store.specs.Kept.{KeptRows}
use Rattle.kind_store.specs.Changes as moves
use Rattle.kind_store.specs.Changes.{is_name}
use Rattle.kind_store.specs.Rolls.{loaded_as}
use Rattle.kind_store.proofs.OrderLemmas.{cases_ident, same_passes}
use Rattle.desc_stores.specs.declared.items.Item.TheVariants as item
use Rattle.desc_stores.specs.Contents.{resident_as, resident_in, resident_of, residents_of, Contents}
use Rattle.desc_stores.specs.Changes.{HasContent, KeepsContents}
use Rattle.desc_stores.proofs.CellLemmas.{as_loaded, changed_other, changed_same, filled_other, filled_same, left_none, left_other, loaded_back}
use Rattle.desc_stores.proofs.ListLemmas.{list-leaving, list-loading, list-locking, list-same}

-- what a resident was loaded with
pub resident_back : {T : Type 0} (called : T → Name) (cells : List (Option (Loaded T))) (i : Ident) (r : Resident) → option_map (resident_of called) (loaded_as cells i) ≡ Some r → (l : Loaded T) × (cell_at cells i.slot ≡ Some l) × (l.ident ≡ i) × (resident_of called l ≡ r)
resident_back {T} called cells i r held = by (loaded_as cells i) refl held
  where
    by : (o : Option (Loaded T)) → loaded_as cells i ≡ o → option_map (resident_of called) o ≡ Some r → (l : Loaded T) × (cell_at cells i.slot ≡ Some l) × (l.ident ≡ i) × (resident_of called l ≡ r)
    by None is some = absurd (cc)
    by (Some l) is some =
        let back = loaded_back cells i l is in
        (l, back.0, back.1, cc)

-- a resident has the identifier that it is found by
pub own_ident : (c : Contents) (i : Ident) (r : Resident) → resident_as c i ≡ Some r → r.ident ≡ i
own_ident c i r held = by i.kind held
  where
    of : {T : Type 0} (called : T → Name) (cells : List (Option (Loaded T))) → option_map (resident_of called) (loaded_as cells i) ≡ Some r → r.ident ≡ i
    of called cells held =
        let back = resident_back called cells i r held in
        ap (λ (x : Resident). x.ident) (sym back.3) ∙ back.2

    by : (k : Kind) → resident_in c k i ≡ Some r → r.ident ≡ i
    by kind.Kernel held = of kernel_rec.name_of c.kernels.cells held
    by kind.Space held = of space_rec.name_of c.spaces.cells held
    by kind.Thread held = of thread_rec.name_of c.threads.cells held
    by kind.Mapping held = of row_name c.rows.kept.cells held

module _ (old new : Contents) where
  abbrev pub OthersStay : Ident → Type 0
  OthersStay ident = (i : Ident) → i ≢ ident → resident_as new i ≡ resident_as old i

  pub residents-leaving : (ident : Ident) (at : ℕ) → new.issued ≡ departed old.issued ident at → OthersStay ident → resident_as new ident ≡ None → residents_of new ≡ without ident (residents_of old)
  unfolding residents_of
  residents-leaving ident at issued others none = rw issued (list-leaving (resident_as old) (resident_as new) ident others (own_ident old) none old.issued at)

  pub residents-locking : (ident : Ident) (on : Bool) → new.issued ≡ old.issued → OthersStay ident → resident_as new ident ≡ option_map (locked_if ident on) (resident_as old ident) → residents_of new ≡ with_lock ident on (residents_of old)
  unfolding residents_of
  residents-locking ident on issued others locked = rw issued (list-locking (resident_as old) (resident_as new) ident others (own_ident old) on locked old.issued)

  pub residents-same : new.issued ≡ old.issued → ((i : Ident) → resident_as new i ≡ resident_as old i) → residents_of new ≡ residents_of old
  unfolding residents_of
  residents-same issued same = rw issued (list-same (resident_as old) (resident_as new) same old.issued)

  pub residents-loading : (ident : Ident) (n : Name) → new.issued ≡ old.issued ++ just_issued ident ∷ [] → standing_in old.issued ident ≡ Never → OthersStay ident → resident_as new ident ≡ Some (record { ident = ident; name = n; locked = false }) → residents_of new ≡ with_loaded ident n (residents_of old)
  unfolding residents_of
  residents-loading ident n issued never others last = rw issued (list-loading (resident_as old) (resident_as new) ident (record { ident = ident; name = n; locked = false }) others last old.issued never)

-- a content of the same name leaves what is resident
changing_all : {T : Type 0} (called : T → Name) (old new : List (Option (Loaded T))) (ident : Ident) (v : T) → IsLoaded old ident → cells.NameIs called old ident.slot (called v) → new ≡ changed old ident.slot (cells.with_value v) → (i : Ident) → option_map (resident_of called) (loaded_as new i) ≡ option_map (resident_of called) (loaded_as old i)
changing_all {T} called old new ident v held named is i = elim (cases_ident i ident) [
  | inl same ↦
      let now = changed_same old ident held.0 held.1 held.2 (cells.with_value v) refl in
      let was = as_loaded old ident held.0 held.1 held.2 in
      let one : option_map (resident_of called) (loaded_as new ident) ≡ option_map (resident_of called) (loaded_as old ident) = rw (is, now, was) (ap (λ (n : Name). let r : Resident = record { ident = held.0.ident; name = n; locked = held.0.locked } in Some r) (sym (named held.0 held.1))) in
      subst (λ j. option_map (resident_of called) (loaded_as new j) ≡ option_map (resident_of called) (loaded_as old j)) (sym same) one
  | inr apart ↦ ap (option_map (resident_of called)) (rw is (changed_other old ident held.0 held.1 held.2 (cells.with_value v) refl i apart))
]

-- rows of which only what stands where changed
pub rows_same : (new old : KeptRows) → new.names ≡ old.names → new.room ≡ old.room → new ≡ record old { kept = new.kept }
rows_same new old names room = ap (λ (n : List Name). let x : KeptRows = record { kept = new.kept; names = n; room = new.room } in x) names ∙ ap (λ (m : ℕ). let x : KeptRows = record { kept = new.kept; names = old.names; room = m } in x) room

-- a choice under a function
option_cond : {A B : Type 0} (f : A → B) (b : Bool) (x y : Option A) → option_map f (cond b x y) ≡ cond b (option_map f x) (option_map f y)
option_cond f true x y = refl
option_cond f false x y = refl

-- kernels
module _ (c : Contents) (k : stored.Kept KernelRec) (count : ℕ) (issued : List Issued) (spare : ℕ) where
  abbrev kernels_new : Contents
  kernels_new = record c { kernels = k; kernel_count = count; issued = issued; spare = spare }

  pub kernels_others : (ident : Ident) → ((i : Ident) → i ≢ ident → loaded_as k.cells i ≡ loaded_as c.kernels.cells i) → (i : Ident) → i ≢ ident → resident_as (record c { kernels = k; kernel_count = count; issued = issued; spare = spare }) i ≡ resident_as c i
  kernels_others ident others i apart = by i.kind
    where
      by : (of : Kind) → resident_in kernels_new of i ≡ resident_in c of i
      by kind.Kernel = ap (option_map (resident_of kernel_rec.name_of)) (others i apart)
      by kind.Space = refl
      by kind.Thread = refl
      by kind.Mapping = refl

  pub kernels_all : ((i : Ident) → option_map (resident_of kernel_rec.name_of) (loaded_as k.cells i) ≡ option_map (resident_of kernel_rec.name_of) (loaded_as c.kernels.cells i)) → (i : Ident) → resident_as (record c { kernels = k; kernel_count = count; issued = issued; spare = spare }) i ≡ resident_as c i
  kernels_all same i = by i.kind
    where
      by : (of : Kind) → resident_in kernels_new of i ≡ resident_in c of i
      by kind.Kernel = same i
      by kind.Space = refl
      by kind.Thread = refl
      by kind.Mapping = refl

  pub kernels_keeps : moves.KeepsContents kernel_rec.name_of c.kernels k → KeepsContents c (record c { kernels = k; kernel_count = count; issued = issued; spare = spare })
  kernels_keeps keeps (name.Kernel number) = ap (option_map item.Kernel) (keeps (name.Kernel number))
  kernels_keeps keeps (name.Space number) = refl
  kernels_keeps keeps (name.Thread number) = refl
  kernels_keeps keeps (name.Mapping space vpn) = refl

  pub kernels_has : (v : KernelRec) → moves.HasContent kernel_rec.name_of c.kernels k (kernel_rec.name_of v) v → HasContent c (record c { kernels = k; kernel_count = count; issued = issued; spare = spare }) (item.Kernel v)
  kernels_has v has (name.Kernel number) = ap (option_map item.Kernel) (has (name.Kernel number)) ∙ option_cond item.Kernel (is_name (kernel_rec.name_of v) (name.Kernel number)) (Some v) (stored.content_of kernel_rec.name_of c.kernels (name.Kernel number))
  kernels_has v has (name.Space number) = refl
  kernels_has v has (name.Thread number) = refl
  kernels_has v has (name.Mapping space vpn) = refl

module _ (c : Contents) (k : stored.Kept KernelRec) (count : ℕ) (spare : ℕ) (ident : Ident) (of_kind : ident.kind ≡ kind.Kernel) where
  kernels_as : (d : Contents) → resident_as d ident ≡ resident_in d kind.Kernel ident
  kernels_as d = ap (λ of. resident_in d of ident) of_kind

  pub kernels-leaving : (issued : List Issued) (at : ℕ) → issued ≡ departed c.issued ident at → IsLoaded c.kernels.cells ident → k.cells ≡ set c.kernels.cells ident.slot None → residents_of (record c { kernels = k; kernel_count = count; issued = issued; spare = spare }) ≡ without ident (residents_of c)
  kernels-leaving issued at left held is =
      let new : Contents = record c { kernels = k; kernel_count = count; issued = issued; spare = spare } in
      let none = left_none c.kernels.cells ident held.0 held.1 held.2 in
      residents-leaving c new ident at left (kernels_others c k count issued spare ident (λ i apart. rw is (left_other c.kernels.cells ident held.0 held.1 held.2 i apart))) (kernels_as new ∙ ap (option_map (resident_of kernel_rec.name_of)) (ap (λ x. loaded_as x ident) is ∙ none))

  pub kernels-locking : (on : Bool) → IsLoaded c.kernels.cells ident → k.cells ≡ changed c.kernels.cells ident.slot (cells.with_lock on) → residents_of (record c { kernels = k; kernel_count = count; issued = c.issued; spare = spare }) ≡ with_lock ident on (residents_of c)
  kernels-locking on held is =
      let new : Contents = record c { kernels = k; kernel_count = count; issued = c.issued; spare = spare } in
      let now = changed_same c.kernels.cells ident held.0 held.1 held.2 (cells.with_lock on) refl in
      let was = as_loaded c.kernels.cells ident held.0 held.1 held.2 in
      let locked : option_map (resident_of kernel_rec.name_of) (loaded_as k.cells ident) ≡ option_map (locked_if ident on) (option_map (resident_of kernel_rec.name_of) (loaded_as c.kernels.cells ident)) = rw (is, now, was, same_passes held.0.ident ident held.2) refl in
      residents-locking c new ident on refl (kernels_others c k count c.issued spare ident (λ i apart. rw is (changed_other c.kernels.cells ident held.0 held.1 held.2 (cells.with_lock on) refl i apart))) (kernels_as new ∙ locked ∙ ap (option_map (locked_if ident on)) (sym (kernels_as c)))

  pub kernels-loading : (issued : List Issued) → issued ≡ c.issued ++ just_issued ident ∷ [] → (n : Name) (v : KernelRec) → kernel_rec.name_of v ≡ n → ident.slot < length c.kernels.cells → cell_at c.kernels.cells ident.slot ≡ None → standing_in c.issued ident ≡ Never → k.cells ≡ set c.kernels.cells ident.slot (Some (just_loaded ident v)) → residents_of (record c { kernels = k; kernel_count = count; issued = issued; spare = spare }) ≡ with_loaded ident n (residents_of c)
  kernels-loading issued more n v named within free never is =
      let new : Contents = record c { kernels = k; kernel_count = count; issued = issued; spare = spare } in
      let x : Loaded KernelRec = just_loaded ident v in
      let now = filled_same c.kernels.cells x within free in
      let last : option_map (resident_of kernel_rec.name_of) (loaded_as k.cells ident) ≡ Some (record { ident = ident; name = n; locked = false }) = ap (λ y. option_map (resident_of kernel_rec.name_of) (loaded_as y ident)) is ∙ ap (option_map (resident_of kernel_rec.name_of)) now ∙ ap (λ m. Some (record { ident = ident; name = m; locked = false })) named in
      residents-loading c new ident n more never (kernels_others c k count issued spare ident (λ i apart. rw is (filled_other c.kernels.cells x within free i apart))) (kernels_as new ∙ last)

  pub kernels-changing : (v : KernelRec) → IsLoaded c.kernels.cells ident → cells.NameIs kernel_rec.name_of c.kernels.cells ident.slot (kernel_rec.name_of v) → k.cells ≡ changed c.kernels.cells ident.slot (cells.with_value v) → residents_of (record c { kernels = k; kernel_count = count; issued = c.issued; spare = spare }) ≡ residents_of c
  kernels-changing v held named is =
      let new : Contents = record c { kernels = k; kernel_count = count; issued = c.issued; spare = spare } in
      residents-same c new refl (kernels_all c k count c.issued spare (changing_all kernel_rec.name_of c.kernels.cells k.cells ident v held named is))

-- spaces
module _ (c : Contents) (k : stored.Kept SpaceRec) (count : ℕ) (issued : List Issued) (spare : ℕ) where
  abbrev spaces_new : Contents
  spaces_new = record c { spaces = k; space_count = count; issued = issued; spare = spare }

  pub spaces_others : (ident : Ident) → ((i : Ident) → i ≢ ident → loaded_as k.cells i ≡ loaded_as c.spaces.cells i) → (i : Ident) → i ≢ ident → resident_as (record c { spaces = k; space_count = count; issued = issued; spare = spare }) i ≡ resident_as c i
  spaces_others ident others i apart = by i.kind
    where
      by : (of : Kind) → resident_in spaces_new of i ≡ resident_in c of i
      by kind.Kernel = refl
      by kind.Space = ap (option_map (resident_of space_rec.name_of)) (others i apart)
      by kind.Thread = refl
      by kind.Mapping = refl

  pub spaces_all : ((i : Ident) → option_map (resident_of space_rec.name_of) (loaded_as k.cells i) ≡ option_map (resident_of space_rec.name_of) (loaded_as c.spaces.cells i)) → (i : Ident) → resident_as (record c { spaces = k; space_count = count; issued = issued; spare = spare }) i ≡ resident_as c i
  spaces_all same i = by i.kind
    where
      by : (of : Kind) → resident_in spaces_new of i ≡ resident_in c of i
      by kind.Kernel = refl
      by kind.Space = same i
      by kind.Thread = refl
      by kind.Mapping = refl

  pub spaces_keeps : moves.KeepsContents space_rec.name_of c.spaces k → KeepsContents c (record c { spaces = k; space_count = count; issued = issued; spare = spare })
  spaces_keeps keeps (name.Kernel number) = refl
  spaces_keeps keeps (name.Space number) = ap (option_map item.Space) (keeps (name.Space number))
  spaces_keeps keeps (name.Thread number) = refl
  spaces_keeps keeps (name.Mapping space vpn) = refl

  pub spaces_has : (v : SpaceRec) → moves.HasContent space_rec.name_of c.spaces k (space_rec.name_of v) v → HasContent c (record c { spaces = k; space_count = count; issued = issued; spare = spare }) (item.Space v)
  spaces_has v has (name.Kernel number) = refl
  spaces_has v has (name.Space number) = ap (option_map item.Space) (has (name.Space number)) ∙ option_cond item.Space (is_name (space_rec.name_of v) (name.Space number)) (Some v) (stored.content_of space_rec.name_of c.spaces (name.Space number))
  spaces_has v has (name.Thread number) = refl
  spaces_has v has (name.Mapping space vpn) = refl

module _ (c : Contents) (k : stored.Kept SpaceRec) (count : ℕ) (spare : ℕ) (ident : Ident) (of_kind : ident.kind ≡ kind.Space) where
  spaces_as : (d : Contents) → resident_as d ident ≡ resident_in d kind.Space ident
  spaces_as d = ap (λ of. resident_in d of ident) of_kind

  pub spaces-leaving : (issued : List Issued) (at : ℕ) → issued ≡ departed c.issued ident at → IsLoaded c.spaces.cells ident → k.cells ≡ set c.spaces.cells ident.slot None → residents_of (record c { spaces = k; space_count = count; issued = issued; spare = spare }) ≡ without ident (residents_of c)
  spaces-leaving issued at left held is =
      let new : Contents = record c { spaces = k; space_count = count; issued = issued; spare = spare } in
      let none = left_none c.spaces.cells ident held.0 held.1 held.2 in
      residents-leaving c new ident at left (spaces_others c k count issued spare ident (λ i apart. rw is (left_other c.spaces.cells ident held.0 held.1 held.2 i apart))) (spaces_as new ∙ ap (option_map (resident_of space_rec.name_of)) (ap (λ x. loaded_as x ident) is ∙ none))

  pub spaces-locking : (on : Bool) → IsLoaded c.spaces.cells ident → k.cells ≡ changed c.spaces.cells ident.slot (cells.with_lock on) → residents_of (record c { spaces = k; space_count = count; issued = c.issued; spare = spare }) ≡ with_lock ident on (residents_of c)
  spaces-locking on held is =
      let new : Contents = record c { spaces = k; space_count = count; issued = c.issued; spare = spare } in
      let now = changed_same c.spaces.cells ident held.0 held.1 held.2 (cells.with_lock on) refl in
      let was = as_loaded c.spaces.cells ident held.0 held.1 held.2 in
      let locked : option_map (resident_of space_rec.name_of) (loaded_as k.cells ident) ≡ option_map (locked_if ident on) (option_map (resident_of space_rec.name_of) (loaded_as c.spaces.cells ident)) = rw (is, now, was, same_passes held.0.ident ident held.2) refl in
      residents-locking c new ident on refl (spaces_others c k count c.issued spare ident (λ i apart. rw is (changed_other c.spaces.cells ident held.0 held.1 held.2 (cells.with_lock on) refl i apart))) (spaces_as new ∙ locked ∙ ap (option_map (locked_if ident on)) (sym (spaces_as c)))

  pub spaces-loading : (issued : List Issued) → issued ≡ c.issued ++ just_issued ident ∷ [] → (n : Name) (v : SpaceRec) → space_rec.name_of v ≡ n → ident.slot < length c.spaces.cells → cell_at c.spaces.cells ident.slot ≡ None → standing_in c.issued ident ≡ Never → k.cells ≡ set c.spaces.cells ident.slot (Some (just_loaded ident v)) → residents_of (record c { spaces = k; space_count = count; issued = issued; spare = spare }) ≡ with_loaded ident n (residents_of c)
  spaces-loading issued more n v named within free never is =
      let new : Contents = record c { spaces = k; space_count = count; issued = issued; spare = spare } in
      let x : Loaded SpaceRec = just_loaded ident v in
      let now = filled_same c.spaces.cells x within free in
      let last : option_map (resident_of space_rec.name_of) (loaded_as k.cells ident) ≡ Some (record { ident = ident; name = n; locked = false }) = ap (λ y. option_map (resident_of space_rec.name_of) (loaded_as y ident)) is ∙ ap (option_map (resident_of space_rec.name_of)) now ∙ ap (λ m. Some (record { ident = ident; name = m; locked = false })) named in
      residents-loading c new ident n more never (spaces_others c k count issued spare ident (λ i apart. rw is (filled_other c.spaces.cells x within free i apart))) (spaces_as new ∙ last)

  pub spaces-changing : (v : SpaceRec) → IsLoaded c.spaces.cells ident → cells.NameIs space_rec.name_of c.spaces.cells ident.slot (space_rec.name_of v) → k.cells ≡ changed c.spaces.cells ident.slot (cells.with_value v) → residents_of (record c { spaces = k; space_count = count; issued = c.issued; spare = spare }) ≡ residents_of c
  spaces-changing v held named is =
      let new : Contents = record c { spaces = k; space_count = count; issued = c.issued; spare = spare } in
      residents-same c new refl (spaces_all c k count c.issued spare (changing_all space_rec.name_of c.spaces.cells k.cells ident v held named is))

-- threads
module _ (c : Contents) (k : stored.Kept ThreadRec) (count : ℕ) (issued : List Issued) (spare : ℕ) where
  abbrev threads_new : Contents
  threads_new = record c { threads = k; thread_count = count; issued = issued; spare = spare }

  pub threads_others : (ident : Ident) → ((i : Ident) → i ≢ ident → loaded_as k.cells i ≡ loaded_as c.threads.cells i) → (i : Ident) → i ≢ ident → resident_as (record c { threads = k; thread_count = count; issued = issued; spare = spare }) i ≡ resident_as c i
  threads_others ident others i apart = by i.kind
    where
      by : (of : Kind) → resident_in threads_new of i ≡ resident_in c of i
      by kind.Kernel = refl
      by kind.Space = refl
      by kind.Thread = ap (option_map (resident_of thread_rec.name_of)) (others i apart)
      by kind.Mapping = refl

  pub threads_all : ((i : Ident) → option_map (resident_of thread_rec.name_of) (loaded_as k.cells i) ≡ option_map (resident_of thread_rec.name_of) (loaded_as c.threads.cells i)) → (i : Ident) → resident_as (record c { threads = k; thread_count = count; issued = issued; spare = spare }) i ≡ resident_as c i
  threads_all same i = by i.kind
    where
      by : (of : Kind) → resident_in threads_new of i ≡ resident_in c of i
      by kind.Kernel = refl
      by kind.Space = refl
      by kind.Thread = same i
      by kind.Mapping = refl

  pub threads_keeps : moves.KeepsContents thread_rec.name_of c.threads k → KeepsContents c (record c { threads = k; thread_count = count; issued = issued; spare = spare })
  threads_keeps keeps (name.Kernel number) = refl
  threads_keeps keeps (name.Space number) = refl
  threads_keeps keeps (name.Thread number) = ap (option_map item.Thread) (keeps (name.Thread number))
  threads_keeps keeps (name.Mapping space vpn) = refl

  pub threads_has : (v : ThreadRec) → moves.HasContent thread_rec.name_of c.threads k (thread_rec.name_of v) v → HasContent c (record c { threads = k; thread_count = count; issued = issued; spare = spare }) (item.Thread v)
  threads_has v has (name.Kernel number) = refl
  threads_has v has (name.Space number) = refl
  threads_has v has (name.Thread number) = ap (option_map item.Thread) (has (name.Thread number)) ∙ option_cond item.Thread (is_name (thread_rec.name_of v) (name.Thread number)) (Some v) (stored.content_of thread_rec.name_of c.threads (name.Thread number))
  threads_has v has (name.Mapping space vpn) = refl

module _ (c : Contents) (k : stored.Kept ThreadRec) (count : ℕ) (spare : ℕ) (ident : Ident) (of_kind : ident.kind ≡ kind.Thread) where
  threads_as : (d : Contents) → resident_as d ident ≡ resident_in d kind.Thread ident
  threads_as d = ap (λ of. resident_in d of ident) of_kind

  pub threads-leaving : (issued : List Issued) (at : ℕ) → issued ≡ departed c.issued ident at → IsLoaded c.threads.cells ident → k.cells ≡ set c.threads.cells ident.slot None → residents_of (record c { threads = k; thread_count = count; issued = issued; spare = spare }) ≡ without ident (residents_of c)
  threads-leaving issued at left held is =
      let new : Contents = record c { threads = k; thread_count = count; issued = issued; spare = spare } in
      let none = left_none c.threads.cells ident held.0 held.1 held.2 in
      residents-leaving c new ident at left (threads_others c k count issued spare ident (λ i apart. rw is (left_other c.threads.cells ident held.0 held.1 held.2 i apart))) (threads_as new ∙ ap (option_map (resident_of thread_rec.name_of)) (ap (λ x. loaded_as x ident) is ∙ none))

  pub threads-locking : (on : Bool) → IsLoaded c.threads.cells ident → k.cells ≡ changed c.threads.cells ident.slot (cells.with_lock on) → residents_of (record c { threads = k; thread_count = count; issued = c.issued; spare = spare }) ≡ with_lock ident on (residents_of c)
  threads-locking on held is =
      let new : Contents = record c { threads = k; thread_count = count; issued = c.issued; spare = spare } in
      let now = changed_same c.threads.cells ident held.0 held.1 held.2 (cells.with_lock on) refl in
      let was = as_loaded c.threads.cells ident held.0 held.1 held.2 in
      let locked : option_map (resident_of thread_rec.name_of) (loaded_as k.cells ident) ≡ option_map (locked_if ident on) (option_map (resident_of thread_rec.name_of) (loaded_as c.threads.cells ident)) = rw (is, now, was, same_passes held.0.ident ident held.2) refl in
      residents-locking c new ident on refl (threads_others c k count c.issued spare ident (λ i apart. rw is (changed_other c.threads.cells ident held.0 held.1 held.2 (cells.with_lock on) refl i apart))) (threads_as new ∙ locked ∙ ap (option_map (locked_if ident on)) (sym (threads_as c)))

  pub threads-loading : (issued : List Issued) → issued ≡ c.issued ++ just_issued ident ∷ [] → (n : Name) (v : ThreadRec) → thread_rec.name_of v ≡ n → ident.slot < length c.threads.cells → cell_at c.threads.cells ident.slot ≡ None → standing_in c.issued ident ≡ Never → k.cells ≡ set c.threads.cells ident.slot (Some (just_loaded ident v)) → residents_of (record c { threads = k; thread_count = count; issued = issued; spare = spare }) ≡ with_loaded ident n (residents_of c)
  threads-loading issued more n v named within free never is =
      let new : Contents = record c { threads = k; thread_count = count; issued = issued; spare = spare } in
      let x : Loaded ThreadRec = just_loaded ident v in
      let now = filled_same c.threads.cells x within free in
      let last : option_map (resident_of thread_rec.name_of) (loaded_as k.cells ident) ≡ Some (record { ident = ident; name = n; locked = false }) = ap (λ y. option_map (resident_of thread_rec.name_of) (loaded_as y ident)) is ∙ ap (option_map (resident_of thread_rec.name_of)) now ∙ ap (λ m. Some (record { ident = ident; name = m; locked = false })) named in
      residents-loading c new ident n more never (threads_others c k count issued spare ident (λ i apart. rw is (filled_other c.threads.cells x within free i apart))) (threads_as new ∙ last)

  pub threads-changing : (v : ThreadRec) → IsLoaded c.threads.cells ident → cells.NameIs thread_rec.name_of c.threads.cells ident.slot (thread_rec.name_of v) → k.cells ≡ changed c.threads.cells ident.slot (cells.with_value v) → residents_of (record c { threads = k; thread_count = count; issued = c.issued; spare = spare }) ≡ residents_of c
  threads-changing v held named is =
      let new : Contents = record c { threads = k; thread_count = count; issued = c.issued; spare = spare } in
      residents-same c new refl (threads_all c k count c.issued spare (changing_all thread_rec.name_of c.threads.cells k.cells ident v held named is))

-- rows
module _ (c : Contents) (k : stored.Kept Row) (r : KeptRows) (issued : List Issued) (spare : ℕ) where
  abbrev rows_new : Contents
  rows_new = record c { rows = record r { kept = k }; issued = issued; spare = spare }

  pub rows_others : (ident : Ident) → ((i : Ident) → i ≢ ident → loaded_as k.cells i ≡ loaded_as c.rows.kept.cells i) → (i : Ident) → i ≢ ident → resident_as (record c { rows = record r { kept = k }; issued = issued; spare = spare }) i ≡ resident_as c i
  rows_others ident others i apart = by i.kind
    where
      by : (of : Kind) → resident_in rows_new of i ≡ resident_in c of i
      by kind.Kernel = refl
      by kind.Space = refl
      by kind.Thread = refl
      by kind.Mapping = ap (option_map (resident_of row_name)) (others i apart)

  pub rows_all : ((i : Ident) → option_map (resident_of row_name) (loaded_as k.cells i) ≡ option_map (resident_of row_name) (loaded_as c.rows.kept.cells i)) → (i : Ident) → resident_as (record c { rows = record r { kept = k }; issued = issued; spare = spare }) i ≡ resident_as c i
  rows_all same i = by i.kind
    where
      by : (of : Kind) → resident_in rows_new of i ≡ resident_in c of i
      by kind.Kernel = refl
      by kind.Space = refl
      by kind.Thread = refl
      by kind.Mapping = same i

  pub rows_keeps : moves.KeepsContents row_name c.rows.kept k → KeepsContents c (record c { rows = record r { kept = k }; issued = issued; spare = spare })
  rows_keeps keeps (name.Kernel number) = refl
  rows_keeps keeps (name.Space number) = refl
  rows_keeps keeps (name.Thread number) = refl
  rows_keeps keeps (name.Mapping space vpn) = ap (option_map item.Mapping) (keeps (name.Mapping space vpn))

  pub rows_has : (v : Row) → moves.HasContent row_name c.rows.kept k (row_name v) v → HasContent c (record c { rows = record r { kept = k }; issued = issued; spare = spare }) (item.Mapping v)
  rows_has v has (name.Kernel number) = refl
  rows_has v has (name.Space number) = refl
  rows_has v has (name.Thread number) = refl
  rows_has v has (name.Mapping space vpn) = ap (option_map item.Mapping) (has (name.Mapping space vpn)) ∙ option_cond item.Mapping (is_name (row_name v) (name.Mapping space vpn)) (Some v) (stored.content_of row_name c.rows.kept (name.Mapping space vpn))

module _ (c : Contents) (k : stored.Kept Row) (r : KeptRows) (spare : ℕ) (ident : Ident) (of_kind : ident.kind ≡ kind.Mapping) where
  rows_as : (d : Contents) → resident_as d ident ≡ resident_in d kind.Mapping ident
  rows_as d = ap (λ of. resident_in d of ident) of_kind

  pub rows-leaving : (issued : List Issued) (at : ℕ) → issued ≡ departed c.issued ident at → IsLoaded c.rows.kept.cells ident → k.cells ≡ set c.rows.kept.cells ident.slot None → residents_of (record c { rows = record r { kept = k }; issued = issued; spare = spare }) ≡ without ident (residents_of c)
  rows-leaving issued at left held is =
      let new : Contents = record c { rows = record r { kept = k }; issued = issued; spare = spare } in
      let none = left_none c.rows.kept.cells ident held.0 held.1 held.2 in
      residents-leaving c new ident at left (rows_others c k r issued spare ident (λ i apart. rw is (left_other c.rows.kept.cells ident held.0 held.1 held.2 i apart))) (rows_as new ∙ ap (option_map (resident_of row_name)) (ap (λ x. loaded_as x ident) is ∙ none))

  pub rows-locking : (on : Bool) → IsLoaded c.rows.kept.cells ident → k.cells ≡ changed c.rows.kept.cells ident.slot (cells.with_lock on) → residents_of (record c { rows = record r { kept = k }; issued = c.issued; spare = spare }) ≡ with_lock ident on (residents_of c)
  rows-locking on held is =
      let new : Contents = record c { rows = record r { kept = k }; issued = c.issued; spare = spare } in
      let now = changed_same c.rows.kept.cells ident held.0 held.1 held.2 (cells.with_lock on) refl in
      let was = as_loaded c.rows.kept.cells ident held.0 held.1 held.2 in
      let locked : option_map (resident_of row_name) (loaded_as k.cells ident) ≡ option_map (locked_if ident on) (option_map (resident_of row_name) (loaded_as c.rows.kept.cells ident)) = rw (is, now, was, same_passes held.0.ident ident held.2) refl in
      residents-locking c new ident on refl (rows_others c k r c.issued spare ident (λ i apart. rw is (changed_other c.rows.kept.cells ident held.0 held.1 held.2 (cells.with_lock on) refl i apart))) (rows_as new ∙ locked ∙ ap (option_map (locked_if ident on)) (sym (rows_as c)))

  pub rows-loading : (issued : List Issued) → issued ≡ c.issued ++ just_issued ident ∷ [] → (n : Name) (v : Row) → row_name v ≡ n → ident.slot < length c.rows.kept.cells → cell_at c.rows.kept.cells ident.slot ≡ None → standing_in c.issued ident ≡ Never → k.cells ≡ set c.rows.kept.cells ident.slot (Some (just_loaded ident v)) → residents_of (record c { rows = record r { kept = k }; issued = issued; spare = spare }) ≡ with_loaded ident n (residents_of c)
  rows-loading issued more n v named within free never is =
      let new : Contents = record c { rows = record r { kept = k }; issued = issued; spare = spare } in
      let x : Loaded Row = just_loaded ident v in
      let now = filled_same c.rows.kept.cells x within free in
      let last : option_map (resident_of row_name) (loaded_as k.cells ident) ≡ Some (record { ident = ident; name = n; locked = false }) = ap (λ y. option_map (resident_of row_name) (loaded_as y ident)) is ∙ ap (option_map (resident_of row_name)) now ∙ ap (λ m. Some (record { ident = ident; name = m; locked = false })) named in
      residents-loading c new ident n more never (rows_others c k r issued spare ident (λ i apart. rw is (filled_other c.rows.kept.cells x within free i apart))) (rows_as new ∙ last)

  pub rows-changing : (v : Row) → IsLoaded c.rows.kept.cells ident → cells.NameIs row_name c.rows.kept.cells ident.slot (row_name v) → k.cells ≡ changed c.rows.kept.cells ident.slot (cells.with_value v) → residents_of (record c { rows = record r { kept = k }; issued = c.issued; spare = spare }) ≡ residents_of c
  rows-changing v held named is =
      let new : Contents = record c { rows = record r { kept = k }; issued = c.issued; spare = spare } in
      residents-same c new refl (rows_all c k r c.issued spare (changing_all row_name c.rows.kept.cells k.cells ident v held named is))

-- what is loaded of kernels is resident
pub kernels_resident : (c : Contents) (ident : Ident) (l : Loaded KernelRec) → ident.kind ≡ kind.Kernel → cell_at c.kernels.cells ident.slot ≡ Some l → l.ident ≡ ident → resident_as c ident ≡ Some (resident_of kernel_rec.name_of l)
kernels_resident c ident l of_kind there own = ap (λ of. resident_in c of ident) of_kind ∙ ap (option_map (resident_of kernel_rec.name_of)) (as_loaded c.kernels.cells ident l there own)

-- what is loaded of spaces is resident
pub spaces_resident : (c : Contents) (ident : Ident) (l : Loaded SpaceRec) → ident.kind ≡ kind.Space → cell_at c.spaces.cells ident.slot ≡ Some l → l.ident ≡ ident → resident_as c ident ≡ Some (resident_of space_rec.name_of l)
spaces_resident c ident l of_kind there own = ap (λ of. resident_in c of ident) of_kind ∙ ap (option_map (resident_of space_rec.name_of)) (as_loaded c.spaces.cells ident l there own)

-- what is loaded of threads is resident
pub threads_resident : (c : Contents) (ident : Ident) (l : Loaded ThreadRec) → ident.kind ≡ kind.Thread → cell_at c.threads.cells ident.slot ≡ Some l → l.ident ≡ ident → resident_as c ident ≡ Some (resident_of thread_rec.name_of l)
threads_resident c ident l of_kind there own = ap (λ of. resident_in c of ident) of_kind ∙ ap (option_map (resident_of thread_rec.name_of)) (as_loaded c.threads.cells ident l there own)

-- what is loaded of rows is resident
pub rows_resident : (c : Contents) (ident : Ident) (l : Loaded Row) → ident.kind ≡ kind.Mapping → cell_at c.rows.kept.cells ident.slot ≡ Some l → l.ident ≡ ident → resident_as c ident ≡ Some (resident_of row_name l)
rows_resident c ident l of_kind there own = ap (λ of. resident_in c of ident) of_kind ∙ ap (option_map (resident_of row_name)) (as_loaded c.rows.kept.cells ident l there own)
