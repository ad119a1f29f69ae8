-- All contents once the content of a name changed where it stands.
use Rattle.std.proofs.Common.{◌≡◌, ℕ, Bool, true, false, List, [], ◌∷◌, Option, Some, None, sym, ◌∙◌, ap, subst, refl}
use Rattle.std.specs.Option.{option_map, option_or}
use Rattle.std.specs.Prelude.{if◌then◌else◌}
use Rattle.cache_ident.specs.declared.idents.Ident.{Ident}
use Rattle.cache_ident.specs.declared.idents.Kind.{Kind}
use Rattle.cache_ident.specs.declared.idents.Kind.TheVariants as kind
use Rattle.cache_ident.specs.declared.names.Name.{Name}
use Rattle.cache_ident.specs.declared.names.Name.TheVariants as name
use Rattle.cache_ident.specs.declared.rolls.Issued.{Issued}
use Rattle.cache_ident.specs.Names.{kind_of}
use Rattle.cache_ident.specs.Residents.{Resident}
use Rattle.phys_groups.specs.declared.rows.Row.{Row}
use Rattle.slot_cache.specs.declared.loaded.Loaded.{Loaded}
use Rattle.slot_cache.specs.Cells.{cell_at, with_value}
use Rattle.slot_cache.specs.Rows.{row_name}
use Rattle.slot_cache.proofs.SlotLemmas.{some_same}
use Rattle.kind_store.specs.owner_shelf.specs.Rows.{content_under}
use Rattle.kind_store.specs.owner_shelf.proofs.NameLemmas.{same_by_eq}
use Rattle.thread_cache.specs.declared.ThreadRec.{ThreadRec}
use Rattle.thread_cache.specs.Threads as thread_rec
use Rattle.kind_store.specs.Changes as moves
use Rattle.kind_store.specs.Changes.{cells_with, loaded_with, with_content}
use Rattle.kind_store.specs.Kept as stored
use Rattle.kind_store.specs.Kept.{is_called}
use Rattle.kind_store.specs.Rolls.{loaded_as, StaysEnrolled}
use Rattle.kind_store.proofs.CellLemmas.{found}
use Rattle.kind_store.proofs.ContentLemmas.{content_named}
use Rattle.kind_store.proofs.NamedLemmas.{as-with, cell-with, ident-with}
use Rattle.row_store.specs.Kept.{KeptRows}
use Rattle.row_store.proofs.ContentLemmas.{some_there}
use Rattle.desc_stores.specs.declared.items.Item.TheVariants as item
use Rattle.desc_stores.specs.Contents.{content_of, resident_of, residents_of, Contents}
use Rattle.desc_stores.specs.Sound.{thread_named, AreSound, IsListed}
use Rattle.desc_stores.proofs.KindLemmas.{residents-same, rows_all, threads_all}
use Rattle.desc_stores.proofs.SoundLemmas.{numbered-has}

module _ {T : Type 0} (called : T → Name) where
  -- what is found under a name has it
  found_called : (cells : List (Option (Loaded T))) (n : Name) (l : Loaded T) → found called cells n ≡ Some l → called l.value ≡ n
  found_called [] n l there = absurd (cc)
  found_called (None ∷ cells) n l there = found_called cells n l there
  found_called (Some x ∷ cells) n l there = by (λ later. found_called cells n l later) (is_called called n x) refl there
    where
      by : (found called cells n ≡ Some l → called l.value ≡ n) → (b : Bool) → is_called called n x ≡ b → (if b then Some x else found called cells n) ≡ Some l → called l.value ≡ n
      by next true passes here = ap (λ (y : Loaded T). called y.value) (sym (some_same x l here)) ∙ same_by_eq (called x.value) n passes
      by next false fails later = next later

  -- and so has the content of a name
  pub content_called : (kept : stored.Kept T) (n : Name) (value : T) → stored.content_of called kept n ≡ Some value → called value ≡ n
  unfolding stored.content_of
  content_called kept n value there = by (found called kept.cells n) refl there
    where
      one : (a b : T) → Some a ≡ Some b → a ≡ b
      one a b e = cc

      by : (o : Option (Loaded T)) → found called kept.cells n ≡ o → option_or (option_map (λ (l : Loaded T). l.value) o) (content_under called kept.rows n) ≡ Some value → called value ≡ n
      by None is shelved = content_named called kept.rows n value shelved
      by (Some l) is loaded = ap called (sym (one l.value value loaded)) ∙ found_called kept.cells n l is

  module _ (n : Name) (left : T) where
    -- what is loaded has the same identifier, name and lock
    resident-with : called left ≡ n → (l : Loaded T) → resident_of called (loaded_with called n left l) ≡ resident_of called l
    resident-with same l = by (is_called called n l) refl
      where
        by : (b : Bool) → is_called called n l ≡ b → resident_of called (if b then with_value left l else l) ≡ resident_of called l
        by true passes = ap (λ (m : Name). let r : Resident = record { ident = l.ident; name = m; locked = l.locked } in r) (same ∙ sym (same_by_eq (called l.value) n passes))
        by false fails = refl

    pub residents-with : called left ≡ n → (cells : List (Option (Loaded T))) (i : Ident) → option_map (resident_of called) (loaded_as (cells_with called cells n left) i) ≡ option_map (resident_of called) (loaded_as cells i)
    residents-with same cells i = ap (option_map (resident_of called)) (as-with called n left cells i) ∙ by (loaded_as cells i)
      where
        by : (o : Option (Loaded T)) → option_map (resident_of called) (option_map (loaded_with called n left) o) ≡ option_map (resident_of called) o
        by None = refl
        by (Some l) = ap (λ (r : Resident). Some r) (resident-with same l)

    -- and stands in its slot
    pub listed-with : (of : Kind) (issued : List Issued) (cells : List (Option (Loaded T))) → IsListed of issued cells → StaysEnrolled of cells (cells_with called cells n left) → IsListed of issued (cells_with called cells n left)
    listed-with of issued cells listed stays = record {
      enrolled = stays issued listed.enrolled;
      placed = λ slot l there. by slot l (cell_at cells slot) refl (sym (cell-with called n left cells slot) ∙ there);
    }
      where
        by : (slot : ℕ) (l : Loaded T) (o : Option (Loaded T)) → cell_at cells slot ≡ o → option_map (loaded_with called n left) o ≡ Some l → (l.ident.slot ≡ slot) × (l.ident.kind ≡ of)
        by slot l None is some = absurd (cc)
        by slot l (Some x) is some =
            let same : l.ident ≡ x.ident = ap (λ (y : Loaded T). y.ident) (sym (some_same (loaded_with called n left x) l some)) ∙ ident-with called n left x in
            let was = listed.placed slot x is in
            (ap (λ (j : Ident). j.slot) same ∙ was.0, ap (λ (j : Ident). j.kind) same ∙ was.1)

-- the content of a thread's name, and of a row's
pub thread_of : (c : Contents) (n : Name) → kind_of n ≡ kind.Thread → content_of c n ≡ option_map item.Thread (stored.content_of thread_rec.name_of c.threads n)
thread_of c (name.Kernel number) is = absurd (cc)
thread_of c (name.Space number) is = absurd (cc)
thread_of c (name.Thread number) is = refl
thread_of c (name.Mapping space vpn) is = absurd (cc)

pub row_of : (c : Contents) (n : Name) → kind_of n ≡ kind.Mapping → content_of c n ≡ option_map item.Mapping (stored.content_of row_name c.rows.kept n)
row_of c (name.Kernel number) is = absurd (cc)
row_of c (name.Space number) is = absurd (cc)
row_of c (name.Thread number) is = absurd (cc)
row_of c (name.Mapping space vpn) is = refl

module _ (c : Contents) (n : Name) where
  -- threads
  module _ (k : stored.Kept ThreadRec) (left : ThreadRec) (is : k ≡ with_content thread_rec.name_of c.threads n left) where
    thread_cells : k.cells ≡ cells_with thread_rec.name_of c.threads.cells n left
    thread_cells = ap (λ (x : stored.Kept ThreadRec). x.cells) is

    pub threads-sound_named : AreSound c → (value : ThreadRec) → stored.content_of thread_rec.name_of c.threads n ≡ Some value → moves.HasContent thread_rec.name_of c.threads k n left → StaysEnrolled kind.Thread c.threads.cells k.cells → AreSound (record c { threads = k })
    threads-sound_named sound value was has stays = record {
      numbered = sound.numbered;
      kernels = sound.kernels;
      spaces = sound.spaces;
      threads = subst (IsListed kind.Thread c.issued) (sym thread_cells) (listed-with thread_rec.name_of n left kind.Thread c.issued c.threads.cells sound.threads (subst (StaysEnrolled kind.Thread c.threads.cells) thread_cells stays));
      rows = sound.rows;
      kernel_names = sound.kernel_names;
      space_names = sound.space_names;
      thread_names = numbered-has thread_rec.name_of thread_named c.threads k c.thread_count n left sound.thread_names (some_there (stored.content_of thread_rec.name_of c.threads n) value was) has;
    }

    pub threads-residents_named : thread_rec.name_of left ≡ n → residents_of (record c { threads = k }) ≡ residents_of c
    threads-residents_named same = residents-same c (record c { threads = k }) refl (threads_all c k c.thread_count c.issued c.spare (λ i. ap (λ cells. option_map (resident_of thread_rec.name_of) (loaded_as cells i)) thread_cells ∙ residents-with thread_rec.name_of n left same c.threads.cells i))

  -- rows
  module _ (r : KeptRows) (left : Row) (is : r.kept ≡ with_content row_name c.rows.kept n left) where
    row_cells : r.kept.cells ≡ cells_with row_name c.rows.kept.cells n left
    row_cells = ap (λ (x : stored.Kept Row). x.cells) is

    pub rows-sound_named : AreSound c → StaysEnrolled kind.Mapping c.rows.kept.cells r.kept.cells → AreSound (record c { rows = r })
    rows-sound_named sound stays = record {
      numbered = sound.numbered;
      kernels = sound.kernels;
      spaces = sound.spaces;
      threads = sound.threads;
      rows = subst (IsListed kind.Mapping c.issued) (sym row_cells) (listed-with row_name n left kind.Mapping c.issued c.rows.kept.cells sound.rows (subst (StaysEnrolled kind.Mapping c.rows.kept.cells) row_cells stays));
      kernel_names = sound.kernel_names;
      space_names = sound.space_names;
      thread_names = sound.thread_names;
    }

    pub rows-residents_named : row_name left ≡ n → residents_of (record c { rows = r }) ≡ residents_of c
    rows-residents_named same = residents-same c (record c { rows = r }) refl (rows_all c r.kept r c.issued c.spare (λ i. ap (λ cells. option_map (resident_of row_name) (loaded_as cells i)) row_cells ∙ residents-with row_name n left same c.rows.kept.cells i))
