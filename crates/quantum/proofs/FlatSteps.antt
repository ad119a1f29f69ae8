-- A step ahead, taken in a state of the machine that shows what the views show, is the machine's step.
use Rattle.std.proofs.Common.{◌≡◌, ◌≢◌, ℕ, ◌*◌, Bool, true, false, ◌&&◌, ◌||◌, cond, List, [], ◌∷◌, length, map, Some, None, Contains, refl, ap, ap₂, sym, ◌∙◌, inl, inr, arith}
use Rattle.std.specs.Prelude.{◌==◌, if◌then◌else◌}
use Rattle.std.specs.List.{filter}
use Rattle.std.proofs.lemmas.Bool.{cases_Bool, eqb-true}
use Rattle.cache_ident.specs.declared.names.Frame.{Frame}
use Rattle.cache_ident.specs.declared.names.SpaceNo.{SpaceNo}
use Rattle.phys_groups.specs.declared.rows.Row.{Row}
use Rattle.phys_groups.specs.Memory.{page_at}
use Rattle.rv32_exec.specs.Pages.{put_bytes}
use Rattle.rv32_exec.specs.Changes.{Change, Marked, Put, all_changed}
use Rattle.flat_laws.specs.flat_state.specs.State.{FlatState, groups_of}
use Rattle.flat_laws.specs.flat_state.specs.Translation.{rights_of}
use Rattle.flat_laws.specs.flat_state.specs.Pages.{is_in, page_of, pages_in, pages_of}
use Rattle.flat_laws.specs.flat_state.specs.Rest.{is_mapped, unmarked, unmapped_page}
use Rattle.flat_laws.specs.flat_state.specs.Step.{written_back}
use Rattle.flat_laws.specs.flat_state.specs.WellFormed.{IsWellFormed}
use Rattle.flat_laws.specs.flat_state.proofs.FormedParts.{KeepsRow, rows_formed}
use Rattle.flat_laws.specs.flat_state.proofs.WritingBack.{written_back-memory, written_back-rows}
use Rattle.page_views.specs.Views.{View}
use Rattle.quantum.specs.LocalRun.{touched_views}
use Rattle.quantum.specs.Made.{put_on, has_mark, has_store_mark, AreOf, changed_memory, changed_state}
use Rattle.quantum.proofs.ViewPages.{page_after, pages_after}
use Rattle.quantum.proofs.Changed.{after_marks, length-changed, marks_keep, page_changed, rows_changed}

-- each touched view's frame is one that the space maps
abbrev pub AreMapped : List Row → SpaceNo → List View → Type 0
AreMapped rows space vs = (v : View) → Contains (touched_views vs) v → is_mapped rows space v.frame ≡ true

-- a frame of no touched view gets nothing
pub not_put : (vs : List View) (cs : List Change) (f : Frame) (bytes : List ℕ) → AreOf vs cs → ((v : View) → Contains (touched_views vs) v → v.frame.0 ≢ f.0) → put_on cs f.0 bytes ≡ bytes
not_put vs [] f bytes of apart = refl
not_put vs (Marked n access ∷ cs) f bytes of apart = not_put vs cs f bytes of.1 apart
not_put vs (Put frame count at value ∷ cs) f bytes of apart =
    ap (put_on cs f.0) (by (f.0 == frame) refl) ∙ not_put vs cs f bytes of.2 apart
  where
    by : (b : Bool) → (f.0 == frame) ≡ b → (if b then put_bytes count bytes at value else bytes) ≡ bytes
    by true e = absurd (apart of.1.0 of.1.1 (of.1.2 ∙ sym (eqb-true f.0 frame e)))
    by false e = refl

-- an element more, in both lists or in neither
both : {X Y Z : Type 0} (f : X → Y) (h : Z → Y) (g : X → Z) (x' x : X) (xs' xs : List X) (a b : Bool) → a ≡ true → b ≡ true → f x' ≡ h (g x) → map f xs' ≡ map h (map g xs) → map f (cond a (x' ∷ xs') xs') ≡ map h (map g (cond b (x ∷ xs) xs))
both f h g x' x xs' xs a b yes-a yes-b first rest = rw (yes-a, yes-b, first, rest) refl

neither : {X Y Z : Type 0} (f : X → Y) (h : Z → Y) (g : X → Z) (x' x : X) (xs' xs : List X) (a b : Bool) → a ≡ false → b ≡ false → map f xs' ≡ map h (map g xs) → map f (cond a (x' ∷ xs') xs') ≡ map h (map g (cond b (x ∷ xs) xs))
neither f h g x' x xs' xs a b no-a no-b rest = rw (no-a, no-b, rest) refl

module _ (rights : List (Bool × Bool)) (space : SpaceNo) (cs : List Change) (vs : List View) (of : AreOf vs cs) (m : List ℕ) where
  row_page : (row : Row) → is_in space row ≡ true → page_of rights (changed_memory cs m) (after_marks space cs row) ≡ page_after cs (page_of rights m row)
  row_page row inside =
      rw inside (ap (λ (bytes : List ℕ). record (page_of rights m row) { bytes = bytes; touched = row.referenced || has_mark row.vpn.0 cs; written = row.modified || has_store_mark row.vpn.0 cs }) (page_changed vs cs m row.frame of))

  inside_after : (row : Row) → is_in space (after_marks space cs row) ≡ is_in space row
  inside_after row = ap (λ (sp : SpaceNo). sp.0 == space.0) (marks_keep space cs row).space

  rows_pages : (rows : List Row) → pages_in rights (changed_memory cs m) (map (after_marks space cs) rows) space ≡ map (page_after cs) (pages_in rights m rows space)
  rows_pages [] = refl
  rows_pages (row ∷ rows) = elim (cases_Bool (is_in space row)) [
    | inl inside ↦ both (page_of rights (changed_memory cs m)) (page_after cs) (page_of rights m) (after_marks space cs row) row (filter (is_in space) (map (after_marks space cs) rows)) (filter (is_in space) rows) (is_in space (after_marks space cs row)) (is_in space row) (inside_after row ∙ inside) inside (row_page row inside) (rows_pages rows)
    | inr beside ↦ neither (page_of rights (changed_memory cs m)) (page_after cs) (page_of rights m) (after_marks space cs row) row (filter (is_in space) (map (after_marks space cs) rows)) (filter (is_in space) rows) (is_in space (after_marks space cs row)) (is_in space row) (inside_after row ∙ beside) beside (rows_pages rows)
  ]

  mapped_after : (rows : List Row) (f : Frame) → is_mapped (map (after_marks space cs) rows) space f ≡ is_mapped rows space f
  mapped_after [] f = refl
  mapped_after (row ∷ rows) f =
      ap₂ (λ (a b : Bool). a || b) (ap₂ (λ (a : Bool) (g : Frame). a && (g.0 == f.0)) (inside_after row) (marks_keep space cs row).frame) (mapped_after rows f)

  unmarked_row : (row : Row) (b : Bool) → is_in space row ≡ b → unmarked space (after_marks space cs row) ≡ unmarked space row
  unmarked_row row true inside = rw (inside, inside) refl
  unmarked_row row false inside = rw (inside, inside) refl

  unmarked_after : (rows : List Row) → map (unmarked space) (map (after_marks space cs) rows) ≡ map (unmarked space) rows
  unmarked_after [] = refl
  unmarked_after (row ∷ rows) = ap₂ (λ (r : Row) (rs : List Row). r ∷ rs) (unmarked_row row (is_in space row) refl) (unmarked_after rows)

  -- what no page of the space maps stays
  frames_after : (rows : List Row) → AreMapped rows space vs → (f : Frame) → unmapped_page (changed_memory cs m) (map (after_marks space cs) rows) space f ≡ unmapped_page m rows space f
  frames_after rows mapped f =
      ap (λ (b : Bool). if b then None else Some (page_at (changed_memory cs m) f)) (mapped_after rows f) ∙ by (is_mapped rows space f) refl
    where
      by : (b : Bool) → is_mapped rows space f ≡ b → (if b then None else Some (page_at (changed_memory cs m) f)) ≡ (if b then None else Some (page_at m f))
      by true e = refl
      by false e =
          ap Some (page_changed vs cs m f of ∙ not_put vs cs f (page_at m f) of (λ v there same. true_false (sym (mapped v there) ∙ (ap (λ (n : ℕ). is_mapped rows space (record { 0 = n })) same ∙ e))))
        where
          true_false : true ≡ false → ⊥
          true_false e = cc

row_kept : (space : SpaceNo) (cs : List Change) → KeepsRow (after_marks space cs)
row_kept space cs = record {
  space = λ row. (marks_keep space cs row).space;
  vpn = λ row. (marks_keep space cs row).vpn;
  frame = λ row. (marks_keep space cs row).frame;
  flags = λ row. (marks_keep space cs row).flags;
  receiver = λ row. by row (is_in space row);
}
  where
    by : (row : Row) (b : Bool) → (if b then record row { referenced = row.referenced || has_mark row.vpn.0 cs; modified = row.modified || has_store_mark row.vpn.0 cs } else row).receiver ≡ row.receiver
    by row true = refl
    by row false = refl

module _ (s : FlatState) (formed : IsWellFormed s) (space : SpaceNo) (cs : List Change) (vs : List View) (of : AreOf vs cs) (mapped : AreMapped s.rows space vs) where
  -- the pages of the changed state are the changed pages
  pub pages_are : pages_of (changed_state s space cs) space ≡ all_changed cs (pages_of s space)
  pages_are =
      ap (λ (rows : List Row). pages_in (rights_of s space) (changed_memory cs s.memory) rows space) (rows_changed space cs s.rows)
      ∙ (rows_pages (rights_of s space) space cs vs of s.memory s.rows
      ∙ sym (pages_after cs (pages_of s space)))

  size : length s.memory ≡ 4096 * (128 * groups_of s.machine)
  size = formed.memory.size ∙ omega arith

  formed_rows : IsWellFormed (record s { rows = map (after_marks space cs) s.rows })
  formed_rows = rows_formed (after_marks space cs) (row_kept space cs) s formed

  -- what goes back to memory and to the rows is the changed state
  pub goes_back : written_back s space (all_changed cs (pages_of s space)) ≡ changed_state s space cs
  goes_back =
      ap (written_back s space) (sym (pages_after_rows))
      ∙ ap₂ (λ (memory : List ℕ) (rows : List Row). record s { memory = memory; rows = rows })
      (written_back-memory (rights_of s space) space (128 * groups_of s.machine) s.memory (changed_memory cs s.memory) s.rows (map (after_marks space cs) s.rows) size (length-changed cs s.memory ∙ size) (λ row there. (formed_rows.rows.each row there).frame) (frames_after (rights_of s space) space cs vs of s.memory s.rows mapped))
      (written_back-rows (rights_of s space) space (changed_memory cs s.memory) s.rows (map (after_marks space cs) s.rows) formed_rows.rows.single (unmarked_after (rights_of s space) space cs vs of s.memory s.rows)
      ∙ sym (rows_changed space cs s.rows))
    where
      pages_after_rows : pages_in (rights_of s space) (changed_memory cs s.memory) (map (after_marks space cs) s.rows) space ≡ all_changed cs (pages_of s space)
      pages_after_rows = rows_pages (rights_of s space) space cs vs of s.memory s.rows ∙ sym (pages_after cs (pages_of s space))
