-- The rows of a frame once the row of a name changed where it stands.
use Rattle.std.proofs.Common.{◌≡◌, ℕ, Bool, true, false, Option, Some, None, sym, ◌∙◌, ap, refl}
use Rattle.std.specs.Option.{option_map}
use Rattle.std.specs.Prelude.{if◌then◌else◌}
use Rattle.std.proofs.lemmas.List.{length-map}
use Rattle.cache_ident.specs.declared.idents.Ident.{Ident}
use Rattle.cache_ident.specs.declared.names.Frame.{Frame}
use Rattle.cache_ident.specs.declared.names.Name.{Name}
use Rattle.phys_groups.specs.declared.rows.Row.{Row}
use Rattle.sorted_list.specs.Sorted.{Sorted}
use Rattle.slot_cache.specs.declared.loaded.Loaded.{Loaded}
use Rattle.slot_cache.specs.Cells.{cell_at, with_value}
use Rattle.slot_cache.specs.Rows.{row_name}
use Rattle.slot_cache.proofs.SlotLemmas.{some_same}
use Rattle.kind_store.specs.owner_shelf.proofs.NameLemmas.{same_by_eq}
use Rattle.kind_store.specs.Changes.{cells_with, loaded_with}
use Rattle.kind_store.specs.Kept.{content_of, is_called, Kept}
use Rattle.kind_store.proofs.NamedLemmas.{cell-with, content_at, count-with, ident-with}
use Rattle.kind_store.proofs.ProperLemmas.{IsOnce}
use Rattle.row_store.specs.declared.frames.RowsOf.{RowsOf}
use Rattle.row_store.specs.Frames.{rows_of, IsIndexed, IsRowOf}

some_row : (a b : Row) → Some a ≡ Some b → a ≡ b
some_row a b e = cc

module _ (kept : Kept Row) (once : IsOnce (λ (x : Loaded Row). row_name x.value) kept.cells) (name : Name) (value left : Row) (there : content_of row_name kept name ≡ Some value) (among : rows_of left ≡ rows_of value) where
  abbrev changed_to : Loaded Row → Loaded Row
  changed_to = loaded_with row_name name left

  -- what is loaded stays among the same rows
  among-with : (slot : ℕ) (l : Loaded Row) → cell_at kept.cells slot ≡ Some l → rows_of (loaded_with row_name name left l).value ≡ rows_of l.value
  among-with slot l at = by (is_called row_name name l) refl
    where
      by : (b : Bool) → is_called row_name name l ≡ b → rows_of (if b then with_value left l else l).value ≡ rows_of l.value
      by true passes =
          let was = content_at row_name name kept once slot l at (same_by_eq (row_name l.value) name passes) in
          among ∙ ap rows_of (some_row value l.value (sym there ∙ was))
      by false fails = refl

  -- a row of a frame is one of that frame still, and no other came
  row_still : (frame : Frame) (message : Bool) (ident : Ident) → IsRowOf kept.cells frame message ident → IsRowOf (cells_with row_name kept.cells name left) frame message ident
  row_still frame message ident (l, at, own, of_frame, of_message) =
      let stays = among-with ident.slot l at in
      (changed_to l, cell-with row_name name left kept.cells ident.slot ∙ ap (option_map changed_to) at, ident-with row_name name left l ∙ own, ap (λ (r : RowsOf). r.frame) stays ∙ of_frame, ap (λ (r : RowsOf). r.message) stays ∙ of_message)

  row_before : (frame : Frame) (message : Bool) (ident : Ident) → IsRowOf (cells_with row_name kept.cells name left) frame message ident → IsRowOf kept.cells frame message ident
  row_before frame message ident (l, at, own, of_frame, of_message) = by (cell_at kept.cells ident.slot) refl (sym (cell-with row_name name left kept.cells ident.slot) ∙ at)
    where
      by : (o : Option (Loaded Row)) → cell_at kept.cells ident.slot ≡ o → option_map changed_to o ≡ Some l → IsRowOf kept.cells frame message ident
      by None is none = absurd (cc)
      by (Some x) is some =
          let one = some_same (changed_to x) l some in
          let was = sym (among-with ident.slot x is) ∙ ap (λ (y : Loaded Row). rows_of y.value) one in
          (x, is, sym (ident-with row_name name left x) ∙ ap (λ (y : Loaded Row). y.ident) one ∙ own, ap (λ (r : RowsOf). r.frame) was ∙ of_frame, ap (λ (r : RowsOf). r.message) was ∙ of_message)

  -- so the index stands for the slots
  pub indexed-named : (index : Sorted RowsOf Ident) → IsIndexed kept.cells index → IsIndexed (cells_with row_name kept.cells name left) index
  indexed-named index indexed = record {
    listed = λ entry. (λ in_index. row_still entry.0.frame entry.0.message entry.1 ((indexed.listed entry).0 in_index), λ now. (indexed.listed entry).1 (row_before entry.0.frame entry.0.message entry.1 now));
    rising = indexed.rising;
    len = indexed.len ∙ sym (count-with row_name name left kept.cells);
    room = indexed.room ∙ sym (length-map kept.cells (option_map changed_to));
  }
