-- The loaded rows of a frame are residents.
use Rattle.std.proofs.Common.{◌≡◌, ◌↔◌, Bool, Some, sym, ◌∙◌, ap, subst, refl}
use Rattle.std.specs.Option.{option_map}
use Rattle.cache_ident.specs.declared.idents.Ident.{Ident}
use Rattle.cache_ident.specs.declared.idents.Kind.{Kind}
use Rattle.cache_ident.specs.declared.idents.Kind.TheVariants as kind
use Rattle.cache_ident.specs.declared.names.Frame.{Frame}
use Rattle.phys_groups.specs.declared.rows.Row.{Row}
use Rattle.desc_stores.specs.slot_cache.specs.Rows.{row_name}
use Rattle.desc_stores.specs.slot_cache.proofs.SlotLemmas.{some_same}
use Rattle.desc_stores.specs.kernel_cache.specs.Kernels as kernel_rec
use Rattle.desc_stores.specs.row_store.specs.Frames.{IsRowOf}
use Rattle.desc_stores.specs.space_cache.specs.Spaces as space_rec
use Rattle.desc_stores.specs.thread_cache.specs.Threads as thread_rec
use Rattle.desc_stores.specs.declared.items.Item.{Item}
use Rattle.desc_stores.specs.declared.items.Item.TheVariants as item
use Rattle.desc_stores.specs.Contents.{resident_in, resident_of, Contents}
use Rattle.desc_stores.specs.Sound.{IsExactlyOne}
use Rattle.desc_stores.proofs.PutLemmas.{loaded_content}
use Rattle.store_residents.specs.Frames.{IsResidentOn}
use Rattle.store_residents.proofs.CellLemmas.{seen}
use Rattle.store_residents.proofs.ContentLemmas.{loaded_of}
use Rattle.store_residents.proofs.ResidentLemmas.{resident_loaded, seat_resident}

-- the row of a content
row_in : Row → Item → Row
row_in d (item.Mapping row) = row
row_in d (item.Kernel kernel) = d
row_in d (item.Space space) = d
row_in d (item.Thread thread) = d

same_row : (a b : Row) → Some (item.Mapping a) ≡ Some (item.Mapping b) → a ≡ b
unfolding row_in
same_row a b same = ap (row_in a) (some_same (item.Mapping a) (item.Mapping b) same)

pub rows_on_frame : (c : Contents) → IsExactlyOne c → (frame : Frame) (message : Bool) (ident : Ident) → IsRowOf c.rows.kept.cells frame message ident ↔ IsResidentOn c frame message ident
rows_on_frame c one frame message ident = (listed, back)
  where
    listed : IsRowOf c.rows.kept.cells frame message ident → IsResidentOn c frame message ident
    listed is =
        let row = is.0.value in
        record {
          resident = resident_of row_name is.0;
          there = seat_resident c one.sound kind.Mapping ident.slot (resident_of row_name is.0) (ap (seen row_name) is.1);
          own = is.2;
          row = row;
          content = ap (option_map item.Mapping) (loaded_content row_name kind.Mapping c.rows.kept one.rows ident.slot is.0 is.1 (row_name row) refl);
          on = is.3;
          flag = is.4;
        }

    back : IsResidentOn c frame message ident → IsRowOf c.rows.kept.cells frame message ident
    back is = subst (IsRowOf c.rows.kept.cells frame message) is.own (by is.resident.ident.kind (resident_loaded c is.resident is.there))
      where
        by : (k : Kind) → resident_in c k is.resident.ident ≡ Some is.resident → IsRowOf c.rows.kept.cells frame message is.resident.ident
        by kind.Kernel held =
            let l = loaded_of c kernel_rec.name_of kind.Kernel c.kernels item.Kernel one.kernels (λ v. refl) is.resident.ident is.resident held in
            absurd (cc (sym l.3 ∙ is.content))
        by kind.Space held =
            let l = loaded_of c space_rec.name_of kind.Space c.spaces item.Space one.spaces (λ v. refl) is.resident.ident is.resident held in
            absurd (cc (sym l.3 ∙ is.content))
        by kind.Thread held =
            let l = loaded_of c thread_rec.name_of kind.Thread c.threads item.Thread one.threads (λ v. refl) is.resident.ident is.resident held in
            absurd (cc (sym l.3 ∙ is.content))
        by kind.Mapping held =
            let l = loaded_of c row_name kind.Mapping c.rows.kept item.Mapping one.rows (λ v. refl) is.resident.ident is.resident held in
            let same = same_row l.0.value is.row (sym l.3 ∙ is.content) in
            (l.0, l.1, l.2, ap (λ (row : Row). row.frame) same ∙ is.on, ap (λ (row : Row). row.flags.m) same ∙ is.flag)
