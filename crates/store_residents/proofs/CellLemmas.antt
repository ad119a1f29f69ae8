-- What stands in the cells of one kind, but for its content.
use Rattle.std.proofs.Common.{◌≡◌, ◌<◌, ℕ, List, length, Option, Some, None, sym, ◌∙◌, ap, refl}
use Rattle.std.specs.Option.{option_map}
use Rattle.cache_ident.specs.declared.idents.Ident.{Ident}
use Rattle.cache_ident.specs.declared.idents.Kind.{Kind}
use Rattle.cache_ident.specs.declared.names.Name.{Name}
use Rattle.cache_ident.specs.Names.{kind_of}
use Rattle.cache_ident.specs.Residents.{Resident}
use Rattle.desc_stores.specs.slot_cache.specs.declared.loaded.Loaded.{Loaded}
use Rattle.desc_stores.specs.slot_cache.specs.Cells.{cell_at}
use Rattle.desc_stores.specs.slot_cache.specs.Table.{IsPlaced}
use Rattle.desc_stores.specs.slot_cache.proofs.SlotLemmas.{cell_within}
use Rattle.desc_stores.specs.kind_store.specs.Rolls.{loaded_as}
use Rattle.desc_stores.specs.Contents.{resident_of}
use Rattle.desc_stores.proofs.CellLemmas.{as_loaded}
use Rattle.desc_stores.proofs.KindLemmas.{resident_back}

-- a resident stands in its own slot, which is one of those that there are, and its identifier is of the kind, as its name is
pub record IsSeated (kind : Kind) (slot most : ℕ) (r : Resident) : Type 0 where
  pub slot_is : r.ident.slot ≡ slot
  pub kind_is : r.ident.kind ≡ kind
  pub name_is : kind_of r.name ≡ kind
  pub within : slot < most

module _ {T : Type 0} (called : T → Name) where
  -- what stands in a cell, but for its content
  abbrev pub seen : Option (Loaded T) → Option Resident
  seen cell = option_map (resident_of called) cell

  pub seen_back : (cell : Option (Loaded T)) (r : Resident) → seen cell ≡ Some r → (l : Loaded T) × (cell ≡ Some l) × (resident_of called l ≡ r)
  seen_back None r is = absurd (cc)
  seen_back (Some l) r is = (l, refl, cc)

  pub seen_none : (cell : Option (Loaded T)) → seen cell ≡ None → cell ≡ None
  seen_none None is = refl
  seen_none (Some l) is = absurd (cc)

  module _ (cells : List (Option (Loaded T))) where
    -- what is loaded with an identifier stands in its slot
    pub seen_as : (i : Ident) (r : Resident) → option_map (resident_of called) (loaded_as cells i) ≡ Some r → (seen (cell_at cells i.slot) ≡ Some r) × (r.ident ≡ i)
    seen_as i r held =
        let back = resident_back called cells i r held in
        (ap seen back.1 ∙ ap (λ x. Some x) back.3, ap (λ (x : Resident). x.ident) (sym back.3) ∙ back.2)

    -- and back
    pub as_seen : (i : Ident) (r : Resident) → seen (cell_at cells i.slot) ≡ Some r → r.ident ≡ i → option_map (resident_of called) (loaded_as cells i) ≡ Some r
    as_seen i r there own =
        let back = seen_back (cell_at cells i.slot) r there in
        ap seen (as_loaded cells i back.0 back.1 (ap (λ (x : Resident). x.ident) back.2 ∙ own)) ∙ ap (λ x. Some x) back.2

    pub seated : (kind : Kind) → IsPlaced kind cells → ((v : T) → kind_of (called v) ≡ kind) → (slot : ℕ) (r : Resident) → seen (cell_at cells slot) ≡ Some r → IsSeated kind slot (length cells) r
    seated kind placed named slot r there =
        let back = seen_back (cell_at cells slot) r there in
        let at = placed slot back.0 back.1 in
        record {
          slot_is = ap (λ (x : Resident). x.ident.slot) (sym back.2) ∙ at.0;
          kind_is = ap (λ (x : Resident). x.ident.kind) (sym back.2) ∙ at.1;
          name_is = ap (λ (x : Resident). kind_of x.name) (sym back.2) ∙ named back.0.value;
          within = cell_within cells slot back.0 back.1;
        }
