-- What a reader of a store learns.
use Rattle.std.proofs.Common.{◌≡◌, Bool, true, false, List, Option, Some, None, ◌∙◌, ap, subst, refl}
use Rattle.std.specs.Option.{option_map, IfNone, IfSome}
use Rattle.std.specs.Prelude.{if◌then◌else◌}
use Rattle.cache_ident.specs.declared.idents.Kind.{Kind}
use Rattle.cache_ident.specs.declared.names.Name.{Name}
use Rattle.slot_cache.specs.declared.loaded.Loaded.{Loaded}
use Rattle.slot_cache.specs.declared.seats.Seat.{Seat}
use Rattle.slot_cache.specs.Cells.{HasNoName, IsFoundAs}
use Rattle.slot_cache.specs.Seats.{ident_of}
use Rattle.owner_shelf.specs.declared.shelved.Shelved.{Shelved}
use Rattle.owner_shelf.specs.Rows.{HasNoRow, OnShelf}
use Rattle.owner_shelf.proofs.RowLaws.{under-absent}
use Rattle.kind_store.specs.Kept.{content_of, kept_in, IsExactlyOne, IsSound, Kept}
use Rattle.kind_store.specs.Seated.{IsSeatOf, Seen}
use Rattle.kind_store.proofs.NamedLemmas.{content_at, content_off}
use Rattle.kind_store.proofs.OnceLemmas.{exactly_one}

pub one_seen : {T : Type 0} (called : T → Name) (kind : Kind) (cells : List (Option (Loaded T))) (shelf : OnShelf T) → IsSound called kind cells shelf → (sees : Kept T) → kept_in cells shelf ≡ sees → IsExactlyOne called kind sees
one_seen called kind cells shelf sound sees same = subst (IsExactlyOne called kind) same (exactly_one called kind cells shelf sound)

module _ {T : Type 0} (called : T → Name) (kind : Kind) (seen : Seen T) (sound : IsSound called kind seen.cells seen.shelf) (name : Name) where
  -- the content of a name is what sits in its seat
  pub seat_content : (seat : Seat T) → IsSeatOf called seen name seat → content_of called (kept_in seen.cells seen.shelf) name ≡ Some seat.loaded.value
  seat_content seat of = by seat.is_loaded refl
    where
      by : (b : Bool) → seat.is_loaded ≡ b → content_of called (kept_in seen.cells seen.shelf) name ≡ Some seat.loaded.value
      by true on = content_at called name (kept_in seen.cells seen.shelf) sound.slots.one_name seat.loaded.ident.slot seat.loaded (of.loaded on) of.named
      by false off = let it = of.shelved off in content_off called name (kept_in seen.cells seen.shelf) it.unloaded ∙ ap (option_map (λ (r : Shelved T). r.content)) it.row

  -- a name that nothing has has none
  pub no_content : HasNoName called seen.cells name → HasNoRow called seen.shelf.rows name → content_of called (kept_in seen.cells seen.shelf) name ≡ None
  no_content unloaded absent = content_off called name (kept_in seen.cells seen.shelf) unloaded ∙ ap (option_map (λ (r : Shelved T). r.content)) (under-absent called seen.shelf.rows name absent)

-- and its identifier, if it is loaded
module _ {T : Type 0} (called : T → Name) (seen : Seen T) (name : Name) (seat : Seat T) (of : IsSeatOf called seen name seat) where
  pub seat_found : IfSome (ident_of seat) (IsFoundAs called seen.cells name)
  seat_found = by seat.is_loaded refl
    where
      by : (b : Bool) → seat.is_loaded ≡ b → IfSome (if b then Some seat.loaded.ident else None) (IsFoundAs called seen.cells name)
      by true on = (seat.loaded, of.loaded on, refl, of.named)
      by false off = tt

  pub seat_absent : IfNone (ident_of seat) (HasNoName called seen.cells name)
  seat_absent = by seat.is_loaded refl
    where
      by : (b : Bool) → seat.is_loaded ≡ b → IfNone (if b then Some seat.loaded.ident else None) (HasNoName called seen.cells name)
      by true on = tt
      by false off = (of.shelved off).unloaded
