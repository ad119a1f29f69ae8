-- What is loaded, and the roll of all identifiers that were issued.
use Rattle.std.specs.Prelude.{◌≡◌, not, if◌then◌else◌, List, length, map, filter, filter_map, Option, Some, None}
use Rattle.cache_ident.specs.declared.idents.Ident.{Ident}
use Rattle.cache_ident.specs.declared.idents.Kind.{Kind}
use Rattle.cache_ident.specs.declared.idents.Standing.TheVariants.{Live}
use Rattle.cache_ident.specs.declared.rolls.Issued.{Issued}
use Rattle.cache_ident.specs.Rolls.{is_same, standing_in}
use Rattle.slot_cache.specs.declared.loaded.Loaded.{Loaded}
use Rattle.slot_cache.specs.Cells.{cell_at, IsLoaded, IsOlder}

module _ {T : Type 0} where
  -- what a slot holds, if it has the identifier
  abbrev pub held_as : Ident → Option (Loaded T) → Option (Loaded T)
  held_as ident None = None
  held_as ident (Some loaded) = if is_same loaded.ident ident then Some loaded else None

  -- what is loaded with an identifier
  abbrev pub loaded_as : List (Option (Loaded T)) → Ident → Option (Loaded T)
  loaded_as cells ident = held_as ident (cell_at cells ident.slot)

  -- what is loaded, in order of loading
  unfoldable pub in_order : List Issued → List (Option (Loaded T)) → List (Loaded T)
  in_order issued cells = filter_map (λ entry. loaded_as cells entry.ident) issued

  -- the rest, once that identifier has left
  abbrev pub all_but : Ident → List (Loaded T) → List (Loaded T)
  all_but ident rows = filter (λ loaded. not (is_same loaded.ident ident)) rows

  -- the same, with a change of what has that identifier
  abbrev pub all_with : Ident → (Loaded T → Loaded T) → List (Loaded T) → List (Loaded T)
  all_with ident change rows = map (λ loaded. if is_same loaded.ident ident then change loaded else loaded) rows

  -- an identifier of the kind is live exactly if it is loaded, and no serial is one that is still to come
  pub record AreEnrolled (kind : Kind) (issued : List Issued) (cells : List (Option (Loaded T))) : Type 0 where
    pub live : (ident : Ident) → IsLoaded cells ident → standing_in issued ident ≡ Live
    pub loaded : (ident : Ident) → ident.kind ≡ kind → standing_in issued ident ≡ Live → IsLoaded cells ident
    pub older : IsOlder cells (length issued)

  -- whatever roll agreed with what was loaded agrees with what is
  abbrev pub StaysEnrolled : Kind → List (Option (Loaded T)) → List (Option (Loaded T)) → Type 0
  StaysEnrolled kind old new = (issued : List Issued) → AreEnrolled kind issued old → AreEnrolled kind issued new

  -- in the order of whatever roll, what has that identifier changed, and nothing else
  abbrev pub ChangesOne : Ident → (Loaded T → Loaded T) → List (Option (Loaded T)) → List (Option (Loaded T)) → Type 0
  ChangesOne ident change old new = (issued : List Issued) → in_order issued new ≡ all_with ident change (in_order issued old)
