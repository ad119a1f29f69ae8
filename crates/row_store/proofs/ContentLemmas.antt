-- What a change of one row's content leaves of what names and signals tell.
use Rattle.std.proofs.Common.{◌≡◌, ◌≢◌, ℕ, ◌<◌, List, [], length, replicate, Option, Some, None, is_some, sym, ◌∙◌, ap, subst, inl, inr, refl}
use Rattle.std.specs.Option.{option_or, IsSome}
use Rattle.std.specs.Prelude.{if◌then◌else◌}
use Rattle.std.proofs.lemmas.Bool.{false≢true}
use Rattle.cache_ident.specs.declared.idents.Ident.{Ident}
use Rattle.cache_ident.specs.declared.idents.Kind.TheVariants.{Mapping}
use Rattle.cache_ident.specs.declared.names.Frame.{Frame}
use Rattle.cache_ident.specs.declared.names.Name.{Name}
use Rattle.phys_groups.specs.declared.rows.Row.{Row}
use Rattle.slot_cache.specs.declared.loaded.Loaded.{Loaded}
use Rattle.slot_cache.specs.Cells.{cell_at, filled, just_loaded, IsContent, IsLoaded}
use Rattle.slot_cache.proofs.SlotLemmas.{all_none, here, not_none, some_same}
use Rattle.slot_cache.specs.Rows.{row_name}
use Rattle.kind_store.specs.owner_shelf.specs.declared.shelved.Shelved.{Shelved}
use Rattle.kind_store.specs.owner_shelf.specs.Rows.{content_under, row_under}
use Rattle.kind_store.specs.owner_shelf.proofs.NameLemmas.{eq_apart, eq_itself}
use Rattle.kind_store.specs.Kept.{content_of, loaded_under, IsExactlyOne, Kept}
use Rattle.kind_store.specs.Changes.{HasContent, HasNoContent, KeepsContents}
use Rattle.kind_store.proofs.CellLemmas.{found, found-absent, found-there}
use Rattle.kind_store.proofs.ContentLemmas.{cases_name, content-loaded, content-same, content-shelved}
use Rattle.row_store.specs.Kept.{is_signal, is_signal_of}
use Rattle.row_store.proofs.SignalLemmas.{signal_same}

-- each name has a content where it had one, and is that of a signal row where it was
pub record AreAlike (old new : Kept Row) : Type 0 where
  pub known : (name : Name) → is_some (content_of row_name new name) ≡ is_some (content_of row_name old name)
  pub signals : (name : Name) (frame : Frame) → is_signal_of new frame name ≡ is_signal_of old frame name

module _ (old new : Kept Row) where
  pub alike-kept : KeepsContents row_name old new → AreAlike old new
  alike-kept kept = record { known = λ name. ap is_some (kept name); signals = λ name frame. ap (is_signal frame) (kept name) }

  module _ (name : Name) where
    module _ (value : Row) (has : HasContent row_name old new name value) where
      pub content_here : content_of row_name new name ≡ Some value
      content_here = has name ∙ ap (λ b. if b then Some value else content_of row_name old name) (eq_itself name)

      pub content_else : (other : Name) → name ≢ other → content_of row_name new other ≡ content_of row_name old other
      content_else other apart = has other ∙ ap (λ b. if b then Some value else content_of row_name old other) (eq_apart name other apart)

      -- a content of the same frame and receiver
      pub alike-changed : (was : Row) → content_of row_name old name ≡ Some was → value.frame ≡ was.frame → value.receiver ≡ was.receiver → AreAlike old new
      alike-changed was there frames receivers = record {
        known = λ other. elim (cases_name name other) [
          | inl same ↦ subst (λ n. is_some (content_of row_name new n) ≡ is_some (content_of row_name old n)) same (ap is_some content_here ∙ sym (ap is_some there))
          | inr apart ↦ ap is_some (content_else other apart)
        ];
        signals = λ other frame. elim (cases_name name other) [
          | inl same ↦ subst (λ n. is_signal_of new frame n ≡ is_signal_of old frame n) same (ap (is_signal frame) content_here ∙ signal_same frame value was frames receivers ∙ sym (ap (is_signal frame) there))
          | inr apart ↦ ap (is_signal frame) (content_else other apart)
        ];
      }

    module _ (gone : HasNoContent row_name old new name) where
      pub nothing_here : content_of row_name new name ≡ None
      nothing_here = gone name ∙ ap (λ b. if b then None else content_of row_name old name) (eq_itself name)

      pub something_else : (other : Name) → name ≢ other → content_of row_name new other ≡ content_of row_name old other
      something_else other apart = gone other ∙ ap (λ b. if b then None else content_of row_name old other) (eq_apart name other apart)

-- where the same rows stand, whatever the room
pub alike-same : (old new : Kept Row) → new.cells ≡ old.cells → new.rows ≡ old.rows → AreAlike old new
alike-same old new cells rows = alike-kept old new (λ name. content-same row_name old new name (ap (λ (l : List (Option (Loaded Row))). found row_name l name) cells) (ap (λ (l : List (Shelved Row)). row_under row_name l name) rows))

-- what isn't there isn't some
pub no_some : {X : Type 0} (o : Option X) → o ≡ None → IsSome o → ⊥
no_some o none some = false≢true (sym (ap is_some none) ∙ some)

pub some_there : {X : Type 0} (o : Option X) (x : X) → o ≡ Some x → IsSome o
some_there o x is = ap is_some is

-- what stands on the shelf has a content
pub shelved_some : (kept : Kept Row) (name : Name) → IsSome (content_under row_name kept.rows name) → IsSome (content_of row_name kept name)
unfolding content_of
shelved_some kept name shelved = by (loaded_under row_name kept.cells name) (content_under row_name kept.rows name) shelved
  where
    by : (a b : Option Row) → IsSome b → IsSome (option_or a b)
    by None b some = some
    by (Some x) b some = refl

-- the content of what is loaded with an identifier
pub content_loaded : (kept : Kept Row) → IsExactlyOne row_name Mapping kept → (ident : Ident) (loaded : Loaded Row) → cell_at kept.cells ident.slot ≡ Some loaded → content_of row_name kept (row_name loaded.value) ≡ Some loaded.value
content_loaded kept one ident loaded there = content-loaded row_name kept (row_name loaded.value) loaded (found-there row_name kept.cells ident.slot loaded there (λ other a at same. one.slots.one_name other ident.slot a loaded at there same))

-- where no row stands no name has a content
pub no_rows : (cap : ℕ) (kept : Kept Row) → kept ≡ record { cells = replicate cap None; rows = []; room = 0 } → (name : Name) → content_of row_name kept name ≡ None
no_rows cap kept is name = rw is (content-shelved row_name (record { cells = replicate cap None; rows = []; room = 0 }) name (found-absent row_name (replicate cap None) name (λ slot loaded there same. not_none (replicate cap None) slot loaded there (all_none cap slot))))

module _ (cells new : List (Option (Loaded Row))) (ident : Ident) (value : Row) (within : ident.slot < length cells) (loads : new ≡ filled cells (just_loaded ident value)) where
  -- what was just loaded is loaded, with that content
  loaded_there : cell_at new ident.slot ≡ Some (just_loaded ident value)
  loaded_there = ap (λ (l : List (Option (Loaded Row))). cell_at l ident.slot) loads ∙ here cells ident.slot (Some (just_loaded ident value)) within

  pub just_there : IsLoaded new ident
  just_there = (just_loaded ident value, loaded_there, refl)

  pub loaded_row : (row : Row) → IsContent new ident row → row ≡ value
  loaded_row row held = sym held.3 ∙ ap (λ (l : Loaded Row). l.value) (some_same held.0 (just_loaded ident value) (sym held.1 ∙ loaded_there))
