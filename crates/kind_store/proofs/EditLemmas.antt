-- A store once what is loaded changed in its place.
use Rattle.std.proofs.Common.{◌≡◌, ◌-◌, List, set, Option, Some, sym, ap, subst}
use Rattle.std.specs.Option.{option_map}
use Rattle.cache_ident.specs.declared.idents.Ident.{Ident}
use Rattle.cache_ident.specs.declared.idents.Kind.{Kind}
use Rattle.cache_ident.specs.declared.names.Name.{Name}
use Rattle.slot_cache.specs.declared.loaded.Loaded.{Loaded}
use Rattle.slot_cache.specs.Cells.{cell_at, changed}
use Rattle.owner_shelf.specs.Rows.{OnShelf}
use Rattle.kind_store.specs.Changes.{HasContent, KeepsContents}
use Rattle.kind_store.specs.Kept.{count_of, kept_in, IsSound, Kept}
use Rattle.kind_store.specs.Rolls.{ChangesOne, StaysEnrolled}
use Rattle.kind_store.proofs.ContentLemmas.{contents-changing, contents-locking}
use Rattle.kind_store.proofs.EnrolLemmas.{enrolled-changing}
use Rattle.kind_store.proofs.OrderLemmas.{in_order-changing}
use Rattle.kind_store.proofs.SoundLemmas.{count-changing, sound-changing}

module _ {T : Type 0} (called : T → Name) (kind : Kind) (cells : List (Option (Loaded T))) (shelf : OnShelf T) (sound : IsSound called kind cells shelf) (ident : Ident) (e : Loaded T) (there : cell_at cells ident.slot ≡ Some e) (own : e.ident ≡ ident) (change : Loaded T → Loaded T) (stays : (change e).ident ≡ e.ident) where
  changed_is : set cells ident.slot (Some (change e)) ≡ changed cells ident.slot change
  changed_is = ap (λ c. set cells ident.slot (option_map change c)) (sym there)

  pub edit-order : ChangesOne ident change cells (changed cells ident.slot change)
  edit-order = subst (ChangesOne ident change cells) changed_is (in_order-changing cells ident e there own change stays)

  pub edit-enrolled : StaysEnrolled kind cells (changed cells ident.slot change)
  edit-enrolled = subst (StaysEnrolled kind cells) changed_is (λ issued enrolled. enrolled-changing kind issued cells enrolled ident.slot e there (change e) stays)

  pub edit-view : kept_in (changed cells ident.slot change) shelf ≡ record (kept_in cells shelf) { cells = changed cells ident.slot change }
  edit-view =
      let counted = subst (λ new. count_of new shelf.rows ≡ count_of cells shelf.rows) changed_is (count-changing called kind cells shelf sound ident.slot e there (change e)) in
      let Seen : Kept T = kept_in cells shelf in
      ap (λ n. record { cells = changed cells ident.slot change; rows = shelf.rows; room = shelf.room - n }) counted

  module _ (name : called (change e).value ≡ called e.value) where
    pub edit-sound : IsSound called kind (changed cells ident.slot change) shelf
    edit-sound = subst (λ new. IsSound called kind new shelf) changed_is (sound-changing called kind cells shelf sound ident.slot e there (change e) stays name)

    pub edit-contents : HasContent called (kept_in cells shelf) (record (kept_in cells shelf) { cells = changed cells ident.slot change }) (called (change e).value) (change e).value
    edit-contents =
        let room = (kept_in cells shelf).room in
        subst (λ new. HasContent called (kept_in cells shelf) (record { cells = new; rows = shelf.rows; room = room }) (called (change e).value) (change e).value) changed_is (contents-changing called cells shelf.rows shelf.rows room room ident.slot e there sound.slots.one_name (change e) name)

    pub edit-keeps : (change e).value ≡ e.value → KeepsContents called (kept_in cells shelf) (record (kept_in cells shelf) { cells = changed cells ident.slot change })
    edit-keeps same =
        let room = (kept_in cells shelf).room in
        subst (λ new. KeepsContents called (kept_in cells shelf) (record { cells = new; rows = shelf.rows; room = room })) changed_is (contents-locking called cells shelf.rows shelf.rows room room ident.slot e there sound.slots.one_name (change e) name same)
