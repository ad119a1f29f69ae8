-- A store once a descriptor moved between cache and shelf.
use Rattle.std.proofs.Common.{◌≡◌, ◌-◌, List, set, Option, Some, None, sym, ◌∙◌, ap, subst, refl}
use Rattle.std.specs.Option.{option_map}
use Rattle.cache_ident.specs.declared.idents.Ident.{Ident}
use Rattle.cache_ident.specs.declared.idents.Kind.{Kind}
use Rattle.cache_ident.specs.declared.names.KernelNo.{KernelNo}
use Rattle.cache_ident.specs.declared.names.Name.{Name}
use Rattle.sorted_list.specs.Sorted.{IsAdded}
use Rattle.slot_cache.specs.declared.loaded.Loaded.{Loaded}
use Rattle.slot_cache.specs.Cells.{cell_at, filled, just_loaded, HasNoName, IsLowestFree}
use Rattle.slot_cache.proofs.SlotLemmas.{some_same}
use Rattle.owner_shelf.specs.declared.shelved.Shelved.{Shelved}
use Rattle.owner_shelf.specs.Rows.{content_under, row_under, rows_without, HasNoRow, OnShelf}
use Rattle.kind_store.specs.Changes.{HasContent, IsExchanging, IsLeaving, IsLoading, KeepsContents}
use Rattle.kind_store.specs.Kept.{content_of, kept_in, IsSound}
use Rattle.kind_store.proofs.ContentLemmas.{content_named, contents-declaring, contents-exchanging, contents-leaving, contents-loading, no_loaded, no_row, row_of_content}
use Rattle.kind_store.proofs.SoundLemmas.{count-exchanging, count-leaving, count-loading, unloaded}

module _ {T : Type 0} (called : T → Name) (kind : Kind) (cells : List (Option (Loaded T))) (shelf : OnShelf T) (sound : IsSound called kind cells shelf) where
  -- into the cache
  module _ (name : Name) (ident : Ident) (value : T) (lowest : IsLowestFree cells ident.slot) (taken : Some value ≡ content_under called shelf.rows name) where
    abbrev x : Loaded T
    x = just_loaded ident value

    abbrev rest : Name → OnShelf T
    rest n = record { room = shelf.room; rows = rows_without called shelf.rows n }

    named : called value ≡ name
    named = content_named called shelf.rows name value (sym taken)

    shelved : content_under called shelf.rows (called value) ≡ Some value
    shelved = subst (λ n. content_under called shelf.rows n ≡ Some value) (sym named) (sym taken)

    pub load-unloaded : HasNoName called cells (called value)
    load-unloaded = unloaded called kind cells shelf sound (called value) value shelved

    pub load-moved : IsLoading called (kept_in cells shelf) (kept_in (filled cells x) (rest name)) name ident
    load-moved = subst (λ n. IsLoading called (kept_in cells shelf) (kept_in (filled cells x) (rest n)) n ident) named (record {
      value = value;
      was = shelved;
      cells = refl;
      rows = refl;
      room = ap (λ n. shelf.room - n) (count-loading called kind cells shelf sound x lowest.below lowest.free shelved);
    })

    pub load-keeps : KeepsContents called (kept_in cells shelf) (kept_in (filled cells x) (rest name))
    load-keeps = subst (λ n. KeepsContents called (kept_in cells shelf) (kept_in (filled cells x) (rest n))) named (contents-loading called cells shelf.rows shelf.rows (kept_in cells shelf).room (kept_in (filled cells x) (rest (called value))).room ident.slot x lowest.below lowest.free load-unloaded shelved)

  -- out of it
  module _ (ident : Ident) (owner : KernelNo) (value : T) (e : Loaded T) (there : cell_at cells ident.slot ≡ Some e) (own : e.ident ≡ ident) (content : e.value ≡ value) (new : OnShelf T) (room : new.room ≡ shelf.room) (added : IsAdded shelf.rows new.rows (record { owner = owner; content = value })) where
    absent_before : HasNoRow called shelf.rows (called value)
    absent_before = subst (λ v. HasNoRow called shelf.rows (called v)) content (sound.apart ident.slot e there)

    pub leave-moved : IsLeaving (kept_in cells shelf) (kept_in (set cells ident.slot None) new) ident owner
    leave-moved = record {
      value = value;
      was = (e, there, own, content);
      cells = refl;
      rows = added;
      room = let n = count-leaving called kind cells shelf sound ident.slot e there new.rows (record { owner = owner; content = value }) added in rw (room, n) refl;
    }

    pub leave-keeps : KeepsContents called (kept_in cells shelf) (kept_in (set cells ident.slot None) new)
    leave-keeps = contents-leaving called cells shelf.rows new.rows (kept_in cells shelf).room (kept_in (set cells ident.slot None) new).room ident.slot e there sound.slots.one_name (record { owner = owner; content = value }) (sym content) absent_before added

  -- onto the shelf for the first time
  module _ (row : Shelved T) (absent : content_of called (kept_in cells shelf) (called row.content) ≡ None) where
    pub new_unloaded : HasNoName called cells (called row.content)
    new_unloaded = no_loaded called (kept_in cells shelf) (called row.content) sound.slots.one_name absent

    pub new_absent : HasNoRow called shelf.rows (called row.content)
    new_absent = no_row called (kept_in cells shelf) (called row.content) absent

    module _ (new : OnShelf T) (added : IsAdded shelf.rows new.rows row) where
      pub declare-contents : HasContent called (kept_in cells shelf) (kept_in cells new) (called row.content) row.content
      declare-contents = contents-declaring called cells shelf.rows new.rows (kept_in cells shelf).room (kept_in cells new).room row new_unloaded new_absent added

  -- one for another on the shelf
  module _ (value was : T) (owner : KernelNo) (owned : option_map (λ row. row.owner) (row_under called shelf.rows (called value)) ≡ Some owner) (there : content_under called shelf.rows (called value) ≡ Some was) where
    exchanged : row_under called shelf.rows (called value) ≡ Some (record { owner = owner; content = was })
    exchanged =
        let row = row_of_content called shelf.rows (called value) was there in
        let own : row.0.owner ≡ owner = some_same row.0.owner owner (sym (ap (option_map (λ (r : Shelved T). r.owner)) row.1) ∙ owned) in
        row.1 ∙ ap (λ o. Some (record { owner = o; content = row.0.content })) own ∙ ap (λ v. Some (record { owner = owner; content = v })) row.2

    module _ (new : OnShelf T) (room : new.room ≡ shelf.room) (added : IsAdded (rows_without called shelf.rows (called value)) new.rows (record { owner = owner; content = value })) where
      pub exchange-moved : IsExchanging called (kept_in cells shelf) (kept_in cells new) value was
      exchange-moved = record {
        owner = owner;
        was = exchanged;
        cells = refl;
        rows = added;
        room = let n = count-exchanging called kind cells shelf sound new.rows (record { owner = owner; content = value }) was there added in rw (room, n) refl;
      }

      pub exchange-contents : HasContent called (kept_in cells shelf) (kept_in cells new) (called value) value
      exchange-contents = contents-exchanging called cells shelf.rows new.rows (kept_in cells shelf).room (kept_in cells new).room (record { owner = owner; content = value }) (unloaded called kind cells shelf sound (called value) was there) added
