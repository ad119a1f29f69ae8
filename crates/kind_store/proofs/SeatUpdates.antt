-- What seats show once the content of one has changed there.
use Rattle.std.proofs.Common.{◌≡◌, ℕ, Bool, true, false, List, set, Option, Some, sym, ◌∙◌, ap, subst, refl}
use Rattle.std.specs.Option.{option_map}
use Rattle.cache_ident.specs.declared.idents.Kind.{Kind}
use Rattle.cache_ident.specs.declared.names.Name.{Name}
use Rattle.sorted_list.specs.Sorted.{Sorted}
use Rattle.slab.specs.Slab.{Slab}
use Rattle.slab.specs.Slab.{with_value as with_seat}
use Rattle.slot_cache.specs.declared.loaded.Loaded.{Loaded}
use Rattle.slot_cache.specs.declared.seats.Seat.{Seat}
use Rattle.slot_cache.specs.Cells.{changed, with_value}
use Rattle.slot_cache.specs.Seats.{cells_in, seat_at}
use Rattle.owner_shelf.specs.declared.shelved.Shelved.{Shelved}
use Rattle.owner_shelf.specs.Rows.{rows_with, OnShelf}
use Rattle.owner_shelf.proofs.UpdateLemmas.{with-absent}
use Rattle.kind_store.specs.Changes.{cells_with, HasContent}
use Rattle.kind_store.specs.Kept.{kept_in, IsSound}
use Rattle.kind_store.specs.Rolls.{StaysEnrolled}
use Rattle.kind_store.specs.Seated.{rows_in, seen_in, IsSeated}
use Rattle.kind_store.proofs.EditLemmas.{edit-contents, edit-enrolled, edit-view}
use Rattle.kind_store.proofs.NamedLemmas.{cells-absent, cells-there, named-contents}
use Rattle.kind_store.proofs.SeatedLemmas.{apart, in_order, one_name, seat_seen}
use Rattle.kind_store.proofs.SeatEdits.{changed-cells, changed-rows, changed-sound, shelved-cells, shelved-rows, shelved-sound, there}
use Rattle.kind_store.proofs.SerialLemmas.{serials-same}

module _ {T : Type 0} (called : T → Name) (kind : Kind) (slots : List (Option ℕ)) (by_serial : Sorted ℕ ℕ) (records : Slab (Seat T)) (index : Sorted Name ℕ) (sound : IsSeated called kind slots by_serial records index) (key : ℕ) (seat : Seat T) (at_key : seat_at records.slots key ≡ Some seat) (left : T) (named : called left ≡ called seat.loaded.value) where
  abbrev now : Seat T
  now = record { owner = seat.owner; is_loaded = seat.is_loaded; loaded = with_value left seat.loaded }

  abbrev cells : List (Option (Loaded T))
  cells = cells_in records.slots slots

  pub update-sound : IsSeated called kind slots by_serial (with_seat records key (record { owner = seat.owner; is_loaded = seat.is_loaded; loaded = with_value left seat.loaded })) index
  update-sound = by seat.is_loaded refl
    where
      by : (b : Bool) → seat.is_loaded ≡ b → IsSeated called kind slots by_serial (with_seat records key now) index
      by true on =
          let stands = there called kind slots by_serial records index sound key seat now at_key named on in
          changed-sound called kind slots by_serial records index sound key seat now at_key named on on refl by_serial (serials-same cells by_serial sound.serials seat.loaded.ident.slot seat.loaded now.loaded stands refl refl)
      by false off = shelved-sound called kind slots by_serial records index sound key seat now at_key named off off refl

  pub update-cells : cells_in (with_seat records key (record { owner = seat.owner; is_loaded = seat.is_loaded; loaded = with_value left seat.loaded })).slots slots ≡ cells_with called (cells_in records.slots slots) (called seat.loaded.value) left
  update-cells = by seat.is_loaded refl
    where
      by : (b : Bool) → seat.is_loaded ≡ b → cells_in (with_seat records key now).slots slots ≡ cells_with called cells (called seat.loaded.value) left
      by true on =
          let slot = seat.loaded.ident.slot in
          let stands = there called kind slots by_serial records index sound key seat now at_key named on in
          let is = cells-there called (called seat.loaded.value) left cells slot seat.loaded stands refl (λ other a at same. one_name called kind slots by_serial records index sound other slot a seat.loaded at stands same) in
          changed-cells called kind slots by_serial records index sound key seat now at_key named on ∙ ap (λ c. set cells slot (option_map (with_value left) c)) (sym stands) ∙ sym is
      by false off =
          let shown = (seat_seen called kind slots by_serial records index sound (seen_in slots records index) refl (called seat.loaded.value) key seat (sound.listed key seat at_key) at_key).shelved off in
          shelved-cells called kind slots by_serial records index sound key seat now at_key named off off refl ∙ sym (cells-absent called (called seat.loaded.value) left cells shown.unloaded)

  pub update-rows : rows_in (with_seat records key (record { owner = seat.owner; is_loaded = seat.is_loaded; loaded = with_value left seat.loaded })).slots index.entries ≡ rows_with called (rows_in records.slots index.entries) (called seat.loaded.value) left
  update-rows = by seat.is_loaded refl
    where
      by : (b : Bool) → seat.is_loaded ≡ b → rows_in (with_seat records key now).slots index.entries ≡ rows_with called (rows_in records.slots index.entries) (called seat.loaded.value) left
      by true on =
          let stands = there called kind slots by_serial records index sound key seat now at_key named on in
          let absent = apart called kind slots by_serial records index sound seat.loaded.ident.slot seat.loaded stands in
          changed-rows called kind slots by_serial records index sound key seat now at_key named on on refl ∙ sym (with-absent called (called seat.loaded.value) left named (rows_in records.slots index.entries) absent)
      by false off = shelved-rows called kind slots by_serial records index sound key seat now at_key named off off refl

  abbrev shelf : OnShelf T
  shelf = record { room = index.room; rows = rows_in records.slots index.entries }

  -- the name has that content, and each other name the one that it had
  pub update-contents : HasContent called (kept_in (cells_in records.slots slots) (record { room = index.room; rows = rows_in records.slots index.entries })) (kept_in (cells_in (with_seat records key (record { owner = seat.owner; is_loaded = seat.is_loaded; loaded = with_value left seat.loaded })).slots slots) (record { room = index.room; rows = rows_in (with_seat records key (record { owner = seat.owner; is_loaded = seat.is_loaded; loaded = with_value left seat.loaded })).slots index.entries })) (called seat.loaded.value) left
  update-contents = by seat.is_loaded refl
    where
      all : IsSound called kind cells shelf
      all = in_order called kind slots by_serial records index sound

      by : (b : Bool) → seat.is_loaded ≡ b → HasContent called (kept_in cells shelf) (kept_in (cells_in (with_seat records key now).slots slots) (record { room = index.room; rows = rows_in (with_seat records key now).slots index.entries })) (called seat.loaded.value) left
      by true on =
          let slot = seat.loaded.ident.slot in
          let stands = there called kind slots by_serial records index sound key seat now at_key named on in
          let own = edit-contents called kind cells shelf all seat.loaded.ident seat.loaded stands refl (with_value left) refl named in
          let view = edit-view called kind cells shelf all seat.loaded.ident seat.loaded stands refl (with_value left) refl in
          let is = changed-cells called kind slots by_serial records index sound key seat now at_key named on ∙ ap (λ c. set cells slot (option_map (with_value left) c)) (sym stands) in
          let rows = changed-rows called kind slots by_serial records index sound key seat now at_key named on on refl in
          let seen = subst (λ kept. HasContent called (kept_in cells shelf) kept (called left) left) (sym view) own in
          rw (is, rows) (subst (λ n. HasContent called (kept_in cells shelf) (kept_in (changed cells slot (with_value left)) shelf) n left) named seen)
      by false off =
          let shown = (seat_seen called kind slots by_serial records index sound (seen_in slots records index) refl (called seat.loaded.value) key seat (sound.listed key seat at_key) at_key).shelved off in
          let was = ap (option_map (λ (r : Shelved T). r.content)) shown.row in
          rw (shelved-cells called kind slots by_serial records index sound key seat now at_key named off off refl, shelved-rows called kind slots by_serial records index sound key seat now at_key named off off refl) (named-contents called (called seat.loaded.value) left kind cells shelf all named shown.unloaded seat.loaded.value was)

  -- whatever roll agreed with what was loaded does still
  pub update-enrolled : StaysEnrolled kind (cells_in records.slots slots) (cells_in (with_seat records key (record { owner = seat.owner; is_loaded = seat.is_loaded; loaded = with_value left seat.loaded })).slots slots)
  update-enrolled = by seat.is_loaded refl
    where
      by : (b : Bool) → seat.is_loaded ≡ b → StaysEnrolled kind cells (cells_in (with_seat records key now).slots slots)
      by true on =
          let stands = there called kind slots by_serial records index sound key seat now at_key named on in
          let is = changed-cells called kind slots by_serial records index sound key seat now at_key named on ∙ ap (λ c. set cells seat.loaded.ident.slot (option_map (with_value left) c)) (sym stands) in
          subst (StaysEnrolled kind cells) (sym is) (edit-enrolled called kind cells shelf (in_order called kind slots by_serial records index sound) seat.loaded.ident seat.loaded stands refl (with_value left) refl)
      by false off = subst (StaysEnrolled kind cells) (sym (shelved-cells called kind slots by_serial records index sound key seat now at_key named off off refl)) (λ issued enrolled. enrolled)
