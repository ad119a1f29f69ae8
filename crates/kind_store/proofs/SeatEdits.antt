-- What seats, slots and names show once one has changed.
use Rattle.std.proofs.Common.{◌≡◌, ◌≢◌, ◌⊎◌, ℕ, zero, suc, ◌+◌, ◌<◌, ◌≤◌, true, false, cond, List, [], ◌∷◌, length, get_or, set, count_by, is_some, lit<, replicate, All, Contains, Option, Some, None, sym, ◌∙◌, ap, subst, inl, inr, refl, arith}
use Rattle.std.specs.List.{insert}
use Rattle.std.specs.Option.{option_map}
use Rattle.std.specs.Ordering.{nat_cmp}
use Rattle.std.specs.Prelude.{OnErr, OnOk, Result, Ok, Err}
use Rattle.std.proofs.lemmas.Bool.{cases_eq, false≢true}
use Rattle.std.proofs.lemmas.List.{length-map, set-set}
use Rattle.std.proofs.lemmas.List.Edits.{length-insert, length-remove}
use Rattle.std.proofs.lemmas.List.Elements.{All-contains, Contains-get_or}
use Rattle.std.proofs.lemmas.List.Sums.{sum_by-set}
use Rattle.cache_ident.specs.declared.idents.Ident.{Ident}
use Rattle.cache_ident.specs.declared.idents.Kind.{Kind}
use Rattle.cache_ident.specs.declared.names.Name.{Name}
use Rattle.cache_ident.specs.contracts.names.NameOrd.TheImpl as order
use Rattle.cache_ident.specs.contracts.names.NameOrd.TheImpl.Laws as laws
use Rattle.sorted_list.specs.Sorted.{IsAdded, IsTakenOut, Sorted}
use Rattle.sorted_list.specs.Sorted.{IsProper as IsProperList}
use Rattle.growing_list.specs.Index.{IsIndex}
use Rattle.growing_list.proofs.IndexLemmas.{index_grown}
use Rattle.slab.specs.Slab.{Slab, slab_len, with_value, Updates}
use Rattle.slab.proofs.SlabLemmas.{ContainsKey-within, Updates-with_value}
use Rattle.slot_cache.specs.declared.loaded.Loaded.{Loaded}
use Rattle.slot_cache.specs.declared.seats.Seat.{Seat}
use Rattle.slot_cache.specs.Cells.{cell_at}
use Rattle.slot_cache.specs.Seats.{cells_in, held_in, seat_at}
use Rattle.slot_cache.specs.Slots.{slot_at}
use Rattle.slot_cache.proofs.IndexLemmas.{inserted, once, removed}
use Rattle.slot_cache.proofs.NameLemmas.{same_name}
use Rattle.slot_cache.proofs.SlotLemmas.{all_none, cell_within, count-none, count-same, count-take, elsewhere, here, pair_same, some_same}
use Rattle.owner_shelf.specs.declared.shelved.Shelved.{Shelved}
use Rattle.owner_shelf.specs.Rows.{content_under, row_with, rows_with, rows_without, OnShelf}
use Rattle.owner_shelf.proofs.SoundLemmas.{some_is}
use Rattle.owner_shelf.proofs.UpdateLemmas.{with-other, with-there}
use Rattle.kind_store.specs.Seated.{row_of, rows_in, AreBySerial, HasName, IsSeated}
use Rattle.kind_store.proofs.ContentLemmas.{cases_name}
use Rattle.kind_store.proofs.HeldLemmas.{cells-at, cells-one, cells-same, cells-set, row_named, rows-drop, rows-fill, rows-insert, rows-map, rows-same, rows-without_none}
use Rattle.kind_store.proofs.SeatedLemmas.{in_order, kept_at, no_row_is, one_key, one_slot, others_apart, row_is, row_under_is, shown_at}
use Rattle.kind_store.proofs.SerialLemmas.{serials-new}
use Rattle.kind_store.proofs.SoundLemmas.{count-loading, count-retracting, length-added}

some_none : {X : Type 0} (o : Option X) (x : X) → o ≡ Some x → o ≡ None → ⊥
some_none o x some none = cc

-- of slots that hold nothing
pub cells-none : {T : Type 0} (seats : List (Option (Seat T))) (n : ℕ) → cells_in seats (replicate n None) ≡ replicate n None
cells-none seats zero = refl
cells-none seats (suc n) = ap (λ cs. None ∷ cs) (cells-none seats n)

pub sound-none : {T : Type 0} (called : T → Name) (kind : Kind) (cap : ℕ) (slots : List (Option ℕ)) (by_serial : Sorted ℕ ℕ) (records : Slab (Seat T)) (index : Sorted Name ℕ) → slots ≡ replicate cap None → by_serial ≡ record { room = cap; entries = [] } → records.slots ≡ [] → index ≡ record { room = 0; entries = [] } → IsSeated called kind slots by_serial records index
sound-none {T} called kind cap slots by_serial records index no_slot no_serial no_seat no_name =
    let none : (slot key : ℕ) → slot_at slots slot ≡ Some key → ⊥ = λ slot key at. some_none (slot_at slots slot) key at (ap (λ l. slot_at l slot) no_slot ∙ all_none cap slot) in
    let nothing : (key : ℕ) (seat : Seat T) → seat_at records.slots key ≡ Some seat → ⊥ = λ key seat at. some_none (seat_at records.slots key) seat at (ap (λ (l : List (Option (Seat T))). seat_at l key) no_seat) in
    let entries = ap (λ (s : Sorted Name ℕ). s.entries) no_name in
    let room = ap (λ (s : Sorted Name ℕ). s.room) no_name in
    record {
      seated = λ slot key at. absurd (none slot key at);
      slotted = λ key seat at. absurd (nothing key seat at);
      serials = rw (no_slot, cells-none records.slots cap) (serials-new cap by_serial no_serial);
      index_is = rw no_name (record { rising = λ i j d lt within. absurd (omega (arith, within)); few = omega arith; small = lit< tt });
      kept = rw entries (λ k d within. absurd (omega (arith, within)));
      listed = λ key seat at. absurd (nothing key seat at);
      counted = rw (no_seat, entries) refl;
      all = rw (no_slot, cells-none records.slots cap, entries) (omega (arith, count-none T cap));
      roomy = omega (arith, room);
    }

module _ {T : Type 0} (called : T → Name) (kind : Kind) (slots : List (Option ℕ)) (by_serial : Sorted ℕ ℕ) (records : Slab (Seat T)) (index : Sorted Name ℕ) (sound : IsSeated called kind slots by_serial records index) where
  abbrev cells : List (Option (Loaded T))
  cells = cells_in records.slots slots

  abbrev rows : List (Shelved T)
  rows = rows_in records.slots index.entries

  abbrev shelf : OnShelf T
  shelf = record { room = index.room; rows = rows_in records.slots index.entries }

  -- one key of two has another seat
  key_off : (k key : ℕ) (a b : Seat T) → seat_at records.slots k ≡ Some a → seat_at records.slots key ≡ Some b → a.is_loaded ≡ true → b.is_loaded ≡ false → k ≢ key
  key_off k key a b at_k at_key on off same = false≢true (sym off ∙ ap (λ (x : Seat T). x.is_loaded) (some_same b a (sym at_key ∙ ap (seat_at records.slots) (sym same) ∙ at_k)) ∙ on)

  -- where the memory has grown
  module _ (new : Slab (Seat T)) (new_index : Sorted Name ℕ) (same : new.slots ≡ records.slots) (entries : new_index.entries ≡ index.entries) where
    pub sound-grown : IsIndex (order.ghosts).cmp new_index → new_index.room ≤ new.capacity → IsSeated called kind slots by_serial new new_index
    sound-grown proper roomy = record {
      seated = rw same sound.seated;
      slotted = rw same sound.slotted;
      serials = rw same sound.serials;
      index_is = proper;
      kept = rw (same, entries) sound.kept;
      listed = rw (same, entries) sound.listed;
      counted = rw (same, entries) sound.counted;
      all = rw (same, entries) sound.all;
      roomy = roomy;
    }

  -- whether there is room for more names or not
  pub sound-after : {A B : Type 0} (result : Result A B) (room : ℕ) (new : Slab (Seat T)) (new_index : Sorted Name ℕ) → OnOk result (new_index ≡ record index { room = room }) → OnErr result (new_index ≡ index) → IsProperList (order.ghosts).cmp nat_cmp new_index → new.slots ≡ records.slots → index.room ≤ room → room ≤ new.capacity → IsSeated called kind slots by_serial new new_index
  sound-after (Ok x) room new new_index ok err proper same grows roomy =
      let entries = ap (λ (s : Sorted Name ℕ). s.entries) ok in
      sound-grown new new_index same entries (index_grown (order.ghosts).cmp laws.total-law same_name nat_cmp index new_index sound.index_is entries proper) (rw (ap (λ (s : Sorted Name ℕ). s.room) ok) roomy)
  sound-after (Err e) room new new_index ok err proper same grows roomy =
      let entries = ap (λ (s : Sorted Name ℕ). s.entries) err in
      sound-grown new new_index same entries (index_grown (order.ghosts).cmp laws.total-law same_name nat_cmp index new_index sound.index_is entries proper) (rw (ap (λ (s : Sorted Name ℕ). s.room) err) (omega (arith, grows, roomy)))

  -- a seat came to a key at which there was none
  module _ (new : Slab (Seat T)) (new_index : Sorted Name ℕ) (key : ℕ) (seat : Seat T) (vacant : seat_at records.slots key ≡ None) (updates : Updates records new key (Some seat)) (off : seat.is_loaded ≡ false) (added : IsAdded index.entries new_index.entries (called seat.loaded.value, key)) where
    abbrev row : Shelved T
    row = record { owner = seat.owner; content = seat.loaded.value }

    put_apart : (slot k : ℕ) → slot_at slots slot ≡ Some k → k ≢ key
    put_apart slot k at same = let s = sound.seated slot k at in some_none (seat_at records.slots key) s.seat (ap (seat_at records.slots) (sym same) ∙ s.at) vacant

    put_off : (e : Name × ℕ) → HasName called records.slots e.0 e.1 → e.1 ≢ key
    put_off e has same = some_none (seat_at records.slots key) has.0 (ap (seat_at records.slots) (sym same) ∙ has.1) vacant

    put_edit : (x : Name × ℕ) → (Contains index.entries x ⊎ (x ≡ (called seat.loaded.value, key))) → Contains new_index.entries x
    put_edit x from =
        let edit = inserted index.entries added.0 (called seat.loaded.value, key) added.1 in
        subst (λ l. Contains l x) (sym added.2) (elim from [ inl was ↦ edit.kept x was | inr is ↦ subst (Contains (insert index.entries added.0 (called seat.loaded.value, key))) (sym is) edit.here ])

    pub put-cells : cells_in new.slots slots ≡ cells_in records.slots slots
    put-cells = cells-same records.slots new.slots slots (λ slot k at. ap (option_map (λ (x : Seat T). x.loaded)) (updates.others k (put_apart slot k at)))

    pub put-rows : IsAdded (rows_in records.slots index.entries) (rows_in new.slots new_index.entries) (record { owner = seat.owner; content = seat.loaded.value })
    put-rows =
        let same = rows-same records.slots new.slots index.entries (λ k d within. ap row_of (updates.others (get_or index.entries k d).1 (put_off (get_or index.entries k d) (sound.kept k d within)))) in
        let more = rows-insert new.slots index.entries added.0 (called seat.loaded.value, key) row added.1 (ap row_of updates.changed ∙ row_is seat off) in
        subst (λ rs. IsAdded rs (rows_in new.slots new_index.entries) row) same (more.0, more.1, ap (rows_in new.slots) added.2 ∙ more.2)

    pub put-sound : slab_len new ≡ slab_len records + 1 → new.capacity ≡ records.capacity → new_index.room ≡ index.room → IsIndex (order.ghosts).cmp new_index → IsSeated called kind slots by_serial new new_index
    put-sound len capacity room proper =
        let longer = ap length added.2 ∙ length-insert index.entries added.0 (called seat.loaded.value, key) added.1 in
        let more = length-added called rows (rows_in new.slots new_index.entries) row put-rows in
        record {
          seated = λ slot k at. let s = sound.seated slot k at in record { seat = s.seat; at = updates.others k (put_apart slot k at) ∙ s.at; loaded = s.loaded; slot_is = s.slot_is; kind_is = s.kind_is };
          slotted = λ k x at on. elim (cases_eq k key) [
            | inl same ↦ absurd (false≢true (sym off ∙ ap (λ (y : Seat T). y.is_loaded) (some_same seat x (sym updates.changed ∙ ap (seat_at new.slots) (sym same) ∙ at)) ∙ on))
            | inr apart ↦ sound.slotted k x (sym (updates.others k apart) ∙ at) on
          ];
          serials = subst (λ cs. AreBySerial cs by_serial) (sym put-cells) sound.serials;
          index_is = proper;
          kept = λ k d within.
              let e = get_or new_index.entries k d in
              let edit = inserted index.entries added.0 (called seat.loaded.value, key) added.1 in
              elim (edit.only e (subst (λ l. Contains l e) added.2 (Contains-get_or new_index.entries k d within))) [
                | inl same ↦ subst (λ (x : Name × ℕ). HasName called new.slots x.0 x.1) (sym same) (seat, updates.changed, refl)
                | inr was ↦
                    let has = All-contains (λ (x : Name × ℕ). HasName called records.slots x.0 x.1) index.entries e sound.kept was in
                    (has.0, updates.others e.1 (put_off e has) ∙ has.1, has.2)
              ];
          listed = λ k x at. elim (cases_eq k key) [
            | inl same ↦
                let is = some_same seat x (sym updates.changed ∙ ap (seat_at new.slots) (sym same) ∙ at) in
                put_edit (called x.loaded.value, k) (inr (pair_same (called x.loaded.value, k) (called seat.loaded.value) key (ap (λ (y : Seat T). called y.loaded.value) is) (sym same)))
            | inr apart ↦ put_edit (called x.loaded.value, k) (inl (sound.listed k x (sym (updates.others k apart) ∙ at)))
          ];
          counted = omega (arith, len, longer, sound.counted);
          all = omega (arith, sound.all, longer, more, ap (count_by is_some) put-cells);
          roomy = omega (arith, capacity, room, sound.roomy);
        }

  -- a seat that is a row went from its key
  module _ (new : Slab (Seat T)) (new_index : Sorted Name ℕ) (name : Name) (key : ℕ) (seat : Seat T) (at_key : seat_at records.slots key ≡ Some seat) (off : seat.is_loaded ≡ false) (there : Contains index.entries (name, key)) (updates : Updates records new key None) (taken : IsTakenOut index.entries new_index.entries (name, key)) where
    take_apart : (slot k : ℕ) → slot_at slots slot ≡ Some k → k ≢ key
    take_apart slot k at = let s = sound.seated slot k at in key_off k key s.seat seat s.at at_key s.loaded off

    take_own : (e : Name × ℕ) → HasName called records.slots e.0 e.1 → e.0 ≢ name → e.1 ≢ key
    take_own e has apart same =
        let own = kept_at called kind slots by_serial records index sound name key there in
        apart (sym has.2 ∙ ap (λ (x : Seat T). called x.loaded.value) (some_same has.0 own.0 (sym has.1 ∙ ap (seat_at records.slots) same ∙ own.1)) ∙ own.2)

    pub take-cells : cells_in new.slots slots ≡ cells_in records.slots slots
    take-cells = cells-same records.slots new.slots slots (λ slot k at. ap (option_map (λ (x : Seat T). x.loaded)) (updates.others k (take_apart slot k at)))

    pub take-content : content_under called (rows_in records.slots index.entries) name ≡ Some seat.loaded.value
    take-content = ap (option_map (λ (r : Shelved T). r.content)) (row_under_is called kind slots by_serial records index sound name key there ∙ ap row_of at_key ∙ row_is seat off)

    pub take-rows : rows_in new.slots new_index.entries ≡ rows_without called (rows_in records.slots index.entries) name
    take-rows =
        ap (rows_in new.slots) taken.3
        ∙ rows-without_none new.slots index.entries taken.0 (name, key) taken.1 taken.2 (ap row_of updates.changed)
        ∙ rows-drop called records.slots new.slots name index.entries sound.kept (λ k d within same.
        let e = get_or index.entries k d in
        let one = one_key index.entries name e.1 key sound.index_is.rising (subst (λ n. Contains index.entries (n, e.1)) same (Contains-get_or index.entries k d within)) there in
        ap row_of (ap (seat_at new.slots) one ∙ updates.changed)) (λ k d within apart. ap row_of (updates.others (get_or index.entries k d).1 (take_own (get_or index.entries k d) (sound.kept k d within) apart)))

    take_old : (e : Name × ℕ) → Contains new_index.entries e → Contains index.entries e × (e.1 ≢ key)
    take_old e in_new =
        let edit = removed index.entries taken.0 (name, key) taken.1 taken.2 (λ i j lt within here again. once (order.ghosts).cmp laws.total-law index.entries (name, key) i j sound.index_is.rising lt within here again) in
        let in_left = subst (λ l. Contains l e) taken.3 in_new in
        let in_old = edit.only e in_left in (
          in_old,
          λ same.
              let has = kept_at called kind slots by_serial records index sound e.0 e.1 in_old in
              elim (cases_name e.0 name) [
                | inl named ↦ edit.gone e in_left (pair_same e name key (sym named) (sym same))
                | inr apart ↦ take_own e has apart same
              ],
        )

    pub take-sound : slab_len new + 1 ≡ slab_len records → new.capacity ≡ records.capacity → new_index.room ≡ index.room → IsIndex (order.ghosts).cmp new_index → IsSeated called kind slots by_serial new new_index
    take-sound len capacity room proper =
        let shorter = length-remove index.entries taken.0 taken.1 in
        let fewer = ap length taken.3 in
        let less = count-retracting called kind cells shelf (in_order called kind slots by_serial records index sound) name seat.loaded.value take-content in
        record {
          seated = λ slot k at. let s = sound.seated slot k at in record { seat = s.seat; at = updates.others k (take_apart slot k at) ∙ s.at; loaded = s.loaded; slot_is = s.slot_is; kind_is = s.kind_is };
          slotted = λ k x at on. elim (cases_eq k key) [
            | inl same ↦ absurd (some_none (seat_at new.slots key) x (ap (seat_at new.slots) (sym same) ∙ at) updates.changed)
            | inr apart ↦ sound.slotted k x (sym (updates.others k apart) ∙ at) on
          ];
          serials = subst (λ cs. AreBySerial cs by_serial) (sym take-cells) sound.serials;
          index_is = proper;
          kept = λ k d within.
              let e = get_or new_index.entries k d in
              let old = take_old e (Contains-get_or new_index.entries k d within) in
              let has = kept_at called kind slots by_serial records index sound e.0 e.1 old.0 in
              (has.0, updates.others e.1 old.1 ∙ has.1, has.2);
          listed = λ k x at. elim (cases_eq k key) [
            | inl same ↦ absurd (some_none (seat_at new.slots key) x (ap (seat_at new.slots) (sym same) ∙ at) updates.changed)
            | inr apart ↦
                let edit = removed index.entries taken.0 (name, key) taken.1 taken.2 (λ i j lt within here again. once (order.ghosts).cmp laws.total-law index.entries (name, key) i j sound.index_is.rising lt within here again) in
                subst (λ l. Contains l (called x.loaded.value, k)) (sym taken.3) (edit.kept (called x.loaded.value, k) (sound.listed k x (sym (updates.others k apart) ∙ at)) (λ same. apart (ap (λ (y : Name × ℕ). y.1) same)))
          ];
          counted = omega (arith, len, shorter, fewer, sound.counted);
          all = omega (arith, sound.all, shorter, fewer, less, ap (count_by is_some) take-cells, ap length take-rows);
          roomy = omega (arith, capacity, room, sound.roomy);
        }

  -- a seat changed, and kept its name
  module _ (key : ℕ) (seat now : Seat T) (at_key : seat_at records.slots key ≡ Some seat) (named : called now.loaded.value ≡ called seat.loaded.value) where
    abbrev new : Slab (Seat T)
    new = with_value records key now

    updates : Updates records new key (Some now)
    updates = Updates-with_value records key now (some_is (seat_at records.slots key) seat at_key)

    now_is : (k : ℕ) (x : Seat T) → seat_at new.slots k ≡ Some x → k ≡ key → now ≡ x
    now_is k x at same = some_same now x (sym updates.changed ∙ ap (seat_at new.slots) (sym same) ∙ at)

    place_kept : All (λ e. HasName called new.slots e.0 e.1) index.entries
    place_kept k d within =
        let e = get_or index.entries k d in
        let has = sound.kept k d within in
        elim (cases_eq e.1 key) [
          | inl same ↦ (now, ap (seat_at new.slots) same ∙ updates.changed, named ∙ ap (λ (x : Seat T). called x.loaded.value) (some_same seat has.0 (sym at_key ∙ ap (seat_at records.slots) (sym same) ∙ has.1)) ∙ has.2)
          | inr apart ↦ (has.0, updates.others e.1 apart ∙ has.1, has.2)
        ]

    place_listed : (k : ℕ) (x : Seat T) → seat_at new.slots k ≡ Some x → Contains index.entries (called x.loaded.value, k)
    place_listed k x at = elim (cases_eq k key) [
      | inl same ↦
          let name = ap (λ (y : Seat T). called y.loaded.value) (sym (now_is k x at same)) ∙ named in
          subst (Contains index.entries) (sym (pair_same (called x.loaded.value, k) (called seat.loaded.value) key (sym name) (sym same))) (sound.listed key seat at_key)
      | inr apart ↦ sound.listed k x (sym (updates.others k apart) ∙ at)
    ]

    place_counted : slab_len new ≡ length index.entries
    place_counted =
        let n = rw at_key at (sum_by-set (λ c. cond (is_some c) 1 0) records.slots key (Some now) None (ContainsKey-within records key (some_is (seat_at records.slots key) seat at_key))) in
        omega (arith, n, sound.counted)

    own : Contains index.entries (called seat.loaded.value, key)
    own = sound.listed key seat at_key

    -- an entry of another name leads to another key
    other_key : (k : ℕ) (d : Name × ℕ) → k < length index.entries → (get_or index.entries k d).0 ≢ called seat.loaded.value → (get_or index.entries k d).1 ≢ key
    other_key k d within apart same =
        let has = sound.kept k d within in
        apart (sym has.2 ∙ ap (λ (x : Seat T). called x.loaded.value) (some_same has.0 seat (sym has.1 ∙ ap (seat_at records.slots) same ∙ at_key)))

    own_key : (k : ℕ) (d : Name × ℕ) → k < length index.entries → (get_or index.entries k d).0 ≡ called seat.loaded.value → (get_or index.entries k d).1 ≡ key
    own_key k d within same =
        let e = get_or index.entries k d in
        one_key index.entries (called seat.loaded.value) e.1 key sound.index_is.rising (subst (λ n. Contains index.entries (n, e.1)) same (Contains-get_or index.entries k d within)) own

    -- what stood on the shelf was loaded
    module _ (slot : ℕ) (within : slot < length slots) (free : slot_at slots slot ≡ None) (off : seat.is_loaded ≡ false) (on : now.is_loaded ≡ true) (slot_is : now.loaded.ident.slot ≡ slot) (kind_is : now.loaded.ident.kind ≡ kind) (same : now.loaded.value ≡ seat.loaded.value) where
      load_apart : (other k : ℕ) → slot_at slots other ≡ Some k → k ≢ key
      load_apart other k at = let s = sound.seated other k at in key_off k key s.seat seat s.at at_key s.loaded off

      pub load-cells : cells_in (with_value records key now).slots (set slots slot (Some key)) ≡ set (cells_in records.slots slots) slot (Some now.loaded)
      load-cells =
          let others = cells-same records.slots new.slots slots (λ other k at. ap (option_map (λ (x : Seat T). x.loaded)) (updates.others k (load_apart other k at))) in
          cells-set new.slots slots slot (Some key) ∙ ap (λ cs. set cs slot (held_in new.slots (Some key))) others ∙ ap (λ o. set cells slot (option_map (λ (x : Seat T). x.loaded) o)) updates.changed

      pub load-rows : rows_in (with_value records key now).slots index.entries ≡ rows_without called (rows_in records.slots index.entries) (called seat.loaded.value)
      load-rows = rows-drop called records.slots new.slots (called seat.loaded.value) index.entries sound.kept (λ k d inside same. ap row_of (ap (seat_at new.slots) (own_key k d inside same) ∙ updates.changed) ∙ no_row_is now on) (λ k d inside apart. ap row_of (updates.others (get_or index.entries k d).1 (other_key k d inside apart)))

      pub load-content : content_under called (rows_in records.slots index.entries) (called seat.loaded.value) ≡ Some seat.loaded.value
      load-content = ap (option_map (λ (r : Shelved T). r.content)) (row_under_is called kind slots by_serial records index sound (called seat.loaded.value) key own ∙ ap row_of at_key ∙ row_is seat off)

      pub load-free : cell_at (cells_in records.slots slots) slot ≡ None
      load-free = cells-at records.slots slots slot ∙ ap (held_in records.slots) free

      pub load-sound : (new_serial : Sorted ℕ ℕ) → AreBySerial (set (cells_in records.slots slots) slot (Some now.loaded)) new_serial → IsSeated called kind (set slots slot (Some key)) new_serial (with_value records key now) index
      load-sound new_serial listed =
          let x = now.loaded in
          let n = length-map slots (held_in records.slots) in
          let shelved = subst (λ v. content_under called rows (called v) ≡ Some v) (sym same) load-content in
          let free_at = subst (λ k. cell_at cells k ≡ None) (sym slot_is) load-free in
          let counted = count-loading called kind cells shelf (in_order called kind slots by_serial records index sound) x (omega (arith, slot_is, n, within)) free_at shelved in
          let moved : count_by is_some (set cells slot (Some x)) + length (rows_without called rows (called seat.loaded.value)) ≡ count_by is_some cells + length rows = subst (λ k. count_by is_some (set cells k (Some x)) + length (rows_without called rows (called seat.loaded.value)) ≡ count_by is_some cells + length rows) slot_is (subst (λ v. count_by is_some (set cells x.ident.slot (Some x)) + length (rows_without called rows (called v)) ≡ count_by is_some cells + length rows) same counted) in
          record {
            seated = λ other k at. elim (cases_eq other slot) [
              | inl is ↦
                  let key_is = some_same key k (sym (here slots slot (Some key) within) ∙ ap (slot_at (set slots slot (Some key))) (sym is) ∙ at) in
                  record { seat = now; at = ap (seat_at new.slots) (sym key_is) ∙ updates.changed; loaded = on; slot_is = slot_is ∙ sym is; kind_is = kind_is }
              | inr apart ↦
                  let was = sym (elsewhere slots slot other (Some key) apart) ∙ at in
                  let s = sound.seated other k was in
                  record { seat = s.seat; at = updates.others k (load_apart other k was) ∙ s.at; loaded = s.loaded; slot_is = s.slot_is; kind_is = s.kind_is }
            ];
            slotted = λ k y at y_on. elim (cases_eq k key) [
              | inl is ↦ ap (λ (z : Seat T). slot_at (set slots slot (Some key)) z.loaded.ident.slot) (sym (now_is k y at is)) ∙ ap (slot_at (set slots slot (Some key))) slot_is ∙ here slots slot (Some key) within ∙ ap (λ j. Some j) (sym is)
              | inr apart ↦
                  let was = sound.slotted k y (sym (updates.others k apart) ∙ at) y_on in
                  elsewhere slots slot y.loaded.ident.slot (Some key) (λ is. some_none (slot_at slots slot) k (ap (slot_at slots) (sym is) ∙ was) free) ∙ was
            ];
            serials = subst (λ cs. AreBySerial cs new_serial) (sym load-cells) listed;
            index_is = sound.index_is;
            kept = place_kept;
            listed = place_listed;
            counted = place_counted;
            all = omega (arith, sound.all, moved, ap (count_by is_some) load-cells, ap length load-rows);
            roomy = sound.roomy;
          }

    -- what was loaded changed
    module _ (on : seat.is_loaded ≡ true) where
      holds : slot_at slots seat.loaded.ident.slot ≡ Some key
      holds = sound.slotted key seat at_key on

      pub there : cell_at (cells_in records.slots slots) seat.loaded.ident.slot ≡ Some seat.loaded
      there = shown_at called kind slots by_serial records index sound seat.loaded.ident.slot key seat holds at_key

      pub changed-cells : cells_in (with_value records key now).slots slots ≡ set (cells_in records.slots slots) seat.loaded.ident.slot (Some now.loaded)
      changed-cells = cells-one records.slots new.slots slots seat.loaded.ident.slot key (Some now.loaded) holds (ap (option_map (λ (x : Seat T). x.loaded)) updates.changed) (λ other k at apart. ap (option_map (λ (x : Seat T). x.loaded)) (updates.others k (λ same. apart (one_slot called kind slots by_serial records index sound other seat.loaded.ident.slot key (at ∙ ap (λ j. Some j) same) holds))))

      -- and stayed loaded
      module _ (still : now.is_loaded ≡ true) (ident : now.loaded.ident ≡ seat.loaded.ident) where
        pub changed-rows : rows_in (with_value records key now).slots index.entries ≡ rows_in records.slots index.entries
        changed-rows = rows-same records.slots new.slots index.entries (λ k d within.
            let e = get_or index.entries k d in
            elim (cases_eq e.1 key) [
              | inl same ↦ ap row_of (ap (seat_at new.slots) same ∙ updates.changed) ∙ no_row_is now still ∙ sym (ap row_of (ap (seat_at records.slots) same ∙ at_key) ∙ no_row_is seat on)
              | inr apart ↦ ap row_of (updates.others e.1 apart)
            ])

        pub changed-sound : (new_serial : Sorted ℕ ℕ) → AreBySerial (set (cells_in records.slots slots) seat.loaded.ident.slot (Some now.loaded)) new_serial → IsSeated called kind slots new_serial (with_value records key now) index
        changed-sound new_serial listed =
            let count = count-same cells seat.loaded.ident.slot seat.loaded now.loaded there in
            record {
              seated = λ other k at.
                  let s = sound.seated other k at in
                  elim (cases_eq k key) [
                    | inl same ↦
                        let is : seat ≡ s.seat = some_same seat s.seat (sym at_key ∙ ap (seat_at records.slots) (sym same) ∙ s.at) in
                        record {
                          seat = now;
                          at = ap (seat_at new.slots) same ∙ updates.changed;
                          loaded = still;
                          slot_is = ap (λ (i : Ident). i.slot) ident ∙ ap (λ (x : Seat T). x.loaded.ident.slot) is ∙ s.slot_is;
                          kind_is = ap (λ (i : Ident). i.kind) ident ∙ ap (λ (x : Seat T). x.loaded.ident.kind) is ∙ s.kind_is;
                        }
                    | inr apart ↦ record { seat = s.seat; at = updates.others k apart ∙ s.at; loaded = s.loaded; slot_is = s.slot_is; kind_is = s.kind_is }
                  ];
              slotted = λ k y at y_on. elim (cases_eq k key) [
                | inl is ↦ ap (λ (z : Seat T). slot_at slots z.loaded.ident.slot) (sym (now_is k y at is)) ∙ ap (λ (i : Ident). slot_at slots i.slot) ident ∙ holds ∙ ap (λ j. Some j) (sym is)
                | inr apart ↦ sound.slotted k y (sym (updates.others k apart) ∙ at) y_on
              ];
              serials = subst (λ cs. AreBySerial cs new_serial) (sym changed-cells) listed;
              index_is = sound.index_is;
              kept = place_kept;
              listed = place_listed;
              counted = place_counted;
              all = omega (arith, sound.all, count, ap (count_by is_some) changed-cells, ap length changed-rows);
              roomy = sound.roomy;
            }

      -- or left
      module _ (gone : now.is_loaded ≡ false) where
        pub leave-cells : cells_in (with_value records key now).slots (set slots seat.loaded.ident.slot None) ≡ set (cells_in records.slots slots) seat.loaded.ident.slot None
        leave-cells = cells-set new.slots slots seat.loaded.ident.slot None ∙ ap (λ cs. set cs seat.loaded.ident.slot None) changed-cells ∙ set-set cells seat.loaded.ident.slot (Some now.loaded) None

        pub leave-rows : IsAdded (rows_in records.slots index.entries) (rows_in (with_value records key now).slots index.entries) (record { owner = now.owner; content = now.loaded.value })
        leave-rows = rows-fill records.slots new.slots index.entries own.0 (called seat.loaded.value, key) (record { owner = now.owner; content = now.loaded.value }) own.1 own.2 (ap row_of at_key ∙ no_row_is seat on) (ap row_of updates.changed ∙ row_is now gone) (λ k d within apart. ap row_of (updates.others (get_or index.entries k d).1 (other_key k d within (others_apart index.entries (called seat.loaded.value) key own.0 sound.index_is.rising own.1 own.2 k d within apart))))

        pub leave-sound : (new_serial : Sorted ℕ ℕ) → AreBySerial (set (cells_in records.slots slots) seat.loaded.ident.slot None) new_serial → IsSeated called kind (set slots seat.loaded.ident.slot None) new_serial (with_value records key now) index
        leave-sound new_serial listed =
            let slot = seat.loaded.ident.slot in
            let within = cell_within slots slot key holds in
            let count = count-take cells slot seat.loaded there in
            let more = length-added called rows (rows_in new.slots index.entries) (record { owner = now.owner; content = now.loaded.value }) leave-rows in
            record {
              seated = λ other k at. elim (cases_eq other slot) [
                | inl is ↦ absurd (some_none (slot_at (set slots slot None) slot) k (ap (slot_at (set slots slot None)) (sym is) ∙ at) (here slots slot None within))
                | inr apart ↦
                    let was = sym (elsewhere slots slot other None apart) ∙ at in
                    let s = sound.seated other k was in
                    let off_key : k ≢ key = λ same. apart (one_slot called kind slots by_serial records index sound other slot key (was ∙ ap (λ j. Some j) same) holds) in
                    record { seat = s.seat; at = updates.others k off_key ∙ s.at; loaded = s.loaded; slot_is = s.slot_is; kind_is = s.kind_is }
              ];
              slotted = λ k y at y_on. elim (cases_eq k key) [
                | inl is ↦ absurd (false≢true (sym gone ∙ ap (λ (z : Seat T). z.is_loaded) (now_is k y at is) ∙ y_on))
                | inr apart ↦
                    let was = sound.slotted k y (sym (updates.others k apart) ∙ at) y_on in
                    elsewhere slots slot y.loaded.ident.slot None (λ is. apart (some_same k key (sym was ∙ ap (slot_at slots) is ∙ holds))) ∙ was
              ];
              serials = subst (λ cs. AreBySerial cs new_serial) (sym leave-cells) listed;
              index_is = sound.index_is;
              kept = place_kept;
              listed = place_listed;
              counted = place_counted;
              all = omega (arith, sound.all, count, more, ap (count_by is_some) leave-cells);
              roomy = sound.roomy;
            }

    -- what stands on the shelf changed there
    module _ (off : seat.is_loaded ≡ false) (still : now.is_loaded ≡ false) (owner : now.owner ≡ seat.owner) where
      pub shelved-cells : cells_in (with_value records key now).slots slots ≡ cells_in records.slots slots
      shelved-cells = cells-same records.slots new.slots slots (λ other k at. let s = sound.seated other k at in ap (option_map (λ (x : Seat T). x.loaded)) (updates.others k (key_off k key s.seat seat s.at at_key s.loaded off)))

      pub shelved-rows : rows_in (with_value records key now).slots index.entries ≡ rows_with called (rows_in records.slots index.entries) (called seat.loaded.value) now.loaded.value
      shelved-rows =
          let name = called seat.loaded.value in
          let left = now.loaded.value in
          rows-map (row_with called name left) records.slots new.slots index.entries (λ k d within.
          let e = get_or index.entries k d in
          elim (cases_name e.0 name) [
            | inl same ↦
                let here_is = own_key k d within same in
                let row : Shelved T = record { owner = seat.owner; content = seat.loaded.value } in
                let after = ap row_of (ap (seat_at new.slots) here_is ∙ updates.changed) ∙ row_is now still ∙ ap (λ o. Some (record { owner = o; content = left })) owner in
                let before = ap row_of (ap (seat_at records.slots) here_is ∙ at_key) ∙ row_is seat off in
                after ∙ ap (λ (r : Shelved T). Some r) (sym (with-there called name left named row refl)) ∙ sym (ap (option_map (row_with called name left)) before)
            | inr apart ↦ ap row_of (updates.others e.1 (other_key k d within apart)) ∙ sym (unchanged e.0 e.1 (sound.kept k d within) apart (row_of (seat_at records.slots e.1)) refl)
          ])
        where
          unchanged : (n : Name) (k : ℕ) → HasName called records.slots n k → n ≢ called seat.loaded.value → (o : Option (Shelved T)) → row_of (seat_at records.slots k) ≡ o → option_map (row_with called (called seat.loaded.value) now.loaded.value) o ≡ o
          unchanged n k has apart None is = refl
          unchanged n k has apart (Some row) is = ap (λ (r : Shelved T). Some r) (with-other called (called seat.loaded.value) now.loaded.value named row (λ same. apart (sym (row_named called records.slots n k row has is) ∙ same)))

      pub shelved-sound : IsSeated called kind slots by_serial (with_value records key now) index
      shelved-sound = record {
        seated = λ other k at. let s = sound.seated other k at in record { seat = s.seat; at = updates.others k (key_off k key s.seat seat s.at at_key s.loaded off) ∙ s.at; loaded = s.loaded; slot_is = s.slot_is; kind_is = s.kind_is };
        slotted = λ k y at y_on. elim (cases_eq k key) [
          | inl is ↦ absurd (false≢true (sym still ∙ ap (λ (z : Seat T). z.is_loaded) (now_is k y at is) ∙ y_on))
          | inr apart ↦ sound.slotted k y (sym (updates.others k apart) ∙ at) y_on
        ];
        serials = subst (λ cs. AreBySerial cs by_serial) (sym shelved-cells) sound.serials;
        index_is = sound.index_is;
        kept = place_kept;
        listed = place_listed;
        counted = place_counted;
        all = omega (arith, sound.all, ap (count_by is_some) shelved-cells, ap length shelved-rows, length-map rows (row_with called (called seat.loaded.value) now.loaded.value));
        roomy = sound.roomy;
      }
