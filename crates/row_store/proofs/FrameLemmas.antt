-- What an edit of the cells leaves in the index by frame.
use Rattle.std.proofs.Common.{◌≡◌, ◌≢◌, ◌↔◌, ℕ, zero, suc, ◌<◌, Bool, true, List, [], length, get_or, set, All, AllPairs, Contains, Option, Some, None, is_some, count_by, replicate, sym, ◌∙◌, ap, subst, inl, inr, refl, arith}
use Rattle.std.specs.declared.cmp.Ordering.{Ordering}
use Rattle.std.specs.declared.cmp.Ordering.TheVariants.{Equal}
use Rattle.std.specs.Ordering.{is_eq}
use Rattle.std.proofs.lemmas.Bool.{cases_eq, cases_lt}
use Rattle.std.proofs.lemmas.Bool.Decides.{nat_tests}
use Rattle.std.proofs.lemmas.Cmp.{tied_itself}
use Rattle.std.proofs.lemmas.List.{get_or-replicate, get_or_past, length-replicate, length-set}
use Rattle.std.proofs.lemmas.List.Edits.{length-insert, length-remove}
use Rattle.std.proofs.lemmas.List.Elements.{Contains-get_or}
use Rattle.std.proofs.lemmas.List.Sums.{count_by-le-length}
use Rattle.cache_ident.specs.contracts.idents.IdentOrd.TheImpl as ident_order
use Rattle.cache_ident.specs.contracts.idents.IdentOrd.TheImpl.Laws as ident_laws
use Rattle.cache_ident.specs.contracts.names.FrameOrd.TheImpl.Laws as frame_laws
use Rattle.cache_ident.specs.contracts.names.FramePartialEq.TheImpl as frame_eq
use Rattle.cache_ident.specs.declared.idents.Ident.{Ident}
use Rattle.cache_ident.specs.declared.names.Frame.{Frame}
use Rattle.cache_ident.proofs.RollLemmas.{same_ident}
use Rattle.sorted_list.specs.Sorted.{by_parts, values_under, IsAdded, IsRising, IsTakenOut, Sorted}
use Rattle.sorted_list.proofs.RisingLemmas.{by_parts_total}
use Rattle.sorted_list.proofs.UnderLemmas.{after_added, after_taken, both_tie, entry_of_value, same_pair, value_of_entry, values_once}
use Rattle.phys_groups.specs.declared.rows.Row.{Row}
use Rattle.slot_cache.specs.declared.loaded.Loaded.{Loaded}
use Rattle.slot_cache.specs.Cells.{cell_at, just_loaded}
use Rattle.slot_cache.proofs.SlotLemmas.{cell_within, count-put, count-same, count-take, elsewhere, here, not_none, some_same}
use Rattle.row_store.specs.contracts.frames.RowsOfOrd.TheImpl as rows_order
use Rattle.row_store.specs.contracts.frames.RowsOfOrd.TheImpl.Laws as rows_laws
use Rattle.row_store.specs.contracts.frames.RowsOfPartialEq.TheImpl as rows_eq
use Rattle.row_store.specs.declared.frames.RowsOf.{RowsOf}
use Rattle.row_store.specs.Frames.{rows_of, IsByFrame, IsIndexed, IsRowOf}

-- frames that are equal by a test are one
pub same_frame : (a b : Frame) → (frame_eq.ghosts).eq a b ≡ true → a ≡ b
same_frame a b same =
    let number : a.0 ≡ b.0 = grind (arith, nat_tests) in
    ap (λ n. let it : Frame = record { 0 = n } in it) number

pub frame_itself : (a : Frame) → (frame_eq.ghosts).eq a a ≡ true
frame_itself a = frame_laws.matches_eq-law a a ∙ ap is_eq (tied_itself frame_laws.total-law a)

-- and so are those of which rows are asked for
pub same_rows : (a b : RowsOf) → (rows_eq.ghosts).eq a b ≡ true → a ≡ b
same_rows a b same =
    let frame : a.frame.0 ≡ b.frame.0 = grind (arith, nat_tests) in
    let message : a.message ≡ b.message = grind (arith, nat_tests) in
    grind (arith, nat_tests, frame, message)

pub rows_itself : (a : RowsOf) → (rows_eq.ghosts).eq a a ≡ true
rows_itself a = rows_laws.matches_eq-law a a ∙ ap is_eq (tied_itself rows_laws.total-law a)

-- entries by frame, then by identifier
abbrev pub entry_cmp : RowsOf × Ident → RowsOf × Ident → Ordering
entry_cmp = by_parts (rows_order.ghosts).cmp (ident_order.ghosts).cmp

-- what is a row among those
abbrev IsAmong : List (Option (Loaded Row)) → RowsOf × Ident → Type 0
IsAmong cells entry = IsRowOf cells entry.0.frame entry.0.message entry.1

-- a row of the same frame and flags is among the same rows
pub same_among : (a b : Row) → a.frame ≡ b.frame → a.flags ≡ b.flags → rows_of a ≡ rows_of b
same_among a b frames flags = cc

-- the parts make the whole
whole : (row : Row) (rows : RowsOf) → row.frame ≡ rows.frame → row.flags.m ≡ rows.message → rows_of row ≡ rows
whole row rows frames messages =
    let by_frame : Frame → RowsOf = λ f. record { frame = f; message = row.flags.m } in
    let by_message : Bool → RowsOf = λ m. record { frame = rows.frame; message = m } in
    ap by_frame frames ∙ ap by_message messages

module _ (cells : List (Option (Loaded Row))) (entry : RowsOf × Ident) where
  -- one row stands at a slot
  one_row : (e : Loaded Row) → cell_at cells entry.1.slot ≡ Some e → IsAmong cells entry → (e.ident ≡ entry.1) × (rows_of e.value ≡ entry.0)
  one_row e there row =
      let one = some_same e row.0 (sym there ∙ row.1) in
      (ap (λ (l : Loaded Row). l.ident) one ∙ row.2, ap (λ (l : Loaded Row). rows_of l.value) one ∙ whole row.0.value entry.0 row.3 row.4)

  -- a write at another slot neither takes nor brings it
  stays : (slot : ℕ) (c : Option (Loaded Row)) → entry.1.slot ≢ slot → IsAmong cells entry → IsAmong (set cells slot c) entry
  stays slot c apart row = (row.0, elsewhere cells slot entry.1.slot c apart ∙ row.1, row.2, row.3, row.4)

  was : (slot : ℕ) (c : Option (Loaded Row)) → entry.1.slot ≢ slot → IsAmong (set cells slot c) entry → IsAmong cells entry
  was slot c apart row = (row.0, sym (elsewhere cells slot entry.1.slot c apart) ∙ row.1, row.2, row.3, row.4)

module _ (cells : List (Option (Loaded Row))) (index : List (RowsOf × Ident)) (listed : IsByFrame cells index) where
  -- a slot that is free has no entry
  pub absent_row : (ident : Ident) (rows : RowsOf) → cell_at cells ident.slot ≡ None → All (λ entry. entry_cmp entry (rows, ident) ≢ Equal) index
  absent_row ident rows none k d within ties =
      let entry = get_or index k d in
      let row = (listed entry).0 (Contains-get_or index k d within) in
      let idents_tie = (both_tie _ _ ties).1 in
      let same = same_ident entry.1 ident (ident_laws.matches_eq-law entry.1 ident ∙ ap is_eq idents_tie) in
      not_none cells ident.slot row.0 (ap (λ (i : Ident). cell_at cells i.slot) (sym same) ∙ row.1) none

  -- the index with a row that was loaded into a free slot
  by_frame-put : (ident : Ident) (value : Row) (new_index : List (RowsOf × Ident)) → ident.slot < length cells → cell_at cells ident.slot ≡ None → IsAdded index new_index (rows_of value, ident) → IsByFrame (set cells ident.slot (Some (just_loaded ident value))) new_index
  by_frame-put ident value new_index within none added entry =
      let e = just_loaded ident value in
      let new = set cells ident.slot (Some e) in
      let put = here cells ident.slot (Some e) within in
      let edit = after_added index new_index (rows_of value, ident) added entry in (
        λ there. elim (edit.0 there) [
          | inl is ↦ subst (λ (p : RowsOf × Ident). IsAmong new p) (sym is) (e, put, refl, refl, refl)
          | inr old ↦
              let row = (listed entry).0 old in
              stays cells entry ident.slot (Some e) (λ at. not_none cells entry.1.slot row.0 row.1 (ap (cell_at cells) at ∙ none)) row
        ],
        λ row. elim (cases_eq entry.1.slot ident.slot) [
          | inl at ↦
              let one = one_row new entry e (ap (cell_at new) at ∙ put) row in
              edit.1 (inl (same_pair entry (rows_of value, ident) (sym one.1) (sym one.0)))
          | inr apart ↦ edit.1 (inr ((listed entry).1 (was cells entry ident.slot (Some e) apart row)))
        ],
      )

  -- the index without a row that was taken out
  by_frame-take : (ident : Ident) (e : Loaded Row) (new_index : List (RowsOf × Ident)) → cell_at cells ident.slot ≡ Some e → e.ident ≡ ident → IsRising entry_cmp index → IsTakenOut index new_index (rows_of e.value, ident) → IsByFrame (set cells ident.slot None) new_index
  by_frame-take ident e new_index some is rising taken entry =
      let gone : RowsOf × Ident = (rows_of e.value, ident) in
      let new = set cells ident.slot None in
      let edit = after_taken index new_index gone entry_cmp (tied_itself (by_parts_total rows_laws.total-law ident_laws.total-law) gone) rising taken entry in (
        λ there.
            let row = (listed entry).0 (edit.0 there).0 in
            stays cells entry ident.slot None (λ at.
            let one = one_row cells entry e (ap (cell_at cells) at ∙ some) row in
            (edit.0 there).1 (same_pair entry gone (sym one.1) (sym one.0 ∙ is))) row,
        λ row. elim (cases_eq entry.1.slot ident.slot) [
          | inl at ↦ absurd (not_none new entry.1.slot row.0 row.1 (ap (cell_at new) at ∙ here cells ident.slot None (cell_within cells ident.slot e some)))
          | inr apart ↦ edit.1 ((listed entry).1 (was cells entry ident.slot None apart row), λ same. apart (ap (λ (p : RowsOf × Ident). p.1.slot) same))
        ],
      )

  -- the index stays when a row is changed and keeps identifier and frame
  by_frame-changed : (slot : ℕ) (e new : Loaded Row) → cell_at cells slot ≡ Some e → new.ident ≡ e.ident → rows_of new.value ≡ rows_of e.value → IsByFrame (set cells slot (Some new)) index
  by_frame-changed slot e new some idents frames entry =
      let after = set cells slot (Some new) in
      let put = here cells slot (Some new) (cell_within cells slot e some) in (
        λ there.
            let row = (listed entry).0 there in
            elim (cases_eq entry.1.slot slot) [
              | inl at ↦
                  let one = one_row cells entry e (ap (cell_at cells) at ∙ some) row in
                  (new, ap (cell_at after) at ∙ put, idents ∙ one.0, ap (λ (r : RowsOf). r.frame) (frames ∙ one.1), ap (λ (r : RowsOf). r.message) (frames ∙ one.1))
              | inr apart ↦ stays cells entry slot (Some new) apart row
            ],
        λ row. elim (cases_eq entry.1.slot slot) [
          | inl at ↦
              let one = one_row after entry new (ap (cell_at after) at ∙ put) row in
              (listed entry).1 (e, ap (cell_at cells) at ∙ some, sym idents ∙ one.0, ap (λ (r : RowsOf). r.frame) (sym frames ∙ one.1), ap (λ (r : RowsOf). r.message) (sym frames ∙ one.1))
          | inr apart ↦ (listed entry).1 (was cells entry slot (Some new) apart row)
        ],
      )

-- of free slots each holds nothing
all_free : (cap slot : ℕ) → cell_at {T = Row} (replicate cap None) slot ≡ None
all_free cap slot = elim (cases_lt slot cap) [
  | inl within ↦ get_or-replicate cap slot None None within
  | inr past ↦ get_or_past (replicate cap None) slot None (rw (length-replicate {A = Option (Loaded Row)} cap None) past)
]

none_loaded : (cap : ℕ) → count_by (is_some {T = Loaded Row}) (replicate cap None) ≡ 0
none_loaded zero = refl
none_loaded (suc cap) = none_loaded cap

-- slots with nothing in them have an index with no entry
pub indexed-new : (cap : ℕ) (index : Sorted RowsOf Ident) → index.entries ≡ [] → index.room ≡ cap → IsIndexed (replicate cap None) index
indexed-new cap index empty room =
    let none : length index.entries ≡ 0 = ap length empty in
    record {
      listed = λ entry. (λ there. absurd (omega (arith, there.1, none)), λ row. absurd (not_none (replicate cap None) entry.1.slot row.0 row.1 (all_free cap entry.1.slot)));
      rising = λ i j d lt within. absurd (omega (arith, within, none));
      len = omega (arith, none, none_loaded cap);
      room = room ∙ sym (length-replicate {A = Option (Loaded Row)} cap None);
    }

module _ (cells : List (Option (Loaded Row))) (index : Sorted RowsOf Ident) (indexed : IsIndexed cells index) where
  -- where a slot is free, the index has room
  pub index_room : (slot : ℕ) (e : Loaded Row) → slot < length cells → cell_at cells slot ≡ None → length index.entries < index.room
  index_room slot e within none = omega (arith, indexed.len, indexed.room, length-set cells slot (Some e), count-put cells slot e within none, count_by-le-length is_some (set cells slot (Some e)))

  -- the index stands for the slots when a row is changed and keeps identifier and frame
  pub indexed-changed : (slot : ℕ) (e new : Loaded Row) → cell_at cells slot ≡ Some e → new.ident ≡ e.ident → rows_of new.value ≡ rows_of e.value → IsIndexed (set cells slot (Some new)) index
  indexed-changed slot e new some idents frames = record {
    listed = by_frame-changed cells index.entries indexed.listed slot e new some idents frames;
    rising = indexed.rising;
    len = indexed.len ∙ sym (count-same cells slot e new some);
    room = indexed.room ∙ sym (length-set cells slot (Some new));
  }

  -- without a row's entry, for the slots without the row
  pub indexed-take : (new : Sorted RowsOf Ident) (ident : Ident) (e : Loaded Row) → cell_at cells ident.slot ≡ Some e → e.ident ≡ ident → IsTakenOut index.entries new.entries (rows_of e.value, ident) → new.room ≡ index.room → IsRising entry_cmp new.entries → IsIndexed (set cells ident.slot None) new
  indexed-take new ident e some is taken room rising = record {
    listed = by_frame-take cells index.entries indexed.listed ident e new.entries some is indexed.rising taken;
    rising = rising;
    len = omega (arith, ap length taken.3, length-remove index.entries taken.0 taken.1, indexed.len, count-take cells ident.slot e some);
    room = room ∙ indexed.room ∙ sym (length-set cells ident.slot None);
  }

  -- with a new row's entry, for the slots with the row
  pub indexed-put : (new : Sorted RowsOf Ident) (ident : Ident) (value : Row) → ident.slot < length cells → cell_at cells ident.slot ≡ None → IsAdded index.entries new.entries (rows_of value, ident) → new.room ≡ index.room → IsRising entry_cmp new.entries → IsIndexed (set cells ident.slot (Some (just_loaded ident value))) new
  indexed-put new ident value within none added room rising = record {
    listed = by_frame-put cells index.entries indexed.listed ident value new.entries within none added;
    rising = rising;
    len = omega (arith, ap length added.2, length-insert index.entries added.0 (rows_of value, ident) added.1, indexed.len, count-put cells ident.slot (just_loaded ident value) within none);
    room = room ∙ indexed.room ∙ sym (length-set cells ident.slot (Some (just_loaded ident value)));
  }

  -- under a frame stand the loaded rows that are asked for, each once
  pub rows_seen : (rows : RowsOf) (ident : Ident) → Contains (values_under (rows_eq.ghosts).eq index.entries rows) ident ↔ IsRowOf cells rows.frame rows.message ident
  rows_seen rows ident =
      let same = (rows_eq.ghosts).eq in
      let listed = indexed.listed (rows, ident) in
      (λ there. listed.0 (entry_of_value same same_rows index.entries rows ident there), λ row. value_of_entry same same_rows index.entries rows (rows_itself rows) ident (listed.1 row))

  pub each_once : (rows : RowsOf) → AllPairs ◌≢◌ (values_under (rows_eq.ghosts).eq index.entries rows)
  each_once rows = values_once (rows_eq.ghosts).eq same_rows index.entries rows (rows_order.ghosts).cmp (ident_order.ghosts).cmp (tied_itself rows_laws.total-law rows) (tied_itself ident_laws.total-law) indexed.rising
