-- What stands at slots and on the shelf, once a seat or a slot has changed.
use Rattle.std.proofs.Common.{◌≡◌, ◌≢◌, ℕ, zero, suc, ◌<◌, ◌≤◌, Bool, true, false, List, [], ◌∷◌, length, get_or, filter_map, map, set, All, AllPairs, Contains, Option, Some, None, sym, ◌∙◌, ap, subst, inl, inr, refl, arith}
use Rattle.std.specs.List.{cons_option, insert, remove}
use Rattle.std.specs.Option.{option_map}
use Rattle.std.specs.Prelude.{if◌then◌else◌}
use Rattle.std.proofs.lemmas.List.{map-set}
use Rattle.std.proofs.lemmas.List.Elements.{All-head, All-tail, Contains-get_or}
use Rattle.std.proofs.lemmas.List.Kept.{AllPairs-cons}
use Rattle.cache_ident.specs.declared.names.Name.{Name}
use Rattle.sorted_list.specs.Sorted.{IsAdded}
use Rattle.sorted_list.proofs.ListLemmas.{Contains-cons_cases, Contains-later}
use Rattle.slot_cache.specs.declared.loaded.Loaded.{Loaded}
use Rattle.slot_cache.specs.declared.seats.Seat.{Seat}
use Rattle.slot_cache.specs.Cells.{cell_at, loaded_in}
use Rattle.slot_cache.specs.Seats.{cells_in, held_in, seat_at}
use Rattle.slot_cache.specs.Slots.{slot_at}
use Rattle.slot_cache.proofs.SlotLemmas.{some_same}
use Rattle.owner_shelf.specs.declared.shelved.Shelved.{Shelved}
use Rattle.owner_shelf.specs.Rows.{row_under, rows_without, HasNoRow}
use Rattle.owner_shelf.proofs.NameLemmas.{eq_apart, eq_same}
use Rattle.owner_shelf.proofs.RowLaws.{under-absent}
use Rattle.kind_store.specs.Seated.{row_of, rows_in, HasName}
use Rattle.kind_store.proofs.ContentLemmas.{cases_name}

module _ {T : Type 0} where
  -- what stands at a slot is in the seat that the slot holds
  pub cells-at : (seats : List (Option (Seat T))) (slots : List (Option ℕ)) (slot : ℕ) → cell_at (cells_in seats slots) slot ≡ held_in seats (slot_at slots slot)
  cells-at seats [] slot = refl
  cells-at seats (c ∷ slots) zero = refl
  cells-at seats (c ∷ slots) (suc slot) = cells-at seats slots slot

  held_same : (old new : List (Option (Seat T))) (c : Option ℕ) → ((key : ℕ) → c ≡ Some key → held_in new (Some key) ≡ held_in old (Some key)) → held_in new c ≡ held_in old c
  held_same old new None same = refl
  held_same old new (Some key) same = same key refl

  -- seats that slots hold and that stay leave what stands at the slots
  pub cells-same : (old new : List (Option (Seat T))) (slots : List (Option ℕ)) → ((slot key : ℕ) → slot_at slots slot ≡ Some key → held_in new (Some key) ≡ held_in old (Some key)) → cells_in new slots ≡ cells_in old slots
  cells-same old new [] same = refl
  cells-same old new (c ∷ slots) same = rw (held_same old new c (same 0), cells-same old new slots (λ slot. same (suc slot))) refl

  -- a seat that one slot holds changes what stands at that slot
  pub cells-one : (old new : List (Option (Seat T))) (slots : List (Option ℕ)) (slot key : ℕ) (x : Option (Loaded T)) → slot_at slots slot ≡ Some key → held_in new (Some key) ≡ x → ((other k : ℕ) → slot_at slots other ≡ Some k → other ≢ slot → held_in new (Some k) ≡ held_in old (Some k)) → cells_in new slots ≡ set (cells_in old slots) slot x
  cells-one old new [] slot key x there is others = refl
  cells-one old new (c ∷ slots) zero key x there is others =
      let first = ap (held_in new) there ∙ is in
      rw (first, cells-same old new slots (λ slot k at. others (suc slot) k at (λ same. absurd (omega (arith, same))))) refl
  cells-one old new (c ∷ slots) (suc slot) key x there is others =
      rw (held_same old new c (λ k at. others 0 k at (λ same. absurd (omega (arith, same)))), cells-one old new slots slot key x there is (λ other k at apart. others (suc other) k at (λ same. apart (omega (arith, same))))) refl

  -- a slot that is written changes what stands there
  pub cells-set : (seats : List (Option (Seat T))) (slots : List (Option ℕ)) (slot : ℕ) (c : Option ℕ) → cells_in seats (set slots slot c) ≡ set (cells_in seats slots) slot (held_in seats c)
  cells-set seats slots slot c = map-set (held_in seats) slots slot c

  -- what is loaded is what sits in the seats that slots hold
  pub loaded-taken : (seats : List (Option (Seat T))) (slots : List (Option ℕ)) → loaded_in (cells_in seats slots) ≡ filter_map (λ key. held_in seats (Some key)) (filter_map (λ slot. slot) slots)
  loaded-taken seats [] = refl
  loaded-taken seats (None ∷ slots) = loaded-taken seats slots
  loaded-taken seats (Some key ∷ slots) = ap (cons_option (held_in seats (Some key))) (loaded-taken seats slots)

  -- rows of seats that stay are the same rows
  pub rows-same : (old new : List (Option (Seat T))) (entries : List (Name × ℕ)) → All (λ entry. row_of (seat_at new entry.1) ≡ row_of (seat_at old entry.1)) entries → rows_in new entries ≡ rows_in old entries
  rows-same old new [] same = refl
  rows-same old new (e ∷ es) same =
      let Same : Name × ℕ → Type 0 = λ entry. row_of (seat_at new entry.1) ≡ row_of (seat_at old entry.1) in
      rw (All-head Same e es same, rows-same old new es (All-tail Same e es same)) refl

  -- each changed by a function
  pub rows-map : (f : Shelved T → Shelved T) (old new : List (Option (Seat T))) (entries : List (Name × ℕ)) → All (λ entry. row_of (seat_at new entry.1) ≡ option_map f (row_of (seat_at old entry.1))) entries → rows_in new entries ≡ map f (rows_in old entries)
  rows-map f old new [] moved = refl
  rows-map f old new (e ∷ es) moved =
      let Moved : Name × ℕ → Type 0 = λ entry. row_of (seat_at new entry.1) ≡ option_map f (row_of (seat_at old entry.1)) in
      rw (All-head Moved e es moved, rows-map f old new es (All-tail Moved e es moved)) (by (row_of (seat_at old e.1)) (rows_in old es))
    where
      by : (o : Option (Shelved T)) (rest : List (Shelved T)) → cons_option (option_map f o) (map f rest) ≡ map f (cons_option o rest)
      by None rest = refl
      by (Some row) rest = refl

  -- an entry of a seat that is no row adds none
  pub rows-without_none : (seats : List (Option (Seat T))) (entries : List (Name × ℕ)) (at : ℕ) (entry : Name × ℕ) → at < length entries → get_or entries at entry ≡ entry → row_of (seat_at seats entry.1) ≡ None → rows_in seats (remove entries at) ≡ rows_in seats entries
  rows-without_none seats [] at entry within here none = absurd (omega (arith, within))
  rows-without_none seats (e ∷ es) zero entry within here none =
      let own = ap (λ (x : Name × ℕ). row_of (seat_at seats x.1)) here ∙ none in
      rw own refl
  rows-without_none seats (e ∷ es) (suc at) entry within here none = ap (cons_option (row_of (seat_at seats e.1))) (rows-without_none seats es at entry (omega arith) here none)

  added_later : (rows new : List (Shelved T)) (first row : Shelved T) → IsAdded rows new row → IsAdded (first ∷ rows) (first ∷ new) row
  added_later rows new first row added = (suc added.0, omega (arith, added.1), ap (λ rs. first ∷ rs) added.2)

  -- an entry whose seat is a row brings it
  pub rows-insert : (seats : List (Option (Seat T))) (entries : List (Name × ℕ)) (at : ℕ) (entry : Name × ℕ) (row : Shelved T) → at ≤ length entries → row_of (seat_at seats entry.1) ≡ Some row → IsAdded (rows_in seats entries) (rows_in seats (insert entries at entry)) row
  rows-insert seats entries zero entry row within is = (0, omega arith, rw is refl)
  rows-insert seats [] (suc at) entry row within is = absurd (omega (arith, within))
  rows-insert seats (e ∷ es) (suc at) entry row within is = by (row_of (seat_at seats e.1)) (rows-insert seats es at entry row (omega arith) is)
    where
      by : (o : Option (Shelved T)) → IsAdded (rows_in seats es) (rows_in seats (insert es at entry)) row → IsAdded (cons_option o (rows_in seats es)) (cons_option o (rows_in seats (insert es at entry))) row
      by None added = added
      by (Some first) added = added_later (rows_in seats es) (rows_in seats (insert es at entry)) first row added

  -- and so does a seat that becomes one
  pub rows-fill : (old new : List (Option (Seat T))) (entries : List (Name × ℕ)) (at : ℕ) (entry : Name × ℕ) (row : Shelved T) → at < length entries → get_or entries at entry ≡ entry → row_of (seat_at old entry.1) ≡ None → row_of (seat_at new entry.1) ≡ Some row → ((k : ℕ) (d : Name × ℕ) → k < length entries → k ≢ at → row_of (seat_at new (get_or entries k d).1) ≡ row_of (seat_at old (get_or entries k d).1)) → IsAdded (rows_in old entries) (rows_in new entries) row
  rows-fill old new [] at entry row within here none some others = absurd (omega (arith, within))
  rows-fill old new (e ∷ es) zero entry row within here none some others =
      let was = ap (λ (x : Name × ℕ). row_of (seat_at old x.1)) here ∙ none in
      let is = ap (λ (x : Name × ℕ). row_of (seat_at new x.1)) here ∙ some in
      rw (was, is, rows-same old new es (λ k d inside. others (suc k) d (omega arith) (λ same. absurd (omega (arith, same))))) (0, omega arith, refl)
  rows-fill old new (e ∷ es) (suc at) entry row within here none some others =
      rw (others 0 e (omega arith) (λ same. absurd (omega (arith, same)))) (by (row_of (seat_at old e.1)) (rows-fill old new es at entry row (omega arith) here none some (λ k d inside apart. others (suc k) d (omega arith) (λ same. apart (omega (arith, same))))))
    where
      by : (o : Option (Shelved T)) → IsAdded (rows_in old es) (rows_in new es) row → IsAdded (cons_option o (rows_in old es)) (cons_option o (rows_in new es)) row
      by None added = added
      by (Some first) added = added_later (rows_in old es) (rows_in new es) first row added

  -- each row is that of an entry
  pub row_from : (seats : List (Option (Seat T))) (entries : List (Name × ℕ)) (row : Shelved T) → Contains (rows_in seats entries) row → (e : Name × ℕ) × Contains entries e × (row_of (seat_at seats e.1) ≡ Some row)
  row_from seats [] row there = let never : there.0 < 0 = there.1 in absurd (omega (arith, never))
  row_from seats (e ∷ es) row there = by (λ later. row_from seats es row later) (row_of (seat_at seats e.1)) refl there
    where
      by : (Contains (rows_in seats es) row → (x : Name × ℕ) × Contains es x × (row_of (seat_at seats x.1) ≡ Some row)) → (o : Option (Shelved T)) → row_of (seat_at seats e.1) ≡ o → Contains (cons_option o (rows_in seats es)) row → (x : Name × ℕ) × Contains (e ∷ es) x × (row_of (seat_at seats x.1) ≡ Some row)
      by next None is there = let it = next there in (it.0, Contains-later es e it.0 it.1, it.2)
      by next (Some first) is there = elim (Contains-cons_cases (rows_in seats es) first row there) [
        | inl same ↦ (e, (0, omega arith, refl), is ∙ ap (λ (r : Shelved T). Some r) (sym same))
        | inr later ↦ let it = next later in (it.0, Contains-later es e it.0 it.1, it.2)
      ]

module _ {T : Type 0} (called : T → Name) where
  -- the row of a seat has its name
  pub row_named : (seats : List (Option (Seat T))) (name : Name) (key : ℕ) (row : Shelved T) → HasName called seats name key → row_of (seat_at seats key) ≡ Some row → called row.content ≡ name
  row_named seats name key row has is = by has.0.is_loaded (sym (ap row_of has.1) ∙ is)
    where
      by : (b : Bool) → (if b then None else Some (record { owner = has.0.owner; content = has.0.loaded.value })) ≡ Some row → called row.content ≡ name
      by true none = absurd (cc)
      by false some = ap (λ (r : Shelved T). called r.content) (sym (some_same (record { owner = has.0.owner; content = has.0.loaded.value }) row some)) ∙ has.2

  module _ (seats : List (Option (Seat T))) where
    abbrev Kept : Name × ℕ → Type 0
    Kept entry = HasName called seats entry.0 entry.1

    -- no row has a name that no entry has
    pub rows-absent : (name : Name) (entries : List (Name × ℕ)) → All (λ entry. HasName called seats entry.0 entry.1) entries → All (λ entry. entry.0 ≢ name) entries → HasNoRow called (rows_in seats entries) name
    rows-absent name entries kept absent k d within same =
        let row = get_or (rows_in seats entries) k d in
        let it = row_from seats entries row (Contains-get_or (rows_in seats entries) k d within) in
        let e = it.0 in
        let named = row_named seats e.0 e.1 row (get_kept e it.1) it.2 in
        get_absent e it.1 (sym named ∙ same)
      where
        get_kept : (e : Name × ℕ) → Contains entries e → HasName called seats e.0 e.1
        get_kept e there = subst (λ (x : Name × ℕ). HasName called seats x.0 x.1) there.2 (kept there.0 e there.1)

        get_absent : (e : Name × ℕ) → Contains entries e → e.0 ≢ name
        get_absent e there = subst (λ (x : Name × ℕ). x.0 ≢ name) there.2 (absent there.0 e there.1)

    -- the row of a name is that of its entry
    pub row_at : (name : Name) (key : ℕ) (entries : List (Name × ℕ)) → All (λ entry. HasName called seats entry.0 entry.1) entries → (at : ℕ) → at < length entries → get_or entries at (name, key) ≡ (name, key) → ((k : ℕ) (d : Name × ℕ) → k < length entries → k ≢ at → (get_or entries k d).0 ≢ name) → row_under called (rows_in seats entries) name ≡ row_of (seat_at seats key)
    row_at name key [] kept at within here apart = absurd (omega (arith, within))
    row_at name key (e ∷ es) kept zero within here apart =
        let first = All-head Kept e es kept in
        let named = first.2 ∙ ap (λ (x : Name × ℕ). x.0) here in
        let rest = under-absent called (rows_in seats es) name (rows-absent name es (All-tail Kept e es kept) (λ k d inside. apart (suc k) d (omega arith) (λ same. absurd (omega (arith, same))))) in
        by (row_of (seat_at seats e.1)) refl rest ∙ ap (λ (x : Name × ℕ). row_of (seat_at seats x.1)) here
      where
        by : (o : Option (Shelved T)) → row_of (seat_at seats e.1) ≡ o → row_under called (rows_in seats es) name ≡ None → row_under called (cons_option o (rows_in seats es)) name ≡ o
        by None is none = none
        by (Some row) is none = rw (eq_same (called row.content) name (row_named seats e.0 e.1 row (All-head Kept e es kept) is ∙ ap (λ (x : Name × ℕ). x.0) here)) refl
    row_at name key (e ∷ es) kept (suc at) within here apart = by (row_of (seat_at seats e.1)) refl (row_at name key es (All-tail Kept e es kept) at (omega arith) here (λ k d inside differs. apart (suc k) d (omega arith) (λ same. differs (omega (arith, same)))))
      where
        by : (o : Option (Shelved T)) → row_of (seat_at seats e.1) ≡ o → row_under called (rows_in seats es) name ≡ row_of (seat_at seats key) → row_under called (cons_option o (rows_in seats es)) name ≡ row_of (seat_at seats key)
        by None is rest = rest
        by (Some row) is rest = rw (eq_apart (called row.content) name (λ same. apart 0 e (omega arith) (λ zero_is. absurd (omega (arith, zero_is))) (sym (row_named seats e.0 e.1 row (All-head Kept e es kept) is) ∙ same))) rest

    -- each row has a name of its own where each entry has
    pub rows-once : (entries : List (Name × ℕ)) → All (λ entry. HasName called seats entry.0 entry.1) entries → AllPairs (λ a b. a.0 ≢ b.0) entries → AllPairs (λ a b. called a.content ≢ called b.content) (rows_in seats entries)
    rows-once [] kept once = λ i j d lt within. absurd (omega (arith, within))
    rows-once (e ∷ es) kept once = by (rows-once es (All-tail Kept e es kept) (λ i j d lt within. once (suc i) (suc j) d (omega arith) (omega arith))) (row_of (seat_at seats e.1)) refl
      where
        others : HasNoRow called (rows_in seats es) e.0
        others = rows-absent e.0 es (All-tail Kept e es kept) (λ k d within same. once 0 (suc k) d (omega arith) (omega arith) (sym same))

        by : AllPairs (λ a b. called a.content ≢ called b.content) (rows_in seats es) → (o : Option (Shelved T)) → row_of (seat_at seats e.1) ≡ o → AllPairs (λ a b. called a.content ≢ called b.content) (cons_option o (rows_in seats es))
        by rest None is = rest
        by rest (Some row) is = AllPairs-cons (λ (a : Shelved T) (b : Shelved T). called a.content ≢ called b.content) row (rows_in seats es) (λ k d within same. others k d within (sym same ∙ row_named seats e.0 e.1 row (All-head Kept e es kept) is)) rest

  -- where the seat of a name is no row any more, the others are the rows without the name
  pub rows-drop : (old new : List (Option (Seat T))) (name : Name) (entries : List (Name × ℕ)) → All (λ entry. HasName called old entry.0 entry.1) entries → All (λ entry. entry.0 ≡ name → row_of (seat_at new entry.1) ≡ None) entries → All (λ entry. entry.0 ≢ name → row_of (seat_at new entry.1) ≡ row_of (seat_at old entry.1)) entries → rows_in new entries ≡ rows_without called (rows_in old entries) name
  rows-drop old new name [] kept gone others = refl
  rows-drop old new name (e ∷ es) kept gone others =
      let KeptOld : Name × ℕ → Type 0 = λ entry. HasName called old entry.0 entry.1 in
      let Gone : Name × ℕ → Type 0 = λ entry. entry.0 ≡ name → row_of (seat_at new entry.1) ≡ None in
      let Stays : Name × ℕ → Type 0 = λ entry. entry.0 ≢ name → row_of (seat_at new entry.1) ≡ row_of (seat_at old entry.1) in
      let rest = rows-drop old new name es (All-tail KeptOld e es kept) (All-tail Gone e es gone) (All-tail Stays e es others) in
      elim (cases_name e.0 name) [
        | inl same ↦ rw (All-head Gone e es gone same) (by_same (row_of (seat_at old e.1)) refl same rest)
        | inr apart ↦ rw (All-head Stays e es others apart) (by_apart (row_of (seat_at old e.1)) refl apart rest)
      ]
    where
      own : HasName called old e.0 e.1
      own = kept 0 e (omega arith)

      by_same : (o : Option (Shelved T)) → row_of (seat_at old e.1) ≡ o → e.0 ≡ name → rows_in new es ≡ rows_without called (rows_in old es) name → rows_in new es ≡ rows_without called (cons_option o (rows_in old es)) name
      by_same None is same rest = rest
      by_same (Some row) is same rest = rw (eq_same (called row.content) name (row_named old e.0 e.1 row own is ∙ same)) rest

      by_apart : (o : Option (Shelved T)) → row_of (seat_at old e.1) ≡ o → e.0 ≢ name → rows_in new es ≡ rows_without called (rows_in old es) name → cons_option o (rows_in new es) ≡ rows_without called (cons_option o (rows_in old es)) name
      by_apart None is apart rest = rest
      by_apart (Some row) is apart rest = rw (eq_apart (called row.content) name (λ same. apart (sym (row_named old e.0 e.1 row own is) ∙ same))) (ap (λ rows. row ∷ rows) rest)
