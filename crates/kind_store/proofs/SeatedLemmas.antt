-- What seats, slots and names show.
use Rattle.std.proofs.Common.{◌≡◌, ◌≢◌, ℕ, ◌<◌, Bool, true, false, List, length, get_or, is_some, All, AllPairs, Contains, Option, Some, None, IsSome, sym, ◌∙◌, ap, subst, inl, inr, refl, arith}
use Rattle.std.specs.Option.{option_map}
use Rattle.std.specs.Prelude.{if◌then◌else◌}
use Rattle.std.proofs.lemmas.Bool.{cases_lt, false≢true}
use Rattle.std.proofs.lemmas.List.{get_or_default, length-map}
use Rattle.std.proofs.lemmas.List.Elements.{All-contains, Contains-get_or}
use Rattle.cache_ident.specs.declared.idents.Kind.{Kind}
use Rattle.cache_ident.specs.declared.names.Name.{Name}
use Rattle.cache_ident.specs.contracts.names.NameOrd.TheImpl as order
use Rattle.sorted_list.specs.Sorted.{Sorted}
use Rattle.slab.specs.Slab.{Slab}
use Rattle.slot_cache.specs.declared.loaded.Loaded.{Loaded}
use Rattle.slot_cache.specs.declared.seats.Seat.{Seat}
use Rattle.slot_cache.specs.Cells.{cell_at, HasNoName, IsFull, IsLowestFree}
use Rattle.slot_cache.specs.Index.{IsRising}
use Rattle.slot_cache.specs.Seats.{cells_in, held_in, seat_at}
use Rattle.slot_cache.specs.Slots.{slot_at, HasNoGap, IsLowestGap}
use Rattle.slot_cache.specs.Table.{IsPlaced}
use Rattle.slot_cache.proofs.IndexLemmas.{less≢equal}
use Rattle.slot_cache.proofs.NameLemmas.{name_itself}
use Rattle.slot_cache.proofs.SlotLemmas.{some_same}
use Rattle.owner_shelf.specs.declared.shelved.Shelved.{Shelved}
use Rattle.owner_shelf.specs.Rows.{content_under, row_under, HasNoRow}
use Rattle.owner_shelf.proofs.RowLaws.{under-absent}
use Rattle.owner_shelf.proofs.SoundLemmas.{some_is}
use Rattle.kind_store.specs.Kept.{IsSound}
use Rattle.kind_store.specs.Seated.{row_of, rows_in, seen_in, HasName, IsSeated, IsSeatOf, LeadsTo, Seen}
use Rattle.kind_store.proofs.HeldLemmas.{cells-at, row_at, row_from, row_named, rows-absent, rows-once}

-- a name of a rising list stands at one place
pub name_apart : (entries : List (Name × ℕ)) (i j : ℕ) (d : Name × ℕ) → IsRising (order.ghosts).cmp entries → i < j → j < length entries → (get_or entries i d).0 ≢ (get_or entries j d).0
name_apart entries i j d rising lt within same = less≢equal _ (rising i j d lt within) (ap (λ (n : Name). (order.ghosts).cmp n (get_or entries j d).0) same ∙ name_itself (get_or entries j d).0)

pub others_apart : (entries : List (Name × ℕ)) (name : Name) (key at : ℕ) → IsRising (order.ghosts).cmp entries → at < length entries → get_or entries at (name, key) ≡ (name, key) → (k : ℕ) (d : Name × ℕ) → k < length entries → k ≢ at → (get_or entries k d).0 ≢ name
others_apart entries name key at rising within here k d k_within apart same =
    let here_d : (get_or entries at d).0 ≡ name = ap (λ (e : Name × ℕ). e.0) (get_or_default entries at d (name, key) within ∙ here) in
    elim (cases_lt k at) [
      | inl before ↦ name_apart entries k at d rising before within (same ∙ sym here_d)
      | inr not_before ↦ name_apart entries at k d rising (omega (arith, not_before, apart)) k_within (here_d ∙ sym same)
    ]

-- so it leads to one key
pub one_key : (entries : List (Name × ℕ)) (name : Name) (a b : ℕ) → IsRising (order.ghosts).cmp entries → Contains entries (name, a) → Contains entries (name, b) → a ≡ b
one_key entries name a b rising first last =
    let p : Name × ℕ = (name, a) in
    let q : Name × ℕ = (name, b) in
    let last_at : get_or entries last.0 p ≡ q = get_or_default entries last.0 p q last.1 ∙ last.2 in
    let first_name : (get_or entries first.0 p).0 ≡ name = ap (λ (x : Name × ℕ). x.0) first.2 in
    let last_name : (get_or entries last.0 p).0 ≡ name = ap (λ (x : Name × ℕ). x.0) last_at in
    elim (cases_lt first.0 last.0) [
      | inl before ↦ absurd (name_apart entries first.0 last.0 p rising before last.1 (first_name ∙ sym last_name))
      | inr not_before ↦ elim (cases_lt last.0 first.0) [
        | inl after ↦ absurd (name_apart entries last.0 first.0 p rising after first.1 (last_name ∙ sym first_name))
        | inr not_after ↦
            let one : first.0 ≡ last.0 = omega arith in
            ap (λ (x : Name × ℕ). x.1) (sym first.2 ∙ ap (λ k. get_or entries k p) one ∙ last_at)
      ]
    ]

-- what is loaded at a slot, and where it sits
pub record IsHeldAt {T : Type 0} (seats : List (Option (Seat T))) (slots : List (Option ℕ)) (slot : ℕ) (l : Loaded T) : Type 0 where
  pub key : ℕ
  pub holds : slot_at slots slot ≡ Some key
  pub seat : Seat T
  pub at : seat_at seats key ≡ Some seat
  pub loaded : seat.is_loaded ≡ true
  pub is : seat.loaded ≡ l

not_row : {T : Type 0} (seat : Seat T) (row : Shelved T) → seat.is_loaded ≡ true → row_of (Some seat) ≡ Some row → ⊥
not_row {T} seat row loaded is = by seat.is_loaded loaded is
  where
    by : (b : Bool) → b ≡ true → (if b then None else Some (record { owner = seat.owner; content = seat.loaded.value })) ≡ Some row → ⊥
    by true on none = cc
    by false off some = false≢true off

-- a seat that isn't loaded is a row, and one that is is none
pub row_is : {T : Type 0} (seat : Seat T) → seat.is_loaded ≡ false → row_of (Some seat) ≡ Some (record { owner = seat.owner; content = seat.loaded.value })
row_is seat off = ap (λ b. if b then None else Some (record { owner = seat.owner; content = seat.loaded.value })) off

pub no_row_is : {T : Type 0} (seat : Seat T) → seat.is_loaded ≡ true → row_of (Some seat) ≡ None
no_row_is seat on = ap (λ b. if b then None else Some (record { owner = seat.owner; content = seat.loaded.value })) on

module _ {T : Type 0} (called : T → Name) (kind : Kind) (slots : List (Option ℕ)) (by_serial : Sorted ℕ ℕ) (records : Slab (Seat T)) (index : Sorted Name ℕ) (sound : IsSeated called kind slots by_serial records index) where
  abbrev cells : List (Option (Loaded T))
  cells = cells_in records.slots slots

  abbrev rows : List (Shelved T)
  rows = rows_in records.slots index.entries

  pub held_at : (slot : ℕ) (l : Loaded T) → cell_at (cells_in records.slots slots) slot ≡ Some l → IsHeldAt records.slots slots slot l
  held_at slot l there = by (slot_at slots slot) refl (sym (cells-at records.slots slots slot) ∙ there)
    where
      by : (c : Option ℕ) → slot_at slots slot ≡ c → held_in records.slots c ≡ Some l → IsHeldAt records.slots slots slot l
      by None is none = absurd (cc)
      by (Some key) is held =
          let s = sound.seated slot key is in
          record {
            key = key;
            holds = is;
            seat = s.seat;
            at = s.at;
            loaded = s.loaded;
            is = some_same s.seat.loaded l (sym (ap (option_map (λ (x : Seat T). x.loaded)) s.at) ∙ held);
          }

  -- a slot that holds a key holds what sits there
  pub shown_at : (slot key : ℕ) (seat : Seat T) → slot_at slots slot ≡ Some key → seat_at records.slots key ≡ Some seat → cell_at (cells_in records.slots slots) slot ≡ Some seat.loaded
  shown_at slot key seat holds at = cells-at records.slots slots slot ∙ ap (held_in records.slots) holds ∙ ap (option_map (λ (x : Seat T). x.loaded)) at

  pub placed : IsPlaced kind (cells_in records.slots slots)
  placed slot l there =
      let h = held_at slot l there in
      let s = sound.seated slot h.key h.holds in
      let same : s.seat.loaded ≡ l = ap (λ (x : Seat T). x.loaded) (some_same s.seat h.seat (sym s.at ∙ h.at)) ∙ h.is in
      (ap (λ (x : Loaded T). x.ident.slot) (sym same) ∙ s.slot_is, ap (λ (x : Loaded T). x.ident.kind) (sym same) ∙ s.kind_is)

  -- so the free slots are those that hold no key
  taken_is : (slot : ℕ) → IsSome (slot_at slots slot) → IsSome (cell_at (cells_in records.slots slots) slot)
  taken_is slot some = by (slot_at slots slot) refl some
    where
      by : (c : Option ℕ) → slot_at slots slot ≡ c → IsSome c → IsSome (cell_at (cells_in records.slots slots) slot)
      by None is none = absurd (false≢true none)
      by (Some key) is some =
          let s = sound.seated slot key is in
          some_is (cell_at (cells_in records.slots slots) slot) s.seat.loaded (shown_at slot key s.seat is s.at)

  pub lowest_free : (slot : ℕ) → IsLowestGap slots slot → IsLowestFree (cells_in records.slots slots) slot
  lowest_free slot gap = record {
    below = omega (arith, gap.below, length-map slots (held_in records.slots));
    free = cells-at records.slots slots slot ∙ ap (held_in records.slots) gap.free;
    lowest = λ other lower. taken_is other (gap.lowest other lower);
  }

  pub all_taken : HasNoGap slots → IsFull (cells_in records.slots slots)
  all_taken full slot within = taken_is slot (full slot (omega (arith, within, length-map slots (held_in records.slots))))

  -- two slots hold two keys
  pub one_slot : (i j key : ℕ) → slot_at slots i ≡ Some key → slot_at slots j ≡ Some key → i ≡ j
  one_slot i j key at_i at_j =
      let a = sound.seated i key at_i in
      let b = sound.seated j key at_j in
      sym a.slot_is ∙ ap (λ (x : Seat T). x.loaded.ident.slot) (some_same a.seat b.seat (sym a.at ∙ b.at)) ∙ b.slot_is

  pub one_name : (i j : ℕ) (a b : Loaded T) → cell_at (cells_in records.slots slots) i ≡ Some a → cell_at (cells_in records.slots slots) j ≡ Some b → called a.value ≡ called b.value → i ≡ j
  one_name i j a b at_i at_j same =
      let p = held_at i a at_i in
      let q = held_at j b at_j in
      let named : called p.seat.loaded.value ≡ called q.seat.loaded.value = ap (λ (x : Loaded T). called x.value) p.is ∙ same ∙ ap (λ (x : Loaded T). called x.value) (sym q.is) in
      let first = subst (λ n. Contains index.entries (n, p.key)) named (sound.listed p.key p.seat p.at) in
      let key = one_key index.entries (called q.seat.loaded.value) p.key q.key sound.index_is.rising first (sound.listed q.key q.seat q.at) in
      one_slot i j q.key (p.holds ∙ ap (λ k. Some k) key) q.holds

  -- the seat of a name
  pub kept_at : (name : Name) (key : ℕ) → Contains index.entries (name, key) → HasName called records.slots name key
  kept_at name key there = All-contains (λ (e : Name × ℕ). HasName called records.slots e.0 e.1) index.entries (name, key) sound.kept there

  pub lead_is : (name : Name) (key : ℕ) → LeadsTo called records.slots index.entries name key → Contains index.entries (name, key)
  lead_is name key leads = elim leads [
    | inl has ↦ subst (λ n. Contains index.entries (n, key)) has.2 (sound.listed key has.0 has.1)
    | inr there ↦ there
  ]

  pub row_under_is : (name : Name) (key : ℕ) → Contains index.entries (name, key) → row_under called (rows_in records.slots index.entries) name ≡ row_of (seat_at records.slots key)
  row_under_is name key there = row_at called records.slots name key index.entries sound.kept there.0 there.1 there.2 (others_apart index.entries name key there.0 sound.index_is.rising there.1 there.2)

  -- the seat that a name leads to has it
  pub seat_named : (name : Name) (key : ℕ) (seat : Seat T) → Contains index.entries (name, key) → seat_at records.slots key ≡ Some seat → called seat.loaded.value ≡ name
  seat_named name key seat there at =
      let own = kept_at name key there in
      ap (λ (x : Seat T). called x.loaded.value) (some_same seat own.0 (sym at ∙ own.1)) ∙ own.2

  -- a name of the shelf has a seat, which isn't loaded
  pub shelved_off : (name : Name) (key : ℕ) (seat : Seat T) → Contains index.entries (name, key) → seat_at records.slots key ≡ Some seat → IsSome (content_under called (rows_in records.slots index.entries) name) → seat.is_loaded ≡ false
  shelved_off name key seat there at some = by seat.is_loaded refl
    where
      by : (b : Bool) → seat.is_loaded ≡ b → b ≡ false
      by true on =
          let none = ap (option_map (λ (r : Shelved T). r.content)) (row_under_is name key there ∙ ap row_of at ∙ no_row_is seat on) in
          absurd (false≢true (sym (ap is_some none) ∙ some))
      by false off = refl

  pub shelved_there : (name : Name) → IsSome (content_under called (rows_in records.slots index.entries) name) → All (λ entry. entry.0 ≢ name) index.entries → ⊥
  shelved_there name some absent =
      let none = ap (option_map (λ (r : Shelved T). r.content)) (under-absent called (rows_in records.slots index.entries) name (rows-absent called records.slots name index.entries sound.kept absent)) in
      false≢true (sym (ap is_some none) ∙ some)

  -- a slot at which nothing stands holds no key
  pub slot_free : (slot : ℕ) → cell_at (cells_in records.slots slots) slot ≡ None → slot_at slots slot ≡ None
  slot_free slot none = by (slot_at slots slot) refl
    where
      by : (c : Option ℕ) → slot_at slots slot ≡ c → c ≡ None
      by None is = refl
      by (Some key) is =
          let s = sound.seated slot key is in
          let there = shown_at slot key s.seat is s.at in
          absurd (cc)

  -- what is loaded at a slot is what sits in the seat that the slot holds
  pub seat_there : (slot key : ℕ) (seat : Seat T) (l : Loaded T) → slot_at slots slot ≡ Some key → seat_at records.slots key ≡ Some seat → cell_at (cells_in records.slots slots) slot ≡ Some l → l ≡ seat.loaded
  seat_there slot key seat l holds at there = some_same l seat.loaded (sym there ∙ shown_at slot key seat holds at)

  pub seat_on : (slot key : ℕ) (seat : Seat T) → slot_at slots slot ≡ Some key → seat_at records.slots key ≡ Some seat → (seat.is_loaded ≡ true) × (seat.loaded.ident.slot ≡ slot)
  seat_on slot key seat holds at =
      let s = sound.seated slot key holds in
      let same = some_same s.seat seat (sym s.at ∙ at) in
      (ap (λ (x : Seat T). x.is_loaded) (sym same) ∙ s.loaded, ap (λ (x : Seat T). x.loaded.ident.slot) (sym same) ∙ s.slot_is)

  -- no row has the name of what is loaded
  pub apart : (slot : ℕ) (l : Loaded T) → cell_at (cells_in records.slots slots) slot ≡ Some l → HasNoRow called (rows_in records.slots index.entries) (called l.value)
  apart slot l there k d within same =
      let h = held_at slot l there in
      let row = get_or (rows_in records.slots index.entries) k d in
      let it = row_from records.slots index.entries row (Contains-get_or (rows_in records.slots index.entries) k d within) in
      let e = it.0 in
      let named = row_named called records.slots e.0 e.1 row (kept_at e.0 e.1 it.1) it.2 in
      let own = subst (λ n. Contains index.entries (n, h.key)) (ap (λ (x : Loaded T). called x.value) h.is ∙ sym same ∙ named) (sound.listed h.key h.seat h.at) in
      let key = one_key index.entries e.0 e.1 h.key sound.index_is.rising it.1 own in
      not_row h.seat row h.loaded (sym (ap row_of (ap (seat_at records.slots) key ∙ h.at)) ∙ it.2)

  pub names_once : AllPairs (λ a b. a.0 ≢ b.0) index.entries
  names_once i j d lt within = name_apart index.entries i j d sound.index_is.rising lt within

  -- what the contracts see is in order
  pub in_order : IsSound called kind (cells_in records.slots slots) (record { room = index.room; rows = rows_in records.slots index.entries })
  in_order = record {
    slots = record { placed = placed; one_serial = sound.serials.once; one_name = one_name };
    rows = record {
      once = rows-once called records.slots index.entries sound.kept names_once;
      few = omega (arith, sound.all, sound.index_is.few);
      small = sound.index_is.small;
    };
    apart = apart;
    roomy = omega (arith, sound.all, sound.index_is.few);
  }

  module _ (seen : Seen T) (is : seen_in slots records index ≡ seen) where
    pub seat_seen : (name : Name) (key : ℕ) (seat : Seat T) → Contains index.entries (name, key) → seat_at records.slots key ≡ Some seat → IsSeatOf called seen name seat
    seat_seen name key seat there at =
        let own = kept_at name key there in
        let named : called seat.loaded.value ≡ name = ap (λ (x : Seat T). called x.loaded.value) (some_same seat own.0 (sym at ∙ own.1)) ∙ own.2 in
        let Shown : Seen T → Type 0 = λ s. IsSeatOf called s name seat in
        subst Shown is (record {
          named = named;
          loaded = λ on. shown_at seat.loaded.ident.slot key seat (sound.slotted key seat at on) at;
          shelved = λ off. record {
            row = row_under_is name key there ∙ ap row_of at ∙ row_is seat off;
            unloaded = λ slot l here same.
                let h = held_at slot l here in
                let its = subst (λ n. Contains index.entries (n, h.key)) (ap (λ (x : Loaded T). called x.value) h.is ∙ same) (sound.listed h.key h.seat h.at) in
                let one = one_key index.entries name h.key key sound.index_is.rising its there in
                false≢true (sym off ∙ ap (λ (x : Seat T). x.is_loaded) (some_same seat h.seat (sym at ∙ ap (seat_at records.slots) (sym one) ∙ h.at)) ∙ h.loaded);
          };
        })

    -- a name that is seen nowhere is that of no entry
    pub new_name : (name : Name) → HasNoName called seen.cells name → HasNoRow called seen.shelf.rows name → All (λ entry. entry.0 ≢ name) index.entries
    new_name name unloaded absent k d within same =
        let e = get_or index.entries k d in
        let has = sound.kept k d within in
        let of = subst (λ n. IsSeatOf called seen n has.0) same (seat_seen e.0 e.1 has.0 (Contains-get_or index.entries k d within) has.1) in
        by has.0.is_loaded refl of
      where
        by : (b : Bool) → (sound.kept k d within).0.is_loaded ≡ b → IsSeatOf called seen name (sound.kept k d within).0 → ⊥
        by true on of = unloaded (sound.kept k d within).0.loaded.ident.slot (sound.kept k d within).0.loaded (of.loaded on) of.named
        by false off of =
            let row = (of.shelved off).row in
            let none = under-absent called seen.shelf.rows name absent in
            cc

    -- where no entry has a name, nothing has
    pub nothing_loaded : (name : Name) → All (λ entry. entry.0 ≢ name) index.entries → HasNoName called seen.cells name
    nothing_loaded name absent = subst (λ (s : Seen T). HasNoName called s.cells name) is (λ slot l there same.
        let h = held_at slot l there in
        All-contains (λ (e : Name × ℕ). e.0 ≢ name) index.entries (called h.seat.loaded.value, h.key) absent (sound.listed h.key h.seat h.at) (ap (λ (x : Loaded T). called x.value) h.is ∙ same))

    pub nothing_shelved : (name : Name) → All (λ entry. entry.0 ≢ name) index.entries → HasNoRow called seen.shelf.rows name
    nothing_shelved name absent = subst (λ (s : Seen T). HasNoRow called s.shelf.rows name) is (rows-absent called records.slots name index.entries sound.kept absent)
