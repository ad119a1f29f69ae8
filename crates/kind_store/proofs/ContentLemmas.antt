-- Which content a name has, once a descriptor has moved or changed.
use Rattle.std.proofs.Common.{◌≡◌, ◌≢◌, ◌⊎◌, ℕ, ◌<◌, Bool, true, false, List, length, set, Option, Some, None, sym, ◌∙◌, ap, subst, inl, inr, refl}
use Rattle.std.specs.Option.{option_map, option_or}
use Rattle.std.proofs.lemmas.Bool.{cases_eq}
use Rattle.cache_ident.specs.declared.names.Name.{Name}
use Rattle.sorted_list.specs.Sorted.{IsAdded}
use Rattle.slot_cache.specs.declared.loaded.Loaded.{Loaded}
use Rattle.slot_cache.specs.Cells.{cell_at, HasNoName}
use Rattle.slot_cache.proofs.SlotLemmas.{cell_within, elsewhere, here, not_none, some_same}
use Rattle.owner_shelf.specs.declared.shelved.Shelved.{Shelved}
use Rattle.owner_shelf.specs.Rows.{content_under, row_under, rows_without, HasNoRow}
use Rattle.owner_shelf.proofs.NameLemmas.{eq_apart, eq_same, same_by_eq}
use Rattle.owner_shelf.proofs.RowLaws.{absent-without, found_named, under-absent, under-added_other, under-added_same, under-without_other}
use Rattle.owner_shelf.proofs.SoundLemmas.{nothing_found}
use Rattle.kind_store.specs.Kept.{content_of, Kept}
use Rattle.kind_store.specs.Changes.{is_name, HasContent, HasNoContent, KeepsContents}
use Rattle.kind_store.proofs.CellLemmas.{found, found-absent, found-set_other, found-there}
use Rattle.kind_store.proofs.ProperLemmas.{was_there, IsOnce}

-- two names are one or not
pub cases_name : (a b : Name) → (a ≡ b) ⊎ (a ≢ b)
cases_name a b = by (is_name a b) refl
  where
    by : (t : Bool) → is_name a b ≡ t → (a ≡ b) ⊎ (a ≢ b)
    by true passes = inl (same_by_eq a b passes)
    by false fails = inr (λ same. cc (sym fails ∙ eq_same a b same))

module _ {T : Type 0} (called : T → Name) where
  -- where the row of a name is known
  pub row_of_content : (rows : List (Shelved T)) (name : Name) (value : T) → content_under called rows name ≡ Some value → (row : Shelved T) × (row_under called rows name ≡ Some row) × (row.content ≡ value)
  row_of_content rows name value found = by (row_under called rows name) refl found
    where
      by : (o : Option (Shelved T)) → row_under called rows name ≡ o → option_map (λ row. row.content) o ≡ Some value → (row : Shelved T) × (row_under called rows name ≡ Some row) × (row.content ≡ value)
      by None is none = absurd (cc)
      by (Some row) is some = (row, is, some_same row.content value some)

  pub content_named : (rows : List (Shelved T)) (name : Name) (value : T) → content_under called rows name ≡ Some value → called value ≡ name
  content_named rows name value found =
      let row = row_of_content rows name value found in
      ap called (sym row.2) ∙ found_named called rows name row.0 row.1

  -- a name of the shelf is that of some row
  pub not_absent : (rows : List (Shelved T)) (name : Name) (value : T) → content_under called rows name ≡ Some value → HasNoRow called rows name → ⊥
  not_absent rows name value found absent =
      let row = row_of_content rows name value found in
      let none = under-absent called rows name absent in
      cc

  module _ (kept : Kept T) (name : Name) where
    -- the content of a name that is loaded
    pub content-loaded : (loaded : Loaded T) → found called kept.cells name ≡ Some loaded → content_of called kept name ≡ Some loaded.value
    unfolding content_of
    content-loaded loaded there = rw there refl

    -- and of one that isn't
    pub content-shelved : found called kept.cells name ≡ None → content_of called kept name ≡ content_under called kept.rows name
    unfolding content_of
    content-shelved none = rw none refl

    content_parts : content_of called kept name ≡ None → (found called kept.cells name ≡ None) × (content_under called kept.rows name ≡ None)
    unfolding content_of
    content_parts none = by (found called kept.cells name) refl none
      where
        by : (o : Option (Loaded T)) → found called kept.cells name ≡ o → option_or (option_map (λ l. l.value) o) (content_under called kept.rows name) ≡ None → (found called kept.cells name ≡ None) × (content_under called kept.rows name ≡ None)
        by None is rest = (is, rest)
        by (Some l) is some = absurd (cc)

    -- a name with no content is nowhere
    pub no_loaded : IsOnce (λ (x : Loaded T). called x.value) kept.cells → content_of called kept name ≡ None → HasNoName called kept.cells name
    no_loaded once none slot l there same =
        let parts = content_parts none in
        let some = found-there called kept.cells slot l there (λ other a at one. once other slot a l at there one) in
        let none : found called kept.cells (called l.value) ≡ None = subst (λ n. found called kept.cells n ≡ None) (sym same) parts.0 in
        cc

    pub no_row : content_of called kept name ≡ None → HasNoRow called kept.rows name
    no_row none = nothing_found called kept.rows name (content_parts none).1

  module _ (old new : Kept T) (name : Name) (others : (other : Name) → name ≢ other → content_of called new other ≡ content_of called old other) where
    -- by the name that moved or changed, and the others
    pub has-content : (value : T) → content_of called new name ≡ Some value → HasContent called old new name value
    has-content value is other = elim (cases_name name other) [
      | inl same ↦ rw (eq_same name other same) (subst (λ n. content_of called new n ≡ Some value) same is)
      | inr apart ↦ rw (eq_apart name other apart) (others other apart)
    ]

    pub has-no-content : content_of called new name ≡ None → HasNoContent called old new name
    has-no-content none other = elim (cases_name name other) [
      | inl same ↦ rw (eq_same name other same) (subst (λ n. content_of called new n ≡ None) same none)
      | inr apart ↦ rw (eq_apart name other apart) (others other apart)
    ]

    pub keeps-content : content_of called new name ≡ content_of called old name → KeepsContents called old new
    keeps-content same other = elim (cases_name name other) [
      | inl is ↦ subst (λ n. content_of called new n ≡ content_of called old n) is same
      | inr apart ↦ others other apart
    ]

  -- a name keeps its content where cells and rows keep what they have of it
  pub content-same : (old new : Kept T) (name : Name) → found called new.cells name ≡ found called old.cells name → row_under called new.rows name ≡ row_under called old.rows name → content_of called new name ≡ content_of called old name
  unfolding content_of
  content-same old new name loaded shelved = rw (loaded, shelved) refl

  -- a row of the shelf went for good
  pub contents-retracting : (cells : List (Option (Loaded T))) (rows : List (Shelved T)) (room new_room : ℕ) (name : Name) → HasNoName called cells name → HasNoContent called (record { cells = cells; rows = rows; room = room }) (record { cells = cells; rows = rows_without called rows name; room = new_room }) name
  contents-retracting cells rows room new_room name unloaded =
      let before : Kept T = record { cells = cells; rows = rows; room = room } in
      let after : Kept T = record { cells = cells; rows = rows_without called rows name; room = new_room } in
      let none = under-absent called (rows_without called rows name) name (absent-without called rows name) in
      has-no-content before after name (λ other apart. content-same before after other refl (under-without_other called rows name other apart)) (content-shelved after name (found-absent called cells name unloaded) ∙ ap (option_map (λ (r : Shelved T). r.content)) none)

  module _ (cells : List (Option (Loaded T))) (rows new_rows : List (Shelved T)) (room new_room : ℕ) where
    abbrev old : Kept T
    old = record { cells = cells; rows = rows; room = room }

    abbrev with_rows : Kept T
    with_rows = record { cells = cells; rows = new_rows; room = new_room }

    -- a new descriptor came to the shelf
    pub contents-declaring : (row : Shelved T) → HasNoName called cells (called row.content) → HasNoRow called rows (called row.content) → IsAdded rows new_rows row → HasContent called (record { cells = cells; rows = rows; room = room }) (record { cells = cells; rows = new_rows; room = new_room }) (called row.content) row.content
    contents-declaring row unloaded absent added =
        let name = called row.content in
        let there = under-added_same called rows new_rows row added absent in
        has-content old with_rows name (λ other apart. content-same old with_rows other refl (under-added_other called rows new_rows row other added apart)) row.content (content-shelved with_rows name (found-absent called cells name unloaded) ∙ ap (option_map (λ (r : Shelved T). r.content)) there)

    -- a row of the shelf gave way to another one of its name
    pub contents-exchanging : (row : Shelved T) → HasNoName called cells (called row.content) → IsAdded (rows_without called rows (called row.content)) new_rows row → HasContent called (record { cells = cells; rows = rows; room = room }) (record { cells = cells; rows = new_rows; room = new_room }) (called row.content) row.content
    contents-exchanging row unloaded added =
        let name = called row.content in
        let rest = rows_without called rows name in
        let there = under-added_same called rest new_rows row added (absent-without called rows name) in
        has-content old with_rows name (λ other apart. content-same old with_rows other refl (under-added_other called rest new_rows row other added apart ∙ under-without_other called rows name other apart)) row.content (content-shelved with_rows name (found-absent called cells name unloaded) ∙ ap (option_map (λ (r : Shelved T). r.content)) there)

    module _ (slot : ℕ) (e : Loaded T) (there : cell_at cells slot ≡ Some e) (once : IsOnce (λ (x : Loaded T). called x.value) cells) where
      -- what was loaded came to the shelf
      pub contents-leaving : (row : Shelved T) → row.content ≡ e.value → HasNoRow called rows (called row.content) → IsAdded rows new_rows row → KeepsContents called (record { cells = cells; rows = rows; room = room }) (record { cells = set cells slot None; rows = new_rows; room = new_room })
      contents-leaving row content absent added =
          let new : Kept T = record { cells = set cells slot None; rows = new_rows; room = new_room } in
          let name = called e.value in
          let row_name = ap called content in
          let within = cell_within cells slot e there in
          let none = found-absent called (set cells slot None) name (λ other a at same. not_none (set cells slot None) slot a (subst (λ k. cell_at (set cells slot None) k ≡ Some a) (once other slot a e (was_there cells slot within other a at) there same) at) (here cells slot None within)) in
          let shelved = subst (λ n. row_under called new_rows n ≡ Some row) row_name (under-added_same called rows new_rows row added absent) in
          let now = content-shelved new name none ∙ ap (option_map (λ (r : Shelved T). r.content)) shelved ∙ ap (λ x. Some x) content in
          let before = content-loaded old name e (found-there called cells slot e there (λ other a at same. once other slot a e at there same)) in
          keeps-content old new name (λ other apart. content-same old new other (found-set_other called cells slot None other (λ l is same. apart (ap (λ (x : Loaded T). called x.value) (some_same e l (sym there ∙ is)) ∙ same)) (λ l is. absurd (cc))) (under-added_other called rows new_rows row other added (λ same. apart (sym row_name ∙ same)))) (now ∙ sym before)

      module _ (x : Loaded T) (same_name : called x.value ≡ called e.value) where
        changed_there : content_of called (record { cells = set cells slot (Some x); rows = rows; room = new_room }) (called x.value) ≡ Some x.value
        changed_there =
            let new : Kept T = record { cells = set cells slot (Some x); rows = rows; room = new_room } in
            let within = cell_within cells slot e there in
            content-loaded new (called x.value) x (found-there called (set cells slot (Some x)) slot x (here cells slot (Some x) within) (λ other a at same. elim (cases_eq other slot) [
              | inl is ↦ is
              | inr apart ↦ once other slot a e (sym (elsewhere cells slot other (Some x) apart) ∙ at) there (same ∙ same_name)
            ]))

        changed_others : (other : Name) → called x.value ≢ other → content_of called (record { cells = set cells slot (Some x); rows = rows; room = new_room }) other ≡ content_of called (record { cells = cells; rows = rows; room = room }) other
        changed_others other apart =
            let new : Kept T = record { cells = set cells slot (Some x); rows = rows; room = new_room } in
            content-same old new other (found-set_other called cells slot (Some x) other (λ l is same. apart (same_name ∙ ap (λ (y : Loaded T). called y.value) (some_same e l (sym there ∙ is)) ∙ same)) (λ l is same. apart (ap (λ (y : Loaded T). called y.value) (some_same x l is) ∙ same))) refl

        -- what is loaded changed in its place
        pub contents-changing : HasContent called (record { cells = cells; rows = rows; room = room }) (record { cells = set cells slot (Some x); rows = rows; room = new_room }) (called x.value) x.value
        contents-changing = has-content old (record { cells = set cells slot (Some x); rows = rows; room = new_room }) (called x.value) changed_others x.value changed_there

        -- or its lock did
        pub contents-locking : x.value ≡ e.value → KeepsContents called (record { cells = cells; rows = rows; room = room }) (record { cells = set cells slot (Some x); rows = rows; room = new_room })
        contents-locking same =
            let before = content-loaded old (called x.value) e (subst (λ n. found called cells n ≡ Some e) (sym same_name) (found-there called cells slot e there (λ other a at one. once other slot a e at there one))) in
            keeps-content old (record { cells = set cells slot (Some x); rows = rows; room = new_room }) (called x.value) changed_others (changed_there ∙ ap (λ v. Some v) same ∙ sym before)

    -- what stood on the shelf came into a free slot
    pub contents-loading : (slot : ℕ) (x : Loaded T) → slot < length cells → cell_at cells slot ≡ None → HasNoName called cells (called x.value) → content_under called rows (called x.value) ≡ Some x.value → KeepsContents called (record { cells = cells; rows = rows; room = room }) (record { cells = set cells slot (Some x); rows = rows_without called rows (called x.value); room = new_room })
    contents-loading slot x within free unloaded shelved =
        let new : Kept T = record { cells = set cells slot (Some x); rows = rows_without called rows (called x.value); room = new_room } in
        let name = called x.value in
        let now = content-loaded new name x (found-there called (set cells slot (Some x)) slot x (here cells slot (Some x) within) (λ other a at same. elim (cases_eq other slot) [
          | inl is ↦ is
          | inr apart ↦ absurd (unloaded other a (sym (elsewhere cells slot other (Some x) apart) ∙ at) same)
        ])) in
        let before = content-shelved old name (found-absent called cells name unloaded) ∙ shelved in
        keeps-content old new name (λ other apart. content-same old new other (found-set_other called cells slot (Some x) other (λ l is. absurd (not_none cells slot l is free)) (λ l is same. apart (ap (λ (y : Loaded T). called y.value) (some_same x l is) ∙ same))) (under-without_other called rows name other apart)) (now ∙ sym before)
