-- A store once the content of a name changed where it stands.
use Rattle.std.proofs.Common.{◌≡◌, ◌≢◌, ℕ, zero, suc, ◌-◌, Bool, true, false, cond, count_by, is_some, List, [], ◌∷◌, get_or, Option, Some, None, sym, ◌∙◌, ap, subst, refl, arith}
use Rattle.std.specs.Option.{option_map}
use Rattle.std.specs.Prelude.{if◌then◌else◌}
use Rattle.std.proofs.lemmas.List.{length-map}
use Rattle.std.proofs.lemmas.List.Elements.{All-map}
use Rattle.std.proofs.lemmas.List.Sums.{sum_by-cons}
use Rattle.cache_ident.specs.declared.idents.Ident.{Ident}
use Rattle.cache_ident.specs.declared.idents.Kind.{Kind}
use Rattle.cache_ident.specs.declared.names.KernelNo.{KernelNo}
use Rattle.cache_ident.specs.declared.names.Name.{Name}
use Rattle.cache_ident.specs.Rolls.{is_same}
use Rattle.slot_cache.specs.declared.loaded.Loaded.{Loaded}
use Rattle.slot_cache.specs.Cells.{cell_at, changed, with_value, HasNoName}
use Rattle.slot_cache.proofs.SlotLemmas.{cell_within, some_same}
use Rattle.owner_shelf.specs.declared.shelved.Shelved.{Shelved}
use Rattle.owner_shelf.specs.Rows.{content_under, row_with, rows_with, OnShelf}
use Rattle.owner_shelf.proofs.NameLemmas.{eq_apart, eq_same}
use Rattle.owner_shelf.proofs.UpdateLemmas.{name-with, owner-with, under-with_other, under-with_same}
use Rattle.kind_store.specs.Changes.{cells_with, loaded_with, with_content, HasContent}
use Rattle.kind_store.specs.Kept.{content_of, count_of, is_called, kept_in, AreOwned, IsSound, Kept}
use Rattle.kind_store.specs.Rolls.{held_as, loaded_as}
use Rattle.kind_store.proofs.CellLemmas.{found-absent, found-there}
use Rattle.kind_store.proofs.ContentLemmas.{content-loaded, content-same, content-shelved, has-content, row_of_content}
use Rattle.kind_store.proofs.ProperLemmas.{IsOnce}

module _ {T : Type 0} (called : T → Name) (name : Name) where
  -- the content of a name that is loaded
  pub content_at : (kept : Kept T) → IsOnce (λ (x : Loaded T). called x.value) kept.cells → (slot : ℕ) (l : Loaded T) → cell_at kept.cells slot ≡ Some l → called l.value ≡ name → content_of called kept name ≡ Some l.value
  content_at kept once slot l there named =
      let found = found-there called kept.cells slot l there (λ other a at same. once other slot a l at there same) in
      subst (λ n. content_of called kept n ≡ Some l.value) named (content-loaded called kept (called l.value) l found)

  -- and of one that isn't
  pub content_off : (kept : Kept T) → HasNoName called kept.cells name → content_of called kept name ≡ content_under called kept.rows name
  content_off kept absent = content-shelved called kept name (found-absent called kept.cells name absent)

  module _ (left : T) where
    -- the identifier stays
    pub ident-with : (l : Loaded T) → (loaded_with called name left l).ident ≡ l.ident
    ident-with l = by (is_called called name l)
      where
        by : (b : Bool) → (if b then with_value left l else l).ident ≡ l.ident
        by true = refl
        by false = refl

    -- what stands at a slot
    pub cell-with : (cells : List (Option (Loaded T))) (slot : ℕ) → cell_at (cells_with called cells name left) slot ≡ option_map (loaded_with called name left) (cell_at cells slot)
    cell-with [] slot = refl
    cell-with (c ∷ cells) zero = refl
    cell-with (c ∷ cells) (suc slot) = cell-with cells slot

    -- as many slots are taken
    pub count-with : (cells : List (Option (Loaded T))) → count_by is_some (cells_with called cells name left) ≡ count_by is_some cells
    count-with [] = refl
    count-with (None ∷ cells) = omega (arith, count-with cells, sum_by-cons (λ (c : Option (Loaded T)). cond (is_some c) 1 0) None cells, sum_by-cons (λ (c : Option (Loaded T)). cond (is_some c) 1 0) None (cells_with called cells name left))
    count-with (Some x ∷ cells) = omega (arith, count-with cells, sum_by-cons (λ (c : Option (Loaded T)). cond (is_some c) 1 0) (Some x) cells, sum_by-cons (λ (c : Option (Loaded T)). cond (is_some c) 1 0) (Some (loaded_with called name left x)) (cells_with called cells name left))

    -- what is loaded with an identifier
    pub as-with : (cells : List (Option (Loaded T))) (i : Ident) → loaded_as (cells_with called cells name left) i ≡ option_map (loaded_with called name left) (loaded_as cells i)
    as-with cells i = ap (held_as i) (cell-with cells i.slot) ∙ by (cell_at cells i.slot)
      where
        choice : (b : Bool) (l : Loaded T) → (if b then Some (loaded_with called name left l) else None) ≡ option_map (loaded_with called name left) (if b then Some l else None)
        choice true l = refl
        choice false l = refl

        by : (c : Option (Loaded T)) → held_as i (option_map (loaded_with called name left) c) ≡ option_map (loaded_with called name left) (held_as i c)
        by None = refl
        by (Some l) = ap (λ (j : Ident). if is_same j i then Some (loaded_with called name left l) else None) (ident-with l) ∙ choice (is_same l.ident i) l

    other_stays : (l : Loaded T) → called l.value ≢ name → loaded_with called name left l ≡ l
    other_stays l apart = ap (λ b. if b then with_value left l else l) (eq_apart (called l.value) name apart)

    -- where nothing that is loaded has the name, nothing that is loaded changes
    pub cells-absent : (cells : List (Option (Loaded T))) → HasNoName called cells name → cells_with called cells name left ≡ cells
    cells-absent [] absent = refl
    cells-absent (None ∷ cells) absent = ap (λ (cs : List (Option (Loaded T))). None ∷ cs) (cells-absent cells (λ slot. absent (suc slot)))
    cells-absent (Some x ∷ cells) absent = ap (λ (l : Loaded T). Some l ∷ cells_with called cells name left) (other_stays x (absent 0 x refl)) ∙ ap (λ (cs : List (Option (Loaded T))). Some x ∷ cs) (cells-absent cells (λ slot. absent (suc slot)))

    -- where something has, that changes
    pub cells-there : (cells : List (Option (Loaded T))) (slot : ℕ) (l : Loaded T) → cell_at cells slot ≡ Some l → called l.value ≡ name → ((other : ℕ) (a : Loaded T) → cell_at cells other ≡ Some a → called a.value ≡ name → other ≡ slot) → cells_with called cells name left ≡ changed cells slot (with_value left)
    cells-there [] slot l there named one = absurd (omega (arith, cell_within [] slot l there))
    cells-there (None ∷ cells) zero l there named one = absurd (cc)
    cells-there (None ∷ cells) (suc slot) l there named one = ap (λ (cs : List (Option (Loaded T))). None ∷ cs) (cells-there cells slot l there named (λ other a at same. omega (arith, one (suc other) a at same)))
    cells-there (Some x ∷ cells) zero l there named one =
        let own = eq_same (called x.value) name (ap (λ (a : Loaded T). called a.value) (some_same x l there) ∙ named) in
        let rest = cells-absent cells (λ other a at same. absurd (omega (arith, one (suc other) a at same))) in
        ap (λ b. Some (if b then with_value left x else x) ∷ cells_with called cells name left) own ∙ ap (λ (cs : List (Option (Loaded T))). Some (with_value left x) ∷ cs) rest
    cells-there (Some x ∷ cells) (suc slot) l there named one =
        let off = other_stays x (λ same. absurd (omega (arith, one 0 x refl same))) in
        ap (λ (a : Loaded T). Some a ∷ cells_with called cells name left) off ∙ ap (λ (cs : List (Option (Loaded T))). Some x ∷ cs) (cells-there cells slot l there named (λ other a at same. omega (arith, one (suc other) a at same)))

    -- all together
    pub named-view : (cells : List (Option (Loaded T))) (shelf : OnShelf T) → kept_in (cells_with called cells name left) (record shelf { rows = rows_with called shelf.rows name left }) ≡ with_content called (kept_in cells shelf) name left
    named-view cells shelf =
        let count : count_of (cells_with called cells name left) (rows_with called shelf.rows name left) ≡ count_of cells shelf.rows = omega (arith, count-with cells, length-map shelf.rows (row_with called name left)) in
        ap (λ n. record { cells = cells_with called cells name left; rows = rows_with called shelf.rows name left; room = shelf.room - n }) count

    module _ (kind : Kind) (cells : List (Option (Loaded T))) (shelf : OnShelf T) (sound : IsSound called kind cells shelf) where
      module _ (same : called left ≡ name) (unloaded : HasNoName called cells name) where
        abbrev after : OnShelf T
        after = record shelf { rows = rows_with called shelf.rows name left }

        pub named-contents : (was : T) → content_under called shelf.rows name ≡ Some was → HasContent called (kept_in cells shelf) (kept_in cells (record shelf { rows = rows_with called shelf.rows name left })) name left
        named-contents was there =
            let old = kept_in cells shelf in
            let new = kept_in cells after in
            let row = row_of_content called shelf.rows name was there in
            let now = ap (option_map (λ (r : Shelved T). r.content)) (under-with_same called name left same shelf.rows row.0 row.1) in
            has-content called old new name (λ other apart. content-same called old new other refl (under-with_other called name left same shelf.rows other apart)) left (content_off new unloaded ∙ now)

    -- the owners stay
    pub named-owned : called left ≡ name → (owner_of : Name → Option KernelNo) (rows : List (Shelved T)) → AreOwned called owner_of rows → AreOwned called owner_of (rows_with called rows name left)
    named-owned same owner_of rows owned = All-map (λ (r : Shelved T). owner_of (called r.content) ≡ Some r.owner) (row_with called name left) rows (λ k d within. let r = get_or rows k d in ap owner_of (name-with called name left same r) ∙ owned k d within ∙ ap (λ (o : KernelNo). Some o) (sym (owner-with called name left same r)))
