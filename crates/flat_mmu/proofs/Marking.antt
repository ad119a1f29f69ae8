-- The mark of an access in the rows is its mark in the pages of the space.
use Rattle.std.proofs.Common.{◌≡◌, ℕ, Bool, true, false, ◌&&◌, ◌||◌, cond, eqb, List, [], ◌∷◌, length, map, Option, Some, None, refl, sym, ◌∙◌, ap, ap₂, inl, inr}
use Rattle.std.specs.List.{filter}
use Rattle.std.proofs.Math.Path.{fun_ext}
use Rattle.std.proofs.lemmas.Bool.{and_parts, cases_Bool}
use Rattle.cache_ident.specs.declared.names.Frame.{Frame}
use Rattle.cache_ident.specs.declared.names.SpaceNo.{SpaceNo}
use Rattle.phys_groups.specs.declared.rows.Row.{Row}
use Rattle.phys_groups.specs.Memory.{page_at}
use Rattle.phys_groups.specs.Translation.{is_row_of}
use Rattle.rv32_exec.specs.declared.statuses.Access.{Access}
use Rattle.rv32_exec.specs.declared.statuses.Access.TheVariants.{Fetch, Read, Write}
use Rattle.rv32_exec.specs.Pages.{Page, is_write, mark, mark_page}
use Rattle.flat_rules.specs.flat_state.specs.Pages.{is_in, page_of, pages_in}
use Rattle.flat_rules.specs.flat_state.specs.Rest.{is_mapped, rest_of, unmarked}
use Rattle.phys_groups.specs.Rows.{marked}

or_false : (b : Bool) → (b || false) ≡ b
or_false false = refl
or_false true = refl

or_true : (b : Bool) → (b || true) ≡ true
or_true false = refl
or_true true = refl

-- an element more, in both lists or in neither
both : {X Y : Type 0} (f : X → Y) (h : Y → Y) (x' x : X) (xs' xs : List X) (a b : Bool) → a ≡ true → b ≡ true → f x' ≡ h (f x) → map f xs' ≡ map h (map f xs) → map f (cond a (x' ∷ xs') xs') ≡ map h (map f (cond b (x ∷ xs) xs))
both f h x' x xs' xs a b yes-a yes-b first rest = rw (yes-a, yes-b, first, rest) refl

neither : {X Y : Type 0} (f : X → Y) (h : Y → Y) (x' x : X) (xs' xs : List X) (a b : Bool) → a ≡ false → b ≡ false → map f xs' ≡ map h (map f xs) → map f (cond a (x' ∷ xs') xs') ≡ map h (map f (cond b (x ∷ xs) xs))
neither f h x' x xs' xs a b no-a no-b rest = rw (no-a, no-b, rest) refl

module _ (space : SpaceNo) (n : ℕ) where
  marked-row : (w : Bool) (row : Row) → is_row_of space n row ≡ true → marked space n w row ≡ record row { referenced = true; modified = row.modified || w }
  marked-row w row own = rw own refl

  marked-other : (w : Bool) (row : Row) → is_row_of space n row ≡ false → marked space n w row ≡ row
  marked-other w row other = rw other refl

  marked-space : (w : Bool) (row : Row) → is_in space (marked space n w row) ≡ is_in space row
  marked-space w row = elim (cases_Bool (is_row_of space n row)) [ inl own ↦ ap (is_in space) (marked-row w row own) | inr other ↦ ap (is_in space) (marked-other w row other) ]

  module _ (rights : List (Bool × Bool)) (memory : List ℕ) where
    mark-own : (access : Access) (row : Row) → page_of rights memory (record row { referenced = true; modified = row.modified || is_write access }) ≡ mark access (page_of rights memory row)
    mark-own Fetch row = ap (λ (b : Bool). record (page_of rights memory row) { touched = true; written = b }) (or_false row.modified)
    mark-own Read row = ap (λ (b : Bool). record (page_of rights memory row) { touched = true; written = b }) (or_false row.modified)
    mark-own Write row = ap (λ (b : Bool). record (page_of rights memory row) { touched = true; written = b }) (or_true row.modified)

    marked_page : (access : Access) (p : Page) (b : Bool) → eqb p.number n ≡ b → mark_page n access p ≡ cond b (mark access p) p
    marked_page access p b e = rw e refl

    mark-page : (access : Access) (row : Row) → is_in space row ≡ true → page_of rights memory (marked space n (is_write access) row) ≡ mark_page n access (page_of rights memory row)
    mark-page access row inside = elim (cases_Bool (eqb row.vpn.0 n)) [
      | inl own ↦ ap (page_of rights memory) (marked-row (is_write access) row (rw (inside, own) refl)) ∙ mark-own access row ∙ sym (marked_page access (page_of rights memory row) true own)
      | inr other ↦ ap (page_of rights memory) (marked-other (is_write access) row (rw (inside, other) refl)) ∙ sym (marked_page access (page_of rights memory row) false other)
    ]

    pub mark-pages : (access : Access) (rows : List Row) → pages_in rights memory (map (marked space n (is_write access)) rows) space ≡ map (mark_page n access) (pages_in rights memory rows space)
    mark-pages access [] = refl
    mark-pages access (row ∷ rows) = elim (cases_Bool (is_in space row)) [
      | inl inside ↦ both (page_of rights memory) (mark_page n access) (marked space n (is_write access) row) row (filter (is_in space) (map (marked space n (is_write access)) rows)) (filter (is_in space) rows) (is_in space (marked space n (is_write access) row)) (is_in space row) (marked-space (is_write access) row ∙ inside) inside (mark-page access row inside) (mark-pages access rows)
      | inr beside ↦ neither (page_of rights memory) (mark_page n access) (marked space n (is_write access) row) row (filter (is_in space) (map (marked space n (is_write access)) rows)) (filter (is_in space) rows) (is_in space (marked space n (is_write access) row)) (is_in space row) (marked-space (is_write access) row ∙ beside) beside (mark-pages access rows)
    ]

  unmarked-marked : (w : Bool) (row : Row) → unmarked space (marked space n w row) ≡ unmarked space row
  unmarked-marked w row = elim (cases_Bool (is_row_of space n row)) [
    | inl own ↦
        let inside : is_in space row ≡ true = (and_parts (is_in space row) (eqb row.vpn.0 n) own).0 in
        ap (unmarked space) (marked-row w row own) ∙ rw inside refl
    | inr other ↦ ap (unmarked space) (marked-other w row other)
  ]

  unmarked-map : (w : Bool) (rows : List Row) → map (unmarked space) (map (marked space n w) rows) ≡ map (unmarked space) rows
  unmarked-map w [] = refl
  unmarked-map w (row ∷ rows) = ap₂ (λ (r : Row) (rs : List Row). r ∷ rs) (unmarked-marked w row) (unmarked-map w rows)

  marked-frame : (w : Bool) (row : Row) → (marked space n w row).frame ≡ row.frame
  marked-frame w row = elim (cases_Bool (is_row_of space n row)) [ inl own ↦ ap (λ (r : Row). r.frame) (marked-row w row own) | inr other ↦ ap (λ (r : Row). r.frame) (marked-other w row other) ]

  mapped-marked : (w : Bool) (rows : List Row) (f : Frame) → is_mapped (map (marked space n w) rows) space f ≡ is_mapped rows space f
  mapped-marked w [] f = refl
  mapped-marked w (row ∷ rows) f = ap₂ (λ (a b : Bool). a || b) (ap₂ (λ (a : Bool) (g : Frame). a && eqb g.0 f.0) (marked-space w row) (marked-frame w row)) (mapped-marked w rows f)

  pub rest-marked : (rights : List (Bool × Bool)) (memory : List ℕ) (w : Bool) (rows : List Row) → rest_of rights memory (map (marked space n w) rows) space ≡ rest_of rights memory rows space
  rest-marked rights memory w rows =
      ap₂ (λ (rs : List Row) (frames : Frame → Option (List ℕ)). record { rights = rights; space = space; rows = rs; size = length memory; frames = frames }) (unmarked-map w rows) (fun_ext (λ f. ap (λ (b : Bool). cond b None (Some (page_at memory f))) (mapped-marked w rows f)))
