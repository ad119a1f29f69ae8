-- What a step leaves in the pages of a space tells what it leaves in memory and in the rows.
use Rattle.std.proofs.Common.{◌≡◌, ℕ, zero, suc, ◌+◌, ◌*◌, ◌/◌, ◌%◌, ◌<◌, ◌≤◌, Bool, true, false, ◌&&◌, ◌||◌, eqb, cond, List, [], ◌∷◌, ◌⊎◌, length, map, drop, get_or, Some, None, refl, sym, ◌∙◌, ap, ap₂, subst, subst₂, inl, inr, arith}
use Rattle.std.specs.List.{filter, find, list_any, slice_get, Contains}
use Rattle.std.specs.Option.{option_map}
use Rattle.std.proofs.lemmas.Bool.{and_from, cases_Bool, cases_eq, eq-eqb, eqb-true, false≢true, ne_eqb}
use Rattle.std.proofs.lemmas.List.{ext_get_or}
use Rattle.std.proofs.lemmas.List.Elements.{All-contains_itself, All-filter, Contains-append_right}
use Rattle.std.proofs.lemmas.Option.{slice_get-get_or}
use Rattle.std.proofs.Math.Nat.{suc-ne-zero}
use Rattle.cache_ident.specs.declared.names.Frame.{Frame}
use Rattle.cache_ident.specs.declared.names.SpaceNo.{SpaceNo}
use Rattle.phys_groups.specs.declared.rows.Row.{Row}
use Rattle.phys_groups.specs.Memory.{page_at, with_page}
use Rattle.phys_groups.specs.Rows.{HasOneRowAPage}
use Rattle.phys_groups.specs.Translation.{is_row_of, row_of}
use Rattle.phys_groups.proofs.Pages.{length-page_at, length-with_page, page_at-with_page, page_at-with_page_other}
use Rattle.phys_groups.proofs.PageBytes.{get_or-page_at}
use Rattle.flat_state.specs.Pages.{is_in, page_of, pages_in, with_marks, with_pages}
use Rattle.flat_state.specs.Rest.{is_mapped, unmapped_page, unmarked}
use Rattle.flat_state.proofs.Finding.{find-map-filter}

-- memories that have the same frames are equal
same_frames : (k : ℕ) (m n : List ℕ) → length m ≡ 4096 * k → length n ≡ 4096 * k → ((f : Frame) → f.0 < k → page_at m f ≡ page_at n f) → m ≡ n
same_frames k m n size-m size-n same =
    ext_get_or 0 m n (size-m ∙ sym size-n) (λ i within.
    let f : Frame = record { 0 = i / 4096 } in
    subst (λ (j : ℕ). get_or m j 0 ≡ get_or n j 0) {x = 4096 * (i / 4096) + i % 4096} (omega arith) (sym (get_or-page_at m f (i % 4096) 0 (omega arith)) ∙ ap (λ (page : List ℕ). get_or page (i % 4096) 0) (same f (omega (arith, within, size-m))) ∙ get_or-page_at n f (i % 4096) 0 (omega arith)))

module _ (rights : List (Bool × Bool)) (k : ℕ) (target : List ℕ) (size : length target ≡ 4096 * k) where
  -- memory that differs from the target in frames of the pages alone becomes the target
  pub with_pages-target : (rows : List Row) (m : List ℕ) → length m ≡ 4096 * k → ((row : Row) → Contains rows row → row.frame.0 < k) → ((f : Frame) → f.0 < k → (page_at m f ≡ page_at target f) ⊎ (list_any (λ row. eqb row.frame.0 f.0) rows ≡ true)) → with_pages m (map (page_of rights target) rows) ≡ target
  with_pages-target [] m size-m within differs = same_frames k m target size-m size (λ f below. elim (differs f below) [ inl same ↦ same | inr any ↦ absurd (false≢true any) ])
  with_pages-target (row ∷ rows) m size-m within differs =
      let below : row.frame.0 < k = within row (0, omega arith, refl) in
      let room : 4096 * row.frame.0 + 4096 ≤ length m = omega (arith, below, size-m) in
      let whole : length (page_at target row.frame) ≡ 4096 = length-page_at target row.frame (omega (arith, below, size)) in
      with_pages-target rows (with_page m row.frame (page_at target row.frame)) (length-with_page m row.frame (page_at target row.frame) room whole ∙ size-m) (λ r there. within r (Contains-append_right (row ∷ []) rows r there)) (λ f f-below. elim (cases_eq f.0 row.frame.0) [
        | inl same ↦ inl (subst (λ (g : Frame). page_at (with_page m row.frame (page_at target row.frame)) g ≡ page_at target g) {x = row.frame} (ap (λ (n : ℕ). record { 0 = n }) (sym same)) (page_at-with_page m row.frame (page_at target row.frame) room whole))
        | inr other ↦ elim (differs f f-below) [
          | inl same ↦ inl (page_at-with_page_other m row.frame (page_at target row.frame) f room whole other ∙ same)
          | inr any ↦ inr (ap (λ (b : Bool). b || list_any (λ r. eqb r.frame.0 f.0) rows) (sym (ne_eqb row.frame.0 f.0 (λ e. other (sym e)))) ∙ any)
        ]
      ])

-- a frame that some row of the space maps is that of one of the space's rows
mapped-filter : (space : SpaceNo) (f : Frame) (rows : List Row) → is_mapped rows space f ≡ true → list_any (λ row. eqb row.frame.0 f.0) (filter (is_in space) rows) ≡ true
mapped-filter space f [] mapped = mapped
mapped-filter space f (row ∷ rows) mapped = elim (cases_Bool (is_in space row)) [
  | inl inside ↦ rw inside (elim (cases_Bool (eqb row.frame.0 f.0)) [
    | inl same ↦ rw same refl
    | inr other ↦ rw other (mapped-filter space f rows (rw (inside, other) at mapped))
  ])
  | inr outside ↦ rw outside (mapped-filter space f rows (rw outside at mapped))
]

-- of two frames one is that of no page, and has the bytes that the other has
outside : (b : Bool) (page target : List ℕ) → cond b None (Some page) ≡ Some target → page ≡ target
outside true page target e = grind (arith, e)
outside false page target e = grind (arith, e)

-- what passes a filter was there
pub filter-contains : {X : Type 0} (p : X → Bool) (xs : List X) (x : X) → Contains (filter p xs) x → Contains xs x
filter-contains p xs x (j, within, e) = subst (Contains xs) e (All-filter p (Contains xs) xs (All-contains_itself xs) j x within)

-- Memory is the target, where the pages of the space have the target's bytes, and the frames of no page are as they were.
pub written_back-memory : (rights : List (Bool × Bool)) (space : SpaceNo) (k : ℕ) (m target : List ℕ) (rows rows' : List Row) → length m ≡ 4096 * k → length target ≡ 4096 * k → ((row : Row) → Contains rows' row → row.frame.0 < k) → ((f : Frame) → unmapped_page target rows' space f ≡ unmapped_page m rows space f) → with_pages m (pages_in rights target rows' space) ≡ target
written_back-memory rights space k m target rows rows' size-m size within kept =
    with_pages-target rights k target size (filter (is_in space) rows') m size-m (λ row there. within row (filter-contains (is_in space) rows' row there)) (λ f below. elim (cases_Bool (is_mapped rows' space f)) [
      | inl mapped ↦ inr (mapped-filter space f rows' mapped)
      | inr unmapped ↦ inl (outside (is_mapped rows space f) (page_at m f) (page_at target f) (sym (kept f) ∙ ap (λ b. cond b None (Some (page_at target f))) unmapped))
    ])

-- something that passes is found, at some place, where something passes
found_at : {X : Type 0} (p : X → Bool) (xs : List X) (i : ℕ) (x : X) → slice_get xs i ≡ Some x → p x ≡ true → (j : ℕ) × (y : X) × (slice_get xs j ≡ Some y) × (p y ≡ true) × (find p xs ≡ Some y)
found_at p [] i x at passes = grind (arith, at)
found_at p (z ∷ zs) zero x at passes = elim (cases_Bool (p z)) [
  | inl h ↦ (0, z, refl, h, rw h refl)
  | inr h ↦ grind (arith, at, h, passes)
]
found_at p (z ∷ zs) (suc i) x at passes = elim (cases_Bool (p z)) [
  | inl h ↦ (0, z, refl, h, rw h refl)
  | inr h ↦ let found = found_at p zs i x at passes in (suc found.0, found.1, found.2, found.3, rw h found.4)
]

module _ (space : SpaceNo) where
  -- rows that agree but for the bits of the space's own become the others, where each becomes the one that it agrees with
  map-onto : (F : Row → Row) (rows rows' : List Row) → map (unmarked space) rows' ≡ map (unmarked space) rows → ((r r' : Row) → Contains rows' r' → unmarked space r' ≡ unmarked space r → F r ≡ r') → map F rows ≡ rows'
  map-onto F [] [] agree onto = refl
  map-onto F [] (r' ∷ rows') agree onto = absurd (suc-ne-zero _ (ap length agree))
  map-onto F (r ∷ rows) [] agree onto = absurd (suc-ne-zero _ (sym (ap length agree)))
  map-onto F (r ∷ rows) (r' ∷ rows') agree onto =
      ap₂ (λ (x : Row) (xs : List Row). x ∷ xs) (onto r r' (0, omega arith, refl) (ap (λ l. get_or l 0 r) agree)) (map-onto F rows rows' (ap (drop 1) agree) (λ q q' there. onto q q' (Contains-append_right (r' ∷ []) rows' q' there)))

  unmarked-space : (row : Row) → (unmarked space row).space.0 ≡ row.space.0
  unmarked-space row = elim (cases_Bool (is_in space row)) [ inl inside ↦ rw inside refl | inr beside ↦ rw beside refl ]

  -- rows that agree are of one space
  same_space : (r' r : Row) → unmarked space r' ≡ unmarked space r → r'.space.0 ≡ r.space.0
  same_space r' r agree = sym (unmarked-space r') ∙ ap (λ (q : Row). q.space.0) agree ∙ unmarked-space r

  -- a row's page is found by its number, where no page has two rows
  module _ (rights : List (Bool × Bool)) (memory : List ℕ) (rows : List Row) (single : HasOneRowAPage rows) where
    row_of-own : (i : ℕ) (row : Row) → slice_get rows i ≡ Some row → row_of rows row.space row.vpn.0 ≡ Some row
    row_of-own i row at =
        let found = found_at (is_row_of row.space row.vpn.0) rows i row at (and_from (eqb row.space.0 row.space.0) (eqb row.vpn.0 row.vpn.0) (eq-eqb row.space.0 row.space.0 refl) (eq-eqb row.vpn.0 row.vpn.0 refl)) in
        found.4 ∙ (sym found.2 ∙ ap (slice_get rows) (sym (single i found.0 row found.1 at found.2 found.3)) ∙ at)

    pub page-found : (i : ℕ) (row : Row) (n : ℕ) → slice_get rows i ≡ Some row → row.space.0 ≡ space.0 → row.vpn.0 ≡ n → find (λ p. eqb p.number n) (pages_in rights memory rows space) ≡ Some (page_of rights memory row)
    page-found i row n at inside page =
        find-map-filter (is_in space) (λ p. eqb p.number n) (page_of rights memory) rows
        ∙ ap (option_map (page_of rights memory)) (subst₂ (λ (a b : ℕ). find (λ r. eqb r.space.0 a && eqb r.vpn.0 b) rows ≡ Some row) inside page (row_of-own i row at))

    -- the marks of the pages make the other row of a row that agrees with it
    with_marks-onto : (r r' : Row) → Contains rows r' → unmarked space r' ≡ unmarked space r → with_marks space (pages_in rights memory rows space) r ≡ r'
    with_marks-onto r r' there agree =
        let at : slice_get rows there.0 ≡ Some r' = slice_get-get_or rows there.0 r' there.1 ∙ ap Some there.2 in
        elim (cases_Bool (is_in space r)) [
          | inl inside ↦
              let inside' : is_in space r' ≡ true = ap (λ (n : ℕ). eqb n space.0) (same_space r' r agree) ∙ inside in
              let bare : record r' { referenced = false; modified = false } ≡ record r { referenced = false; modified = false } = rw (inside', inside) at agree in
              let found : find (λ p. eqb p.number r.vpn.0) (pages_in rights memory rows space) ≡ Some (page_of rights memory r') = page-found there.0 r' r.vpn.0 at (eqb-true r'.space.0 space.0 inside') (ap (λ (q : Row). q.vpn.0) bare) in
              rw (inside, found) (ap (λ (q : Row). record q { referenced = r'.referenced; modified = r'.modified }) (sym bare))
          | inr beside ↦
              let beside' : is_in space r' ≡ false = ap (λ (n : ℕ). eqb n space.0) (same_space r' r agree) ∙ beside in
              rw beside (sym (rw (beside', beside) at agree))
        ]

-- Rows become those that the marks of their space's pages make.
pub written_back-rows : (rights : List (Bool × Bool)) (space : SpaceNo) (memory : List ℕ) (rows rows' : List Row) → HasOneRowAPage rows' → map (unmarked space) rows' ≡ map (unmarked space) rows → map (with_marks space (pages_in rights memory rows' space)) rows ≡ rows'
written_back-rows rights space memory rows rows' single agree =
    map-onto space (with_marks space (pages_in rights memory rows' space)) rows rows' agree (λ r r' there same. with_marks-onto space rights memory rows' single r r' there same)
