-- What is loaded, in order of loading, once a slot is written.
use Rattle.std.proofs.Common.{◌≡◌, ◌≢◌, ◌⊎◌, ℕ, ◌<◌, Bool, true, false, cond, List, [], ◌∷◌, ◌++◌, length, filter_map, set, All, Option, Some, None, sym, ◌∙◌, ap, subst, inl, inr, refl, arith}
use Rattle.std.specs.List.{cons_option}
use Rattle.std.proofs.lemmas.Bool.{cases_eq}
use Rattle.std.proofs.lemmas.List.Elements.{All-cons, All-head, All-tail, filter_map-append}
use Rattle.cache_ident.specs.declared.idents.Ident.{Ident}
use Rattle.cache_ident.specs.declared.idents.Standing.TheVariants.{Never}
use Rattle.cache_ident.specs.declared.rolls.Issued.{Issued}
use Rattle.cache_ident.specs.Rolls.{departed, is_same, just_issued, standing_in, standing_since}
use Rattle.cache_ident.proofs.RollLemmas.{is_same-refl, same_ident}
use Rattle.slot_cache.specs.declared.loaded.Loaded.{Loaded}
use Rattle.slot_cache.specs.Cells.{cell_at}
use Rattle.slot_cache.proofs.SlotLemmas.{cell_within, elsewhere, here, some_same}
use Rattle.kind_store.specs.Rolls.{all_but, all_with, held_as, in_order, loaded_as}

-- two identifiers are one or not
pub cases_ident : (a b : Ident) → (a ≡ b) ⊎ (a ≢ b)
cases_ident a b = by (is_same a b) refl
  where
    by : (t : Bool) → is_same a b ≡ t → (a ≡ b) ⊎ (a ≢ b)
    by true passes = inl (same_ident a b passes)
    by false fails = inr (λ same. cc (sym fails ∙ ap (is_same a) (sym same) ∙ is_same-refl a))

pub same_passes : (a b : Ident) → a ≡ b → is_same a b ≡ true
same_passes a b same = ap (is_same a) (sym same) ∙ is_same-refl a

pub apart_fails : (a b : Ident) → a ≢ b → is_same a b ≡ false
apart_fails a b apart = by (is_same a b) refl
  where
    by : (t : Bool) → is_same a b ≡ t → is_same a b ≡ false
    by true passes = absurd (apart (same_ident a b passes))
    by false fails = fails

-- an identifier that was never issued is no entry's
pub never_issued : (issued : List Issued) (i : Ident) → standing_in issued i ≡ Never → All (λ e. e.ident ≢ i) issued
never_issued [] i never = λ k d within. absurd (omega (arith, within))
never_issued (e ∷ rest) i never = by (λ later. never_issued rest i later) (is_same e.ident i) refl never
  where
    since : (o : Option ℕ) → standing_since o ≡ Never → ⊥
    since None live = cc
    since (Some at) left = cc

    by : (standing_in rest i ≡ Never → All (λ x. x.ident ≢ i) rest) → (b : Bool) → is_same e.ident i ≡ b → cond b (standing_since e.left) (standing_in rest i) ≡ Never → All (λ x. x.ident ≢ i) (e ∷ rest)
    by next true passes here = absurd (since e.left here)
    by next false fails later = All-cons (λ (x : Issued). x.ident ≢ i) e rest (λ same. absurd (cc (sym fails ∙ same_passes e.ident i same))) (next later)

module _ {T : Type 0} where
  held_other : (l : Loaded T) (i : Ident) → l.ident ≢ i → held_as i (Some l) ≡ None
  held_other l i apart = rw (apart_fails l.ident i apart) refl

  held_same : (l : Loaded T) (i : Ident) → l.ident ≡ i → held_as i (Some l) ≡ Some l
  held_same l i same = rw (same_passes l.ident i same) refl

  -- a cell that hasn't the identifier before and after decides nothing
  abbrev IsHeldByOther : Ident → Option (Loaded T) → Type 0
  IsHeldByOther i cell = (l : Loaded T) → cell ≡ Some l → l.ident ≢ i

  nothing_held : (i : Ident) (cell : Option (Loaded T)) → IsHeldByOther i cell → held_as i cell ≡ None
  nothing_held i None other = refl
  nothing_held i (Some l) other = held_other l i (other l refl)

  as_other : (cells : List (Option (Loaded T))) (slot : ℕ) (cell : Option (Loaded T)) (i : Ident) → slot < length cells → IsHeldByOther i (cell_at cells slot) → IsHeldByOther i cell → loaded_as (set cells slot cell) i ≡ loaded_as cells i
  as_other cells slot cell i within was is = elim (cases_eq i.slot slot) [
    | inl at ↦
        let now : cell_at (set cells slot cell) i.slot ≡ cell = ap (cell_at (set cells slot cell)) at ∙ here cells slot cell within in
        ap (held_as i) now ∙ nothing_held i cell is ∙ sym (nothing_held i (cell_at cells slot) was) ∙ ap (λ k. held_as i (cell_at cells k)) (sym at)
    | inr apart ↦ ap (held_as i) (elsewhere cells slot i.slot cell apart)
  ]

  -- a free slot was filled
  module _ (cells : List (Option (Loaded T))) (x : Loaded T) (within : x.ident.slot < length cells) (free : cell_at cells x.ident.slot ≡ None) where
    same_rest : (issued : List Issued) → All (λ e. e.ident ≢ x.ident) issued → filter_map (λ e. loaded_as (set cells x.ident.slot (Some x)) e.ident) issued ≡ filter_map (λ e. loaded_as cells e.ident) issued
    same_rest [] others = refl
    same_rest (e ∷ rest) others =
        let apart = All-head (λ (e : Issued). e.ident ≢ x.ident) e rest others in
        let same = as_other cells x.ident.slot (Some x) e.ident within (λ l is. absurd (cc)) (λ l is one. apart (sym (ap (λ (l : Loaded T). l.ident) (some_same x l is) ∙ one))) in
        ap (λ o. cons_option o (filter_map (λ e. loaded_as (set cells x.ident.slot (Some x)) e.ident) rest)) same ∙ ap (cons_option (loaded_as cells e.ident)) (same_rest rest (All-tail (λ (e : Issued). e.ident ≢ x.ident) e rest others))

    pub in_order-loading : (issued : List Issued) → standing_in issued x.ident ≡ Never → in_order (issued ++ just_issued x.ident ∷ []) (set cells x.ident.slot (Some x)) ≡ in_order issued cells ++ x ∷ []
    unfolding in_order
    in_order-loading issued never =
        let new = set cells x.ident.slot (Some x) in
        let last : loaded_as new x.ident ≡ Some x = ap (held_as x.ident) (here cells x.ident.slot (Some x) within) ∙ held_same x x.ident refl in
        filter_map-append (λ e. loaded_as new e.ident) issued (just_issued x.ident ∷ []) ∙ ap (λ o. filter_map (λ e. loaded_as new e.ident) issued ++ cons_option o []) last ∙ ap (λ rows. rows ++ x ∷ []) (same_rest issued (never_issued issued x.ident never))

  -- a slot was emptied, or what stands there changed
  module _ (cells : List (Option (Loaded T))) (ident : Ident) (y : Loaded T) (there : cell_at cells ident.slot ≡ Some y) (own : y.ident ≡ ident) where
    was_other : (i : Ident) → i ≢ ident → IsHeldByOther i (cell_at cells ident.slot)
    was_other i apart l is same = apart (sym same ∙ ap (λ (l : Loaded T). l.ident) (sym (some_same y l (sym there ∙ is))) ∙ own)

    was_there : loaded_as cells ident ≡ Some y
    was_there = ap (held_as ident) there ∙ held_same y ident own

    -- what is held with another identifier is kept
    kept : (i : Ident) → i ≢ ident → (o : Option (Loaded T)) (rest : List (Loaded T)) → cons_option (held_as i o) (all_but ident rest) ≡ all_but ident (cons_option (held_as i o) rest)
    kept i apart None rest = refl
    kept i apart (Some l) rest = elim (cases_ident l.ident i) [
      | inl same ↦ rw (same_passes l.ident i same, apart_fails l.ident ident (λ one. apart (sym same ∙ one))) refl
      | inr other ↦ rw (apart_fails l.ident i other) refl
    ]

    leaving_step : (i : Ident) (rest : List (Loaded T)) → cons_option (loaded_as (set cells ident.slot None) i) (all_but ident rest) ≡ all_but ident (cons_option (loaded_as cells i) rest)
    leaving_step i rest = elim (cases_ident i ident) [
      | inl same ↦
          let new = set cells ident.slot None in
          let none : loaded_as new ident ≡ None = ap (held_as ident) (here cells ident.slot None (cell_within cells ident.slot y there)) in
          let at_ident : cons_option (loaded_as new ident) (all_but ident rest) ≡ all_but ident (cons_option (loaded_as cells ident) rest) = rw (none, was_there, same_passes y.ident ident own) refl in
          subst (λ i. cons_option (loaded_as new i) (all_but ident rest) ≡ all_but ident (cons_option (loaded_as cells i) rest)) (sym same) at_ident
      | inr apart ↦
          let other = as_other cells ident.slot None i (cell_within cells ident.slot y there) (was_other i apart) (λ l is. absurd (cc)) in
          ap (λ o. cons_option o (all_but ident rest)) other ∙ kept i apart (cell_at cells i.slot) rest
    ]

    pub in_order-leaving : (issued : List Issued) (at : ℕ) → in_order (departed issued ident at) (set cells ident.slot None) ≡ all_but ident (in_order issued cells)
    unfolding in_order
    in_order-leaving [] at = refl
    in_order-leaving (e ∷ rest) at = ap (cons_option (loaded_as (set cells ident.slot None) e.ident)) (in_order-leaving rest at) ∙ leaving_step e.ident (in_order rest cells)

    module _ (change : Loaded T → Loaded T) (stays : (change y).ident ≡ y.ident) where
      kept_with : (i : Ident) → i ≢ ident → (o : Option (Loaded T)) (rest : List (Loaded T)) → cons_option (held_as i o) (all_with ident change rest) ≡ all_with ident change (cons_option (held_as i o) rest)
      kept_with i apart None rest = refl
      kept_with i apart (Some l) rest = elim (cases_ident l.ident i) [
        | inl same ↦ rw (same_passes l.ident i same, apart_fails l.ident ident (λ one. apart (sym same ∙ one))) refl
        | inr other ↦ rw (apart_fails l.ident i other) refl
      ]

      changing_step : (i : Ident) (rest : List (Loaded T)) → cons_option (loaded_as (set cells ident.slot (Some (change y))) i) (all_with ident change rest) ≡ all_with ident change (cons_option (loaded_as cells i) rest)
      changing_step i rest = elim (cases_ident i ident) [
        | inl same ↦
            let new = set cells ident.slot (Some (change y)) in
            let now : loaded_as new ident ≡ Some (change y) = ap (held_as ident) (here cells ident.slot (Some (change y)) (cell_within cells ident.slot y there)) ∙ held_same (change y) ident (stays ∙ own) in
            let at_ident : cons_option (loaded_as new ident) (all_with ident change rest) ≡ all_with ident change (cons_option (loaded_as cells ident) rest) = rw (now, was_there, same_passes y.ident ident own) refl in
            subst (λ i. cons_option (loaded_as new i) (all_with ident change rest) ≡ all_with ident change (cons_option (loaded_as cells i) rest)) (sym same) at_ident
        | inr apart ↦
            let other = as_other cells ident.slot (Some (change y)) i (cell_within cells ident.slot y there) (was_other i apart) (λ l is one. apart (sym one ∙ ap (λ (l : Loaded T). l.ident) (sym (some_same (change y) l is)) ∙ stays ∙ own)) in
            ap (λ o. cons_option o (all_with ident change rest)) other ∙ kept_with i apart (cell_at cells i.slot) rest
      ]

      pub in_order-changing : (issued : List Issued) → in_order issued (set cells ident.slot (Some (change y))) ≡ all_with ident change (in_order issued cells)
      unfolding in_order
      in_order-changing [] = refl
      in_order-changing (e ∷ rest) = ap (cons_option (loaded_as (set cells ident.slot (Some (change y))) e.ident)) (in_order-changing rest) ∙ changing_step e.ident (in_order rest cells)
