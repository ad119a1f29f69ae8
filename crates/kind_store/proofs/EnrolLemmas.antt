-- The roll agrees with what is loaded, once a descriptor has moved or changed.
use Rattle.std.proofs.Common.{◌≡◌, ◌≢◌, ℕ, ◌+◌, ◌<◌, Bool, true, false, cond, List, [], ◌∷◌, ◌++◌, length, set, replicate, Option, Some, None, sym, ◌∙◌, ap, subst, inl, inr, refl, arith, length-append}
use Rattle.std.proofs.lemmas.Bool.{cases_eq}
use Rattle.std.proofs.lemmas.List.{length-map}
use Rattle.cache_ident.specs.declared.idents.Ident.{Ident}
use Rattle.cache_ident.specs.declared.idents.Kind.{Kind}
use Rattle.cache_ident.specs.declared.idents.Standing.TheVariants.{Live, Left, Never}
use Rattle.cache_ident.specs.declared.rolls.Issued.{Issued}
use Rattle.cache_ident.specs.Rolls.{departed, departed_if, is_same, just_issued, standing_in, standing_since}
use Rattle.cache_ident.proofs.RollLemmas.{is_same-refl, standing_in-departed, standing_in-departed_other}
use Rattle.slot_cache.specs.declared.loaded.Loaded.{Loaded}
use Rattle.slot_cache.specs.Cells.{cell_at}
use Rattle.slot_cache.proofs.SlotLemmas.{all_none, cell_within, elsewhere, here, not_none, some_same}
use Rattle.kind_store.specs.Rolls.{AreEnrolled}
use Rattle.kind_store.proofs.OrderLemmas.{apart_fails, cases_ident}
use Rattle.kind_store.proofs.ProperLemmas.{was_there}

-- an identifier that is issued now is live
standing_in-issued : (issued : List Issued) (i : Ident) → standing_in issued i ≡ Never → standing_in (issued ++ just_issued i ∷ []) i ≡ Live
standing_in-issued [] i never = rw (is_same-refl i) refl
standing_in-issued (e ∷ rest) i never = by (λ later. standing_in-issued rest i later) (is_same e.ident i) never
  where
    since : (o : Option ℕ) → standing_since o ≡ Never → ⊥
    since None live = cc
    since (Some at) left = cc

    by : (standing_in rest i ≡ Never → standing_in (rest ++ just_issued i ∷ []) i ≡ Live) → (b : Bool) → cond b (standing_since e.left) (standing_in rest i) ≡ Never → cond b (standing_since e.left) (standing_in (rest ++ just_issued i ∷ []) i) ≡ Live
    by next true here = absurd (since e.left here)
    by next false later = next later

-- and each other one stands as before
pub standing_in-issued_other : (issued : List Issued) (i j : Ident) → i ≢ j → standing_in (issued ++ just_issued i ∷ []) j ≡ standing_in issued j
standing_in-issued_other [] i j apart = rw (apart_fails i j apart) refl
standing_in-issued_other (e ∷ rest) i j apart = ap (cond (is_same e.ident j) (standing_since e.left)) (standing_in-issued_other rest i j apart)

module _ {T : Type 0} (kind : Kind) where
  -- where nothing was issued and nothing is loaded
  pub enrolled-none : (cap : ℕ) → AreEnrolled {T = T} kind [] (replicate cap None)
  enrolled-none cap =
      let none : (slot : ℕ) (l : Loaded T) → cell_at (replicate cap None) slot ≡ Some l → ⊥ = λ slot l there. not_none (replicate cap None) slot l there (all_none cap slot) in
      record {
        live = λ i loaded. absurd (none i.slot loaded.0 loaded.1);
        loaded = λ i is live. absurd (cc);
        older = λ slot l there. absurd (none slot l there);
      }

  module _ (issued : List Issued) (cells : List (Option (Loaded T))) (enrolled : AreEnrolled kind issued cells) where
    -- once one is loaded with an identifier that is issued now
    pub enrolled-loading : (x : Loaded T) → x.ident.slot < length cells → cell_at cells x.ident.slot ≡ None → x.ident.serial ≡ length issued → standing_in issued x.ident ≡ Never → AreEnrolled kind (issued ++ just_issued x.ident ∷ []) (set cells x.ident.slot (Some x))
    enrolled-loading x within free serial never =
        let slot = x.ident.slot in
        let new = set cells slot (Some x) in
        let longer : length (issued ++ just_issued x.ident ∷ []) ≡ length issued + 1 = length-append issued (just_issued x.ident ∷ []) in
        let at_slot : (k : ℕ) (l : Loaded T) → k ≡ slot → cell_at new k ≡ Some l → x ≡ l = λ k l at there. some_same x l (sym (here cells slot (Some x) within) ∙ ap (cell_at new) (sym at) ∙ there) in
        let was : (k : ℕ) (l : Loaded T) → k ≢ slot → cell_at new k ≡ Some l → cell_at cells k ≡ Some l = λ k l apart there. sym (elsewhere cells slot k (Some x) apart) ∙ there in
        record {
          live = λ i held. elim (cases_eq i.slot slot) [
            | inl at ↦
                let same : x.ident ≡ i = ap (λ (l : Loaded T). l.ident) (at_slot i.slot held.0 at held.1) ∙ held.2 in
                subst (λ j. standing_in (issued ++ just_issued x.ident ∷ []) j ≡ Live) same (standing_in-issued issued x.ident never)
            | inr apart ↦ standing_in-issued_other issued x.ident i (λ same. apart (ap (λ (j : Ident). j.slot) (sym same))) ∙ enrolled.live i (held.0, was i.slot held.0 apart held.1, held.2)
          ];
          loaded = λ i is live. elim (cases_ident x.ident i) [
            | inl same ↦ (x, ap (λ (j : Ident). cell_at new j.slot) (sym same) ∙ here cells slot (Some x) within, same)
            | inr apart ↦
                let held = enrolled.loaded i is (sym (standing_in-issued_other issued x.ident i apart) ∙ live) in
                let other : i.slot ≢ slot = λ at. not_none cells slot held.0 (subst (λ k. cell_at cells k ≡ Some held.0) at held.1) free in
                (held.0, elsewhere cells slot i.slot (Some x) other ∙ held.1, held.2)
          ];
          older = λ k l there. elim (cases_eq k slot) [
            | inl at ↦ omega (arith, longer, serial, ap (λ (l : Loaded T). l.ident.serial) (at_slot k l at there))
            | inr apart ↦ omega (arith, longer, enrolled.older k l (was k l apart there))
          ];
        }

    module _ (slot : ℕ) (y : Loaded T) (there : cell_at cells slot ≡ Some y) where
      -- once it has left
      pub enrolled-leaving : (at : ℕ) → y.ident.slot ≡ slot → AreEnrolled kind (departed issued y.ident at) (set cells slot None)
      enrolled-leaving at place =
          let within = cell_within cells slot y there in
          let new = set cells slot None in
          let was_live = enrolled.live y.ident (y, subst (λ k. cell_at cells k ≡ Some y) (sym place) there, refl) in
          record {
            live = λ i held.
                let apart : i ≢ y.ident = λ same. not_none new slot held.0 (subst (λ k. cell_at new k ≡ Some held.0) (ap (λ (j : Ident). j.slot) same ∙ place) held.1) (here cells slot None within) in
                standing_in-departed_other issued y.ident at i apart ∙ enrolled.live i (held.0, was_there cells slot within i.slot held.0 held.1, held.2);
            loaded = λ i is live.
                let apart : i ≢ y.ident = λ same. absurd (left at (sym (standing_in-departed issued y.ident at was_live) ∙ ap (standing_in (departed issued y.ident at)) (sym same) ∙ live)) in
                let held = enrolled.loaded i is (sym (standing_in-departed_other issued y.ident at i apart) ∙ live) in
                let other : i.slot ≢ slot = λ same. apart (sym held.2 ∙ ap (λ (l : Loaded T). l.ident) (some_same held.0 y (sym held.1 ∙ ap (cell_at cells) same ∙ there))) in
                (held.0, elsewhere cells slot i.slot None other ∙ held.1, held.2);
            older = λ k l here. omega (arith, enrolled.older k l (was_there cells slot within k l here), length-map issued (departed_if y.ident at));
          }
        where
          left : (at : ℕ) → Left at ≡ Live → ⊥
          left at e = cc

      -- once it has changed in its place
      pub enrolled-changing : (x : Loaded T) → x.ident ≡ y.ident → AreEnrolled kind issued (set cells slot (Some x))
      enrolled-changing x same =
          let within = cell_within cells slot y there in
          let new = set cells slot (Some x) in
          let at_slot : (k : ℕ) (l : Loaded T) → k ≡ slot → cell_at new k ≡ Some l → x ≡ l = λ k l at here_is. some_same x l (sym (here cells slot (Some x) within) ∙ ap (cell_at new) (sym at) ∙ here_is) in
          let was : (k : ℕ) (l : Loaded T) → k ≢ slot → cell_at new k ≡ Some l → cell_at cells k ≡ Some l = λ k l apart here_is. sym (elsewhere cells slot k (Some x) apart) ∙ here_is in
          record {
            live = λ i held. elim (cases_eq i.slot slot) [
              | inl at ↦ enrolled.live i (y, ap (cell_at cells) at ∙ there, sym same ∙ ap (λ (l : Loaded T). l.ident) (at_slot i.slot held.0 at held.1) ∙ held.2)
              | inr apart ↦ enrolled.live i (held.0, was i.slot held.0 apart held.1, held.2)
            ];
            loaded = λ i is live.
                let held = enrolled.loaded i is live in
                elim (cases_eq i.slot slot) [
                  | inl at ↦ (x, ap (cell_at new) at ∙ here cells slot (Some x) within, same ∙ ap (λ (l : Loaded T). l.ident) (some_same y held.0 (sym there ∙ ap (cell_at cells) (sym at) ∙ held.1)) ∙ held.2)
                  | inr apart ↦ (held.0, elsewhere cells slot i.slot (Some x) apart ∙ held.1, held.2)
                ];
            older = λ k l here_is. elim (cases_eq k slot) [
              | inl at ↦ omega (arith, enrolled.older slot y there, ap (λ (i : Ident). i.serial) same, ap (λ (l : Loaded T). l.ident.serial) (at_slot k l at here_is))
              | inr apart ↦ enrolled.older k l (was k l apart here_is)
            ];
          }
