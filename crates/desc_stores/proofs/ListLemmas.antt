-- What is loaded, in order of loading, once one came, left or was locked.
use Rattle.std.proofs.Common.{◌≡◌, ◌≢◌, ℕ, Bool, List, [], ◌∷◌, ◌++◌, filter_map, All, Option, Some, None, sym, ◌∙◌, ap, subst, inl, inr, refl}
use Rattle.std.specs.List.{cons_option}
use Rattle.std.specs.Option.{option_map}
use Rattle.std.proofs.lemmas.List.Elements.{All-head, All-tail, filter_map-append}
use Rattle.cache_ident.specs.declared.idents.Ident.{Ident}
use Rattle.cache_ident.specs.declared.idents.Standing.TheVariants.{Never}
use Rattle.cache_ident.specs.declared.rolls.Issued.{Issued}
use Rattle.cache_ident.specs.Residents.{locked_if, with_lock, without, Resident}
use Rattle.cache_ident.specs.Rolls.{departed, just_issued, standing_in}
use Rattle.kind_store.proofs.OrderLemmas.{apart_fails, cases_ident, never_issued, same_passes}

-- the residents of a roll, by what each identifier has
abbrev pub listed : (Ident → Option Resident) → List Issued → List Resident
listed has issued = filter_map (λ entry. has entry.ident) issued

module _ (old new : Ident → Option Resident) (ident : Ident) (others : (i : Ident) → i ≢ ident → new i ≡ old i) (own : (i : Ident) (r : Resident) → old i ≡ Some r → r.ident ≡ i) where
  leaving_step : new ident ≡ None → (i : Ident) (rest : List Resident) → cons_option (new i) (without ident rest) ≡ without ident (cons_option (old i) rest)
  leaving_step none i rest = elim (cases_ident i ident) [
    | inl same ↦ subst (λ j. cons_option (new j) (without ident rest) ≡ without ident (cons_option (old j) rest)) (sym same) (rw none (gone (old ident) refl))
    | inr apart ↦ rw (others i apart) (kept apart (old i) refl)
  ]
    where
      gone : (o : Option Resident) → old ident ≡ o → without ident rest ≡ without ident (cons_option o rest)
      gone None is = refl
      gone (Some r) is = rw (same_passes r.ident ident (own ident r is)) refl

      kept : i ≢ ident → (o : Option Resident) → old i ≡ o → cons_option o (without ident rest) ≡ without ident (cons_option o rest)
      kept apart None is = refl
      kept apart (Some r) is = rw (apart_fails r.ident ident (λ one. apart (sym (own i r is) ∙ one))) refl

  -- one left
  pub list-leaving : new ident ≡ None → (issued : List Issued) (at : ℕ) → listed new (departed issued ident at) ≡ without ident (listed old issued)
  list-leaving none [] at = refl
  list-leaving none (e ∷ rest) at = ap (cons_option (new e.ident)) (list-leaving none rest at) ∙ leaving_step none e.ident (listed old rest)

  module _ (on : Bool) (relocked : new ident ≡ option_map (locked_if ident on) (old ident)) where
    locking_step : (i : Ident) (rest : List Resident) → cons_option (new i) (with_lock ident on rest) ≡ with_lock ident on (cons_option (old i) rest)
    locking_step i rest = elim (cases_ident i ident) [
      | inl same ↦ subst (λ j. cons_option (new j) (with_lock ident on rest) ≡ with_lock ident on (cons_option (old j) rest)) (sym same) (rw relocked (turned (old ident)))
      | inr apart ↦ rw (others i apart) (kept apart (old i) refl)
    ]
      where
        turned : (o : Option Resident) → cons_option (option_map (locked_if ident on) o) (with_lock ident on rest) ≡ with_lock ident on (cons_option o rest)
        turned None = refl
        turned (Some r) = refl

        kept : i ≢ ident → (o : Option Resident) → old i ≡ o → cons_option o (with_lock ident on rest) ≡ with_lock ident on (cons_option o rest)
        kept apart None is = refl
        kept apart (Some r) is = rw (apart_fails r.ident ident (λ one. apart (sym (own i r is) ∙ one))) refl

    -- one was locked or unlocked
    pub list-locking : (issued : List Issued) → listed new issued ≡ with_lock ident on (listed old issued)
    list-locking [] = refl
    list-locking (e ∷ rest) = ap (cons_option (new e.ident)) (list-locking rest) ∙ locking_step e.ident (listed old rest)

-- nothing changed of it
pub list-same : (old new : Ident → Option Resident) → ((i : Ident) → new i ≡ old i) → (issued : List Issued) → listed new issued ≡ listed old issued
list-same old new same [] = refl
list-same old new same (e ∷ rest) = ap (λ o. cons_option o (listed new rest)) (same e.ident) ∙ ap (cons_option (old e.ident)) (list-same old new same rest)

module _ (old new : Ident → Option Resident) (ident : Ident) (r : Resident) (others : (i : Ident) → i ≢ ident → new i ≡ old i) (last : new ident ≡ Some r) where
  same_rest : (issued : List Issued) → All (λ e. e.ident ≢ ident) issued → listed new issued ≡ listed old issued
  same_rest [] apart = refl
  same_rest (e ∷ rest) apart = ap (λ o. cons_option o (listed new rest)) (others e.ident (All-head (λ (e : Issued). e.ident ≢ ident) e rest apart)) ∙ ap (cons_option (old e.ident)) (same_rest rest (All-tail (λ (e : Issued). e.ident ≢ ident) e rest apart))

  -- one came, with an identifier that was issued for it
  pub list-loading : (issued : List Issued) → standing_in issued ident ≡ Never → listed new (issued ++ just_issued ident ∷ []) ≡ listed old issued ++ r ∷ []
  list-loading issued never = filter_map-append (λ (e : Issued). new e.ident) issued (just_issued ident ∷ []) ∙ ap (λ o. listed new issued ++ cons_option o []) last ∙ ap (λ rows. rows ++ r ∷ []) (same_rest issued (never_issued issued ident never))
