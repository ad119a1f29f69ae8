-- What a longer journal tells, in terms of the shorter one.
use Rattle.std.proofs.Common.{◌≡◌, ℕ, suc, ◌+◌, Bool, true, cond, List, [], ◌∷◌, ◌++◌, length, refl, ap, sym, ◌∙◌, arith}
use Rattle.std.specs.Prelude.{count_by, ◌||◌}
use Rattle.std.specs.List.{list_any}
use Rattle.std.proofs.lemmas.Grind.{flat_map-append}
use Rattle.std.proofs.lemmas.List.Sums.{sum_by-append}
use Rattle.std.proofs.Math.Bool.{or-false, or_assoc}
use Rattle.std.proofs.lemmas.Bool.{or_right}
use Rattle.flat_state.proofs.Places.{count_by-cons}
use Rattle.cache_ident.specs.declared.idents.Cause.{Cause}
use Rattle.cache_ident.specs.declared.idents.Cause.TheVariants as causes
use Rattle.cache_ident.specs.declared.idents.Ident.{Ident}
use Rattle.cache_ident.specs.declared.idents.Standing.{Standing}
use Rattle.cache_ident.specs.Residents.{Resident, without}
use Rattle.flat_state.specs.declared.events.Event.{Event}
use Rattle.flat_state.specs.State.{FlatState}
use Rattle.flat_state.specs.Events.{after_events, applied}
use Rattle.run_journal.specs.declared.entries.Entry.{Entry}
use Rattle.run_journal.specs.declared.entries.Entry.TheVariants.{Declared, Sealed, Loaded, WrittenBack, Locked, Unlocked, Ran, Ended, Completed}
use Rattle.run_journal.specs.Entries.{events_of, erase, is_step, steps_in}
use Rattle.run_journal.specs.Told.{residents_after, residents_from, is_load, is_seal, Told, told_after, told_from}
use Rattle.run_journal.specs.Standing.{standing_after, standing_from}
use Rattle.run_journal.specs.Legal.{AreLegal}

-- ---- one list behind another

pub told_from-append : (k : Told) (xs ys : List Entry) → told_from k (xs ++ ys) ≡ told_from (told_from k xs) ys
told_from-append k [] ys = refl
told_from-append k (e ∷ xs) ys = told_from-append (told_after k e) xs ys

pub residents_from-append : (rs : List Resident) (xs ys : List Entry) → residents_from rs (xs ++ ys) ≡ residents_from (residents_from rs xs) ys
residents_from-append rs [] ys = refl
residents_from-append rs (e ∷ xs) ys = residents_from-append (residents_after rs e) xs ys

pub standing_from-append : (at : ℕ) (ident : Ident) (standing : Standing) (xs ys : List Entry) → standing_from at ident standing (xs ++ ys) ≡ standing_from (at + length xs) ident (standing_from at ident standing xs) ys
standing_from-append at ident standing [] ys = ap (λ (n : ℕ). standing_from n ident standing ys) (omega arith)
standing_from-append at ident standing (e ∷ xs) ys =
    let whole : at + 1 + length xs ≡ at + suc (length xs) = omega arith in
    standing_from-append (at + 1) ident (standing_after at ident standing e) xs ys
    ∙ ap (λ (n : ℕ). standing_from n ident (standing_from (at + 1) ident (standing_after at ident standing e) xs) ys) whole

pub after_events-append : (s : FlatState) (xs ys : List Event) → after_events s (xs ++ ys) ≡ after_events (after_events s xs) ys
after_events-append s [] ys = refl
after_events-append s (e ∷ xs) ys = after_events-append (applied s e) xs ys

pub erase-append : (j k : List Entry) → erase (j ++ k) ≡ erase j ++ erase k
erase-append j k = flat_map-append events_of j k

pub count-append : {X : Type 0} (p : X → Bool) (xs ys : List X) → count_by p (xs ++ ys) ≡ count_by p xs + count_by p ys
count-append {X = X} p xs ys = sum_by-append (λ (x : X). cond (p x) 1 0) xs ys

pub steps-append : (j k : List Entry) → steps_in (j ++ k) ≡ steps_in j + steps_in k
steps-append j k = ap (count_by is_step) (erase-append j k) ∙ count-append is_step (erase j) (erase k)

pub legal-append : (k : Told) (xs ys : List Entry) → AreLegal k xs → AreLegal (told_from k xs) ys → AreLegal k (xs ++ ys)
legal-append k [] ys first second = second
legal-append k (e ∷ xs) ys first second = (first.0, legal-append (told_after k e) xs ys first.1 second)

pub legal-split : (k : Told) (xs ys : List Entry) → AreLegal k (xs ++ ys) → AreLegal k xs × AreLegal (told_from k xs) ys
legal-split k [] ys legal = (tt, legal)
legal-split k (e ∷ xs) ys legal =
    let rest = legal-split (told_after k e) xs ys legal.1 in
    ((legal.0, rest.0), rest.1)

-- ---- what is told is what the lists say

back_state : (k : Told) (ident : Ident) (cause : Cause) (cpu : ℕ) → (told_after k (WrittenBack ident cause cpu)).state ≡ k.state
back_state k ident causes.Dependent cpu = refl
back_state k ident causes.Displaced cpu = refl
back_state k ident causes.Unloaded cpu = refl

pub state_after : (k : Told) (e : Entry) → (told_after k e).state ≡ after_events k.state (events_of e)
state_after k (Declared d) = refl
state_after k Sealed = refl
state_after k (Loaded ident name cpu) = refl
state_after k (WrittenBack ident cause cpu) = back_state k ident cause cpu
state_after k (Locked ident cpu) = refl
state_after k (Unlocked ident cpu) = refl
state_after k (Ran thread steps cpu) = refl
state_after k (Ended thread cpu) = refl
state_after k (Completed thread cpu) = refl

pub state_from : (k : Told) (es : List Entry) → (told_from k es).state ≡ after_events k.state (erase es)
state_from k [] = refl
state_from k (e ∷ es) =
    state_from (told_after k e) es
    ∙ ap (λ (s : FlatState). after_events s (erase es)) (state_after k e)
    ∙ sym (after_events-append k.state (events_of e) (erase es))

back_residents : (k : Told) (ident : Ident) (cause : Cause) (cpu : ℕ) → (told_after k (WrittenBack ident cause cpu)).residents ≡ without ident k.residents
back_residents k ident causes.Dependent cpu = refl
back_residents k ident causes.Displaced cpu = refl
back_residents k ident causes.Unloaded cpu = refl

pub residents_told : (k : Told) (e : Entry) → (told_after k e).residents ≡ residents_after k.residents e
residents_told k (Declared d) = refl
residents_told k Sealed = refl
residents_told k (Loaded ident name cpu) = refl
residents_told k (WrittenBack ident cause cpu) = back_residents k ident cause cpu
residents_told k (Locked ident cpu) = refl
residents_told k (Unlocked ident cpu) = refl
residents_told k (Ran thread steps cpu) = refl
residents_told k (Ended thread cpu) = refl
residents_told k (Completed thread cpu) = refl

pub residents_told_from : (k : Told) (es : List Entry) → (told_from k es).residents ≡ residents_from k.residents es
residents_told_from k [] = refl
residents_told_from k (e ∷ es) = residents_told_from (told_after k e) es ∙ ap (λ (rs : List Resident). residents_from rs es) (residents_told k e)

back_loads : (k : Told) (ident : Ident) (cause : Cause) (cpu : ℕ) → (told_after k (WrittenBack ident cause cpu)).loads ≡ k.loads
back_loads k ident causes.Dependent cpu = refl
back_loads k ident causes.Displaced cpu = refl
back_loads k ident causes.Unloaded cpu = refl

pub loads_after : (k : Told) (e : Entry) → (told_after k e).loads ≡ k.loads + cond (is_load e) 1 0
loads_after k (Declared d) = omega arith
loads_after k Sealed = omega arith
loads_after k (Loaded ident name cpu) = refl
loads_after k (WrittenBack ident cause cpu) = back_loads k ident cause cpu ∙ omega arith
loads_after k (Locked ident cpu) = omega arith
loads_after k (Unlocked ident cpu) = omega arith
loads_after k (Ran thread steps cpu) = omega arith
loads_after k (Ended thread cpu) = omega arith
loads_after k (Completed thread cpu) = omega arith

pub loads_from : (k : Told) (es : List Entry) → (told_from k es).loads ≡ k.loads + count_by is_load es
loads_from k [] = omega arith
loads_from k (e ∷ es) =
    let one = loads_after k e in
    let rest = loads_from (told_after k e) es in
    rw (count_by-cons is_load e es) (omega arith)

back_sealed : (k : Told) (ident : Ident) (cause : Cause) (cpu : ℕ) → (told_after k (WrittenBack ident cause cpu)).sealed ≡ k.sealed
back_sealed k ident causes.Dependent cpu = refl
back_sealed k ident causes.Displaced cpu = refl
back_sealed k ident causes.Unloaded cpu = refl

pub sealed_after : (k : Told) (e : Entry) → (told_after k e).sealed ≡ (k.sealed || is_seal e)
sealed_after k (Declared d) = sym (or-false k.sealed)
sealed_after k Sealed = sym (or_right k.sealed true refl)
sealed_after k (Loaded ident name cpu) = sym (or-false k.sealed)
sealed_after k (WrittenBack ident cause cpu) = back_sealed k ident cause cpu ∙ sym (or-false k.sealed)
sealed_after k (Locked ident cpu) = sym (or-false k.sealed)
sealed_after k (Unlocked ident cpu) = sym (or-false k.sealed)
sealed_after k (Ran thread steps cpu) = sym (or-false k.sealed)
sealed_after k (Ended thread cpu) = sym (or-false k.sealed)
sealed_after k (Completed thread cpu) = sym (or-false k.sealed)

pub sealed_from : (k : Told) (es : List Entry) → (told_from k es).sealed ≡ (k.sealed || list_any is_seal es)
sealed_from k [] = sym (or-false k.sealed)
sealed_from k (e ∷ es) =
    sealed_from (told_after k e) es
    ∙ ap (λ (b : Bool). b || list_any is_seal es) (sealed_after k e)
    ∙ or_assoc k.sealed (is_seal e) (list_any is_seal es)
