-- Where an identifier stands is what the entries say of it, one after another.
use Rattle.std.proofs.Common.{◌≡◌, ℕ, ◌+◌, Bool, true, false, cond, List, [], ◌∷◌, ◌++◌, length, Some, slice_get, refl, ap, sym, ◌∙◌, subst, inl, inr, append_assoc}
use Rattle.std.proofs.lemmas.Bool.{false≢true}
use Rattle.std.proofs.lemmas.List.{append-nil, length-append}
use Rattle.std.proofs.lemmas.List.Elements.{Contains-push, Contains-push_cases, Contains-append_left}
use Rattle.cache_ident.specs.declared.idents.Cause.{Cause}
use Rattle.cache_ident.specs.declared.idents.Ident.{Ident}
use Rattle.cache_ident.specs.declared.idents.Standing.{Standing}
use Rattle.cache_ident.specs.declared.idents.Standing.TheVariants.{Live, Left, Never}
use Rattle.cache_ident.specs.declared.names.Name.{Name}
use Rattle.cache_ident.specs.Rolls.{is_same}
use Rattle.cache_ident.proofs.RollLemmas.{is_same-refl, same_ident}
use Rattle.cache_ident.specs.Residents.{Resident, locked_if, with_lock, IsIdentResident}
use Rattle.flat_state.proofs.Places.{get-append}
use Rattle.flat_laws.proofs.Members.{contains_nothing, Contains-map}
use Rattle.run_journal.specs.declared.entries.Entry.{Entry}
use Rattle.run_journal.specs.declared.entries.Entry.TheVariants.{Declared, Sealed, Loaded, WrittenBack, Locked, Unlocked, Ran, Ended, Completed}
use Rattle.run_journal.specs.Told.{residents_after, residents}
use Rattle.run_journal.specs.Standing.{StandsAs, standing_after, standing_from, standing_of}
use Rattle.run_journal.proofs.Growth.{residents_from-append}
use Rattle.run_journal.proofs.Others.{stays_without, locked_keeps, other_ident}

get_last : {X : Type 0} (xs : List X) (x : X) → slice_get (xs ++ x ∷ []) (length xs) ≡ Some x
get_last {X = X} [] x = refl
get_last {X = X} (y ∷ xs) x = get_last xs x

-- an entry that neither loads it nor sends it away
keeps : (p : List Entry) (e : Entry) (ident : Ident) (standing : Standing) → ((rs : List Resident) → IsIdentResident rs ident → IsIdentResident (residents_after rs e) ident) → ((name : Name) (cpu : ℕ) → e ≡ Loaded ident name cpu → ⊥) → StandsAs p ident standing → StandsAs (p ++ e ∷ []) ident standing
keeps p e ident Live stays other stands = subst (λ (rs : List Resident). IsIdentResident rs ident) (sym (residents_from-append [] p (e ∷ []))) (stays (residents p) stands)
keeps p e ident (Left at) stays other stands = (stands.0, stands.1, get-append p (e ∷ []) at (WrittenBack ident stands.0 stands.1) stands.2)
keeps p e ident Never stays other stands = λ was. elim (Contains-push_cases p e (Loaded ident was.0 was.1) was.2) [
  | inl before ↦ stands (was.0, was.1, before)
  | inr now ↦ other was.0 was.1 now
]

lock_keeps : (ident other : Ident) (on : Bool) (rs : List Resident) → IsIdentResident rs ident → IsIdentResident (with_lock other on rs) ident
lock_keeps ident other on rs r = (locked_if other on r.0, Contains-map (locked_if other on) rs r.0 r.1, (locked_keeps other on r.0).0 ∙ r.2)

load_says : (p : List Entry) (ident other : Ident) (name : Name) (cpu : ℕ) (standing : Standing) (same : Bool) → is_same other ident ≡ same → StandsAs p ident standing → StandsAs (p ++ Loaded other name cpu ∷ []) ident (cond same Live standing)
load_says p ident other name cpu standing true is stands =
    let r : Resident = record { ident = other; name = name; locked = false } in
    subst (λ (rs : List Resident). IsIdentResident rs ident) (sym (residents_from-append [] p (Loaded other name cpu ∷ []))) (r, Contains-push (residents p) r, same_ident other ident is)
load_says p ident other name cpu standing false is stands =
    keeps p (Loaded other name cpu) ident standing
    (λ rs r. (r.0, Contains-append_left rs (record { ident = other; name = name; locked = false } ∷ []) r.0 r.1, r.2))
    (λ n c e. let same : other ≡ ident = cc in false≢true (sym is ∙ ap (λ i. is_same i ident) same ∙ is_same-refl ident))
    stands

back_says : (p : List Entry) (ident other : Ident) (cause : Cause) (cpu : ℕ) (standing : Standing) (same : Bool) → is_same other ident ≡ same → StandsAs p ident standing → StandsAs (p ++ WrittenBack other cause cpu ∷ []) ident (cond same (Left (length p)) standing)
back_says p ident other cause cpu standing true is stands =
    (cause, cpu, get_last p (WrittenBack other cause cpu) ∙ ap (λ (i : Ident). Some (WrittenBack i cause cpu)) (same_ident other ident is))
back_says p ident other cause cpu standing false is stands =
    keeps p (WrittenBack other cause cpu) ident standing
    (λ rs r. (r.0, stays_without other rs r.0 r.1 (λ e. other_ident other ident is (sym e ∙ r.2)), r.2))
    (λ n c e. cc)
    stands

one_more : (p : List Entry) (ident : Ident) (standing : Standing) (e : Entry) → StandsAs p ident standing → StandsAs (p ++ e ∷ []) ident (standing_after (length p) ident standing e)
one_more p ident standing (Declared d) stands = keeps p (Declared d) ident standing (λ rs r. r) (λ n c e. cc) stands
one_more p ident standing Sealed stands = keeps p Sealed ident standing (λ rs r. r) (λ n c e. cc) stands
one_more p ident standing (Loaded other name cpu) stands = load_says p ident other name cpu standing (is_same other ident) refl stands
one_more p ident standing (WrittenBack other cause cpu) stands = back_says p ident other cause cpu standing (is_same other ident) refl stands
one_more p ident standing (Locked other cpu) stands = keeps p (Locked other cpu) ident standing (lock_keeps ident other true) (λ n c e. cc) stands
one_more p ident standing (Unlocked other cpu) stands = keeps p (Unlocked other cpu) ident standing (lock_keeps ident other false) (λ n c e. cc) stands
one_more p ident standing (Ran thread steps cpu) stands = keeps p (Ran thread steps cpu) ident standing (λ rs r. r) (λ n c e. cc) stands
one_more p ident standing (Ended thread cpu) stands = keeps p (Ended thread cpu) ident standing (λ rs r. r) (λ n c e. cc) stands
one_more p ident standing (Completed thread cpu) stands = keeps p (Completed thread cpu) ident standing (λ rs r. r) (λ n c e. cc) stands

stands_from : (p es : List Entry) (ident : Ident) (standing : Standing) → StandsAs p ident standing → StandsAs (p ++ es) ident (standing_from (length p) ident standing es)
stands_from p [] ident standing stands = subst (λ (j : List Entry). StandsAs j ident standing) (sym (append-nil p)) stands
stands_from p (e ∷ es) ident standing stands =
    let more = stands_from (p ++ e ∷ []) es ident (standing_after (length p) ident standing e) (one_more p ident standing e stands) in
    let place : length (p ++ e ∷ []) ≡ length p + 1 = length-append p (e ∷ []) in
    let placed = subst (λ (n : ℕ). StandsAs ((p ++ e ∷ []) ++ es) ident (standing_from n ident (standing_after (length p) ident standing e) es)) place more in
    subst (λ (j : List Entry). StandsAs j ident (standing_from (length p + 1) ident (standing_after (length p) ident standing e) es)) (append_assoc p (e ∷ []) es) placed

pub stands_as : (j : List Entry) (ident : Ident) → StandsAs j ident (standing_of j ident)
stands_as j ident = stands_from [] j ident Never (λ was. contains_nothing (Loaded ident was.0 was.1) was.2)
