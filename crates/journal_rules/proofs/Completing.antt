-- Completed calls, and what they leave.
use Rattle.std.proofs.Common.{◌≡◌, ℕ, ◌+◌, ◌<◌, Bool, true, false, List, [], ◌∷◌, length, get_or, Option, Some, None, is_some, IsSome, slice_get, Contains, ◌⊎◌, refl, ap, sym, ◌∙◌, subst, inl, inr, arith}
use Rattle.std.specs.Bool.{MatchBool}
use Rattle.std.specs.Prelude.{IfSome}
use Rattle.std.proofs.lemmas.Bool.{cases_lt, false≢true}
use Rattle.std.proofs.lemmas.List.{get_or_default}
use Rattle.cache_ident.specs.declared.names.Name.{Name}
use Rattle.cache_ident.specs.declared.names.ThreadNo.{ThreadNo}
use Rattle.cache_ident.specs.Residents.{Resident, IsNameResident}
use Rattle.flat_state.specs.declared.events.Event.TheVariants.{Complete}
use Rattle.flat_state.specs.declared.records.FlatThread.{FlatThread}
use Rattle.flat_state.specs.State.{FlatState}
use Rattle.flat_state.specs.Call.{is_completable, complete_if, completion_for, after_completion}
use Rattle.flat_state.specs.Events.{after_event, applied}
use Rattle.run_journal.specs.flat_laws.proofs.Members.{contains_nothing, Contains-here, Contains-behind, Contains-cases}
use Rattle.run_journal.specs.Legal.{StaysGood, AreGood}
use Rattle.residents.specs.declared.list.Residents.{Residents}
use Rattle.residents.specs.declared.relying.RelyingRows.{RelyingRows}
use Rattle.residents.specs.Tables.{AreThose}
use Rattle.residents.proofs.NameLemmas.{name_or}
use Rattle.journal_rules.specs.declared.calls.Touched.{Touched}
use Rattle.journal_rules.specs.declared.calls.Touched.TheVariants.{Nothing, Row, OnFrame, RightsOf}
use Rattle.journal_rules.specs.Relied.{reliances_of, AreRelyingOn}
use Rattle.journal_rules.specs.Running.{AreGoodNames, LeavesGood, SpoilOne}
use Rattle.journal_rules.specs.Touched.{AreAsked, AreRelying, Changes, CoversCall, HasOne, IsAlone}
use Rattle.journal_rules.proofs.Represented.{IsTold, spared}

-- ---- whether it fits

fits_is : (s : FlatState) (thread : ThreadNo) (o : Option FlatThread) → o ≡ slice_get s.threads thread.0 → after_event s (Complete thread) ≡ completion_for s thread.0 o
unfolding after_completion
fits_is s thread o found = ap (completion_for s thread.0) (sym found)

pub fits : (s : FlatState) (thread : ThreadNo) (t : FlatThread) → Some t ≡ slice_get s.threads thread.0 → true ≡ is_completable t → IsSome (after_event s (Complete thread))
fits s thread t found may = ap is_some (fits_is s thread (Some t) found ∙ ap (λ (b : Bool). complete_if b s thread.0 t) (sym may))

pub fits_not : (s : FlatState) (thread : ThreadNo) (t : FlatThread) → Some t ≡ slice_get s.threads thread.0 → false ≡ is_completable t → IsSome (after_event s (Complete thread)) → ⊥
fits_not s thread t found may fit = false≢true (sym (ap is_some (fits_is s thread (Some t) found ∙ ap (λ (b : Bool). complete_if b s thread.0 t) (sym may))) ∙ fit)

pub fits_none : (s : FlatState) (thread : ThreadNo) → None ≡ slice_get s.threads thread.0 → IsSome (after_event s (Complete thread)) → ⊥
fits_none s thread found fit = false≢true (sym (ap is_some (fits_is s thread None found)) ∙ fit)

pub covers_found : (s : FlatState) (thread : ThreadNo) (t : FlatThread) (touched : Touched) → Some t ≡ slice_get s.threads thread.0 → CoversCall t touched → IfSome (slice_get s.threads thread.0) (λ t. CoversCall t touched)
covers_found s thread t touched found covers = subst (λ (o : Option FlatThread). IfSome o (λ t. CoversCall t touched)) found covers

-- ---- what it leaves

contains_or : (names : List Name) (name : Name) → Contains names name ⊎ (Contains names name → ⊥)
contains_or [] name = inr (λ there. contains_nothing name there)
contains_or (x ∷ xs) name = elim (name_or x name) [
  | inl same ↦ inl (subst (λ (n : Name). Contains (x ∷ xs) n) same (Contains-here x xs))
  | inr apart ↦ elim (contains_or xs name) [
    | inl behind ↦ inl (Contains-behind x xs name behind)
    | inr none ↦ inr (λ there. elim (Contains-cases x xs name there) [ inl first ↦ apart first | inr behind ↦ none behind ])
  ]
]

-- ---- one of all that rely on the same

-- a name that is asked is a resident's
asked_resident : (residents : Residents) (rows : RelyingRows) (s : FlatState) (rs : List Resident) (touched : Touched) (names : List Name) → AreThose residents rs → AreRelyingOn rows s rs → AreAsked residents rows touched names
    → (name : Name) → Contains names name → IsNameResident rs name
asked_resident residents rows s rs touched names those relying asked name there = by touched asked
  where
    of_row : AreRelying rows names → IsNameResident rs name
    of_row all = let its = all name there in ((relying its.0 name).0 its.1).0

    by : (touched : Touched) → AreAsked residents rows touched names → IsNameResident rs name
    by Nothing asked = of_row asked.rows_alone
    by (OnFrame frame) asked = of_row asked.rows_alone
    by (RightsOf kernel group) asked = of_row asked.rows_alone
    by (Row row) asked = let its = (asked rs those name).0 there in subst (λ (n : Name). IsNameResident rs n) (sym its.0) its.1

-- of all that rely on what changes one is asked
asked_told : (residents : Residents) (rows : RelyingRows) (s u : FlatState) (rs : List Resident) (touched : Touched) (names : List Name) → AreThose residents rs → AreRelyingOn rows s rs → AreAsked residents rows touched names
    → AreGoodNames u rs names → (r : Resident) → Contains rs r → IsTold s u rs touched r.name
asked_told residents rows s u rs touched names those relying asked good r there q changes on = by touched changes asked
  where
    of_ones : HasOne rows names q → (o : Resident) × StaysGood u rs o × Contains (reliances_of s o.name) q
    of_ones has =
        let one = has r.name ((relying q r.name).1 ((r, there, refl), on)) in
        let its = (relying q one.0).0 one.2 in
        (its.0.0, good its.0.0 (subst (λ (n : Name). Contains names n) (sym its.0.2) one.1), subst (λ (n : Name). Contains (reliances_of s n) q) (sym its.0.2) its.1)

    by : (touched : Touched) → Changes touched q → AreAsked residents rows touched names → (o : Resident) × StaysGood u rs o × Contains (reliances_of s o.name) q
    by Nothing changes asked = absurd changes
    by (Row row) changes asked = absurd changes
    by (OnFrame frame) changes asked = of_ones (asked.ones q changes)
    by (RightsOf kernel group) changes asked = of_ones (asked.ones q changes)

-- a row that goes is asked where it is resident
asked_row : (residents : Residents) (rows : RelyingRows) (rs : List Resident) (touched : Touched) (names : List Name) → AreThose residents rs → AreAsked residents rows touched names
    → (r : Resident) → Contains rs r → (row : Name) → touched ≡ Row row → r.name ≡ row → Contains names r.name
asked_row residents rows rs touched names those asked r there row is same =
    let alone : IsAlone residents row names = subst (λ (t : Touched). AreAsked residents rows t names) is asked in
    (alone rs those r.name).1 (same, (r, there, same))

fits_call : (s : FlatState) (thread : ThreadNo) (o : Option FlatThread) → o ≡ slice_get s.threads thread.0 → IsSome (completion_for s thread.0 o) → (t : FlatThread) × (slice_get s.threads thread.0 ≡ Some t) × (is_completable t ≡ true)
fits_call s thread None found fit = absurd (false≢true fit)
fits_call s thread (Some t) found fit = (t, sym found, by (is_completable t) fit)
  where
    by : (b : Bool) → IsSome (complete_if b s thread.0 t) → b ≡ true
    by true fit = refl
    by false fit = absurd (false≢true fit)

-- the names of what is asked tell of all that is resident
pub leaves_by : (residents : Residents) (rows : RelyingRows) (s u : FlatState) (rs : List Resident) (thread : ThreadNo) (touched : Touched) (names : List Name) (b : Bool) → u ≡ applied s (Complete thread) → IsSome (after_event s (Complete thread)) → AreGood s rs
    → AreThose residents rs → AreRelyingOn rows s rs → IfSome (slice_get s.threads thread.0) (λ t. CoversCall t touched) → AreAsked residents rows touched names
    → MatchBool b (AreGoodNames u rs names) (SpoilOne u rs names) → MatchBool b (LeavesGood s rs thread × (u ≡ applied s (Complete thread))) (LeavesGood s rs thread → ⊥)
leaves_by residents rows s u rs thread touched names true is fit before those relying covers asked good =
    let call = fits_call s thread (slice_get s.threads thread.0) refl (subst (λ (o : Option FlatState). IsSome o) (fits_is s thread (slice_get s.threads thread.0) refl) fit) in
    let its : CoversCall call.0 touched = subst (λ (o : Option FlatThread). IfSome o (λ t. CoversCall t touched)) call.1 covers in
    let after : AreGoodNames (applied s (Complete thread)) rs names = subst (λ (v : FlatState). AreGoodNames v rs names) is good in (
      record {
        fits = fit;
        good = λ r there. elim (contains_or names r.name) [
          | inl named ↦ after r named
          | inr other ↦ spared s thread call.0 call.1 call.2 rs r (before r there) touched its
              (λ row is same. other (asked_row residents rows rs touched names those asked r there row is same))
              (asked_told residents rows s (applied s (Complete thread)) rs touched names those relying asked after r there)
        ];
      },
      is,
    )
leaves_by residents rows s u rs thread touched names false is fit before those relying covers asked spoilt = λ leaves.
    let found = asked_resident residents rows s rs touched names those relying asked spoilt.0 spoilt.1 in
    spoilt.2 found.0 found.2 (subst (λ (v : FlatState). StaysGood v rs found.0) (sym is) (leaves.good found.0 found.1))

-- ---- names one after another

abbrev pub AreGoodTo : FlatState → List Resident → List Name → ℕ → Type 0
AreGoodTo s rs names n = (i : ℕ) (r : Resident) → i < n → i < length names → get_or names i r.name ≡ r.name → StaysGood s rs r

pub good_none : (s : FlatState) (rs : List Resident) (names : List Name) → AreGoodTo s rs names 0
good_none s rs names i r low within is = absurd (omega arith)

pub good_more : (s : FlatState) (rs : List Resident) (names : List Name) (n : ℕ) (e : Name) → n < length names → AreGoodTo s rs names n → ((r : Resident) → r.name ≡ get_or names n e → StaysGood s rs r) → AreGoodTo s rs names (n + 1)
good_more s rs names n e n_within before here i r low within is = elim (cases_lt i n) [
  | inl below ↦ before i r below within is
  | inr above ↦
      let last : i ≡ n = omega (arith, low) in
      here r (sym is ∙ ap (λ (k : ℕ). get_or names k r.name) last ∙ get_or_default names n r.name e n_within)
]

pub good_all : (s : FlatState) (rs : List Resident) (names : List Name) → AreGoodTo s rs names (length names) → AreGoodNames s rs names
good_all s rs names all r there = all there.0 r there.1 there.1 there.2

pub spoils_at : (s : FlatState) (rs : List Resident) (names : List Name) (n : ℕ) (e : Name) → n < length names → ((r : Resident) → r.name ≡ get_or names n e → StaysGood s rs r → ⊥) → SpoilOne s rs names
spoils_at s rs names n e within bad = (get_or names n e, (n, within, get_or_default names n (get_or names n e) e within), bad)
