-- What has to come, and what is leaving, is what the last entries say.
use Rattle.std.proofs.Common.{◌≡◌, ◌↔◌, ℕ, Bool, true, false, cond, eqb, List, [], ◌∷◌, ◌++◌, length, refl, ap, sym, ◌∙◌, subst, inl, inr, ◌⊎◌, append_assoc, arith}
use Rattle.std.proofs.lemmas.Bool.{eqb-true}
use Rattle.std.proofs.lemmas.List.{append-nil, length-append, map-append, same_from_push}
use Rattle.cache_ident.specs.declared.idents.Cause.{Cause}
use Rattle.cache_ident.specs.declared.idents.Cause.TheVariants as causes
use Rattle.cache_ident.specs.declared.idents.Ident.{Ident}
use Rattle.cache_ident.specs.declared.idents.Kind.{Kind}
use Rattle.cache_ident.specs.declared.names.Name.{Name}
use Rattle.group_laws.specs.run_journal.specs.declared.entries.Entry.{Entry}
use Rattle.group_laws.specs.run_journal.specs.declared.entries.Entry.TheVariants.{Declared, Sealed, Loaded, WrittenBack, Locked, Unlocked, Ran, Ended, Completed}
use Rattle.group_laws.specs.run_journal.specs.Told.{due_after_load, nothing_told, residents, told, told_after, Due, Opening, Anything, FirstLoad, FirstLock, Departure, Load, Told}
use Rattle.group_laws.specs.run_journal.proofs.Growth.{residents_told_from, told_from-append}
use Rattle.group_laws.specs.run_journal.proofs.LegalGrowth.{loads_told}
use Rattle.legal_laws.specs.Last.{dependents, AreLeaving, EndsWith, IsNext, Wants}
use Rattle.legal_laws.proofs.AtPlaces.{by_last, ends}

one_more : (p : List Entry) (e : Entry) → told (p ++ e ∷ []) ≡ told_after (told p) e
one_more p e = told_from-append nothing_told p (e ∷ [])

-- what is due behind a journal and one entry more
due_behind : (j p : List Entry) (e : Entry) → j ≡ p ++ e ∷ [] → (told j).due ≡ (told_after (told p) e).due
due_behind j p e is = ap (λ (x : List Entry). (told x).due) is ∙ ap (λ (k : Told). k.due) (one_more p e)

-- ---- what the journal wants is due

wanted_is_due : (j : List Entry) (due : Due) → Wants j due → (told j).due ≡ due
wanted_is_due j Opening wants = ap (λ (x : List Entry). (told x).due) wants
wanted_is_due j FirstLoad wants = due_behind j wants.0 Sealed wants.1
wanted_is_due j FirstLock wants =
    due_behind j wants.earlier (Loaded wants.ident wants.name wants.cpu) wants.its ∙ ap due_after_load (loads_told wants.earlier ∙ wants.first)
wanted_is_due j (Departure cpu) wants = due_behind j wants.1.0 (WrittenBack wants.0 causes.Dependent cpu) wants.1.1
wanted_is_due j (Load kind cpu) wants = due_behind j wants.1.0 (WrittenBack wants.0 causes.Displaced cpu) wants.1.1 ∙ ap (λ (k : Kind). Load k cpu) wants.2
wanted_is_due j Anything wants = absurd wants

-- ---- and what is due is wanted

abbrev IsWanted : List Entry → Due → Type 0
IsWanted j due = (due ≡ Anything) ⊎ Wants j due

load_wants : (j p : List Entry) (ident : Ident) (name : Name) (cpu : ℕ) → j ≡ p ++ Loaded ident name cpu ∷ [] → IsWanted j (due_after_load (told p).loads)
load_wants j p ident name cpu is = by (eqb (told p).loads 0) refl
  where
    by : (b : Bool) → eqb (told p).loads 0 ≡ b → IsWanted j (cond b FirstLock Anything)
    by true none = inr (record { ident = ident; name = name; cpu = cpu; earlier = p; its = is; first = sym (loads_told p) ∙ eqb-true (told p).loads 0 none })
    by false some = inl refl

back_wants : (j p : List Entry) (ident : Ident) (cause : Cause) (cpu : ℕ) → j ≡ p ++ WrittenBack ident cause cpu ∷ [] → IsWanted j (told_after (told p) (WrittenBack ident cause cpu)).due
back_wants j p ident causes.Dependent cpu is = inr (ident, (p, is))
back_wants j p ident causes.Displaced cpu is = inr (ident, (p, is), refl)
back_wants j p ident causes.Unloaded cpu is = inl refl

last_wants : (j p : List Entry) (e : Entry) → j ≡ p ++ e ∷ [] → IsWanted j (told_after (told p) e).due
last_wants j p (Declared d) is = inl refl
last_wants j p Sealed is = inr (p, is)
last_wants j p (Loaded ident name cpu) is = load_wants j p ident name cpu is
last_wants j p (WrittenBack ident cause cpu) is = back_wants j p ident cause cpu is
last_wants j p (Locked ident cpu) is = inl refl
last_wants j p (Unlocked ident cpu) is = inl refl
last_wants j p (Ran thread steps cpu) is = inl refl
last_wants j p (Ended thread cpu) is = inl refl
last_wants j p (Completed thread cpu) is = inl refl

due_is_wanted : (j : List Entry) → IsWanted j (told j).due
due_is_wanted j = elim (ends j) [
  | inl none ↦ subst (IsWanted j) (sym (ap (λ (x : List Entry). (told x).due) none)) (inr none)
  | inr last ↦ subst (IsWanted j) (sym (due_behind j last.0 last.1 last.2)) (last_wants j last.0 last.1 last.2)
]

-- where it isn't anything
wanted : (j : List Entry) (due : Due) → (due ≡ Anything → ⊥) → (told j).due ≡ due → Wants j due
wanted j due some is = elim (due_is_wanted j) [
  | inl any ↦ absurd (some (sym is ∙ any))
  | inr wants ↦ subst (Wants j) is wants
]

pub next : (j : List Entry) (due : Due) → ((told j).due ≡ due) ↔ IsNext j due
next j Opening = (wanted j Opening (λ e. cc), wanted_is_due j Opening)
next j FirstLoad = (wanted j FirstLoad (λ e. cc), wanted_is_due j FirstLoad)
next j FirstLock = (wanted j FirstLock (λ e. cc), wanted_is_due j FirstLock)
next j (Departure cpu) = (wanted j (Departure cpu) (λ e. cc), wanted_is_due j (Departure cpu))
next j (Load kind cpu) = (wanted j (Load kind cpu) (λ e. cc), wanted_is_due j (Load kind cpu))
next j Anything = (
  λ any due wants. subst (Wants j) (sym (wanted_is_due j due wants) ∙ any) wants,
  λ none. elim (due_is_wanted j) [
    | inl any ↦ any
    | inr wants ↦ absurd (none (told j).due wants)
  ],
)

-- ---- what is leaving

-- none leaves behind what is no departure of a dependent
none_leaving : (p : List Entry) (e : Entry) → ((ident : Ident) (cpu : ℕ) → e ≡ WrittenBack ident causes.Dependent cpu → ⊥) → (told_after (told p) e).before ≡ (told_after (told p) e).residents → (told_after (told p) e).left ≡ []
    → AreLeaving (p ++ e ∷ []) (told_after (told p) e).before (told_after (told p) e).left
none_leaving p e other before left = record {
  earlier = p ++ e ∷ [];
  gone = [];
  its = sym (append-nil (p ++ e ∷ []));
  all = λ ident cpu ends. other ident cpu (same_from_push p ends.0 e (WrittenBack ident causes.Dependent cpu) ends.1).1;
  resident = before ∙ sym (ap (λ (k : Told). k.residents) (one_more p e)) ∙ residents_told_from nothing_told (p ++ e ∷ []);
  they = left;
}

one_leaves : (p : List Entry) (ident : Ident) (cpu : ℕ) → AreLeaving p (told p).before (told p).left → AreLeaving (p ++ WrittenBack ident causes.Dependent cpu ∷ []) (told p).before ((told p).left ++ ident ∷ [])
one_leaves p ident cpu so = record {
  earlier = so.earlier;
  gone = so.gone ++ (ident, cpu) ∷ [];
  its =
      ap (λ (x : List Entry). x ++ WrittenBack ident causes.Dependent cpu ∷ []) so.its
      ∙ append_assoc so.earlier (dependents so.gone) (WrittenBack ident causes.Dependent cpu ∷ [])
      ∙ ap (λ (x : List Entry). so.earlier ++ x) (sym (map-append (λ (one : Ident × ℕ). WrittenBack one.0 causes.Dependent one.1) so.gone ((ident, cpu) ∷ [])));
  all = so.all;
  resident = so.resident;
  they = ap (λ (x : List Ident). x ++ ident ∷ []) so.they ∙ sym (map-append (λ (one : Ident × ℕ). one.0) so.gone ((ident, cpu) ∷ []));
}

back_leaves : (p : List Entry) (ident : Ident) (cause : Cause) (cpu : ℕ) → AreLeaving p (told p).before (told p).left
    → AreLeaving (p ++ WrittenBack ident cause cpu ∷ []) (told_after (told p) (WrittenBack ident cause cpu)).before (told_after (told p) (WrittenBack ident cause cpu)).left
back_leaves p ident causes.Dependent cpu so = one_leaves p ident cpu so
back_leaves p ident causes.Displaced cpu so = none_leaving p (WrittenBack ident causes.Displaced cpu) (λ i c e. cc) refl refl
back_leaves p ident causes.Unloaded cpu so = none_leaving p (WrittenBack ident causes.Unloaded cpu) (λ i c e. cc) refl refl

last_leaves : (p : List Entry) (e : Entry) → AreLeaving p (told p).before (told p).left → AreLeaving (p ++ e ∷ []) (told_after (told p) e).before (told_after (told p) e).left
last_leaves p (Declared d) so = none_leaving p (Declared d) (λ i c e. cc) refl refl
last_leaves p Sealed so = none_leaving p Sealed (λ i c e. cc) refl refl
last_leaves p (Loaded ident name cpu) so = none_leaving p (Loaded ident name cpu) (λ i c e. cc) refl refl
last_leaves p (WrittenBack ident cause cpu) so = back_leaves p ident cause cpu so
last_leaves p (Locked ident cpu) so = none_leaving p (Locked ident cpu) (λ i c e. cc) refl refl
last_leaves p (Unlocked ident cpu) so = none_leaving p (Unlocked ident cpu) (λ i c e. cc) refl refl
last_leaves p (Ran thread steps cpu) so = none_leaving p (Ran thread steps cpu) (λ i c e. cc) refl refl
last_leaves p (Ended thread cpu) so = none_leaving p (Ended thread cpu) (λ i c e. cc) refl refl
last_leaves p (Completed thread cpu) so = none_leaving p (Completed thread cpu) (λ i c e. cc) refl refl

pub leaving : (j : List Entry) → AreLeaving j (told j).before (told j).left
leaving j =
    by_last (λ (p : List Entry). AreLeaving p (told p).before (told p).left)
    (record { earlier = []; gone = []; its = refl; all = λ ident cpu ends. nothing_ends ident cpu ends; resident = refl; they = refl })
    (λ p e so. subst (λ (k : Told). AreLeaving (p ++ e ∷ []) k.before k.left) (sym (one_more p e)) (last_leaves p e so))
    j
  where
    nothing_ends : (ident : Ident) (cpu : ℕ) → EndsWith [] (WrittenBack ident causes.Dependent cpu) → ⊥
    nothing_ends ident cpu ends = let long = ap length ends.1 in let more = length-append ends.0 (WrittenBack ident causes.Dependent cpu ∷ []) in omega arith
