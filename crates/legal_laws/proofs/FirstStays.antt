-- The first kernel stays resident, and locked.
use Rattle.std.proofs.Common.{◌≡◌, ◌≢◌, ℕ, Bool, true, false, cond, List, [], ◌∷◌, ◌⊎◌, refl, ap, sym, ◌∙◌, subst, inl, inr, Contains}
use Rattle.std.proofs.lemmas.List.Elements.{Contains-append_left, Contains-push}
use Rattle.cache_ident.specs.declared.idents.Cause.{Cause}
use Rattle.cache_ident.specs.declared.idents.Cause.TheVariants as causes
use Rattle.cache_ident.specs.declared.idents.Ident.{Ident}
use Rattle.cache_ident.specs.declared.names.Name.{Name}
use Rattle.cache_ident.specs.Names.{first_name}
use Rattle.cache_ident.specs.Residents.{Resident, IsResident, locked_if, with_lock, without}
use Rattle.cache_ident.specs.Rolls.{is_same}
use Rattle.cache_ident.proofs.RollLemmas.{is_same-refl}
use Rattle.group_laws.specs.flat_laws.proofs.Members.{Contains-map}
use Rattle.group_laws.specs.run_journal.specs.declared.entries.Entry.{Entry}
use Rattle.group_laws.specs.run_journal.specs.declared.entries.Entry.TheVariants.{Declared, Sealed, Loaded, WrittenBack, Locked, Unlocked, Ran, Ended, Completed}
use Rattle.group_laws.specs.run_journal.specs.Legal.{first_ident, AreLegal, Comes, IsLegal, MayCome}
use Rattle.group_laws.specs.run_journal.specs.Told.{due_after_load, nothing_told, residents, told, told_after, told_from, Due, Anything, FirstLoad, FirstLock, Told}
use Rattle.group_laws.specs.run_journal.proofs.Growth.{residents_told_from}
use Rattle.group_laws.specs.run_journal.proofs.Others.{differ, stays_without}
use Rattle.group_laws.specs.run_journal.proofs.Whole.{nothing_whole, whole_after, IsWhole}

abbrev first_locked : Resident
first_locked = record { ident = first_ident; name = first_name; locked = true }

-- ---- what is resident keeps it

locked_now : (r : Resident) → r.ident ≡ first_ident → r.name ≡ first_name → locked_if first_ident true r ≡ first_locked
locked_now r ident name =
    let test : is_same r.ident first_ident ≡ true = ap (λ (i : Ident). is_same i first_ident) ident ∙ is_same-refl first_ident in
    ap (λ (b : Bool). cond b (record r { locked = true }) r) test ∙ by_parts r.ident r.name ident name
  where
    by_parts : (i : Ident) (n : Name) → i ≡ first_ident → n ≡ first_name → record { ident = i; name = n; locked = true } ≡ first_locked
    by_parts i n one two = cc

-- a lock, or the end of one of another, leaves it
lock_leaves : (ident : Ident) (on : Bool) → (on ≡ true) ⊎ (ident ≢ first_ident) → locked_if ident on first_locked ≡ first_locked
lock_leaves ident on (inl is) = by (is_same first_ident ident) on is
  where
    by : (b on : Bool) → on ≡ true → cond b (record first_locked { locked = on }) first_locked ≡ first_locked
    by true on is = ap (λ (l : Bool). record { ident = first_ident; name = first_name; locked = l }) is
    by false on is = refl
lock_leaves ident on (inr other) = ap (λ (b : Bool). cond b (record first_locked { locked = on }) first_locked) (differ first_ident ident (λ same. other (sym same)))

lock_keeps : (ident : Ident) (on : Bool) (rs : List Resident) → (on ≡ true) ⊎ (ident ≢ first_ident) → Contains rs first_locked → Contains (with_lock ident on rs) first_locked
lock_keeps ident on rs so there = subst (Contains (with_lock ident on rs)) (lock_leaves ident on so) (Contains-map (locked_if ident on) rs first_locked there)

-- ---- what has to come

comes_as : (e : Entry) (due now : Due) → due ≡ now → Comes due e → Comes now e
comes_as e due now is comes = let P : Due → Type 0 = λ d. Comes d e in subst P is comes

-- once it is sealed, the first load has to come, or the first kernel is resident and the first lock has to come, or it is locked
data HasFirst (k : Told) : Type 0 where
  Loads : k.due ≡ FirstLoad → k.loads ≡ 0 → HasFirst k
  Locks : k.due ≡ FirstLock → IsResident k.residents first_ident first_name → HasFirst k
  Stays : Contains k.residents first_locked → HasFirst k

-- behind what is neither the first load nor the first lock it is locked, if it was so before
stays : (k : Told) (e : Entry) → MayCome k e → e ≢ Loaded first_ident first_name 0 → e ≢ Locked first_ident 0 → HasFirst k → Contains k.residents first_locked
stays k e may no_load no_lock (Loads due loads) = absurd (no_load (comes_as e k.due FirstLoad due may.comes))
stays k e may no_load no_lock (Locks due r) = absurd (no_lock (comes_as e k.due FirstLock due may.comes))
stays k e may no_load no_lock (Stays there) = there

load_step : (k : Told) (ident : Ident) (name : Name) (cpu : ℕ) → MayCome k (Loaded ident name cpu) → HasFirst k → HasFirst (told_after k (Loaded ident name cpu))
load_step k ident name cpu may (Loads due loads) =
    let same : Loaded ident name cpu ≡ Loaded first_ident first_name 0 = comes_as (Loaded ident name cpu) k.due FirstLoad due may.comes in
    let it : Resident = record { ident = ident; name = name; locked = false } in
    Locks (ap due_after_load loads) (it, Contains-push k.residents it, cc, cc)
load_step k ident name cpu may (Locks due r) =
    let same : Loaded ident name cpu ≡ Locked first_ident 0 = comes_as (Loaded ident name cpu) k.due FirstLock due may.comes in
    absurd (cc)
load_step k ident name cpu may (Stays there) = Stays (Contains-append_left k.residents _ first_locked there)

lock_step : (k : Told) (ident : Ident) (cpu : ℕ) → MayCome k (Locked ident cpu) → HasFirst k → HasFirst (told_after k (Locked ident cpu))
lock_step k ident cpu may (Loads due loads) =
    let same : Locked ident cpu ≡ Loaded first_ident first_name 0 = comes_as (Locked ident cpu) k.due FirstLoad due may.comes in
    absurd (cc)
lock_step k ident cpu may (Locks due r) =
    let same : Locked ident cpu ≡ Locked first_ident 0 = comes_as (Locked ident cpu) k.due FirstLock due may.comes in
    let one : first_ident ≡ ident = cc in
    Stays (subst (λ (i : Ident). Contains (with_lock i true k.residents) first_locked) one
    (subst (Contains (with_lock first_ident true k.residents)) (locked_now r.0 r.2 r.3) (Contains-map (locked_if first_ident true) k.residents r.0 r.1)))
lock_step k ident cpu may (Stays there) = Stays (lock_keeps ident true k.residents (inl refl) there)

back_step : (k : Told) (ident : Ident) (cause : Cause) (cpu : ℕ) → Contains (without ident k.residents) first_locked → HasFirst (told_after k (WrittenBack ident cause cpu))
back_step k ident causes.Dependent cpu there = Stays there
back_step k ident causes.Displaced cpu there = Stays there
back_step k ident causes.Unloaded cpu there = Stays there

one_step : (k : Told) (e : Entry) → MayCome k e → IsWhole k → (k.sealed ≡ true → HasFirst k) → (told_after k e).sealed ≡ true → HasFirst (told_after k e)
one_step k (Declared d) may whole has sealed = absurd (let clash : false ≡ true = sym may.place.0 ∙ sealed in cc)
one_step k Sealed may whole has sealed = Loads refl (whole.unsealed may.place).0
one_step k (Loaded ident name cpu) may whole has sealed = load_step k ident name cpu may (has sealed)
one_step k (WrittenBack ident cause cpu) may whole has sealed =
    back_step k ident cause cpu
    (stays_without ident k.residents first_locked (stays k (WrittenBack ident cause cpu) may (λ e. cc) (λ e. cc) (has may.place)) (λ same. may.happens.not_first (sym same)))
one_step k (Locked ident cpu) may whole has sealed = lock_step k ident cpu may (has sealed)
one_step k (Unlocked ident cpu) may whole has sealed =
    Stays (lock_keeps ident false k.residents (inr may.happens.not_first) (stays k (Unlocked ident cpu) may (λ e. cc) (λ e. cc) (has sealed)))
one_step k (Ran thread steps cpu) may whole has sealed = Stays (stays k (Ran thread steps cpu) may (λ e. cc) (λ e. cc) (has sealed))
one_step k (Ended thread cpu) may whole has sealed = Stays (stays k (Ended thread cpu) may (λ e. cc) (λ e. cc) (has sealed))
one_step k (Completed thread cpu) may whole has sealed = Stays (stays k (Completed thread cpu) may (λ e. cc) (λ e. cc) (has sealed))

all_steps : (k : Told) (es : List Entry) → AreLegal k es → IsWhole k → (k.sealed ≡ true → HasFirst k) → (told_from k es).sealed ≡ true → HasFirst (told_from k es)
all_steps k [] legal whole has = has
all_steps k (e ∷ es) legal whole has = all_steps (told_after k e) es legal.1 (whole_after k e legal.0 whole) (one_step k e legal.0 whole has)

pub first_stays : (j : List Entry) → IsLegal j → (told j).sealed ≡ true → Contains (residents j) first_locked
first_stays j legal sealed = subst (λ (rs : List Resident). Contains rs first_locked) (residents_told_from nothing_told j) (by (all_steps nothing_told j legal.each nothing_whole (λ never. absurd (cc)) sealed))
  where
    by : HasFirst (told j) → Contains (told j).residents first_locked
    by (Loads due loads) = let clash : Anything ≡ FirstLoad = sym legal.whole ∙ due in absurd (cc)
    by (Locks due r) = let clash : Anything ≡ FirstLock = sym legal.whole ∙ due in absurd (cc)
    by (Stays there) = there
