-- The first kernel is loaded behind the seal, and stays.
use Rattle.std.proofs.Common.{◌≡◌, ◌≢◌, ℕ, ◌+◌, ◌<◌, Bool, true, false, cond, List, [], ◌∷◌, Contains, refl, ap, sym, subst, arith}
use Rattle.std.proofs.lemmas.List.Elements.{Contains-append_left, Contains-push}
use Rattle.cache_ident.specs.declared.idents.Cause.{Cause}
use Rattle.cache_ident.specs.declared.idents.Cause.TheVariants as causes
use Rattle.cache_ident.specs.declared.idents.Ident.{Ident}
use Rattle.cache_ident.specs.declared.names.Name.{Name}
use Rattle.cache_ident.specs.Names.{first_name}
use Rattle.cache_ident.specs.Residents.{Resident, with_loaded, without, locked_if, with_lock}
use Rattle.cache_ident.specs.Rolls.{is_same}
use Rattle.cache_ident.proofs.RollLemmas.{is_same-refl}
use Rattle.quantum.specs.flat_laws.proofs.Members.{Contains-map}
use Rattle.desc_tables.specs.run_journal.specs.declared.entries.Entry.{Entry}
use Rattle.desc_tables.specs.run_journal.specs.declared.entries.Entry.TheVariants.{Declared, Sealed, Loaded, WrittenBack, Locked, Unlocked, Ran, Ended, Completed}
use Rattle.desc_tables.specs.run_journal.specs.Told.{Due, Opening, Anything, FirstLoad, FirstLock, Departure, Load, Told, nothing_told, told_after, told_from, told, due_after_load}
use Rattle.desc_tables.specs.run_journal.specs.Legal.{first_ident, Comes, MayCome, AreLegal, IsLegal}
use Rattle.desc_tables.specs.run_journal.proofs.LegalGrowth.{not_first_load}
use Rattle.desc_tables.specs.run_journal.proofs.Others.{stays_without, differ}
use Rattle.desc_tables.specs.run_journal.proofs.Whole.{IsUnsealed, unsealed_after}

-- the first kernel, locked or not
abbrev pub first : Bool → Resident
first on = record { ident = first_ident; name = first_name; locked = on }

-- it is loaded, and locked or not
abbrev pub IsFirstThere : Bool → Told → Type 0
IsFirstThere on k = (0 < k.loads) × Contains k.residents (first on)

-- what is so of it behind the seal, by what has to come
abbrev IsFirstAs : Due → Told → Type 0
IsFirstAs Opening k = ⊥
IsFirstAs FirstLoad k = k.loads ≡ 0
IsFirstAs FirstLock k = IsFirstThere false k
IsFirstAs Anything k = IsFirstThere true k
IsFirstAs (Departure cpu) k = IsFirstThere true k
IsFirstAs (Load kind cpu) k = IsFirstThere true k

abbrev IsOpened : Told → Type 0
IsOpened k = k.sealed ≡ true → IsFirstAs k.due k

-- ---- what keeps it

others_leave : (ident : Ident) (rs : List Resident) → ident ≢ first_ident → Contains rs (first true) → Contains (without ident rs) (first true)
others_leave ident rs other there = stays_without ident rs (first true) there (λ same. other (sym same))

lock_keeps : (ident : Ident) (rs : List Resident) → Contains rs (first true) → Contains (with_lock ident true rs) (first true)
lock_keeps ident rs there = subst (λ (r : Resident). Contains (with_lock ident true rs) r) (by (is_same first_ident ident)) (Contains-map (locked_if ident true) rs (first true) there)
  where
    by : (b : Bool) → cond b (record (first true) { locked = true }) (first true) ≡ first true
    by true = refl
    by false = refl

locked_first : (rs : List Resident) → Contains rs (first false) → Contains (with_lock first_ident true rs) (first true)
locked_first rs there =
    let on : locked_if first_ident true (first false) ≡ first true = ap (λ (b : Bool). cond b (first true) (first false)) (is_same-refl first_ident) in
    subst (λ (r : Resident). Contains (with_lock first_ident true rs) r) on (Contains-map (locked_if first_ident true) rs (first false) there)

other_unlocked : (ident : Ident) (rs : List Resident) → ident ≢ first_ident → Contains rs (first true) → Contains (with_lock ident false rs) (first true)
other_unlocked ident rs other there =
    let stays : locked_if ident false (first true) ≡ first true = ap (λ (b : Bool). cond b (record (first true) { locked = false }) (first true)) (differ first_ident ident (λ same. other (sym same))) in
    subst (λ (r : Resident). Contains (with_lock ident false rs) r) stays (Contains-map (locked_if ident false) rs (first true) there)

-- ---- one entry after another

after_back : (k : Told) (ident : Ident) (cause : Cause) (cpu : ℕ) → ident ≢ first_ident → IsFirstThere true k → IsFirstAs (told_after k (WrittenBack ident cause cpu)).due (told_after k (WrittenBack ident cause cpu))
after_back k ident causes.Dependent cpu other was = (was.0, others_leave ident k.residents other was.1)
after_back k ident causes.Displaced cpu other was = (was.0, others_leave ident k.residents other was.1)
after_back k ident causes.Unloaded cpu other was = (was.0, others_leave ident k.residents other was.1)

-- a load, which isn't the first
after_load : (k : Told) (ident : Ident) (name : Name) (cpu : ℕ) → IsFirstThere true k → IsFirstAs (due_after_load k.loads) (told_after k (Loaded ident name cpu))
after_load k ident name cpu was =
    subst (λ (due : Due). IsFirstAs due (told_after k (Loaded ident name cpu))) {x = Anything} {y = due_after_load k.loads} (sym (not_first_load k.loads was.0))
    (let more : 0 < k.loads + 1 = omega arith in (more, Contains-append_left k.residents (record { ident = ident; name = name; locked = false } ∷ []) (first true) was.1))

first_load : (k : Told) (ident : Ident) (name : Name) (cpu : ℕ) → k.loads ≡ 0 → Loaded ident name cpu ≡ Loaded first_ident first_name 0 → IsFirstAs (due_after_load k.loads) (told_after k (Loaded ident name cpu))
first_load k ident name cpu none is =
    subst (λ (due : Due). IsFirstAs due (told_after k (Loaded ident name cpu))) {x = FirstLock} {y = due_after_load k.loads} (sym (ap due_after_load none))
    (let more : 0 < k.loads + 1 = omega arith in
    let new : Resident = record { ident = ident; name = name; locked = false } in
    let same_ident : ident ≡ first_ident = cc in
    let same_name : name ≡ first_name = cc in
    let same : new ≡ first false = cc in
    (more, subst (λ (r : Resident). Contains (with_loaded ident name k.residents) r) same (Contains-push k.residents new)))

module _ (k : Told) where
  loads : (due : Due) (ident : Ident) (name : Name) (cpu : ℕ) → Comes due (Loaded ident name cpu) → IsFirstAs due k → IsFirstAs (due_after_load k.loads) (told_after k (Loaded ident name cpu))
  loads Opening ident name cpu comes was = absurd was
  loads FirstLoad ident name cpu comes was = first_load k ident name cpu was comes
  loads FirstLock ident name cpu comes was = absurd (cc)
  loads Anything ident name cpu comes was = after_load k ident name cpu was
  loads (Departure by) ident name cpu comes was = absurd comes
  loads (Load kind by) ident name cpu comes was = after_load k ident name cpu was

  backs : (due : Due) (ident : Ident) (cause : Cause) (cpu : ℕ) → Comes due (WrittenBack ident cause cpu) → ident ≢ first_ident → IsFirstAs due k → IsFirstAs (told_after k (WrittenBack ident cause cpu)).due (told_after k (WrittenBack ident cause cpu))
  backs Opening ident cause cpu comes other was = absurd was
  backs FirstLoad ident cause cpu comes other was = absurd (cc)
  backs FirstLock ident cause cpu comes other was = absurd (cc)
  backs Anything ident cause cpu comes other was = after_back k ident cause cpu other was
  backs (Departure by) ident cause cpu comes other was = after_back k ident cause cpu other was
  backs (Load kind by) ident cause cpu comes other was = after_back k ident cause cpu other was

  locks : (due : Due) (ident : Ident) (cpu : ℕ) → Comes due (Locked ident cpu) → IsFirstAs due k → IsFirstThere true (told_after k (Locked ident cpu))
  locks Opening ident cpu comes was = absurd was
  locks FirstLoad ident cpu comes was = absurd (cc)
  locks FirstLock ident cpu comes was =
      let same : ident ≡ first_ident = cc in
      (was.0, subst (λ (i : Ident). Contains (with_lock i true k.residents) (first true)) (sym same) (locked_first k.residents was.1))
  locks Anything ident cpu comes was = (was.0, lock_keeps ident k.residents was.1)
  locks (Departure by) ident cpu comes was = absurd comes
  locks (Load kind by) ident cpu comes was = absurd comes

  unlocks : (due : Due) (ident : Ident) (cpu : ℕ) → Comes due (Unlocked ident cpu) → ident ≢ first_ident → IsFirstAs due k → IsFirstThere true (told_after k (Unlocked ident cpu))
  unlocks Opening ident cpu comes other was = absurd was
  unlocks FirstLoad ident cpu comes other was = absurd (cc)
  unlocks FirstLock ident cpu comes other was = absurd (cc)
  unlocks Anything ident cpu comes other was = (was.0, other_unlocked ident k.residents other was.1)
  unlocks (Departure by) ident cpu comes other was = absurd comes
  unlocks (Load kind by) ident cpu comes other was = absurd comes

  -- an entry that leaves what is resident
  runs : (due : Due) (e : Entry) → Comes due e → (e ≡ Loaded first_ident first_name 0 → ⊥) → (e ≡ Locked first_ident 0 → ⊥) → ((cpu : ℕ) → Comes (Departure cpu) e → ⊥) → IsFirstAs due k → IsFirstThere true k
  runs Opening e comes no_load no_lock no_back was = absurd was
  runs FirstLoad e comes no_load no_lock no_back was = absurd (no_load comes)
  runs FirstLock e comes no_load no_lock no_back was = absurd (no_lock comes)
  runs Anything e comes no_load no_lock no_back was = was
  runs (Departure by) e comes no_load no_lock no_back was = was
  runs (Load kind by) e comes no_load no_lock no_back was = was

opened_after : (k : Told) (e : Entry) → MayCome k e → IsUnsealed k → IsOpened k → IsOpened (told_after k e)
opened_after k (Declared d) may unsealed was = λ sealed. absurd (let place = may.place.0 in cc)
opened_after k Sealed may unsealed was = λ sealed. (unsealed may.place).0
opened_after k (Loaded ident name cpu) may unsealed was = λ sealed. loads k k.due ident name cpu may.comes (was may.place)
opened_after k (WrittenBack ident cause cpu) may unsealed was = λ sealed. backs k k.due ident cause cpu may.comes may.happens.not_first (was may.place)
opened_after k (Locked ident cpu) may unsealed was = λ sealed. locks k k.due ident cpu may.comes (was may.place)
opened_after k (Unlocked ident cpu) may unsealed was = λ sealed. unlocks k k.due ident cpu may.comes may.happens.not_first (was may.place)
opened_after k (Ran thread steps cpu) may unsealed was = λ sealed. runs k k.due (Ran thread steps cpu) may.comes (λ e. cc) (λ e. cc) (λ by c. c) (was may.place)
opened_after k (Ended thread cpu) may unsealed was = λ sealed. runs k k.due (Ended thread cpu) may.comes (λ e. cc) (λ e. cc) (λ by c. c) (was may.place)
opened_after k (Completed thread cpu) may unsealed was = λ sealed. runs k k.due (Completed thread cpu) may.comes (λ e. cc) (λ e. cc) (λ by c. c) (was may.place)

opened_from : (k : Told) (es : List Entry) → AreLegal k es → IsUnsealed k → IsOpened k → IsOpened (told_from k es)
opened_from k [] legal unsealed was = was
opened_from k (e ∷ es) legal unsealed was =
    opened_from (told_after k e) es legal.1 (unsealed_after k e legal.0.place unsealed) (opened_after k e legal.0 unsealed was)

-- where nothing more has to come, and the journal is sealed, the first kernel is loaded and locked
pub first_there : (j : List Entry) → IsLegal j → (told j).sealed ≡ true → IsFirstThere true (told j)
first_there j legal sealed =
    let opened : IsOpened (told j) = opened_from nothing_told j legal.each (λ unsealed. (refl, refl)) (λ never. absurd (cc)) in
    subst (λ (due : Due). IsFirstAs due (told j)) {x = (told j).due} {y = Anything} legal.whole (opened sealed)
