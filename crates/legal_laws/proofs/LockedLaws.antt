-- What is locked was locked at a place, and neither was the lock ended nor has it left since.
use Rattle.std.proofs.Common.{◌≡◌, ◌≢◌, ◌↔◌, ℕ, Bool, true, false, cond, List, [], ◌∷◌, ◌++◌, length, Some, Contains, refl, ap, sym, ◌∙◌, subst, inl, inr, ◌⊎◌}
use Rattle.std.proofs.lemmas.Bool.{cases_Bool, false≢true}
use Rattle.std.proofs.lemmas.List.Elements.{Contains-append_left, Contains-push_cases}
use Rattle.std.proofs.lemmas.Option.{slice_get_within}
use Rattle.cache_ident.specs.declared.idents.Ident.{Ident}
use Rattle.cache_ident.specs.Residents.{Resident, IsIdentResident, locked_if, with_lock}
use Rattle.cache_ident.specs.Rolls.{is_same}
use Rattle.cache_ident.proofs.RollLemmas.{is_same-refl, same_ident}
use Rattle.group_laws.specs.flat_state.proofs.Places.{get-append, push_cases}
use Rattle.group_laws.specs.flat_laws.proofs.Members.{contains_nothing, Contains-from_map, Contains-map}
use Rattle.group_laws.specs.run_journal.specs.declared.entries.Entry.{Entry}
use Rattle.group_laws.specs.run_journal.specs.declared.entries.Entry.TheVariants.{Declared, Sealed, Loaded, WrittenBack, Locked, Unlocked, Ran, Ended, Completed}
use Rattle.group_laws.specs.run_journal.specs.Legal.{AreLegal, IsLegal, MayCome}
use Rattle.group_laws.specs.run_journal.specs.Told.{nothing_told, residents, residents_after, told, Told}
use Rattle.group_laws.specs.run_journal.proofs.Growth.{legal-split, residents_from-append, residents_told_from}
use Rattle.group_laws.specs.run_journal.proofs.Others.{differ, locked_keeps, stays_without, without_cases}
use Rattle.legal_laws.specs.Places.{IsIdentLocked, IsUnlockAt, StaysLocked}
use Rattle.legal_laws.proofs.AtPlaces.{by_last, get_last}
use Rattle.legal_laws.proofs.Residence.{departs_before, departs_last, departs_later, none_behind, Departs}

-- what an entry does
abbrev Locks : Entry → Ident → Type 0
Locks e ident = (cpu : ℕ) × (e ≡ Locked ident cpu)

abbrev Unlocks : Entry → Ident → Type 0
Unlocks e ident = (cpu : ℕ) × (e ≡ Unlocked ident cpu)

-- it leaves a lock
abbrev Leaves : Entry → Ident → Type 0
Leaves e ident = (Unlocks e ident → ⊥) × (Departs e ident → ⊥)

-- ---- by the list of residents

-- a lock of one leaves the lock of another
other_lock : (other : Ident) (on : Bool) (r : Resident) → (r.ident ≢ other) → locked_if other on r ≡ r
other_lock other on r apart = ap (λ (b : Bool). cond b (record r { locked = on }) r) (differ r.ident other apart)

own_lock : (other : Ident) (on : Bool) (r : Resident) → r.ident ≡ other → (locked_if other on r).locked ≡ on
own_lock other on r same = ap (λ (b : Bool). (cond b (record r { locked = on }) r).locked) (ap (λ (i : Ident). is_same i other) same ∙ is_same-refl other)

kept_lock : (rs : List Resident) (other ident : Ident) (on : Bool) → (r : Resident) → Contains rs r → r.ident ≡ ident → (r.locked ≡ true) → (other ≢ ident) ⊎ (on ≡ true) → IsIdentLocked (with_lock other on rs) ident
kept_lock rs other ident on r there its is so =
    (locked_if other on r, Contains-map (locked_if other on) rs r there, (locked_keeps other on r).0 ∙ its, by (cases_Bool (is_same r.ident other)) so)
  where
    by : (is_same r.ident other ≡ true) ⊎ (is_same r.ident other ≡ false) → (other ≢ ident) ⊎ (on ≡ true) → (locked_if other on r).locked ≡ true
    by (inl same) (inl apart) = absurd (apart (sym (same_ident r.ident other same) ∙ its))
    by (inl same) (inr now) = own_lock other on r (same_ident r.ident other same) ∙ now
    by (inr differs) so = ap (λ (b : Bool). (cond b (record r { locked = on }) r).locked) differs ∙ is

-- what is locked after a lock of another, or the end of one, was so before
was_locked : (rs : List Resident) (other ident : Ident) (on : Bool) → other ≢ ident → IsIdentLocked (with_lock other on rs) ident → IsIdentLocked rs ident
was_locked rs other ident on apart r =
    let was = Contains-from_map (locked_if other on) rs r.0 r.1 in
    let its : was.0.ident ≡ ident = sym (locked_keeps other on was.0).0 ∙ ap (λ (x : Resident). x.ident) was.2 ∙ r.2 in
    let stays = other_lock other on was.0 (λ same. apart (sym same ∙ its)) in
    (was.0, was.1, its, ap (λ (x : Resident). x.locked) (sym stays ∙ was.2) ∙ r.3)

never_locked : (rs : List Resident) (ident : Ident) → IsIdentLocked (with_lock ident false rs) ident → ⊥
never_locked rs ident r =
    let was = Contains-from_map (locked_if ident false) rs r.0 r.1 in
    let its : was.0.ident ≡ ident = sym (locked_keeps ident false was.0).0 ∙ ap (λ (x : Resident). x.ident) was.2 ∙ r.2 in
    false≢true (sym (own_lock ident false was.0 its) ∙ ap (λ (x : Resident). x.locked) was.2 ∙ r.3)

ident_or : (a b : Ident) → (a ≡ b) ⊎ (a ≢ b)
ident_or a b = elim (cases_Bool (is_same a b)) [
  | inl same ↦ inl (same_ident a b same)
  | inr differs ↦ inr (λ same. false≢true (sym differs ∙ ap (λ (i : Ident). is_same i b) same ∙ is_same-refl b))
]

-- what is locked after an entry is locked by it, or was locked and is left so
locked_cases : (rs : List Resident) (e : Entry) (ident : Ident) → IsIdentLocked (residents_after rs e) ident → Locks e ident ⊎ (IsIdentLocked rs ident × Leaves e ident)
locked_cases rs (Declared d) ident r = inr (r, (λ is. let e = is.1 in cc, λ is. let e = is.2 in cc))
locked_cases rs Sealed ident r = inr (r, (λ is. let e = is.1 in cc, λ is. let e = is.2 in cc))
locked_cases rs (Loaded other name cpu) ident r = elim (Contains-push_cases rs (record { ident = other; name = name; locked = false }) r.0 r.1) [
  | inl before ↦ inr ((r.0, before, r.2, r.3), (λ is. let e = is.1 in cc, λ is. let e = is.2 in cc))
  | inr now ↦ absurd (false≢true (ap (λ (x : Resident). x.locked) now ∙ r.3))
]
locked_cases rs (WrittenBack other cause cpu) ident r =
    let kept = without_cases other rs r.0 r.1 in
    inr ((r.0, kept.0, r.2, r.3), (λ is. let e = is.1 in cc, λ is. let e = is.2 in let same : other ≡ ident = cc in kept.1 (r.2 ∙ sym same)))
locked_cases rs (Locked other cpu) ident r = elim (ident_or other ident) [
  | inl same ↦ inl (cpu, ap (λ (i : Ident). Locked i cpu) same)
  | inr apart ↦ inr (was_locked rs other ident true apart r, (λ is. let e = is.1 in cc, λ is. let e = is.2 in cc))
]
locked_cases rs (Unlocked other cpu) ident r = elim (ident_or other ident) [
  | inl same ↦ absurd (never_locked rs ident (subst (λ (i : Ident). IsIdentLocked (with_lock i false rs) ident) same r))
  | inr apart ↦ inr (was_locked rs other ident false apart r, (λ is. let e = is.1 in apart (cc), λ is. let e = is.2 in cc))
]
locked_cases rs (Ran thread steps cpu) ident r = inr (r, (λ is. let e = is.1 in cc, λ is. let e = is.2 in cc))
locked_cases rs (Ended thread cpu) ident r = inr (r, (λ is. let e = is.1 in cc, λ is. let e = is.2 in cc))
locked_cases rs (Completed thread cpu) ident r = inr (r, (λ is. let e = is.1 in cc, λ is. let e = is.2 in cc))

locked_old : (rs : List Resident) (e : Entry) (ident : Ident) → IsIdentLocked rs ident → Leaves e ident → IsIdentLocked (residents_after rs e) ident
locked_old rs (Declared d) ident r stays = r
locked_old rs Sealed ident r stays = r
locked_old rs (Loaded other name cpu) ident r stays = (r.0, Contains-append_left rs _ r.0 r.1, r.2, r.3)
locked_old rs (WrittenBack other cause cpu) ident r stays =
    (r.0, stays_without other rs r.0 r.1 (λ same. stays.1 (cause, cpu, ap (λ (i : Ident). WrittenBack i cause cpu) (sym same ∙ r.2))), r.2, r.3)
locked_old rs (Locked other cpu) ident r stays = kept_lock rs other ident true r.0 r.1 r.2 r.3 (inr refl)
locked_old rs (Unlocked other cpu) ident r stays = kept_lock rs other ident false r.0 r.1 r.2 r.3 (inl (λ same. stays.0 (cpu, ap (λ (i : Ident). Unlocked i cpu) same)))
locked_old rs (Ran thread steps cpu) ident r stays = r
locked_old rs (Ended thread cpu) ident r stays = r
locked_old rs (Completed thread cpu) ident r stays = r

-- what is resident is locked by its lock
locked_now : (rs : List Resident) (ident : Ident) → IsIdentResident rs ident → IsIdentLocked (with_lock ident true rs) ident
locked_now rs ident r = (locked_if ident true r.0, Contains-map (locked_if ident true) rs r.0 r.1, (locked_keeps ident true r.0).0 ∙ r.2, own_lock ident true r.0 r.2)

-- an entry that may come locks what is resident
locked_new : (k : Told) (e : Entry) (ident : Ident) → MayCome k e → Locks e ident → IsIdentLocked (residents_after k.residents e) ident
locked_new k e ident may locks =
    let now : MayCome k (Locked ident locks.0) = subst (MayCome k) locks.1 may in
    subst (λ (x : Entry). IsIdentLocked (residents_after k.residents x) ident) (sym locks.1)
    (locked_now k.residents ident (now.happens.resident, now.happens.there, now.happens.its))

-- ---- by places

module _ (p : List Entry) (e : Entry) (ident : Ident) where
  unlocks_before : (at : ℕ) → IsUnlockAt (p ++ e ∷ []) at ident → IsUnlockAt p at ident ⊎ Unlocks e ident
  unlocks_before at is = elim (push_cases p e (Unlocked ident is.0) at is.1) [
    | inl before ↦ inl (is.0, before)
    | inr here ↦ inr (is.0, here.1)
  ]

  stays_cases : StaysLocked (p ++ e ∷ []) ident → Locks e ident ⊎ (StaysLocked p ident × Leaves e ident)
  stays_cases s = elim (push_cases p e (Locked ident s.locked.0) s.at s.locked.1) [
    | inl before ↦ (
        let low = slice_get_within p s.at (Locked ident s.locked.0) before in
        inr (
          record {
            at = s.at;
            locked = (s.locked.0, before);
            on = λ later behind is. s.on later behind (is.0, get-append p (e ∷ []) later (Unlocked ident is.0) is.1);
            stays = λ later behind is. s.stays later behind (departs_later p e ident later is);
          },
          (λ is. s.on (length p) low (is.0, get_last p e ∙ ap Some is.1), λ is. s.stays (length p) low (departs_last p e ident is)),
        ))
    | inr here ↦ inl (s.locked.0, here.1)
  ]

  stays_new : Locks e ident → StaysLocked (p ++ e ∷ []) ident
  stays_new locks = record {
    at = length p;
    locked = (locks.0, get_last p e ∙ ap Some locks.1);
    on = λ later behind is. none_behind p e later (Unlocked ident is.0) behind is.1;
    stays = λ later behind is. none_behind p e later (WrittenBack ident is.0 is.1) behind is.2;
  }

  stays_old : StaysLocked p ident → Leaves e ident → StaysLocked (p ++ e ∷ []) ident
  stays_old s leaves = record {
    at = s.at;
    locked = (s.locked.0, get-append p (e ∷ []) s.at (Locked ident s.locked.0) s.locked.1);
    on = λ later behind is. elim (unlocks_before later is) [
      | inl before ↦ s.on later behind before
      | inr now ↦ leaves.0 now
    ];
    stays = λ later behind is. elim (departs_before p e ident later is) [
      | inl before ↦ s.stays later behind before
      | inr now ↦ leaves.1 now
    ];
  }

-- so far as it is by the rules
abbrev IsTold : Ident → List Entry → Type 0
IsTold ident p = AreLegal nothing_told p → IsIdentLocked (residents p) ident ↔ StaysLocked p ident

one_more : (ident : Ident) (p : List Entry) (e : Entry) → IsTold ident p → IsTold ident (p ++ e ∷ [])
one_more ident p e so legal =
    let parts = legal-split nothing_told p (e ∷ []) legal in
    let before = so parts.0 in
    let may : MayCome (told p) e = parts.1.0 in
    let new : Locks e ident → IsIdentLocked (residents_after (residents p) e) ident =
    λ locks. subst (λ (rs : List Resident). IsIdentLocked (residents_after rs e) ident) (residents_told_from nothing_told p) (locked_new (told p) e ident may locks) in
    subst (λ (rs : List Resident). IsIdentLocked rs ident ↔ StaysLocked (p ++ e ∷ []) ident) (sym (residents_from-append [] p (e ∷ []))) (
      λ r. elim (locked_cases (residents p) e ident r) [
        | inl locks ↦ stays_new p e ident locks
        | inr was ↦ stays_old p e ident (before.0 was.0) was.1
      ],
      λ s. elim (stays_cases p e ident s) [
        | inl locks ↦ new locks
        | inr was ↦ locked_old (residents p) e ident (before.1 was.0) was.1
      ],
    )

-- of a legal journal an identifier is locked exactly where an entry locked it, and no later one ended that or is its departure
pub locks : (j : List Entry) (ident : Ident) → IsLegal j → IsIdentLocked (residents j) ident ↔ StaysLocked j ident
locks j ident legal =
    by_last (IsTold ident) (λ none. (λ r. absurd (contains_nothing r.0 r.1), λ s. absurd (let none = s.locked.1 in cc))) (one_more ident) j legal.each
