-- What is resident in a legal journal is whole: each has a name, an identifier and a slot of its own, stands, is fit, and has all
-- that it depends on.
use Rattle.std.proofs.Common.{◌≡◌, ℕ, zero, suc, Bool, true, false, List, [], ◌∷◌, replicate, Contains, refl, ap, sym, ◌∙◌, subst, inl, inr}
use Rattle.std.specs.Prelude.{◌||◌}
use Rattle.std.proofs.lemmas.List.Elements.{Contains-push_cases, Contains-append_left}
use Rattle.cache_ident.specs.declared.idents.Cause.{Cause}
use Rattle.cache_ident.specs.declared.idents.Cause.TheVariants as causes
use Rattle.cache_ident.specs.declared.idents.Ident.{Ident}
use Rattle.cache_ident.specs.declared.names.Name.{Name}
use Rattle.cache_ident.specs.declared.names.ThreadNo.{ThreadNo}
use Rattle.cache_ident.specs.Residents.{Resident, with_loaded, without, locked_if, with_lock, IsNameResident}
use Rattle.flat_state.specs.declared.events.Event.TheVariants.{Step}
use Rattle.flat_state.specs.State.{FlatState}
use Rattle.flat_state.specs.Dependence.{parents, Depends}
use Rattle.flat_state.specs.Names.{stands, is_fit_name}
use Rattle.flat_state.specs.Events.{after_events, applied}
use Rattle.flat_laws.proofs.Members.{contains_nothing, Contains-map, Contains-from_map}
use Rattle.flat_laws.proofs.StepSame.{step_same, same_parents, same_stands, same_fit_name}
use Rattle.run_journal.specs.declared.entries.Entry.{Entry}
use Rattle.run_journal.specs.declared.entries.Entry.TheVariants.{Declared, Sealed, Loaded, WrittenBack, Locked, Unlocked, Ran, Ended, Completed}
use Rattle.run_journal.specs.Told.{is_seal, Told, nothing_told, told_after, told_from}
use Rattle.run_journal.specs.Groups.{NothingDependsOn, HasParents}
use Rattle.run_journal.specs.Legal.{MayLoad, MayCome, IsInPlace, StaysGood, AreGood, AreLegal}
use Rattle.run_journal.proofs.Growth.{sealed_after}
use Rattle.run_journal.proofs.Others.{without_cases, stays_without, locked_keeps}
use Rattle.run_journal.proofs.Sound.{IsOneEach, AreNumbered, numbered_after}

-- ---- before the seal

abbrev pub IsUnsealed : Told → Type 0
IsUnsealed k = k.sealed ≡ false → (k.loads ≡ 0) × (k.residents ≡ [])

was_sealed : (k : Told) (e : Entry) → is_seal e ≡ false → k.sealed ≡ true → IsUnsealed (told_after k e)
was_sealed k e other is unsealed = absurd (let now = sealed_after k e in
    let still : (told_after k e).sealed ≡ true = now ∙ ap (λ (b : Bool). b || is_seal e) is in cc)

pub unsealed_after : (k : Told) (e : Entry) → IsInPlace k e → IsUnsealed k → IsUnsealed (told_after k e)
unsealed_after k (Declared d) place so = so
unsealed_after k Sealed place so = λ e. absurd (cc)
unsealed_after k (Loaded ident name cpu) place so = was_sealed k (Loaded ident name cpu) refl place
unsealed_after k (WrittenBack ident cause cpu) place so = was_sealed k (WrittenBack ident cause cpu) refl place
unsealed_after k (Locked ident cpu) place so = was_sealed k (Locked ident cpu) refl place
unsealed_after k (Unlocked ident cpu) place so = was_sealed k (Unlocked ident cpu) refl place
unsealed_after k (Ran thread steps cpu) place so = was_sealed k (Ran thread steps cpu) refl place
unsealed_after k (Ended thread cpu) place so = was_sealed k (Ended thread cpu) refl place
unsealed_after k (Completed thread cpu) place so = was_sealed k (Completed thread cpu) refl place

unsealed_from : (k : Told) (es : List Entry) → AreLegal k es → IsUnsealed k → IsUnsealed (told_from k es)
unsealed_from k [] legal so = so
unsealed_from k (e ∷ es) legal so = unsealed_from (told_after k e) es legal.1 (unsealed_after k e legal.0.place so)

-- nothing is loaded before the seal
pub nothing_loaded : (j : List Entry) → AreLegal nothing_told j → (told_from nothing_told j).sealed ≡ false → ((told_from nothing_told j).loads ≡ 0) × ((told_from nothing_told j).residents ≡ [])
nothing_loaded j legal = unsealed_from nothing_told j legal (λ e. (refl, refl))

-- ---- what stands, and has what it depends on

good_nothing : (s : FlatState) (rs : List Resident) → rs ≡ [] → AreGood s rs
good_nothing s rs none r there = absurd (contains_nothing r (subst (λ (xs : List Resident). Contains xs r) none there))

good_load : (s : FlatState) (rs : List Resident) (ident : Ident) (name : Name) → AreGood s rs → stands s name ≡ true → is_fit_name s name ≡ true → HasParents s rs name → AreGood s (with_loaded ident name rs)
good_load s rs ident name good there fit has r r_there = elim (Contains-push_cases rs new r r_there) [
  | inl before ↦ (let was = good r before in record { there = was.there; fit = was.fit; parents = λ parent depends. more (was.parents parent depends) })
  | inr now ↦ subst (λ (x : Resident). StaysGood s (with_loaded ident name rs) x) {x = new} {y = r} now (record { there = there; fit = fit; parents = λ parent depends. more (has parent depends) })
]
  where
    new : Resident
    new = record { ident = ident; name = name; locked = false }

    more : {parent : Name} → IsNameResident rs parent → IsNameResident (with_loaded ident name rs) parent
    more found = (found.0, Contains-append_left rs (new ∷ []) found.0 found.1, found.2)

good_without : (s : FlatState) (rs : List Resident) (leaver : Resident) → IsOneEach rs → Contains rs leaver → NothingDependsOn s rs leaver.name → AreGood s rs → AreGood s (without leaver.ident rs)
good_without s rs leaver one leaver_there last good r there =
    let kept = without_cases leaver.ident rs r there in
    let was = good r kept.0 in
    record {
      there = was.there;
      fit = was.fit;
      parents = λ parent depends.
          let found = was.parents parent depends in (
            found.0,
            stays_without leaver.ident rs found.0 found.1 (λ same.
                let its : found.0 ≡ leaver = one found.0 leaver found.1 leaver_there same in
                last r kept.0 (subst (λ (name : Name). Depends s r.name name) {x = parent} {y = leaver.name} (sym found.2 ∙ ap (λ (x : Resident). x.name) its) depends)),
            found.2,
          );
    }

good_lock : (s : FlatState) (rs : List Resident) (ident : Ident) (on : Bool) → AreGood s rs → AreGood s (with_lock ident on rs)
good_lock s rs ident on good r there =
    let was = Contains-from_map (locked_if ident on) rs r there in
    let name : was.0.name ≡ r.name = sym (locked_keeps ident on was.0).1 ∙ ap (λ (x : Resident). x.name) was.2 in
    let so = good was.0 was.1 in
    record {
      there = ap (stands s) (sym name) ∙ so.there;
      fit = ap (is_fit_name s) (sym name) ∙ so.fit;
      parents = λ parent depends.
          let found = so.parents parent (subst (λ (n : Name). Depends s n parent) {x = r.name} {y = was.0.name} (sym name) depends) in
          (locked_if ident on found.0, Contains-map (locked_if ident on) rs found.0 found.1, (locked_keeps ident on found.0).1 ∙ found.2);
    }

good_step : (s : FlatState) (rs : List Resident) (thread : ThreadNo) → AreGood s rs → AreGood (applied s (Step thread)) rs
good_step s rs thread good r there =
    let u = applied s (Step thread) in
    let same = step_same s thread in
    let was = good r there in
    record {
      there = same_stands s u same r.name ∙ was.there;
      fit = same_fit_name s u same r.name ∙ was.fit;
      parents = λ parent depends. was.parents parent (subst (λ (ps : List Name). Contains ps parent) {x = parents u r.name} {y = parents s r.name} (same_parents s u same r.name) depends);
    }

good_steps : (n : ℕ) (s : FlatState) (rs : List Resident) (thread : ThreadNo) → AreGood s rs → AreGood (after_events s (replicate n (Step thread))) rs
good_steps zero s rs thread good = good
good_steps (suc n) s rs thread good = good_steps n (applied s (Step thread)) rs thread (good_step s rs thread good)

good_back : (k : Told) (ident : Ident) (cause : Cause) (cpu : ℕ) → AreGood k.state (without ident k.residents) → AreGood (told_after k (WrittenBack ident cause cpu)).state (told_after k (WrittenBack ident cause cpu)).residents
good_back k ident causes.Dependent cpu good = good
good_back k ident causes.Displaced cpu good = good
good_back k ident causes.Unloaded cpu good = good

pub good_after : (k : Told) (e : Entry) → MayCome k e → IsUnsealed k → AreNumbered k.loads k.residents → AreGood k.state k.residents → AreGood (told_after k e).state (told_after k e).residents
good_after k (Declared d) may unsealed are good = good_nothing (told_after k (Declared d)).state k.residents (unsealed may.place.0).1
good_after k Sealed may unsealed are good = good
good_after k (Loaded ident name cpu) may unsealed are good = good_load k.state k.residents ident name good may.happens.there may.happens.fit may.happens.parents
good_after k (WrittenBack ident cause cpu) may unsealed are good =
    good_back k ident cause cpu (subst (λ (i : Ident). AreGood k.state (without i k.residents)) {x = may.happens.resident.ident} {y = ident} may.happens.its (good_without k.state k.residents may.happens.resident are.one may.happens.there may.happens.last good))
good_after k (Locked ident cpu) may unsealed are good = good_lock k.state k.residents ident true good
good_after k (Unlocked ident cpu) may unsealed are good = good_lock k.state k.residents ident false good
good_after k (Ran thread steps cpu) may unsealed are good = good_steps steps k.state k.residents thread good
good_after k (Ended thread cpu) may unsealed are good = good_step k.state k.residents thread good
good_after k (Completed thread cpu) may unsealed are good = may.happens.good

-- ---- names and slots

pub record HaveSlots (rs : List Resident) : Type 0 where
  pub names : (a b : Resident) → Contains rs a → Contains rs b → a.name ≡ b.name → a ≡ b
  pub slots : (a b : Resident) → Contains rs a → Contains rs b → a.ident.kind ≡ b.ident.kind → a.ident.slot ≡ b.ident.slot → a ≡ b

apart_without : (ident : Ident) (rs : List Resident) → HaveSlots rs → HaveSlots (without ident rs)
apart_without ident rs are = record {
  names = λ a b a_there b_there same. are.names a b (without_cases ident rs a a_there).0 (without_cases ident rs b b_there).0 same;
  slots = λ a b a_there b_there kind slot. are.slots a b (without_cases ident rs a a_there).0 (without_cases ident rs b b_there).0 kind slot;
}

apart_lock : (ident : Ident) (on : Bool) (rs : List Resident) → HaveSlots rs → HaveSlots (with_lock ident on rs)
apart_lock ident on rs are = record {
  names = λ a b a_there b_there same.
      let was_a = Contains-from_map (locked_if ident on) rs a a_there in
      let was_b = Contains-from_map (locked_if ident on) rs b b_there in
      sym was_a.2 ∙ ap (locked_if ident on) (are.names was_a.0 was_b.0 was_a.1 was_b.1 (sym (locked_keeps ident on was_a.0).1 ∙ ap (λ (x : Resident). x.name) was_a.2 ∙ same ∙ ap (λ (x : Resident). x.name) (sym was_b.2) ∙ (locked_keeps ident on was_b.0).1)) ∙ was_b.2;
  slots = λ a b a_there b_there kind slot.
      let was_a = Contains-from_map (locked_if ident on) rs a a_there in
      let was_b = Contains-from_map (locked_if ident on) rs b b_there in
      let ident_a : was_a.0.ident ≡ a.ident = sym (locked_keeps ident on was_a.0).0 ∙ ap (λ (x : Resident). x.ident) was_a.2 in
      let ident_b : was_b.0.ident ≡ b.ident = sym (locked_keeps ident on was_b.0).0 ∙ ap (λ (x : Resident). x.ident) was_b.2 in
      sym was_a.2 ∙ ap (locked_if ident on) (are.slots was_a.0 was_b.0 was_a.1 was_b.1 (ap (λ (i : Ident). i.kind) ident_a ∙ kind ∙ ap (λ (i : Ident). i.kind) (sym ident_b)) (ap (λ (i : Ident). i.slot) ident_a ∙ slot ∙ ap (λ (i : Ident). i.slot) (sym ident_b))) ∙ was_b.2;
}

apart_load : (k : Told) (ident : Ident) (name : Name) → MayLoad k ident name → HaveSlots k.residents → HaveSlots (with_loaded ident name k.residents)
apart_load k ident name may are = record {
  names = λ a b a_there b_there same. elim (Contains-push_cases k.residents new a a_there) [
    | inl a_before ↦ elim (Contains-push_cases k.residents new b b_there) [
      | inl b_before ↦ are.names a b a_before b_before same
      | inr b_now ↦ absurd (may.absent (a, a_before, same ∙ ap (λ (x : Resident). x.name) (sym b_now)))
    ]
    | inr a_now ↦ elim (Contains-push_cases k.residents new b b_there) [
      | inl b_before ↦ absurd (may.absent (b, b_before, sym same ∙ ap (λ (x : Resident). x.name) (sym a_now)))
      | inr b_now ↦ sym a_now ∙ b_now
    ]
  ];
  slots = λ a b a_there b_there kind slot. elim (Contains-push_cases k.residents new a a_there) [
    | inl a_before ↦ elim (Contains-push_cases k.residents new b b_there) [
      | inl b_before ↦ are.slots a b a_before b_before kind slot
      | inr b_now ↦ absurd (may.free (a, a_before, kind ∙ ap (λ (x : Resident). x.ident.kind) (sym b_now), slot ∙ ap (λ (x : Resident). x.ident.slot) (sym b_now)))
    ]
    | inr a_now ↦ elim (Contains-push_cases k.residents new b b_there) [
      | inl b_before ↦ absurd (may.free (b, b_before, sym kind ∙ ap (λ (x : Resident). x.ident.kind) (sym a_now), sym slot ∙ ap (λ (x : Resident). x.ident.slot) (sym a_now)))
      | inr b_now ↦ sym a_now ∙ b_now
    ]
  ];
}
  where
    new : Resident
    new = record { ident = ident; name = name; locked = false }

apart_back : (k : Told) (ident : Ident) (cause : Cause) (cpu : ℕ) → HaveSlots k.residents → HaveSlots (told_after k (WrittenBack ident cause cpu)).residents
apart_back k ident causes.Dependent cpu are = apart_without ident k.residents are
apart_back k ident causes.Displaced cpu are = apart_without ident k.residents are
apart_back k ident causes.Unloaded cpu are = apart_without ident k.residents are

pub apart_after : (k : Told) (e : Entry) → MayCome k e → HaveSlots k.residents → HaveSlots (told_after k e).residents
apart_after k (Declared d) may are = are
apart_after k Sealed may are = are
apart_after k (Loaded ident name cpu) may are = apart_load k ident name may.happens are
apart_after k (WrittenBack ident cause cpu) may are = apart_back k ident cause cpu are
apart_after k (Locked ident cpu) may are = apart_lock ident true k.residents are
apart_after k (Unlocked ident cpu) may are = apart_lock ident false k.residents are
apart_after k (Ran thread steps cpu) may are = are
apart_after k (Ended thread cpu) may are = are
apart_after k (Completed thread cpu) may are = are

-- ---- all together

pub record IsWhole (k : Told) : Type 0 where
  pub numbered : AreNumbered k.loads k.residents
  pub apart : HaveSlots k.residents
  pub good : AreGood k.state k.residents
  pub unsealed : IsUnsealed k

pub whole_after : (k : Told) (e : Entry) → MayCome k e → IsWhole k → IsWhole (told_after k e)
whole_after k e may is = record {
  numbered = numbered_after k e may.happens is.numbered;
  apart = apart_after k e may is.apart;
  good = good_after k e may is.unsealed is.numbered is.good;
  unsealed = unsealed_after k e may.place is.unsealed;
}

pub whole_from : (k : Told) (es : List Entry) → AreLegal k es → IsWhole k → IsWhole (told_from k es)
whole_from k [] legal is = is
whole_from k (e ∷ es) legal is = whole_from (told_after k e) es legal.1 (whole_after k e legal.0 is)

pub nothing_whole : IsWhole nothing_told
nothing_whole = record {
  numbered = record {
    issued = λ r there. absurd (contains_nothing r there);
    kinds = λ r there. absurd (contains_nothing r there);
    one = λ a b there other same. absurd (contains_nothing a there);
  };
  apart = record {
    names = λ a b there other same. absurd (contains_nothing a there);
    slots = λ a b there other kind slot. absurd (contains_nothing a there);
  };
  good = λ r there. absurd (contains_nothing r there);
  unsealed = λ e. (refl, refl);
}
