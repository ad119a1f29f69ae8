-- Which slots are taken, once one comes, leaves or is locked.
use Rattle.std.proofs.Common.{◌≡◌, ◌≢◌, ◌↔◌, ◌⊎◌, ℕ, ◌+◌, Bool, false, cond, List, [], ◌∷◌, Contains, refl, ap, sym, ◌∙◌, subst, inl, inr, arith}
use Rattle.std.proofs.lemmas.List.Elements.{Contains-push, Contains-push_cases, Contains-append_left}
use Rattle.cache_ident.specs.declared.idents.Ident.{Ident}
use Rattle.cache_ident.specs.declared.idents.Kind.{Kind}
use Rattle.cache_ident.specs.declared.names.Name.{Name}
use Rattle.cache_ident.specs.Residents.{Resident, with_loaded, without, locked_if, with_lock}
use Rattle.residents.specs.flat_laws.proofs.Members.{Contains-map, Contains-from_map, contains_nothing}
use Rattle.residents.specs.run_journal.specs.Legal.{IsTaken, count_of, is_kind}
use Rattle.residents.specs.run_journal.proofs.KindLemmas.{is_kind-refl, kind_is_not}
use Rattle.residents.specs.run_journal.proofs.Others.{without_cases, stays_without, locked_keeps}
use Rattle.residents.specs.declared.slots.Slots.{Slots}
use Rattle.residents.specs.Slots.{IsCount, IsTakenIn}
use Rattle.journal_tables.specs.Tables.{AreSlotsOf}
use Rattle.journal_rules.specs.journal_laws.specs.Leaving.{AreApart}
use Rattle.group_laws.proofs.Counting.{count-loaded, count-without, count-locked}

abbrev of_kind : Kind → Resident → Bool
of_kind kind r = is_kind r.ident.kind kind

pub slots_none : (slots : Slots) (kind : Kind) → ((slot : ℕ) → IsTakenIn slots slot → ⊥) → IsCount slots 0 → AreSlotsOf slots [] kind
slots_none slots kind none count = record {
  taken = λ slot. (λ is. absurd (none slot is), λ is. absurd (contains_nothing is.0 is.1));
  count = count;
}

-- ---- one comes

module _ (ident : Ident) (name : Name) (rs : List Resident) where
  abbrev new : Resident
  new = record { ident = ident; name = name; locked = false }

  taken_before : (kind : Kind) (slot : ℕ) → IsTaken rs kind slot → IsTaken (with_loaded ident name rs) kind slot
  taken_before kind slot is = (is.0, Contains-append_left rs (new ∷ []) is.0 is.1, is.2, is.3)

  pub slots_loaded : (old after : Slots) → ((slot : ℕ) → IsTakenIn after slot ↔ (IsTakenIn old slot ⊎ (slot ≡ ident.slot))) → ((n : ℕ) → IsCount old n → IsCount after (n + 1)) → AreSlotsOf old rs ident.kind → AreSlotsOf after (with_loaded ident name rs) ident.kind
  slots_loaded old after taken count are = record {
    taken = λ slot. (
      λ is. elim ((taken slot).0 is) [
        | inl before ↦ taken_before ident.kind slot ((are.taken slot).0 before)
        | inr its ↦ (new, Contains-push rs new, refl, sym its)
      ],
      λ is. (taken slot).1 (elim (Contains-push_cases rs new is.0 is.1) [
        | inl before ↦ inl ((are.taken slot).1 (is.0, before, is.2, is.3))
        | inr now ↦ inr (sym is.3 ∙ ap (λ (x : Resident). x.ident.slot) (sym now))
      ]),
    );
    count = subst (IsCount after) (sym (count-loaded (of_kind ident.kind) ident name rs ∙ ap (λ (b : Bool). count_of rs ident.kind + cond b 1 0) (is_kind-refl ident.kind))) (count (count_of rs ident.kind) are.count);
  }

  pub slots_loaded_other : (slots : Slots) (kind : Kind) → kind ≢ ident.kind → AreSlotsOf slots rs kind → AreSlotsOf slots (with_loaded ident name rs) kind
  slots_loaded_other slots kind other are = record {
    taken = λ slot. (
      λ is. taken_before kind slot ((are.taken slot).0 is),
      λ is. (are.taken slot).1 (elim (Contains-push_cases rs new is.0 is.1) [
        | inl before ↦ (is.0, before, is.2, is.3)
        | inr now ↦ absurd (other (sym is.2 ∙ ap (λ (x : Resident). x.ident.kind) (sym now)))
      ]),
    );
    count = subst (IsCount slots) (sym (count-loaded (of_kind kind) ident name rs ∙ ap (λ (b : Bool). count_of rs kind + cond b 1 0) (kind_is_not ident.kind kind (λ same. other (sym same))) ∙ plus_none (count_of rs kind))) are.count;
  }
    where
      plus_none : (n : ℕ) → n + 0 ≡ n
      plus_none n = omega arith

-- ---- one leaves

module _ (g : Resident) (rs : List Resident) (apart : AreApart rs) (there : Contains rs g)
    (idents : (a b : Resident) → Contains rs a → Contains rs b → a.ident ≡ b.ident → a ≡ b)
    (one_slot : (a b : Resident) → Contains rs a → Contains rs b → a.ident.kind ≡ b.ident.kind → a.ident.slot ≡ b.ident.slot → a ≡ b) where
  taken_still : (kind : Kind) (slot : ℕ) → IsTaken (without g.ident rs) kind slot → IsTaken rs kind slot
  taken_still kind slot is = (is.0, (without_cases g.ident rs is.0 is.1).0, is.2, is.3)

  pub slots_left : (old after : Slots) → ((slot : ℕ) → IsTakenIn after slot ↔ (IsTakenIn old slot × (slot ≢ g.ident.slot))) → (IsTakenIn old g.ident.slot → (n : ℕ) → IsCount old (n + 1) → IsCount after n) → AreSlotsOf old rs g.ident.kind → AreSlotsOf after (without g.ident rs) g.ident.kind
  slots_left old after taken count are = record {
    taken = λ slot. (
      λ is.
          let was = (taken slot).0 is in
          let its = (are.taken slot).0 was.0 in
          (its.0, stays_without g.ident rs its.0 its.1 (λ same. was.1 (sym its.3 ∙ ap (λ (i : Ident). i.slot) same)), its.2, its.3),
      λ is.
          let kept = without_cases g.ident rs is.0 is.1 in
          (taken slot).1 ((are.taken slot).1 (is.0, kept.0, is.2, is.3), λ same. kept.1 (ap (λ (x : Resident). x.ident) (one_slot is.0 g kept.0 there is.2 (is.3 ∙ same)))),
    );
    count =
        let fewer = count-without (of_kind g.ident.kind) g rs apart there in
        let its = ap (λ (b : Bool). count_of (without g.ident rs) g.ident.kind + cond b 1 0) (is_kind-refl g.ident.kind) in
        count ((are.taken g.ident.slot).1 (g, there, refl, refl)) (count_of (without g.ident rs) g.ident.kind) (subst (IsCount old) (sym fewer ∙ its) are.count);
  }

  pub slots_left_other : (slots : Slots) (kind : Kind) → kind ≢ g.ident.kind → AreSlotsOf slots rs kind → AreSlotsOf slots (without g.ident rs) kind
  slots_left_other slots kind other are = record {
    taken = λ slot. (
      λ is.
          let its = (are.taken slot).0 is in
          (its.0, stays_without g.ident rs its.0 its.1 (λ same. other (sym its.2 ∙ ap (λ (i : Ident). i.kind) same)), its.2, its.3),
      λ is. (are.taken slot).1 (taken_still kind slot is),
    );
    count =
        let fewer = count-without (of_kind kind) g rs apart there in
        let its = ap (λ (b : Bool). count_of (without g.ident rs) kind + cond b 1 0) (kind_is_not g.ident.kind kind (λ same. other (sym same))) in
        let all : count_of rs kind ≡ count_of (without g.ident rs) kind = omega arith in
        subst (IsCount slots) all are.count;
  }

-- ---- one is locked

pub slots_locked : (on : Bool) (g : Resident) (rs : List Resident) (slots : Slots) (kind : Kind) → AreApart rs → Contains rs g → AreSlotsOf slots rs kind → AreSlotsOf slots (with_lock g.ident on rs) kind
slots_locked on g rs slots kind apart there are = record {
  taken = λ slot. (
    λ is.
        let its = (are.taken slot).0 is in
        let keeps = (locked_keeps g.ident on its.0).0 in
        (locked_if g.ident on its.0, Contains-map (locked_if g.ident on) rs its.0 its.1, ap (λ (i : Ident). i.kind) keeps ∙ its.2, ap (λ (i : Ident). i.slot) keeps ∙ its.3),
    λ is.
        let was = Contains-from_map (locked_if g.ident on) rs is.0 is.1 in
        let keeps : was.0.ident ≡ is.0.ident = sym (locked_keeps g.ident on was.0).0 ∙ ap (λ (x : Resident). x.ident) was.2 in
        (are.taken slot).1 (was.0, was.1, ap (λ (i : Ident). i.kind) keeps ∙ is.2, ap (λ (i : Ident). i.slot) keeps ∙ is.3),
  );
  count =
      let same = count-locked (of_kind kind) on g rs apart there in
      let all : count_of rs kind ≡ count_of (with_lock g.ident on rs) kind = omega arith in
      subst (IsCount slots) all are.count;
}
