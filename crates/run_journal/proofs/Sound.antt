-- What holds of what a legal journal tells.
use Rattle.std.proofs.Common.{◌≡◌, ◌≢◌, ℕ, ◌+◌, ◌<◌, Bool, true, false, cond, List, [], ◌∷◌, ◌++◌, Contains, eqb, refl, ap, sym, ◌∙◌, subst, inl, inr, arith}
use Rattle.std.proofs.lemmas.List.Elements.{Contains-push_cases}
use Rattle.cache_ident.specs.declared.idents.Cause.{Cause}
use Rattle.cache_ident.specs.declared.idents.Cause.TheVariants as causes
use Rattle.cache_ident.specs.declared.idents.Ident.{Ident}
use Rattle.cache_ident.specs.declared.idents.Kind.TheVariants as kinds
use Rattle.cache_ident.specs.declared.names.Name.{Name}
use Rattle.cache_ident.specs.declared.names.Name.TheVariants.{Kernel, Space, Thread, Mapping}
use Rattle.cache_ident.specs.Names.{kind_of}
use Rattle.cache_ident.specs.Residents.{Resident, without, locked_if, with_lock}
use Rattle.flat_state.specs.State.{FlatState}
use Rattle.flat_state.specs.Dependence.{parents, Depends}
use Rattle.flat_laws.proofs.Members.{contains_nothing, Contains-from_map}
use Rattle.run_journal.specs.declared.entries.Entry.{Entry}
use Rattle.run_journal.specs.declared.entries.Entry.TheVariants.{Declared, Sealed, Loaded, WrittenBack, Locked, Unlocked, Ran, Ended, Completed}
use Rattle.run_journal.specs.Told.{Due, Opening, Anything, FirstLoad, FirstLock, Departure, Load, Told, nothing_told, told_after, told_from}
use Rattle.run_journal.specs.Legal.{first_ident, MayHappen, AreLegal}
use Rattle.run_journal.proofs.Others.{without_cases, locked_keeps}

-- ---- a group is leaving only behind a dependent

abbrev IsSettledAs : Due → Told → Type 0
IsSettledAs (Departure cpu) k = Unit {0}
IsSettledAs Opening k = (k.before ≡ k.residents) × (k.left ≡ [])
IsSettledAs Anything k = (k.before ≡ k.residents) × (k.left ≡ [])
IsSettledAs FirstLoad k = (k.before ≡ k.residents) × (k.left ≡ [])
IsSettledAs FirstLock k = (k.before ≡ k.residents) × (k.left ≡ [])
IsSettledAs (Load kind cpu) k = (k.before ≡ k.residents) × (k.left ≡ [])

by_loads : (b : Bool) (k : Told) → (k.before ≡ k.residents) × (k.left ≡ []) → IsSettledAs (cond b FirstLock Anything) k
by_loads true k so = so
by_loads false k so = so

settled_back : (k : Told) (ident : Ident) (cause : Cause) (cpu : ℕ) → IsSettledAs (told_after k (WrittenBack ident cause cpu)).due (told_after k (WrittenBack ident cause cpu))
settled_back k ident causes.Dependent cpu = tt
settled_back k ident causes.Displaced cpu = (refl, refl)
settled_back k ident causes.Unloaded cpu = (refl, refl)

settled_after : (k : Told) (e : Entry) → IsSettledAs (told_after k e).due (told_after k e)
settled_after k (Declared d) = (refl, refl)
settled_after k Sealed = (refl, refl)
settled_after k (Loaded ident name cpu) = by_loads (eqb k.loads 0) (told_after k (Loaded ident name cpu)) (refl, refl)
settled_after k (WrittenBack ident cause cpu) = settled_back k ident cause cpu
settled_after k (Locked ident cpu) = (refl, refl)
settled_after k (Unlocked ident cpu) = (refl, refl)
settled_after k (Ran thread steps cpu) = (refl, refl)
settled_after k (Ended thread cpu) = (refl, refl)
settled_after k (Completed thread cpu) = (refl, refl)

settled_from : (k : Told) (es : List Entry) → IsSettledAs k.due k → IsSettledAs (told_from k es).due (told_from k es)
settled_from k [] so = so
settled_from k (e ∷ es) so = settled_from (told_after k e) es (settled_after k e)

-- where anything may come, no group is leaving
pub no_group : (j : List Entry) → (told_from nothing_told j).due ≡ Anything → ((told_from nothing_told j).before ≡ (told_from nothing_told j).residents) × ((told_from nothing_told j).left ≡ [])
no_group j any = subst (λ (due : Due). IsSettledAs due (told_from nothing_told j)) any (settled_from nothing_told j (refl, refl))

-- ---- residents have serials that were issued, each once, and the kinds of their names

-- of what is resident each has an identifier of its own
abbrev pub IsOneEach : List Resident → Type 0
IsOneEach rs = (a b : Resident) → Contains rs a → Contains rs b → a.ident ≡ b.ident → a ≡ b

pub record AreNumbered (loads : ℕ) (rs : List Resident) : Type 0 where
  pub issued : (r : Resident) → Contains rs r → r.ident.serial < loads
  pub kinds : (r : Resident) → Contains rs r → r.ident.kind ≡ kind_of r.name
  pub one : IsOneEach rs

numbered_without : (loads : ℕ) (ident : Ident) (rs : List Resident) → AreNumbered loads rs → AreNumbered loads (without ident rs)
numbered_without loads ident rs are = record {
  issued = λ r there. are.issued r (without_cases ident rs r there).0;
  kinds = λ r there. are.kinds r (without_cases ident rs r there).0;
  one = λ a b a_there b_there same. are.one a b (without_cases ident rs a a_there).0 (without_cases ident rs b b_there).0 same;
}

numbered_lock : (loads : ℕ) (ident : Ident) (on : Bool) (rs : List Resident) → AreNumbered loads rs → AreNumbered loads (with_lock ident on rs)
numbered_lock loads ident on rs are = record {
  issued = λ r there.
      let was = Contains-from_map (locked_if ident on) rs r there in
      subst (λ (i : Ident). i.serial < loads) (sym (locked_keeps ident on was.0).0 ∙ ap (λ (x : Resident). x.ident) was.2) (are.issued was.0 was.1);
  kinds = λ r there.
      let was = Contains-from_map (locked_if ident on) rs r there in
      ap (λ (x : Resident). x.ident.kind) (sym was.2) ∙ ap (λ (i : Ident). i.kind) (locked_keeps ident on was.0).0 ∙ are.kinds was.0 was.1 ∙ ap kind_of (sym (locked_keeps ident on was.0).1 ∙ ap (λ (x : Resident). x.name) was.2);
  one = λ a b a_there b_there same.
      let was_a = Contains-from_map (locked_if ident on) rs a a_there in
      let was_b = Contains-from_map (locked_if ident on) rs b b_there in
      let idents : was_a.0.ident ≡ was_b.0.ident = sym (locked_keeps ident on was_a.0).0 ∙ ap (λ (x : Resident). x.ident) was_a.2 ∙ same ∙ ap (λ (x : Resident). x.ident) (sym was_b.2) ∙ (locked_keeps ident on was_b.0).0 in
      sym was_a.2 ∙ ap (locked_if ident on) (are.one was_a.0 was_b.0 was_a.1 was_b.1 idents) ∙ was_b.2;
}

numbered_load : (loads : ℕ) (ident : Ident) (name : Name) (rs : List Resident) → ident.serial ≡ loads → ident.kind ≡ kind_of name → AreNumbered loads rs → AreNumbered (loads + 1) (rs ++ record { ident = ident; name = name; locked = false } ∷ [])
numbered_load loads ident name rs serial kind are = record {
  issued = λ r there. elim (Contains-push_cases rs new r there) [
    | inl before ↦ (let low = are.issued r before in omega arith)
    | inr now ↦ (let its : ident.serial ≡ r.ident.serial = ap (λ (x : Resident). x.ident.serial) now in omega arith)
  ];
  kinds = λ r there. elim (Contains-push_cases rs new r there) [
    | inl before ↦ are.kinds r before
    | inr now ↦ subst (λ (x : Resident). x.ident.kind ≡ kind_of x.name) now kind
  ];
  one = λ a b a_there b_there same. elim (Contains-push_cases rs new a a_there) [
    | inl a_before ↦ elim (Contains-push_cases rs new b b_there) [
      | inl b_before ↦ are.one a b a_before b_before same
      | inr b_now ↦ absurd (let low = are.issued a a_before in let its : ident.serial ≡ a.ident.serial = ap (λ (x : Resident). x.ident.serial) b_now ∙ ap (λ (i : Ident). i.serial) (sym same) in omega arith)
    ]
    | inr a_now ↦ elim (Contains-push_cases rs new b b_there) [
      | inl b_before ↦ absurd (let low = are.issued b b_before in let its : ident.serial ≡ b.ident.serial = ap (λ (x : Resident). x.ident.serial) a_now ∙ ap (λ (i : Ident). i.serial) same in omega arith)
      | inr b_now ↦ sym a_now ∙ b_now
    ]
  ];
}
  where
    new : Resident
    new = record { ident = ident; name = name; locked = false }

numbered_back : (k : Told) (ident : Ident) (cause : Cause) (cpu : ℕ) → AreNumbered k.loads k.residents → AreNumbered (told_after k (WrittenBack ident cause cpu)).loads (told_after k (WrittenBack ident cause cpu)).residents
numbered_back k ident causes.Dependent cpu are = numbered_without k.loads ident k.residents are
numbered_back k ident causes.Displaced cpu are = numbered_without k.loads ident k.residents are
numbered_back k ident causes.Unloaded cpu are = numbered_without k.loads ident k.residents are

pub numbered_after : (k : Told) (e : Entry) → MayHappen k e → AreNumbered k.loads k.residents → AreNumbered (told_after k e).loads (told_after k e).residents
numbered_after k (Declared d) may are = are
numbered_after k Sealed may are = are
numbered_after k (Loaded ident name cpu) may are = numbered_load k.loads ident name k.residents may.serial may.kind are
numbered_after k (WrittenBack ident cause cpu) may are = numbered_back k ident cause cpu are
numbered_after k (Locked ident cpu) may are = numbered_lock k.loads ident true k.residents are
numbered_after k (Unlocked ident cpu) may are = numbered_lock k.loads ident false k.residents are
numbered_after k (Ran thread steps cpu) may are = are
numbered_after k (Ended thread cpu) may are = are
numbered_after k (Completed thread cpu) may are = are

numbered_from : (k : Told) (es : List Entry) → AreLegal k es → AreNumbered k.loads k.residents → AreNumbered (told_from k es).loads (told_from k es).residents
numbered_from k [] legal are = are
numbered_from k (e ∷ es) legal are = numbered_from (told_after k e) es legal.1 (numbered_after k e legal.0.happens are)

pub are_numbered : (j : List Entry) → AreLegal nothing_told j → AreNumbered (told_from nothing_told j).loads (told_from nothing_told j).residents
are_numbered j legal = numbered_from nothing_told j legal (record {
  issued = λ r there. absurd (contains_nothing r there);
  kinds = λ r there. absurd (contains_nothing r there);
  one = λ a b there other same. absurd (contains_nothing a there);
})

-- what depends on something is no kernel
no_kernel : (s : FlatState) (name parent : Name) → kinds.Kernel ≡ kind_of name → Depends s name parent → ⊥
unfolding parents
no_kernel s (Kernel kernel) parent is depends = contains_nothing parent depends
no_kernel s (Space space) parent is depends = cc
no_kernel s (Thread thread) parent is depends = cc
no_kernel s (Mapping space vpn) parent is depends = cc

-- so the first kernel depends on nothing
pub not_first : (s : FlatState) (rs : List Resident) (loads : ℕ) → AreNumbered loads rs → (child : Resident) (parent : Name) → Contains rs child → Depends s child.name parent → child.ident ≢ first_ident
not_first s rs loads are child parent there depends first = no_kernel s child.name parent (ap (λ (i : Ident). i.kind) (sym first) ∙ are.kinds child there) depends
