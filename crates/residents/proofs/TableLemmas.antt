-- What a table stands for after a change.
use Rattle.std.proofs.Common.{◌≡◌, ◌≢◌, ℕ, Bool, false, cond, List, [], ◌∷◌, Contains, Option, Some, None, refl, ap, sym, ◌∙◌, subst, inl, inr}
use Rattle.std.specs.Prelude.{Result, Ok, Err, OnOk, OnErr}
use Rattle.std.specs.Map.{lookup}
use Rattle.std.specs.BTreeMap.{BTreeMap, get, is_at}
use Rattle.std.specs.declared.cmp.Ordering.{Ordering}
use Rattle.std.proofs.lemmas.Bool.{cases_Bool}
use Rattle.std.proofs.lemmas.Option.{none-some, same_Some}
use Rattle.std.proofs.lemmas.List.Elements.{Contains-push, Contains-push_cases, Contains-append_left}
use Rattle.cache_ident.specs.declared.idents.Ident.{Ident}
use Rattle.cache_ident.specs.declared.names.Name.{Name}
use Rattle.cache_ident.specs.Rolls.{is_same}
use Rattle.cache_ident.proofs.RollLemmas.{is_same-refl, same_ident}
use Rattle.cache_ident.specs.Residents.{Resident, IsNameResident, with_loaded, without, locked_if, with_lock}
use Rattle.run_journal.specs.flat_laws.proofs.Members.{Contains-map, Contains-from_map}
use Rattle.run_journal.proofs.Others.{without_cases, stays_without, locked_keeps}
use Rattle.residents.specs.declared.list.Held.{Held}
use Rattle.residents.specs.declared.list.Residents.{Residents}
use Rattle.residents.specs.Tables.{resident_of, held_of, held_at, name_at, AreThose, HasNoSerial}
use Rattle.residents.proofs.NameLemmas.{name_or, nat_or}

-- a table has this under one key now, and everything else as before
pub record Puts {K X : Type 0} (old new : K → Option X) (key : K) (now : Option X) : Type 0 where
  pub here : new key ≡ now
  pub other : (q : K) → q ≢ key → new q ≡ old q

module _ (old : Residents) (rs : List Resident) (those : AreThose old rs) where
  -- of one name, and of one serial, there is one
  pub one_name : (a b : Resident) → Contains rs a → Contains rs b → a.name ≡ b.name → a ≡ b
  one_name a b a_there b_there same =
      ap resident_of (same_Some (held_of a) (held_of b) (sym (those.named a a_there) ∙ ap (held_at old) same ∙ those.named b b_there))

  pub one_serial : (a b : Resident) → Contains rs a → Contains rs b → a.ident.serial ≡ b.ident.serial → a ≡ b
  one_serial a b a_there b_there same =
      one_name a b a_there b_there (same_Some a.name b.name (sym (those.numbered a a_there) ∙ ap (name_at old) same ∙ those.numbered b b_there))

  module _ (new : Residents) (ident : Ident) (name : Name)
      (absent : IsNameResident rs name → ⊥) (fresh : HasNoSerial rs ident.serial)
      (names : Puts (held_at old) (held_at new) name (Some (record { ident = ident; name = name; locked = false })))
      (serials : Puts (name_at old) (name_at new) ident.serial (Some name)) where
    loaded : Resident
    loaded = record { ident = ident; name = name; locked = false }

    abbrev all : List Resident
    all = with_loaded ident name rs

    held_then : (q : Name) (held : Held) → held_at new q ≡ Some held → Contains all (resident_of held) × (held.name ≡ q)
    unfolding loaded
    held_then q held is = elim (name_or q name) [
      | inl same ↦ let its : held_of loaded ≡ held = same_Some (held_of loaded) held (sym names.here ∙ ap (held_at new) (sym same) ∙ is) in
          (subst (λ (x : Held). Contains all (resident_of x)) its (Contains-push rs loaded), sym (ap (λ (x : Held). x.name) its) ∙ sym same)
      | inr other ↦ let was = those.held q held (sym (names.other q other) ∙ is) in (Contains-append_left rs (loaded ∷ []) (resident_of held) was.0, was.1)
    ]

    named_then : (r : Resident) → Contains all r → held_at new r.name ≡ Some (held_of r)
    unfolding loaded
    named_then r there = elim (Contains-push_cases rs loaded r there) [
      | inl before ↦ names.other r.name (λ same. absent (r, before, same)) ∙ those.named r before
      | inr now ↦ subst (λ (x : Resident). held_at new x.name ≡ Some (held_of x)) now names.here
    ]

    serial_then : (n : ℕ) (q : Name) → name_at new n ≡ Some q → (held : Held) × (held_at new q ≡ Some held) × (held.ident.serial ≡ n)
    unfolding loaded
    serial_then n q is = elim (nat_or n ident.serial) [
      | inl same ↦ let its : name ≡ q = same_Some name q (sym serials.here ∙ ap (name_at new) (sym same) ∙ is) in
          (held_of loaded, ap (held_at new) (sym its) ∙ names.here, sym same)
      | inr other ↦ let was = those.serial n q (sym (serials.other n other) ∙ is) in
          (was.0, names.other q (λ same. let there = those.held q was.0 was.1 in absent (resident_of was.0, there.0, there.1 ∙ same)) ∙ was.1, was.2)
    ]

    numbered_then : (r : Resident) → Contains all r → name_at new r.ident.serial ≡ Some r.name
    unfolding loaded
    numbered_then r there = elim (Contains-push_cases rs loaded r there) [
      | inl before ↦ serials.other r.ident.serial (fresh r before) ∙ those.numbered r before
      | inr now ↦ subst (λ (x : Resident). name_at new x.ident.serial ≡ Some x.name) now serials.here
    ]

    pub those_loaded : AreThose new all
    those_loaded = record { held = held_then; named = named_then; serial = serial_then; numbered = numbered_then }

  module _ (new : Residents) (gone : Held) (there : Contains rs (resident_of gone)) where
    -- whatever has its name, or its serial, is it
    is_gone : (r : Resident) → Contains rs r → r.name ≡ gone.name → r ≡ resident_of gone
    is_gone r r_there same = one_name r (resident_of gone) r_there there same

    by_serial : (r : Resident) → Contains rs r → r.ident.serial ≡ gone.ident.serial → r ≡ resident_of gone
    by_serial r r_there same = one_serial r (resident_of gone) r_there there same

    pub those_without : Puts (held_at old) (held_at new) gone.name None → Puts (name_at old) (name_at new) gone.ident.serial None → AreThose new (without gone.ident rs)
    those_without names serials = record {
      held = λ q held is. elim (name_or q gone.name) [
        | inl same ↦ absurd (none-some held (sym names.here ∙ ap (held_at new) (sym same) ∙ is))
        | inr other ↦ let was = those.held q held (sym (names.other q other) ∙ is) in
            (stays_without gone.ident rs (resident_of held) was.0 (λ same. other (sym was.1 ∙ ap (λ (x : Resident). x.name) (by_serial (resident_of held) was.0 (ap (λ (i : Ident). i.serial) same)))), was.1)
      ];
      named = λ r r_there.
          let kept = without_cases gone.ident rs r r_there in
          names.other r.name (λ same. kept.1 (ap (λ (x : Resident). x.ident) (is_gone r kept.0 same))) ∙ those.named r kept.0;
      serial = λ n q is. elim (nat_or n gone.ident.serial) [
        | inl same ↦ absurd (none-some q (sym serials.here ∙ ap (name_at new) (sym same) ∙ is))
        | inr other ↦ let was = those.serial n q (sym (serials.other n other) ∙ is) in
            let its = those.held q was.0 was.1 in
            (was.0, names.other q (λ same. other (sym was.2 ∙ ap (λ (x : Resident). x.ident.serial) (is_gone (resident_of was.0) its.0 (its.1 ∙ same)))) ∙ was.1, was.2)
      ];
      numbered = λ r r_there.
          let kept = without_cases gone.ident rs r r_there in
          serials.other r.ident.serial (λ same. kept.1 (ap (λ (x : Resident). x.ident) (by_serial r kept.0 same))) ∙ those.numbered r kept.0;
    }

    module _ (on : Bool) (names : Puts (held_at old) (held_at new) gone.name (Some (record { ident = gone.ident; name = gone.name; locked = on })))
        (serials : (n : ℕ) → name_at new n ≡ name_at old n) where
      abbrev lock : Resident → Resident
      lock = locked_if gone.ident on

      -- the others stay as they are
      lock_other : (r : Resident) → r.ident ≢ gone.ident → lock r ≡ r
      lock_other r other = elim (cases_Bool (is_same r.ident gone.ident)) [
        | inl same ↦ absurd (other (same_ident r.ident gone.ident same))
        | inr off ↦ ap (λ (b : Bool). cond b (record r { locked = on }) r) off
      ]

      lock_here : lock (resident_of gone) ≡ record { ident = gone.ident; name = gone.name; locked = on }
      lock_here = ap (λ (b : Bool). cond b (record (resident_of gone) { locked = on }) (resident_of gone)) (is_same-refl gone.ident)

      -- what the table has for one, once it is locked
      held_locked : (r : Resident) → Contains rs r → held_at new r.name ≡ Some (held_of (lock r))
      held_locked r r_there = elim (name_or r.name gone.name) [
        | inl same ↦ let its = is_gone r r_there same in
            ap (held_at new) same ∙ names.here ∙ ap (λ (x : Resident). Some (held_of x)) (sym lock_here) ∙ ap (λ (x : Resident). Some (held_of (lock x))) (sym its)
        | inr other ↦ names.other r.name other ∙ those.named r r_there
            ∙ ap (λ (x : Resident). Some (held_of x)) (sym (lock_other r (λ same. other (ap (λ (x : Resident). x.name) (by_serial r r_there (ap (λ (i : Ident). i.serial) same))))))
      ]

      pub those_locked : AreThose new (with_lock gone.ident on rs)
      those_locked = record {
        held = λ q held is. elim (name_or q gone.name) [
          | inl same ↦
              let its : held_of (lock (resident_of gone)) ≡ held = same_Some (held_of (lock (resident_of gone))) held (sym (held_locked (resident_of gone) there) ∙ ap (held_at new) (sym same) ∙ is) in (
                subst (λ (x : Held). Contains (with_lock gone.ident on rs) (resident_of x)) its (Contains-map lock rs (resident_of gone) there),
                sym (ap (λ (x : Held). x.name) its) ∙ (locked_keeps gone.ident on (resident_of gone)).1 ∙ sym same,
              )
          | inr other ↦
              let was = those.held q held (sym (names.other q other) ∙ is) in
              let stays = lock_other (resident_of held) (λ same. other (sym was.1 ∙ ap (λ (x : Resident). x.name) (by_serial (resident_of held) was.0 (ap (λ (i : Ident). i.serial) same)))) in
              (subst (Contains (with_lock gone.ident on rs)) stays (Contains-map lock rs (resident_of held) was.0), was.1)
        ];
        named = λ r r_there.
            let was = Contains-from_map lock rs r r_there in
            ap (held_at new) (sym (ap (λ (x : Resident). x.name) was.2) ∙ (locked_keeps gone.ident on was.0).1) ∙ held_locked was.0 was.1 ∙ ap (λ (x : Resident). Some (held_of x)) was.2;
        serial = λ n q is.
            let was = those.serial n q (sym (serials n) ∙ is) in
            let its = those.held q was.0 was.1 in
            (held_of (lock (resident_of was.0)), ap (held_at new) (sym its.1) ∙ held_locked (resident_of was.0) its.0, ap (λ (i : Ident). i.serial) (locked_keeps gone.ident on (resident_of was.0)).0 ∙ was.2);
        numbered = λ r r_there.
            let was = Contains-from_map lock rs r r_there in
            let keeps = locked_keeps gone.ident on was.0 in
            ap (λ (i : Ident). name_at new i.serial) (sym (ap (λ (x : Resident). x.ident) was.2) ∙ keeps.0) ∙ serials was.0.ident.serial ∙ those.numbered was.0 was.1 ∙ ap Some (sym keeps.1 ∙ ap (λ (x : Resident). x.name) was.2);
      }

  -- where it has the same, it stands for the same
  pub those_same : (new : Residents) → ((q : Name) → held_at new q ≡ held_at old q) → ((n : ℕ) → name_at new n ≡ name_at old n) → AreThose new rs
  those_same new names serials = record {
    held = λ q held is. those.held q held (sym (names q) ∙ is);
    named = λ r there. names r.name ∙ those.named r there;
    serial = λ n q is. let was = those.serial n q (sym (serials n) ∙ is) in (was.0, names q ∙ was.1, was.2);
    numbered = λ r there. serials r.ident.serial ∙ those.numbered r there;
  }

  -- what isn't there has nothing in the table
  pub nothing_at : (name : Name) → (IsNameResident rs name → ⊥) → held_at old name ≡ None
  nothing_at name absent = by (held_at old name) refl
    where
      by : (o : Option Held) → held_at old name ≡ o → o ≡ None
      by None is = refl
      by (Some held) is = absurd (let its = those.held name held is in absent (resident_of held, its.0, its.1))

-- ---- where memory was wanted

pub on_err : {X E : Type 0} (r : Result X E) (P : Type 0) → P → OnErr r P
on_err (Ok x) P p = tt
on_err (Err e) P p = p

-- what is so unless memory is wanted is so where it can't be
pub unless_err : {X E : Type 0} (r : Result X E) (P Q : Type 0) → OnOk r P → OnErr r Q → (Q → ⊥) → P
unless_err (Ok x) P Q ok err not = ok
unless_err (Err e) P Q ok err not = absurd (not err)

-- the same entries give the same
pub same_entries : {K X : Type 0} (cmp : K → K → Ordering) (old new : BTreeMap K X) → new.entries ≡ old.entries → (q : K) → get cmp new q ≡ get cmp old q
same_entries {K = K} {X = X} cmp old new same q = ap (λ (es : List (K × X)). lookup (is_at (cmp q)) es) same

-- a name that went in and out again
pub put_back : (old mid new : Name → Option Held) (name : Name) (held : Held) → Puts old mid name (Some held) → Puts mid new name None → old name ≡ None → (q : Name) → new q ≡ old q
put_back old mid new name held put taken none q = elim (name_or q name) [
  | inl same ↦ ap new same ∙ taken.here ∙ sym none ∙ ap old (sym same)
  | inr other ↦ taken.other q other ∙ put.other q other
]
