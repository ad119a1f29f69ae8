-- Names that compare as equal are one.
use Rattle.std.proofs.Common.{◌≡◌, ◌≢◌, ℕ, Bool, true, false, refl, ap, sym, ◌∙◌, ◌⊎◌, inl, inr, arith}
use Rattle.std.specs.declared.cmp.Ordering.{Ordering}
use Rattle.std.specs.declared.cmp.Ordering.TheVariants.{Less, Equal, Greater}
use Rattle.std.specs.Ordering.{nat_cmp, is_eq, is_gt, ordering_then}
use Rattle.std.specs.BTreeMap.{is_at}
use Rattle.std.proofs.lemmas.Bool.{cases_Bool}
use Rattle.std.proofs.lemmas.Bool.Decides.{nat_tests}
use Rattle.std.proofs.lemmas.Cmp.{tied_itself, nat_cmp_total}
use Rattle.cache_ident.specs.declared.names.Name.{Name}
use Rattle.cache_ident.specs.declared.names.Name.TheVariants.{Kernel, Space, Thread, Mapping}
use Rattle.cache_ident.specs.contracts.names.NamePartialEq.TheImpl as name_equality
use Rattle.cache_ident.specs.contracts.names.NameOrd.TheImpl as name_order
use Rattle.cache_ident.specs.contracts.names.NameOrd.TheImpl.Laws as name_laws

abbrev pub name_cmp : Name → Name → Ordering
name_cmp = (name_order.ghosts).cmp

pub same_name : (a b : Name) → name_cmp a b ≡ Equal → a ≡ b
same_name (Kernel a) (Kernel b) equal = grind (arith, nat_tests)
same_name (Kernel a) (Space b) equal = absurd (cc)
same_name (Kernel a) (Thread b) equal = absurd (cc)
same_name (Kernel a) (Mapping b v) equal = absurd (cc)
same_name (Space a) (Kernel b) equal = absurd (cc)
same_name (Space a) (Space b) equal = grind (arith, nat_tests)
same_name (Space a) (Thread b) equal = absurd (cc)
same_name (Space a) (Mapping b v) equal = absurd (cc)
same_name (Thread a) (Kernel b) equal = absurd (cc)
same_name (Thread a) (Space b) equal = absurd (cc)
same_name (Thread a) (Thread b) equal = grind (arith, nat_tests)
same_name (Thread a) (Mapping b v) equal = absurd (cc)
same_name (Mapping a u) (Kernel b) equal = absurd (cc)
same_name (Mapping a u) (Space b) equal = absurd (cc)
same_name (Mapping a u) (Thread b) equal = absurd (cc)
same_name (Mapping a u) (Mapping b v) equal = grind (arith, nat_tests)

pub same_nat : (a b : ℕ) → nat_cmp a b ≡ Equal → a ≡ b
same_nat a b equal = grind (arith, nat_tests)

-- ordering by ordering
pub then_equal : (o p : Ordering) → ordering_then o p ≡ Equal → (o ≡ Equal) × (p ≡ Equal)
then_equal Less p e = absurd (cc)
then_equal Equal p e = (refl, e)
then_equal Greater p e = absurd (cc)

pub then_not_greater : (o p : Ordering) → is_gt (ordering_then o p) ≡ false → is_gt o ≡ false
then_not_greater Less p e = refl
then_not_greater Equal p e = refl
then_not_greater Greater p e = e

is_equal : (o : Ordering) → is_eq o ≡ true → o ≡ Equal
is_equal Less e = absurd (cc)
is_equal Equal e = refl
is_equal Greater e = absurd (cc)

-- a key of an order that tells keys apart is another, or is not found
module _ {K : Type 0} (cmp : K → K → Ordering) (exact : (a b : K) → cmp a b ≡ Equal → a ≡ b) where
  pub at_is : (k q : K) → is_at (cmp k) q ≡ true → q ≡ k
  at_is k q at = sym (exact k q (is_equal (cmp k q) at))

  pub at_other : (k q : K) → q ≢ k → is_at (cmp k) q ≡ false
  at_other k q other = elim (cases_Bool (is_at (cmp k) q)) [
    | inl at ↦ absurd (other (at_is k q at))
    | inr off ↦ off
  ]

  pub at_self : ((a : K) → cmp a a ≡ Equal) → (k : K) → is_at (cmp k) k ≡ true
  at_self itself k = ap is_eq (itself k)

  pub one_or_other : ((a : K) → cmp a a ≡ Equal) → (q k : K) → (q ≡ k) ⊎ (q ≢ k)
  one_or_other itself q k = elim (cases_Bool (is_at (cmp k) q)) [
    | inl at ↦ inl (at_is k q at)
    | inr off ↦ inr (λ same. differ (sym off ∙ ap (is_at (cmp k)) same ∙ at_self itself k))
  ]
    where
      differ : false ≡ true → ⊥
      differ e = cc

pub name_itself : (a : Name) → name_cmp a a ≡ Equal
name_itself a = tied_itself name_laws.total-law a

pub name_or : (q k : Name) → (q ≡ k) ⊎ (q ≢ k)
name_or = one_or_other name_cmp same_name name_itself

pub other_name : (k q : Name) → q ≢ k → is_at (name_cmp k) q ≡ false
other_name = at_other name_cmp same_name

pub nat_or : (q k : ℕ) → (q ≡ k) ⊎ (q ≢ k)
nat_or = one_or_other nat_cmp same_nat (tied_itself nat_cmp_total)

pub other_nat : (k q : ℕ) → q ≢ k → is_at (nat_cmp k) q ≡ false
other_nat = at_other nat_cmp same_nat

-- what `==` answers of two names
pub equal_names : (a b : Name) (same : Bool) → same ≡ (name_equality.ghosts).eq a b → same ≡ true → a ≡ b
equal_names a b same is e = same_name a b (is_equal (name_cmp a b) (sym (name_laws.matches_eq-law a b) ∙ sym is ∙ e))

pub names_equal : (a b : Name) (same : Bool) → same ≡ (name_equality.ghosts).eq a b → a ≡ b → same ≡ true
names_equal a b same is one = is ∙ name_laws.matches_eq-law a b ∙ ap is_eq (ap (name_cmp a) (sym one) ∙ name_itself a)
