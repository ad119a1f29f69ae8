-- Kinds, and kernels with kinds, that compare as equal are one.
use Rattle.std.proofs.Common.{◌≡◌, ◌≢◌, false, refl, ap, ◌∙◌, ◌⊎◌, arith}
use Rattle.std.specs.declared.cmp.Ordering.{Ordering}
use Rattle.std.specs.declared.cmp.Ordering.TheVariants.{Equal}
use Rattle.std.specs.BTreeMap.{is_at}
use Rattle.std.proofs.lemmas.Bool.Decides.{nat_tests}
use Rattle.std.proofs.lemmas.Cmp.{tied_itself}
use Rattle.cache_ident.specs.declared.idents.Kind.{Kind}
use Rattle.cache_ident.specs.declared.idents.Kind.TheVariants as kinds
use Rattle.cache_ident.specs.declared.names.KernelNo.{KernelNo}
use Rattle.cache_ident.specs.contracts.idents.KindOrd.TheImpl as kind_order
use Rattle.cache_ident.specs.contracts.idents.KindOrd.TheImpl.Laws as kind_laws
use Rattle.cache_ident.specs.contracts.names.KernelNoOrd.TheImpl as kernel_order
use Rattle.cache_ident.specs.contracts.names.KernelNoOrd.TheImpl.Laws as kernel_laws
use Rattle.residents.proofs.NameLemmas.{one_or_other, at_other, then_equal}
use Rattle.journal_tables.specs.Locks.{owned_cmp}

abbrev kind_cmp : Kind → Kind → Ordering
kind_cmp = (kind_order.ghosts).cmp

same_kind : (a b : Kind) → kind_cmp a b ≡ Equal → a ≡ b
same_kind kinds.Kernel kinds.Kernel equal = refl
same_kind kinds.Kernel kinds.Space equal = absurd (cc)
same_kind kinds.Kernel kinds.Thread equal = absurd (cc)
same_kind kinds.Kernel kinds.Mapping equal = absurd (cc)
same_kind kinds.Space kinds.Kernel equal = absurd (cc)
same_kind kinds.Space kinds.Space equal = refl
same_kind kinds.Space kinds.Thread equal = absurd (cc)
same_kind kinds.Space kinds.Mapping equal = absurd (cc)
same_kind kinds.Thread kinds.Kernel equal = absurd (cc)
same_kind kinds.Thread kinds.Space equal = absurd (cc)
same_kind kinds.Thread kinds.Thread equal = refl
same_kind kinds.Thread kinds.Mapping equal = absurd (cc)
same_kind kinds.Mapping kinds.Kernel equal = absurd (cc)
same_kind kinds.Mapping kinds.Space equal = absurd (cc)
same_kind kinds.Mapping kinds.Thread equal = absurd (cc)
same_kind kinds.Mapping kinds.Mapping equal = refl

kind_itself : (a : Kind) → kind_cmp a a ≡ Equal
kind_itself a = tied_itself kind_laws.total-law a

pub kind_or : (a b : Kind) → (a ≡ b) ⊎ (a ≢ b)
kind_or = one_or_other kind_cmp same_kind kind_itself

-- a kernel with a kind
abbrev Owned : Type 0
Owned = KernelNo × Kind

same_kernel : (a b : KernelNo) → (kernel_order.ghosts).cmp a b ≡ Equal → a ≡ b
same_kernel a b equal = grind (arith, nat_tests)

same_owned : (a b : Owned) → owned_cmp a b ≡ Equal → a ≡ b
same_owned a b equal =
    let both = then_equal ((kernel_order.ghosts).cmp a.0 b.0) (kind_cmp a.1 b.1) equal in
    ap (λ (k : KernelNo). (k, a.1)) (same_kernel a.0 b.0 both.0) ∙ ap (λ (k : Kind). (b.0, k)) (same_kind a.1 b.1 both.1)

owned_itself : (a : Owned) → owned_cmp a a ≡ Equal
owned_itself a = rw (tied_itself kernel_laws.total-law a.0) (kind_itself a.1)

pub owned_or : (a b : Owned) → (a ≡ b) ⊎ (a ≢ b)
owned_or = one_or_other owned_cmp same_owned owned_itself

pub other_owned : (k q : Owned) → q ≢ k → is_at (owned_cmp k) q ≡ false
other_owned = at_other owned_cmp same_owned
