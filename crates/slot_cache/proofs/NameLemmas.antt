-- Names that compare as equal are one name.
use Rattle.std.proofs.Common.{◌≡◌, refl, arith}
use Rattle.std.specs.declared.cmp.Ordering.TheVariants.{Equal}
use Rattle.std.proofs.lemmas.Bool.Decides.{nat_tests}
use Rattle.std.proofs.lemmas.Cmp.{tied_itself, nat_cmp_total}
use Rattle.cache_ident.specs.declared.names.Name.{Name}
use Rattle.cache_ident.specs.declared.names.Name.TheVariants.{Kernel, Space, Thread, Mapping}
use Rattle.cache_ident.specs.contracts.names.NameOrd.TheImpl as name

-- a name compares as equal with itself
pub name_itself : (a : Name) → (name.ghosts).cmp a a ≡ Equal
name_itself (Kernel a) = rw (tied_itself nat_cmp_total a.0) refl
name_itself (Space a) = rw (tied_itself nat_cmp_total a.0) refl
name_itself (Thread a) = rw (tied_itself nat_cmp_total a.0) refl
name_itself (Mapping a v) = rw (tied_itself nat_cmp_total a.0, tied_itself nat_cmp_total v.0) refl

-- names that compare as equal are one
pub same_name : (a b : Name) → (name.ghosts).cmp a b ≡ Equal → a ≡ b
same_name (Kernel a) (Kernel b) equal = grind (arith, nat_tests)
same_name (Kernel a) (Space b) equal = absurd (cc)
same_name (Kernel a) (Thread b) equal = absurd (cc)
same_name (Kernel a) (Mapping b v) equal = absurd (cc)
same_name (Space a) (Kernel b) equal = absurd (cc)
same_name (Space a) (Space b) equal = grind (arith, nat_tests)
same_name (Space a) (Thread b) equal = absurd (cc)
same_name (Space a) (Mapping b v) equal = absurd (cc)
same_name (Thread a) (Kernel b) equal = absurd (cc)
same_name (Thread a) (Space b) equal = absurd (cc)
same_name (Thread a) (Thread b) equal = grind (arith, nat_tests)
same_name (Thread a) (Mapping b v) equal = absurd (cc)
same_name (Mapping a u) (Kernel b) equal = absurd (cc)
same_name (Mapping a u) (Space b) equal = absurd (cc)
same_name (Mapping a u) (Thread b) equal = absurd (cc)
same_name (Mapping a u) (Mapping b v) equal = grind (arith, nat_tests)
