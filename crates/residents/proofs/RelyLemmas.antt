-- What compares as equal of what rows rely on is one.
use Rattle.std.proofs.Common.{◌≡◌, Bool, true, false, ap, sym, ◌∙◌, arith}
use Rattle.std.specs.declared.cmp.Ordering.{Ordering}
use Rattle.std.specs.declared.cmp.Ordering.TheVariants.{Equal}
use Rattle.std.specs.Ordering.{is_eq}
use Rattle.std.proofs.lemmas.Bool.Decides.{nat_tests}
use Rattle.std.proofs.lemmas.Cmp.{tied_itself}
use Rattle.residents.specs.declared.relying.Reliance.{Reliance}
use Rattle.residents.specs.declared.relying.Reliance.TheVariants.{Signals, Rights}
use Rattle.residents.specs.contracts.relying.ReliancePartialEq.TheImpl as reliance_equality
use Rattle.residents.specs.contracts.relying.RelianceOrd.TheImpl as reliance_order
use Rattle.residents.specs.contracts.relying.RelianceOrd.TheImpl.Laws as reliance_laws

abbrev pub reliance_cmp : Reliance → Reliance → Ordering
reliance_cmp = (reliance_order.ghosts).cmp

pub same_reliance : (a b : Reliance) → reliance_cmp a b ≡ Equal → a ≡ b
same_reliance (Signals a p) (Signals b q) equal = grind (arith, nat_tests)
same_reliance (Signals a p) (Rights k g r w) equal = absurd (cc)
same_reliance (Rights k g r w) (Signals b q) equal = absurd (cc)
same_reliance (Rights k g false false) (Rights l h false false) equal = grind (arith, nat_tests)
same_reliance (Rights k g false false) (Rights l h false true) equal = absurd (grind (arith, nat_tests))
same_reliance (Rights k g false true) (Rights l h false false) equal = absurd (grind (arith, nat_tests))
same_reliance (Rights k g false true) (Rights l h false true) equal = grind (arith, nat_tests)
same_reliance (Rights k g false false) (Rights l h true w) equal = absurd (grind (arith, nat_tests))
same_reliance (Rights k g false true) (Rights l h true w) equal = absurd (grind (arith, nat_tests))
same_reliance (Rights k g true v) (Rights l h false w) equal = absurd (grind (arith, nat_tests))
same_reliance (Rights k g true false) (Rights l h true false) equal = grind (arith, nat_tests)
same_reliance (Rights k g true false) (Rights l h true true) equal = absurd (grind (arith, nat_tests))
same_reliance (Rights k g true true) (Rights l h true false) equal = absurd (grind (arith, nat_tests))
same_reliance (Rights k g true true) (Rights l h true true) equal = grind (arith, nat_tests)

-- what `==` answers of two that are one
pub reliances_equal : (a b : Reliance) (same : Bool) → same ≡ (reliance_equality.ghosts).eq a b → a ≡ b → same ≡ true
reliances_equal a b same is one = is ∙ reliance_laws.matches_eq-law a b ∙ ap is_eq (ap (reliance_cmp a) (sym one) ∙ tied_itself reliance_laws.total-law a)
