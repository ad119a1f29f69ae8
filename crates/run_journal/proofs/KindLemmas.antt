-- What the test of two kinds says.
use Rattle.std.proofs.Common.{◌≡◌, ◌≢◌, true, false, refl, rules}
use Rattle.cache_ident.specs.declared.idents.Kind.{Kind}
use Rattle.cache_ident.specs.contracts.idents.Kind.{the_type}
use Rattle.run_journal.specs.Legal.{is_kind}
use denote.Enum.Bare.{true_same, same_true, false_same}

pub is_kind-refl : (a : Kind) → is_kind a a ≡ true
is_kind-refl a = true_same the_type a a refl

pub kind_is : (a b : Kind) → is_kind a b ≡ true → a ≡ b
kind_is a b is = same_true the_type (search rules) a b is

pub kind_is_not : (a b : Kind) → a ≢ b → is_kind a b ≡ false
kind_is_not a b other = false_same the_type (search rules) a b other
