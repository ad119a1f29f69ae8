use Rattle.std.proofs.Common.{◌≡◌, Option, Some, None, refl}
use Rattle.std.specs.Option.{option_or}
use Rattle.cache_ident.specs.declared.idents.Kind.TheVariants as kind
use Rattle.board_checks.specs.board_ops.specs.declared.refusals.Refused.{Refused}
use Rattle.board_checks.specs.Identifiers.{not_a}
use Rattle.board_checks.specs.Refusals.{not_completable, not_owned_as}
use Rattle.board_calls.proofs.laws.its_first_tests_are_those_of_a_call.Goals as goal

-- three tests before a last one
three_first : (a b c d : Option Refused) → option_or a (option_or b (option_or c d)) ≡ option_or (option_or a (option_or b c)) d
three_first None None c d = refl
three_first None (Some x) c d = refl
three_first (Some x) b c d = refl

pub returns : goal.returns
returns c = λ held caller thread. three_first (not_a kind.Kernel held caller) (not_a kind.Thread held thread) (not_owned_as held caller thread) (not_completable held thread)
