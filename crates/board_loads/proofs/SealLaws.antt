-- Whoever calls is loaded, so that the board is sealed.
use Rattle.std.proofs.Common.{◌≡◌, true, Option, Result, Ok, Err}
use Rattle.std.specs.Prelude.{OnOk}
use Rattle.std.specs.Option.{option_or}
use Rattle.std.specs.Result.{result_err}
use Rattle.cache_ident.specs.declared.idents.Ident.{Ident}
use Rattle.cache_ident.specs.declared.idents.Kind.TheVariants as kind
use Rattle.board_checks.specs.board_ops.specs.declared.refusals.Refused.{Refused}
use Rattle.board_checks.specs.Identifiers.{not_a}
use Rattle.board_checks.proofs.WhyLaws.{kernel_live}
use Rattle.board_core.specs.Core.{contents_of, IsSound, Recorded}
use Rattle.board_core.proofs.SealLaws.{sealed_if_live}

-- a call that isn't refused finds the board sealed
pub called_sealed : {T : Type 0} (r : Result T Refused) (b : Recorded) → IsSound b → (caller : Ident) (rest : Option Refused) → result_err r ≡ option_or (not_a kind.Kernel (contents_of b) caller) rest → OnOk r (b.sealed ≡ true)
called_sealed (Ok x) b sound caller rest is = sealed_if_live b sound caller (kernel_live (contents_of b) caller rest is)
called_sealed (Err w) b sound caller rest is = tt
