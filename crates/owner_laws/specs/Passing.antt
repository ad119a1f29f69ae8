-- What an answer says of what was asked for.
use Rattle.std.specs.Prelude.{◌≡◌, ◌⊎◌, Option, Some, None}
use Rattle.cache_ident.specs.declared.idents.Ident.{Ident}
use Rattle.cache_ident.specs.declared.names.Name.{Name}
use Rattle.cache_ident.specs.declared.names.Name.TheVariants.{Thread}
use Rattle.cache_ident.specs.declared.names.ThreadNo.{ThreadNo}
use Rattle.answer_laws.specs.board_ops.specs.declared.refusals.Refused.{Refused}
use Rattle.answer_laws.specs.board_ops.specs.declared.refusals.Refused.TheVariants.{AlreadyLoaded}

-- a load isn't refused, or because what it asks for is loaded
abbrev pub Passes : Option Refused → Type 0
Passes refusal = (refusal ≡ None) ⊎ ((ident : Ident) × (refusal ≡ Some (AlreadyLoaded ident)))

-- the thread that has the name, if a thread has it
abbrev pub thread_named : Option Name → Option ThreadNo
thread_named (Some (Thread thread)) = Some thread
thread_named _ = None
