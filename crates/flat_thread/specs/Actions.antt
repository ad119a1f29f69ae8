-- Where an action stores a word.
use Rattle.std.specs.Prelude.{ℕ, Option, Some, None}
use Rattle.rv32_exec.specs.declared.spaces.Width.{Width}
use Rattle.rv32_exec.specs.declared.spaces.Width.TheVariants.{Byte, Half, Word}
use Rattle.rv32_exec.specs.declared.actions.Action.{Action}
use Rattle.rv32_exec.specs.declared.actions.Action.TheVariants as actions

-- where a word is stored
abbrev pub word_of : Width → ℕ → Option ℕ
word_of Byte va = None
word_of Half va = None
word_of Word va = Some va

abbrev pub stored_word : Action → Option ℕ
stored_word (actions.Store va width value) = word_of width va
stored_word (actions.Set rd value) = None
stored_word actions.Pass = None
stored_word (actions.Jump rd target) = None
stored_word (actions.Load rd va width signed) = None
stored_word (actions.Atomic rd va op operand) = None
stored_word actions.Call = None
stored_word actions.Break = None
