-- The machine over another memory.
use Rattle.std.specs.Prelude.{ℕ, Bool, true, false, List}
use Rattle.flat_state.specs.declared.events.Decl.{Decl}
use Rattle.flat_state.specs.declared.events.Decl.TheVariants as decls
use Rattle.flat_state.specs.State.{FlatState}

-- all but memory is as it was
abbrev pub over : FlatState → List ℕ → FlatState
over s memory = record s { memory = memory }

-- a declaration that doesn't speak of memory: neither the machine nor a word
abbrev pub is_apart : Decl → Bool
is_apart (decls.Machine machine) = false
is_apart (decls.Word frame offset value) = false
is_apart _ = true
