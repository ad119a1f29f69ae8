use Rattle.std.proofs.Common.{true}
use Rattle.cache_ident.specs.declared.idents.Ident.{Ident}
use Rattle.board_calls.specs.Leaving.{AddsThose, IsOf}
use Rattle.board_calls.proofs.leaving.add_messages.Given as goal

-- each that came was added
abbrev pub invariant-loop-ident : goal.invariant-loop-ident
invariant-loop-ident l = AddsThose (IsOf (λ (i : Ident). true) l.yielded) l.initial.idents.items l.idents.items
