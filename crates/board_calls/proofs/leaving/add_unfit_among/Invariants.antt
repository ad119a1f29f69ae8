use Rattle.cache_ident.specs.declared.idents.Ident.{Ident}
use Rattle.board_checks.specs.desc_stores.specs.Contents.{item_as}
use Rattle.board_core.specs.cached_machine.specs.Cached.{state_of}
use Rattle.board_calls.specs.Leaving.{after_grant, goes_so, passes, AddsThose, IsOf}
use Rattle.board_calls.proofs.leaving.add_unfit_among.Given as goal

-- of those that came, the rows that go were added
abbrev pub invariant-loop-ident : goal.invariant-loop-ident
invariant-loop-ident l = AddsThose (IsOf (λ (i : Ident). passes (goes_so (after_grant (state_of l.machine) l.grant) l.lacks) (item_as l.machine.held.contents i)) l.yielded) l.initial.idents.items l.idents.items
