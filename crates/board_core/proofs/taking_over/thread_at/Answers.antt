use Rattle.std.proofs.Common.{◌≡◌, None, slice_get, sym, ap, ◌∙◌, inl, inr, arith}
use Rattle.std.specs.Option.{option_copied, option_map}
use Rattle.std.proofs.lemmas.Option.{slice_get_cases}
use Rattle.cached_machine.specs.shown_state.specs.Shown.{flat_thread}
use Rattle.cached_machine.specs.Cached.{state_of}
use Rattle.board_core.proofs.taking_over.thread_at.Goals as goal

pub unreachable-requires : goal.unreachable-requires
unreachable-requires c =
    let s = state_of c.args.machine.now in
    let none : slice_get s.threads c.args.no.0 ≡ None = sym c.thread_near.ensures ∙ ap (λ o. option_map flat_thread (option_copied o)) c.in-None.is in
    elim (slice_get_cases s.threads c.args.no.0).1 [
      | inl found ↦ let no = sym found.2 ∙ none in cc
      | inr past ↦ omega (arith, past.0, c.requires)
    ]
