use Rattle.std.proofs.Common.{◌≡◌, None, slice_get, sym, ap, ◌∙◌, inl, inr, arith}
use Rattle.std.specs.Option.{option_copied, option_map}
use Rattle.std.proofs.lemmas.Option.{slice_get_cases}
use Rattle.flat_rules.proofs.Known.{thread_is_of}
use Rattle.flat_rules.proofs.threads.thread_at.Goals as goal

pub returns-clause-of : goal.returns-clause-of
returns-clause-of g c =
    let s = g.T.Records.state c.args.tables.now in
    thread_is_of s c.holds.ensures c.args.no.0 (g.T.Records.shown c.in-Some.thread.now) (sym c.thread.ensures ∙ ap (λ o. option_map g.T.Records.shown (option_copied o)) c.in-Some.is)

pub unreachable-requires : goal.unreachable-requires
unreachable-requires g c =
    let s = g.T.Records.state c.args.tables.now in
    let none : slice_get s.threads c.args.no.0 ≡ None = sym c.thread.ensures ∙ ap (λ o. option_map g.T.Records.shown (option_copied o)) c.in-None.is in
    elim (slice_get_cases s.threads c.args.no.0).1 [
      | inl found ↦ let no = sym found.2 ∙ none in cc
      | inr past ↦ omega (arith, past.0, c.requires)
    ]
