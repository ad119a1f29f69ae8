use Rattle.std.proofs.Common.{refl, sym, ap, ◌∙◌}
use Rattle.std.specs.Prelude.{option_copied}
use mathlib.Core.Bool.{false≢true}
use Rattle.kind_store.proofs.seats.Seats.may_go.Goals as goal

pub returns-in-Some-clause-some : goal.returns-in-Some-clause-some
returns-in-Some-clause-some g c = (c.in-Some.loaded.now, sym c.at.ensures ∙ ap option_copied c.in-Some.is, refl, record { unlocked = c.if-not-loaded.true; not_kept = λ there. false≢true (c.if-not-is_kept.ensures.1 there) })
