use Rattle.std.proofs.Common.{sym, ap, refl, ◌∙◌}
use Rattle.std.specs.Prelude.{option_copied}
use Rattle.cache_ident.proofs.RollLemmas.{same_ident}
use Rattle.kind_store.proofs.seats.Seats.get.Goals as goal

pub returns-in-Some-clause-content : goal.returns-in-Some-clause-content
returns-in-Some-clause-content g c = (c.in-Some.loaded.now, sym c.at.ensures ∙ ap option_copied c.in-Some.is, same_ident _ _ (sym c.if-eq.ensures), refl)
