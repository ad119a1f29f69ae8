use Rattle.std.proofs.Common.{sym, ap, ◌∙◌}
use Rattle.std.specs.Prelude.{option_copied}
use Rattle.owner_shelf.proofs.NameLemmas.{same_by_eq}
use Rattle.kind_store.proofs.seats.near_key.Goals as goal

pub returns-then-eq : goal.returns-then-eq
returns-then-eq g c = (c.in_ok-seat.seat.now, sym c.get-2.ensures ∙ ap option_copied c.in_ok-seat.was, sym c.name.ensures ∙ same_by_eq c.name.result c.args.name (sym c.eq.ensures ∙ c.if-eq.true))
