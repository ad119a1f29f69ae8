use Rattle.std.proofs.Common.{ap, ◌∙◌}
use Rattle.desc_tables.specs.Tables.{Held}
use Rattle.desc_tables.proofs.tables.Tables.caps.Goals as goal

pub returns : goal.returns
returns c = c.self.invariant.3 ∙ ap (λ (h : Held). h.caps) c.self.view_is
