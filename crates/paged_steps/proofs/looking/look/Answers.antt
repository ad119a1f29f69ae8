use Rattle.std.proofs.Common.{sym, ◌∙◌}
use Rattle.paged_steps.proofs.looking.look.Goals as goal

pub returns-clause-held : goal.returns-clause-held
returns-clause-held g c = λ t here m means.
    c.comes_next.ensures.held t here m ((c.in_ok-stands.ensures.memory m means).size ∙ sym c.in_ok-stands.ensures.frames.size) (c.in_ok-stands.ensures.copies m means)
