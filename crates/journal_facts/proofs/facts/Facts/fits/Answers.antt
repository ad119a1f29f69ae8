use Rattle.std.proofs.Common.{sym, ◌∙◌}
use Rattle.journal_facts.proofs.Standing.{admitted}
use Rattle.flat_state.specs.Declaration.{broken_rule}
use Rattle.journal_facts.proofs.facts.Facts.fits.Goals as goal

pub returns : goal.returns
returns c =
    let both = admitted c.admit.result (broken_rule c.args.self.now.flat c.args.decl.now) c.admit.ensures in
    (λ e. both.0 (sym c.is_ok.ensures.value ∙ e), λ fits. c.is_ok.ensures.value ∙ both.1 fits)
