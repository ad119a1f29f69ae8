use Rattle.std.proofs.Common.{◌≡◌, None, sym, ◌∙◌, subst}
use Rattle.std.proofs.lemmas.Bool.{false≢true}
use Rattle.run_journal.specs.Legal.{IsInPlace}
use Rattle.flat_state.specs.State.{FlatState}
use Rattle.flat_state.specs.Declaration.{broken_rule}
use Rattle.journal_facts.proofs.Standing.{behind_seal, turned}
use Rattle.journal_facts.proofs.facts.Facts.has_place_for.Goals as goal

pub returns-then-not-self : goal.returns-then-not-self
returns-then-not-self c = λ k are. (
  λ e. subst (IsInPlace k) (sym c.in-Declared.is)
      (sym are.stand.seal ∙ c.if-not-self.true, subst (λ (s : FlatState). broken_rule s c.in-Declared.decl ≡ None) (sym are.stand.state) (c.fits.ensures.0 e)),
  λ place. c.fits.ensures.1 (subst (λ (s : FlatState). broken_rule s c.in-Declared.decl ≡ None) are.stand.state (subst (IsInPlace k) c.in-Declared.is place).1),
)

pub returns-else-not-self : goal.returns-else-not-self
returns-else-not-self c = λ k are. (
  λ e. absurd (false≢true (sym ((turned c.args.self.now.sealed).0 e) ∙ c.if-not-self.false)),
  λ place. absurd (false≢true (sym (are.stand.seal ∙ (subst (IsInPlace k) c.in-Declared.is place).0) ∙ c.if-not-self.false)),
)

pub returns-in-Sealed : goal.returns-in-Sealed
returns-in-Sealed c = λ k are. (
  λ e. subst (IsInPlace k) (sym c.in-Sealed.is) (sym are.stand.seal ∙ (turned c.args.self.now.sealed).0 e),
  λ place. (turned c.args.self.now.sealed).1 (are.stand.seal ∙ subst (IsInPlace k) c.in-Sealed.is place),
)

pub returns-in_default : goal.returns-in_default
returns-in_default c = λ k are.
    let both = behind_seal k c.args.entry.now c.in_default.not-Declared c.in_default.not-Sealed in
    (λ on. both.0 (sym are.stand.seal ∙ on), λ place. are.stand.seal ∙ both.1 place)
