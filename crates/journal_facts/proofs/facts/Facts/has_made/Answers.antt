use Rattle.std.proofs.Common.{◌≡◌, ◌≤◌, ◌^◌, ℕ, Option, sym, ◌∙◌, subst, arith}
use Rattle.std.proofs.lemmas.Bool.{eq-eqb, eqb-true, false≢true}
use Rattle.journal_facts.specs.Facts.{IsNumberOf}
use Rattle.journal_facts.proofs.facts.Facts.has_made.Goals as goal

pub returns-in-Some : goal.returns-in-Some
returns-in-Some c = λ k are.
    let is : c.in-Some.made ≡ k.loads = subst (λ (o : Option ℕ). IsNumberOf o k.loads) c.in-Some.is are.stand.loads in
    (λ e. sym (eqb-true c.in-Some.made c.args.loads e) ∙ is, λ same. eq-eqb c.in-Some.made c.args.loads (is ∙ sym same))

pub returns-in-None : goal.returns-in-None
returns-in-None c = λ k are.
    let many : 2 ^ 64 ≤ k.loads = subst (λ (o : Option ℕ). IsNumberOf o k.loads) c.in-None.is are.stand.loads in
    let few = c.ranges.loads in
    (λ e. absurd (false≢true e), λ same. absurd (omega arith))
