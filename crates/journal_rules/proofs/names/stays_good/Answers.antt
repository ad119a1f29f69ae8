use Rattle.std.proofs.Common.{◌≡◌, Bool, true, false, refl, ap, sym, ◌∙◌, subst}
use Rattle.std.specs.Bool.{MatchBool}
use Rattle.std.proofs.lemmas.Bool.{false≢true}
use Rattle.cache_ident.specs.declared.names.Name.{Name}
use Rattle.flat_state.specs.Names.{stands, is_fit_name}
use Rattle.run_journal.specs.Groups.{HasParents}
use Rattle.journal_laws.specs.Leaving.{LacksParent}
use Rattle.journal_rules.proofs.names.stays_good.Goals as goal

pub returns-then-not-stands : goal.returns-then-not-stands
returns-then-not-stands c = λ rs those r same. (
  λ e. absurd (false≢true e),
  λ good. absurd (false≢true (c.if-not-stands.ensures ∙ ap (stands c.args.flat.now) (sym same) ∙ good.there)),
)

pub returns-then-not-is_fit : goal.returns-then-not-is_fit
returns-then-not-is_fit c = λ rs those r same. (
  λ e. absurd (false≢true e),
  λ good. absurd (false≢true (c.if-not-is_fit.ensures ∙ ap (is_fit_name c.args.flat.now) (sym same) ∙ good.fit)),
)

-- what has its parents doesn't lack one
decided : (b : Bool) (P Q : Type 0) → MatchBool b P Q → (P → Q → ⊥) → ((b ≡ true) → P) × (P → b ≡ true)
decided true P Q is apart = (λ e. is, λ p. refl)
decided false P Q is apart = (λ e. absurd (false≢true e), λ p. absurd (apart p is))

pub returns : goal.returns
returns c = λ rs those r same.
    let is = decided c.has_parents.result (HasParents c.args.flat.now rs c.args.name) (LacksParent c.args.flat.now rs c.args.name) (c.has_parents.ensures rs those) (λ has lacks. lacks.2 (has lacks.0 lacks.1)) in (
      λ e. record {
        there = ap (stands c.args.flat.now) same ∙ sym c.if-not-stands.ensures;
        fit = ap (is_fit_name c.args.flat.now) same ∙ sym c.if-not-is_fit.ensures;
        parents = subst (λ (n : Name). HasParents c.args.flat.now rs n) (sym same) (is.0 e);
      },
      λ good. is.1 (subst (λ (n : Name). HasParents c.args.flat.now rs n) same good.parents),
    )
