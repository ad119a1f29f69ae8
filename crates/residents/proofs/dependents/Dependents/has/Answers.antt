use Rattle.std.proofs.Common.{sym, ◌∙◌, subst}
use Rattle.std.proofs.lemmas.Bool.{false≢true}
use Rattle.cache_ident.specs.declared.names.Name.{Name}
use Rattle.residents.specs.Pairs.{IsPair}
use Rattle.cache_ident.specs.contracts.names.NameOrd.TheImpl.Laws as name_laws
use Rattle.residents.proofs.NameLemmas.{name_cmp, same_name, equal_names, names_equal}
use Rattle.residents.proofs.PairLemmas.{first_pair, least_pair}
use Rattle.residents.proofs.dependents.Dependents.has.Goals as goal

pub returns-in-Some : goal.returns-in-Some
returns-in-Some c =
    let range = c.range.ensures.in_range tt in
    let steps = c.in-Some.ensures.steps in
    let first = rw steps at range.1 in
    let least = rw steps at range.2 in
    let pair = c.in-Some.pair.now in (
      λ is. (pair.1, subst (λ (p : Name). IsPair c.args.self.now p pair.1) (equal_names pair.0 c.args.parent c.eq.result c.eq.ensures is) first.1),
      λ some. names_equal pair.0 c.args.parent c.eq.result c.eq.ensures (first_pair name_cmp same_name name_laws.total-law c.args.parent some.0 pair first.0.0 (least (c.args.parent, some.0) (least_pair name_cmp same_name name_laws.total-law c.args.parent some.0, tt) some.1)),
    )

pub returns-in-None : goal.returns-in-None
returns-in-None c =
    let none = (c.range.ensures.in_range tt).5 in (
      λ is. absurd (false≢true is),
      λ some. absurd (false≢true (sym (none c.in-None.ensures.steps.0 (c.args.parent, some.0) (least_pair name_cmp same_name name_laws.total-law c.args.parent some.0, tt)) ∙ some.1)),
    )
