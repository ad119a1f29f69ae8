use Rattle.std.proofs.Common.{sym, ◌∙◌}
use Rattle.std.proofs.lemmas.Bool.{false≢true}
use Rattle.residents.specs.contracts.relying.RelianceOrd.TheImpl.Laws as reliance_laws
use Rattle.residents.proofs.RelyLemmas.{reliance_cmp, same_reliance, reliances_equal}
use Rattle.residents.proofs.PairLemmas.{first_pair, least_pair}
use Rattle.residents.proofs.relying.RelyingRows.first.Goals as goal

pub returns-else-eq : goal.returns-else-eq
returns-else-eq c = λ name on.
    let range = c.range.ensures.in_range tt in
    let steps = c.in-Some.ensures.steps in
    let first = rw steps at range.1 in
    let least = rw steps at range.2 in
    let pair = c.in-Some.pair.now in
    false≢true (sym c.if-eq.false ∙ reliances_equal pair.0 c.args.reliance c.eq.result c.eq.ensures
    (first_pair reliance_cmp same_reliance reliance_laws.total-law c.args.reliance name pair first.0.0
    (least (c.args.reliance, name) (least_pair reliance_cmp same_reliance reliance_laws.total-law c.args.reliance name, tt) on)))

pub returns-in-None : goal.returns-in-None
returns-in-None c = λ name on.
    let none = (c.range.ensures.in_range tt).5 in
    false≢true (sym (none c.in-None.ensures.steps.0 (c.args.reliance, name) (least_pair reliance_cmp same_reliance reliance_laws.total-law c.args.reliance name, tt)) ∙ on)
