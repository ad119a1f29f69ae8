use Rattle.residents.specs.contracts.relying.RelianceOrd.TheImpl.Laws as reliance_laws
use Rattle.residents.proofs.RelyLemmas.{reliance_cmp, same_reliance}
use Rattle.residents.proofs.PairLemmas.{AreRemoved}
use Rattle.residents.proofs.relying.RelyingRows.remove.Given as goal

abbrev pub invariant-loop-reliance : goal.invariant-loop-reliance
invariant-loop-reliance l = AreRemoved reliance_cmp same_reliance reliance_laws.total-law l.fn.self.pairs l.self.pairs l.row l.reliances l.reliance-index
