use Rattle.residents.specs.contracts.relying.RelianceOrd.TheImpl.Laws as reliance_laws
use Rattle.residents.proofs.RelyLemmas.{reliance_cmp, same_reliance}
use Rattle.residents.proofs.PairLemmas.{AreAdded}
use Rattle.residents.proofs.relying.RelyingRows.add.Given as goal

abbrev pub invariant-loop-reliance : goal.invariant-loop-reliance
invariant-loop-reliance l = AreAdded reliance_cmp same_reliance reliance_laws.total-law l.fn.self.pairs l.self.pairs l.row l.reliances l.reliance-index
