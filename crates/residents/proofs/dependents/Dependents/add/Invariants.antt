use Rattle.cache_ident.specs.contracts.names.NameOrd.TheImpl.Laws as name_laws
use Rattle.residents.proofs.NameLemmas.{name_cmp, same_name}
use Rattle.residents.proofs.PairLemmas.{AreAdded}
use Rattle.residents.proofs.dependents.Dependents.add.Given as goal

abbrev pub invariant-loop-parent : goal.invariant-loop-parent
invariant-loop-parent l = AreAdded name_cmp same_name name_laws.total-law l.fn.self.pairs l.self.pairs l.child l.parents l.parent-index
