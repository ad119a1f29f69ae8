use Rattle.residents.proofs.NameLemmas.{other_name, other_nat}
use Rattle.residents.proofs.TableLemmas.{those_without}
use Rattle.residents.proofs.list.Residents.remove.Goals as goal

pub returns : goal.returns
returns c = λ rs those there.
    those_without c.args.self.now rs those _ c.args.held there
    (record { here = c.remove.ensures.updates.1; other = λ q other. c.remove.ensures.updates.2 q (other_name c.args.held.name q other) })
    (record { here = c.remove-2.ensures.updates.1; other = λ q other. c.remove-2.ensures.updates.2 q (other_nat c.args.held.ident.serial q other) })
