use Rattle.std.proofs.Common.{sym, ◌∙◌, refl}
use Rattle.std.proofs.lemmas.Option.{none-some}
use Rattle.residents.specs.Tables.{resident_of}
use Rattle.residents.proofs.NameLemmas.{other_name}
use Rattle.residents.proofs.TableLemmas.{those_locked, unless_err}
use Rattle.residents.proofs.list.Residents.set_lock.Goals as goal

pub returns : goal.returns
returns c = λ rs those there.
    let updates = unless_err c.insert.result _ _ c.insert.ensures.updates c.insert.ensures.absent (λ none. none-some c.args.held (sym none ∙ those.named (resident_of c.args.held) there)) in
    those_locked c.args.self.now rs those _ c.args.held there c.args.locked
    (record { here = updates.1; other = λ q other. updates.2 q (other_name c.args.held.name q other) })
    (λ n. refl)
