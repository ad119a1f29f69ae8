use Rattle.std.proofs.Common.{refl}
use Rattle.std.specs.Ordering.{nat_cmp}
use Rattle.std.specs.BTreeMap.{get}
use Rattle.residents.specs.Tables.{held_at}
use Rattle.residents.proofs.NameLemmas.{name_cmp, other_name, other_nat}
use Rattle.residents.proofs.TableLemmas.{those_loaded, those_same, on_err, same_entries, put_back, nothing_at}
use Rattle.residents.proofs.list.Residents.load.Goals as goal

pub returns-in_err-insert-clause-err : goal.returns-in_err-insert-clause-err
returns-in_err-insert-clause-err c =
    on_err c.from_residual.result _ (λ rs those absent. those_same c.args.self.now rs those _ (same_entries name_cmp c.args.self.now.by_name c.insert.new.self c.in_err-insert.ensures.err) (λ n. refl))

pub returns-in-Err-clause-err : goal.returns-in-Err-clause-err
returns-in-Err-clause-err c = λ rs those absent.
    let put = c.in_ok-insert.ensures.updates in
    let taken = c.remove.ensures.updates in
    those_same c.args.self.now rs those _
    (put_back (held_at c.args.self.now) (get name_cmp c.insert.new.self) (get name_cmp c.remove.new.self) c.args.name _
    (record { here = put.1; other = λ q other. put.2 q (other_name c.args.name q other) })
    (record { here = taken.1; other = λ q other. taken.2 q (other_name c.args.name q other) })
    (nothing_at c.args.self.now rs those c.args.name absent))
    (same_entries nat_cmp c.args.self.now.names c.insert-2.new.self c.in-Err.ensures.err)

pub returns-clause-ok : goal.returns-clause-ok
returns-clause-ok c = λ rs those absent fresh.
    those_loaded c.args.self.now rs those _ c.args.ident c.args.name absent fresh
    (record { here = c.in_ok-insert.ensures.updates.1; other = λ q other. c.in_ok-insert.ensures.updates.2 q (other_name c.args.name q other) })
    (record { here = c.in_default.ensures.updates.1; other = λ q other. c.in_default.ensures.updates.2 q (other_nat c.args.ident.serial q other) })
