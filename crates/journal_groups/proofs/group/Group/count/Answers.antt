use Rattle.std.proofs.Common.{ℕ, ◌+◌, List, count_by, ap, sym, ◌∙◌}
use Rattle.residents.specs.run_journal.specs.Legal.{count_of, is_kind}
use Rattle.journal_groups.specs.declared.gone.Gone.{Gone}
use Rattle.journal_groups.proofs.Leaves.{count_left}
use Rattle.journal_groups.proofs.group.Group.count.Goals as goal

pub returns : goal.returns
returns c = λ s before now left are.
    let counted = c.of_kind.ensures ∙ ap (λ (all : List Gone). count_by (λ gone. is_kind gone.ident.kind c.args.kind) all) c.as_slice.ensures.value in
    count_left c.args.kind c.args.self.now s before now left are ∙ ap (λ (n : ℕ). count_of now c.args.kind + n) (sym counted)
