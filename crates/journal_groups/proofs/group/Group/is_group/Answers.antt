use Rattle.std.proofs.Common.{sym, ◌∙◌}
use Rattle.std.proofs.lemmas.Bool.{false≢true}
use Rattle.cache_ident.specs.Residents.{without}
use Rattle.journal_groups.proofs.Leaves.{group_if_all, all_if_group}
use Rattle.journal_groups.proofs.group.Group.is_group.Goals as goal

pub returns-then-self : goal.returns-then-self
returns-then-self c = λ before now left root are formed there those good.
    let lack = c.lack_one_each.ensures (without root.ident now) those in (
      λ e. group_if_all c.args.flat.now before now left root there c.args.self.now are formed good c.if-self.true (lack.0 e),
      λ is. lack.1 (all_if_group c.args.flat.now before now left root there c.args.self.now are formed good is).1,
    )

pub returns-else-self : goal.returns-else-self
returns-else-self c = λ before now left root are formed there those good. (
  λ e. absurd (false≢true (sym c.if-self.false ∙ e)),
  λ is. (all_if_group c.args.flat.now before now left root there c.args.self.now are formed good is).0,
)
