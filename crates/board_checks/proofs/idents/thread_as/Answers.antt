use Rattle.std.proofs.Common.{None, Some, ◌∙◌, ap}
use Rattle.cache_ident.specs.declared.idents.Kind.TheVariants as kind
use Rattle.desc_tables.specs.desc_stores.specs.declared.items.Item.TheVariants as item
use Rattle.desc_tables.specs.desc_stores.specs.Items.{shown}
use Rattle.board_ops.specs.declared.refusals.Refused.TheVariants as why
use Rattle.board_checks.specs.Identifiers.{not_live, wrong_kind}
use Rattle.board_checks.proofs.FirstLemmas.{first_passes}
use Rattle.board_checks.proofs.IdentifierLemmas.{kind_tested, not_thread}
use Rattle.board_checks.proofs.idents.thread_as.Goals as goal

pub returns-in-Thread-clause-exact : goal.returns-in-Thread-clause-exact
returns-in-Thread-clause-exact c =
    let contents = c.args.tables.now.contents in
    let is = c.in_ok-thread.ensures.found ∙ ap (λ r. Some (shown r)) c.in-Thread.is in
    first_passes (not_live contents c.args.ident) (wrong_kind kind.Thread c.args.ident) None c.in_ok-thread.ensures.exact (kind_tested contents c.args.ident (item.Thread c.in-Thread.thread.now) is kind.Thread)

pub returns-in_default : goal.returns-in_default
returns-in_default c = record {
  exact =
      let contents = c.args.tables.now.contents in
      first_passes (not_live contents c.args.ident) (wrong_kind kind.Thread c.args.ident) (Some (why.WrongKind c.args.ident)) c.in_ok-thread.ensures.exact (not_thread contents c.args.ident c.in_ok-thread.field-0 c.in_ok-thread.ensures.found c.in_default.not-Thread);
  found = tt;
}
