use Rattle.std.proofs.Common.{None, Some, ◌∙◌, ap}
use Rattle.cache_ident.specs.declared.idents.Kind.TheVariants as kind
use Rattle.desc_tables.specs.desc_stores.specs.declared.items.Item.TheVariants as item
use Rattle.desc_tables.specs.desc_stores.specs.Items.{shown}
use Rattle.board_ops.specs.declared.refusals.Refused.TheVariants as why
use Rattle.board_checks.specs.Identifiers.{not_live, wrong_kind}
use Rattle.board_checks.proofs.FirstLemmas.{first_passes}
use Rattle.board_checks.proofs.IdentifierLemmas.{kind_tested, not_kernel}
use Rattle.board_checks.proofs.idents.kernel_as.Goals as goal

pub returns-in-Kernel-clause-exact : goal.returns-in-Kernel-clause-exact
returns-in-Kernel-clause-exact c =
    let contents = c.args.tables.now.contents in
    let is = c.in_ok-kernel.ensures.found ∙ ap (λ r. Some (shown r)) c.in-Kernel.is in
    first_passes (not_live contents c.args.ident) (wrong_kind kind.Kernel c.args.ident) None c.in_ok-kernel.ensures.exact (kind_tested contents c.args.ident (item.Kernel c.in-Kernel.kernel.now) is kind.Kernel)

pub returns-in_default : goal.returns-in_default
returns-in_default c = record {
  exact =
      let contents = c.args.tables.now.contents in
      first_passes (not_live contents c.args.ident) (wrong_kind kind.Kernel c.args.ident) (Some (why.WrongKind c.args.ident)) c.in_ok-kernel.ensures.exact (not_kernel contents c.args.ident c.in_ok-kernel.field-0 c.in_ok-kernel.ensures.found c.in_default.not-Kernel);
  found = tt;
}
