use Rattle.std.proofs.Common.{None, Some, ◌∙◌, ap}
use Rattle.cache_ident.specs.declared.idents.Kind.TheVariants as kind
use Rattle.desc_tables.specs.desc_stores.specs.declared.items.Item.TheVariants as item
use Rattle.desc_tables.specs.desc_stores.specs.Items.{shown}
use Rattle.board_ops.specs.declared.refusals.Refused.TheVariants as why
use Rattle.board_checks.specs.Identifiers.{not_live, wrong_kind}
use Rattle.board_checks.proofs.FirstLemmas.{first_passes}
use Rattle.board_checks.proofs.IdentifierLemmas.{kind_tested, not_space}
use Rattle.board_checks.proofs.idents.space_as.Goals as goal

pub returns-in-Space-clause-exact : goal.returns-in-Space-clause-exact
returns-in-Space-clause-exact c =
    let contents = c.args.tables.now.contents in
    let is = c.in_ok-space.ensures.found ∙ ap (λ r. Some (shown r)) c.in-Space.is in
    first_passes (not_live contents c.args.ident) (wrong_kind kind.Space c.args.ident) None c.in_ok-space.ensures.exact (kind_tested contents c.args.ident (item.Space c.in-Space.space.now) is kind.Space)

pub returns-in_default : goal.returns-in_default
returns-in_default c = record {
  exact =
      let contents = c.args.tables.now.contents in
      first_passes (not_live contents c.args.ident) (wrong_kind kind.Space c.args.ident) (Some (why.WrongKind c.args.ident)) c.in_ok-space.ensures.exact (not_space contents c.args.ident c.in_ok-space.field-0 c.in_ok-space.ensures.found c.in_default.not-Space);
  found = tt;
}
