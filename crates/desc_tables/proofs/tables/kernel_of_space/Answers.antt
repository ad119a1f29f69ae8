use Rattle.std.proofs.Common.{sym, ◌∙◌}
use Rattle.desc_tables.proofs.PutLemmas.{space_has_owner}
use Rattle.desc_tables.proofs.tables.kernel_of_space.Goals as goal

pub unreachable-requires : goal.unreachable-requires
unreachable-requires c = space_has_owner c.args.stores.now c.each_is_one.ensures c.args.space c.requires (sym c.kernel_of.ensures ∙ c.in_default.is)
