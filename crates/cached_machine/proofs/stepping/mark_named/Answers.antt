use Rattle.std.proofs.Common.{sym, ◌∙◌}
use Rattle.cache_ident.specs.declared.names.Name.TheVariants as name
use Rattle.board_laws.specs.desc_stores.specs.Contents.{content_of}
use Rattle.cached_machine.proofs.StepLaws.{lacks_of_some, marks_stay}
use Rattle.cached_machine.proofs.stepping.mark_named.Goals as goal

pub update_row_named-requires-clause-there : goal.update_row_named-requires-clause-there
update_row_named-requires-clause-there c = lacks_of_some c.args.written (content_of c.args.tables.now.contents (name.Mapping c.args.space c.args.vpn)) (sym c.lacks_mark.ensures ∙ c.if-lacks_mark.true)

pub returns-else-lacks_mark : goal.returns-else-lacks_mark
returns-else-lacks_mark c = marks_stay c.args.tables.now c.args.space c.args.vpn c.args.written (sym c.lacks_mark.ensures ∙ c.if-lacks_mark.false)
