use Rattle.std.proofs.Common.{Option, Some, None, ◌∙◌}
use Rattle.std.specs.Option.{option_or}
use Rattle.std.proofs.lemmas.Result.{err_from_is_err_and}
use Rattle.cache_ident.specs.declared.idents.Kind.TheVariants as kind
use Rattle.cache_ident.specs.declared.names.Name.TheVariants as name
use Rattle.desc_tables.specs.desc_stores.specs.declared.items.Item.TheVariants as item
use Rattle.board_ops.specs.declared.refusals.Refused.{Refused}
use Rattle.board_checks.specs.Identifiers.{not_a}
use Rattle.board_checks.specs.Refusals.{not_owned_as}
use Rattle.board_checks.proofs.FirstLemmas.{err_shown, first_passes}
use Rattle.board_checks.proofs.GivenLemmas.{loaded_content}
use Rattle.board_checks.proofs.HoldLemmas.{owned_tested}
use Rattle.board_checks.proofs.IdentifierLemmas.{name_is}
use Rattle.board_checks.proofs.OwnerLemmas.{owner_tested}
use Rattle.board_checks.proofs.completions.check_thread.Goals as goal

pub check_owner-requires : goal.check_owner-requires
check_owner-requires c = record { there = loaded_content c.args.tables.now.contents c.are_sound.ensures.sound.1.whole.one c.args.thread (item.Thread c.in_ok-found.found.now) c.in_ok-found.ensures.found }

pub returns-in_err-check_owner-clause-exact : goal.returns-in_err-check_owner-clause-exact
returns-in_err-check_owner-clause-exact c =
    let one : Option Refused = not_a kind.Kernel c.args.tables.now.contents c.args.caller in
    let two : Option Refused = not_a kind.Thread c.args.tables.now.contents c.args.thread in
    let three : Option Refused = not_owned_as c.args.tables.now.contents c.args.caller c.args.thread in
    let p = err_from_is_err_and c.from_residual-in_err-check_owner.result c.from_residual-in_err-check_owner.ensures.1 in
    let x : Refused = c.in_err-check_owner.field-0.0 in
    let e : Option Refused = Some x in
    err_shown _ _ p ∙ first_passes one (option_or two (three)) e (c.in_ok-given.ensures.exact) (first_passes two (three) e (c.in_ok-found.ensures.exact) (c.in_err-check_owner.ensures ∙ owner_tested c.args.tables.now.contents c.args.caller c.in_ok-given.field-0.now c.in_ok-given.ensures.found (name.Thread c.in_ok-found.found.now.no) ∙ owned_tested c.args.tables.now.contents c.args.thread (name.Thread c.in_ok-found.found.now.no) (name_is c.args.tables.now.contents c.args.thread (item.Thread c.in_ok-found.found.now) c.in_ok-found.ensures.found) c.args.caller))

pub returns-clause-exact : goal.returns-clause-exact
returns-clause-exact c =
    let one : Option Refused = not_a kind.Kernel c.args.tables.now.contents c.args.caller in
    let two : Option Refused = not_a kind.Thread c.args.tables.now.contents c.args.thread in
    let three : Option Refused = not_owned_as c.args.tables.now.contents c.args.caller c.args.thread in
    first_passes one (option_or two (three)) None (c.in_ok-given.ensures.exact) (first_passes two (three) None (c.in_ok-found.ensures.exact) (c.in_ok-check_owner.ensures ∙ owner_tested c.args.tables.now.contents c.args.caller c.in_ok-given.field-0.now c.in_ok-given.ensures.found (name.Thread c.in_ok-found.found.now.no) ∙ owned_tested c.args.tables.now.contents c.args.thread (name.Thread c.in_ok-found.found.now.no) (name_is c.args.tables.now.contents c.args.thread (item.Thread c.in_ok-found.found.now) c.in_ok-found.ensures.found) c.args.caller))
