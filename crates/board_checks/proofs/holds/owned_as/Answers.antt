use Rattle.std.proofs.Common.{Option, Some, None, ◌∙◌}
use Rattle.std.specs.Option.{option_or}
use Rattle.std.proofs.lemmas.Result.{err_from_is_err_and}
use Rattle.cache_ident.specs.declared.idents.Kind.TheVariants as kind
use Rattle.board_ops.specs.declared.refusals.Refused.{Refused}
use Rattle.desc_tables.specs.desc_stores.specs.Items.{name_of, shown}
use Rattle.board_checks.specs.Identifiers.{not_a, not_live}
use Rattle.board_checks.specs.Refusals.{not_owned_as}
use Rattle.board_checks.proofs.FirstLemmas.{err_shown, first_passes}
use Rattle.board_checks.proofs.GivenLemmas.{loaded_content}
use Rattle.board_checks.proofs.HoldLemmas.{owned_tested}
use Rattle.board_checks.proofs.IdentifierLemmas.{name_is}
use Rattle.board_checks.proofs.OwnerLemmas.{owner_tested}
use Rattle.board_checks.proofs.holds.owned_as.Goals as goal

pub check_owner-requires : goal.check_owner-requires
check_owner-requires c = record { there = loaded_content c.args.tables.now.contents c.are_sound.ensures.sound.1.whole.one c.args.ident (shown c.in_ok-item.item) c.in_ok-item.ensures.found }

pub returns-in_err-check_owner-clause-exact : goal.returns-in_err-check_owner-clause-exact
returns-in_err-check_owner-clause-exact c =
    let one : Option Refused = not_a kind.Kernel c.args.tables.now.contents c.args.caller in
    let two : Option Refused = not_live c.args.tables.now.contents c.args.ident in
    let three : Option Refused = not_owned_as c.args.tables.now.contents c.args.caller c.args.ident in
    let p = err_from_is_err_and c.from_residual-in_err-check_owner.result c.from_residual-in_err-check_owner.ensures.1 in
    let x : Refused = c.in_err-check_owner.field-0.0 in
    let e : Option Refused = Some x in
    err_shown _ _ p ∙ first_passes one (option_or two (three)) e (c.in_ok-given.ensures.exact) (first_passes two (three) e (c.in_ok-item.ensures.exact) (c.in_err-check_owner.ensures ∙ owner_tested c.args.tables.now.contents c.args.caller c.in_ok-given.field-0.now c.in_ok-given.ensures.found (name_of (shown c.in_ok-item.item)) ∙ owned_tested c.args.tables.now.contents c.args.ident (name_of (shown c.in_ok-item.item)) (name_is c.args.tables.now.contents c.args.ident (shown c.in_ok-item.item) c.in_ok-item.ensures.found) c.args.caller))

pub returns-clause-exact : goal.returns-clause-exact
returns-clause-exact c =
    let one : Option Refused = not_a kind.Kernel c.args.tables.now.contents c.args.caller in
    let two : Option Refused = not_live c.args.tables.now.contents c.args.ident in
    let three : Option Refused = not_owned_as c.args.tables.now.contents c.args.caller c.args.ident in
    first_passes one (option_or two (three)) None (c.in_ok-given.ensures.exact) (first_passes two (three) None (c.in_ok-item.ensures.exact) (c.in_ok-check_owner.ensures ∙ owner_tested c.args.tables.now.contents c.args.caller c.in_ok-given.field-0.now c.in_ok-given.ensures.found (name_of (shown c.in_ok-item.item)) ∙ owned_tested c.args.tables.now.contents c.args.ident (name_of (shown c.in_ok-item.item)) (name_is c.args.tables.now.contents c.args.ident (shown c.in_ok-item.item) c.in_ok-item.ensures.found) c.args.caller))
