use Rattle.std.proofs.Common.{Option, Some, None, sym, ◌∙◌, ap, subst}
use Rattle.std.proofs.lemmas.Result.{err_from_is_err_and}
use Rattle.cache_ident.specs.declared.idents.Kind.TheVariants as kind
use Rattle.cache_ident.specs.declared.names.Name.{Name}
use Rattle.cache_ident.specs.Residents.{IsResident}
use Rattle.desc_tables.specs.desc_stores.specs.Contents.{residents_of}
use Rattle.desc_tables.specs.desc_stores.specs.Items.{shown}
use Rattle.board_ops.specs.declared.refusals.Refused.{Refused}
use Rattle.board_checks.specs.Identifiers.{not_a, not_live}
use Rattle.board_checks.specs.Refusals.{first_kernel, not_owned_as}
use Rattle.board_checks.proofs.FirstLemmas.{err_shown, one_more_test}
use Rattle.board_checks.proofs.HoldLemmas.{first_tested}
use Rattle.board_checks.proofs.IdentifierLemmas.{item_live, item_resident, name_is}
use Rattle.board_checks.proofs.holds.check_unload.Goals as goal

pub returns-in_err-check_first-clause-exact : goal.returns-in_err-check_first-clause-exact
returns-in_err-check_first-clause-exact c =
    let one : Option Refused = not_a kind.Kernel c.args.tables.now.contents c.args.caller in
    let two : Option Refused = not_live c.args.tables.now.contents c.args.ident in
    let three : Option Refused = not_owned_as c.args.tables.now.contents c.args.caller c.args.ident in
    let four : Option Refused = first_kernel c.args.tables.now.contents c.args.ident in
    let p = err_from_is_err_and c.from_residual-in_err-check_first.result c.from_residual-in_err-check_first.ensures.1 in
    let x : Refused = c.in_err-check_first.field-0.0 in
    let e : Option Refused = Some x in
    err_shown _ _ p ∙ one_more_test one two three four e c.in_ok-owned_as.ensures.exact (c.in_err-check_first.ensures ∙ first_tested c.args.tables.now.contents c.args.ident c.name-name.result (name_is c.args.tables.now.contents c.args.ident (shown c.in_ok-owned_as.field-0) c.in_ok-owned_as.ensures.its ∙ ap (λ (n : Name). Some n) (sym c.name-name.ensures)))

pub returns-clause-exact : goal.returns-clause-exact
returns-clause-exact c =
    let one : Option Refused = not_a kind.Kernel c.args.tables.now.contents c.args.caller in
    let two : Option Refused = not_live c.args.tables.now.contents c.args.ident in
    let three : Option Refused = not_owned_as c.args.tables.now.contents c.args.caller c.args.ident in
    let four : Option Refused = first_kernel c.args.tables.now.contents c.args.ident in
    one_more_test one two three four None c.in_ok-owned_as.ensures.exact (c.in_ok-check_first.ensures ∙ first_tested c.args.tables.now.contents c.args.ident c.name-name.result (name_is c.args.tables.now.contents c.args.ident (shown c.in_ok-owned_as.field-0) c.in_ok-owned_as.ensures.its ∙ ap (λ (n : Name). Some n) (sym c.name-name.ensures)))

pub returns-clause-live : goal.returns-clause-live
returns-clause-live c = item_live c.args.tables.now.contents c.args.ident c.are_sound.ensures.sound.1.whole.one (shown c.in_ok-owned_as.field-0) c.in_ok-owned_as.ensures.its

pub returns-clause-named : goal.returns-clause-named
returns-clause-named c = subst (IsResident (residents_of c.args.tables.now.contents) c.args.ident) (sym c.name-name.ensures) (item_resident c.args.tables.now.contents c.args.ident c.are_sound.ensures.sound.1.whole.one (shown c.in_ok-owned_as.field-0) c.in_ok-owned_as.ensures.its)
