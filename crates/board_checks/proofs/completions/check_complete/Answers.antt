use Rattle.std.proofs.Common.{Option, Some, None, ◌∙◌}
use Rattle.std.proofs.lemmas.Result.{err_from_is_err_and}
use Rattle.cache_ident.specs.declared.idents.Kind.TheVariants as kind
use Rattle.board_ops.specs.declared.refusals.Refused.{Refused}
use Rattle.board_checks.specs.Identifiers.{not_a}
use Rattle.board_checks.specs.Refusals.{not_completable, not_owned_as}
use Rattle.board_checks.proofs.FirstLemmas.{err_shown, one_more_test}
use Rattle.board_checks.proofs.IdentifierLemmas.{call_tested}
use Rattle.board_checks.proofs.completions.check_complete.Goals as goal

pub returns-in_err-check_call-clause-exact : goal.returns-in_err-check_call-clause-exact
returns-in_err-check_call-clause-exact c =
    let one : Option Refused = not_a kind.Kernel c.args.tables.now.contents c.args.caller in
    let two : Option Refused = not_a kind.Thread c.args.tables.now.contents c.args.thread in
    let three : Option Refused = not_owned_as c.args.tables.now.contents c.args.caller c.args.thread in
    let four : Option Refused = not_completable c.args.tables.now.contents c.args.thread in
    let p = err_from_is_err_and c.from_residual-in_err-check_call.result c.from_residual-in_err-check_call.ensures.1 in
    let x : Refused = c.in_err-check_call.field-0.0 in
    let e : Option Refused = Some x in
    err_shown _ _ p ∙ one_more_test one two three four e c.in_ok-found.ensures.exact (c.in_err-check_call.ensures ∙ call_tested c.args.tables.now.contents c.args.thread c.in_ok-found.found.now c.in_ok-found.ensures.found)

pub returns-clause-exact : goal.returns-clause-exact
returns-clause-exact c =
    let one : Option Refused = not_a kind.Kernel c.args.tables.now.contents c.args.caller in
    let two : Option Refused = not_a kind.Thread c.args.tables.now.contents c.args.thread in
    let three : Option Refused = not_owned_as c.args.tables.now.contents c.args.caller c.args.thread in
    let four : Option Refused = not_completable c.args.tables.now.contents c.args.thread in
    one_more_test one two three four None c.in_ok-found.ensures.exact (c.in_ok-check_call.ensures ∙ call_tested c.args.tables.now.contents c.args.thread c.in_ok-found.found.now c.in_ok-found.ensures.found)
