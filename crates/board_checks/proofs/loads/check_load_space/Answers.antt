use Rattle.std.proofs.Common.{◌≡◌, Option, Some, None, ◌∙◌, ap}
use Rattle.std.specs.Option.{option_and_then, option_or}
use Rattle.std.proofs.lemmas.Result.{err_from_is_err_and}
use Rattle.cache_ident.specs.declared.idents.Kind.TheVariants as kind
use Rattle.cache_ident.specs.declared.names.Name.TheVariants as name
use Rattle.board_ops.specs.declared.refusals.Refused.{Refused}
use Rattle.board_checks.specs.Identifiers.{not_a}
use Rattle.board_checks.specs.Refusals.{already_loaded, not_declared, not_owned, not_owner}
use Rattle.board_checks.proofs.FirstLemmas.{err_shown, first_fails, first_passes}
use Rattle.cache_ident.specs.declared.names.Name.{Name}
use Rattle.board_ops.specs.flat_state.specs.Dependence.{owner}
use Rattle.desc_tables.specs.desc_stores.specs.Items.{shown}
use Rattle.desc_tables.specs.shown_state.proofs.ContentLemmas.{item_has_name}
use Rattle.desc_tables.specs.desc_parents.specs.Seen.{seen}
use Rattle.board_checks.proofs.GivenLemmas.{named_content, owner_tested_of, space_beside}
use Rattle.board_checks.proofs.LoadLemmas.{absent_tested, space_loadable}
use Rattle.board_checks.proofs.loads.check_load_space.Goals as goal

pub check_owner-requires : goal.check_owner-requires
check_owner-requires c = record { there = named_content c.args.tables.now.contents (name.Space c.args.space) (shown c.in_ok-declared.declared.item) c.in_ok-declared.ensures.its }

pub returns-in_err-check_owner-clause-exact : goal.returns-in_err-check_owner-clause-exact
returns-in_err-check_owner-clause-exact c =
    let one : Option Refused = not_a kind.Kernel c.args.tables.now.contents c.args.caller in
    let two : Option Refused = not_declared c.args.tables.now.contents (name.Space c.args.space) in
    let three : Option Refused = not_owned c.args.tables.now.contents c.args.caller (name.Space c.args.space) in
    let four : Option Refused = already_loaded c.args.tables.now.contents (name.Space c.args.space) in
    let p = err_from_is_err_and c.from_residual-in_err-check_owner.result c.from_residual-in_err-check_owner.ensures.1 in
    let x : Refused = c.in_err-check_owner.field-0.0 in
    let e : Option Refused = Some x in
    err_shown _ _ p ∙ first_passes one (option_or two (option_or three (four))) e (c.in_ok-given.ensures.exact) (first_passes two (option_or three (four)) e (c.in_ok-declared.ensures.exact) (first_fails three (four) x (c.in_err-check_owner.ensures ∙ owner_tested_of c.args.tables.now.contents c.args.caller c.in_ok-given.field-0.now c.in_ok-given.ensures.found (name.Space c.args.space) (shown c.in_ok-declared.declared.item) c.in_ok-declared.ensures.its)))

pub returns-in_err-check_absent-clause-exact : goal.returns-in_err-check_absent-clause-exact
returns-in_err-check_absent-clause-exact c =
    let one : Option Refused = not_a kind.Kernel c.args.tables.now.contents c.args.caller in
    let two : Option Refused = not_declared c.args.tables.now.contents (name.Space c.args.space) in
    let three : Option Refused = not_owned c.args.tables.now.contents c.args.caller (name.Space c.args.space) in
    let four : Option Refused = already_loaded c.args.tables.now.contents (name.Space c.args.space) in
    let p = err_from_is_err_and c.from_residual-in_err-check_absent.result c.from_residual-in_err-check_absent.ensures.1 in
    let x : Refused = c.in_err-check_absent.field-0.0 in
    let e : Option Refused = Some x in
    err_shown _ _ p ∙ first_passes one (option_or two (option_or three (four))) e (c.in_ok-given.ensures.exact) (first_passes two (option_or three (four)) e (c.in_ok-declared.ensures.exact) (first_passes three (four) e (c.in_ok-check_owner.ensures ∙ owner_tested_of c.args.tables.now.contents c.args.caller c.in_ok-given.field-0.now c.in_ok-given.ensures.found (name.Space c.args.space) (shown c.in_ok-declared.declared.item) c.in_ok-declared.ensures.its) (c.in_err-check_absent.ensures ∙ absent_tested c.args.tables.now.contents c.are_sound.ensures.sound.1.whole.one (name.Space c.args.space) c.in_ok-declared.declared.ident c.in_ok-declared.ensures.resident c.in_ok-declared.ensures.absent)))

pub returns-clause-exact : goal.returns-clause-exact
returns-clause-exact c =
    let one : Option Refused = not_a kind.Kernel c.args.tables.now.contents c.args.caller in
    let two : Option Refused = not_declared c.args.tables.now.contents (name.Space c.args.space) in
    let three : Option Refused = not_owned c.args.tables.now.contents c.args.caller (name.Space c.args.space) in
    let four : Option Refused = already_loaded c.args.tables.now.contents (name.Space c.args.space) in
    first_passes one (option_or two (option_or three (four))) None (c.in_ok-given.ensures.exact) (first_passes two (option_or three (four)) None (c.in_ok-declared.ensures.exact) (first_passes three (four) None (c.in_ok-check_owner.ensures ∙ owner_tested_of c.args.tables.now.contents c.args.caller c.in_ok-given.field-0.now c.in_ok-given.ensures.found (name.Space c.args.space) (shown c.in_ok-declared.declared.item) c.in_ok-declared.ensures.its) (c.in_ok-check_absent.ensures ∙ absent_tested c.args.tables.now.contents c.are_sound.ensures.sound.1.whole.one (name.Space c.args.space) c.in_ok-declared.declared.ident c.in_ok-declared.ensures.resident c.in_ok-declared.ensures.absent)))

pub returns-clause-may : goal.returns-clause-may
returns-clause-may c =
    let absent : None ≡ already_loaded c.args.tables.now.contents (name.Space c.args.space) = c.in_ok-check_absent.ensures ∙ absent_tested c.args.tables.now.contents c.are_sound.ensures.sound.1.whole.one (name.Space c.args.space) c.in_ok-declared.declared.ident c.in_ok-declared.ensures.resident c.in_ok-declared.ensures.absent in
    let owned : None ≡ option_and_then (not_owner c.in_ok-given.field-0.now.no) (owner (seen c.args.tables.now.contents) (name.Space c.args.space)) = c.in_ok-check_owner.ensures ∙ ap (λ (m : Name). option_and_then (not_owner c.in_ok-given.field-0.now.no) (owner (seen c.args.tables.now.contents) m)) (item_has_name c.args.tables.now.contents (name.Space c.args.space) (shown c.in_ok-declared.declared.item) c.in_ok-declared.ensures.its) in
    let may = space_loadable c.args.tables.now.contents c.are_sound.ensures.sound.1.whole.one c.args.caller c.in_ok-given.field-0.now c.in_ok-given.ensures.found c.args.space c.in_ok-declared.ensures.exact owned absent in
    rw c.keep_kernel.ensures (space_beside c.args.tables.now.contents c.are_sound.ensures.sound.1.whole.one c.args.caller c.in_ok-given.field-0.now c.in_ok-given.ensures.found c.args.space c.in_ok-declared.ensures.exact owned c.requires.formed may)
