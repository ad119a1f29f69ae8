use Rattle.std.proofs.Common.{◌≡◌, [], ◌∷◌, Option, Some, None, sym, ◌∙◌, ap, subst}
use Rattle.std.specs.Option.{option_and_then, option_map, option_or}
use Rattle.std.proofs.lemmas.Result.{err_from_is_err_and}
use Rattle.cache_ident.specs.declared.idents.Kind.TheVariants as kind
use Rattle.cache_ident.specs.declared.names.Name.TheVariants as name
use Rattle.board_ops.specs.declared.refusals.Refused.{Refused}
use Rattle.cache_ident.specs.declared.names.SpaceNo.{SpaceNo}
use Rattle.phys_groups.specs.Translation.{row_of}
use Rattle.cache_ident.specs.declared.names.Name.{Name}
use Rattle.desc_tables.specs.desc_stores.specs.declared.items.Item.TheVariants as item
use Rattle.desc_tables.specs.desc_parents.specs.Seen.{seen}
use Rattle.board_checks.specs.Facts.{IsLoadable}
use Rattle.board_checks.specs.Keeps.{IsLoadableBeside}
use Rattle.board_checks.specs.Identifiers.{not_a, not_a_receiver, space_as}
use Rattle.board_checks.specs.Refusals.{already_loaded, beyond_rights, not_declared, not_owned, receivers_absent, refusal_in_space, refusal_of_row, wrong_parent, wrong_receiver}
use Rattle.board_checks.proofs.FirstLemmas.{err_shown, first_fails, first_passes}
use Rattle.board_checks.proofs.IdentifierLemmas.{space_is}
use Rattle.board_checks.proofs.GivenLemmas.{named_content, owner_tested_of, row_beside, row_owner_passes, row_rights_tested, row_seen}
use Rattle.board_checks.proofs.LoadLemmas.{absent_tested, for_row, in_space, receiver_tested, row_loadable, row_named}
use Rattle.board_checks.proofs.loads.check_load_mapping.Goals as goal

pub check_owner-requires : goal.check_owner-requires
check_owner-requires c = record { there = named_content c.args.tables.now.contents (name.Mapping c.in_ok-space.field-0.now.no c.args.vpn) (item.Mapping c.in_ok-declared.declared.value.now) c.in_ok-declared.ensures.its }

pub keep_of_row-requires : goal.keep_of_row-requires
keep_of_row-requires c =
    let given = c.in_ok-given.given.now in
    let space = c.in_ok-space.field-0.now in
    let row = c.in_ok-declared.declared.value.now in
    let its = (row_seen c.args.tables.now.contents c.are_sound.ensures.sound.1.whole.one c.in_ok-space.field-0.now.no c.args.vpn c.in_ok-declared.declared.value.now c.in_ok-declared.ensures.its) in
    let named = row_named c.args.tables.now.contents c.are_sound.ensures.sound.1.whole.one c.args.parent space c.in_ok-space.ensures.found c.args.vpn row its in
    let absent : None ≡ already_loaded c.args.tables.now.contents (name.Mapping c.in_ok-space.field-0.now.no c.args.vpn) = c.in_ok-check_absent.ensures ∙ absent_tested c.args.tables.now.contents c.are_sound.ensures.sound.1.whole.one (name.Mapping c.in_ok-space.field-0.now.no c.args.vpn) c.in_ok-declared.declared.ident c.in_ok-declared.ensures.resident c.in_ok-declared.ensures.absent in
    let fit : None ≡ beyond_rights c.args.tables.now.contents row = c.in_ok-check_rights.ensures ∙ row_rights_tested c.args.tables.now.contents c.are_sound.ensures.sound.1.whole.one c.args.caller c.in_ok-given.given.now c.in_ok-given.ensures.found c.args.parent c.in_ok-space.field-0.now c.in_ok-space.ensures.found c.args.vpn c.in_ok-declared.declared.value.now c.in_ok-declared.ensures.its c.in_ok-check_owner.ensures in
    let may = row_loadable c.args.tables.now.contents c.are_sound.ensures.sound.1.whole.one c.args.parent space c.in_ok-space.ensures.found c.args.vpn row its c.args.receiver c.in_ok-receiver.receiver c.in_ok-receiver.ensures.named c.in_ok-declared.ensures.exact (c.in_ok-check_parent.ensures ∙ ap (wrong_parent c.in_ok-receiver.receiver) c.receiver_of.ensures) absent fit c.in_ok-check_receivers.ensures in
    let owned = row_owner_passes c.args.tables.now.contents c.are_sound.ensures.sound.1.whole.one given.no space.no c.args.vpn row c.in_ok-declared.ensures.its c.in_ok-check_owner.ensures in
    record {
      formed = c.requires.formed;
      may = subst (IsLoadable c.args.tables.now.contents) (sym named) may;
      plain = λ plain alone. subst (λ (n : Name). IsLoadableBeside c.args.tables.now.contents n (c.args.parent ∷ c.args.caller ∷ [])) (sym named)
          (row_beside c.args.tables.now.contents c.are_sound.ensures.sound.1.whole.one c.args.caller given c.in_ok-given.ensures.found c.args.parent space c.in_ok-space.ensures.found owned c.args.vpn row its named plain alone c.requires.formed may);
    }

pub returns-in_err-declared-clause-exact : goal.returns-in_err-declared-clause-exact
returns-in_err-declared-clause-exact c =
    let one : Option Refused = not_a kind.Kernel c.args.tables.now.contents c.args.caller in
    let two : Option Refused = not_a kind.Space c.args.tables.now.contents c.args.parent in
    let three : Option Refused = not_a_receiver c.args.tables.now.contents c.args.receiver in
    let four : Option Refused = option_and_then (refusal_in_space c.args.tables.now.contents c.args.caller c.args.receiver c.args.vpn) (space_as c.args.tables.now.contents c.args.parent) in
    let five : Option Refused = not_declared c.args.tables.now.contents (name.Mapping c.in_ok-space.field-0.now.no c.args.vpn) in
    let six : Option Refused = option_and_then (refusal_of_row c.args.tables.now.contents c.args.caller c.args.receiver (name.Mapping c.in_ok-space.field-0.now.no c.args.vpn)) (row_of (seen c.args.tables.now.contents).rows c.in_ok-space.field-0.now.no c.args.vpn.0) in
    let p = err_from_is_err_and c.from_residual-in_err-declared.result c.from_residual-in_err-declared.ensures.1 in
    let x : Refused = c.in_err-declared.field-0.0 in
    let e : Option Refused = Some x in
    err_shown _ _ p ∙ first_passes one (option_or two (option_or three (four))) e (c.in_ok-given.ensures.exact) (first_passes two (option_or three (four)) e (c.in_ok-space.ensures.exact) (first_passes three (four) e (c.in_ok-receiver.ensures.exact) (in_space c.args.tables.now.contents c.args.caller c.args.receiver c.args.vpn c.args.parent c.in_ok-space.field-0.now c.in_ok-space.ensures.found e (first_fails five (six) x (c.in_err-declared.ensures.exact)))))

pub returns-in_err-check_owner-clause-exact : goal.returns-in_err-check_owner-clause-exact
returns-in_err-check_owner-clause-exact c =
    let one : Option Refused = not_a kind.Kernel c.args.tables.now.contents c.args.caller in
    let two : Option Refused = not_a kind.Space c.args.tables.now.contents c.args.parent in
    let three : Option Refused = not_a_receiver c.args.tables.now.contents c.args.receiver in
    let four : Option Refused = option_and_then (refusal_in_space c.args.tables.now.contents c.args.caller c.args.receiver c.args.vpn) (space_as c.args.tables.now.contents c.args.parent) in
    let five : Option Refused = not_declared c.args.tables.now.contents (name.Mapping c.in_ok-space.field-0.now.no c.args.vpn) in
    let six : Option Refused = option_and_then (refusal_of_row c.args.tables.now.contents c.args.caller c.args.receiver (name.Mapping c.in_ok-space.field-0.now.no c.args.vpn)) (row_of (seen c.args.tables.now.contents).rows c.in_ok-space.field-0.now.no c.args.vpn.0) in
    let seven : Option Refused = not_owned c.args.tables.now.contents c.args.caller (name.Mapping c.in_ok-space.field-0.now.no c.args.vpn) in
    let eight : Option Refused = wrong_receiver c.args.tables.now.contents c.args.receiver c.in_ok-declared.declared.value.now in
    let nine : Option Refused = already_loaded c.args.tables.now.contents (name.Mapping c.in_ok-space.field-0.now.no c.args.vpn) in
    let ten : Option Refused = beyond_rights c.args.tables.now.contents c.in_ok-declared.declared.value.now in
    let eleven : Option Refused = receivers_absent c.args.tables.now.contents c.in_ok-declared.declared.value.now in
    let p = err_from_is_err_and c.from_residual-in_err-check_owner.result c.from_residual-in_err-check_owner.ensures.1 in
    let x : Refused = c.in_err-check_owner.field-0.0 in
    let e : Option Refused = Some x in
    err_shown _ _ p ∙ first_passes one (option_or two (option_or three (four))) e (c.in_ok-given.ensures.exact) (first_passes two (option_or three (four)) e (c.in_ok-space.ensures.exact) (first_passes three (four) e (c.in_ok-receiver.ensures.exact) (in_space c.args.tables.now.contents c.args.caller c.args.receiver c.args.vpn c.args.parent c.in_ok-space.field-0.now c.in_ok-space.ensures.found e (first_passes five (six) e (c.in_ok-declared.ensures.exact) (for_row c.args.tables.now.contents c.args.caller c.args.receiver c.args.vpn c.args.parent c.in_ok-space.field-0.now c.in_ok-space.ensures.found e c.in_ok-declared.declared.value.now (row_seen c.args.tables.now.contents c.are_sound.ensures.sound.1.whole.one c.in_ok-space.field-0.now.no c.args.vpn c.in_ok-declared.declared.value.now c.in_ok-declared.ensures.its) (first_fails seven (option_or eight (option_or nine (option_or ten (eleven)))) x (c.in_err-check_owner.ensures ∙ owner_tested_of c.args.tables.now.contents c.args.caller c.in_ok-given.given.now c.in_ok-given.ensures.found (name.Mapping c.in_ok-space.field-0.now.no c.args.vpn) (item.Mapping c.in_ok-declared.declared.value.now) c.in_ok-declared.ensures.its)))))))

pub returns-in_err-check_parent-clause-exact : goal.returns-in_err-check_parent-clause-exact
returns-in_err-check_parent-clause-exact c =
    let one : Option Refused = not_a kind.Kernel c.args.tables.now.contents c.args.caller in
    let two : Option Refused = not_a kind.Space c.args.tables.now.contents c.args.parent in
    let three : Option Refused = not_a_receiver c.args.tables.now.contents c.args.receiver in
    let four : Option Refused = option_and_then (refusal_in_space c.args.tables.now.contents c.args.caller c.args.receiver c.args.vpn) (space_as c.args.tables.now.contents c.args.parent) in
    let five : Option Refused = not_declared c.args.tables.now.contents (name.Mapping c.in_ok-space.field-0.now.no c.args.vpn) in
    let six : Option Refused = option_and_then (refusal_of_row c.args.tables.now.contents c.args.caller c.args.receiver (name.Mapping c.in_ok-space.field-0.now.no c.args.vpn)) (row_of (seen c.args.tables.now.contents).rows c.in_ok-space.field-0.now.no c.args.vpn.0) in
    let seven : Option Refused = not_owned c.args.tables.now.contents c.args.caller (name.Mapping c.in_ok-space.field-0.now.no c.args.vpn) in
    let eight : Option Refused = wrong_receiver c.args.tables.now.contents c.args.receiver c.in_ok-declared.declared.value.now in
    let nine : Option Refused = already_loaded c.args.tables.now.contents (name.Mapping c.in_ok-space.field-0.now.no c.args.vpn) in
    let ten : Option Refused = beyond_rights c.args.tables.now.contents c.in_ok-declared.declared.value.now in
    let eleven : Option Refused = receivers_absent c.args.tables.now.contents c.in_ok-declared.declared.value.now in
    let p = err_from_is_err_and c.from_residual-in_err-check_parent.result c.from_residual-in_err-check_parent.ensures.1 in
    let x : Refused = c.in_err-check_parent.field-0.0 in
    let e : Option Refused = Some x in
    err_shown _ _ p ∙ first_passes one (option_or two (option_or three (four))) e (c.in_ok-given.ensures.exact) (first_passes two (option_or three (four)) e (c.in_ok-space.ensures.exact) (first_passes three (four) e (c.in_ok-receiver.ensures.exact) (in_space c.args.tables.now.contents c.args.caller c.args.receiver c.args.vpn c.args.parent c.in_ok-space.field-0.now c.in_ok-space.ensures.found e (first_passes five (six) e (c.in_ok-declared.ensures.exact) (for_row c.args.tables.now.contents c.args.caller c.args.receiver c.args.vpn c.args.parent c.in_ok-space.field-0.now c.in_ok-space.ensures.found e c.in_ok-declared.declared.value.now (row_seen c.args.tables.now.contents c.are_sound.ensures.sound.1.whole.one c.in_ok-space.field-0.now.no c.args.vpn c.in_ok-declared.declared.value.now c.in_ok-declared.ensures.its) (first_passes seven (option_or eight (option_or nine (option_or ten (eleven)))) e (c.in_ok-check_owner.ensures ∙ owner_tested_of c.args.tables.now.contents c.args.caller c.in_ok-given.given.now c.in_ok-given.ensures.found (name.Mapping c.in_ok-space.field-0.now.no c.args.vpn) (item.Mapping c.in_ok-declared.declared.value.now) c.in_ok-declared.ensures.its) (first_fails eight (option_or nine (option_or ten (eleven))) x (c.in_err-check_parent.ensures ∙ receiver_tested c.args.tables.now.contents c.args.receiver c.in_ok-declared.declared.value.now c.in_ok-receiver.receiver c.receiver_of.result c.in_ok-receiver.ensures.named c.receiver_of.ensures))))))))

pub returns-in_err-check_absent-clause-exact : goal.returns-in_err-check_absent-clause-exact
returns-in_err-check_absent-clause-exact c =
    let one : Option Refused = not_a kind.Kernel c.args.tables.now.contents c.args.caller in
    let two : Option Refused = not_a kind.Space c.args.tables.now.contents c.args.parent in
    let three : Option Refused = not_a_receiver c.args.tables.now.contents c.args.receiver in
    let four : Option Refused = option_and_then (refusal_in_space c.args.tables.now.contents c.args.caller c.args.receiver c.args.vpn) (space_as c.args.tables.now.contents c.args.parent) in
    let five : Option Refused = not_declared c.args.tables.now.contents (name.Mapping c.in_ok-space.field-0.now.no c.args.vpn) in
    let six : Option Refused = option_and_then (refusal_of_row c.args.tables.now.contents c.args.caller c.args.receiver (name.Mapping c.in_ok-space.field-0.now.no c.args.vpn)) (row_of (seen c.args.tables.now.contents).rows c.in_ok-space.field-0.now.no c.args.vpn.0) in
    let seven : Option Refused = not_owned c.args.tables.now.contents c.args.caller (name.Mapping c.in_ok-space.field-0.now.no c.args.vpn) in
    let eight : Option Refused = wrong_receiver c.args.tables.now.contents c.args.receiver c.in_ok-declared.declared.value.now in
    let nine : Option Refused = already_loaded c.args.tables.now.contents (name.Mapping c.in_ok-space.field-0.now.no c.args.vpn) in
    let ten : Option Refused = beyond_rights c.args.tables.now.contents c.in_ok-declared.declared.value.now in
    let eleven : Option Refused = receivers_absent c.args.tables.now.contents c.in_ok-declared.declared.value.now in
    let p = err_from_is_err_and c.from_residual-in_err-check_absent.result c.from_residual-in_err-check_absent.ensures.1 in
    let x : Refused = c.in_err-check_absent.field-0.0 in
    let e : Option Refused = Some x in
    err_shown _ _ p ∙ first_passes one (option_or two (option_or three (four))) e (c.in_ok-given.ensures.exact) (first_passes two (option_or three (four)) e (c.in_ok-space.ensures.exact) (first_passes three (four) e (c.in_ok-receiver.ensures.exact) (in_space c.args.tables.now.contents c.args.caller c.args.receiver c.args.vpn c.args.parent c.in_ok-space.field-0.now c.in_ok-space.ensures.found e (first_passes five (six) e (c.in_ok-declared.ensures.exact) (for_row c.args.tables.now.contents c.args.caller c.args.receiver c.args.vpn c.args.parent c.in_ok-space.field-0.now c.in_ok-space.ensures.found e c.in_ok-declared.declared.value.now (row_seen c.args.tables.now.contents c.are_sound.ensures.sound.1.whole.one c.in_ok-space.field-0.now.no c.args.vpn c.in_ok-declared.declared.value.now c.in_ok-declared.ensures.its) (first_passes seven (option_or eight (option_or nine (option_or ten (eleven)))) e (c.in_ok-check_owner.ensures ∙ owner_tested_of c.args.tables.now.contents c.args.caller c.in_ok-given.given.now c.in_ok-given.ensures.found (name.Mapping c.in_ok-space.field-0.now.no c.args.vpn) (item.Mapping c.in_ok-declared.declared.value.now) c.in_ok-declared.ensures.its) (first_passes eight (option_or nine (option_or ten (eleven))) e (c.in_ok-check_parent.ensures ∙ receiver_tested c.args.tables.now.contents c.args.receiver c.in_ok-declared.declared.value.now c.in_ok-receiver.receiver c.receiver_of.result c.in_ok-receiver.ensures.named c.receiver_of.ensures) (first_fails nine (option_or ten (eleven)) x (c.in_err-check_absent.ensures ∙ absent_tested c.args.tables.now.contents c.are_sound.ensures.sound.1.whole.one (name.Mapping c.in_ok-space.field-0.now.no c.args.vpn) c.in_ok-declared.declared.ident c.in_ok-declared.ensures.resident c.in_ok-declared.ensures.absent)))))))))

pub returns-in_err-check_rights-clause-exact : goal.returns-in_err-check_rights-clause-exact
returns-in_err-check_rights-clause-exact c =
    let one : Option Refused = not_a kind.Kernel c.args.tables.now.contents c.args.caller in
    let two : Option Refused = not_a kind.Space c.args.tables.now.contents c.args.parent in
    let three : Option Refused = not_a_receiver c.args.tables.now.contents c.args.receiver in
    let four : Option Refused = option_and_then (refusal_in_space c.args.tables.now.contents c.args.caller c.args.receiver c.args.vpn) (space_as c.args.tables.now.contents c.args.parent) in
    let five : Option Refused = not_declared c.args.tables.now.contents (name.Mapping c.in_ok-space.field-0.now.no c.args.vpn) in
    let six : Option Refused = option_and_then (refusal_of_row c.args.tables.now.contents c.args.caller c.args.receiver (name.Mapping c.in_ok-space.field-0.now.no c.args.vpn)) (row_of (seen c.args.tables.now.contents).rows c.in_ok-space.field-0.now.no c.args.vpn.0) in
    let seven : Option Refused = not_owned c.args.tables.now.contents c.args.caller (name.Mapping c.in_ok-space.field-0.now.no c.args.vpn) in
    let eight : Option Refused = wrong_receiver c.args.tables.now.contents c.args.receiver c.in_ok-declared.declared.value.now in
    let nine : Option Refused = already_loaded c.args.tables.now.contents (name.Mapping c.in_ok-space.field-0.now.no c.args.vpn) in
    let ten : Option Refused = beyond_rights c.args.tables.now.contents c.in_ok-declared.declared.value.now in
    let eleven : Option Refused = receivers_absent c.args.tables.now.contents c.in_ok-declared.declared.value.now in
    let p = err_from_is_err_and c.from_residual-in_err-check_rights.result c.from_residual-in_err-check_rights.ensures.1 in
    let x : Refused = c.in_err-check_rights.field-0.0 in
    let e : Option Refused = Some x in
    err_shown _ _ p ∙ first_passes one (option_or two (option_or three (four))) e (c.in_ok-given.ensures.exact) (first_passes two (option_or three (four)) e (c.in_ok-space.ensures.exact) (first_passes three (four) e (c.in_ok-receiver.ensures.exact) (in_space c.args.tables.now.contents c.args.caller c.args.receiver c.args.vpn c.args.parent c.in_ok-space.field-0.now c.in_ok-space.ensures.found e (first_passes five (six) e (c.in_ok-declared.ensures.exact) (for_row c.args.tables.now.contents c.args.caller c.args.receiver c.args.vpn c.args.parent c.in_ok-space.field-0.now c.in_ok-space.ensures.found e c.in_ok-declared.declared.value.now (row_seen c.args.tables.now.contents c.are_sound.ensures.sound.1.whole.one c.in_ok-space.field-0.now.no c.args.vpn c.in_ok-declared.declared.value.now c.in_ok-declared.ensures.its) (first_passes seven (option_or eight (option_or nine (option_or ten (eleven)))) e (c.in_ok-check_owner.ensures ∙ owner_tested_of c.args.tables.now.contents c.args.caller c.in_ok-given.given.now c.in_ok-given.ensures.found (name.Mapping c.in_ok-space.field-0.now.no c.args.vpn) (item.Mapping c.in_ok-declared.declared.value.now) c.in_ok-declared.ensures.its) (first_passes eight (option_or nine (option_or ten (eleven))) e (c.in_ok-check_parent.ensures ∙ receiver_tested c.args.tables.now.contents c.args.receiver c.in_ok-declared.declared.value.now c.in_ok-receiver.receiver c.receiver_of.result c.in_ok-receiver.ensures.named c.receiver_of.ensures) (first_passes nine (option_or ten (eleven)) e (c.in_ok-check_absent.ensures ∙ absent_tested c.args.tables.now.contents c.are_sound.ensures.sound.1.whole.one (name.Mapping c.in_ok-space.field-0.now.no c.args.vpn) c.in_ok-declared.declared.ident c.in_ok-declared.ensures.resident c.in_ok-declared.ensures.absent) (first_fails ten (eleven) x (c.in_err-check_rights.ensures ∙ row_rights_tested c.args.tables.now.contents c.are_sound.ensures.sound.1.whole.one c.args.caller c.in_ok-given.given.now c.in_ok-given.ensures.found c.args.parent c.in_ok-space.field-0.now c.in_ok-space.ensures.found c.args.vpn c.in_ok-declared.declared.value.now c.in_ok-declared.ensures.its c.in_ok-check_owner.ensures))))))))))

pub returns-in_err-check_receivers-clause-exact : goal.returns-in_err-check_receivers-clause-exact
returns-in_err-check_receivers-clause-exact c =
    let one : Option Refused = not_a kind.Kernel c.args.tables.now.contents c.args.caller in
    let two : Option Refused = not_a kind.Space c.args.tables.now.contents c.args.parent in
    let three : Option Refused = not_a_receiver c.args.tables.now.contents c.args.receiver in
    let four : Option Refused = option_and_then (refusal_in_space c.args.tables.now.contents c.args.caller c.args.receiver c.args.vpn) (space_as c.args.tables.now.contents c.args.parent) in
    let five : Option Refused = not_declared c.args.tables.now.contents (name.Mapping c.in_ok-space.field-0.now.no c.args.vpn) in
    let six : Option Refused = option_and_then (refusal_of_row c.args.tables.now.contents c.args.caller c.args.receiver (name.Mapping c.in_ok-space.field-0.now.no c.args.vpn)) (row_of (seen c.args.tables.now.contents).rows c.in_ok-space.field-0.now.no c.args.vpn.0) in
    let seven : Option Refused = not_owned c.args.tables.now.contents c.args.caller (name.Mapping c.in_ok-space.field-0.now.no c.args.vpn) in
    let eight : Option Refused = wrong_receiver c.args.tables.now.contents c.args.receiver c.in_ok-declared.declared.value.now in
    let nine : Option Refused = already_loaded c.args.tables.now.contents (name.Mapping c.in_ok-space.field-0.now.no c.args.vpn) in
    let ten : Option Refused = beyond_rights c.args.tables.now.contents c.in_ok-declared.declared.value.now in
    let eleven : Option Refused = receivers_absent c.args.tables.now.contents c.in_ok-declared.declared.value.now in
    let p = err_from_is_err_and c.from_residual-in_err-check_receivers.result c.from_residual-in_err-check_receivers.ensures.1 in
    let x : Refused = c.in_err-check_receivers.field-0.0 in
    let e : Option Refused = Some x in
    err_shown _ _ p ∙ first_passes one (option_or two (option_or three (four))) e (c.in_ok-given.ensures.exact) (first_passes two (option_or three (four)) e (c.in_ok-space.ensures.exact) (first_passes three (four) e (c.in_ok-receiver.ensures.exact) (in_space c.args.tables.now.contents c.args.caller c.args.receiver c.args.vpn c.args.parent c.in_ok-space.field-0.now c.in_ok-space.ensures.found e (first_passes five (six) e (c.in_ok-declared.ensures.exact) (for_row c.args.tables.now.contents c.args.caller c.args.receiver c.args.vpn c.args.parent c.in_ok-space.field-0.now c.in_ok-space.ensures.found e c.in_ok-declared.declared.value.now (row_seen c.args.tables.now.contents c.are_sound.ensures.sound.1.whole.one c.in_ok-space.field-0.now.no c.args.vpn c.in_ok-declared.declared.value.now c.in_ok-declared.ensures.its) (first_passes seven (option_or eight (option_or nine (option_or ten (eleven)))) e (c.in_ok-check_owner.ensures ∙ owner_tested_of c.args.tables.now.contents c.args.caller c.in_ok-given.given.now c.in_ok-given.ensures.found (name.Mapping c.in_ok-space.field-0.now.no c.args.vpn) (item.Mapping c.in_ok-declared.declared.value.now) c.in_ok-declared.ensures.its) (first_passes eight (option_or nine (option_or ten (eleven))) e (c.in_ok-check_parent.ensures ∙ receiver_tested c.args.tables.now.contents c.args.receiver c.in_ok-declared.declared.value.now c.in_ok-receiver.receiver c.receiver_of.result c.in_ok-receiver.ensures.named c.receiver_of.ensures) (first_passes nine (option_or ten (eleven)) e (c.in_ok-check_absent.ensures ∙ absent_tested c.args.tables.now.contents c.are_sound.ensures.sound.1.whole.one (name.Mapping c.in_ok-space.field-0.now.no c.args.vpn) c.in_ok-declared.declared.ident c.in_ok-declared.ensures.resident c.in_ok-declared.ensures.absent) (first_passes ten (eleven) e (c.in_ok-check_rights.ensures ∙ row_rights_tested c.args.tables.now.contents c.are_sound.ensures.sound.1.whole.one c.args.caller c.in_ok-given.given.now c.in_ok-given.ensures.found c.args.parent c.in_ok-space.field-0.now c.in_ok-space.ensures.found c.args.vpn c.in_ok-declared.declared.value.now c.in_ok-declared.ensures.its c.in_ok-check_owner.ensures) (c.in_err-check_receivers.ensures))))))))))

pub returns-clause-exact : goal.returns-clause-exact
returns-clause-exact c =
    let one : Option Refused = not_a kind.Kernel c.args.tables.now.contents c.args.caller in
    let two : Option Refused = not_a kind.Space c.args.tables.now.contents c.args.parent in
    let three : Option Refused = not_a_receiver c.args.tables.now.contents c.args.receiver in
    let four : Option Refused = option_and_then (refusal_in_space c.args.tables.now.contents c.args.caller c.args.receiver c.args.vpn) (space_as c.args.tables.now.contents c.args.parent) in
    let five : Option Refused = not_declared c.args.tables.now.contents (name.Mapping c.in_ok-space.field-0.now.no c.args.vpn) in
    let six : Option Refused = option_and_then (refusal_of_row c.args.tables.now.contents c.args.caller c.args.receiver (name.Mapping c.in_ok-space.field-0.now.no c.args.vpn)) (row_of (seen c.args.tables.now.contents).rows c.in_ok-space.field-0.now.no c.args.vpn.0) in
    let seven : Option Refused = not_owned c.args.tables.now.contents c.args.caller (name.Mapping c.in_ok-space.field-0.now.no c.args.vpn) in
    let eight : Option Refused = wrong_receiver c.args.tables.now.contents c.args.receiver c.in_ok-declared.declared.value.now in
    let nine : Option Refused = already_loaded c.args.tables.now.contents (name.Mapping c.in_ok-space.field-0.now.no c.args.vpn) in
    let ten : Option Refused = beyond_rights c.args.tables.now.contents c.in_ok-declared.declared.value.now in
    let eleven : Option Refused = receivers_absent c.args.tables.now.contents c.in_ok-declared.declared.value.now in
    first_passes one (option_or two (option_or three (four))) None (c.in_ok-given.ensures.exact) (first_passes two (option_or three (four)) None (c.in_ok-space.ensures.exact) (first_passes three (four) None (c.in_ok-receiver.ensures.exact) (in_space c.args.tables.now.contents c.args.caller c.args.receiver c.args.vpn c.args.parent c.in_ok-space.field-0.now c.in_ok-space.ensures.found None (first_passes five (six) None (c.in_ok-declared.ensures.exact) (for_row c.args.tables.now.contents c.args.caller c.args.receiver c.args.vpn c.args.parent c.in_ok-space.field-0.now c.in_ok-space.ensures.found None c.in_ok-declared.declared.value.now (row_seen c.args.tables.now.contents c.are_sound.ensures.sound.1.whole.one c.in_ok-space.field-0.now.no c.args.vpn c.in_ok-declared.declared.value.now c.in_ok-declared.ensures.its) (first_passes seven (option_or eight (option_or nine (option_or ten (eleven)))) None (c.in_ok-check_owner.ensures ∙ owner_tested_of c.args.tables.now.contents c.args.caller c.in_ok-given.given.now c.in_ok-given.ensures.found (name.Mapping c.in_ok-space.field-0.now.no c.args.vpn) (item.Mapping c.in_ok-declared.declared.value.now) c.in_ok-declared.ensures.its) (first_passes eight (option_or nine (option_or ten (eleven))) None (c.in_ok-check_parent.ensures ∙ receiver_tested c.args.tables.now.contents c.args.receiver c.in_ok-declared.declared.value.now c.in_ok-receiver.receiver c.receiver_of.result c.in_ok-receiver.ensures.named c.receiver_of.ensures) (first_passes nine (option_or ten (eleven)) None (c.in_ok-check_absent.ensures ∙ absent_tested c.args.tables.now.contents c.are_sound.ensures.sound.1.whole.one (name.Mapping c.in_ok-space.field-0.now.no c.args.vpn) c.in_ok-declared.declared.ident c.in_ok-declared.ensures.resident c.in_ok-declared.ensures.absent) (first_passes ten (eleven) None (c.in_ok-check_rights.ensures ∙ row_rights_tested c.args.tables.now.contents c.are_sound.ensures.sound.1.whole.one c.args.caller c.in_ok-given.given.now c.in_ok-given.ensures.found c.args.parent c.in_ok-space.field-0.now c.in_ok-space.ensures.found c.args.vpn c.in_ok-declared.declared.value.now c.in_ok-declared.ensures.its c.in_ok-check_owner.ensures) (c.in_ok-check_receivers.ensures))))))))))

pub returns-clause-named : goal.returns-clause-named
returns-clause-named c = ap (option_map (λ (space : SpaceNo). name.Mapping space c.args.vpn)) (space_is c.args.tables.now.contents c.args.parent c.in_ok-space.field-0.now c.in_ok-space.ensures.found)

pub returns-clause-may : goal.returns-clause-may
returns-clause-may c = subst (λ (n : Name). IsLoadableBeside c.args.tables.now.contents n c.keep_of_row.result.items) (row_named c.args.tables.now.contents c.are_sound.ensures.sound.1.whole.one c.args.parent c.in_ok-space.field-0.now c.in_ok-space.ensures.found c.args.vpn c.in_ok-declared.declared.value.now (row_seen c.args.tables.now.contents c.are_sound.ensures.sound.1.whole.one c.in_ok-space.field-0.now.no c.args.vpn c.in_ok-declared.declared.value.now c.in_ok-declared.ensures.its)) c.keep_of_row.ensures
