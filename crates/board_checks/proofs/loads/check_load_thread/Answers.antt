use Rattle.std.proofs.Common.{◌≡◌, Option, Some, None, sym, ◌∙◌, ap}
use Rattle.std.specs.Option.{option_and_then, option_or}
use Rattle.std.proofs.lemmas.Option.{same_Some}
use Rattle.std.proofs.lemmas.Result.{err_from_is_err_and}
use Rattle.cache_ident.specs.declared.idents.Kind.TheVariants as kind
use Rattle.cache_ident.specs.declared.names.Name.TheVariants as name
use Rattle.cache_ident.specs.declared.names.SpaceNo.{SpaceNo}
use Rattle.board_ops.specs.flat_state.specs.Dependence.{owner}
use Rattle.desc_tables.specs.desc_stores.specs.declared.items.Item.TheVariants as item
use Rattle.desc_tables.specs.desc_groups.proofs.OwnerLemmas.{owner_as_item}
use Rattle.desc_tables.specs.desc_parents.specs.Seen.{seen}
use Rattle.board_ops.specs.declared.refusals.Refused.{Refused}
use Rattle.board_checks.specs.Identifiers.{not_a}
use Rattle.board_checks.specs.Refusals.{already_loaded, not_declared, not_owned, not_owner, wrong_space}
use Rattle.board_checks.proofs.FirstLemmas.{err_shown, first_fails, first_passes}
use Rattle.board_checks.proofs.GivenLemmas.{named_content, owner_tested_of, thread_beside, thread_seen}
use Rattle.board_checks.proofs.LoadLemmas.{absent_tested, one_if, space_tested, thread_loadable}
use Rattle.board_checks.proofs.loads.check_load_thread.Goals as goal

pub check_owner-requires : goal.check_owner-requires
check_owner-requires c = record { there = named_content c.args.tables.now.contents (name.Thread c.args.thread) (item.Thread c.in_ok-declared.declared.value.now) c.in_ok-declared.ensures.its }

pub returns-in_err-check_owner-clause-exact : goal.returns-in_err-check_owner-clause-exact
returns-in_err-check_owner-clause-exact c =
    let one : Option Refused = not_a kind.Kernel c.args.tables.now.contents c.args.caller in
    let two : Option Refused = not_a kind.Space c.args.tables.now.contents c.args.parent in
    let three : Option Refused = not_declared c.args.tables.now.contents (name.Thread c.args.thread) in
    let four : Option Refused = not_owned c.args.tables.now.contents c.args.caller (name.Thread c.args.thread) in
    let five : Option Refused = wrong_space c.args.tables.now.contents c.args.parent c.args.thread in
    let six : Option Refused = already_loaded c.args.tables.now.contents (name.Thread c.args.thread) in
    let p = err_from_is_err_and c.from_residual-in_err-check_owner.result c.from_residual-in_err-check_owner.ensures.1 in
    let x : Refused = c.in_err-check_owner.field-0.0 in
    let e : Option Refused = Some x in
    err_shown _ _ p ∙ first_passes one (option_or two (option_or three (option_or four (option_or five (six))))) e (c.in_ok-given.ensures.exact) (first_passes two (option_or three (option_or four (option_or five (six)))) e (c.in_ok-space.ensures.exact) (first_passes three (option_or four (option_or five (six))) e (c.in_ok-declared.ensures.exact) (first_fails four (option_or five (six)) x (c.in_err-check_owner.ensures ∙ owner_tested_of c.args.tables.now.contents c.args.caller c.in_ok-given.field-0.now c.in_ok-given.ensures.found (name.Thread c.args.thread) (item.Thread c.in_ok-declared.declared.value.now) c.in_ok-declared.ensures.its))))

pub returns-in_err-check_parent-clause-exact : goal.returns-in_err-check_parent-clause-exact
returns-in_err-check_parent-clause-exact c =
    let one : Option Refused = not_a kind.Kernel c.args.tables.now.contents c.args.caller in
    let two : Option Refused = not_a kind.Space c.args.tables.now.contents c.args.parent in
    let three : Option Refused = not_declared c.args.tables.now.contents (name.Thread c.args.thread) in
    let four : Option Refused = not_owned c.args.tables.now.contents c.args.caller (name.Thread c.args.thread) in
    let five : Option Refused = wrong_space c.args.tables.now.contents c.args.parent c.args.thread in
    let six : Option Refused = already_loaded c.args.tables.now.contents (name.Thread c.args.thread) in
    let p = err_from_is_err_and c.from_residual-in_err-check_parent.result c.from_residual-in_err-check_parent.ensures.1 in
    let x : Refused = c.in_err-check_parent.field-0.0 in
    let e : Option Refused = Some x in
    err_shown _ _ p ∙ first_passes one (option_or two (option_or three (option_or four (option_or five (six))))) e (c.in_ok-given.ensures.exact) (first_passes two (option_or three (option_or four (option_or five (six)))) e (c.in_ok-space.ensures.exact) (first_passes three (option_or four (option_or five (six))) e (c.in_ok-declared.ensures.exact) (first_passes four (option_or five (six)) e (c.in_ok-check_owner.ensures ∙ owner_tested_of c.args.tables.now.contents c.args.caller c.in_ok-given.field-0.now c.in_ok-given.ensures.found (name.Thread c.args.thread) (item.Thread c.in_ok-declared.declared.value.now) c.in_ok-declared.ensures.its) (first_fails five (six) x (c.in_err-check_parent.ensures ∙ space_tested c.args.tables.now.contents c.are_sound.ensures.sound.1.whole.one c.args.parent c.in_ok-space.field-0.now c.in_ok-space.ensures.found c.args.thread c.in_ok-declared.declared.value.now.space (thread_seen c.args.tables.now.contents c.are_sound.ensures.sound.1.whole.one c.args.thread c.in_ok-declared.declared.value.now c.in_ok-declared.ensures.its))))))

pub returns-in_err-check_absent-clause-exact : goal.returns-in_err-check_absent-clause-exact
returns-in_err-check_absent-clause-exact c =
    let one : Option Refused = not_a kind.Kernel c.args.tables.now.contents c.args.caller in
    let two : Option Refused = not_a kind.Space c.args.tables.now.contents c.args.parent in
    let three : Option Refused = not_declared c.args.tables.now.contents (name.Thread c.args.thread) in
    let four : Option Refused = not_owned c.args.tables.now.contents c.args.caller (name.Thread c.args.thread) in
    let five : Option Refused = wrong_space c.args.tables.now.contents c.args.parent c.args.thread in
    let six : Option Refused = already_loaded c.args.tables.now.contents (name.Thread c.args.thread) in
    let p = err_from_is_err_and c.from_residual-in_err-check_absent.result c.from_residual-in_err-check_absent.ensures.1 in
    let x : Refused = c.in_err-check_absent.field-0.0 in
    let e : Option Refused = Some x in
    err_shown _ _ p ∙ first_passes one (option_or two (option_or three (option_or four (option_or five (six))))) e (c.in_ok-given.ensures.exact) (first_passes two (option_or three (option_or four (option_or five (six)))) e (c.in_ok-space.ensures.exact) (first_passes three (option_or four (option_or five (six))) e (c.in_ok-declared.ensures.exact) (first_passes four (option_or five (six)) e (c.in_ok-check_owner.ensures ∙ owner_tested_of c.args.tables.now.contents c.args.caller c.in_ok-given.field-0.now c.in_ok-given.ensures.found (name.Thread c.args.thread) (item.Thread c.in_ok-declared.declared.value.now) c.in_ok-declared.ensures.its) (first_passes five (six) e (c.in_ok-check_parent.ensures ∙ space_tested c.args.tables.now.contents c.are_sound.ensures.sound.1.whole.one c.args.parent c.in_ok-space.field-0.now c.in_ok-space.ensures.found c.args.thread c.in_ok-declared.declared.value.now.space (thread_seen c.args.tables.now.contents c.are_sound.ensures.sound.1.whole.one c.args.thread c.in_ok-declared.declared.value.now c.in_ok-declared.ensures.its)) (c.in_err-check_absent.ensures ∙ absent_tested c.args.tables.now.contents c.are_sound.ensures.sound.1.whole.one (name.Thread c.args.thread) c.in_ok-declared.declared.ident c.in_ok-declared.ensures.resident c.in_ok-declared.ensures.absent)))))

pub returns-clause-exact : goal.returns-clause-exact
returns-clause-exact c =
    let one : Option Refused = not_a kind.Kernel c.args.tables.now.contents c.args.caller in
    let two : Option Refused = not_a kind.Space c.args.tables.now.contents c.args.parent in
    let three : Option Refused = not_declared c.args.tables.now.contents (name.Thread c.args.thread) in
    let four : Option Refused = not_owned c.args.tables.now.contents c.args.caller (name.Thread c.args.thread) in
    let five : Option Refused = wrong_space c.args.tables.now.contents c.args.parent c.args.thread in
    let six : Option Refused = already_loaded c.args.tables.now.contents (name.Thread c.args.thread) in
    first_passes one (option_or two (option_or three (option_or four (option_or five (six))))) None (c.in_ok-given.ensures.exact) (first_passes two (option_or three (option_or four (option_or five (six)))) None (c.in_ok-space.ensures.exact) (first_passes three (option_or four (option_or five (six))) None (c.in_ok-declared.ensures.exact) (first_passes four (option_or five (six)) None (c.in_ok-check_owner.ensures ∙ owner_tested_of c.args.tables.now.contents c.args.caller c.in_ok-given.field-0.now c.in_ok-given.ensures.found (name.Thread c.args.thread) (item.Thread c.in_ok-declared.declared.value.now) c.in_ok-declared.ensures.its) (first_passes five (six) None (c.in_ok-check_parent.ensures ∙ space_tested c.args.tables.now.contents c.are_sound.ensures.sound.1.whole.one c.args.parent c.in_ok-space.field-0.now c.in_ok-space.ensures.found c.args.thread c.in_ok-declared.declared.value.now.space (thread_seen c.args.tables.now.contents c.are_sound.ensures.sound.1.whole.one c.args.thread c.in_ok-declared.declared.value.now c.in_ok-declared.ensures.its)) (c.in_ok-check_absent.ensures ∙ absent_tested c.args.tables.now.contents c.are_sound.ensures.sound.1.whole.one (name.Thread c.args.thread) c.in_ok-declared.declared.ident c.in_ok-declared.ensures.resident c.in_ok-declared.ensures.absent)))))

pub returns-clause-may : goal.returns-clause-may
returns-clause-may c =
    let given = c.in_ok-given.field-0.now in
    let space = c.in_ok-space.field-0.now in
    let declared = c.in_ok-declared.declared.value.now.space in
    let its = (thread_seen c.args.tables.now.contents c.are_sound.ensures.sound.1.whole.one c.args.thread c.in_ok-declared.declared.value.now c.in_ok-declared.ensures.its) in
    let absent : None ≡ already_loaded c.args.tables.now.contents (name.Thread c.args.thread) = c.in_ok-check_absent.ensures ∙ absent_tested c.args.tables.now.contents c.are_sound.ensures.sound.1.whole.one (name.Thread c.args.thread) c.in_ok-declared.declared.ident c.in_ok-declared.ensures.resident c.in_ok-declared.ensures.absent in
    let same : name.Space space.no ≡ name.Space declared = same_Some (name.Space space.no) (name.Space declared) (one_if (Some (name.Space space.no)) (Some (name.Space declared)) c.in_ok-check_parent.ensures) in
    let at : declared ≡ space.no = cc in
    let owned : None ≡ option_and_then (not_owner given.no) (owner (seen c.args.tables.now.contents) (name.Space space.no)) = c.in_ok-check_owner.ensures ∙ ap (option_and_then (not_owner given.no)) (sym (owner_as_item c.args.tables.now.contents c.are_sound.ensures.sound.1.whole.one (item.Thread c.in_ok-declared.declared.value.now) (named_content c.args.tables.now.contents (name.Thread c.args.thread) (item.Thread c.in_ok-declared.declared.value.now) c.in_ok-declared.ensures.its))) ∙ ap (λ (s : SpaceNo). option_and_then (not_owner given.no) (owner (seen c.args.tables.now.contents) (name.Space s))) at in
    let may = thread_loadable c.args.tables.now.contents c.are_sound.ensures.sound.1.whole.one c.args.parent space c.in_ok-space.ensures.found c.args.thread declared its c.in_ok-declared.ensures.exact c.in_ok-check_parent.ensures absent in
    rw c.keep_space_and_kernel.ensures (thread_beside c.args.tables.now.contents c.are_sound.ensures.sound.1.whole.one c.args.caller given c.in_ok-given.ensures.found c.args.parent space c.in_ok-space.ensures.found owned c.args.thread declared its at c.requires.formed may)
