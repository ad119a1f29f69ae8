use Rattle.std.proofs.Common.{◌≡◌, Some, ap, ◌∙◌, subst}
use Rattle.std.specs.Prelude.{IfOk}
use Rattle.std.specs.Option.{option_map}
use Rattle.cache_ident.specs.declared.names.Name.TheVariants.{Mapping}
use Rattle.cache_ident.specs.declared.names.SpaceNo.{SpaceNo}
use Rattle.board_checks.specs.desc_tables.specs.Tables.{Held}
use Rattle.board_checks.specs.Identifiers.{space_as}
use Rattle.board_checks.specs.declared.loads.Loadable.{Loadable}
use Rattle.board_checks.specs.Keeps.{IsLoadableBeside}
use Rattle.board_checks.specs.Refusals.{refusal_of_load_mapping}
use Rattle.board_checks.proofs.WhyLaws.{load_mapping_tells, told_why}
use Rattle.board_core.specs.Core.{contents_of}
use Rattle.board_loads.proofs.LoadLaws.{formed_held, row_loaded}
use Rattle.board_loads.proofs.SealLaws.{called_sealed}
use Rattle.board_loads.proofs.loads.load_mapping.Goals as goal

pub check_load_mapping-checked-requires : goal.check_load_mapping-checked-requires
check_load_mapping-checked-requires c = record { formed = formed_held c.args.core.now c.tables.ensures.known c.tables.result.now c.tables.ensures.tables }

pub load-requires-clause-may : goal.load-requires-clause-may
load-requires-clause-may c = subst (λ (h : Held). IfOk c.check_load_mapping-checked.result (λ (found : Loadable). IsLoadableBeside h.contents found.name found.keep.items)) c.tables.ensures.tables c.check_load_mapping-checked.ensures.may

pub load-requires-clause-sealed : goal.load-requires-clause-sealed
load-requires-clause-sealed c =
    called_sealed c.check_load_mapping-checked.result c.args.core.now c.tables.ensures.known c.args.caller _
    (c.check_load_mapping-checked.ensures.exact ∙ ap (λ (h : Held). refusal_of_load_mapping h.contents c.args.caller c.args.parent c.args.vpn c.args.receiver) c.tables.ensures.tables)

pub load-requires-clause-tested : goal.load-requires-clause-tested
load-requires-clause-tested c =
    told_why c.check_load_mapping-checked.result _ c.check_load_mapping-checked.ensures.exact
    (load_mapping_tells c.tables.result.now.contents c.args.caller c.args.parent c.args.vpn c.args.receiver)

pub returns-clause-loaded : goal.returns-clause-loaded
returns-clause-loaded c =
    let named = subst (λ (h : Held). IfOk c.check_load_mapping-checked.result (λ (found : Loadable). option_map (λ (space : SpaceNo). Mapping space c.args.vpn) (space_as h.contents c.args.parent) ≡ Some found.name)) c.tables.ensures.tables c.check_load_mapping-checked.ensures.named in
    row_loaded (contents_of c.args.core.now) c.args.parent c.args.vpn c.check_load_mapping-checked.result c.load.result c.args.cpu c.args.core.now c.load.new.core named c.load.ensures.done c.load.ensures.loaded
