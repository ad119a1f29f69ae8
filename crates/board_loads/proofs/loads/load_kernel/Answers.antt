use Rattle.std.proofs.Common.{ap, ◌∙◌, subst}
use Rattle.std.specs.Prelude.{IfOk}
use Rattle.board_checks.specs.desc_tables.specs.Tables.{Held}
use Rattle.board_checks.specs.declared.loads.Loadable.{Loadable}
use Rattle.board_checks.specs.Keeps.{IsLoadableBeside}
use Rattle.board_checks.specs.Refusals.{refusal_of_load_kernel}
use Rattle.board_checks.proofs.WhyLaws.{load_kernel_tells, told_why}
use Rattle.board_loads.proofs.LoadLaws.{formed_held}
use Rattle.board_loads.proofs.SealLaws.{called_sealed}
use Rattle.board_loads.proofs.loads.load_kernel.Goals as goal

pub check_load_kernel-checked-requires : goal.check_load_kernel-checked-requires
check_load_kernel-checked-requires c = record { formed = formed_held c.args.core.now c.tables.ensures.known c.tables.result.now c.tables.ensures.tables }

pub load-requires-clause-may : goal.load-requires-clause-may
load-requires-clause-may c = subst (λ (h : Held). IfOk c.check_load_kernel-checked.result (λ (found : Loadable). IsLoadableBeside h.contents found.name found.keep.items)) c.tables.ensures.tables c.check_load_kernel-checked.ensures.may

pub load-requires-clause-sealed : goal.load-requires-clause-sealed
load-requires-clause-sealed c =
    called_sealed c.check_load_kernel-checked.result c.args.core.now c.tables.ensures.known c.args.caller _
    (c.check_load_kernel-checked.ensures.exact ∙ ap (λ (h : Held). refusal_of_load_kernel h.contents c.args.caller c.args.kernel) c.tables.ensures.tables)

pub load-requires-clause-tested : goal.load-requires-clause-tested
load-requires-clause-tested c =
    told_why c.check_load_kernel-checked.result _ c.check_load_kernel-checked.ensures.exact
    (load_kernel_tells c.tables.result.now.contents c.args.caller c.args.kernel)
