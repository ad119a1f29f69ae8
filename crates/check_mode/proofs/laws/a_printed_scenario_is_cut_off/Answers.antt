use Rattle.check_mode.proofs.Printed.{journal_behind, scenario_before}
use Rattle.check_mode.proofs.laws.a_printed_scenario_is_cut_off.Goals as goal

pub returns : goal.returns
returns c = record { scenario = scenario_before; journal = journal_behind }
