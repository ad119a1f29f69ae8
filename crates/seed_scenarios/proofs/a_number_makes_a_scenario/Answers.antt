use Rattle.seed_scenarios.proofs.Seeded.{is_scenario}
use Rattle.seed_scenarios.proofs.a_number_makes_a_scenario.Goals as goal

pub returns : goal.returns
returns c = is_scenario
