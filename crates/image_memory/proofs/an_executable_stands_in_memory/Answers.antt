use Rattle.image_memory.proofs.Whole.{stands_anywhere, stands_in_scenario}
use Rattle.image_memory.proofs.an_executable_stands_in_memory.Goals as goal

pub returns : goal.returns
returns c = record { anywhere = stands_anywhere; in_scenario = stands_in_scenario }
