use Rattle.reach_laws.proofs.Keeping.{live_kept, steps_stay}
use Rattle.reach_laws.proofs.stays.a_load_keeps_what_is_reached.Goals as goal

pub returns : goal.returns
returns c = record { live = live_kept; steps = steps_stay }
