use Rattle.quantum.specs.page_views.specs.Views.{pages_of_views}
use Rattle.ahead_laws.proofs.Missed.{missed_own}
use Rattle.ahead_laws.proofs.a_step_misses_at_pc_or_at_its_address.Goals as goal

pub returns : goal.returns
returns c = λ context views va access missed. missed_own context (pages_of_views views) va access missed
