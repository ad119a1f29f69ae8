use Rattle.flat_state.specs.declared.events.Event.TheVariants.{Step}
use Rattle.flat_state.specs.Events.{applied}
use Rattle.flat_laws.proofs.StepSame.{step_same, same_parents, same_all_parents, same_owner, same_stands, same_class, same_fit_name, same_fit}
use Rattle.flat_laws.proofs.keeps.a_step_keeps_dependence.Goals as goal

pub returns : goal.returns
returns c = record {
  parents = λ s thread name. same_parents s (applied s (Step thread)) (step_same s thread) name;
  all_parents = λ s thread name. same_all_parents s (applied s (Step thread)) (step_same s thread) name;
  owner = λ s thread name. same_owner s (applied s (Step thread)) (step_same s thread) name;
  stands = λ s thread name. same_stands s (applied s (Step thread)) (step_same s thread) name;
  class = λ s thread name. same_class s (applied s (Step thread)) (step_same s thread) name;
  fit = λ s thread name. same_fit_name s (applied s (Step thread)) (step_same s thread) name;
  rights = λ s thread row. same_fit s (applied s (Step thread)) (step_same s thread) row;
}
