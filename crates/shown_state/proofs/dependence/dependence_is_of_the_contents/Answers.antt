use Rattle.shown_state.proofs.DependenceLemmas.{same_class, same_fit, same_owner, same_parents}
use Rattle.shown_state.proofs.dependence.dependence_is_of_the_contents.Goals as goal

pub returns : goal.returns
returns c = record {
  parents = λ machine memory c name. same_parents machine memory c name;
  owner = λ machine memory c name. same_owner machine memory c name;
  class = λ machine memory c name. same_class machine memory c name;
  fit = λ machine memory c name. same_fit machine memory c name;
}
