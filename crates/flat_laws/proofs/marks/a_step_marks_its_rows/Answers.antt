use Rattle.flat_state.specs.Events.{flat}
use Rattle.flat_state.proofs.FormedEvents.{flat_formed}
use Rattle.flat_laws.proofs.RowMarks.{step_marks, fault_marks_nothing}
use Rattle.flat_laws.proofs.marks.a_step_marks_its_rows.Goals as goal

pub returns : goal.returns
returns c = record {
  marks = λ es n t u here steps hit. step_marks (flat es) t (flat_formed es) hit n u here steps;
  faulting = λ s u n t here steps missed. fault_marks_nothing s t n u missed here steps;
}
