use Rattle.flat_laws.proofs.RowMarks.{fetches_through, accesses_through, atomic_through}
use Rattle.flat_laws.proofs.marks.a_step_goes_through_its_rows.Goals as goal

pub returns : goal.returns
returns c = record {
  fetch = λ s t hit. fetches_through s t hit;
  access = λ s t a d hit is makes. accesses_through s t a d hit is makes;
  atomic = λ s t rd va op operand hit is divides. atomic_through s t rd va op operand hit is divides;
}
