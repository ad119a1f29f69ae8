use Rattle.answer_laws.proofs.CallAnswers.{fault_answers, fault_right}
use Rattle.answer_laws.proofs.calls.a_fault_is_confirmed.Goals as goal

pub returns : goal.returns
returns c = record {
  answer = λ b one caller ident given kernel thread t r q here its. (fault_answers b one caller ident given kernel thread t r q here its).0;
  right = fault_right;
}
