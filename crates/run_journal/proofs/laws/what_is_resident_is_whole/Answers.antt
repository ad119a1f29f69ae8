use Rattle.run_journal.proofs.LegalGrowth.{whole_told}
use Rattle.run_journal.proofs.laws.what_is_resident_is_whole.Goals as goal

pub returns : goal.returns
returns c = record {
  issued = λ j r legal there. (whole_told j legal).numbered.issued r there;
  kind = λ j r legal there. (whole_told j legal).numbered.kinds r there;
  idents = λ j a b legal a_there b_there same. (whole_told j legal).numbered.one a b a_there b_there same;
  names = λ j a b legal a_there b_there same. (whole_told j legal).apart.names a b a_there b_there same;
  slots = λ j a b legal a_there b_there kind slot. (whole_told j legal).apart.slots a b a_there b_there kind slot;
  good = λ j r legal there. (whole_told j legal).good r there;
}
