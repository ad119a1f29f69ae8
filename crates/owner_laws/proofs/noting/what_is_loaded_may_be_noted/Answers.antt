use Rattle.owner_laws.proofs.Naming.{was_given, was_loaded}
use Rattle.owner_laws.proofs.noting.what_is_loaded_may_be_noted.Goals as goal

pub returns : goal.returns
returns c = record {
  resident = λ b ident name sound there. was_loaded b sound ident name there;
  given = was_given;
}
