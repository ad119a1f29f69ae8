use Rattle.legal_laws.proofs.Once.{counted, left_once, loaded_before, loaded_once, serial_at}
use Rattle.legal_laws.proofs.places.an_identifier_comes_and_goes_once.Goals as goal

pub returns : goal.returns
returns c = record {
  serial = λ j at ident name legal is. serial_at j legal at ident name is;
  loaded = λ j a b ident one other legal first second. loaded_once j legal a b ident one other first second;
  leaves = λ j a b ident legal first second. left_once j legal a b ident first second;
  behind = λ j at ident legal is. loaded_before j legal at ident is;
  counted = counted;
}
