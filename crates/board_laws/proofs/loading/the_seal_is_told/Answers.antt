use Rattle.board_laws.proofs.Loads.{is_first, none_gone, sealed_told}
use Rattle.board_laws.proofs.loading.the_seal_is_told.Goals as goal

pub returns : goal.returns
returns c = record {
  first = λ m memory caps old new pairs j keep at gone ident as_told whole is. (none_gone m memory caps old new pairs j keep at gone ident as_told whole is, is_first m memory caps old new pairs j keep at gone ident as_told whole is);
  sealed = λ m memory caps old mid new before after j keep at gone as_told whole whole_mid machine is may lock. sealed_told m memory caps old mid new before after j keep at gone as_told whole whole_mid machine is may lock;
}
