use Rattle.std.proofs.Common.{false}
use Rattle.desc_tables.specs.run_journal.specs.Legal.{first_ident}
use Rattle.board_laws.proofs.Admitted.{first_has_place, first_may_load, first_may_lock}
use Rattle.board_laws.proofs.Growing.{formed_told}
use Rattle.board_laws.proofs.Loads.{none_gone, nothing_resident}
use Rattle.board_laws.proofs.admitting.the_first_kernel_may_come.Goals as goal

pub returns : goal.returns
returns c = record {
  loaded = λ m memory caps contents pairs j at as_told whole machine some. (
    first_may_load m memory caps contents pairs whole (formed_told m memory contents false j as_told) (nothing_resident m memory contents j as_told) some,
    λ full. absurd (first_has_place m memory caps contents pairs whole (formed_told m memory contents false j as_told) (nothing_resident m memory contents j as_told) some machine full),
  );
  locked = λ m memory caps contents mid before after j keep at gone as_told whole whole_mid some is.
      first_may_lock m memory caps contents before whole (formed_told m memory contents false j as_told) (nothing_resident m memory contents j as_told) some mid after keep at gone whole_mid is
      (none_gone m memory caps contents mid before j keep at gone first_ident as_told whole is);
}
