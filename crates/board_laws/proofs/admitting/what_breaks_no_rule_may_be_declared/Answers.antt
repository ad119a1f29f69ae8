use Rattle.board_laws.proofs.Admitted.{may_declare}
use Rattle.board_laws.proofs.Growing.{formed_told}
use Rattle.board_laws.proofs.Loads.{nothing_resident}
use Rattle.std.proofs.Common.{false}
use Rattle.board_laws.proofs.admitting.what_breaks_no_rule_may_be_declared.Goals as goal

pub returns : goal.returns
returns c = λ m memory caps contents pairs j d item as_told whole machine none is.
    may_declare m memory contents whole.one caps machine (formed_told m memory contents false j as_told) (nothing_resident m memory contents j as_told) d item none is
