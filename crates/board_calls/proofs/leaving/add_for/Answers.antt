use Rattle.std.proofs.Common.{OnOk, sym, subst}
use Rattle.board_core.specs.flat_events.specs.declared.asked.Asked.{Asked}
use Rattle.board_calls.specs.Leaving.{AddsThose, GoesFor}
use Rattle.board_calls.proofs.leaving.add_for.Goals as goal

pub returns-in-Unmaps : goal.returns-in-Unmaps
returns-in-Unmaps c =
    subst (λ (a : Asked). OnOk c.add_row.result (AddsThose (GoesFor c.args.machine.now a) c.args.idents.now.items c.add_row.new.idents.items)) (sym c.in-Unmaps.is) c.add_row.ensures

pub returns-in-Declares : goal.returns-in-Declares
returns-in-Declares c =
    subst (λ (a : Asked). OnOk c.add_for_decl.result (AddsThose (GoesFor c.args.machine.now a) c.args.idents.now.items c.add_for_decl.new.idents.items)) (sym c.in-Declares.is) c.add_for_decl.ensures
