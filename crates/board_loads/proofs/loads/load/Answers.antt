use Rattle.std.proofs.Common.{Result, sym, subst}
use Rattle.std.specs.Prelude.{IfOk}
use Rattle.std.proofs.lemmas.Result.{IfOk-at_ok}
use Rattle.board_checks.specs.desc_tables.specs.May.{MayBeLoaded}
use Rattle.board_checks.specs.board_ops.specs.declared.refusals.Refused.{Refused}
use Rattle.board_checks.specs.declared.loads.Loadable.{Loadable}
use Rattle.board_checks.specs.Keeps.{IsLoadableBeside}
use Rattle.board_core.specs.Core.{contents_of}
use Rattle.board_loads.specs.Loads.{IsLoadedAs}
use Rattle.board_loads.proofs.LoadLaws.{loaded_before, may_still}
use Rattle.board_loads.proofs.loads.load.Goals as goal

pub load-requires-clause-may : goal.load-requires-clause-may
load-requires-clause-may c =
    let beside = IfOk-at_ok (λ (found : Loadable). IsLoadableBeside (contents_of c.args.core.now) found.name found.keep.items) c.in_ok-found.was c.requires.may in
    subst (MayBeLoaded (contents_of c.make_room.new.self) c.in_ok-found.found.name) (sym c.as_slice.ensures.value)
    (may_still c.args.core.now c.make_room.new.self c.make_room.ensures.only c.holds.ensures.tables.0 c.holds-2.ensures.tables.0 c.holds.ensures.tables.1 c.holds-2.ensures.tables.1 c.in_ok-found.found.name c.in_ok-found.found.keep.items beside.may)

pub returns-clause-loaded : goal.returns-clause-loaded
returns-clause-loaded c =
    let found = c.in_ok-found.found in
    let beside = IfOk-at_ok (λ (found : Loadable). IsLoadableBeside (contents_of c.args.core.now) found.name found.keep.items) c.in_ok-found.was c.requires.may in
    let kept = subst (IsLoadableBeside (contents_of c.args.core.now) found.name) (sym c.as_slice.ensures.value) beside in
    subst (λ (r : Result Loadable Refused). IfOk r (λ (found : Loadable). IsLoadedAs c.args.cpu found.name c.load.result c.args.core.now c.load.new.self)) (sym c.in_ok-found.was)
    (loaded_before c.args.core.now c.make_room.new.self c.make_room.ensures.only c.holds.ensures.tables.0 c.holds-2.ensures.tables.0 c.holds.ensures.tables.1 c.holds-2.ensures.tables.1
    found.name c.as_slice.result.now c.load.result c.load.new.self c.args.cpu kept
    c.load.ensures.entries c.load.ensures.load c.load.ensures.marks c.load.ensures.unmarked c.load.ensures.sealed c.load.ensures.checkouts c.load.ensures.issues)
