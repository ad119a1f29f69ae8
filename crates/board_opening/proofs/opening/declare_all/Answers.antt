use Rattle.std.proofs.Common.{◌∙◌}
use Rattle.std.proofs.lemmas.List.{drop_all}
use Rattle.cache_board.specs.cached_machine.specs.Cached.{state_of}
use Rattle.board_opening.proofs.Declaring.{all_done, cut, first_fits, on_declared, one_more, only_memory, rest_fits}
use Rattle.board_opening.proofs.opening.declare_all.Goals as goal

pub answered-requires : goal.answered-requires
answered-requires c =
    let here = cut c.args.decls.now c.loop-decl.decl-index _ c.loop-decl-test.true in
    only_memory c.declare-declared.result _ c.loop-decl.board c.declare-declared.new.self c.loop-decl.invariant.unsealed
    (first_fits (state_of c.loop-decl.board.machine) _ _ _ here c.loop-decl.invariant.fit) c.declare-declared.ensures.refused

pub loop-decl-preserved : goal.loop-decl-preserved
loop-decl-preserved c =
    let here = cut c.args.decls.now c.loop-decl.decl-index _ c.loop-decl-test.true in
    let done = on_declared c.declare-declared.result _ c.loop-decl.board c.declare-declared.new.self _ c.in_ok-answered.ensures c.declare-declared.ensures.declared in
    record {
      unsealed = done.places.sealed ∙ c.loop-decl.invariant.unsealed;
      fit = rest_fits c.loop-decl.board c.declare-declared.new.self _ _ _ here c.loop-decl.invariant.fit done;
      so_far = λ end more. one_more c.args.board.now c.loop-decl.board c.declare-declared.new.self end c.args.decls.now _ _ _ here done c.loop-decl.invariant.so_far more;
    }

pub returns : goal.returns
returns c = all_done c.args.board.now c.loop-decl.board c.args.decls.now _ (drop_all c.loop-decl.decl-index c.args.decls.now c.loop-decl-test.false) c.loop-decl.invariant.so_far
