use Rattle.std.proofs.Common.{Bool, subst, rules, ◌∙◌}
use Rattle.board_turns.specs.Following.{grown_more}
use Rattle.board_turns.specs.Looks.{HasLooked}
use Rattle.board_turns.specs.Paces.{beat_of}
use Rattle.board_turns.proofs.Next.{next_looked}
use Rattle.alone_run.proofs.run.take_turns.Goals as goal

pub turns-init : goal.turns-init
turns-init c =
    let before = c.args.port.now in
    let look = c.look in
    let after = look.new.self in
    let grown = look.ensures.continued.1 in
    let looked = subst (λ (w : Bool). HasLooked w before.board.now after.board.now look.new.next) c.wants_first.ensures look.ensures.told in
    record {
      same = look.ensures.continued.0;
      grown = grown;
      next = next_looked before.board.now after.board.now before.brought after.brought grown c.args.owners.now (beat_of c.new-pace.result) look.new.next c.requires.rest looked;
      so = look.ensures.so;
      ready = look.ensures.ready;
      kept = look.ensures.kept;
    }

pub turns-preserved : goal.turns-preserved
turns-preserved c =
    let first = c.args.port.now in
    let before = c.turns.port in
    let turn = c.turn in
    let after = turn.new.port in
    record {
      same = turn.ensures.continued.0 ∙ c.turns.invariant.same;
      grown = grown_more first.board.now before.board.now after.board.now first.brought before.brought after.brought c.turns.invariant.grown turn.ensures.continued.1;
      next = c.in_ok-turn-in_default.ensures.next c.turns.invariant.next;
      so = c.in_ok-turn-in_default.ensures.so;
      ready = c.in_ok-turn-in_default.ensures.ready;
      kept = turn.ensures.kept;
    }

pub returns-in_err-turn-in_default : goal.returns-in_err-turn-in_default
returns-in_err-turn-in_default c =
    let first = c.args.port.now in
    let before = c.turns.port in
    let turn = c.turn in
    let after = turn.new.port in
    record {
      same_reference = turn.ensures.continued.0 ∙ c.turns.invariant.same;
      grew = (grown_more first.board.now before.board.now after.board.now first.brought before.brought after.brought c.turns.invariant.grown turn.ensures.continued.1).grew;
      over = search rules;
      owners = (turn.ensures.owned c.turns.invariant.next.owned).are;
      kept = turn.ensures.kept;
    }
