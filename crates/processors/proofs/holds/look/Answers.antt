use Rattle.alone_run.specs.board_turns.proofs.Later.{kept_event}
use Rattle.processors.proofs.holds.look.Goals as goal

pub begin-requires : goal.begin-requires
begin-requires c = record { kept = kept_event c.args.cpu c.args.board.now c.look_until.new.board c.look_until.ensures.event c.args.quantum.now c.requires.kept }
