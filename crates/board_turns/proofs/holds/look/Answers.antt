use Rattle.board_turns.proofs.Later.{kept_event}
use Rattle.board_turns.proofs.holds.look.Goals as goal

pub begin-requires : goal.begin-requires
begin-requires c = record { kept = kept_event 0 c.args.board.now c.look_alone.new.board c.look_alone.ensures.event c.args.quantum.now c.requires.kept }
