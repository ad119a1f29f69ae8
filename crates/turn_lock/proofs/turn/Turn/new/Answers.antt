use Rattle.turn_lock.proofs.Ends.{opens}
use Rattle.turn_lock.proofs.turn.Turn.new.Goals as goal

pub new-requires : goal.new-requires
new-requires g c = rw (c.of-about.ensures) (rw (c.in_default.ensures.items) (rw (c.new-slots.ensures.items) (opens g.V.History.entries g.V.History.maker c.args.value c.len.result c.len.ensures c.requires)))
