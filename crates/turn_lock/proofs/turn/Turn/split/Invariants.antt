use Rattle.turn_lock.proofs.turn.Turn.split.Given as goal

abbrev pub ghosts-split_at : goal.ghosts-split_at
ghosts-split_at g a = record { at = a.at }
