use Rattle.std.proofs.Common.{◌≡◌, filter, map, take}
use Rattle.journal_picture.specs.Lives.{meets}
use Rattle.journal_picture.specs.Pictures.{life_of}
use Rattle.journal_picture.proofs.bars.bars.Given as goal

abbrev pub invariant-loop-life : goal.invariant-loop-life
invariant-loop-life l = map life_of l.bars.items ≡ filter (meets l.frame.from l.frame.to) (take l.life-index l.lives)
