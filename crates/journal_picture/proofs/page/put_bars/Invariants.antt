use Rattle.std.proofs.Common.{◌≡◌, ◌++◌, take}
use Rattle.std.specs.List.{flat_map}
use Rattle.journal_picture.specs.Pages.{bar_text}
use Rattle.journal_picture.proofs.page.put_bars.Given as goal

abbrev pub invariant-loop-bar : goal.invariant-loop-bar
invariant-loop-bar l = l.out.items ≡ l.fn.out.items ++ flat_map bar_text (take l.bar-index l.bars)
