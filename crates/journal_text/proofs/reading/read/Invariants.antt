use Rattle.std.proofs.Common.{◌≡◌, List, ◌++◌, length}
use Rattle.run_journal.specs.declared.entries.Entry.{Entry}
use Rattle.journal_text.specs.Lines.{journal_text}
use Rattle.journal_text.specs.Ranges.{AreInRange}
use Rattle.journal_text.proofs.TextLaws.{AreLeft}
use Rattle.journal_text.proofs.reading.read.Given as goal

-- what was read stands before the rest, and where the whole is the text of entries, the rest is that of those not read yet
abbrev pub invariant-loop-rest : goal.invariant-loop-rest
invariant-loop-rest l = record {
  lines : l.fn.text ≡ journal_text l.journal.entries ++ l.rest;
  only : (es : List Entry) → AreInRange es → l.fn.text ≡ journal_text es → AreLeft es l.journal.entries l.rest;
}

abbrev pub decreases-loop-rest : goal.decreases-loop-rest
decreases-loop-rest l = length l.rest
