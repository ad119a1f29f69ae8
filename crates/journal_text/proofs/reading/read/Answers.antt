use Rattle.std.proofs.Common.{List, ◌++◌, ap, sym, ◌∙◌}
use Rattle.run_journal.specs.declared.entries.Entry.{Entry}
use Rattle.journal_text.specs.Lines.{journal_text}
use Rattle.journal_text.proofs.TextLaws.{shorter, none_left, all_read, one_read, more_lines}
use Rattle.journal_text.proofs.reading.read.Goals as goal

pub returns-in_default-clause-only : goal.returns-in_default-clause-only
returns-in_default-clause-only c = λ es small whole. absurd (none_left es c.loop-rest.journal.entries c.loop-rest.rest.now (c.loop-rest.invariant.only es small whole) (sym c.is_empty.ensures ∙ c.loop-rest-test.true) (rw c.in_default.is at c.in_ok-line.ensures))

pub loop-rest-init : goal.loop-rest-init
loop-rest-init c = record {
  lines = ap (λ (es : List Entry). journal_text es ++ c.args.text.now) (sym c.new-journal.ensures);
  only = λ es small whole. record { more = es; whole = ap (λ (done : List Entry). done ++ es) (sym c.new-journal.ensures); small = small; text = whole };
}

pub loop-rest-smaller : goal.loop-rest-smaller
loop-rest-smaller c = let found = rw c.in-Some.is at c.in_ok-line.ensures in shorter c.loop-rest.rest.now c.in-Some.line.rest.now c.in-Some.line.entry found.0

pub loop-rest-preserved : goal.loop-rest-preserved
loop-rest-preserved c =
    let found = rw c.in-Some.is at c.in_ok-line.ensures in
    record {
      lines = more_lines c.args.text.now c.loop-rest.rest.now c.in-Some.line.rest.now c.loop-rest.journal.entries c.push.new.self.entries c.in-Some.line.entry c.loop-rest.invariant.lines found.0 c.in_ok-push.ensures.ok;
      only = λ es small whole. one_read es c.loop-rest.journal.entries c.push.new.self.entries c.loop-rest.rest.now c.in-Some.line.rest.now c.in-Some.line.entry found.0 found.1 c.in_ok-push.ensures.ok (c.loop-rest.invariant.only es small whole);
    }

pub returns-clause-only : goal.returns-clause-only
returns-clause-only c = λ es small whole. all_read es c.loop-rest.journal.entries c.loop-rest.rest.now (c.loop-rest.invariant.only es small whole) (sym c.is_empty.ensures ∙ c.loop-rest-test.false)
