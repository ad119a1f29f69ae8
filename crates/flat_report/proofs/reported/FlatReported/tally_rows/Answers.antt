use Rattle.std.proofs.Common.{length}
use Rattle.flat_report.proofs.Counting.{all_gone, one_gone, still_few}
use Rattle.flat_report.proofs.reported.FlatReported.tally_rows.Goals as goal

pub add-requires : goal.add-requires
add-requires c =
    still_few c.args.self.now.rows c.loop-row.row-iterator (length c.args.self.now.spaces) c.loop-row.tally c.rows-row-items.ensures.few c.loop-row.invariant

pub loop-row-preserved : goal.loop-row-preserved
loop-row-preserved c =
    one_gone c.args.self.now.rows c.loop-row.row-iterator c.next.new.self (length c.args.self.now.spaces) c.loop-row.tally c.add.new.self c.in-Some.row.now
    (rw c.in-Some.is at c.next.ensures.steps) c.loop-row.invariant c.add.ensures

pub returns : goal.returns
returns c = all_gone c.args.self.now.rows c.loop-row.row-iterator (length c.args.self.now.spaces) c.loop-row.tally c.in-None.ensures.steps.0 c.loop-row.invariant
