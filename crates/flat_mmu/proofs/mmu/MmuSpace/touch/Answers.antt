use Rattle.flat_mmu.proofs.MmuLaws.{both_stay, touch_keeps, touch_pages}
use Rattle.flat_mmu.proofs.mmu.MmuSpace.touch.Goals as goal

pub returns-clause-marks : goal.returns-clause-marks
returns-clause-marks g c =
    touch_pages (g.T.Records.state c.args.self.now.tables.now) (g.T.Records.state c.mark.new.self) c.args.self.now.space c.args.va c.args.access c.writes.result c.writes.ensures c.mark.ensures.state

pub returns-clause-kept : goal.returns-clause-kept
returns-clause-kept g c =
    both_stay (touch_keeps (g.T.Records.state c.args.self.now.tables.now) (g.T.Records.state c.mark.new.self) c.args.self.now.space c.args.va c.args.access c.writes.result c.writes.ensures c.mark.ensures.state _) c.mark.ensures.rest
