use Rattle.std.proofs.Common.{◌≡◌, ◌∙◌, ◌+◌, ◌<◌, ◌++◌, length, drop, ap, arith}
use Rattle.flat_report.specs.declared.counts.RowCounts.{RowCounts}
use Rattle.report_text.specs.Reports.{counts_text, lines_of_spaces}
use Rattle.flat_report.specs.Counts.{counted}
use Rattle.flat_report.proofs.Texts.{spaces_more}
use Rattle.flat_report.proofs.reporting.put_spaces.Goals as goal

pub loop-no-preserved : goal.loop-no-preserved
loop-no-preserved g c =
    let s = g.M.Records.state c.args.machine.now in
    let space = c.loop-no.no in
    let lt : space < length s.spaces = omega (arith, c.space_count-spaces.ensures) in
    let line : c.counts_of-counts.result ≡ counted s.rows space = c.counts_of-counts.ensures s.rows (length s.spaces) c.in_ok-tally.ensures in
    ap (λ lines. lines ++ lines_of_spaces s.rows (space + 1) (drop (space + 1) s.spaces)) (c.in_ok-space.ensures.ok ∙ ap (λ (counts : RowCounts). c.loop-no.lines ++ counts_text space counts.rows counts.referenced counts.modified) line)
    ∙ spaces_more c.loop-no.lines s.rows space s.spaces lt
    ∙ c.loop-no.invariant
