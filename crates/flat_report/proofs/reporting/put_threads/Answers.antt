use Rattle.std.proofs.Common.{◌≡◌, ◌≤◌, ◌∙◌, Some, length, arith, sym}
use Rattle.std.specs.List.{slice_get}
use Rattle.std.proofs.lemmas.Option.{slice_get_within, get_or_from_slice_get}
use Rattle.flat_report.proofs.Texts.{threads_more, none_is_past}
use Rattle.flat_report.proofs.reporting.put_threads.Goals as goal
use Rattle.flat_report.proofs.reporting.put_threads.Goals.{in-Some+in_ok-put_thread, in_default}

pub loop-no-preserved : goal.loop-no-preserved
loop-no-preserved g c =
    let ts = (g.M.Records.state c.args.machine.now).threads in
    elim c.match-thread.branch [
      | in-Some+in_ok-put_thread w ↦
          let t = g.M.Records.shown w.in-Some.thread.now in
          let found : slice_get ts c.loop-no.no ≡ Some t = sym w.in-Some.ensures in
          rw (w.lines-is, w.in_ok-put_thread.ensures) (threads_more c.loop-no.lines ts c.loop-no.no t (slice_get_within ts c.loop-no.no t found) (get_or_from_slice_get ts c.loop-no.no t t found) ∙ c.loop-no.invariant)
      | in_default w ↦
          let past : length ts ≤ c.loop-no.no = none_is_past ts c.loop-no.no (sym w.in_default.ensures) in
          absurd (omega arith)
    ]
