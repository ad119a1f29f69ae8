use Rattle.std.proofs.Common.{◌<◌, ◌≤◌, List, length, refl, sym, subst, inl, inr, vec_len, arith}
use Rattle.std.proofs.lemmas.Bool.{cases_lt, false≢true}
use Rattle.flat_report.specs.declared.counts.RowCounts.{RowCounts}
use Rattle.flat_report.specs.Counts.{AreCounts, CountsFew}
use Rattle.flat_report.proofs.Counting.{counted_more, counted_nowhere, each_few, IsFew}
use Rattle.flat_report.proofs.counts.RowTally.add.Goals as goal
use Rattle.flat_report.proofs.counts.RowTally.add.Goals.{in-Some, in_default}

pub count-requires : goal.count-requires
count-requires c =
    let counts = c.self.inside.counts.items in
    let few : CountsFew counts = subst (λ (x : List RowCounts). CountsFew x) (sym c.self.view_is) c.requires in
    let within : c.args.row.now.space.0 < length counts = omega (arith, c.in-Some.ensures.variant.0 refl) in
    let own : IsFew c.in-Some.counts.now = each_few counts c.args.row.now.space.0 c.in-Some.counts.now few within c.in-Some.ensures.value in
    record { rows = own.rows; referenced = own.referenced; modified = own.modified }

pub returns : goal.returns
returns c rows spaces are =
    let counts = c.self.inside.counts.items in
    let row = c.args.row.now in
    let here : AreCounts rows spaces counts = subst (λ (x : List RowCounts). AreCounts rows spaces x) (sym c.self.view_is) are in
    elim c.match-get_mut.branch [
      | in-Some w ↦
          let within : row.space.0 < length counts = omega (arith, w.in-Some.ensures.variant.0 refl) in
          rw (w.self-inside-is, w.count.ensures) (counted_more rows spaces counts row w.in-Some.counts.now here within w.in-Some.ensures.value)
      | in_default w ↦
          let past : length counts ≤ row.space.0 =
          elim (cases_lt row.space.0 (vec_len c.self.inside.counts)) [
            | inl lt ↦ absurd (false≢true (w.in_default.ensures.variant.1 lt))
            | inr le ↦ omega (arith, c.self.inside.counts.ok.0)
          ] in
          rw w.self-inside-is (counted_nowhere rows spaces counts row here past)
    ]
