use Rattle.std.proofs.Common.{ℕ, ◌+◌, slice_get, ap, ◌∙◌}
use Rattle.std.proofs.lemmas.Option.{slice_get-get_or}
use Rattle.journal_picture.proofs.LifeLaws.{one_more}
use Rattle.journal_picture.proofs.lives.lives.Goals as goal

pub loop-entry-preserved : goal.loop-entry-preserved
loop-entry-preserved c =
    let l = c.loop-entry in
    record {
      place = ap (λ (n : ℕ). n + 1) l.invariant.place;
      loads = one_more c.args.entries.now l.lives.items c.take.new.lives.items l.entry-index l.place _ c.loop-entry-test.true c.in_ok-take.ensures.loads l.invariant.loads;
      ends = c.in_ok-take.ensures.ends c.args.entries.now (ap (λ (n : ℕ). slice_get c.args.entries.now n) l.invariant.place ∙ slice_get-get_or c.args.entries.now l.entry-index _ c.loop-entry-test.true) l.invariant.ends;
    }
