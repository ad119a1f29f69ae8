use Rattle.std.proofs.Common.{◌≡◌, ℕ, ◌≤◌, count_by, length, eqb, leb, arith, ap, ◌∙◌}
use Rattle.std.proofs.lemmas.Bool.Decides.{nat_tests}
use Rattle.std.proofs.lemmas.List.Sums.{length-filter}
use Rattle.signal_pages.specs.Signals.{is_signal_row_of}
use Rattle.flat_rules.proofs.declarations.has_four.Goals as goal

-- among at most four, there are four where there are at least four
four_of_few : (n : ℕ) → n ≤ 4 → eqb n 4 ≡ leb 4 n
four_of_few n few = grind (arith, nat_tests)

pub returns : goal.returns
returns g c =
    let p = is_signal_row_of c.args.frame in
    let rows = (g.T.Records.state c.args.tables.now).rows in
    let counted : length c.signal_rows.result.items ≡ count_by p rows = ap length c.signal_rows.ensures ∙ length-filter p rows in
    rw (c.is_full.ensures.value, counted) (four_of_few (count_by p rows) (rw counted at c.is_full.ensures.fits))
