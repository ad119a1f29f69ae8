use Rattle.std.proofs.Common.{ℕ, ◌<◌, ◌≤◌, Some, sym, subst, arith}
use Rattle.run_journal.specs.Entries.{maker_of}
use Rattle.journal_check.specs.Places.{place, BreaksFirst}
use Rattle.journal_check.proofs.AtPlaces.{breaks_own, breaks_processors, all_kept}
use Rattle.journal_check.proofs.places.first_broken_by.Goals as goal

pub returns-then-not-branch : goal.returns-then-not-branch
returns-then-not-branch c k facts ds at begins order =
    let broken = rw c.if-not-branch.true at (c.in_ok-take.ensures k facts order.1) in
    subst (λ (n : ℕ). BreaksFirst ds (place at k (Some c.args.entry.now) c.args.next) n) (sym c.number.ensures) (breaks_own ds at k c.args.entry.now c.args.next begins order broken)

pub returns-then-maker-lt-MOST_PROCESSORS : goal.returns-then-maker-lt-MOST_PROCESSORS
returns-then-maker-lt-MOST_PROCESSORS c k facts ds at begins order =
    let kept = rw c.if-not-branch.false at (c.in_ok-take.ensures k facts order.1) in
    let by : maker_of c.args.entry.now < 8 = omega (arith, c.maker.ensures) in
    (all_kept ds at k c.args.entry.now c.args.next begins order kept.0 by, kept.1)

pub returns-else-maker-lt-MOST_PROCESSORS : goal.returns-else-maker-lt-MOST_PROCESSORS
returns-else-maker-lt-MOST_PROCESSORS c k facts ds at begins order =
    let kept = rw c.if-not-branch.false at (c.in_ok-take.ensures k facts order.1) in
    let high : 8 ≤ maker_of c.args.entry.now = omega (arith, c.maker.ensures) in
    breaks_processors ds at k c.args.entry.now c.args.next begins order kept.0 high
