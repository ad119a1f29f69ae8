use Rattle.std.proofs.Common.{◌≡◌, ℕ, length, take, subst, arith}
use Rattle.run_journal.specs.Told.{told}
use Rattle.journal_facts.specs.Facts.{AreFactsOf}
use Rattle.journal_check.proofs.Prefixes.{KeepBefore, facts_next, facts_end, state_end, keep_more, first_broken, first_broken_at_end, keeps_all}
use Rattle.journal_check.proofs.checking.checked.Goals as goal

pub returns-in-Some : goal.returns-in-Some
returns-in-Some c =
    let j = c.args.journal.now.entries in
    let at = c.loop-at.at in
    let found = rw (c.in-Some.is, c.get-here.ensures, c.get-next.ensures) at (c.in_ok-point.ensures (told (take at j)) c.loop-at.invariant.facts) in
    first_broken c.args.decls.now j at c.in-Some.point (omega arith) c.loop-at.invariant.before found

pub loop-at-preserved : goal.loop-at-preserved
loop-at-preserved c =
    let j = c.args.journal.now.entries in
    let at = c.loop-at.at in
    let found = rw (c.in_default.is, c.get-here.ensures, c.get-next.ensures) at (c.in_ok-point.ensures (told (take at j)) c.loop-at.invariant.facts) in
    record { facts = facts_next c.first_broken.new.facts j at (omega arith) found.1; before = keep_more c.args.decls.now j at c.loop-at.invariant.before found.0 }

pub returns-in-Some-2 : goal.returns-in-Some-2
returns-in-Some-2 c =
    let ds = c.args.decls.now in
    let j = c.args.journal.now.entries in
    let last : c.loop-at.at ≡ length j = omega (arith, c.len-end.ensures) in
    let facts : AreFactsOf c.loop-at.facts (told (take (length j) j)) = subst (λ (n : ℕ). AreFactsOf c.loop-at.facts (told (take n j))) last c.loop-at.invariant.facts in
    let before : KeepBefore ds j (length j) = subst (λ (n : ℕ). KeepBefore ds j n) last c.loop-at.invariant.before in
    let found = rw (c.in-Some-2.is, c.len-end.ensures) at (c.in_ok-point-2.ensures (told (take (length j) j)) facts) in
    rw c.len-end.ensures (first_broken_at_end ds j c.in-Some-2.point before found)

pub returns-in-None : goal.returns-in-None
returns-in-None c =
    let ds = c.args.decls.now in
    let j = c.args.journal.now.entries in
    let last : c.loop-at.at ≡ length j = omega (arith, c.len-end.ensures) in
    let facts : AreFactsOf c.loop-at.facts (told (take (length j) j)) = subst (λ (n : ℕ). AreFactsOf c.loop-at.facts (told (take n j))) last c.loop-at.invariant.facts in
    let before : KeepBefore ds j (length j) = subst (λ (n : ℕ). KeepBefore ds j n) last c.loop-at.invariant.before in
    let found = rw (c.in-None.is, c.len-end.ensures) at (c.in_ok-point-2.ensures (told (take (length j) j)) facts) in
    (keeps_all ds j before found.0, state_end j c.into_flat.result (c.into_flat.ensures (told j) (facts_end c.first_broken-2.new.facts j found.1)))
