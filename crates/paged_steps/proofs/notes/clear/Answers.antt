use Rattle.std.proofs.Common.{◌≡◌, true, false, Some, sym, ◌∙◌, arith}
use Rattle.std.proofs.lemmas.Option.{slice_get_within}
use Rattle.paged_steps.proofs.notes.clear.Goals as goal

pub returns-clause-none : goal.returns-clause-none
returns-clause-none c = λ n there.
    let at = c.loop-n.invariant in
    let low = slice_get_within c.loop-n.notes.items n true there in
    let e : Some true ≡ Some false = sym there ∙ at.none n (omega (arith, low, at.len)) in
    cc
