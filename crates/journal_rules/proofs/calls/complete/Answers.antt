use Rattle.std.proofs.Common.{List, subst}
use Rattle.std.specs.Bool.{MatchBool}
use Rattle.cache_ident.specs.declared.names.Name.{Name}
use Rattle.journal_rules.specs.Running.{AreGoodNames, SpoilOne}
use Rattle.journal_rules.proofs.Completing.{leaves_by}
use Rattle.journal_rules.proofs.calls.complete.Goals as goal

pub returns-in_default : goal.returns-in_default
returns-in_default c = λ rs those relying good leaves. c.in_default.ensures.none leaves.fits

pub returns : goal.returns
returns c = λ rs those relying good.
    let s = c.args.flat.now in
    let u = c.apply.new.self in
    leaves_by c.args.residents.now c.args.relying.now s u rs c.args.thread c.in-Some.touched c.in_ok-names.names.items c.all_stay_good.result c.in_ok-apply.ensures.ok c.in-Some.ensures.some.0 good
    those relying c.in-Some.ensures.some.1 c.in_ok-names.ensures
    (subst (λ (ns : List Name). MatchBool c.all_stay_good.result (AreGoodNames u rs ns) (SpoilOne u rs ns)) c.as_slice.ensures.value (c.all_stay_good.ensures rs those))
