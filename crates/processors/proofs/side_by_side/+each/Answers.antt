use Rattle.std.proofs.Common.{[], ◌∷◌, ◌++◌, sym, ◌∙◌, ap, subst}
use Rattle.std.specs.Prelude.{option_to_list}
use Rattle.std.specs.List.{AllZip}
use Rattle.std.proofs.lemmas.List.Elements.{AllZip-push}
use Rattle.std.proofs.lemmas.Result.{IfOk-at_ok}
use Rattle.processors.specs.Parts.{HasGoneOn}
use Rattle.processors.proofs.side_by_side.+each.Goals as goal

pub returns : goal.returns
returns g t c =
    let gone = HasGoneOn c.args.lock.now in
    let rest = c.pop.new.self.items in
    let pass = c.in-Some.pass in
    let after = c.in_ok-after.after.items in
    let last = c.join-last.result.0 in
    let both = AllZip-push gone rest after pass last (IfOk-at_ok (λ v. AllZip gone rest v.items) c.in_ok-after.was c.join-last.ensures.second) c.join-last.ensures.first in
    let all = c.pop.ensures.items ∙ ap (λ o. rest ++ option_to_list o) c.in-Some.is in
    subst (λ xs. AllZip gone xs c.push.new.self.items) (sym all) (subst (AllZip gone (rest ++ pass ∷ [])) (sym c.in_ok-push.ensures.items) both)
