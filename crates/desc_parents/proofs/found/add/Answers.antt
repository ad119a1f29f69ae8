use Rattle.std.proofs.Common.{[], ◌++◌, Some, None, sym, ◌∙◌, ap}
use Rattle.std.proofs.lemmas.List.{append-nil}
use Rattle.std.specs.List.{cons_option}
use Rattle.desc_parents.proofs.IdentLemmas.{found_ident}
use Rattle.desc_parents.proofs.found.add.Goals as goal

pub returns-in-Some : goal.returns-in-Some
returns-in-Some c =
    let is = found_ident c.args.stores.now c.each_is_one.ensures c.args.name (Some c.in-Some.ident) c.in-Some.ensures.found c.in-Some.ensures.absent in
    c.push.ensures.items ∙ ap (λ o. c.args.parents.now.items ++ cons_option o []) (sym is)

pub returns-in_default : goal.returns-in_default
returns-in_default c =
    let is = found_ident c.args.stores.now c.each_is_one.ensures c.args.name None c.in_default.ensures.found c.in_default.ensures.absent in
    sym (append-nil c.args.parents.now.items) ∙ ap (λ o. c.args.parents.now.items ++ cons_option o []) (sym is)
