use Rattle.std.proofs.Common.{◌∙◌}
use Rattle.std.specs.Ordering.{is_lt}
use Rattle.cache_ident.specs.declared.idents.Ident.{Ident}
use Rattle.cache_ident.specs.contracts.idents.IdentOrd.TheImpl as ident
use Rattle.cache_ident.specs.declared.classes.Class.{Class}
use Rattle.depend_lists.proofs.CountLemmas.{few_pairs}
use Rattle.depend_lists.proofs.PlaceLemmas.{place-apart, place-below}
use Rattle.depend_lists.proofs.depends.Depends.place.Goals as goal

-- as many entries are before those of the child as there are pairs with a child before this one
pub place_is : goal.returns-clause-place
place_is c =
    let before = λ (entry : Ident × (Class × Ident)). is_lt ((ident.ghosts).cmp entry.0 c.args.child) in
    rw (← c.self.view_is) (c.count_below.ensures.count ∙ c.self.invariant.mirrored before)

pub returns-clause-place : goal.returns-clause-place
returns-clause-place c = place_is c

pub returns-clause-within : goal.returns-clause-within
returns-clause-within c = λ is_child. rw (place_is c) (place-below c.args.self.now.pairs c.args.child is_child)

pub returns-clause-few : goal.returns-clause-few
returns-clause-few c =
    let proper = c.self.invariant.proper in
    rw (← c.self.view_is) (few_pairs c.self.inside.caps c.self.inside.pairs.entries proper.within proper.few_parents)

pub returns-clause-alone : goal.returns-clause-alone
returns-clause-alone c = λ is_child other is_other same. place-apart c.args.self.now.pairs c.args.child other is_child is_other (same ∙ place_is c)
