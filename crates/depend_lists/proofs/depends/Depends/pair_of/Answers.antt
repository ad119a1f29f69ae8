use Rattle.std.proofs.Common.{sym, refl}
use Rattle.depend_lists.specs.declared.nodes.Node.{Node}
use Rattle.depend_lists.proofs.MirrorLemmas.{both_ways}
use Rattle.depend_lists.proofs.RunLemmas.{first_under, none_under}
use Rattle.depend_lists.proofs.depends.Depends.pair_of.Goals as goal

-- where there is no entry of the child, each pair is of another one
pub returns-in_err-class-clause-none : goal.returns-in_err-class-clause-none
returns-in_err-class-clause-none c = rw (c.from_residual.ensures, ← c.self.view_is) (none_under c.self.inside.parents.entries c.args.child c.self.inside.pairs.entries c.self.invariant.mirrored (sym c.in_err-class.ensures.value))

-- the first entry of the child is a pair with it
pub returns-clause-some : goal.returns-clause-some
returns-clause-some c =
    let child : Node = record { ident = c.args.child; class = c.in_ok-class.class } in
    let first = first_under c.self.inside.parents.entries c.args.child (c.in_ok-class.class, c.in_ok-class.parent) (sym c.in_ok-class.ensures.value) in
    rw (← c.self.view_is) ((both_ways c.self.inside.pairs.entries c.self.inside.parents.entries c.self.invariant.mirrored (c.in_ok-class.parent, child)).0 first, refl)
