use Rattle.cache_ident.specs.declared.idents.Ident.{Ident}
use Rattle.depend_lists.specs.declared.nodes.Node.{Node}
use Rattle.depend_lists.proofs.PairLemmas.{once_from_rising}
use Rattle.depend_lists.proofs.EditLemmas.{proper-remove}
use Rattle.depend_lists.proofs.MirrorLemmas.{both_ways, mirrors-remove}
use Rattle.depend_lists.proofs.depends.Depends.take.Goals as goal

-- the pair is there from its other end too
pub remove-requires-2 : goal.remove-requires-2
remove-requires-2 c =
    let pair : Ident × Node = (c.args.parent, c.args.child) in
    (both_ways c.self.inside.pairs.entries c.self.inside.parents.entries c.self.invariant.mirrored pair).1 (rw (← c.self.view_is) at c.requires)

pub invariant_of-self : goal.invariant_of-self
invariant_of-self c =
    let s = c.self.invariant in
    let caps = c.self.inside.caps in
    let pairs = c.self.inside.pairs.entries in
    let parents = c.self.inside.parents.entries in
    let pair : Ident × Node = (c.args.parent, c.args.child) in
    let taken = c.remove.ensures.entries in
    let turned_taken = c.remove-2.ensures.entries in
    let once = once_from_rising c.remove.new.self.entries c.remove.ensures.proper.rising in
    record {
      proper = rw taken.3 (proper-remove caps pairs s.proper taken.0 pair taken.1 taken.2 (rw taken.3 at once));
      mirrored = rw (taken.3, turned_taken.3) (mirrors-remove pairs parents s.mirrored taken.0 turned_taken.0 pair taken.1 taken.2 turned_taken.1 turned_taken.2);
      pairs_room = rw c.remove.ensures.room s.pairs_room;
      parents_room = rw c.remove-2.ensures.room s.parents_room;
    }
