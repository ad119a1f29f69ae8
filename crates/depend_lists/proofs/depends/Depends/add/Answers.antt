use Rattle.std.proofs.Common.{Contains, get_or, subst, arith}
use Rattle.std.proofs.lemmas.List.Elements.{Contains-get_or}
use Rattle.depend_lists.specs.declared.nodes.Node.{Node}
use Rattle.cache_ident.specs.declared.idents.Ident.{Ident}
use Rattle.depend_lists.specs.Indexes.{turned}
use Rattle.depend_lists.proofs.PairLemmas.{once_from_rising, one_pair, one_turned}
use Rattle.depend_lists.proofs.EditLemmas.{proper-insert, room_for_pair}
use Rattle.depend_lists.proofs.MirrorLemmas.{as_many, both_ways, mirrors-insert}
use Rattle.depend_lists.proofs.depends.Depends.add.Goals as goal

-- the pair isn't there
pub insert-requires-clause-absent : goal.insert-requires-clause-absent
insert-requires-clause-absent c = λ k d lt ties.
    let pairs = c.self.inside.pairs.entries in
    let absent = rw (← c.self.view_is) at c.requires.absent in
    absent (subst (Contains pairs) (one_pair (get_or pairs k d) (c.args.parent, c.args.child) ties) (Contains-get_or pairs k d lt))

-- the child has few parents, and the children are few
pub insert-requires-clause-room : goal.insert-requires-clause-room
insert-requires-clause-room c =
    let s = c.self.invariant in
    let requires = rw (← c.self.view_is) at c.requires in
    omega (arith, s.pairs_room, room_for_pair c.self.inside.caps c.self.inside.pairs.entries s.proper 0 (c.args.parent, c.args.child) requires.parents requires.within)

-- nor is it there from its other end
pub insert-requires-2-clause-absent : goal.insert-requires-2-clause-absent
insert-requires-2-clause-absent c = λ k d lt ties.
    let parents = c.self.inside.parents.entries in
    let pair : Ident × Node = (c.args.parent, c.args.child) in
    let absent = rw (← c.self.view_is) at c.requires.absent in
    absent ((both_ways c.self.inside.pairs.entries parents c.self.invariant.mirrored pair).0 (subst (Contains parents) (one_turned (get_or parents k d) (turned pair) ties) (Contains-get_or parents k d lt)))

pub insert-requires-2-clause-room : goal.insert-requires-2-clause-room
insert-requires-2-clause-room c =
    let s = c.self.invariant in
    let requires = rw (← c.self.view_is) at c.requires in
    omega (arith, s.parents_room, as_many c.self.inside.pairs.entries c.self.inside.parents.entries s.mirrored, room_for_pair c.self.inside.caps c.self.inside.pairs.entries s.proper 0 (c.args.parent, c.args.child) requires.parents requires.within)

pub invariant_of-self : goal.invariant_of-self
invariant_of-self c =
    let s = c.self.invariant in
    let requires = rw (← c.self.view_is) at c.requires in
    let caps = c.self.inside.caps in
    let pairs = c.self.inside.pairs.entries in
    let pair : Ident × Node = (c.args.parent, c.args.child) in
    let added = c.insert.ensures.entries in
    let turned_added = c.insert-2.ensures.entries in
    let once = once_from_rising c.insert.new.self.entries c.insert.ensures.proper.rising in
    record {
      proper = rw added.2 (proper-insert caps pairs s.proper added.0 pair requires.class requires.parents requires.within (rw added.2 at once));
      mirrored = rw (added.2, turned_added.2) (mirrors-insert pairs c.self.inside.parents.entries s.mirrored added.0 turned_added.0 pair);
      pairs_room = rw c.insert.ensures.room s.pairs_room;
      parents_room = rw c.insert-2.ensures.room s.parents_room;
    }
