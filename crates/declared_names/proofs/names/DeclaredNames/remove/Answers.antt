use Rattle.owner_shelf.proofs.NameLemmas.{found_name}
use Rattle.declared_names.proofs.OrderLemmas.{has_stamp, left_without, order_taken, sound_taken}
use Rattle.declared_names.proofs.names.DeclaredNames.remove.Goals as goal

pub unreachable-requires : goal.unreachable-requires
unreachable-requires c =
    let i = c.self.inside in
    has_stamp i.room i.next i.by_stamp i.stamps c.self.invariant c.args.name (rw (← c.self.view_is) at c.requires) c.in_default.ensures.value

pub remove-requires : goal.remove-requires
remove-requires c = (c.self.invariant.listed c.args.name c.in-Some.stamp).0 (found_name c.self.inside.stamps.entries c.args.name c.in-Some.stamp c.in-Some.ensures.value)

pub remove-requires-2 : goal.remove-requires-2
remove-requires-2 c = found_name c.self.inside.stamps.entries c.args.name c.in-Some.stamp c.in-Some.ensures.value

pub invariant_of-self : goal.invariant_of-self
invariant_of-self c =
    let i = c.self.inside in
    let e = c.remove.ensures in
    let s = c.remove-2.ensures in
    let m = c.one_more-self-inside.ensures in
    sound_taken i.room i.next i.by_stamp i.stamps c.self.invariant c.args.name c.remove.new.self c.remove-2.new.self c.in-Some.stamp e.entries c.one_more-self-inside.result m.few (m.left c.self.invariant.stamps_left) e.room s.entries s.room s.proper

pub returns-clause-stamp : goal.returns-clause-stamp
returns-clause-stamp c = rw (← c.self.view_is) ((c.self.invariant.listed c.args.name c.in-Some.stamp).0 (found_name c.self.inside.stamps.entries c.args.name c.in-Some.stamp c.in-Some.ensures.value))

pub returns-clause-entries : goal.returns-clause-entries
returns-clause-entries c =
    let i = c.self.inside in
    rw (← c.self.view_is) (left_without i.room i.next i.by_stamp i.stamps c.self.invariant c.args.name c.remove.new.self c.remove-2.new.self c.in-Some.stamp c.remove.ensures.entries)

pub returns-clause-proper : goal.returns-clause-proper
returns-clause-proper c =
    let i = c.self.inside in
    order_taken i.room i.next i.by_stamp i.stamps c.self.invariant c.args.name c.remove.new.self c.remove-2.new.self c.in-Some.stamp c.remove.ensures.entries
