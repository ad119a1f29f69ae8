use Rattle.std.proofs.Common.{◌-◌, arith}
use Rattle.declared_names.proofs.OrderLemmas.{order_pushed, pushed, sound_pushed, stamp_absent, unlisted}
use Rattle.declared_names.proofs.names.DeclaredNames.push.Goals as goal

pub insert-requires-clause-absent : goal.insert-requires-clause-absent
insert-requires-clause-absent c =
    let i = c.self.inside in
    stamp_absent i.room i.next i.by_stamp i.stamps c.self.invariant c.args.name

pub insert-requires-2-clause-absent : goal.insert-requires-2-clause-absent
insert-requires-2-clause-absent c =
    let i = c.self.inside in
    unlisted i.room i.next i.by_stamp i.stamps c.self.invariant c.args.name (rw (← c.self.view_is) at c.requires.absent)

pub invariant_of-self : goal.invariant_of-self
invariant_of-self c =
    let i = c.self.inside in
    let room = rw (← c.self.view_is) at c.requires.room in
    let absent = rw (← c.self.view_is) at c.requires.absent in
    let e = c.insert.ensures in
    let s = c.insert-2.ensures in
    sound_pushed i.room i.next i.by_stamp i.stamps c.self.invariant c.args.name c.insert.new.self c.insert-2.new.self absent e.entries e.proper (i.room - 1) (omega (arith, room)) e.room s.entries s.room s.proper

pub returns-clause-entries : goal.returns-clause-entries
returns-clause-entries c =
    let i = c.self.inside in
    let absent = rw (← c.self.view_is) at c.requires.absent in
    rw (← c.self.view_is) (pushed i.room i.next i.by_stamp i.stamps c.self.invariant c.args.name c.insert.new.self c.insert-2.new.self absent c.insert.ensures.entries c.insert.ensures.proper)

pub returns-clause-proper : goal.returns-clause-proper
returns-clause-proper c =
    let i = c.self.inside in
    let absent = rw (← c.self.view_is) at c.requires.absent in
    order_pushed i.room i.next i.by_stamp i.stamps c.self.invariant c.args.name c.insert.new.self c.insert-2.new.self absent c.insert.ensures.entries c.insert.ensures.proper
