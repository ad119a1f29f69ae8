use Rattle.std.proofs.Common.{ap, sym, ◌∙◌, subst, arith}
use Rattle.cache_ident.specs.declared.names.Caps.{Caps}
use Rattle.desc_groups.specs.flat_state.specs.State.{FlatState}
use Rattle.desc_groups.specs.shown_state.specs.Edits.{with_new}
use Rattle.desc_tables.specs.May.{MayBeDeclared}
use Rattle.desc_tables.specs.Tables.{Held}
use Rattle.desc_tables.proofs.RoomLemmas.{may_still, onward_from_room, residents_room, room_grows, shows_room}
use Rattle.desc_tables.proofs.tables.Tables.declare.Goals as goal

pub returns-in_err-make_room-clause-residents : goal.returns-in_err-make_room-clause-residents
returns-in_err-make_room-clause-residents c = residents_room c.args.self.now.contents c.make_room.new.self.contents c.make_room.ensures.only

pub put-requires-clause-may : goal.put-requires-clause-may
put-requires-clause-may c =
    subst (λ (caps : Caps). MayBeDeclared caps c.make_room.new.self.contents c.args.item) (sym (ap (λ (h : Held). h.caps) c.make_room.ensures.rest))
    (may_still c.args.self.now.contents c.make_room.new.self.contents c.args.self.now.caps c.make_room.ensures.only c.args.item c.requires)

pub returns-clause-contents : goal.returns-clause-contents
returns-clause-contents c = onward_from_room c.args.self.now.contents c.make_room.new.self.contents c.put.new.self.contents c.args.item c.make_room.ensures.only c.put.ensures.contents

pub returns-clause-residents : goal.returns-clause-residents
returns-clause-residents c = c.put.ensures.residents ∙ residents_room c.args.self.now.contents c.make_room.new.self.contents c.make_room.ensures.only

pub returns-clause-shows : goal.returns-clause-shows
returns-clause-shows c = λ machine memory.
    c.put.ensures.shows machine memory
    ∙ ap (λ (s : FlatState). with_new s c.args.item) (shows_room c.args.self.now.contents c.make_room.new.self.contents c.make_room.ensures.only machine memory)

pub returns-in_err-make_room-clause-room : goal.returns-in_err-make_room-clause-room
returns-in_err-make_room-clause-room c =
    let grows = room_grows c.args.self.now.contents c.make_room.new.self.contents c.make_room.ensures.only in
    omega arith

pub returns-clause-room : goal.returns-clause-room
returns-clause-room c =
    let grows = room_grows c.args.self.now.contents c.make_room.new.self.contents c.make_room.ensures.only in
    let put = c.put.ensures.room in
    omega arith
