use Rattle.std.proofs.Common.{◌+◌, ◌≤◌, ap, sym, ◌∙◌, subst}
use Rattle.desc_groups.specs.desc_stores.specs.Changes.{room_of}
use Rattle.desc_groups.specs.shown_state.specs.Edits.{with_new}
use Rattle.desc_groups.specs.shown_state.specs.Shown.{shown}
use Rattle.desc_groups.specs.shown_state.proofs.DeclareLemmas.{declaration_shown}
use Rattle.desc_tables.specs.May.{MayBeDeclared}
use Rattle.desc_tables.specs.Tables.{Held}
use Rattle.desc_tables.proofs.PutLemmas.{sound_declared}
use Rattle.desc_tables.proofs.RoomLemmas.{room_put}
use Rattle.desc_tables.proofs.tables.Tables.put.Goals as goal

pub invariant_of-self : goal.invariant_of-self
invariant_of-self c =
    let stores = c.self.inside.stores in
    let sound = c.self.invariant.0 in
    let put = c.declare.ensures in
    let may = subst (λ (h : Held). MayBeDeclared h.caps h.contents c.args.item) (sym c.self.view_is) c.requires.may in (
      sound_declared c.self.inside.pairs.caps stores c.declare.new.self c.self.inside.gone.items c.self.inside.left.items c.self.inside.pairs.pairs sound c.each_is_one.ensures c.owner_of_new-owner.result c.args.item may.next may.its may.absent
          put.contents put.after c.owner_of_new-owner.ensures put.residents put.owned,
      c.self.invariant.1,
      c.self.invariant.2,
      c.self.invariant.3,
    )

pub returns-clause-shows : goal.returns-clause-shows
returns-clause-shows c = λ machine memory.
    let stores = c.self.inside.stores in
    let put = c.declare.ensures in
    let may = subst (λ (h : Held). MayBeDeclared h.caps h.contents c.args.item) (sym c.self.view_is) c.requires.may in
    declaration_shown machine memory stores c.declare.new.self c.self.invariant.0.whole.one c.owner_of_new-owner.result c.args.item put.after may.next may.absent put.contents
    ∙ ap (λ (h : Held). with_new (shown machine memory h.contents) c.args.item) c.self.view_is

pub returns-clause-room : goal.returns-clause-room
returns-clause-room c =
    subst (λ (h : Held). room_of h.contents ≤ room_of c.declare.new.self + 1) c.self.view_is (room_put c.self.inside.stores c.declare.new.self c.owner_of_new-owner.result c.args.item c.declare.ensures.after)
