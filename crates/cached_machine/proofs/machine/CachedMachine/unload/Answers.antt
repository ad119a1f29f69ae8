use Rattle.std.proofs.Common.{Some, sym, ap, subst, ◌∙◌}
use Rattle.board_laws.specs.desc_groups.specs.Moves.{HasPlaces}
use Rattle.board_laws.specs.desc_tables.specs.Tables.{Held}
use Rattle.cached_machine.specs.Cached.{Cached}
use Rattle.cached_machine.specs.Posts.{HasLoadedMarks}
use Rattle.cached_machine.proofs.AlikeLaws.{alike_sound, itself_but_room}
use Rattle.cached_machine.proofs.MoveLaws.{left_stand, moved_marks, moved_out, unload_moves}
use Rattle.cached_machine.proofs.machine.CachedMachine.unload.Goals as goal

pub unload-requires-clause-places : goal.unload-requires-clause-places
unload-requires-clause-places c = subst (λ (m : Cached). HasPlaces m.held.contents c.args.ident c.args.at) (sym c.self.view_is) c.requires.places

pub take_back-requires : goal.take_back-requires
take_back-requires c =
    let i = c.self.inside in
    let left = c.unload.new.self in
    let moved = unload_moves i.tables left c.unload.ensures.named c.unload.ensures.residents c.unload.ensures.contents.contents in
    left_stand i.tables left c.known.ensures.one moved

pub invariant_of-self : goal.invariant_of-self
invariant_of-self c =
    let i = c.self.inside in
    let left = c.unload.new.self in
    let after = c.take_back.new.tables in
    let moved = unload_moves i.tables left c.unload.ensures.named c.unload.ensures.residents c.unload.ensures.contents.contents in
    let back = c.take_back.ensures in (
      alike_sound i.machine i.memory i.tables after i.sets i.sets (back.only.shows (Some i.machine) i.memory ∙ c.unload.ensures.contents.shows (Some i.machine) i.memory)
          (ap (λ (h : Held). h.caps) back.only.rest ∙ c.unload.ensures.caps) (itself_but_room i.sets) i.granted c.self.invariant.0,
      moved_out i.tables left c.known.ensures.one moved after back c.self.invariant.1,
    )

pub returns-clause-marks : goal.returns-clause-marks
returns-clause-marks c =
    let i = c.self.inside in
    let left = c.unload.new.self in
    let after = c.take_back.new.tables in
    let moved = unload_moves i.tables left c.unload.ensures.named c.unload.ensures.residents c.unload.ensures.contents.contents in
    subst (λ (m : Cached). HasLoadedMarks m.held.contents after.contents) c.self.view_is
    (moved_marks i.tables left c.known.ensures.one moved after c.take_back.ensures c.self.invariant.1)
