use Rattle.std.proofs.Common.{◌<◌, Some, sym, ap, subst, ◌∙◌}
use Rattle.cache_ident.specs.declared.names.Caps.{Caps}
use Rattle.cache_ident.specs.Names.{amount_of, kind_of}
use Rattle.board_laws.specs.desc_tables.specs.May.{MayBeLoaded}
use Rattle.board_laws.specs.desc_tables.specs.Calls.{HasPlacesFor}
use Rattle.board_laws.specs.desc_tables.specs.Tables.{Held}
use Rattle.board_laws.specs.Moves.{IsLoad}
use Rattle.cached_machine.specs.Cached.{Cached}
use Rattle.cached_machine.specs.Posts.{HasLoadedMarks}
use Rattle.cached_machine.proofs.AlikeLaws.{alike_sound, itself_but_room}
use Rattle.cached_machine.proofs.MoveLaws.{left_stand, load_moves, moved_marks, moved_out, sent_load}
use Rattle.cached_machine.proofs.machine.CachedMachine.load.Goals as goal

pub load-ident-requires-clause-places : goal.load-ident-requires-clause-places
load-ident-requires-clause-places c = subst (λ (m : Cached). HasPlacesFor m.held.contents c.args.name c.args.keep.now c.args.at) (sym c.self.view_is) c.requires.places

pub take_back-requires : goal.take_back-requires
take_back-requires c =
    let i = c.self.inside in
    let left = c.load-ident.new.self in
    let may = subst (λ (m : Cached). MayBeLoaded m.held.contents c.args.name c.args.keep.now) (sym c.self.view_is) c.requires.may in
    let one = c.known.ensures.one in
    let moved = load_moves i.tables left c.args.name c.load-ident.result one may.shelved c.load-ident.ensures.residents c.load-ident.ensures.named c.load-ident.ensures.contents in
    left_stand i.tables left one moved

pub invariant_of-self : goal.invariant_of-self
invariant_of-self c =
    let i = c.self.inside in
    let left = c.load-ident.new.self in
    let after = c.take_back.new.tables in
    let may = subst (λ (m : Cached). MayBeLoaded m.held.contents c.args.name c.args.keep.now) (sym c.self.view_is) c.requires.may in
    let one = c.known.ensures.one in
    let moved = load_moves i.tables left c.args.name c.load-ident.result one may.shelved c.load-ident.ensures.residents c.load-ident.ensures.named c.load-ident.ensures.contents in
    let back = c.take_back.ensures in (
      alike_sound i.machine i.memory i.tables after i.sets i.sets (back.only.shows (Some i.machine) i.memory ∙ c.load-ident.ensures.shows (Some i.machine) i.memory)
          (ap (λ (h : Held). h.caps) back.only.rest ∙ c.load-ident.ensures.caps) (itself_but_room i.sets) i.granted c.self.invariant.0,
      moved_out i.tables left one moved after back c.self.invariant.1,
    )

pub returns-clause-load : goal.returns-clause-load
returns-clause-load c =
    let i = c.self.inside in
    let left = c.load-ident.new.self in
    let after = c.take_back.new.tables in
    let load : IsLoad i.tables.caps i.tables.contents left.contents c.args.name c.args.keep.now c.args.at left.gone c.load-ident.result = record {
      displaced = c.load-ident.ensures.displaced;
      nothing = c.load-ident.ensures.nothing;
      causes = c.load-ident.ensures.causes;
      own = c.load-ident.ensures.ident;
      free = c.load-ident.ensures.free;
      lowest = c.load-ident.ensures.lowest;
      within = subst (λ (x : Caps). c.load-ident.result.slot < amount_of x (kind_of c.args.name)) c.load-ident.ensures.caps c.load-ident.ensures.within;
      residents = c.load-ident.ensures.residents;
      issued = c.load-ident.ensures.issued;
      shows = c.load-ident.ensures.shows;
    } in
    subst (λ (m : Cached). IsLoad m.held.caps m.held.contents after.contents c.args.name c.args.keep.now c.args.at after.gone c.load-ident.result) c.self.view_is
    (sent_load i.tables.caps i.tables.contents left after c.args.name c.args.keep.now c.args.at c.load-ident.result load c.take_back.ensures.only)

pub returns-clause-marks : goal.returns-clause-marks
returns-clause-marks c =
    let i = c.self.inside in
    let left = c.load-ident.new.self in
    let after = c.take_back.new.tables in
    let may = subst (λ (m : Cached). MayBeLoaded m.held.contents c.args.name c.args.keep.now) (sym c.self.view_is) c.requires.may in
    let one = c.known.ensures.one in
    let moved = load_moves i.tables left c.args.name c.load-ident.result one may.shelved c.load-ident.ensures.residents c.load-ident.ensures.named c.load-ident.ensures.contents in
    subst (λ (m : Cached). HasLoadedMarks m.held.contents after.contents) c.self.view_is
    (moved_marks i.tables left one moved after c.take_back.ensures c.self.invariant.1)
