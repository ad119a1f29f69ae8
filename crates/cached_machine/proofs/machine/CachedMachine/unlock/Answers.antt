use Rattle.std.proofs.Common.{◌≡◌, false, Some, sym, ap, subst, ◌∙◌}
use Rattle.cache_ident.specs.declared.idents.Standing.TheVariants.{Live}
use Rattle.cache_ident.specs.Rolls.{standing_in}
use Rattle.board_laws.specs.desc_stores.specs.Changes.{room_of}
use Rattle.board_laws.specs.desc_tables.specs.Tables.{Held}
use Rattle.board_laws.specs.Moves.{IsLock}
use Rattle.cached_machine.specs.Cached.{state_of, Cached}
use Rattle.cached_machine.specs.Posts.{HasSameMarks}
use Rattle.cached_machine.proofs.AlikeLaws.{alike_sound, itself_but_room}
use Rattle.cached_machine.proofs.MoveLaws.{locked_marks, locked_out}
use Rattle.cached_machine.proofs.machine.CachedMachine.unlock.Goals as goal

pub unlock-requires : goal.unlock-requires
unlock-requires c = record { live = subst (λ (m : Cached). standing_in m.held.contents.issued c.args.ident ≡ Live) (sym c.self.view_is) c.requires.live }

pub invariant_of-self : goal.invariant_of-self
invariant_of-self c =
    let i = c.self.inside in
    let h = c.unlock.new.self in
    let caps = ap (λ (x : Held). x.caps) c.unlock.ensures.rest in (
      alike_sound i.machine i.memory i.tables h i.sets i.sets (c.unlock.ensures.contents.shows (Some i.machine) i.memory) caps (itself_but_room i.sets) i.granted c.self.invariant.0,
      locked_out i.tables h c.args.ident false c.unlock.ensures.residents c.unlock.ensures.contents c.self.invariant.1,
    )

pub returns-clause-lock : goal.returns-clause-lock
returns-clause-lock c =
    subst (λ (m : Cached). IsLock m.held.contents c.unlock.new.self.contents c.args.ident false) c.self.view_is
    (record { residents = c.unlock.ensures.residents; issued = c.unlock.ensures.issued; contents = c.unlock.ensures.contents })

pub returns-clause-rest : goal.returns-clause-rest
returns-clause-rest c =
    let i = c.self.inside in
    subst (λ (m : Cached). record { machine = i.machine; memory = i.memory; held = c.unlock.new.self; sets = i.sets } ≡ record m { held = record m.held { contents = c.unlock.new.self.contents } }) c.self.view_is
    (ap (λ (h : Held). let m : Cached = record { machine = i.machine; memory = i.memory; held = h; sets = i.sets } in m) c.unlock.ensures.rest)

pub returns-clause-state : goal.returns-clause-state
returns-clause-state c =
    let i = c.self.inside in
    c.unlock.ensures.contents.shows (Some i.machine) i.memory ∙ ap state_of c.self.view_is

pub returns-clause-marks : goal.returns-clause-marks
returns-clause-marks c =
    let i = c.self.inside in
    subst (λ (m : Cached). HasSameMarks m.held.contents c.unlock.new.self.contents) c.self.view_is
    (locked_marks i.tables c.unlock.new.self c.args.ident false c.unlock.ensures.residents c.unlock.ensures.contents)

pub returns-clause-room : goal.returns-clause-room
returns-clause-room c = c.unlock.ensures.contents.room ∙ ap (λ (m : Cached). room_of m.held.contents) c.self.view_is

pub returns-clause-spare : goal.returns-clause-spare
returns-clause-spare c = c.unlock.ensures.contents.spare ∙ ap (λ (m : Cached). m.held.contents.spare) c.self.view_is
