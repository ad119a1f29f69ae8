use Rattle.std.proofs.Common.{◌≡◌, Some, ◌<◌, length, slice_get, sym, ap, subst, ◌∙◌}
use Rattle.std.proofs.lemmas.List.{length-map}
use Rattle.flat_state.specs.State.{with_thread}
use Rattle.board_laws.specs.shown_state.specs.Shown.{flat_thread}
use Rattle.cached_machine.specs.Aside.{aside_of}
use Rattle.cached_machine.specs.Cached.{state_of, Cached}
use Rattle.cached_machine.specs.Stepping.{shows_left_by}
use Rattle.cached_machine.proofs.AsideLaws.{out_stays}
use Rattle.cached_machine.proofs.StepLaws.{aside_stays, shows, sound_stays, stood, thread_there}
use Rattle.cached_machine.proofs.machine.CachedMachine.change.Goals as goal

pub update-requires-clause-there : goal.update-requires-clause-there
update-requires-clause-there c =
    let i = c.self.inside in
    thread_there (Some i.machine) i.memory i.tables.contents c.known.ensures.one c.args.no (subst (λ (m : Cached). c.args.no.0 < length (state_of m).threads) (sym c.self.view_is) c.requires.there)

pub update-requires-clause-numbered : goal.update-requires-clause-numbered
update-requires-clause-numbered c =
    let within = subst (λ (m : Cached). c.args.no.0 < length (state_of m).threads) (sym c.self.view_is) c.requires.there in
    rw (c.self.invariant.0.sets.completable, length-map) within

pub invariant_of-self : goal.invariant_of-self
invariant_of-self c =
    let i = c.self.inside in
    let no = c.args.no in
    let t = flat_thread c.update.ensures.value in
    let here = stood i.machine i.memory c.args.change i.tables c.update.new.tables i.sets c.update.new.sets no c.known.ensures.one c.update.ensures in
    let may = c.requires.may t (subst (λ (m : Cached). slice_get (state_of m).threads no.0 ≡ Some t) c.self.view_is here) in
    let sound = sound_stays i.machine i.memory c.args.change i.tables c.update.new.tables i.sets c.update.new.sets no c.known.ensures.one c.update.ensures t here may i.granted c.self.invariant.0 in
    let was : Cached = record { machine = i.machine; memory = i.memory; held = i.tables; sets = i.sets } in
    let now : Cached = record { machine = i.machine; memory = i.memory; held = c.update.new.tables; sets = c.update.new.sets } in
    (sound, out_stays was now (aside_stays i.machine i.memory c.args.change i.tables c.update.new.tables i.sets c.update.new.sets no c.known.ensures.one c.update.ensures) c.self.invariant.1)

pub returns-clause-state : goal.returns-clause-state
returns-clause-state c = λ t here.
    let i = c.self.inside in
    let no = c.args.no in
    let was = subst (λ (m : Cached). slice_get (state_of m).threads no.0 ≡ Some t) (sym c.self.view_is) here in
    shows i.machine i.memory c.args.change i.tables c.update.new.tables i.sets c.update.new.sets no c.known.ensures.one c.update.ensures t was (c.requires.may t here)
    ∙ ap (λ (m : Cached). with_thread (state_of m) no.0 (shows_left_by c.args.change t)) c.self.view_is

pub returns-clause-rest : goal.returns-clause-rest
returns-clause-rest c =
    let i = c.self.inside in
    aside_stays i.machine i.memory c.args.change i.tables c.update.new.tables i.sets c.update.new.sets c.args.no c.known.ensures.one c.update.ensures ∙ ap aside_of c.self.view_is
