-- A completed call is told by one entry.
use Rattle.std.proofs.Common.{◌≡◌, length, true, ap, sym, ◌∙◌, subst}
use Rattle.std.proofs.lemmas.Option.{slice_get_within}
use Rattle.cache_ident.specs.declared.names.Name.TheVariants as name
use Rattle.cache_ident.specs.Residents.{IsNameResident}
use Rattle.flat_state.specs.declared.events.Event.TheVariants.{Complete}
use Rattle.flat_state.specs.Call.{is_completable}
use Rattle.flat_state.specs.Events.{applied}
use Rattle.flat_rules.specs.Readings.{OfThread}
use Rattle.run_journal.specs.Legal.{AreGood}
use Rattle.cached_machine.specs.desc_stores.specs.Contents.{residents_of}
use Rattle.cached_machine.specs.Cached.{state_of}
use Rattle.board_core.specs.Core.{contents_of, Recorded}
use Rattle.board_core.specs.Growth.{MayWrite}
use Rattle.board_core.proofs.RunningLaws.{call_sound, loaded_stands, thread_of_some}
use Rattle.board_core.proofs.core_record.Core.complete.Goals as goal

pub complete-completed-requires-clause-there : goal.complete-completed-requires-clause-there
complete-completed-requires-clause-there c =
    let loaded = subst (λ (b : Recorded). IsNameResident (residents_of (contents_of b)) (name.Thread c.args.no)) (sym c.self.view_is) c.requires.loaded in
    let m = c.self.inside.machine in
    let found = thread_of_some _ (loaded_stands m.machine m.memory m.held.contents c.args.no c.self.invariant.0.tables.1.whole.one loaded) in
    slice_get_within (state_of m).threads c.args.no.0 found.0 found.1

pub complete-completed-requires-clause-good : goal.complete-completed-requires-clause-good
complete-completed-requires-clause-good c = subst (λ (b : Recorded). AreGood (applied (state_of b.machine) (Complete c.args.no)) (residents_of (contents_of b))) (sym c.self.view_is) c.requires.good

pub invariant_of-self-2 : goal.invariant_of-self-2
invariant_of-self-2 c =
    let back = sym c.self.view_is in
    let write = subst (λ (b : Recorded). MayWrite b c.args.cpu 1) back c.requires.write in
    let loaded = subst (λ (b : Recorded). IsNameResident (residents_of (contents_of b)) (name.Thread c.args.no)) back c.requires.loaded in
    let able = subst (λ (b : Recorded). OfThread (state_of b.machine) c.args.no.0 (λ t. is_completable t ≡ true)) back c.requires.completable in (
      call_sound _ c.complete-completed.new.self c.args.no c.args.cpu _ _ c.self.invariant.0 write.sealed write.processor c.self.invariant.0.tables.1.whole.one c.known.ensures.sound.1.whole loaded able c.in_ok-completed.ensures.ok c.known.ensures.sound c.note.new.journal c.note.ensures.entries,
      c.self.invariant.1 ∙ sym (ap length c.in_ok-completed.ensures.ok.beside.loaded.residents),
    )
