-- The steps are one entry, and each frame that changed has a new stamp.
use Rattle.std.proofs.Common.{◌≡◌, ℕ, ◌+◌, ◌≤◌, [], ◌∷◌, ◌++◌, length, None, refl, ap, sym, ◌∙◌, subst}
use Rattle.std.proofs.lemmas.Option.{slice_get_within}
use Rattle.cache_ident.specs.declared.names.Name.TheVariants as name
use Rattle.cache_ident.specs.Residents.{IsNameResident}
use Rattle.flat_rules.specs.Readings.{OfThread}
use Rattle.cached_machine.specs.quantum.specs.LocalRun.{touched_views, CouldRun}
use Rattle.run_journal.specs.declared.entries.Entry.TheVariants.{Ran}
use Rattle.cached_machine.specs.desc_stores.specs.Contents.{residents_of}
use Rattle.cached_machine.specs.Aside.{Aside}
use Rattle.cached_machine.specs.Cached.{state_of}
use Rattle.cached_machine.specs.Posts.{mark_of}
use Rattle.board_core.specs.Core.{contents_of, Recorded}
use Rattle.board_core.specs.Growth.{AreOfLoaded, MayWrite}
use Rattle.board_core.proofs.AheadLaws.{ahead_sound}
use Rattle.board_core.proofs.RunningLaws.{loaded_stands, places_aside, thread_of_some}
use Rattle.board_core.proofs.SoundLaws.{grown_from, grows}
use Rattle.board_core.proofs.StampLaws.{have_places}
use Rattle.board_core.proofs.core_record.Core.run_ahead.Goals as goal

pub take_over-requires-clause-there : goal.take_over-requires-clause-there
take_over-requires-clause-there c =
    let loaded = subst (λ (b : Recorded). IsNameResident (residents_of (contents_of b)) (name.Thread c.args.no)) (sym c.self.view_is) c.requires.loaded in
    let m = c.self.inside.machine in
    let found = thread_of_some _ (loaded_stands m.machine m.memory m.held.contents c.args.no c.self.invariant.0.tables.1.whole.one loaded) in
    slice_get_within (state_of m).threads c.args.no.0 found.0 found.1

pub take_over-requires-clause-could : goal.take_over-requires-clause-could
take_over-requires-clause-could c = subst (λ (b : Recorded). OfThread (state_of b.machine) c.args.no.0 (λ t. CouldRun (state_of b.machine) t c.args.quantum.now)) (sym c.self.view_is) c.requires.could

pub take_over-requires-clause-places : goal.take_over-requires-clause-places
take_over-requires-clause-places c = have_places _ _ _ c.self.invariant.0.stamps

pub invariant_of-self : goal.invariant_of-self
invariant_of-self c =
    let back = sym c.self.view_is in
    let m = c.self.inside.machine in
    let write = subst (λ (b : Recorded). MayWrite b c.args.cpu 1) back c.requires.write in
    let loaded = subst (λ (b : Recorded). IsNameResident (residents_of (contents_of b)) (name.Thread c.args.no)) back c.requires.loaded in
    let unmarked = subst (λ (b : Recorded). mark_of (contents_of b) c.args.no ≡ None) back c.requires.unmarked in
    let could = subst (λ (b : Recorded). OfThread (state_of b.machine) c.args.no.0 (λ t. CouldRun (state_of b.machine) t c.args.quantum.now)) back c.requires.could in
    let views = subst (λ (b : Recorded). OfThread (state_of b.machine) c.args.no.0 (λ t. AreOfLoaded b t (touched_views c.args.quantum.now.views))) back c.requires.views in
    let left = subst (λ (b : Recorded). b.steps + c.args.quantum.now.steps ≤ b.limit) back c.requires.left in
    let found = thread_of_some _ (loaded_stands m.machine m.memory m.held.contents c.args.no c.self.invariant.0.tables.1.whole.one loaded) in (
      ahead_sound _ c.take_over.new.machine c.args.no found.0 c.args.quantum.now c.args.cpu c.self.invariant.0 write.sealed write.processor c.requires.some loaded unmarked
          found.1 (could found.0 found.1) c.steps-steps.ensures.local_run (views found.0 found.1) (c.take_over.ensures.state found.0 found.1) c.take_over.ensures.rest
          c.known.ensures.sound c.note.new.journal c.len.result c.steps-steps.result c.from.result _ c.steps-steps.ensures.steps (c.from.ensures ∙ c.steps-steps.ensures.steps) c.note.ensures.entries c.len.ensures left c.take_over.ensures.stamps,
      c.self.invariant.1 ∙ sym (ap (λ (a : Aside). length a.residents) c.take_over.ensures.rest),
    )

pub returns-clause-entries : goal.returns-clause-entries
returns-clause-entries c =
    let grown = c.note.ensures.entries ∙ ap (λ (k : ℕ). c.self.inside.journal.entries ++ Ran c.args.no k c.args.cpu ∷ []) c.steps-steps.ensures.steps in
    grown_from _ _ _ _ c.self.view_is
    (grows _ _ (Ran c.args.no c.args.quantum.now.steps c.args.cpu ∷ []) c.self.invariant.0 (invariant_of-self c).0 grown refl
    (ap (λ (a : Aside). a.machine) c.take_over.ensures.rest) (ap (λ (a : Aside). a.caps) c.take_over.ensures.rest) c.note.ensures.spare)

pub returns-clause-places : goal.returns-clause-places
returns-clause-places c = places_aside _ _ _ c.self.view_is c.take_over.ensures.rest refl refl

pub returns-clause-held : goal.returns-clause-held
returns-clause-held c = c.take_over.ensures.held
