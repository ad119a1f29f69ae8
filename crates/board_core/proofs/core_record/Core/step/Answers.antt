-- A step is told by one entry, and the frame that it may have stored to has a new stamp.
use Rattle.std.proofs.Common.{◌≡◌, ◌<◌, [], ◌∷◌, ◌++◌, length, Some, Option, None, refl, ap, sym, ◌∙◌, subst, arith}
use Rattle.cache_ident.specs.declared.names.Frame.{Frame}
use Rattle.cache_ident.specs.declared.names.Name.TheVariants as name
use Rattle.cache_ident.specs.Residents.{IsNameResident}
use Rattle.flat_state.specs.NextSteps.{next_step}
use Rattle.run_journal.specs.declared.entries.Entry.{Entry}
use Rattle.run_journal.specs.Legal.{MayStep}
use Rattle.cached_machine.specs.desc_stores.specs.Contents.{residents_of}
use Rattle.cached_machine.specs.Aside.{Aside}
use Rattle.cached_machine.specs.Cached.{state_of}
use Rattle.cached_machine.specs.Posts.{mark_of}
use Rattle.board_core.specs.Core.{contents_of, Recorded}
use Rattle.board_core.specs.Growth.{MayWrite}
use Rattle.board_core.specs.Stamps.{stamped_at, IsWithin}
use Rattle.board_core.proofs.RunningLaws.{has_stored_stamp, places_aside, step_sound}
use Rattle.board_core.proofs.core_record.Core.step.Goals as goal

pub put_stamp-requires : goal.put_stamp-requires
put_stamp-requires c =
    let back = sym c.self.view_is in
    let write = subst (λ (b : Recorded). MayWrite b c.args.cpu 1) back c.requires.write in
    let is = subst (λ (b : Recorded). next_step (state_of b.machine) c.args.no.0 ≡ Some c.args.next.now) back c.requires.next in
    let may = subst (λ (b : Recorded). MayStep (state_of b.machine) (residents_of (contents_of b)) c.args.no c.args.next.now.faults) back c.requires.may in
    let loaded = subst (λ (b : Recorded). IsNameResident (residents_of (contents_of b)) (name.Thread c.args.no)) back c.requires.loaded in
    let unmarked = subst (λ (b : Recorded). mark_of (contents_of b) c.args.no ≡ None) back c.requires.unmarked in
    subst (λ (f : Option Frame). IsWithin f c.self.inside.stamps.items) (sym c.frame_stored-stored.ensures)
    (has_stored_stamp _ c.step.new.tables c.args.no c.args.next.now c.args.cpu c.self.invariant.0 write.sealed write.processor is may loaded unmarked c.step.ensures.state c.step.ensures.rest)

pub invariant_of-self : goal.invariant_of-self
invariant_of-self c =
    let back = sym c.self.view_is in
    let write = subst (λ (b : Recorded). MayWrite b c.args.cpu 1) back c.requires.write in
    let is = subst (λ (b : Recorded). next_step (state_of b.machine) c.args.no.0 ≡ Some c.args.next.now) back c.requires.next in
    let may = subst (λ (b : Recorded). MayStep (state_of b.machine) (residents_of (contents_of b)) c.args.no c.args.next.now.faults) back c.requires.may in
    let loaded = subst (λ (b : Recorded). IsNameResident (residents_of (contents_of b)) (name.Thread c.args.no)) back c.requires.loaded in
    let unmarked = subst (λ (b : Recorded). mark_of (contents_of b) c.args.no ≡ None) back c.requires.unmarked in
    let left = subst (λ (b : Recorded). b.steps < b.limit) back c.requires.left in
    let grown = c.note.ensures.entries ∙ ap (λ (e : Entry). c.self.inside.journal.entries ++ e ∷ []) c.entry_of_step.ensures in
    let news = c.put_stamp.ensures ∙ ap (λ (f : Option Frame). stamped_at f c.len.result c.self.inside.stamps.items) c.frame_stored-stored.ensures in (
      step_sound _ c.step.new.tables c.args.no c.args.next.now c.args.cpu c.self.invariant.0 write.sealed write.processor is may loaded unmarked c.step.ensures.state c.step.ensures.rest
          c.known.ensures.sound c.note.new.journal c.len.result _ grown c.len.ensures (omega arith) news,
      c.self.invariant.1 ∙ sym (ap (λ (a : Aside). length a.residents) c.step.ensures.rest),
    )

pub returns-clause-places : goal.returns-clause-places
returns-clause-places c = places_aside _ _ _ c.self.view_is c.step.ensures.rest refl refl
