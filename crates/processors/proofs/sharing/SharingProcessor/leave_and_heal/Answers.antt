use Rattle.std.proofs.Common.{◌∙◌, ap}
use Rattle.turn_lock.specs.Passes.{found_by, holder_first, seen_of, value_of}
use Rattle.processors.specs.Sharing.{seen_by, Sharer}
use Rattle.processors.proofs.Holding.{seen_on, sees_more, signed}
use Rattle.processors.proofs.Seeing.{own_if}
use Rattle.processors.proofs.sharing.SharingProcessor.leave_and_heal.Goals as goal

pub release-requires : goal.release-requires
release-requires g c =
    let at = c.self.inside in
    let held = c.hold-held in
    record { signed = signed at.cpu (value_of held.result) c.value_mut.result.now c.leave_and_heal-answer.new.board c.value_mut.ensures.value c.leave_and_heal-answer.ensures.event (holder_first held.result) (found_by held.result) held.ensures.found (held.ensures.range.0 ∙ c.self.invariant.number) }

pub returns-clause-continued : goal.returns-clause-continued
returns-clause-continued g c =
    let at = c.self.inside in
    let held = c.hold-held in
    let seen = seen_on at.cpu (value_of held.result) c.value_mut.result.now c.leave_and_heal-answer.new.board c.value_mut.ensures.value c.leave_and_heal-answer.ensures.event (seen_by at.pass) (seen_of c.release.result) held.ensures.begins c.release.ensures.seen in
    sees_more at.lock.now at.cpu at.pass c.release.result at.limit at.heard _ at.brought _ (c.release.ensures.range.1 ∙ held.ensures.range.1) seen c.args.self.now c.self.view_is

pub leave_and_heal-answer-requires : goal.leave_and_heal-answer-requires
leave_and_heal-answer-requires g c = record { processor = c.self.invariant.below; own = own_if c.self.inside.cpu c.args.self.now.cpu c.args.ticket (ap (λ (it : Sharer). it.cpu) c.self.view_is) c.requires.own }
