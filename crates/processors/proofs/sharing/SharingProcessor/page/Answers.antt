use Rattle.std.proofs.Common.{◌∙◌, ap}
use Rattle.turn_lock.specs.Passes.{found_by, holder_first, seen_of, value_of}
use Rattle.processors.specs.Sharing.{seen_by, Sharer}
use Rattle.processors.proofs.Holding.{seen_still, sees_more, signed_nothing}
use Rattle.processors.proofs.Seeing.{kept_found, views_found, views_seen}
use Rattle.processors.proofs.sharing.SharingProcessor.page.Goals as goal

pub release-requires : goal.release-requires
release-requires g c =
    let held = c.hold-held in
    record { signed = signed_nothing (holder_first held.result) (found_by held.result) (value_of held.result) held.ensures.found }

pub returns-clause-continued : goal.returns-clause-continued
returns-clause-continued g c =
    let at = c.self.inside in
    let held = c.hold-held in
    let seen = seen_still (seen_by at.pass) (seen_of c.release.result) (value_of held.result) held.ensures.begins c.release.ensures.seen in
    sees_more at.lock.now at.cpu at.pass c.release.result at.limit at.heard _ at.brought _ (c.release.ensures.range.1 ∙ held.ensures.range.1) seen c.args.self.now c.self.view_is

pub page-answer-requires-clause-kept : goal.page-answer-requires-clause-kept
page-answer-requires-clause-kept g c =
    let at = c.self.inside in
    kept_found (seen_by at.pass) c.args.self.now.seen (value_of c.hold-held.result) c.value.result.now c.args.quantum.now (ap (λ (it : Sharer). it.seen) c.self.view_is) c.value.ensures c.hold-held.ensures.begins c.requires.kept

pub returns-clause-views : goal.returns-clause-views
returns-clause-views g c = λ views.
    let at = c.self.inside in
    let b = c.value.result.now in
    let found = value_of c.hold-held.result in
    let thread = c.args.ticket.now.thread in
    views_seen (seen_of c.release.result) found b thread c.page-answer.new.quantum c.value.ensures c.release.ensures.seen
    (c.page-answer.ensures.views (views_found (seen_by at.pass) c.args.self.now.seen found b c.args.quantum.now (ap (λ (it : Sharer). it.seen) c.self.view_is) c.value.ensures c.hold-held.ensures.begins thread views))
