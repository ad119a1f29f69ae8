use Rattle.std.proofs.Common.{◌∙◌}
use Rattle.turn_lock.specs.Passes.{found_by, holder_first, seen_of, value_of}
use Rattle.processors.specs.Sharing.{seen_by}
use Rattle.processors.proofs.Holding.{seen_still, sees_more, signed_nothing}
use Rattle.processors.proofs.sharing.SharingProcessor.allows.Goals as goal

pub release-requires : goal.release-requires
release-requires g c =
    let held = c.hold-held in
    record { signed = signed_nothing (holder_first held.result) (found_by held.result) (value_of held.result) held.ensures.found }

pub returns-clause-continued : goal.returns-clause-continued
returns-clause-continued g c =
    let at = c.self.inside in
    let held = c.hold-held in
    let seen = seen_still (seen_by at.pass) (seen_of c.release.result) (value_of held.result) held.ensures.begins c.release.ensures.seen in
    sees_more at.lock.now at.cpu at.pass c.release.result at.limit at.heard _ at.brought _ (c.release.ensures.range.1 ∙ held.ensures.range.1) seen c.args.self.now c.self.view_is
