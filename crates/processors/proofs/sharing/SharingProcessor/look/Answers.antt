use Rattle.std.proofs.Common.{ap, ◌∙◌}
use Rattle.turn_lock.specs.Passes.{found_by, holder_first, seen_of, value_of}
use Rattle.alone_run.specs.cache_board.specs.Pasts.{entries_of}
use Rattle.processors.specs.Sharing.{seen_by, Sharer}
use Rattle.processors.proofs.Holding.{journal_seen, seen_on, sees_more, signed}
use Rattle.processors.proofs.Seeing.{kept_found, kept_seen, ready_seen, so_seen}
use Rattle.processors.proofs.sharing.SharingProcessor.look.Goals as goal

pub release-requires : goal.release-requires
release-requires g c =
    let at = c.self.inside in
    let held = c.hold-held in
    record { signed = signed at.cpu (value_of held.result) c.value_mut.result.now c.look.new.board c.value_mut.ensures.value c.look.ensures.event (holder_first held.result) (found_by held.result) held.ensures.found (held.ensures.range.0 ∙ c.self.invariant.number) }

pub returns-clause-continued : goal.returns-clause-continued
returns-clause-continued g c =
    let at = c.self.inside in
    let held = c.hold-held in
    let seen = seen_on at.cpu (value_of held.result) c.value_mut.result.now c.look.new.board c.value_mut.ensures.value c.look.ensures.event (seen_by at.pass) (seen_of c.release.result) held.ensures.begins c.release.ensures.seen in
    sees_more at.lock.now at.cpu at.pass c.release.result at.limit at.heard _ at.brought _ (c.release.ensures.range.1 ∙ held.ensures.range.1) seen c.args.self.now c.self.view_is

pub returns-clause-so : goal.returns-clause-so
returns-clause-so g c =
    let at = c.self.inside in
    let new = c.look.new.board in
    so_seen at.cpu at.limit new.journal.entries (entries_of (seen_of c.release.result)) c.look.new.next (journal_seen (seen_of c.release.result) new c.release.ensures.seen) c.look.ensures.so

pub look-requires-clause-kept : goal.look-requires-clause-kept
look-requires-clause-kept g c =
    let at = c.self.inside in
    kept_found (seen_by at.pass) c.args.self.now.seen (value_of c.hold-held.result) c.value_mut.result.now c.args.quantum.now (ap (λ (it : Sharer). it.seen) c.self.view_is) c.value_mut.ensures.value c.hold-held.ensures.begins c.requires.kept

pub returns-clause-ready : goal.returns-clause-ready
returns-clause-ready g c = ready_seen (seen_of c.release.result) c.look.new.board c.look.new.quantum c.look.new.next c.release.ensures.seen c.look.ensures.ready

pub returns-clause-kept : goal.returns-clause-kept
returns-clause-kept g c = kept_seen (seen_of c.release.result) c.look.new.board c.look.new.quantum c.release.ensures.seen c.look.ensures.kept
