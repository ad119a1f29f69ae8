use Rattle.std.proofs.Common.{◌∙◌, sym, ap, arith}
use Rattle.turn_lock.specs.Passes.{found_by, holder_first, seen_of, value_of}
use Rattle.alone_run.specs.cache_board.specs.Pasts.{entries_of}
use Rattle.alone_run.specs.board_turns.specs.Holds as holds
use Rattle.processors.specs.Sharing.{seen_by, Sharer}
use Rattle.processors.proofs.Holding.{journal_seen, seen_on, sees_more, signed}
use Rattle.processors.proofs.Seeing.{kept_seen, ready_seen_if, so_seen_if, views_found}
use Rattle.processors.proofs.sharing.SharingProcessor.commit.Goals as goal

pub release-requires : goal.release-requires
release-requires g c =
    let at = c.self.inside in
    let held = c.hold-held in
    record { signed = signed c.args.ticket.now.cpu (value_of held.result) c.value_mut.result.now c.commit-answer.new.board c.value_mut.ensures.value c.commit-answer.ensures.event (holder_first held.result) (found_by held.result) held.ensures.found (held.ensures.range.0 ∙ (c.self.invariant.number ∙ (ap (λ (it : Sharer). it.cpu) c.self.view_is ∙ sym c.requires.own))) }

pub returns-in_err-committed-clause-continued : goal.returns-in_err-committed-clause-continued
returns-in_err-committed-clause-continued g c =
    let at = c.self.inside in
    let held = c.hold-held in
    let seen = seen_on c.args.ticket.now.cpu (value_of held.result) c.value_mut.result.now c.commit-answer.new.board c.value_mut.ensures.value c.commit-answer.ensures.event (seen_by at.pass) (seen_of c.release.result) held.ensures.begins c.release.ensures.seen in
    sees_more at.lock.now at.cpu at.pass c.release.result at.limit at.heard _ at.brought _ (c.release.ensures.range.1 ∙ held.ensures.range.1) seen c.args.self.now c.self.view_is

pub returns-clause-continued : goal.returns-clause-continued
returns-clause-continued g c =
    let at = c.self.inside in
    let held = c.hold-held in
    let seen = seen_on c.args.ticket.now.cpu (value_of held.result) c.value_mut.result.now c.commit-answer.new.board c.value_mut.ensures.value c.commit-answer.ensures.event (seen_by at.pass) (seen_of c.release.result) held.ensures.begins c.release.ensures.seen in
    sees_more at.lock.now at.cpu at.pass c.release.result at.limit at.heard _ at.brought _ (c.release.ensures.range.1 ∙ held.ensures.range.1) seen c.args.self.now c.self.view_is

pub commit-answer-requires : goal.commit-answer-requires
commit-answer-requires g c =
    let at = c.self.inside in
    let number = ap (λ (it : Sharer). it.cpu) c.self.view_is in
    record {
      processor = let below = c.self.invariant.below in let own = c.requires.own in omega (arith, below, own, number);
      views = views_found (seen_by at.pass) c.args.self.now.seen (value_of c.hold-held.result) c.value_mut.result.now c.args.quantum.now (ap (λ (it : Sharer). it.seen) c.self.view_is) c.value_mut.ensures.value c.hold-held.ensures.begins c.args.ticket.now.thread c.requires.views;
    }

pub returns-clause-so : goal.returns-clause-so
returns-clause-so g c =
    let at = c.self.inside in
    let new = c.commit-answer.new.board in
    so_seen_if c.args.ticket.now.cpu at.cpu at.limit new.journal.entries (entries_of (seen_of c.release.result)) (holds.found_by c.commit-answer.new.next c.in_ok-committed.committed)
    (c.requires.own ∙ sym (ap (λ (it : Sharer). it.cpu) c.self.view_is)) (journal_seen (seen_of c.release.result) new c.release.ensures.seen) c.in_ok-committed.ensures.so

pub returns-in_err-committed-clause-kept : goal.returns-in_err-committed-clause-kept
returns-in_err-committed-clause-kept g c = kept_seen (seen_of c.release.result) c.commit-answer.new.board c.commit-answer.new.quantum c.release.ensures.seen c.commit-answer.ensures.kept

pub returns-clause-kept : goal.returns-clause-kept
returns-clause-kept g c = kept_seen (seen_of c.release.result) c.commit-answer.new.board c.commit-answer.new.quantum c.release.ensures.seen c.commit-answer.ensures.kept

pub returns-clause-ready : goal.returns-clause-ready
returns-clause-ready g c =
    let quantum = c.commit-answer.new.quantum in
    ready_seen_if (seen_of c.release.result) c.commit-answer.new.board quantum (holds.found_by c.commit-answer.new.next c.in_ok-committed.committed) c.release.ensures.seen c.in_ok-committed.ensures.ready
