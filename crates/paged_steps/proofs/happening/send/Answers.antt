use Rattle.std.proofs.Common.{◌≡◌, ◌+◌, ◌*◌, ℕ, true, List, map, length, Some, slice_get, ap, sym, ◌∙◌, subst}
use Rattle.std.specs.Prelude.{slice_set}
use Rattle.cache_ident.specs.declared.names.ThreadNo.{ThreadNo}
use Rattle.cache_ident.specs.declared.names.Vpn.{Vpn}
use Rattle.phys_groups.specs.Memory.{word_bytes, written}
use Rattle.phys_groups.specs.Rows.{marked}
use Rattle.rv32_exec.specs.declared.statuses.Status.TheVariants.{Ready}
use Rattle.flat_state.specs.declared.records.FlatThread.{FlatThread}
use Rattle.flat_state.specs.State.{FlatState}
use Rattle.flat_state.specs.Signals.{receivers_of, sent}
use Rattle.memory_laws.specs.Apart.{over}
use Rattle.page_store.specs.Kept.{Means}
use Rattle.ahead_laws.specs.Signalled.{signalled_by}
use Rattle.paged_steps.specs.Aheads.{IsSentBy}
use Rattle.paged_steps.proofs.Sent.{sent_aligned, sent_frame, sent_offset, sent_room, sent_signalling, sent_state}
use Rattle.paged_steps.proofs.happening.send.Goals as goal

pub store_word-requires-clause-there : goal.store_word-requires-clause-there
store_word-requires-clause-there g c =
    let u = c.thread_at-thread.result.now in
    let sent = c.requires.sent u c.thread_at-thread.ensures.thread in
    sent_frame c.args.tables.now u c.args.what.now c.args.signal sent c.args.paged.now (g.K.Store.frames c.args.store.now) c.holds.ensures c.requires.frames

pub store_word-requires-clause-within : goal.store_word-requires-clause-within
store_word-requires-clause-within g c =
    let u = c.thread_at-thread.result.now in
    (sent_offset c.args.tables.now u c.args.what.now c.args.signal (c.requires.sent u c.thread_at-thread.ensures.thread)).0

pub store_word-requires-clause-aligned : goal.store_word-requires-clause-aligned
store_word-requires-clause-aligned g c =
    let u = c.thread_at-thread.result.now in
    (sent_offset c.args.tables.now u c.args.what.now c.args.signal (c.requires.sent u c.thread_at-thread.ensures.thread)).1

pub put-requires-clause-there : goal.put-requires-clause-there
put-requires-clause-there g c = rw (c.mark-2.ensures.state, c.mark.ensures.state) c.requires.there

pub put-requires-clause-aligned : goal.put-requires-clause-aligned
put-requires-clause-aligned g c =
    let u = c.thread_at-thread.result.now in
    sent_aligned c.args.tables.now u c.args.what.now c.args.signal (c.requires.sent u c.thread_at-thread.ensures.thread) (c.holds.ensures.threads.each c.args.no.0 u c.thread_at-thread.ensures.thread).aligned

pub deliver-requires-clause-room : goal.deliver-requires-clause-room
deliver-requires-clause-room g c =
    let old = c.args.tables.now in
    let u = c.thread_at-thread.result.now in
    let at = c.thread_at-thread.ensures.thread in
    let marks = c.mark-2.ensures.state ∙ ap (λ (s : FlatState). record s { rows = map (marked u.space c.args.what.now.vpn.0 true) s.rows }) c.mark.ensures.state in
    let there : slice_get c.mark-2.new.self.threads c.args.no.0 ≡ Some u = ap (λ (s : FlatState). slice_get s.threads c.args.no.0) marks ∙ at in
    let w : FlatThread = record u { context = c.args.what.now.context; status = Ready } in
    let threads : c.put.new.self.threads ≡ slice_set old.threads c.args.no.0 w = ap (λ (s : FlatState). s.threads) (c.put.ensures.state u there) ∙ ap (λ (s : FlatState). slice_set s.threads c.args.no.0 w) marks in
    sent_room old u c.args.what.now c.args.signal (c.requires.sent u at) c.args.no.0 c.put.new.self.threads c.deref.result.now c.holds.ensures at (c.requires.ready u at) (c.deref.ensures.0 ∙ c.receivers_for-receivers.ensures) c.requires.room threads

pub deliver-requires-clause-signalling : goal.deliver-requires-clause-signalling
deliver-requires-clause-signalling g c =
    let u = c.thread_at-thread.result.now in
    sent_signalling c.args.tables.now u c.args.what.now c.args.signal (c.requires.sent u c.thread_at-thread.ensures.thread)

pub deliver-requires-clause-page : goal.deliver-requires-clause-page
deliver-requires-clause-page g c =
    let u = c.thread_at-thread.result.now in
    (sent_offset c.args.tables.now u c.args.what.now c.args.signal (c.requires.sent u c.thread_at-thread.ensures.thread)).2

pub returns-clause-state : goal.returns-clause-state
returns-clause-state g c = λ m means t here.
    let old = c.args.tables.now in
    let what = c.args.what.now in
    let signal = c.args.signal in
    let u = c.thread_at-thread.result.now in
    let at = c.thread_at-thread.ensures.thread in
    let same : u ≡ t = (cc) in
    let mk1 = c.mark.new.self in
    let mk2 = c.mark-2.new.self in
    let marks = c.mark-2.ensures.state ∙ ap (λ (s : FlatState). record s { rows = map (marked u.space what.vpn.0 true) s.rows }) c.mark.ensures.state in
    let there : slice_get mk2.threads c.args.no.0 ≡ Some u = ap (λ (s : FlatState). slice_get s.threads c.args.no.0) marks ∙ at in
    let after = written m (4096 * signal.frame.0 + signal.offset) (word_bytes what.word) in
    let meant = c.in_ok-store_word.ensures.memory m means in
    subst (λ (x : FlatThread). (sent : IsSentBy old x what signal) → (n : List ℕ) × Means c.store_word.new.self (g.K.Store.bytes_held c.store_word.new.store) n × (over c.deliver.new.tables n ≡ signalled_by (over old m) c.args.no.0 x sent.va sent.value sent.row)) same
    (λ sent. (after, meant, sent_state old u what signal sent mk1 mk2 c.put.new.self c.deliver.new.tables m c.args.no.0 c.deref.result.now c.mark.ensures.state c.mark-2.ensures.state (c.put.ensures.state u there) c.deliver.ensures (c.deref.ensures.0 ∙ c.receivers_for-receivers.ensures)))

pub returns-clause-frames : goal.returns-clause-frames
returns-clause-frames g c =
    let u = c.thread_at-thread.result.now in
    let marks = c.mark-2.ensures.state ∙ ap (λ (s : FlatState). record s { rows = map (marked u.space c.args.what.now.vpn.0 true) s.rows }) c.mark.ensures.state in
    let there : slice_get c.mark-2.new.self.threads c.args.no.0 ≡ Some u = ap (λ (s : FlatState). slice_get s.threads c.args.no.0) marks ∙ c.thread_at-thread.ensures.thread in
    let pages : c.store_word.new.self.frames ≡ c.args.paged.now.frames = c.in_ok-store_word.ensures.frames in
    record {
      size =
          ap (λ (s : FlatState). length s.memory) c.deliver.ensures ∙ ap (λ (s : FlatState). length s.memory) (c.put.ensures.state u there) ∙ ap (λ (s : FlatState). length s.memory) marks
          ∙ c.requires.frames.size ∙ ap (λ (n : ℕ). 4096 * n) (sym pages);
      same = c.in_ok-store_word.ensures.store_frames ∙ c.requires.frames.same ∙ sym pages;
    }

pub returns-clause-threads : goal.returns-clause-threads
returns-clause-threads g c = λ t here.
    let old = c.args.tables.now in
    let what = c.args.what.now in
    let signal = c.args.signal in
    let n = c.args.no.0 in
    let u = c.thread_at-thread.result.now in
    let at = c.thread_at-thread.ensures.thread in
    let same : u ≡ t = (cc) in
    let marks = c.mark-2.ensures.state ∙ ap (λ (s : FlatState). record s { rows = map (marked u.space what.vpn.0 true) s.rows }) c.mark.ensures.state in
    let there : slice_get c.mark-2.new.self.threads n ≡ Some u = ap (λ (s : FlatState). slice_get s.threads n) marks ∙ at in
    ap (λ (s : FlatState). s.threads) c.deliver.ensures
    ∙ ap (λ (s : FlatState). sent s.threads signal.offset c.deref.result.now) (c.put.ensures.state u there)
    ∙ ap (λ (s : FlatState). sent (slice_set s.threads n (record u { context = what.context; status = Ready })) signal.offset c.deref.result.now) marks
    ∙ ap (λ (rs : List (ThreadNo × Vpn)). sent (slice_set old.threads n (record u { context = what.context; status = Ready })) signal.offset rs) (c.deref.ensures.0 ∙ c.receivers_for-receivers.ensures)
    ∙ ap (λ (x : FlatThread). sent (slice_set old.threads n (record x { context = what.context; status = Ready })) signal.offset (receivers_of old signal.frame)) same
