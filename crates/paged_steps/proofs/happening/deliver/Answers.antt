use Rattle.std.proofs.Common.{◌≡◌, ℕ, ◌+◌, List, get_or, refl, sym, ap, subst, ◌∙◌}
use Rattle.std.specs.List.{slice_get}
use Rattle.std.proofs.lemmas.List.{drop_more}
use Rattle.std.proofs.lemmas.Option.{slice_get-get_or}
use Rattle.cache_ident.specs.declared.names.ThreadNo.{ThreadNo}
use Rattle.cache_ident.specs.declared.names.Vpn.{Vpn}
use Rattle.signal_pages.specs.Signals.{address_of}
use Rattle.flat_state.specs.declared.records.FlatThread.{FlatThread}
use Rattle.flat_state.specs.State.{FlatState}
use Rattle.flat_state.specs.Signals.{sent_to}
use Rattle.flat_machine.specs.flat_events.proofs.SendLaws.{IsSending, sending_more, sending_none, sending_room}
use Rattle.paged_steps.proofs.happening.deliver.Goals as goal

pub loop-receiver-init : goal.loop-receiver-init
loop-receiver-init c = record {
  state = refl;
  sending = sending_none c.args.tables.now.spaces c.args.offset c.args.tables.now.threads c.args.receivers.now c.holds.ensures.threads c.requires.room;
}

pub address-requires-clause-page : goal.address-requires-clause-page
address-requires-clause-page c =
    let i = c.loop-receiver.receiver-index in
    (c.loop-receiver.invariant.sending.each i _ (slice_get-get_or c.args.receivers.now i (record { 0 = 0 }, record { 0 = 0 }) c.loop-receiver-test.true)).1

pub give-requires-clause-there : goal.give-requires-clause-there
give-requires-clause-there c =
    let i = c.loop-receiver.receiver-index in
    (c.loop-receiver.invariant.sending.each i _ (slice_get-get_or c.args.receivers.now i (record { 0 = 0 }, record { 0 = 0 }) c.loop-receiver-test.true)).0

pub give-requires-clause-room : goal.give-requires-clause-room
give-requires-clause-room c =
    let now = c.loop-receiver.tables in
    let before = c.args.tables.now in
    let i = c.loop-receiver.receiver-index in
    let rs = c.args.receivers.now in
    let r : ThreadNo × Vpn = get_or rs i (record { 0 = 0 }, record { 0 = 0 }) in
    sending_room before.spaces c.args.offset before.threads now.threads rs i r (slice_get-get_or rs i (record { 0 = 0 }, record { 0 = 0 }) c.loop-receiver-test.true) (drop_more rs i (record { 0 = 0 }, record { 0 = 0 }) c.loop-receiver-test.true) c.loop-receiver.invariant.sending

pub loop-receiver-preserved : goal.loop-receiver-preserved
loop-receiver-preserved c =
    let now = c.loop-receiver.tables in
    let before = c.args.tables.now in
    let i = c.loop-receiver.receiver-index in
    let rs = c.args.receivers.now in
    let r : ThreadNo × Vpn = get_or rs i (record { 0 = 0 }, record { 0 = 0 }) in
    let more = sending_more before.spaces c.args.offset before.threads now.threads rs i r (slice_get-get_or rs i (record { 0 = 0 }, record { 0 = 0 }) c.loop-receiver-test.true) (drop_more rs i (record { 0 = 0 }, record { 0 = 0 }) c.loop-receiver-test.true) c.loop-receiver.invariant.sending in
    let sent_one : c.give.new.self ≡ record now { threads = sent_to now.threads r.0 c.address.result (slice_get now.threads r.0.0) } = c.give.ensures.state in
    let threads : c.give.new.self.threads ≡ sent_to now.threads r.0 (address_of r.1 c.args.offset) (slice_get now.threads r.0.0) =
    ap (λ (t : FlatState). t.threads) sent_one ∙ ap (λ (va : ℕ). sent_to now.threads r.0 va (slice_get now.threads r.0.0)) c.address.ensures in
    record {
      state = sent_one ∙ ap (λ (t : FlatState). record t { threads = sent_to now.threads r.0 c.address.result (slice_get now.threads r.0.0) }) c.loop-receiver.invariant.state ∙ ap (λ (ts : List FlatThread). record before { threads = ts }) (sym (ap (λ (t : FlatState). t.threads) sent_one));
      sending = subst (λ (ts : List FlatThread). IsSending before.spaces c.args.offset before.threads ts rs (i + 1)) (sym threads) more;
    }
