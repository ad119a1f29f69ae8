use Rattle.std.proofs.Common.{◌≡◌, true, false, List, map, Option, None, Some, is_some, refl, sym, ap, ◌∙◌}
use Rattle.cache_ident.specs.declared.names.ThreadNo.{ThreadNo}
use Rattle.cache_ident.specs.declared.names.Vpn.{Vpn}
use Rattle.flat_state.specs.Signals.{full_among, receivers_of}
use Rattle.paged_steps.proofs.Held.{sends_free}
use Rattle.paged_steps.proofs.Sending.{held_so}
use Rattle.paged_steps.proofs.looking.sending.Goals as goal

none_of : {X : Type 0} (o : Option X) → is_some o ≡ false → o ≡ None
none_of None e = refl
none_of (Some x) e = absurd (cc)

pub returns-then-is_some-clause-held : goal.returns-then-is_some-clause-held
returns-then-is_some-clause-held c = λ t here m size copies.
    let ahead = c.requires.ahead t here in
    let signal = c.signal_of-signal.result in
    let full_is : c.full_among.result ≡ full_among c.args.tables.now.threads (map (λ r. r.0) (receivers_of c.args.tables.now signal.frame)) =
    c.full_among.ensures ∙ ap (λ (rs : List (ThreadNo × Vpn)). full_among c.args.tables.now.threads (map (λ r. r.0) rs)) (c.deref.ensures.0 ∙ c.receivers_for-receivers.ensures) in
    held_so c.args.tables.now t c.args.quantum.now c.args.what ahead (ahead.fresh c.requires.fresh) c.requires.store signal (c.signal_of-signal.ensures t here) m copies (c.requires.ready t here)
    (ap is_some (sym full_is) ∙ sym c.is_some.ensures ∙ c.if-is_some.true)

pub returns-then-is_some-clause-does : goal.returns-then-is_some-clause-does
returns-then-is_some-clause-does c = λ t here.
    let signal = c.signal_of-signal.result in
    let full_is : c.full_among.result ≡ full_among c.args.tables.now.threads (map (λ r. r.0) (receivers_of c.args.tables.now signal.frame)) =
    c.full_among.ensures ∙ ap (λ (rs : List (ThreadNo × Vpn)). full_among c.args.tables.now.threads (map (λ r. r.0) rs)) (c.deref.ensures.0 ∙ c.receivers_for-receivers.ensures) in
    record {
      ready = c.requires.ready t here;
      ahead = c.requires.ahead t here;
      first = c.requires.fresh;
      store = c.args.what;
      told = c.requires.store;
      signal = signal;
      sent = c.signal_of-signal.ensures t here;
      full = ap is_some (sym full_is) ∙ sym c.is_some.ensures ∙ c.if-is_some.true;
    }

pub returns-clause-does : goal.returns-clause-does
returns-clause-does c = λ t here.
    let signal = c.signal_of-signal.result in
    let full_is : c.full_among.result ≡ full_among c.args.tables.now.threads (map (λ r. r.0) (receivers_of c.args.tables.now signal.frame)) =
    c.full_among.ensures ∙ ap (λ (rs : List (ThreadNo × Vpn)). full_among c.args.tables.now.threads (map (λ r. r.0) rs)) (c.deref.ensures.0 ∙ c.receivers_for-receivers.ensures) in
    (c.requires.fresh, c.requires.store, c.signal_of-signal.ensures t here, none_of _ (ap is_some (sym full_is) ∙ sym c.is_some.ensures ∙ c.if-is_some.false))

pub returns-clause-held : goal.returns-clause-held
returns-clause-held c = λ t here m size copies.
    let ahead = c.requires.ahead t here in
    let signal = c.signal_of-signal.result in
    let full_is : c.full_among.result ≡ full_among c.args.tables.now.threads (map (λ r. r.0) (receivers_of c.args.tables.now signal.frame)) =
    c.full_among.ensures ∙ ap (λ (rs : List (ThreadNo × Vpn)). full_among c.args.tables.now.threads (map (λ r. r.0) rs)) (c.deref.ensures.0 ∙ c.receivers_for-receivers.ensures) in
    sends_free c.args.tables.now m t c.args.quantum.now c.args.what signal ahead (ahead.fresh c.requires.fresh) c.requires.store (c.signal_of-signal.ensures t here) copies
    (ap is_some (sym full_is) ∙ sym c.is_some.ensures ∙ c.if-is_some.false)
