use Rattle.std.proofs.Common.{◌≡◌, ◌<◌, ℕ, List, Some, slice_get, length, subst, inl, inr, arith}
use Rattle.std.proofs.lemmas.Option.{slice_get_cases}
use Rattle.flat_state.specs.declared.records.FlatThread.{FlatThread}
use Rattle.flat_state.proofs.FormedParts.{memory_formed}
use Rattle.paged_steps.specs.Aheads.{StandsSo}
use Rattle.paged_steps.proofs.Held.{ends_free, takes_free}
use Rattle.paged_steps.proofs.looking.comes_next.Goals as goal

-- there is such a thread
there_is : (ts : List FlatThread) (n : ℕ) → n < length ts → (t : FlatThread) × (slice_get ts n ≡ Some t)
there_is ts n low = elim (slice_get_cases ts n).1 [
  | inl found ↦ (found.0, found.2)
  | inr past ↦ absurd (omega (arith, past.0, low))
]

pub returns-then-steps-gt0-clause-held : goal.returns-then-steps-gt0-clause-held
returns-then-steps-gt0-clause-held c = λ t here m size copies.
    let some : 0 < c.args.quantum.now.steps = subst (λ (n : ℕ). 0 < n) c.steps.ensures.steps c.if-steps-gt0.true in
    takes_free c.args.tables.now m c.args.no.0 t c.args.quantum.now (memory_formed c.args.tables.now m c.holds.ensures size) here (c.requires.ready t here) (c.requires.ahead t here) copies c.steps.ensures.local_run some

pub unreachable-requires : goal.unreachable-requires
unreachable-requires c =
    let u = there_is c.args.tables.now.threads c.args.no.0 c.requires.there in
    let some : 0 < c.args.quantum.now.steps = subst (StandsSo c.args.tables.now u.0 c.args.quantum.now) c.in-Whole.is (c.requires.stands u.0 u.1) in
    let none = c.if-steps-gt0.false in
    omega (arith, some, none, c.steps.ensures.steps)

pub sending-requires-clause-store : goal.sending-requires-clause-store
sending-requires-clause-store c =
    let u = there_is c.args.tables.now.threads c.args.no.0 c.requires.there in
    subst (StandsSo c.args.tables.now u.0 c.args.quantum.now) c.in-Signals.is (c.requires.stands u.0 u.1)

pub returns-in-Faults-clause-held : goal.returns-in-Faults-clause-held
returns-in-Faults-clause-held c = λ t here m size copies.
    let so = subst (StandsSo c.args.tables.now t c.args.quantum.now) c.in-Faults.is (c.requires.stands t here) in
    let ahead = c.requires.ahead t here in
    let none : c.args.quantum.now.steps ≡ 0 = omega (arith, c.if-steps-gt0.false, c.steps.ensures.steps) in
    ends_free c.args.tables.now m c.args.no.0 t c.args.quantum.now c.in-Faults.va c.in-Faults.access here (c.requires.ready t here) ahead (ahead.fresh none) copies so.0 so.1
