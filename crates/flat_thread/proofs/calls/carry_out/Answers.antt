use Rattle.std.proofs.Common.{◌≡◌, refl, ap, sym, ◌∙◌}
use Rattle.fault_forward.specs.declared.effects.Effect.TheVariants as effects
use Rattle.flat_state.specs.declared.records.FlatThread.{FlatThread}
use Rattle.flat_thread.specs.Calls.{call_of, own_part_so, thread_of}
use Rattle.flat_thread.proofs.CallKeeps.{carried, left_over, on_err, queue_stays}
use Rattle.flat_thread.proofs.calls.carry_out.Goals as goal

pub returns-in-Ready-clause-effect : goal.returns-in-Ready-clause-effect
returns-in-Ready-clause-effect c = c.effect-effect.ensures.effect

pub returns-in-Ready-clause-ok : goal.returns-in-Ready-clause-ok
unfolding call_of
returns-in-Ready-clause-ok c = λ space priority.
    let t : FlatThread = thread_of c.args.no space priority c.args.context.now c.args.status.now c.args.queue.now c.args.output.now in
    let e : (call_of t).effect ≡ effects.Ready = sym c.effect-effect.ensures.effect ∙ c.in-Ready.is in
    carried t c.resume.new.context c.resume.new.status c.effect-effect.new.queue t.output t.output (c.resume.ensures.context ∙ c.effect-effect.ensures.context) c.resume.ensures.status c.effect-effect.ensures.queue refl ∙ sym (ap (own_part_so t (call_of t)) e)

pub returns-in_ok-append-in-Put-clause-effect : goal.returns-in_ok-append-in-Put-clause-effect
returns-in_ok-append-in-Put-clause-effect c = sym c.in-Put.is ∙ c.effect-effect.ensures.effect

pub returns-in_ok-append-in-Put-clause-ok : goal.returns-in_ok-append-in-Put-clause-ok
unfolding call_of
returns-in_ok-append-in-Put-clause-ok c = λ space priority.
    let t : FlatThread = thread_of c.args.no space priority c.args.context.now c.args.status.now c.args.queue.now c.args.output.now in
    let e : (call_of t).effect ≡ effects.Put c.in-Put.byte = sym c.effect-effect.ensures.effect ∙ c.in-Put.is in
    carried t c.resume-in-Put.new.context c.resume-in-Put.new.status c.effect-effect.new.queue c.append.new.self _ (c.resume-in-Put.ensures.context ∙ c.effect-effect.ensures.context) c.resume-in-Put.ensures.status c.effect-effect.ensures.queue c.in_ok-append-in-Put.ensures.ok ∙ sym (ap (own_part_so t (call_of t)) e)

pub returns-in_ok-put_decimal-in-Decimal-clause-effect : goal.returns-in_ok-put_decimal-in-Decimal-clause-effect
returns-in_ok-put_decimal-in-Decimal-clause-effect c = sym c.in-Decimal.is ∙ c.effect-effect.ensures.effect

pub returns-in_ok-put_decimal-in-Decimal-clause-ok : goal.returns-in_ok-put_decimal-in-Decimal-clause-ok
unfolding call_of
returns-in_ok-put_decimal-in-Decimal-clause-ok c = λ space priority.
    let t : FlatThread = thread_of c.args.no space priority c.args.context.now c.args.status.now c.args.queue.now c.args.output.now in
    let e : (call_of t).effect ≡ effects.Decimal c.in-Decimal.number = sym c.effect-effect.ensures.effect ∙ c.in-Decimal.is in
    carried t c.resume-in-Decimal.new.context c.resume-in-Decimal.new.status c.effect-effect.new.queue c.put_decimal.new.output _ (c.resume-in-Decimal.ensures.context ∙ c.effect-effect.ensures.context) c.resume-in-Decimal.ensures.status c.effect-effect.ensures.queue c.in_ok-put_decimal-in-Decimal.ensures.ok ∙ sym (ap (own_part_so t (call_of t)) e)

pub returns-in-End-clause-effect : goal.returns-in-End-clause-effect
returns-in-End-clause-effect c = sym c.in-End.is ∙ c.effect-effect.ensures.effect

pub returns-in-End-clause-ok : goal.returns-in-End-clause-ok
unfolding call_of
returns-in-End-clause-ok c = λ space priority.
    let t : FlatThread = thread_of c.args.no space priority c.args.context.now c.args.status.now c.args.queue.now c.args.output.now in
    let e : (call_of t).effect ≡ effects.End c.in-End.reason = sym c.effect-effect.ensures.effect ∙ c.in-End.is in
    rw (queue_stays t c.effect-effect.new.queue c.effect-effect.ensures.queue (λ ready. let no = sym ready ∙ e in cc)) (sym (ap (own_part_so t (call_of t)) e))

pub returns-in_default-clause-effect : goal.returns-in_default-clause-effect
returns-in_default-clause-effect c = c.effect-effect.ensures.effect

pub returns-in_default-clause-ok : goal.returns-in_default-clause-ok
unfolding call_of
returns-in_default-clause-ok c = λ space priority.
    let t : FlatThread = thread_of c.args.no space priority c.args.context.now c.args.status.now c.args.queue.now c.args.output.now in
    let e = c.effect-effect.ensures.effect in
    let rest = left_over t (call_of t) (call_of t).effect (λ is. c.in_default.not-Ready (e ∙ is)) (λ byte is. c.in_default.not-Put byte (e ∙ is)) (λ number is. c.in_default.not-Decimal number (e ∙ is)) (λ reason is. c.in_default.not-End reason (e ∙ is)) in
    rw (queue_stays t c.effect-effect.new.queue c.effect-effect.ensures.queue (λ is. c.in_default.not-Ready (e ∙ is))) (sym rest)

pub returns-in_err-append-in-Put-clause-err : goal.returns-in_err-append-in-Put-clause-err
unfolding call_of
returns-in_err-append-in-Put-clause-err c =
    let t : FlatThread = thread_of c.args.no (record { 0 = 0 }) 0 c.args.context.now c.args.status.now c.args.queue.now c.args.output.now in
    let e : (call_of t).effect ≡ effects.Put c.in-Put.byte = sym c.effect-effect.ensures.effect ∙ c.in-Put.is in
    on_err c.from_residual.result (record { context = refl; status = refl; queue = queue_stays t c.effect-effect.new.queue c.effect-effect.ensures.queue (λ ready. let other = sym ready ∙ e in cc); output = c.in_err-append-in-Put.ensures.err })

pub returns-in_err-put_decimal-in-Decimal-clause-err : goal.returns-in_err-put_decimal-in-Decimal-clause-err
unfolding call_of
returns-in_err-put_decimal-in-Decimal-clause-err c =
    let t : FlatThread = thread_of c.args.no (record { 0 = 0 }) 0 c.args.context.now c.args.status.now c.args.queue.now c.args.output.now in
    let e : (call_of t).effect ≡ effects.Decimal c.in-Decimal.number = sym c.effect-effect.ensures.effect ∙ c.in-Decimal.is in
    on_err c.from_residual-in_err-put_decimal-in-Decimal.result (record { context = refl; status = refl; queue = queue_stays t c.effect-effect.new.queue c.effect-effect.ensures.queue (λ ready. let other = sym ready ∙ e in cc); output = c.in_err-put_decimal-in-Decimal.ensures.err })
