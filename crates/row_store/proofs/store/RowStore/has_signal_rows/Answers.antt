use Rattle.std.proofs.Common.{◌≡◌, nat_lt, false, true, arith}
use Rattle.std.proofs.lemmas.Bool.{ltb-false, ltb-true, OnFalse_from, OnTrue_from}
use Rattle.row_store.proofs.SoundLemmas.{no_signal, some_signal}
use Rattle.row_store.proofs.store.RowStore.has_signal_rows.Goals as goal

pub returns-clause-some : goal.returns-clause-some
returns-clause-some c =
    let i = c.self.inside in
    OnTrue_from _ _ (λ (some : nat_lt 0 c.len.result ≡ true). some_signal i.room i.rows i.order i.signals i.by_frame c.self.invariant c.args.self.now c.self.view_is (omega (arith, ltb-true 0 c.len.result some, c.len.ensures.len)))

pub returns-clause-none : goal.returns-clause-none
returns-clause-none c =
    let i = c.self.inside in
    OnFalse_from _ _ (λ (none : nat_lt 0 c.len.result ≡ false). no_signal i.room i.rows i.order i.signals i.by_frame c.self.invariant c.args.self.now c.self.view_is (omega (arith, ltb-false 0 c.len.result none, c.len.ensures.len)))
