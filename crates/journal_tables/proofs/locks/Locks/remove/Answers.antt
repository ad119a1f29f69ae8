use Rattle.std.proofs.Common.{◌≡◌, ◌-◌, ◌<◌, ◌≤◌, ℕ, Option, None, ap, arith}
use Rattle.std.specs.Prelude.{unwrap_or}
use Rattle.residents.proofs.TableLemmas.{unless_err}
use Rattle.journal_tables.specs.Locks.{lock_count}
use Rattle.journal_tables.proofs.Recounting.{recounted}
use Rattle.journal_tables.proofs.locks.Locks.remove.Goals as goal

pub returns-then-count-gt1 : goal.returns-then-count-gt1
returns-then-count-gt1 c =
    let some : 1 < c.count-count.result = omega arith in
    let updates = unless_err c.insert.result _ _ c.insert.ensures.updates c.insert.ensures.absent (λ none.
    let nothing : lock_count c.args.self.now c.args.kernel c.args.kind ≡ 0 = ap (λ (o : Option ℕ). unwrap_or o 0) none in
    let count = c.count-count.ensures in
    omega arith) in
    recounted c.args.self.now (record { counts = c.insert.new.self }) c.args.kernel c.args.kind _ _ updates.1 (ap (λ (n : ℕ). n - 1) c.count-count.ensures) (λ q off. updates.2 q off)

pub returns-else-count-gt1 : goal.returns-else-count-gt1
returns-else-count-gt1 c =
    let updates = c.remove.ensures.updates in
    let few : c.count-count.result ≤ 1 = omega arith in
    let count = c.count-count.ensures in
    let none : 0 ≡ lock_count c.args.self.now c.args.kernel c.args.kind - 1 = omega arith in
    recounted c.args.self.now (record { counts = c.remove.new.self }) c.args.kernel c.args.kind None _ updates.1 none (λ q off. updates.2 q off)
