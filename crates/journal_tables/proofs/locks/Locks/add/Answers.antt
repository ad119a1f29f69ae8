use Rattle.std.proofs.Common.{◌+◌, ap}
use Rattle.std.specs.Prelude.{ℕ}
use Rattle.journal_tables.proofs.Recounting.{recounted}
use Rattle.journal_tables.proofs.locks.Locks.add.Goals as goal

pub returns : goal.returns
returns c =
    let updates = c.in_ok-insert.ensures.updates in
    recounted c.args.self.now (record { counts = c.insert.new.self }) c.args.kernel c.args.kind _ _ updates.1 (ap (λ (n : ℕ). n + 1) c.count-count.ensures) (λ q off. updates.2 q off)
