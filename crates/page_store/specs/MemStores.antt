-- What a store over memory is.
use Rattle.std.specs.Prelude.{ℕ, ◌*◌, List, replicate}

-- its page groups and its bytes, the numbers of the calls that fail, the number of the next call, how many writes succeeded, and how
-- many calls failed
pub record Stock : Type 0 where
  pub groups : ℕ
  pub bytes : List ℕ
  pub failing : List ℕ
  pub calls : ℕ
  pub writes : ℕ
  pub faults : ℕ

-- one that was never called
abbrev pub new_stock : ℕ → List ℕ → Stock
new_stock groups failing = record { groups = groups; bytes = replicate (524288 * groups) 0; failing = failing; calls = 0; writes = 0; faults = 0 }
