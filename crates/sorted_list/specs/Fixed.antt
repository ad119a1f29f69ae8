-- What a contract sees of a list in memory that is made once.
use Rattle.std.specs.Prelude.{ℕ, List}

-- how many items there can be, and the items
pub record Fixed (T : Type 0) : Type 0 where
  pub room : ℕ
  pub items : List T
