-- What the borrow of the value leaves behind.
use Rattle.std.specs.Prelude.{[]}
use Rattle.std.specs.Borrow.{Lends, MutBor, Fml}
use mir.Syntax.{named}
use denote.RattleType.{RattleType}
use Rattle.turn_lock.specs.declared.held.Held.{Held}
use Rattle.turn_lock.specs.declared.history.History.{Ghosts}
use Rattle.turn_lock.specs.contracts.held.Held.{the_row}

-- the holder with this value
abbrev pub with_value : {X E : Type 0} → Held X E → X → Held X E
with_value h x = record h { value = x }

-- the holder ends with the last value behind r
abbrev pub LendsValue : (T U : RattleType) (g : Ghosts T.Denot U.Denot) → MutBor (Held T.Denot U.Denot) → MutBor T.Denot → Fml
LendsValue T U g h r = Lends (the_row (record { mir = named 1; lft = [] }) T U g) T h r (with_value h.now)
