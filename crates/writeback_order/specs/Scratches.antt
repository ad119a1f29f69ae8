-- What a contract sees of the room for an order.
use Rattle.std.specs.Prelude.{List}
use Rattle.cache_ident.specs.declared.names.Caps.{Caps}
use Rattle.depend_lists.specs.declared.nodes.Node.{Node}

-- the capacities that it was made for, and the last order
pub record LastOrder : Type 0 where
  pub caps : Caps
  pub nodes : List Node
