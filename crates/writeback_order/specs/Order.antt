-- What depends on a root, and the order in which it leaves.
use Rattle.std.specs.Prelude.{◌≡◌, ◌≢◌, ◌↔◌, ℕ, List, [], ◌∷◌, ◌++◌, Contains}
use Rattle.std.specs.declared.cmp.Ordering.{Ordering}
use Rattle.std.specs.Ordering.{nat_cmp, ordering_then}
use Rattle.cache_ident.specs.declared.idents.Ident.{Ident}
use Rattle.cache_ident.specs.contracts.idents.IdentOrd.TheImpl as ident_order
use Rattle.cache_ident.specs.declared.classes.Class.{Class}
use Rattle.cache_ident.specs.declared.classes.Class.TheVariants as class
use Rattle.depend_lists.specs.declared.nodes.Node.{Node}
use Rattle.sorted_list.specs.Sorted.{IsRising}

-- the node depends on the root: it is a child of the root, or of what depends on it
pub data DependsOn (pairs : List (Ident × Node)) (root : Ident) : Node → Type 0 where
  directly : {node : Node} → Contains pairs (root, node) → DependsOn pairs root node
  further : {between node : Node} → DependsOn pairs root between → Contains pairs (between.ident, node) → DependsOn pairs root node

-- all others that depend on the root
abbrev pub IsClosure : List (Ident × Node) → Ident → List Node → Type 0
IsClosure pairs root nodes = (node : Node) → Contains nodes node ↔ (DependsOn pairs root node × (node.ident ≢ root))

-- message rows leave first, then signal rows, other rows, threads, spaces, kernels
abbrev pub rank_of : Class → ℕ
rank_of class.MessageRow = 0
rank_of class.SignalRow = 1
rank_of class.OtherRow = 2
rank_of class.Thread = 3
rank_of class.Space = 4
rank_of class.Kernel = 5

-- which of two leaves first: by class, in one class by serial, and by the rest of the identifier where a serial stands twice
abbrev pub leaving_cmp : Node → Node → Ordering
leaving_cmp a b = ordering_then (ordering_then (nat_cmp (rank_of a.class) (rank_of b.class)) (nat_cmp a.ident.serial b.ident.serial)) ((ident_order.ghosts).cmp a.ident b.ident)

-- the order in which the root leaves with all that depends on it
pub record IsOrder (pairs : List (Ident × Node)) (root : Node) (nodes : List Node) : Type 0 where
  pub dependents : List Node
  pub closure : IsClosure pairs root.ident dependents
  pub rising : IsRising leaving_cmp dependents
  pub root_last : nodes ≡ dependents ++ root ∷ []
