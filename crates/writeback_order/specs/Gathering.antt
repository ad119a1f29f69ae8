-- What holds while the dependents of a root are gathered.
use Rattle.std.specs.Prelude.{◌≡◌, ◌≢◌, ◌↔◌, ℕ, Bool, true, false, List, ◌++◌, map, slice_index_or, Contains, AllPairs, ◌⊎◌}
use Rattle.cache_ident.specs.declared.idents.Ident.{Ident}
use Rattle.depend_lists.specs.declared.nodes.Node.{Node}
use Rattle.depend_lists.specs.Pairs.{place_of}
use Rattle.writeback_order.specs.Order.{DependsOn}

-- no identifier stands twice
abbrev pub IsApart : List Node → Type 0
IsApart nodes = AllPairs (λ a b. a.ident ≢ b.ident) nodes

-- what was gathered depends on the root and isn't the root, each once
pub record IsGathered (pairs : List (Ident × Node)) (root : Ident) (nodes : List Node) : Type 0 where
  pub reached : (node : Node) → Contains nodes node → DependsOn pairs root node × (node.ident ≢ root)
  pub apart : IsApart nodes

-- the places of the nodes among the children of the pairs
abbrev pub places_of : List (Ident × Node) → List Node → List ℕ
places_of pairs nodes = map (λ node. place_of pairs node.ident) nodes

-- the marks that are set are those at the places of the nodes
abbrev pub IsMarked : List (Ident × Node) → List Node → List Bool → Type 0
IsMarked pairs nodes marks = (place : ℕ) → (slice_index_or marks place false ≡ true) ↔ Contains (places_of pairs nodes) place

-- no mark is set
abbrev pub IsClear : List Bool → Type 0
IsClear marks = (place : ℕ) → slice_index_or marks place false ≡ false

-- the children of the parent depend on the root
abbrev pub IsUnder : List (Ident × Node) → Ident → Ident → Type 0
IsUnder pairs root parent = (node : Node) → Contains pairs (parent, node) → DependsOn pairs root node

-- each child of the parent is the root or was gathered
abbrev pub HasChildrenOf : List (Ident × Node) → Ident → Ident → List Node → Type 0
HasChildrenOf pairs root parent nodes = (node : Node) → Contains pairs (parent, node) → (node.ident ≡ root) ⊎ Contains (map (λ node. node.ident) nodes) node.ident

-- the new list begins with the old one
abbrev pub IsExtended : List Node → List Node → Type 0
IsExtended old new = (more : List Node) × (new ≡ old ++ more)
