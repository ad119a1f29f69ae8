-- How a list lies in memory.
use Rattle.std.specs.Prelude.{◌≡◌, ◌≢◌, ℕ, zero, suc, ◌+◌, ◌<◌, ◌≤◌, ◌^◌, List, [], ◌∷◌, ◌++◌, length, slice_get, slice_set, Option, Some, None, ◌⊎◌, All, AllPairs}
use Rattle.sorted_list.specs.declared.nodes.Branch.{Branch}
use Rattle.sorted_list.specs.declared.nodes.Node.{Node}
use Rattle.sorted_list.specs.Trees.{Tree, HasSeat, Stands, alone, items_of}

module _ {T : Type 0} where
  -- the items below a node, where `below` are those of each branch
  abbrev pub items_of_node : (Branch → List T) → Option (Node T) → List T
  items_of_node below (Some node) = below node.before ++ node.item ∷ below node.behind
  items_of_node below None = []

  -- the items of a branch: none where it has no node. As many steps down are looked at
  abbrev pub items_down : ℕ → ℕ → List (Node T) → ℕ → List T
  items_down zero count nodes seat = []
  items_down (suc steps) zero nodes seat = []
  items_down (suc steps) (suc count) nodes seat = items_of_node (λ branch. items_down steps branch.count nodes branch.seat) (slice_get nodes seat)

  -- the items of a tree
  abbrev pub items_at : List (Node T) → Branch → List T
  items_at nodes root = items_down root.count root.count nodes root.seat

  -- a tree stands in the table, and each seat that none of its nodes has is spare
  pub record IsSound (room : ℕ) (root : Branch) (nodes : List (Node T)) (spare : List ℕ) : Type 0 where
    pub tree : Tree T
    pub stands : Stands nodes root tree
    pub counted : length nodes ≡ length (items_of tree) + length spare
    pub few : length nodes ≤ room
    pub small : room < 2 ^ 32
    pub spare_within : All (λ seat. seat < length nodes) spare
    pub spare_free : All (λ seat. HasSeat tree seat → ⊥) spare
    pub spare_once : AllPairs ◌≢◌ spare

  -- a node with that item alone came to a seat, which was the last spare one, or is a new one where there was no spare one
  abbrev pub IsSeated : List (Node T) → List ℕ → List (Node T) → List ℕ → ℕ → T → Type 0
  IsSeated nodes spare new_nodes new_spare seat item = ((spare ≡ new_spare ++ seat ∷ []) × (new_nodes ≡ slice_set nodes seat (alone item))) ⊎ ((spare ≡ []) × (new_spare ≡ []) × (seat ≡ length nodes) × (new_nodes ≡ nodes ++ alone item ∷ []))
