-- The tree in which a list stands, and how its nodes lie in a table.
use Rattle.std.specs.Prelude.{◌≡◌, ◌⊎◌, ℕ, List, [], ◌∷◌, ◌++◌, length, slice_get, Some, option_map}
use Rattle.sorted_list.specs.declared.nodes.Branch.{Branch}
use Rattle.sorted_list.specs.declared.nodes.Node.{Node}

-- a fork has a seat in the table, the tree of what is before it, its item, and the tree of what is behind it
pub data Tree (T : Type 0) : Type 0 where
  leaf : Tree T
  fork : ℕ → Tree T → T → Tree T → Tree T

module _ {T : Type 0} where
  -- the items in order
  abbrev pub items_of : Tree T → List T
  items_of leaf = []
  items_of (fork own before item behind) = items_of before ++ item ∷ items_of behind

  -- some fork of the tree has that seat
  abbrev pub HasSeat : Tree T → ℕ → Type 0
  HasSeat leaf seat = ⊥
  HasSeat (fork own before item behind) seat = (seat ≡ own) ⊎ (HasSeat before seat ⊎ HasSeat behind seat)

  -- the seat of the uppermost fork
  abbrev pub seat_of : Tree T → ℕ
  seat_of leaf = 0
  seat_of (fork own before item behind) = own

  -- the tree as a node above it names it
  abbrev pub branch_of : Tree T → Branch
  branch_of tree = record { seat = seat_of tree; count = length (items_of tree) }

  -- no seat is that of two forks
  pub record AreApart (own : ℕ) (before behind : Tree T) : Type 0 where
    pub not_before : HasSeat before own → ⊥
    pub not_behind : HasSeat behind own → ⊥
    pub apart : (seat : ℕ) → HasSeat before seat → HasSeat behind seat → ⊥

  -- each fork of the tree is written down at a seat of its own
  abbrev pub Lies : List (Node T) → Tree T → Type 0
  Lies nodes leaf = Unit {0}
  Lies nodes (fork own before item behind) = (slice_get nodes own ≡ Some (record { item = item; before = branch_of before; behind = branch_of behind })) × Lies nodes before × Lies nodes behind × AreApart own before behind

  -- a node with that item, and nothing before or behind it
  abbrev pub alone : T → Node T
  alone item = record { item = item; before = branch_of leaf; behind = branch_of leaf }

  -- such a node is written down at that seat
  abbrev pub IsAlone : List (Node T) → ℕ → T → Type 0
  IsAlone nodes seat item = slice_get nodes seat ≡ Some (alone item)

  -- the tree lies in the table, and the branch names it
  pub record Stands (nodes : List (Node T)) (branch : Branch) (tree : Tree T) : Type 0 where
    pub named : branch ≡ branch_of tree
    pub lies : Lies nodes tree

  -- the two trees stand where the node says that is to come to that seat
  pub record Joins (nodes : List (Node T)) (own : ℕ) (node : Node T) (before behind : Tree T) : Type 0 where
    pub before_it : Stands nodes node.before before
    pub behind_it : Stands nodes node.behind behind
    pub apart : AreApart own before behind

  -- a tree of these items stands there now, on seats of which the fact holds; what is at others is as it was
  pub record Becomes (old new : List (Node T)) (branch : Branch) (list : List T) (Own : ℕ → Type 0) : Type 0 where
    pub tree : Tree T
    pub stands : Stands new branch tree
    pub items : items_of tree ≡ list
    pub seats : (seat : ℕ) → HasSeat tree seat → Own seat
    pub others : (seat : ℕ) → (Own seat → ⊥) → slice_get new seat ≡ slice_get old seat

  -- the same for the items and seats of a tree
  abbrev pub Keeps : List (Node T) → List (Node T) → Branch → Tree T → Type 0
  Keeps old new branch tree = Becomes old new branch (items_of tree) (HasSeat tree)

  -- a fork of the tree at that seat has the item of that place
  abbrev pub IsItemAt : List (Node T) → ℕ → Tree T → ℕ → Type 0
  IsItemAt nodes seat tree place = HasSeat tree seat × (option_map (λ node. node.item) (slice_get nodes seat) ≡ slice_get (items_of tree) place)

  -- a tree is the node that stands at its seat, over the trees of its branches
  pub record Opens (nodes : List (Node T)) (branch : Branch) (node : Node T) (tree : Tree T) : Type 0 where
    pub before : Tree T
    pub behind : Tree T
    pub is : tree ≡ fork branch.seat before node.item behind
    pub joins : Joins nodes branch.seat node before behind
