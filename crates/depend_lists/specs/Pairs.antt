-- The pairs of a parent and a child that depends on it.
use Rattle.std.specs.Prelude.{◌≡◌, ◌≢◌, ℕ, ◌+◌, ◌≤◌, not, List, length, map, filter, count_by, Contains, AllPairs}
use Rattle.std.specs.Ordering.{is_lt}
use Rattle.cache_ident.specs.declared.idents.Ident.{Ident}
use Rattle.cache_ident.specs.declared.idents.Kind.{Kind}
use Rattle.cache_ident.specs.declared.names.Caps.{Caps}
use Rattle.cache_ident.specs.contracts.idents.IdentOrd.TheImpl as ident_order
use Rattle.cache_ident.specs.Names.{amount_of}
use Rattle.cache_ident.specs.Rolls.{is_same}
use Rattle.depend_lists.specs.declared.nodes.Node.{Node}
use Rattle.depend_lists.specs.declared.nodes.TheConstants.{MOST_PARENTS}

-- what a contract sees: the capacities, and the pairs of a parent and a child
pub record Dependence : Type 0 where
  pub caps : Caps
  pub pairs : List (Ident × Node)

-- all that the caches of these capacities hold
abbrev pub count_of : Caps → ℕ
count_of caps = caps.kernels + caps.spaces + caps.threads + caps.mappings

-- the children of a parent
abbrev pub children_of : List (Ident × Node) → Ident → List Node
children_of pairs parent = map (λ pair. pair.1) (filter (λ pair. is_same pair.0 parent) pairs)

-- the pairs of other children
abbrev pub without : List (Ident × Node) → Ident → List (Ident × Node)
without pairs child = filter (λ pair. not (is_same pair.1.ident child)) pairs

-- how many parents a child has
abbrev pub parent_count : List (Ident × Node) → Ident → ℕ
parent_count pairs child = count_by (λ pair. is_same pair.1.ident child) pairs

-- how many pairs have a child before this one, in the order of identifiers
abbrev pub place_of : List (Ident × Node) → Ident → ℕ
place_of pairs child = count_by (λ pair. is_lt ((ident_order.ghosts).cmp pair.1.ident child)) pairs

-- the child has the class that it has in the pairs
abbrev pub HasOneClass : List (Ident × Node) → Node → Type 0
HasOneClass pairs child = (pair : Ident × Node) → Contains pairs pair → pair.1.ident ≡ child.ident → pair.1.class ≡ child.class

-- at most so many children are of the kind
abbrev pub HasAtMost : List (Ident × Node) → Kind → ℕ → Type 0
HasAtMost pairs kind most = (children : List Ident) × (length children ≤ most) × ((pair : Ident × Node) → Contains pairs pair → pair.1.ident.kind ≡ kind → Contains children pair.1.ident)

-- the children of each kind stay within the capacities
abbrev pub IsWithin : Caps → List (Ident × Node) → Type 0
IsWithin caps pairs = (kind : Kind) → HasAtMost pairs kind (amount_of caps kind)

-- what holds of all that depends: a child has one class and few parents, and no pair stands twice
pub record IsProper (dependence : Dependence) : Type 0 where
  pub one_class : (pair : Ident × Node) → Contains dependence.pairs pair → HasOneClass dependence.pairs pair.1
  pub few_parents : (child : Ident) → parent_count dependence.pairs child ≤ MOST_PARENTS
  pub once : AllPairs ◌≢◌ dependence.pairs
  pub within : IsWithin dependence.caps dependence.pairs

-- a pair of the list with that child
abbrev pub IsChildPair : List (Ident × Node) → Ident → Ident × Node → Type 0
IsChildPair pairs child pair = Contains pairs pair × (pair.1.ident ≡ child)

-- the child is one of these pairs
abbrev pub IsChild : List (Ident × Node) → Ident → Type 0
IsChild pairs child = (pair : Ident × Node) × IsChildPair pairs child pair

-- no other child of these pairs has the place
abbrev pub IsAloneAt : List (Ident × Node) → Ident → ℕ → Type 0
IsAloneAt pairs child place = (other : Ident) → IsChild pairs other → place_of pairs other ≡ place → other ≡ child
