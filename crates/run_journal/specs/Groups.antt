-- What depends on what among what is resident, and what leaves as one group.
use Rattle.std.specs.Prelude.{◌≡◌, ℕ, List, [], ◌∷◌, map, Contains}
use Rattle.cache_ident.specs.declared.idents.Cause.{Cause}
use Rattle.cache_ident.specs.declared.idents.Cause.TheVariants.{Dependent}
use Rattle.cache_ident.specs.declared.idents.Ident.{Ident}
use Rattle.cache_ident.specs.declared.names.Name.{Name}
use Rattle.cache_ident.specs.Residents.{Resident, IsNameResident}
use Rattle.flat_laws.specs.depend_lists.specs.declared.nodes.Node.{Node}
use Rattle.flat_laws.specs.writeback_order.specs.Order.{IsOrder}
use Rattle.flat_state.specs.State.{FlatState}
use Rattle.flat_state.specs.Dependence.{Depends}
use Rattle.flat_state.specs.Names.{class_of}
use Rattle.run_journal.specs.declared.entries.Entry.{Entry}
use Rattle.run_journal.specs.declared.entries.Entry.TheVariants.{WrittenBack}

-- a resident with its class
abbrev pub node_of : FlatState → Resident → Node
node_of s r = record { ident = r.ident; class = class_of s r.name }

-- a pair of a resident and a resident that depends on it
pub record IsPairOf (s : FlatState) (rs : List Resident) (pair : Ident × Node) : Type 0 where
  pub parent : Resident
  pub child : Resident
  pub parent_there : Contains rs parent
  pub child_there : Contains rs child
  pub of_parent : pair.0 ≡ parent.ident
  pub of_child : pair.1 ≡ node_of s child
  pub depends : Depends s child.name parent.name

-- the pairs are those of what is resident
pub record ArePairsOf (s : FlatState) (rs : List Resident) (pairs : List (Ident × Node)) : Type 0 where
  pub sound : (pair : Ident × Node) → Contains pairs pair → IsPairOf s rs pair
  pub complete : (parent child : Resident) → Contains rs parent → Contains rs child → Depends s child.name parent.name
      → Contains pairs (parent.ident, node_of s child)

-- nothing resident depends on the name
abbrev pub NothingDependsOn : FlatState → List Resident → Name → Type 0
NothingDependsOn s rs name = (child : Resident) → Contains rs child → Depends s child.name name → ⊥

-- all that the name depends on is resident
abbrev pub HasParents : FlatState → List Resident → Name → Type 0
HasParents s rs name = (parent : Name) → Depends s name parent → IsNameResident rs parent

-- these identifiers, in this order, are all that depends on the last one, and itself, of what is resident
pub record IsGroup (s : FlatState) (rs : List Resident) (last : Resident) (idents : List Ident) : Type 0 where
  pub pairs : List (Ident × Node)
  pub are : ArePairsOf s rs pairs
  pub nodes : List Node
  pub order : IsOrder pairs (node_of s last) nodes
  pub whole : idents ≡ map (λ n. n.ident) nodes

-- the entries of a group: its dependents leave in order, and then the last one for its cause
abbrev pub departures : ℕ → List Node → Ident → Cause → List Entry
departures cpu [] last cause = WrittenBack last cause cpu ∷ []
departures cpu (node ∷ nodes) last cause = WrittenBack node.ident Dependent cpu ∷ departures cpu nodes last cause
