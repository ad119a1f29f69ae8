-- Pairs among what is resident, and what a load makes of them.
use Rattle.std.specs.Prelude.{◌≡◌, ◌≢◌, ◌⊎◌, ◌↔◌, ◌≤◌, List, ◌∷◌, Contains}
use Rattle.cache_ident.specs.declared.idents.Ident.{Ident}
use Rattle.cache_ident.specs.declared.idents.Kind.{Kind}
use Rattle.cache_ident.specs.declared.names.Caps.{Caps}
use Rattle.cache_ident.specs.declared.names.Name.{Name}
use Rattle.cache_ident.specs.Names.{amount_of}
use Rattle.cache_ident.specs.Residents.{Resident}
use Rattle.depend_lists.specs.declared.nodes.Node.{Node}
use Rattle.depend_lists.specs.Pairs.{IsWithin}
use Rattle.journal_laws.specs.flat_state.specs.State.{FlatState}
use Rattle.journal_laws.specs.flat_state.specs.Dependence.{Depends}
use Rattle.journal_laws.specs.run_journal.specs.Legal.{count_of}

-- what a contract sees: the capacities, the pairs of a parent and a child, and the last order of leaving
pub record Among : Type 0 where
  pub caps : Caps
  pub pairs : List (Ident × Node)
  pub order : List Node

-- the new pairs are the old ones, and those of the child with each of its parents
abbrev pub HasAlso : List (Ident × Node) → List (Ident × Node) → Node → List Ident → Type 0
HasAlso old new child parents = (pair : Ident × Node) → Contains new pair ↔ (Contains old pair ⊎ ((pair.1 ≡ child) × Contains parents pair.0))

-- the children of each kind stay within the capacities, with this one among them
abbrev pub HasRoomFor : Caps → List (Ident × Node) → Node → Type 0
HasRoomFor caps pairs child = (parent : Ident) → IsWithin caps ((parent, child) ∷ pairs)

-- these are the identifiers of all that the name depends on, of what is resident
pub record AreParents (s : FlatState) (rs : List Resident) (name : Name) (parents : List Ident) : Type 0 where
  pub sound : (ident : Ident) → Contains parents ident → (r : Resident) × Contains rs r × (r.ident ≡ ident) × Depends s name r.name
  pub complete : (r : Resident) → Contains rs r → Depends s name r.name → Contains parents r.ident

-- no resident has the identifier
abbrev pub HasNoIdent : List Resident → Ident → Type 0
HasNoIdent rs ident = (r : Resident) → Contains rs r → r.ident ≢ ident

-- of each kind no more are resident than the capacities allow
abbrev pub AreFew : Caps → List Resident → Type 0
AreFew caps rs = (kind : Kind) → count_of rs kind ≤ amount_of caps kind
