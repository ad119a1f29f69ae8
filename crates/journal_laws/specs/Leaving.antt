-- What left before a root, and what stays behind it.
use Rattle.std.specs.Prelude.{◌≡◌, ◌≢◌, ◌⊎◌, List, AllPairs, Contains}
use Rattle.cache_ident.specs.declared.names.Name.{Name}
use Rattle.cache_ident.specs.Residents.{Resident, IsNameResident}
use Rattle.run_journal.specs.flat_state.specs.State.{FlatState}
use Rattle.run_journal.specs.flat_state.specs.Dependence.{Depends}

-- something that it depends on isn't resident
abbrev pub LacksParent : FlatState → List Resident → Name → Type 0
LacksParent s rs name = (parent : Name) × Depends s name parent × (IsNameResident rs parent → ⊥)

-- each has an identifier and a name of its own
pub record HaveOneEach (rs : List Resident) : Type 0 where
  pub idents : (a b : Resident) → Contains rs a → Contains rs b → a.ident ≡ b.ident → a ≡ b
  pub names : (a b : Resident) → Contains rs a → Contains rs b → a.name ≡ b.name → a ≡ b

-- no two places of the list have one identifier. (`HaveOneEach` speaks of residents and not of places: it holds of a list
-- in which one resident stands twice, which is counted twice.)
abbrev pub AreApart : List Resident → Type 0
AreApart rs = AllPairs (λ a b. a.ident ≢ b.ident) rs

-- of what was resident before, these left, and then the root; the rest is resident after
pub record HaveLeft (before after gone : List Resident) (root : Resident) : Type 0 where
  pub one : HaveOneEach before
  pub last : Contains before root
  pub last_out : Contains after root → ⊥
  pub there : (r : Resident) → Contains gone r → Contains before r
  pub out : (r : Resident) → Contains gone r → Contains after r → ⊥
  pub other : (r : Resident) → Contains gone r → r ≢ root
  pub stay : (r : Resident) → Contains after r → Contains before r
  pub all : (r : Resident) → Contains before r → Contains after r ⊎ (Contains gone r ⊎ (r ≡ root))
