-- What a contract sees of declared names.
use Rattle.std.specs.Prelude.{◌≢◌, ℕ, ◌<◌, Bool, not, List, map, filter, AllPairs}
use Rattle.cache_ident.specs.declared.names.Name.{Name}
use Rattle.cache_ident.specs.contracts.names.NamePartialEq.TheImpl as names

-- how many more names can come without memory, and each stamp with its name in the order in which they were declared
pub record InOrder : Type 0 where
  pub room : ℕ
  pub entries : List (ℕ × Name)

-- the names in declared order
abbrev pub names_in : InOrder → List Name
names_in order = map (λ entry. entry.1) order.entries

-- whether the entry is that of the name
abbrev pub is_of : Name → ℕ × Name → Bool
is_of name entry = (names.ghosts).eq entry.1 name

-- the entries but that of the name
abbrev pub entries_without : List (ℕ × Name) → Name → List (ℕ × Name)
entries_without entries name = filter (λ entry. not (is_of name entry)) entries

-- stamps rise, and no name stands twice
pub record AreInOrder (entries : List (ℕ × Name)) : Type 0 where
  pub rising : AllPairs (λ a b. a.0 < b.0) entries
  pub once : AllPairs (λ a b. a.1 ≢ b.1) entries

-- what holds of all declared names
abbrev pub IsProper : InOrder → Type 0
IsProper order = AreInOrder order.entries
