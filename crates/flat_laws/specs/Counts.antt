-- How many names of a kind there are in a list.
use Rattle.std.specs.Prelude.{◌≡◌, ℕ, ◌≤◌, List, length, Contains}
use Rattle.cache_ident.specs.declared.idents.Kind.{Kind}
use Rattle.cache_ident.specs.declared.names.Name.{Name}
use Rattle.cache_ident.specs.Names.{kind_of}

-- the different names of a kind in a list are at most so many: so many names have them all among them
pub record AtMost (most : ℕ) (kind : Kind) (names : List Name) : Type 0 where
  pub among : List Name
  pub few : length among ≤ most
  pub all : (name : Name) → kind_of name ≡ kind → Contains names name → Contains among name
