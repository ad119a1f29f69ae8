-- Lists of names in which each stands once.
use Rattle.std.specs.Prelude.{Bool, if◌then◌else◌, List, [], ◌∷◌, ◌++◌, Contains, Option, Some, None}
use Rattle.std.specs.List.{list_any}
use Rattle.cache_ident.specs.declared.names.Name.{Name}
use Rattle.cached_machine.specs.kind_store.specs.Changes.{is_name}

-- whether a name is in the list
abbrev pub has : List Name → Name → Bool
has names name = list_any (λ other. is_name other name) names

-- the list with a name behind it, if that isn't there
abbrev pub with_also : List Name → Name → List Name
with_also names name = if has names name then names else names ++ name ∷ []

-- .. if there is one
abbrev pub with_any : List Name → Option Name → List Name
with_any names None = names
with_any names (Some name) = with_also names name

-- no name stands twice
abbrev pub AreAllOnce : List Name → Type 0
AreAllOnce [] = Unit {0}
AreAllOnce (name ∷ names) = (Contains names name → ⊥) × AreAllOnce names
