-- The order of kernels, spaces and threads.
use Rattle.std.specs.Prelude.{◌≡◌, ℕ, ◌<◌, ◌⊎◌, Bool, true, false, List, [], ◌∷◌, Contains}
use Rattle.cache_ident.specs.declared.names.Name.{Name}
use Rattle.cache_ident.specs.declared.names.Name.TheVariants.{Kernel, Space, Thread, Mapping}

-- the name is that of a row
abbrev pub is_row : Name → Bool
is_row (Mapping space vpn) = true
is_row _ = false

abbrev pub rank_of : Name → ℕ
rank_of (Kernel kernel) = 0
rank_of (Space space) = 1
rank_of (Thread thread) = 2
rank_of (Mapping space vpn) = 3

abbrev pub number_of : Name → ℕ
number_of (Kernel kernel) = kernel.0
number_of (Space space) = space.0
number_of (Thread thread) = thread.0
number_of (Mapping space vpn) = vpn.0

-- kernels come before spaces, and these before threads, each by their numbers
abbrev pub IsBefore : Name → Name → Type 0
IsBefore one other = (rank_of one < rank_of other) ⊎ ((rank_of one ≡ rank_of other) × (number_of one < number_of other))

abbrev pub AreInOrder : List Name → Type 0
AreInOrder [] = Unit {0}
AreInOrder (name ∷ names) = ((other : Name) → Contains names other → IsBefore name other) × AreInOrder names
