-- Room for few pairs, whatever their children, as tests have it.
use Rattle.std.specs.Prelude.{ℕ, ◌≤◌}
use Rattle.cache_ident.specs.declared.names.Caps.{Caps}

-- each capacity is at least so large
abbrev pub IsRoomy : Caps → ℕ → Type 0
IsRoomy caps most = (most ≤ caps.kernels) × (most ≤ caps.spaces) × (most ≤ caps.threads) × (most ≤ caps.mappings)
