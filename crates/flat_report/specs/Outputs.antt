-- What all threads put out.
use Rattle.std.specs.Prelude.{ℕ, length, sum_by}
use Rattle.flat_state.specs.State.{FlatState}

-- how many bytes that is
abbrev pub output_bytes : FlatState → ℕ
output_bytes s = sum_by (λ t. length t.output) s.threads
