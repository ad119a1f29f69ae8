-- What the threads of a space see of a machine, and what stands beside that.
use Rattle.std.specs.Prelude.{ℕ, Bool, List, [], Option}
use Rattle.cache_ident.specs.declared.names.SpaceNo.{SpaceNo}
use Rattle.phys_groups.specs.declared.rows.Row.{Row}
use Rattle.phys_groups.specs.Translation.{translated}
use Rattle.rv32_exec.specs.declared.statuses.Access.{Access}
use Rattle.rv32_exec.specs.Pages.{Page}
use Rattle.flat_rules.specs.flat_state.specs.State.{FlatState}
use Rattle.flat_rules.specs.flat_state.specs.Translation.{rights_of, row_through, wants}
use Rattle.flat_rules.specs.flat_state.specs.Pages.{pages_in}
use Rattle.flat_rules.specs.flat_state.specs.Rest.{Rest, rest_of}

-- memory and rows as the threads of a space see them, whose owner has those rights
pub record Seen : Type 0 where
  pub memory : List ℕ
  pub rows : List Row
  pub rights : List (Bool × Bool)
  pub space : SpaceNo

-- what the threads of a space see of a state
abbrev pub seen : FlatState → SpaceNo → Seen
seen s space = record { memory = s.memory; rows = s.rows; rights = rights_of s space; space = space }

-- the row that an access goes through
abbrev pub seen_row : Seen → Access → ℕ → Option Row
seen_row m access va = row_through (translated m.rights m.rows (wants access) m.space va)

-- the pages of the space, and what there is beside them
abbrev pub pages_seen : Seen → List Page
pages_seen m = pages_in m.rights m.memory m.rows m.space

abbrev pub rest_seen : Seen → Rest
rest_seen m = rest_of m.rights m.memory m.rows m.space

-- all but the pages of a space: what stands beside them in memory and in the rows, whatever is neither memory nor rows, and
-- by which name the tables are borrowed
pub record Beside : Type 0 where
  pub rest : Rest
  pub others : FlatState
  pub borrowed : ℕ

abbrev pub beside : FlatState → SpaceNo → ℕ → Beside
beside s space name = record { rest = rest_seen (seen s space); others = record s { memory = []; rows = [] }; borrowed = name }
