-- What is said of a thread by its number, and what the parts of a look answer.
use Rattle.std.specs.Prelude.{◌≡◌, ℕ, ◌<◌, Bool, false, List, Option, Some, None, Result, Ok, Err, slice_get}
use Rattle.cache_ident.specs.declared.names.Frame.{Frame}
use Rattle.phys_groups.specs.declared.rows.Row.{Row}
use Rattle.phys_groups.specs.Memory.{HasFrame}
use Rattle.phys_groups.specs.Translation.{Translated, through}
use Rattle.rv32_exec.specs.declared.statuses.FaultKind.{FaultKind}
use Rattle.flat_state.specs.declared.records.FlatThread.{FlatThread}
use Rattle.flat_state.specs.State.{FlatState}
use Rattle.flat_state.specs.Translation.{is_fit_row, row_through, fault_kind}
use Rattle.flat_state.specs.WellFormed.{IsThread}

-- a fact of the thread of that number
abbrev pub OfThread : FlatState → ℕ → (FlatThread → Type 0) → Type 0
OfThread s n P = (t : FlatThread) → slice_get s.threads n ≡ Some t → P t

-- the thread could be one of the state's
abbrev pub IsThreadOf : FlatState → FlatThread → Type 0
IsThreadOf s t = IsThread s.spaces t.no.0 t

-- the frame is in memory, which has 2,048 frames at most
pub record IsInMemory (memory : List ℕ) (frame : Frame) : Type 0 where
  pub below : frame.0 < 2048
  pub within : HasFrame memory frame

-- an answer gives the row that an access goes through, or why it doesn't translate
abbrev pub Reaches : Result Row FaultKind → Translated → Type 0
Reaches (Ok row) t = t ≡ through row
Reaches (Err kind) t = (row_through t ≡ None) × (fault_kind t ≡ kind)

-- an answer gives the rule that is broken, or says that none is
abbrev pub Gives : Result (Unit {0}) ℕ → Option ℕ → Type 0
Gives (Ok x) rule = rule ≡ None
Gives (Err e) rule = rule ≡ Some e

-- is there a row, and is it fit?
abbrev pub is_fit_page : FlatState → Option Row → Bool
is_fit_page s None = false
is_fit_page s (Some row) = is_fit_row s row
