-- Since which place of a journal a frame has its bytes.
use Rattle.std.specs.Prelude.{◌≡◌, ℕ, ◌<◌, ◌≤◌, ◌⊎◌, if◌then◌else◌, List, length, take, Option, Some, None, slice_get, slice_set}
use Rattle.cache_ident.specs.declared.names.Frame.{Frame}
use Rattle.cache_ident.specs.declared.names.Name.{Name}
use Rattle.cache_ident.specs.declared.names.Name.TheVariants.{Mapping}
use Rattle.phys_groups.specs.declared.rows.Row.{Row}
use Rattle.phys_groups.specs.Memory.{page_at, HasFrame}
use Rattle.phys_groups.specs.Translation.{row_of}
use Rattle.flat_state.specs.declared.events.Decl.{Decl}
use Rattle.flat_state.specs.declared.events.Decl.TheVariants as decls
use Rattle.flat_state.specs.declared.records.NextStep.{NextStep}
use Rattle.flat_state.specs.Events.{flat}
use Rattle.flat_state.specs.State.{FlatState}
use Rattle.run_journal.specs.declared.entries.Entry.{Entry}
use Rattle.run_journal.specs.Entries.{erase}

-- the place isn't behind the journal's end, and from there on no entry changed the frame, which has these bytes now: its bytes
-- in the flat state of so many entries, or of more, are the same
pub record IsSince (j : List Entry) (memory : List ℕ) (frame : Frame) (stamp : ℕ) : Type 0 where
  pub within : stamp ≤ length j
  pub same : (n : ℕ) → stamp ≤ n → n ≤ length j → page_at (flat (erase (take n j))).memory frame ≡ page_at memory frame

-- the frame has a stamp
pub record HasStamp (j : List Entry) (memory stamps : List ℕ) (frame : Frame) : Type 0 where
  pub stamp : ℕ
  pub there : slice_get stamps frame.0 ≡ Some stamp
  pub since : IsSince j memory frame stamp

-- each frame has one
abbrev pub AreStamps : List Entry → List ℕ → List ℕ → Type 0
AreStamps j memory stamps = (frame : Frame) → HasFrame memory frame → HasStamp j memory stamps frame

-- ---- one entry more

-- the frame has this place as its stamp, or its bytes and its stamp are those before
abbrev pub IsStamped : ℕ → List ℕ → List ℕ → List ℕ → List ℕ → Frame → Type 0
IsStamped at memory stamps after news frame =
    (slice_get news frame.0 ≡ Some at) ⊎ ((slice_get news frame.0 ≡ slice_get stamps frame.0) × (page_at after frame ≡ page_at memory frame))

-- memory has its size still, and each frame that changed has this place as its stamp
pub record AreStamped (at : ℕ) (memory stamps after news : List ℕ) : Type 0 where
  pub size : length after ≡ length memory
  pub places : length news ≡ length stamps
  pub each : (frame : Frame) → HasFrame memory frame → IsStamped at memory stamps after news frame

-- the stamps, with this place for a frame, if there is one
abbrev pub stamped_at : Option Frame → ℕ → List ℕ → List ℕ
stamped_at None at stamps = stamps
stamped_at (Some frame) at stamps = slice_set stamps frame.0 at

-- there is a place for the stamp of each frame
abbrev pub HaveStamps : List ℕ → List ℕ → Type 0
HaveStamps memory stamps = (frame : Frame) → HasFrame memory frame → frame.0 < length stamps

-- .. and for that of this one
abbrev pub IsWithin : Option Frame → List ℕ → Type 0
IsWithin None stamps = Unit {0}
IsWithin (Some frame) stamps = frame.0 < length stamps

-- ---- what changes a frame

-- the frame whose word is declared
abbrev pub frame_declared : Decl → Option Frame
frame_declared (decls.Word frame offset value) = Some frame
frame_declared _ = None

-- the row of a name
abbrev pub row_named : FlatState → Option Name → Option Row
row_named s (Some (Mapping space vpn)) = row_of s.rows space vpn.0
row_named s _ = None

abbrev pub frame_if_writable : Option Row → Option Frame
frame_if_writable None = None
frame_if_writable (Some row) = if row.flags.w then Some row.frame else None

-- the frame that a step may store to: that of its data, where the row lets stores through
abbrev pub frame_stored : FlatState → NextStep → Option Frame
frame_stored s next = frame_if_writable (row_named s next.data_row)
