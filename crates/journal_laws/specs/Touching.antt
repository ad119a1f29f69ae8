-- Which descriptors a completed call can touch.
use Rattle.std.specs.Prelude.{◌≡◌, ◌/◌, Option, Some, None, slice_get}
use Rattle.std.specs.Option.{option_map}
use Rattle.cache_ident.specs.declared.names.Frame.{Frame}
use Rattle.cache_ident.specs.declared.names.Name.{Name}
use Rattle.cache_ident.specs.declared.names.Name.TheVariants.{Kernel, Space, Thread, Mapping}
use Rattle.cache_ident.specs.declared.names.SpaceNo.{SpaceNo}
use Rattle.cache_ident.specs.declared.names.ThreadNo.{ThreadNo}
use Rattle.phys_groups.specs.declared.rows.Row.{Row}
use Rattle.phys_groups.specs.Translation.{row_of}
use Rattle.run_journal.specs.fault_forward.specs.declared.effects.Effect.{Effect}
use Rattle.run_journal.specs.fault_forward.specs.declared.effects.Effect.TheVariants as effects
use Rattle.run_journal.specs.fault_forward.specs.Calls.{completion_of}
use Rattle.run_journal.specs.flat_state.specs.declared.records.FlatThread.{FlatThread}
use Rattle.run_journal.specs.flat_state.specs.State.{FlatState}

-- the frame of the row that has the name, if there is one
abbrev pub frame_of : FlatState → Name → Option Frame
frame_of s (Mapping space vpn) = option_map (λ (row : Row). row.frame) (row_of s.rows space vpn.0)
frame_of s (Kernel kernel) = None
frame_of s (Space space) = None
frame_of s (Thread thread) = None

-- the name is that of a row of which something is so
abbrev pub IsRowWith : FlatState → Name → (Row → Type 0) → Type 0
IsRowWith s (Mapping space vpn) P = (row : Row) × (row_of s.rows space vpn.0 ≡ Some row) × P row
IsRowWith s (Kernel kernel) P = ⊥
IsRowWith s (Space space) P = ⊥
IsRowWith s (Thread thread) P = ⊥

-- a new row touches those of its frame, a row that goes itself, and rights on a group the rows of its frames
abbrev pub TouchesBy : Effect → FlatState → SpaceNo → Name → Type 0
TouchesBy (effects.Map vpn frame flags receiver) s space name = IsRowWith s name (λ row. row.frame.0 ≡ frame)
TouchesBy (effects.Unmap vpn) s space name = name ≡ Mapping space (record { 0 = vpn })
TouchesBy (effects.Grant kernel group bits) s space name = IsRowWith s name (λ row. row.frame.0 / 128 ≡ group)
TouchesBy effects.Ready s space name = ⊥
TouchesBy (effects.Put byte) s space name = ⊥
TouchesBy (effects.Decimal number) s space name = ⊥
TouchesBy (effects.End reason) s space name = ⊥
TouchesBy (effects.Spawn pc a0 priority) s space name = ⊥

abbrev pub TouchesFor : Option FlatThread → FlatState → Name → Type 0
TouchesFor None s name = ⊥
TouchesFor (Some t) s name = TouchesBy (completion_of t.no t.context t.queue.items).effect s t.space name

-- the thread's call, once it is completed, can change whether the descriptor stands, is fit, or what it depends on
abbrev pub Touches : FlatState → ThreadNo → Name → Type 0
Touches s thread name = TouchesFor (slice_get s.threads thread.0) s name
