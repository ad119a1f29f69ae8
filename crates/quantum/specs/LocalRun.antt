-- When steps ahead are steps of the machine.
use Rattle.std.specs.Prelude.{◌≡◌, ℕ, ◌<◌, ◌==◌, ◌||◌, true, false, if◌then◌else◌, List, [], ◌∷◌, map, find, filter, Contains, Option, Some, None, replicate, slice_get}
use Rattle.cache_ident.specs.declared.names.Name.{Name}
use Rattle.cache_ident.specs.declared.names.Name.TheVariants.{Mapping}
use Rattle.cache_ident.specs.declared.names.SpaceNo.{SpaceNo}
use Rattle.phys_groups.specs.declared.rows.Row.{Row}
use Rattle.phys_groups.specs.Memory.{page_at, with_page}
use Rattle.phys_groups.specs.Translation.{row_of}
use Rattle.rv32_exec.specs.declared.statuses.Status.{Status}
use Rattle.rv32_exec.specs.declared.statuses.Status.TheVariants.{Ready, Trapped, Ended}
use Rattle.flat_laws.specs.flat_state.specs.declared.events.Event.TheVariants.{Step}
use Rattle.flat_laws.specs.flat_state.specs.declared.records.FlatThread.{FlatThread}
use Rattle.flat_laws.specs.flat_state.specs.declared.records.NextStep.{NextStep}
use Rattle.flat_laws.specs.flat_state.specs.State.{FlatState, with_thread}
use Rattle.flat_laws.specs.flat_state.specs.Translation.{is_fit_row}
use Rattle.flat_laws.specs.flat_state.specs.Pages.{is_in}
use Rattle.flat_laws.specs.flat_state.specs.Signals.{next_signal}
use Rattle.flat_laws.specs.flat_state.specs.Events.{after_events}
use Rattle.flat_laws.specs.flat_state.specs.NextSteps.{next_step}
use Rattle.flat_laws.specs.flat_state.specs.WellFormed.{IsWellFormed}
use Rattle.page_views.specs.Views.{View}
use Rattle.quantum.specs.declared.paused.Paused.{Paused}
use Rattle.quantum.specs.declared.paused.Paused.TheVariants.{Limit, Call, Stopped, Miss, Signal}
use Rattle.quantum.specs.Ahead.{Ahead}

abbrev pub touched_views : List View → List View
touched_views vs = filter (λ v. v.touched) vs

-- the touched views of a frame that were copied alike hold the same now
abbrev pub HaveOneContents : List View → Type 0
HaveOneContents vs =
    (u v : View) → Contains (touched_views vs) u → Contains (touched_views vs) v → u.frame ≡ v.frame
    → ((w : View) → Contains (touched_views vs) w → w.frame ≡ v.frame → w.first ≡ v.first) → u.present ≡ v.present

-- the view is that of a fit row of the space, with its frame and flags, and its frame holds these bytes
pub record Shows (s : FlatState) (space : SpaceNo) (v : View) (bytes : List ℕ) : Type 0 where
  pub row : Row
  pub its : row_of s.rows space v.vpn.0 ≡ Some row
  pub fit : is_fit_row s row ≡ true
  pub frame : row.frame ≡ v.frame
  pub flags : row.flags ≡ v.flags
  pub holds : page_at s.memory v.frame ≡ bytes

-- the thread could have taken the steps in this state: it is ready, has the first context, and finds the first contents of
-- each view that was touched
pub record CouldRun (s : FlatState) (t : FlatThread) (a : Ahead) : Type 0 where
  pub ready : t.status ≡ Ready
  pub context : t.context ≡ a.first
  pub views : (v : View) → Contains (touched_views a.views) v → Shows s t.space v v.first

-- what the pause leaves of the thread
abbrev pub status_by : Option Paused → Status
status_by (Some Call) = Trapped
status_by (Some (Stopped reason)) = Ended reason
status_by (Some Limit) = Ready
status_by (Some (Miss va access)) = Ready
status_by (Some Signal) = Ready
status_by None = Ready

-- memory, when the present contents of each view stand in its frame
abbrev pub with_views : List ℕ → List View → List ℕ
with_views memory [] = memory
with_views memory (v ∷ vs) = with_views (with_page memory v.frame v.present) vs

abbrev pub with_marks_of : Option View → Row → Row
with_marks_of None row = row
with_marks_of (Some v) row = record row { referenced = row.referenced || v.touched; modified = row.modified || v.written }

-- a row of the space, with the marks of its page's view beside its own
abbrev pub with_view_marks : SpaceNo → List View → Row → Row
with_view_marks space vs row = if is_in space row then with_marks_of (find (λ v. v.vpn.0 == row.vpn.0) vs) row else row

-- what the steps make of the state: the context now, the status that the pause names, the marks of the touched rows, the
-- present contents in the touched frames, and all else as it was
abbrev pub committed : FlatState → ℕ → FlatThread → Ahead → FlatState
committed s n t a =
    with_thread (record s { memory = with_views s.memory (touched_views a.views); rows = map (with_view_marks t.space a.views) s.rows }) n
    (record t { context = a.context; status = status_by a.paused })

-- the state after so many steps of a thread
abbrev pub state_after : FlatState → ℕ → ℕ → FlatState
state_after s n steps = after_events s (replicate steps (Step (record { 0 = n })))

-- the row, if there is one, is that of a touched view
abbrev pub IsViewed : SpaceNo → List View → Option Name → Type 0
IsViewed space vs None = Unit {0}
IsViewed space vs (Some name) = (v : View) × Contains (touched_views vs) v × (name ≡ Mapping space v.vpn)

-- a thread's next step fits, doesn't fault, sends no signal, and goes through touched views alone
pub record GoesThrough (s : FlatState) (n : ℕ) (space : SpaceNo) (vs : List View) : Type 0 where
  pub thread : FlatThread
  pub there : slice_get s.threads n ≡ Some thread
  pub next : NextStep
  pub its : next_step s n ≡ Some next
  pub runs : next.runnable ≡ true
  pub faults : next.faults ≡ false
  pub quiet : next_signal s thread ≡ None
  pub fetch : IsViewed space vs next.fetch_row
  pub access : IsViewed space vs next.data_row

-- Whatever state the thread could have taken the steps in, it can take them there: each goes through touched views, and
-- together they make of the state what the run ahead says.
pub record IsLocalRun (a : Ahead) : Type 0 where
  pub each : (s : FlatState) (n : ℕ) (t : FlatThread) → IsWellFormed s → slice_get s.threads n ≡ Some t → CouldRun s t a
      → (k : ℕ) → k < a.steps → GoesThrough (state_after s n k) n t.space a.views
  pub makes : (s : FlatState) (n : ℕ) (t : FlatThread) → IsWellFormed s → slice_get s.threads n ≡ Some t → CouldRun s t a
      → state_after s n a.steps ≡ committed s n t a
