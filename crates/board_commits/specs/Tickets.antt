-- When a view was copied for the thread of a ticket, and what carries a place is of a journal.
use Rattle.std.specs.Prelude.{◌≡◌, ℕ, ◌≤◌, List, length, take, Contains, Option, None, Some, slice_get}
use Rattle.cache_ident.specs.declared.idents.Ident.{Ident}
use Rattle.cache_ident.specs.declared.names.Name.TheVariants as name
use Rattle.cache_ident.specs.declared.names.SpaceNo.{SpaceNo}
use Rattle.cache_ident.specs.declared.names.ThreadNo.{ThreadNo}
use Rattle.phys_groups.specs.declared.rows.Row.{Row}
use Rattle.phys_groups.specs.Memory.{page_at}
use Rattle.phys_groups.specs.Translation.{row_of}
use Rattle.flat_rules.specs.flat_state.specs.declared.records.FlatThread.{FlatThread}
use Rattle.flat_rules.specs.flat_state.specs.Events.{flat}
use Rattle.flat_rules.specs.flat_state.specs.State.{FlatState}
use Rattle.board_threads.specs.run_journal.specs.declared.entries.Entry.{Entry}
use Rattle.board_threads.specs.run_journal.specs.declared.entries.Entry.TheVariants.{Loaded}
use Rattle.board_threads.specs.run_journal.specs.Entries.{erase}
use Rattle.board_threads.specs.page_views.specs.Views.{all_dated, dated, Dated, View}
use Rattle.board_threads.specs.quantum.specs.Ahead.{Ahead}

-- the machine with unlimited tables behind so many entries
abbrev pub state_at : List Entry → ℕ → FlatState
state_at j at = flat (erase (take at j))

-- the entry at a place loaded a thread of the space with the identifier
pub record IsThreadIn (j : List Entry) (thread : Ident) (space : SpaceNo) : Type 0 where
  pub at : ℕ
  pub cpu : ℕ
  pub whom : ThreadNo
  pub loaded : slice_get j at ≡ Some (Loaded thread (name.Thread whom) cpu)
  pub found : FlatThread
  pub there : slice_get (state_at j at).threads whom.0 ≡ Some found
  pub its : found.space ≡ space

-- the entry at a place loaded the row of the view's page in the space with the view's identifier, and the view has the frame and
-- the flags that this row had then
pub record IsCopiedIn (j : List Entry) (space : SpaceNo) (v : View) : Type 0 where
  pub at : ℕ
  pub cpu : ℕ
  pub loaded : slice_get j at ≡ Some (Loaded v.row (name.Mapping space v.vpn) cpu)
  pub row : Row
  pub there : row_of (state_at j at).rows space v.vpn.0 ≡ Some row
  pub frame : row.frame ≡ v.frame
  pub flags : row.flags ≡ v.flags

-- the view was copied for the thread that was loaded with the identifier
pub record IsOfTicket (j : List Entry) (thread : Ident) (v : View) : Type 0 where
  pub space : SpaceNo
  pub of : IsThreadIn j thread space
  pub copied : IsCopiedIn j space v

-- ---- what carries a place

-- the place isn't behind the journal's end, and the bytes are those that the frame has in the flat state of so many entries
pub record IsDated (j : List Entry) (d : Dated) : Type 0 where
  pub within : d.place ≤ length j
  pub bytes : page_at (state_at j d.place).memory d.frame ≡ d.bytes

abbrev pub IsAsOf : List Entry → Option Dated → Type 0
IsAsOf j None = Unit {0}
IsAsOf j (Some d) = IsDated j d

-- so it is with what was copied for each of these views
abbrev pub AreAsOf : List Entry → List View → Type 0
AreAsOf j vs = (v : View) → Contains vs v → IsAsOf j (dated v)

-- .. and with all that a quantum has, from views or from earlier ones
abbrev pub AreAllAsOf : List Entry → Ahead → Type 0
AreAllAsOf j a = (o : Option Dated) → Contains (all_dated a.views a.kept) o → IsAsOf j o

-- ---- a quantum for a ticket

-- each view was copied for the thread that was loaded with the identifier, and what carries a place is of this journal
pub record AreOfTicket (j : List Entry) (thread : Ident) (a : Ahead) : Type 0 where
  pub views : (v : View) → Contains a.views v → IsOfTicket j thread v
  pub kept : AreAllAsOf j a
