-- Steps ahead of a thread, on copies of pages of its space.
use Rattle.std.specs.Prelude.{◌≡◌, ℕ, ◌/◌, ◌%◌, ◌<◌, false, true, List, Contains, Option, Some, None}
use Rattle.cache_ident.specs.declared.idents.Ident.{Ident}
use Rattle.cache_ident.specs.declared.names.SpaceNo.{SpaceNo}
use Rattle.phys_groups.specs.declared.rows.Row.{Row}
use Rattle.phys_groups.specs.Memory.{page_at}
use Rattle.phys_groups.specs.Translation.{row_of, through}
use Rattle.rv32_exec.specs.declared.statuses.Access.TheVariants.{Write}
use Rattle.rv32_exec.specs.Registers.{next_of}
use Rattle.rv32_exec.specs.declared.steps.Stepped.TheVariants.{Miss}
use Rattle.flat_state.specs.declared.records.FlatThread.{FlatThread}
use Rattle.flat_state.specs.declared.records.Signal.{Signal}
use Rattle.flat_state.specs.State.{FlatState}
use Rattle.flat_state.specs.Translation.{fault_kind, is_fit_row, reached, row_through}
use Rattle.page_store.specs.Kept.{Kept, Means}
use Rattle.quantum.specs.page_views.specs.Views.{filled, View}
use Rattle.quantum.specs.Ahead.{more_with, outcome, signal_store, Ahead}
use Rattle.quantum.specs.declared.paused.SignalStore.{SignalStore}
use Rattle.signal_pages.specs.Signals.{is_signalling}
use Rattle.paged_steps.specs.declared.ahead.Stands.{Stands}
use Rattle.paged_steps.specs.declared.ahead.Stands.TheVariants.{Whole, Faults, Signals}

-- the view is that of a fit row of the space, with its frame and flags
pub record IsOfRow (tables : FlatState) (space : SpaceNo) (v : View) : Type 0 where
  pub row : Row
  pub its : row_of tables.rows space v.vpn.0 ≡ Some row
  pub fit : is_fit_row tables row ≡ true
  pub frame : row.frame ≡ v.frame
  pub flags : row.flags ≡ v.flags

-- no step was taken yet, and no view was used
pub record IsFresh (a : Ahead) : Type 0 where
  pub context : a.context ≡ a.first
  pub untouched : (v : View) → Contains a.views v → v.touched ≡ false
  pub present : (v : View) → Contains a.views v → v.present ≡ v.first

-- it began with the thread's context, on copies of pages of its space
pub record IsAheadOf (tables : FlatState) (t : FlatThread) (a : Ahead) : Type 0 where
  pub first : a.first ≡ t.context
  pub rows : (v : View) → Contains a.views v → IsOfRow tables t.space v
  pub fresh : a.steps ≡ 0 → IsFresh a
  pub aligned : a.context.pc % 4 ≡ 0

-- memory has the view's bytes already, where nothing was stored to it
abbrev pub IsPutIf : View → List ℕ → Type 0
IsPutIf v memory = v.present ≡ v.first → page_at memory v.frame ≡ v.present

-- A thread's next step is a store of a word that signals: to a row with the message flag, which sends this signal.
pub record IsSentBy (tables : FlatState) (t : FlatThread) (store : SignalStore) (signal : Signal) : Type 0 where
  pub va : ℕ
  pub value : ℕ
  pub row : Row
  pub store_is : store ≡ record { vpn = record { 0 = va / 4096 }; offset = va % 4096; word = value; context = record t.context { pc = next_of t.context } }
  pub reaches : reached tables Write t.space va ≡ through row
  pub flag : row.flags.m ≡ true
  pub signals : is_signalling (va % 4096) ≡ true
  pub signal_is : signal ≡ record { frame = row.frame; offset = va % 4096 }

-- a view of the row's page was added, copied from memory
pub record HasFilled (pages : Kept) (held : Option (List ℕ)) (row : Row) (before after : Ahead) : Type 0 where
  pub bytes : List ℕ
  pub ident : Ident
  pub is : after ≡ more_with (filled before.views row.vpn row.frame row.flags ident bytes None) before
  pub of : (memory : List ℕ) → Means pages held memory → bytes ≡ page_at memory row.frame

-- where it stands
abbrev pub StandsSo : FlatState → FlatThread → Ahead → Stands → Type 0
StandsSo tables t a Whole = 0 < a.steps
StandsSo tables t a (Faults kind access va) =
    ((outcome a).answer ≡ Miss va access) × (row_through (reached tables access t.space va) ≡ None) × (fault_kind (reached tables access t.space va) ≡ kind)
StandsSo tables t a (Signals store) = signal_store a ≡ Some store
