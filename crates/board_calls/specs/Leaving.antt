-- What leaves before a call is completed.
use Rattle.std.specs.Prelude.{◌≡◌, ◌⊎◌, ◌↔◌, ℕ, ◌+◌, ◌*◌, ◌<◌, Bool, true, false, not, ◌&&◌, ◌||◌, is_none, filter, List, Contains, Option, Some, slice_get}
use Rattle.std.specs.List.{list_any}
use Rattle.cache_ident.specs.declared.classes.Class.TheVariants as classes
use Rattle.cache_ident.specs.declared.idents.Ident.{Ident}
use Rattle.cache_ident.specs.declared.idents.Kind.TheVariants as kind
use Rattle.cache_ident.specs.declared.names.Frame.{Frame}
use Rattle.cache_ident.specs.declared.names.Name.{Name}
use Rattle.cache_ident.specs.declared.names.Name.TheVariants as name
use Rattle.cache_ident.specs.Residents.{Resident, IsNameResident, IsResident}
use Rattle.phys_groups.specs.declared.rows.Row.{Row}
use Rattle.phys_groups.specs.Rows.{row_name}
use Rattle.phys_groups.specs.Translation.{covers, right_on}
use Rattle.row_store.specs.signal_pages.specs.Signals.{is_signal_row_of}
use Rattle.flat_state.specs.declared.events.Decl.{Decl}
use Rattle.flat_state.specs.declared.events.Decl.TheVariants as decls
use Rattle.flat_state.specs.Declaration.{with_right}
use Rattle.flat_state.specs.Dependence.{Depends}
use Rattle.flat_state.specs.Names.{class_of, is_fit_name, stands}
use Rattle.flat_state.specs.State.{FlatState}
use Rattle.flat_state.specs.Translation.{is_fit_row, rights_in, rights_of}
use Rattle.board_core.specs.flat_events.specs.declared.asked.Asked.{Asked}
use Rattle.board_core.specs.flat_events.specs.declared.asked.Asked.TheVariants.{Nothing, Refused, Declares, Unmaps}
use Rattle.board_checks.specs.run_journal.specs.Legal.{StaysGood}
use Rattle.board_checks.specs.desc_stores.specs.declared.items.Item.{Item}
use Rattle.board_checks.specs.desc_stores.specs.declared.items.Item.TheVariants as item
use Rattle.board_checks.specs.desc_stores.specs.Contents.{item_as, residents_of, Contents}
use Rattle.board_checks.specs.desc_parents.specs.Idents.{ident_of}
use Rattle.board_core.specs.cached_machine.specs.Cached.{state_of, Cached}
use Rattle.board_calls.specs.declared.leaving.Grant.{Grant}

-- ---- what has to leave

-- in the state it is a message row that depends on what isn't resident
pub record LacksOne (s : FlatState) (rs : List Resident) (name : Name) : Type 0 where
  pub message : class_of s name ≡ classes.MessageRow
  pub other : Name
  pub depends : Depends s name other
  pub absent : IsNameResident rs other → ⊥

-- in the state it doesn't stand, isn't fit, or is a message row that depends on what isn't resident
abbrev pub IsBad : FlatState → List Resident → Name → Type 0
IsBad s rs name = (stands s name ≡ false) ⊎ (is_fit_name s name ≡ false) ⊎ LacksOne s rs name

-- the identifier is that of a resident row, which would be bad in the state
pub record IsBadAs (s : FlatState) (rs : List Resident) (ident : Ident) : Type 0 where
  pub resident : Resident
  pub there : Contains rs resident
  pub its : resident.ident ≡ ident
  pub row : ident.kind ≡ kind.Mapping
  pub why : IsBad s rs resident.name

-- these are the identifiers of all that would be bad in the state: each other resident would be good
pub record AreBad (s : FlatState) (rs : List Resident) (idents : List Ident) : Type 0 where
  pub bad : (ident : Ident) → Contains idents ident → IsBadAs s rs ident
  pub others : (r : Resident) → Contains rs r → (Contains idents r.ident → ⊥) → StaysGood s rs r

-- ---- how it is found

-- the new list has what the old one had, and all of which the fact holds
abbrev pub AddsThose : (Ident → Type 0) → List Ident → List Ident → Type 0
AddsThose P old new = (ident : Ident) → Contains new ident ↔ (Contains old ident ⊎ P ident)

-- a content is a row that passes a test
abbrev pub passes : (Row → Bool) → Option Item → Bool
passes test (Some (item.Mapping row)) = test row
passes test _ = false

-- the identifier is one of a list and passes a test
abbrev pub IsOf : (Ident → Bool) → List Ident → Ident → Type 0
IsOf test all ident = Contains all ident × (test ident ≡ true)

-- what is loaded with the identifier is a row of the frame that passes the test
pub record IsRowAs (c : Contents) (frame : Frame) (test : Row → Bool) (ident : Ident) : Type 0 where
  pub row : Row
  pub loaded : item_as c ident ≡ Some (item.Mapping row)
  pub on : row.frame ≡ frame
  pub passing : test row ≡ true

abbrev pub is_message : Row → Bool
is_message row = row.flags.m

-- the row isn't loaded
abbrev pub is_absent : List Resident → Row → Bool
is_absent rs row = is_none (ident_of rs (row_name row))

-- the state with those rights
abbrev pub after_grant : FlatState → Grant → FlatState
after_grant s g = record s { kernels = with_right s.kernels (slice_get s.kernels g.kernel.0) g.kernel.0 g.group (g.read, g.write) }

-- the kernel has a right on the group that it then won't have
abbrev pub takes_away : FlatState → Grant → Bool
takes_away s g =
    let right = right_on (rights_in (slice_get s.kernels g.kernel.0)) g.group in
    (right.0 && not g.read) || (right.1 && not g.write)

-- some signal row of the frame is fit and isn't loaded
abbrev pub lacks_rows : FlatState → List Resident → Frame → Bool
lacks_rows s rs frame = list_any (λ row. is_fit_row s row && is_absent rs row) (filter (is_signal_row_of frame) s.rows)

-- the row isn't fit, or it is a message row and another one is lacking
abbrev pub goes_so : FlatState → Bool → Row → Bool
goes_so s lacks row = (lacks && row.flags.m) || not (is_fit_row s row)

-- such a row of the frame
abbrev pub IsRowGoing : Cached → Grant → Frame → Ident → Type 0
IsRowGoing m g frame ident = IsRowAs m.held.contents frame (goes_so (after_grant (state_of m) g) (lacks_rows (after_grant (state_of m) g) (residents_of m.held.contents) frame)) ident

-- such a row of one of so many first frames of the group
abbrev pub IsRowInGroup : Cached → Grant → ℕ → Ident → Type 0
IsRowInGroup m g places ident = (place : ℕ) × (place < places) × IsRowGoing m g (record { 0 = g.group * 128 + place }) ident

-- it leaves for a declaration: a message row where its frame gets a fit signal row, and what rights no longer cover
abbrev pub GoesForDecl : Cached → Decl → Ident → Type 0
GoesForDecl m (decls.Map space vpn frame flags (Some receiver)) ident =
    (covers (rights_of (state_of m) space) frame flags ≡ true) × IsRowAs m.held.contents frame is_message ident
GoesForDecl m (decls.Right kernel group read write) ident = IsRowInGroup m (record { kernel = kernel; group = group; read = read; write = write }) 128 ident
GoesForDecl m _ ident = ⊥

-- it leaves for what is asked
abbrev pub GoesFor : Cached → Asked → Ident → Type 0
GoesFor m Nothing ident = ⊥
GoesFor m (Refused rule) ident = ⊥
GoesFor m (Declares decl answer) ident = GoesForDecl m decl ident
GoesFor m (Unmaps space vpn) ident = IsResident (residents_of m.held.contents) ident (name.Mapping space vpn)
