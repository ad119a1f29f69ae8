-- What a move leaves of a machine with its journal.
use Rattle.std.specs.Prelude.{◌≡◌, ◌≢◌, ◌⊎◌, ℕ, ◌+◌, ◌-◌, ◌<◌, ◌≤◌, ◌^◌, Bool, true, if◌then◌else◌, min, List, [], ◌∷◌, ◌++◌, length, map, not, count_by, Contains, zero, suc}
use Rattle.std.specs.List.{list_any}
use Rattle.cache_ident.specs.declared.idents.Ident.{Ident}
use Rattle.cache_ident.specs.declared.names.Name.TheVariants as name
use Rattle.cache_ident.specs.declared.names.Frame.{Frame}
use Rattle.cache_ident.specs.declared.names.SpaceNo.{SpaceNo}
use Rattle.cache_ident.specs.declared.names.ThreadNo.{ThreadNo}
use Rattle.cache_ident.specs.Residents.{Resident, IsNameResident}
use Rattle.cache_ident.specs.Rolls.{is_same}
use Rattle.phys_groups.specs.Memory.{page_at, with_page, HasFrame}
use Rattle.phys_groups.specs.Rows.{marked}
use Rattle.flat_state.specs.declared.records.FlatThread.{FlatThread}
use Rattle.flat_state.specs.Events.{after_events}
use Rattle.flat_state.specs.State.{FlatState}
use Rattle.run_journal.specs.declared.entries.Entry.{Entry}
use Rattle.run_journal.specs.declared.entries.Entry.TheVariants.{Ended, Ran}
use Rattle.run_journal.specs.Entries.{erase}
use Rattle.cached_machine.specs.desc_stores.specs.Contents.{residents_of}
use Rattle.board_ops.specs.page_views.specs.Views.{View}
use Rattle.cached_machine.specs.board_laws.specs.Moves.{KeepsLoaded}
use Rattle.cached_machine.specs.Cached.{state_of}
use Rattle.cached_machine.specs.Moved.{OnlyRoom}
use Rattle.cached_machine.specs.Posts.{HasSameMarks}
use Rattle.board_core.specs.Core.{contents_of, Recorded}

-- The journal grew by exactly these entries, and the flat reading by their events. The step limit stays, and so does which
-- machine it is, with its capacities.
pub record GrowsBy (es : List Entry) (old new : Recorded) : Type 0 where
  pub entries : new.journal.entries ≡ old.journal.entries ++ es
  pub state : state_of new.machine ≡ after_events (state_of old.machine) (erase es)
  pub limit : new.limit ≡ old.limit
  pub machine : new.machine.machine ≡ old.machine.machine
  pub caps : new.machine.held.caps ≡ old.machine.held.caps
  pub spare : old.journal.spare ≤ new.journal.spare + length es

-- what is loaded, and which thread is on which processor and was checked out when, is as it was
pub record KeepsPlaces (old new : Recorded) : Type 0 where
  pub loaded : KeepsLoaded (contents_of old) (contents_of new)
  pub marks : HasSameMarks (contents_of old) (contents_of new)
  pub sealed : new.sealed ≡ old.sealed
  pub checkouts : new.checkouts ≡ old.checkouts
  pub spare : (contents_of new).spare ≡ (contents_of old).spare

-- nothing changed but room, and none fell
pub record IsRoomMade (old new : Recorded) : Type 0 where
  pub rest : new ≡ record old { machine = new.machine; journal = record old.journal { spare = new.journal.spare } }
  pub only : OnlyRoom old.machine new.machine
  pub spare : old.journal.spare ≤ new.journal.spare

-- one of eight processors does it, behind the seal, and there is room for so many entries
pub record MayWrite (b : Recorded) (cpu entries : ℕ) : Type 0 where
  pub sealed : b.sealed ≡ true
  pub processor : cpu < 8
  pub room : entries ≤ b.journal.spare

-- how many descriptors are loaded
abbrev pub count_loaded : Recorded → ℕ
count_loaded b = length (residents_of (contents_of b))

-- what is loaded is among these
abbrev pub is_kept : List Ident → Resident → Bool
is_kept keep r = list_any (is_same r.ident) keep

-- how many of what is loaded are not among these, and so may leave while these are kept
abbrev pub count_unkept : Recorded → List Ident → ℕ
count_unkept b keep = count_by (λ r. not (is_kept keep r)) (residents_of (contents_of b))

-- the count of checkouts, once one more gave a thread: it stays at its last value
abbrev pub one_more : ℕ → ℕ
one_more checkouts = min (checkouts + 1) (2 ^ 64 - 1)

-- the entry of one step
abbrev pub entry_of_step : ThreadNo → Bool → ℕ → Entry
entry_of_step whom faults cpu = if faults then Ended whom cpu else Ran whom 1 cpu

-- the entries of so many steps that don't fault
abbrev pub entries_of_run : ThreadNo → ℕ → ℕ → List Entry
entries_of_run whom zero cpu = []
entries_of_run whom (suc steps) cpu = Ran whom (suc steps) cpu ∷ []

-- each view is that of a page of the space whose row is loaded
abbrev pub AreOfLoaded : Recorded → FlatThread → List View → Type 0
AreOfLoaded b t views = (v : View) → Contains views v → IsNameResident (residents_of (contents_of b)) (name.Mapping t.space v.vpn)

-- ---- views that are taken over

-- the state once the view was taken over for a thread of the space: its row is marked as it is, and its frame has its bytes
abbrev pub with_view : SpaceNo → FlatState → View → FlatState
with_view space s v =
    if v.touched then record s { memory = with_page s.memory v.frame v.present; rows = map (marked space v.vpn.0 v.written) s.rows } else s

-- .. and some more
abbrev pub with_all_views : SpaceNo → FlatState → List View → FlatState
with_all_views space s [] = s
with_all_views space s (v ∷ vs) = with_all_views space (with_view space s v) vs

-- the frame holds what was copied of it, or what the view holds now
abbrev pub IsAsCopiedOrNow : List ℕ → View → Type 0
IsAsCopiedOrNow memory v = (page_at memory v.frame ≡ v.first) ⊎ (page_at memory v.frame ≡ v.present)

-- the views of a frame hold the same
abbrev pub HoldAlike : List View → Type 0
HoldAlike vs = (u v : View) → Contains vs u → Contains vs v → u.frame ≡ v.frame → u.present ≡ v.present

-- the frame of the view holds what the view does, and the others hold what they did
pub record IsPutIn (v : View) (memory after : List ℕ) : Type 0 where
  pub its : page_at after v.frame ≡ v.present
  pub others : (frame : Frame) → HasFrame memory frame → frame ≢ v.frame → page_at after frame ≡ page_at memory frame

-- the frame of each view is in memory, and holds what the view does
abbrev pub AreHeld : List ℕ → List View → Type 0
AreHeld memory vs = (v : View) → Contains vs v → HasFrame memory v.frame × (page_at memory v.frame ≡ v.present)

-- the frames of all views are in memory
abbrev pub AreInMemory : List ℕ → List View → Type 0
AreInMemory memory vs = (v : View) → Contains vs v → HasFrame memory v.frame
