-- Which pages are kept, and what memory they are with the bytes that a store holds.
use Rattle.std.specs.Prelude.{◌≡◌, ℕ, ◌*◌, ◌<◌, ◌⊎◌, Bool, true, false, List, length, replicate, Option, Some, None, slice_get, slice_set}
use Rattle.std.specs.Option.{option_map}
use Rattle.cache_ident.specs.declared.names.Frame.{Frame}
use Rattle.phys_groups.specs.Memory.{page_at, with_page}
use Rattle.page_store.specs.declared.page.Page.{Page}

-- how many frames the memory has, and the places for pages
pub record Kept : Type 0 where
  pub frames : ℕ
  pub slots : List Page

-- no page is kept
abbrev pub no_page : Page
no_page = record { frame = None; bytes = replicate 4096 0; changed = false }

abbrev pub nothing_kept : ℕ → ℕ → Kept
nothing_kept most frames = record { frames = frames; slots = replicate most no_page }

-- that place has the page of the frame
pub record HasPage (slots : List Page) (place : ℕ) (frame : Frame) (page : Page) : Type 0 where
  pub there : slice_get slots place ≡ Some page
  pub its : page.frame ≡ Some frame

-- the page of the frame is kept
abbrev pub IsKept : Kept → Frame → Type 0
IsKept k frame = (place : ℕ) × (page : Page) × HasPage k.slots place frame page

-- the page of the frame isn't kept, or it wasn't changed
abbrev pub IsUnchanged : List Page → Frame → Type 0
IsUnchanged slots frame = (place : ℕ) (page : Page) → HasPage slots place frame page → page.changed ≡ false

-- The pages that are kept are this memory together with the bytes that a store holds and tells: each page that is kept is
-- memory's, and of each frame that has no changed one the store's page is.
pub record Means (k : Kept) (held : Option (List ℕ)) (memory : List ℕ) : Type 0 where
  pub bytes : List ℕ
  pub told : held ≡ Some bytes
  pub store_size : length bytes ≡ 4096 * k.frames
  pub size : length memory ≡ 4096 * k.frames
  pub kept : (place : ℕ) (frame : Frame) (page : Page) → HasPage k.slots place frame page → page_at memory frame ≡ page.bytes
  pub stored : (frame : Frame) → frame.0 < k.frames → IsUnchanged k.slots frame → page_at bytes frame ≡ page_at memory frame

-- the bytes that are told, with a page written over a frame
abbrev pub with_page_in : Option (List ℕ) → Frame → List ℕ → Option (List ℕ)
with_page_in told frame page = option_map (λ bytes. with_page bytes frame page) told

-- the frame of a page that was changed
abbrev pub unwritten_if : Bool → Page → Option Frame
unwritten_if true page = page.frame
unwritten_if false page = None

abbrev pub unwritten : Page → Option Frame
unwritten page = unwritten_if page.changed page

-- where the page at the place was changed it now isn't, and all else is as it was
abbrev pub IsWritten : List Page → ℕ → List Page → Type 0
IsWritten before place after =
    (page : Page) → slice_get before place ≡ Some page
    → (now : Page) × (after ≡ slice_set before place now) × (now.frame ≡ page.frame) × (now.bytes ≡ page.bytes) × (unwritten now ≡ None)

-- the place has no page
abbrev pub IsFree : List Page → ℕ → Type 0
IsFree slots place = (page : Page) × (slice_get slots place ≡ Some page) × (page.frame ≡ None) × (page.changed ≡ false)

-- the place has the page of the frame or none, and no other place has it
pub record IsFor (k : Kept) (place : ℕ) (frame : Frame) : Type 0 where
  pub within : frame.0 < k.frames
  pub page : Page
  pub there : slice_get k.slots place ≡ Some page
  pub was : (page.frame ≡ None) ⊎ (page.frame ≡ Some frame)
  pub one : (q : ℕ) (other : Page) → HasPage k.slots q frame other → q ≡ place

-- the page at the place has other bytes, and all else is as it was
abbrev pub IsReadInto : List Page → ℕ → List Page → Type 0
IsReadInto before place after =
    (page : Page) → slice_get before place ≡ Some page → (bytes : List ℕ) × (after ≡ slice_set before place (record page { bytes = bytes }))

-- the page at the place has these bytes
abbrev pub HasBytes : List Page → ℕ → List ℕ → Type 0
HasBytes slots place bytes = (page : Page) → slice_get slots place ≡ Some page → page.bytes ≡ bytes

-- no place is noted for the frame, if there is one
abbrev pub unplaced : Option Frame → List (Option ℕ) → List (Option ℕ)
unplaced None places = places
unplaced (Some frame) places = slice_set places frame.0 None
