-- Copied pages: what one is, and the pages that a step sees in them.
use Rattle.std.specs.Prelude.{◌≡◌, ◌≢◌, ℕ, ◌+◌, ◌/◌, ◌≤◌, Bool, true, false, ◌&&◌, ◌||◌, ◌==◌, if◌then◌else◌, List, [], ◌∷◌, ◌++◌, map, find, length, take, drop, replicate, slice_get, Contains, Option, Some, None, is_some, nat_le, nat_lt, not}
use Rattle.std.specs.Option.{option_map}
use Rattle.std.specs.List.{AllPairs}
use Rattle.std.specs.List.Sorted.{IsPermutation}
use Rattle.cache_ident.specs.declared.idents.Ident.{Ident}
use Rattle.cache_ident.specs.declared.names.Vpn.{Vpn}
use Rattle.cache_ident.specs.declared.names.Frame.{Frame}
use Rattle.phys_groups.specs.declared.rows.Flags.{Flags}
use Rattle.phys_groups.specs.Memory.{page_at}
use Rattle.rv32_exec.specs.declared.statuses.Access.{Access}
use Rattle.rv32_exec.specs.declared.statuses.Access.TheVariants.{Fetch, Read, Write}
use Rattle.rv32_exec.specs.Pages.{Page, put_bytes}
use Rattle.flat_rules.specs.flat_state.specs.Translation.{wants}

-- A copied page: its number, the frame that it was copied from, what may be done with it, the row that it was copied
-- through, its bytes as they were copied and as they are now, and whether an access and whether a store went through it. And
-- the place of a journal as of which the frame had the bytes that were copied, where they carry one.
pub record View : Type 0 where
  pub vpn : Vpn
  pub frame : Frame
  pub flags : Flags
  pub row : Ident
  pub first : List ℕ
  pub present : List ℕ
  pub touched : Bool
  pub written : Bool
  pub taken : Option ℕ

-- a view as a page of a space
abbrev pub page_of : View → Page
page_of v =
    record {
      number = v.vpn.0;
      frame = v.frame.0;
      readable = v.flags.r;
      writable = v.flags.w;
      executable = v.flags.x;
      bytes = v.present;
      touched = v.touched;
      written = v.written;
    }

abbrev pub pages_of_views : List View → List Page
pages_of_views vs = map page_of vs

-- what no access changes of a view
pub record Copied : Type 0 where
  pub vpn : Vpn
  pub frame : Frame
  pub flags : Flags
  pub row : Ident
  pub first : List ℕ
  pub taken : Option ℕ

abbrev pub copied : View → Copied
copied v = record { vpn = v.vpn; frame = v.frame; flags = v.flags; row = v.row; first = v.first; taken = v.taken }

abbrev pub copies_of : List View → List Copied
copies_of vs = map copied vs

-- the view of a page
abbrev pub is_of_page : Vpn → View → Bool
is_of_page vpn v = v.vpn.0 == vpn.0

abbrev pub is_of_frame : Frame → View → Bool
is_of_frame frame v = v.frame.0 == frame.0

-- a touched view of a frame
abbrev pub is_touched_of : Frame → View → Bool
is_touched_of frame v = v.touched && (v.frame.0 == frame.0)

-- there is room for the view of a page that has none, where so many are the most
abbrev pub can_fill : ℕ → List View → Vpn → Bool
can_fill most vs vpn = nat_lt (length vs) most && not (is_some (find (is_of_page vpn) vs))

-- what the first touched view of a frame holds; without one, the bytes as they were copied
abbrev pub present_in : Option View → List ℕ → List ℕ
present_in None bytes = bytes
present_in (Some v) bytes = v.present

-- a new view beside others
abbrev pub filled : List View → Vpn → Frame → Flags → Ident → List ℕ → Option ℕ → View
filled vs vpn frame flags row bytes taken =
    record {
      vpn = vpn;
      frame = frame;
      flags = flags;
      row = row;
      first = bytes;
      present = present_in (find (is_touched_of frame) vs) bytes;
      touched = false;
      written = false;
      taken = taken;
    }

-- the views were copied from this memory
abbrev pub AreCopies : List ℕ → List View → Type 0
AreCopies memory vs = (v : View) → Contains vs v → page_at memory v.frame ≡ v.first

-- ---- what is kept

-- a frame's bytes, with the place of a journal as of which it has them
pub record Dated : Type 0 where
  pub frame : Frame
  pub bytes : List ℕ
  pub place : ℕ

-- the bytes that were copied, where they carry a place
abbrev pub dated : View → Option Dated
dated v = option_map (λ place. record { frame = v.frame; bytes = v.first; place = place }) v.taken

-- How many views there may be, the views, and what is kept of earlier ones in the slots behind them: the bytes that were copied,
-- where they carry a place.
pub record Table : Type 0 where
  pub most : ℕ
  pub views : List View
  pub kept : List (Option Dated)

-- the first so many of the slots are views, and the others keep what they can
abbrev pub table_of : ℕ → ℕ → List View → Table
table_of most count slots = record { most = most; views = take count slots; kept = map dated (drop count slots) }

-- what no access changes of a table
abbrev pub rest_of : Table → ℕ × List Copied × List (Option Dated)
rest_of t = (t.most, copies_of t.views, t.kept)

-- all the bytes that carry a place: those of views, and those that are kept
abbrev pub all_dated : List View → List (Option Dated) → List (Option Dated)
all_dated vs kept = map dated vs ++ kept

-- how many slots there are for so many views: two more, so that what is gone over again and again may be a little more than the views
abbrev pub slots_for : ℕ → ℕ
slots_for most = most + 2

-- what is kept before the first view, where there may be so many
abbrev pub nothing_kept : ℕ → List (Option Dated)
nothing_kept most = replicate (slots_for most) None

-- with a view more, in the place behind the others. What was kept there is gone
abbrev pub with_filled : Table → View → Table
with_filled t v = record t { views = t.views ++ v ∷ []; kept = drop 1 t.kept }

-- what is kept afterwards was kept before
abbrev pub AreKept : List (Option Dated) → List (Option Dated) → Type 0
AreKept before after = (o : Option Dated) → Contains after o → Contains before o

-- the bytes are those of the frame as of the place or a later one
abbrev pub is_since : Frame → ℕ → Option Dated → Bool
is_since frame since None = false
is_since frame since (Some d) = (d.frame.0 == frame.0) && nat_le since d.place

-- such bytes are kept, and no view of the frame was touched
abbrev pub can_refill : List View → List (Option Dated) → Frame → ℕ → Bool
can_refill vs kept frame since = not (is_some (find (is_touched_of frame) vs)) && is_some (find (is_since frame since) kept)

-- these bytes of the frame are kept, as of the place or a later one
pub record IsKeptSince (kept : List (Option Dated)) (frame : Frame) (since : ℕ) (d : Dated) : Type 0 where
  pub there : Contains kept (Some d)
  pub of : d.frame ≡ frame
  pub late : since ≤ d.place

-- with a view more, of bytes that were kept of its frame as of the place or a later one
pub record IsRefilled (vpn : Vpn) (frame : Frame) (flags : Flags) (row : Ident) (since : ℕ) (before after : Table) : Type 0 where
  pub d : Dated
  pub was : IsKeptSince before.kept frame since d
  pub views : after.views ≡ before.views ++ filled before.views vpn frame flags row d.bytes (Some d.place) ∷ []
  pub most : after.most ≡ before.most
  pub kept : AreKept before.kept after.kept

-- the views are the same, and all that is kept was kept before
pub record IsReordered (before after : Table) : Type 0 where
  pub views : after.views ≡ before.views
  pub most : after.most ≡ before.most
  pub kept : AreKept before.kept after.kept

-- a view once its steps happened at a place of a journal: if it was touched, its frame has what it holds, as of that place
abbrev pub as_happened : ℕ → View → View
as_happened place v = if v.touched then record v { first = v.present; taken = Some place } else v

-- no page has two views
abbrev pub HaveOneViewAPage : List View → Type 0
HaveOneViewAPage vs = AllPairs (λ a b. a.vpn.0 ≢ b.vpn.0) vs

-- a view once a store went to its frame
abbrev pub put_in_view : Frame → ℕ → ℕ → ℕ → View → View
put_in_view frame count at value v = if v.frame.0 == frame.0 then record v { present = put_bytes count v.present at value } else v

-- a view once an access went through it
abbrev pub mark_view : Access → View → View
mark_view Fetch v = record v { touched = true }
mark_view Read v = record v { touched = true }
mark_view Write v = record v { touched = true; written = true }

abbrev pub mark_view_of : Vpn → Access → View → View
mark_view_of vpn access v = if v.vpn.0 == vpn.0 then mark_view access v else v

-- some view has the message flag
abbrev pub has_message : List View → Bool
has_message [] = false
has_message (v ∷ vs) = v.flags.m || has_message vs

-- no two views are of one frame
abbrev pub HaveOneViewAFrame : List View → Type 0
HaveOneViewAFrame vs = AllPairs (λ a b. a.frame.0 ≢ b.frame.0) vs

-- the slots for as many views as there may be, of which the first so many are these
pub record IsTable (most : ℕ) (slots : List View) (count : ℕ) : Type 0 where
  pub bounded : most ≤ 64
  pub all : length slots ≡ slots_for most
  pub few : count ≤ most
  pub within : count ≤ length slots
  pub one_a_page : HaveOneViewAPage (take count slots)

-- a slot changed its place with the one behind the first so many
pub record IsExchanged (count slot : ℕ) (old new : List View) : Type 0 where
  pub size : length new ≡ length old
  pub views : take count new ≡ take count old
  pub there : slice_get new count ≡ slice_get old slot
  pub others : IsPermutation (drop count old) (drop count new)

-- a slot behind the first so many keeps bytes of the frame as of the place or a later one
pub record IsSlotSince (slots : List View) (count : ℕ) (frame : Frame) (since slot : ℕ) : Type 0 where
  pub behind : count ≤ slot
  pub view : View
  pub there : slice_get slots slot ≡ Some view
  pub is : is_since frame since (dated view) ≡ true

abbrev pub where_flagged : Access → Option View → Option View
where_flagged access None = None
where_flagged access (Some v) = if wants access v.flags then Some v else None

-- the view that an access to an address goes through: that of its page, where its flag is there
abbrev pub view_through : List View → Access → ℕ → Option View
view_through vs access va = where_flagged access (find (is_of_page (record { 0 = va / 4096 })) vs)
