-- Views that let accesses through, for the pages of each line the one that was noted last.
use Rattle.std.specs.Prelude.{◌≡◌, ℕ, ◌%◌, ◌<◌, Bool, true, false, if◌then◌else◌, List, replicate, slice_get, slice_set, Some}
use Rattle.rv32_exec.specs.declared.statuses.Access.{Access}
use Rattle.rv32_exec.specs.declared.statuses.Access.TheVariants.{Fetch, Read, Write}
use Rattle.rv32_exec.specs.Pages.{is_write}
use Rattle.flat_rules.specs.flat_state.specs.Translation.{wants}
use Rattle.page_views.specs.declared.page.Origin.{Origin}
use Rattle.page_views.specs.declared.spots.Found.{Found}
use Rattle.page_views.specs.declared.spots.FoundLines.{FoundLines}
use Rattle.page_views.specs.declared.spots.Spot.{Spot}
use Rattle.page_views.specs.declared.spots.Spots.{Spots}
use Rattle.page_views.specs.Views.{View}

-- nothing is noted: no page has that number
abbrev pub no_spot : Spot
no_spot = record { page = 4294967295; place = 0 }

abbrev pub no_found : Found
no_found = record { page = 4294967295; place = 0; marked = false }

abbrev pub no_lines_found : FoundLines
no_lines_found = record { lines = replicate 64 no_found }

abbrev pub no_spots : Spots
no_spots = record { fetch = no_spot; reads = no_lines_found; writes = no_lines_found }

-- the view of a page is noted, by its place, and whether it has the mark
abbrev pub with_found : ℕ → ℕ → Bool → FoundLines → FoundLines
with_found page place marked f = record { lines = slice_set f.lines (page % 64) (record { page = page; place = place; marked = marked }) }

-- the view that was noted last for the pages of a page's line is that of the page, at that place
abbrev pub IsFound : FoundLines → ℕ → ℕ → Bool → Type 0
IsFound f page place marked = slice_get f.lines (page % 64) ≡ Some (record { page = page; place = place; marked = marked })

abbrev pub IsFoundAt : FoundLines → ℕ → ℕ → Type 0
IsFoundAt f page place = (marked : Bool) × IsFound f page place marked

-- the view of a page is the one that is noted for a kind of access, by its place, and whether it has the mark
abbrev pub IsNoted : Access → Spots → ℕ → ℕ → Bool → Type 0
IsNoted Fetch s page place marked = (s.fetch ≡ record { page = page; place = place }) × (marked ≡ true)
IsNoted Read s page place marked = IsFound s.reads page place marked
IsNoted Write s page place marked = IsFound s.writes page place marked

abbrev pub IsAt : Access → Spots → ℕ → ℕ → Type 0
IsAt access s page place = (marked : Bool) × IsNoted access s page place marked

-- .. and becomes so, with the mark
abbrev pub marked_with : ℕ → Access → ℕ → Spots → Spots
marked_with page Fetch place s = record s { fetch = record { page = page; place = place } }
marked_with page Read place s = record s { reads = with_found page place true s.reads }
marked_with page Write place s = record s { writes = with_found page place true s.writes }

abbrev pub noted_if : Bool → ℕ → Access → ℕ → Spots → Spots
noted_if allowed page access place s = if allowed then marked_with page access place s else s

-- a view that is filled is noted for the loads and stores that it lets through
abbrev pub found_if : Bool → ℕ → ℕ → FoundLines → FoundLines
found_if allowed page place f = if allowed then with_found page place false f else f

abbrev pub added : Origin → ℕ → Spots → Spots
added o place s = record s { reads = found_if o.flags.r o.vpn.0 place s.reads; writes = found_if o.flags.w o.vpn.0 place s.writes }

-- the view of a page is at a place, lets the access through, and has its mark where that is said
pub record IsSpotted (access : Access) (vs : List View) (page place : ℕ) (marked : Bool) : Type 0 where
  pub view : View
  pub there : slice_get vs place ≡ Some view
  pub page_is : view.vpn.0 ≡ page
  pub allowed : wants access view.flags ≡ true
  pub touched : marked ≡ true → view.touched ≡ true
  pub written : marked ≡ true → is_write access ≡ true → view.written ≡ true

-- .. and so it is with each one that is noted for a kind of access, if its page is one that there can be
abbrev pub AreSpotted : Access → List View → Spots → Type 0
AreSpotted access vs s = (page place : ℕ) (marked : Bool) → IsNoted access s page place marked → page < 1048576 → IsSpotted access vs page place marked

-- .. and with those for all kinds
abbrev pub AreAllSpotted : List View → Spots → Type 0
AreAllSpotted vs s = (access : Access) → AreSpotted access vs s
