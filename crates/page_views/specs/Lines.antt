-- Where views stand, by a number of theirs.
use Rattle.std.specs.Prelude.{◌≡◌, ℕ, ◌%◌, List, All, Option, Some, None, slice_get, slice_set, replicate}
use Rattle.page_views.specs.declared.lines.Lines.{Lines}
use Rattle.page_views.specs.Views.{View}

-- nothing is noted
abbrev pub no_lines : Lines
no_lines = record { places = replicate 128 None }

-- a place is noted for the numbers of a number's line
abbrev pub noted : ℕ → ℕ → Lines → Lines
noted number place lines = record { places = slice_set lines.places (number % 128) (Some place) }

-- for the number of each view some place is noted
abbrev pub AreNoted : (View → ℕ) → Lines → List View → Type 0
AreNoted number lines vs = All (λ v. ¬ (slice_get lines.places (number v % 128) ≡ Some None)) vs

abbrev pub page_number : View → ℕ
page_number v = v.vpn.0

abbrev pub frame_number : View → ℕ
frame_number v = v.frame.0

-- the view at a place, if there is one
abbrev pub seen_at : Option ℕ → List View → Option View
seen_at None vs = None
seen_at (Some place) vs = slice_get vs place
