-- Where the pages that are kept stand, by their frames.
use Rattle.std.specs.Prelude.{◌≡◌, ℕ, List, Option, Some, slice_get}
use Rattle.cache_ident.specs.declared.names.Frame.{Frame}
use Rattle.page_store.specs.declared.page.Page.{Page}
use Rattle.page_store.specs.Kept.{HasPage}

-- a place is noted for a frame exactly where it has the frame's page
pub record IsIndex (slots : List Page) (places : List (Option ℕ)) : Type 0 where
  pub noted : (frame : Frame) (place : ℕ) → slice_get places frame.0 ≡ Some (Some place) → (page : Page) × HasPage slots place frame page
  pub found : (place : ℕ) (frame : Frame) (page : Page) → HasPage slots place frame page → slice_get places frame.0 ≡ Some (Some place)
