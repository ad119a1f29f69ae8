-- What the tables, the pages that are kept and the store are together.
use Rattle.std.specs.Prelude.{◌≡◌, ℕ, ◌*◌, length}
use Rattle.flat_state.specs.State.{FlatState}
use Rattle.page_store.specs.Kept.{Kept}

-- the tables, the pages that are kept and the store have the same frames
pub record HasFrames (tables : FlatState) (pages : Kept) (frames : ℕ) : Type 0 where
  pub size : length tables.memory ≡ 4096 * pages.frames
  pub same : frames ≡ pages.frames
