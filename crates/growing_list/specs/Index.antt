-- Lists in which each key stands once.
use Rattle.std.specs.Prelude.{◌<◌, ◌≤◌, ◌^◌, length}
use Rattle.std.specs.declared.cmp.Ordering.{Ordering}
use Rattle.sorted_list.specs.Sorted.{Sorted}
use Rattle.slot_cache.specs.Index.{IsRising}

-- the keys rise, and there are no more than there is room for
pub record IsIndex {K V : Type 0} (cmp : K → K → Ordering) (index : Sorted K V) : Type 0 where
  pub rising : IsRising cmp index.entries
  pub few : length index.entries ≤ index.room
  pub small : index.room < 2 ^ 32
