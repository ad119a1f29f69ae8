-- Names by stamp, and stamps by name.
use Rattle.std.specs.Prelude.{◌≡◌, ◌↔◌, ℕ, ◌+◌, ◌<◌, ◌≤◌, ◌^◌, length, All, Contains}
use Rattle.cache_ident.specs.declared.names.Name.{Name}
use Rattle.cache_ident.specs.contracts.names.NameOrd.TheImpl as names
use Rattle.sorted_list.specs.Sorted.{Sorted}
use Rattle.growing_list.specs.Index.{IsIndex}
use Rattle.declared_names.specs.Order.{AreInOrder}

-- the two lists have the same pairs of a stamp and a name, each stamp is below the next one, and both lists and the
-- stamps that are left have room for so many more
pub record IsSound (room next : ℕ) (by_stamp : Sorted ℕ Name) (stamps : Sorted Name ℕ) : Type 0 where
  pub in_order : AreInOrder by_stamp.entries
  pub below : All (λ entry. entry.0 < next) by_stamp.entries
  pub names : IsIndex (names.ghosts).cmp stamps
  pub listed : (name : Name) (stamp : ℕ) → Contains stamps.entries (name, stamp) ↔ Contains by_stamp.entries (stamp, name)
  pub len : length stamps.entries ≡ length by_stamp.entries
  pub by_stamp_room : room + length by_stamp.entries ≤ by_stamp.room
  pub stamps_room : room + length by_stamp.entries ≤ stamps.room
  pub stamps_left : next + room < 2 ^ 64
