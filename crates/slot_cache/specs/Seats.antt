-- What stands in the seats that slots hold.
use Rattle.std.specs.Prelude.{ℕ, List, map, Option, Some, None, slice_index_or, if◌then◌else◌}
use Rattle.std.specs.Option.{option_map}
use Rattle.cache_ident.specs.declared.idents.Ident.{Ident}
use Rattle.slot_cache.specs.declared.loaded.Loaded.{Loaded}
use Rattle.slot_cache.specs.declared.seats.Seat.{Seat}

module _ {T : Type 0} where
  -- the identifier with which what sits in a seat is loaded, if it is
  abbrev pub ident_of : Seat T → Option Ident
  ident_of seat = if seat.is_loaded then Some seat.loaded.ident else None

  -- the seat at a key
  abbrev pub seat_at : List (Option (Seat T)) → ℕ → Option (Seat T)
  seat_at seats key = slice_index_or seats key None

  -- what a slot holds, if there is a seat at its key
  abbrev pub held_in : List (Option (Seat T)) → Option ℕ → Option (Loaded T)
  held_in seats None = None
  held_in seats (Some key) = option_map (λ seat. seat.loaded) (seat_at seats key)

  -- what stands at each slot
  abbrev pub cells_in : List (Option (Seat T)) → List (Option ℕ) → List (Option (Loaded T))
  cells_in seats slots = map (held_in seats) slots
