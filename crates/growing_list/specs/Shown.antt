-- What a list shows that may not be there yet.
use Rattle.std.specs.Prelude.{List, [], Option, Some, None}
use Rattle.sorted_list.specs.Sorted.{Sorted}

-- where there is no list, there is no room and nothing in it
abbrev pub shown : {K V : Type 0} → Option (Sorted K V) → Sorted K V
shown None = record { room = 0; entries = [] }
shown (Some sorted) = sorted

-- and nothing is left to go over
abbrev pub left_in : {V : Type 0} → Option (List V) → List V
left_in None = []
left_in (Some values) = values
