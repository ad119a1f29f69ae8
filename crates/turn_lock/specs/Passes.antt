-- What contracts say of a lock, its passes and its holders.
use Rattle.std.specs.Prelude.{◌≡◌, ℕ, ◌⊎◌, List, Option}
use mathlib.Core.Option.{some}
use lib.ListN.{get_elem?}
use Rattle.atomic_table.specs.Seated.{TableId}
use Rattle.atomic_table.specs.Table.{State}
use Rattle.turn_lock.specs.declared.held.Held.{Held}
use Rattle.turn_lock.specs.declared.history.History.{Ghosts}
use Rattle.turn_lock.specs.declared.pass.Pass.{Pass}
use Rattle.turn_lock.specs.declared.rule.View.{View}
use Rattle.turn_lock.specs.declared.turn.Turn.{Turn}
use Rattle.turn_lock.specs.Lists.{numbers, entries_within}

module _ {X E : Type 0} where
  -- which lock it is
  abbrev pub lock_of : Turn X E → TableId
  lock_of t = t.table.shared.table_id

  -- the value that is out
  abbrev pub value_of : Held X E → X
  value_of h = h.value

  -- the entries that it had when it was taken out
  abbrev pub found_by : Held X E → List E
  found_by h = h.slot.seat.me.0.seen

  -- the range of the pass that it was taken with goes from here ..
  abbrev pub holder_first : Held X E → ℕ
  holder_first h = h.slot.seat.me.0.first

  -- .. to below here
  abbrev pub holder_end : Held X E → ℕ
  holder_end h = h.slot.seat.me.0.end

  -- the lock that it was taken out of
  abbrev pub held_lock : Held X E → TableId
  held_lock h = h.slot.seat.table_id

  -- the seat that it was taken out by
  abbrev pub seat_of : Held X E → ℕ
  seat_of h = h.slot.seat.id

  -- in this state of the lock its seat has the value out
  abbrev pub StandsIn : State (Option X) (View E) → Held X E → Type 0
  StandsIn s h = get_elem? s.views (seat_of h) ≡ some h.slot.seat.me.0

module _ {X E : Type 0} {g : Ghosts X E} where
  -- the lock that the pass is of
  abbrev pub pass_lock : Pass X E g → TableId
  pass_lock p = p.seat.table_id

  -- the range of the pass goes from here ..
  abbrev pub first_of : Pass X E g → ℕ
  first_of p = p.seat.me.0.first

  -- .. to below here
  abbrev pub end_of : Pass X E g → ℕ
  end_of p = p.seat.me.0.end

  -- the entries that it has seen
  abbrev pub seen_of : Pass X E g → List E
  seen_of p = p.seat.me.0.seen

  -- those of them that are signed with its numbers, in order
  abbrev pub own_of : Pass X E g → List E
  own_of p = entries_within g.maker (first_of p) (end_of p) (seen_of p)

  abbrev pub IsPassOf : Turn X E → Pass X E g → Type 0
  IsPassOf t p = pass_lock p ≡ lock_of t

  abbrev pub HasSameRange : Pass X E g → Pass X E g → Type 0
  HasSameRange p q = (first_of q ≡ first_of p) × (end_of q ≡ end_of p)

  abbrev pub AreNeighbours : Pass X E g → Pass X E g → Type 0
  AreNeighbours p q = (end_of p ≡ first_of q) ⊎ (end_of q ≡ first_of p)

  abbrev pub HasAllNumbers : Pass X E g → Type 0
  HasAllNumbers p = (first_of p ≡ 0) × (end_of p ≡ numbers)
