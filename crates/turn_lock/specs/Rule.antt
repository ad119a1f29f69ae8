-- The rule that holds between any two steps of the lock.
-- Word 0 is the ticket that the next seat draws, word 1 the ticket that is served, and word 2 the length of the history. Slot 0 is where the value is at home.
use Rattle.std.specs.Prelude.{◌≡◌, ◌≢◌, ◌⊎◌, ℕ, ◌<◌, ◌≤◌, ◌^◌, List, [], ◌∷◌, ◌++◌, length, Option, Some}
use mathlib.Core.Option.{none, some}
use mathlib.Core.Option as maybe
use mathlib.Core.List.{IsPrefix}
use lib.ListN.{get_elem?}
use Rattle.atomic_table.specs.Table.{State}
use Rattle.turn_lock.specs.declared.rule.View.{View}
use Rattle.turn_lock.specs.declared.rule.Stage.{Stage}
use Rattle.turn_lock.specs.declared.rule.Stage.TheVariants.{Idle, Waits, Holds, Leaves, Joined}
use Rattle.turn_lock.specs.Lists.{numbers, IsWithin, NoneWithin, AllMadeBelow}

module _ {E : Type 0} where
  -- the seat has the ticket t
  abbrev pub HasTicket : ℕ → Stage E → Type 0
  HasTicket t Idle = ⊥
  HasTicket t (Waits u) = u ≡ t
  HasTicket t (Holds u) = u ≡ t
  HasTicket t (Leaves u) = u ≡ t
  HasTicket t (Joined xs) = ⊥

  -- the seat has the ticket t, and was let in by it
  abbrev pub HasEntered : ℕ → Stage E → Type 0
  HasEntered t Idle = ⊥
  HasEntered t (Waits u) = ⊥
  HasEntered t (Holds u) = u ≡ t
  HasEntered t (Leaves u) = u ≡ t
  HasEntered t (Joined xs) = ⊥

  abbrev pub HasTurn : Stage E → Type 0
  HasTurn Idle = ⊥
  HasTurn (Waits u) = ⊥
  HasTurn (Holds u) = Unit {0}
  HasTurn (Leaves u) = ⊥
  HasTurn (Joined xs) = ⊥

  abbrev pub BeginsWithJoined : List E → Stage E → Type 0
  BeginsWithJoined seen Idle = Unit {0}
  BeginsWithJoined seen (Waits u) = Unit {0}
  BeginsWithJoined seen (Holds u) = Unit {0}
  BeginsWithJoined seen (Leaves u) = Unit {0}
  BeginsWithJoined seen (Joined xs) = IsPrefix xs seen

  abbrev pub EachSeat : (View E → Type 0) → List (View E) → Type 0
  EachSeat P views = (j : ℕ) (v : View E) → get_elem? views j ≡ some v → P v

  abbrev pub SomeSeat : (View E → Type 0) → List (View E) → Type 0
  SomeSeat P views = (j : ℕ) × (v : View E) × (get_elem? views j ≡ some v) × P v

  abbrev pub EachTwoSeats : (View E → View E → Type 0) → List (View E) → Type 0
  EachTwoSeats R views = (i j : ℕ) (v w : View E) → i ≢ j → get_elem? views i ≡ some v → get_elem? views j ≡ some w → R v w

  abbrev pub HaveNoTicketInCommon : View E → View E → Type 0
  HaveNoTicketInCommon v w = (t : ℕ) → HasTicket t v.stage → HasTicket t w.stage → ⊥

  abbrev pub HaveNoNumberInCommon : View E → View E → Type 0
  HaveNoNumberInCommon v w = (k : ℕ) → IsWithin v.first v.end k → IsWithin w.first w.end k → ⊥

  -- the seat's ticket was drawn and isn't past, and the seat has a number to sign with
  abbrev pub HoldsDrawnTicket : ℕ → ℕ → View E → Type 0
  HoldsDrawnTicket serving ticket v = (t : ℕ) → HasTicket t v.stage → (serving ≤ t) × (t < ticket) × (v.first < v.end)

  -- what the seat has seen begins the history, and what follows has no entry of the seat's numbers
  abbrev pub KnowsItsOwn : (E → ℕ) → List E → View E → Type 0
  KnowsItsOwn maker history v = (rest : List E) × (v.seen ++ rest ≡ history) × NoneWithin maker v.first v.end rest

  abbrev pub EntersWhenServed : ℕ → View E → Type 0
  EntersWhenServed serving v = (t : ℕ) → HasEntered t v.stage → t ≡ serving

  abbrev pub HasSeenAllInTurn : List E → View E → Type 0
  HasSeenAllInTurn history v = HasTurn v.stage → v.seen ≡ history

  -- the seat that a lock begins with
  abbrev pub opening_view : List E → View E
  opening_view xs = record { first = 0; end = numbers; seen = xs; stage = Idle }

module _ {X E : Type 0} where
  -- the value is in its slot, and stands for the history
  abbrev pub IsHome : (X → List E) → List E → List (maybe.Option (Option X)) → Type 0
  IsHome entries history homes = (x : X) × (homes ≡ some (Some x) ∷ []) × (entries x ≡ history)

  -- the value is out with the seat that has the turn
  abbrev pub IsOut : List (maybe.Option (Option X)) → List (View E) → Type 0
  IsOut homes views = (homes ≡ none ∷ []) × SomeSeat (λ v. HasTurn v.stage) views

-- A seat that has given the value back keeps its ticket until it passes on, so nobody else is served in between
pub record IsInTurn {X E : Type 0} (entries : X → List E) (maker : E → ℕ) (s : State (Option X) (View E)) : Type 0 where
  -- the ticket that is drawn next
  pub ticket : ℕ
  pub serving : ℕ
  -- the longest list that any seat has seen
  pub history : List E
  pub words_are : s.words ≡ ticket ∷ serving ∷ length history ∷ []
  pub ticket_fits : ticket < 2 ^ 64
  pub no_more_served_than_drawn : serving ≤ ticket
  pub every_ticket_has_a_seat : (t : ℕ) → serving ≤ t → t < ticket → SomeSeat (λ v. HasTicket t v.stage) s.views
  pub every_seat_drew_its_ticket : EachSeat (HoldsDrawnTicket serving ticket) s.views
  pub no_ticket_twice : EachTwoSeats HaveNoTicketInCommon s.views
  pub only_the_served_enters : EachSeat (EntersWhenServed serving) s.views
  pub value_at_home_or_out : IsHome entries history s.homes ⊎ IsOut s.homes s.views
  pub who_has_the_turn_has_seen_all : EachSeat (HasSeenAllInTurn history) s.views
  pub somebody_has_seen_all : SomeSeat (λ v. v.seen ≡ history) s.views
  pub ranges_are_apart : EachTwoSeats HaveNoNumberInCommon s.views
  pub every_number_has_a_seat : (k : ℕ) → k < numbers → SomeSeat (λ v. IsWithin v.first v.end k) s.views
  pub ranges_end : EachSeat (λ v. v.end ≤ numbers) s.views
  pub makers_are_numbers : AllMadeBelow maker numbers history
  pub every_seat_knows_its_own : EachSeat (KnowsItsOwn maker history) s.views
  pub joined_lists_begin : EachSeat (λ v. BeginsWithJoined v.seen v.stage) s.views
