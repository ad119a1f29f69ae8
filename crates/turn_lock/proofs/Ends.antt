-- The rule holds of a lock that was just made, and tells what is in the slot when the lock is closed.
use Rattle.std.proofs.Common.{◌≡◌, ℕ, zero, suc, ◌<◌, ◌≤◌, List, [], ◌∷◌, ◌++◌, length, refl, sym, ◌∙◌, ap, subst, inl, ⊎_elim, arith, le_refl, lit<}
use mathlib.Core.Logic.{dite}
use mathlib.Core.Option.{some, some-injective, some-ne-none}
use native.Mathlib.Decide.{ℕ_discrete}
use lib.ListN.{get_elem?}
use Rattle.std.specs.Prelude.{Option, Some}
use Rattle.std.specs.List.{AllByRecursion}
use Rattle.atomic_table.specs.Table.{State, opening, Final, Seen}
use Rattle.turn_lock.specs.declared.rule.View.{View}
use Rattle.turn_lock.specs.declared.rule.Stage.TheVariants.{Idle}
use Rattle.turn_lock.specs.Lists.{numbers, IsWithin, AllMadeBelow}
use Rattle.turn_lock.specs.Rule.{HasTurn, BeginsWithJoined, EachSeat, EachTwoSeats, HaveNoTicketInCommon, HaveNoNumberInCommon, HoldsDrawnTicket, KnowsItsOwn, EntersWhenServed, HasSeenAllInTurn, IsHome, IsOut, opening_view, IsInTurn}
use Rattle.turn_lock.proofs.Lists.{append_nothing, all_behind, all_both, none_left}
use Rattle.turn_lock.proofs.Entering.{turn_is_served}

module _ {E : Type 0} where
  each_alone : (P : View E → Type 0) (v : View E) → P v → EachSeat P (v ∷ [])
  each_alone P v p zero w e = subst P (some-injective v w e) p
  each_alone P v p (suc j) w e = absurd (some-ne-none w (sym e))

  two_alone : (R : View E → View E → Type 0) (v : View E) → EachTwoSeats R (v ∷ [])
  two_alone R v zero zero x y apart a b = absurd (apart refl)
  two_alone R v zero (suc j) x y apart a b = absurd (some-ne-none y (sym b))
  two_alone R v (suc i) j x y apart a b = absurd (some-ne-none x (sym a))

module _ {X E : Type 0} (entries : X → List E) (maker : E → ℕ) where
  pub opens : (x : X) (n : ℕ) → n ≡ length (entries x) → AllMadeBelow maker numbers (entries x) → IsInTurn entries maker (opening (0 ∷ 0 ∷ n ∷ []) (Some x ∷ []) (opening_view (entries x)))
  opens x n long small = let v : View E = opening_view (entries x) in let xs : List E = entries x in record {
    ticket = 0;
    serving = 0;
    history = xs;
    words_are = ap (λ (z : ℕ). 0 ∷ 0 ∷ z ∷ []) long;
    ticket_fits = lit< tt;
    no_more_served_than_drawn = le_refl 0;
    every_ticket_has_a_seat = λ t low high. absurd (omega arith);
    every_seat_drew_its_ticket = each_alone (HoldsDrawnTicket 0 0) v (λ t h. absurd h);
    no_ticket_twice = two_alone HaveNoTicketInCommon v;
    only_the_served_enters = each_alone (EntersWhenServed 0) v (λ t h. absurd h);
    value_at_home_or_out = inl (x, refl, refl);
    who_has_the_turn_has_seen_all = each_alone (HasSeenAllInTurn xs) v (λ h. absurd h);
    somebody_has_seen_all = (0, v, refl, refl);
    ranges_are_apart = two_alone HaveNoNumberInCommon v;
    every_number_has_a_seat = λ k less. (0, v, refl, (omega arith, less));
    ranges_end = each_alone (λ u. u.end ≤ numbers) v (le_refl numbers);
    makers_are_numbers = small;
    every_seat_knows_its_own = each_alone (KnowsItsOwn maker xs) v ([], append_nothing xs, tt);
    joined_lists_begin = each_alone (λ u. BeginsWithJoined u.seen u.stage) v tt;
  }

  -- a seat with all numbers has seen all
  sees_all : (history : List E) (v : View E) → v.first ≡ 0 → v.end ≡ numbers → AllMadeBelow maker numbers history → KnowsItsOwn maker history v → v.seen ≡ history
  sees_all history v low high small k = let P : E → Type 0 = λ e. IsWithin v.first v.end (maker e) → ⊥ in let Q : E → Type 0 = λ e. maker e < numbers in
      let rest : k.0 ≡ [] = none_left (λ e. P e × Q e) k.0 (λ e both. let below : maker e < numbers = both.1 in both.0 (omega arith, omega arith))
      (all_both P Q k.0 k.2 (all_behind Q v.seen k.0 (subst (AllByRecursion Q) (sym k.1) small))) in
      sym (append_nothing v.seen) ∙ ap (λ (z : List E). v.seen ++ z) (sym rest) ∙ k.1

  -- where one seat has all numbers and is on no way through the lock, the value is at home
  nobody_else : (s : State (Option X) (View E)) (r : IsInTurn entries maker s) (id : ℕ) (v : View E) → v.stage ≡ Idle → v.first ≡ 0 → v.end ≡ numbers → get_elem? s.views id ≡ some v → IsHome entries r.history s.homes
  nobody_else s r id v idle low high at = ⊎_elim (λ h. h) (λ (o : IsOut s.homes s.views). let j : ℕ = o.1.0 in let u : View E = o.1.1 in let e = o.1.2 in let turn = o.1.3 in
      absurd (dite (ℕ_discrete j id)
      (λ is. let same : u ≡ v = some-injective u v (sym e ∙ ap (get_elem? s.views) is ∙ at) in subst HasTurn (ap (λ (z : View E). z.stage) same ∙ idle) turn)
      (λ other. let some_number : u.first < u.end = (r.every_seat_drew_its_ticket j u e r.serving (turn_is_served entries maker s r j u e turn)).2 in let ends : u.end ≤ numbers = r.ranges_end j u e in
      r.ranges_are_apart id j v u (λ h. other (sym h)) at e u.first (omega arith, omega arith) (le_refl u.first, some_number)))) r.value_at_home_or_out

  pub closes : (id : ℕ) (v : View E) (ws : List ℕ) (xs : List (Option X)) → v.stage ≡ Idle → v.first ≡ 0 → v.end ≡ numbers → Final (Seen (IsInTurn entries maker) id v) ws xs
      → (x : X) × (get_elem? xs 0 ≡ some (Some x)) × (entries x ≡ v.seen)
  closes id v ws xs idle low high (s, (r, at), words, wide, homes) = let h = nobody_else s r id v idle low high at in
      (h.0, homes 0 (Some h.0) (ap (λ hs. get_elem? hs 0) h.1), h.2 ∙ sym (sees_all r.history v low high r.makers_are_numbers (r.every_seat_knows_its_own id v at)))
