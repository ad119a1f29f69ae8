-- The steps by which a seat leaves keep the rule: it records the length and gives the value back, and it passes on.
use Rattle.std.proofs.Common.{◌≡◌, ◌≢◌, ℕ, ◌+◌, ◌%◌, ◌<◌, ◌≤◌, ◌^◌, List, [], ◌∷◌, ◌++◌, length, get_or, set, refl, sym, ◌∙◌, ap, subst, inl, inr, ⊎_elim, arith, append_assoc, mod-eq_of_lt, le_refl}
use mathlib.Core.Option.{none, some}
use lib.ListN.{get_elem?}
use Rattle.std.specs.Prelude.{Option, Some}
use Rattle.atomic_table.specs.Table.{State, Me, step, keeps, gives, put_back, rest, stepped, Allows}
use Rattle.turn_lock.specs.declared.rule.View.{View}
use Rattle.turn_lock.specs.declared.rule.Stage.TheVariants.{Idle, Holds, Leaves}
use Rattle.turn_lock.specs.Lists.{numbers, IsWithin, AllMadeBelow, AllMadeBy}
use Rattle.turn_lock.specs.Rule.{HasTicket, HasEntered, HasTurn, BeginsWithJoined, HaveNoTicketInCommon, HaveNoNumberInCommon, HoldsDrawnTicket, KnowsItsOwn, EntersWhenServed, HasSeenAllInTurn, IsHome, IsOut, IsInTurn}
use Rattle.turn_lock.specs.Steps.{at_stage, having_seen, records, passes_on}
use Rattle.turn_lock.proofs.Lists.{append_nothing, all_append, all_weaker}
use Rattle.turn_lock.proofs.Seats.{each_after, some_here, some_after, two_after}
use Rattle.turn_lock.proofs.Entering.{swap_tickets, swap_numbers, entered_has_ticket, turn_is_served}

module _ {X E : Type 0} (entries : X → List E) (maker : E → ℕ) where
  abbrev St : Type 0
  St = State (Option X) (View E)

  abbrev M : Type 0
  M = Me (Option X) (View E)

  abbrev Rule : St → Type 0
  Rule = IsInTurn entries maker

  -- whatever other seat has seen, what follows still has none of its own entries
  still_knows : (history now more : List E) (n : ℕ) (v : View E) → history ++ more ≡ now → AllMadeBy maker n more → (IsWithin v.first v.end n → ⊥) → KnowsItsOwn maker history v → KnowsItsOwn maker now v
  still_knows history now more n v is made other k = (
    k.0 ++ more,
    sym (append_assoc v.seen k.0 more) ∙ ap (λ (z : List E). z ++ more) k.1 ∙ is,
    all_append (λ e. IsWithin v.first v.end (maker e) → ⊥) k.0 more k.2
        (all_weaker (λ e. maker e ≡ n) (λ e. IsWithin v.first v.end (maker e) → ⊥) (λ e m within. other (subst (IsWithin v.first v.end) m within)) more made),
  )

  gives_back : (s : St) (r : Rule s) (id : ℕ) (me : M) (t : ℕ) (x : X) (more : List E) → me.0.stage ≡ Holds t → me.1 ≡ (0, Some x) ∷ [] → me.0.first < me.0.end → me.0.seen ++ more ≡ entries x → AllMadeBy maker me.0.first more → get_elem? s.views id ≡ some me.0
      → Rule (stepped s 2 (length (entries x)) id me.1 (having_seen me.0 (entries x) (Leaves t)) gives)
  gives_back s r id me t x more holds carries range is made at = let w : View E = having_seen me.0 (entries x) (Leaves t) in let vs : List (View E) = s.views in let now : List E = entries x in
      let had : (u : ℕ) → t ≡ u → HasTicket u me.0.stage = λ u h. subst (HasTicket u) (sym holds) h in
      let served : t ≡ r.serving = r.only_the_served_enters id me.0 at t (subst (HasEntered t) (sym holds) refl) in
      let all : me.0.seen ≡ r.history = r.who_has_the_turn_has_seen_all id me.0 at (subst HasTurn (sym holds) tt) in
      let is' : r.history ++ more ≡ now = subst (λ (z : List E). z ++ more ≡ now) all is in
      let ends : me.0.end ≤ numbers = r.ranges_end id me.0 at in
      let back : (hs : _) → s.homes ≡ hs → set hs 0 (some (Some x)) ≡ some (Some x) ∷ [] → put_back s.homes me.1 ≡ some (Some x) ∷ [] = λ hs e f. ap (put_back s.homes) carries ∙ (ap (λ z. set z 0 (some (Some x))) e ∙ f) in
      record {
        ticket = r.ticket;
        serving = r.serving;
        history = now;
        words_are = ap (λ (ws : List ℕ). set ws 2 (length now)) r.words_are;
        ticket_fits = r.ticket_fits;
        no_more_served_than_drawn = r.no_more_served_than_drawn;
        every_ticket_has_a_seat = λ u low high. some_after (λ v. HasTicket u v.stage) vs id me.0 w at (λ h. subst (HasTicket u) holds h) (r.every_ticket_has_a_seat u low high);
        every_seat_drew_its_ticket = each_after (HoldsDrawnTicket r.serving r.ticket) vs id w (λ u h. r.every_seat_drew_its_ticket id me.0 at u (had u h)) (λ j v _ e. r.every_seat_drew_its_ticket j v e);
        no_ticket_twice = two_after HaveNoTicketInCommon swap_tickets vs id w (λ j v ne e u h. r.no_ticket_twice id j me.0 v (λ z. ne (sym z)) at e u (had u h)) r.no_ticket_twice;
        only_the_served_enters = each_after (EntersWhenServed r.serving) vs id w (λ u h. sym h ∙ served) (λ j v _ e. r.only_the_served_enters j v e);
        value_at_home_or_out = inl (x, ⊎_elim (λ (h : IsHome entries r.history s.homes). back _ h.1 refl) (λ (o : IsOut s.homes vs). back _ o.0 refl) r.value_at_home_or_out, refl);
        who_has_the_turn_has_seen_all = each_after (HasSeenAllInTurn now) vs id w (λ h. absurd h)
            (λ j v ne e h. absurd (r.no_ticket_twice j id v me.0 ne e at r.serving (turn_is_served entries maker s r j v e h) (had r.serving served)));
        somebody_has_seen_all = some_here (λ v. v.seen ≡ now) vs id me.0 w at refl;
        ranges_are_apart = two_after HaveNoNumberInCommon swap_numbers vs id w (λ j v ne e. r.ranges_are_apart id j me.0 v (λ h. ne (sym h)) at e) r.ranges_are_apart;
        every_number_has_a_seat = λ k small. some_after (λ v. IsWithin v.first v.end k) vs id me.0 w at (λ h. h) (r.every_number_has_a_seat k small);
        ranges_end = each_after (λ v. v.end ≤ numbers) vs id w ends (λ j v _ e. r.ranges_end j v e);
        makers_are_numbers = subst (AllMadeBelow maker numbers) is' (all_append (λ e. maker e < numbers) r.history more r.makers_are_numbers
            (all_weaker (λ e. maker e ≡ me.0.first) (λ e. maker e < numbers) (λ e m. omega (arith, m)) more made));
        every_seat_knows_its_own = each_after (KnowsItsOwn maker now) vs id w ([], append_nothing now, tt)
            (λ j v ne e. still_knows r.history now more me.0.first v is' made (λ within. r.ranges_are_apart id j me.0 v (λ h. ne (sym h)) at e me.0.first (le_refl me.0.first, range) within) (r.every_seat_knows_its_own j v e));
        joined_lists_begin = each_after (λ v. BeginsWithJoined v.seen v.stage) vs id w tt (λ j v _ e. r.joined_lists_begin j v e);
      }

  pub records_length : (n id : ℕ) (me : M) (t : ℕ) (x : X) (more : List E) (new : ℕ) → new ≡ length (entries x) → me.0.stage ≡ Holds t → me.1 ≡ (0, Some x) ∷ [] → me.0.first < me.0.end → me.0.seen ++ more ≡ entries x → AllMadeBy maker me.0.first more
      → Allows Rule n id me 2 (λ _. new) (λ _. records entries (step n 2 new 0 none) me new)
  records_length n id me t x more new long holds carries range is made s r wide at _ = (
    having_seen me.0 (entries x) (Leaves t),
    gives,
    tt,
    subst (λ (z : ℕ). Rule (stepped s 2 z id me.1 (having_seen me.0 (entries x) (Leaves t)) gives)) (sym long) (gives_back s r id me t x more holds carries range is made at),
    λ u y holds_u carries_y. let same : t ≡ u = cc (holds, holds_u) in let first : (ℕ × Option X) = (0, Some x) in let second : (ℕ × Option X) = (0, Some y) in let pairs : first ≡ second = cc (carries, carries_y) in
        let values : Some x ≡ Some y = ap (λ (z : ℕ × Option X). z.1) pairs in let same_value : x ≡ y = cc (values) in
        (λ i. (having_seen me.0 (entries (same_value i)) (Leaves (same i)), ap rest carries i)),
  )

  lets_next : (s : St) (r : Rule s) (id : ℕ) (me : M) (t : ℕ) → me.0.stage ≡ Leaves t → get_elem? s.views id ≡ some me.0 → (r.serving < r.ticket) × Rule (stepped s 1 (r.serving + 1) id me.1 (at_stage me.0 Idle) keeps)
  lets_next s r id me t leaves at = let w : View E = at_stage me.0 Idle in let vs : List (View E) = s.views in
      let served : t ≡ r.serving = r.only_the_served_enters id me.0 at t (subst (HasEntered t) (sym leaves) refl) in
      let mine : HasTicket r.serving me.0.stage = subst (HasTicket r.serving) (sym leaves) served in
      let drawn : r.serving < r.ticket = (r.every_seat_drew_its_ticket id me.0 at r.serving mine).1 in (
        drawn,
        record {
          ticket = r.ticket;
          serving = r.serving + 1;
          history = r.history;
          words_are = ap (λ (ws : List ℕ). set ws 1 (r.serving + 1)) r.words_are;
          ticket_fits = r.ticket_fits;
          no_more_served_than_drawn = omega arith;
          every_ticket_has_a_seat = λ u low high. some_after (λ v. HasTicket u v.stage) vs id me.0 w at (λ h. let same : t ≡ u = subst (HasTicket u) leaves h in absurd (omega arith)) (r.every_ticket_has_a_seat u (omega arith) high);
          every_seat_drew_its_ticket = each_after (HoldsDrawnTicket (r.serving + 1) r.ticket) vs id w (λ u h. absurd h)
              (λ j v ne e u h. let k = r.every_seat_drew_its_ticket j v e u h in let low : r.serving ≤ u = k.0 in
              let other : u ≢ r.serving = λ is. r.no_ticket_twice j id v me.0 ne e at r.serving (subst (λ (z : ℕ). HasTicket z v.stage) is h) mine in (omega arith, k.1, k.2));
          no_ticket_twice = two_after HaveNoTicketInCommon swap_tickets vs id w (λ j v ne e u h _. h) r.no_ticket_twice;
          only_the_served_enters = each_after (EntersWhenServed (r.serving + 1)) vs id w (λ u h. absurd h)
              (λ j v ne e u h. let is = r.only_the_served_enters j v e u h in absurd (r.no_ticket_twice j id v me.0 ne e at r.serving (subst (λ (z : ℕ). HasTicket z v.stage) is (entered_has_ticket v.stage u h)) mine));
          value_at_home_or_out = ⊎_elim (λ h. inl h) (λ (o : IsOut s.homes vs). inr (o.0, some_after (λ v. HasTurn v.stage) vs id me.0 w at (λ h. absurd (subst HasTurn leaves h)) o.1)) r.value_at_home_or_out;
          who_has_the_turn_has_seen_all = each_after (HasSeenAllInTurn r.history) vs id w (λ h. absurd h) (λ j v _ e. r.who_has_the_turn_has_seen_all j v e);
          somebody_has_seen_all = some_after (λ v. v.seen ≡ r.history) vs id me.0 w at (λ h. h) r.somebody_has_seen_all;
          ranges_are_apart = two_after HaveNoNumberInCommon swap_numbers vs id w (λ j v ne e. r.ranges_are_apart id j me.0 v (λ h. ne (sym h)) at e) r.ranges_are_apart;
          every_number_has_a_seat = λ k small. some_after (λ v. IsWithin v.first v.end k) vs id me.0 w at (λ h. h) (r.every_number_has_a_seat k small);
          ranges_end = each_after (λ v. v.end ≤ numbers) vs id w (r.ranges_end id me.0 at) (λ j v _ e. r.ranges_end j v e);
          makers_are_numbers = r.makers_are_numbers;
          every_seat_knows_its_own = each_after (KnowsItsOwn maker r.history) vs id w (r.every_seat_knows_its_own id me.0 at) (λ j v _ e. r.every_seat_knows_its_own j v e);
          joined_lists_begin = each_after (λ v. BeginsWithJoined v.seen v.stage) vs id w tt (λ j v _ e. r.joined_lists_begin j v e);
        },
      )

  pub passes_turn_on : (n id : ℕ) (me : M) (t : ℕ) → me.0.stage ≡ Leaves t → Allows Rule n id me 1 (λ y. (y + 1) % 2 ^ 64) (passes_on (step n 1 1 0 none) me)
  passes_turn_on n id me t leaves s r wide at _ = let y : ℕ = get_or s.words 1 0 in let is : y ≡ r.serving = ap (λ (ws : List ℕ). get_or ws 1 0) r.words_are in let next = lets_next s r id me t leaves at in
      let drawn : r.serving < r.ticket = next.0 in let fits : r.ticket < 2 ^ 64 = r.ticket_fits in
      let new : (y + 1) % 2 ^ 64 ≡ r.serving + 1 = mod-eq_of_lt (omega arith) ∙ ap (λ (z : ℕ). z + 1) is in
      (at_stage me.0 Idle, keeps, tt, subst (λ (z : ℕ). Rule (stepped s 1 z id me.1 (at_stage me.0 Idle) keeps)) (sym new) next.1, refl)
