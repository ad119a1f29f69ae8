-- Cutting a seat in two, joining two, and the look by which a joined seat learns that one list begins the other, keep the rule.
use Rattle.std.proofs.Common.{◌≡◌, ◌≢◌, ◌⊎◌, ℕ, ◌<◌, ◌≤◌, min, max, List, [], ◌∷◌, ◌++◌, length, get_or, set, refl, sym, ◌∙◌, ap, subst, inl, inr, ⊎_elim, arith}
use mathlib.Core.Logic.{dite}
use mathlib.Core.List.{IsPrefix}
use mathlib.Core.Option.{none, some}
use native.Mathlib.Decide.{dec_le}
use lib.ListN.{get_elem?}
use lib.Seq.{set-get_or}
use Rattle.std.specs.Prelude.{Option}
use Rattle.std.specs.List.{AllByRecursion}
use Rattle.atomic_table.specs.Table.{State, Me, step, keeps, Allows, Splits, Joins}
use Rattle.atomic_table.proofs.Lists.{set_else}
use Rattle.turn_lock.specs.declared.rule.View.{View}
use Rattle.turn_lock.specs.declared.rule.Stage.TheVariants.{Idle, Joined}
use Rattle.turn_lock.specs.Lists.{numbers, IsWithin, NoneWithin, longer}
use Rattle.turn_lock.specs.Rule.{HasTicket, HasTurn, BeginsWithJoined, EachSeat, SomeSeat, HaveNoTicketInCommon, HaveNoNumberInCommon, HoldsDrawnTicket, KnowsItsOwn, EntersWhenServed, HasSeenAllInTurn, IsOut, IsInTurn}
use Rattle.turn_lock.specs.Steps.{at_stage, below, above, both, spent, compares}
use Rattle.turn_lock.proofs.Lists.{shorter_begins, whole_beginning, all_weaker, all_both, all_further, longer_shorter}
use Rattle.turn_lock.proofs.Seats.{each_after, some_after, two_after, each_longer, some_longer, some_last, two_longer, joined_seats, each_joined, some_joined, two_joined}
use Rattle.turn_lock.proofs.Entering.{swap_tickets, swap_numbers}

module _ {X E : Type 0} (entries : X → List E) (maker : E → ℕ) where
  abbrev St : Type 0
  St = State (Option X) (View E)

  abbrev M : Type 0
  M = Me (Option X) (View E)

  abbrev Rule : St → Type 0
  Rule = IsInTurn entries maker

  -- what is known over a range is known over a part of it
  knows_less : (history : List E) (v : View E) (first end : ℕ) → v.first ≤ first → end ≤ v.end → KnowsItsOwn maker history v → KnowsItsOwn maker history (record v { first = first; end = end })
  knows_less history v first end low high k = (
    k.0,
    k.1,
    all_weaker (λ e. IsWithin v.first v.end (maker e) → ⊥) (λ e. IsWithin first end (maker e) → ⊥) (λ e no' within. let a = within.0 in let b = within.1 in no' (omega arith, omega arith)) k.0 k.2,
  )

  -- each of the two parts has no ticket, and a part of the range
  cuts : (s : St) (r : Rule s) (id : ℕ) (v : View E) (cut : ℕ) → v.stage ≡ Idle → v.first < cut → cut < v.end → get_elem? s.views id ≡ some v
      → Rule record { words = s.words; homes = s.homes; views = set s.views id (below cut v) ++ above cut v ∷ [] }
  cuts s r id v cut idle low high at = let vs : List (View E) = s.views in let l : View E = below cut v in let u : View E = above cut v in let mid : List (View E) = set vs id l in
      let none' : (t : ℕ) → HasTicket t v.stage → ⊥ = λ t h. subst (HasTicket t) idle h in
      let no_turn : HasTurn v.stage → ⊥ = λ h. subst HasTurn idle h in
      record {
        ticket = r.ticket;
        serving = r.serving;
        history = r.history;
        words_are = r.words_are;
        ticket_fits = r.ticket_fits;
        no_more_served_than_drawn = r.no_more_served_than_drawn;
        every_ticket_has_a_seat = λ t a b. some_longer (λ v. HasTicket t v.stage) mid u (some_after (λ v. HasTicket t v.stage) vs id v l at (λ h. h) (r.every_ticket_has_a_seat t a b));
        every_seat_drew_its_ticket = each_longer (HoldsDrawnTicket r.serving r.ticket) mid u (each_after (HoldsDrawnTicket r.serving r.ticket) vs id l (λ t h. absurd (none' t h)) (λ j v _ e. r.every_seat_drew_its_ticket j v e)) (λ t h. absurd (none' t h));
        no_ticket_twice = two_longer HaveNoTicketInCommon swap_tickets mid u (two_after HaveNoTicketInCommon swap_tickets vs id l (λ j v _ e t h _. none' t h) r.no_ticket_twice) (λ j v e t h _. none' t h);
        only_the_served_enters = each_longer (EntersWhenServed r.serving) mid u (each_after (EntersWhenServed r.serving) vs id l (r.only_the_served_enters id v at) (λ j v _ e. r.only_the_served_enters j v e)) (r.only_the_served_enters id v at);
        value_at_home_or_out = ⊎_elim (λ h. inl h) (λ (o : IsOut s.homes vs). inr (o.0, some_longer (λ v. HasTurn v.stage) mid u (some_after (λ v. HasTurn v.stage) vs id v l at (λ h. h) o.1))) r.value_at_home_or_out;
        who_has_the_turn_has_seen_all = each_longer (HasSeenAllInTurn r.history) mid u (each_after (HasSeenAllInTurn r.history) vs id l (λ h. absurd (no_turn h)) (λ j v _ e. r.who_has_the_turn_has_seen_all j v e)) (λ h. absurd (no_turn h));
        somebody_has_seen_all = some_longer (λ v. v.seen ≡ r.history) mid u (some_after (λ v. v.seen ≡ r.history) vs id v l at (λ h. h) r.somebody_has_seen_all);
        ranges_are_apart = two_longer HaveNoNumberInCommon swap_numbers mid u
            (two_after HaveNoNumberInCommon swap_numbers vs id l (λ j w ne e k p q. let b : k < cut = p.1 in r.ranges_are_apart id j v w (λ h. ne (sym h)) at e k (p.0, omega arith) q) r.ranges_are_apart)
            (each_after (HaveNoNumberInCommon u) vs id l (λ k p q. let a : cut ≤ k = p.0 in let b : k < cut = q.1 in omega arith)
            (λ j w ne e k p q. let a : cut ≤ k = p.0 in r.ranges_are_apart id j v w (λ h. ne (sym h)) at e k (omega arith, p.1) q));
        every_number_has_a_seat = λ k small. dite (dec_le cut k)
            (λ big. dite (dec_le v.end k)
            (λ past. some_longer (λ v. IsWithin v.first v.end k) mid u (some_after (λ v. IsWithin v.first v.end k) vs id v l at (λ h. let b : k < v.end = h.1 in absurd (omega arith)) (r.every_number_has_a_seat k small)))
            (λ inside. some_last (λ v. IsWithin v.first v.end k) mid u (big, omega arith)))
            (λ less. some_longer (λ v. IsWithin v.first v.end k) mid u (some_after (λ v. IsWithin v.first v.end k) vs id v l at (λ h. (h.0, omega arith)) (r.every_number_has_a_seat k small)));
        ranges_end = let ends : v.end ≤ numbers = r.ranges_end id v at in each_longer (λ v. v.end ≤ numbers) mid u (each_after (λ v. v.end ≤ numbers) vs id l (omega arith) (λ j v _ e. r.ranges_end j v e)) ends;
        makers_are_numbers = r.makers_are_numbers;
        every_seat_knows_its_own = let mine = r.every_seat_knows_its_own id v at in each_longer (KnowsItsOwn maker r.history) mid u
            (each_after (KnowsItsOwn maker r.history) vs id l (knows_less r.history v v.first cut (omega arith) (omega arith) mine) (λ j v _ e. r.every_seat_knows_its_own j v e))
            (knows_less r.history v cut v.end (omega arith) (omega arith) mine);
        joined_lists_begin = each_longer (λ v. BeginsWithJoined v.seen v.stage) mid u (each_after (λ v. BeginsWithJoined v.seen v.stage) vs id l (r.joined_lists_begin id v at) (λ j v _ e. r.joined_lists_begin j v e)) (r.joined_lists_begin id v at);
      }

  pub splits_range : (id : ℕ) (v : View E) (cut : ℕ) → v.stage ≡ Idle → v.first < cut → cut < v.end → Splits Rule id v (below cut v) (above cut v)
  splits_range id v cut idle low high s r at = cuts s r id v cut idle low high at

  -- a number of the joined range is in one of the two
  in_one : (v w : View E) (k : ℕ) → v.first < v.end → w.first < w.end → (v.end ≡ w.first) ⊎ (w.end ≡ v.first) → IsWithin (min v.first w.first) (max v.end w.end) k → IsWithin v.first v.end k ⊎ IsWithin w.first w.end k
  in_one v w k a b beside within = let low : min v.first w.first ≤ k = within.0 in let high : k < max v.end w.end = within.1 in
      let A : Type 0 = IsWithin v.first v.end k ⊎ IsWithin w.first w.end k in
      ⊎_elim (λ (e : v.end ≡ w.first). dite (dec_le v.end k) (λ up. let x : A = inr (omega arith, omega arith) in x) (λ down. let x : A = inl (omega arith, omega arith) in x))
      (λ (e : w.end ≡ v.first). dite (dec_le w.end k) (λ up. let x : A = inl (omega arith, omega arith) in x) (λ down. let x : A = inr (omega arith, omega arith) in x)) beside

  -- what two seats know of their own entries, the joined seat knows of both
  knows_both : (history : List E) (v w : View E) → v.first < v.end → w.first < w.end → (v.end ≡ w.first) ⊎ (w.end ≡ v.first) → KnowsItsOwn maker history v → KnowsItsOwn maker history w → KnowsItsOwn maker history (both v w)
  knows_both history v w a b beside kv kw = let P : View E → E → Type 0 = λ u e. IsWithin u.first u.end (maker e) → ⊥ in let N : E → Type 0 = λ e. IsWithin (min v.first w.first) (max v.end w.end) (maker e) → ⊥ in
      let neither : (rest : List E) → AllByRecursion (P v) rest → AllByRecursion (P w) rest → AllByRecursion N rest = λ rest x y.
      all_weaker (λ e. P v e × P w e) N (λ e no' within. ⊎_elim no'.0 no'.1 (in_one v w (maker e) a b beside within)) rest (all_both (P v) (P w) rest x y) in
      longer_shorter (λ long short. (rest : List E) × (long ++ rest ≡ history) × NoneWithin maker (min v.first w.first) (max v.end w.end) rest) v.seen w.seen
      (λ less. (kw.0, kw.1, neither kw.0 (all_further (P v) v.seen w.seen kv.0 kw.0 (kv.1 ∙ sym kw.1) (omega arith) kv.2) kw.2))
      (λ more. (kv.0, kv.1, neither kv.0 kv.2 (all_further (P w) w.seen v.seen kw.0 kv.0 (kw.1 ∙ sym kv.1) more kw.2)))

  begins : (history : List E) (v : View E) → KnowsItsOwn maker history v → IsPrefix v.seen history
  begins history v k = (k.0, k.1)

  -- whoever of the two has seen all, the joined seat has
  longest_stays : (history xs ys : List E) → IsPrefix xs history → IsPrefix ys history → (xs ≡ history) ⊎ (ys ≡ history) → longer xs ys ≡ history
  longest_stays history xs ys p q all = let longest : (zs : List E) → IsPrefix zs history → length history ≤ length zs → zs ≡ history = λ zs z le. whole_beginning zs history z le in
      longer_shorter (λ long short. long ≡ history) xs ys
      (λ less. longest ys q (⊎_elim (λ (e : xs ≡ history). let l : length xs ≡ length history = ap length e in omega arith) (λ (e : ys ≡ history). let l : length ys ≡ length history = ap length e in omega arith) all))
      (λ more. longest xs p (⊎_elim (λ (e : xs ≡ history). let l : length xs ≡ length history = ap length e in omega arith) (λ (e : ys ≡ history). let l : length ys ≡ length history = ap length e in omega arith) all))

  glues : (s : St) (r : Rule s) (id other : ℕ) (v w : View E) → v.stage ≡ Idle → w.stage ≡ Idle → v.first < v.end → w.first < w.end → (v.end ≡ w.first) ⊎ (w.end ≡ v.first) → (other ≡ id → ⊥)
      → get_elem? s.views id ≡ some v → get_elem? (set s.views id (both v w)) other ≡ some w → get_elem? s.views other ≡ some w → Rule record { words = s.words; homes = s.homes; views = joined_seats s.views id other v w (both v w) spent }
  glues s r id other v w idle_v idle_w some_v some_w beside apart at there at_other = let vs : List (View E) = s.views in let b : View E = both v w in let kv = r.every_seat_knows_its_own id v at in let kw = r.every_seat_knows_its_own other w at_other in
      let some' : (P : View E → Type 0) → (P v → P b) → (P w → P b) → SomeSeat P vs → SomeSeat P (joined_seats vs id other v w b spent) = λ P. some_joined vs id other v w b spent P at there apart in
      let each' : (P : View E → Type 0) → P b → P spent → EachSeat P vs → EachSeat P (joined_seats vs id other v w b spent) = λ P. each_joined vs id other v w b spent P in
      let apart' : id ≢ other = λ h. apart (sym h) in
      record {
        ticket = r.ticket;
        serving = r.serving;
        history = r.history;
        words_are = r.words_are;
        ticket_fits = r.ticket_fits;
        no_more_served_than_drawn = r.no_more_served_than_drawn;
        every_ticket_has_a_seat = λ t low high. some' (λ u. HasTicket t u.stage) (λ h. subst (HasTicket t) idle_v h) (λ h. subst (HasTicket t) idle_w h) (r.every_ticket_has_a_seat t low high);
        every_seat_drew_its_ticket = each' (HoldsDrawnTicket r.serving r.ticket) (λ t h. absurd h) (λ t h. absurd h) r.every_seat_drew_its_ticket;
        no_ticket_twice = two_joined vs id other v w b spent HaveNoTicketInCommon swap_tickets (λ x t h _. h) (λ j x _ _ e t h _. h) r.no_ticket_twice;
        only_the_served_enters = each' (EntersWhenServed r.serving) (λ t h. absurd h) (λ t h. absurd h) r.only_the_served_enters;
        value_at_home_or_out = ⊎_elim (λ h. inl h) (λ (o : IsOut s.homes vs). inr (o.0, some' (λ u. HasTurn u.stage) (λ h. absurd (subst HasTurn idle_v h)) (λ h. absurd (subst HasTurn idle_w h)) o.1)) r.value_at_home_or_out;
        who_has_the_turn_has_seen_all = each' (HasSeenAllInTurn r.history) (λ h. absurd h) (λ h. absurd h) r.who_has_the_turn_has_seen_all;
        somebody_has_seen_all = some' (λ u. u.seen ≡ r.history) (λ h. longest_stays r.history v.seen w.seen (begins r.history v kv) (begins r.history w kw) (inl h)) (λ h. longest_stays r.history v.seen w.seen (begins r.history v kv) (begins r.history w kw) (inr h)) r.somebody_has_seen_all;
        ranges_are_apart = two_joined vs id other v w b spent HaveNoNumberInCommon swap_numbers (λ x k p _. let high : k < 0 = p.1 in omega arith)
            (λ j x not_id not_other e k p q. ⊎_elim (λ i. r.ranges_are_apart id j v x (λ h. not_id (sym h)) at e k i q) (λ i. r.ranges_are_apart other j w x (λ h. not_other (sym h)) at_other e k i q) (in_one v w k some_v some_w beside p)) r.ranges_are_apart;
        every_number_has_a_seat = λ k small. some' (λ u. IsWithin u.first u.end k) (λ h. let low : v.first ≤ k = h.0 in let high : k < v.end = h.1 in (omega arith, omega arith)) (λ h. let low : w.first ≤ k = h.0 in let high : k < w.end = h.1 in (omega arith, omega arith)) (r.every_number_has_a_seat k small);
        ranges_end = let end_v : v.end ≤ numbers = r.ranges_end id v at in let end_w : w.end ≤ numbers = r.ranges_end other w at_other in each' (λ u. u.end ≤ numbers) (omega arith) (omega arith) r.ranges_end;
        makers_are_numbers = r.makers_are_numbers;
        every_seat_knows_its_own = each' (KnowsItsOwn maker r.history) (knows_both r.history v w some_v some_w beside kv kw)
            (r.history, refl, all_weaker (λ e. maker e < numbers) (λ e. IsWithin 0 0 (maker e) → ⊥) (λ e _ within. let high : maker e < 0 = within.1 in omega arith) r.history r.makers_are_numbers) r.every_seat_knows_its_own;
        joined_lists_begin = each' (λ u. BeginsWithJoined u.seen u.stage) (longer_shorter (λ long short. IsPrefix short long) v.seen w.seen
            (λ less. shorter_begins v.seen w.seen r.history (begins r.history v kv) (begins r.history w kw) (omega arith))
            (λ more. shorter_begins w.seen v.seen r.history (begins r.history w kw) (begins r.history v kv) more)) tt r.joined_lists_begin;
      }

  pub joins_ranges : (id other : ℕ) (v w : View E) → v.stage ≡ Idle → w.stage ≡ Idle → v.first < v.end → w.first < w.end → (v.end ≡ w.first) ⊎ (w.end ≡ v.first) → Joins Rule id v other w (both v w) spent
  joins_ranges id other v w idle_v idle_w some_v some_w beside s r at apart there =
      glues s r id other v w idle_v idle_w some_v some_w beside apart at there (sym (set_else s.views id other (both v w) (λ h. apart h)) ∙ there)

  -- the joined seat learns that the shorter list begins the longer
  pub compares_lists : (n id : ℕ) (me : M) (xs : List E) → me.0.stage ≡ Joined xs → Allows Rule n id me 0 (λ y. y) (compares (step n 0 0 0 none) me)
  compares_lists n id me xs joined s r wide at _ = let y : ℕ = get_or s.words 0 0 in let w : View E = at_stage me.0 Idle in let vs : List (View E) = s.views in (
    w,
    keeps,
    tt,
    subst (λ (ws : List ℕ). Rule record { words = ws; homes = s.homes; views = set vs id w }) (sym (set-get_or s.words 0 0)) record {
      ticket = r.ticket;
      serving = r.serving;
      history = r.history;
      words_are = r.words_are;
      ticket_fits = r.ticket_fits;
      no_more_served_than_drawn = r.no_more_served_than_drawn;
      every_ticket_has_a_seat = λ t low high. some_after (λ v. HasTicket t v.stage) vs id me.0 w at (λ h. subst (HasTicket t) joined h) (r.every_ticket_has_a_seat t low high);
      every_seat_drew_its_ticket = each_after (HoldsDrawnTicket r.serving r.ticket) vs id w (λ t h. absurd h) (λ j v _ e. r.every_seat_drew_its_ticket j v e);
      no_ticket_twice = two_after HaveNoTicketInCommon swap_tickets vs id w (λ j v _ e t h _. h) r.no_ticket_twice;
      only_the_served_enters = each_after (EntersWhenServed r.serving) vs id w (λ t h. absurd h) (λ j v _ e. r.only_the_served_enters j v e);
      value_at_home_or_out = ⊎_elim (λ h. inl h) (λ (o : IsOut s.homes vs). inr (o.0, some_after (λ v. HasTurn v.stage) vs id me.0 w at (λ h. absurd (subst HasTurn joined h)) o.1)) r.value_at_home_or_out;
      who_has_the_turn_has_seen_all = each_after (HasSeenAllInTurn r.history) vs id w (λ h. absurd h) (λ j v _ e. r.who_has_the_turn_has_seen_all j v e);
      somebody_has_seen_all = some_after (λ v. v.seen ≡ r.history) vs id me.0 w at (λ h. h) r.somebody_has_seen_all;
      ranges_are_apart = two_after HaveNoNumberInCommon swap_numbers vs id w (λ j v ne e. r.ranges_are_apart id j me.0 v (λ h. ne (sym h)) at e) r.ranges_are_apart;
      every_number_has_a_seat = λ k small. some_after (λ v. IsWithin v.first v.end k) vs id me.0 w at (λ h. h) (r.every_number_has_a_seat k small);
      ranges_end = each_after (λ v. v.end ≤ numbers) vs id w (r.ranges_end id me.0 at) (λ j v _ e. r.ranges_end j v e);
      makers_are_numbers = r.makers_are_numbers;
      every_seat_knows_its_own = each_after (KnowsItsOwn maker r.history) vs id w (r.every_seat_knows_its_own id me.0 at) (λ j v _ e. r.every_seat_knows_its_own j v e);
      joined_lists_begin = each_after (λ v. BeginsWithJoined v.seen v.stage) vs id w tt (λ j v _ e. r.joined_lists_begin j v e);
    },
    λ ys joined_ys. let same : xs ≡ ys = cc (joined, joined_ys) in (subst (λ (zs : List E). IsPrefix zs me.0.seen) same (subst (BeginsWithJoined me.0.seen) joined (r.joined_lists_begin id me.0 at)), refl),
  )
