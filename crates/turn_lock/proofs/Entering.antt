-- The steps by which a seat comes to the value keep the rule: it draws a ticket, and looks until that ticket is served.
use Rattle.std.proofs.Common.{◌≡◌, ℕ, ◌+◌, ◌<◌, ◌≤◌, ◌^◌, eqb, List, [], ◌∷◌, length, get_or, set, refl, sym, ◌∙◌, ap, subst, inl, inr, ⊎_elim, arith}
use mathlib.Core.Logic.{dite}
use mathlib.Core.Option.{none, some, some-injective}
use native.Mathlib.Decide.{ℕ_discrete}
use lib.ListN.{get_elem?}
use lib.Seq.{set-get_or}
use prog.Atomic.{either}
use Rattle.std.specs.Prelude.{Option, Some}
use Rattle.atomic_table.specs.Table.{State, Me, Act, step, keeps, takes, Valid, carried_after, stepped, Allows}
use Rattle.atomic_table.proofs.Lists.{set_again, exchanged}
use Rattle.turn_lock.specs.declared.rule.View.{View}
use Rattle.turn_lock.specs.declared.rule.Stage.{Stage}
use Rattle.turn_lock.specs.declared.rule.Stage.TheVariants.{Idle, Waits, Holds, Leaves, Joined}
use Rattle.turn_lock.specs.Lists.{numbers, IsWithin}
use Rattle.turn_lock.specs.Rule.{HasTicket, HasEntered, HasTurn, BeginsWithJoined, HaveNoTicketInCommon, HaveNoNumberInCommon, HoldsDrawnTicket, KnowsItsOwn, EntersWhenServed, HasSeenAllInTurn, IsHome, IsOut, IsInTurn}
use Rattle.turn_lock.specs.Steps.{at_stage, having_seen, draws, looks}
use Rattle.turn_lock.proofs.Lists.{append_nothing}
use Rattle.turn_lock.proofs.Seats.{each_after, some_here, some_after, two_after}

module _ {E : Type 0} where
  pub swap_tickets : (v w : View E) → HaveNoTicketInCommon v w → HaveNoTicketInCommon w v
  swap_tickets v w r t p q = r t q p

  pub swap_numbers : (v w : View E) → HaveNoNumberInCommon v w → HaveNoNumberInCommon w v
  swap_numbers v w r k p q = r k q p

  -- who has the turn has entered with some ticket
  pub turn_entered : (stage : Stage E) → HasTurn stage → (t : ℕ) × (stage ≡ Holds t)
  turn_entered Idle h = absurd h
  turn_entered (Waits u) h = absurd h
  turn_entered (Holds u) h = (u, refl)
  turn_entered (Leaves u) h = absurd h
  turn_entered (Joined xs) h = absurd h

  pub entered_has_ticket : (stage : Stage E) (t : ℕ) → HasEntered t stage → HasTicket t stage
  entered_has_ticket Idle t h = absurd h
  entered_has_ticket (Waits u) t h = absurd h
  entered_has_ticket (Holds u) t h = h
  entered_has_ticket (Leaves u) t h = h
  entered_has_ticket (Joined xs) t h = absurd h

module _ {X E : Type 0} (entries : X → List E) (maker : E → ℕ) where
  abbrev St : Type 0
  St = State (Option X) (View E)

  abbrev M : Type 0
  M = Me (Option X) (View E)

  abbrev Rule : St → Type 0
  Rule = IsInTurn entries maker

  abbrev pub Goes : St → ℕ → ℕ → M → (ℕ → M → Type 0) → ℕ → Type 0
  Goes s k id me then x = (w : View E) × (a : Act (Option X)) × Valid s.homes me.1 a × IsInTurn entries maker (stepped s k x id me.1 w a) × then (get_or s.words k 0) (w, carried_after me.1 a)

  -- a step that changes nothing
  pub stays : (s : St) (k id : ℕ) (me : M) (then : ℕ → M → Type 0) → Rule s → get_elem? s.views id ≡ some me.0 → then (get_or s.words k 0) me → Goes s k id me then (get_or s.words k 0)
  stays s k id me then r at told = (
    me.0,
    keeps,
    tt,
    subst (λ (z : List ℕ × List (View E)). Rule record { words = z.0; homes = s.homes; views = z.1 }) (λ i. (sym (set-get_or s.words k 0) i, sym (set_again s.views id me.0 at) i)) r,
    told,
  )

  -- whoever has the turn has the ticket that is served
  pub turn_is_served : (s : St) (r : Rule s) (j : ℕ) (v : View E) → get_elem? s.views j ≡ some v → HasTurn v.stage → HasTicket r.serving v.stage
  turn_is_served s r j v e h = let in' = turn_entered v.stage h in let is : in'.0 ≡ r.serving = r.only_the_served_enters j v e in'.0 (subst (HasEntered in'.0) (sym in'.1) refl) in
      subst (HasTicket r.serving) (sym in'.1) is

  draws_one : (s : St) (r : Rule s) (id : ℕ) (me : M) (old : ℕ) → r.ticket ≡ old → old + 1 < 2 ^ 64 → me.0.stage ≡ Idle → me.0.first < me.0.end → get_elem? s.views id ≡ some me.0
      → Rule (stepped s 0 (old + 1) id me.1 (at_stage me.0 (Waits old)) keeps)
  draws_one s r id me old is fits idle range at = let w : View E = at_stage me.0 (Waits old) in let vs : List (View E) = s.views in let order : r.serving ≤ r.ticket = r.no_more_served_than_drawn in
      let none' : (t : ℕ) → HasTicket t me.0.stage → ⊥ = λ t h. subst (HasTicket t) idle h in record {
        ticket = old + 1;
        serving = r.serving;
        history = r.history;
        words_are = ap (λ (ws : List ℕ). set ws 0 (old + 1)) r.words_are;
        ticket_fits = fits;
        no_more_served_than_drawn = omega arith;
        every_ticket_has_a_seat = λ t low high. dite (ℕ_discrete t old) (λ e. some_here (λ v. HasTicket t v.stage) vs id me.0 w at (sym e))
            (λ other. some_after (λ v. HasTicket t v.stage) vs id me.0 w at (λ h. absurd (none' t h)) (r.every_ticket_has_a_seat t low (omega arith)));
        every_seat_drew_its_ticket = each_after (HoldsDrawnTicket r.serving (old + 1)) vs id w (λ t e. (omega arith, omega arith, range))
            (λ j v _ e t h. let k = r.every_seat_drew_its_ticket j v e t h in let b : t < r.ticket = k.1 in (k.0, omega arith, k.2));
        no_ticket_twice = two_after HaveNoTicketInCommon swap_tickets vs id w (λ j v _ e t same h. let b : t < r.ticket = (r.every_seat_drew_its_ticket j v e t h).1 in let same' : old ≡ t = same in omega arith) r.no_ticket_twice;
        only_the_served_enters = each_after (EntersWhenServed r.serving) vs id w (λ t h. absurd h) (λ j v _ e. r.only_the_served_enters j v e);
        value_at_home_or_out = ⊎_elim (λ h. inl h) (λ (o : IsOut s.homes vs). inr (o.0, some_after (λ v. HasTurn v.stage) vs id me.0 w at (λ h. absurd (subst HasTurn idle h)) o.1)) r.value_at_home_or_out;
        who_has_the_turn_has_seen_all = each_after (HasSeenAllInTurn r.history) vs id w (λ h. absurd h) (λ j v _ e. r.who_has_the_turn_has_seen_all j v e);
        somebody_has_seen_all = some_after (λ v. v.seen ≡ r.history) vs id me.0 w at (λ h. h) r.somebody_has_seen_all;
        ranges_are_apart = two_after HaveNoNumberInCommon swap_numbers vs id w (λ j v ne e. r.ranges_are_apart id j me.0 v (λ h. ne (sym h)) at e) r.ranges_are_apart;
        every_number_has_a_seat = λ k small. some_after (λ v. IsWithin v.first v.end k) vs id me.0 w at (λ h. h) (r.every_number_has_a_seat k small);
        ranges_end = each_after (λ v. v.end ≤ numbers) vs id w (r.ranges_end id me.0 at) (λ j v _ e. r.ranges_end j v e);
        makers_are_numbers = r.makers_are_numbers;
        every_seat_knows_its_own = each_after (KnowsItsOwn maker r.history) vs id w (r.every_seat_knows_its_own id me.0 at) (λ j v _ e. r.every_seat_knows_its_own j v e);
        joined_lists_begin = each_after (λ v. BeginsWithJoined v.seen v.stage) vs id w tt (λ j v _ e. r.joined_lists_begin j v e);
      }

  pub draws_ticket : (n id : ℕ) (me : M) (old : ℕ) → old + 1 < 2 ^ 64 → me.0.stage ≡ Idle → me.0.first < me.0.end
      → Allows Rule n id me 0 (λ y. either (eqb y old) (old + 1) y) (draws (step n 0 old (old + 1) none) me)
  draws_ticket n id me old fits idle range s r wide at _ = let y : ℕ = get_or s.words 0 0 in let told = draws (step n 0 old (old + 1) none) me in
      exchanged y old (old + 1) (Goes s 0 id me told)
      (λ hit. (
        at_stage me.0 (Waits old),
        keeps,
        tt,
        draws_one s r id me old (sym (ap (λ (ws : List ℕ). get_or ws 0 0) r.words_are) ∙ hit) fits idle range at,
        ((λ _. ap (λ (t : ℕ). (at_stage me.0 (Waits t), me.1)) (sym hit)), λ miss. absurd (miss hit)),
      ))
      (λ miss. stays s 0 id me told r at ((λ hit. absurd (miss hit)), λ _. refl))

  -- where the seat's ticket is served, nobody has the value out
  home : (s : St) (r : Rule s) (id : ℕ) (me : M) → me.0.stage ≡ Waits r.serving → get_elem? s.views id ≡ some me.0 → IsHome entries r.history s.homes
  home s r id me waits at = ⊎_elim (λ h. h) (λ (o : IsOut s.homes s.views). let j : ℕ = o.1.0 in let v : View E = o.1.1 in let e = o.1.2 in let turn = o.1.3 in
      absurd (dite (ℕ_discrete j id)
      (λ is. let same : v ≡ me.0 = some-injective v me.0 (sym e ∙ ap (get_elem? s.views) is ∙ at) in subst HasTurn (ap (λ (z : View E). z.stage) same ∙ waits) turn)
      (λ other. r.no_ticket_twice j id v me.0 other e at r.serving (turn_is_served s r j v e turn) (subst (HasTicket r.serving) (sym waits) refl)))) r.value_at_home_or_out

  enters : (s : St) (r : Rule s) (id : ℕ) (me : M) (x : X) (y : ℕ) → y ≡ r.serving → me.0.stage ≡ Waits r.serving → s.homes ≡ some (Some x) ∷ [] → entries x ≡ r.history → get_elem? s.views id ≡ some me.0
      → Rule (stepped s 1 y id me.1 (having_seen me.0 (entries x) (Holds r.serving)) (takes 0 (Some x)))
  enters s r id me x y is waits lies whole at = let w : View E = having_seen me.0 (entries x) (Holds r.serving) in let vs : List (View E) = s.views in
      let had : (t : ℕ) → r.serving ≡ t → HasTicket t me.0.stage = λ t h. subst (HasTicket t) (sym waits) h in record {
        ticket = r.ticket;
        serving = r.serving;
        history = r.history;
        words_are = ap (λ (ws : List ℕ). set ws 1 y) r.words_are ∙ ap (λ (z : ℕ). r.ticket ∷ z ∷ length r.history ∷ []) is;
        ticket_fits = r.ticket_fits;
        no_more_served_than_drawn = r.no_more_served_than_drawn;
        every_ticket_has_a_seat = λ t low high. some_after (λ v. HasTicket t v.stage) vs id me.0 w at (λ h. subst (HasTicket t) waits h) (r.every_ticket_has_a_seat t low high);
        every_seat_drew_its_ticket = each_after (HoldsDrawnTicket r.serving r.ticket) vs id w (λ t h. r.every_seat_drew_its_ticket id me.0 at t (had t h)) (λ j v _ e. r.every_seat_drew_its_ticket j v e);
        no_ticket_twice = two_after HaveNoTicketInCommon swap_tickets vs id w (λ j v ne e t h. r.no_ticket_twice id j me.0 v (λ z. ne (sym z)) at e t (had t h)) r.no_ticket_twice;
        only_the_served_enters = each_after (EntersWhenServed r.serving) vs id w (λ t h. sym h) (λ j v _ e. r.only_the_served_enters j v e);
        value_at_home_or_out = inr (ap (λ hs. set hs 0 none) lies, some_here (λ v. HasTurn v.stage) vs id me.0 w at tt);
        who_has_the_turn_has_seen_all = each_after (HasSeenAllInTurn r.history) vs id w (λ _. whole) (λ j v _ e. r.who_has_the_turn_has_seen_all j v e);
        somebody_has_seen_all = some_here (λ v. v.seen ≡ r.history) vs id me.0 w at whole;
        ranges_are_apart = two_after HaveNoNumberInCommon swap_numbers vs id w (λ j v ne e. r.ranges_are_apart id j me.0 v (λ h. ne (sym h)) at e) r.ranges_are_apart;
        every_number_has_a_seat = λ k small. some_after (λ v. IsWithin v.first v.end k) vs id me.0 w at (λ h. h) (r.every_number_has_a_seat k small);
        ranges_end = each_after (λ v. v.end ≤ numbers) vs id w (r.ranges_end id me.0 at) (λ j v _ e. r.ranges_end j v e);
        makers_are_numbers = r.makers_are_numbers;
        every_seat_knows_its_own = each_after (KnowsItsOwn maker r.history) vs id w ([], append_nothing (entries x) ∙ whole, tt) (λ j v _ e. r.every_seat_knows_its_own j v e);
        joined_lists_begin = each_after (λ v. BeginsWithJoined v.seen v.stage) vs id w tt (λ j v _ e. r.joined_lists_begin j v e);
      }

  -- the seat finds its ticket
  finds : (s : St) (r : Rule s) (n id : ℕ) (me : M) (t : ℕ) → me.0.stage ≡ Waits t → r.serving ≡ t → get_elem? s.views id ≡ some me.0 → Goes s 1 id me (looks entries maker (step n 1 0 0 none) me) (get_or s.words 1 0)
  finds s r n id me t waits is at = let y : ℕ = get_or s.words 1 0 in let served : y ≡ r.serving = ap (λ (ws : List ℕ). get_or ws 1 0) r.words_are in let waits' : me.0.stage ≡ Waits r.serving = waits ∙ ap Waits (sym is) in
      let h = home s r id me waits' at in let x : X = h.0 in let own = r.every_seat_knows_its_own id me.0 at in (
        having_seen me.0 (entries x) (Holds r.serving),
        takes 0 (Some x),
        ap (λ hs. get_elem? hs 0) h.1,
        enters s r id me x y served waits' h.1 h.2 at,
        λ u waits_u. let same : u ≡ r.serving = cc (waits_u, waits') in (
          (λ _. (x, ap (λ (z : ℕ). (having_seen me.0 (entries x) (Holds z), (0, Some x) ∷ me.1)) (sym same), (own.0, own.1 ∙ sym h.2, own.2))),
          λ miss. absurd (miss (served ∙ sym same)),
        ),
      )

  pub looks_for_turn : (n id : ℕ) (me : M) (t : ℕ) → me.0.stage ≡ Waits t → Allows Rule n id me 1 (λ y. y) (looks entries maker (step n 1 0 0 none) me)
  looks_for_turn n id me t waits s r wide at _ = let y : ℕ = get_or s.words 1 0 in let served : y ≡ r.serving = ap (λ (ws : List ℕ). get_or ws 1 0) r.words_are in
      let drawn = r.every_seat_drew_its_ticket id me.0 at t (subst (HasTicket t) (sym waits) refl) in
      dite (ℕ_discrete r.serving t) (λ is. finds s r n id me t waits is at)
      (λ other. let before : r.serving < t = omega (arith, drawn.0, other) in
      stays s 1 id me (looks entries maker (step n 1 0 0 none) me) r at (λ u waits_u. let same : u ≡ t = cc (waits_u, waits) in
      ((λ hit. absurd (other (sym served ∙ hit ∙ same))), λ _. (subst (λ (z : ℕ). z < u) (sym served) (subst (λ (z : ℕ). r.serving < z) (sym same) before), refl))))
