-- What the calls of the lock need of their steps, and what they learn from them.
use Rattle.std.proofs.Common.{◌≡◌, ◌&&◌, ℕ, ◌<◌, ltb, leb, Bool, true, false, List, [], ◌∷◌, ◌++◌, length, cond, refl, sym, ◌∙◌, ap, subst, arith}
use Rattle.std.proofs.lemmas.List.Elements.{filter-append}
use Rattle.std.proofs.lemmas.Bool.Decides.{nat_tests}
use mathlib.Core.Option.{none, some, some-injective}
use mathlib.Core.Logic.{dite}
use native.Mathlib.Decide.{ℕ_discrete}
use lib.ListN.{get_elem?}
use Rattle.std.specs.Prelude.{Option, Some}
use Rattle.atomic_table.specs.Table.{State, Me, step, Allows}
use Rattle.turn_lock.specs.declared.rule.View.{View}
use Rattle.turn_lock.specs.declared.rule.Stage.{Stage}
use Rattle.turn_lock.specs.declared.rule.Stage.TheVariants.{Idle, Waits, Holds, Leaves, Joined}
use Rattle.turn_lock.specs.Lists.{IsWithin, NoneWithin, IsContinuedBy, entries_within}
use Rattle.turn_lock.specs.Rule.{HasTicket, HasEntered, IsInTurn}
use Rattle.turn_lock.specs.Seats.{has_turn}
use Rattle.turn_lock.specs.Steps.{at_stage, having_seen, TakesTurn, records}
use Rattle.turn_lock.proofs.Lists.{append_nothing}
use Rattle.turn_lock.proofs.Leaving.{records_length}

module _ {E : Type 0} where
  -- the ticket of the seat that has the turn
  turn_ticket : (stage : Stage E) → has_turn stage ≡ true → (t : ℕ) × (stage ≡ Holds t)
  turn_ticket Idle h = absurd (cc)
  turn_ticket (Waits t) h = absurd (cc)
  turn_ticket (Holds t) h = (t, refl)
  turn_ticket (Leaves t) h = absurd (cc)
  turn_ticket (Joined xs) h = absurd (cc)

  module _ (maker : E → ℕ) where
    apart : (first end k : ℕ) (a b : Bool) → leb first k ≡ a → ltb k end ≡ b → (IsWithin first end k → ⊥) → a && b ≡ false
    apart first end k true true low high out = absurd (out (grind (arith, nat_tests), grind (arith, nat_tests)))
    apart first end k true false low high out = refl
    apart first end k false b low high out = refl

    none_kept : (first end : ℕ) (xs : List E) → NoneWithin maker first end xs → entries_within maker first end xs ≡ []
    none_kept first end [] h = refl
    none_kept first end (x ∷ xs) h = ap (λ (b : Bool). cond b (x ∷ entries_within maker first end xs) (entries_within maker first end xs)) (apart first end (maker x) _ _ refl refl h.0) ∙ none_kept first end xs h.1

    -- what follows has no entry of the range, so the range's entries are those of the beginning
    pub same_own : (first end : ℕ) (seen rest now : List E) → seen ++ rest ≡ now → NoneWithin maker first end rest → entries_within maker first end now ≡ entries_within maker first end seen
    same_own first end seen rest now is none' = ap (entries_within maker first end) (sym is) ∙ filter-append (λ e. leb first (maker e) && ltb (maker e) end) seen rest
        ∙ ap (λ (z : List E). entries_within maker first end seen ++ z) (none_kept first end rest none') ∙ append_nothing (entries_within maker first end seen)

module _ {X E : Type 0} (entries : X → List E) (maker : E → ℕ) where
  abbrev M : Type 0
  M = Me (Option X) (View E)

  pub records_after : (n id : ℕ) (v : View E) (me : M) (x : X) (new : ℕ) → me ≡ (v, (0, Some x) ∷ []) → new ≡ length (entries x) → has_turn v.stage ≡ true → v.first < v.end → IsContinuedBy maker v.first v.seen (entries x)
      → Allows (IsInTurn entries maker) n id me 2 (λ _. new) (λ _. records entries (step n 2 new 0 none) me new)
  records_after n id v me x new is long turn range more = let t = turn_ticket v.stage turn in let m : M = (v, (0, Some x) ∷ []) in
      subst (λ (z : M). Allows (IsInTurn entries maker) n id z 2 (λ _. new) (λ _. records entries (step n 2 new 0 none) z new)) (sym is)
      (records_length entries maker n id m t.0 x more.0 new long t.1 refl range more.1 more.2)

  pub recorded : (v : View E) (me me' : M) (x : X) → me ≡ (v, (0, Some x) ∷ []) → has_turn v.stage ≡ true
      → ((t : ℕ) (y : X) → me.0.stage ≡ Holds t → me.1 ≡ (0, Some y) ∷ [] → me' ≡ (having_seen me.0 (entries y) (Leaves t), [])) → (t : ℕ) × (me' ≡ (having_seen v (entries x) (Leaves t), []))
  recorded v me me' x is turn told = let t = turn_ticket v.stage turn in
      (t.0, told t.0 x (ap (λ (m : M). m.0.stage) is ∙ t.1) (ap (λ (m : M). m.1) is) ∙ ap (λ (m : M). (having_seen m.0 (entries x) (Leaves t.0), [])) is)

  -- a seat that came with the view v and no slot has taken its turn
  pub took : (v : View E) (cs : List (ℕ × Option X)) (t : ℕ) (me me' : M) → me ≡ (at_stage v (Waits t), cs) → cs ≡ [] → TakesTurn entries maker t me me'
      → (x : X) × (me' ≡ (having_seen v (entries x) (Holds t), (0, Some x) ∷ [])) × ((rest : List E) × (v.seen ++ rest ≡ entries x) × NoneWithin maker v.first v.end rest)
  took v cs t me me' is none' told = let m : M = (at_stage v (Waits t), []) in
      subst (λ (z : M). TakesTurn entries maker t z me') (is ∙ ap (λ (c : List (ℕ × Option X)). (at_stage v (Waits t), c)) none') told

  -- a value that is Some where the slot had Some
  pub there : (xs : List (Option X)) (o : Option X) (x : X) → get_elem? xs 0 ≡ some o → get_elem? xs 0 ≡ some (Some x) → o ≡ Some x
  there xs o x a b = some-injective o (Some x) (sym a ∙ b)

  -- the value that is taken out of the slot is the one that the seat took
  pub same_value : (cs zs ws : List (ℕ × Option X)) (x y : X) → cs ≡ (0, Some x) ∷ zs → cs ≡ (0, Some y) ∷ ws → x ≡ y
  same_value cs zs ws x y a b = let first : ℕ × Option X = (0, Some x) in let second : ℕ × Option X = (0, Some y) in let pairs : first ≡ second = cc (a, b) in
      let values : Some x ≡ Some y = ap (λ (z : ℕ × Option X). z.1) pairs in cc (values)

  -- two seats that have the turn in one state are one
  pub one_turn : (s : State (Option X) (View E)) → IsInTurn entries maker s → (i j : ℕ) (v w : View E) → get_elem? s.views i ≡ some v → get_elem? s.views j ≡ some w → has_turn v.stage ≡ true → has_turn w.stage ≡ true → i ≡ j
  one_turn s r i j v w at_i at_j turn_v turn_w = let a = turn_ticket v.stage turn_v in let b = turn_ticket w.stage turn_w in
      let is_a : a.0 ≡ r.serving = r.only_the_served_enters i v at_i a.0 (subst (HasEntered a.0) (sym a.1) refl) in
      let is_b : b.0 ≡ r.serving = r.only_the_served_enters j w at_j b.0 (subst (HasEntered b.0) (sym b.1) refl) in
      dite (ℕ_discrete i j) (λ is. is) (λ apart. absurd (r.no_ticket_twice i j v w apart at_i at_j a.0 (subst (HasTicket a.0) (sym a.1) refl) (subst (HasTicket a.0) (sym b.1) (is_b ∙ sym is_a))))
