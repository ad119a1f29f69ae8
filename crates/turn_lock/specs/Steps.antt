-- What each kind of step tells the seat that makes it, and how views are cut and joined.
use Rattle.std.specs.Prelude.{◌≡◌, ◌≢◌, ℕ, ◌<◌, min, max, List, [], ◌∷◌, ◌++◌, Option, Some}
use mathlib.Core.List.{IsPrefix}
use Rattle.atomic_table.specs.Table.{Me, Step}
use Rattle.turn_lock.specs.declared.rule.View.{View}
use Rattle.turn_lock.specs.declared.rule.Stage.{Stage}
use Rattle.turn_lock.specs.declared.rule.Stage.TheVariants.{Idle, Waits, Holds, Leaves, Joined}
use Rattle.turn_lock.specs.Lists.{longer, shorter, NoneWithin}

abbrev Sat : Type 0 → Type 0 → Type 0
Sat X E = Me (Option X) (View E)

module _ {E : Type 0} where
  abbrev pub at_stage : View E → Stage E → View E
  at_stage v stage = record v { stage = stage }

  -- the seat has seen these entries, and is at this stage
  abbrev pub having_seen : View E → List E → Stage E → View E
  having_seen v xs stage = record v { seen = xs; stage = stage }

  abbrev pub below : ℕ → View E → View E
  below cut v = record v { end = cut }

  abbrev pub above : ℕ → View E → View E
  above cut v = record v { first = cut }

  abbrev pub both : View E → View E → View E
  both v w = record { first = min v.first w.first; end = max v.end w.end; seen = longer v.seen w.seen; stage = Joined (shorter v.seen w.seen) }

  abbrev pub spent : View E
  spent = record { first = 0; end = 0; seen = []; stage = Idle }

module _ {X E : Type 0} where
  -- where the word was the one expected, the seat has it as its ticket
  abbrev pub draws : Step (Option X) → Sat X E → ℕ → Sat X E → Type 0
  draws st m r m' = (r ≡ st.first → m' ≡ (at_stage m.0 (Waits r), m.1)) × (r ≢ st.first → m' ≡ m)

  -- where the seat's ticket is served, the seat takes the value and sees its entries
  abbrev pub TakesTurn : (X → List E) → (E → ℕ) → ℕ → Sat X E → Sat X E → Type 0
  TakesTurn entries maker t m m' = (x : X) × (m' ≡ (having_seen m.0 (entries x) (Holds t), (0, Some x) ∷ m.1))
      × ((rest : List E) × (m.0.seen ++ rest ≡ entries x) × NoneWithin maker m.0.first m.0.end rest)

  abbrev pub looks : (X → List E) → (E → ℕ) → Step (Option X) → Sat X E → ℕ → Sat X E → Type 0
  looks entries maker st m r m' = (t : ℕ) → m.0.stage ≡ Waits t → (r ≡ t → TakesTurn entries maker t m m') × (r ≢ t → (r < t) × (m' ≡ m))

  -- the seat gives the value back, and has seen its entries
  abbrev pub records : (X → List E) → Step (Option X) → Sat X E → ℕ → Sat X E → Type 0
  records entries st m r m' = (t : ℕ) (x : X) → m.0.stage ≡ Holds t → m.1 ≡ (0, Some x) ∷ [] → m' ≡ (having_seen m.0 (entries x) (Leaves t), [])

  abbrev pub passes_on : Step (Option X) → Sat X E → ℕ → Sat X E → Type 0
  passes_on st m r m' = m' ≡ (at_stage m.0 Idle, m.1)

  -- of the two lists that were seen, the shorter begins the longer
  abbrev pub compares : Step (Option X) → Sat X E → ℕ → Sat X E → Type 0
  compares st m r m' = (xs : List E) → m.0.stage ≡ Joined xs → IsPrefix xs m.0.seen × (m' ≡ (at_stage m.0 Idle, m.1))
