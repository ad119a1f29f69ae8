-- What each step of a turn leaves, where the board is told.
use Rattle.std.proofs.Common.{◌≡◌, ◌≢◌, ℕ, ◌<◌, ◌≤◌, Bool, true, false, Option, Some, None, Result, Ok, Err, IfSome, sym, ◌∙◌, subst, inl, inr, arith}
use Rattle.std.specs.Prelude.{OnOk}
use Rattle.cache_ident.specs.declared.names.ThreadNo.{ThreadNo}
use Rattle.flat_state.specs.fault_forward.specs.declared.effects.Notice.{Notice}
use Rattle.flat_state.specs.fault_forward.specs.declared.effects.Notice.TheVariants.{Trap}
use Rattle.app_kernel.specs.left_laws.specs.Left.{left}
use Rattle.app_kernel.specs.owners.specs.Known.{Known}
use Rattle.app_kernel.specs.owners.specs.Owning.{AreOwnersOf}
use Rattle.app_kernel.specs.owner_ports.specs.Boards.{OnTold}
use Rattle.app_kernel.specs.owner_ports.specs.Brought.{IsCalledOn}
use Rattle.app_kernel.specs.declared.serving.Served.{Served}
use Rattle.app_kernel.specs.declared.serving.Served.TheVariants.{Again}
use Rattle.app_kernel.specs.Serving.{IsInCall, IsServed}
use Rattle.app_kernel.proofs.Changes.{told_both, told_here, told_once, told_twice}
use Rattle.cache_board.specs.board_ops.specs.declared.refusals.Refused.{Refused}
use Rattle.cache_board.specs.board_ops.specs.declared.refusals.Refused.TheVariants as why
use Rattle.cache_board.specs.cached_machine.specs.Cached.{state_of}
use Rattle.quantum.specs.Ahead.{Ahead}
use Rattle.cache_board.specs.board_core.specs.Core.{Recorded}
use Rattle.cache_board.specs.board_threads.specs.declared.tickets.Ticket.{Ticket}
use Rattle.app_kernel.specs.reach_laws.specs.Reaching.{IsOwned}
use Rattle.board_turns.specs.declared.committed.Committed.{Committed}
use Rattle.board_turns.specs.declared.committed.Committed.TheVariants.{Taken, TooMany, Lost}
use Rattle.board_turns.specs.declared.found.Found.{Found}
use Rattle.board_turns.specs.declared.found.Found.TheVariants.{Out, Wanted, Nothing, Over}
use Rattle.board_turns.specs.Holds.{found_if, HasCommitted, HasHealed}
use Rattle.board_turns.specs.Looks.{HasLooked}
use Rattle.board_turns.specs.Paces.{must_bring, paced, wants_first, Beat}
use Rattle.board_turns.specs.Turning.{turns_left, HasGrown, IsAtRest, IsAtRestBut, IsLeftBy, IsNext, IsOnQuantum, IsToStep, IsTriedBy}
use Rattle.board_turns.proofs.Next.{at_rest_nothing, at_rest_over, at_rest_wanted, call_of_wanted, closer, closer_behind, completed_less, healed_less, healed_rests, left_sooner, never_nothing, next_looked, on_quantum, owned_called, owned_still, rests_called, step_of_out, step_of_wanted, tried}

abbrev Change : Type 1
Change = Recorded → Recorded → Type 0

-- ---- any two steps

-- what holds behind one step, and what follows from it behind another
pub told_then : (a m b : Option Recorded) (P Q R : Recorded → Type 0) → OnTold a m (λ x y. P x → Q y) → OnTold m b (λ x y. Q x → R y) → OnTold a b (λ x y. P x → R y)
told_then a m b P Q R first second = told_twice a m b (λ x y. P x → Q y) (λ x y. Q x → R y) (λ x y. P x → R y) (λ x y z one two holds. two (one holds)) first second

-- ---- what grew

module _ (a b : Option Recorded) (p r : ℕ) (grown : OnTold a b (λ x y. HasGrown x p y r)) where
  pub grown_owned : (known : Known) → OnTold a b (λ x y. IsOwned x known → IsOwned y known)
  grown_owned known = told_once a b (λ x y. HasGrown x p y r) (λ x y. IsOwned x known → IsOwned y known) (λ x y grew. owned_still x y p r grew known) grown

  -- .. where nothing is said
  pub anyhow : (S : Change) → ((x y : Recorded) → S x y) → OnTold a b S
  anyhow S so = told_once a b (λ x y. HasGrown x p y r) S (λ x y grew. so x y) grown

pub here_owned : (a : Option Recorded) (known : Known) → OnTold a a (λ x y. IsOwned x known → IsOwned y known)
here_owned a known = told_here a (λ x y. IsOwned x known → IsOwned y known) (λ x owned. owned)

pub here_rests : (a : Option Recorded) (known : Known) → OnTold a a (λ x y. IsAtRest x known → IsAtRest y known)
here_rests a known = told_here a (λ x y. IsAtRest x known → IsAtRest y known) (λ x rest. rest)

-- ---- owners

module _ (a b : Option Recorded) (known after : Known) (thread : ThreadNo) (notice : Notice) (answer : Served) (called : OnTold a b IsCalledOn)
    (served : OnTold a b (λ x y. x.sealed ≡ true → AreOwnersOf x.journal.entries known → IsServed thread notice x y after answer)) where
  abbrev Serves : Change
  Serves x y = x.sealed ≡ true → AreOwnersOf x.journal.entries known → IsServed thread notice x y after answer

  pub serve_owned : OnTold a b (λ x y. IsOwned x known → IsOwned y after)
  serve_owned = told_both a b IsCalledOn Serves (λ x y. IsOwned x known → IsOwned y after) (λ x y call serves owned. owned_called x y known after call owned (serves owned.sealed owned.are).owners) called served

  pub serve_rests : OnTold a b (λ x y. IsAtRest x known → IsAtRest y after)
  serve_rests = told_both a b IsCalledOn Serves (λ x y. IsAtRest x known → IsAtRest y after) (λ x y call serves rest. rests_called x y known after call rest (serves rest.owned.sealed rest.owned.are).owners) called served

  pub serve_completes : (answer ≡ Again why.NoMemory → ⊥) → OnTold a b (λ x y. IsOwned x known → notice ≡ Trap → IsInCall (state_of x.machine) thread → left y < left x)
  serve_completes fine = told_once a b Serves (λ x y. IsOwned x known → notice ≡ Trap → IsInCall (state_of x.machine) thread → left y < left x) so served
    where
      so : (x y : Recorded) → Serves x y → IsOwned x known → notice ≡ Trap → IsInCall (state_of x.machine) thread → left y < left x
      so x y serves owned trap calls = elim ((serves owned.sealed owned.are).trap trap calls) [
        | inl wanting ↦ absurd (fine wanting)
        | inr gone ↦ completed_less x y thread calls gone.completed
      ]

  pub serve_completes_if : {E : Type 0} (r : Result (Unit {0}) E) → OnOk r (answer ≡ Again why.NoMemory → ⊥) → OnTold a b (λ x y. IsOwned x known → notice ≡ Trap → IsInCall (state_of x.machine) thread → OnOk r (left y < left x))
  serve_completes_if (Ok done) fine = serve_completes fine
  serve_completes_if (Err wanting) fine = told_once a b IsCalledOn (λ x y. IsOwned x known → notice ≡ Trap → IsInCall (state_of x.machine) thread → Unit {0}) (λ x y call owned trap calls. tt) called

-- ---- healing

module _ (a b : Option Recorded) (p r0 : ℕ) (ticket : Option Ticket) (whom : ThreadNo) (answer : Result (Unit {0}) Refused) (grown : OnTold a b (λ x y. HasGrown x p y r0)) (healed : OnTold a b (λ x y. HasHealed 0 ticket whom x y answer)) where
  pub heal_rests : OnTold a b (λ x y. (known : Known) → IsAtRestBut ticket x known → IsAtRest y known)
  heal_rests = told_both a b (λ x y. HasGrown x p y r0) (λ x y. HasHealed 0 ticket whom x y answer) (λ x y. (known : Known) → IsAtRestBut ticket x known → IsAtRest y known)
      (λ x y grew heals known rest. healed_rests x y p r0 known whom answer grew ticket rest heals) grown healed

  pub heal_less : (answer ≡ Err why.NoMemory → ⊥) → OnTold a b (λ x y. (known : Known) → IsAtRestBut ticket x known → IsToStep x whom → left y < left x)
  heal_less fine = told_both a b (λ x y. HasGrown x p y r0) (λ x y. HasHealed 0 ticket whom x y answer) (λ x y. (known : Known) → IsAtRestBut ticket x known → IsToStep x whom → left y < left x)
      (λ x y grew heals known rest step. healed_less x y p r0 known whom grew step ticket answer fine rest heals) grown healed

  pub heal_less_if : {E : Type 0} (r : Result (Unit {0}) E) → OnOk r (answer ≡ Err why.NoMemory → ⊥) → OnTold a b (λ x y. (known : Known) → IsAtRestBut ticket x known → IsToStep x whom → OnOk r (left y < left x))
  heal_less_if (Ok done) fine = heal_less fine
  heal_less_if (Err wanting) fine = told_once a b (λ x y. HasGrown x p y r0) (λ x y. (known : Known) → IsAtRestBut ticket x known → IsToStep x whom → Unit {0}) (λ x y grew known rest step. tt) grown

pub heal_alone : (a b : Option Recorded) (known : Known) → OnTold a b (λ x y. (k : Known) → IsAtRestBut None x k → IsAtRest y k) → OnTold a b (λ x y. IsAtRest x known → IsAtRest y known)
heal_alone a b known rests = told_once a b (λ x y. (k : Known) → IsAtRestBut None x k → IsAtRest y k) (λ x y. IsAtRest x known → IsAtRest y known) (λ x y so. so known) rests

-- ---- a quantum

-- the thread is still on its processor, and no more is left
abbrev pub StaysOn : Ticket → Change
StaysOn ticket x y = (known : Known) → IsOnQuantum x known ticket → IsOnQuantum y known ticket × (left y ≤ left x)

abbrev pub Tries : Beat → Ticket → Found → Committed → Change
Tries beat ticket next committed x y = (known : Known) → IsOnQuantum x known ticket → IsTriedBy x y known beat ticket next committed

abbrev pub Leaves : Beat → Ticket → Option Found → Change
Leaves beat ticket next x y = (known : Known) → IsOnQuantum x known ticket → IsLeftBy x y known beat next

no_more : (n : ℕ) → n ≤ n
no_more n = omega arith

no_more_then : (k l m : ℕ) → l ≤ k → m ≤ l → m ≤ k
no_more_then k l m first second = omega (arith, first, second)

pub told_tried : (a m b : Option Recorded) (p r : ℕ) (beat : Beat) (ticket : Ticket) (q : Ahead) (look : Option Bool) (next : Found) (committed : Committed) → m ≡ a → OnTold a b (λ x y. HasGrown x p y r)
    → IfSome look (λ want_first. (0 < q.steps) × (want_first ≡ wants_first (paced true beat))) → OnTold m b (λ x y. HasCommitted ticket q look x y next committed) → OnTold a b (Tries beat ticket next committed)
told_tried a m b p r beat ticket q look next committed same grown order made =
    told_both a b (λ x y. HasGrown x p y r) (λ x y. HasCommitted ticket q look x y next committed) (Tries beat ticket next committed)
    (λ x y grew commits known on. tried x y p r known beat ticket q on grew look next committed order commits) grown
    (subst (λ (o : Option Recorded). OnTold o b (λ x y. HasCommitted ticket q look x y next committed)) same made)

module _ (beat : Beat) (ticket : Ticket) where
  pub stays_on : (a : Option Recorded) → OnTold a a (StaysOn ticket)
  stays_on a = told_here a (StaysOn ticket) (λ x known on. (on, no_more (left x)))

  module _ (a m b : Option Recorded) (before : OnTold a m (StaysOn ticket)) where
    pub stays_longer : (next : Found) (left_steps : ℕ) → OnTold m b (Tries beat ticket next (TooMany left_steps)) → OnTold a b (StaysOn ticket)
    stays_longer next left_steps tries = told_twice a m b (StaysOn ticket) (Tries beat ticket next (TooMany left_steps)) (StaysOn ticket)
        (λ x y z stays many known on. let one = stays known on in let two = many known one.0 in (two.0, no_more_then (left x) (left y) (left z) one.1 two.1)) before tries

    pub leaves_taken : (next : Found) (looked : Bool) → OnTold m b (Tries beat ticket next (Taken looked)) → OnTold a b (Leaves beat ticket (found_if looked next))
    leaves_taken next looked tries = told_twice a m b (StaysOn ticket) (Tries beat ticket next (Taken looked)) (Leaves beat ticket (found_if looked next))
        (λ x y z stays takes known on. let one = stays known on in left_sooner x y z known beat (found_if looked next) one.1 (takes known one.0)) before tries

    pub leaves_lost : (next : Found) → OnTold m b (Tries beat ticket next Lost) → OnTold a b (Leaves beat ticket None)
    leaves_lost next tries = told_twice a m b (StaysOn ticket) (Tries beat ticket next Lost) (Leaves beat ticket None)
        (λ x y z stays loses known on. loses known (stays known on).0) before tries

-- ---- a thread that ran

module _ (beat : Beat) (ticket : Ticket) (known : Known) where
  pub found_behind : (a b : Option Recorded) (next : Option Found) → OnTold a b (Leaves beat ticket next) → OnTold a b (λ x y. IsOnQuantum x known ticket → IsLeftBy x y known beat next)
  found_behind a b next leaves = told_once a b (Leaves beat ticket next) (λ x y. IsOnQuantum x known ticket → IsLeftBy x y known beat next) (λ x y so. so known) leaves

  pub granted : (a m b : Option Recorded) (after : Known) → OnTold a m (Leaves beat ticket None) → OnTold m b (λ x y. IsAtRest x known → IsAtRest y after) → OnTold a b (λ x y. IsOnQuantum x known ticket → IsAtRest y after)
  granted a m b after leaves rests = told_twice a m b (Leaves beat ticket None) (λ x y. IsAtRest x known → IsAtRest y after) (λ x y. IsOnQuantum x known ticket → IsAtRest y after) (λ x y z so rest on. rest (so known on)) leaves rests

-- ---- what a turn does for whom it found

module _ (a b : Option Recorded) (known after : Known) (beat : Beat) where
  pub act_out : (ticket : Ticket) (next : Option Found) → OnTold a b (λ x y. IsOnQuantum x known ticket → IsLeftBy x y after beat next) → OnTold a b (λ x y. IsNext x known beat (Out ticket) → IsLeftBy x y after beat next)
  act_out ticket next ran = told_once a b (λ x y. IsOnQuantum x known ticket → IsLeftBy x y after beat next) (λ x y. IsNext x known beat (Out ticket) → IsLeftBy x y after beat next) (λ x y so is. so (on_quantum x known beat ticket is)) ran

  pub act_wanted : (whom : ThreadNo) (trapped : Bool) (pc : ℕ) → OnTold a b (λ x y. IsAtRest x known → IsAtRest y after) → OnTold a b (λ x y. IsNext x known beat (Wanted whom trapped pc) → IsAtRest y after)
  act_wanted whom trapped pc rests = told_once a b (λ x y. IsAtRest x known → IsAtRest y after) (λ x y. IsNext x known beat (Wanted whom trapped pc) → IsAtRest y after) (λ x y so is. so (at_rest_wanted x known beat whom trapped pc is)) rests

pub act_nothing : (a : Option Recorded) (known : Known) (beat : Beat) → OnTold a a (λ x y. IsNext x known beat Nothing → IsAtRest y known)
act_nothing a known beat = told_here a (λ x y. IsNext x known beat Nothing → IsAtRest y known) (λ x is. at_rest_nothing x known beat is)

pub act_over : (a : Option Recorded) (known : Known) (beat : Beat) → OnTold a a (λ x y. IsNext x known beat Over → IsAtRest y known)
act_over a known beat = told_here a (λ x y. IsNext x known beat Over → IsAtRest y known) (λ x is. at_rest_over x known beat is)

-- ---- what it brings

abbrev pub Brings : {E : Type 0} → Result (Unit {0}) E → Known → Known → Found → Change
Brings r known after found x y = (beat : Beat) → must_bring beat ≡ true → IsNext x known beat found → OnOk r (IsAtRest y after × (found ≢ Over → left y < left x))

module _ {E : Type 0} (r : Result (Unit {0}) E) where
  ok_both : (r : Result (Unit {0}) E) (A B C : Type 0) → A → OnOk r B → OnOk r (A × (C → B))
  ok_both (Ok done) A B C rests less = (rests, λ other. less)
  ok_both (Err why) A B C rests less = tt

  module _ (a b : Option Recorded) (known : Known) where
    pub bring_out : (ticket : Ticket) → OnTold a b (λ x y. (k : Known) → IsAtRestBut (Some ticket) x k → IsAtRest y k) → OnTold a b (λ x y. (k : Known) → IsAtRestBut (Some ticket) x k → IsToStep x ticket.no → OnOk r (left y < left x)) → OnTold a b (Brings r known known (Out ticket))
    bring_out ticket rests less =
        told_both a b (λ x y. (k : Known) → IsAtRestBut (Some ticket) x k → IsAtRest y k) (λ x y. (k : Known) → IsAtRestBut (Some ticket) x k → IsToStep x ticket.no → OnOk r (left y < left x)) (Brings r known known (Out ticket))
        (λ x y one two beat must is. let on = on_quantum x known beat ticket is in ok_both r (IsAtRest y known) (left y < left x) (Out ticket ≢ Over) (one known on) (two known on (step_of_out x known beat must ticket is))) rests less

    pub bring_step : (whom : ThreadNo) (pc : ℕ) → OnTold a b (λ x y. (k : Known) → IsAtRestBut None x k → IsAtRest y k) → OnTold a b (λ x y. (k : Known) → IsAtRestBut None x k → IsToStep x whom → OnOk r (left y < left x)) → OnTold a b (Brings r known known (Wanted whom false pc))
    bring_step whom pc rests less =
        told_both a b (λ x y. (k : Known) → IsAtRestBut None x k → IsAtRest y k) (λ x y. (k : Known) → IsAtRestBut None x k → IsToStep x whom → OnOk r (left y < left x)) (Brings r known known (Wanted whom false pc))
        (λ x y one two beat must is. let rest = at_rest_wanted x known beat whom false pc is in ok_both r (IsAtRest y known) (left y < left x) (Wanted whom false pc ≢ Over) (one known rest) (two known rest (step_of_wanted x known beat must whom pc is))) rests less

    pub bring_call : (after : Known) (notice : Notice) (whom : ThreadNo) (pc : ℕ) → notice ≡ Trap → OnTold a b (λ x y. IsAtRest x known → IsAtRest y after) → OnTold a b (λ x y. IsOwned x known → notice ≡ Trap → IsInCall (state_of x.machine) whom → OnOk r (left y < left x)) → OnTold a b (Brings r known after (Wanted whom true pc))
    bring_call after notice whom pc trap rests less =
        told_both a b (λ x y. IsAtRest x known → IsAtRest y after) (λ x y. IsOwned x known → notice ≡ Trap → IsInCall (state_of x.machine) whom → OnOk r (left y < left x)) (Brings r known after (Wanted whom true pc))
        (λ x y one two beat must is. let rest = at_rest_wanted x known beat whom true pc is in ok_both r (IsAtRest y after) (left y < left x) (Wanted whom true pc ≢ Over) (one rest) (two is.owned trap (call_of_wanted x known beat must whom pc is))) rests less

-- .. whatever else it does
abbrev pub Brought : Known → Known → Found → Change
Brought known after found x y = (beat : Beat) → must_bring beat ≡ true → IsNext x known beat found → IsAtRest y after × (found ≢ Over → left y < left x)

pub bring_nothing : (a : Option Recorded) (known : Known) → OnTold a a (Brought known known Nothing)
bring_nothing a known = told_here a (Brought known known Nothing) (λ x beat must is. absurd (never_nothing x known beat is))

-- ---- the turn

abbrev pub Takes : Known → Known → Beat → Found → Option Found → Change
Takes known after beat found next x y = IsNext x known beat found → IsLeftBy x y after beat next × (must_bring beat ≡ true → found ≢ Over → left y < left x)

module _ (a b : Option Recorded) (known after : Known) (beat : Beat) (found : Found) where
  pub take_brought : must_bring beat ≡ true → OnTold a b (Brought known after found) → OnTold a b (Takes known after beat found None)
  take_brought must brings = told_once a b (Brought known after found) (Takes known after beat found None) (λ x y so is. let done = so beat must is in (done.0, λ again. done.1)) brings

  pub take_acted : (next : Option Found) → must_bring beat ≡ false → OnTold a b (λ x y. IsNext x known beat found → IsLeftBy x y after beat next) → OnTold a b (Takes known after beat found next)
  take_acted next free acted = told_once a b (λ x y. IsNext x known beat found → IsLeftBy x y after beat next) (Takes known after beat found next) (λ x y so is. (so is, λ must. absurd (let clash : true ≡ false = sym must ∙ free in cc))) acted

  pub turn_found : (next : Found) → OnTold a b (Takes known after beat found (Some next)) → OnTold a b (λ x y. IsNext x known beat found → IsNext y after (paced true beat) next)
  turn_found next takes = told_once a b (Takes known after beat found (Some next)) (λ x y. IsNext x known beat found → IsNext y after (paced true beat) next) (λ x y so is. (so is).0.next) takes

  pub turn_found_closer : (next : Found) → OnTold a b (Takes known after beat found (Some next)) → OnTold a b (λ x y. IsNext x known beat found → found ≢ Over → turns_left y (paced true beat) < turns_left x beat)
  turn_found_closer next takes =
      told_once a b (Takes known after beat found (Some next)) (λ x y. IsNext x known beat found → found ≢ Over → turns_left y (paced true beat) < turns_left x beat) (λ x y so is other. closer_behind x y beat (so is).0.less) takes

module _ (a m b : Option Recorded) (known after : Known) (beat : Beat) (found next : Found) (brought : Bool) (p q n : ℕ)
    (first : OnTold a m (λ x y. HasGrown x p y q)) (takes : OnTold a m (Takes known after beat found None)) (second : OnTold m b (λ x y. HasGrown x q y n)) (looked : OnTold m b (λ x y. HasLooked (wants_first (paced brought beat)) x y next)) where
  abbrev Looks : Change
  Looks x y = HasGrown x q y n × HasLooked (wants_first (paced brought beat)) x y next

  looks : OnTold m b Looks
  looks = told_both m b (λ x y. HasGrown x q y n) (λ x y. HasLooked (wants_first (paced brought beat)) x y next) Looks (λ x y grew sees. (grew, sees)) second looked

  pub turn_looked : OnTold a b (λ x y. IsNext x known beat found → IsNext y after (paced brought beat) next)
  turn_looked = told_twice a m b (Takes known after beat found None) Looks (λ x y. IsNext x known beat found → IsNext y after (paced brought beat) next)
      (λ x y z so sees is. next_looked y z q n sees.0 after (paced brought beat) next (so is).0 sees.1) takes looks

  abbrev Goes : Change
  Goes x y = HasGrown x p y q × Takes known after beat found None x y

  goes : OnTold a m Goes
  goes = told_both a m (λ x y. HasGrown x p y q) (Takes known after beat found None) Goes (λ x y grew so. (grew, so)) first takes

  pub turn_looked_closer : beat.barren ≤ 3 → (brought ≡ true → p < q) → (brought ≡ false → q ≤ p) → OnTold a b (λ x y. IsNext x known beat found → found ≢ Over → turns_left y (paced brought beat) < turns_left x beat)
  turn_looked_closer few more same = told_twice a m b Goes Looks (λ x y. IsNext x known beat found → found ≢ Over → turns_left y (paced brought beat) < turns_left x beat)
      (λ x y z so sees is other. closer x y z beat p q n brought few so.0.gained sees.0.gained more same (λ must. (so.1 is).1 must other)) goes looks
