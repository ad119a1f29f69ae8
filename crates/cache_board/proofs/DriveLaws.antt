-- Operations, one after another: what they keep, and how calls of the board answer them.
use Rattle.std.proofs.Common.{◌≡◌, ◌≢◌, ℕ, ◌+◌, ◌<◌, ◌≤◌, List, [], ◌∷◌, ◌++◌, Option, Some, None, Result, Ok, Err, IfErr, IfOk, IsOk, OnOk, is_ok, true, false, length, take, get_or, arith, refl, sym, subst}
use Rattle.std.specs.Prelude.{if◌then◌else◌}
use Rattle.std.proofs.lemmas.List.{take_more}
use Rattle.cache_ident.specs.declared.idents.Ident.{Ident}
use Rattle.cache_ident.specs.declared.names.Name.TheVariants as name
use Rattle.cache_ident.specs.declared.names.SpaceNo.{SpaceNo}
use Rattle.cache_ident.specs.declared.names.ThreadNo.{ThreadNo}
use Rattle.cache_ident.specs.declared.names.Vpn.{Vpn}
use Rattle.board_core.specs.board_ops.specs.declared.answers.Answer.{Answer}
use Rattle.board_core.specs.board_ops.specs.declared.answers.Answer.TheVariants as answers
use Rattle.board_core.specs.board_ops.specs.declared.ops.Op.{Op}
use Rattle.board_core.specs.board_ops.specs.declared.ops.Op.TheVariants as ops
use Rattle.board_core.specs.board_ops.specs.declared.refusals.Refused.{Refused}
use Rattle.board_core.specs.board_ops.specs.declared.refusals.Refused.TheVariants.{NoMemory}
use Rattle.board_commits.specs.board_checks.specs.Identifiers.{space_as}
use Rattle.board_commits.specs.board_checks.specs.Refusals.{refusal_of_complete, refusal_of_load_kernel, refusal_of_load_mapping, refusal_of_load_space, refusal_of_load_thread, refusal_of_lock, refusal_of_unload, refusal_of_unlock}
use Rattle.board_core.specs.Answers.{HasCallRoom, IsRefused}
use Rattle.board_core.specs.Core.{contents_of, Recorded}
use Rattle.board_commits.specs.board_threads.specs.Faults.{HasEnded}
use Rattle.board_commits.specs.board_threads.specs.Refusals.{refusal_of_fault}
use Rattle.board_loads.specs.Holds.{IsLockedAs, IsUnloadedAs}
use Rattle.board_loads.specs.Loads.{IsLoadedAs}
use Rattle.board_calls.specs.Calls.{refusal_of_declare, refusal_of_seal, IsCompletion, IsDeclaring, IsSealing}
use Rattle.board_heal.specs.Healed.{IsHealed}
use Rattle.board_heal.specs.Refusals.{refusal_of_heal}
use Rattle.cache_board.specs.declared.place.Place.{Place}
use Rattle.cache_board.specs.Desks.{AreOfTickets, Desktop, IsItsOwn}
use Rattle.cache_board.specs.Drive.{answer_if_done, answer_if_loaded, AreAnswered, DoesOr, IsAnswered, IsCheckout, IsCommit, IsDone, IsLeave, IsRunAhead, IsView, LoadsOr, MakesRoom, Spares}
use Rattle.cache_board.proofs.DeskLaws.{checkout_keeps, commit_keeps, grown_by, grown_if_room, grown_if_same, kept_at, leave_keeps, run_keeps, tickets_stay, view_keeps, HasGrown}

-- ---- what an operation keeps

module _ (b b′ : Recorded) where
  does_grow : (refusal : Option Refused) (done : Type 0) → (done → HasGrown b b′) → (answer : Answer) → DoesOr refusal done b b′ answer → HasGrown b b′
  does_grow refusal done grows answers.Did x = grows x.1
  does_grow refusal done grows (answers.Refused why) x = grown_if_room b b′ x.only
  does_grow refusal done grows _ x = absurd x

  loads_grow : (refusal : Option Refused) (done : Ident → Type 0) → ((ident : Ident) → done ident → HasGrown b b′) → (answer : Answer) → LoadsOr refusal done b b′ answer → HasGrown b b′
  loads_grow refusal done grows (answers.Loaded ident) x = grows ident x.1
  loads_grow refusal done grows (answers.Refused why) x = grown_if_room b b′ x.only
  loads_grow refusal done grows _ x = absurd x

  room_grows : (n : ℕ) (answer : Answer) → MakesRoom n b answer b′ → HasGrown b b′
  room_grows n answers.Did x = grown_if_room b b′ x.0
  room_grows n (answers.Refused why) x = grown_if_room b b′ x.1
  room_grows n _ x = absurd x

  module _ (d d′ : Desktop) (are : AreOfTickets b.journal.entries d) where
    board_kept : d′ ≡ d → HasGrown b b′ → AreOfTickets b′.journal.entries d′
    board_kept same grown = subst (AreOfTickets b′.journal.entries) (sym same) (tickets_stay b b′ grown d are)

    pub kept : (answer : Answer) (op : Op) → IsDone op b d answer b′ d′ → AreOfTickets b′.journal.entries d′
    kept answer (ops.Declare decl) done =
        board_kept done.0 (does_grow (refusal_of_declare b decl) (IsDeclaring decl b b′) (λ x. grown_by b b′ _ x.grows) answer done.1)
    kept answer ops.Seal done =
        board_kept done.0 (loads_grow (refusal_of_seal b) (IsSealing b b′) (λ ident x. grown_by b b′ _ x.grows) answer done.1)
    kept answer (ops.LoadKernel cpu caller kernel) done =
        board_kept done.0 (loads_grow (refusal_of_load_kernel (contents_of b) caller kernel) (λ ident. IsLoadedAs cpu (name.Kernel kernel) ident b b′) (λ ident x. grown_by b b′ _ x.entries) answer done.1)
    kept answer (ops.LoadSpace cpu caller space) done =
        board_kept done.0 (loads_grow (refusal_of_load_space (contents_of b) caller space) (λ ident. IsLoadedAs cpu (name.Space space) ident b b′) (λ ident x. grown_by b b′ _ x.entries) answer done.1)
    kept answer (ops.LoadThread cpu caller parent thread) done =
        board_kept done.0 (loads_grow (refusal_of_load_thread (contents_of b) caller parent thread) (λ ident. IsLoadedAs cpu (name.Thread thread) ident b b′) (λ ident x. grown_by b b′ _ x.entries) answer done.1)
    kept answer (ops.LoadMapping cpu caller parent vpn receiver) done =
        board_kept done.0 (loads_grow (refusal_of_load_mapping (contents_of b) caller parent vpn receiver)
        (λ ident. (space : SpaceNo) × (space_as (contents_of b) parent ≡ Some space) × IsLoadedAs cpu (name.Mapping space vpn) ident b b′) (λ ident x. grown_by b b′ _ x.2.entries) answer done.1)
    kept answer (ops.Unload cpu caller ident) done =
        board_kept done.0 (does_grow (refusal_of_unload (contents_of b) caller ident) (IsUnloadedAs cpu ident b b′) (λ x. grown_by b b′ _ x.entries) answer done.1)
    kept answer (ops.Lock cpu caller ident) done =
        board_kept done.0 (does_grow (refusal_of_lock (contents_of b) caller ident) (IsLockedAs cpu ident true b b′) (λ x. grown_by b b′ _ x.entries) answer done.1)
    kept answer (ops.Unlock cpu caller ident) done =
        board_kept done.0 (does_grow (refusal_of_unlock (contents_of b) caller ident) (IsLockedAs cpu ident false b b′) (λ x. grown_by b b′ _ x.entries) answer done.1)
    kept answer (ops.Checkout cpu) done =
        kept_at b b′ cpu (λ old new. IsCheckout cpu b old answer b′ new) d d′ done (λ old new x own. checkout_keeps cpu b old own answer b′ new x) are
    kept answer (ops.View cpu vpn) done =
        kept_at b b′ cpu (λ old new. IsView b vpn old answer new) d d′ done.1 (λ old new x own. (grown_if_same b b′ done.0, own_now old new (view_keeps cpu b old own vpn answer new x))) are
      where
        own_now : (old new : Place) → IsItsOwn b.journal.entries cpu new → IsItsOwn b′.journal.entries cpu new
        own_now old new = subst (λ (x : Recorded). IsItsOwn x.journal.entries cpu new) (sym done.0)
    kept answer (ops.RunAhead cpu limit) done =
        kept_at b b′ cpu (λ old new. IsRunAhead limit old answer new) d d′ done.1 (λ old new x own. (grown_if_same b b′ done.0, own_now old new (run_keeps cpu b old own limit answer new x))) are
      where
        own_now : (old new : Place) → IsItsOwn b.journal.entries cpu new → IsItsOwn b′.journal.entries cpu new
        own_now old new = subst (λ (x : Recorded). IsItsOwn x.journal.entries cpu new) (sym done.0)
    kept answer (ops.Commit cpu) done =
        kept_at b b′ cpu (λ old new. IsCommit b old answer b′ new) d d′ done (λ old new x own. commit_keeps cpu b old own answer b′ new x) are
    kept answer (ops.Leave cpu) done =
        kept_at b b′ cpu (λ old new. IsLeave b old answer b′ new) d d′ done (λ old new x own. leave_keeps cpu b old own answer b′ new x) are
    kept answer (ops.Complete cpu caller thread) done =
        board_kept done.0 (does_grow (refusal_of_complete (contents_of b) caller thread) (IsCompletion cpu thread b b′) (λ x. grown_by b b′ _ x.grows) answer done.1)
    kept answer (ops.ConfirmFault cpu caller thread) done =
        board_kept done.0 (does_grow (refusal_of_fault b caller thread) (HasEnded thread cpu b b′) (λ x. grown_by b b′ _ x.entries) answer done.1)
    kept answer (ops.HealStep cpu thread) done =
        board_kept done.0 (does_grow (refusal_of_heal b thread) (IsHealed cpu thread b b′) (λ x. grown_by b b′ _ x.entries) answer done.1)
    kept answer (ops.Reserve n) done = board_kept done.0 (room_grows n answer done.1)

-- ---- how the load of a row answers

module _ (cpu : ℕ) (caller parent : Ident) (vpn : Vpn) (receiver : Option Ident) (b b′ : Recorded) (d : Desktop) where
  abbrev refusal : Option Refused
  refusal = refusal_of_load_mapping (contents_of b) caller parent vpn receiver

  abbrev IsRowLoaded : Ident → Type 0
  IsRowLoaded ident = (space : SpaceNo) × (space_as (contents_of b) parent ≡ Some space) × IsLoadedAs cpu (name.Mapping space vpn) ident b b′

  row_loads : (called : Result Ident Refused) → IfErr called (IsRefused refusal b b′) → OnOk called (refusal ≡ None) → IfOk called IsRowLoaded → LoadsOr refusal IsRowLoaded b b′ (answer_if_loaded called)
  row_loads (Ok ident) refused passed loaded = (passed, loaded)
  row_loads (Err why) refused passed loaded = refused

  row_spares : (called : Result Ident Refused) → (HasCallRoom b → IfErr called (λ why. why ≢ NoMemory)) → Spares b (answer_if_loaded called)
  row_spares (Ok ident) enough = λ spare wants. cc
  row_spares (Err why) enough = λ spare wants. enough spare (cc)

  pub row_done : (called : Result Ident Refused) (answer : Answer) → answer ≡ answer_if_loaded called
      → IfErr called (IsRefused refusal b b′) → OnOk called (refusal ≡ None) → IfOk called IsRowLoaded → (HasCallRoom b → IfErr called (λ why. why ≢ NoMemory))
      → IsDone (ops.LoadMapping cpu caller parent vpn receiver) b d answer b′ d
  row_done called answer is refused passed loaded enough =
      (refl, subst (LoadsOr refusal IsRowLoaded b b′) (sym is) (row_loads called refused passed loaded), subst (Spares b) (sym is) (row_spares called enough))

-- ---- a step that is healed

module _ (cpu : ℕ) (whom : ThreadNo) (b : Recorded) (d : Desktop) (b′ : Recorded) where
  heals : (called : Result (Unit {0}) Refused) → IfErr called (IsRefused (refusal_of_heal b whom) b b′) → OnOk called (refusal_of_heal b whom ≡ None) → OnOk called (IsHealed cpu whom b b′)
      → DoesOr (refusal_of_heal b whom) (IsHealed cpu whom b b′) b b′ (answer_if_done called)
  heals (Ok x) refused passed healed = (passed, healed)
  heals (Err why) refused passed healed = refused

  heal_spares : (called : Result (Unit {0}) Refused) → (HasCallRoom b → IfErr called (λ why. why ≢ NoMemory)) → Spares b (answer_if_done called)
  heal_spares (Ok x) enough = λ spare wants. cc
  heal_spares (Err why) enough = λ spare wants. enough spare (cc)

  pub heal_done : (called : Result (Unit {0}) Refused) (answer : Answer) → answer ≡ answer_if_done called
      → IfErr called (IsRefused (refusal_of_heal b whom) b b′) → OnOk called (refusal_of_heal b whom ≡ None) → OnOk called (IsHealed cpu whom b b′) → (HasCallRoom b → IfErr called (λ why. why ≢ NoMemory))
      → IsDone (ops.HealStep cpu whom) b d answer b′ d
  heal_done called answer is refused passed healed enough =
      (refl, subst (DoesOr (refusal_of_heal b whom) (IsHealed cpu whom b b′) b b′) (sym is) (heals called refused passed healed), subst (Spares b) (sym is) (heal_spares called enough))

-- ---- one operation more

pub one_more : (xs : List Op) (op : Op) (b : Recorded) (d : Desktop) (given : List Answer) (b′ : Recorded) (d′ : Desktop) (answer : Answer) (b″ : Recorded) (d″ : Desktop)
    → AreAnswered xs b d given b′ d′ → IsAnswered op b′ d′ answer b″ d″ → AreAnswered (xs ++ op ∷ []) b d (given ++ answer ∷ []) b″ d″
one_more [] op b d [] b′ d′ answer b″ d″ are one =
    (b″, d″, subst (λ (x : Recorded). IsAnswered op x d answer b″ d″) are.1 (subst (λ (x : Desktop). IsAnswered op b′ x answer b″ d″) are.2 one), (refl, refl, refl))
one_more [] op b d (a ∷ given) b′ d′ answer b″ d″ are one = let e : a ∷ given ≡ [] = are.0 in absurd (cc)
one_more (x ∷ xs) op b d [] b′ d′ answer b″ d″ are one = absurd are
one_more (x ∷ xs) op b d (a ∷ given) b′ d′ answer b″ d″ are one =
    (are.0, are.1, are.2, one_more xs op are.0 are.1 given b′ d′ answer b″ d″ are.3 one)

-- the next operation of a list
pub one_at : (xs : List Op) (i : ℕ) (default : Op) (b : Recorded) (d : Desktop) (given : List Answer) (b′ : Recorded) (d′ : Desktop) (answer : Answer) (b″ : Recorded) (d″ : Desktop)
    → i < length xs → AreAnswered (take i xs) b d given b′ d′ → IsAnswered (get_or xs i default) b′ d′ answer b″ d″ → AreAnswered (take (i + 1) xs) b d (given ++ answer ∷ []) b″ d″
one_at xs i default b d given b′ d′ answer b″ d″ within are one =
    subst (λ (ys : List Op). AreAnswered ys b d (given ++ answer ∷ []) b″ d″) (sym (take_more xs i default within)) (one_more (take i xs) (get_or xs i default) b d given b′ d′ answer b″ d″ are one)

-- ---- room for the answers

-- what a push leaves where it succeeds
pub pushed : {A T E : Type 0} (r : Result T E) (xs ys : List A) (x : A) → IsOk r → ys ≡ (if is_ok r then xs ++ x ∷ [] else xs) → ys ≡ xs ++ x ∷ []
pushed (Ok y) xs ys x ok is = is
pushed (Err e) xs ys x ok is = let no : false ≡ true = ok in absurd (cc)

pub room_first : (len more capacity : ℕ) → len + more ≤ capacity → len + more ≤ capacity + 0
room_first len more capacity enough = omega arith
