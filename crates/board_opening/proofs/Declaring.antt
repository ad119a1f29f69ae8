-- Why declarations that fit are refused for want of memory alone, and what board they make.
use Rattle.std.proofs.Common.{◌≡◌, ℕ, ◌+◌, ◌<◌, Bool, false, suc, List, [], ◌∷◌, length, drop, get_or, Option, Some, None, Result, Ok, refl, sym, ap, ap₂, subst, ◌∙◌, ◌⊎◌, inl, inr, drop-cons, arith}
use Rattle.std.specs.Prelude.{if◌then◌else◌, IfErr, IfOk, OnOk}
use Rattle.std.specs.Option.{option_map, unwrap_or}
use Rattle.std.specs.Result.{ForErr}
use Rattle.std.proofs.lemmas.Option.{none-some}
use Rattle.flat_state.specs.declared.events.Decl.{Decl}
use Rattle.flat_state.specs.declared.events.Decl.TheVariants as declaration
use Rattle.flat_state.specs.declared.events.Machine.{Machine}
use Rattle.flat_state.specs.State.{FlatState, nothing_declared}
use Rattle.flat_state.specs.Declaration.{broken_rule, declared, rule_of_machine}
use Rattle.flat_state.specs.Events.{after_events, declared_unless, AllFit}
use Rattle.cache_board.specs.run_journal.specs.declared.entries.Entry.{Entry}
use Rattle.cache_board.specs.run_journal.specs.declared.entries.Entry.TheVariants.{Declared}
use Rattle.cache_board.specs.run_journal.specs.Entries.{erase}
use Rattle.cache_board.specs.run_journal.specs.Told.{told}
use Rattle.cache_board.specs.board_ops.specs.declared.refusals.Refused.{Refused}
use Rattle.cache_board.specs.board_ops.specs.declared.refusals.Refused.TheVariants as why
use Rattle.cache_board.specs.cached_machine.specs.Cached.{state_of}
use Rattle.cache_board.specs.board_core.specs.Answers.{IsRefused}
use Rattle.cache_board.specs.board_core.specs.Core.{IsSound, Recorded}
use Rattle.cache_board.specs.board_calls.specs.Calls.{refusal_of_declare, IsDeclaring}
use Rattle.cache_board.specs.Boards.{refusal_of_machine}
use Rattle.board_opening.specs.Openings.{AreDeclared, IsNewBoard}

-- ---- refusals

-- where no reason comes, memory was wanted
no_reason : (refusal : Option Refused) (given : Refused) → refusal ≡ None → (given ≡ why.NoMemory) ⊎ (refusal ≡ Some given) → given ≡ why.NoMemory
no_reason refusal given none (inl memory) = memory
no_reason refusal given none (inr some) = absurd (none-some _ (sym none ∙ some))

pub only_memory : (r : Result (Unit {0}) Refused) (d : Decl) (old new : Recorded) → old.sealed ≡ false → broken_rule (state_of old.machine) d ≡ None
    → IfErr r (IsRefused (refusal_of_declare old d) old new) → ForErr r (λ given. given ≡ why.NoMemory)
only_memory r d old new unsealed fits refused given is =
    let none : refusal_of_declare old d ≡ None = ap₂ (λ (sealed : Bool) (rule : Option ℕ). if sealed then Some why.Sealed else option_map why.BadDecl rule) unsealed fits in
    let here : IsRefused (refusal_of_declare old d) old new given = subst (λ (x : Result (Unit {0}) Refused). IfErr x (IsRefused (refusal_of_declare old d) old new)) is refused in
    no_reason (refusal_of_declare old d) given none here.why

pub machine_only_memory : (r : Result Recorded Refused) (m : Machine) → rule_of_machine m ≡ None → IfErr r (λ given. (given ≡ why.NoMemory) ⊎ (refusal_of_machine m ≡ Some given))
    → ForErr r (λ given. given ≡ why.NoMemory)
machine_only_memory r m fits refused given is =
    let none : refusal_of_machine m ≡ None = ap (λ (rule : Option ℕ). option_map why.BadDecl rule) fits in
    no_reason (refusal_of_machine m) given none (subst (λ (x : Result Recorded Refused). IfErr x (λ other. (other ≡ why.NoMemory) ⊎ (refusal_of_machine m ≡ Some other))) is refused)

-- ---- declarations

pub cut : (ds : List Decl) (i : ℕ) (d : Decl) → i < length ds → drop i ds ≡ get_or ds i d ∷ drop (i + 1) ds
cut ds i d h =
    let e : i + 1 ≡ suc i = omega arith in
    rw e (drop-cons ds i d h)

-- the state behind a declaration that fits
state_so : (s next : FlatState) (d : Decl) → broken_rule s d ≡ None → next ≡ after_events s (erase (Declared d ∷ [])) → next ≡ declared s d
state_so s next d fits is = is ∙ ap (λ (rule : Option ℕ). unwrap_or (declared_unless rule s d) s) fits

pub first_fits : (s : FlatState) (ds rest : List Decl) (d : Decl) → ds ≡ d ∷ rest → AllFit s ds → broken_rule s d ≡ None
first_fits s ds rest d is fit = let here : AllFit s (d ∷ rest) = subst (AllFit s) is fit in here.0

pub rest_fits : (old new : Recorded) (ds rest : List Decl) (d : Decl) → ds ≡ d ∷ rest → AllFit (state_of old.machine) ds → IsDeclaring d old new → AllFit (state_of new.machine) rest
rest_fits old new ds rest d is fit done =
    let here : AllFit (state_of old.machine) (d ∷ rest) = subst (AllFit (state_of old.machine)) is fit in
    subst (λ (s : FlatState). AllFit s rest) (sym (state_so (state_of old.machine) (state_of new.machine) d here.0 done.grows.state)) here.1

pub on_declared : (r : Result (Unit {0}) Refused) (d : Decl) (old new : Recorded) (x : Unit {0}) → r ≡ Ok x → OnOk r (IsDeclaring d old new) → IsDeclaring d old new
on_declared r d old new x is done = subst (λ (y : Result (Unit {0}) Refused). OnOk y (IsDeclaring d old new)) is done

-- what is declared of the rest is declared of all
pub one_more : (start old new last : Recorded) (whole ds rest : List Decl) (d : Decl) → ds ≡ d ∷ rest → IsDeclaring d old new
    → ((end : Recorded) → AreDeclared ds old end → AreDeclared whole start end) → AreDeclared rest new last → AreDeclared whole start last
one_more start old new last whole ds rest d is done so_far more =
    so_far last (subst (λ (xs : List Decl). AreDeclared xs old last) (sym is) (new, done, more))

pub all_done : (start old : Recorded) (whole ds : List Decl) → ds ≡ [] → ((end : Recorded) → AreDeclared ds old end → AreDeclared whole start end) → AreDeclared whole start old
all_done start old whole ds none so_far = so_far old (subst (λ (xs : List Decl). AreDeclared xs old old) (sym none) refl)

-- ---- the machine

pub new_so : (r : Result Recorded Refused) (b : Recorded) (m : Machine) (limit : ℕ) → r ≡ Ok b → IfOk r (λ x. x.journal.entries ≡ Declared (declaration.Machine m) ∷ [])
    → IfOk r (λ x. (x.sealed ≡ false) × (x.limit ≡ limit) × (x.checkouts ≡ 0) × (x.machine.machine ≡ m)) → IsSound b → IsNewBoard m limit b
new_so r b m limit is entries begins sound =
    let at : (b.sealed ≡ false) × (b.limit ≡ limit) × (b.checkouts ≡ 0) × (b.machine.machine ≡ m) = subst (λ (y : Result Recorded Refused). IfOk y (λ x. (x.sealed ≡ false) × (x.limit ≡ limit) × (x.checkouts ≡ 0) × (x.machine.machine ≡ m))) is begins in
    record {
      entries = subst (λ (y : Result Recorded Refused). IfOk y (λ x. x.journal.entries ≡ Declared (declaration.Machine m) ∷ [])) is entries;
      unsealed = at.0;
      steps = at.1;
      checkouts = at.2;
      its = at.3;
      sound = sound;
    }

-- a machine that fits breaks no rule of machines
pub machine_fits : (ds rest : List Decl) (m : Machine) → ds ≡ declaration.Machine m ∷ rest → AllFit nothing_declared ds → rule_of_machine m ≡ None
unfolding broken_rule
machine_fits ds rest m is fit = first_fits nothing_declared ds rest (declaration.Machine m) is fit

-- what fits behind the machine fits the new board
pub fits_new : (ds rest : List Decl) (m : Machine) (limit : ℕ) (b : Recorded) → ds ≡ declaration.Machine m ∷ rest → AllFit nothing_declared ds → IsNewBoard m limit b → AllFit (state_of b.machine) rest
fits_new ds rest m limit b is fit bare =
    let here : AllFit nothing_declared (declaration.Machine m ∷ rest) = subst (AllFit nothing_declared) is fit in
    let shown : state_of b.machine ≡ after_events nothing_declared (erase (Declared (declaration.Machine m) ∷ [])) = sym bare.sound.told.state ∙ ap (λ (j : List Entry). (told j).state) bare.entries in
    subst (λ (s : FlatState). AllFit s rest) (sym (state_so nothing_declared (state_of b.machine) (declaration.Machine m) here.0 shown)) here.1
