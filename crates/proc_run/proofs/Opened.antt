-- The board of a scenario, before and behind its seal.
use Rattle.std.proofs.Common.{◌≡◌, ℕ, false, List, [], ◌∷◌, ◌++◌, map, length, Option, None, Ok, refl, sym, ap, ◌∙◌, append-nil, append_assoc, arith}
use Rattle.std.specs.Prelude.{◌≢◌, unwrap_or}
use Rattle.std.proofs.lemmas.Bool.{ne_eqb}
use mathlib.Core.List.{IsPrefix}
use Rattle.flat_state.specs.declared.events.Decl.{Decl}
use Rattle.flat_state.specs.declared.events.Decl.TheVariants as decls
use Rattle.flat_state.specs.declared.events.Event.TheVariants.{Declare}
use Rattle.flat_state.specs.declared.events.Machine.{Machine}
use Rattle.flat_state.specs.declared.records.Settled.TheVariants.{Running}
use Rattle.flat_state.specs.Declaration.{broken_rule, declared}
use Rattle.flat_state.specs.Events.{after_declarations, after_events, applied, declared_unless, flat, AllFit}
use Rattle.flat_state.specs.State.{nothing_declared, FlatState}
use Rattle.cache_ident.specs.declared.idents.Ident.{Ident}
use Rattle.cache_ident.specs.Names.{first_name}
use Rattle.run_journal.specs.declared.entries.Entry.{Entry}
use Rattle.run_journal.specs.declared.entries.Entry.TheVariants.{Declared, Sealed, Loaded, Locked}
use Rattle.run_journal.specs.Entries.{erase}
use Rattle.run_journal.specs.Legal.{first_ident}
use Rattle.run_journal.specs.Points.{opening}
use Rattle.board_opening.specs.cached_machine.specs.Cached.{state_of}
use Rattle.board_opening.specs.board_core.specs.Core.{IsSound, Recorded}
use Rattle.board_opening.specs.board_core.specs.Going.{Grew}
use Rattle.board_opening.specs.board_calls.specs.Calls.{refusal_of_seal, IsSealing}
use Rattle.board_opening.specs.Openings.{AreDeclared, IsBoardOf}
use Rattle.processors.specs.board_turns.specs.Looks.{settled_on}
use Rattle.board_opening.specs.cache_board.proofs.PastLaws.{shows_flat}
use Rattle.scenario_reader.specs.Scenarios.{scenario}
use Rattle.scenario_reader.proofs.OpeningLaws.{answer_begins, opening_alike, BeginsWithMachine}
use Rattle.proc_run.specs.Running.{HasKernel, IsRun}

-- ---- what a scenario's text declares

-- its declarations fit, and the machine is the first of them
pub fits_and_begins : (text : List ℕ) (ds : List Decl) → scenario text ≡ Ok ds → AllFit nothing_declared ds × BeginsWithMachine ds
fits_and_begins text ds is = answer_begins text (Ok ds) (opening_alike text (rw is tt) ∙ is)

-- ---- declarations

applied_so : (s : FlatState) (d : Decl) → broken_rule s d ≡ None → applied s (Declare d) ≡ declared s d
applied_so s d fits = ap (λ (o : Option ℕ). unwrap_or (declared_unless o s d) s) fits

-- what the events of declarations make is what the declarations do
after_declared : (s : FlatState) (ds : List Decl) → AllFit s ds → after_events s (erase (map Declared ds)) ≡ after_declarations s ds
after_declared s [] fit = refl
after_declared s (d ∷ ds) fit = ap (λ (t : FlatState). after_events t (erase (map Declared ds))) (applied_so s d fit.0) ∙ after_declared (declared s d) ds fit.1

-- a board on which declarations were made
record IsBehind (ds : List Decl) (old new : Recorded) : Type 0 where
  entries : new.journal.entries ≡ old.journal.entries ++ map Declared ds
  state : state_of new.machine ≡ after_events (state_of old.machine) (erase (map Declared ds))
  sealed : new.sealed ≡ old.sealed
  limit : new.limit ≡ old.limit

behind_all : (ds : List Decl) (old new : Recorded) → AreDeclared ds old new → IsBehind ds old new
behind_all [] old new same = record {
  entries = ap (λ (b : Recorded). b.journal.entries) same ∙ sym (append-nil old.journal.entries);
  state = ap (λ (b : Recorded). state_of b.machine) same;
  sealed = ap (λ (b : Recorded). b.sealed) same;
  limit = ap (λ (b : Recorded). b.limit) same;
}
behind_all (d ∷ ds) old new (between, one, more) =
    let rest = behind_all ds between new more in
    record {
      entries = rest.entries ∙ (ap (λ (es : List Entry). es ++ map Declared ds) one.grows.entries ∙ append_assoc old.journal.entries (Declared d ∷ []) (map Declared ds));
      state = rest.state ∙ ap (λ (s : FlatState). after_events s (erase (map Declared ds))) one.grows.state;
      sealed = rest.sealed ∙ one.places.sealed;
      limit = rest.limit ∙ one.grows.limit;
    }

-- ---- the board of a scenario

-- it has the declarations for its journal, and is open
pub record IsOpen (ds : List Decl) (limit : ℕ) (b : Recorded) : Type 0 where
  pub entries : b.journal.entries ≡ map Declared ds
  pub state : state_of b.machine ≡ flat (erase (map Declared ds))
  pub sealed : b.sealed ≡ false
  pub its_limit : b.limit ≡ limit

pub is_open : (ds : List Decl) (limit : ℕ) (b : Recorded) → IsBoardOf ds limit b → IsOpen ds limit b
is_open ds limit b made =
    let rest = behind_all made.rest made.first b made.declared in
    let first : state_of made.first.machine ≡ flat (erase (Declared (decls.Machine made.machine) ∷ [])) = shows_flat made.first made.bare.sound ∙ ap (λ (es : List Entry). flat (erase es)) made.bare.entries in
    rw made.begins (record {
      entries = rest.entries ∙ ap (λ (es : List Entry). es ++ map Declared made.rest) made.bare.entries;
      state = rest.state ∙ ap (λ (s : FlatState). after_events s (erase (map Declared made.rest))) first;
      sealed = rest.sealed ∙ made.bare.unsealed;
      its_limit = rest.limit ∙ made.bare.steps;
    })

-- so it may be sealed, where a kernel is declared
pub may_be_sealed : (ds : List Decl) (limit : ℕ) (b : Recorded) → AllFit nothing_declared ds → HasKernel ds → IsBoardOf ds limit b → refusal_of_seal b ≡ None
may_be_sealed ds limit b fit kernel made =
    let opened = is_open ds limit b made in
    let state : state_of b.machine ≡ after_declarations nothing_declared ds = opened.state ∙ after_declared nothing_declared ds fit in
    let some : length (state_of b.machine).kernels ≢ 0 = λ none. omega (arith, kernel, sym none ∙ ap (λ (s : FlatState). length s.kernels) state) in
    rw (ne_eqb (length (state_of b.machine).kernels) 0 some, opened.sealed) refl

-- ---- the seal, and the run behind it

-- behind the seal the journal begins with the declarations and the seal
pub sealed_begins : (ds : List Decl) (limit : ℕ) (old new : Recorded) (ident : Ident) → IsBoardOf ds limit old → IsSealing old new ident → (rest : List Entry) × (new.journal.entries ≡ opening ds ++ rest)
sealed_begins ds limit old new ident made sealing =
    let first = Loaded first_ident first_name 0 ∷ Locked first_ident 0 ∷ [] in
    let opened = is_open ds limit old made in
    (first, sealing.grows.entries ∙ (ap (λ (es : List Entry). es ++ Sealed ∷ first) opened.entries ∙ sym (append_assoc (map Declared ds) (Sealed ∷ []) first)))

pub sealed_limit : (ds : List Decl) (limit : ℕ) (old new : Recorded) (ident : Ident) → IsBoardOf ds limit old → IsSealing old new ident → new.limit ≡ limit
sealed_limit ds limit old new ident made sealing = sealing.grows.limit ∙ (is_open ds limit old made).its_limit

-- what a board went on with stands behind what it began with
pub begins_still : (ds : List Decl) (old new : Recorded) → (rest : List Entry) × (old.journal.entries ≡ opening ds ++ rest) → IsPrefix old.journal.entries new.journal.entries → (rest : List Entry) × (new.journal.entries ≡ opening ds ++ rest)
begins_still ds old new began more = (began.0 ++ more.0, sym more.1 ∙ (ap (λ (es : List Entry). es ++ more.0) began.1 ∙ append_assoc (opening ds) began.0 more.0))

-- .. and so does what it grew by
pub run_on : (ds : List Decl) (cpu : ℕ) (old new : Recorded) → (rest : List Entry) × (old.journal.entries ≡ opening ds ++ rest) → Grew cpu old new → IsSound new → settled_on new ≢ Running → IsRun ds old.limit new
run_on ds cpu old new began grew sound over = record {
  rest = began.0 ++ grew.entries;
  begins = grew.grows.entries ∙ (ap (λ (es : List Entry). es ++ grew.entries) began.1 ∙ append_assoc (opening ds) began.0 grew.entries);
  sound = sound;
  its_limit = grew.grows.limit;
  over = over;
}
