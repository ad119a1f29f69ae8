-- How journal and tables go on telling the same.
use Rattle.std.proofs.Common.{◌≡◌, ℕ, ◌+◌, Bool, List, [], ◌∷◌, ◌++◌, length, Some, ap, sym, ◌∙◌, subst, arith}
use Rattle.cache_ident.specs.declared.idents.Ident.{Ident}
use Rattle.cache_ident.specs.declared.idents.Standing.{Standing}
use Rattle.cache_ident.specs.declared.idents.Standing.TheVariants.{Never}
use Rattle.cache_ident.specs.declared.rolls.Issued.{Issued}
use Rattle.cache_ident.specs.Residents.{Resident}
use Rattle.cache_ident.specs.Rolls.{standing_in}
use Rattle.quantum.specs.flat_state.specs.declared.events.Machine.{Machine}
use Rattle.quantum.specs.flat_state.specs.Events.{flat}
use Rattle.quantum.specs.flat_state.specs.State.{FlatState}
use Rattle.quantum.specs.flat_state.specs.WellFormed.{IsWellFormed}
use Rattle.quantum.specs.flat_state.proofs.FormedEvents.{flat_formed}
use Rattle.desc_tables.specs.run_journal.specs.declared.entries.Entry.{Entry}
use Rattle.desc_tables.specs.run_journal.specs.Entries.{erase}
use Rattle.desc_tables.specs.run_journal.specs.Legal.{AreLegal, IsByProcessor, IsInPlace, MayHappen}
use Rattle.desc_tables.specs.run_journal.specs.Standing.{standing_after, standing_from, standing_of, StandsAs}
use Rattle.desc_tables.specs.run_journal.specs.Told.{Anything, Told, nothing_told, told, told_after, told_from, told_of}
use Rattle.desc_tables.specs.run_journal.proofs.Growth.{standing_from-append, told_from-append}
use Rattle.desc_tables.specs.run_journal.proofs.LegalGrowth.{grows, settled, state_told}
use Rattle.desc_tables.specs.run_journal.proofs.Standings.{stands_as}
use Rattle.desc_tables.specs.desc_stores.specs.Contents.{residents_of, Contents}
use Rattle.desc_tables.specs.shown_state.specs.Shown.{shown}
use Rattle.board_laws.specs.Moves.{KeepsLoaded, ShowsTheSame}
use Rattle.board_laws.specs.Telling.{AreAsTold}

-- what a journal tells that tells what the tables do
abbrev pub tells : Machine → List ℕ → Contents → Bool → Told
tells m memory c sealed = told_of (shown (Some m) memory c) sealed (length c.issued) (residents_of c) Anything

pub same_told : (s t : FlatState) (on onto : Bool) (n l : ℕ) (rs qs : List Resident) → s ≡ t → on ≡ onto → n ≡ l → rs ≡ qs → told_of s on n rs Anything ≡ told_of t onto l qs Anything
same_told s t on onto n l rs qs state seal loads residents =
    ap (λ (x : FlatState). told_of x on n rs Anything) state
    ∙ ap (λ (x : Bool). told_of t x n rs Anything) seal
    ∙ ap (λ (x : ℕ). told_of t onto x rs Anything) loads
    ∙ ap (λ (x : List Resident). told_of t onto l x Anything) residents

pub tells_is : (m : Machine) (memory : List ℕ) (c : Contents) (sealed : Bool) (j : List Entry) → AreAsTold m memory c sealed j → told j ≡ tells m memory c sealed
tells_is m memory c sealed j as_told =
    settled j as_told.legal
    ∙ same_told (told j).state (shown (Some m) memory c) (told j).sealed sealed (told j).loads (length c.issued) (told j).residents (residents_of c) as_told.state as_told.seal as_told.loads as_told.residents

module _ (m : Machine) (memory after : List ℕ) (old new : Contents) (on onto : Bool) (j : List Entry) (as_told : AreAsTold m memory old on j) where
  pub grown_told : (es : List Entry) → AreLegal (tells m memory old on) es → told_from (tells m memory old on) es ≡ tells m after new onto
      → ((ident : Ident) → standing_from (length j) ident (standing_in old.issued ident) es ≡ standing_in new.issued ident) → AreAsTold m after new onto (j ++ es)
  grown_told es legal then stands =
      let is = tells_is m memory old on j as_told in
      let now : told_from (told j) es ≡ tells m after new onto = ap (λ (k : Told). told_from k es) is ∙ then in
      let all : told (j ++ es) ≡ tells m after new onto = told_from-append nothing_told j es ∙ now in
      record {
        legal = grows j es as_told.legal (subst (λ (k : Told). AreLegal k es) {x = tells m memory old on} {y = told j} (sym is) legal) (ap (λ (k : Told). k.due) now);
        state = ap (λ (k : Told). k.state) all;
        residents = ap (λ (k : Told). k.residents) all;
        standings = λ ident.
            let place : 0 + length j ≡ length j = omega arith in
            standing_from-append 0 ident Never j es
            ∙ ap (λ (n : ℕ). standing_from n ident (standing_of j ident) es) place
            ∙ ap (λ (standing : Standing). standing_from (length j) ident standing es) (as_told.standings ident)
            ∙ stands ident;
        loads = ap (λ (k : Told). k.loads) all;
        seal = ap (λ (k : Told). k.sealed) all;
      }

  -- .. by one entry
  pub entry_told : (e : Entry) → IsInPlace (tells m memory old on) e → IsByProcessor e → MayHappen (tells m memory old on) e → told_after (tells m memory old on) e ≡ tells m after new onto
      → ((ident : Ident) → standing_after (length j) ident (standing_in old.issued ident) e ≡ standing_in new.issued ident) → AreAsTold m after new onto (j ++ e ∷ [])
  entry_told e place by may then stands = grown_told (e ∷ []) (record { comes = tt; place = place; processor = by; happens = may }, tt) then stands

-- ---- what follows

module _ (m : Machine) (memory : List ℕ) (c : Contents) (sealed : Bool) (j : List Entry) (as_told : AreAsTold m memory c sealed j) where
  pub state_is_flat : shown (Some m) memory c ≡ flat (erase j)
  state_is_flat = sym as_told.state ∙ state_told j

  pub formed_told : IsWellFormed (shown (Some m) memory c)
  formed_told = subst IsWellFormed (sym state_is_flat) (flat_formed (erase j))

  pub stands_told : (ident : Ident) → StandsAs j ident (standing_in c.issued ident)
  stands_told ident = subst (λ (standing : Standing). StandsAs j ident standing) (as_told.standings ident) (stands_as j ident)

-- where nothing is shown anew, and the same is loaded, the journal tells the same
pub still_told : (m : Machine) (memory : List ℕ) (old new : Contents) (sealed : Bool) (j : List Entry) → AreAsTold m memory old sealed j → ShowsTheSame old new → KeepsLoaded old new → AreAsTold m memory new sealed j
still_told m memory old new sealed j as_told shows keeps = record {
  legal = as_told.legal;
  state = as_told.state ∙ sym (shows (Some m) memory);
  residents = as_told.residents ∙ sym keeps.residents;
  standings = λ ident. as_told.standings ident ∙ ap (λ (issued : List Issued). standing_in issued ident) (sym keeps.issued);
  loads = as_told.loads ∙ ap length (sym keeps.issued);
  seal = as_told.seal;
}
