-- Why a run that was opened and went on to its end is one of the machine with unlimited tables.
use Rattle.std.proofs.Common.{◌≡◌, ◌≢◌, ℕ, ◌+◌, List, [], ◌∷◌, ◌++◌, Option, Some, refl, sym, ap, ap₂, ◌∙◌, subst, arith}
use Rattle.flat_rules.specs.flat_state.specs.declared.events.Decl.{Decl}
use Rattle.flat_rules.specs.flat_state.specs.declared.events.Event.TheVariants.{Declare}
use Rattle.flat_rules.specs.flat_state.specs.declared.records.Settled.{Settled}
use Rattle.flat_rules.specs.flat_state.specs.declared.records.Settled.TheVariants.{Running}
use Rattle.flat_rules.specs.flat_state.specs.State.{nothing_declared, FlatState}
use Rattle.flat_rules.specs.flat_state.specs.Declaration.{declared}
use Rattle.flat_rules.specs.flat_state.specs.Events.{after_declarations, after_events, flat, AllFit}
use Rattle.flat_rules.specs.flat_state.specs.Settling.{settled_of}
use Rattle.flat_rules.specs.flat_state.proofs.Places.{count_by-cons}
use Rattle.flat_report.specs.report_text.specs.Reports.{report}
use Rattle.run_journal.specs.declared.entries.Entry.{Entry}
use Rattle.run_journal.specs.Entries.{erase, is_step, steps_in}
use Rattle.run_journal.specs.Points.{opening}
use Rattle.paged_run.specs.Runs.{Extends, IsPagedRun, EventsFit}
use Rattle.paged_run.proofs.Journeys.{after_erased-append, steps_in-append}
use Rattle.paged_run.proofs.Opened.{applied_so}

-- what the events of declarations make is what the declarations do
after_opening : (s : FlatState) (ds : List Decl) → AllFit s ds → after_events s (erase (opening ds)) ≡ after_declarations s ds
after_opening s [] fit = refl
after_opening s (d ∷ ds) fit = ap (λ (t : FlatState). after_events t (erase (opening ds))) (applied_so s d fit.0) ∙ after_opening (declared s d) ds fit.1

-- they are no steps
no_steps : (ds : List Decl) → steps_in (opening ds) ≡ 0
no_steps [] = refl
no_steps (d ∷ ds) =
    let whole : steps_in (opening (d ∷ ds)) ≡ 0 + steps_in (opening ds) = count_by-cons is_step (Declare d) (erase (opening ds)) in
    let rest = no_steps ds in
    omega arith

pub whole_run : (ds : List Decl) (limit : ℕ) (s0 s : FlatState) (j0 j : List Entry) (count steps : ℕ) (settled : Settled) (text : List ℕ) (held : Option (List ℕ)) → AllFit nothing_declared ds → s0 ≡ after_declarations nothing_declared ds
    → j0 ≡ opening ds → Extends s0 j0 s j count → steps ≡ count → settled ≡ settled_of s steps limit → settled ≢ Running → text ≡ report s settled steps → held ≡ Some s.memory → IsPagedRun ds limit j settled text held
whole_run ds limit s0 s j0 j count steps settled text held fit first begins goes counts how ended reported pages =
    let opened : flat (erase (opening ds)) ≡ s0 = after_opening nothing_declared ds fit ∙ sym first in
    let whole : j ≡ opening ds ++ goes.rest = goes.grown ∙ ap (λ (x : List Entry). x ++ goes.rest) begins in
    let state : s ≡ flat (erase j) =
    goes.state ∙ ap (λ (x : FlatState). after_events x (erase goes.rest)) (sym opened) ∙ sym (after_erased-append nothing_declared (opening ds) goes.rest) ∙ ap (λ (x : List Entry). flat (erase x)) (sym whole) in
    let taken : steps ≡ steps_in j = counts ∙ goes.count ∙ rest_alone ds goes.rest ∙ ap steps_in (sym whole) in
    record {
      rest = goes.rest;
      begins = whole;
      own = goes.own;
      fits = subst (λ (x : FlatState). EventsFit x (erase goes.rest)) (sym opened) goes.fits;
      status = how ∙ ap₂ (λ (x : FlatState) (n : ℕ). settled_of x n limit) state taken;
      ended = ended;
      reported = reported ∙ ap₂ (λ (x : FlatState) (n : ℕ). report x settled n) state taken;
      pages = pages ∙ ap (λ (x : FlatState). Some x.memory) state;
    }
  where
    rest_alone : (ds : List Decl) (rest : List Entry) → steps_in rest ≡ steps_in (opening ds ++ rest)
    rest_alone ds rest = omega (arith, no_steps ds, steps_in-append (opening ds) rest)
