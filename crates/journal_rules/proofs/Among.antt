-- The names of what is asked, one after another.
use Rattle.std.proofs.Common.{◌≡◌, ℕ, ◌+◌, ◌/◌, ◌%◌, Bool, true, false, List, [], Contains, ap₂, sym, subst, inl, inr, arith}
use Rattle.std.specs.Prelude.{Result, Ok, Err, IfOk}
use Rattle.std.proofs.lemmas.Bool.{cases_lt}
use Rattle.cache_ident.specs.declared.names.Frame.{Frame}
use Rattle.cache_ident.specs.declared.names.KernelNo.{KernelNo}
use Rattle.cache_ident.specs.declared.names.Name.{Name}
use Rattle.run_journal.specs.flat_laws.proofs.Members.{contains_nothing}
use Rattle.residents.specs.declared.relying.Reliance.{Reliance}
use Rattle.residents.specs.declared.relying.Reliance.TheVariants.{Signals, Rights}
use Rattle.residents.specs.declared.relying.RelyingRows.{RelyingRows}
use Rattle.journal_rules.specs.declared.calls.Touched.TheVariants.{Nothing, OnFrame, RightsOf}
use Rattle.journal_rules.specs.Touched.{AddsOne, AddsPlaces, AreRelying, Changes, HasOne, HaveOnes}

-- what names of a list are says more of it
pub still : {X E : Type 0} (r : Result X E) (names : X → List Name) (P Q : List Name → Type 0) → ((ns : List Name) → P ns → Q ns) → IfOk r (λ x. P (names x)) → IfOk r (λ x. Q (names x))
still (Ok x) names P Q so is = so (names x) is
still (Err e) names P Q so is = tt

-- a call that adds a row changes nothing but the signal rows of its frame
frame_alone : (frame : Frame) (reliance : Reliance) → Changes (OnFrame frame) reliance → reliance ≡ Signals (frame.0 / 128) (frame.0 % 128)
frame_alone frame (Signals group place) changes = ap₂ Signals changes.0 changes.1
frame_alone frame (Rights kernel group reads writes) changes = absurd changes

module _ (rows : RelyingRows) where
  pub relying_none : (names : List Name) → names ≡ [] → AreRelying rows names
  relying_none names none name there = absurd (contains_nothing name (subst (λ (ns : List Name). Contains ns name) none there))

  pub relying_more : (reliance : Reliance) (old new : List Name) → AddsOne rows reliance old new → AreRelying rows old → AreRelying rows new
  relying_more reliance old new adds all name there = elim (adds.other name there) [ inl was ↦ all name was | inr on ↦ (reliance, on) ]

  pub relying_places : (group places : ℕ) (old new : List Name) → AddsPlaces rows group places old new → AreRelying rows old → AreRelying rows new
  relying_places group places old new adds all name there = elim (adds.other name there) [ inl was ↦ all name was | inr on ↦ on ]

  pub has_still : (reliance : Reliance) (old new : List Name) → ((name : Name) → Contains old name → Contains new name) → HasOne rows old reliance → HasOne rows new reliance
  has_still reliance old new kept has name on = let one = has name on in (one.0, kept one.0 one.1, one.2)

  pub nothing_asked : (names : List Name) → names ≡ [] → HaveOnes rows Nothing names
  nothing_asked names none = record { ones = λ reliance changes. absurd changes; rows_alone = relying_none names none }

  pub frame_asked : (frame : Frame) (old new : List Name) → old ≡ [] → AddsOne rows (Signals (frame.0 / 128) (frame.0 % 128)) old new → HaveOnes rows (OnFrame frame) new
  frame_asked frame old new none adds = record {
    ones = λ reliance changes. subst (λ (p : Reliance). HasOne rows new p) (sym (frame_alone frame reliance changes)) adds.one;
    rows_alone = relying_more _ old new adds (relying_none old none);
  }

  -- ---- places of a group

  pub places_none : (group : ℕ) (names : List Name) → AddsPlaces rows group 0 names names
  places_none group names = record { kept = λ name there. there; other = λ name there. inl there; ones = λ place low. absurd (omega arith) }

  pub places_more : (group n : ℕ) (first old new : List Name) → AddsPlaces rows group n first old → AddsOne rows (Signals group n) old new → AddsPlaces rows group (n + 1) first new
  places_more group n first old new so_far adds = record {
    kept = λ name there. adds.kept name (so_far.kept name there);
    other = λ name there. elim (adds.other name there) [ inl was ↦ so_far.other name was | inr on ↦ inr (Signals group n, on) ];
    ones = λ place low. elim (cases_lt place n) [
      | inl below ↦ has_still (Signals group place) old new adds.kept (so_far.ones place below)
      | inr above ↦ (let last : n ≡ place = omega (arith, low) in subst (λ (k : ℕ). HasOne rows new (Signals group k)) last adds.one)
    ];
  }

  -- ---- rights

  pub rights_asked_of : (kernel : KernelNo) (group : ℕ) (a b c d e f : List Name) → a ≡ [] → AddsOne rows (Rights kernel group false false) a b → AddsOne rows (Rights kernel group false true) b c
      → AddsOne rows (Rights kernel group true false) c d → AddsOne rows (Rights kernel group true true) d e → AddsPlaces rows group 128 e f → HaveOnes rows (RightsOf kernel group) f
  rights_asked_of kernel group a b c d e f none first second third fourth places = record {
    ones = ones;
    rows_alone = relying_places group 128 e f places (relying_more _ d e fourth (relying_more _ c d third (relying_more _ b c second (relying_more _ a b first (relying_none a none)))));
  }
    where
      by : (reads writes : Bool) → HasOne rows f (Rights kernel group reads writes)
      by true true = has_still (Rights kernel group true true) e f places.kept fourth.one
      by true false = has_still (Rights kernel group true false) e f places.kept (has_still (Rights kernel group true false) d e fourth.kept third.one)
      by false true = has_still (Rights kernel group false true) e f places.kept (has_still (Rights kernel group false true) d e fourth.kept (has_still (Rights kernel group false true) c d third.kept second.one))
      by false false = has_still (Rights kernel group false false) e f places.kept (has_still (Rights kernel group false false) d e fourth.kept (has_still (Rights kernel group false false) c d third.kept (has_still (Rights kernel group false false) b c second.kept first.one)))

      ones : (reliance : Reliance) → Changes (RightsOf kernel group) reliance → HasOne rows f reliance
      ones (Signals other place) changes = subst (λ (g : ℕ). HasOne rows f (Signals g place)) (sym changes.0) (places.ones place changes.1)
      ones (Rights other place reads writes) changes =
          subst (λ (k : KernelNo). HasOne rows f (Rights k place reads writes)) (sym changes.0) (subst (λ (g : ℕ). HasOne rows f (Rights kernel g reads writes)) (sym changes.1) (by reads writes))
