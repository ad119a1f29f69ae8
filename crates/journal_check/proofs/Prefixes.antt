-- A journal place by place: what is told before each, and what is found of the places so far.
use Rattle.std.proofs.Common.{◌≡◌, ℕ, zero, suc, ◌+◌, ◌<◌, ◌≤◌, List, [], ◌∷◌, ◌++◌, length, take, Some, None, slice_get, refl, ap, sym, ◌∙◌, subst, inl, inr, arith}
use Rattle.std.proofs.lemmas.Bool.{cases_lt}
use Rattle.std.proofs.lemmas.List.{take_all}
use Rattle.std.proofs.lemmas.Option.{same_Some, slice_get_past, slice_get_cases}
use Rattle.flat_machine.specs.flat_state.specs.declared.events.Decl.{Decl}
use Rattle.flat_machine.specs.flat_state.specs.State.{FlatState}
use Rattle.flat_machine.specs.flat_state.specs.Events.{flat}
use Rattle.run_journal.specs.declared.entries.Entry.{Entry}
use Rattle.run_journal.specs.Entries.{erase}
use Rattle.run_journal.specs.Legal.{IsLegal}
use Rattle.run_journal.specs.Told.{nothing_told, told, told_after}
use Rattle.run_journal.specs.Points.{Rule, Keeps, KeepsAll, IsFirstBroken, opening, place_in}
use Rattle.run_journal.proofs.Growth.{told_from-append}
use Rattle.run_journal.proofs.LegalGrowth.{state_told}
use Rattle.run_journal.proofs.PointLaws.{keeps_legal, keeps_begins, legal_keeps}
use Rattle.journal_facts.specs.declared.facts.Facts.{Facts}
use Rattle.journal_facts.specs.Facts.{AreFactsOf}
use Rattle.journal_check.specs.declared.checking.Verdict.{Verdict}
use Rattle.journal_check.specs.declared.checking.Verdict.TheVariants.{Yes, No}
use Rattle.journal_check.specs.Places.{place, AreFactsAfter, KeepsEach, BreaksFirst}
use Rattle.journal_check.specs.Verdicts.{IsVerdict, IsYes, OnYes}

-- ---- what is told

take_next : (j : List Entry) (at : ℕ) (e : Entry) → slice_get j at ≡ Some e → take (suc at) j ≡ take at j ++ e ∷ []
take_next [] at e is = absurd cc
take_next (x ∷ j) zero e is = ap (λ (y : Entry). y ∷ []) (same_Some x e is)
take_next (x ∷ j) (suc at) e is = ap (λ (es : List Entry). x ∷ es) (take_next j at e is)

-- with one entry more
told_next : (j : List Entry) (at : ℕ) (e : Entry) → slice_get j at ≡ Some e → told (take (at + 1) j) ≡ told_after (told (take at j)) e
told_next j at e is =
    let more : at + 1 ≡ suc at = omega arith in
    ap (λ (n : ℕ). told (take n j)) more ∙ ap told (take_next j at e is) ∙ told_from-append nothing_told (take at j) (e ∷ [])

-- the facts behind a place are those of the next one
pub facts_next : (facts : Facts) (j : List Entry) (at : ℕ) → at < length j → AreFactsAfter facts (told (take at j)) (slice_get j at) → AreFactsOf facts (told (take (at + 1) j))
facts_next facts j at lt behind =
    elim (slice_get_cases j at).1 [
      | inl h ↦
          let here : AreFactsOf facts (told_after (told (take at j)) h.0) = subst (AreFactsAfter facts (told (take at j))) h.2 behind in
          subst (AreFactsOf facts) (sym (told_next j at h.0 h.2)) here
      | inr h ↦ absurd (omega (arith, h.0))
    ]

pub facts_end : (facts : Facts) (j : List Entry) → AreFactsAfter facts (told (take (length j) j)) None → AreFactsOf facts (told j)
facts_end facts j behind = subst (λ (x : List Entry). AreFactsOf facts (told x)) (take_all (length j) j (omega arith)) behind

pub state_end : (j : List Entry) (s : FlatState) → s ≡ (told j).state → s ≡ flat (erase j)
state_end j s is = is ∙ state_told j

-- ---- what is found

-- all places before keep all rules
abbrev pub KeepBefore : List Decl → List Entry → ℕ → Type 0
KeepBefore ds j at = (n : ℕ) (rule : Rule) → n < at → Keeps rule ds (place_in j n)

pub keep_more : (ds : List Decl) (j : List Entry) (at : ℕ) → KeepBefore ds j at → KeepsEach ds (place at (told (take at j)) (slice_get j at) (slice_get j (at + 1))) → KeepBefore ds j (at + 1)
keep_more ds j at before here n rule lt =
    elim (cases_lt n at) [
      | inl less ↦ before n rule less
      | inr past ↦
          let same : at ≡ n = omega arith in
          subst (λ (m : ℕ). Keeps rule ds (place_in j m)) same (here rule)
    ]

pub first_broken : (ds : List Decl) (j : List Entry) (at number : ℕ) → at ≤ length j → KeepBefore ds j at → BreaksFirst ds (place at (told (take at j)) (slice_get j at) (slice_get j (at + 1))) number → IsFirstBroken ds j at number
first_broken ds j at number within before breaks = record {
  within = within;
  rule = breaks.rule;
  its = breaks.its;
  broken = breaks.broken;
  lower = breaks.lower;
  before = before;
}

-- nothing stands at the end, nor behind it
end_place : (j : List Entry) → place (length j) (told (take (length j) j)) None None ≡ place_in j (length j)
end_place j =
    let here : None ≡ slice_get j (length j) = sym (slice_get_past j (length j) (omega arith)) in
    let next : None ≡ slice_get j (length j + 1) = sym (slice_get_past j (length j + 1) (omega arith)) in
    rw (slice_get_past j (length j) (omega arith), slice_get_past j (length j + 1) (omega arith)) refl

pub first_broken_at_end : (ds : List Decl) (j : List Entry) (number : ℕ) → KeepBefore ds j (length j) → BreaksFirst ds (place (length j) (told (take (length j) j)) None None) number → IsFirstBroken ds j (length j) number
first_broken_at_end ds j number before breaks = first_broken ds j (length j) number (omega arith) before (subst (λ p. BreaksFirst ds p number) (end_place j) breaks)

pub keeps_all : (ds : List Decl) (j : List Entry) → KeepBefore ds j (length j) → KeepsEach ds (place (length j) (told (take (length j) j)) None None) → KeepsAll ds j
keeps_all ds j before last n rule within =
    elim (cases_lt n (length j)) [
      | inl less ↦ before n rule less
      | inr past ↦
          let same : length j ≡ n = omega arith in
          subst (λ (m : ℕ). Keeps rule ds (place_in j m)) same (subst (λ p. Keeps rule ds p) (end_place j) (last rule))
    ]

-- ---- what a verdict says of the whole journal

pub verdict_legal : (ds : List Decl) (j : List Entry) (v : Verdict) → IsVerdict ds j v → OnYes v (IsLegal j × ((rest : List Entry) × (j ≡ opening ds ++ rest)))
verdict_legal ds j (Yes s) is = (keeps_legal ds j is.0, keeps_begins ds j is.0)
verdict_legal ds j (No at point) is = tt

-- a journal that keeps all rules breaks none
pub legal_yes : (ds : List Decl) (j rest : List Entry) (v : Verdict) → IsVerdict ds j v → IsLegal j → j ≡ opening ds ++ rest → IsYes v
legal_yes ds j rest (Yes s) is legal begins = tt
legal_yes ds j rest (No at point) is legal begins = is.broken (legal_keeps ds j rest legal begins at is.rule is.within)
