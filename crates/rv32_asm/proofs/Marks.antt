-- One line after another, the map of labels comes to say where each is defined first.
use Rattle.std.proofs.Common.{◌≡◌, ℕ, ◌+◌, ◌≤◌, true, false, cond, List, [], ◌∷◌, length, map, Option, Some, None, refl, sym, ap, subst, ◌∙◌, arith, inl, inr}
use Rattle.std.proofs.lemmas.Bool.{cases_Bool}
use Rattle.std.specs.Prelude.{is_some}
use Rattle.std.specs.Str.{bytes_eq}
use Rattle.std.proofs.lemmas.Slice.Eq.{bytes_eq-Decides}
use Rattle.rv32_asm.specs.declared.labels.Mark.{Mark}
use Rattle.rv32_asm.specs.Forms.{or_else}
use Rattle.rv32_asm.specs.Line.{Line, Label, Code, line_of}
use Rattle.rv32_asm.specs.Block.{Marks, lines, spelt, start, behind, defines, first_mark}

-- what the map says, and what the lines that are left will add
pub record Marked (block : List ℕ) (marks : Marks) (at : Mark) (rest : List ℕ) : Type 0 where
  pub places : (q : List ℕ) → or_else (marks q) (first_mark at (spelt rest) q) ≡ first_mark start (spelt block) q
  pub lines : at.line + length rest ≤ length block
  pub words : at.word ≤ at.line

one_more : (old : Option Mark) (at : Mark) (l : Line) (ls : List Line) (q : List ℕ) → or_else (or_else old (cond (defines l q) (Some at) None)) (first_mark (behind at l) ls q) ≡ or_else old (first_mark at (l ∷ ls) q)
unfolding first_mark
one_more (Some x) at l ls q = refl
one_more None at l ls q = elim (cases_Bool (defines l q)) [ inl e ↦ rw e refl | inr e ↦ rw e refl ]

pub word_bound : (at : Mark) (l : Line) → at.word ≤ at.line → (behind at l).word ≤ (behind at l).line
word_bound at (Label name) h = omega arith
word_bound at (Code code) h = omega arith

pub line_is : (at : Mark) (l : Line) → (behind at l).line ≡ at.line + 1
line_is at (Label name) = refl
line_is at (Code code) = refl

pub marked_more : (block : List ℕ) (old new : Marks) (at next : Mark) (rest line more : List ℕ) → Marked block old at rest
    → lines rest ≡ line ∷ lines more → length more + 1 ≤ length rest → next ≡ behind at (line_of line)
    → ((q : List ℕ) → new q ≡ or_else (old q) (cond (defines (line_of line) q) (Some at) None))
    → Marked block new next more
marked_more block old new at next rest line more m first shorter is added =
    let l = line_of line in
    let ls = spelt more in
    let all : spelt rest ≡ l ∷ ls = ap (map line_of) first in
    let places : (q : List ℕ) → or_else (new q) (first_mark (behind at l) ls q) ≡ first_mark start (spelt block) q =
    λ q. ap (λ (o : Option Mark). or_else o (first_mark (behind at l) ls q)) (added q) ∙ one_more (old q) at l ls q ∙ ap (λ (xs : List Line). or_else (old q) (first_mark at xs q)) (sym all) ∙ m.places q in
    let made : Marked block new (behind at l) more = record { places = places; lines = omega (arith, line_is at l, m.lines, shorter); words = word_bound at l m.words } in
    subst (λ (x : Mark). Marked block new x more) (sym is) made

or_none : (o : Option Mark) → or_else o None ≡ o
or_none (Some x) = refl
or_none None = refl

-- without lines left the map says it all
pub marked_all : (block : List ℕ) (marks : Marks) (at : Mark) (rest : List ℕ) → Marked block marks at rest → rest ≡ [] → (q : List ℕ) → marks q ≡ first_mark start (spelt block) q
unfolding lines first_mark
marked_all block marks at rest m none q =
    let left : or_else (marks q) None ≡ first_mark start (spelt block) q = subst (λ (x : List ℕ). or_else (marks q) (first_mark at (spelt x) q) ≡ first_mark start (spelt block) q) none (m.places q) in
    sym (or_none (marks q)) ∙ left

pub marked_none : (block : List ℕ) (marks : Marks) (at : Mark) → at ≡ start → ((q : List ℕ) → marks q ≡ None) → Marked block marks at block
marked_none block marks at is none =
    let made : Marked block marks start block = record { places = λ q. ap (λ (o : Option Mark). or_else o (first_mark start (spelt block) q)) (none q); lines = omega arith; words = omega arith } in
    subst (λ (x : Mark). Marked block marks x block) (sym is) made

none_of : (o : Option Mark) → is_some o ≡ false → o ≡ None
none_of (Some x) e = absurd cc
none_of None e = refl

-- a label that was not there is bound, and the others stay
pub bound : (name q : List ℕ) (old : Marks) (new : Option Mark) (at : Mark) → new ≡ cond (bytes_eq name q) (Some at) (old q) → is_some (old name) ≡ false → new ≡ or_else (old q) (cond (bytes_eq name q) (Some at) None)
bound name q old new at is absent =
    elim (cases_Bool (bytes_eq name q)) [
      | inl e ↦
          let same : name ≡ q = (bytes_eq-Decides name q).0 e in
          let none : old q ≡ None = ap old (sym same) ∙ none_of (old name) absent in
          is ∙ rw (e, none) refl
      | inr e ↦ is ∙ rw e (sym (or_none (old q)))
    ]

some_stays : (o other : Option Mark) → is_some o ≡ true → o ≡ or_else o other
some_stays (Some x) other e = refl
some_stays None other e = absurd cc

-- a label that is there stays
pub stays : (name q : List ℕ) (old : Marks) (at : Mark) → is_some (old name) ≡ true → old q ≡ or_else (old q) (cond (bytes_eq name q) (Some at) None)
stays name q old at there =
    elim (cases_Bool (bytes_eq name q)) [
      | inl e ↦
          let same : name ≡ q = (bytes_eq-Decides name q).0 e in
          some_stays (old q) (Some at) (subst (λ (x : List ℕ). is_some (old x) ≡ true) same there) ∙ rw e refl
      | inr e ↦ sym (or_none (old q)) ∙ rw e refl
    ]
