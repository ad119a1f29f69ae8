-- The words of a block, one line after another.
use Rattle.std.proofs.Common.{◌≡◌, ℕ, ◌+◌, ◌≤◌, List, [], ◌∷◌, ◌++◌, length, map, Result, Ok, Err, refl, sym, ap, subst, ◌∙◌, append_assoc, arith, inl, inr, ◌⊎◌}
use mathlib.Core.Path.{fun_ext}
use Rattle.std.proofs.lemmas.List.{append-nil}
use Rattle.rv32_asm.specs.declared.fault.AsmFault.{AsmFault}
use Rattle.rv32_asm.specs.declared.fault.AsmFault.TheVariants.{NoMemory}
use Rattle.rv32_asm.specs.declared.labels.Mark.{Mark}
use Rattle.rv32_asm.specs.Line.{Line, line_of}
use Rattle.rv32_asm.specs.Block.{◌>>-◌, Marks, lines, spelt, start, behind, line_words, words_from, with_front, block, first_mark, Answers}
use Rattle.rv32_asm.proofs.Marks.{word_bound, line_is}

-- what is there already, and what the lines that are left will add
pub record Stands (block : List ℕ) (room : ℕ) (marks : Marks) (words : List ℕ) (at : Mark) (rest : List ℕ) : Type 0 where
  pub meant : with_front words (words_from room marks at (spelt rest)) ≡ words_from room marks start (spelt block)
  pub lines : at.line + length rest ≤ length block
  pub words_fit : at.word ≤ at.line

with_none : (r : Result (List ℕ) AsmFault) → with_front [] r ≡ r
with_none (Ok ws) = refl
with_none (Err e) = refl

abbrev done : List ℕ → Result (List ℕ) AsmFault
done ws = Ok ws

ok_is : (x y : List ℕ) → done x ≡ done y → x ≡ y
ok_is x y e = cc

joined : (front new : List ℕ) (r rest : Result (List ℕ) AsmFault) → with_front front r ≡ done new → with_front front (r >>- λ ws. rest >>- λ more. Ok (ws ++ more)) ≡ with_front new rest
joined front new (Ok ws) (Ok more) e = ap (λ (x : List ℕ). done x) (sym (append_assoc front ws more) ∙ ap (λ (x : List ℕ). x ++ more) (ok_is (front ++ ws) new e))
joined front new (Ok ws) (Err f) e = refl
joined front new (Err f) rest e = absurd cc

one_more : (room : ℕ) (marks : Marks) (at : Mark) (l : Line) (ls : List Line) (front new : List ℕ) → with_front front (line_words room marks at l) ≡ done new → with_front front (words_from room marks at (l ∷ ls)) ≡ with_front new (words_from room marks (behind at l) ls)
unfolding words_from
one_more room marks at l ls front new e = joined front new (line_words room marks at l) (words_from room marks (behind at l) ls) e

pub stands_more : (block : List ℕ) (room : ℕ) (marks : Marks) (front new : List ℕ) (at next : Mark) (rest line more : List ℕ) → Stands block room marks front at rest
    → lines rest ≡ line ∷ lines more → length more + 1 ≤ length rest → next ≡ behind at (line_of line)
    → with_front front (line_words room marks at (line_of line)) ≡ Ok new
    → Stands block room marks new next more
stands_more block room marks front new at next rest line more s first shorter is added =
    let l = line_of line in
    let all : spelt rest ≡ l ∷ spelt more = ap (map line_of) first in
    let meant : with_front new (words_from room marks (behind at l) (spelt more)) ≡ words_from room marks start (spelt block) =
    sym (one_more room marks at l (spelt more) front new added) ∙ ap (λ (xs : List Line). with_front front (words_from room marks at xs)) (sym all) ∙ s.meant in
    let made : Stands block room marks new (behind at l) more = record { meant = meant; lines = omega (arith, line_is at l, s.lines, shorter); words_fit = word_bound at l s.words_fit } in
    subst (λ (x : Mark). Stands block room marks new x more) (sym is) made

-- the fault of a line is that of the block
pub stands_fails : (block : List ℕ) (room : ℕ) (marks : Marks) (front : List ℕ) (at : Mark) (rest line more : List ℕ) (e : AsmFault) → Stands block room marks front at rest
    → lines rest ≡ line ∷ lines more → (e ≡ NoMemory) ⊎ (line_words room marks at (line_of line) ≡ Err e)
    → (e ≡ NoMemory) ⊎ (words_from room marks start (spelt block) ≡ Err e)
unfolding words_from
stands_fails block room marks front at rest line more e s first (inl none) = inl none
stands_fails block room marks front at rest line more e s first (inr failed) =
    let all : spelt rest ≡ line_of line ∷ spelt more = ap (map line_of) first in
    let here : with_front front (words_from room marks at (line_of line ∷ spelt more)) ≡ Err e = rw failed refl in
    inr (sym s.meant ∙ ap (λ (xs : List Line). with_front front (words_from room marks at xs)) all ∙ here)

pub stands_all : (block : List ℕ) (room : ℕ) (marks : Marks) (words : List ℕ) (at : Mark) (rest : List ℕ) → Stands block room marks words at rest → rest ≡ [] → words_from room marks start (spelt block) ≡ Ok words
unfolding lines words_from
stands_all block room marks words at rest s none =
    let left : with_front words (Ok []) ≡ words_from room marks start (spelt block) = subst (λ (x : List ℕ). with_front words (words_from room marks at (spelt x)) ≡ words_from room marks start (spelt block)) none s.meant in
    sym left ∙ ap (λ (x : List ℕ). done x) (append-nil words)

pub stands_none : (block : List ℕ) (room : ℕ) (marks : Marks) (words : List ℕ) (at : Mark) → at ≡ start → words ≡ [] → Stands block room marks words at block
stands_none block room marks words at is none =
    let made : Stands block room marks [] start block = record { meant = with_none (words_from room marks start (spelt block)); lines = omega arith; words_fit = omega arith } in
    subst (λ (x : Mark). Stands block room marks words x block) (sym is) (subst (λ (x : List ℕ). Stands block room marks x start block) (sym none) made)

-- where the map says of each label what the block does, the words are the block's
pub whole : {A : Type 0} (view : A → List ℕ) (result : Result A AsmFault) (room : ℕ) (bytes text : List ℕ) (marks : Marks) → bytes ≡ text
    → ((q : List ℕ) → marks q ≡ first_mark start (spelt bytes) q)
    → Answers view result (words_from room marks start (spelt bytes)) → Answers view result (block room text)
unfolding block
whole view result room bytes text marks same found h =
    let known : marks ≡ first_mark start (spelt bytes) = fun_ext found in
    let meant : words_from room marks start (spelt bytes) ≡ block room text =
    ap (λ (m : Marks). words_from room m start (spelt bytes)) known ∙ ap (λ (b : List ℕ). words_from room (first_mark start (spelt b)) start (spelt b)) same in
    subst (λ (m : Result (List ℕ) AsmFault). Answers view result m) meant h
