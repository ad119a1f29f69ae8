-- Lines that are read and done one after another.
use Rattle.std.proofs.Common.{◌≡◌, ℕ, zero, suc, ◌+◌, ◌<◌, true, false, List, [], ◌∷◌, ◌++◌, length, drop, get_or, Option, Some, None, refl, sym, ap, subst, ◌∙◌, append_assoc, append-nil, length-append, drop-cons, arith}
use Rattle.std.specs.Prelude.{◌==◌, codes}
use Rattle.drive_text.specs.declared.lines.Line.{Line}
use Rattle.drive_text.specs.declared.lines.Line.TheVariants.{Operation}
use Rattle.drive_text.specs.Answers.{answer_line}
use Rattle.drive_text.specs.Lines.{line_text, said_text}
use Rattle.drive_text.specs.Ranges.{BeginsWithNoLine}
use Rattle.cache_board.specs.run_journal.specs.declared.entries.Entry.{Entry}
use Rattle.cache_board.specs.board_ops.specs.declared.answers.Answer.{Answer}
use Rattle.cache_board.specs.board_ops.specs.declared.ops.Op.{Op}
use Rattle.cache_board.specs.board_core.specs.Core.{Recorded}
use Rattle.cache_board.specs.Desks.{AreOfTickets, Desktop, IsClear}
use Rattle.cache_board.specs.Drive.{AreAnswered, IsAnswered}
use Rattle.std.specs.Option.{MatchOption}
use Rattle.std.proofs.lemmas.Bool.{false≢true, ne_eqb}
use Rattle.cache_board.proofs.DeskLaws.{clear_is_of_tickets}
use Rattle.v_drive.specs.Lines.{answers_text, EndsAt, IsDone, IsTaken}

-- ---- the lines of answers

pub cut : (xs : List Answer) (i : ℕ) (d : Answer) → i < length xs → drop i xs ≡ get_or xs i d ∷ drop (i + 1) xs
cut xs i d h =
    let e : i + 1 ≡ suc i = omega arith in
    rw e (drop-cons xs i d h)

pub put_more : (out next whole : List ℕ) (xs rest : List Answer) (a : Answer) → out ++ answers_text xs ≡ whole → xs ≡ a ∷ rest → next ≡ out ++ answer_line a → next ++ answers_text rest ≡ whole
put_more out next whole xs rest a so_far is put =
    ap (λ (x : List ℕ). x ++ answers_text rest) put ∙ append_assoc out (answer_line a) (answers_text rest) ∙ (ap (λ (x : List Answer). out ++ answers_text x) (sym is) ∙ so_far)

pub put_all : (out whole : List ℕ) (xs : List Answer) → out ++ answers_text xs ≡ whole → xs ≡ [] → out ≡ whole
put_all out whole xs so_far none = sym (append-nil out) ∙ (ap (λ (x : List Answer). out ++ answers_text x) (sym none) ∙ so_far)

-- ---- an operation

-- one operation has one answer
pub one_answer : (op : Op) (b new : Recorded) (d laid : Desktop) (given : List Answer) → AreAnswered (op ∷ []) b d given new laid → (answer : Answer) × (given ≡ answer ∷ []) × IsAnswered op b d answer new laid
one_answer op b new d laid [] are = absurd are
one_answer op b new d laid (answer ∷ more) (between, lain, one, rest) =
    (answer, ap (λ (xs : List Answer). answer ∷ xs) rest.0, subst (λ (x : Recorded). IsAnswered op b d answer x laid) (sym rest.1) (subst (λ (x : Desktop). IsAnswered op b d answer between x) (sym rest.2) one))

pub operated : (op : Op) (b new : Recorded) (d laid : Desktop) (given items : List Answer) (old out : List ℕ) → AreAnswered (op ∷ []) b d given new laid → items ≡ given → out ≡ old ++ answers_text items
    → (text : List ℕ) × (out ≡ old ++ text) × IsDone (Operation op) b d text new laid
operated op b new d laid given items old out are is put =
    let one = one_answer op b new d laid given are in
    (answer_line one.0, put ∙ ap (λ (xs : List Answer). old ++ answers_text xs) (is ∙ one.1) ∙ ap (λ (x : List ℕ). old ++ x) (append-nil (answer_line one.0)), (one.0, one.2, refl))

-- on a clear desk there is no ticket, and nothing is kept
pub clear_views : (j : List Entry) (d : Desktop) → IsClear d → AreOfTickets j d
clear_views j d clear = clear_is_of_tickets j d clear

-- ---- lines

pub line_long : (line : Line) → 0 < length (line_text line)
unfolding line_text
line_long line = omega (arith, length-append (said_text line) (codes "\n"))

pub shorter : (rest more : List ℕ) (line : Line) → rest ≡ line_text line ++ more → length more < length rest
shorter rest more line is =
    let whole : length rest ≡ length (line_text line) + length more = ap length is ∙ length-append (line_text line) more in
    let long = line_long line in
    omega arith

pub not_empty : (n : ℕ) → (n == 0) ≡ false → 0 < n
not_empty zero e = absurd cc
not_empty (suc n) e = omega arith

ends_more : (fault : Option ℕ) (at : ℕ) (said : List Line) (tail : List ℕ) (line : Line) → EndsAt fault (at + 1) said tail → EndsAt fault at (line ∷ said) tail
ends_more None at said tail line ends = ends
ends_more (Some n) at said tail line ends = (omega (arith, ends.0), ends.1, ends.2)

-- a line more in front
pub with_line : (rest more : List ℕ) (at : ℕ) (fault : Option ℕ) (line : Line) (b mid new : Recorded) (d lain laid : Desktop) (first text : List ℕ)
    → rest ≡ line_text line ++ more → IsDone line b d first mid lain → IsTaken more (at + 1) fault mid lain text new laid → IsTaken rest at fault b d (first ++ text) new laid
with_line rest more at fault line b mid new d lain laid first text is one taken = record {
  said = line ∷ taken.said;
  tail = taken.tail;
  split = is ∙ ap (λ (x : List ℕ). line_text line ++ x) taken.split ∙ sym (append_assoc (line_text line) _ taken.tail);
  done = (first, text, mid, lain, one, taken.done, refl);
  ends = ends_more fault at taken.said taken.tail line taken.ends;
}

-- nothing is taken of what is no line
pub taken_none : (rest : List ℕ) (at : ℕ) (b : Recorded) (d : Desktop) → 0 < length rest → BeginsWithNoLine rest → IsTaken rest at (Some at) b d [] b d
taken_none rest at b d some none = record { said = []; tail = rest; split = refl; done = (refl, refl, refl); ends = (omega arith, some, none) }

pub taken_all : (rest : List ℕ) (at : ℕ) (b : Recorded) (d : Desktop) → rest ≡ [] → IsTaken rest at None b d [] b d
taken_all rest at b d none = record { said = []; tail = rest; split = refl; done = (refl, refl, refl); ends = none }

pub nothing_left : (rest : List ℕ) → (length rest == 0) ≡ true → rest ≡ []
nothing_left [] e = refl
nothing_left (x ∷ xs) e =
    let some : (length (x ∷ xs) == 0) ≡ false = ne_eqb _ _ (λ z. absurd (omega (arith, z))) in
    absurd (false≢true (sym some ∙ e))

pub matched_none : {A : Type 0} (o : Option A) (P : Type 0) (Q : A → Type 0) → o ≡ None → MatchOption o P Q → P
matched_none {A} o P Q is h = subst (λ (x : Option A). MatchOption x P Q) is h

pub matched_some : {A : Type 0} (o : Option A) (a : A) (P : Type 0) (Q : A → Type 0) → o ≡ Some a → MatchOption o P Q → Q a
matched_some {A} o a P Q is h = subst (λ (x : Option A). MatchOption x P Q) is h
