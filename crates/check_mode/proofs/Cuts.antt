-- A text cut behind its first line that ends the scenario, a line at a time.
use Rattle.std.proofs.Common.{◌≡◌, ℕ, ◌+◌, ◌-◌, ◌<◌, ◌≤◌, Bool, true, false, cond, List, [], length, take, drop, Some, None, refl, sym, ap, ◌∙◌, arith}
use Rattle.std.specs.List.{position}
use Rattle.std.proofs.lemmas.List.{drop-drop, drop_all, length-take-le, length-drop, take_all}
use Rattle.text_fields.specs.Lines.{pieces, is_feed}
use Rattle.text_fields.proofs.Cutting.{Cut, cut_some, cut_none}
use Rattle.check_mode.specs.Parts.{is_end, bytes_to_end, scenario_part, journal_part}

abbrev to_end : List ℕ → ℕ
to_end text = bytes_to_end (pieces is_feed text)

-- the rest of a text behind lines that don't end the scenario
pub record IsBehind (text rest : List ℕ) : Type 0 where
  pub gone : ℕ
  pub count : gone + length rest ≡ length text
  pub its : rest ≡ drop gone text
  pub ends : bytes_to_end (pieces is_feed text) ≡ gone + bytes_to_end (pieces is_feed rest)

pub all_behind : (text : List ℕ) → IsBehind text text
all_behind text = record { gone = 0; count = omega arith; its = refl; ends = omega arith }

-- the first line of the rest
ends_at : (rest : List ℕ) (at : ℕ) → Some at ≡ position is_feed rest → at < length rest → to_end rest ≡ at + 1 + cond (is_end (take at rest)) 0 (to_end (drop (at + 1) rest))
ends_at rest at found lt =
    let cut : Cut is_feed rest at = cut_some is_feed rest at found lt in
    let short : length (take at rest) ≡ at = length-take-le at rest (omega arith) in
    ap bytes_to_end cut ∙ ap (λ (n : ℕ). n + 1 + cond (is_end (take at rest)) 0 (to_end (drop (at + 1) rest))) short

pub one_more : (text rest : List ℕ) (at : ℕ) → IsBehind text rest → Some at ≡ position is_feed rest → at < length rest → is_end (take at rest) ≡ false → IsBehind text (drop (at + 1) rest)
one_more text rest at so_far found lt other =
    let line : to_end rest ≡ at + 1 + to_end (drop (at + 1) rest) = ends_at rest at found lt ∙ ap (λ (b : Bool). at + 1 + cond b 0 (to_end (drop (at + 1) rest))) other in
    record {
      gone = so_far.gone + (at + 1);
      count = omega (arith, so_far.count, length-drop (at + 1) rest);
      its = ap (λ (bytes : List ℕ). drop (at + 1) bytes) so_far.its ∙ drop-drop (at + 1) so_far.gone text;
      ends = omega (arith, so_far.ends, line);
    }

-- where the line ends the scenario, the first part is as long as what stands before the rest behind it
cut_here : (text rest : List ℕ) (at : ℕ) → IsBehind text rest → Some at ≡ position is_feed rest → at < length rest → is_end (take at rest) ≡ true → to_end text ≡ length text - length (drop (at + 1) rest)
cut_here text rest at so_far found lt ends =
    let line : to_end rest ≡ at + 1 + 0 = ends_at rest at found lt ∙ ap (λ (b : Bool). at + 1 + cond b 0 (to_end (drop (at + 1) rest))) ends in
    omega (arith, so_far.ends, so_far.count, line, length-drop (at + 1) rest)

pub scenario_before : (text rest : List ℕ) (at : ℕ) → IsBehind text rest → Some at ≡ position is_feed rest → at < length rest → is_end (take at rest) ≡ true → take (length text - length (drop (at + 1) rest)) text ≡ scenario_part text
unfolding scenario_part
scenario_before text rest at so_far found lt ends = ap (λ (n : ℕ). take n text) (sym (cut_here text rest at so_far found lt ends))

pub journal_behind : (text rest : List ℕ) (at : ℕ) → IsBehind text rest → Some at ≡ position is_feed rest → at < length rest → is_end (take at rest) ≡ true → drop (length text - length (drop (at + 1) rest)) text ≡ journal_part text
unfolding journal_part
journal_behind text rest at so_far found lt ends = ap (λ (n : ℕ). drop n text) (sym (cut_here text rest at so_far found lt ends))

-- where no line ends it, the first part is all
past_all : (text rest : List ℕ) → IsBehind text rest → None ≡ position is_feed rest → length text ≤ to_end text
past_all text rest so_far none =
    let last : to_end rest ≡ length rest + 1 + cond (is_end rest) 0 0 = ap bytes_to_end (cut_none is_feed rest none) in
    omega (arith, so_far.ends, so_far.count, last)

pub all_scenario : (text rest : List ℕ) → IsBehind text rest → None ≡ position is_feed rest → text ≡ scenario_part text
unfolding scenario_part
all_scenario text rest so_far none = sym (take_all (to_end text) text (past_all text rest so_far none))

pub no_journal : (text rest : List ℕ) → IsBehind text rest → None ≡ position is_feed rest → [] ≡ journal_part text
unfolding journal_part
no_journal text rest so_far none = sym (drop_all (to_end text) text (past_all text rest so_far none))
