-- The bits of words, 64 to each.
use Rattle.std.proofs.Common.{◌≡◌, ◌≢◌, ℕ, ◌+◌, ◌-◌, ◌*◌, ◌/◌, ◌%◌, ◌<◌, ◌≤◌, Bool, true, false, List, length, set, refl, sym, ◌∙◌, ap, subst, inl, inr, arith, get_or, ltb}
use Rattle.std.proofs.lemmas.Bool.{cases_eq, cases_lt, false≢true, ltb-false}
use Rattle.std.proofs.lemmas.List.{get_or_past, get_or-set_other, get_or-set_same}
use Rattle.std.proofs.lemmas.Nat.Bits.{bit_at-zero}
use Rattle.number_set.specs.Bits.{bit_in, has_bit, IsMarked}
use Rattle.number_set.specs.First.{IsFirst}
use Rattle.number_set.proofs.BitLemmas.{is_one, zero_without}

-- a number's bit stands in its word
pub in_word : (words : List ℕ) (number word : ℕ) → get_or words (number / 64) 0 ≡ word → bit_in words number ≡ has_bit word (number % 64)
unfolding bit_in
in_word words number word here = ap (λ w. has_bit w (number % 64)) here

-- words that agree have the same bits
pub same_words : (words others : List ℕ) → ((place : ℕ) → get_or words place 0 ≡ get_or others place 0) → (number : ℕ) → bit_in words number ≡ bit_in others number
same_words words others same number = in_word words number (get_or others (number / 64) 0) (same (number / 64)) ∙ sym (in_word others number _ refl)

-- a word that is zero has no bit
pub none_in_zero : (words : List ℕ) (number : ℕ) → get_or words (number / 64) 0 ≡ 0 → bit_in words number ≡ false
none_in_zero words number zero = in_word words number 0 zero ∙ is_one 0 (number % 64) 0 (bit_at-zero (number % 64))

-- there is none behind the words
pub none_past : (words : List ℕ) (number : ℕ) → length words ≤ number / 64 → bit_in words number ≡ false
none_past words number past = none_in_zero words number (get_or_past words (number / 64) 0 past)

-- a bit that is put
pub put_there : (words : List ℕ) (number word : ℕ) (on : Bool) → number / 64 < length words → has_bit word (number % 64) ≡ on → bit_in (set words (number / 64) word) number ≡ on
put_there words number word on within there = in_word _ number word (get_or-set_same words (number / 64) word 0 within) ∙ there

pub put_others : (words : List ℕ) (number word : ℕ) → number / 64 < length words → ((place : ℕ) → place ≢ number % 64 → has_bit word place ≡ has_bit (get_or words (number / 64) 0) place) → (other : ℕ) → other ≢ number → bit_in (set words (number / 64) word) other ≡ bit_in words other
put_others words number word within others other apart = elim (cases_eq (other / 64) (number / 64)) [
  | inl same ↦
      let here : get_or (set words (number / 64) word) (other / 64) 0 ≡ word = ap (λ at. get_or (set words (number / 64) word) at 0) same ∙ get_or-set_same words (number / 64) word 0 within in
      let apart_in : other % 64 ≢ number % 64 = λ (alike : other % 64 ≡ number % 64). apart (omega (arith, same, alike)) in
      in_word _ other word here ∙ others (other % 64) apart_in ∙ sym (in_word words other _ (ap (λ at. get_or words at 0) same))
  | inr elsewhere ↦ in_word _ other _ (get_or-set_other words (number / 64) (other / 64) word 0 elsewhere) ∙ sym (in_word words other _ refl)
]

-- the first in a word from a number on is the first of all
pub first_here : (words : List ℕ) (from at word : ℕ) → get_or words (from / 64) 0 ≡ word → at < 64 → IsFirst (has_bit word) (from % 64) at → IsFirst (bit_in words) from (64 * (from / 64) + at)
first_here words from at word here within first =
    let number = 64 * (from / 64) + at in
    record {
      from_there = omega (arith, first.from_there);
      in_it = at_number words number (from / 64) at word here within (omega arith) ∙ first.in_it;
      none_before = λ other after before.
          let place = other - 64 * (from / 64) in
          at_number words other (from / 64) place word here (omega (arith, within, before)) (omega (arith, after)) ∙ first.none_before place (omega (arith, after)) (omega (arith, before, after));
    }
  where
    at_number : (words : List ℕ) (number place at word : ℕ) → get_or words place 0 ≡ word → at < 64 → number ≡ 64 * place + at → bit_in words number ≡ has_bit word at
    at_number words number place at word here within is =
        let in_place : number / 64 ≡ place = omega (arith, is, within) in
        let in_it : number % 64 ≡ at = omega (arith, is, within) in
        in_word words number word (ap (λ p. get_or words p 0) in_place ∙ here) ∙ ap (has_bit word) in_it

-- where the word has none from a place on, none of its numbers is
pub none_here : (words : List ℕ) (from word : ℕ) → get_or words (from / 64) 0 ≡ word → ((place : ℕ) → from % 64 ≤ place → has_bit word place ≡ false) → (number : ℕ) → from ≤ number → number / 64 ≡ from / 64 → bit_in words number ≡ false
none_here words from word here none number after same = in_word words number word (ap (λ at. get_or words at 0) same ∙ here) ∙ none (number % 64) (omega (arith, same, after))

-- what was passed over comes before
pub first_longer : (is_in : ℕ → Bool) (start from first : ℕ) → start ≤ from → ((number : ℕ) → start ≤ number → number < from → is_in number ≡ false) → IsFirst is_in from first → IsFirst is_in start first
first_longer is_in start from first after passed is_first = record {
  from_there = omega (arith, after, is_first.from_there);
  in_it = is_first.in_it;
  none_before = λ number reached before. elim (cases_lt number from) [
    | inl sooner ↦ passed number reached sooner
    | inr later ↦ is_first.none_before number later before
  ];
}

-- nor is any of a word that has none
pub passed_more : (words : List ℕ) (start from word : ℕ) → get_or words (from / 64) 0 ≡ word → ((place : ℕ) → from % 64 ≤ place → has_bit word place ≡ false) → ((number : ℕ) → start ≤ number → number < from → bit_in words number ≡ false) → (number : ℕ) → start ≤ number → number < 64 * (from / 64 + 1) → bit_in words number ≡ false
passed_more words start from word here none passed number reached before = elim (cases_lt number from) [
  | inl sooner ↦ passed number reached sooner
  | inr later ↦ none_here words from word here none number later (omega (arith, later, before))
]

-- nor any behind the last
pub passed_all : (words : List ℕ) (start from : ℕ) → length words ≤ from / 64 → ((number : ℕ) → start ≤ number → number < from → bit_in words number ≡ false) → (number : ℕ) → start ≤ number → bit_in words number ≡ false
passed_all words start from past passed number reached = elim (cases_lt number from) [
  | inl sooner ↦ passed number reached sooner
  | inr later ↦ none_past words number (omega (arith, past, later))
]

module _ (words marks : List ℕ) (marked : IsMarked words marks) where
  -- a word that isn't marked is zero
  zero_unmarked : (place : ℕ) → bit_in marks place ≡ false → get_or words place 0 ≡ 0
  zero_unmarked place off =
      let none = ltb-false 0 (get_or words place 0) (sym (marked.at place) ∙ off) in
      omega (arith, none)

  -- a word that is marked isn't zero
  pub marked_full : (place : ℕ) → bit_in marks place ≡ true → get_or words place 0 ≡ 0 → ⊥
  marked_full place on zero = false≢true (sym (ap (ltb 0) zero) ∙ (sym (marked.at place) ∙ on))

  -- and has a one
  pub marked_bit : (place word : ℕ) → bit_in marks place ≡ true → get_or words place 0 ≡ word → ((at : ℕ) → 0 ≤ at → has_bit word at ≡ false) → ⊥
  marked_bit place word on here none = marked_full place on (here ∙ zero_without word none)

  module _ (from : ℕ) (here : (number : ℕ) → from ≤ number → number / 64 ≡ from / 64 → bit_in words number ≡ false) where
    -- where no word behind is marked there is none
    pub none_marked : ((place : ℕ) → from / 64 + 1 ≤ place → bit_in marks place ≡ false) → (number : ℕ) → from ≤ number → bit_in words number ≡ false
    none_marked none number after = elim (cases_lt (from / 64) (number / 64)) [
      | inl later ↦ none_in_zero words number (zero_unmarked (number / 64) (none (number / 64) (omega (arith, later))))
      | inr same ↦ here number after (omega (arith, same, after))
    ]

    -- and else the first is in the first word behind that is marked
    pub first_behind : (place at word : ℕ) → IsFirst (bit_in marks) (from / 64 + 1) place → get_or words place 0 ≡ word → at < 64 → IsFirst (has_bit word) 0 at → IsFirst (bit_in words) from (64 * place + at)
    first_behind place at word is_place there within is_at =
        let start = 64 * place in
        let in_place : start / 64 ≡ place = omega arith in
        let at_start : start % 64 ≡ 0 = omega arith in
        let first = first_here words start at word (ap (λ p. get_or words p 0) in_place ∙ there) within (subst (λ f. IsFirst (has_bit word) f at) (sym at_start) is_at) in
        let is_first = subst (λ p. IsFirst (bit_in words) start (64 * p + at)) in_place first in
        first_longer (bit_in words) from start (64 * place + at) (omega (arith, is_place.from_there)) (λ number after before. elim (cases_lt (from / 64) (number / 64)) [
          | inl later ↦ none_in_zero words number (zero_unmarked (number / 64) (is_place.none_before (number / 64) (omega (arith, later)) (omega (arith, before))))
          | inr same ↦ here number after (omega (arith, same, after))
        ]) is_first
