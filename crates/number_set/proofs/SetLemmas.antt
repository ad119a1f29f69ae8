-- What the words of a set show, and what changes keep of them.
use Rattle.std.proofs.Common.{◌≡◌, ◌≢◌, ℕ, ◌+◌, ◌*◌, ◌/◌, ◌^◌, ◌<◌, ◌≤◌, Bool, false, List, [], ◌∷◌, ◌++◌, length, set, get_or, sym, ◌∙◌, ap, inl, inr, arith, max, not, eqb, ltb, Result, Ok, Err}
use Rattle.std.specs.Prelude.{OnErr, OnOk}
use Rattle.std.proofs.lemmas.Bool.{cases_eq, cases_lt, lt-ltb, ne_eqb}
use Rattle.std.proofs.lemmas.List.{ext_get_or, get_or_past, get_or-set_other, get_or-set_same, length-set, set_at}
use Rattle.std.proofs.lemmas.List.FromFn.{get_or-map-range_with_len, length-map-range_with_len, map-range_with_len_more}
use Rattle.number_set.specs.Bits.{bit_in}
use Rattle.number_set.specs.First.{IsFirst}
use Rattle.number_set.specs.Members.{is_in, Members}
use Rattle.number_set.specs.Layout.{flags_in, IsSound}
use Rattle.number_set.proofs.WordLemmas.{none_past, same_words}

-- what is shown is the flags and the room
pub same_shown : (flags others : List Bool) (room other : ℕ) → flags ≡ others → room ≡ other → ◌≡◌ {A = Members} (record { flags = flags; room = room }) (record { flags = others; room = other })
same_shown flags others room other same as_much = cc

pub flags_len : (len : ℕ) (words : List ℕ) → length (flags_in len words) ≡ len
flags_len len words = length-map-range_with_len (bit_in words) 0 len

flag_below : (len : ℕ) (words : List ℕ) (number : ℕ) → number < len → is_in (flags_in len words) number ≡ bit_in words number
flag_below len words number below = get_or-map-range_with_len (bit_in words) 0 len number number false below (omega arith)

-- a number is in where its bit is one
pub flag_is : (len : ℕ) (words marks : List ℕ) → IsSound len words marks → (number : ℕ) → is_in (flags_in len words) number ≡ bit_in words number
flag_is len words marks sound number = elim (cases_lt number len) [
  | inl below ↦ flag_below len words number below
  | inr past ↦ get_or_past (flags_in len words) number false (omega (arith, flags_len len words, past)) ∙ sym (sound.behind number past)
]

-- words with the same bits show the same flags
pub flags_same : (len : ℕ) (words others : List ℕ) → ((number : ℕ) → bit_in others number ≡ bit_in words number) → flags_in len others ≡ flags_in len words
flags_same len words others same = ext_get_or false _ _ (flags_len len others ∙ sym (flags_len len words)) (λ number within.
    let below : number < len = omega (arith, within, flags_len len others) in
    flag_below len others number below ∙ same number ∙ sym (flag_below len words number below))

-- a bit that is put is the number's flag
pub flags_put : (len : ℕ) (words others : List ℕ) (number : ℕ) (on : Bool) → number < len → bit_in others number ≡ on → ((other : ℕ) → other ≢ number → bit_in others other ≡ bit_in words other) → flags_in len others ≡ set (flags_in len words) number on
flags_put len words others number on inside there rest = ext_get_or false _ _ (flags_len len others ∙ sym (flags_len len words) ∙ sym (length-set (flags_in len words) number on)) (λ at within.
    let below : at < len = omega (arith, within, flags_len len others) in
    elim (cases_eq at number) [
      | inl same ↦ flag_below len others at below ∙ ap (bit_in others) same ∙ there ∙ sym (ap (λ n. get_or (set (flags_in len words) number on) n false) same ∙ get_or-set_same (flags_in len words) number on false (omega (arith, inside, flags_len len words)))
      | inr apart ↦ flag_below len others at below ∙ rest at apart ∙ sym (get_or-set_other (flags_in len words) number at on false apart ∙ flag_below len words at below)
    ])

-- a flag more, put at once
pub flags_pushed : (len : ℕ) (words : List ℕ) (on : Bool) → set (flags_in (len + 1) words) len on ≡ flags_in len words ++ on ∷ []
flags_pushed len words on = ap (λ flags. set flags len on) (map-range_with_len_more (bit_in words) 0 len len (omega arith)) ∙ set_at (flags_in len words) (bit_in words len) [] on len (flags_len len words)

-- nothing in no words
pub sound_empty : (words marks : List ℕ) → words ≡ [] → marks ≡ [] → IsSound 0 words marks
sound_empty words marks no_words no_marks =
    let none = ap length no_words in
    let no_mark = ap length no_marks in
    record {
      within = omega arith;
      small = omega (arith, none);
      behind = λ number after. none_past words number (omega (arith, none));
      marked = record { at = λ place. none_past marks place (omega (arith, no_mark)) ∙ sym (ap (ltb 0) (get_or_past words place 0 (omega (arith, none)))) };
      marks_reach = omega (arith, none);
      marks_small = omega (arith, no_mark);
    }

-- longer words
pub sound_more : (len : ℕ) (words marks others more : List ℕ) → IsSound len words marks → ((place : ℕ) → get_or others place 0 ≡ get_or words place 0) → ((place : ℕ) → get_or more place 0 ≡ get_or marks place 0) → length words ≤ length others → 64 * length others < 2 ^ 32 → length others ≤ 64 * length more → length more < 2 ^ 32 → IsSound len others more
sound_more len words marks others more sound same same_marks longer small reach marks_small = record {
  within = omega (arith, sound.within, longer);
  small = small;
  behind = λ number after. same_words others words same number ∙ sound.behind number after;
  marked = record { at = λ place. same_words more marks same_marks place ∙ sound.marked.at place ∙ sym (ap (ltb 0) (same place)) };
  marks_reach = reach;
  marks_small = marks_small;
}

-- a bit put, and its mark
pub sound_put : (len : ℕ) (words marks others more : List ℕ) (number : ℕ) → IsSound len words marks → number < len → length others ≡ length words → ((other : ℕ) → other ≢ number → bit_in others other ≡ bit_in words other) → ((place : ℕ) → place ≢ number / 64 → get_or others place 0 ≡ get_or words place 0) → length more ≡ length marks → bit_in more (number / 64) ≡ ltb 0 (get_or others (number / 64) 0) → ((other : ℕ) → other ≢ number / 64 → bit_in more other ≡ bit_in marks other) → IsSound len others more
sound_put len words marks others more number sound inside as_long rest rest_words as_long_marks mark rest_marks = record {
  within = omega (arith, sound.within, as_long);
  small = omega (arith, sound.small, as_long);
  behind = λ other after.
      let apart : other ≢ number = λ (same : other ≡ number). absurd (omega (arith, inside, same, after)) in
      rest other apart ∙ sound.behind other after;
  marked = record {
    at = λ place. elim (cases_eq place (number / 64)) [
      | inl same ↦ ap (bit_in more) same ∙ mark ∙ sym (ap (λ at. ltb 0 (get_or others at 0)) same)
      | inr apart ↦ rest_marks place apart ∙ sound.marked.at place ∙ sym (ap (ltb 0) (rest_words place apart))
    ];
  };
  marks_reach = omega (arith, sound.marks_reach, as_long, as_long_marks);
  marks_small = omega (arith, sound.marks_small, as_long_marks);
}

-- the first by bits is the first by flags
pub first_flag : (len : ℕ) (words marks : List ℕ) → IsSound len words marks → (from number : ℕ) → IsFirst (bit_in words) from number → IsFirst (is_in (flags_in len words)) from number
first_flag len words marks sound from number first = record {
  from_there = first.from_there;
  in_it = flag_is len words marks sound number ∙ first.in_it;
  none_before = λ other after before. flag_is len words marks sound other ∙ first.none_before other after before;
}

-- the mark of a word
pub mark_of : (word : ℕ) → not (eqb word 0) ≡ ltb 0 word
mark_of word = elim (cases_eq word 0) [
  | inl zero ↦ ap (λ n. not (eqb n 0)) zero ∙ sym (ap (ltb 0) zero)
  | inr full ↦ ap not (ne_eqb word 0 full) ∙ sym (lt-ltb 0 word (omega (arith, full)))
]

-- how long words are that may have been lengthened
pub lengthened : {T E : Type 0} (r : Result T E) (others words : List ℕ) (len : ℕ) → OnOk r (length others ≡ max (length words) len) → OnErr r (others ≡ words) → (length words ≤ length others) × (length others ≤ max (length words) len)
lengthened (Ok done) others words len as_long same = (omega (arith, as_long), omega (arith, as_long))
lengthened (Err e) others words len as_long same = let kept = ap length same in (omega (arith, kept), omega (arith, kept))
