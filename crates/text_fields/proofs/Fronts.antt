-- The first line of a text, and the first field of a line.
use Rattle.std.proofs.Common.{◌≡◌, ℕ, zero, suc, ◌+◌, ◌<◌, ◌≤◌, true, false, eqb, List, [], ◌∷◌, length, take, drop, Some, None, refl, sym, ap, subst, ◌∙◌, arith, inl, inr}
use Rattle.std.specs.List.{position, position_or_len, filter}
use Rattle.std.proofs.lemmas.Bool.{cases_Bool, lt-ltb}
use Rattle.std.proofs.lemmas.List.{length-take-le, nil_from_length}
use Rattle.text_fields.specs.Reading.{first_of}
use Rattle.text_fields.specs.Lines.{pieces, is_feed, without_return, ended, lines, is_space, is_some, fields, skip_spaces}
use Rattle.text_fields.proofs.Cutting.{Cut, cut_some, cut_none, place_of, some_piece}

ended_more : (line : List ℕ) (ls : List (List ℕ)) (next : List ℕ) (more : List (List ℕ)) → ls ≡ next ∷ more → ended (line ∷ ls) ≡ without_return line ∷ ended ls
ended_more line ls next more e = rw e refl

pub first_ended : (text : List ℕ) (at : ℕ) (before behind line : List ℕ) → Some at ≡ position (λ b. eqb b 10) text → at < length text → before ≡ take at text → behind ≡ drop (at + 1) text → line ≡ without_return before → lines text ≡ line ∷ lines behind
unfolding lines
first_ended text at before behind line e h front rest is =
    let cut : Cut is_feed text at = cut_some is_feed text at e h in
    let some = some_piece is_feed (drop (at + 1) text) in
    ap ended cut ∙ ended_more (take at text) (pieces is_feed (drop (at + 1) text)) some.0 some.1 some.2 ∙ sym (rw (is, front, rest) refl)

pub first_last : (text : List ℕ) → None ≡ position (λ b. eqb b 10) text → lines text ≡ text ∷ []
unfolding lines
first_last text e = ap ended (cut_none is_feed text e)

-- ---- fields

fields_space : (b : ℕ) (bytes : List ℕ) → is_space b ≡ true → fields (b ∷ bytes) ≡ fields bytes
unfolding fields pieces
fields_space b bytes e = rw e refl

-- the bytes don't begin with a space
abbrev pub Begins : List ℕ → Type 0
Begins [] = Unit {0}
Begins (b ∷ bytes) = is_space b ≡ false

record Skipped (bytes rest : List ℕ) : Type 0 where
  same : fields rest ≡ fields bytes
  begins : Begins rest
  no_longer : length rest ≤ length bytes

skipped : (bytes : List ℕ) → Skipped bytes (skip_spaces bytes)
unfolding skip_spaces
skipped [] = record { same = refl; begins = tt; no_longer = omega arith }
skipped (b ∷ bytes) =
    let ih = skipped bytes in
    elim (cases_Bool (is_space b)) [
      | inl e ↦ rw e (record { same = ih.same ∙ sym (fields_space b bytes e); begins = ih.begins; no_longer = omega (arith, ih.no_longer) })
      | inr e ↦ rw e (record { same = refl; begins = e; no_longer = omega arith })
    ]

-- what stands before the first space isn't empty
some_front : (bytes : List ℕ) (at : ℕ) → 0 < length bytes → Begins bytes → position_or_len is_space bytes ≡ at → 0 < at
some_front [] at some begins e = absurd (omega (arith, some))
some_front (b ∷ bytes) at some begins e =
    let n = position_or_len is_space bytes in
    let more : position_or_len is_space (b ∷ bytes) ≡ 1 + n = rw begins refl in
    omega (arith, e, more)

filled : (bytes : List ℕ) → 0 < length bytes → is_some bytes ≡ true
filled bytes some = lt-ltb 0 (length bytes) some

pub field_cut : (bytes : List ℕ) (at : ℕ) → 0 < length bytes → Begins bytes → Some at ≡ position is_space bytes → at < length bytes → fields bytes ≡ take at bytes ∷ fields (drop (at + 1) bytes)
unfolding fields
field_cut bytes at some begins e h =
    let pos = some_front bytes at some begins (place_of is_space bytes at e) in
    let long : length (take at bytes) ≡ at = length-take-le at bytes (omega (arith, h)) in
    let t : is_some (take at bytes) ≡ true = filled (take at bytes) (omega (arith, long, pos)) in
    ap (λ (ps : List (List ℕ)). filter is_some ps) (cut_some is_space bytes at e h) ∙ rw t refl

pub field_last : (bytes : List ℕ) → 0 < length bytes → None ≡ position is_space bytes → fields bytes ≡ bytes ∷ []
unfolding fields
field_last bytes some e =
    let t : is_some bytes ≡ true = filled bytes some in
    ap (λ (ps : List (List ℕ)). filter is_some ps) (cut_none is_space bytes e) ∙ rw t refl

along : (bytes rest : List ℕ) → rest ≡ skip_spaces bytes → Skipped bytes rest
along bytes rest e = subst (Skipped bytes) (sym e) (skipped bytes)

fields_none : fields [] ≡ []
unfolding fields pieces
fields_none = refl

pub none_left : (bytes rest : List ℕ) → rest ≡ skip_spaces bytes → length rest ≡ 0 → first_of (fields bytes) ≡ None
none_left bytes rest e none =
    let empty : rest ≡ [] = nil_from_length rest none in
    ap first_of (sym (along bytes rest e).same ∙ ap fields empty ∙ fields_none)

pub divided : (bytes rest : List ℕ) (at : ℕ) (before behind : List ℕ) → rest ≡ skip_spaces bytes → 0 < length rest → Some at ≡ position is_space rest → at < length rest → before ≡ take at rest → behind ≡ drop (at + 1) rest → first_of (fields bytes) ≡ Some (before, fields behind)
divided bytes rest at before behind e some place h front back =
    let s = along bytes rest e in
    ap first_of (sym s.same ∙ field_cut rest at some s.begins place h) ∙ sym (rw (front, back) refl)

pub undivided : (bytes rest : List ℕ) → rest ≡ skip_spaces bytes → 0 < length rest → None ≡ position is_space rest → first_of (fields bytes) ≡ Some (rest, fields [])
undivided bytes rest e some place =
    let s = along bytes rest e in
    ap first_of (sym s.same ∙ field_last rest some place) ∙ sym (rw fields_none refl)

pub shorter : (bytes rest : List ℕ) → rest ≡ skip_spaces bytes → length rest ≤ length bytes
shorter bytes rest e = (along bytes rest e).no_longer

pub some_left : (n : ℕ) → eqb n 0 ≡ false → 0 < n
some_left zero e = absurd cc
some_left (suc n) e = omega arith
