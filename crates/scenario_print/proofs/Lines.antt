-- A line of fields with single spaces between is read as these fields, and a text of such lines as these lines.
use Rattle.std.proofs.Common.{◌≡◌, ◌≢◌, ℕ, suc, ◌+◌, ◌<◌, ◌≤◌, Bool, true, false, eqb, leb, ltb, List, [], ◌∷◌, ◌++◌, length, take, reverse, refl, sym, ap, subst, ◌∙◌, arith}
use Rattle.std.specs.Prelude.{not, ◌&&◌}
use Rattle.std.specs.List.{flat_map, filter, list_all, prefix_len}
use Rattle.std.proofs.lemmas.Bool.{le-leb, lt-ltb, ne_eqb, leb-true, eq-eqb, and_parts}
use Rattle.std.proofs.lemmas.List.{append-nil, reverse-reverse}
use Rattle.std.proofs.lemmas.Grind.{reverse_onto}
use Rattle.text_fields.specs.Lines.{pieces, is_feed, behind_return, without_return, ended, lines, without_comment, are_plain, is_space, is_some, fields}
use Rattle.text_fields.proofs.Cutting.{some_piece}
use Rattle.scenario_print.specs.Texts.{spaced}

-- ---- bytes

-- no byte begins a comment or ends a line, and each is plain
abbrev pub IsClean : List ℕ → Type 0
IsClean [] = Unit {0}
IsClean (b ∷ bytes) = (32 ≤ b) × (b ≤ 126) × (b ≢ 35) × IsClean bytes

-- nor is one a space
unfoldable pub IsInk : List ℕ → Type 0
IsInk [] = Unit {0}
IsInk (b ∷ bytes) = (33 ≤ b) × (b ≤ 126) × (b ≢ 35) × IsInk bytes

abbrev pub is_ink : ℕ → Bool
is_ink b = leb 33 b && (leb b 126 && not (eqb b 35))

pub ink_byte : (b : ℕ) (bytes : List ℕ) → is_ink b ≡ true → IsInk bytes → IsInk (b ∷ bytes)
unfolding IsInk
ink_byte b bytes e h =
    let parts = and_parts (leb 33 b) (leb b 126 && not (eqb b 35)) e in
    let more = and_parts (leb b 126) (not (eqb b 35)) parts.1 in
    (leb-true 33 b parts.0, leb-true b 126 more.0, (λ same. let is = eq-eqb b 35 same in cc), h)

pub ink_from : (bytes : List ℕ) → list_all is_ink bytes ≡ true → IsInk bytes
unfolding IsInk
ink_from [] e = tt
ink_from (b ∷ bytes) e = let parts = and_parts (is_ink b) (list_all is_ink bytes) e in ink_byte b bytes parts.0 (ink_from bytes parts.1)

unfoldable pub AreFields : List (List ℕ) → Type 0
AreFields [] = Unit {0}
AreFields (f ∷ fs) = IsInk f × (0 < length f) × AreFields fs

pub no_ink : IsInk []
unfolding IsInk
no_ink = tt

pub no_fields : AreFields []
unfolding AreFields
no_fields = tt

clean_append : (xs ys : List ℕ) → IsClean xs → IsClean ys → IsClean (xs ++ ys)
clean_append [] ys h k = k
clean_append (x ∷ xs) ys h k = (h.0, h.1, h.2, clean_append xs ys h.3 k)

pub ink_append : (xs ys : List ℕ) → IsInk xs → IsInk ys → IsInk (xs ++ ys)
unfolding IsInk
ink_append [] ys h k = k
ink_append (x ∷ xs) ys h k = (h.0, h.1, h.2, ink_append xs ys h.3 k)

ink_clean : (xs : List ℕ) → IsInk xs → IsClean xs
unfolding IsInk
ink_clean [] h = tt
ink_clean (x ∷ xs) h = (omega (arith, h.0), h.1, h.2, ink_clean xs h.3)

spaced_clean : (fs : List (List ℕ)) → AreFields fs → IsClean (flat_map spaced fs)
unfolding AreFields
spaced_clean [] h = tt
spaced_clean (f ∷ fs) h = (omega arith, omega arith, (λ e. omega (arith, e)), clean_append f (flat_map spaced fs) (ink_clean f h.0) (spaced_clean fs h.2))

pub line_clean : (word : List ℕ) (fs : List (List ℕ)) → IsInk word → AreFields fs → IsClean (word ++ flat_map spaced fs)
line_clean word fs h k = clean_append word (flat_map spaced fs) (ink_clean word h) (spaced_clean fs k)

-- ---- lines

clean_reverse : (xs : List ℕ) → IsClean xs → IsClean (reverse xs)
clean_reverse [] h = tt
clean_reverse (x ∷ xs) h = subst IsClean (sym (reverse_onto xs x [])) (clean_append (reverse xs) (x ∷ []) (clean_reverse xs h.3) (h.0, h.1, h.2, tt))

no_return : (xs : List ℕ) → IsClean xs → behind_return xs ≡ xs
no_return [] h = refl
no_return (b ∷ xs) h = let other : eqb b 13 ≡ false = ne_eqb b 13 (λ e. let low = h.0 in omega arith) in rw other refl

pub whole_line : (l : List ℕ) → IsClean l → without_return l ≡ l
unfolding without_return
whole_line l h = ap reverse (no_return (reverse l) (clean_reverse l h)) ∙ reverse-reverse l

pub fed : (l rest : List ℕ) → IsClean l → pieces is_feed (l ++ (10 ∷ rest)) ≡ l ∷ pieces is_feed rest
unfolding pieces
fed [] rest h = refl
fed (b ∷ l) rest h =
    let other : eqb b 10 ≡ false = ne_eqb b 10 (λ e. let low = h.0 in omega arith) in
    rw (other, fed l rest h.3) refl

-- the first line of a text, and the lines behind it
pub first_line : (l rest : List ℕ) → IsClean l → lines (l ++ (10 ∷ rest)) ≡ l ∷ lines rest
unfolding lines
first_line l rest h =
    let next = some_piece is_feed rest in
    ap ended (fed l rest h) ∙ rw (next.2, whole_line l h) refl

-- ---- fields

spaced_from : (f rest : List ℕ) → IsInk f → pieces is_space (f ++ (32 ∷ rest)) ≡ f ∷ pieces is_space rest
unfolding pieces IsInk
spaced_from [] rest h = refl
spaced_from (b ∷ f) rest h =
    let space : eqb b 32 ≡ false = ne_eqb b 32 (λ e. let low = h.0 in omega arith) in
    let tab : eqb b 9 ≡ false = ne_eqb b 9 (λ e. let low = h.0 in omega arith) in
    rw (space, tab, spaced_from f rest h.3) refl

last_field : (f : List ℕ) → IsInk f → pieces is_space f ≡ f ∷ []
unfolding pieces IsInk
last_field [] h = refl
last_field (b ∷ f) h =
    let space : eqb b 32 ≡ false = ne_eqb b 32 (λ e. let low = h.0 in omega arith) in
    let tab : eqb b 9 ≡ false = ne_eqb b 9 (λ e. let low = h.0 in omega arith) in
    rw (space, tab, last_field f h.3) refl

all_pieces : (word : List ℕ) (fs : List (List ℕ)) → IsInk word → AreFields fs → pieces is_space (word ++ flat_map spaced fs) ≡ word ∷ fs
unfolding AreFields
all_pieces word [] h k = ap (pieces is_space) (append-nil word) ∙ last_field word h
all_pieces word (f ∷ fs) h k = spaced_from word (f ++ flat_map spaced fs) h ∙ ap (λ (x : List (List ℕ)). word ∷ x) (all_pieces f fs k.0 k.2)

none_empty : (fs : List (List ℕ)) → AreFields fs → filter is_some fs ≡ fs
unfolding AreFields
none_empty [] h = refl
none_empty (f ∷ fs) h = let some : ltb 0 (length f) ≡ true = lt-ltb 0 (length f) h.1 in rw (some, none_empty fs h.2) refl

pub all_fields : (word : List ℕ) (fs : List (List ℕ)) → IsInk word → 0 < length word → AreFields fs → fields (word ++ flat_map spaced fs) ≡ word ∷ fs
unfolding fields AreFields
all_fields word fs h some k = ap (filter is_some) (all_pieces word fs h k) ∙ none_empty (word ∷ fs) (h, some, k)

-- ---- comments

no_comment_in : (l : List ℕ) → IsClean l → take (prefix_len (λ b. not (eqb b 35)) l) l ≡ l
no_comment_in [] h = refl
no_comment_in (b ∷ l) h = let other : eqb b 35 ≡ false = ne_eqb b 35 h.2 in
    let one : 1 + prefix_len (λ b. not (eqb b 35)) l ≡ suc (prefix_len (λ b. not (eqb b 35)) l) = omega arith in
    rw (other, one) (ap (λ (x : List ℕ). b ∷ x) (no_comment_in l h.3))

pub no_comment : (l : List ℕ) → IsClean l → without_comment l ≡ l
unfolding without_comment
no_comment l h = no_comment_in l h

pub plain : (l : List ℕ) → IsClean l → are_plain l ≡ true
plain [] h = refl
plain (b ∷ l) h =
    let low : leb 32 b ≡ true = le-leb 32 b h.0 in
    let high : leb b 126 ≡ true = le-leb b 126 h.1 in
    rw (low, high) (plain l h.3)
