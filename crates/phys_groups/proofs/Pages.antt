-- A page of memory, read out and written over.
use Rattle.std.proofs.Common.{◌≡◌, ◌≢◌, ℕ, ◌+◌, ◌-◌, ◌*◌, ◌≤◌, List, ◌++◌, length, take, drop, refl, sym, ap, ◌∙◌, subst, inl, inr, arith, append_assoc, length-append, length-drop, take-add}
use Rattle.std.proofs.lemmas.List.{drop-append-le, drop-drop, drop-take, drop_at, length-take-le, take-append-drop, take-append-le, take-take, take_at}
use Rattle.std.proofs.lemmas.Bool.{cases_lt}
use Rattle.std.proofs.lemmas.Slice.{drop-append-drop}
use Rattle.cache_ident.specs.declared.names.Frame.{Frame}
use Rattle.phys_groups.specs.Memory.{HasFrame, page_at, with_page}

-- a list is what it holds before one place, between that and another one, and from there on
three_pieces : (from to : ℕ) (xs : List ℕ) → from ≤ to → take from xs ++ take (to - from) (drop from xs) ++ drop to xs ≡ xs
three_pieces from to xs in_order =
    let next : from + (to - from) ≡ to = omega arith in
    ap (λ (e : ℕ). take from xs ++ take (to - from) (drop from xs) ++ drop e xs) (sym next)
    ∙ rw (append_assoc, ← drop-drop (to - from) from xs, take-append-drop (to - from) (drop from xs), take-append-drop from xs) refl

-- five lists in a row, however they are joined
regroup : (a f m d r : List ℕ) → a ++ f ++ (m ++ (d ++ r)) ≡ a ++ (f ++ m ++ d) ++ r
regroup a f m d r = simp append_assoc

module _ (a n : ℕ) (xs : List ℕ) (within : a + n ≤ length xs) where
  -- the part of n from place a on has n elements
  length-part : length (take n (drop a xs)) ≡ n
  length-part = length-take-le n (drop a xs) (rw length-drop (omega arith))

  -- the part before it has a elements
  length_before : length (take a xs) ≡ a
  length_before = length-take-le a xs (omega arith)

  -- to write the part over itself changes nothing
  part_again : take a xs ++ take n (drop a xs) ++ drop (a + n) xs ≡ xs
  part_again = rw (append_assoc, ← drop-drop n a xs, take-append-drop n (drop a xs), take-append-drop a xs) refl

  module _ (ys : List ℕ) (same_length : length ys ≡ n) where
    -- what was written over a part is read from it
    part_over : take n (drop a (take a xs ++ ys ++ drop (a + n) xs)) ≡ ys
    part_over = rw (append_assoc, drop_at (take a xs) _ a length_before, take_at ys _ n same_length) refl

    -- what lies before the part stays
    part_before : (b m : ℕ) → b + m ≤ a → take m (drop b (take a xs ++ ys ++ drop (a + n) xs)) ≡ take m (drop b xs)
    part_before b m before =
        let room : length (drop b (take a xs)) ≡ a - b = rw (length-drop, length_before) refl in
        let reach : drop b (take a xs) ≡ take (a - b) (drop b xs) = subst (λ e. drop b (take e xs) ≡ take (a - b) (drop b xs)) {x = b + (a - b)} (omega arith) (drop-take b (a - b) xs) in
        let enough : m ≤ length (drop b (take a xs)) = omega (arith, room) in
        let starts : b ≤ length (take a xs) = omega (arith, length_before) in
        rw (append_assoc, drop-append-le b (take a xs) (ys ++ drop (a + n) xs) starts, take-append-le m (drop b (take a xs)) (ys ++ drop (a + n) xs) enough, reach) (take-take m (a - b) (drop b xs) (omega arith))

    -- what lies past the part stays
    part_past : (b m : ℕ) → a + n ≤ b → take m (drop b (take a xs ++ ys ++ drop (a + n) xs)) ≡ take m (drop b xs)
    part_past b m past = rw (drop-append-drop (a + n) xs (take a xs ++ ys) b past (rw (length-append, length_before, same_length) refl)) refl

    -- where they are as the part before one place and from another one on, it is enough to write what lies between
    module _ (from to : ℕ) (in_order : from ≤ to) (inside : to ≤ n) (before : take from (take n (drop a xs)) ≡ take from ys) (behind : drop to (take n (drop a xs)) ≡ drop to ys) where
      -- up to the first of the two places it is all as it was
      front_stays : take (a + from) xs ≡ take a xs ++ take from ys
      front_stays = take-add a from xs ∙ ap (λ (zs : List ℕ). take a xs ++ zs) (sym (take-take from n (drop a xs) (omega arith)) ∙ before)

      -- and so it is from the second one on
      back_stays : drop (a + to) xs ≡ drop to ys ++ drop (a + n) xs
      back_stays =
          let enough : to ≤ length (take n (drop a xs)) = rw length-part inside in
          sym (drop-drop to a xs)
          ∙ ap (drop to) (sym (take-append-drop n (drop a xs)))
          ∙ drop-append-le to (take n (drop a xs)) (drop n (drop a xs)) enough
          ∙ rw (behind, drop-drop n a xs) refl

      -- so that the whole is written
      part_between : take (a + from) xs ++ (take (to - from) (drop from ys) ++ drop (a + to) xs) ≡ take a xs ++ ys ++ drop (a + n) xs
      part_between = rw (front_stays, back_stays) (regroup (take a xs) (take from ys) (take (to - from) (drop from ys)) (drop to ys) (drop (a + n) xs) ∙ ap (λ (zs : List ℕ). take a xs ++ zs ++ drop (a + n) xs) (three_pieces from to ys in_order))

-- lists that are alike before one place and from another one on that does not lie behind it are the same
pub same_around : (from to : ℕ) (xs ys : List ℕ) → to ≤ from → take from xs ≡ take from ys → drop to xs ≡ drop to ys → xs ≡ ys
same_around from to xs ys overlap before behind =
    let front : take to xs ≡ take to ys = sym (take-take to from xs overlap) ∙ ap (take to) before ∙ take-take to from ys overlap in
    sym (take-append-drop to xs) ∙ rw (front, behind) (take-append-drop to ys)

-- a page has 4,096 bytes
pub length-page_at : (bytes : List ℕ) (frame : Frame) → HasFrame bytes frame → length (page_at bytes frame) ≡ 4096
length-page_at bytes frame within = length-part (4096 * frame.0) 4096 bytes within

-- memory keeps its size where a page is written over a frame
pub length-with_page : (bytes : List ℕ) (frame : Frame) (page : List ℕ) → HasFrame bytes frame → length page ≡ 4096 → length (with_page bytes frame page) ≡ length bytes
length-with_page bytes frame page within whole = rw (length-append, length-append, length-take-le (4096 * frame.0) bytes (omega arith), whole, length-drop) (omega arith)

-- a page that was written over a frame is read from it
pub page_at-with_page : (bytes : List ℕ) (frame : Frame) (page : List ℕ) → HasFrame bytes frame → length page ≡ 4096 → page_at (with_page bytes frame page) frame ≡ page
page_at-with_page bytes frame page within whole = part_over (4096 * frame.0) 4096 bytes within page whole

-- a frame that is written over by its own page stays
pub with_page-page_at : (bytes : List ℕ) (frame : Frame) → HasFrame bytes frame → with_page bytes frame (page_at bytes frame) ≡ bytes
with_page-page_at bytes frame within = part_again (4096 * frame.0) 4096 bytes within

-- the other frames stay
pub page_at-with_page_other : (bytes : List ℕ) (frame : Frame) (page : List ℕ) (f : Frame) → HasFrame bytes frame → length page ≡ 4096 → f.0 ≢ frame.0 → page_at (with_page bytes frame page) f ≡ page_at bytes f
page_at-with_page_other bytes frame page f within whole other = elim (cases_lt f.0 frame.0) [
  | inl below ↦ part_before (4096 * frame.0) 4096 bytes within page whole (4096 * f.0) 4096 (omega arith)
  | inr above ↦ part_past (4096 * frame.0) 4096 bytes within page whole (4096 * f.0) 4096 (omega arith)
]

-- of a page that a frame has already before one place and from another one on, it is enough to write what lies between
pub with_page-between : (bytes : List ℕ) (frame : Frame) (page : List ℕ) (from to : ℕ) → HasFrame bytes frame → length page ≡ 4096 → from ≤ to → to ≤ 4096 → take from (page_at bytes frame) ≡ take from page → drop to (page_at bytes frame) ≡ drop to page → take (4096 * frame.0 + from) bytes ++ (take (to - from) (drop from page) ++ drop (4096 * frame.0 + to) bytes) ≡ with_page bytes frame page
with_page-between bytes frame page from to within whole in_order inside before behind = part_between (4096 * frame.0) 4096 bytes within page whole from to in_order inside before behind
