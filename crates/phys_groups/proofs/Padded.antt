-- Bytes that were written, with zeros behind them.
use Rattle.std.proofs.Common.{◌≡◌, ℕ, ◌+◌, ◌-◌, ◌*◌, ◌%◌, ◌^◌, ◌<◌, ◌≤◌, List, [], ◌∷◌, ◌++◌, length, take, drop, replicate, set, refl, ap, subst, ◌∙◌, sym, arith, append_assoc, length-append, length-drop, length-set}
use Rattle.std.proofs.lemmas.List.{drop-append-le, drop-drop, drop-replicate, drop_at, length-replicate, replicate-append-replicate, set-append_left, take-append-le, take-replicate}
use Rattle.std.proofs.lemmas.Grind.{common_steps}
use Rattle.cache_ident.specs.declared.names.Frame.{Frame}
use Rattle.phys_groups.specs.Memory.{HasFrame, padded, page_at, page_end, reaching, with_page, word_at, word_bytes, written, IsKept}
use Rattle.phys_groups.proofs.Pages.{length-with_page}

-- zeros that are written where zeros stand change nothing
pub padded-more : (size n : ℕ) (xs : List ℕ) → length xs + n ≤ size → padded size (xs ++ replicate n 0) ≡ padded size xs
padded-more size n xs within =
    let zeros : n + (size - (length xs + n)) ≡ size - length xs = omega arith in
    rw (length-append, length-replicate, append_assoc, replicate-append-replicate, zeros) refl

-- memory has its size
pub length-padded : (size : ℕ) (xs : List ℕ) → length xs ≤ size → length (padded size xs) ≡ size
length-padded size xs within = rw (length-append, length-replicate) (omega arith)

-- a byte that is written over is written in memory
pub padded-set : (size : ℕ) (xs : List ℕ) (i b : ℕ) → i < length xs → padded size (set xs i b) ≡ set (padded size xs) i b
padded-set size xs i b within = rw (length-set, set-append_left) refl

-- a page of the bytes that were written is one of memory
pub page_at-padded : (size : ℕ) (xs : List ℕ) (frame : Frame) → HasFrame xs frame → page_at (padded size xs) frame ≡ page_at xs frame
page_at-padded size xs frame within =
    let starts : 4096 * frame.0 ≤ length xs = omega arith in
    let enough : 4096 ≤ length (drop (4096 * frame.0) xs) = rw length-drop (omega arith) in
    rw (drop-append-le (4096 * frame.0) xs (replicate (size - length xs) 0) starts, take-append-le 4096 (drop (4096 * frame.0) xs) (replicate (size - length xs) 0) enough) refl

-- a page behind them is zeros
pub page_at-zeros : (size : ℕ) (xs : List ℕ) (frame : Frame) → length xs ≤ 4096 * frame.0 → 4096 * frame.0 + 4096 ≤ size → page_at (padded size xs) frame ≡ replicate 4096 0
page_at-zeros size xs frame behind within =
    let place : length xs + (4096 * frame.0 - length xs) ≡ 4096 * frame.0 = omega arith in
    let zeros : List ℕ = replicate (size - length xs) 0 in
    let rest : drop (4096 * frame.0) (xs ++ zeros) ≡ replicate (size - length xs - (4096 * frame.0 - length xs)) 0 =
    subst (λ n. drop n (xs ++ zeros) ≡ replicate (size - length xs - (4096 * frame.0 - length xs)) 0) place
    (sym (drop-drop (4096 * frame.0 - length xs) (length xs) (xs ++ zeros)) ∙ ap (drop (4096 * frame.0 - length xs)) (drop_at xs zeros (length xs) refl) ∙ drop-replicate (4096 * frame.0 - length xs) (size - length xs) 0) in
    ap (take 4096) rest ∙ take-replicate 4096 (size - length xs - (4096 * frame.0 - length xs)) 0 (omega arith)

-- a page that is written over is written in memory
pub padded-with_page : (size : ℕ) (xs : List ℕ) (frame : Frame) (page : List ℕ) → HasFrame xs frame → length page ≡ 4096 → padded size (with_page xs frame page) ≡ with_page (padded size xs) frame page
padded-with_page size xs frame page within whole =
    let zeros : List ℕ = replicate (size - length xs) 0 in
    let starts : 4096 * frame.0 ≤ length xs = omega arith in
    rw (length-with_page xs frame page within whole, take-append-le (4096 * frame.0) xs zeros starts, drop-append-le (4096 * frame.0 + 4096) xs zeros within) (append_assoc (take (4096 * frame.0) xs ++ page) (drop (4096 * frame.0 + 4096) xs) zeros)

-- what was written as four bytes is read as one number
pub word_at-written : (xs : List ℕ) (at v : ℕ) → at + 4 ≤ length xs → v < 2 ^ 32 → word_at (written xs at (word_bytes v)) at ≡ v
word_at-written xs at v within fits = grind (arith, common_steps)

-- A store makes the bytes reach over the page of its place, and writes there.
module _ {size capacity : ℕ} {xs ys memory : List ℕ} (at : ℕ) (kept : IsKept size capacity xs) (view : padded size xs ≡ memory) (within : at < length memory) (reached : ys ≡ reaching at xs) where
  at-within : at < size
  at-within = omega (arith, length-padded size xs kept.within, ap length view)

  page_end-within : page_end at ≤ size
  page_end-within = let groups = kept.groups in let below = at-within in omega arith

  -- four bytes from a place on that is divisible by 4 are in memory
  pub word-within : at % 4 ≡ 0 → at + 4 ≤ length memory
  word-within aligned =
      let groups = kept.groups in
      let below = at-within in
      omega (arith, length-padded size xs kept.within, ap length view)

  -- the bytes that were written reach over the page of the place
  pub reached-page : page_end at ≤ length ys
  reached-page = rw (reached, length-append, length-replicate) (omega arith)

  -- memory is what it was
  pub reached-same : padded size ys ≡ memory
  reached-same =
      let pages = kept.pages in
      let end = page_end-within in
      ap (padded size) reached ∙ padded-more size (page_end at - length xs) xs (omega (arith, kept.within)) ∙ view

  -- a page at the place is written over in memory
  pub reached-frame : (frame : Frame) (page : List ℕ) → at ≡ 4096 * frame.0 → length page ≡ 4096 → padded size (with_page ys frame page) ≡ with_page memory frame page
  reached-frame frame page starts whole =
      let reach = reached-page in
      padded-with_page size ys frame page (omega arith) whole ∙ ap (λ (zs : List ℕ). with_page zs frame page) reached-same

  -- a byte at the place is written in memory
  pub reached-byte : (a : ℕ) → padded size (set ys at a) ≡ set memory at a
  reached-byte a = let page = reached-page in padded-set size ys at a (omega arith) ∙ ap (λ (zs : List ℕ). set zs at a) reached-same

  -- and so are the two from an even place on
  pub reached-half : (a b : ℕ) → at % 2 ≡ 0 → padded size (set (set ys at a) (at + 1) b) ≡ written memory at (a ∷ b ∷ [])
  reached-half a b even =
      let page = reached-page in
      padded-set size (set ys at a) (at + 1) b (rw length-set (omega arith)) ∙ ap (λ (zs : List ℕ). set zs (at + 1) b) (reached-byte a)

  -- and the four from a place on that is divisible by 4
  pub reached-word : (a b c d : ℕ) → at % 4 ≡ 0 → padded size (set (set (set (set ys at a) (at + 1) b) (at + 2) c) (at + 3) d) ≡ written memory at (a ∷ b ∷ c ∷ d ∷ [])
  reached-word a b c d aligned =
      let page = reached-page in
      let two : at + 1 + 1 ≡ at + 2 = omega arith in
      let next : at + 2 + 1 ≡ at + 3 = omega arith in
      rw (two, next) (
      padded-set size (set (set (set ys at a) (at + 1) b) (at + 2) c) (at + 3) d (rw (length-set, length-set, length-set) (omega arith))
      ∙ ap (λ (zs : List ℕ). set zs (at + 3) d) (
      padded-set size (set (set ys at a) (at + 1) b) (at + 2) c (rw (length-set, length-set) (omega arith))
      ∙ ap (λ (zs : List ℕ). set zs (at + 2) c) (reached-half a b (omega arith))
      )
      )
