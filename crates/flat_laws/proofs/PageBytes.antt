-- The bytes of a page, one by one: where they stand in memory, and what a page written over a frame leaves.
use Rattle.std.proofs.Common.{◌≡◌, ◌≢◌, ℕ, ◌+◌, ◌-◌, ◌*◌, ◌/◌, ◌%◌, min, List, ◌++◌, length, get_or, take, drop, ap, sym, ◌∙◌, inl, inr, arith, length-append, length-drop, length-take, get_or-take, get_or-drop}
use Rattle.std.proofs.lemmas.List.{get_or_append_left, get_or-append_right, get_or_past}
use Rattle.std.proofs.lemmas.Bool.{cases_lt}
use Rattle.cache_ident.specs.declared.names.Frame.{Frame}
use Rattle.phys_groups.specs.Memory.{page_at, with_page}
use Rattle.phys_groups.proofs.PageBytes.{get_or-page_at}

-- a page is as long as memory lets it be, also of a frame that isn't in memory
pub length-page_at : (bytes : List ℕ) (frame : Frame) → length (page_at bytes frame) ≡ min 4096 (length bytes - 4096 * frame.0)
length-page_at bytes frame = length-take 4096 (drop (4096 * frame.0) bytes) ∙ ap (min 4096) (length-drop (4096 * frame.0) bytes)

-- a byte of memory in its page
pub page_byte : (bytes : List ℕ) (frame : Frame) (place : ℕ) → place / 4096 ≡ frame.0 → get_or (page_at bytes frame) (place % 4096) 0 ≡ get_or bytes place 0
page_byte bytes frame place e = get_or-page_at bytes frame (place % 4096) 0 (omega arith) ∙ ap (λ k. get_or bytes k 0) (omega arith)

module _ (bytes : List ℕ) (frame : Frame) (page : List ℕ) (whole : length page ≡ length (page_at bytes frame)) where
  page_size : length page ≡ min 4096 (length bytes - 4096 * frame.0)
  page_size = whole ∙ length-page_at bytes frame

  before_size : length (take (4096 * frame.0) bytes) ≡ min (4096 * frame.0) (length bytes)
  before_size = length-take (4096 * frame.0) bytes

  front_size : length (take (4096 * frame.0) bytes ++ page) ≡ min (4096 * frame.0) (length bytes) + min 4096 (length bytes - 4096 * frame.0)
  front_size = omega (arith, length-append (take (4096 * frame.0) bytes) page, before_size, page_size)

  -- memory keeps its size
  pub length-with_page : length (with_page bytes frame page) ≡ length bytes
  length-with_page = omega (arith, length-append (take (4096 * frame.0) bytes ++ page) (drop (4096 * frame.0 + 4096) bytes), front_size, length-drop (4096 * frame.0 + 4096) bytes)

  -- a byte of the frame is that of the page
  pub with_page_here : (place : ℕ) → place / 4096 ≡ frame.0 → get_or (with_page bytes frame page) place 0 ≡ get_or page (place % 4096) 0
  with_page_here place e = elim (cases_lt place (length bytes)) [
    | inl within ↦
        get_or_append_left (take (4096 * frame.0) bytes ++ page) (drop (4096 * frame.0 + 4096) bytes) 0 place (omega (arith, front_size))
        ∙ get_or-append_right (take (4096 * frame.0) bytes) page (4096 * frame.0) place 0 (omega (arith, before_size)) (omega arith)
        ∙ ap (λ j. get_or page j 0) (omega arith)
    | inr past ↦
        get_or_past (with_page bytes frame page) place 0 (omega (arith, length-with_page))
        ∙ sym (get_or_past page (place % 4096) 0 (omega (arith, page_size)))
  ]

  -- each other byte stays
  pub with_page_elsewhere : (place : ℕ) → place / 4096 ≢ frame.0 → get_or (with_page bytes frame page) place 0 ≡ get_or bytes place 0
  with_page_elsewhere place other = elim (cases_lt place (length bytes)) [
    | inl within ↦ elim (cases_lt place (4096 * frame.0)) [
      | inl before ↦
          get_or_append_left (take (4096 * frame.0) bytes ++ page) (drop (4096 * frame.0 + 4096) bytes) 0 place (omega (arith, front_size))
          ∙ get_or_append_left (take (4096 * frame.0) bytes) page 0 place (omega (arith, before_size))
          ∙ get_or-take (4096 * frame.0) bytes place 0 before
      | inr behind ↦
          get_or-append_right (take (4096 * frame.0) bytes ++ page) (drop (4096 * frame.0 + 4096) bytes) (4096 * frame.0 + 4096) place 0 (omega (arith, front_size)) (omega arith)
          ∙ get_or-drop (4096 * frame.0 + 4096) bytes (place - (4096 * frame.0 + 4096)) 0
          ∙ ap (λ k. get_or bytes k 0) (omega arith)
    ]
    | inr past ↦
        get_or_past (with_page bytes frame page) place 0 (omega (arith, length-with_page))
        ∙ sym (get_or_past bytes place 0 past)
  ]
