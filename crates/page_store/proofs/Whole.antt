-- Memory is its pages, and a word that is put into a page is put into memory.
use Rattle.std.proofs.Common.{◌≡◌, ℕ, ◌+◌, ◌*◌, ◌/◌, ◌%◌, ◌<◌, ◌≤◌, List, [], ◌∷◌, ◌++◌, length, set, get_or, Option, Some, ap, ap₂, sym, ◌∙◌, arith}
use Rattle.std.proofs.lemmas.Grind.{same_number_lists}
use Rattle.std.proofs.lemmas.List.{drop-set-lt, length-set, take-set-le}
use Rattle.cache_ident.specs.declared.names.Frame.{Frame}
use Rattle.phys_groups.specs.Memory.{page_at, with_page, written, HasFrame}
use Rattle.phys_groups.proofs.Pages.{with_page-page_at}
use Rattle.phys_groups.proofs.PageBytes.{get_or-page_at, page_at-set}
use Rattle.page_store.specs.Kept.{IsUnchanged, Kept, Means}

-- two memories of so many frames with the same pages are one
pub same_memory : (n : ℕ) (a b : List ℕ) → length a ≡ 4096 * n → length b ≡ 4096 * n → ((f : Frame) → f.0 < n → page_at a f ≡ page_at b f) → a ≡ b
same_memory n a b size_a size_b pages = same_number_lists a b (size_a ∙ sym size_b) (λ i within.
    let f : Frame = record { 0 = i / 4096 } in
    let offset : i % 4096 < 4096 = omega arith in
    let low : i / 4096 < n = omega (arith, within, size_a) in
    let at : i ≡ 4096 * (i / 4096) + i % 4096 = omega arith in
    ap (λ (k : ℕ). get_or a k 0) at
    ∙ sym (get_or-page_at a f (i % 4096) 0 offset)
    ∙ ap (λ (p : List ℕ). get_or p (i % 4096) 0) (pages f low)
    ∙ get_or-page_at b f (i % 4096) 0 offset
    ∙ ap (λ (k : ℕ). get_or b k 0) (sym at))

-- once no page differs from the store's, the store holds all
pub all_written : (k : Kept) (held : Option (List ℕ)) (memory : List ℕ) → Means k held memory → ((f : Frame) → IsUnchanged k.slots f) → held ≡ Some memory
all_written k held memory m clean =
    m.told ∙ ap Some (same_memory k.frames m.bytes memory m.store_size m.size (λ f within. m.stored f within (clean f)))

-- a byte of a frame that is written over anyway
with_page-set : (m : List ℕ) (f : Frame) (page : List ℕ) (o b : ℕ) → o < 4096 → with_page (set m (4096 * f.0 + o) b) f page ≡ with_page m f page
with_page-set m f page o b within =
    ap₂ (λ (x y : List ℕ). x ++ page ++ y) (take-set-le (4096 * f.0) m (4096 * f.0 + o) b (omega arith)) (drop-set-lt (4096 * f.0 + 4096) m (4096 * f.0 + o) b (omega (arith, within)))

-- bytes that are put into a page are put into memory
pub put_in_page : (bs : List ℕ) (m : List ℕ) (f : Frame) (o : ℕ) → HasFrame m f → o + length bs ≤ 4096 → with_page m f (written (page_at m f) o bs) ≡ written m (4096 * f.0 + o) bs
put_in_page [] m f o there within = with_page-page_at m f there
put_in_page (b ∷ bs) m f o there within =
    let low : o < 4096 = omega (arith, within) in
    let n = set m (4096 * f.0 + o) b in
    let there_then : HasFrame n f = there_set m f (4096 * f.0 + o) b there in
    let at : 4096 * f.0 + (o + 1) ≡ 4096 * f.0 + o + 1 = omega arith in
    ap (λ (p : List ℕ). with_page m f (written p (o + 1) bs)) (sym (page_at-set m f o b low))
    ∙ sym (with_page-set m f (written (page_at n f) (o + 1) bs) o b low)
    ∙ put_in_page bs n f (o + 1) there_then (omega (arith, within))
    ∙ ap (λ (k : ℕ). written n k bs) at
  where
    there_set : (m : List ℕ) (f : Frame) (i b : ℕ) → HasFrame m f → HasFrame (set m i b) f
    there_set m f i b there = omega (arith, there, length-set m i b)
