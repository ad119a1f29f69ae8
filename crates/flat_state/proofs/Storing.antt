-- A store in memory is a store in the pages of its frame.
use Rattle.std.proofs.Common.{◌≡◌, ◌≢◌, ℕ, zero, suc, ◌+◌, ◌*◌, ◌/◌, ◌%◌, ◌≤◌, Bool, List, [], ◌∷◌, length, map, set, get_or, Some, None, refl, sym, ◌∙◌, ap, subst, inl, inr, arith}
use Rattle.std.specs.List.{filter}
use Rattle.std.specs.Option.{option_map}
use Rattle.std.proofs.lemmas.Bool.{cases_eq, eq-eqb, ne_eqb}
use Rattle.std.proofs.lemmas.List.{length-set}
use Rattle.cache_ident.specs.declared.names.Frame.{Frame}
use Rattle.cache_ident.specs.declared.names.SpaceNo.{SpaceNo}
use Rattle.phys_groups.specs.declared.rows.Row.{Row}
use Rattle.phys_groups.specs.Memory.{half_bytes, page_at, word_bytes, written}
use Rattle.phys_groups.specs.Translation.{place_in, translated}
use Rattle.phys_groups.proofs.PageBytes.{get_or-page_at, page_at-set, page_at-set_other}
use Rattle.rv32_exec.specs.declared.statuses.Access.{Access}
use Rattle.rv32_exec.specs.declared.statuses.Access.TheVariants.{Write}
use Rattle.rv32_exec.specs.declared.spaces.Width.{Width}
use Rattle.rv32_exec.specs.declared.spaces.Width.TheVariants.{Byte, Half, Word}
use Rattle.rv32_exec.specs.Pages.{number_at, put_bytes, put_in_frame, read_through, size_of, stored, stored_through}
use Rattle.flat_state.specs.Translation.{row_through, wants}
use Rattle.flat_state.specs.Pages.{is_in, page_of, pages_in}
use Rattle.flat_state.proofs.Translating.{translation-pages}

-- an aligned access ends in its page
pub fits : (width : Width) (va : ℕ) → va % size_of width ≡ 0 → va % 4096 + size_of width ≤ 4096
fits Byte va aligned = omega arith
fits Half va aligned = omega arith
fits Word va aligned = omega arith

-- bytes that are put in memory are put in their page
pub page_at-put_bytes : (n : ℕ) (m : List ℕ) (f : Frame) (o v : ℕ) → o + n ≤ 4096 → page_at (put_bytes n m (4096 * f.0 + o) v) f ≡ put_bytes n (page_at m f) o v
page_at-put_bytes zero m f o v within = refl
page_at-put_bytes (suc n) m f o v within =
    subst (λ i. page_at (put_bytes n (set m (4096 * f.0 + o) (v % 256)) i (v / 256)) f ≡ put_bytes (suc n) (page_at m f) o v) {x = 4096 * f.0 + (o + 1)} (omega arith) (page_at-put_bytes n (set m (4096 * f.0 + o) (v % 256)) f (o + 1) (v / 256) (omega arith) ∙ ap (λ page. put_bytes n page (o + 1) (v / 256)) (page_at-set m f o (v % 256) (omega arith)))

-- and the pages of other frames stay
pub page_at-put_bytes_other : (n : ℕ) (m : List ℕ) (f g : Frame) (o v : ℕ) → o + n ≤ 4096 → g.0 ≢ f.0 → page_at (put_bytes n m (4096 * f.0 + o) v) g ≡ page_at m g
page_at-put_bytes_other zero m f g o v within other = refl
page_at-put_bytes_other (suc n) m f g o v within other =
    subst (λ i. page_at (put_bytes n (set m (4096 * f.0 + o) (v % 256)) i (v / 256)) g ≡ page_at m g) {x = 4096 * f.0 + (o + 1)} (omega arith) (page_at-put_bytes_other n (set m (4096 * f.0 + o) (v % 256)) f g (o + 1) (v / 256) (omega arith) other ∙ page_at-set_other m f g o (v % 256) (omega arith) other)

pub length-put_bytes : (n : ℕ) (m : List ℕ) (at v : ℕ) → length (put_bytes n m at v) ≡ length m
length-put_bytes zero m at v = refl
length-put_bytes (suc n) m at v = length-put_bytes n (set m at (v % 256)) (at + 1) (v / 256) ∙ length-set m at (v % 256)

-- a number is read from its page
pub number_at-page : (width : Width) (m : List ℕ) (f : Frame) (o : ℕ) → o + size_of width ≤ 4096 → number_at width (page_at m f) o ≡ number_at width m (4096 * f.0 + o)
number_at-page Byte m f o within = get_or-page_at m f o 0 (omega arith)
number_at-page Half m f o within = rw (get_or-page_at m f o 0 (omega arith), get_or-page_at m f (o + 1) 0 (omega arith)) (ap (λ i. get_or m (4096 * f.0 + o) 0 + 256 * get_or m i 0) (omega arith))
number_at-page Word m f o within =
    rw (get_or-page_at m f o 0 (omega arith), get_or-page_at m f (o + 1) 0 (omega arith), get_or-page_at m f (o + 2) 0 (omega arith), get_or-page_at m f (o + 3) 0 (omega arith)) (
    ap (λ i. get_or m (4096 * f.0 + o) 0 + 256 * get_or m i 0 + 65536 * get_or m (4096 * f.0 + (o + 2)) 0 + 16777216 * get_or m (4096 * f.0 + (o + 3)) 0) {x = 4096 * f.0 + (o + 1)} {y = 4096 * f.0 + o + 1} (omega arith)
    ∙ ap (λ i. get_or m (4096 * f.0 + o) 0 + 256 * get_or m (4096 * f.0 + o + 1) 0 + 65536 * get_or m i 0 + 16777216 * get_or m (4096 * f.0 + (o + 3)) 0) {x = 4096 * f.0 + (o + 2)} {y = 4096 * f.0 + o + 2} (omega arith)
    ∙ ap (λ i. get_or m (4096 * f.0 + o) 0 + 256 * get_or m (4096 * f.0 + o + 1) 0 + 65536 * get_or m (4096 * f.0 + o + 2) 0 + 16777216 * get_or m i 0) {x = 4096 * f.0 + (o + 3)} {y = 4096 * f.0 + o + 3} (omega arith))

-- what memory writes for a half and for a word
pub written-half : (m : List ℕ) (at v : ℕ) → written m at (half_bytes (v % 65536)) ≡ put_bytes 2 m at v
written-half m at v = ap (λ b. set (set m at b) (at + 1) (v % 65536 / 256 % 256)) {x = v % 65536 % 256} {y = v % 256} (omega arith) ∙ ap (λ b. set (set m at (v % 256)) (at + 1) b) (omega arith)

pub written-word : (m : List ℕ) (at v : ℕ) → written m at (word_bytes v) ≡ put_bytes 4 m at v
written-word m at v =
    ap (λ b. set (set (set (set m at (v % 256)) (at + 1) (v / 256 % 256)) (at + 1 + 1) b) (at + 1 + 1 + 1) (v / 16777216 % 256)) {x = v / 65536 % 256} {y = v / 256 / 256 % 256} (omega arith)
    ∙ ap (λ b. set (set (set (set m at (v % 256)) (at + 1) (v / 256 % 256)) (at + 1 + 1) (v / 256 / 256 % 256)) (at + 1 + 1 + 1) b) {x = v / 16777216 % 256} {y = v / 256 / 256 / 256 % 256} (omega arith)

module _ (rights : List (Bool × Bool)) (space : SpaceNo) where
  -- a page of memory in which bytes were put
  page_of-put_bytes : (n : ℕ) (m : List ℕ) (f : Frame) (o v : ℕ) → o + n ≤ 4096 → (row : Row) → put_in_frame f.0 n o v (page_of rights m row) ≡ page_of rights (put_bytes n m (4096 * f.0 + o) v) row
  page_of-put_bytes n m f o v within row = elim (cases_eq row.frame.0 f.0) [
    | inl same ↦ rw (eq-eqb row.frame.0 f.0 same) (ap (λ (bytes : List ℕ). record (page_of rights m row) { bytes = bytes }) (sym (subst (λ (g : Frame). page_at (put_bytes n m (4096 * f.0 + o) v) g ≡ put_bytes n (page_at m g) o v) {x = f} (ap (λ (k : ℕ). record { 0 = k }) (sym same)) (page_at-put_bytes n m f o v within))))
    | inr other ↦ rw (ne_eqb row.frame.0 f.0 other) (ap (λ (bytes : List ℕ). record (page_of rights m row) { bytes = bytes }) (sym (page_at-put_bytes_other n m f row.frame o v within other)))
  ]

  pages-put_bytes : (n : ℕ) (m : List ℕ) (f : Frame) (o v : ℕ) → o + n ≤ 4096 → (rows : List Row) → map (put_in_frame f.0 n o v) (map (page_of rights m) rows) ≡ map (page_of rights (put_bytes n m (4096 * f.0 + o) v)) rows
  pages-put_bytes n m f o v within [] = refl
  pages-put_bytes n m f o v within (row ∷ rows) = rw (page_of-put_bytes n m f o v within row, pages-put_bytes n m f o v within rows) refl

  -- a store through a row puts its bytes in the pages of the row's frame
  pub stored-pages : (m : List ℕ) (rows : List Row) (va : ℕ) (width : Width) (value : ℕ) (row : Row) → va % size_of width ≡ 0 → row_through (translated rights rows (wants Write) space va) ≡ Some row → stored (pages_in rights m rows space) va width value ≡ pages_in rights (put_bytes (size_of width) m (place_in row.frame va) value) rows space
  unfolding stored
  stored-pages m rows va width value row aligned found =
      ap (λ p. stored_through p (pages_in rights m rows space) va width value) (translation-pages rights m rows space va Write ∙ ap (option_map (page_of rights m)) found)
      ∙ pages-put_bytes (size_of width) m row.frame (va % 4096) value (fits width va aligned) (filter (is_in space) rows)

  -- one that goes through none leaves them
  pub stored-none : (m : List ℕ) (rows : List Row) (va : ℕ) (width : Width) (value : ℕ) → row_through (translated rights rows (wants Write) space va) ≡ None → stored (pages_in rights m rows space) va width value ≡ pages_in rights m rows space
  unfolding stored
  stored-none m rows va width value lost =
      ap (λ p. stored_through p (pages_in rights m rows space) va width value) (translation-pages rights m rows space va Write ∙ ap (option_map (page_of rights m)) lost)

  -- what is read through a row is read from memory
  pub read-pages : (access : Access) (m : List ℕ) (rows : List Row) (va : ℕ) (width : Width) (row : Row) → va % size_of width ≡ 0 → row_through (translated rights rows (wants access) space va) ≡ Some row → read_through access (pages_in rights m rows space) va width ≡ Some (number_at width m (place_in row.frame va))
  unfolding read_through
  read-pages access m rows va width row aligned found =
      ap (option_map (λ p. number_at width p.bytes (va % 4096))) (translation-pages rights m rows space va access ∙ ap (option_map (page_of rights m)) found)
      ∙ ap Some (number_at-page width m row.frame (va % 4096) (fits width va aligned))

  pub read-none : (access : Access) (m : List ℕ) (rows : List Row) (va : ℕ) (width : Width) → row_through (translated rights rows (wants access) space va) ≡ None → read_through access (pages_in rights m rows space) va width ≡ None
  unfolding read_through
  read-none access m rows va width lost =
      ap (option_map (λ p. number_at width p.bytes (va % 4096))) (translation-pages rights m rows space va access ∙ ap (option_map (page_of rights m)) lost)
