-- An executable stands in memory once what it declares is declared.
use Rattle.std.proofs.Common.{◌≡◌, ℕ, zero, suc, ◌+◌, ◌-◌, ◌*◌, ◌/◌, ◌%◌, ◌<◌, ◌≤◌, Bool, true, false, cond, List, [], ◌∷◌, ◌++◌, get_or, Some, None, refl, ap, sym, ◌∙◌, subst, inl, inr, arith}
use Rattle.std.specs.Prelude.{◌&&◌, nat_le, nat_lt}
use Rattle.std.specs.List.{slice_get}
use Rattle.std.proofs.lemmas.Bool.{cases_lt, le-leb, lt-ltb, le-ltb}
use Rattle.std.proofs.lemmas.Option.{same_Some}
use Rattle.cache_ident.specs.declared.names.SpaceNo.{SpaceNo}
use Rattle.cache_ident.specs.declared.names.ThreadNo.{ThreadNo}
use Rattle.phys_groups.specs.Memory.{word_bytes}
use Rattle.phys_groups.specs.Translation.{row_of}
use Rattle.image_decls.specs.flat_state.specs.declared.events.Decl.{Decl}
use Rattle.image_decls.specs.flat_state.specs.declared.events.Decl.TheVariants as decls
use Rattle.image_decls.specs.flat_state.specs.State.{FlatState, nothing_declared}
use Rattle.image_decls.specs.flat_state.specs.Declaration.{declared, new_row}
use Rattle.image_decls.specs.flat_state.specs.WellFormed.{IsWellFormed}
use Rattle.image_decls.specs.flat_state.specs.Events.{AllFit, after_declarations}
use Rattle.image_decls.specs.flat_state.proofs.FormedParts.{declared_formed, nothing_formed}
use Rattle.image_decls.specs.elf_image.specs.declared.images.Part.{Part}
use Rattle.image_decls.specs.elf_image.specs.Elf.{Executable}
use Rattle.image_decls.specs.Declarations.{first_page, page_count, row_at, part_rows, each, byte_at, word_at, word_decl, word_count, part_words, declarations}
use Rattle.image_memory.specs.Loaded.{IsBytes, IsLoaded}
use Rattle.image_memory.proofs.Listed.{IsIn, in_front, in_back, in_either}
use Rattle.image_memory.proofs.Fitting.{row_among}
use Rattle.image_memory.proofs.Bytes.{Agrees, byte_among}
use Rattle.image_memory.proofs.Parts.{row_in, rows_only, word_in, words_only, frame_at, each_in, each_only, apart}

-- ---- the bytes of a word

small_if : (c : Bool) (n : ℕ) → n < 256 → cond c n 0 < 256
small_if true n low = low
small_if false n low = omega arith

is_byte : (bytes : List ℕ) (part : Part) (address : ℕ) → IsBytes bytes → byte_at bytes part address < 256
is_byte bytes part address are =
    let low = are (part.offset + (address - part.vaddr)) in
    small_if (nat_le part.vaddr address && nat_lt (address - part.vaddr) part.length) (get_or bytes (part.offset + (address - part.vaddr)) 0) (omega (arith, low))

byte_in_four : (a b c d : ℕ) (v : ℕ) → a < 256 → b < 256 → c < 256 → d < 256 → v ≡ a + 256 * b + 65536 * c + 16777216 * d → (v % 256 ≡ a) × (v / 256 % 256 ≡ b) × (v / 65536 % 256 ≡ c) × (v / 16777216 % 256 ≡ d)
byte_in_four a b c d v la lb lc ld e = (omega arith, omega arith, omega arith, omega arith)

word_byte : (bytes : List ℕ) (part : Part) (address j : ℕ) → IsBytes bytes → j < 4 → get_or (word_bytes (word_at bytes part address)) j 0 ≡ byte_at bytes part (address + j)
word_byte bytes part address j are low =
    by j low (byte_in_four (byte_at bytes part address) (byte_at bytes part (address + 1)) (byte_at bytes part (address + 2)) (byte_at bytes part (address + 3)) (word_at bytes part address)
    (is_byte bytes part address are) (is_byte bytes part (address + 1) are) (is_byte bytes part (address + 2) are) (is_byte bytes part (address + 3) are) refl)
  where
    by : (j : ℕ) → j < 4 → (word_at bytes part address % 256 ≡ byte_at bytes part address) × (word_at bytes part address / 256 % 256 ≡ byte_at bytes part (address + 1)) × (word_at bytes part address / 65536 % 256 ≡ byte_at bytes part (address + 2)) × (word_at bytes part address / 16777216 % 256 ≡ byte_at bytes part (address + 3)) → get_or (word_bytes (word_at bytes part address)) j 0 ≡ byte_at bytes part (address + j)
    by zero low are = are.0 ∙ ap (λ (n : ℕ). byte_at bytes part n) {x = address} {y = address + 0} (omega arith)
    by (suc zero) low are = are.1
    by (suc (suc zero)) low are = are.2
    by (suc (suc (suc zero))) low are = are.3
    by (suc (suc (suc (suc j)))) low are = absurd (omega (arith, low))

-- ---- places

-- the place of a part's address, where the part's first page is in that frame
abbrev place_of : ℕ → Part → ℕ → ℕ
place_of frame part address = 4096 * (frame + (address / 4096 - first_page part)) + address % 4096

-- a word of a part lies in the frames of the part
word_page : (part : Part) (m : ℕ) → m < word_count part → 4 * (part.vaddr / 4 + m) / 4096 - first_page part < page_count part
word_page part m low = omega (arith, low)

address_page : (part : Part) (k : ℕ) → k < part.size → (part.vaddr + k) / 4096 - first_page part < page_count part
address_page part k low = omega (arith, low)

-- places that are the same are in the same frame
same_frame : (f g o p j : ℕ) → o < 4096 → p % 4 ≡ 0 → p < 4096 → j < 4 → 4096 * g + p + j ≡ 4096 * f + o → (g ≡ f) × (p + j ≡ o)
same_frame f g o p j low aligned below short e = (omega arith, omega arith)

-- the address of a byte in a word, by its page and its offset
same_address : (part : Part) (m j a : ℕ) → part.vaddr ≤ a → 4 * (part.vaddr / 4 + m) / 4096 - first_page part ≡ a / 4096 - first_page part → 4 * (part.vaddr / 4 + m) % 4096 + j ≡ a % 4096 → 4 * (part.vaddr / 4 + m) + j ≡ a
same_address part m j a from page offset =
    let first : part.vaddr / 4096 ≤ 4 * (part.vaddr / 4 + m) / 4096 = omega arith in
    let its : part.vaddr / 4096 ≤ a / 4096 = omega (arith, from) in
    omega (arith, first, its, page, offset)

word_offset : (n : ℕ) → (4 * n % 4096 % 4 ≡ 0) × (4 * n % 4096 < 4096)
word_offset n = (omega arith, omega arith)

-- a frame of one part isn't one of a later part
apart_frames : (f g x y n : ℕ) → x < n → f + n ≤ g → g + y ≡ f + x → ⊥
apart_frames f g x y n inside gap e = omega (arith, inside, gap, e)

same_page : (f g x y : ℕ) → f ≡ g → g + x ≡ f + y → x ≡ y
same_page f g x y one e = omega (arith, one, e)

-- where an address is in the word that has it
word_place : (f first vaddr k : ℕ) → 4096 * (f + (4 * (vaddr / 4 + ((vaddr + k) / 4 - vaddr / 4)) / 4096 - first)) + 4 * (vaddr / 4 + ((vaddr + k) / 4 - vaddr / 4)) % 4096 + (vaddr + k) % 4 ≡ 4096 * (f + ((vaddr + k) / 4096 - first)) + (vaddr + k) % 4096
word_place f first vaddr k =
    let whole : 4 * (vaddr / 4 + ((vaddr + k) / 4 - vaddr / 4)) ≡ vaddr + k - (vaddr + k) % 4 = omega arith in
    let page : 4 * (vaddr / 4 + ((vaddr + k) / 4 - vaddr / 4)) / 4096 ≡ (vaddr + k) / 4096 = omega arith in
    let offset : 4 * (vaddr / 4 + ((vaddr + k) / 4 - vaddr / 4)) % 4096 + (vaddr + k) % 4 ≡ (vaddr + k) % 4096 = omega arith in
    by (4 * (vaddr / 4 + ((vaddr + k) / 4 - vaddr / 4)) / 4096) ((vaddr + k) / 4096) page (4 * (vaddr / 4 + ((vaddr + k) / 4 - vaddr / 4)) % 4096) ((vaddr + k) % 4) ((vaddr + k) % 4096) offset
  where
    by : (x y : ℕ) → x ≡ y → (p q r : ℕ) → p + q ≡ r → 4096 * (f + (x - first)) + p + q ≡ 4096 * (f + (y - first)) + r
    by x y page p q r offset = omega (arith, page, offset)

-- what the byte of a part's address is
byte_chosen : (b c : Bool) (x : ℕ) → b ≡ true → (c ≡ true → cond (b && c) x 0 ≡ x) × (c ≡ false → cond (b && c) x 0 ≡ 0)
byte_chosen true true x e = (λ h. refl, λ h. absurd cc)
byte_chosen true false x e = (λ h. absurd cc, λ h. refl)
byte_chosen false c x e = absurd cc

byte_from_file : (bytes : List ℕ) (part : Part) (k : ℕ) → k < part.length → byte_at bytes part (part.vaddr + k) ≡ get_or bytes (part.offset + k) 0
byte_from_file bytes part k here =
    (byte_chosen (nat_le part.vaddr (part.vaddr + k)) (nat_lt (part.vaddr + k - part.vaddr) part.length) (get_or bytes (part.offset + (part.vaddr + k - part.vaddr)) 0) (le-leb part.vaddr (part.vaddr + k) (omega arith))).0
    (lt-ltb (part.vaddr + k - part.vaddr) part.length (omega (arith, here)))
    ∙ ap (λ (n : ℕ). get_or bytes n 0) {x = part.offset + (part.vaddr + k - part.vaddr)} {y = part.offset + k} (omega arith)

byte_behind : (bytes : List ℕ) (part : Part) (k : ℕ) → part.length ≤ k → byte_at bytes part (part.vaddr + k) ≡ 0
byte_behind bytes part k past =
    (byte_chosen (nat_le part.vaddr (part.vaddr + k)) (nat_lt (part.vaddr + k - part.vaddr) part.length) (get_or bytes (part.offset + (part.vaddr + k - part.vaddr)) 0) (le-leb part.vaddr (part.vaddr + k) (omega arith))).1
    (le-ltb (part.vaddr + k - part.vaddr) part.length (omega (arith, past)))

-- ---- one address

module _ (bytes : List ℕ) (space : SpaceNo) (frame : ℕ) (thread : ThreadNo) (image : Executable) (are : IsBytes bytes) (i : ℕ) (part : Part) (k : ℕ) (is : slice_get image.parts i ≡ Some part) (low : k < part.size) where
  place : ℕ
  place = place_of (frame_at frame image.parts i) part (part.vaddr + k)

  -- a word of the part has the byte of the address
  own_word : (m b : ℕ) → b < 4 → 4 * (part.vaddr / 4 + m) / 4096 - first_page part ≡ (part.vaddr + k) / 4096 - first_page part → 4 * (part.vaddr / 4 + m) % 4096 + b ≡ (part.vaddr + k) % 4096 → get_or (word_bytes (word_at bytes part (4 * (part.vaddr / 4 + m)))) b 0 ≡ byte_at bytes part (part.vaddr + k)
  own_word m b short page offset =
      word_byte bytes part (4 * (part.vaddr / 4 + m)) b are short
      ∙ ap (λ (n : ℕ). byte_at bytes part n) (same_address part m b (part.vaddr + k) (omega arith) page offset)

  -- a word of a part has the address's byte where it reaches its place: no other part has that frame
  word_agrees : (j : ℕ) (other : Part) (m : ℕ) → slice_get image.parts j ≡ Some other → m < word_count other → Agrees place (byte_at bytes part (part.vaddr + k)) (word_decl bytes (frame_at frame image.parts j) other (4 * (other.vaddr / 4 + m)))
  unfolding place
  word_agrees j other m e few b short reaches =
      let f = frame_at frame image.parts i in
      let g = frame_at frame image.parts j in
      let w = 4 * (other.vaddr / 4 + m) in
      let a = part.vaddr + k in
      let aligned = word_offset (other.vaddr / 4 + m) in
      let inside : a / 4096 - first_page part < page_count part = address_page part k low in
      let lies : w / 4096 - first_page other < page_count other = word_page other m few in
      let same : (g + (w / 4096 - first_page other) ≡ f + (a / 4096 - first_page part)) × (w % 4096 + b ≡ a % 4096) = same_frame (f + (a / 4096 - first_page part)) (g + (w / 4096 - first_page other)) (a % 4096) (w % 4096) b (omega arith) aligned.0 aligned.1 short reaches in
      elim (cases_lt i j) [
        | inl before ↦ let gap = apart image.parts frame i j part is before in absurd (apart_frames f g (a / 4096 - first_page part) (w / 4096 - first_page other) (page_count part) inside gap same.0)
        | inr from ↦ elim (cases_lt j i) [
          | inl after ↦ let gap = apart image.parts frame j i other e after in absurd (apart_frames g f (w / 4096 - first_page other) (a / 4096 - first_page part) (page_count other) lies gap (sym same.0))
          | inr to ↦
              let one : i ≡ j = omega (arith, from, to) in
              let its : part ≡ other = same_Some part other (sym is ∙ ap (λ (n : ℕ). slice_get image.parts n) one ∙ e) in
              let page : w / 4096 - first_page other ≡ a / 4096 - first_page part = same_page f g (w / 4096 - first_page other) (a / 4096 - first_page part) (ap (λ (n : ℕ). frame_at frame image.parts n) one) same.0 in
              subst (λ (x : Part). 4 * (x.vaddr / 4 + m) / 4096 - first_page x ≡ a / 4096 - first_page part → 4 * (x.vaddr / 4 + m) % 4096 + b ≡ a % 4096 → get_or (word_bytes (word_at bytes x (4 * (x.vaddr / 4 + m)))) b 0 ≡ byte_at bytes part (part.vaddr + k)) its
              (own_word m b short) page same.1
        ]
      ]

  row_agrees : (d : Decl) → IsIn d (each (part_rows space) frame image.parts) → Agrees place (byte_at bytes part (part.vaddr + k)) d
  row_agrees d there =
      let found = each_only (part_rows space) image.parts frame d there in
      let row = rows_only space (frame_at frame image.parts found.i) found.part (page_count found.part) d found.there in
      subst (λ (x : Decl). Agrees place (byte_at bytes part (part.vaddr + k)) x) row.1 tt

  part_word_agrees : (d : Decl) → IsIn d (each (part_words bytes) frame image.parts) → Agrees place (byte_at bytes part (part.vaddr + k)) d
  part_word_agrees d there =
      let found = each_only (part_words bytes) image.parts frame d there in
      let word = words_only bytes (frame_at frame image.parts found.i) found.part (word_count found.part) d found.there in
      subst (λ (x : Decl). Agrees place (byte_at bytes part (part.vaddr + k)) x) word.2 (word_agrees found.i found.part word.0 found.is word.1)

  all_agree : (d : Decl) → IsIn d (declarations bytes space frame thread image) → Agrees place (byte_at bytes part (part.vaddr + k)) d
  unfolding declarations
  all_agree d there = elim (in_either d (each (part_rows space) frame image.parts ++ each (part_words bytes) frame image.parts) (decls.Thread thread space image.entry 0 0 0 ∷ []) there) [
    | inl before ↦ elim (in_either d (each (part_rows space) frame image.parts) (each (part_words bytes) frame image.parts) before) [
      | inl row ↦ row_agrees d row
      | inr word ↦ part_word_agrees d word
    ]
    | inr (inl last) ↦ subst (λ (x : Decl). Agrees place (byte_at bytes part (part.vaddr + k)) x) last tt
    | inr (inr none) ↦ absurd none
  ]

  -- the row of the address's page, and the word that has the address
  its_row : IsIn (row_at space (frame_at frame image.parts i) part ((part.vaddr + k) / 4096 - first_page part)) (declarations bytes space frame thread image)
  unfolding declarations
  its_row =
      let row = row_at space (frame_at frame image.parts i) part ((part.vaddr + k) / 4096 - first_page part) in
      in_front row (each (part_rows space) frame image.parts ++ each (part_words bytes) frame image.parts) (decls.Thread thread space image.entry 0 0 0 ∷ [])
      (in_front row (each (part_rows space) frame image.parts) (each (part_words bytes) frame image.parts)
      (each_in (part_rows space) image.parts frame i part row is (row_in space (frame_at frame image.parts i) part (page_count part) ((part.vaddr + k) / 4096 - first_page part) (address_page part k low))))

  its_word : IsIn (word_decl bytes (frame_at frame image.parts i) part (4 * (part.vaddr / 4 + ((part.vaddr + k) / 4 - part.vaddr / 4)))) (declarations bytes space frame thread image)
  unfolding declarations
  its_word =
      let m = (part.vaddr + k) / 4 - part.vaddr / 4 in
      let word = word_decl bytes (frame_at frame image.parts i) part (4 * (part.vaddr / 4 + m)) in
      in_front word (each (part_rows space) frame image.parts ++ each (part_words bytes) frame image.parts) (decls.Thread thread space image.entry 0 0 0 ∷ [])
      (in_back word (each (part_rows space) frame image.parts) (each (part_words bytes) frame image.parts)
      (each_in (part_words bytes) image.parts frame i part word is (word_in bytes (frame_at frame image.parts i) part (word_count part) m (omega (arith, low)))))

  module _ (s : FlatState) (formed : IsWellFormed s) (fit : AllFit s (declarations bytes space frame thread image)) where
    byte_there : get_or (after_declarations s (declarations bytes space frame thread image)).memory place 0 ≡ byte_at bytes part (part.vaddr + k)
    unfolding place
    byte_there =
        let w = 4 * (part.vaddr / 4 + ((part.vaddr + k) / 4 - part.vaddr / 4)) in
        byte_among place (byte_at bytes part (part.vaddr + k)) (declarations bytes space frame thread image) s (record { 0 = frame_at frame image.parts i + (w / 4096 - first_page part) }) (w % 4096) (word_at bytes part w) ((part.vaddr + k) % 4) formed fit all_agree its_word (omega arith)
        (word_place (frame_at frame image.parts i) (part.vaddr / 4096) part.vaddr k)

    row_there : row_of (after_declarations s (declarations bytes space frame thread image)).rows space ((part.vaddr + k) / 4096) ≡ Some (new_row space (record { 0 = first_page part + ((part.vaddr + k) / 4096 - first_page part) }) (record { 0 = frame_at frame image.parts i + ((part.vaddr + k) / 4096 - first_page part) }) part.flags None)
    row_there =
        let page = (part.vaddr + k) / 4096 - first_page part in
        ap (λ (n : ℕ). row_of (after_declarations s (declarations bytes space frame thread image)).rows space n) {x = (part.vaddr + k) / 4096} {y = first_page part + page} (omega arith)
        ∙ row_among (declarations bytes space frame thread image) s space (record { 0 = first_page part + page }) (record { 0 = frame_at frame image.parts i + page }) part.flags fit its_row

    pub loaded : IsLoaded bytes space (after_declarations s (declarations bytes space frame thread image)) part k
    unfolding place
    loaded = record {
      row = new_row space (record { 0 = first_page part + ((part.vaddr + k) / 4096 - first_page part) }) (record { 0 = frame_at frame image.parts i + ((part.vaddr + k) / 4096 - first_page part) }) part.flags None;
      found = row_there;
      flags = refl;
      from_file = λ here. byte_there ∙ byte_from_file bytes part k here;
      behind = λ past. byte_there ∙ byte_behind bytes part k past;
    }

-- ---- from any state, and in a scenario

pub stands_anywhere : (bytes : List ℕ) (space : SpaceNo) (frame : ℕ) (thread : ThreadNo) (image : Executable) (s : FlatState) → IsBytes bytes → IsWellFormed s → AllFit s (declarations bytes space frame thread image) → (i : ℕ) (part : Part) (k : ℕ) → slice_get image.parts i ≡ Some part → k < part.size → IsLoaded bytes space (after_declarations s (declarations bytes space frame thread image)) part k
stands_anywhere bytes space frame thread image s are formed fit i part k is low = loaded bytes space frame thread image are i part k is low s formed fit

after_both : (xs ys : List Decl) (s : FlatState) → after_declarations s (xs ++ ys) ≡ after_declarations (after_declarations s xs) ys
after_both [] ys s = refl
after_both (x ∷ xs) ys s = after_both xs ys (declared s x)

fit_behind : (xs ys : List Decl) (s : FlatState) → IsWellFormed s → AllFit s (xs ++ ys) → IsWellFormed (after_declarations s xs) × AllFit (after_declarations s xs) ys
fit_behind [] ys s formed fit = (formed, fit)
fit_behind (x ∷ xs) ys s formed fit = fit_behind xs ys (declared s x) (declared_formed s x formed fit.0) fit.1

pub stands_in_scenario : (bytes : List ℕ) (space : SpaceNo) (frame : ℕ) (thread : ThreadNo) (image : Executable) (before : List Decl) → IsBytes bytes → AllFit nothing_declared (before ++ declarations bytes space frame thread image) → (i : ℕ) (part : Part) (k : ℕ) → slice_get image.parts i ≡ Some part → k < part.size → IsLoaded bytes space (after_declarations nothing_declared (before ++ declarations bytes space frame thread image)) part k
stands_in_scenario bytes space frame thread image before are fit i part k is low =
    let state = fit_behind before (declarations bytes space frame thread image) nothing_declared nothing_formed fit in
    subst (λ (s : FlatState). IsLoaded bytes space s part k) (sym (after_both before (declarations bytes space frame thread image) nothing_declared))
    (stands_anywhere bytes space frame thread image (after_declarations nothing_declared before) are state.0 state.1 i part k is low)
