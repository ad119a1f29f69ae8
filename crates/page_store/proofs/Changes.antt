-- What is kept after a slot was freed, after a page was read into one, and after bytes were put into one.
use Rattle.std.proofs.Common.{◌≡◌, ℕ, ◌+◌, ◌*◌, ◌<◌, ◌≤◌, true, false, List, [], ◌∷◌, length, set, get_or, Option, Some, None, slice_get, refl, ap, sym, ◌∙◌, subst, inl, inr, arith}
use Rattle.std.specs.Prelude.{is_some}
use Rattle.std.proofs.lemmas.Bool.{cases_lt}
use Rattle.std.proofs.lemmas.List.{length-set}
use Rattle.std.proofs.lemmas.Option.{get_or_from_slice_get, slice_get-get_or}
use Rattle.cache_ident.specs.declared.names.Frame.{Frame}
use Rattle.phys_groups.specs.Memory.{page_at, with_page, word_bytes, written, HasFrame}
use Rattle.phys_groups.proofs.Pages.{length-page_at}
use Rattle.page_store.specs.declared.page.Page.{Page}
use Rattle.page_store.specs.Kept.{no_page, unwritten, HasPage, IsFor, IsFree, IsKept, IsWritten, Kept, Means}
use Rattle.page_store.specs.Index.{IsIndex}
use Rattle.page_store.proofs.Slots.{get-set_same, has_cases, has_now, read_at, set_set}
use Rattle.page_store.proofs.Indexing.{for_after}
use Rattle.page_store.proofs.Meaning.{is_clean, means_put, means_read, means_without}
use Rattle.page_store.proofs.Whole.{put_in_page}

no_frame : (g : Frame) → ◌≡◌ {A = Option Frame} None (Some g) → ⊥
no_frame g e = cc

-- a slot is freed
module _ (slots slots1 slots2 : List Page) (p : ℕ) (within : p < length slots) (goes : IsWritten slots p slots1)
    (gave : (page : Page) → slice_get slots1 p ≡ Some page → slots2 ≡ set slots1 p (record page { frame = None; changed = false })) where
  abbrev page0 : Page
  page0 = get_or slots p no_page

  at0 : slice_get slots p ≡ Some page0
  at0 = slice_get-get_or slots p no_page within

  abbrev now1 : Page
  now1 = (goes page0 at0).0

  is1 : slots1 ≡ set slots p now1
  is1 = (goes page0 at0).1

  at1 : slice_get slots1 p ≡ Some now1
  at1 = ap (λ (xs : List Page). slice_get xs p) is1 ∙ get-set_same slots p now1 page0 at0

  abbrev now2 : Page
  now2 = record now1 { frame = None; changed = false }

  is2 : slots2 ≡ set slots1 p now2
  is2 = gave now1 at1

  at2 : slice_get slots2 p ≡ Some now2
  at2 = ap (λ (xs : List Page). slice_get xs p) is2 ∙ get-set_same slots1 p now2 now1 at1

  pub freed : IsFree slots2 p
  freed = (now2, at2, refl, refl)

  pub freed_size : length slots2 ≡ length slots
  freed_size = ap length is2 ∙ length-set slots1 p now2 ∙ ap length is1 ∙ length-set slots p now1

  pub freed_means : (frames : ℕ) (held : Option (List ℕ)) (memory : List ℕ) → Means (record { frames = frames; slots = slots1 }) held memory → Means (record { frames = frames; slots = slots2 }) held memory
  freed_means frames held memory m =
      subst (λ (xs : List Page). Means (record { frames = frames; slots = xs }) held memory) (sym is2)
      (means_without (record { frames = frames; slots = slots1 }) p now1 now2 at1 (goes page0 at0).4 refl held memory m)

  pub fewer : (q : ℕ) (g : Frame) (pg : Page) → HasPage slots2 q g pg → (page : Page) × HasPage slots q g page
  fewer q g pg has =
      elim (has_cases slots1 p now1 now2 at1 q g pg (subst (λ (xs : List Page). HasPage xs q g pg) is2 has)) [
        | inl is ↦ absurd (no_frame g (ap (λ (x : Page). x.frame) is.1 ∙ has.its))
        | inr other ↦ elim (has_cases slots p page0 now1 at0 q g pg (subst (λ (xs : List Page). HasPage xs q g pg) is1 other.1)) [
          | inl is ↦ absurd (other.0 is.0)
          | inr before ↦ (pg, before.1)
        ]
      ]

-- a page is read into a free slot
module _ (k : Kept) (p : ℕ) (page : Page) (there : slice_get k.slots p ≡ Some page) (none : page.frame ≡ None) (clean : page.changed ≡ false) (f : Frame) (absent : IsKept k f → ⊥) (within : f.0 < k.frames)
    (slots1 : List Page) (bytes : List ℕ) (is : slots1 ≡ set k.slots p (record page { bytes = bytes })) where
  abbrev read1 : Page
  read1 = record page { bytes = bytes }

  pub read_there : slice_get slots1 p ≡ Some (record page { bytes = bytes })
  read_there = ap (λ (xs : List Page). slice_get xs p) is ∙ get-set_same k.slots p read1 page there

  pub read_for : IsFor (record { frames = k.frames; slots = slots1 }) p f
  read_for = record {
    within = within;
    page = read1;
    there = read_there;
    was = inl none;
    one = λ q pg has. elim (has_cases k.slots p page read1 there q f pg (subst (λ (xs : List Page). HasPage xs q f pg) is has)) [
      | inl same ↦ same.0
      | inr other ↦ absurd (absent (q, pg, other.1))
    ];
  }

  module _ (slots2 : List Page) (held_by : slots2 ≡ set slots1 p (record page { bytes = bytes; frame = Some f })) where
    abbrev read2 : Page
    read2 = record page { bytes = bytes; frame = Some f }

    all_read : slots2 ≡ set k.slots p read2
    all_read = held_by ∙ ap (λ (xs : List Page). set xs p read2) is ∙ set_set k.slots p read1 read2

    pub read_means : (held : Option (List ℕ)) (memory : List ℕ) → (m : Means k held memory) → bytes ≡ page_at m.bytes f → Means (record { frames = k.frames; slots = slots2 }) held memory
    read_means held memory m its =
        subst (λ (xs : List Page). Means (record { frames = k.frames; slots = xs }) held memory) (sym all_read)
        (means_read k p page read2 there f none absent within refl clean held memory m its)

    pub read_kept : (place : ℕ) × (pg : Page) × HasPage slots2 place f pg
    read_kept = (p, read2, subst (λ (xs : List Page). HasPage xs p f read2) (sym all_read) (has_now k.slots p page read2 there f refl))

    pub read_size : length slots2 ≡ length k.slots
    read_size = ap length all_read ∙ length-set k.slots p read2

-- bytes are put into a slot that is for a frame
module _ (k : Kept) (p : ℕ) (f : Frame) (its : IsFor k p f) (bytes : List ℕ) (slots1 : List Page) (is : slots1 ≡ set k.slots p (record its.page { bytes = bytes; changed = true })) where
  abbrev put1 : Page
  put1 = record its.page { bytes = bytes; changed = true }

  pub put_there : slice_get slots1 p ≡ Some (record its.page { bytes = bytes; changed = true })
  put_there = ap (λ (xs : List Page). slice_get xs p) is ∙ get-set_same k.slots p put1 its.page its.there

  pub put_for : IsFor (record { frames = k.frames; slots = slots1 }) p f
  put_for = subst (λ (xs : List Page). IsFor (record { frames = k.frames; slots = xs }) p f) (sym is) (for_after k p f its put1 refl)

  module _ (slots2 : List Page) (held_by : slots2 ≡ set slots1 p (record its.page { bytes = bytes; changed = true; frame = Some f })) where
    abbrev put2 : Page
    put2 = record its.page { bytes = bytes; changed = true; frame = Some f }

    all_put : slots2 ≡ set k.slots p put2
    all_put = held_by ∙ ap (λ (xs : List Page). set xs p put2) is ∙ set_set k.slots p put1 put2

    pub put_means : length bytes ≡ 4096 → (held : Option (List ℕ)) (memory : List ℕ) → Means k held memory → Means (record { frames = k.frames; slots = slots2 }) held (with_page memory f bytes)
    put_means whole held memory m =
        subst (λ (xs : List Page). Means (record { frames = k.frames; slots = xs }) held (with_page memory f bytes)) (sym all_put)
        (means_put k p its.page put2 its.there f bytes whole its.was its.one its.within refl refl refl held memory m)

    pub put_size : length slots2 ≡ length k.slots
    put_size = ap length all_put ∙ length-set k.slots p put2

-- a word is put into the page of a frame that is kept
length-written : (bs : List ℕ) (bytes : List ℕ) (at : ℕ) → length (written bytes at bs) ≡ length bytes
length-written [] bytes at = refl
length-written (b ∷ bs) bytes at = length-written bs (set bytes at b) (at + 1) ∙ length-set bytes at b

pub word_means : (k : Kept) (p : ℕ) (f : Frame) (page : Page) → HasPage k.slots p f page → ((q : ℕ) (pg : Page) → HasPage k.slots q f pg → q ≡ p) → f.0 < k.frames → (slots1 : List Page) (at value : ℕ) → at + 4 ≤ 4096
    → slots1 ≡ set k.slots p (record page { bytes = written page.bytes at (word_bytes value); changed = true })
    → (held : Option (List ℕ)) (memory : List ℕ) → Means k held memory → Means (record { frames = k.frames; slots = slots1 }) held (written memory (4096 * f.0 + at) (word_bytes value))
word_means k p f page has one within slots1 at value low is held memory m =
    let new = written page.bytes at (word_bytes value) in
    let now : Page = record page { bytes = new; changed = true } in
    let frame_there : HasFrame memory f = omega (arith, m.size, within) in
    let own : page_at memory f ≡ page.bytes = m.kept p f page has in
    let whole : length new ≡ 4096 = length-written (word_bytes value) page.bytes at ∙ ap length (sym own) ∙ length-page_at memory f frame_there in
    let same : with_page memory f new ≡ written memory (4096 * f.0 + at) (word_bytes value) =
    ap (λ (bytes : List ℕ). with_page memory f (written bytes at (word_bytes value))) (sym own) ∙ put_in_page (word_bytes value) memory f at frame_there low in
    subst (λ (x : List ℕ). Means (record { frames = k.frames; slots = slots1 }) held x) same
    (subst (λ (xs : List Page). Means (record { frames = k.frames; slots = xs }) held (with_page memory f new)) (sym is)
    (means_put k p page now has.there f new whole (inr has.its) one within has.its refl refl held memory m))

-- what is noted for a frame, or isn't
pub noted_some : (slots : List Page) (places : List (Option ℕ)) → IsIndex slots places → (f : Frame) (r : Option ℕ) → f.0 < length places → r ≡ get_or places f.0 r → is_some r ≡ true → (p : ℕ) × (page : Page) × HasPage slots p f page
noted_some slots places index f None low is some = absurd (cc)
noted_some slots places index f (Some p) low is some = let noted = index.noted f p (read_at places f.0 (Some p) low is) in (p, noted.0, noted.1)

pub noted_none : (slots : List Page) (places : List (Option ℕ)) → IsIndex slots places → (f : Frame) (r : Option ℕ) → r ≡ get_or places f.0 r → is_some r ≡ false → (p : ℕ) (page : Page) → HasPage slots p f page → ⊥
noted_none slots places index f r is none p page has =
    let some : r ≡ Some p = is ∙ get_or_from_slice_get places f.0 (Some p) r (index.found p f page has) in
    let e : is_some (Some p) ≡ false = ap is_some (sym some) ∙ none in
    cc

-- once a slot was written, the ones up to it are as the store has them
pub written_more : (slots slots1 : List Page) (p : ℕ) → p < length slots → IsWritten slots p slots1 → ((q : ℕ) (f : Frame) (pg : Page) → q < p → HasPage slots q f pg → pg.changed ≡ false) → (q : ℕ) (f : Frame) (pg : Page) → q < p + 1 → HasPage slots1 q f pg → pg.changed ≡ false
written_more slots slots1 p within goes before q f pg low has =
    let page = get_or slots p no_page in
    let at = slice_get-get_or slots p no_page within in
    let w = goes page at in
    elim (has_cases slots p page w.0 at q f pg (subst (λ (xs : List Page). HasPage xs q f pg) w.1 has)) [
      | inl is ↦ is_clean pg f (ap unwritten (sym is.1) ∙ w.4) has.its
      | inr other ↦ before q f pg (below q p low other.0) other.1
    ]
  where
    below : (q p : ℕ) → q < p + 1 → (q ≡ p → ⊥) → q < p
    below q p low apart = elim (cases_lt q p) [
      | inl lt ↦ lt
      | inr ge ↦ absurd (apart (omega (arith, low, ge)))
    ]
