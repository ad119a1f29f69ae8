-- The index after a write to a slot.
use Rattle.std.proofs.Common.{◌≡◌, ℕ, zero, suc, ◌<◌, List, length, set, get_or, replicate, Option, Some, None, slice_get, ap, sym, ◌∙◌, subst, ◌⊎◌, inl, inr}
use Rattle.std.proofs.lemmas.Bool.{cases_eq}
use Rattle.std.proofs.lemmas.Option.{same_Some, slice_get_within, slice_get-get_or}
use Rattle.cache_ident.specs.declared.names.Frame.{Frame}
use Rattle.page_store.specs.declared.page.Page.{Page}
use Rattle.page_store.specs.Kept.{no_page, unplaced, HasPage, IsFor, Kept}
use Rattle.page_store.specs.Index.{IsIndex}
use Rattle.page_store.proofs.Slots.{get-set_same, get-set_other, same_frame, has_cases, had_cases, has_now}

-- no two slots have the page of one frame
pub one_slot : (slots : List Page) (places : List (Option ℕ)) → IsIndex slots places → (q p : ℕ) (f : Frame) (a b : Page) → HasPage slots q f a → HasPage slots p f b → q ≡ p
one_slot slots places index q p f a b has_a has_b =
    same_Some q p (same_Some (Some q) (Some p) (sym (index.found q f a has_a) ∙ index.found p f b has_b))

module _ (slots : List Page) (places : List (Option ℕ)) (index : IsIndex slots places) (p : ℕ) (page now : Page) (here : slice_get slots p ≡ Some page) where
  -- a page that keeps its frame
  pub index_kept : now.frame ≡ page.frame → IsIndex (set slots p now) places
  index_kept same = record {
    noted = λ f q at. let old = index.noted f q at in elim (had_cases slots p page now here q f old.0 old.1) [
      | inl is ↦ (now, record { there = ap (slice_get (set slots p now)) is.0 ∙ get-set_same slots p now page here; its = same ∙ ap (λ (x : Page). x.frame) is.1 ∙ old.1.its })
      | inr other ↦ (old.0, other.1)
    ];
    found = λ q f pg has. elim (has_cases slots p page now here q f pg has) [
      | inl is ↦ index.found q f page (record { there = ap (slice_get slots) is.0 ∙ here; its = sym same ∙ ap (λ (x : Page). x.frame) is.1 ∙ has.its })
      | inr other ↦ index.found q f pg other.1
    ];
  }

  -- a slot that had no page, and has none
  pub index_empty : page.frame ≡ None → now.frame ≡ None → IsIndex (set slots p now) places
  index_empty none none_now = index_kept (none_now ∙ sym none)

  -- a page is given up
  pub index_without : (f : Frame) → page.frame ≡ Some f → now.frame ≡ None → IsIndex (set slots p now) (set places f.0 None)
  index_without f its none = record {
    noted = λ g q at. elim (cases_eq g.0 f.0) [
      | inl is ↦ absurd (never (same_Some None (Some q) (sym (get-set_same places f.0 None (Some p) was) ∙ ap (slice_get (set places f.0 None)) (sym is) ∙ at)))
      | inr apart ↦ let old = index.noted g q (sym (get-set_other places f.0 g.0 None apart) ∙ at) in elim (had_cases slots p page now here q g old.0 old.1) [
        | inl is ↦ absurd (apart (ap (λ (x : Frame). x.0) (same_Some g f (sym old.1.its ∙ sym (ap (λ (x : Page). x.frame) is.1) ∙ its))))
        | inr other ↦ (old.0, other.1)
      ]
    ];
    found = λ q g pg has. elim (has_cases slots p page now here q g pg has) [
      | inl is ↦ absurd (no_frame g (sym none ∙ ap (λ (x : Page). x.frame) is.1 ∙ has.its))
      | inr other ↦ elim (cases_eq g.0 f.0) [
        | inl same ↦ absurd (other.0 (one_slot slots places index q p f pg page (record { there = other.1.there; its = other.1.its ∙ ap Some (same_frame g f same) }) (record { there = here; its = its })))
        | inr apart ↦ get-set_other places f.0 g.0 None apart ∙ index.found q g pg other.1
      ]
    ];
  }
    where
      was : slice_get places f.0 ≡ Some (Some p)
      was = index.found p f page (record { there = here; its = its })

      never : {q : ℕ} → ◌≡◌ {A = Option ℕ} None (Some q) → ⊥
      never e = cc

      no_frame : (g : Frame) → ◌≡◌ {A = Option Frame} None (Some g) → ⊥
      no_frame g e = cc

  -- a page comes to be that of a frame which no other slot has
  pub index_with : (f : Frame) → f.0 < length places → now.frame ≡ Some f → (page.frame ≡ None) ⊎ (page.frame ≡ Some f) → ((q : ℕ) (pg : Page) → HasPage slots q f pg → q ≡ p)
      → IsIndex (set slots p now) (set places f.0 (Some p))
  index_with f within its was one = record {
    noted = λ g q at. elim (cases_eq g.0 f.0) [
      | inl is ↦
          let same : p ≡ q = same_Some p q (same_Some (Some p) (Some q) (sym noted_now ∙ ap (slice_get (set places f.0 (Some p))) (sym is) ∙ at)) in
          (now, subst (λ (k : ℕ). HasPage (set slots p now) k g now) same (has_now slots p page now here g (its ∙ ap Some (sym (same_frame g f is)))))
      | inr apart ↦ let old = index.noted g q (sym (get-set_other places f.0 g.0 (Some p) apart) ∙ at) in elim (had_cases slots p page now here q g old.0 old.1) [
        | inl is ↦ absurd (apart (ap (λ (x : Frame). x.0) (its_frame g (ap (λ (x : Page). x.frame) is.1 ∙ old.1.its) was)))
        | inr other ↦ (old.0, other.1)
      ]
    ];
    found = λ q g pg has. elim (has_cases slots p page now here q g pg has) [
      | inl is ↦
          let same : f ≡ g = same_Some f g (sym its ∙ ap (λ (x : Page). x.frame) is.1 ∙ has.its) in
          ap (λ (x : Frame). slice_get (set places f.0 (Some p)) x.0) (sym same) ∙ noted_now ∙ ap (λ (k : ℕ). Some (Some k)) (sym is.0)
      | inr other ↦ elim (cases_eq g.0 f.0) [
        | inl is ↦ absurd (other.0 (one q pg (record { there = other.1.there; its = other.1.its ∙ ap Some (same_frame g f is) })))
        | inr apart ↦ get-set_other places f.0 g.0 (Some p) apart ∙ index.found q g pg other.1
      ]
    ];
  }
    where
      noted_now : slice_get (set places f.0 (Some p)) f.0 ≡ Some (Some p)
      noted_now = get-set_same places f.0 (Some p) (get_or places f.0 None) (slice_get-get_or places f.0 None within)

      some_frame : (g : Frame) → ◌≡◌ {A = Option Frame} None (Some g) → ⊥
      some_frame g e = cc

      its_frame : (g : Frame) → page.frame ≡ Some g → (page.frame ≡ None) ⊎ (page.frame ≡ Some f) → g ≡ f
      its_frame g is (inl none) = absurd (some_frame g (sym none ∙ is))
      its_frame g is (inr some) = same_Some g f (sym is ∙ some)

  -- a page is given up, if there was one
  pub index_freed : (o : Option Frame) → page.frame ≡ o → now.frame ≡ None → IsIndex (set slots p now) (unplaced o places)
  index_freed None none none_now = index_kept (none_now ∙ sym none)
  index_freed (Some f) its none_now = index_without f its none_now

-- a frame whose page is kept has a place
pub frame_low : (slots : List Page) (places : List (Option ℕ)) → IsIndex slots places → (p : ℕ) (f : Frame) (page : Page) → HasPage slots p f page → f.0 < length places
frame_low slots places index p f page has = slice_get_within places f.0 (Some p) (index.found p f page has)

-- a place that is for a frame stays so while its page keeps its frame
pub for_after : (k : Kept) (p : ℕ) (f : Frame) → (its : IsFor k p f) → (now : Page) → now.frame ≡ its.page.frame → IsFor (record k { slots = set k.slots p now }) p f
for_after k p f its now same = record {
  within = its.within;
  page = now;
  there = get-set_same k.slots p now its.page its.there;
  was = elim its.was [
    | inl none ↦ inl (same ∙ none)
    | inr some ↦ inr (same ∙ some)
  ];
  one = λ q pg has. elim (has_cases k.slots p its.page now its.there q f pg has) [
    | inl is ↦ is.0
    | inr other ↦ its.one q pg other.1
  ];
}

-- the place that is noted for a frame is for it
pub for_noted : (k : Kept) (places : List (Option ℕ)) → IsIndex k.slots places → (p : ℕ) (f : Frame) → f.0 < k.frames → slice_get places f.0 ≡ Some (Some p) → IsFor k p f
for_noted k places index p f within at =
    let has = index.noted f p at in
    record { within = within; page = has.0; there = has.1.there; was = inr has.1.its; one = λ q pg other. one_slot k.slots places index q p f pg has.0 other has.1 }

-- what there is of one thing, so often, is that thing
pub one_thing : {X : Type 0} (n : ℕ) (x y : X) (k : ℕ) → slice_get (replicate n x) k ≡ Some y → x ≡ y
one_thing zero x y k e = absurd (cc)
one_thing (suc n) x y zero e = same_Some x y e
one_thing (suc n) x y (suc k) e = one_thing n x y k e

-- no page is kept
pub index_none : (most frames : ℕ) → IsIndex (replicate most no_page) (replicate frames None)
index_none most frames = record {
  noted = λ f p at. absurd (never (one_thing frames None (Some p) f.0 at));
  found = λ p f page has. absurd (nowhere f (ap (λ (x : Page). x.frame) (one_thing most no_page page p has.there) ∙ has.its));
}
  where
    never : {q : ℕ} → ◌≡◌ {A = Option ℕ} None (Some q) → ⊥
    never e = cc

    nowhere : (g : Frame) → ◌≡◌ {A = Option Frame} None (Some g) → ⊥
    nowhere g e = cc
