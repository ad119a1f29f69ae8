-- What an index tells, and that it still does after a change of the views.
use Rattle.std.proofs.Common.{◌≡◌, ◌≢◌, ℕ, Bor, zero, suc, ◌+◌, ◌<◌, ◌≤◌, ◌%◌, Bool, true, false, cond, List, [], ◌∷◌, ◌++◌, map, length, take, drop, set, get_or, Option, Some, None, refl, ap, ap₂, sym, ◌∙◌, subst, arith, eq-eqb, length-append}
use Rattle.std.specs.Prelude.{◌==◌, ◌&&◌, ◌||◌, is_some, slice_get, nat_lt}
use Rattle.std.specs.List.{find, position, position_or_len}
use Rattle.std.specs.Option.{option_copied}
use Rattle.std.proofs.lemmas.Bool.{eqb-true, ltb-false}
use Rattle.std.proofs.lemmas.List.Folds.{find_at}
use Rattle.std.proofs.lemmas.Option.{slice_get_past}
use Rattle.std.proofs.lemmas.List.{get_or-map, take_more_set}
use Rattle.std.proofs.lemmas.List.Elements.{All-push}
use Rattle.std.proofs.lemmas.List.Quantifiers.{all_pairs_push}
use Rattle.std.proofs.Math.ListN.{length-set}
use Rattle.cache_ident.specs.declared.names.Frame.{Frame}
use Rattle.page_views.specs.declared.index.Index.{Index}
use Rattle.page_views.specs.declared.lines.Lines.{Lines}
use Rattle.page_views.specs.declared.page.Origin.{Origin}
use Rattle.page_views.specs.Index.{with_view, IsIndex}
use Rattle.page_views.specs.Lines.{frame_number, page_number, noted, seen_at, AreNoted}
use Rattle.page_views.specs.Views.{copied, is_of_frame, is_touched_of, Copied, View}
use Rattle.page_views.proofs.Tables.{first_mapped, length-map, messages_mapped, messages_more, written_over}

-- where no place is noted for its line, no view has the number
pub none_noted : (number : View → ℕ) (lines : Lines) (n : ℕ) (vs : List View) → slice_get lines.places (n % 128) ≡ Some None → AreNoted number lines vs → find (λ v. number v == n) vs ≡ None
none_noted number lines n [] none noted = refl
none_noted number lines n (v ∷ vs) none noted =
    by (number v == n) refl (none_noted number lines n vs none (λ k d within. noted (suc k) d (omega (arith, within))))
  where
    by : (b : Bool) → (number v == n) ≡ b → find (λ w. number w == n) vs ≡ None → find (λ w. number w == n) (v ∷ vs) ≡ None
    by false other rest = ap (λ (c : Bool). cond c (Some v) (find (λ w. number w == n) vs)) other ∙ rest
    by true same rest = absurd (noted zero v (omega arith) (ap (λ (m : ℕ). slice_get lines.places (m % 128)) (eqb-true (number v) n same) ∙ none))

-- what is seen at the first place that passes is what is found
pub position_seen : (p : View → Bool) (vs : List View) → seen_at (position p vs) vs ≡ find p vs
position_seen p vs = by (nat_lt (position_or_len p vs) (length vs)) refl
  where
    by : (b : Bool) → nat_lt (position_or_len p vs) (length vs) ≡ b → seen_at (cond b (Some (position_or_len p vs)) None) vs ≡ find p vs
    by true below = sym (find_at p vs)
    by false past = sym (find_at p vs ∙ slice_get_past vs (position_or_len p vs) (ltb-false (position_or_len p vs) (length vs) past))

pub copied_some : (o : Option (Bor View)) → is_some (option_copied o) ≡ is_some o
copied_some None = refl
copied_some (Some v) = refl

-- the view at a place that there is
pub view_there : (vs : List View) (i : ℕ) → i < length vs → (v : View) × (slice_get vs i ≡ Some v)
view_there [] i within = absurd (omega (arith, within))
view_there (v ∷ vs) zero within = (v, refl)
view_there (v ∷ vs) (suc i) within = view_there vs i (omega (arith, within))

-- what was noted stays so
still_noted : (xs : List (Option ℕ)) (i j place : ℕ) → ¬ (slice_get xs j ≡ Some None) → ¬ (slice_get (set xs i (Some place)) j ≡ Some None)
still_noted [] i j place some = some
still_noted (x ∷ xs) zero zero place some = λ e. absurd (cc)
still_noted (x ∷ xs) zero (suc j) place some = some
still_noted (x ∷ xs) (suc i) zero place some = some
still_noted (x ∷ xs) (suc i) (suc j) place some = still_noted xs i j place some

now_noted : (xs : List (Option ℕ)) (i place : ℕ) → ¬ (slice_get (set xs i (Some place)) i ≡ Some None)
now_noted [] i place = λ e. absurd (cc)
now_noted (x ∷ xs) zero place = λ e. absurd (cc)
now_noted (x ∷ xs) (suc i) place = now_noted xs i place

noted_more : (number : View → ℕ) (lines : Lines) (n place : ℕ) (vs : List View) (v : View) → number v ≡ n → AreNoted number lines vs → AreNoted number (noted n place lines) (vs ++ v ∷ [])
noted_more number lines n place vs v same before =
    All-push (λ (w : View). ¬ (slice_get (noted n place lines).places (number w % 128) ≡ Some None)) vs v
    (λ k d within. still_noted lines.places (n % 128) (number (get_or vs k d) % 128) place (before k d within))
    (subst (λ (m : ℕ). ¬ (slice_get (noted n place lines).places (m % 128) ≡ Some None)) (sym same) (now_noted lines.places (n % 128) place))

-- no view is of the frame where none is found
not_of : (frame : Frame) (vs : List View) → find (is_of_frame frame) vs ≡ None → (k : ℕ) (d : View) → k < length vs → (get_or vs k d).frame.0 ≢ frame.0
not_of frame [] none k d within = λ e. absurd (omega (arith, within))
not_of frame (v ∷ vs) none k d within = by (v.frame.0 == frame.0) refl none (λ absent j below. not_of frame vs absent j d below) k within
  where
    by : (b : Bool) → (v.frame.0 == frame.0) ≡ b → cond b (Some v) (find (is_of_frame frame) vs) ≡ None
        → (find (is_of_frame frame) vs ≡ None → (j : ℕ) → j < length vs → (get_or vs j d).frame.0 ≢ frame.0) → (k : ℕ) → k < length (v ∷ vs) → (get_or (v ∷ vs) k d).frame.0 ≢ frame.0
    by true e none others k within = λ same. cc
    by false e none others zero within = λ same. absurd (cc (eq-eqb v.frame.0 frame.0 same))
    by false e none others (suc k) within = others none k (omega (arith, within))

-- where no view is of a frame, no touched one is
pub none_touched : (frame : Frame) (vs : List View) → is_some (find (is_of_frame frame) vs) ≡ false → find (is_touched_of frame) vs ≡ None
none_touched frame [] none = refl
none_touched frame (v ∷ vs) none = by v.touched (v.frame.0 == frame.0) none (none_touched frame vs)
  where
    by : (t b : Bool) → is_some (cond b (Some v) (find (is_of_frame frame) vs)) ≡ false → (is_some (find (is_of_frame frame) vs) ≡ false → find (is_touched_of frame) vs ≡ None)
        → cond (t && b) (Some v) (find (is_touched_of frame) vs) ≡ None
    by true true none rest = absurd (cc)
    by false true none rest = absurd (cc)
    by true false none rest = rest none
    by false false none rest = rest none

either_false : (a b : Bool) → (a || b) ≡ false → (a ≡ false) × (b ≡ false)
either_false false false e = (refl, refl)
either_false false true e = absurd (cc)
either_false true b e = absurd (cc)

pub none_is : {X : Type 0} (o : Option X) → is_some o ≡ false → o ≡ None
none_is None e = refl
none_is (Some x) e = absurd (cc)

-- a view more
pub index_more : (vs : List View) (v : View) (o : Origin) (shared : Bool) (index : Index) → v.vpn ≡ o.vpn → v.frame ≡ o.frame → v.flags ≡ o.flags → shared ≡ is_some (find (is_of_frame o.frame) vs) → IsIndex vs index → IsIndex (vs ++ v ∷ []) (with_view o shared index)
index_more vs v o shared index page frame flags is told = record {
  count = omega (arith, told.count, length-append vs (v ∷ []));
  flagged = ap₂ (λ (a b : Bool). a || b) told.flagged (ap (λ f. f.m) (sym flags)) ∙ sym (messages_more vs v);
  apart = λ e.
      let parts = either_false index.paired shared e in
      all_pairs_push (λ (a b : View). a.frame.0 ≢ b.frame.0) vs v (told.apart parts.0)
      (subst (λ (f : Frame). (k : ℕ) (d : View) → k < length vs → (get_or vs k d).frame.0 ≢ f.0) (sym frame) (not_of o.frame vs (none_is (find (is_of_frame o.frame) vs) (sym is ∙ parts.1))));
  pages = noted_more page_number index.pages o.vpn.0 index.count vs v (ap (λ p. p.0) page) told.pages;
  frames = noted_more frame_number index.frames o.frame.0 index.count vs v (ap (λ p. p.0) frame) told.frames;
}

-- views that are changed, but for what was copied
module _ (f : View → View) (same : (v : View) → copied (f v) ≡ copied v) where
  mapped_at : (vs : List View) (k : ℕ) (d : View) → k < length (map f vs) → copied (get_or (map f vs) k d) ≡ copied (get_or vs k d)
  mapped_at vs k d within =
      let there : k < length vs = omega (arith, within, length-map f vs) in
      ap copied (get_or-map f vs k d d there) ∙ same (get_or vs k d)

  pub index_mapped : (vs : List View) (index : Index) → IsIndex vs index → IsIndex (map f vs) index
  index_mapped vs index told = record {
    count = told.count ∙ sym (length-map f vs);
    flagged = told.flagged ∙ sym (messages_mapped f same vs);
    apart = λ e. λ i j d below within.
        let last : j < length vs = omega (arith, within, length-map f vs) in
        λ both. told.apart e i j d below last
        (sym (ap (λ (c : Copied). c.frame.0) (mapped_at vs i d (omega (arith, below, within)))) ∙ both ∙ ap (λ (c : Copied). c.frame.0) (mapped_at vs j d within));
    pages = λ k d within.
        subst (λ (c : Copied). ¬ (slice_get index.pages.places (c.vpn.0 % 128) ≡ Some None)) (sym (mapped_at vs k d within)) (told.pages k d (omega (arith, within, length-map f vs)));
    frames = λ k d within.
        subst (λ (c : Copied). ¬ (slice_get index.frames.places (c.frame.0 % 128) ≡ Some None)) (sym (mapped_at vs k d within)) (told.frames k d (omega (arith, within, length-map f vs)));
  }

  -- .. within their slots
  pub index_within : (count : ℕ) (xs ys : List View) (index : Index) → count ≤ length xs → ys ≡ map f (take count xs) ++ drop count xs → IsIndex (take count xs) index → IsIndex (take count ys) index
  index_within count xs ys index within became told =
      subst (λ (vs : List View). IsIndex vs index) (sym (ap (take count) became ∙ first_mapped f count xs within)) (index_mapped (take count xs) index told)

-- .. and a view more within their slots
pub index_filled : (n count : ℕ) (xs ys : List View) (v : View) (o : Origin) (shared : Bool) (index : Index) → n ≡ length xs → count < length xs → ys ≡ set xs count v
    → v.vpn ≡ o.vpn → v.frame ≡ o.frame → v.flags ≡ o.flags → shared ≡ is_some (find (is_of_frame o.frame) (take count xs)) → IsIndex (take count xs) index
    → IsIndex (take (count + 1) (take n (ys ++ drop (length ys) xs))) (with_view o shared index)
index_filled n count xs ys v o shared index whole below became page frame flags is told =
    let size : length ys ≡ length xs = ap length became ∙ length-set xs count v in
    rw (written_over n xs ys whole size)
    (subst (λ (vs : List View). IsIndex vs (with_view o shared index)) (sym (ap (take (count + 1)) became ∙ take_more_set xs count v below))
    (index_more (take count xs) v o shared index page frame flags is told))
