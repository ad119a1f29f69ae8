-- What a change of each view is for their pages, and what it leaves.
use Rattle.std.proofs.Common.{◌≡◌, ◌≢◌, ℕ, zero, suc, ◌+◌, ◌<◌, ◌≤◌, ◌/◌, ◌%◌, Bool, true, false, cond, List, [], ◌∷◌, ◌++◌, map, length, take, drop, set, get_or, Option, Some, None, refl, ap, ap₂, sym, ◌∙◌, subst, arith, eq-eqb, length-append, length-drop}
use Rattle.std.specs.Prelude.{◌==◌, not, ◌&&◌, ◌||◌, is_some, slice_get, if◌then◌else◌}
use Rattle.std.specs.List.{find, AllPairs}
use Rattle.std.specs.Option.{option_map}
use Rattle.std.proofs.lemmas.List.{get_or-map, get_or-take, take_all, take_more_set, length-take-le, take-append-le}
use Rattle.std.proofs.Math.ListN.{length-set}
use Rattle.std.proofs.lemmas.Bool.{eqb-true, ltb-true}
use Rattle.std.proofs.lemmas.List.Quantifiers.{all_pairs_push}
use Rattle.std.proofs.lemmas.Option.{get_or_from_slice_get, slice_get-get_or, slice_get_within}
use Rattle.std.proofs.Math.Seq.{drop-append_seam}
use Rattle.cache_ident.specs.declared.names.Vpn.{Vpn}
use Rattle.cache_ident.specs.declared.names.Frame.{Frame}
use Rattle.rv32_exec.specs.declared.statuses.Access.{Access}
use Rattle.rv32_exec.specs.declared.statuses.Access.TheVariants.{Fetch, Read, Write}
use Rattle.rv32_exec.specs.declared.spaces.Width.{Width}
use Rattle.rv32_exec.specs.declared.spaces.Width.TheVariants.{Byte, Half, Word}
use Rattle.rv32_exec.specs.Pages.{Page, allows, where_allowed, translation, translates, read_through, number_at, stored_through, stored, touched_at, put_bytes, put_in_frame, mark, mark_page, size_of}
use Rattle.flat_rules.specs.flat_state.specs.Translation.{wants}
use Rattle.flat_rules.specs.flat_state.proofs.Finding.{find-passes}
use Rattle.page_views.specs.Views.{View, page_of, pages_of_views, Copied, copied, copies_of, has_message, is_of_page, can_fill, put_in_view, mark_view, mark_view_of, where_flagged, view_through, table_of, dated, Dated, HaveOneViewAFrame, HaveOneViewAPage, IsTable, Table}

pub pages_mapped : (f : View → View) (g : Page → Page) → ((v : View) → page_of (f v) ≡ g (page_of v)) → (vs : List View) → pages_of_views (map f vs) ≡ map g (pages_of_views vs)
pages_mapped f g same [] = refl
pages_mapped f g same (v ∷ vs) = ap₂ (λ (p : Page) (ps : List Page). p ∷ ps) (same v) (pages_mapped f g same vs)

pub copies_mapped : (f : View → View) → ((v : View) → copied (f v) ≡ copied v) → (vs : List View) → copies_of (map f vs) ≡ copies_of vs
copies_mapped f same [] = refl
copies_mapped f same (v ∷ vs) = ap₂ (λ (p : Copied) (ps : List Copied). p ∷ ps) (same v) (copies_mapped f same vs)

pub length-map : (f : View → View) (vs : List View) → length (map f vs) ≡ length vs
length-map f [] = refl
length-map f (v ∷ vs) = omega (arith, length-map f vs)

-- no page has two views once each was changed, but for its page
pub one_mapped : (f : View → View) → ((v : View) → copied (f v) ≡ copied v) → (vs : List View) → HaveOneViewAPage vs → HaveOneViewAPage (map f vs)
one_mapped f same vs one = λ i j d below within.
    let last : j < length vs = omega (arith, within, length-map f vs) in
    let first : i < length vs = omega (arith, below, last) in
    λ both.
    one i j d below last
    (sym (ap (λ (c : Copied). c.vpn.0) (same (get_or vs i d)))
    ∙ (ap (λ (v : View). v.vpn.0) (sym (get_or-map f vs i d d first)) ∙ both
    ∙ ap (λ (v : View). v.vpn.0) (get_or-map f vs j d d last) ∙ ap (λ (c : Copied). c.vpn.0) (same (get_or vs j d))))

-- what is kept of each view keeps the message flags
pub messages_mapped : (f : View → View) → ((v : View) → copied (f v) ≡ copied v) → (vs : List View) → has_message (map f vs) ≡ has_message vs
messages_mapped f same [] = refl
messages_mapped f same (v ∷ vs) = ap₂ (λ (a b : Bool). a || b) (ap (λ (c : Copied). c.flags.m) (same v)) (messages_mapped f same vs)

-- a view more
pub messages_more : (vs : List View) (v : View) → has_message (vs ++ v ∷ []) ≡ (has_message vs || v.flags.m)
messages_more [] v = or_false v.flags.m
  where
    or_false : (b : Bool) → (b || false) ≡ b
    or_false true = refl
    or_false false = refl
messages_more (u ∷ vs) v = ap (λ (b : Bool). u.flags.m || b) (messages_more vs v) ∙ grouped u.flags.m (has_message vs) v.flags.m
  where
    grouped : (a b c : Bool) → (a || (b || c)) ≡ ((a || b) || c)
    grouped true b c = refl
    grouped false b c = refl

pub put_page : (frame : Frame) (count at value : ℕ) (v : View) → page_of (put_in_view frame count at value v) ≡ put_in_frame frame.0 count at value (page_of v)
put_page frame count at value v = by (v.frame.0 == frame.0)
  where
    by : (b : Bool) → page_of (if b then record v { present = put_bytes count v.present at value } else v) ≡ (if b then record (page_of v) { bytes = put_bytes count v.present at value } else page_of v)
    by true = refl
    by false = refl

pub put_copied : (frame : Frame) (count at value : ℕ) (v : View) → copied (put_in_view frame count at value v) ≡ copied v
put_copied frame count at value v = by (v.frame.0 == frame.0)
  where
    by : (b : Bool) → copied (if b then record v { present = put_bytes count v.present at value } else v) ≡ copied v
    by true = refl
    by false = refl

pub mark_page_of : (vpn : Vpn) (access : Access) (v : View) → page_of (mark_view_of vpn access v) ≡ mark_page vpn.0 access (page_of v)
mark_page_of vpn access v = by access (v.vpn.0 == vpn.0)
  where
    by : (access : Access) (b : Bool) → page_of (if b then mark_view access v else v) ≡ (if b then mark access (page_of v) else page_of v)
    by access false = refl
    by Fetch true = refl
    by Read true = refl
    by Write true = refl

pub mark_copied : (vpn : Vpn) (access : Access) (v : View) → copied (mark_view_of vpn access v) ≡ copied v
mark_copied vpn access v = by access (v.vpn.0 == vpn.0)
  where
    by : (access : Access) (b : Bool) → copied (if b then mark_view access v else v) ≡ copied v
    by access false = refl
    by Fetch true = refl
    by Read true = refl
    by Write true = refl

-- the page of a number is that of the view of the number
pub find_page : (n : ℕ) (vs : List View) → find (λ (p : Page). p.number == n) (pages_of_views vs) ≡ option_map page_of (find (is_of_page (record { 0 = n })) vs)
find_page n [] = refl
find_page n (v ∷ vs) = ap (cond (v.vpn.0 == n) (Some (page_of v))) (find_page n vs) ∙ by (v.vpn.0 == n)
  where
    by : (b : Bool) → cond b (Some (page_of v)) (option_map page_of (find (is_of_page (record { 0 = n })) vs)) ≡ option_map page_of (cond b (Some v) (find (is_of_page (record { 0 = n })) vs))
    by true = refl
    by false = refl

-- an access fits its page
pub place_within : (va : ℕ) (width : Width) → va % size_of width ≡ 0 → va % 4096 + size_of width < 4097
place_within va Byte aligned = omega arith
place_within va Half aligned = omega (arith, aligned)
place_within va Word aligned = omega (arith, aligned)

-- a list whose length stays is what was written over it
pub written_over : (n : ℕ) (xs ys : List View) → n ≡ length xs → length ys ≡ length xs → take n (ys ++ drop (length ys) xs) ≡ ys
written_over n xs ys whole same = take-append-le n ys (drop (length ys) xs) (omega (arith, same)) ∙ take_all n ys (omega (arith, same))

-- the present views, each changed, are present
pub first_mapped : (f : View → View) (count : ℕ) (xs : List View) → count ≤ length xs → take count (map f (take count xs) ++ drop count xs) ≡ map f (take count xs)
first_mapped f count xs within =
    let size : length (map f (take count xs)) ≡ count = omega (arith, length-map f (take count xs), length-take-le count xs within) in
    take-append-le count (map f (take count xs)) (drop count xs) (omega (arith, size)) ∙ take_all count (map f (take count xs)) (omega (arith, size))

pub length-mapped : (f : View → View) (count : ℕ) (xs : List View) → count ≤ length xs → length (map f (take count xs) ++ drop count xs) ≡ length xs
length-mapped f count xs within =
    omega (arith, length-append (map f (take count xs)) (drop count xs), length-map f (take count xs), length-take-le count xs within, length-drop count xs)

pub table_changed : (f : View → View) → ((v : View) → copied (f v) ≡ copied v) → (most count : ℕ) (xs ys : List View) → IsTable most xs count → ys ≡ map f (take count xs) ++ drop count xs → IsTable most ys count
table_changed f same most count xs ys table became =
    let size : length ys ≡ length xs = ap length became ∙ length-mapped f count xs table.within in
    record {
      bounded = table.bounded;
      all = omega (arith, size, table.all);
      few = table.few;
      within = omega (arith, size, table.within);
      one_a_page = subst HaveOneViewAPage (sym (ap (take count) became ∙ first_mapped f count xs table.within)) (one_mapped f same (take count xs) table.one_a_page);
    }

-- no view is that of a page where none is found
pub not_found : (vpn : Vpn) (vs : List View) → find (is_of_page vpn) vs ≡ None → (k : ℕ) (d : View) → k < length vs → (get_or vs k d).vpn.0 ≢ vpn.0
not_found vpn [] none k d within = λ e. absurd (omega (arith, within))
not_found vpn (v ∷ vs) none k d within = by (v.vpn.0 == vpn.0) refl none (λ absent j below. not_found vpn vs absent j d below) k within
  where
    true_false : true ≡ false → ⊥
    true_false e = cc

    by : (b : Bool) → (v.vpn.0 == vpn.0) ≡ b → cond b (Some v) (find (is_of_page vpn) vs) ≡ None
        → (find (is_of_page vpn) vs ≡ None → (j : ℕ) → j < length vs → (get_or vs j d).vpn.0 ≢ vpn.0) → (k : ℕ) → k < length (v ∷ vs) → (get_or (v ∷ vs) k d).vpn.0 ≢ vpn.0
    by true e none others k within = λ same. cc
    by false e none others zero within = λ same. true_false (sym (eq-eqb v.vpn.0 vpn.0 same) ∙ e)
    by false e none others (suc k) within = others none k (omega (arith, within))

-- what a comparison with the page of a view answers
pub same_page : (v : View) (vpn seen : Vpn) (b : Bool) → seen ≡ v.vpn → b ≡ (seen.0 == vpn.0) → b ≡ true → v.vpn.0 ≡ vpn.0
same_page v vpn seen b is equal told = sym (ap (λ (n : Vpn). n.0) is) ∙ eqb-true seen.0 vpn.0 (sym equal ∙ told)

pub neq-eqb : (a b : ℕ) → a ≢ b → (a == b) ≡ false
neq-eqb a b other = by (a == b) refl
  where
    by : (c : Bool) → (a == b) ≡ c → (a == b) ≡ false
    by true e = absurd (other (eqb-true a b e))
    by false e = e

-- what stands at a place doesn't depend on what stands nowhere
pub same_at : (i : ℕ) (vs : List View) (d e : View) → i < length vs → get_or vs i d ≡ get_or vs i e
same_at i [] d e within = absurd (omega (arith, within))
same_at zero (v ∷ vs) d e within = refl
same_at (suc i) (v ∷ vs) d e within = same_at i vs d e (omega (arith, within))

-- the view at a place is the one of its page
pub found_at : (vpn : Vpn) (i : ℕ) (vs : List View) (d : View) → HaveOneViewAPage vs → i < length vs → (get_or vs i d).vpn.0 ≡ vpn.0 → find (is_of_page vpn) vs ≡ Some (get_or vs i d)
found_at vpn i [] d one within same = absurd (omega (arith, within))
found_at vpn zero (v ∷ vs) d one within same = ap (λ (b : Bool). cond b (Some v) (find (is_of_page vpn) vs)) (eq-eqb v.vpn.0 vpn.0 same)
found_at vpn (suc i) (v ∷ vs) d one within same =
    ap (λ (b : Bool). cond b (Some v) (find (is_of_page vpn) vs)) (neq-eqb v.vpn.0 vpn.0 (λ e. one zero (suc i) d (omega arith) (omega (arith, within)) (e ∙ sym same)))
    ∙ found_at vpn i vs d (λ j k e below last. one (suc j) (suc k) e (omega (arith, below)) (omega (arith, last))) (omega (arith, within)) same

-- a change of those views alone that have a number, of which there is one
module _ (number : View → ℕ) (m : ℕ) (f : View → View) (others : (v : View) → number v ≢ m → f v ≡ v) where
  unchanged : (n : ℕ) (vs : List View) → ((k : ℕ) (d : View) → k < length (take n vs) → number (get_or (take n vs) k d) ≢ m) → map f (take n vs) ++ drop n vs ≡ vs
  unchanged zero vs other = refl
  unchanged (suc n) [] other = refl
  unchanged (suc n) (v ∷ vs) other =
      ap₂ (λ (w : View) (ws : List View). w ∷ ws) (others v (other zero v (omega arith))) (unchanged n vs (λ k d within. other (suc k) d (omega (arith, within))))

  pub changed_at : (i n : ℕ) (vs : List View) (d : View) → AllPairs (λ a b. number a ≢ number b) (take n vs) → i < n → n ≤ length vs → number (get_or vs i d) ≡ m
      → set vs i (f (get_or vs i d)) ≡ map f (take n vs) ++ drop n vs
  changed_at i zero vs d one here within same = absurd (omega (arith, here))
  changed_at i (suc n) [] d one here within same = absurd (omega (arith, within))
  changed_at zero (suc n) (v ∷ vs) d one here within same =
      ap (λ (ws : List View). f v ∷ ws) (sym (unchanged n vs (λ k e last. λ other. one zero (suc k) e (omega arith) (omega (arith, last)) (same ∙ sym other))))
  changed_at (suc i) (suc n) (v ∷ vs) d one here within same =
      let size : length (take n vs) ≡ n = length-take-le n vs (omega (arith, within)) in
      let there : get_or (take n vs) i d ≡ get_or vs i d = get_or-take n vs i d (omega (arith, here)) in
      ap₂ (λ (w : View) (ws : List View). w ∷ ws) (sym (others v (λ e. one zero (suc i) d (omega arith) (omega (arith, here, size)) (e ∙ (sym same ∙ ap number (sym there))))))
      (changed_at i n vs d (λ j k e below last. one (suc j) (suc k) e (omega (arith, below)) (omega (arith, last))) (omega (arith, here)) (omega (arith, within)) same)

-- what stands at a place of the views
pub frame_there : (n i : ℕ) (xs : List View) (w v : View) → n ≤ length xs → w ≡ get_or xs i w → slice_get (take n xs) i ≡ Some v → w ≡ v
frame_there n i xs w v most is at =
    let within : i < length (take n xs) = slice_get_within (take n xs) i v at in
    let below : i < n = omega (arith, within, length-take-le n xs most) in
    is ∙ (sym (get_or-take n xs i w below) ∙ get_or_from_slice_get (take n xs) i v w at)

-- the view at a place is that of its page
pub place_found : (vpn : Vpn) (n i : ℕ) (xs : List View) (v : View) → HaveOneViewAPage (take n xs) → n ≤ length xs → i < n → v ≡ get_or xs i v → v.vpn.0 ≡ vpn.0 → slice_get (take n xs) i ≡ find (is_of_page vpn) (take n xs)
place_found vpn n i xs v one most below is same =
    let within : i < length (take n xs) = omega (arith, below, length-take-le n xs most) in
    let there : v ≡ get_or (take n xs) i v = is ∙ sym (get_or-take n xs i v below) in
    slice_get-get_or (take n xs) i v within ∙ sym (found_at vpn i (take n xs) v one within (ap (λ (w : View). w.vpn.0) (sym there) ∙ same))

-- the mark of the view that is found at a place
pub marked_there : (vpn : Vpn) (access : Access) (n i : ℕ) (xs : List View) (v new : View) → HaveOneViewAPage (take n xs) → n ≤ length xs → i < length (take n xs) → slice_get (take n xs) i ≡ find (is_of_page vpn) (take n xs)
    → v ≡ get_or xs i v → new ≡ mark_view access v → set xs i new ≡ map (mark_view_of vpn access) (take n xs) ++ drop n xs
marked_there vpn access n i xs v new one most within found is marked =
    let below : i < n = omega (arith, within, length-take-le n xs most) in
    let there : get_or (take n xs) i v ≡ v = get_or-take n xs i v below ∙ sym is in
    let passes = find-passes (is_of_page vpn) (take n xs) v (sym found ∙ slice_get-get_or (take n xs) i v within ∙ ap (λ (w : View). Some w) there) in
    ap (set xs i) (marked ∙ sym (ap (λ (b : Bool). if b then mark_view access v else v) passes) ∙ ap (mark_view_of vpn access) is)
    ∙ changed_at (λ w. w.vpn.0) vpn.0 (mark_view_of vpn access) (λ w other. ap (λ (b : Bool). if b then mark_view access w else w) (neq-eqb w.vpn.0 vpn.0 other)) i n xs v one below most
    (ap (λ (w : View). w.vpn.0) (sym is) ∙ eqb-true v.vpn.0 vpn.0 passes)

-- where a page has no view, none is marked
pub none_marked : (vpn : Vpn) (access : Access) (vs : List View) → find (is_of_page vpn) vs ≡ None → vs ≡ map (mark_view_of vpn access) vs
none_marked vpn access [] none = refl
none_marked vpn access (v ∷ vs) none = by (v.vpn.0 == vpn.0) none (none_marked vpn access vs)
  where
    by : (b : Bool) → cond b (Some v) (find (is_of_page vpn) vs) ≡ None → (find (is_of_page vpn) vs ≡ None → vs ≡ map (mark_view_of vpn access) vs) → v ∷ vs ≡ (if b then mark_view access v else v) ∷ map (mark_view_of vpn access) vs
    by true none rest = absurd (cc)
    by false none rest = ap (λ (ws : List View). v ∷ ws) (rest none)

-- the bytes in the view at a place, where no other one is of its frame
pub put_there : (count at value n i : ℕ) (xs : List View) (v new : View) → HaveOneViewAFrame (take n xs) → n ≤ length xs → i < length (take n xs) → v ≡ get_or xs i v → new ≡ record v { present = put_bytes count v.present at value }
    → set xs i new ≡ map (put_in_view v.frame count at value) (take n xs) ++ drop n xs
put_there count at value n i xs v new one most within is put =
    let below : i < n = omega (arith, within, length-take-le n xs most) in
    let f = put_in_view v.frame count at value in
    ap (set xs i) (put ∙ sym (ap (λ (b : Bool). if b then record v { present = put_bytes count v.present at value } else v) (eq-eqb v.frame.0 v.frame.0 refl)) ∙ ap f is)
    ∙ changed_at (λ w. w.frame.0) v.frame.0 f (λ w other. ap (λ (b : Bool). if b then record w { present = put_bytes count w.present at value } else w) (neq-eqb w.frame.0 v.frame.0 other)) i n xs v one below most
    (ap (λ (w : View). w.frame.0) (sym is))

-- the table, once its views were changed
pub table_after : (f : View → View) (most count : ℕ) (xs ys : List View) → count ≤ length xs → ys ≡ map f (take count xs) ++ drop count xs → table_of most count ys ≡ record (table_of most count xs) { views = map f (take count xs) }
table_after f most count xs ys within became =
    let front : length (map f (take count xs)) ≡ count = omega (arith, length-map f (take count xs), length-take-le count xs within) in
    let behind : drop count ys ≡ drop count xs = ap (drop count) became ∙ ap (λ (n : ℕ). drop n (map f (take count xs) ++ drop count xs)) (sym front) ∙ drop-append_seam (map f (take count xs)) (drop count xs) in
    ap₂ (λ (vs : List View) (ks : List (Option Dated)). let t : Table = record { most = most; views = vs; kept = ks } in t) (ap (take count) became ∙ first_mapped f count xs within)
    (ap (map dated) behind)

pub first_true : (a b : Bool) → (a && b) ≡ true → a ≡ true
first_true true b e = refl
first_true false b e = e

pub second_true : (a b : Bool) → (a && b) ≡ true → b ≡ true
second_true true b e = e
second_true false b e = cc

is_none_where : (o : Option View) → not (is_some o) ≡ true → o ≡ None
is_none_where None e = refl
is_none_where (Some v) e = cc

-- a page that can be filled has no view
pub no_view : (most : ℕ) (vs : List View) (vpn : Vpn) → can_fill most vs vpn ≡ true → find (is_of_page vpn) vs ≡ None
no_view most vs vpn room = is_none_where (find (is_of_page vpn) vs) (second_true _ _ room)

-- no page has two views, when a view of another page is added
pub one_filled : (most : ℕ) (vs : List View) (v : View) → can_fill most vs v.vpn ≡ true → HaveOneViewAPage vs → HaveOneViewAPage (vs ++ v ∷ [])
one_filled most vs v room one = all_pairs_push (λ (a b : View). a.vpn.0 ≢ b.vpn.0) vs v one (not_found v.vpn vs (no_view most vs v.vpn room))

-- there are fewer views than there may be where a page can be filled
pub free_place : (most count : ℕ) (xs : List View) (vpn : Vpn) → IsTable most xs count → can_fill most (take count xs) vpn ≡ true → count < most
free_place most count xs vpn table room =
    let taken : length (take count xs) ≡ count = length-take-le count xs table.within in
    omega (arith, ltb-true (length (take count xs)) most (first_true _ _ room), taken)

-- .. and so there is a slot behind them
pub slot_behind : (most count : ℕ) (slots : List View) (vpn : Vpn) → IsTable most slots count → can_fill most (take count slots) vpn ≡ true → count < length slots
slot_behind most count slots vpn table room = omega (arith, free_place most count slots vpn table room, table.all)

-- without views the count is 0
pub cleared_count : (count : ℕ) (slots : List View) → count ≤ length slots → take count slots ≡ [] → count ≡ 0
cleared_count count slots within none = omega (arith, length-take-le count slots within, ap length none)

pub table_filled : (most n count : ℕ) (xs ys : List View) (v : View) → n ≡ length xs → count < length xs → IsTable most xs count → can_fill most (take count xs) v.vpn ≡ true → ys ≡ set xs count v
    → IsTable most (take n (ys ++ drop (length ys) xs)) (count + 1)
table_filled most n count xs ys v whole below table room became =
    let size : length ys ≡ length xs = ap length became ∙ length-set xs count v in
    rw (written_over n xs ys whole size) (record {
      bounded = table.bounded;
      all = omega (arith, size, table.all);
      few = omega (arith, free_place most count xs v.vpn table room);
      within = omega (arith, size, below);
      one_a_page = subst HaveOneViewAPage (sym (ap (take (count + 1)) became ∙ take_more_set xs count v below))
          (one_filled most (take count xs) v room table.one_a_page);
    })

-- the part before a place and the rest with its first element replaced
pub set_between : (n : ℕ) (xs : List View) (v : View) → n < length xs → take n xs ++ set (drop n xs) 0 v ≡ set xs n v
set_between zero [] v within = absurd (omega (arith, within))
set_between zero (x ∷ xs) v within = refl
set_between (suc n) [] v within = absurd (omega (arith, within))
set_between (suc n) (x ∷ xs) v within = ap (λ (ys : List View). x ∷ ys) (set_between n xs v (omega (arith, within)))

flags_allow : (access : Access) (v : View) → allows access (page_of v) ≡ wants access v.flags
flags_allow Fetch v = refl
flags_allow Read v = refl
flags_allow Write v = refl

-- an access goes through the page of the view that it goes through
pub translation_is : (vs : List View) (access : Access) (va : ℕ) → translation (pages_of_views vs) va access ≡ option_map page_of (view_through vs access va)
unfolding translation
translation_is vs access va = ap (where_allowed access) (find_page (va / 4096) vs) ∙ by (find (is_of_page (record { 0 = va / 4096 })) vs)
  where
    test : (v : View) (b : Bool) → (if b then Some (page_of v) else None) ≡ option_map page_of (if b then Some v else None)
    test v true = refl
    test v false = refl

    by : (o : Option View) → where_allowed access (option_map page_of o) ≡ option_map page_of (where_flagged access o)
    by None = refl
    by (Some v) = ap (λ (b : Bool). if b then Some (page_of v) else None) (flags_allow access v) ∙ test v (wants access v.flags)

pub translates_is : (vs : List View) (access : Access) (va : ℕ) → translates (pages_of_views vs) va access ≡ is_some (view_through vs access va)
unfolding translates
translates_is vs access va = ap is_some (translation_is vs access va) ∙ by (view_through vs access va)
  where
    by : (o : Option View) → is_some (option_map page_of o) ≡ is_some o
    by None = refl
    by (Some v) = refl

pub read_is : (vs : List View) (access : Access) (va : ℕ) (width : Width) → read_through access (pages_of_views vs) va width ≡ option_map (λ (v : View). number_at width v.present (va % 4096)) (view_through vs access va)
unfolding read_through
read_is vs access va width = ap (option_map (λ (p : Page). number_at width p.bytes (va % 4096))) (translation_is vs access va) ∙ by (view_through vs access va)
  where
    by : (o : Option View) → option_map (λ (p : Page). number_at width p.bytes (va % 4096)) (option_map page_of o) ≡ option_map (λ (v : View). number_at width v.present (va % 4096)) o
    by None = refl
    by (Some v) = refl

pub stored_is : (vs : List View) (va : ℕ) (width : Width) (value : ℕ) (v : View) → view_through vs Write va ≡ Some v → pages_of_views (map (put_in_view v.frame (size_of width) (va % 4096) value) vs) ≡ stored (pages_of_views vs) va width value
unfolding stored
stored_is vs va width value v through =
    pages_mapped (put_in_view v.frame (size_of width) (va % 4096) value) (put_in_frame v.frame.0 (size_of width) (va % 4096) value) (put_page v.frame (size_of width) (va % 4096) value) vs
    ∙ ap (λ (o : Option Page). stored_through o (pages_of_views vs) va width value) (sym (translation_is vs Write va ∙ ap (option_map page_of) through))

pub not_stored : (vs : List View) (va : ℕ) (width : Width) (value : ℕ) → view_through vs Write va ≡ None → pages_of_views vs ≡ stored (pages_of_views vs) va width value
unfolding stored
not_stored vs va width value through = ap (λ (o : Option Page). stored_through o (pages_of_views vs) va width value) (sym (translation_is vs Write va ∙ ap (option_map page_of) through))

pub touched_is : (vs : List View) (va : ℕ) (access : Access) → pages_of_views (map (mark_view_of (record { 0 = va / 4096 }) access) vs) ≡ touched_at (pages_of_views vs) va access
unfolding touched_at
touched_is vs va access = pages_mapped (mark_view_of (record { 0 = va / 4096 }) access) (mark_page (va / 4096) access) (mark_page_of (record { 0 = va / 4096 }) access) vs
