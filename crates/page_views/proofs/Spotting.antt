-- What is noted of views that let accesses through, and that it stays so.
use Rattle.std.proofs.Common.{◌≡◌, ℕ, zero, suc, ◌+◌, ◌<◌, ◌≤◌, ◌%◌, Bool, true, false, List, [], ◌∷◌, ◌++◌, map, length, take, drop, set, get_or, Some, None, refl, ap, ap₂, sym, ◌∙◌, subst, arith, inl, inr, eq-eqb}
use Rattle.std.specs.Prelude.{◌==◌, slice_get, replicate, if◌then◌else◌}
use Rattle.std.specs.List.{find}
use Rattle.std.specs.Option.{option_map}
use Rattle.std.proofs.lemmas.Bool.{eqb-true}
use Rattle.std.proofs.lemmas.Option.{get_or_from_slice_get, same_Some, slice_get-get_or, slice_get-map, slice_get_within}
use Rattle.cache_ident.specs.declared.names.Vpn.{Vpn}
use Rattle.cache_ident.specs.declared.names.Frame.{Frame}
use Rattle.phys_groups.specs.declared.rows.Flags.{Flags}
use Rattle.rv32_exec.specs.declared.statuses.Access.{Access}
use Rattle.rv32_exec.specs.declared.statuses.Access.TheVariants.{Fetch, Read, Write}
use Rattle.rv32_exec.specs.Pages.{is_write, put_bytes}
use Rattle.flat_rules.specs.flat_state.specs.Translation.{wants}
use Rattle.flat_rules.specs.flat_state.proofs.Finding.{find-passes}
use Rattle.flat_rules.specs.flat_state.proofs.Places.{get-append, set_cases}
use Rattle.page_views.specs.declared.page.Origin.{Origin}
use Rattle.page_views.specs.declared.spots.Found.{Found}
use Rattle.page_views.specs.declared.spots.FoundLines.{FoundLines}
use Rattle.page_views.specs.declared.spots.Spot.{Spot}
use Rattle.page_views.specs.declared.spots.Spots.{Spots}
use Rattle.page_views.specs.Spots.{added, found_if, marked_with, no_found, no_spot, no_spots, noted_if, with_found, AreAllSpotted, AreSpotted, IsFound, IsNoted, IsSpotted}
use Rattle.page_views.specs.Views.{copied, is_of_page, mark_view, mark_view_of, put_in_view, where_flagged, Copied, HaveOneViewAPage, View}
use Rattle.std.proofs.lemmas.List.{get_or-take, length-take-le, take_more_set}
use Rattle.std.proofs.Math.ListN.{length-set}
use Rattle.page_views.proofs.Tables.{first_mapped, found_at, mark_copied, put_copied, written_over}

-- where nothing is noted
none_at : (n k : ℕ) (x f : Found) → slice_get (replicate n x) k ≡ Some f → f ≡ x
none_at zero k x f e = absurd (cc)
none_at (suc n) zero x f e = sym (same_Some x f e)
none_at (suc n) (suc k) x f e = none_at n k x f e

no_page : (page place : ℕ) → no_spot ≡ record { page = page; place = place } → page < 1048576 → ⊥
no_page page place is low = omega (arith, low, ap (λ (t : Spot). t.page) is)

no_page_found : (page place : ℕ) (marked : Bool) → slice_get (replicate 64 no_found) (page % 64) ≡ Some (record { page = page; place = place; marked = marked }) → page < 1048576 → ⊥
no_page_found page place marked is low =
    let same = none_at 64 (page % 64) no_found (record { page = page; place = place; marked = marked }) is in
    omega (arith, low, ap (λ (f : Found). f.page) same)

pub none_spotted : (vs : List View) → AreAllSpotted vs no_spots
none_spotted vs Fetch = λ page place marked is low. absurd (no_page page place is.0 low)
none_spotted vs Read = λ page place marked is low. absurd (no_page_found page place marked is low)
none_spotted vs Write = λ page place marked is low. absurd (no_page_found page place marked is low)

-- a view more
pub spotted_more : (vs ws : List View) (s : Spots) → AreAllSpotted vs s → AreAllSpotted (vs ++ ws) s
spotted_more vs ws s all = λ access page place marked is low.
    let old = all access page place marked is low in
    record {
      view = old.view;
      there = get-append vs ws place old.view old.there;
      page_is = old.page_is;
      allowed = old.allowed;
      touched = old.touched;
      written = old.written;
    }

-- views that are changed, but for what was copied, and that keep their marks
module _ (f : View → View) (same : (v : View) → copied (f v) ≡ copied v) (touched : (v : View) → v.touched ≡ true → (f v).touched ≡ true) (written : (v : View) → v.written ≡ true → (f v).written ≡ true) where
  spot_mapped : (access : Access) (vs : List View) (page place : ℕ) (marked : Bool) → IsSpotted access vs page place marked → IsSpotted access (map f vs) page place marked
  spot_mapped access vs page place marked old =
      record {
        view = f old.view;
        there = slice_get-map f vs place ∙ ap (option_map f) old.there;
        page_is = ap (λ (c : Copied). c.vpn.0) (same old.view) ∙ old.page_is;
        allowed = ap (λ (c : Copied). wants access c.flags) (same old.view) ∙ old.allowed;
        touched = λ has. touched old.view (old.touched has);
        written = λ has write. written old.view (old.written has write);
      }

  pub spotted_mapped : (vs : List View) (s : Spots) → AreAllSpotted vs s → AreAllSpotted (map f vs) s
  spotted_mapped vs s all = λ access page place marked is low. spot_mapped access vs page place marked (all access page place marked is low)

-- a store leaves marks
pub put_touched : (frame : Frame) (count at value : ℕ) (v : View) → v.touched ≡ true → (put_in_view frame count at value v).touched ≡ true
put_touched frame count at value v is = by (v.frame.0 == frame.0)
  where
    by : (b : Bool) → (if b then record v { present = put_bytes count v.present at value } else v).touched ≡ true
    by true = is
    by false = is

pub put_written : (frame : Frame) (count at value : ℕ) (v : View) → v.written ≡ true → (put_in_view frame count at value v).written ≡ true
put_written frame count at value v is = by (v.frame.0 == frame.0)
  where
    by : (b : Bool) → (if b then record v { present = put_bytes count v.present at value } else v).written ≡ true
    by true = is
    by false = is

-- .. and so does a mark
pub mark_touched : (vpn : Vpn) (access : Access) (v : View) → v.touched ≡ true → (mark_view_of vpn access v).touched ≡ true
mark_touched vpn access v is = by access (v.vpn.0 == vpn.0)
  where
    by : (access : Access) (b : Bool) → (if b then mark_view access v else v).touched ≡ true
    by access false = is
    by Fetch true = refl
    by Read true = refl
    by Write true = refl

pub mark_written : (vpn : Vpn) (access : Access) (v : View) → v.written ≡ true → (mark_view_of vpn access v).written ≡ true
mark_written vpn access v is = by access (v.vpn.0 == vpn.0)
  where
    by : (access : Access) (b : Bool) → (if b then mark_view access v else v).written ≡ true
    by access false = is
    by Fetch true = is
    by Read true = is
    by Write true = refl

-- a view that is noted is the one of its page
pub spot_found : (access : Access) (vs : List View) (s : Spots) (page place : ℕ) (marked : Bool) → HaveOneViewAPage vs → AreSpotted access vs s → IsNoted access s page place marked → page < 1048576
    → (v : View) × (slice_get vs place ≡ Some v) × (find (is_of_page (record { 0 = page })) vs ≡ Some v) × (wants access v.flags ≡ true) × (marked ≡ true → v.touched ≡ true) × (marked ≡ true → is_write access ≡ true → v.written ≡ true)
spot_found access vs s page place marked one all is low =
    let at = all page place marked is low in
    let here = get_or_from_slice_get vs place at.view at.view at.there in
    (at.view, at.there, found_at (record { 0 = page }) place vs at.view one (slice_get_within vs place at.view at.there) (ap (λ (v : View). v.vpn.0) here ∙ at.page_is) ∙ ap (λ (v : View). Some v) here, at.allowed, at.touched, at.written)

-- an access goes through it
pub spot_through : (access : Access) (vs : List View) (s : Spots) (page place : ℕ) (marked : Bool) → HaveOneViewAPage vs → AreSpotted access vs s → IsNoted access s page place marked → page < 1048576
    → slice_get vs place ≡ where_flagged access (find (is_of_page (record { 0 = page })) vs)
spot_through access vs s page place marked one all is low =
    let at = spot_found access vs s page place marked one all is low in
    at.1 ∙ sym (ap (where_flagged access) at.2 ∙ ap (λ (b : Bool). if b then Some at.0 else None) at.3)

-- a view that has a mark stays as it is with it
marked_stays : (access : Access) (v : View) → v.touched ≡ true → (is_write access ≡ true → v.written ≡ true) → mark_view access v ≡ v
marked_stays Fetch v touched written = ap (λ (b : Bool). record v { touched = b }) (sym touched)
marked_stays Read v touched written = ap (λ (b : Bool). record v { touched = b }) (sym touched)
marked_stays Write v touched written = ap₂ (λ (a b : Bool). record v { touched = a; written = b }) (sym touched) (sym (written refl))

-- the others aren't of the page
stays_behind : (vpn : Vpn) (access : Access) (vs : List View) → ((k : ℕ) (w : View) → slice_get vs k ≡ Some w → w.vpn.0 ≡ vpn.0 → mark_view access w ≡ w) → map (mark_view_of vpn access) vs ≡ vs
stays_behind vpn access [] each = refl
stays_behind vpn access (v ∷ vs) each =
    ap₂ (λ (w : View) (ws : List View). w ∷ ws) (by (v.vpn.0 == vpn.0) refl) (stays_behind vpn access vs (λ k w there. each (suc k) w there))
  where
    by : (b : Bool) → (v.vpn.0 == vpn.0) ≡ b → (if b then mark_view access v else v) ≡ v
    by true same = each zero v refl (eqb-true v.vpn.0 vpn.0 same)
    by false other = refl

-- the views are as they are marked where the one of the page has the mark
pub marked_already : (access : Access) (vs : List View) (s : Spots) (page place : ℕ) → HaveOneViewAPage vs → AreSpotted access vs s → IsNoted access s page place true → page < 1048576
    → vs ≡ map (mark_view_of (record { 0 = page }) access) vs
marked_already access vs s page place one all is low =
    let at = spot_found access vs s page place true one all is low in
    sym (stays_behind (record { 0 = page }) access vs
    (λ k w there same.
    let here = get_or_from_slice_get vs k w w there in
    let it : w ≡ at.0 = same_Some w at.0 (ap (λ (v : View). Some v) (sym here) ∙ sym (found_at (record { 0 = page }) k vs w one (slice_get_within vs k w there) (ap (λ (v : View). v.vpn.0) here ∙ same)) ∙ at.2) in
    marked_stays access w (ap (λ (v : View). v.touched) it ∙ at.4 refl) (λ write. ap (λ (v : View). v.written) it ∙ at.5 refl write)))

-- one more view of a page is noted among those of a kind
lines_noted : (access : Access) (vs : List View) (f : FoundLines) (page place : ℕ) (marked : Bool) → IsSpotted access vs page place marked
    → ((p at : ℕ) (m : Bool) → IsFound f p at m → p < 1048576 → IsSpotted access vs p at m) → (p at : ℕ) (m : Bool) → IsFound (with_found page place marked f) p at m → p < 1048576 → IsSpotted access vs p at m
lines_noted access vs f page place marked new all p at m is low =
    elim (set_cases f.lines (page % 64) (p % 64) (record { page = page; place = place; marked = marked }) (record { page = p; place = at; marked = m }) is) [
      | inl here ↦ subst (λ (it : Found). IsSpotted access vs it.page it.place it.marked) here.1 new
      | inr other ↦ all p at m other low
    ]

-- the view of a page is noted for a kind of access, with the mark
pub marked_noted : (access : Access) (vs : List View) (s : Spots) (page place : ℕ) → IsSpotted access vs page place true → AreAllSpotted vs s → AreAllSpotted vs (marked_with page access place s)
marked_noted Fetch vs s page place new all Fetch = λ p at marked is low.
    subst (λ (m : Bool). IsSpotted Fetch vs p at m) (sym is.1) (subst (λ (it : Spot). IsSpotted Fetch vs it.page it.place true) is.0 new)
marked_noted Fetch vs s page place new all Read = all Read
marked_noted Fetch vs s page place new all Write = all Write
marked_noted Read vs s page place new all Fetch = all Fetch
marked_noted Read vs s page place new all Read = lines_noted Read vs s.reads page place true new (all Read)
marked_noted Read vs s page place new all Write = all Write
marked_noted Write vs s page place new all Fetch = all Fetch
marked_noted Write vs s page place new all Read = all Read
marked_noted Write vs s page place new all Write = lines_noted Write vs s.writes page place true new (all Write)

-- the view that was marked has the mark of the access
pub newly_marked : (access : Access) (vs : List View) (page place : ℕ) (v : View) → slice_get vs place ≡ Some v → v.vpn.0 ≡ page → wants access v.flags ≡ true
    → IsSpotted access (map (mark_view_of (record { 0 = page }) access) vs) page place true
newly_marked access vs page place v there same allowed =
    let f = mark_view_of (record { 0 = page }) access in
    let is : f v ≡ mark_view access v = ap (λ (b : Bool). if b then mark_view access v else v) (eq-eqb v.vpn.0 page same) in
    let kept = mark_copied (record { 0 = page }) access v in
    record {
      view = f v;
      there = slice_get-map f vs place ∙ ap (option_map f) there;
      page_is = ap (λ (c : Copied). c.vpn.0) kept ∙ same;
      allowed = ap (λ (c : Copied). wants access c.flags) kept ∙ allowed;
      touched = λ has. ap (λ (w : View). w.touched) is ∙ mark_touches access;
      written = λ has write. ap (λ (w : View). w.written) is ∙ mark_writes access write;
    }
  where
    mark_touches : (access : Access) → (mark_view access v).touched ≡ true
    mark_touches Fetch = refl
    mark_touches Read = refl
    mark_touches Write = refl

    mark_writes : (access : Access) → is_write access ≡ true → (mark_view access v).written ≡ true
    mark_writes Fetch write = absurd (cc)
    mark_writes Read write = absurd (cc)
    mark_writes Write write = refl

-- a view that was filled is noted for the loads and stores that it lets through
newly_found : (access : Access) (vs : List View) (page place : ℕ) (v : View) → slice_get vs place ≡ Some v → v.vpn.0 ≡ page → wants access v.flags ≡ true → IsSpotted access vs page place false
newly_found access vs page place v there same allowed =
    record {
      view = v;
      there = there;
      page_is = same;
      allowed = allowed;
      touched = λ has. absurd (cc);
      written = λ has write. absurd (cc);
    }

found_noted : (access : Access) (allowed : Bool) (vs : List View) (f : FoundLines) (page place : ℕ) (v : View) → slice_get vs place ≡ Some v → v.vpn.0 ≡ page → wants access v.flags ≡ allowed
    → ((p at : ℕ) (m : Bool) → IsFound f p at m → p < 1048576 → IsSpotted access vs p at m) → (p at : ℕ) (m : Bool) → IsFound (found_if allowed page place f) p at m → p < 1048576 → IsSpotted access vs p at m
found_noted access true vs f page place v there same allowed all = lines_noted access vs f page place false (newly_found access vs page place v there same allowed) all
found_noted access false vs f page place v there same allowed all = all

pub spotted_added : (vs : List View) (s : Spots) (o : Origin) (place : ℕ) (v : View) → slice_get vs place ≡ Some v → v.vpn ≡ o.vpn → v.flags ≡ o.flags → AreAllSpotted vs s → AreAllSpotted vs (added o place s)
spotted_added vs s o place v there vpn flags all Fetch = all Fetch
spotted_added vs s o place v there vpn flags all Read = found_noted Read o.flags.r vs s.reads o.vpn.0 place v there (ap (λ (p : Vpn). p.0) vpn) (ap (λ (f : Flags). f.r) flags) (all Read)
spotted_added vs s o place v there vpn flags all Write = found_noted Write o.flags.w vs s.writes o.vpn.0 place v there (ap (λ (p : Vpn). p.0) vpn) (ap (λ (f : Flags). f.w) flags) (all Write)

-- what is noted of the views that there are, once one was added in a slot
pub spotted_filled : (n count : ℕ) (xs ys : List View) (v : View) (o : Origin) (s : Spots) → n ≡ length xs → count < length xs → ys ≡ set xs count v → v.vpn ≡ o.vpn → v.flags ≡ o.flags → AreAllSpotted (take count xs) s
    → AreAllSpotted (take (count + 1) (take n (ys ++ drop (length ys) xs))) (added o count s)
spotted_filled n count xs ys v o s whole below became vpn flags all =
    let size : length ys ≡ length xs = ap length became ∙ length-set xs count v in
    let first : length (take count xs) ≡ count = length-take-le count xs (omega arith) in
    rw (written_over n xs ys whole size)
    (subst (λ (vs : List View). AreAllSpotted vs (added o count s)) (sym (ap (take (count + 1)) became ∙ take_more_set xs count v below))
    (spotted_added (take count xs ++ v ∷ []) s o count v (last_of (take count xs) v count (sym first)) vpn flags (spotted_more (take count xs) (v ∷ []) s all)))
  where
    last_of : (vs : List View) (v : View) (k : ℕ) → k ≡ length vs → slice_get (vs ++ v ∷ []) k ≡ Some v
    last_of [] v zero is = refl
    last_of [] v (suc k) is = absurd (omega (arith, is))
    last_of (u ∷ vs) v zero is = absurd (omega (arith, is))
    last_of (u ∷ vs) v (suc k) is = last_of vs v k (omega (arith, is))

-- .. and once a store went to a frame, or an access left its mark
pub spotted_put : (frame : Frame) (size at value count : ℕ) (xs ys : List View) (s : Spots) → count ≤ length xs → ys ≡ map (put_in_view frame size at value) (take count xs) ++ drop count xs → AreAllSpotted (take count xs) s → AreAllSpotted (take count ys) s
spotted_put frame size at value count xs ys s within became all =
    let f = put_in_view frame size at value in
    subst (λ (vs : List View). AreAllSpotted vs s) (sym (ap (take count) became ∙ first_mapped f count xs within))
    (spotted_mapped f (put_copied frame size at value) (put_touched frame size at value) (put_written frame size at value) (take count xs) s all)

pub spotted_marked : (vpn : Vpn) (access : Access) (count : ℕ) (xs ys : List View) (s : Spots) → count ≤ length xs → ys ≡ map (mark_view_of vpn access) (take count xs) ++ drop count xs → AreAllSpotted (take count xs) s → AreAllSpotted (take count ys) s
spotted_marked vpn access count xs ys s within became all =
    let f = mark_view_of vpn access in
    subst (λ (vs : List View). AreAllSpotted vs s) (sym (ap (take count) became ∙ first_mapped f count xs within))
    (spotted_mapped f (mark_copied vpn access) (mark_touched vpn access) (mark_written vpn access) (take count xs) s all)

-- .. and the view of the mark is noted, where it lets the access through
pub marked_noted_if : (allowed : Bool) (page : ℕ) (access : Access) (count place : ℕ) (xs ys : List View) (v : View) (s : Spots) → count ≤ length xs → place < length (take count xs)
    → slice_get (take count xs) place ≡ find (is_of_page (record { 0 = page })) (take count xs) → v ≡ get_or xs place v → allowed ≡ wants access v.flags
    → ys ≡ map (mark_view_of (record { 0 = page }) access) (take count xs) ++ drop count xs → AreAllSpotted (take count xs) s → AreAllSpotted (take count ys) (noted_if allowed page access place s)
marked_noted_if false page access count place xs ys v s within below found is allowed became all = spotted_marked (record { 0 = page }) access count xs ys s within became all
marked_noted_if true page access count place xs ys v s within below found is allowed became all =
    let f = mark_view_of (record { 0 = page }) access in
    let short : place < count = omega (arith, below, length-take-le count xs within) in
    let there : slice_get (take count xs) place ≡ Some v = slice_get-get_or (take count xs) place v below ∙ ap (λ (w : View). Some w) (get_or-take count xs place v short ∙ sym is) in
    let passes = find-passes (is_of_page (record { 0 = page })) (take count xs) v (sym found ∙ there) in
    let new = newly_marked access (take count xs) page place v there (eqb-true v.vpn.0 page passes) (sym allowed) in
    marked_noted access (take count ys) s page place
    (subst (λ (vs : List View). IsSpotted access vs page place true) (sym (ap (take count) became ∙ first_mapped f count xs within)) new)
    (spotted_marked (record { 0 = page }) access count xs ys s within became all)
