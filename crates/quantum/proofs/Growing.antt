-- Views to which more are added, or which are touched once more, keep what was said of the steps before.
use Rattle.std.proofs.Common.{◌≡◌, ◌≢◌, ℕ, ◌+◌, Bool, true, false, ◌||◌, List, [], ◌∷◌, ◌++◌, map, Option, Some, None, Contains, refl, ap, ap₂, sym, ◌∙◌, subst}
use Rattle.std.specs.Prelude.{◌==◌, ◌&&◌, ◌*◌, if◌then◌else◌}
use Rattle.std.proofs.lemmas.Bool.{eqb-true}
use Rattle.std.proofs.Math.Bool.{or_assoc}
use Rattle.phys_groups.specs.declared.rows.Row.{Row}
use Rattle.phys_groups.specs.Memory.{page_at}
use Rattle.phys_groups.specs.Rows.{marked}
use Rattle.phys_groups.specs.Translation.{row_of}
use Rattle.rv32_exec.specs.Pages.{put_bytes, is_write}
use Rattle.cache_ident.specs.declared.names.Name.{Name}
use Rattle.cache_ident.specs.declared.names.Name.TheVariants.{Mapping}
use Rattle.cache_ident.specs.declared.names.SpaceNo.{SpaceNo}
use Rattle.rv32_exec.specs.Changes.{Change, Marked, Put}
use Rattle.flat_laws.specs.flat_state.specs.State.{FlatState}
use Rattle.flat_laws.proofs.Members.{Contains-filter}
use Rattle.page_views.specs.Views.{View, Copied, copied}
use Rattle.quantum.specs.LocalRun.{touched_views, GoesThrough, IsViewed, Shows}
use Rattle.quantum.specs.Made.{put_on, has_mark, has_store_mark, AreOf, changed_memory, changed_rows}
use Rattle.quantum.proofs.OneStep.{contains_filter}

-- each view is there still, and stays touched
pub record Later (ws : List View) (v : View) : Type 0 where
  pub view : View
  pub there : Contains ws view
  pub same : copied view ≡ copied v
  pub touched : v.touched ≡ true → view.touched ≡ true

pub record Grows (vs ws : List View) : Type 0 where
  pub later : (v : View) → Contains vs v → Later ws v

module _ (vs ws : List View) (grows : Grows vs ws) where
  pub touched_later : (v : View) → Contains (touched_views vs) v → (w : View) × Contains (touched_views ws) w × (copied w ≡ copied v)
  touched_later v there =
      let parts = Contains-filter (λ (u : View). u.touched) vs v there in
      let w = grows.later v parts.0 in
      (w.view, contains_filter (λ (u : View). u.touched) ws w.view w.there (w.touched parts.1), w.same)

  pub of_later : (cs : List Change) → AreOf vs cs → AreOf ws cs
  of_later [] of = tt
  of_later (Marked n access ∷ cs) of =
      let w = grows.later of.0.0 of.0.1 in
      ((w.view, w.there, ap (λ (c : Copied). c.vpn.0) w.same ∙ of.0.2), of_later cs of.1)
  of_later (Put frame count at value ∷ cs) of =
      let w = touched_later of.1.0 of.1.1 in
      (of.0, (w.0, w.1, ap (λ (c : Copied). c.frame.0) w.2 ∙ of.1.2), of_later cs of.2)

  viewed_later : (space : SpaceNo) (o : Option Name) → IsViewed space vs o → IsViewed space ws o
  viewed_later space None viewed = tt
  viewed_later space (Some name) viewed =
      let w = touched_later viewed.0 viewed.1 in
      (w.0, w.1, viewed.2 ∙ ap (λ (c : Copied). Mapping space c.vpn) (sym w.2))

  pub goes_later : (s : FlatState) (n : ℕ) (space : SpaceNo) → GoesThrough s n space vs → GoesThrough s n space ws
  goes_later s n space goes = record {
    thread = goes.thread;
    there = goes.there;
    next = goes.next;
    its = goes.its;
    runs = goes.runs;
    faults = goes.faults;
    quiet = goes.quiet;
    fetch = viewed_later space goes.next.fetch_row goes.fetch;
    access = viewed_later space goes.next.data_row goes.access;
  }

  shows_as : (s : FlatState) (space : SpaceNo) (v w : View) → copied w ≡ copied v → Shows s space w w.first → Shows s space v v.first
  shows_as s space v w same shows = record {
    row = shows.row;
    its = subst (λ (c : Copied). row_of s.rows space c.vpn.0 ≡ Some shows.row) same shows.its;
    fit = shows.fit;
    frame = shows.frame ∙ ap (λ (c : Copied). c.frame) same;
    flags = shows.flags ∙ ap (λ (c : Copied). c.flags) same;
    holds = subst (λ (c : Copied). page_at s.memory c.frame ≡ c.first) same shows.holds;
  }

  pub shows_before : (s : FlatState) (space : SpaceNo) → ((w : View) → Contains (touched_views ws) w → Shows s space w w.first) → (v : View) → Contains (touched_views vs) v → Shows s space v v.first
  shows_before s space all v there =
      let w = touched_later v there in
      shows_as s space v w.0 w.2 (all w.0 w.1)

-- ---- changes one after another

pub mark-append : (n : ℕ) (cs ds : List Change) → has_mark n (cs ++ ds) ≡ (has_mark n cs || has_mark n ds)
mark-append n [] ds = refl
mark-append n (Marked k access ∷ cs) ds = ap (λ (b : Bool). (n == k) || b) (mark-append n cs ds) ∙ sym (or_assoc (n == k) (has_mark n cs) (has_mark n ds))
mark-append n (Put frame count at value ∷ cs) ds = mark-append n cs ds

pub store_mark-append : (n : ℕ) (cs ds : List Change) → has_store_mark n (cs ++ ds) ≡ (has_store_mark n cs || has_store_mark n ds)
store_mark-append n [] ds = refl
store_mark-append n (Marked k access ∷ cs) ds = ap (λ (b : Bool). ((n == k) && is_write access) || b) (store_mark-append n cs ds) ∙ sym (or_assoc ((n == k) && is_write access) (has_store_mark n cs) (has_store_mark n ds))
store_mark-append n (Put frame count at value ∷ cs) ds = store_mark-append n cs ds

pub put-append : (cs ds : List Change) (f : ℕ) (bytes : List ℕ) → put_on (cs ++ ds) f bytes ≡ put_on ds f (put_on cs f bytes)
put-append [] ds f bytes = refl
put-append (Marked n access ∷ cs) ds f bytes = put-append cs ds f bytes
put-append (Put frame count at value ∷ cs) ds f bytes = put-append cs ds f (if f == frame then put_bytes count bytes at value else bytes)

pub of-append : (vs : List View) (cs ds : List Change) → AreOf vs cs → AreOf vs ds → AreOf vs (cs ++ ds)
of-append vs [] ds first second = second
of-append vs (Marked n access ∷ cs) ds first second = (first.0, of-append vs cs ds first.1 second)
of-append vs (Put frame count at value ∷ cs) ds first second = (first.0, first.1, of-append vs cs ds first.2 second)

pub memory-append : (cs ds : List Change) (m : List ℕ) → changed_memory (cs ++ ds) m ≡ changed_memory ds (changed_memory cs m)
memory-append [] ds m = refl
memory-append (Marked n access ∷ cs) ds m = memory-append cs ds m
memory-append (Put frame count at value ∷ cs) ds m = memory-append cs ds (put_bytes count m (4096 * frame + at) value)

pub rows-append : (space : SpaceNo) (cs ds : List Change) (rows : List Row) → changed_rows space (cs ++ ds) rows ≡ changed_rows space ds (changed_rows space cs rows)
rows-append space [] ds rows = refl
rows-append space (Marked n access ∷ cs) ds rows = rows-append space cs ds (map (marked space n (is_write access)) rows)
rows-append space (Put frame count at value ∷ cs) ds rows = rows-append space cs ds rows

-- a page of no view has no mark
pub not_marked : (vs : List View) (n : ℕ) (cs : List Change) → AreOf vs cs → ((v : View) → Contains vs v → v.vpn.0 ≢ n) → has_mark n cs ≡ false
not_marked vs n [] of apart = refl
not_marked vs n (Marked k access ∷ cs) of apart = ap₂ (λ (a b : Bool). a || b) (by (n == k) refl) (not_marked vs n cs of.1 apart)
  where
    by : (b : Bool) → (n == k) ≡ b → (n == k) ≡ false
    by true e = absurd (apart of.0.0 of.0.1 (of.0.2 ∙ sym (eqb-true n k e)))
    by false e = e
not_marked vs n (Put frame count at value ∷ cs) of apart = not_marked vs n cs of.2 apart

pub not_stored : (vs : List View) (n : ℕ) (cs : List Change) → AreOf vs cs → ((v : View) → Contains vs v → v.vpn.0 ≢ n) → has_store_mark n cs ≡ false
not_stored vs n [] of apart = refl
not_stored vs n (Marked k access ∷ cs) of apart = ap₂ (λ (a b : Bool). (a && is_write access) || b) (by (n == k) refl) (not_stored vs n cs of.1 apart)
  where
    by : (b : Bool) → (n == k) ≡ b → (n == k) ≡ false
    by true e = absurd (apart of.0.0 of.0.1 (of.0.2 ∙ sym (eqb-true n k e)))
    by false e = e
not_stored vs n (Put frame count at value ∷ cs) of apart = not_stored vs n cs of.2 apart

-- views that agree with the state agree with each other
pub agree : (s : FlatState) (space : SpaceNo) (u v : View) → Shows s space u u.first → Shows s space v v.first → u.frame.0 ≡ v.frame.0 → u.first ≡ v.first
agree s space u v first second same = sym first.holds ∙ (ap (λ (n : ℕ). page_at s.memory (record { 0 = n })) same ∙ second.holds)
