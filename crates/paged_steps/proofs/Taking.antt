-- What views that are taken over leave in memory and in rows.
use Rattle.std.proofs.Common.{◌≡◌, ℕ, ◌+◌, ◌*◌, ◌<◌, Bool, true, false, List, [], ◌∷◌, ◌++◌, length, map, take, get_or, Contains, Some, slice_get, refl, ap, ap₂, sym, ◌∙◌, subst, ◌⊎◌, inl, inr, arith}
use Rattle.std.specs.Prelude.{if◌then◌else◌}
use Rattle.std.proofs.lemmas.Bool.{cases_eq}
use Rattle.std.proofs.lemmas.List.{take_more, map-id}
use Rattle.std.proofs.lemmas.List.Elements.{filter-append, Contains-push_cases}
use Rattle.std.proofs.lemmas.Simd.{map-map}
use Rattle.cache_ident.specs.declared.names.Frame.{Frame}
use Rattle.cache_ident.specs.declared.names.SpaceNo.{SpaceNo}
use Rattle.phys_groups.specs.declared.rows.Row.{Row}
use Rattle.phys_groups.specs.Memory.{page_at, with_page, HasFrame}
use Rattle.phys_groups.specs.Rows.{marked}
use Rattle.phys_groups.specs.Translation.{is_row_of}
use Rattle.phys_groups.proofs.Pages.{page_at-with_page, page_at-with_page_other}
use Rattle.rv32_exec.specs.declared.contexts.Context.{Context}
use Rattle.rv32_exec.specs.declared.statuses.Status.{Status}
use Rattle.rv32_exec.specs.declared.statuses.Status.TheVariants.{Ready}
use Rattle.flat_state.specs.declared.records.FlatThread.{FlatThread}
use Rattle.flat_state.specs.State.{FlatState, with_thread}
use Rattle.flat_state.specs.WellFormed.{IsWellFormed}
use Rattle.flat_state.proofs.Finding.{find-contains}
use Rattle.flat_state.proofs.FormedParts.{memory_formed}
use Rattle.quantum.specs.flat_laws.proofs.Members.{Contains-filter}
use Rattle.memory_laws.specs.Apart.{over}
use Rattle.page_store.specs.Kept.{Kept}
use Rattle.quantum.specs.page_views.specs.Views.{View, HaveOneViewAPage, AreCopies}
use Rattle.quantum.specs.Ahead.{Ahead}
use Rattle.quantum.specs.LocalRun.{committed, status_by, touched_views, with_views, CouldRun, HaveOneContents, IsLocalRun, Shows}
use Rattle.paged_steps.specs.Aheads.{IsAheadOf, IsOfRow, IsPutIf}
use Rattle.paged_steps.specs.Marks.{mark_of, marks_by}
use Rattle.paged_steps.specs.Pages.{HasFrames}
use Rattle.paged_steps.proofs.Marked.{all_marked, marks-push}

-- ---- the state that is meant

-- tables over memory of their size are a state
pub over_formed : (tables : FlatState) (pages : Kept) (frames : ℕ) (m : List ℕ) → IsWellFormed tables → HasFrames tables pages frames → length m ≡ 4096 * pages.frames → IsWellFormed (over tables m)
over_formed tables pages frames m formed has size = memory_formed tables m formed (size ∙ sym has.size)

-- the frame of a row is one of the pages
pub row_frame : (tables : FlatState) (space : SpaceNo) (pages : Kept) (frames : ℕ) (v : View) → IsWellFormed tables → HasFrames tables pages frames → IsOfRow tables space v → v.frame.0 < pages.frames
row_frame tables space pages frames v formed has of =
    let low = (formed.rows.each of.row (find-contains (is_row_of space v.vpn.0) tables.rows of.row of.its)).frame in
    let size = formed.memory.size in
    let same = has.size in
    let equal : of.row.frame.0 ≡ v.frame.0 = ap (λ (f : Frame). f.0) of.frame in
    omega arith

-- a view of a row shows what memory has
pub shows_of : (tables : FlatState) (space : SpaceNo) (m : List ℕ) (v : View) (bytes : List ℕ) → IsOfRow tables space v → page_at m v.frame ≡ bytes → Shows (over tables m) space v bytes
shows_of tables space m v bytes of holds = record { row = of.row; its = of.its; fit = of.fit; frame = of.frame; flags = of.flags; holds = holds }

pub in_views : (vs : List View) (v : View) → Contains (touched_views vs) v → Contains vs v
in_views vs v there = (Contains-filter (λ (w : View). w.touched) vs v there).0

-- the thread could have taken the steps
pub could_run : (tables : FlatState) (m : List ℕ) (t : FlatThread) (a : Ahead) → t.status ≡ Ready → IsAheadOf tables t a → AreCopies m a.views → CouldRun (over tables m) t a
could_run tables m t a ready ahead copies = record {
  ready = ready;
  context = sym ahead.first;
  views = λ v there. let within = in_views a.views v there in shows_of tables t.space m v v.first (ahead.rows v within) (copies v within);
}

-- ---- memory

with_views-push : (m : List ℕ) (vs : List View) (v : View) → with_views m (vs ++ v ∷ []) ≡ with_page (with_views m vs) v.frame v.present
with_views-push m [] v = refl
with_views-push m (w ∷ vs) v = with_views-push (with_page m w.frame w.present) vs v

module _ (views : List View) (i : ℕ) (v : View) (low : i < length views) (is : v ≡ get_or views i v) where
  one_more : take (i + 1) views ≡ take i views ++ v ∷ []
  one_more = take_more views i v low ∙ ap (λ (w : View). take i views ++ w ∷ []) (sym is)

  touched_more : touched_views (take (i + 1) views) ≡ touched_views (take i views) ++ touched_views (v ∷ [])
  touched_more = ap touched_views one_more ∙ filter-append (λ (w : View). w.touched) (take i views) (v ∷ [])

  pub touched_so_far : v.touched ≡ true → touched_views (take (i + 1) views) ≡ touched_views (take i views) ++ v ∷ []
  touched_so_far touched = touched_more ∙ ap (λ (b : Bool). touched_views (take i views) ++ (if b then v ∷ [] else [])) touched

  pub untouched_so_far : v.touched ≡ false → touched_views (take (i + 1) views) ≡ touched_views (take i views)
  untouched_so_far untouched = touched_more ∙ ap (λ (b : Bool). touched_views (take i views) ++ (if b then v ∷ [] else [])) untouched ∙ append_nil (touched_views (take i views))
    where
      append_nil : (vs : List View) → vs ++ [] ≡ vs
      append_nil [] = refl
      append_nil (w ∷ vs) = ap (λ (xs : List View). w ∷ xs) (append_nil vs)

  pub memory_more : (m : List ℕ) → v.touched ≡ true → with_views m (touched_views (take (i + 1) views)) ≡ with_page (with_views m (touched_views (take i views))) v.frame v.present
  memory_more m touched = ap (with_views m) (touched_so_far touched) ∙ with_views-push m (touched_views (take i views)) v

  pub memory_kept : (m : List ℕ) → v.touched ≡ false → with_views m (touched_views (take (i + 1) views)) ≡ with_views m (touched_views (take i views))
  memory_kept m untouched = ap (with_views m) (untouched_so_far untouched)

  pub one_more_case : (w : View) → Contains (take (i + 1) views) w → Contains (take i views) w ⊎ (v ≡ w)
  one_more_case w there = Contains-push_cases (take i views) v w (subst (λ (vs : List View). Contains vs w) one_more there)

  -- ---- rows

  module _ (space : SpaceNo) (before now : FlatState) (so_far : now ≡ record before { rows = map (marks_by space (take i views)) before.rows }) where
    marks_more : (row : Row) → marks_by space (take (i + 1) views) row ≡ mark_of space v (marks_by space (take i views) row)
    marks_more row = ap (λ (vs : List View). marks_by space vs row) one_more ∙ marks-push space (take i views) v row

    map_same : (f g : Row → Row) → ((row : Row) → f row ≡ g row) → (rows : List Row) → map f rows ≡ map g rows
    map_same f g same [] = refl
    map_same f g same (r ∷ rows) = ap₂ (λ (x : Row) (xs : List Row). x ∷ xs) (same r) (map_same f g same rows)

    pub rows_more : (after : FlatState) → v.touched ≡ true → after ≡ record now { rows = map (marked space v.vpn.0 v.written) now.rows } → after ≡ record before { rows = map (marks_by space (take (i + 1) views)) before.rows }
    rows_more after touched is =
        is ∙ ap (λ (s : FlatState). record s { rows = map (marked space v.vpn.0 v.written) s.rows }) so_far
        ∙ ap (λ (rs : List Row). record before { rows = rs }) (
        map-map (marked space v.vpn.0 v.written) (marks_by space (take i views)) before.rows
        ∙ map_same _ _ (λ row. ap (λ (b : Bool). if b then marked space v.vpn.0 v.written (marks_by space (take i views) row) else marks_by space (take i views) row) (sym touched) ∙ sym (marks_more row)) before.rows)

    pub rows_kept : v.touched ≡ false → now ≡ record before { rows = map (marks_by space (take (i + 1) views)) before.rows }
    rows_kept untouched =
        so_far ∙ ap (λ (rs : List Row). record before { rows = rs }) (
        map_same _ _ (λ row. ap (λ (b : Bool). if b then marked space v.vpn.0 v.written (marks_by space (take i views) row) else marks_by space (take i views) row) (sym untouched) ∙ sym (marks_more row)) before.rows)

pub no_marks : (s : FlatState) → s ≡ record s { rows = map (λ (row : Row). row) s.rows }
no_marks s = ap (λ (rs : List Row). record s { rows = rs }) (sym (map-id s.rows))

-- ---- what the frames hold meanwhile

-- the touched views of a frame hold the same
pub alike : (views : List View) (m : List ℕ) → HaveOneContents views → AreCopies m views → (u v : View) → Contains (touched_views views) u → Contains (touched_views views) v → u.frame ≡ v.frame → u.present ≡ v.present
alike views m one copies u v u_there v_there same =
    one u v u_there v_there same (λ w there of. sym (copies w (in_views views w there)) ∙ ap (page_at m) of ∙ copies v (in_views views v v_there))

-- before any is taken over, memory has what was copied
pub put_first : (views : List View) (m : List ℕ) → AreCopies m views → (v : View) → Contains (touched_views views) v → IsPutIf v m
put_first views m copies v there as_copied = copies v (in_views views v there) ∙ sym as_copied

-- .. and so it is when one is taken over
pub put_later : (views : List View) (first m : List ℕ) (w : View) → HaveOneContents views → AreCopies first views → Contains (touched_views views) w → HasFrame m w.frame → length w.present ≡ 4096
    → ((v : View) → Contains (touched_views views) v → IsPutIf v m) → (v : View) → Contains (touched_views views) v → IsPutIf v (with_page m w.frame w.present)
put_later views first m w one copies w_there within whole put v there as_copied =
    elim (cases_eq v.frame.0 w.frame.0) [
      | inl same ↦
          let frames : v.frame ≡ w.frame = ap (λ (n : ℕ). let f : Frame = record { 0 = n } in f) same in
          ap (page_at (with_page m w.frame w.present)) frames ∙ page_at-with_page m w.frame w.present within whole ∙ alike views first one copies w v w_there there (sym frames)
      | inr apart ↦ page_at-with_page_other m w.frame w.present v.frame within whole apart ∙ put v there as_copied
    ]

-- ---- all together

pub committed_so : (old mid new : FlatState) (m : List ℕ) (n : ℕ) (t : FlatThread) (a : Ahead) (c : Context) (status : Status) → mid ≡ record old { rows = map (marks_by t.space a.views) old.rows }
    → new ≡ with_thread mid n (record t { context = c; status = status }) → c ≡ a.context → status ≡ status_by a.paused
    → IsWellFormed (over old m) → slice_get old.threads n ≡ Some t → CouldRun (over old m) t a → IsLocalRun a → HaveOneViewAPage a.views → over new (with_views m (touched_views a.views)) ≡ committed (over old m) n t a
committed_so old mid new m n t a c status mid_is new_is left does formed here could local_run one =
    let after = with_views m (touched_views a.views) in
    ap (λ (x : FlatState). over x after) new_is
    ∙ ap (λ (x : FlatState). over (with_thread x n (record t { context = c; status = status })) after) mid_is
    ∙ ap₂ (λ (d : Context) (e : Status). over (with_thread (record old { rows = map (marks_by t.space a.views) old.rows }) n (record t { context = d; status = e })) after) left does
    ∙ ap (λ (rs : List Row). over (with_thread (record old { rows = rs }) n (record t { context = a.context; status = status_by a.paused })) after) (all_marked (over old m) n t a formed here could local_run one)
