-- Views that are all taken over leave what the run ahead says.
use Rattle.std.proofs.Common.{◌≡◌, ◌≢◌, ℕ, ◌<◌, Bool, true, false, List, [], ◌∷◌, ◌++◌, length, map, take, get_or, Contains, Option, Some, slice_get, refl, ap, ap₂, sym, ◌∙◌, subst, eq-eqb, eqb-true, arith}
use Rattle.std.specs.Prelude.{if◌then◌else◌, ◌+◌, ◌==◌, ◌&&◌, ◌||◌, find}
use Rattle.std.proofs.Math.Bool.{or-false, or-true}
use Rattle.std.proofs.lemmas.Bool.{eqb-false, ne_eqb}
use Rattle.std.proofs.lemmas.List.{map-id, take_more}
use Rattle.std.proofs.lemmas.Simd.{map-map}
use Rattle.cache_ident.specs.declared.names.Frame.{Frame}
use Rattle.cache_ident.specs.declared.names.SpaceNo.{SpaceNo}
use Rattle.phys_groups.specs.declared.rows.Row.{Row}
use Rattle.phys_groups.specs.Memory.{with_page, HasFrame}
use Rattle.phys_groups.specs.Rows.{marked}
use Rattle.phys_groups.specs.Translation.{is_row_of}
use Rattle.flat_state.specs.declared.records.FlatThread.{FlatThread}
use Rattle.flat_state.specs.Pages.{is_in}
use Rattle.flat_state.specs.State.{with_thread, FlatState}
use Rattle.flat_state.specs.WellFormed.{IsWellFormed}
use Rattle.rv32_exec.specs.declared.contexts.Context.{Context}
use Rattle.rv32_exec.specs.declared.statuses.Status.{Status}
use Rattle.flat_state.proofs.Finding.{find-contains}
use Rattle.flat_state.proofs.Places.{Contains-from_get}
use Rattle.board_ops.specs.flat_laws.proofs.Members.{map-agree, Contains-behind, Contains-here}
use Rattle.cached_machine.specs.group_laws.proofs.Remaining.{pairs_head, pairs_tail}
use Rattle.board_ops.specs.page_views.specs.Views.{View, HaveOneViewAPage}
use Rattle.cached_machine.specs.quantum.specs.Ahead.{Ahead}
use Rattle.cached_machine.specs.quantum.specs.LocalRun.{committed, status_by, touched_views, with_marks_of, with_view_marks, with_views, CouldRun, IsLocalRun}
use Rattle.cached_machine.specs.Cached.{state_of, Cached}
use Rattle.board_core.specs.Growth.{with_all_views, with_view, AreInMemory}
use Rattle.board_core.proofs.OpeningLaws.{memory_shown}
use Rattle.cached_machine.specs.quantum.proofs.Touched.{touched_if_written}
use Rattle.board_core.proofs.TakingLaws.{all_views-push}

-- ---- memory

memory_if : (s : FlatState) (space : SpaceNo) (v : View) (b : Bool) (vs : List View) → with_views (if b then record s { memory = with_page s.memory v.frame v.present; rows = map (marked space v.vpn.0 v.written) s.rows } else s).memory vs ≡ with_views s.memory (if b then v ∷ vs else vs)
memory_if s space v true vs = refl
memory_if s space v false vs = refl

memory_of_views : (space : SpaceNo) (vs : List View) (s : FlatState) → (with_all_views space s vs).memory ≡ with_views s.memory (touched_views vs)
memory_of_views space [] s = refl
memory_of_views space (v ∷ vs) s = memory_of_views space vs (with_view space s v) ∙ memory_if s space v v.touched (touched_views vs)

-- ---- rows

abbrev one_mark : SpaceNo → View → Row → Row
one_mark space v row = if v.touched then marked space v.vpn.0 v.written row else row

abbrev marks_by : SpaceNo → List View → Row → Row
marks_by space [] row = row
marks_by space (v ∷ vs) row = marks_by space vs (one_mark space v row)

rows_if : (s : FlatState) (space : SpaceNo) (v : View) (b : Bool) → (if b then record s { memory = with_page s.memory v.frame v.present; rows = map (marked space v.vpn.0 v.written) s.rows } else s).rows ≡ map (λ row. if b then marked space v.vpn.0 v.written row else row) s.rows
rows_if s space v true = refl
rows_if s space v false = sym (map-id s.rows)

rows_of_views : (space : SpaceNo) (vs : List View) (s : FlatState) → (with_all_views space s vs).rows ≡ map (marks_by space vs) s.rows
rows_of_views space [] s = sym (map-id s.rows)
rows_of_views space (v ∷ vs) s = rows_of_views space vs (with_view space s v) ∙ ap (map (marks_by space vs)) (rows_if s space v v.touched) ∙ map-map (marks_by space vs) (one_mark space v) s.rows

all_else_if : (s : FlatState) (space : SpaceNo) (v : View) (b : Bool) (memory : List ℕ) (rows : List Row) → record (if b then record s { memory = with_page s.memory v.frame v.present; rows = map (marked space v.vpn.0 v.written) s.rows } else s) { memory = memory; rows = rows } ≡ record s { memory = memory; rows = rows }
all_else_if s space v true memory rows = refl
all_else_if s space v false memory rows = refl

all_else : (space : SpaceNo) (vs : List View) (s : FlatState) → with_all_views space s vs ≡ record s { memory = (with_all_views space s vs).memory; rows = (with_all_views space s vs).rows }
all_else space [] s = refl
all_else space (v ∷ vs) s = all_else space vs (with_view space s v) ∙ all_else_if s space v v.touched (with_all_views space s (v ∷ vs)).memory (with_all_views space s (v ∷ vs)).rows

-- ---- the marks of one row

module _ (space : SpaceNo) where
  not_marked : (v : View) (row : Row) (b : Bool) → is_row_of space v.vpn.0 row ≡ false → (if b then marked space v.vpn.0 v.written row else row) ≡ row
  not_marked v row true other = ap (λ (c : Bool). if c then record row { referenced = true; modified = row.modified || v.written } else row) other
  not_marked v row false other = refl

  no_more_marks : (vs : List View) (row : Row) → ((v : View) → Contains vs v → is_row_of space v.vpn.0 row ≡ false) → marks_by space vs row ≡ row
  no_more_marks [] row others = refl
  no_more_marks (v ∷ vs) row others =
      ap (marks_by space vs) (not_marked v row v.touched (others v (Contains-here v vs))) ∙ no_more_marks vs row (λ w there. others w (Contains-behind v vs w there))

  other_space : (vs : List View) (row : Row) → is_in space row ≡ false → marks_by space vs row ≡ row
  other_space vs row outside = no_more_marks vs row (λ v there. ap (λ (b : Bool). b && (row.vpn.0 == v.vpn.0)) outside)

  -- a view of the row's page leaves it so
  its_mark : (v : View) (row : Row) (touched written : Bool) → v.written ≡ written → is_row_of space v.vpn.0 row ≡ true → (written ≡ true → touched ≡ true)
      → (if touched then marked space v.vpn.0 v.written row else row) ≡ record row { referenced = row.referenced || touched; modified = row.modified || written }
  its_mark v row true written as_written its uses =
      ap (λ (c : Bool). if c then record row { referenced = true; modified = row.modified || v.written } else row) its
      ∙ ap₂ (λ (r w : Bool). record row { referenced = r; modified = row.modified || w }) (sym (or-true row.referenced)) as_written
  its_mark v row false true as_written its uses = absurd (let e = uses refl in cc)
  its_mark v row false false as_written its uses = ap₂ (λ (r m : Bool). record row { referenced = r; modified = m }) (sym (or-false row.referenced)) (sym (or-false row.modified))

  marks_are : (vs : List View) (row : Row) → HaveOneViewAPage vs → is_in space row ≡ true → ((v : View) → find (λ w. w.vpn.0 == row.vpn.0) vs ≡ Some v → v.written ≡ true → v.touched ≡ true)
      → marks_by space vs row ≡ with_marks_of (find (λ w. w.vpn.0 == row.vpn.0) vs) row
  marks_are [] row one inside uses = refl
  marks_are (v ∷ vs) row one inside uses = by (v.vpn.0 == row.vpn.0) refl (λ uses_behind. marks_are vs row (pairs_tail (λ (a : View) (b : View). a.vpn.0 ≢ b.vpn.0) v vs one) inside uses_behind)
    where
      by : (b : Bool) → (v.vpn.0 == row.vpn.0) ≡ b
          → (((w : View) → find (λ x. x.vpn.0 == row.vpn.0) vs ≡ Some w → w.written ≡ true → w.touched ≡ true) → marks_by space vs row ≡ with_marks_of (find (λ w. w.vpn.0 == row.vpn.0) vs) row)
          → marks_by space (v ∷ vs) row ≡ with_marks_of (find (λ w. w.vpn.0 == row.vpn.0) (v ∷ vs)) row
      by true its behind =
          let found : find (λ w. w.vpn.0 == row.vpn.0) (v ∷ vs) ≡ Some v = ap (λ (b : Bool). if b then Some v else find (λ w. w.vpn.0 == row.vpn.0) vs) its in
          let same = eqb-true v.vpn.0 row.vpn.0 its in
          let of_row : is_row_of space v.vpn.0 row ≡ true = ap (λ (b : Bool). b && (row.vpn.0 == v.vpn.0)) inside ∙ ap (λ (n : ℕ). row.vpn.0 == n) same ∙ eq-eqb row.vpn.0 row.vpn.0 refl in
          let left = record row { referenced = row.referenced || v.touched; modified = row.modified || v.written } in
          let first : one_mark space v row ≡ left = its_mark v row v.touched v.written refl of_row (uses v found) in
          ap (marks_by space vs) first
          ∙ no_more_marks vs left (λ w there.
          ap (λ (b : Bool). b && (row.vpn.0 == w.vpn.0)) inside
          ∙ ne_eqb row.vpn.0 w.vpn.0 (λ equal. pairs_head (λ (a : View) (b : View). a.vpn.0 ≢ b.vpn.0) v vs one w there (same ∙ equal)))
          ∙ sym (ap (λ (o : Option View). with_marks_of o row) found)
      by false other behind =
          let passed : find (λ w. w.vpn.0 == row.vpn.0) (v ∷ vs) ≡ find (λ w. w.vpn.0 == row.vpn.0) vs = ap (λ (b : Bool). if b then Some v else find (λ w. w.vpn.0 == row.vpn.0) vs) other in
          let not_its : is_row_of space v.vpn.0 row ≡ false = ap (λ (b : Bool). b && (row.vpn.0 == v.vpn.0)) inside ∙ ne_eqb row.vpn.0 v.vpn.0 (λ equal. eqb-false v.vpn.0 row.vpn.0 other (sym equal)) in
          ap (marks_by space vs) (not_marked v row v.touched not_its) ∙ behind (λ w found. uses w (passed ∙ found)) ∙ sym (ap (λ (o : Option View). with_marks_of o row) passed)

-- ---- all together

module _ (s : FlatState) (n : ℕ) (t : FlatThread) (a : Ahead) (formed : IsWellFormed s) (here : slice_get s.threads n ≡ Some t) (could : CouldRun s t a) (local_run : IsLocalRun a) (one : HaveOneViewAPage a.views) where
  row_marks : (i : ℕ) (row : Row) → slice_get s.rows i ≡ Some row → marks_by t.space a.views row ≡ with_view_marks t.space a.views row
  row_marks i row at = by (is_in t.space row) refl
    where
      by : (b : Bool) → is_in t.space row ≡ b → marks_by t.space a.views row ≡ (if b then with_marks_of (find (λ v. v.vpn.0 == row.vpn.0) a.views) row else row)
      by true inside = marks_are t.space a.views row one inside (touched_if_written s n t a formed here could local_run row (Contains-from_get s.rows i row at) inside)
      by false outside = other_space t.space a.views row outside

  pub all_taken : with_all_views t.space s a.views ≡ record s { memory = with_views s.memory (touched_views a.views); rows = map (with_view_marks t.space a.views) s.rows }
  all_taken =
      all_else t.space a.views s
      ∙ ap₂ (λ (memory : List ℕ) (rows : List Row). record s { memory = memory; rows = rows }) (memory_of_views t.space a.views s)
      (rows_of_views t.space a.views s ∙ map-agree (marks_by t.space a.views) (with_view_marks t.space a.views) s.rows row_marks)

  pub committed_so : (u : FlatState) → u ≡ with_thread (with_all_views t.space s a.views) n (record t { context = a.context; status = status_by a.paused }) → u ≡ committed s n t a
  committed_so u is = is ∙ ap (λ (v : FlatState). with_thread v n (record t { context = a.context; status = status_by a.paused })) all_taken

-- one view more
pub one_view_more : (space : SpaceNo) (s : FlatState) (views : List View) (i : ℕ) (v : View) → i < length views → v ≡ get_or views i v → with_all_views space s (take (i + 1) views) ≡ with_view space (with_all_views space s (take i views)) v
one_view_more space s views i v low is =
    ap (with_all_views space s) (take_more views i v low ∙ ap (λ (x : View). take i views ++ x ∷ []) (sym is)) ∙ all_views-push space (take i views) s v

-- ---- the machine that took them over

pub taken_threads : (space : SpaceNo) (vs : List View) (s : FlatState) → (with_all_views space s vs).threads ≡ s.threads
taken_threads space vs s = ap (λ (u : FlatState). u.threads) (all_else space vs s)

-- the frames of touched views are in memory
pub views_in_memory : (m : Cached) (t : FlatThread) (a : Ahead) → IsWellFormed (state_of m) → CouldRun (state_of m) t a → AreInMemory m.memory (touched_views a.views)
views_in_memory m t a formed could v within =
    let sees = could.views v within in
    let there = find-contains (is_row_of t.space v.vpn.0) (state_of m).rows sees.row sees.its in
    let low = (formed.rows.each sees.row there).frame in
    let size = formed.memory.size in
    let in_state : HasFrame (state_of m).memory sees.row.frame = omega arith in
    subst (λ (f : Frame). HasFrame m.memory f) sees.frame (subst (λ (x : List ℕ). HasFrame x sees.row.frame) (memory_shown m.machine m.memory m.held.contents) in_state)

module _ (s u v : FlatState) (n : ℕ) (t : FlatThread) (a : Ahead) (space : SpaceNo) (views : List View) (context : Context) (status : Status)
    (of_thread : space ≡ t.space) (of_run : views ≡ a.views) (left : context ≡ a.context) (does : status ≡ status_by a.paused) (taken : u ≡ with_all_views space s views) where
  pub here_then : slice_get s.threads n ≡ Some t → slice_get u.threads n ≡ Some t
  here_then here = ap (λ (x : FlatState). slice_get x.threads n) taken ∙ ap (λ (ts : List FlatThread). slice_get ts n) (taken_threads space views s) ∙ here

  taken_so : u ≡ with_all_views t.space s a.views
  taken_so = taken ∙ ap₂ (λ (x : SpaceNo) (vs : List View). with_all_views x s vs) of_thread of_run

  pub taken_over : IsWellFormed s → slice_get s.threads n ≡ Some t → CouldRun s t a → IsLocalRun a → HaveOneViewAPage a.views → v ≡ with_thread u n (record t { context = context; status = status }) → v ≡ committed s n t a
  taken_over formed here could local_run one is =
      committed_so s n t a formed here could local_run one v
      (is
      ∙ ap (λ (x : FlatState). with_thread x n (record t { context = context; status = status })) taken_so
      ∙ ap₂ (λ (c : Context) (d : Status). with_thread (with_all_views t.space s a.views) n (record t { context = c; status = d })) left does)
