-- Marks that views leave one after another are those that the run ahead says.
use Rattle.std.proofs.Common.{◌≡◌, ◌≢◌, ℕ, suc, Bool, true, false, List, [], ◌∷◌, ◌++◌, map, Contains, Option, Some, slice_get, refl, ap, ap₂, sym, ◌∙◌, subst, eq-eqb, eqb-true, arith}
use Rattle.std.specs.Prelude.{if◌then◌else◌, ◌==◌, ◌&&◌, ◌||◌, find}
use Rattle.std.proofs.Math.Bool.{or-false, or-true}
use Rattle.std.proofs.lemmas.Bool.{eqb-false, ne_eqb}
use Rattle.cache_ident.specs.declared.names.SpaceNo.{SpaceNo}
use Rattle.phys_groups.specs.declared.rows.Row.{Row}
use Rattle.phys_groups.specs.Rows.{marked}
use Rattle.phys_groups.specs.Translation.{is_row_of}
use Rattle.flat_state.specs.declared.records.FlatThread.{FlatThread}
use Rattle.flat_state.specs.Pages.{is_in}
use Rattle.flat_state.specs.State.{FlatState}
use Rattle.flat_state.specs.WellFormed.{IsWellFormed}
use Rattle.flat_state.proofs.Places.{Contains-from_get}
use Rattle.quantum.specs.flat_laws.proofs.Members.{map-agree, Contains-behind, Contains-here}
use Rattle.quantum.specs.page_views.specs.Views.{View, HaveOneViewAPage}
use Rattle.quantum.specs.Ahead.{Ahead}
use Rattle.quantum.specs.LocalRun.{with_marks_of, with_view_marks, CouldRun, IsLocalRun}
use Rattle.paged_steps.specs.Marks.{mark_of, marks_by}
use Rattle.quantum.proofs.Touched.{touched_if_written}

-- one view more
pub marks-push : (space : SpaceNo) (vs : List View) (v : View) (row : Row) → marks_by space (vs ++ v ∷ []) row ≡ mark_of space v (marks_by space vs row)
marks-push space [] v row = refl
marks-push space (w ∷ vs) v row = marks-push space vs v (mark_of space w row)

-- ---- the marks of one row

pairs_tail : (v : View) (vs : List View) → HaveOneViewAPage (v ∷ vs) → HaveOneViewAPage vs
pairs_tail v vs all i j d lt within = all (suc i) (suc j) d (omega arith) (omega arith)

pairs_head : (v : View) (vs : List View) → HaveOneViewAPage (v ∷ vs) → (w : View) → Contains vs w → v.vpn.0 ≢ w.vpn.0
pairs_head v vs all w (k, lt, e) = subst (λ (z : View). v.vpn.0 ≢ z.vpn.0) e (all 0 (suc k) w (omega arith) (omega arith))

module _ (space : SpaceNo) where
  not_marked : (v : View) (row : Row) (b : Bool) → is_row_of space v.vpn.0 row ≡ false → (if b then marked space v.vpn.0 v.written row else row) ≡ row
  not_marked v row true other = ap (λ (c : Bool). if c then record row { referenced = true; modified = row.modified || v.written } else row) other
  not_marked v row false other = refl

  no_more_marks : (vs : List View) (row : Row) → ((v : View) → Contains vs v → is_row_of space v.vpn.0 row ≡ false) → marks_by space vs row ≡ row
  no_more_marks [] row others = refl
  no_more_marks (v ∷ vs) row others =
      ap (marks_by space vs) (not_marked v row v.touched (others v (Contains-here v vs))) ∙ no_more_marks vs row (λ w there. others w (Contains-behind v vs w there))

  other_space : (vs : List View) (row : Row) → is_in space row ≡ false → marks_by space vs row ≡ row
  other_space vs row outside = no_more_marks vs row (λ v there. ap (λ (b : Bool). b && (row.vpn.0 == v.vpn.0)) outside)

  -- a view of the row's page leaves it so
  its_mark : (v : View) (row : Row) (touched written : Bool) → v.written ≡ written → is_row_of space v.vpn.0 row ≡ true → (written ≡ true → touched ≡ true)
      → (if touched then marked space v.vpn.0 v.written row else row) ≡ record row { referenced = row.referenced || touched; modified = row.modified || written }
  its_mark v row true written as_written its uses =
      ap (λ (c : Bool). if c then record row { referenced = true; modified = row.modified || v.written } else row) its
      ∙ ap₂ (λ (r w : Bool). record row { referenced = r; modified = row.modified || w }) (sym (or-true row.referenced)) as_written
  its_mark v row false true as_written its uses = absurd (let e = uses refl in cc)
  its_mark v row false false as_written its uses = ap₂ (λ (r m : Bool). record row { referenced = r; modified = m }) (sym (or-false row.referenced)) (sym (or-false row.modified))

  marks_are : (vs : List View) (row : Row) → HaveOneViewAPage vs → is_in space row ≡ true → ((v : View) → find (λ w. w.vpn.0 == row.vpn.0) vs ≡ Some v → v.written ≡ true → v.touched ≡ true)
      → marks_by space vs row ≡ with_marks_of (find (λ w. w.vpn.0 == row.vpn.0) vs) row
  marks_are [] row one inside uses = refl
  marks_are (v ∷ vs) row one inside uses = by (v.vpn.0 == row.vpn.0) refl (λ uses_behind. marks_are vs row (pairs_tail v vs one) inside uses_behind)
    where
      by : (b : Bool) → (v.vpn.0 == row.vpn.0) ≡ b
          → (((w : View) → find (λ x. x.vpn.0 == row.vpn.0) vs ≡ Some w → w.written ≡ true → w.touched ≡ true) → marks_by space vs row ≡ with_marks_of (find (λ w. w.vpn.0 == row.vpn.0) vs) row)
          → marks_by space (v ∷ vs) row ≡ with_marks_of (find (λ w. w.vpn.0 == row.vpn.0) (v ∷ vs)) row
      by true its behind =
          let found : find (λ w. w.vpn.0 == row.vpn.0) (v ∷ vs) ≡ Some v = ap (λ (b : Bool). if b then Some v else find (λ w. w.vpn.0 == row.vpn.0) vs) its in
          let same = eqb-true v.vpn.0 row.vpn.0 its in
          let of_row : is_row_of space v.vpn.0 row ≡ true = ap (λ (b : Bool). b && (row.vpn.0 == v.vpn.0)) inside ∙ ap (λ (n : ℕ). row.vpn.0 == n) same ∙ eq-eqb row.vpn.0 row.vpn.0 refl in
          let left = record row { referenced = row.referenced || v.touched; modified = row.modified || v.written } in
          let first : mark_of space v row ≡ left = its_mark v row v.touched v.written refl of_row (uses v found) in
          ap (marks_by space vs) first
          ∙ no_more_marks vs left (λ w there.
          ap (λ (b : Bool). b && (row.vpn.0 == w.vpn.0)) inside
          ∙ ne_eqb row.vpn.0 w.vpn.0 (λ equal. pairs_head v vs one w there (same ∙ equal)))
          ∙ sym (ap (λ (o : Option View). with_marks_of o row) found)
      by false other behind =
          let passed : find (λ w. w.vpn.0 == row.vpn.0) (v ∷ vs) ≡ find (λ w. w.vpn.0 == row.vpn.0) vs = ap (λ (b : Bool). if b then Some v else find (λ w. w.vpn.0 == row.vpn.0) vs) other in
          let not_its : is_row_of space v.vpn.0 row ≡ false = ap (λ (b : Bool). b && (row.vpn.0 == v.vpn.0)) inside ∙ ne_eqb row.vpn.0 v.vpn.0 (λ equal. eqb-false v.vpn.0 row.vpn.0 other (sym equal)) in
          ap (marks_by space vs) (not_marked v row v.touched not_its) ∙ behind (λ w found. uses w (passed ∙ found)) ∙ sym (ap (λ (o : Option View). with_marks_of o row) passed)

-- the rows that a run ahead could be taken in
module _ (s : FlatState) (n : ℕ) (t : FlatThread) (a : Ahead) (formed : IsWellFormed s) (here : slice_get s.threads n ≡ Some t) (could : CouldRun s t a) (local_run : IsLocalRun a) (one : HaveOneViewAPage a.views) where
  row_marks : (i : ℕ) (row : Row) → slice_get s.rows i ≡ Some row → marks_by t.space a.views row ≡ with_view_marks t.space a.views row
  row_marks i row at = by (is_in t.space row) refl
    where
      by : (b : Bool) → is_in t.space row ≡ b → marks_by t.space a.views row ≡ (if b then with_marks_of (find (λ v. v.vpn.0 == row.vpn.0) a.views) row else row)
      by true inside = marks_are t.space a.views row one inside (touched_if_written s n t a formed here could local_run row (Contains-from_get s.rows i row at) inside)
      by false outside = other_space t.space a.views row outside

  pub all_marked : map (marks_by t.space a.views) s.rows ≡ map (with_view_marks t.space a.views) s.rows
  all_marked = map-agree (marks_by t.space a.views) (with_view_marks t.space a.views) s.rows row_marks
