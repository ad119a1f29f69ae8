-- Why steps that were taken ahead touched what they stored to.
use Rattle.std.proofs.Common.{◌≡◌, ℕ, zero, suc, Bool, true, false, List, map, Contains, replicate, Option, Some, None, slice_get, refl, ap, sym, ◌∙◌, subst}
use Rattle.std.specs.Prelude.{if◌then◌else◌, ◌==◌, ◌&&◌, ◌||◌, unwrap_or, find, ◌%◌}
use Rattle.std.specs.Option.{option_map}
use Rattle.cache_ident.specs.declared.names.ThreadNo.{ThreadNo}
use Rattle.phys_groups.specs.declared.rows.Row.{Row}
use Rattle.phys_groups.specs.Translation.{is_row_of}
use Rattle.flat_laws.specs.flat_state.specs.declared.events.Event.TheVariants.{Step}
use Rattle.flat_laws.specs.flat_state.specs.declared.records.FlatThread.{FlatThread}
use Rattle.flat_laws.specs.flat_state.specs.Events.{after_events, applied}
use Rattle.flat_laws.specs.flat_state.specs.NextSteps.{data_row, faults, fetch_row, stores}
use Rattle.flat_laws.specs.flat_state.specs.Pages.{is_in, pages_of}
use Rattle.flat_laws.specs.flat_state.specs.Signals.{next_action}
use Rattle.flat_laws.specs.flat_state.specs.State.{FlatState}
use Rattle.flat_laws.specs.flat_state.specs.Step.{after_step, step_of}
use Rattle.flat_laws.specs.flat_state.specs.WellFormed.{IsWellFormed}
use Rattle.flat_laws.specs.flat_state.proofs.FormedEvents.{applied_formed}
use Rattle.flat_laws.specs.flat_state.proofs.FormedParts.{rows_formed, KeepsRow}
use Rattle.flat_laws.specs.flat_state.proofs.Places.{get_from_Contains, get_from_map, get-set_same, Contains-from_get}
use Rattle.flat_laws.specs.Marks.{is_through, marked_by}
use Rattle.flat_laws.proofs.Members.{find-map, Contains-map}
use Rattle.flat_laws.proofs.RowMarks.{fault_marks_nothing, step_marks}
use Rattle.page_views.specs.Views.{View}
use Rattle.quantum.specs.Ahead.{Ahead}
use Rattle.quantum.specs.LocalRun.{committed, state_after, status_by, with_marks_of, with_view_marks, CouldRun, IsLocalRun}

-- what was stored to was used
pub record AreUsed (rows : List Row) : Type 0 where
  pub each : (row : Row) → Contains rows row → row.modified ≡ true → row.referenced ≡ true

used_so : (r m f d st : Bool) → (m ≡ true → r ≡ true) → (m || (st && d)) ≡ true → (r || (f || d)) ≡ true
used_so true m f d st keeps is = refl
used_so false true f d st keeps is = absurd (let e = keeps refl in cc)
used_so false false true d st keeps is = refl
used_so false false false true st keeps is = refl
used_so false false false false true keeps is = absurd (cc)
used_so false false false false false keeps is = absurd (cc)

from_map : (f : Row → Row) (rows : List Row) (row : Row) → Contains (map f rows) row → (before : Row) × Contains rows before × (f before ≡ row)
from_map f rows row there =
    let at = get_from_Contains (map f rows) row there in
    let before = get_from_map f rows at.0 row at.1 in
    (before.0, Contains-from_get rows at.0 before.0 before.1, before.2)

module _ (s : FlatState) (formed : IsWellFormed s) (used : AreUsed s.rows) where
  marked_used : (t : FlatThread) → AreUsed (map (marked_by s t) s.rows)
  marked_used t = record {
    each = λ row there modified.
        let before = from_map (marked_by s t) s.rows row there in
        let b = before.0 in
        ap (λ (r : Row). r.referenced) (sym before.2)
        ∙ used_so b.referenced b.modified (is_through (fetch_row s t) b) (is_through (data_row s t) b) (stores (next_action t.context (pages_of s t.space))) (used.each b before.1) (ap (λ (r : Row). r.modified) before.2 ∙ modified);
  }

  by_fault : (n : ℕ) (t : FlatThread) (u : FlatState) → slice_get s.threads n ≡ Some t → after_step s n ≡ Some u → (b : Bool) → faults s t ≡ b → AreUsed u.rows
  by_fault n t u here steps true missed = subst AreUsed (sym (fault_marks_nothing s t n u missed here steps)) used
  by_fault n t u here steps false hit = subst AreUsed (sym (step_marks s t formed hit n u here steps)) (marked_used t)

  by_thread : (n : ℕ) (u : FlatState) → after_step s n ≡ Some u → (o : Option FlatThread) → slice_get s.threads n ≡ o → AreUsed u.rows
  unfolding after_step
  by_thread n u steps None here = absurd (let none : step_of s n (slice_get s.threads n) ≡ None = ap (step_of s n) here in cc)
  by_thread n u steps (Some t) here = by_fault n t u here steps (faults s t) refl

  by_state : (n : ℕ) (o : Option FlatState) → after_step s n ≡ o → AreUsed (unwrap_or o s).rows
  by_state n None is = used
  by_state n (Some u) is = by_thread n u is (slice_get s.threads n) refl

  step_used : (thread : ThreadNo) → AreUsed (applied s (Step thread)).rows
  step_used thread = by_state thread.0 (after_step s thread.0) refl

steps_used : (thread : ThreadNo) (steps : ℕ) (s : FlatState) → IsWellFormed s → AreUsed s.rows → AreUsed (after_events s (replicate steps (Step thread))).rows
steps_used thread zero s formed used = used
steps_used thread (suc k) s formed used = steps_used thread k (applied s (Step thread)) (applied_formed s (Step thread) formed) (step_used s formed used thread)

pub steps_formed : (thread : ThreadNo) (steps : ℕ) (s : FlatState) → IsWellFormed s → IsWellFormed (after_events s (replicate steps (Step thread)))
steps_formed thread zero s formed = formed
steps_formed thread (suc k) s formed = steps_formed thread k (applied s (Step thread)) (applied_formed s (Step thread) formed)

-- ---- a machine without marks

abbrev cleared : Row → Row
cleared row = record row { referenced = false; modified = false }

cleared_keeps : KeepsRow cleared
cleared_keeps = record { space = λ row. refl; vpn = λ row. refl; frame = λ row. refl; flags = λ row. refl; receiver = λ row. refl }

abbrev clear_of : FlatState → FlatState
clear_of s = record s { rows = map cleared s.rows }

none_used : (rows : List Row) → AreUsed (map cleared rows)
none_used rows = record {
  each = λ row there modified. absurd (let before = from_map cleared rows row there in let clear : false ≡ true = ap (λ (r : Row). r.modified) before.2 ∙ modified in cc);
}

module _ (s : FlatState) (n : ℕ) (t : FlatThread) (a : Ahead) (formed : IsWellFormed s) (here : slice_get s.threads n ≡ Some t) (could : CouldRun s t a) (local_run : IsLocalRun a) where
  could_too : CouldRun (clear_of s) t a
  could_too = record {
    ready = could.ready;
    context = could.context;
    views = λ v within.
        let sees = could.views v within in
        record {
          row = cleared sees.row;
          its = find-map (is_row_of t.space v.vpn.0) (is_row_of t.space v.vpn.0) cleared (λ row. refl) s.rows ∙ ap (option_map cleared) sees.its;
          fit = sees.fit;
          frame = sees.frame;
          flags = sees.flags;
          holds = sees.holds;
        };
  }

  made_clear : state_after (clear_of s) n a.steps ≡ committed (clear_of s) n t a
  made_clear = local_run.makes (clear_of s) n t (rows_formed cleared cleared_keeps s formed) here could_too

  used_then : AreUsed (map (with_view_marks t.space a.views) (map cleared s.rows))
  used_then = subst (λ (u : FlatState). AreUsed u.rows) made_clear (steps_used (record { 0 = n }) a.steps (clear_of s) (rows_formed cleared cleared_keeps s formed) (none_used s.rows))

  pub touched_if_written : (row : Row) → Contains s.rows row → is_in t.space row ≡ true → (v : View) → find (λ w. w.vpn.0 == row.vpn.0) a.views ≡ Some v → v.written ≡ true → v.touched ≡ true
  touched_if_written row there inside v found written =
      let is : with_view_marks t.space a.views (cleared row) ≡ record row { referenced = false || v.touched; modified = false || v.written } =
      ap (λ (b : Bool). if b then with_marks_of (find (λ w. w.vpn.0 == row.vpn.0) a.views) (cleared row) else cleared row) inside
      ∙ ap (λ (o : Option View). with_marks_of o (cleared row)) found in
      let among = Contains-map (with_view_marks t.space a.views) (map cleared s.rows) (cleared row) (Contains-map cleared s.rows row there) in
      ap (λ (r : Row). r.referenced) (sym is) ∙ used_then.each (with_view_marks t.space a.views (cleared row)) among (ap (λ (r : Row). r.modified) is ∙ written)

  -- the context is that of a machine's thread
  pub context_aligned : a.context.pc % 4 ≡ 0
  context_aligned =
      let u : FlatThread = record t { context = a.context; status = status_by a.paused } in
      let then_formed : IsWellFormed (committed s n t a) = subst IsWellFormed (local_run.makes s n t formed here could) (steps_formed (record { 0 = n }) a.steps s formed) in
      (then_formed.threads.each n u (get-set_same s.threads n u t here)).aligned
