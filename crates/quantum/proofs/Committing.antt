-- All that the steps changed is what the views hold.
use Rattle.std.proofs.Common.{◌≡◌, ◌≢◌, ℕ, ◌*◌, ◌/◌, ◌%◌, ◌<◌, Bool, true, false, ◌||◌, List, [], ◌∷◌, length, get_or, map, Option, Some, None, Contains, refl, ap, ap₂, sym, ◌∙◌, subst, inl, inr, ◌⊎◌, arith, ext_get_or}
use Rattle.std.specs.Prelude.{◌==◌, if◌then◌else◌}
use Rattle.std.specs.List.{find}
use Rattle.std.proofs.lemmas.Bool.{cases_eq, eq-eqb, eqb-true}
use Rattle.cache_ident.specs.declared.names.Frame.{Frame}
use Rattle.phys_groups.specs.declared.rows.Row.{Row}
use Rattle.phys_groups.specs.Memory.{HasFrame, page_at, with_page}
use Rattle.phys_groups.specs.Translation.{is_row_of}
use Rattle.phys_groups.proofs.Pages.{length-page_at, length-with_page, page_at-with_page, page_at-with_page_other}
use Rattle.rv32_exec.specs.Changes.{Change}
use Rattle.flat_laws.specs.flat_state.specs.declared.records.FlatThread.{FlatThread}
use Rattle.flat_laws.specs.flat_state.specs.State.{FlatState, groups_of, with_thread}
use Rattle.flat_laws.specs.flat_state.specs.Pages.{is_in}
use Rattle.flat_laws.specs.flat_state.specs.WellFormed.{IsWellFormed}
use Rattle.flat_laws.specs.flat_state.proofs.Finding.{find-contains, find-passes}
use Rattle.flat_laws.proofs.Members.{Contains-cases, Contains-here, Contains-behind, Contains-filter, contains_nothing}
use Rattle.flat_laws.proofs.PageBytes.{page_byte}
use Rattle.page_views.specs.Views.{View}
use Rattle.quantum.specs.Ahead.{Ahead}
use Rattle.quantum.specs.LocalRun.{touched_views, CouldRun, IsLocalRun, committed, status_by, with_marks_of, with_view_marks, with_views}
use Rattle.quantum.specs.Made.{put_on, has_mark, has_store_mark, changed_memory, changed_state, IsMade}
use Rattle.quantum.proofs.Changed.{after_marks, length-changed, page_changed, rows_changed}
use Rattle.quantum.proofs.FlatSteps.{not_put}
use Rattle.quantum.proofs.Growing.{agree, not_marked, not_stored}
use Rattle.quantum.proofs.Making.{none_found, true_false}

-- ---- memory

-- memories of whole pages are one, where each page is
pages_same : (k : ℕ) (m u : List ℕ) → length m ≡ 4096 * k → length u ≡ 4096 * k → ((f : Frame) → f.0 < k → page_at m f ≡ page_at u f) → m ≡ u
pages_same k m u size-m size-u same = ext_get_or 0 m u (size-m ∙ sym size-u) (λ j below.
    let within : j / 4096 < k = omega (arith, below, size-m) in
    sym (page_byte m (record { 0 = j / 4096 }) j refl)
    ∙ (ap (λ (bytes : List ℕ). get_or bytes (j % 4096) 0) (same (record { 0 = j / 4096 }) within)
    ∙ page_byte u (record { 0 = j / 4096 }) j refl))

module _ (k : ℕ) (u : List ℕ) (size-u : length u ≡ 4096 * k) where
  -- a view holds what a memory has in its frame
  record Holds (v : View) : Type 0 where
    within : v.frame.0 < k
    holds : v.present ≡ page_at u v.frame

  has_frame : (m : List ℕ) → length m ≡ 4096 * k → (f : Frame) → f.0 < k → HasFrame m f
  has_frame m size f within = omega (arith, size, within)

  size-present : (v : View) → Holds v → length v.present ≡ 4096
  size-present v h = ap length h.holds ∙ length-page_at u v.frame (has_frame u size-u v.frame h.within)

  size-with : (vs : List View) → ((v : View) → Contains vs v → Holds v) → (m : List ℕ) → length m ≡ 4096 * k → length (with_views m vs) ≡ 4096 * k
  size-with [] all m size = size
  size-with (v ∷ vs) all m size =
      let h = all v (Contains-here v vs) in
      size-with vs (λ w there. all w (Contains-behind v vs w there)) (with_page m v.frame v.present) (length-with_page m v.frame v.present (has_frame m size v.frame h.within) (size-present v h) ∙ size)

  -- a frame has what that memory has, where it had it before or a view puts it there
  frame_with : (f : Frame) → f.0 < k → (vs : List View) → ((v : View) → Contains vs v → Holds v) → (m : List ℕ) → length m ≡ 4096 * k
      → (page_at m f ≡ page_at u f) ⊎ ((v : View) × Contains vs v × (v.frame.0 ≡ f.0)) → page_at (with_views m vs) f ≡ page_at u f
  frame_with f within [] all m size (inl same) = same
  frame_with f within [] all m size (inr v) = absurd (contains_nothing v.0 v.1)
  frame_with f within (v ∷ vs) all m size from =
      let h = all v (Contains-here v vs) in
      let has = has_frame m size v.frame h.within in
      let next : List ℕ = with_page m v.frame v.present in
      let next_size = length-with_page m v.frame v.present has (size-present v h) ∙ size in
      frame_with f within vs (λ w there. all w (Contains-behind v vs w there)) next next_size (elim (cases_eq f.0 v.frame.0) [
        | inl same ↦
            inl (ap (λ (n : ℕ). page_at next (record { 0 = n })) same ∙ (page_at-with_page m v.frame v.present has (size-present v h)
            ∙ (h.holds ∙ ap (λ (n : ℕ). page_at u (record { 0 = n })) (sym same))))
        | inr other ↦ elim from [
          | inl same ↦ inl (page_at-with_page_other m v.frame v.present f has (size-present v h) other ∙ same)
          | inr w ↦ elim (Contains-cases v vs w.0 w.1) [
            | inl e ↦ absurd (other (sym (ap (λ (x : View). x.frame.0) e ∙ w.2)))
            | inr behind ↦ inr (w.0, behind, w.2)
          ]
        ]
      ])

module _ (a : Ahead) (made : IsMade a) (s : FlatState) (formed : IsWellFormed s) (t : FlatThread) (could : CouldRun s t a) where
  abbrev cs : List Change
  cs = made.changes

  abbrev vs : List View
  vs = touched_views a.views

  abbrev k : ℕ
  k = 128 * groups_of s.machine

  size : length s.memory ≡ 4096 * k
  size = formed.memory.size ∙ omega arith

  size-then : length (changed_memory cs s.memory) ≡ 4096 * k
  size-then = length-changed cs s.memory ∙ size

  present : (v : View) → Contains vs v → v.present ≡ put_on cs v.frame.0 v.first
  present v there =
      let parts = Contains-filter (λ (u : View). u.touched) a.views v there in
      (made.views v parts.0).present (λ u touched same. agree s t.space u v (could.views u touched) (could.views v there) same)

  holds : (v : View) → Contains vs v → Holds k (changed_memory cs s.memory) size-then v
  holds v there =
      let shows = could.views v there in
      record {
        within = subst (λ (f : Frame). f.0 < k) shows.frame (formed.rows.each shows.row (find-contains (is_row_of t.space v.vpn.0) s.rows shows.row shows.its)).frame;
        holds = present v there ∙ sym (page_changed a.views cs s.memory v.frame made.of ∙ ap (put_on cs v.frame.0) shows.holds);
      }

  untouched : (f : Frame) → find (λ (v : View). v.frame.0 == f.0) vs ≡ None → page_at s.memory f ≡ page_at (changed_memory cs s.memory) f
  untouched f none =
      sym (page_changed a.views cs s.memory f made.of ∙ not_put a.views cs f (page_at s.memory f) made.of (λ v there same.
      true_false (sym (eq-eqb v.frame.0 f.0 same) ∙ none_found (λ (w : View). w.frame.0 == f.0) vs none v there)))

  from : (f : Frame) → (o : Option View) → find (λ (v : View). v.frame.0 == f.0) vs ≡ o → (page_at s.memory f ≡ page_at (changed_memory cs s.memory) f) ⊎ ((v : View) × Contains vs v × (v.frame.0 ≡ f.0))
  from f None none = inl (untouched f none)
  from f (Some v) found = inr (v, find-contains (λ (w : View). w.frame.0 == f.0) vs v found, eqb-true v.frame.0 f.0 (find-passes (λ (w : View). w.frame.0 == f.0) vs v found))

  memory_is : changed_memory cs s.memory ≡ with_views s.memory vs
  memory_is = sym (pages_same k (with_views s.memory vs) (changed_memory cs s.memory) (size-with k (changed_memory cs s.memory) size-then vs holds s.memory size) size-then (λ f within.
      frame_with k (changed_memory cs s.memory) size-then f within vs holds s.memory size (from f (find (λ (v : View). v.frame.0 == f.0) vs) refl)))

  -- ---- rows

  or_false : (b : Bool) → (b || false) ≡ b
  or_false true = refl
  or_false false = refl

  marks_found : (row : Row) (o : Option View) → find (λ (v : View). v.vpn.0 == row.vpn.0) a.views ≡ o → record row { referenced = row.referenced || has_mark row.vpn.0 cs; modified = row.modified || has_store_mark row.vpn.0 cs } ≡ with_marks_of o row
  marks_found row None none =
      let apart : (v : View) → Contains a.views v → v.vpn.0 ≢ row.vpn.0 = λ v there same. true_false (sym (eq-eqb v.vpn.0 row.vpn.0 same) ∙ none_found (λ (w : View). w.vpn.0 == row.vpn.0) a.views none v there) in
      ap₂ (λ (x y : Bool). record row { referenced = row.referenced || x; modified = row.modified || y }) (not_marked a.views row.vpn.0 cs made.of apart) (not_stored a.views row.vpn.0 cs made.of apart)
      ∙ ap₂ (λ (x y : Bool). record row { referenced = x; modified = y }) (or_false row.referenced) (or_false row.modified)
  marks_found row (Some v) found =
      let page : v.vpn.0 ≡ row.vpn.0 = eqb-true v.vpn.0 row.vpn.0 (find-passes (λ (w : View). w.vpn.0 == row.vpn.0) a.views v found) in
      let is = made.views v (find-contains (λ (w : View). w.vpn.0 == row.vpn.0) a.views v found) in
      ap₂ (λ (x y : Bool). record row { referenced = row.referenced || x; modified = row.modified || y })
      (ap (λ (n : ℕ). has_mark n cs) (sym page) ∙ sym is.touched) (ap (λ (n : ℕ). has_store_mark n cs) (sym page) ∙ sym is.written)

  row_is : (row : Row) → after_marks t.space cs row ≡ with_view_marks t.space a.views row
  row_is row = by (is_in t.space row)
    where
      by : (b : Bool) → (if b then record row { referenced = row.referenced || has_mark row.vpn.0 cs; modified = row.modified || has_store_mark row.vpn.0 cs } else row) ≡ (if b then with_marks_of (find (λ (v : View). v.vpn.0 == row.vpn.0) a.views) row else row)
      by true = marks_found row (find (λ (v : View). v.vpn.0 == row.vpn.0) a.views) refl
      by false = refl

  rows_are : (rows : List Row) → map (after_marks t.space cs) rows ≡ map (with_view_marks t.space a.views) rows
  rows_are [] = refl
  rows_are (row ∷ rows) = ap₂ (λ (r : Row) (rs : List Row). r ∷ rs) (row_is row) (rows_are rows)

  pub commits : (n : ℕ) → with_thread (changed_state s t.space cs) n (record t { context = a.context; status = status_by a.paused }) ≡ committed s n t a
  commits n =
      ap₂ (λ (m : List ℕ) (rows : List Row). with_thread (record s { memory = m; rows = rows }) n (record t { context = a.context; status = status_by a.paused }))
      memory_is (rows_changed t.space cs s.rows ∙ rows_are s.rows)

pub local_run : (a : Ahead) → IsMade a → IsLocalRun a
local_run a made = record {
  each = made.each;
  makes = λ s n t formed here could. made.ahead s n t formed here could ∙ commits a made s formed t could n;
}
