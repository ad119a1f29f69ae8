-- Which bits a step leaves on the rows.
use Rattle.std.proofs.Common.{◌≡◌, ℕ, ◌/◌, ◌%◌, Bool, true, false, ◌&&◌, ◌||◌, map, Option, Some, None, is_some, slice_get, refl, ap, ap₂, sym, ◌∙◌, subst}
use Rattle.std.specs.Prelude.{if◌then◌else◌, ◌==◌}
use Rattle.std.specs.List.{find}
use Rattle.std.specs.Option.{option_map}
use Rattle.std.proofs.Math.Bool.{and-false, or-false}
use Rattle.std.proofs.lemmas.Bool.{eqb-true, false≢true}
use Rattle.std.proofs.lemmas.Option.{same_Some}
use Rattle.phys_groups.specs.declared.rows.Row.{Row}
use Rattle.rv32_ma.specs.declared.atomics.AmoOp.{AmoOp}
use Rattle.flat_state.specs.rv32_exec.specs.declared.statuses.Access.{Access}
use Rattle.flat_state.specs.rv32_exec.specs.declared.statuses.Access.TheVariants.{Fetch, Read, Write}
use Rattle.flat_state.specs.rv32_exec.specs.declared.actions.Action.{Action}
use Rattle.flat_state.specs.rv32_exec.specs.declared.actions.Action.TheVariants as actions
use Rattle.flat_state.specs.rv32_exec.specs.declared.steps.Stepped.{Stepped}
use Rattle.flat_state.specs.rv32_exec.specs.declared.steps.Stepped.TheVariants.{Next, Call, Stop, Miss}
use Rattle.flat_state.specs.rv32_exec.specs.Pages.{Page, translates}
use Rattle.flat_state.specs.declared.records.DataAccess.{DataAccess}
use Rattle.flat_state.specs.declared.records.FlatThread.{FlatThread}
use Rattle.flat_state.specs.State.{FlatState}
use Rattle.flat_state.specs.Translation.{rights_of, reached, row_through, wants}
use Rattle.flat_state.specs.Pages.{is_in, page_of, pages_of, with_marks_of, with_marks}
use Rattle.flat_state.specs.Signals.{is_runnable, next_action}
use Rattle.flat_state.specs.Step.{outcome, stepped_so, stepped, step_if, step_of, after_step}
use Rattle.flat_state.specs.NextSteps.{fetch_row, data_row, data_access, stores, row_of_access, row_of_action, is_miss, faults}
use Rattle.flat_state.specs.WellFormed.{IsWellFormed}
use Rattle.flat_state.proofs.Found.{found-row_of, found-space, found-page}
use Rattle.flat_state.proofs.Translating.{translation-pages}
use Rattle.flat_state.proofs.WritingBack.{page-found}
use Rattle.flat_laws.specs.Marks.{is_through, marked_by}
use Rattle.flat_laws.proofs.Members.{find-map, is_some-option_map, map-agree}
use Rattle.flat_state.proofs.PageMarks.{IsWalked, is_at, access_of, step_walks, atomic_writes}

-- what is left of a step that fits
pub stepped_is : (s : FlatState) (n : ℕ) (t : FlatThread) (u : FlatState) → slice_get s.threads n ≡ Some t → after_step s n ≡ Some u → stepped s n t (outcome s t) ≡ u
unfolding after_step
stepped_is s n t u here steps = by_test (is_runnable s t) (subst (λ (o : Option FlatThread). step_of s n o ≡ Some u) here steps)
  where
    by_test : (runnable : Bool) → step_if runnable s n t ≡ Some u → stepped s n t (outcome s t) ≡ u
    by_test false e = absurd (cc)
    by_test true e = same_Some _ _ e

module _ (s : FlatState) (t : FlatThread) where
  -- an access translates where it goes through a row
  through_row : (access : Access) (va : ℕ) → translates (pages_of s t.space) va access ≡ is_some (row_through (reached s access t.space va))
  unfolding translates
  through_row access va =
      ap is_some (translation-pages (rights_of s t.space) s.memory s.rows t.space va access)
      ∙ is_some-option_map (page_of (rights_of s t.space) s.memory) (row_through (reached s access t.space va))

  -- that row is the one of the page in the thread's space
  of_page : (access : Access) (va : ℕ) (row : Row) (o : Option Row) → row_through (reached s access t.space va) ≡ o → is_some o ≡ true → is_through o row ≡ (is_in t.space row && (row.vpn.0 == va / 4096))
  of_page access va row None is some = absurd (false≢true some)
  of_page access va row (Some found) is some =
      ap₂ (λ (a b : ℕ). (row.space.0 == a) && (row.vpn.0 == b)) (found-space (rights_of s t.space) s.rows (wants access) t.space va found is) (found-page (rights_of s t.space) s.rows (wants access) t.space va found is)

  is_of_page : (access : Access) (va : ℕ) → translates (pages_of s t.space) va access ≡ true → (row : Row) → is_through (row_through (reached s access t.space va)) row ≡ (is_in t.space row && (row.vpn.0 == va / 4096))
  is_of_page access va there row = of_page access va row (row_through (reached s access t.space va)) refl (sym (through_row access va) ∙ there)

  of_access : (access : Option DataAccess) → ((a : DataAccess) → access ≡ Some a → translates (pages_of s t.space) a.va a.access ≡ true) → (row : Row) → is_through (row_of_access s t access) row ≡ (is_in t.space row && is_at access row.vpn.0)
  of_access None reaches row = sym (and-false (is_in t.space row))
  of_access (Some a) reaches row = is_of_page a.access a.va (reaches a refl) row

  its_access : (action : Option Action) → row_of_action s t action ≡ row_of_access s t (access_of action)
  its_access None = refl
  its_access (Some action) = refl

  abbrev action : Option Action
  action = next_action t.context (pages_of s t.space)

  walked : faults s t ≡ false → IsWalked t.context (pages_of s t.space) (access_of action) (stores action) (outcome s t) × (translates (pages_of s t.space) t.context.pc Fetch ≡ true)
  walked hit = step_walks t.context (pages_of s t.space) hit

  -- where a step doesn't fault, its fetch and its data access go through rows
  pub fetches_through : faults s t ≡ false → is_some (fetch_row s t) ≡ true
  fetches_through hit = sym (through_row Fetch t.context.pc) ∙ (walked hit).1

  pub accesses_through : (a : Action) (d : DataAccess) → faults s t ≡ false → action ≡ Some a → data_access a ≡ Some d → is_some (data_row s t) ≡ true
  accesses_through a d hit is makes =
      let one : access_of action ≡ Some d = ap access_of is ∙ makes in
      ap is_some (its_access action ∙ ap (row_of_access s t) one) ∙ (sym (through_row d.access d.va) ∙ (walked hit).0.reaches d one)

  -- both accesses of an atomic action go through one row
  one_row : (access other : Access) (va : ℕ) (o p : Option Row) → row_through (reached s access t.space va) ≡ o → row_through (reached s other t.space va) ≡ p → is_some o ≡ true → is_some p ≡ true → o ≡ p
  one_row access other va None p first second some more = absurd (false≢true some)
  one_row access other va (Some a) None first second some more = absurd (false≢true more)
  one_row access other va (Some a) (Some b) first second some more =
      sym (found-row_of (rights_of s t.space) s.rows (wants access) t.space va a first) ∙ found-row_of (rights_of s t.space) s.rows (wants other) t.space va b second

  pub atomic_through : (rd va : ℕ) (op : AmoOp) (operand : ℕ) → faults s t ≡ false → action ≡ Some (actions.Atomic rd va op operand) → va % 4 ≡ 0 → row_through (reached s Write t.space va) ≡ data_row s t
  atomic_through rd va op operand hit is divides =
      let reads : data_access (actions.Atomic rd va op operand) ≡ Some (record { access = Read; va = va }) = rw divides refl in
      let read : data_row s t ≡ row_through (reached s Read t.space va) = its_access action ∙ ap (row_of_access s t) (ap access_of is ∙ reads) in
      let there : is_some (row_through (reached s Write t.space va)) ≡ true = sym (through_row Write va) ∙ atomic_writes t.context (pages_of s t.space) hit rd va op operand is divides in
      one_row Write Read va _ _ refl refl there (ap is_some (sym read) ∙ accesses_through (actions.Atomic rd va op operand) (record { access = Read; va = va }) hit is reads) ∙ sym read

  module _ (formed : IsWellFormed s) (hit : faults s t ≡ false) where
    -- the marks of its page make of a row what the law says
    marked_row : (i : ℕ) (row : Row) → slice_get s.rows i ≡ Some row → with_marks t.space (outcome s t).pages row ≡ marked_by s t row
    marked_row i row at =
        of_test (is_in t.space row) refl
        ∙ ap₂ (λ (f d : Bool). record row { referenced = row.referenced || (f || d); modified = row.modified || (stores action && d) })
        (sym (is_of_page Fetch t.context.pc (walked hit).1 row))
        (sym (ap (λ (o : Option Row). is_through o row) (its_access action) ∙ of_access (access_of action) (walked hit).0.reaches row))
      where
        of_test : (b : Bool) → is_in t.space row ≡ b
            → (if b then with_marks_of (find (λ p. p.number == row.vpn.0) (outcome s t).pages) row else row)
            ≡ record row { referenced = row.referenced || ((b && (row.vpn.0 == t.context.pc / 4096)) || (b && is_at (access_of action) row.vpn.0)); modified = row.modified || (stores action && (b && is_at (access_of action) row.vpn.0)) }
        of_test true inside =
            let page : Page = page_of (rights_of s t.space) s.memory row in
            let marks = (walked hit).0.marks in
            let found : find (λ p. p.number == row.vpn.0) (outcome s t).pages ≡ Some (marks.by page) =
            ap (find (λ p. p.number == row.vpn.0)) marks.is
            ∙ find-map (λ p. p.number == row.vpn.0) (λ p. p.number == row.vpn.0) marks.by (λ p. ap (λ (n : ℕ). n == row.vpn.0) (marks.number p)) (pages_of s t.space)
            ∙ ap (option_map marks.by) (page-found t.space (rights_of s t.space) s.memory s.rows formed.rows.single i row row.vpn.0 at (eqb-true row.space.0 t.space.0 inside) refl) in
            ap (λ (o : Option Page). with_marks_of o row) found ∙ ap₂ (λ (r m : Bool). record row { referenced = r; modified = m }) (marks.touched page) (marks.written page)
        of_test false outside = ap₂ (λ (r m : Bool). record row { referenced = r; modified = m }) (sym (or-false row.referenced)) (sym (ap (λ b. row.modified || b) (and-false (stores action)) ∙ or-false row.modified))

    pub step_marks : (n : ℕ) (u : FlatState) → slice_get s.threads n ≡ Some t → after_step s n ≡ Some u → u.rows ≡ map (marked_by s t) s.rows
    step_marks n u here steps =
        ap (λ (v : FlatState). v.rows) (sym (stepped_is s n t u here steps))
        ∙ (by_answer n (outcome s t).answer hit ∙ map-agree (with_marks t.space (outcome s t).pages) (marked_by s t) s.rows marked_row)
      where
        by_answer : (n : ℕ) (answer : Stepped) → is_miss answer ≡ false → (stepped_so s n t (outcome s t) answer).rows ≡ map (with_marks t.space (outcome s t).pages) s.rows
        by_answer n Next hit = refl
        by_answer n Call hit = refl
        by_answer n (Stop reason) hit = refl
        by_answer n (Miss va access) hit = absurd (cc)

  pub fault_marks_nothing : (n : ℕ) (u : FlatState) → faults s t ≡ true → slice_get s.threads n ≡ Some t → after_step s n ≡ Some u → u.rows ≡ s.rows
  fault_marks_nothing n u missed here steps = ap (λ (v : FlatState). v.rows) (sym (stepped_is s n t u here steps)) ∙ by_answer (outcome s t).answer missed
    where
      by_answer : (answer : Stepped) → is_miss answer ≡ true → (stepped_so s n t (outcome s t) answer).rows ≡ s.rows
      by_answer Next missed = absurd (cc)
      by_answer Call missed = absurd (cc)
      by_answer (Stop reason) missed = absurd (cc)
      by_answer (Miss va access) missed = refl
