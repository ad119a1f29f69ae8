-- A step of the machine changes no frame but the one that is named before it.
use Rattle.std.proofs.Common.{◌≡◌, ℕ, ◌+◌, ◌*◌, ◌%◌, ◌≤◌, Bool, true, false, List, [], ◌∷◌, length, Contains, Option, Some, None, slice_get, refl, ap, sym, ◌∙◌, subst, inl, inr, arith, eqb-true}
use Rattle.std.specs.Prelude.{if◌then◌else◌, ◌==◌}
use Rattle.std.specs.Option.{option_map}
use Rattle.std.proofs.lemmas.Bool.{cases_eq}
use Rattle.cache_ident.specs.declared.names.Frame.{Frame}
use Rattle.cache_ident.specs.declared.names.Name.{Name}
use Rattle.cache_ident.specs.declared.names.Name.TheVariants.{Kernel, Space, Thread, Mapping}
use Rattle.phys_groups.specs.declared.rows.Row.{Row}
use Rattle.phys_groups.specs.Memory.{page_at, with_page, HasFrame}
use Rattle.phys_groups.specs.Rows.{row_name}
use Rattle.phys_groups.specs.Translation.{is_row_of}
use Rattle.phys_groups.proofs.Pages.{length-with_page, page_at-with_page, page_at-with_page_other}
use Rattle.rv32_exec.specs.declared.statuses.Access.TheVariants.{Write}
use Rattle.rv32_exec.specs.declared.actions.Action.{Action}
use Rattle.rv32_exec.specs.declared.actions.Action.TheVariants as actions
use Rattle.rv32_exec.specs.declared.steps.Stepped.{Stepped}
use Rattle.rv32_exec.specs.declared.steps.Stepped.TheVariants.{Next, Call, Stop, Miss}
use Rattle.rv32_exec.specs.Pages.{fetched, size_of, translation, Page}
use Rattle.flat_state.specs.declared.records.FlatThread.{FlatThread}
use Rattle.flat_state.specs.declared.records.NextStep.{NextStep}
use Rattle.flat_state.specs.NextSteps.{data_row, faults, is_miss, next_step, next_step_if, next_step_of, row_of_access, row_of_action}
use Rattle.flat_state.specs.Pages.{page_of, pages_of, with_pages}
use Rattle.flat_state.specs.Signals.{next_action}
use Rattle.flat_state.specs.State.{is_ready, FlatState}
use Rattle.flat_state.specs.Step.{after_step, outcome, stepped_so}
use Rattle.flat_state.specs.Translation.{reached, rights_of, row_through, wants}
use Rattle.flat_state.specs.WellFormed.{IsWellFormed}
use Rattle.flat_state.proofs.Finding.{find-contains}
use Rattle.flat_state.proofs.Found.{found-allowed, found-contains}
use Rattle.flat_state.proofs.FormedEvents.{pages_are}
use Rattle.flat_state.proofs.Places.{get_from_Contains, get_from_map}
use Rattle.flat_state.proofs.StepKeeps.{step_keeps}
use Rattle.flat_state.proofs.Translating.{translation-pages}
use Rattle.board_ops.specs.flat_laws.proofs.Members.{Contains-behind, Contains-here}
use Rattle.board_ops.specs.flat_laws.proofs.RowMarks.{atomic_through, stepped_is}
use Rattle.cached_machine.specs.group_laws.proofs.Ranks.{own_row}
use Rattle.board_core.specs.Stamps.{frame_if_writable, frame_stored, row_named, HaveStamps, IsWithin}
use Rattle.board_core.proofs.StoresLaws.{after_are, asked, frame_of, stores_to}

-- ---- pages that are written back

-- a page has its place in memory, and where it is of that frame, the frame's bytes
pub record IsKeptIn (target : List ℕ) (frame : Frame) (p : Page) : Type 0 where
  pub place : 4096 * p.frame + 4096 ≤ length target
  pub whole : length p.bytes ≡ 4096
  pub same : p.frame ≡ frame.0 → p.bytes ≡ page_at target frame

pages_elsewhere : (target : List ℕ) (frame : Frame) (ps : List Page) (now : List ℕ) → ((p : Page) → Contains ps p → IsKeptIn target frame p) → length now ≡ length target → page_at now frame ≡ page_at target frame → page_at (with_pages now ps) frame ≡ page_at target frame
pages_elsewhere target frame [] now kept size same = same
pages_elsewhere target frame (p ∷ ps) now kept size same =
    let is = kept p (Contains-here p ps) in
    let place = is.place in
    let there : HasFrame now (record { 0 = p.frame }) = omega arith in
    let long = length-with_page now (record { 0 = p.frame }) p.bytes there is.whole in
    let after : page_at (with_page now (record { 0 = p.frame }) p.bytes) frame ≡ page_at target frame = elim (cases_eq frame.0 p.frame) [
      | inl here ↦ subst (λ (n : ℕ). page_at (with_page now (record { 0 = p.frame }) p.bytes) (record { 0 = n }) ≡ p.bytes) (sym here) (page_at-with_page now (record { 0 = p.frame }) p.bytes there is.whole) ∙ is.same (sym here)
      | inr apart ↦ page_at-with_page_other now (record { 0 = p.frame }) p.bytes frame there is.whole apart ∙ same
    ] in
    pages_elsewhere target frame ps (with_page now (record { 0 = p.frame }) p.bytes) (λ q within. kept q (Contains-behind p ps q within)) (long ∙ size) after

-- ---- the frame that an action stores to

frame_through : (rights : List (Bool × Bool)) (memory : List ℕ) (o : Option Row) (f : ℕ) → frame_of (option_map (page_of rights memory) o) ≡ Some f → (row : Row) × (o ≡ Some row) × (row.frame.0 ≡ f)
frame_through rights memory None f is = absurd (cc)
frame_through rights memory (Some row) f is = (row, refl, let same : row.frame.0 ≡ f = cc in same)

-- a row through which data goes, that lets stores through
pub record IsStoredThrough (s : FlatState) (t : FlatThread) (f : ℕ) : Type 0 where
  pub row : Row
  pub its : data_row s t ≡ Some row
  pub there : Contains s.rows row
  pub writable : row.flags.w ≡ true
  pub frame : row.frame.0 ≡ f

module _ (s : FlatState) (t : FlatThread) where
  abbrev ps : List Page
  ps = pages_of s t.space

  by_row : (va f : ℕ) → data_row s t ≡ row_through (reached s Write t.space va) → frame_of (translation ps va Write) ≡ Some f → IsStoredThrough s t f
  by_row va f data_is is =
      let through = frame_through (rights_of s t.space) s.memory (row_through (reached s Write t.space va)) f (ap frame_of (sym (translation-pages (rights_of s t.space) s.memory s.rows t.space va Write)) ∙ is) in
      record {
        row = through.0;
        its = data_is ∙ through.1;
        there = found-contains (rights_of s t.space) s.rows (wants Write) t.space va through.0 through.1;
        writable = found-allowed (rights_of s t.space) s.rows (wants Write) t.space va through.0 through.1;
        frame = through.2;
      }

  if_divided : (size va : ℕ) (o : Option ℕ) (f : ℕ) (b : Bool) → (va % size == 0) ≡ b → (if b then o else None) ≡ Some f → ((va % size == 0) ≡ true) × (o ≡ Some f)
  if_divided size va o f true divides is = (divides, is)
  if_divided size va o f false divides is = absurd (cc)

  by_action : faults s t ≡ false → (action : Option Action) → next_action t.context ps ≡ action → (f : ℕ) → stores_to ps action ≡ Some f → IsStoredThrough s t f
  by_action hit (Some (actions.Store va width value)) is f stores =
      let divided = if_divided (size_of width) va (frame_of (translation ps va Write)) f (va % size_of width == 0) refl stores in
      by_row va f
      (ap (row_of_action s t) is ∙ ap (λ (b : Bool). row_of_access s t (if b then Some (record { access = Write; va = va }) else None)) divided.0)
      divided.1
  by_action hit (Some (actions.Atomic rd va op operand)) is f stores =
      let divided = if_divided 4 va (frame_of (translation ps va Write)) f (va % 4 == 0) refl stores in
      by_row va f (sym (atomic_through s t rd va op operand hit is (eqb-true (va % 4) 0 divided.0))) divided.1
  by_action hit (Some (actions.Load rd va width signed)) is f stores = absurd (cc)
  by_action hit (Some (actions.Set rd value)) is f stores = absurd (cc)
  by_action hit (Some actions.Pass) is f stores = absurd (cc)
  by_action hit (Some (actions.Jump rd target)) is f stores = absurd (cc)
  by_action hit (Some actions.Call) is f stores = absurd (cc)
  by_action hit (Some actions.Break) is f stores = absurd (cc)
  by_action hit None is f stores = absurd (cc)

  asks_for : next_action t.context ps ≡ asked t.context (fetched ps t.context.pc)
  unfolding next_action
  asks_for = refl

  -- it is the one that is named before the step
  named_so : (next : NextStep) (f : ℕ) → IsWellFormed s → next ≡ next_step_of s t → is_ready t.status ≡ true → IsStoredThrough s t f → frame_stored s next ≡ Some (record { 0 = f })
  named_so next f formed is ready through =
      let named : next.data_row ≡ Some (row_name through.row) = ap (λ (x : NextStep). x.data_row) is ∙ ap (λ (b : Bool). (next_step_if b s t).data_row) ready ∙ ap (option_map row_name) through.its in
      ap (λ (o : Option Name). frame_if_writable (row_named s o)) named
      ∙ ap frame_if_writable (own_row s.rows formed.rows.single through.row through.there)
      ∙ ap (λ (b : Bool). if b then Some through.row.frame else None) through.writable
      ∙ ap (λ (n : ℕ). Some (record { 0 = n })) through.frame

-- ---- the step

ready_if : (s : FlatState) (t : FlatThread) (b : Bool) → is_ready t.status ≡ b → (next_step_if b s t).runnable ≡ true → is_ready t.status ≡ true
ready_if s t true is runs = is
ready_if s t false is runs = absurd (cc)

next_is : (s : FlatState) (n : ℕ) (t : FlatThread) (next : NextStep) → slice_get s.threads n ≡ Some t → next_step s n ≡ Some next → next ≡ next_step_of s t
unfolding next_step
next_is s n t next here is = let found : option_map (next_step_of s) (slice_get s.threads n) ≡ Some (next_step_of s t) = ap (option_map (next_step_of s)) here in cc

module _ (s u : FlatState) (n : ℕ) (t : FlatThread) (next : NextStep) (formed : IsWellFormed s) (here : slice_get s.threads n ≡ Some t) (steps : after_step s n ≡ Some u) (is : next_step s n ≡ Some next) (runs : next.runnable ≡ true)
    (frame : Frame) (there : HasFrame s.memory frame) (apart : frame_stored s next ≡ Some frame → ⊥) where
  abbrev its_pages : List Page
  its_pages = pages_of s t.space

  is_next : next ≡ next_step_of s t
  is_next = next_is s n t next here is

  is_ready_now : is_ready t.status ≡ true
  is_ready_now = ready_if s t (is_ready t.status) refl (ap (λ (x : NextStep). x.runnable) (sym is_next) ∙ runs)

  not_stored : faults s t ≡ false → stores_to its_pages (asked t.context (fetched its_pages t.context.pc)) ≡ Some frame.0 → ⊥
  not_stored hit stores = apart (named_so s t next frame.0 formed is_next is_ready_now (by_action s t hit (asked t.context (fetched its_pages t.context.pc)) (asks_for s t) frame.0 stores))

  kept_page : faults s t ≡ false → (p : Page) → Contains (outcome s t).pages p → IsKeptIn s.memory frame p
  kept_page hit p within =
      let at = get_from_Contains (outcome s t).pages p within in
      let whole = (step_keeps (length s.memory) t.context its_pages (formed.threads.each n t here).aligned (pages_are s t.space formed)).pages.each at.0 p at.1 in
      let are = after_are t.context its_pages in
      let before = get_from_map are.by its_pages at.0 p (subst (λ (qs : List Page). slice_get qs at.0 ≡ Some p) are.is at.1) in
      let of_row = get_from_map (page_of (rights_of s t.space) s.memory) _ at.0 before.0 before.1 in
      record {
        place = whole.frame;
        whole = whole.whole;
        same = λ on.
            let frame_before : before.0.frame ≡ frame.0 = sym (are.frame before.0) ∙ ap (λ (q : Page). q.frame) before.2 ∙ on in
            let row_frame : of_row.0.frame.0 ≡ frame.0 = ap (λ (q : Page). q.frame) of_row.2 ∙ frame_before in
            ap (λ (q : Page). q.bytes) (sym before.2)
            ∙ are.bytes before.0 (λ stores. not_stored hit (stores ∙ ap Some frame_before))
            ∙ ap (λ (q : Page). q.bytes) (sym of_row.2)
            ∙ ap (λ (k : ℕ). page_at s.memory (record { 0 = k })) row_frame;
      }

  by_answer : (answer : Stepped) → is_miss answer ≡ is_miss (outcome s t).answer → page_at (stepped_so s n t (outcome s t) answer).memory frame ≡ page_at s.memory frame
  by_answer Next same = pages_elsewhere s.memory frame (outcome s t).pages s.memory (kept_page (sym same)) refl refl
  by_answer Call same = pages_elsewhere s.memory frame (outcome s t).pages s.memory (kept_page (sym same)) refl refl
  by_answer (Stop reason) same = pages_elsewhere s.memory frame (outcome s t).pages s.memory (kept_page (sym same)) refl refl
  by_answer (Miss va access) same = refl

  pub step_elsewhere : page_at u.memory frame ≡ page_at s.memory frame
  step_elsewhere = ap (λ (x : FlatState). page_at x.memory frame) (sym (stepped_is s n t u here steps)) ∙ by_answer (outcome s t).answer refl

-- the frame that is named has a stamp
row_there : (s : FlatState) (o : Option Name) (row : Row) → row_named s o ≡ Some row → Contains s.rows row
row_there s (Some (Mapping space vpn)) row is = find-contains (is_row_of space vpn.0) s.rows row is
row_there s (Some (Kernel number)) row is = absurd (cc)
row_there s (Some (Space number)) row is = absurd (cc)
row_there s (Some (Thread number)) row is = absurd (cc)
row_there s None row is = absurd (cc)

pub stored_within : (s : FlatState) (next : NextStep) (stamps : List ℕ) → IsWellFormed s → HaveStamps s.memory stamps → IsWithin (frame_stored s next) stamps
stored_within s next stamps formed have = by (row_named s next.data_row) refl
  where
    by_flag : (row : Row) (b : Bool) → Contains s.rows row → IsWithin (if b then Some row.frame else None) stamps
    by_flag row true there =
        let low = (formed.rows.each row there).frame in
        let size = formed.memory.size in
        have row.frame (omega arith)
    by_flag row false there = tt

    by : (o : Option Row) → row_named s next.data_row ≡ o → IsWithin (frame_if_writable o) stamps
    by None is = tt
    by (Some row) is = by_flag row row.flags.w (row_there s next.data_row row is)
