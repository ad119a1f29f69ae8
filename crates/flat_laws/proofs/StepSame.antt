-- A step leaves all but memory, the bits of rows, and the contexts, statuses and queues of threads.
use Rattle.std.proofs.Common.{◌≡◌, ℕ, zero, suc, Bool, true, false, cond, List, [], ◌∷◌, ◌++◌, map, filter, set, Option, Some, None, is_some, slice_get, refl, ap, ap₂, sym, ◌∙◌, subst, inl, inr}
use Rattle.std.proofs.Math.Path.{fun_ext}
use Rattle.std.specs.Prelude.{if◌then◌else◌, ◌==◌, ◌&&◌, option_to_list, unwrap_or, nat_lt, length}
use Rattle.std.specs.List.{find, flat_map}
use Rattle.std.specs.Option.{option_map}
use Rattle.std.proofs.lemmas.Bool.{cases_eq}
use Rattle.std.proofs.lemmas.List.{map-id}
use Rattle.cache_ident.specs.declared.names.KernelNo.{KernelNo}
use Rattle.cache_ident.specs.declared.names.SpaceNo.{SpaceNo}
use Rattle.cache_ident.specs.declared.names.ThreadNo.{ThreadNo}
use Rattle.cache_ident.specs.declared.names.Vpn.{Vpn}
use Rattle.cache_ident.specs.declared.names.Name.{Name}
use Rattle.cache_ident.specs.declared.names.Name.TheVariants.{Kernel, Space, Thread, Mapping}
use Rattle.phys_groups.specs.declared.rows.Row.{Row}
use Rattle.phys_groups.specs.Translation.{is_fit, is_row_of, row_of}
use Rattle.flat_state.specs.signal_pages.specs.Signals.{address_of, is_signal_row_of}
use Rattle.flat_state.specs.rv32_exec.specs.declared.statuses.Status.{Status}
use Rattle.flat_state.specs.rv32_exec.specs.declared.statuses.Status.TheVariants.{Ready, Trapped, Ended}
use Rattle.flat_state.specs.rv32_exec.specs.declared.steps.Stepped.{Stepped}
use Rattle.flat_state.specs.rv32_exec.specs.declared.steps.Stepped.TheVariants.{Next, Call, Stop, Miss}
use Rattle.flat_state.specs.rv32_exec.specs.Steps.{After}
use Rattle.flat_state.specs.declared.events.Event.TheVariants.{Step}
use Rattle.flat_state.specs.declared.records.FlatThread.{FlatThread}
use Rattle.flat_state.specs.declared.records.Signal.{Signal}
use Rattle.flat_state.specs.State.{FlatState}
use Rattle.flat_state.specs.Translation.{rights_of, rights_over, is_fit_row}
use Rattle.flat_state.specs.Pages.{with_marks}
use Rattle.flat_state.specs.Signals.{is_runnable, next_signal, receivers_for, with_address, sent_to, sent, delivered}
use Rattle.flat_state.specs.Step.{outcome, went_on, stepped_so, step_if, step_of, after_step}
use Rattle.flat_state.specs.Events.{applied}
use Rattle.phys_groups.specs.Rows.{row_name}
use Rattle.flat_state.specs.Dependence.{signal_rows_of, parents_of_row, parents_of_found, parents, all_parents, up, owner_of_thread, owner_of_row, owner}
use Rattle.flat_state.specs.Names.{stands, class_by, class_of_row, class_of, is_fit_found, is_fit_name}
use Rattle.flat_state.proofs.Places.{get-set_same, get-set_other}
use Rattle.flat_state.proofs.FormedParts.{KeepsRow, addressed}
use Rattle.flat_state.proofs.FormedEvents.{marks_keep}
use Rattle.flat_laws.proofs.Members.{find-map, is_some-option_map}

abbrev pub space_at : List FlatThread → ℕ → Option SpaceNo
space_at threads n = option_map (λ (t : FlatThread). t.space) (slice_get threads n)

-- each thread is in the space in which it was, and there are no others
pub record SameSpaces (before after : List FlatThread) : Type 0 where
  pub at : (n : ℕ) → space_at after n ≡ space_at before n

pub set_same : (threads : List FlatThread) (n : ℕ) (t u : FlatThread) → slice_get threads n ≡ Some t → u.space ≡ t.space → SameSpaces threads (set threads n u)
set_same threads n t u here same = record {
  at = λ k. elim (cases_eq k n) [
    | inl is ↦ subst (λ (m : ℕ). space_at (set threads n u) m ≡ space_at threads m) (sym is) (ap (option_map (λ (w : FlatThread). w.space)) (get-set_same threads n u t here) ∙ ap Some same ∙ sym (ap (option_map (λ (w : FlatThread). w.space)) here))
    | inr other ↦ ap (option_map (λ (w : FlatThread). w.space)) (get-set_other threads n k u other)
  ];
}

sent_to_same : (threads : List FlatThread) (thread : ThreadNo) (va : ℕ) (o : Option FlatThread) → slice_get threads thread.0 ≡ o → SameSpaces threads (sent_to threads thread va o)
sent_to_same threads thread va None here = record { at = λ k. refl }
sent_to_same threads thread va (Some t) here = set_same threads thread.0 t (with_address va t) here (addressed va t).space

sent_same : (threads : List FlatThread) (offset : ℕ) (receivers : List (ThreadNo × Vpn)) → SameSpaces threads (sent threads offset receivers)
sent_same threads offset [] = record { at = λ k. refl }
sent_same threads offset ((thread, vpn) ∷ rest) =
    let first = sent_to_same threads thread (address_of vpn offset) (slice_get threads thread.0) refl in
    let later = sent_same (sent_to threads thread (address_of vpn offset) (slice_get threads thread.0)) offset rest in
    record { at = λ k. later.at k ∙ first.at k }

delivered_same : (threads : List FlatThread) (o : Option Signal) (receivers : List (ThreadNo × Vpn)) → SameSpaces threads (delivered threads o receivers)
delivered_same threads None receivers = record { at = λ k. refl }
delivered_same threads (Some signal) receivers = sent_same threads signal.offset receivers

-- what a step leaves
pub record IsSameBut (s u : FlatState) : Type 0 where
  pub kernels : u.kernels ≡ s.kernels
  pub spaces : u.spaces ≡ s.spaces
  pub threads : SameSpaces s.threads u.threads
  pub mark : Row → Row
  pub keeps : KeepsRow mark
  pub rows : u.rows ≡ map mark s.rows

abbrev itself : (s : FlatState) → IsSameBut s s
itself s = record {
  kernels = refl;
  spaces = refl;
  threads = record { at = λ k. refl };
  mark = λ row. row;
  keeps = record { space = λ row. refl; vpn = λ row. refl; frame = λ row. refl; flags = λ row. refl; receiver = λ row. refl };
  rows = sym (map-id s.rows);
}

module _ (s : FlatState) (n : ℕ) (t : FlatThread) (here : slice_get s.threads n ≡ Some t) where
  goes_on : (after : After) (status : Status) → IsSameBut s (went_on s n t after status)
  goes_on after status =
      let u : FlatThread = record t { context = after.context; status = status } in
      let moved = set_same s.threads n t u here refl in
      let sends = delivered_same (set s.threads n u) (next_signal s t) (receivers_for s (next_signal s t)) in
      record {
        kernels = refl;
        spaces = refl;
        threads = record { at = λ k. sends.at k ∙ moved.at k };
        mark = with_marks t.space after.pages;
        keeps = marks_keep t.space after.pages;
        rows = refl;
      }

  by_answer : (after : After) (answer : Stepped) → IsSameBut s (stepped_so s n t after answer)
  by_answer after Next = goes_on after Ready
  by_answer after Call = goes_on after Trapped
  by_answer after (Stop reason) = goes_on after (Ended reason)
  by_answer after (Miss va access) = record {
    kernels = refl;
    spaces = refl;
    threads = set_same s.threads n t _ here refl;
    mark = λ row. row;
    keeps = (itself s).keeps;
    rows = (itself s).rows;
  }

pub step_same : (s : FlatState) (thread : ThreadNo) → IsSameBut s (applied s (Step thread))
unfolding after_step
step_same s thread = by (slice_get s.threads thread.0) refl
  where
    by_test : (t : FlatThread) → slice_get s.threads thread.0 ≡ Some t → (runnable : Bool) → IsSameBut s (unwrap_or (step_if runnable s thread.0 t) s)
    by_test t here true = by_answer s thread.0 t here (outcome s t) (outcome s t).answer
    by_test t here false = itself s

    by : (o : Option FlatThread) → slice_get s.threads thread.0 ≡ o → IsSameBut s (unwrap_or (step_of s thread.0 o) s)
    by None here = itself s
    by (Some t) here = by_test t here (is_runnable s t)

-- the rows of two such states
map-filter-map : {X Y : Type 0} (p q : X → Bool) (f : X → X) (g : X → Y) → ((x : X) → p (f x) ≡ q x) → ((x : X) → g (f x) ≡ g x) → (xs : List X) → map g (filter p (map f xs)) ≡ map g (filter q xs)
map-filter-map p q f g passes same [] = refl
map-filter-map {X} {Y} p q f g passes same (x ∷ xs) =
    ap (λ b. map g (cond b (f x ∷ filter p (map f xs)) (filter p (map f xs)))) (passes x) ∙ by_test (map-filter-map p q f g passes same xs) (q x)
  where
    by_test : map g (filter p (map f xs)) ≡ map g (filter q xs) → (b : Bool) → map g (cond b (f x ∷ filter p (map f xs)) (filter p (map f xs))) ≡ map g (cond b (x ∷ filter q xs) (filter q xs))
    by_test rest true = ap₂ (λ (y : Y) (ys : List Y). y ∷ ys) (same x) rest
    by_test rest false = rest

abbrev owner_in : List KernelNo → Option SpaceNo → Option KernelNo
owner_in spaces None = None
owner_in spaces (Some space) = slice_get spaces space.0

thread_owner : (s : FlatState) (o : Option FlatThread) → owner_of_thread s o ≡ owner_in s.spaces (option_map (λ t. t.space) o)
thread_owner s None = refl
thread_owner s (Some t) = refl

module _ (s u : FlatState) (same : IsSameBut s u) where
  pub found_row : (space : SpaceNo) (vpn : ℕ) → row_of u.rows space vpn ≡ option_map same.mark (row_of s.rows space vpn)
  found_row space vpn =
      ap (find (is_row_of space vpn)) same.rows
      ∙ find-map (is_row_of space vpn) (is_row_of space vpn) same.mark (λ row. rw (same.keeps.space row, same.keeps.vpn row) refl) s.rows

  -- the same rows are fit
  same_rights : (space : SpaceNo) → rights_of u space ≡ rights_of s space
  same_rights space = ap₂ (λ ks sp. rights_over ks sp space) same.kernels same.spaces

  pub same_fit : (row : Row) → is_fit_row u row ≡ is_fit_row s row
  same_fit row = ap (λ rights. is_fit rights row) (same_rights row.space)

  marked_fit : (row : Row) → is_fit_row u (same.mark row) ≡ is_fit_row s row
  marked_fit row = rw (same.keeps.space row, same.keeps.frame row, same.keeps.flags row) (same_fit row)

  same_names : (row : Row) → row_name (same.mark row) ≡ row_name row
  same_names row = ap₂ Mapping (same.keeps.space row) (same.keeps.vpn row)

  same_signals : (row : Row) → map row_name (signal_rows_of u (same.mark row)) ≡ map row_name (signal_rows_of s row)
  same_signals row =
      ap₂ (λ m frame. map row_name (if m then filter (λ other. is_signal_row_of frame other && is_fit_row u other) u.rows else [])) (ap (λ f. f.m) (same.keeps.flags row)) (same.keeps.frame row)
      ∙ by_flag row.flags.m
    where
      passes : (other : Row) → (is_signal_row_of row.frame (same.mark other) && is_fit_row u (same.mark other)) ≡ (is_signal_row_of row.frame other && is_fit_row s other)
      passes other = ap₂ (λ a b. a && b) (ap₂ (λ f r. (f.0 == row.frame.0) && is_some r) (same.keeps.frame other) (same.keeps.receiver other)) (marked_fit other)

      by_flag : (m : Bool) → map row_name (if m then filter (λ other. is_signal_row_of row.frame other && is_fit_row u other) u.rows else []) ≡ map row_name (if m then filter (λ other. is_signal_row_of row.frame other && is_fit_row s other) s.rows else [])
      by_flag true =
          ap (λ rows. map row_name (filter (λ other. is_signal_row_of row.frame other && is_fit_row u other) rows)) same.rows
          ∙ map-filter-map (λ other. is_signal_row_of row.frame other && is_fit_row u other) (λ other. is_signal_row_of row.frame other && is_fit_row s other) same.mark row_name passes same_names s.rows
      by_flag false = refl

  same_parents_of_row : (row : Row) → parents_of_row u (same.mark row) ≡ parents_of_row s row
  same_parents_of_row row = ap₂ (λ (name : Name) (names : List Name). name ∷ names) (ap Space (same.keeps.space row)) (ap₂ (λ (o : Option ThreadNo) (names : List Name). option_to_list (option_map Thread o) ++ names) (same.keeps.receiver row) (same_signals row))

  pub same_parents : (name : Name) → parents u name ≡ parents s name
  unfolding parents
  same_parents (Kernel kernel) = refl
  same_parents (Space space) = ap (λ sp. option_to_list (option_map Kernel (slice_get sp space.0))) same.spaces
  same_parents (Thread thread) = in_space (slice_get u.threads thread.0) (slice_get s.threads thread.0) (same.threads.at thread.0)
    where
      as_name : (o : Option FlatThread) → option_to_list (option_map (λ t. Space t.space) o) ≡ option_to_list (option_map Space (option_map (λ t. t.space) o))
      as_name None = refl
      as_name (Some t) = refl

      in_space : (o p : Option FlatThread) → option_map (λ t. t.space) o ≡ option_map (λ t. t.space) p → option_to_list (option_map (λ t. Space t.space) o) ≡ option_to_list (option_map (λ t. Space t.space) p)
      in_space o p e = as_name o ∙ ap (λ sp. option_to_list (option_map Space sp)) e ∙ sym (as_name p)
  same_parents (Mapping space vpn) = ap (parents_of_found u) (found_row space vpn.0) ∙ by (row_of s.rows space vpn.0)
    where
      by : (o : Option Row) → parents_of_found u (option_map same.mark o) ≡ parents_of_found s o
      by None = refl
      by (Some row) = same_parents_of_row row

  pub same_all_parents : (name : Name) → all_parents u name ≡ all_parents s name
  unfolding all_parents
  same_all_parents name = by 3 (parents u name) ∙ ap (up 3 s) (same_parents name)
    where
      by : (steps : ℕ) (names : List Name) → up steps u names ≡ up steps s names
      by zero names = refl
      by (suc steps) names =
          ap (λ above. names ++ up steps u above) (ap (λ (f : Name → List Name). flat_map f names) (fun_ext same_parents))
          ∙ ap (λ above. names ++ above) (by steps (flat_map (parents s) names))

  pub same_owner : (name : Name) → owner u name ≡ owner s name
  unfolding owner
  same_owner (Kernel kernel) = ap (λ ks. if nat_lt kernel.0 (length ks) then Some (record { 0 = 0 }) else None) same.kernels
  same_owner (Space space) = ap (λ sp. slice_get sp space.0) same.spaces
  same_owner (Thread thread) = thread_owner u (slice_get u.threads thread.0) ∙ ap₂ (λ o sp. owner_in sp o) (same.threads.at thread.0) same.spaces ∙ sym (thread_owner s (slice_get s.threads thread.0))
  same_owner (Mapping space vpn) = ap (owner_of_row u) (found_row space vpn.0) ∙ by (row_of s.rows space vpn.0)
    where
      by : (o : Option Row) → owner_of_row u (option_map same.mark o) ≡ owner_of_row s o
      by None = refl
      by (Some row) = ap₂ (λ (sp : SpaceNo) ks. slice_get ks sp.0) (same.keeps.space row) same.spaces

  pub same_stands : (name : Name) → stands u name ≡ stands s name
  unfolding stands
  same_stands (Kernel kernel) = ap (λ ks. is_some (slice_get ks kernel.0)) same.kernels
  same_stands (Space space) = ap (λ sp. is_some (slice_get sp space.0)) same.spaces
  same_stands (Thread thread) =
      sym (is_some-option_map (λ (t : FlatThread). t.space) (slice_get u.threads thread.0))
      ∙ ap is_some (same.threads.at thread.0)
      ∙ is_some-option_map (λ (t : FlatThread). t.space) (slice_get s.threads thread.0)
  same_stands (Mapping space vpn) = ap is_some (found_row space vpn.0) ∙ is_some-option_map same.mark (row_of s.rows space vpn.0)

  pub same_class : (name : Name) → class_of u name ≡ class_of s name
  unfolding class_of
  same_class (Kernel kernel) = refl
  same_class (Space space) = refl
  same_class (Thread thread) = refl
  same_class (Mapping space vpn) = ap class_of_row (found_row space vpn.0) ∙ by (row_of s.rows space vpn.0)
    where
      by : (o : Option Row) → class_of_row (option_map same.mark o) ≡ class_of_row o
      by None = refl
      by (Some row) = ap₂ (λ f r. class_by f.m (is_some r)) (same.keeps.flags row) (same.keeps.receiver row)

  pub same_fit_name : (name : Name) → is_fit_name u name ≡ is_fit_name s name
  unfolding is_fit_name
  same_fit_name (Kernel kernel) = refl
  same_fit_name (Space space) = refl
  same_fit_name (Thread thread) = refl
  same_fit_name (Mapping space vpn) = ap (is_fit_found u) (found_row space vpn.0) ∙ by (row_of s.rows space vpn.0)
    where
      by : (o : Option Row) → is_fit_found u (option_map same.mark o) ≡ is_fit_found s o
      by None = refl
      by (Some row) = marked_fit row
