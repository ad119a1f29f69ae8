-- How a run ahead comes to be: begun, with a view more, with a step more.
use Rattle.std.proofs.Common.{◌≡◌, ◌≢◌, ℕ, zero, suc, ◌+◌, ◌%◌, ◌<◌, Bool, true, false, ◌&&◌, ◌||◌, cond, List, [], ◌∷◌, ◌++◌, map, Option, Some, None, slice_get, Contains, refl, ap, ap₂, sym, ◌∙◌, subst, inl, inr, ◌⊎◌, arith}
use Rattle.std.specs.Prelude.{◌==◌, if◌then◌else◌, replicate, slice_set, unwrap_or}
use Rattle.std.specs.Bool.{OnFalse, OnTrue}
use Rattle.std.specs.List.{find}
use Rattle.std.proofs.lemmas.Bool.{cases_lt, eq-eqb, eqb-true, and_parts}
use Rattle.std.proofs.lemmas.List.{set-set}
use Rattle.std.proofs.lemmas.Grind.{replicate_next}
use Rattle.cache_ident.specs.declared.idents.Ident.{Ident}
use Rattle.cache_ident.specs.declared.names.Frame.{Frame}
use Rattle.cache_ident.specs.declared.names.Vpn.{Vpn}
use Rattle.phys_groups.specs.declared.rows.Flags.{Flags}
use Rattle.phys_groups.specs.declared.rows.Row.{Row}
use Rattle.rv32_exec.specs.declared.contexts.Context.{Context}
use Rattle.rv32_exec.specs.declared.statuses.Status.{Status}
use Rattle.rv32_exec.specs.declared.statuses.Status.TheVariants.{Ready}
use Rattle.rv32_exec.specs.declared.steps.Stepped.{Stepped}
use Rattle.rv32_exec.specs.declared.steps.Stepped.TheVariants as steps
use Rattle.rv32_exec.specs.Changes.{Change}
use Rattle.rv32_exec.proofs.StepChanges.{is_step}
use Rattle.flat_laws.specs.flat_state.specs.declared.events.Event.{Event}
use Rattle.flat_laws.specs.flat_state.specs.declared.events.Event.TheVariants.{Step}
use Rattle.flat_laws.specs.flat_state.specs.declared.records.FlatThread.{FlatThread}
use Rattle.flat_laws.specs.flat_state.specs.State.{FlatState, with_thread}
use Rattle.flat_laws.specs.flat_state.specs.Events.{applied, after_events}
use Rattle.flat_laws.specs.flat_state.specs.NextSteps.{is_miss}
use Rattle.flat_laws.specs.flat_state.specs.WellFormed.{IsWellFormed}
use Rattle.flat_laws.specs.flat_state.proofs.FormedEvents.{applied_formed}
use Rattle.flat_laws.specs.flat_state.proofs.Finding.{find-contains, find-passes}
use Rattle.std.proofs.lemmas.Option.{same_Some}
use Rattle.flat_laws.specs.flat_state.proofs.Places.{get-set_same}
use Rattle.flat_laws.proofs.Members.{Contains-cases, Contains-here, Contains-behind, Contains-filter, Contains-map, Contains-from_map, contains_nothing}
use Rattle.page_views.specs.Views.{can_fill, filled, is_of_page, is_touched_of, pages_of_views, present_in, Copied, Dated, IsRefilled, IsReordered, Table, View}
use Rattle.page_views.proofs.Tables.{no_view, one_filled, one_mapped}
use Rattle.quantum.specs.declared.paused.Paused.{Paused}
use Rattle.quantum.specs.declared.paused.Paused.TheVariants as pauses
use Rattle.quantum.specs.Ahead.{Ahead, HasRefilled, HasReordered, more_with, outcome, one_ahead, pause_after, pause_before, pause_if_missed, signals_next, standing, views_with}
use Rattle.quantum.specs.LocalRun.{touched_views, CouldRun, HaveOneContents, GoesThrough, Shows, state_after, status_by}
use Rattle.quantum.specs.Made.{put_on, has_mark, has_store_mark, AreOf, changed_memory, changed_rows, changed_state, IsView, IsMade}
use Rattle.quantum.proofs.StepsIn.{step_acts}
use Rattle.quantum.proofs.ViewPages.{after_changes, views_changed}
use Rattle.quantum.proofs.Changed.{shows_after}
use Rattle.quantum.proofs.FlatSteps.{not_put}
use Rattle.quantum.proofs.OneStep.{are_of, contains_filter, status_after, step_is, goes_through}
use Rattle.quantum.proofs.Growing.{Grows, touched_later, of_later, goes_later, shows_before, mark-append, store_mark-append, put-append, of-append, memory-append, rows-append, not_marked, not_stored, agree}

-- ---- begun

set_same : (threads : List FlatThread) (n : ℕ) (t : FlatThread) → slice_get threads n ≡ Some t → slice_set threads n t ≡ threads
set_same [] n t here = absurd (cc)
set_same (u ∷ threads) zero t here = ap (λ (v : FlatThread). v ∷ threads) (sym (same_Some u t here))
set_same (u ∷ threads) (suc n) t here = ap (λ (ts : List FlatThread). u ∷ ts) (set_same threads n t here)

pub made_begun : (c : Context) (most : ℕ) (kept : List (Option Dated)) → c.pc % 4 ≡ 0 → IsMade (record { first = c; context = c; most = most; views = []; kept = kept; steps = 0; paused = None })
made_begun c most kept aligned = record {
  aligned = aligned;
  one_a_page = λ i j d below within. absurd (omega (arith, within));
  changes = [];
  of = tt;
  views = λ v there. absurd (contains_nothing v there);
  each = λ s n t formed here could k below. absurd (omega (arith, below));
  ahead = λ s n t formed here could.
      sym (ap₂ (λ (context : Context) (status : Status). with_thread s n (record t { context = context; status = status })) (sym could.context) (sym could.ready)
      ∙ ap (λ (threads : List FlatThread). record s { threads = threads }) (set_same s.threads n t here));
}

-- ---- paused

pub made_paused : (a : Ahead) (p : Option Paused) → IsMade a → status_by p ≡ status_by a.paused → IsMade (record a { paused = p })
made_paused a p made same = record {
  aligned = made.aligned;
  one_a_page = made.one_a_page;
  changes = made.changes;
  of = made.of;
  views = made.views;
  each = λ s n t formed here could. made.each s n t formed here (record { ready = could.ready; context = could.context; views = could.views });
  ahead = λ s n t formed here could.
      made.ahead s n t formed here (record { ready = could.ready; context = could.context; views = could.views })
      ∙ ap (λ (status : Status). with_thread (changed_state s t.space made.changes) n (record t { context = a.context; status = status })) (sym same);
}

-- ---- with a view more

contains_more : (vs : List View) (x v : View) → Contains vs v → Contains (vs ++ x ∷ []) v
contains_more [] x v there = absurd (contains_nothing v there)
contains_more (u ∷ vs) x v there = by (Contains-cases u vs v there) (λ behind. contains_more vs x v behind)
  where
    by : (u ≡ v) ⊎ Contains vs v → (Contains vs v → Contains (vs ++ x ∷ []) v) → Contains ((u ∷ vs) ++ x ∷ []) v
    by (inl same) later = subst (λ (w : View). Contains ((u ∷ vs) ++ x ∷ []) w) same (Contains-here u (vs ++ x ∷ []))
    by (inr behind) later = Contains-behind u (vs ++ x ∷ []) v (later behind)

contains_either : (vs : List View) (x v : View) → Contains (vs ++ x ∷ []) v → Contains vs v ⊎ (v ≡ x)
contains_either [] x v there = by (Contains-cases x [] v there)
  where
    by : (x ≡ v) ⊎ Contains [] v → Contains [] v ⊎ (v ≡ x)
    by (inl same) = inr (sym same)
    by (inr behind) = inl behind
contains_either (u ∷ vs) x v there = by (Contains-cases u (vs ++ x ∷ []) v there) (λ behind. contains_either vs x v behind)
  where
    by : (u ≡ v) ⊎ Contains (vs ++ x ∷ []) v → (Contains (vs ++ x ∷ []) v → Contains vs v ⊎ (v ≡ x)) → Contains (u ∷ vs) v ⊎ (v ≡ x)
    by (inl same) later = inl (subst (λ (w : View). Contains (u ∷ vs) w) same (Contains-here u vs))
    by (inr behind) later = wider (later behind)
      where
        wider : Contains vs v ⊎ (v ≡ x) → Contains (u ∷ vs) v ⊎ (v ≡ x)
        wider (inl old) = inl (Contains-behind u vs v old)
        wider (inr new) = inr new

grows_by : (vs : List View) (x : View) → Grows vs (vs ++ x ∷ [])
grows_by vs x = record { later = λ v there. record { view = v; there = contains_more vs x v there; same = refl; touched = λ e. e } }

-- where none is found, none passes
pub none_found : {X : Type 0} (p : X → Bool) (xs : List X) → find p xs ≡ None → (x : X) → Contains xs x → p x ≡ false
none_found p [] none x there = absurd (contains_nothing x there)
none_found {X = X} p (y ∷ xs) none x there = by (p y) refl none (Contains-cases y xs x there) (λ absent behind. none_found p xs absent x behind)
  where
    by : (b : Bool) → p y ≡ b → cond b (Some y) (find p xs) ≡ None → (y ≡ x) ⊎ Contains xs x → (find p xs ≡ None → Contains xs x → p x ≡ false) → p x ≡ false
    by true e none where_it later = absurd (cc)
    by false e none (inl same) later = ap p (sym same) ∙ e
    by false e none (inr behind) later = later none behind

pub true_false : {P : Type 0} → true ≡ false → P
true_false e = absurd (cc)

module _ (vs : List View) (cs : List Change) (of : AreOf vs cs) (views : (v : View) → Contains vs v → IsView vs cs v) (vpn : Vpn) (frame : Frame) (flags : Flags) (row : Ident) (bytes : List ℕ) (taken : Option ℕ) (most : ℕ) (room : can_fill most vs vpn ≡ true) where
  abbrev new : View
  new = filled vs vpn frame flags row bytes taken

  other_page : (v : View) → Contains vs v → v.vpn.0 ≢ vpn.0
  other_page v there = λ same. true_false (sym (eq-eqb v.vpn.0 vpn.0 same) ∙ none_found (is_of_page vpn) vs (no_view most vs vpn room) v there)

  -- the contents are those that the others make it have
  new_present : ((u : View) → Contains (touched_views vs) u → u.frame.0 ≡ frame.0 → u.first ≡ bytes) → (o : Option View) → find (is_touched_of frame) vs ≡ o → present_in o bytes ≡ put_on cs frame.0 bytes
  new_present agrees None none = sym (not_put vs cs frame bytes of (λ u there same.
      let parts = Contains-filter (λ (w : View). w.touched) vs u there in
      true_false (sym (touched_there u parts.1 same) ∙ none_found (is_touched_of frame) vs none u parts.0)))
    where
      touched_there : (u : View) → u.touched ≡ true → u.frame.0 ≡ frame.0 → (u.touched && (u.frame.0 == frame.0)) ≡ true
      touched_there u touched same = ap₂ (λ (a b : Bool). a && b) touched (eq-eqb u.frame.0 frame.0 same)
  new_present agrees (Some u) found =
      let there = find-contains (is_touched_of frame) vs u found in
      let parts = and_parts u.touched (u.frame.0 == frame.0) (find-passes (is_touched_of frame) vs u found) in
      let same : u.frame.0 ≡ frame.0 = eqb-true u.frame.0 frame.0 parts.1 in
      let first : u.first ≡ bytes = agrees u (contains_filter (λ (w : View). w.touched) vs u there parts.0) same in
      (views u there).present (λ w touched at. agrees w touched (at ∙ same) ∙ sym first)
      ∙ ap₂ (λ (f : ℕ) (b : List ℕ). put_on cs f b) same first

  views_more : (v : View) → Contains (vs ++ new ∷ []) v → IsView (vs ++ new ∷ []) cs v
  views_more v there = by (contains_either vs new v there)
    where
      old_touched : (u : View) → Contains (touched_views vs) u → Contains (touched_views (vs ++ new ∷ [])) u
      old_touched u touched =
          let parts = Contains-filter (λ (w : View). w.touched) vs u touched in
          contains_filter (λ (w : View). w.touched) (vs ++ new ∷ []) u (contains_more vs new u parts.0) parts.1

      by : Contains vs v ⊎ (v ≡ new) → IsView (vs ++ new ∷ []) cs v
      by (inl old) =
          let is = views v old in
          record { touched = is.touched; written = is.written; present = λ agrees. is.present (λ u touched same. agrees u (old_touched u touched) same) }
      by (inr e) = subst (λ (w : View). IsView (vs ++ new ∷ []) cs w) (sym e) (record {
        touched = sym (not_marked vs vpn.0 cs of other_page);
        written = sym (not_stored vs vpn.0 cs of other_page);
        present = λ agrees. new_present (λ u touched same. agrees u (old_touched u touched) same) (find (is_touched_of frame) vs) refl;
      })

could_before : (a b : Ahead) (s : FlatState) (t : FlatThread) → b.first ≡ a.first → Grows a.views b.views → CouldRun s t b → CouldRun s t a
could_before a b s t first grows could = record {
  ready = could.ready;
  context = could.context ∙ first;
  views = shows_before a.views b.views grows s t.space could.views;
}

pub made_filled : (a : Ahead) (vpn : Vpn) (frame : Frame) (flags : Flags) (row : Ident) (bytes : List ℕ) (taken : Option ℕ) → IsMade a → can_fill a.most a.views vpn ≡ true
    → IsMade (more_with (filled a.views vpn frame flags row bytes taken) a)
made_filled a vpn frame flags row bytes taken made room =
    let new : View = filled a.views vpn frame flags row bytes taken in
    let grows = grows_by a.views new in
    let b : Ahead = more_with new a in
    record {
      aligned = made.aligned;
      one_a_page = one_filled a.most a.views new room made.one_a_page;
      changes = made.changes;
      of = of_later a.views (a.views ++ new ∷ []) grows made.changes made.of;
      views = views_more a.views made.changes made.of made.views vpn frame flags row bytes taken a.most room;
      each = λ s n t formed here could k below.
          goes_later a.views (a.views ++ new ∷ []) grows (state_after s n k) n t.space (made.each s n t formed here (could_before a b s t refl grows could) k below);
      ahead = λ s n t formed here could. made.ahead s n t formed here (could_before a b s t refl grows could);
    }

-- whatever is kept
made_keeping : (a : Ahead) (kept : List (Option Dated)) → IsMade a → IsMade (record a { kept = kept })
made_keeping a kept made = record {
  aligned = made.aligned;
  one_a_page = made.one_a_page;
  changes = made.changes;
  of = made.of;
  views = made.views;
  each = λ s n t formed here could. made.each s n t formed here (record { ready = could.ready; context = could.context; views = could.views });
  ahead = λ s n t formed here could. made.ahead s n t formed here (record { ready = could.ready; context = could.context; views = could.views });
}

-- with a view more of what was kept, or with this in another order, as the table has it
module _ (a : Ahead) (vpn : Vpn) (frame : Frame) (flags : Flags) (row : Ident) (since : ℕ) (t : Table) where
  abbrev pub table_of : Ahead → Table
  table_of b = record { most = b.most; views = b.views; kept = b.kept }

  abbrev pub with_table : Ahead
  with_table = record a { most = t.most; views = t.views; kept = t.kept }

  has_refilled : IsRefilled vpn frame flags row since (table_of a) t → HasRefilled vpn frame flags row since a with_table
  has_refilled is = record {
    d = is.d;
    was = is.was;
    is = ap₂ (λ (most : ℕ) (vs : List View). record a { most = most; views = vs; kept = t.kept }) is.most is.views;
    kept = is.kept;
  }

  has_reordered : IsReordered (table_of a) t → HasReordered a with_table
  has_reordered is = record {
    is = ap₂ (λ (most : ℕ) (vs : List View). record a { most = most; views = vs; kept = t.kept }) is.most is.views;
    kept = is.kept;
  }

  pub made_again : (r : Bool) → OnTrue r (IsRefilled vpn frame flags row since (table_of a) t) → OnFalse r (IsReordered (table_of a) t) → IsMade a → can_fill a.most a.views vpn ≡ true → IsMade with_table
  unfolding has_refilled
  made_again true is not made room =
      let has = has_refilled is in
      subst IsMade (sym has.is) (made_keeping (more_with (filled a.views vpn frame flags row is.d.bytes (Some is.d.place)) a) t.kept (made_filled a vpn frame flags row is.d.bytes (Some is.d.place) made room))
  made_again false is not made room = subst IsMade (sym (has_reordered not).is) (made_keeping a t.kept made)

  pub refilled_so : (r : Bool) → OnTrue r (IsRefilled vpn frame flags row since (table_of a) t) → (b : Ahead) → a ≡ b → OnTrue r (HasRefilled vpn frame flags row since b with_table)
  refilled_so true is b same = subst (λ (c : Ahead). HasRefilled vpn frame flags row since c with_table) same (has_refilled is)
  refilled_so false is b same = tt

  pub reordered_so : (r : Bool) → OnFalse r (IsReordered (table_of a) t) → (b : Ahead) → a ≡ b → OnFalse r (HasReordered b with_table)
  reordered_so true is b same = tt
  reordered_so false is b same = subst (λ (c : Ahead). HasReordered c with_table) same (has_reordered is)

-- the touched views of a frame that were copied alike hold the same: the first contents with all that was put there
pub one_contents : (a : Ahead) → IsMade a → HaveOneContents a.views
one_contents a made u v u_there v_there same alike =
    let frames : u.frame.0 ≡ v.frame.0 = ap (λ (f : Frame). f.0) same in
    let u_is = made.views u (Contains-filter (λ (w : View). w.touched) a.views u u_there).0 in
    let v_is = made.views v (Contains-filter (λ (w : View). w.touched) a.views v v_there).0 in
    let as_v = λ (w : View) (there : Contains (touched_views a.views) w) (at : w.frame.0 ≡ v.frame.0). alike w there (ap (λ (n : ℕ). let f : Frame = record { 0 = n } in f) at) in
    let first : u.first ≡ v.first = alike u u_there same in
    u_is.present (λ w there at. as_v w there (at ∙ frames) ∙ sym first)
    ∙ ap₂ (λ (f : ℕ) (b : List ℕ). put_on made.changes f b) frames first
    ∙ sym (v_is.present as_v)

-- ---- with a step more

after_events-append : (s : FlatState) (es fs : List Event) → after_events s (es ++ fs) ≡ after_events (after_events s es) fs
after_events-append s [] fs = refl
after_events-append s (e ∷ es) fs = after_events-append (applied s e) es fs

events_formed : (s : FlatState) (es : List Event) → IsWellFormed s → IsWellFormed (after_events s es)
events_formed s [] formed = formed
events_formed s (e ∷ es) formed = events_formed (applied s e) es (applied_formed s e formed)

abbrev stepping : ℕ → Event
stepping n = Step (record { 0 = n })

one_more : (s : FlatState) (n k : ℕ) → state_after s n (k + 1) ≡ applied (state_after s n k) (stepping n)
one_more s n k = ap (after_events s) (replicate_next k (stepping n)) ∙ after_events-append s (replicate k (stepping n)) (stepping n ∷ [])

grows_after : (ds : List Change) (vs : List View) → Grows vs (map (after_changes ds) vs)
grows_after ds vs = record {
  later = λ v there. record { view = after_changes ds v; there = Contains-map (after_changes ds) vs v there; same = refl; touched = λ e. ap (λ (b : Bool). b || has_mark v.vpn.0 ds) e };
}

-- a view after a step's changes is what all changes made of it
view_after : (vs : List View) (cs ds : List Change) → ((v : View) → Contains vs v → IsView vs cs v) → (w : View) → Contains (map (after_changes ds) vs) w → IsView (map (after_changes ds) vs) (cs ++ ds) w
view_after vs cs ds views w there =
    let v = Contains-from_map (after_changes ds) vs w there in
    let is = views v.0 v.1 in
    subst (λ (u : View). IsView (map (after_changes ds) vs) (cs ++ ds) u) v.2 (record {
      touched = ap (λ (b : Bool). b || has_mark v.0.vpn.0 ds) is.touched ∙ sym (mark-append v.0.vpn.0 cs ds);
      written = ap (λ (b : Bool). b || has_store_mark v.0.vpn.0 ds) is.written ∙ sym (store_mark-append v.0.vpn.0 cs ds);
      present = λ agrees.
          ap (put_on ds v.0.frame.0) (is.present (λ u touched same.
          let x = touched_later vs (map (after_changes ds) vs) (grows_after ds vs) u touched in
          sym (ap (λ (c : Copied). c.first) x.2) ∙ agrees x.0 x.1 (ap (λ (c : Copied). c.frame.0) x.2 ∙ same)))
          ∙ sym (put-append cs ds v.0.frame.0 v.0.first);
    })

-- a pause that stands nowhere leaves the thread ready
pub ready_where : (p : Option Paused) → standing p ≡ None → status_by p ≡ Ready
ready_where None none = refl
ready_where (Some pauses.Call) none = absurd (cc)
ready_where (Some (pauses.Stopped reason)) none = absurd (cc)
ready_where (Some pauses.Limit) none = refl
ready_where (Some (pauses.Miss va access)) none = refl
ready_where (Some pauses.Signal) none = refl

status_so : (answer : Stepped) → status_after answer ≡ status_by (pause_after answer)
status_so steps.Next = refl
status_so steps.Call = refl
status_so (steps.Stop reason) = refl
status_so (steps.Miss va access) = refl

not_missed : (answer : Stepped) → pause_if_missed answer ≡ None → is_miss answer ≡ false
not_missed steps.Next none = refl
not_missed steps.Call none = refl
not_missed (steps.Stop reason) none = refl
not_missed (steps.Miss va access) none = absurd (cc)

pub quiet_where : (a : Ahead) → pause_before a ≡ None → (signals_next a ≡ false) × (is_miss (outcome a).answer ≡ false)
quiet_where a none = by (signals_next a) refl none
  where
    by : (b : Bool) → signals_next a ≡ b → (if b then Some pauses.Signal else pause_if_missed (outcome a).answer) ≡ None → (signals_next a ≡ false) × (is_miss (outcome a).answer ≡ false)
    by true e none = absurd (cc)
    by false e none = (e, not_missed (outcome a).answer none)

module _ (a : Ahead) (made : IsMade a) (going : standing a.paused ≡ None) (quiet : signals_next a ≡ false) (went : is_miss (outcome a).answer ≡ false) where
  abbrev ds : List Change
  ds = (step_acts (pages_of_views a.views) a.context went).changes

  abbrev ws : List View
  ws = map (after_changes ds) a.views

  -- the run ahead with the step, by its changes
  abbrev next : Ahead
  next = record a { context = (outcome a).context; views = ws; steps = a.steps + 1; paused = pause_after (outcome a).answer }

  next_is : one_ahead a ≡ next
  next_is = ap (λ (vs : List View). record next { views = vs }) (ap (views_with a.views) (step_acts (pages_of_views a.views) a.context went).here ∙ views_changed ds a.views)

  module _ (s : FlatState) (n : ℕ) (t : FlatThread) (formed : IsWellFormed s) (here : slice_get s.threads n ≡ Some t) (could : CouldRun s t next) where
    before : CouldRun s t a
    before = could_before a next s t refl (grows_after ds a.views) could

    -- the thread and the state before the step
    abbrev thread : FlatThread
    thread = record t { context = a.context; status = status_by a.paused }

    abbrev now : FlatState
    now = with_thread (changed_state s t.space made.changes) n thread

    now_is : state_after s n a.steps ≡ now
    now_is = made.ahead s n t formed here before

    now_formed : IsWellFormed now
    now_formed = subst IsWellFormed now_is (events_formed s (replicate a.steps (stepping n)) formed)

    now_here : slice_get now.threads n ≡ Some thread
    now_here = get-set_same s.threads n thread t here

    shown : (v : View) → Contains a.views v → (v.touched || has_mark v.vpn.0 ds) ≡ true → Shows s t.space v v.first
    shown v there touched =
        let w = could.views (after_changes ds v) (contains_filter (λ (u : View). u.touched) ws (after_changes ds v) (Contains-map (after_changes ds) a.views v there) touched) in
        record { row = w.row; its = w.its; fit = w.fit; frame = w.frame; flags = w.flags; holds = w.holds }

    shows : (v : View) → Contains a.views v → (v.touched || has_mark v.vpn.0 ds) ≡ true → Shows now t.space v v.present
    shows v there touched =
        let first = shown v there touched in
        let present = (made.views v there).present (λ u touched_u same. agree s t.space u v (before.views u touched_u) first same) in
        let w = shows_after s t.space a.views made.changes v made.of first present in
        record { row = w.row; its = w.its; fit = w.fit; frame = w.frame; flags = w.flags; holds = w.holds }

    pub goes : GoesThrough (state_after s n a.steps) n t.space ws
    goes = subst (λ (u : FlatState). GoesThrough u n t.space ws) (sym now_is) (goes_through now now_formed n thread now_here (ready_where a.paused going) a.views went quiet shows)

    left : with_thread (changed_state now t.space ds) n (record thread { context = (outcome a).context; status = status_after (outcome a).answer })
        ≡ with_thread (changed_state s t.space (made.changes ++ ds)) n (record t { context = (outcome a).context; status = status_by (pause_after (outcome a).answer) })
    left =
        let u : FlatThread = record t { context = (outcome a).context; status = status_after (outcome a).answer } in
        ap (λ (threads : List FlatThread). record s { memory = changed_memory ds (changed_memory made.changes s.memory); rows = changed_rows t.space ds (changed_rows t.space made.changes s.rows); threads = threads }) (set-set s.threads n thread u)
        ∙ (ap₂ (λ (m : List ℕ) (rows : List Row). record s { memory = m; rows = rows; threads = slice_set s.threads n u }) (sym (memory-append made.changes ds s.memory)) (sym (rows-append t.space made.changes ds s.rows))
        ∙ ap (λ (status : Status). with_thread (changed_state s t.space (made.changes ++ ds)) n (record t { context = (outcome a).context; status = status })) (status_so (outcome a).answer))

    pub makes : state_after s n (a.steps + 1) ≡ with_thread (changed_state s t.space (made.changes ++ ds)) n (record t { context = (outcome a).context; status = status_by (pause_after (outcome a).answer) })
    makes =
        one_more s n a.steps
        ∙ (ap (λ (u : FlatState). applied u (stepping n)) now_is
        ∙ (ap (λ (o : Option FlatState). unwrap_or o now) (step_is now now_formed n thread now_here (ready_where a.paused going) a.views went quiet shows)
        ∙ left))

    pub each_goes : (k : ℕ) → k < a.steps + 1 → GoesThrough (state_after s n k) n t.space ws
    each_goes k below = elim (cases_lt k a.steps) [
      | inl earlier ↦ goes_later a.views ws (grows_after ds a.views) (state_after s n k) n t.space (made.each s n t formed here before k earlier)
      | inr last ↦
          let same : a.steps ≡ k = omega (arith, last, below) in
          subst (λ (j : ℕ). GoesThrough (state_after s n j) n t.space ws) same goes
    ]

  next_made : IsMade next
  next_made = record {
    aligned = (is_step a.context (pages_of_views a.views)).aligned made.aligned;
    one_a_page = one_mapped (after_changes ds) (λ v. refl) a.views made.one_a_page;
    changes = made.changes ++ ds;
    of = of-append ws made.changes ds (of_later a.views ws (grows_after ds a.views) made.changes made.of) (are_of a.views ds ds (step_acts (pages_of_views a.views) a.context went).puts);
    views = view_after a.views made.changes ds made.views;
    each = λ s n t formed here could. each_goes s n t formed here could;
    ahead = λ s n t formed here could. makes s n t formed here could;
  }

  pub made_ahead : IsMade (one_ahead a)
  made_ahead = subst IsMade (sym next_is) next_made
