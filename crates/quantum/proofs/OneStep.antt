-- One step ahead, in a state where the views that it touches show what they hold.
use Rattle.std.proofs.Common.{◌≡◌, ℕ, ◌/◌, ◌%◌, Bool, true, false, not, ◌&&◌, ◌||◌, cond, List, [], ◌∷◌, map, Option, Some, None, is_some, slice_get, Contains, refl, ap, ap₂, sym, ◌∙◌, subst, inl, inr, ◌⊎◌, arith}
use Rattle.std.specs.Prelude.{◌==◌, if◌then◌else◌}
use Rattle.std.specs.List.{filter}
use Rattle.std.specs.Option.{option_map}
use Rattle.std.proofs.lemmas.Bool.{and_from, and_parts, cases_Bool, eq-eqb, eqb-true, or_right}
use Rattle.cache_ident.specs.declared.names.Frame.{Frame}
use Rattle.cache_ident.specs.declared.names.Name.TheVariants.{Mapping}
use Rattle.cache_ident.specs.declared.names.SpaceNo.{SpaceNo}
use Rattle.phys_groups.specs.declared.rows.Row.{Row}
use Rattle.phys_groups.specs.declared.rows.Flags.{Flags}
use Rattle.phys_groups.specs.Rows.{row_name}
use Rattle.phys_groups.specs.Translation.{Translated, through, no_row, no_flag, no_right, is_row_of}
use Rattle.signal_pages.specs.Signals.{is_signalling}
use Rattle.rv32_exec.specs.declared.statuses.Access.{Access}
use Rattle.rv32_exec.specs.declared.statuses.Access.TheVariants.{Fetch, Read, Write}
use Rattle.rv32_exec.specs.declared.statuses.Status.{Status}
use Rattle.rv32_exec.specs.declared.statuses.Status.TheVariants.{Ready, Trapped, Ended}
use Rattle.rv32_exec.specs.declared.spaces.Width.TheVariants.{Byte, Half, Word}
use Rattle.rv32_exec.specs.declared.actions.Action.{Action}
use Rattle.rv32_exec.specs.declared.actions.Action.TheVariants as actions
use Rattle.rv32_exec.specs.declared.steps.Stepped.{Stepped}
use Rattle.rv32_exec.specs.declared.steps.Stepped.TheVariants.{Next, Call, Stop, Miss}
use Rattle.rv32_exec.specs.Pages.{Page, size_of, translation}
use Rattle.rv32_exec.specs.Changes.{Change, Marked, Put, all_changed}
use Rattle.rv32_exec.specs.Steps.{After, after_step as after_instruction}
use Rattle.flat_laws.specs.flat_state.specs.declared.records.FlatThread.{FlatThread}
use Rattle.flat_laws.specs.flat_state.specs.declared.records.Signal.{Signal}
use Rattle.flat_laws.specs.flat_state.specs.State.{FlatState, is_ready, with_thread}
use Rattle.flat_laws.specs.flat_state.specs.Translation.{reached, row_through}
use Rattle.flat_laws.specs.flat_state.specs.Pages.{is_in, pages_of}
use Rattle.flat_laws.specs.flat_state.specs.Signals.{next_action, next_signal, signal_of, signal_through, receivers_for, full_among, is_runnable, delivered}
use Rattle.flat_laws.specs.flat_state.specs.Step.{outcome, signalled, went_on, stepped_so, stepped, step_if, step_of, after_step}
use Rattle.flat_laws.specs.flat_state.specs.NextSteps.{is_miss, row_of_access, row_of_action, next_step, next_step_of, next_step_if}
use Rattle.flat_laws.specs.flat_state.specs.WellFormed.{IsWellFormed}
use Rattle.flat_laws.specs.flat_state.proofs.Finding.{any-found, find-passes}
use Rattle.flat_laws.proofs.Members.{Contains-cases, Contains-here, Contains-behind, Contains-filter, Contains-map, Contains-from_map, contains_nothing}
use Rattle.page_views.specs.Views.{View, page_of, pages_of_views, view_through}
use Rattle.page_views.proofs.Tables.{translation_is}
use Rattle.quantum.specs.Ahead.{signals_by, signals_through}
use Rattle.quantum.specs.LocalRun.{touched_views, GoesThrough, IsViewed, Shows}
use Rattle.quantum.specs.Made.{has_mark, AreOf, changed_state}
use Rattle.quantum.proofs.ViewPages.{after_changes}
use Rattle.quantum.proofs.StepsIn.{Acts, AllFound, AllMarked, AllShow, ArePuts, data_of_next, same_action, step_acts}
use Rattle.quantum.proofs.Changed.{reaches, shows_at, through_parts}
use Rattle.quantum.proofs.FlatSteps.{AreMapped, goes_back}

pub contains_filter : {X : Type 0} (p : X → Bool) (xs : List X) (x : X) → Contains xs x → p x ≡ true → Contains (filter p xs) x
contains_filter p [] x there is = absurd (contains_nothing x there)
contains_filter {X = X} p (y ∷ xs) x there is = by (p y) refl (Contains-cases y xs x there) (λ behind. contains_filter p xs x behind is)
  where
    by : (b : Bool) → p y ≡ b → (y ≡ x) ⊎ Contains xs x → (Contains xs x → Contains (filter p xs) x) → Contains (cond b (y ∷ filter p xs) (filter p xs)) x
    by true e (inl same) later = subst (λ (z : X). Contains (y ∷ filter p xs) z) same (Contains-here y (filter p xs))
    by true e (inr behind) later = Contains-behind y (filter p xs) x (later behind)
    by false e (inl same) later = absurd (clash (sym e ∙ (ap p same ∙ is)))
      where
        clash : false ≡ true → ⊥
        clash e = cc
    by false e (inr behind) later = later behind

-- an access goes through the row of a touched view
pub record Viewed (s : FlatState) (space : SpaceNo) (ws : List View) (access : Access) (va : ℕ) : Type 0 where
  pub view : View
  pub there : Contains (touched_views ws) view
  pub row : Row
  pub reached : reached s access space va ≡ through row
  pub space_is : row.space.0 ≡ space.0
  pub vpn : row.vpn.0 ≡ view.vpn.0
  pub flags : row.flags ≡ view.flags

abbrev AllViewed : FlatState → SpaceNo → List View → List (Access × ℕ) → Type 0
AllViewed s space ws [] = Unit {0}
AllViewed s space ws (x ∷ xs) = Viewed s space ws x.0 x.1 × AllViewed s space ws xs

abbrev pub status_after : Stepped → Status
status_after Next = Ready
status_after Call = Trapped
status_after (Stop reason) = Ended reason
status_after (Miss va access) = Ready

true_false : {P : Type 0} → true ≡ false → P
true_false e = absurd (cc)

-- the views, and what a step over them changes
module _ (vs : List View) (ds : List Change) where
  -- a view that the step touches is touched then
  touched_then : (v : View) → Contains vs v → has_mark v.vpn.0 ds ≡ true → Contains (touched_views (map (after_changes ds) vs)) (after_changes ds v)
  touched_then v there mark = contains_filter (λ (w : View). w.touched) (map (after_changes ds) vs) (after_changes ds v) (Contains-map (after_changes ds) vs v there) (ap (λ (b : Bool). v.touched || b) mark ∙ or_right v.touched true refl)

  view_of_page : (p : Page) → Contains (pages_of_views vs) p → (v : View) × Contains vs v × (page_of v ≡ p)
  view_of_page p there = Contains-from_map page_of vs p there

  pub are_of : (cs : List Change) → ArePuts ds (pages_of_views vs) cs → AreOf (map (after_changes ds) vs) cs
  are_of [] puts = tt
  are_of (Marked n access ∷ cs) puts =
      let v = view_of_page puts.0.0 puts.0.1 in
      ((after_changes ds v.0, Contains-map (after_changes ds) vs v.0 v.1, ap (λ (p : Page). p.number) v.2 ∙ puts.0.2), are_of cs puts.1)
  are_of (Put frame count at value ∷ cs) puts =
      let v = view_of_page puts.1.0 puts.1.1 in
      let mark : has_mark v.0.vpn.0 ds ≡ true = ap (λ (p : Page). has_mark p.number ds) v.2 ∙ puts.1.3 in
      (puts.0, (after_changes ds v.0, touched_then v.0 v.1 mark, ap (λ (p : Page). p.frame) v.2 ∙ puts.1.2), are_of cs puts.2)

  module _ (s : FlatState) (space : SpaceNo) (shows : (v : View) → Contains vs v → (v.touched || has_mark v.vpn.0 ds) ≡ true → Shows s space v v.present) where
    marked_shows : (v : View) → Contains vs v → has_mark v.vpn.0 ds ≡ true → Shows s space v v.present
    marked_shows v there mark = shows v there (ap (λ (b : Bool). v.touched || b) mark ∙ or_right v.touched true refl)

    mark_of : (access : Access) (va : ℕ) (v : View) → v.vpn.0 ≡ va / 4096 → has_mark (va / 4096) ds ≡ true → has_mark v.vpn.0 ds ≡ true
    mark_of access va v page mark = ap (λ (n : ℕ). has_mark n ds) page ∙ mark

    all_show : (xs : List (Access × ℕ)) → AllMarked ds xs → AllShow (pages_of_views vs) (pages_of s space) xs
    all_show [] marks = tt
    all_show (x ∷ xs) marks = (
      shows_at s space vs x.0 x.1 (λ v found.
          let parts = through_parts vs x.0 x.1 v found in
          marked_shows v parts.0 (mark_of x.0 x.1 v parts.1 marks.0)),
      all_show xs marks.1,
    )

    viewed : (access : Access) (va : ℕ) → (p : Page) → translation (pages_of_views vs) va access ≡ Some p → has_mark (va / 4096) ds ≡ true → Viewed s space (map (after_changes ds) vs) access va
    viewed access va p found mark = by (view_through vs access va) refl (sym (translation_is vs access va) ∙ found)
      where
        by : (o : Option View) → view_through vs access va ≡ o → option_map page_of o ≡ Some p → Viewed s space (map (after_changes ds) vs) access va
        by None e is = absurd (cc)
        by (Some v) e is =
            let parts = through_parts vs access va v e in
            let marked = mark_of access va v parts.1 mark in
            let r = reaches s space access va v v.present (marked_shows v parts.0 marked) parts.1 parts.2 in
            record { view = after_changes ds v; there = touched_then v parts.0 marked; row = r.row; reached = r.reached; space_is = r.space_is; vpn = r.vpn; flags = r.flags }

    all_viewed : (xs : List (Access × ℕ)) → AllFound (pages_of_views vs) xs → AllMarked ds xs → AllViewed s space (map (after_changes ds) vs) xs
    all_viewed [] found marks = tt
    all_viewed (x ∷ xs) found marks = (viewed x.0 x.1 found.0.0 found.0.1 marks.0, all_viewed xs found.1 marks.1)

    are_mapped : AreMapped s.rows space (map (after_changes ds) vs)
    are_mapped = λ w there.
        let parts = Contains-filter (λ (u : View). u.touched) (map (after_changes ds) vs) w there in
        let v = Contains-from_map (after_changes ds) vs w parts.0 in
        let show = shows v.0 v.1 (ap (λ (u : View). u.touched) v.2 ∙ parts.1) in
        any-found (is_row_of space v.0.vpn.0) (λ (r : Row). is_in space r && (r.frame.0 == w.frame.0)) s.rows show.row show.its
        (and_from (is_in space show.row) (show.row.frame.0 == w.frame.0) (inside show) (eq-eqb show.row.frame.0 w.frame.0 (ap (λ (f : Frame). f.0) show.frame ∙ ap (λ (u : View). u.frame.0) v.2)))
      where
        inside : {v : View} (show : Shows s space v v.present) → is_in space show.row ≡ true
        inside {v = v} show = (and_parts (show.row.space.0 == space.0) (show.row.vpn.0 == v.vpn.0) (find-passes (is_row_of space v.vpn.0) s.rows show.row show.its)).0

-- ---- no signal

-- what isn't aligned isn't at a signalling offset
unsignalled_offset : (va : ℕ) → (va % 4 == 0) ≡ false → is_signalling (va % 4096) ≡ false
unsignalled_offset va odd = elim (cases_Bool (va % 4096 % 64 == 60)) [
  | inl at ↦ true_false (sym (eq-eqb (va % 4) 0 (divides va (eqb-true (va % 4096 % 64) 60 at))) ∙ odd)
  | inr other ↦ other
]
  where
    divides : (va : ℕ) → va % 4096 % 64 ≡ 60 → va % 4 ≡ 0
    divides va at = omega (arith, at)

abbrev signal_if : Bool → Frame → ℕ → Option Signal
signal_if b frame va = if b then Some (record { frame = frame; offset = va % 4096 }) else None

silent_through : (va : ℕ) (t : Translated) → is_signalling (va % 4096) ≡ false → signal_through va t ≡ None
silent_through va (through row) silent = by row.flags.m
  where
    by : (m : Bool) → signal_if (m && is_signalling (va % 4096)) row.frame va ≡ None
    by true = ap (λ (b : Bool). signal_if b row.frame va) silent
    by false = refl
silent_through va no_row silent = refl
silent_through va no_flag silent = refl
silent_through va no_right silent = refl

module _ (vs : List View) (ds : List Change) (s : FlatState) (t : FlatThread) where
  -- the flag of the row is that of the view
  word_silent : (va : ℕ) (v : View) (row : Row) → row.flags ≡ v.flags → signals_through va (Some v) ≡ false → signal_through va (through row) ≡ None
  word_silent va v row flags quiet =
      ap (λ (b : Bool). signal_if b row.frame va) (ap (λ (f : Flags). f.m && is_signalling (va % 4096)) flags ∙ quiet)

  store_silent : (va value : ℕ) → (shows : (v : View) → Contains vs v → (v.touched || has_mark v.vpn.0 ds) ≡ true → Shows s t.space v v.present) → signals_through va (view_through vs Write va) ≡ false
      → (b : Bool) → (va % 4 == 0) ≡ b → AllFound (pages_of_views vs) (if b then (Write, va) ∷ [] else []) → AllMarked ds (if b then (Write, va) ∷ [] else []) → signal_through va (reached s Write t.space va) ≡ None
  store_silent va value shows quiet false odd found marks = silent_through va (reached s Write t.space va) (unsignalled_offset va odd)
  store_silent va value shows quiet true even found marks = by (view_through vs Write va) refl (sym (translation_is vs Write va) ∙ found.0.1) quiet
    where
      by : (o : Option View) → view_through vs Write va ≡ o → option_map page_of o ≡ Some found.0.0 → signals_through va o ≡ false → signal_through va (reached s Write t.space va) ≡ None
      by None e is quiet = absurd (cc)
      by (Some v) e is quiet =
          let parts = through_parts vs Write va v e in
          let r = reaches s t.space Write va v v.present (marked_shows vs ds s t.space shows v parts.0 (mark_of vs ds s t.space shows Write va v parts.1 marks.0)) parts.1 parts.2 in
          ap (signal_through va) r.reached ∙ word_silent va v r.row r.flags quiet

  action_silent : (shows : (v : View) → Contains vs v → (v.touched || has_mark v.vpn.0 ds) ≡ true → Shows s t.space v v.present) → (a : Option Action) → signals_by vs a ≡ false
      → AllFound (pages_of_views vs) (data_of_next a) → AllMarked ds (data_of_next a) → signal_of s t a ≡ None
  action_silent shows None quiet found marks = refl
  action_silent shows (Some (actions.Store va Word value)) quiet found marks = store_silent va value shows quiet (va % 4 == 0) refl found marks
  action_silent shows (Some (actions.Store va Byte value)) quiet found marks = refl
  action_silent shows (Some (actions.Store va Half value)) quiet found marks = refl
  action_silent shows (Some (actions.Set rd value)) quiet found marks = refl
  action_silent shows (Some actions.Pass) quiet found marks = refl
  action_silent shows (Some (actions.Jump rd target)) quiet found marks = refl
  action_silent shows (Some (actions.Load rd va width signed)) quiet found marks = refl
  action_silent shows (Some (actions.Atomic rd va op operand)) quiet found marks = refl
  action_silent shows (Some actions.Call) quiet found marks = refl
  action_silent shows (Some actions.Break) quiet found marks = refl

-- ---- the rows that a step goes through

row_viewed : (s : FlatState) (space : SpaceNo) (ws : List View) (access : Access) (va : ℕ) → Viewed s space ws access va → IsViewed space ws (option_map row_name (row_through (reached s access space va)))
row_viewed s space ws access va v =
    subst (λ (t : Translated). IsViewed space ws (option_map row_name (row_through t))) (sym v.reached)
    (v.view, v.there, ap₂ (λ (a b : ℕ). Mapping (record { 0 = a }) (record { 0 = b })) v.space_is v.vpn)

data_viewed : (s : FlatState) (t : FlatThread) (ws : List View) (a : Option Action) → AllViewed s t.space ws (data_of_next a) → IsViewed t.space ws (option_map row_name (row_of_action s t a))
data_viewed s t ws None viewed = tt
data_viewed s t ws (Some (actions.Load rd va width signed)) viewed = by (va % size_of width == 0) viewed
  where
    by : (b : Bool) → AllViewed s t.space ws (if b then (Read, va) ∷ [] else []) → IsViewed t.space ws (option_map row_name (row_of_access s t (if b then Some (record { access = Read; va = va }) else None)))
    by true viewed = row_viewed s t.space ws Read va viewed.0
    by false viewed = tt
data_viewed s t ws (Some (actions.Store va width value)) viewed = by (va % size_of width == 0) viewed
  where
    by : (b : Bool) → AllViewed s t.space ws (if b then (Write, va) ∷ [] else []) → IsViewed t.space ws (option_map row_name (row_of_access s t (if b then Some (record { access = Write; va = va }) else None)))
    by true viewed = row_viewed s t.space ws Write va viewed.0
    by false viewed = tt
data_viewed s t ws (Some (actions.Atomic rd va op operand)) viewed = by (va % 4 == 0) viewed
  where
    by : (b : Bool) → AllViewed s t.space ws (if b then (Read, va) ∷ (Write, va) ∷ [] else []) → IsViewed t.space ws (option_map row_name (row_of_access s t (if b then Some (record { access = Read; va = va }) else None)))
    by true viewed = row_viewed s t.space ws Read va viewed.0
    by false viewed = tt
data_viewed s t ws (Some (actions.Set rd value)) viewed = tt
data_viewed s t ws (Some actions.Pass) viewed = tt
data_viewed s t ws (Some (actions.Jump rd target)) viewed = tt
data_viewed s t ws (Some actions.Call) viewed = tt
data_viewed s t ws (Some actions.Break) viewed = tt

-- ---- the step

module _ (s : FlatState) (formed : IsWellFormed s) (n : ℕ) (t : FlatThread) (here : slice_get s.threads n ≡ Some t) (ready : t.status ≡ Ready)
    (vs : List View) (went : is_miss (after_instruction t.context (pages_of_views vs)).answer ≡ false) (quiet : signals_by vs (next_action t.context (pages_of_views vs)) ≡ false) where
  abbrev pub ps : List Page
  ps = pages_of_views vs

  abbrev pub xs : List (Access × ℕ)
  xs = (Fetch, t.context.pc) ∷ data_of_next (next_action t.context ps)

  abbrev pub acts : Acts ps xs (after_instruction t.context ps) (λ qs. after_instruction t.context qs)
  acts = step_acts ps t.context went

  -- what the step changes, and the views after it
  abbrev pub ds : List Change
  ds = acts.changes

  abbrev pub ws : List View
  ws = map (after_changes ds) vs

  pub of_step : AreOf ws ds
  of_step = are_of vs ds ds acts.puts

  module _ (shows : (v : View) → Contains vs v → (v.touched || has_mark v.vpn.0 ds) ≡ true → Shows s t.space v v.present) where
    all_shown : AllShow ps (pages_of s t.space) xs
    all_shown = all_show vs ds s t.space shows xs acts.marks

    same_outcome : outcome s t ≡ record { context = (after_instruction t.context ps).context; pages = all_changed ds (pages_of s t.space); answer = (after_instruction t.context ps).answer }
    same_outcome = acts.there (pages_of s t.space) all_shown

    same_next : next_action t.context (pages_of s t.space) ≡ next_action t.context ps
    same_next = same_action ps (pages_of s t.space) t.context went all_shown.0

    silent : next_signal s t ≡ None
    unfolding next_signal
    silent = ap (signal_of s t) same_next ∙ action_silent vs ds s t shows (next_action t.context ps) quiet acts.found.1 acts.marks.1

    runs : is_runnable s t ≡ true
    runs = ap₂ (λ (a : Status) (signal : Option Signal). is_ready a && not (is_some (full_among s.threads (map (λ receiver. receiver.0) (receivers_for s signal))))) ready silent

    no_signal : (u : FlatState) → signalled s t u ≡ u
    no_signal u = ap (λ (signal : Option Signal). record u { threads = delivered u.threads signal (receivers_for s signal) }) silent

    stepped_by : (b : After) (answer : Stepped) → is_miss answer ≡ false → stepped_so s n t b answer ≡ went_on s n t b (status_after answer)
    stepped_by b Next went = refl
    stepped_by b Call went = refl
    stepped_by b (Stop reason) went = refl
    stepped_by b (Miss va access) went = true_false went

    pub step_is : after_step s n ≡ Some (with_thread (changed_state s t.space ds) n (record t { context = (after_instruction t.context ps).context; status = status_after (after_instruction t.context ps).answer }))
    unfolding after_step
    step_is =
        let a : After = after_instruction t.context ps in
        ap (step_of s n) here
        ∙ (ap (λ (runnable : Bool). step_if runnable s n t) runs
        ∙ ap (λ (u : FlatState). Some u) (ap (stepped s n t) same_outcome
        ∙ (stepped_by (record { context = a.context; pages = all_changed ds (pages_of s t.space); answer = a.answer }) a.answer went
        ∙ (no_signal _
        ∙ ap (λ (u : FlatState). with_thread u n (record t { context = a.context; status = status_after a.answer })) (goes_back s formed t.space ds ws of_step (are_mapped vs ds s t.space shows))))))

    viewed_all : AllViewed s t.space ws xs
    viewed_all = all_viewed vs ds s t.space shows xs acts.found acts.marks

    pub goes_through : GoesThrough s n t.space ws
    unfolding next_step
    goes_through = record {
      thread = t;
      there = here;
      next = next_step_if true s t;
      its = ap (option_map (next_step_of s)) here ∙ ap (λ (status : Status). Some (next_step_if (is_ready status) s t)) ready;
      runs = runs;
      faults = ap (λ (a : After). is_miss a.answer) same_outcome ∙ went;
      quiet = silent;
      fetch = row_viewed s t.space ws Fetch t.context.pc viewed_all.0;
      access = data_viewed s t ws (next_action t.context (pages_of s t.space)) (subst (λ (a : Option Action). AllViewed s t.space ws (data_of_next a)) (sym same_next) viewed_all.1);
    }
