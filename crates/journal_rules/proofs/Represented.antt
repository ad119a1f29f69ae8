-- One of all that rely on the same tells whether a call spoils them.
use Rattle.std.proofs.Common.{◌≡◌, ◌≢◌, ℕ, ◌/◌, ◌%◌, Bool, true, false, List, [], ◌∷◌, filter, map, Option, Some, None, is_some, slice_get, Contains, ◌⊎◌, refl, ap, ap₂, sym, ◌∙◌, subst, inl, inr, arith}
use Rattle.std.specs.Prelude.{if◌then◌else◌, ◌&&◌, ◌||◌, option_to_list, unwrap_or}
use Rattle.std.specs.Option.{option_map}
use Rattle.std.proofs.lemmas.Bool.{cases_Bool, cases_eq}
use Rattle.std.proofs.lemmas.Option.{same_Some, none-some}
use Rattle.std.proofs.lemmas.List.Elements.{Contains-append_cases, Contains-append_left, Contains-append_right}
use Rattle.cache_ident.specs.declared.names.Frame.{Frame}
use Rattle.cache_ident.specs.declared.names.KernelNo.{KernelNo}
use Rattle.cache_ident.specs.declared.names.Name.{Name}
use Rattle.cache_ident.specs.declared.names.Name.TheVariants.{Kernel, Space, Thread, Mapping}
use Rattle.cache_ident.specs.declared.names.SpaceNo.{SpaceNo}
use Rattle.cache_ident.specs.declared.names.ThreadNo.{ThreadNo}
use Rattle.cache_ident.specs.declared.names.Vpn.{Vpn}
use Rattle.cache_ident.specs.Residents.{Resident, IsNameResident}
use Rattle.phys_groups.specs.declared.rows.Row.{Row}
use Rattle.phys_groups.specs.Rows.{row_name}
use Rattle.phys_groups.specs.Translation.{implies, is_row_of, right_on, row_of}
use Rattle.flat_state.specs.signal_pages.specs.Signals.{is_signal_row_of}
use Rattle.flat_state.specs.fault_forward.specs.declared.effects.Effect.{Effect}
use Rattle.flat_state.specs.fault_forward.specs.declared.effects.Effect.TheVariants as effects
use Rattle.flat_state.specs.fault_forward.specs.Calls.{Completion, completion_of}
use Rattle.flat_state.specs.declared.events.Event.TheVariants.{Complete}
use Rattle.flat_state.specs.declared.records.FlatKernel.{FlatKernel}
use Rattle.flat_state.specs.declared.records.FlatThread.{FlatThread}
use Rattle.flat_state.specs.State.{FlatState, with_thread}
use Rattle.flat_state.specs.Translation.{rights_in, kernel_rights, is_fit_row}
use Rattle.flat_state.specs.Declaration.{declared, with_right}
use Rattle.flat_state.specs.Dependence.{signal_rows_of, parents_of_row, parents_of_found, parents, Depends}
use Rattle.flat_state.specs.Names.{stands, is_fit_found, is_fit_name}
use Rattle.flat_state.specs.Call.{answered, refusal, made, mapping, rule_of_mapping, is_first, granting, rule_of_granting, completed_so, complete_if, completion_for, after_completion, is_completable}
use Rattle.flat_state.specs.Events.{applied}
use Rattle.flat_state.proofs.Places.{get-set_other}
use Rattle.run_journal.specs.flat_laws.proofs.Members.{contains_nothing, Contains-here, Contains-behind, Contains-cases, Contains-map, Contains-from_map}
use Rattle.run_journal.specs.Groups.{HasParents}
use Rattle.run_journal.specs.Legal.{StaysGood}
use Rattle.journal_laws.specs.Touching.{IsRowWith, TouchesBy, TouchesFor}
use Rattle.journal_laws.proofs.Untouched.{find-append, untouched_stays}
use Rattle.residents.specs.declared.relying.Reliance.{Reliance}
use Rattle.residents.specs.declared.relying.Reliance.TheVariants.{Signals, Rights}
use Rattle.journal_rules.specs.declared.calls.Touched.{Touched}
use Rattle.journal_rules.specs.declared.calls.Touched.TheVariants as touches
use Rattle.journal_rules.specs.Relied.{rights_asked, signals_asked, relied_on, reliances_of}
use Rattle.journal_rules.specs.Touched.{Changes, Covers, CoversCall}

-- ---- what a row relies on, and which row relies on it

-- the name is that of the row
pub record IsRow (s : FlatState) (name : Name) (row : Row) : Type 0 where
  pub space : SpaceNo
  pub vpn : Vpn
  pub named : name ≡ Mapping space vpn
  pub found : row_of s.rows space vpn.0 ≡ Some row

-- what is so of the row that relies on it
abbrev SaysOf : FlatState → Reliance → Row → Type 0
SaysOf s (Signals group place) row = (row.flags.m ≡ true) × (row.frame.0 / 128 ≡ group) × (row.frame.0 % 128 ≡ place)
SaysOf s (Rights kernel group reads writes) row = (slice_get s.spaces row.space.0 ≡ Some kernel) × (row.frame.0 / 128 ≡ group) × ((row.flags.r || row.flags.x) ≡ reads) × (row.flags.w ≡ writes)

says_asked : (s : FlatState) (row : Row) (kernel : KernelNo) (q : Reliance) → slice_get s.spaces row.space.0 ≡ Some kernel → rights_asked row kernel ≡ q → SaysOf s q row
says_asked s row kernel q owned same = subst (λ (p : Reliance). SaysOf s p row) same (owned, refl, refl, refl)

says_rights : (s : FlatState) (row : Row) (o : Option KernelNo) (q : Reliance) → slice_get s.spaces row.space.0 ≡ o → Contains (option_to_list (option_map (rights_asked row) o)) q → SaysOf s q row
says_rights s row None q owned there = absurd (contains_nothing q there)
says_rights s row (Some kernel) q owned there = elim (Contains-cases (rights_asked row kernel) [] q there) [
  | inl same ↦ says_asked s row kernel q owned same
  | inr behind ↦ absurd (contains_nothing q behind)
]

says_signals : (s : FlatState) (row : Row) (m : Bool) (q : Reliance) → row.flags.m ≡ m → Contains (if m then Signals (row.frame.0 / 128) (row.frame.0 % 128) ∷ [] else []) q → SaysOf s q row
says_signals s row false q is there = absurd (contains_nothing q there)
says_signals s row true q is there = elim (Contains-cases (Signals (row.frame.0 / 128) (row.frame.0 % 128)) [] q there) [
  | inl same ↦ subst (λ (p : Reliance). SaysOf s p row) same (is, refl, refl)
  | inr behind ↦ absurd (contains_nothing q behind)
]

-- what a name relies on is so of its row
relies_as : (s : FlatState) (name : Name) (q : Reliance) → Contains (reliances_of s name) q → (row : Row) × IsRow s name row × SaysOf s q row
relies_as s (Kernel kernel) q there = absurd (contains_nothing q there)
relies_as s (Space space) q there = absurd (contains_nothing q there)
relies_as s (Thread thread) q there = absurd (contains_nothing q there)
relies_as s (Mapping space vpn) q there = by (row_of s.rows space vpn.0) refl there
  where
    by : (o : Option Row) → row_of s.rows space vpn.0 ≡ o → Contains (relied_on s o) q → (row : Row) × IsRow s (Mapping space vpn) row × SaysOf s q row
    by None found there = absurd (contains_nothing q there)
    by (Some row) found there = (
      row,
      record { space = space; vpn = vpn; named = refl; found = found },
      elim (Contains-append_cases (option_to_list (option_map (rights_asked row) (slice_get s.spaces row.space.0))) (signals_asked row) q there) [
        | inl rights ↦ says_rights s row (slice_get s.spaces row.space.0) q refl rights
        | inr signals ↦ says_signals s row row.flags.m q refl signals
      ],
    )

relies_row : (s : FlatState) (name : Name) (row : Row) (q : Reliance) → IsRow s name row → Contains (relied_on s (Some row)) q → Contains (reliances_of s name) q
relies_row s name row q is there =
    subst (λ (n : Name). Contains (reliances_of s n) q) (sym is.named) (subst (λ (o : Option Row). Contains (relied_on s o) q) (sym is.found) there)

relies_on_signals : (s : FlatState) (name : Name) (row : Row) → IsRow s name row → row.flags.m ≡ true → Contains (reliances_of s name) (Signals (row.frame.0 / 128) (row.frame.0 % 128))
relies_on_signals s name row is message =
    let q = Signals (row.frame.0 / 128) (row.frame.0 % 128) in
    relies_row s name row q is
    (Contains-append_right (option_to_list (option_map (rights_asked row) (slice_get s.spaces row.space.0))) (signals_asked row) q
    (subst (λ (m : Bool). Contains (if m then q ∷ [] else []) q) (sym message) (Contains-here q [])))

relies_on_rights : (s : FlatState) (name : Name) (row : Row) (kernel : KernelNo) → IsRow s name row → slice_get s.spaces row.space.0 ≡ Some kernel → Contains (reliances_of s name) (rights_asked row kernel)
relies_on_rights s name row kernel is owned =
    let q = rights_asked row kernel in
    relies_row s name row q is
    (Contains-append_left (option_to_list (option_map (rights_asked row) (slice_get s.spaces row.space.0))) (signals_asked row) q
    (subst (λ (o : Option KernelNo). Contains (option_to_list (option_map (rights_asked row) o)) q) (sym owned) (Contains-here q [])))

same_place : (a b : ℕ) → a / 128 ≡ b / 128 → a % 128 ≡ b % 128 → a ≡ b
same_place a b groups places = omega arith

-- ---- a row that both states have

-- the spaces are the same, and each row is still there as it was
pub record GoesOn (s u : FlatState) : Type 0 where
  pub spaces : u.spaces ≡ s.spaces
  pub rows : (space : SpaceNo) (vpn : ℕ) (row : Row) → row_of s.rows space vpn ≡ Some row → row_of u.rows space vpn ≡ Some row

-- the rights cover what a row asks for
abbrev covered : FlatState → Option KernelNo → ℕ → Bool → Bool → Bool
covered u owner group reads writes = let right = right_on (kernel_rights u.kernels owner) group in implies reads right.0 && implies writes right.1

-- the signal rows of a frame, for a message row
abbrev signals_on : FlatState → Bool → Frame → List Row
signals_on u m frame = if m then filter (λ other. is_signal_row_of frame other && is_fit_row u other) u.rows else []

-- a resident that stays good where another one of the same reliance does
abbrev pub IsTold : FlatState → FlatState → List Resident → Touched → Name → Type 0
IsTold s u rs touched name = (q : Reliance) → Changes touched q → Contains (reliances_of s name) q → (o : Resident) × StaysGood u rs o × Contains (reliances_of s o.name) q

module _ (s u : FlatState) (goes : GoesOn s u) (rs : List Resident) where
  row_then : (name : Name) (row : Row) → IsRow s name row → IsRow u name row
  row_then name row is = record { space = is.space; vpn = is.vpn; named = is.named; found = goes.rows is.space is.vpn.0 row is.found }

  fit_then : (o : Resident) (row : Row) → IsRow u o.name row → StaysGood u rs o → is_fit_row u row ≡ true
  unfolding is_fit_name
  fit_then o row is good = sym (ap (is_fit_found u) is.found) ∙ sym (ap (is_fit_name u) is.named) ∙ good.fit

  signals_then : (v : FlatState) (name : Name) (row other : Row) → IsRow v name row → HasParents v rs name → Contains (signal_rows_of v row) other → IsNameResident rs (row_name other)
  unfolding parents
  signals_then v name row other is has there = has (row_name other)
      (subst (λ (n : Name). Depends v n (row_name other)) (sym is.named)
      (subst (λ (o : Option Row). Contains (parents_of_found v o) (row_name other)) (sym is.found)
      (Contains-behind (Space row.space) _ (row_name other)
      (Contains-append_right (option_to_list (option_map Thread row.receiver)) (map row_name (signal_rows_of v row)) (row_name other) (Contains-map row_name (signal_rows_of v row) other there)))))

  -- what is fit, and has the signal rows of its frame, stays good
  row_good : (r : Resident) (row : Row) → IsRow s r.name row → StaysGood s rs r → is_fit_row u row ≡ true → ((other : Row) → Contains (signal_rows_of u row) other → IsNameResident rs (row_name other)) → StaysGood u rs r
  unfolding stands is_fit_name parents
  row_good r row is good fit signals = record {
    there = ap (stands u) now.named ∙ ap is_some now.found;
    fit = ap (is_fit_name u) now.named ∙ ap (is_fit_found u) now.found ∙ fit;
    parents = λ parent depends.
        by parent
        (subst (λ (o : Option Row). Contains (parents_of_found u o) parent) now.found (subst (λ (n : Name). Depends u n parent) now.named depends));
  }
    where
      now : IsRow u r.name row
      now = row_then r.name row is

      before : (parent : Name) → Contains (parents_of_row s row) parent → IsNameResident rs parent
      before parent there = good.parents parent
          (subst (λ (n : Name). Depends s n parent) (sym is.named) (subst (λ (o : Option Row). Contains (parents_of_found s o) parent) (sym is.found) there))

      by : (parent : Name) → Contains (parents_of_row u row) parent → IsNameResident rs parent
      by parent there = elim (Contains-cases (Space row.space) _ parent there) [
        | inl first ↦ before parent (subst (λ (n : Name). Contains (parents_of_row s row) n) first (Contains-here (Space row.space) _))
        | inr behind ↦ elim (Contains-append_cases (option_to_list (option_map Thread row.receiver)) (map row_name (signal_rows_of u row)) parent behind) [
          | inl receiver ↦ before parent (Contains-behind (Space row.space) _ parent (Contains-append_left (option_to_list (option_map Thread row.receiver)) (map row_name (signal_rows_of s row)) parent receiver))
          | inr signal ↦
              let from = Contains-from_map row_name (signal_rows_of u row) parent signal in
              subst (λ (n : Name). IsNameResident rs n) from.2 (signals from.0 from.1)
        ]
      ]

  -- the signal rows of a message row are those of another one of its frame
  by_signals : (o : Resident) (row another : Row) → IsRow s o.name another → SaysOf s (Signals (row.frame.0 / 128) (row.frame.0 % 128)) another → row.flags.m ≡ true → StaysGood u rs o
      → (other : Row) → Contains (signal_rows_of u row) other → IsNameResident rs (row_name other)
  by_signals o row another is says message good other there =
      let frames : another.frame.0 ≡ row.frame.0 = same_place another.frame.0 row.frame.0 says.1 says.2 in
      let same : signals_on u row.flags.m row.frame ≡ signals_on u another.flags.m another.frame =
      ap₂ (λ (m : Bool) (n : ℕ). signals_on u m (record { 0 = n })) (message ∙ sym says.0) (sym frames) in
      signals_then u o.name another other (row_then o.name another is) good.parents (subst (λ (rows : List Row). Contains rows other) same there)

  -- no row but a message row has signal rows
  by_none : (row other : Row) → row.flags.m ≡ false → Contains (signal_rows_of u row) other → IsNameResident rs (row_name other)
  by_none row other plain there = absurd (contains_nothing other (subst (λ (m : Bool). Contains (signals_on u m row.frame) other) plain there))

  -- a row is fit where another one is that asks for the same
  by_rights : (o : Resident) (row another : Row) (kernel : KernelNo) → IsRow s o.name another → slice_get s.spaces row.space.0 ≡ Some kernel → SaysOf s (rights_asked row kernel) another → StaysGood u rs o → is_fit_row u row ≡ true
  by_rights o row another kernel is owned says good =
      let spaces : slice_get u.spaces row.space.0 ≡ slice_get u.spaces another.space.0 =
      ap (λ (xs : List KernelNo). slice_get xs row.space.0) goes.spaces ∙ owned ∙ sym says.0 ∙ sym (ap (λ (xs : List KernelNo). slice_get xs another.space.0) goes.spaces) in
      let same : is_fit_row u row ≡ is_fit_row u another =
      ap₂ (λ (owner : Option KernelNo) (group : ℕ). covered u owner group (row.flags.r || row.flags.x) row.flags.w) spaces (sym says.1)
      ∙ ap₂ (covered u (slice_get u.spaces another.space.0) (another.frame.0 / 128)) (sym says.2) (sym says.3) in
      same ∙ fit_then o another (row_then o.name another is) good

  -- the signal rows of a row, as another resident tells of them where they change
  signals_told : (touched : Touched) (r : Resident) (row : Row) → IsRow s r.name row → IsTold s u rs touched r.name → Changes touched (Signals (row.frame.0 / 128) (row.frame.0 % 128))
      → (other : Row) → Contains (signal_rows_of u row) other → IsNameResident rs (row_name other)
  signals_told touched r row is told changes other there = elim (cases_Bool row.flags.m) [
    | inl message ↦
        let one = told _ changes (relies_on_signals s r.name row is message) in
        let its = relies_as s one.0.name _ one.2 in
        by_signals one.0 row its.0 its.1 its.2 message one.1 other there
    | inr plain ↦ by_none row other plain there
  ]

-- ---- what a call leaves

-- rights of other kernels stay
right_other : (kernels : List FlatKernel) (kernel group : ℕ) (right : Bool × Bool) (o : Option FlatKernel) (owner : Option KernelNo) → (owner ≡ Some (record { 0 = kernel }) → ⊥) → kernel_rights (with_right kernels o kernel group right) owner ≡ kernel_rights kernels owner
right_other kernels kernel group right None owner differs = refl
right_other kernels kernel group right (Some k) None differs = refl
right_other kernels kernel group right (Some k) (Some owner) differs = ap rights_in (get-set_other kernels kernel owner.0 _ apart)
  where
    apart : owner.0 ≢ kernel
    apart same = differs (ap (λ (n : ℕ). let x : KernelNo = record { 0 = n } in Some x) same)

module _ (s : FlatState) (n : ℕ) (t : FlatThread) (rs : List Resident) (r : Resident) (row : Row) (is : IsRow s r.name row) (good : StaysGood s rs r) where
  itself : GoesOn s s
  itself = record { spaces = refl; rows = λ space vpn row found. found }

  was_fit : is_fit_row s row ≡ true
  was_fit = fit_then s s itself rs r row is good

  -- a new row
  map_spares : (vpn frame bits receiver : ℕ) (rule : Option ℕ) → row.frame.0 ≡ frame → let u = made s n t (mapping t vpn frame bits receiver) 0 rule in IsTold s u rs (touches.OnFrame (record { 0 = frame })) r.name → StaysGood u rs r
  unfolding declared
  map_spares vpn frame bits receiver rule on told = by rule told
    where
      changes : Changes (touches.OnFrame (record { 0 = frame })) (Signals (row.frame.0 / 128) (row.frame.0 % 128))
      changes = (ap (λ (m : ℕ). m / 128) on, ap (λ (m : ℕ). m % 128) on)

      goes : (rule : Option ℕ) → GoesOn s (made s n t (mapping t vpn frame bits receiver) 0 rule)
      goes None = record { spaces = refl; rows = λ space vpn row found. find-append (is_row_of space vpn) s.rows _ row found }
      goes (Some broken) = record { spaces = refl; rows = λ space vpn row found. found }

      fits : (rule : Option ℕ) → is_fit_row (made s n t (mapping t vpn frame bits receiver) 0 rule) row ≡ true
      fits None = was_fit
      fits (Some broken) = was_fit

      by : (rule : Option ℕ) → IsTold s (made s n t (mapping t vpn frame bits receiver) 0 rule) rs (touches.OnFrame (record { 0 = frame })) r.name → StaysGood (made s n t (mapping t vpn frame bits receiver) 0 rule) rs r
      by rule told = row_good s (made s n t (mapping t vpn frame bits receiver) 0 rule) (goes rule) rs r row is good (fits rule) (signals_told s (made s n t (mapping t vpn frame bits receiver) 0 rule) (goes rule) rs (touches.OnFrame (record { 0 = frame })) r row is told changes)

  -- other rights of a kernel on a group
  module _ (kernel group bits : ℕ) (within : row.frame.0 / 128 ≡ group) where
    in_group : Changes (touches.RightsOf (record { 0 = kernel }) group) (Signals (row.frame.0 / 128) (row.frame.0 % 128))
    in_group = (within, omega arith)

    -- the rights stay, or are those that another row asks for
    fit_told : (u : FlatState) → GoesOn s u → ((slice_get s.spaces row.space.0 ≡ Some (record { 0 = kernel }) → ⊥) → is_fit_row u row ≡ true) → IsTold s u rs (touches.RightsOf (record { 0 = kernel }) group) r.name → is_fit_row u row ≡ true
    fit_told u goes stays told = by (slice_get s.spaces row.space.0) refl
      where
        mine : (owner : KernelNo) → slice_get s.spaces row.space.0 ≡ Some owner → owner.0 ≡ kernel → is_fit_row u row ≡ true
        mine owner owned same =
            let its : owner ≡ record { 0 = kernel } = ap (λ (m : ℕ). let x : KernelNo = record { 0 = m } in x) same in
            let one = told (rights_asked row owner) (its, within) (relies_on_rights s r.name row owner is owned) in
            let found = relies_as s one.0.name (rights_asked row owner) one.2 in
            by_rights s u goes rs one.0 row found.0 owner found.1 owned found.2 one.1

        by : (o : Option KernelNo) → slice_get s.spaces row.space.0 ≡ o → is_fit_row u row ≡ true
        by None owned = stays (λ is. none-some _ (sym owned ∙ is))
        by (Some owner) owned = elim (cases_eq owner.0 kernel) [
          | inl same ↦ mine owner owned same
          | inr apart ↦ stays (λ is. apart (ap (λ (k : KernelNo). k.0) (same_Some owner (record { 0 = kernel }) (sym owned ∙ is))))
        ]

    spares : (u : FlatState) → GoesOn s u → ((slice_get s.spaces row.space.0 ≡ Some (record { 0 = kernel }) → ⊥) → is_fit_row u row ≡ true) → IsTold s u rs (touches.RightsOf (record { 0 = kernel }) group) r.name → StaysGood u rs r
    spares u goes stays told = row_good s u goes rs r row is good (fit_told u goes stays told) (signals_told s u goes rs (touches.RightsOf (record { 0 = kernel }) group) r row is told in_group)

    grant_spares : (b : Bool) (rule : Option ℕ) → let u = if b then made s n t (granting kernel group bits) 0 rule else with_thread s n (answered t (refusal 1)) in IsTold s u rs (touches.RightsOf (record { 0 = kernel }) group) r.name → StaysGood u rs r
    unfolding declared
    grant_spares true None told = spares _ (record { spaces = refl; rows = λ space vpn row found. found })
        (λ other. ap (λ (rights : List (Bool × Bool)). let right = right_on rights (row.frame.0 / 128) in implies (row.flags.r || row.flags.x) right.0 && implies row.flags.w right.1)
        (right_other s.kernels kernel group _ (slice_get s.kernels kernel) (slice_get s.spaces row.space.0) other) ∙ was_fit) told
    grant_spares true (Some broken) told = spares _ (record { spaces = refl; rows = λ space vpn row found. found }) (λ other. was_fit) told
    grant_spares false rule told = spares _ (record { spaces = refl; rows = λ space vpn row found. found }) (λ other. was_fit) told

-- what stands is a row of which something is so if it is so of any, or nothing is so of it
row_or : (s : FlatState) (P : Row → Type 0) (name : Name) → stands s name ≡ true → ((row : Row) × IsRow s name row × (IsRowWith s name P → P row)) ⊎ (IsRowWith s name P → ⊥)
unfolding stands
row_or s P (Kernel kernel) there = inr (λ none. none)
row_or s P (Space space) there = inr (λ none. none)
row_or s P (Thread thread) there = inr (λ none. none)
row_or s P (Mapping space vpn) there = by (row_of s.rows space vpn.0) refl there
  where
    by : (o : Option Row) → row_of s.rows space vpn.0 ≡ o → is_some o ≡ true → ((row : Row) × IsRow s (Mapping space vpn) row × (IsRowWith s (Mapping space vpn) P → P row)) ⊎ (IsRowWith s (Mapping space vpn) P → ⊥)
    by None found some = absurd (cc)
    by (Some row) found some = inl (row, record { space = space; vpn = vpn; named = refl; found = found }, λ some_row. subst P (same_Some some_row.0 row (sym some_row.1 ∙ found)) some_row.2)

-- ---- a completed call

module _ (s : FlatState) (thread : ThreadNo) (t : FlatThread) (found : slice_get s.threads thread.0 ≡ Some t) (may : is_completable t ≡ true) (rs : List Resident) (r : Resident) (good : StaysGood s rs r) (touched : Touched) where
  abbrev c : Completion
  c = completion_of t.no t.context t.queue.items

  abbrev after : FlatState
  after = applied s (Complete thread)

  after_is : (effect : Effect) → c.effect ≡ effect → after ≡ completed_so s thread.0 t c effect
  unfolding after_completion
  after_is effect is = ap (λ (o : Option FlatThread). unwrap_or (completion_for s thread.0 o) s) found ∙ ap (λ (b : Bool). unwrap_or (complete_if b s thread.0 t) s) may ∙ ap (completed_so s thread.0 t c) is

  untouched_by : (effect : Effect) → c.effect ≡ effect → (TouchesBy effect s t.space r.name → ⊥) → StaysGood after rs r
  untouched_by effect is none = untouched_stays s thread rs r good (λ touched.
      none (subst (λ (e : Effect). TouchesBy e s t.space r.name) is (subst (λ (o : Option FlatThread). TouchesFor o s r.name) found touched)))

  pub spared : CoversCall t touched → ((row : Name) → touched ≡ touches.Row row → r.name ≡ row → ⊥) → IsTold s after rs touched r.name → StaysGood after rs r
  spared covers apart told = by c.effect refl covers
    where
      by : (effect : Effect) → c.effect ≡ effect → Covers touched t.space effect → StaysGood after rs r
      by effects.Ready is its = untouched_by effects.Ready is (λ none. none)
      by (effects.Put byte) is its = untouched_by (effects.Put byte) is (λ none. none)
      by (effects.Decimal number) is its = untouched_by (effects.Decimal number) is (λ none. none)
      by (effects.End reason) is its = untouched_by (effects.End reason) is (λ none. none)
      by (effects.Spawn pc a0 priority) is its = untouched_by (effects.Spawn pc a0 priority) is (λ none. none)
      by (effects.Unmap vpn) is its = untouched_by (effects.Unmap vpn) is (λ same. apart (Mapping t.space (record { 0 = vpn })) its same)
      by (effects.Map vpn frame flags receiver) is its = elim (row_or s (λ (row : Row). row.frame.0 ≡ frame) r.name good.there) [
        | inl x ↦ elim (cases_eq x.0.frame.0 frame) [
          | inl same ↦
              subst (λ (w : FlatState). IsTold s w rs (touches.OnFrame (record { 0 = frame })) r.name → StaysGood w rs r) (sym (after_is (effects.Map vpn frame flags receiver) is))
              (map_spares s thread.0 t rs r x.0 x.1 good vpn frame flags receiver (rule_of_mapping s (mapping t vpn frame flags receiver) flags) same)
              (subst (λ (touched : Touched). IsTold s after rs touched r.name) its told)
          | inr differs ↦ untouched_by (effects.Map vpn frame flags receiver) is (λ on. differs (x.2 on))
        ]
        | inr none ↦ untouched_by (effects.Map vpn frame flags receiver) is none
      ]
      by (effects.Grant kernel group bits) is its = elim (row_or s (λ (row : Row). row.frame.0 / 128 ≡ group) r.name good.there) [
        | inl x ↦ elim (cases_eq (x.0.frame.0 / 128) group) [
          | inl same ↦
              subst (λ (w : FlatState). IsTold s w rs (touches.RightsOf (record { 0 = kernel }) group) r.name → StaysGood w rs r) (sym (after_is (effects.Grant kernel group bits) is))
              (grant_spares s thread.0 t rs r x.0 x.1 good kernel group bits same (is_first (slice_get s.spaces t.space.0)) (rule_of_granting s (granting kernel group bits) bits))
              (subst (λ (touched : Touched). IsTold s after rs touched r.name) its told)
          | inr differs ↦ untouched_by (effects.Grant kernel group bits) is (λ on. differs (x.2 on))
        ]
        | inr none ↦ untouched_by (effects.Grant kernel group bits) is none
      ]
