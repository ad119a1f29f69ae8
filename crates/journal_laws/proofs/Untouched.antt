-- What a completed call can't touch stays good.
use Rattle.std.proofs.Common.{◌≡◌, ◌≢◌, ℕ, ◌/◌, Bool, true, false, not, cond, List, [], ◌∷◌, ◌++◌, map, filter, set, Option, Some, None, is_some, slice_get, Contains, refl, ap, ap₂, sym, ◌∙◌, subst, inl, inr}
use Rattle.std.specs.Prelude.{if◌then◌else◌, ◌==◌, ◌&&◌, ◌||◌, option_to_list, unwrap_or}
use Rattle.std.specs.List.{find}
use Rattle.std.specs.Option.{option_map}
use Rattle.std.proofs.lemmas.Bool.{cases_Bool, cases_eq, and_parts, eqb-true}
use Rattle.std.proofs.lemmas.List.{map-id, get_or-set_other}
use Rattle.std.proofs.lemmas.List.Elements.{Contains-append_cases, Contains-append_left, Contains-append_right}
use Rattle.cache_ident.specs.declared.names.KernelNo.{KernelNo}
use Rattle.cache_ident.specs.declared.names.Name.{Name}
use Rattle.cache_ident.specs.declared.names.Name.TheVariants.{Kernel, Space, Thread, Mapping}
use Rattle.cache_ident.specs.declared.names.SpaceNo.{SpaceNo}
use Rattle.cache_ident.specs.declared.names.ThreadNo.{ThreadNo}
use Rattle.cache_ident.specs.declared.names.Vpn.{Vpn}
use Rattle.cache_ident.specs.Residents.{Resident}
use Rattle.phys_groups.specs.declared.rows.Row.{Row}
use Rattle.phys_groups.specs.Rows.{row_name}
use Rattle.phys_groups.specs.Translation.{implies, is_row_of, right_on, row_of, without}
use Rattle.run_journal.specs.signal_pages.specs.Signals.{is_signal_row_of}
use Rattle.run_journal.specs.fault_forward.specs.declared.effects.Effect.{Effect}
use Rattle.run_journal.specs.fault_forward.specs.declared.effects.Effect.TheVariants as effects
use Rattle.run_journal.specs.fault_forward.specs.Calls.{Completion, completion_of}
use Rattle.run_journal.specs.flat_state.specs.declared.events.Decl.{Decl}
use Rattle.run_journal.specs.flat_state.specs.declared.events.Event.TheVariants.{Complete}
use Rattle.run_journal.specs.flat_state.specs.declared.records.FlatKernel.{FlatKernel}
use Rattle.run_journal.specs.flat_state.specs.declared.records.FlatThread.{FlatThread}
use Rattle.run_journal.specs.flat_state.specs.State.{FlatState, with_thread}
use Rattle.run_journal.specs.flat_state.specs.Translation.{rights_in, kernel_rights, is_fit_row}
use Rattle.run_journal.specs.flat_state.specs.Declaration.{broken_rule, declared, with_right}
use Rattle.run_journal.specs.flat_state.specs.Dependence.{signal_rows_of, parents_of_row, parents_of_found, parents, Depends}
use Rattle.run_journal.specs.flat_state.specs.Names.{stands, is_fit_found, is_fit_name}
use Rattle.run_journal.specs.flat_state.specs.Call.{answered, refusal, made, mapping, rule_of_mapping, mapped, unmapped, spawning, spawned, is_first, granting, rule_of_granting, granted, completed_so, complete_if, completion_for, after_completion, is_completable}
use Rattle.run_journal.specs.flat_state.specs.Events.{applied}
use Rattle.run_journal.specs.flat_state.proofs.Places.{get-append, get-set_same, get-set_other}
use Rattle.run_journal.specs.flat_laws.proofs.Members.{Contains-here, Contains-behind, Contains-cases, Contains-filter, Contains-map, Contains-from_map}
use Rattle.run_journal.specs.flat_laws.proofs.StepSame.{IsSameBut, set_same, same_parents, same_stands, same_fit_name}
use Rattle.run_journal.specs.Legal.{StaysGood}
use Rattle.journal_laws.specs.Touching.{IsRowWith, TouchesBy, TouchesFor, Touches}
use Rattle.run_journal.proofs.Others.{Contains-from_filter}

-- ---- what one state keeps of a name that stands in another

record KeepsName (s u : FlatState) (name : Name) : Type 0 where
  there : stands u name ≡ true
  fit : is_fit_name s name ≡ true → is_fit_name u name ≡ true
  parents : (parent : Name) → Depends u name parent → Depends s name parent

keeps_then : (s u v : FlatState) (name : Name) → KeepsName s u name → KeepsName u v name → KeepsName s v name
keeps_then s u v name first second = record {
  there = second.there;
  fit = λ fit. second.fit (first.fit fit);
  parents = λ parent depends. first.parents parent (second.parents parent depends);
}

keeps_same : (s u : FlatState) (name : Name) → IsSameBut s u → stands s name ≡ true → KeepsName s u name
keeps_same s u name same there = record {
  there = same_stands s u same name ∙ there;
  fit = λ fit. same_fit_name s u same name ∙ fit;
  parents = λ parent depends. subst (λ (ps : List Name). Contains ps parent) {x = parents u name} {y = parents s name} (same_parents s u same name) depends;
}

-- a thread in the place of one of its space
with_thread_same : (s : FlatState) (n : ℕ) (t v : FlatThread) → slice_get s.threads n ≡ Some t → v.space ≡ t.space → IsSameBut s (with_thread s n v)
with_thread_same s n t v here same = record {
  kernels = refl;
  spaces = refl;
  threads = set_same s.threads n t v here same;
  mark = λ row. row;
  keeps = record { space = λ row. refl; vpn = λ row. refl; frame = λ row. refl; flags = λ row. refl; receiver = λ row. refl };
  rows = sym (map-id s.rows);
}

keeps_thread : (s u : FlatState) (n : ℕ) (t v : FlatThread) (name : Name) → KeepsName s u name → slice_get u.threads n ≡ Some t → v.space ≡ t.space → KeepsName s (with_thread u n v) name
keeps_thread s u n t v name keeps here same = keeps_then s u (with_thread u n v) name keeps (keeps_same u (with_thread u n v) name (with_thread_same u n t v here same) keeps.there)

-- ---- lists

pub find-append : {X : Type 0} (p : X → Bool) (xs ys : List X) (x : X) → find p xs ≡ Some x → find p (xs ++ ys) ≡ Some x
find-append p [] ys x e = absurd (cc)
find-append {X} p (z ∷ xs) ys x e = by (λ later. find-append p xs ys x later) (p z) e
  where
    by : (find p xs ≡ Some x → find p (xs ++ ys) ≡ Some x) → (b : Bool) → cond b (Some z) (find p xs) ≡ Some x → cond b (Some z) (find p (xs ++ ys)) ≡ Some x
    by rest true e = e
    by rest false e = rest e

-- a filter that keeps what is looked for
find-filter : {X : Type 0} (p q : X → Bool) → ((x : X) → p x ≡ true → q x ≡ true) → (xs : List X) → find p (filter q xs) ≡ find p xs
find-filter p q keeps [] = refl
find-filter {X} p q keeps (z ∷ xs) = by (find-filter p q keeps xs) (p z) (q z) refl refl
  where
    by : find p (filter q xs) ≡ find p xs → (b c : Bool) → p z ≡ b → q z ≡ c → find p (cond c (z ∷ filter q xs) (filter q xs)) ≡ cond b (Some z) (find p xs)
    by rest true true is kept = ap (λ (b : Bool). cond b (Some z) (find p (filter q xs))) is
    by rest true false is gone = absurd (let kept = keeps z is in cc)
    by rest false true is kept = ap (λ (b : Bool). cond b (Some z) (find p (filter q xs))) is ∙ rest
    by rest false false is gone = rest

filter-push : {X : Type 0} (p : X → Bool) (xs : List X) (y : X) → p y ≡ false → filter p (xs ++ y ∷ []) ≡ filter p xs
filter-push {X} p [] y fails = ap (λ (b : Bool). cond b (y ∷ []) []) fails
filter-push {X} p (x ∷ xs) y fails = by (filter-push p xs y fails) (p x)
  where
    by : filter p (xs ++ y ∷ []) ≡ filter p xs → (b : Bool) → cond b (x ∷ filter p (xs ++ y ∷ [])) (filter p (xs ++ y ∷ [])) ≡ cond b (x ∷ filter p xs) (filter p xs)
    by rest true = ap (λ (ys : List X). x ∷ ys) rest
    by rest false = rest

filter-agree : {X : Type 0} (p q : X → Bool) → ((x : X) → p x ≡ q x) → (xs : List X) → filter p xs ≡ filter q xs
filter-agree p q agree [] = refl
filter-agree {X} p q agree (x ∷ xs) = ap₂ (λ (b : Bool) (ys : List X). cond b (x ∷ ys) ys) (agree x) (filter-agree p q agree xs)

-- ---- what rows depend on

-- a part of a row's parents is a part of the whole
parents_cases : (s u : FlatState) (row : Row) → ((other : Row) → Contains (signal_rows_of u row) other → Contains (signal_rows_of s row) other) → (parent : Name) → Contains (parents_of_row u row) parent → Contains (parents_of_row s row) parent
parents_cases s u row fewer parent there = elim (Contains-cases (Space row.space) _ parent there) [
  | inl first ↦ subst (λ (name : Name). Contains (parents_of_row s row) name) first (Contains-here (Space row.space) _)
  | inr behind ↦ elim (Contains-append_cases (option_to_list (option_map Thread row.receiver)) (map row_name (signal_rows_of u row)) parent behind) [
    | inl receiver ↦ Contains-behind (Space row.space) _ parent (Contains-append_left (option_to_list (option_map Thread row.receiver)) (map row_name (signal_rows_of s row)) parent receiver)
    | inr signal ↦
        let from = Contains-from_map row_name (signal_rows_of u row) parent signal in
        let stays = Contains-map row_name (signal_rows_of s row) from.0 (fewer from.0 from.1) in
        Contains-behind (Space row.space) _ parent (Contains-append_right (option_to_list (option_map Thread row.receiver)) (map row_name (signal_rows_of s row)) parent (subst (λ (name : Name). Contains (map row_name (signal_rows_of s row)) name) from.2 stays))
  ]
]

-- a row that is found in both states
keeps_row : (s u : FlatState) (space : SpaceNo) (vpn : Vpn) (row : Row) → row_of s.rows space vpn.0 ≡ Some row → row_of u.rows space vpn.0 ≡ Some row → is_fit_row u row ≡ is_fit_row s row → ((other : Row) → Contains (signal_rows_of u row) other → Contains (signal_rows_of s row) other) → KeepsName s u (Mapping space vpn)
unfolding stands is_fit_name parents
keeps_row s u space vpn row here there fit fewer = record {
  there = ap is_some there;
  fit = λ was. ap (is_fit_found u) there ∙ fit ∙ sym (ap (is_fit_found s) here) ∙ was;
  parents = λ parent depends.
      subst (λ (o : Option Row). Contains (parents_of_found s o) parent) (sym here)
      (parents_cases s u row fewer parent (subst (λ (o : Option Row). Contains (parents_of_found u o) parent) there depends));
}

-- the signal rows of a row, where only those of its frame count
signals_stay : (s u : FlatState) (row : Row) → u.rows ≡ s.rows → ((other : Row) → other.frame.0 ≡ row.frame.0 → is_fit_row u other ≡ is_fit_row s other) → signal_rows_of u row ≡ signal_rows_of s row
signals_stay s u row same fit = by row.flags.m
  where
    agree : (other : Row) → (is_signal_row_of row.frame other && is_fit_row u other) ≡ (is_signal_row_of row.frame other && is_fit_row s other)
    agree other = by_test (is_signal_row_of row.frame other) refl
      where
        by_test : (b : Bool) → is_signal_row_of row.frame other ≡ b → (b && is_fit_row u other) ≡ (b && is_fit_row s other)
        by_test true is = fit other (eqb-true other.frame.0 row.frame.0 (and_parts (other.frame.0 == row.frame.0) (is_some other.receiver) is).0)
        by_test false is = refl

    by : (m : Bool) → (if m then filter (λ other. is_signal_row_of row.frame other && is_fit_row u other) u.rows else []) ≡ (if m then filter (λ other. is_signal_row_of row.frame other && is_fit_row s other) s.rows else [])
    by true = ap (filter (λ other. is_signal_row_of row.frame other && is_fit_row u other)) same ∙ filter-agree _ _ agree s.rows
    by false = refl

-- ---- a row more

abbrev with_row : FlatState → Row → FlatState
with_row s new = record s { rows = s.rows ++ new ∷ [] }

row_pushed : (s : FlatState) (new : Row) (name : Name) → (IsRowWith s name (λ row. row.frame.0 ≡ new.frame.0) → ⊥) → stands s name ≡ true → KeepsName s (with_row s new) name
unfolding stands is_fit_name parents
row_pushed s new (Kernel kernel) untouched there = record { there = there; fit = λ fit. fit; parents = λ parent depends. depends }
row_pushed s new (Space space) untouched there = record { there = there; fit = λ fit. fit; parents = λ parent depends. depends }
row_pushed s new (Thread thread) untouched there = record { there = there; fit = λ fit. fit; parents = λ parent depends. depends }
row_pushed s new (Mapping space vpn) untouched there = by (row_of s.rows space vpn.0) refl there
  where
    by : (o : Option Row) → row_of s.rows space vpn.0 ≡ o → is_some o ≡ true → KeepsName s (with_row s new) (Mapping space vpn)
    by None found there = absurd (cc)
    by (Some row) found there =
        keeps_row s (with_row s new) space vpn row found (find-append (is_row_of space vpn.0) s.rows (new ∷ []) row found) refl
        (λ other signal. subst (λ (rows : List Row). Contains rows other) (fewer row.flags.m) signal)
      where
        other_frame : is_signal_row_of row.frame new ≡ false
        other_frame = elim (cases_Bool (is_signal_row_of row.frame new)) [
          | inl is ↦ absurd (untouched (row, found, sym (eqb-true new.frame.0 row.frame.0 (and_parts (new.frame.0 == row.frame.0) (is_some new.receiver) is).0)))
          | inr is ↦ is
        ]

        fewer : (m : Bool) → (if m then filter (λ other. is_signal_row_of row.frame other && is_fit_row (with_row s new) other) (s.rows ++ new ∷ []) else []) ≡ (if m then filter (λ other. is_signal_row_of row.frame other && is_fit_row s other) s.rows else [])
        fewer true = filter-push (λ other. is_signal_row_of row.frame other && is_fit_row s other) s.rows new (ap (λ (b : Bool). b && is_fit_row s new) other_frame)
        fewer false = refl

-- ---- a row less

abbrev without_row : FlatState → SpaceNo → ℕ → FlatState
without_row s other page = record s { rows = without other page s.rows }

row_gone : (s : FlatState) (other : SpaceNo) (page : ℕ) (name : Name) → (name ≡ Mapping other (record { 0 = page }) → ⊥) → stands s name ≡ true → KeepsName s (without_row s other page) name
unfolding stands is_fit_name parents
row_gone s other page (Kernel kernel) untouched there = record { there = there; fit = λ fit. fit; parents = λ parent depends. depends }
row_gone s other page (Space space) untouched there = record { there = there; fit = λ fit. fit; parents = λ parent depends. depends }
row_gone s other page (Thread thread) untouched there = record { there = there; fit = λ fit. fit; parents = λ parent depends. depends }
row_gone s other page (Mapping space vpn) untouched there = by (row_of s.rows space vpn.0) refl there
  where
    kept : (row : Row) → is_row_of space vpn.0 row ≡ true → not (is_row_of other page row) ≡ true
    kept row is = elim (cases_Bool (is_row_of other page row)) [
      | inl gone ↦
          let mine = and_parts (row.space.0 == space.0) (row.vpn.0 == vpn.0) is in
          let its = and_parts (row.space.0 == other.0) (row.vpn.0 == page) gone in
          let spaces : space.0 ≡ other.0 = sym (eqb-true row.space.0 space.0 mine.0) ∙ eqb-true row.space.0 other.0 its.0 in
          let pages : vpn.0 ≡ page = sym (eqb-true row.vpn.0 vpn.0 mine.1) ∙ eqb-true row.vpn.0 page its.1 in
          absurd (untouched (ap₂ (λ (a b : ℕ). Mapping (record { 0 = a }) (record { 0 = b })) spaces pages))
      | inr stays ↦ ap not stays
    ]

    by : (o : Option Row) → row_of s.rows space vpn.0 ≡ o → is_some o ≡ true → KeepsName s (without_row s other page) (Mapping space vpn)
    by None found there = absurd (cc)
    by (Some row) found there =
        keeps_row s (without_row s other page) space vpn row found
        (find-filter (is_row_of space vpn.0) (λ r. not (is_row_of other page r)) kept s.rows ∙ found) refl
        (λ signal is. fewer row.flags.m signal is)
      where
        fewer : (m : Bool) (signal : Row) → Contains (if m then filter (λ signal. is_signal_row_of row.frame signal && is_fit_row s signal) (without other page s.rows) else []) signal → Contains (if m then filter (λ signal. is_signal_row_of row.frame signal && is_fit_row s signal) s.rows else []) signal
        fewer true signal is =
            let here = Contains-filter (λ signal. is_signal_row_of row.frame signal && is_fit_row s signal) (without other page s.rows) signal is in
            let was = Contains-filter (λ r. not (is_row_of other page r)) s.rows signal here.0 in
            Contains-from_filter (λ signal. is_signal_row_of row.frame signal && is_fit_row s signal) s.rows signal was.0 here.1
        fewer false signal is = is

-- ---- a thread more

abbrev with_another : FlatState → FlatThread → FlatState
with_another s new = record s { threads = s.threads ++ new ∷ [] }

thread_pushed : (s : FlatState) (new : FlatThread) (name : Name) → stands s name ≡ true → KeepsName s (with_another s new) name
unfolding stands is_fit_name parents
thread_pushed s new (Kernel kernel) there = record { there = there; fit = λ fit. fit; parents = λ parent depends. depends }
thread_pushed s new (Space space) there = record { there = there; fit = λ fit. fit; parents = λ parent depends. depends }
thread_pushed s new (Mapping space vpn) there = record { there = there; fit = λ fit. fit; parents = λ parent depends. depends }
thread_pushed s new (Thread thread) there = by (slice_get s.threads thread.0) refl there
  where
    by : (o : Option FlatThread) → slice_get s.threads thread.0 ≡ o → is_some o ≡ true → KeepsName s (with_another s new) (Thread thread)
    by None found there = absurd (cc)
    by (Some t) found there =
        let now : slice_get (s.threads ++ new ∷ []) thread.0 ≡ Some t = get-append s.threads (new ∷ []) thread.0 t found in
        record {
          there = ap is_some now;
          fit = λ fit. refl;
          parents = λ parent depends. subst (λ (o : Option FlatThread). Contains (option_to_list (option_map (λ (t : FlatThread). Space t.space) o)) parent) (now ∙ sym found) depends;
        }

-- ---- rights

abbrev with_rights : FlatState → ℕ → ℕ → Bool × Bool → FlatState
with_rights s kernel group right = record s { kernels = with_right s.kernels (slice_get s.kernels kernel) kernel group right }

kernel_there : (kernels : List FlatKernel) (kernel group : ℕ) (right : Bool × Bool) (o : Option FlatKernel) → slice_get kernels kernel ≡ o → (n : ℕ) (k : FlatKernel) → slice_get kernels n ≡ Some k → is_some (slice_get (with_right kernels o kernel group right) n) ≡ true
kernel_there kernels kernel group right None here n k there = ap is_some there
kernel_there kernels kernel group right (Some j) here n k there = elim (cases_eq n kernel) [
  | inl same ↦ ap is_some (ap (slice_get (set kernels kernel (record j { rights = set j.rights group right }))) same ∙ get-set_same kernels kernel (record j { rights = set j.rights group right }) j here)
  | inr apart ↦ ap is_some (get-set_other kernels kernel n (record j { rights = set j.rights group right }) apart ∙ there)
]

-- rights on other groups stay
right_stays : (kernels : List FlatKernel) (kernel group : ℕ) (right : Bool × Bool) (o : Option FlatKernel) → slice_get kernels kernel ≡ o → (owner : Option KernelNo) (other : ℕ) → other ≢ group → right_on (kernel_rights (with_right kernels o kernel group right) owner) other ≡ right_on (kernel_rights kernels owner) other
right_stays kernels kernel group right None here owner other differs = refl
right_stays kernels kernel group right (Some k) here None other differs = refl
right_stays kernels kernel group right (Some k) here (Some owner) other differs = elim (cases_eq owner.0 kernel) [
  | inl same ↦
      let v : FlatKernel = record k { rights = set k.rights group right } in
      let now : slice_get (set kernels kernel v) owner.0 ≡ Some v = ap (slice_get (set kernels kernel v)) same ∙ get-set_same kernels kernel v k here in
      let was : slice_get kernels owner.0 ≡ Some k = ap (slice_get kernels) same ∙ here in
      ap (λ (o : Option FlatKernel). right_on (rights_in o) other) now ∙ get_or-set_other k.rights group other right (false, false) differs ∙ sym (ap (λ (o : Option FlatKernel). right_on (rights_in o) other) was)
  | inr apart ↦ ap (λ (o : Option FlatKernel). right_on (rights_in o) other) (get-set_other kernels kernel owner.0 (record k { rights = set k.rights group right }) apart)
]

abbrev covered : Row → Bool × Bool → Bool
covered row r = implies (row.flags.r || row.flags.x) r.0 && implies row.flags.w r.1

fit_stays : (s : FlatState) (kernel group : ℕ) (right : Bool × Bool) (row : Row) → row.frame.0 / 128 ≢ group → is_fit_row (with_rights s kernel group right) row ≡ is_fit_row s row
fit_stays s kernel group right row differs =
    ap (covered row) (right_stays s.kernels kernel group right (slice_get s.kernels kernel) refl (slice_get s.spaces row.space.0) (row.frame.0 / 128) differs)

rights_changed : (s : FlatState) (kernel group : ℕ) (right : Bool × Bool) (name : Name) → (IsRowWith s name (λ row. row.frame.0 / 128 ≡ group) → ⊥) → stands s name ≡ true → stands (with_rights s kernel group right) name ≡ true → KeepsName s (with_rights s kernel group right) name
unfolding stands is_fit_name parents
rights_changed s kernel group right (Kernel other) untouched there now = record { there = now; fit = λ fit. fit; parents = λ parent depends. depends }
rights_changed s kernel group right (Space space) untouched there now = record { there = there; fit = λ fit. fit; parents = λ parent depends. depends }
rights_changed s kernel group right (Thread thread) untouched there now = record { there = there; fit = λ fit. fit; parents = λ parent depends. depends }
rights_changed s kernel group right (Mapping space vpn) untouched there now = by (row_of s.rows space vpn.0) refl there
  where
    by : (o : Option Row) → row_of s.rows space vpn.0 ≡ o → is_some o ≡ true → KeepsName s (with_rights s kernel group right) (Mapping space vpn)
    by None found there = absurd (cc)
    by (Some row) found there =
        let differs : row.frame.0 / 128 ≢ group = λ same. untouched (row, found, same) in
        keeps_row s (with_rights s kernel group right) space vpn row found found (fit_stays s kernel group right row differs)
        (λ other signal. subst (λ (rows : List Row). Contains rows other)
        (signals_stay s (with_rights s kernel group right) row refl (λ signal frame. fit_stays s kernel group right signal (λ same. differs (ap (λ (n : ℕ). n / 128) (sym frame) ∙ same)))) signal)

-- what stands still stands once rights are declared
still_stands : (s : FlatState) (kernel : KernelNo) (group : ℕ) (right : Bool × Bool) (name : Name) → stands s name ≡ true → stands (with_rights s kernel.0 group right) name ≡ true
unfolding stands
still_stands s kernel group right (Space space) there = there
still_stands s kernel group right (Thread thread) there = there
still_stands s kernel group right (Mapping space vpn) there = there
still_stands s kernel group right (Kernel other) there = by (slice_get s.kernels other.0) refl there
  where
    by : (o : Option FlatKernel) → slice_get s.kernels other.0 ≡ o → is_some o ≡ true → is_some (slice_get (with_rights s kernel.0 group right).kernels other.0) ≡ true
    by None found there = absurd (cc)
    by (Some k) found there = kernel_there s.kernels kernel.0 group right (slice_get s.kernels kernel.0) refl other.0 k found

-- ---- a completed call

module _ (s : FlatState) (n : ℕ) (t : FlatThread) (here : slice_get s.threads n ≡ Some t) (name : Name) (there : stands s name ≡ true) where
  goes_on : (v : FlatThread) → v.space ≡ t.space → KeepsName s (with_thread s n v) name
  goes_on v same = keeps_same s (with_thread s n v) name (with_thread_same s n t v here same) there

  made_keeps : (d : Decl) (answer : ℕ) (rule : Option ℕ) → KeepsName s (declared s d) name → slice_get (declared s d).threads n ≡ Some t → KeepsName s (made s n t d answer rule) name
  made_keeps d answer None keeps still = keeps_thread s (declared s d) n t (answered t answer) name keeps still refl
  made_keeps d answer (Some rule) keeps still = goes_on (answered t (refusal rule)) refl

  map_keeps : (vpn frame bits receiver flags : ℕ) → (IsRowWith s name (λ row. row.frame.0 ≡ frame) → ⊥) → KeepsName s (mapped s n t (mapping t vpn frame bits receiver) flags) name
  unfolding declared
  map_keeps vpn frame bits receiver flags untouched =
      made_keeps (mapping t vpn frame bits receiver) 0 (rule_of_mapping s (mapping t vpn frame bits receiver) flags) (row_pushed s _ name untouched there) here

  unmap_keeps : (vpn : ℕ) → (name ≡ Mapping t.space (record { 0 = vpn }) → ⊥) → KeepsName s (unmapped s n t vpn) name
  unmap_keeps vpn untouched = by (is_some (row_of s.rows t.space vpn))
    where
      by : (b : Bool) → KeepsName s (if b then with_thread (record s { rows = without t.space vpn s.rows }) n (answered t 0) else with_thread s n (answered t (refusal 1))) name
      by true = keeps_thread s (without_row s t.space vpn) n t (answered t 0) name (row_gone s t.space vpn name untouched there) here refl
      by false = goes_on (answered t (refusal 1)) refl

  spawn_keeps : (pc a0 priority : ℕ) → KeepsName s (spawned s n t (spawning s t pc a0 priority)) name
  unfolding declared
  spawn_keeps pc a0 priority =
      made_keeps (spawning s t pc a0 priority) _ (broken_rule s (spawning s t pc a0 priority)) (thread_pushed s _ name there) (get-append s.threads _ n t here)

  grant_keeps : (kernel group bits : ℕ) → (IsRowWith s name (λ row. row.frame.0 / 128 ≡ group) → ⊥) → KeepsName s (granted s n t (granting kernel group bits) bits) name
  unfolding declared
  grant_keeps kernel group bits untouched = by (is_first (slice_get s.spaces t.space.0))
    where
      by : (b : Bool) → KeepsName s (if b then made s n t (granting kernel group bits) 0 (rule_of_granting s (granting kernel group bits) bits) else with_thread s n (answered t (refusal 1))) name
      by true =
          made_keeps (granting kernel group bits) 0 (rule_of_granting s (granting kernel group bits) bits)
          (rights_changed s kernel group _ name untouched there (still_stands s (record { 0 = kernel }) group _ name there)) here
      by false = goes_on (answered t (refusal 1)) refl

  effect_keeps : (c : Completion) (effect : Effect) → (TouchesBy effect s t.space name → ⊥) → KeepsName s (completed_so s n t c effect) name
  effect_keeps c effects.Ready untouched = goes_on _ refl
  effect_keeps c (effects.Put byte) untouched = goes_on _ refl
  effect_keeps c (effects.Decimal number) untouched = goes_on _ refl
  effect_keeps c (effects.End reason) untouched = goes_on _ refl
  effect_keeps c (effects.Map vpn frame flags receiver) untouched = map_keeps vpn frame flags receiver flags untouched
  effect_keeps c (effects.Unmap vpn) untouched = unmap_keeps vpn untouched
  effect_keeps c (effects.Spawn pc a0 priority) untouched = spawn_keeps pc a0 priority
  effect_keeps c (effects.Grant kernel group bits) untouched = grant_keeps kernel group bits untouched

completed_keeps : (s : FlatState) (thread : ThreadNo) (name : Name) → stands s name ≡ true → (Touches s thread name → ⊥) → KeepsName s (applied s (Complete thread)) name
unfolding after_completion
completed_keeps s thread name there untouched = by (slice_get s.threads thread.0) refl untouched
  where
    itself : KeepsName s s name
    itself = record { there = there; fit = λ fit. fit; parents = λ parent depends. depends }

    by_test : (t : FlatThread) → slice_get s.threads thread.0 ≡ Some t → (TouchesFor (Some t) s name → ⊥) → (b : Bool) → KeepsName s (unwrap_or (complete_if b s thread.0 t) s) name
    by_test t here untouched true = let c = completion_of t.no t.context t.queue.items in effect_keeps s thread.0 t here name there c c.effect untouched
    by_test t here untouched false = itself

    by : (o : Option FlatThread) → slice_get s.threads thread.0 ≡ o → (TouchesFor o s name → ⊥) → KeepsName s (unwrap_or (completion_for s thread.0 o) s) name
    by None here untouched = itself
    by (Some t) here untouched = by_test t here untouched (is_completable t)

-- a resident that the call can't touch stays good
pub untouched_stays : (s : FlatState) (thread : ThreadNo) (rs : List Resident) (r : Resident) → StaysGood s rs r → (Touches s thread r.name → ⊥) → StaysGood (applied s (Complete thread)) rs r
untouched_stays s thread rs r good untouched =
    let keeps = completed_keeps s thread r.name good.there untouched in
    record { there = keeps.there; fit = keeps.fit good.fit; parents = λ parent depends. good.parents parent (keeps.parents parent depends) }
