-- A thread, a row that is fetched through and a row of data, all of one space, want little.
use Rattle.std.proofs.Common.{◌≡◌, ℕ, zero, suc, ◌≤◌, Bool, true, false, not, List, [], ◌∷◌, ◌++◌, map, length, Option, Some, None, slice_get, Contains, filter, refl, ap, sym, ◌∙◌, subst, ◌⊎◌, inl, inr, arith, length-append}
use Rattle.std.specs.Prelude.{if◌then◌else◌, ◌==◌, ◌&&◌, ◌||◌, is_some, option_to_list}
use Rattle.std.specs.List.{filter_map, flat_map}
use Rattle.std.specs.Option.{option_map}
use Rattle.std.proofs.lemmas.Bool.{cases_Bool, and_parts, and_from, eqb-true, eq-eqb, false≢true}
use Rattle.std.proofs.lemmas.List.{length-map}
use Rattle.std.proofs.lemmas.List.Elements.{Contains-append_cases, Contains-append_left, Contains-append_right}
use Rattle.std.proofs.lemmas.List.Sums.{length-filter}
use Rattle.cache_ident.specs.declared.idents.Kind.TheVariants as kinds
use Rattle.cache_ident.specs.declared.names.KernelNo.{KernelNo}
use Rattle.cache_ident.specs.declared.names.SpaceNo.{SpaceNo}
use Rattle.cache_ident.specs.declared.names.ThreadNo.{ThreadNo}
use Rattle.cache_ident.specs.declared.names.Vpn.{Vpn}
use Rattle.cache_ident.specs.declared.names.Name.{Name}
use Rattle.cache_ident.specs.declared.names.Name.TheVariants.{Kernel, Space, Thread, Mapping}
use Rattle.cache_ident.specs.Names.{kind_of}
use Rattle.cache_ident.proofs.Numbers.{same_space}
use Rattle.phys_groups.specs.declared.rows.Flags.{Flags}
use Rattle.phys_groups.specs.declared.rows.Row.{Row}
use Rattle.phys_groups.specs.Translation.{allows_fetch, is_row_of, row_of, translated}
use Rattle.flat_state.specs.signal_pages.specs.Signals.{is_signal_row_of}
use Rattle.flat_state.specs.declared.records.FlatThread.{FlatThread}
use Rattle.flat_state.specs.State.{FlatState}
use Rattle.flat_state.specs.Translation.{is_fit_row, row_through}
use Rattle.flat_state.specs.Declaration.{is_receiver_in, thread_is_in}
use Rattle.phys_groups.specs.Rows.{row_name}
use Rattle.flat_state.specs.Dependence.{signal_rows_of, parents_of_row, parents_of_found, parents, up}
use Rattle.flat_state.specs.WellFormed.{IsWellFormed}
use Rattle.flat_state.proofs.Found.{found-contains, found-space, found-allowed}
use Rattle.flat_state.proofs.Places.{get_from_Contains, fails_if_not_found}
use Rattle.flat_laws.specs.Counts.{AtMost}
use Rattle.flat_laws.proofs.Members.{Contains-here, Contains-behind, Contains-cases, contains_nothing, Contains-option, Contains-some, Contains-filter, count_by-le, found_place, Contains-map, Contains-from_map, Contains-from_flat_map, Contains-filter_map, Contains-from_filter_map, length-filter_map, Contains-option_map}

-- a row with x has neither m nor a receiver
plain_row : (m w x receives : Bool) → ((not m || (w && (not x && not receives))) && (not receives || not x)) ≡ true → x ≡ true → (m ≡ false) × (receives ≡ false)
plain_row m w false receives agrees is = absurd (cc)
plain_row false w true false agrees is = (refl, refl)
plain_row false w true true agrees is = absurd (cc)
plain_row true false true receives agrees is = absurd (cc)
plain_row true true true receives agrees is = absurd (cc)

-- a row with a receiver has no m
pub received_row : (m w x receives : Bool) → ((not m || (w && (not x && not receives))) && (not receives || not x)) ≡ true → receives ≡ true → m ≡ false
received_row m w x false agrees is = absurd (cc)
received_row false w x true agrees is = refl
received_row true false x true agrees is = absurd (cc)
received_row true true false true agrees is = absurd (cc)
received_row true true true true agrees is = absurd (cc)

-- where a row has a receiver, it is a thread of the row's space
receiver_space : (space : SpaceNo) (threads : List FlatThread) (receiver : Option ThreadNo) (thread : ThreadNo) (t : FlatThread) → is_receiver_in space threads receiver ≡ true → receiver ≡ Some thread → slice_get threads thread.0 ≡ Some t → t.space ≡ space
receiver_space space threads receiver thread t is_in is there =
    let one : is_receiver_in space threads (Some thread) ≡ true = subst (λ (o : Option ThreadNo). is_receiver_in space threads o ≡ true) is is_in in
    let two : thread_is_in space (Some t) ≡ true = subst (λ (o : Option FlatThread). thread_is_in space o ≡ true) there one in
    same_space t.space space (eqb-true t.space.0 space.0 two)

-- a row that an access goes through is one of the rows, in that space, and has the flag
pub record IsThrough (rows : List Row) (allows : Flags → Bool) (space : SpaceNo) (row : Row) : Type 0 where
  pub there : Contains rows row
  pub in_space : row.space ≡ space
  pub allowed : allows row.flags ≡ true

pub goes_through : (rights : List (Bool × Bool)) (rows : List Row) (allows : Flags → Bool) (space : SpaceNo) (va : ℕ) (row : Row) → row_through (translated rights rows allows space va) ≡ Some row → IsThrough rows allows space row
goes_through rights rows allows space va row e = record {
  there = found-contains rights rows allows space va row e;
  in_space = same_space row.space space (found-space rights rows allows space va row e);
  allowed = found-allowed rights rows allows space va row e;
}

at_most_one : {X : Type 0} (o : Option X) → length (option_to_list o) ≤ 1
at_most_one None = omega arith
at_most_one (Some x) = omega arith

-- few names of each kind
pub record AreFew (names : List Name) : Type 0 where
  pub kernels : AtMost 5 kinds.Kernel names
  pub spaces : AtMost 5 kinds.Space names
  pub threads : AtMost 5 kinds.Thread names
  pub rows : AtMost 6 kinds.Mapping names

-- the signal rows of a message row that is there
abbrev signals_for : FlatState → Option Row → List Row
signals_for s None = []
signals_for s (Some row) = signal_rows_of s row

module _ (s : FlatState) (formed : IsWellFormed s) where
  -- each row is the one that is found by its page
  pub own_row : (row : Row) → Contains s.rows row → row_of s.rows row.space row.vpn.0 ≡ Some row
  own_row row there = by (row_of s.rows row.space row.vpn.0) refl
    where
      itself : is_row_of row.space row.vpn.0 row ≡ true
      itself = and_from (row.space.0 == row.space.0) (row.vpn.0 == row.vpn.0) (eq-eqb row.space.0 row.space.0 refl) (eq-eqb row.vpn.0 row.vpn.0 refl)

      by : (o : Option Row) → row_of s.rows row.space row.vpn.0 ≡ o → o ≡ Some row
      by None found =
          let at = get_from_Contains s.rows row there in
          absurd (false≢true (sym (fails_if_not_found (is_row_of row.space row.vpn.0) s.rows at.0 row found at.1) ∙ itself))
      by (Some x) found =
          let at = get_from_Contains s.rows row there in
          let place = found_place (is_row_of row.space row.vpn.0) s.rows x found in
          let same = formed.rows.single at.0 place.0 row x at.1 place.1 place.2 in
          sym place.1 ∙ ap (slice_get s.rows) (sym same) ∙ at.1

  -- a signal row is one of the rows, and has a receiver
  pub signal_row : (o : Option Row) (row : Row) → Contains (signals_for s o) row → Contains s.rows row × (is_some row.receiver ≡ true)
  signal_row None row there = absurd (contains_nothing row there)
  signal_row (Some first) row there = by first.flags.m there
    where
      by : (m : Bool) → Contains (if m then filter (λ other. is_signal_row_of first.frame other && is_fit_row s other) s.rows else []) row → Contains s.rows row × (is_some row.receiver ≡ true)
      by true there =
          let kept = Contains-filter (λ (other : Row). is_signal_row_of first.frame other && is_fit_row s other) s.rows row there in
          let signals = and_parts (is_signal_row_of first.frame row) (is_fit_row s row) kept.1 in
          (kept.0, (and_parts (row.frame.0 == first.frame.0) (is_some row.receiver) signals.0).1)
      by false there = absurd (contains_nothing row there)

  few_signals : (row : Row) → length (signal_rows_of s row) ≤ 4
  few_signals row = by row.flags.m
    where
      by : (m : Bool) → length (if m then filter (λ other. is_signal_row_of row.frame other && is_fit_row s other) s.rows else []) ≤ 4
      by true =
          let p = λ (other : Row). is_signal_row_of row.frame other && is_fit_row s other in
          let all = length-filter p s.rows in
          let fewer = count_by-le p (is_signal_row_of row.frame) (λ x is. (and_parts (is_signal_row_of row.frame x) (is_fit_row s x) is).0) s.rows in
          let four = formed.rows.signals row.frame in
          omega (arith, all, fewer, four)
      by false = omega arith

  -- only a row with m has signal rows
  pub no_signals : (row : Row) → row.flags.m ≡ false → signal_rows_of s row ≡ []
  no_signals row no_m = ap (λ (m : Bool). if m then filter (λ other. is_signal_row_of row.frame other && is_fit_row s other) s.rows else []) no_m

  plain : (row : Row) → Contains s.rows row → row.flags.x ≡ true → (row.flags.m ≡ false) × (is_some row.receiver ≡ false)
  plain row there is = plain_row row.flags.m row.flags.w row.flags.x (is_some row.receiver) (formed.rows.each row there).flags is

  pub received : (row : Row) → Contains s.rows row → is_some row.receiver ≡ true → row.flags.m ≡ false
  received row there is = received_row row.flags.m row.flags.w row.flags.x (is_some row.receiver) (formed.rows.each row there).flags is

  message : (row : Row) → Contains s.rows row → row.flags.m ≡ true → row.receiver ≡ None
  message row there is = by row.receiver refl
    where
      by : (o : Option ThreadNo) → row.receiver ≡ o → o ≡ None
      by None e = refl
      by (Some thread) e = absurd (false≢true (sym (received row there (ap (λ (o : Option ThreadNo). is_some o) e)) ∙ is))

-- what is known of them: each is there, in the space
pub record AreIn (s : FlatState) (space : SpaceNo) (own : Option ThreadNo) (f d : Option Row) : Type 0 where
  pub thread : (thread : ThreadNo) (u : FlatThread) → own ≡ Some thread → slice_get s.threads thread.0 ≡ Some u → u.space ≡ space
  pub fetched : (row : Row) → f ≡ Some row → IsThrough s.rows allows_fetch space row
  pub accessed : (row : Row) → d ≡ Some row → Contains s.rows row × (row.space ≡ space)

module _ (s : FlatState) (formed : IsWellFormed s) (space : SpaceNo) (own : Option ThreadNo) (f d : Option Row) (are : AreIn s space own f d) where
  -- their rows, threads, spaces and kernels, and those that they depend on
  abbrev signals : List Row
  signals = signals_for s d

  abbrev sending : List Row
  sending = option_to_list d ++ signals

  abbrev rows : List Row
  rows = option_to_list f ++ sending

  abbrev receivers : List ThreadNo
  receivers = filter_map (λ (row : Row). row.receiver) sending

  abbrev threads : List ThreadNo
  threads = option_to_list own ++ receivers

  abbrev spaces : List SpaceNo
  spaces = space ∷ map (λ (row : Row). row.space) signals

  abbrev kernels : List KernelNo
  kernels = filter_map (λ (space : SpaceNo). slice_get s.spaces space.0) spaces

  -- a name is one of theirs
  pub In : Name → Type 0
  In (Kernel kernel) = Contains kernels kernel
  In (Space space) = Contains spaces space
  In (Thread thread) = Contains threads thread
  In (Mapping space vpn) = (row : Row) × Contains rows row × (row.space ≡ space) × (row.vpn ≡ vpn)

  few_for : length signals ≤ 4
  few_for = by d
    where
      by : (o : Option Row) → length (signals_for s o) ≤ 4
      by None = omega arith
      by (Some row) = few_signals s formed row

  few_receivers : length receivers ≤ 4
  few_receivers = by d are.accessed
    where
      by : (o : Option Row) → ((row : Row) → o ≡ Some row → Contains s.rows row × (row.space ≡ space)) → length (filter_map (λ (row : Row). row.receiver) (option_to_list o ++ signals_for s o)) ≤ 4
      by None accesses = omega arith
      by (Some row) accesses = elim (cases_Bool row.flags.m) [
        | inl m ↦
            let none = message s formed row (accesses row refl).0 m in
            let four = few_signals s formed row in
            let fewer = length-filter_map (λ (x : Row). x.receiver) (signal_rows_of s row) in
            rw none (omega (arith, four, fewer))
        | inr no_m ↦
            let nothing = no_signals s formed row no_m in
            rw nothing (let one = length-filter_map (λ (x : Row). x.receiver) (row ∷ []) in omega (arith, one))
      ]

  few_spaces : length spaces ≤ 5
  few_spaces = let few = few_for in omega (arith, few, length-map signals (λ (row : Row). row.space))

  few_kernels : length kernels ≤ 5
  few_kernels = let few = few_spaces in let fewer = length-filter_map (λ (space : SpaceNo). slice_get s.spaces space.0) spaces in omega (arith, few, fewer)

  few_threads : length threads ≤ 5
  few_threads = let few = few_receivers in omega (arith, few, length-append (option_to_list own) receivers, at_most_one own)

  few_rows : length rows ≤ 6
  few_rows = let few = few_for in omega (arith, few, length-append (option_to_list f) sending, length-append (option_to_list d) signals, at_most_one f, at_most_one d)

  -- each of the rows is one of the state's, in one of the spaces
  sending_cases : (row : Row) → Contains sending row → (d ≡ Some row) ⊎ Contains signals row
  sending_cases row there = elim (Contains-append_cases (option_to_list d) signals row there) [
    | inl data_row ↦ inl (Contains-option d row data_row)
    | inr signal ↦ inr signal
  ]

  sending_row : (row : Row) → Contains sending row → Contains s.rows row × Contains spaces row.space
  sending_row row there = elim (sending_cases row there) [
    | inl is ↦ ((are.accessed row is).0, subst (λ (x : SpaceNo). Contains spaces x) (sym (are.accessed row is).1) (Contains-here space (map (λ (r : Row). r.space) signals)))
    | inr signal ↦ ((signal_row s formed d row signal).0, Contains-behind space (map (λ (r : Row). r.space) signals) row.space (Contains-map (λ (r : Row). r.space) signals row signal))
  ]

  rows_cases : (row : Row) → Contains rows row → (f ≡ Some row) ⊎ Contains sending row
  rows_cases row there = elim (Contains-append_cases (option_to_list f) sending row there) [
    | inl fetch_row ↦ inl (Contains-option f row fetch_row)
    | inr other ↦ inr other
  ]

  -- a kernel owns a space
  from_space : (space : SpaceNo) (parent : Name) → Contains spaces space → Contains (option_to_list (option_map Kernel (slice_get s.spaces space.0))) parent → In parent
  unfolding In
  from_space space parent there owner =
      let kernel = Contains-option_map Kernel (slice_get s.spaces space.0) parent owner in
      subst In kernel.2 (Contains-filter_map (λ (x : SpaceNo). slice_get s.spaces x.0) spaces space kernel.0 there kernel.1)

  -- a thread is in a space
  from_thread : (thread : ThreadNo) (parent : Name) → Contains threads thread → Contains (option_to_list (option_map (λ (u : FlatThread). Space u.space) (slice_get s.threads thread.0))) parent → In parent
  unfolding In
  from_thread thread parent there is_in =
      let found = Contains-option_map (λ (u : FlatThread). Space u.space) (slice_get s.threads thread.0) parent is_in in
      subst In found.2 (elim (Contains-append_cases (option_to_list own) receivers thread there) [
        | inl first ↦ subst (λ (x : SpaceNo). Contains spaces x) (sym (are.thread thread found.0 (Contains-option own thread first) found.1)) (Contains-here space (map (λ (r : Row). r.space) signals))
        | inr receives ↦
            let row = Contains-from_filter_map (λ (r : Row). r.receiver) sending thread receives in
            let its = sending_row row.0 row.1 in
            let same = receiver_space row.0.space s.threads row.0.receiver thread found.0 (formed.rows.each row.0 its.0).receiver row.2 found.1 in
            subst (λ (x : SpaceNo). Contains spaces x) (sym same) its.1
      ])

  -- what a row depends on
  row_space : (row : Row) → Contains rows row → Contains spaces row.space
  row_space row there = elim (rows_cases row there) [
    | inl fetch ↦ subst (λ (x : SpaceNo). Contains spaces x) (sym (are.fetched row fetch).in_space) (Contains-here space (map (λ (r : Row). r.space) signals))
    | inr other ↦ (sending_row row other).1
  ]

  row_receiver : (row : Row) (thread : ThreadNo) → Contains rows row → row.receiver ≡ Some thread → Contains threads thread
  row_receiver row thread there is = elim (rows_cases row there) [
    | inl fetch ↦
        let none = (plain s formed row (are.fetched row fetch).there (are.fetched row fetch).allowed).1 in
        absurd (false≢true (sym none ∙ ap (λ (o : Option ThreadNo). is_some o) is))
    | inr other ↦ Contains-append_right (option_to_list own) receivers thread (Contains-filter_map (λ (r : Row). r.receiver) sending row thread other is)
  ]

  row_signals : (row other : Row) → Contains rows row → Contains (signal_rows_of s row) other → Contains rows other
  row_signals row other there signal = elim (rows_cases row there) [
    | inl fetch ↦ nothing (plain s formed row (are.fetched row fetch).there (are.fetched row fetch).allowed).0
    | inr sends ↦ elim (sending_cases row sends) [
      | inl is ↦ Contains-append_right (option_to_list f) sending other (Contains-append_right (option_to_list d) signals other (subst (λ (o : Option Row). Contains (signals_for s o) other) (sym is) signal))
      | inr is ↦ let its = signal_row s formed d row is in nothing (received s formed row its.0 its.1)
    ]
  ]
    where
      nothing : row.flags.m ≡ false → Contains rows other
      nothing no_m = absurd (contains_nothing other (subst (λ (xs : List Row). Contains xs other) (no_signals s formed row no_m) signal))

  from_row : (row : Row) (parent : Name) → Contains rows row → Contains (parents_of_row s row) parent → In parent
  unfolding In
  from_row row parent there depends = elim (Contains-cases (Space row.space) _ parent depends) [
    | inl is ↦ subst In is (row_space row there)
    | inr behind ↦ elim (Contains-append_cases (option_to_list (option_map Thread row.receiver)) (map row_name (signal_rows_of s row)) parent behind) [
      | inl receives ↦ let thread = Contains-option_map Thread row.receiver parent receives in subst In thread.2 (row_receiver row thread.0 there thread.1)
      | inr signal ↦ let other = Contains-from_map row_name (signal_rows_of s row) parent signal in subst In other.2 (other.0, row_signals row other.0 there other.1, refl, refl)
    ]
  ]

  row_is_there : (row : Row) → Contains rows row → Contains s.rows row
  row_is_there row there = elim (rows_cases row there) [
    | inl fetch ↦ (are.fetched row fetch).there
    | inr other ↦ (sending_row row other).0
  ]

  -- so nothing that they depend on is missing
  pub closed : (name parent : Name) → In name → Contains (parents s name) parent → In parent
  unfolding In parents
  closed (Kernel kernel) parent there depends = absurd (contains_nothing parent depends)
  closed (Space space) parent there depends = from_space space parent there depends
  closed (Thread thread) parent there depends = from_thread thread parent there depends
  closed (Mapping space vpn) parent (row, there, in_space, at) depends =
      let found : row_of s.rows space vpn.0 ≡ Some row = ap (λ (x : SpaceNo). row_of s.rows x vpn.0) (sym in_space) ∙ ap (λ (x : Vpn). row_of s.rows row.space x.0) (sym at) ∙ own_row s formed row (row_is_there row there) in
      from_row row parent there (subst (λ (o : Option Row). Contains (parents_of_found s o) parent) found depends)

  pub up_in : (steps : ℕ) (names : List Name) → ((name : Name) → Contains names name → In name) → (name : Name) → Contains (up steps s names) name → In name
  up_in zero names all name there = all name there
  up_in (suc steps) names all name there = elim (Contains-append_cases names (up steps s (flat_map (parents s) names)) name there) [
    | inl first ↦ all name first
    | inr later ↦ up_in steps (flat_map (parents s) names) (λ x above. let child = Contains-from_flat_map (parents s) names x above in closed child.0 x (all child.0 child.1) child.2) name later
  ]

  -- they are among theirs
  pub space_in : In (Space space)
  unfolding In
  space_in = Contains-here space (map (λ (row : Row). row.space) signals)

  pub thread_in : (thread : ThreadNo) → own ≡ Some thread → In (Thread thread)
  unfolding In
  thread_in thread is = Contains-append_left (option_to_list own) receivers thread (Contains-some own thread is)

  pub fetched_in : (row : Row) → f ≡ Some row → In (row_name row)
  unfolding In
  fetched_in row is = (row, Contains-append_left (option_to_list f) sending row (Contains-some f row is), refl, refl)

  pub accessed_in : (row : Row) → d ≡ Some row → In (row_name row)
  unfolding In
  accessed_in row is = (row, Contains-append_right (option_to_list f) sending row (Contains-append_left (option_to_list d) signals row (Contains-some d row is)), refl, refl)

  -- how many there are of each kind in a list of such names
  module _ (names : List Name) (all : (name : Name) → Contains names name → In name) where
    most_kernels : AtMost 5 kinds.Kernel names
    unfolding In
    most_kernels = record {
      among = map Kernel kernels;
      few = let few = few_kernels in omega (arith, few, length-map kernels Kernel);
      all = λ name kind there. by name kind (all name there);
    }
      where
        by : (name : Name) → kind_of name ≡ kinds.Kernel → In name → Contains (map Kernel kernels) name
        by (Kernel kernel) kind is = Contains-map Kernel kernels kernel is
        by (Space space) kind is = absurd (cc)
        by (Thread thread) kind is = absurd (cc)
        by (Mapping space vpn) kind is = absurd (cc)

    most_spaces : AtMost 5 kinds.Space names
    unfolding In
    most_spaces = record {
      among = map Space spaces;
      few = let few = few_spaces in omega (arith, few, length-map spaces Space);
      all = λ name kind there. by name kind (all name there);
    }
      where
        by : (name : Name) → kind_of name ≡ kinds.Space → In name → Contains (map Space spaces) name
        by (Kernel kernel) kind is = absurd (cc)
        by (Space space) kind is = Contains-map Space spaces space is
        by (Thread thread) kind is = absurd (cc)
        by (Mapping space vpn) kind is = absurd (cc)

    most_threads : AtMost 5 kinds.Thread names
    unfolding In
    most_threads = record {
      among = map Thread threads;
      few = let few = few_threads in omega (arith, few, length-map threads Thread);
      all = λ name kind there. by name kind (all name there);
    }
      where
        by : (name : Name) → kind_of name ≡ kinds.Thread → In name → Contains (map Thread threads) name
        by (Kernel kernel) kind is = absurd (cc)
        by (Space space) kind is = absurd (cc)
        by (Thread thread) kind is = Contains-map Thread threads thread is
        by (Mapping space vpn) kind is = absurd (cc)

    most_rows : AtMost 6 kinds.Mapping names
    unfolding In
    most_rows = record {
      among = map row_name rows;
      few = let few = few_rows in omega (arith, few, length-map rows row_name);
      all = λ name kind there. by name kind (all name there);
    }
      where
        by : (name : Name) → kind_of name ≡ kinds.Mapping → In name → Contains (map row_name rows) name
        by (Kernel kernel) kind is = absurd (cc)
        by (Space space) kind is = absurd (cc)
        by (Thread thread) kind is = absurd (cc)
        by (Mapping space vpn) kind (row, there, in_space, at) =
            subst (λ (x : SpaceNo). Contains (map row_name rows) (Mapping x vpn)) in_space (subst (λ (x : Vpn). Contains (map row_name rows) (Mapping row.space x)) at (Contains-map row_name rows row there))

    pub few : AreFew names
    few = record { kernels = most_kernels; spaces = most_spaces; threads = most_threads; rows = most_rows }
