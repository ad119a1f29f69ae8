-- What holds of the tables once a new descriptor was declared.
use Rattle.std.proofs.Common.{◌≡◌, ◌⊎◌, ℕ, ◌+◌, ◌<◌, ◌≤◌, Bool, true, false, cond, ◌&&◌, List, [], ◌∷◌, ◌++◌, map, filter, length, Option, Some, None, is_some, slice_get, Contains, refl, ap, ap₂, sym, ◌∙◌, subst, inl, inr, arith}
use Rattle.std.specs.Prelude.{if◌then◌else◌, count_by, nat_lt, ◌==◌}
use Rattle.std.specs.List.{sum_by}
use Rattle.std.specs.Option.{option_or}
use Rattle.std.proofs.lemmas.Bool.{and_parts, eqb-true, ltb-true}
use Rattle.std.proofs.lemmas.Bool.Decides.{nat_tests}
use Rattle.std.proofs.lemmas.List.{append-nil, length-append}
use Rattle.std.proofs.lemmas.List.Elements.{filter-append, Contains-append_cases}
use Rattle.std.proofs.lemmas.List.Folds.{find-append}
use Rattle.std.proofs.lemmas.List.Sums.{sum_by-append, sum_by-cons}
use Rattle.std.proofs.lemmas.Option.{same_Some}
use Rattle.cache_ident.specs.declared.idents.Kind.{Kind}
use Rattle.cache_ident.specs.declared.idents.Kind.TheVariants as kind
use Rattle.cache_ident.specs.declared.names.Frame.{Frame}
use Rattle.cache_ident.specs.declared.names.KernelNo.{KernelNo}
use Rattle.cache_ident.specs.declared.names.Name.{Name}
use Rattle.cache_ident.specs.declared.names.Name.TheVariants as name
use Rattle.cache_ident.specs.declared.names.SpaceNo.{SpaceNo}
use Rattle.cache_ident.specs.declared.names.Vpn.{Vpn}
use Rattle.cache_ident.specs.Names.{amount_of}
use Rattle.cache_ident.specs.Residents.{Resident}
use Rattle.phys_groups.specs.declared.rows.Row.{Row}
use Rattle.phys_groups.specs.Rows.{row_name}
use Rattle.phys_groups.specs.Translation.{is_fit, is_row_of, row_of}
use Rattle.row_store.specs.signal_pages.specs.Signals.{is_signal_row_of}
use Rattle.desc_groups.specs.flat_state.specs.declared.records.FlatKernel.{FlatKernel}
use Rattle.desc_groups.specs.flat_state.specs.declared.records.FlatThread.{FlatThread}
use Rattle.desc_groups.specs.flat_state.specs.Declaration.{agree, locks_granted}
use Rattle.desc_groups.specs.flat_state.specs.State.{FlatState}
use Rattle.desc_groups.specs.flat_state.specs.Translation.{is_fit_row, kernel_rights, rights_in, rights_of}
use Rattle.desc_groups.specs.flat_state.specs.Dependence.{owner, owner_of_row, owner_of_thread, signal_rows_of}
use Rattle.desc_groups.specs.flat_state.proofs.Finding.{find-contains}
use Rattle.desc_groups.specs.flat_state.proofs.Places.{count_by-cons, Contains-from_get}
use Rattle.desc_groups.specs.flat_laws.proofs.Members.{contains_nothing, Contains-behind, Contains-cases, Contains-here}
use Rattle.desc_groups.specs.flat_laws.proofs.ParentLaws.{there_is}
use Rattle.desc_groups.specs.run_journal.proofs.Growth.{count-append}
use Rattle.desc_groups.specs.run_journal.specs.Legal.{is_kernel, is_kind, locked_by, AreGood}
use Rattle.desc_tables.specs.Tables.{ArePlaced}
use Rattle.desc_tables.proofs.LikeLemmas.{fit_there, KeepsLoaded}
use Rattle.desc_tables.proofs.ListLemmas.{filter-agree}
use Rattle.desc_groups.specs.desc_parents.specs.Seen.{HasPlainRows}

sum_by-one : (f : FlatKernel → ℕ) (k : FlatKernel) → sum_by f (k ∷ []) ≡ f k
sum_by-one f k = let one = sum_by-cons f k [] in omega arith

-- an element of a list with one more
pub pushed_cases : {X : Type 0} (xs : List X) (y x : X) → Contains (xs ++ y ∷ []) x → Contains xs x ⊎ (y ≡ x)
pushed_cases xs y x there = elim (Contains-append_cases xs (y ∷ []) x there) [
  | inl before ↦ inl before
  | inr last ↦ elim (Contains-cases y [] x last) [
    | inl same ↦ inr same
    | inr none ↦ absurd (contains_nothing x none)
  ]
]

length-pushed : {X : Type 0} (xs : List X) (y : X) → length (xs ++ y ∷ []) ≡ length xs + 1
length-pushed xs y = length-append xs (y ∷ [])

-- where no element passes, none is counted
count_by-none : {X : Type 0} (p : X → Bool) (xs : List X) → ((x : X) → Contains xs x → p x ≡ false) → count_by p xs ≡ 0
count_by-none p [] none = refl
count_by-none p (x ∷ xs) none =
    count_by-cons p x xs ∙ ap₂ (λ (b : Bool) (n : ℕ). cond b 1 0 + n) (none x (Contains-here x xs)) (count_by-none p xs (λ y there. none y (Contains-behind x xs y there)))

-- a count of a list with one more
count_by-pushed : {X : Type 0} (p : X → Bool) (xs : List X) (y : X) → count_by p (xs ++ y ∷ []) ≡ count_by p xs + cond (p y) 1 0
count_by-pushed p xs y = let all = count-append p xs (y ∷ []) in let one = count_by-cons p y [] in omega arith

and_false : (b : Bool) → (b && false) ≡ false
and_false true = refl
and_false false = refl

-- who owns something in a state stands there
pub owner_stands : (s : FlatState) → ArePlaced s → (n : Name) (kernel : KernelNo) → owner s n ≡ Some kernel → kernel.0 < length s.kernels
unfolding owner
owner_stands s placed (name.Kernel number) kernel is = by (nat_lt number.0 (length s.kernels)) refl is
  where
    by : (b : Bool) → nat_lt number.0 (length s.kernels) ≡ b → (if b then Some (record { 0 = 0 }) else None) ≡ Some kernel → kernel.0 < length s.kernels
    by true below is =
        let first : record { 0 = 0 } ≡ kernel = same_Some (record { 0 = 0 }) kernel is in
        subst (λ (k : KernelNo). k.0 < length s.kernels) first (let lt : number.0 < length s.kernels = ltb-true number.0 (length s.kernels) below in omega arith)
    by false below is = absurd (cc)
owner_stands s placed (name.Space space) kernel is = placed.spaces kernel (Contains-from_get s.spaces space.0 kernel is)
owner_stands s placed (name.Thread thread) kernel is = by (slice_get s.threads thread.0) is
  where
    by : (o : Option FlatThread) → owner_of_thread s o ≡ Some kernel → kernel.0 < length s.kernels
    by None is = absurd (cc)
    by (Some t) is = placed.spaces kernel (Contains-from_get s.spaces t.space.0 kernel is)
owner_stands s placed (name.Mapping space vpn) kernel is = by (row_of s.rows space vpn.0) is
  where
    by : (o : Option Row) → owner_of_row s o ≡ Some kernel → kernel.0 < length s.kernels
    by None is = absurd (cc)
    by (Some row) is = placed.spaces kernel (Contains-from_get s.spaces row.space.0 kernel is)

-- a kernel that doesn't stand has nothing locked
pub none_locked : (s : FlatState) → ArePlaced s → (rs : List Resident) (kernel : KernelNo) (kind : Kind) → length s.kernels ≤ kernel.0 → locked_by s rs kernel kind ≡ 0
none_locked s placed rs kernel kind past = count_by-none (λ r. r.locked && (is_kind r.ident.kind kind && is_kernel kernel (owner s r.name))) rs (λ r there. fails r (owner s r.name) refl)
  where
    fails : (r : Resident) (o : Option KernelNo) → owner s r.name ≡ o → (r.locked && (is_kind r.ident.kind kind && is_kernel kernel (owner s r.name))) ≡ false
    fails r None at = ap (λ (o : Option KernelNo). r.locked && (is_kind r.ident.kind kind && is_kernel kernel o)) at ∙ ap (λ (b : Bool). r.locked && b) (and_false (is_kind r.ident.kind kind)) ∙ and_false r.locked
    fails r (Some k) at =
        let below : k.0 < length s.kernels = owner_stands s placed r.name k at in
        let other : (k.0 == kernel.0) ≡ false = grind (arith, nat_tests) in
        ap (λ (o : Option KernelNo). r.locked && (is_kind r.ident.kind kind && is_kernel kernel o)) at
        ∙ ap (λ (b : Bool). r.locked && (is_kind r.ident.kind kind && b)) other
        ∙ ap (λ (b : Bool). r.locked && b) (and_false (is_kind r.ident.kind kind))
        ∙ and_false r.locked

-- a state that has more kernels and spaces, and the rows and threads that were
module _ (s t : FlatState) (placed : ArePlaced s) (kernels : (n : ℕ) (k : FlatKernel) → slice_get s.kernels n ≡ Some k → slice_get t.kernels n ≡ Some k) (spaces : (n : ℕ) (k : KernelNo) → slice_get s.spaces n ≡ Some k → slice_get t.spaces n ≡ Some k) where
  kernel_stays : (kernel : KernelNo) (o : Option FlatKernel) → slice_get s.kernels kernel.0 ≡ o → is_some o ≡ true → rights_in (slice_get t.kernels kernel.0) ≡ rights_in (slice_get s.kernels kernel.0)
  kernel_stays kernel None at some = absurd (cc)
  kernel_stays kernel (Some k) at some = ap rights_in (kernels kernel.0 k at) ∙ sym (ap rights_in at)

  rights_stay : (space : SpaceNo) (o : Option KernelNo) → slice_get s.spaces space.0 ≡ o → is_some o ≡ true → rights_of t space ≡ rights_of s space
  rights_stay space None at some = absurd (cc)
  rights_stay space (Some kernel) at some =
      let below = placed.spaces kernel (Contains-from_get s.spaces space.0 kernel at) in
      ap (kernel_rights t.kernels) (spaces space.0 kernel at)
      ∙ kernel_stays kernel (slice_get s.kernels kernel.0) refl (there_is s.kernels kernel.0 below)
      ∙ sym (ap (kernel_rights s.kernels) at)

  -- a row that stands is as fit as it was
  fit_stays : (row : Row) → Contains s.rows row → is_fit_row t row ≡ is_fit_row s row
  fit_stays row there =
      let below = placed.rows row there in
      ap (λ (rights : List (Bool × Bool)). is_fit rights row) (rights_stay row.space (slice_get s.spaces row.space.0) refl (there_is s.spaces row.space.0 below))

  pub signals_stay : (x : Row) → t.rows ≡ s.rows → signal_rows_of t x ≡ signal_rows_of s x
  signals_stay x rows = by x.flags.m
    where
      by : (m : Bool) → (if m then filter (λ other. is_signal_row_of x.frame other && is_fit_row t other) t.rows else []) ≡ (if m then filter (λ other. is_signal_row_of x.frame other && is_fit_row s other) s.rows else [])
      by true =
          ap (filter (λ other. is_signal_row_of x.frame other && is_fit_row t other)) rows
          ∙ filter-agree (λ other. is_signal_row_of x.frame other && is_fit_row t other) (λ other. is_signal_row_of x.frame other && is_fit_row s other) s.rows (λ q there. ap (λ (b : Bool). is_signal_row_of x.frame q && b) (fit_stays q there))
      by false = refl

  -- all that is loaded is kept, where no row came
  pub keeps_grown : (rs : List Resident) → AreGood s rs → t.rows ≡ s.rows → ((n : ℕ) (x : FlatThread) → slice_get s.threads n ≡ Some x → slice_get t.threads n ≡ Some x) → KeepsLoaded s t rs
  keeps_grown rs good rows threads = record {
    kernels = λ n some. kernel_there n (slice_get s.kernels n) refl some;
    spaces = spaces;
    threads = λ n x at. (x, threads n x at, refl);
    rows = λ r space vpn x there is at. record {
      row = x;
      there = ap (λ (rows : List Row). row_of rows space vpn.0) rows ∙ at;
      space = refl;
      message = refl;
      receiver = refl;
      signals = ap (map row_name) (signals_stay x rows);
      fit = fit_stays x (find-contains (is_row_of space vpn.0) s.rows x at) ∙ fit_there s rs good r space vpn x there is at;
    };
  }
    where
      kernel_there : (n : ℕ) (o : Option FlatKernel) → slice_get s.kernels n ≡ o → is_some o ≡ true → is_some (slice_get t.kernels n) ≡ true
      kernel_there n None at some = absurd (cc)
      kernel_there n (Some k) at some = ap (λ (o : Option FlatKernel). is_some o) (kernels n k at)

-- a state with one more row
module _ (s : FlatState) (row : Row) where
  abbrev with_row : FlatState
  with_row = record s { rows = s.rows ++ row ∷ [] }

  pub keeps_row : (rs : List Resident) → AreGood s rs
      → ((r : Resident) (space : SpaceNo) (vpn : Vpn) (x : Row) → Contains rs r → r.name ≡ name.Mapping space vpn → row_of s.rows space vpn.0 ≡ Some x → x.flags.m ≡ true → (is_signal_row_of x.frame row && is_fit_row s row) ≡ false)
      → KeepsLoaded s with_row rs
  keeps_row rs good apart = record {
    kernels = λ n some. some;
    spaces = λ n k at. at;
    threads = λ n x at. (x, at, refl);
    rows = λ r space vpn x there is at. record {
      row = x;
      there = find-append (is_row_of space vpn.0) s.rows (row ∷ []) ∙ ap (λ (o : Option Row). option_or o (row_of (row ∷ []) space vpn.0)) at;
      space = refl;
      message = refl;
      receiver = refl;
      signals = ap (map row_name) (same x (apart r space vpn x there is at));
      fit = fit_there s rs good r space vpn x there is at;
    };
  }
    where
      same : (x : Row) → (x.flags.m ≡ true → (is_signal_row_of x.frame row && is_fit_row s row) ≡ false) → signal_rows_of with_row x ≡ signal_rows_of s x
      same x none = by x.flags.m refl
        where
          by : (m : Bool) → x.flags.m ≡ m → (if m then filter (λ other. is_signal_row_of x.frame other && is_fit_row s other) (s.rows ++ row ∷ []) else []) ≡ (if m then filter (λ other. is_signal_row_of x.frame other && is_fit_row s other) s.rows else [])
          by true message =
              let p = λ (other : Row). is_signal_row_of x.frame other && is_fit_row s other in
              filter-append p s.rows (row ∷ [])
              ∙ ap (λ (b : Bool). filter p s.rows ++ cond b (row ∷ []) []) (none message)
              ∙ append-nil (filter p s.rows)
          by false message = refl

  pub plain_row : HasPlainRows s → row.frame.0 < 2048 → agree row.flags (is_some row.receiver) ≡ true → (is_some row.receiver ≡ true → count_by (is_signal_row_of row.frame) s.rows < 4) → HasPlainRows with_row
  plain_row plain framed flags few = record {
    agreed = λ other there. elim (pushed_cases s.rows row other there) [
      | inl before ↦ plain.agreed other before
      | inr same ↦ subst (λ (r : Row). agree r.flags (is_some r.receiver) ≡ true) same flags
    ];
    framed = λ other there. elim (pushed_cases s.rows row other there) [
      | inl before ↦ plain.framed other before
      | inr same ↦ subst (λ (r : Row). r.frame.0 < 2048) same framed
    ];
    few = λ frame. fewer frame (is_signal_row_of frame row) refl;
  }
    where
      fewer : (frame : Frame) (b : Bool) → is_signal_row_of frame row ≡ b → count_by (is_signal_row_of frame) (s.rows ++ row ∷ []) ≤ 4
      fewer frame false is =
          let count = count_by-pushed (is_signal_row_of frame) s.rows row ∙ ap (λ (b : Bool). count_by (is_signal_row_of frame) s.rows + cond b 1 0) is in
          let before = plain.few frame in
          omega arith
      fewer frame true is =
          let parts = and_parts (row.frame.0 == frame.0) (is_some row.receiver) is in
          let number : row.frame.0 ≡ frame.0 = eqb-true row.frame.0 frame.0 parts.0 in
          let framed : row.frame ≡ frame = ap (λ (n : ℕ). record { 0 = n }) number in
          let before : count_by (is_signal_row_of frame) s.rows < 4 = subst (λ (f : Frame). count_by (is_signal_row_of f) s.rows < 4) framed (few parts.1) in
          let count = count_by-pushed (is_signal_row_of frame) s.rows row ∙ ap (λ (b : Bool). count_by (is_signal_row_of frame) s.rows + cond b 1 0) is in
          omega arith

  pub placed_row : ArePlaced s → row.space.0 < length s.spaces → ArePlaced with_row
  placed_row placed below = record {
    spaces = placed.spaces;
    rows = λ other there. elim (pushed_cases s.rows row other there) [
      | inl before ↦ placed.rows other before
      | inr same ↦ subst (λ (r : Row). r.space.0 < length s.spaces) same below
    ];
  }

-- a state with one more kernel
module _ (s : FlatState) (kernel : FlatKernel) where
  pub placed_kernel : ArePlaced s → ArePlaced (record s { kernels = s.kernels ++ kernel ∷ [] })
  placed_kernel placed = record {
    spaces = λ k there. let before = placed.spaces k there in let more = length-pushed s.kernels kernel in omega arith;
    rows = placed.rows;
  }

  pub grants_kernel : (of : Kind) → amount_of (locks_granted (s.kernels ++ kernel ∷ [])) of ≡ amount_of (locks_granted s.kernels) of + amount_of kernel.limits of
  grants_kernel kind.Kernel = sum_by-append (λ k. k.limits.kernels) s.kernels (kernel ∷ []) ∙ ap (λ (n : ℕ). sum_by (λ k. k.limits.kernels) s.kernels + n) (sum_by-one (λ k. k.limits.kernels) kernel)
  grants_kernel kind.Space = sum_by-append (λ k. k.limits.spaces) s.kernels (kernel ∷ []) ∙ ap (λ (n : ℕ). sum_by (λ k. k.limits.spaces) s.kernels + n) (sum_by-one (λ k. k.limits.spaces) kernel)
  grants_kernel kind.Thread = sum_by-append (λ k. k.limits.threads) s.kernels (kernel ∷ []) ∙ ap (λ (n : ℕ). sum_by (λ k. k.limits.threads) s.kernels + n) (sum_by-one (λ k. k.limits.threads) kernel)
  grants_kernel kind.Mapping = sum_by-append (λ k. k.limits.mappings) s.kernels (kernel ∷ []) ∙ ap (λ (n : ℕ). sum_by (λ k. k.limits.mappings) s.kernels + n) (sum_by-one (λ k. k.limits.mappings) kernel)

-- a state with one more space, of a kernel that stands
pub placed_space : (s : FlatState) (kernel : KernelNo) → ArePlaced s → kernel.0 < length s.kernels → ArePlaced (record s { spaces = s.spaces ++ kernel ∷ [] })
placed_space s kernel placed below = record {
  spaces = λ k there. elim (pushed_cases s.spaces kernel k there) [
    | inl before ↦ placed.spaces k before
    | inr same ↦ subst (λ (n : KernelNo). n.0 < length s.kernels) same below
  ];
  rows = λ row there. let before = placed.rows row there in let more = length-pushed s.spaces kernel in omega arith;
}
