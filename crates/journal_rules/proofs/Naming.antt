-- What a machine's readers answer, by name.
use Rattle.std.proofs.Common.{◌≡◌, ℕ, zero, suc, ◌+◌, ◌<◌, Bool, true, List, [], ◌∷◌, length, get_or, Option, Some, None, is_some, slice_get, Contains, Bor, refl, ap, sym, ◌∙◌, subst, inl, inr, arith}
use Rattle.std.specs.Prelude.{nat_lt, if◌then◌else◌}
use Rattle.std.specs.Option.{option_map, option_copied}
use Rattle.std.proofs.lemmas.Bool.{cases_lt}
use Rattle.std.proofs.lemmas.Bool.Decides.{nat_tests}
use Rattle.std.proofs.lemmas.List.{get_or_default}
use Rattle.cache_ident.specs.declared.names.Caps.{Caps}
use Rattle.cache_ident.specs.declared.names.KernelNo.{KernelNo}
use Rattle.cache_ident.specs.declared.names.Name.{Name}
use Rattle.cache_ident.specs.declared.names.Name.TheVariants.{Kernel, Space, Thread, Mapping}
use Rattle.cache_ident.specs.declared.names.SpaceNo.{SpaceNo}
use Rattle.cache_ident.specs.declared.names.ThreadNo.{ThreadNo}
use Rattle.cache_ident.specs.declared.names.Vpn.{Vpn}
use Rattle.cache_ident.specs.Residents.{Resident, IsNameResident}
use Rattle.phys_groups.specs.declared.rows.Row.{Row}
use Rattle.phys_groups.specs.Translation.{row_of}
use Rattle.flat_rules.specs.Readings.{is_fit_page}
use Rattle.flat_state.specs.declared.records.FlatKernel.{FlatKernel}
use Rattle.flat_state.specs.declared.records.FlatThread.{FlatThread}
use Rattle.flat_state.specs.State.{FlatState}
use Rattle.flat_state.specs.Dependence.{owner_of_thread, owner_of_row, owner}
use Rattle.flat_state.specs.Names.{stands, is_fit_found, is_fit_name, class_of_row, class_of}
use Rattle.journal_rules.specs.Running.{LackOne}

-- ---- options

is_some_map : {X Y : Type 0} (f : X → Y) (o : Option X) → is_some (option_map f o) ≡ is_some o
is_some_map f None = refl
is_some_map f (Some x) = refl

is_some_copied : {X : Type 0} (o : Option (Bor X)) → is_some o ≡ is_some (option_copied o)
is_some_copied None = refl
is_some_copied (Some x) = refl

-- a place has something exactly where it is below the length
below_is : {X : Type 0} (xs : List X) (n : ℕ) → is_some (slice_get xs n) ≡ nat_lt n (length xs)
below_is [] n = grind (arith, nat_tests)
below_is (x ∷ xs) zero = grind (arith, nat_tests)
below_is (x ∷ xs) (suc n) = below_is xs n ∙ later n (length xs)
  where
    later : (m k : ℕ) → nat_lt m k ≡ nat_lt (suc m) (suc k)
    later m k = grind (arith, nat_tests)

abbrev zero_kernel : KernelNo
zero_kernel = record { 0 = 0 }

-- ---- what stands

module _ (s : FlatState) (name : Name) (b : Bool) where
  pub stands_kernel : (kernel : KernelNo) (o : Option Caps) → name ≡ Kernel kernel → o ≡ option_map (λ (k : FlatKernel). k.limits) (slice_get s.kernels kernel.0) → b ≡ is_some o → b ≡ stands s name
  unfolding stands
  stands_kernel kernel o is found test = test ∙ ap (λ (p : Option Caps). is_some p) found ∙ is_some_map (λ (k : FlatKernel). k.limits) (slice_get s.kernels kernel.0) ∙ sym (ap (stands s) is)

  pub stands_space : (space : SpaceNo) (o : Option KernelNo) → name ≡ Space space → o ≡ slice_get s.spaces space.0 → b ≡ is_some o → b ≡ stands s name
  unfolding stands
  stands_space space o is found test = test ∙ ap (λ (p : Option KernelNo). is_some p) found ∙ sym (ap (stands s) is)

  pub stands_thread : (thread : ThreadNo) (o : Option (Bor FlatThread)) → name ≡ Thread thread → option_copied o ≡ slice_get s.threads thread.0 → b ≡ is_some o → b ≡ stands s name
  unfolding stands
  stands_thread thread o is found test = test ∙ is_some_copied o ∙ ap (λ (p : Option FlatThread). is_some p) found ∙ sym (ap (stands s) is)

  pub stands_row : (space : SpaceNo) (vpn : Vpn) (o : Option (Bor Row)) → name ≡ Mapping space vpn → option_copied o ≡ row_of s.rows space vpn.0 → b ≡ is_some o → b ≡ stands s name
  unfolding stands
  stands_row space vpn o is found test = test ∙ is_some_copied o ∙ ap (λ (p : Option Row). is_some p) found ∙ sym (ap (stands s) is)

  pub fit_row : (space : SpaceNo) (vpn : Vpn) → name ≡ Mapping space vpn → b ≡ is_fit_page s (row_of s.rows space vpn.0) → b ≡ is_fit_name s name
  unfolding is_fit_name
  fit_row space vpn is test = test ∙ same (row_of s.rows space vpn.0) ∙ sym (ap (is_fit_name s) is)
    where
      same : (o : Option Row) → is_fit_page s o ≡ is_fit_found s o
      same None = refl
      same (Some row) = refl

module _ (s : FlatState) (name : Name) where
  pub fit_kernel : (kernel : KernelNo) → name ≡ Kernel kernel → true ≡ is_fit_name s name
  unfolding is_fit_name
  fit_kernel kernel is = sym (ap (is_fit_name s) is)

  pub fit_space : (space : SpaceNo) → name ≡ Space space → true ≡ is_fit_name s name
  unfolding is_fit_name
  fit_space space is = sym (ap (is_fit_name s) is)

  pub fit_thread : (thread : ThreadNo) → name ≡ Thread thread → true ≡ is_fit_name s name
  unfolding is_fit_name
  fit_thread thread is = sym (ap (is_fit_name s) is)

  -- ---- owners

  pub kernel_owned : (kernel : KernelNo) (o : Option Caps) → name ≡ Kernel kernel → o ≡ option_map (λ (k : FlatKernel). k.limits) (slice_get s.kernels kernel.0) → (if is_some o then Some (record { 0 = 0 }) else None) ≡ owner s name
  unfolding owner
  kernel_owned kernel o is found =
      ap (λ (b : Bool). if b then Some zero_kernel else None) (ap (λ (p : Option Caps). is_some p) found ∙ is_some_map (λ (k : FlatKernel). k.limits) (slice_get s.kernels kernel.0) ∙ below_is s.kernels kernel.0)
      ∙ sym (ap (owner s) is)

  pub space_owned : (space : SpaceNo) → name ≡ Space space → slice_get s.spaces space.0 ≡ owner s name
  unfolding owner
  space_owned space is = sym (ap (owner s) is)

  pub thread_owned : (thread : ThreadNo) (o : Option FlatThread) → name ≡ Thread thread → o ≡ slice_get s.threads thread.0 → owner_of_thread s o ≡ owner s name
  unfolding owner
  thread_owned thread o is found = ap (owner_of_thread s) found ∙ sym (ap (owner s) is)

  pub row_owned : (space : SpaceNo) (vpn : Vpn) (o : Option Row) → name ≡ Mapping space vpn → o ≡ row_of s.rows space vpn.0 → owner_of_row s o ≡ owner s name
  unfolding owner
  row_owned space vpn o is found = ap (owner_of_row s) found ∙ sym (ap (owner s) is)

  -- ---- classes

  pub row_classed : (space : SpaceNo) (vpn : Vpn) (o : Option Row) → name ≡ Mapping space vpn → o ≡ row_of s.rows space vpn.0 → class_of_row o ≡ class_of s name
  unfolding class_of
  row_classed space vpn o is found = ap class_of_row found ∙ sym (ap (class_of s) is)

-- ---- names one after another

-- one of the first so many
abbrev pub AreResidentTo : List Resident → List Name → ℕ → Type 0
AreResidentTo rs names n = (i : ℕ) (name : Name) → i < n → i < length names → get_or names i name ≡ name → IsNameResident rs name

pub resident_none : (rs : List Resident) (names : List Name) → AreResidentTo rs names 0
resident_none rs names i name low within is = absurd (omega arith)

pub resident_more : (rs : List Resident) (names : List Name) (n : ℕ) (e : Name) → n < length names → AreResidentTo rs names n → IsNameResident rs (get_or names n e) → AreResidentTo rs names (n + 1)
resident_more rs names n e n_within before here i name low within is = elim (cases_lt i n) [
  | inl below ↦ before i name below within is
  | inr above ↦
      let last : i ≡ n = omega (arith, low) in
      subst (λ (m : Name). IsNameResident rs m) (get_or_default names n e name n_within ∙ ap (λ (k : ℕ). get_or names k name) (sym last) ∙ is) here
]

pub resident_all : (rs : List Resident) (names : List Name) → AreResidentTo rs names (length names) → (name : Name) → Contains names name → IsNameResident rs name
resident_all rs names all name there = all there.0 name there.1 there.1 there.2

pub lacks_at : (rs : List Resident) (names : List Name) (n : ℕ) (e : Name) → n < length names → (IsNameResident rs (get_or names n e) → ⊥) → LackOne rs names
lacks_at rs names n e within missing = (get_or names n e, (n, within, get_or_default names n (get_or names n e) e within), missing)
