-- What stays good through an event.
use Rattle.std.proofs.Common.{◌≡◌, Bool, true, false, List, [], ◌∷◌, filter, map, Contains, Option, Some, None, is_some, slice_get, refl, sym, ◌∙◌, ap, subst, inl, inr}
use Rattle.std.specs.Prelude.{◌&&◌, if◌then◌else◌, option_to_list}
use Rattle.std.specs.Option.{option_map}
use Rattle.std.proofs.lemmas.Bool.{and_from, and_parts, false≢true}
use Rattle.std.proofs.lemmas.List.Elements.{Contains-append_cases, Contains-append_left, Contains-append_right}
use Rattle.cache_ident.specs.declared.names.KernelNo.{KernelNo}
use Rattle.cache_ident.specs.declared.names.SpaceNo.{SpaceNo}
use Rattle.cache_ident.specs.declared.names.ThreadNo.{ThreadNo}
use Rattle.cache_ident.specs.declared.names.Vpn.{Vpn}
use Rattle.cache_ident.specs.declared.names.Name.{Name}
use Rattle.cache_ident.specs.declared.names.Name.TheVariants as name
use Rattle.cache_ident.specs.Residents.{Resident, IsNameResident}
use Rattle.phys_groups.specs.declared.rows.Row.{Row}
use Rattle.phys_groups.specs.Rows.{row_name}
use Rattle.phys_groups.specs.Translation.{row_of}
use Rattle.row_store.specs.signal_pages.specs.Signals.{is_signal_row_of}
use Rattle.flat_state.specs.declared.records.FlatKernel.{FlatKernel}
use Rattle.flat_state.specs.declared.records.FlatThread.{FlatThread}
use Rattle.flat_state.specs.Dependence.{parents, parents_of_found, parents_of_row, signal_rows_of}
use Rattle.flat_state.specs.Names.{class_of, class_of_row, is_fit_found, is_fit_name, stands}
use Rattle.flat_state.specs.State.{FlatState}
use Rattle.flat_state.specs.Translation.{is_fit_row}
use Rattle.board_checks.specs.flat_laws.specs.Rows.{IsButForBits}
use Rattle.board_checks.specs.flat_laws.proofs.EventKeeps.{Keeps}
use Rattle.board_checks.specs.flat_laws.proofs.Members.{Contains-behind, Contains-cases, Contains-filter, Contains-from_map, Contains-here, Contains-map, contains_nothing}
use Rattle.board_checks.specs.run_journal.specs.Groups.{HasParents}
use Rattle.board_checks.specs.run_journal.proofs.Others.{Contains-from_filter}

-- a name stands, is fit, and has all that it depends on resident
pub record IsGood (s : FlatState) (rs : List Resident) (n : Name) : Type 0 where
  pub there : stands s n ≡ true
  pub fit : is_fit_name s n ≡ true
  pub has : HasParents s rs n

-- what is there
pub found : {X : Type 0} (o : Option X) → is_some o ≡ true → (x : X) × (o ≡ Some x)
found None is = absurd (false≢true is)
found (Some x) is = (x, refl)

-- ---- what a row depends on

module _ (s : FlatState) (row : Row) where
  -- on its space
  pub on_space : Contains (parents_of_row s row) (name.Space row.space)
  on_space = Contains-here (name.Space row.space) _

  -- on its receiver
  pub on_receiver : (parent : Name) → Contains (option_to_list (option_map name.Thread row.receiver)) parent → Contains (parents_of_row s row) parent
  on_receiver parent receives = Contains-behind (name.Space row.space) _ parent (Contains-append_left (option_to_list (option_map name.Thread row.receiver)) (map row_name (signal_rows_of s row)) parent receives)

  signals_of : (other : Row) → Contains s.rows other → is_signal_row_of row.frame other ≡ true → is_fit_row s other ≡ true → row.flags.m ≡ true → Contains (signal_rows_of s row) other
  signals_of other there signals fit message =
      subst (λ (m : Bool). Contains (if m then filter (λ (x : Row). is_signal_row_of row.frame x && is_fit_row s x) s.rows else []) other) (sym message)
      (Contains-from_filter (λ (x : Row). is_signal_row_of row.frame x && is_fit_row s x) s.rows other there (and_from (is_signal_row_of row.frame other) (is_fit_row s other) signals fit))

  -- a message row on each fit signal row of its frame
  pub on_signal : (other : Row) → Contains s.rows other → is_signal_row_of row.frame other ≡ true → is_fit_row s other ≡ true → row.flags.m ≡ true → Contains (parents_of_row s row) (row_name other)
  on_signal other there signals fit message =
      Contains-behind (name.Space row.space) _ (row_name other)
      (Contains-append_right (option_to_list (option_map name.Thread row.receiver)) (map row_name (signal_rows_of s row)) (row_name other)
      (Contains-map row_name (signal_rows_of s row) other (signals_of other there signals fit message)))

  -- and on nothing else
  pub on_each : (P : Name → Type 0) → P (name.Space row.space) → ((parent : Name) → Contains (option_to_list (option_map name.Thread row.receiver)) parent → P parent)
      → (row.flags.m ≡ true → (other : Row) → Contains s.rows other → is_signal_row_of row.frame other ≡ true → is_fit_row s other ≡ true → P (row_name other)) → (parent : Name) → Contains (parents_of_row s row) parent → P parent
  on_each P space receiver signals parent depends = elim (Contains-cases (name.Space row.space) _ parent depends) [
    | inl first ↦ subst P first space
    | inr behind ↦ elim (Contains-append_cases (option_to_list (option_map name.Thread row.receiver)) (map row_name (signal_rows_of s row)) parent behind) [
      | inl receives ↦ receiver parent receives
      | inr signal ↦ (let other = Contains-from_map row_name (signal_rows_of s row) parent signal in subst P other.2 (by row.flags.m refl other.0 other.1))
    ]
  ]
    where
      by : (m : Bool) → row.flags.m ≡ m → (other : Row) → Contains (if m then filter (λ (x : Row). is_signal_row_of row.frame x && is_fit_row s x) s.rows else []) other → P (row_name other)
      by true is other there =
          let kept = Contains-filter (λ (x : Row). is_signal_row_of row.frame x && is_fit_row s x) s.rows other there in
          let both = and_parts (is_signal_row_of row.frame other) (is_fit_row s other) kept.1 in
          signals is other kept.0 both.0 both.1
      by false is other there = absurd (contains_nothing other there)

-- a row that is found is what its name depends on, is fit and is classed by
module _ (s : FlatState) (space : SpaceNo) (vpn : Vpn) (row : Row) (here : row_of s.rows space vpn.0 ≡ Some row) where
  pub row_stands : stands s (name.Mapping space vpn) ≡ true
  unfolding stands
  row_stands = ap (λ (o : Option Row). is_some o) here

  pub row_fits : is_fit_name s (name.Mapping space vpn) ≡ is_fit_row s row
  unfolding is_fit_name
  row_fits = ap (is_fit_found s) here

  pub row_depends : parents s (name.Mapping space vpn) ≡ parents_of_row s row
  unfolding parents
  row_depends = ap (parents_of_found s) here

  pub row_class : class_of s (name.Mapping space vpn) ≡ class_of_row (Some row)
  unfolding class_of
  row_class = ap class_of_row here

pub row_found : (s : FlatState) (space : SpaceNo) (vpn : Vpn) → stands s (name.Mapping space vpn) ≡ true → (row : Row) × (row_of s.rows space vpn.0 ≡ Some row)
unfolding stands
row_found s space vpn there = found (row_of s.rows space vpn.0) there

pub no_row : (s : FlatState) (space : SpaceNo) (vpn : Vpn) → is_some (row_of s.rows space vpn.0) ≡ false → stands s (name.Mapping space vpn) ≡ false
unfolding stands
no_row s space vpn none = none

-- ---- from one state to another

module _ (s u : FlatState) (keeps : Keeps s u) (rs : List Resident) where
  -- what is no row stays good
  kernel_good : (kernel : KernelNo) → IsGood s rs (name.Kernel kernel) → IsGood u rs (name.Kernel kernel)
  unfolding stands is_fit_name parents
  kernel_good kernel good =
      let was = found (slice_get s.kernels kernel.0) good.there in
      let is = keeps.kernels kernel.0 was.0 was.1 in
      record {
        there = ap (λ (o : Option FlatKernel). is_some o) is.1;
        fit = refl;
        has = λ parent depends. absurd (contains_nothing parent depends);
      }

  space_good : (space : SpaceNo) → IsGood s rs (name.Space space) → IsGood u rs (name.Space space)
  unfolding stands is_fit_name parents
  space_good space good =
      let was = found (slice_get s.spaces space.0) good.there in
      let is = keeps.spaces space.0 was.0 was.1 in
      record {
        there = ap (λ (o : Option KernelNo). is_some o) is;
        fit = refl;
        has = λ parent depends. good.has parent (subst (λ (o : Option KernelNo). Contains (option_to_list (option_map name.Kernel o)) parent) (is ∙ sym was.1) depends);
      }

  thread_good : (thread : ThreadNo) → IsGood s rs (name.Thread thread) → IsGood u rs (name.Thread thread)
  unfolding stands is_fit_name parents
  thread_good thread good =
      let was = found (slice_get s.threads thread.0) good.there in
      let is = keeps.threads.kept thread.0 was.0 was.1 in
      record {
        there = ap (λ (o : Option FlatThread). is_some o) is.1;
        fit = refl;
        has = λ parent depends.
            let now = subst (λ (o : Option FlatThread). Contains (option_to_list (option_map (λ t. name.Space t.space) o)) parent) is.1 depends in
            let then_so = subst (λ (sp : SpaceNo). Contains (name.Space sp ∷ []) parent) is.2 now in
            good.has parent (subst (λ (o : Option FlatThread). Contains (option_to_list (option_map (λ t. name.Space t.space) o)) parent) (sym was.1) then_so);
      }

  -- a row that is there still does, where it is fit, and what it depends on then is resident
  row_good : (space : SpaceNo) (vpn : Vpn) (row now : Row) → IsGood s rs (name.Mapping space vpn) → row_of s.rows space vpn.0 ≡ Some row → row_of u.rows space vpn.0 ≡ Some now → is_fit_row u now ≡ true
      → (now.flags.m ≡ true → (other : Row) → Contains u.rows other → is_signal_row_of now.frame other ≡ true → is_fit_row u other ≡ true → IsNameResident rs (row_name other)) → IsGood u rs (name.Mapping space vpn)
  row_good space vpn row now good was is fit signals = record {
    there = row_stands u space vpn now is;
    fit = row_fits u space vpn now is ∙ fit;
    has = λ parent depends.
        on_each u now (λ p. IsNameResident rs p)
        (subst (λ (sp : SpaceNo). IsNameResident rs (name.Space sp)) (sym (ap (λ (x : Row). x.space) same)) (old (name.Space row.space) (on_space s row)))
        (λ p receives. old p (on_receiver s row p (subst (λ (o : Option ThreadNo). Contains (option_to_list (option_map name.Thread o)) p) (ap (λ (x : Row). x.receiver) same) receives)))
        signals parent (subst (λ (names : List Name). Contains names parent) (row_depends u space vpn now is) depends);
  }
    where
      same : IsButForBits row now
      same = keeps.rows space vpn.0 row now was is

      old : (p : Name) → Contains (parents_of_row s row) p → IsNameResident rs p
      old p depends = good.has p (subst (λ (names : List Name). Contains names p) (sym (row_depends s space vpn row was)) depends)

  -- each name does whose row, if it is that of one, is there still, is fit, and has its signal rows resident
  pub stays_good : (n : Name) → IsGood s rs n
      → ((space : SpaceNo) (vpn : Vpn) (row : Row) → n ≡ name.Mapping space vpn → row_of s.rows space vpn.0 ≡ Some row
      → (now : Row) × (row_of u.rows space vpn.0 ≡ Some now) × (is_fit_row u now ≡ true) × (now.flags.m ≡ true → (other : Row) → Contains u.rows other → is_signal_row_of now.frame other ≡ true → is_fit_row u other ≡ true → IsNameResident rs (row_name other)))
      → IsGood u rs n
  stays_good (name.Kernel kernel) good rows = kernel_good kernel good
  stays_good (name.Space space) good rows = space_good space good
  stays_good (name.Thread thread) good rows = thread_good thread good
  stays_good (name.Mapping space vpn) good rows =
      let was = row_found s space vpn good.there in
      let now = rows space vpn was.0 refl was.1 in
      row_good space vpn was.0 now.0 good was.1 now.1 now.2 now.3

-- a message row that is good has each fit signal row of its frame resident
pub signals_resident : (s : FlatState) (rs : List Resident) (space : SpaceNo) (vpn : Vpn) (row : Row) → IsGood s rs (name.Mapping space vpn) → row_of s.rows space vpn.0 ≡ Some row → row.flags.m ≡ true → (other : Row) → Contains s.rows other → is_signal_row_of row.frame other ≡ true → is_fit_row s other ≡ true → IsNameResident rs (row_name other)
signals_resident s rs space vpn row good here message other there signals fit =
    good.has (row_name other) (subst (λ (names : List Name). Contains names (row_name other)) (sym (row_depends s space vpn row here)) (on_signal s row other there signals fit message))
