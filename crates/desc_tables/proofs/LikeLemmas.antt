-- When a changed state is like the one before it for what is loaded.
use Rattle.std.proofs.Common.{◌≡◌, ℕ, ◌<◌, Bool, true, List, map, length, Option, Some, None, is_some, slice_get, Contains, refl, ap, ap₂, sym, ◌∙◌, subst, arith}
use Rattle.std.specs.Prelude.{if◌then◌else◌, nat_lt, ◌++◌, ◌∷◌, [], option_to_list}
use Rattle.std.specs.Option.{option_map}
use Rattle.std.proofs.lemmas.Bool.Decides.{nat_tests}
use Rattle.std.proofs.lemmas.Option.{slice_get_within}
use Rattle.cache_ident.specs.declared.names.KernelNo.{KernelNo}
use Rattle.cache_ident.specs.declared.names.Name.{Name}
use Rattle.cache_ident.specs.declared.names.Name.TheVariants.{Kernel, Space, Thread, Mapping}
use Rattle.cache_ident.specs.declared.names.SpaceNo.{SpaceNo}
use Rattle.cache_ident.specs.declared.names.ThreadNo.{ThreadNo}
use Rattle.cache_ident.specs.declared.names.Vpn.{Vpn}
use Rattle.cache_ident.specs.Residents.{Resident}
use Rattle.phys_groups.specs.declared.rows.Row.{Row}
use Rattle.phys_groups.specs.Rows.{row_name}
use Rattle.phys_groups.specs.Translation.{row_of}
use Rattle.desc_groups.specs.flat_state.specs.declared.records.FlatThread.{FlatThread}
use Rattle.desc_groups.specs.flat_state.specs.State.{FlatState}
use Rattle.desc_groups.specs.flat_state.specs.Translation.{is_fit_row}
use Rattle.desc_groups.specs.flat_state.specs.Dependence.{owner, owner_of_row, owner_of_thread, parents, parents_of_found, signal_rows_of, Depends}
use Rattle.desc_groups.specs.flat_state.specs.Names.{class_by, class_of, class_of_row, is_fit_found, is_fit_name, stands}
use Rattle.desc_groups.specs.flat_laws.proofs.Members.{Contains-here}
use Rattle.desc_groups.specs.run_journal.specs.Groups.{HasParents}
use Rattle.desc_groups.specs.run_journal.specs.Legal.{AreGood}
use Rattle.desc_tables.proofs.SoundLemmas.{IsLikeFor}

abbrev first_kernel : KernelNo
first_kernel = record { 0 = 0 }

pub test_below : (m n : ℕ) → m < n → nat_lt m n ≡ true
test_below m n lt = grind (arith, nat_tests)

pub is_below : {X : Type 0} (xs : List X) (n : ℕ) → is_some (slice_get xs n) ≡ true → nat_lt n (length xs) ≡ true
is_below {X = X} xs n some = by (slice_get xs n) refl some
  where
    by : (o : Option X) → slice_get xs n ≡ o → is_some o ≡ true → nat_lt n (length xs) ≡ true
    by None here some = absurd (cc)
    by (Some x) here some = test_below n (length xs) (slice_get_within xs n x here)

-- what is found of a loaded row in the other state: a row that differs in its marks at most, fit, with the same signal rows
pub record IsKeptRow (s t : FlatState) (x : Row) (found : Option Row) : Type 0 where
  pub row : Row
  pub there : found ≡ Some row
  pub space : row.space ≡ x.space
  pub message : row.flags.m ≡ x.flags.m
  pub receiver : row.receiver ≡ x.receiver
  pub signals : map row_name (signal_rows_of t row) ≡ map row_name (signal_rows_of s x)
  pub fit : is_fit_row t row ≡ true

-- a resident row is fit
pub fit_there : (s : FlatState) (rs : List Resident) → AreGood s rs → (r : Resident) (space : SpaceNo) (vpn : Vpn) (x : Row) → Contains rs r → r.name ≡ Mapping space vpn → row_of s.rows space vpn.0 ≡ Some x → is_fit_row s x ≡ true
unfolding is_fit_name
fit_there s rs good r space vpn x there is here = ap (is_fit_found s) (sym here) ∙ subst (λ (n : Name). is_fit_name s n ≡ true) is (good r there).fit

-- Kernels and spaces stay where they are, threads in their spaces, and loaded rows as above.
pub record KeepsLoaded (s t : FlatState) (rs : List Resident) : Type 0 where
  pub kernels : (n : ℕ) → is_some (slice_get s.kernels n) ≡ true → is_some (slice_get t.kernels n) ≡ true
  pub spaces : (n : ℕ) (kernel : KernelNo) → slice_get s.spaces n ≡ Some kernel → slice_get t.spaces n ≡ Some kernel
  pub threads : (n : ℕ) (thread : FlatThread) → slice_get s.threads n ≡ Some thread → (other : FlatThread) × (slice_get t.threads n ≡ Some other) × (other.space ≡ thread.space)
  pub rows : (r : Resident) (space : SpaceNo) (vpn : Vpn) (x : Row) → Contains rs r → r.name ≡ Mapping space vpn → row_of s.rows space vpn.0 ≡ Some x → IsKeptRow s t x (row_of t.rows space vpn.0)

module _ (s t : FlatState) (rs : List Resident) (good : AreGood s rs) (keeps : KeepsLoaded s t rs) where
  -- what is the same for a name that stands in both
  record IsSame (name : Name) : Type 0 where
    depends : parents t name ≡ parents s name
    class : class_of t name ≡ class_of s name
    owned : owner t name ≡ owner s name
    there : stands t name ≡ true
    fit : is_fit_name t name ≡ true

  same_kernel : (kernel : KernelNo) → stands s (Kernel kernel) ≡ true → IsSame (Kernel kernel)
  unfolding parents class_of owner stands is_fit_name
  same_kernel kernel some =
      let now = keeps.kernels kernel.0 some in
      record {
        depends = refl;
        class = refl;
        owned = ap (λ (b : Bool). if b then Some first_kernel else None) (is_below t.kernels kernel.0 now ∙ sym (is_below s.kernels kernel.0 some));
        there = now;
        fit = refl;
      }

  space_stays : (space : SpaceNo) (o : Option KernelNo) → slice_get s.spaces space.0 ≡ o → is_some o ≡ true → slice_get t.spaces space.0 ≡ slice_get s.spaces space.0
  space_stays space None here some = absurd (cc)
  space_stays space (Some kernel) here some = keeps.spaces space.0 kernel here ∙ sym here

  -- the space of a resident's content stands, and has the kernel that it had
  space_kept : (space : SpaceNo) → ((r : Resident) × Contains rs r × (r.name ≡ Space space)) → slice_get t.spaces space.0 ≡ slice_get s.spaces space.0
  unfolding stands
  space_kept space parent = space_stays space (slice_get s.spaces space.0) refl (subst (λ (n : Name). stands s n ≡ true) parent.2 (good parent.0 parent.1).there)

  same_space : (space : SpaceNo) → stands s (Space space) ≡ true → IsSame (Space space)
  unfolding parents class_of owner stands is_fit_name
  same_space space some =
      let now = space_stays space (slice_get s.spaces space.0) refl some in
      record {
        depends = ap (λ (o : Option KernelNo). option_to_list (option_map Kernel o)) now;
        class = refl;
        owned = now;
        there = ap (λ (o : Option KernelNo). is_some o) now ∙ some;
        fit = refl;
      }

  same_thread : (thread : ThreadNo) → HasParents s rs (Thread thread) → (o : Option FlatThread) → slice_get s.threads thread.0 ≡ o → is_some o ≡ true → IsSame (Thread thread)
  unfolding parents class_of owner stands is_fit_name
  same_thread thread has None here some = absurd (cc)
  same_thread thread has (Some x) here some =
      let now = keeps.threads thread.0 x here in
      let of : Depends s (Thread thread) (Space x.space) = subst (λ (o : Option FlatThread). Contains (option_to_list (option_map (λ (y : FlatThread). Space y.space) o)) (Space x.space)) (sym here) (Contains-here (Space x.space) []) in
      record {
        depends =
            ap (λ (o : Option FlatThread). option_to_list (option_map (λ (y : FlatThread). Space y.space) o)) now.1
            ∙ ap (λ (space : SpaceNo). Space space ∷ []) now.2
            ∙ sym (ap (λ (o : Option FlatThread). option_to_list (option_map (λ (y : FlatThread). Space y.space) o)) here);
        class = refl;
        owned =
            ap (owner_of_thread t) now.1
            ∙ ap (λ (space : SpaceNo). slice_get t.spaces space.0) now.2
            ∙ space_kept x.space (has (Space x.space) of)
            ∙ sym (ap (owner_of_thread s) here);
        there = ap (λ (o : Option FlatThread). is_some o) now.1;
        fit = refl;
      }

  same_row : (r : Resident) → Contains rs r → (space : SpaceNo) (vpn : Vpn) → r.name ≡ Mapping space vpn → HasParents s rs (Mapping space vpn) → (o : Option Row) → row_of s.rows space vpn.0 ≡ o → is_some o ≡ true → IsSame (Mapping space vpn)
  unfolding parents class_of owner stands is_fit_name
  same_row r r_there space vpn is has None here some = absurd (cc)
  same_row r r_there space vpn is has (Some x) here some =
      let now = keeps.rows r space vpn x r_there is here in
      let of : Depends s (Mapping space vpn) (Space x.space) = subst (λ (o : Option Row). Contains (parents_of_found s o) (Space x.space)) (sym here) (Contains-here (Space x.space) (option_to_list (option_map Thread x.receiver) ++ map row_name (signal_rows_of s x))) in
      record {
        depends =
            ap (parents_of_found t) now.there
            ∙ ap (λ (space : SpaceNo). Space space ∷ (option_to_list (option_map Thread now.row.receiver) ++ map row_name (signal_rows_of t now.row))) now.space
            ∙ ap₂ (λ (receiver : Option ThreadNo) (names : List Name). Space x.space ∷ (option_to_list (option_map Thread receiver) ++ names)) now.receiver now.signals
            ∙ sym (ap (parents_of_found s) here);
        class =
            ap class_of_row now.there
            ∙ ap₂ (λ (m : Bool) (receiver : Option ThreadNo). class_by m (is_some receiver)) now.message now.receiver
            ∙ sym (ap class_of_row here);
        owned =
            ap (owner_of_row t) now.there
            ∙ ap (λ (space : SpaceNo). slice_get t.spaces space.0) now.space
            ∙ space_kept x.space (has (Space x.space) of)
            ∙ sym (ap (owner_of_row s) here);
        there = ap (λ (o : Option Row). is_some o) now.there;
        fit = ap (is_fit_found t) now.there ∙ now.fit;
      }

  same_for : (r : Resident) → Contains rs r → IsSame r.name
  unfolding stands
  same_for r r_there = by r.name refl
    where
      by : (n : Name) → r.name ≡ n → IsSame n
      by (Kernel kernel) is = same_kernel kernel (subst (λ (n : Name). stands s n ≡ true) is (good r r_there).there)
      by (Space space) is = same_space space (subst (λ (n : Name). stands s n ≡ true) is (good r r_there).there)
      by (Thread thread) is =
          same_thread thread (subst (λ (n : Name). HasParents s rs n) is (good r r_there).parents) (slice_get s.threads thread.0) refl
          (subst (λ (n : Name). stands s n ≡ true) is (good r r_there).there)
      by (Mapping space vpn) is =
          same_row r r_there space vpn is (subst (λ (n : Name). HasParents s rs n) is (good r r_there).parents) (row_of s.rows space vpn.0) refl
          (subst (λ (n : Name). stands s n ≡ true) is (good r r_there).there)

  pub like_for : IsLikeFor s t rs
  like_for = record {
    depends = λ r there. (same_for r there).depends;
    classes = λ r there. (same_for r there).class;
    owners = λ r there. (same_for r there).owned;
    good = λ r there. record {
      there = (same_for r there).there;
      fit = (same_for r there).fit;
      parents = λ parent depends. (good r there).parents parent (subst (λ (names : List Name). Contains names parent) (same_for r there).depends depends);
    };
  }
