-- What is so of a name that a load isn't refused for.
use Rattle.std.proofs.Common.{◌≡◌, ℕ, true, false, [], ◌++◌, map, find, Contains, Option, Some, None, IfSome, IfNone, slice_get, refl, sym, ◌∙◌, ap, subst, inl, inr}
use Rattle.std.specs.Prelude.{◌/◌, ◌==◌, is_none, option_to_list}
use Rattle.std.specs.Option.{option_and_then, option_eq, option_map}
use Rattle.std.proofs.lemmas.Bool.{eqb-true}
use Rattle.std.proofs.lemmas.Option.{same_Some}
use Rattle.std.proofs.lemmas.List.Elements.{Contains-append_cases}
use Rattle.board_ops.specs.flat_laws.proofs.Members.{contains_nothing, Contains-cases, Contains-from_map, Contains-option_map}
use Rattle.board_ops.specs.flat_state.proofs.Places.{fails_if_not_found, get_from_Contains}
use Rattle.cache_ident.specs.declared.idents.Ident.{Ident}
use Rattle.cache_ident.specs.declared.names.KernelNo.{KernelNo}
use Rattle.cache_ident.specs.declared.names.SpaceNo.{SpaceNo}
use Rattle.cache_ident.specs.declared.names.ThreadNo.{ThreadNo}
use Rattle.cache_ident.specs.declared.names.Vpn.{Vpn}
use Rattle.cache_ident.specs.declared.names.Name.{Name}
use Rattle.cache_ident.specs.declared.names.Name.TheVariants as name
use Rattle.cache_ident.specs.Residents.{IsNameResident, IsResident}
use Rattle.phys_groups.specs.declared.rows.Row.{Row}
use Rattle.phys_groups.specs.Rows.{row_name}
use Rattle.phys_groups.specs.Translation.{row_of}
use Rattle.kernel_cache.specs.declared.KernelRec.{KernelRec}
use Rattle.space_cache.specs.declared.SpaceRec.{SpaceRec}
use Rattle.board_ops.specs.flat_state.specs.declared.records.FlatThread.{FlatThread}
use Rattle.board_ops.specs.flat_state.specs.Dependence.{owner, parents, parents_of_found, signal_rows_of}
use Rattle.board_ops.specs.flat_state.specs.Names.{is_fit_found, is_fit_name, stands}
use Rattle.board_ops.specs.flat_state.specs.Translation.{is_fit_row}
use Rattle.desc_tables.specs.run_journal.specs.Groups.{HasParents}
use Rattle.kind_store.specs.Changes.{is_name}
use Rattle.kind_store.specs.owner_shelf.proofs.NameLemmas.{same_by_eq}
use Rattle.desc_tables.specs.desc_stores.specs.declared.items.Item.{Item}
use Rattle.desc_tables.specs.desc_stores.specs.declared.items.Item.TheVariants as item
use Rattle.desc_tables.specs.desc_stores.specs.Contents.{item_as, residents_of, Contents, IsShelved}
use Rattle.desc_tables.specs.desc_stores.specs.Sound.{IsExactlyOne}
use Rattle.desc_tables.specs.shown_state.specs.Shown.{thread_of}
use Rattle.desc_tables.specs.shown_state.proofs.ContentLemmas.{row_has_name}
use Rattle.desc_tables.specs.shown_state.proofs.LookupLemmas.{found_row, name_stands}
use Rattle.desc_tables.specs.store_residents.proofs.ContentLemmas.{shelved_iff}
use Rattle.desc_tables.specs.store_residents.proofs.ResidentLemmas.{one_each}
use Rattle.desc_tables.specs.desc_parents.specs.Idents.{ident_of}
use Rattle.desc_tables.specs.desc_parents.specs.Seen.{seen}
use Rattle.desc_tables.specs.desc_parents.proofs.IdentLemmas.{ident_back, ident_found}
use Rattle.board_ops.specs.declared.refusals.Refused.{Refused}
use Rattle.board_ops.specs.declared.refusals.Refused.TheVariants as why
use Rattle.board_checks.specs.Facts.{IsLoadable}
use Rattle.board_checks.specs.Identifiers.{receiver_as, space_as, thread_as}
use Rattle.board_checks.specs.Refusals.{already_loaded, beyond_rights, is_absent, not_declared, not_owner, receivers_absent, refusal_in_space, refusal_of_row, wrong_parent, wrong_receiver, wrong_space}
use Rattle.board_checks.proofs.FirstLemmas.{none_mapped, passes_if}
use Rattle.board_checks.proofs.FitLemmas.{ident_tested}
use Rattle.board_checks.proofs.IdentifierLemmas.{item_resident, space_is}

-- ---- is it loaded?

module _ (c : Contents) (one : IsExactlyOne c) (n : Name) where
  -- a name is refused as what it is loaded with
  pub absent_tested : (o : Option Ident) → IfSome o (λ ident. IsResident (residents_of c) ident n) → IfNone o (IsNameResident (residents_of c) n → ⊥) → option_map why.AlreadyLoaded o ≡ already_loaded c n
  unfolding already_loaded
  absent_tested o found absent = ap (option_map why.AlreadyLoaded) (sym (ident_tested c one n o found absent))

  absent_if : None ≡ already_loaded c n → IsNameResident (residents_of c) n → ⊥
  unfolding already_loaded
  absent_if passes r =
      let none : ident_of (residents_of c) n ≡ None = none_mapped why.AlreadyLoaded (ident_of (residents_of c) n) passes in
      let is : ident_of (residents_of c) n ≡ Some r.0.ident = subst (λ (m : Name). ident_of (residents_of c) m ≡ Some r.0.ident) r.2 (ident_found (residents_of c) (one_each c one) r.0 r.1) in
      cc

  pub declared_if : None ≡ not_declared c n → stands (seen c) n ≡ true
  unfolding not_declared
  declared_if passes = passes_if (stands (seen c) n) (why.NotDeclared n) passes

  -- what stands and isn't loaded is on the shelf
  pub shelved_if : None ≡ not_declared c n → None ≡ already_loaded c n → IsShelved c n
  shelved_if there absent = (shelved_iff c one n).1 (sym (name_stands None [] c one n) ∙ declared_if there, absent_if absent)

-- the given receiver is tested against the row's
pub receiver_tested : (c : Contents) (receiver : Option Ident) (row : Row) (named given : Option Name) → receiver_as c receiver ≡ named → given ≡ option_map name.Thread row.receiver → wrong_parent named given ≡ wrong_receiver c receiver row
unfolding wrong_receiver
receiver_tested c receiver row named given is given_is = ap (λ (o : Option Name). wrong_parent o given) (sym is) ∙ ap (wrong_parent (receiver_as c receiver)) given_is

-- a load of a row is refused in its space, and for the row
module _ (c : Contents) (caller : Ident) (receiver : Option Ident) (vpn : Vpn) (parent : Ident) (space : SpaceRec) (is : item_as c parent ≡ Some (item.Space space)) (o : Option Refused) where
  pub in_space : o ≡ refusal_in_space c caller receiver vpn space.no → o ≡ option_and_then (refusal_in_space c caller receiver vpn) (space_as c parent)
  in_space here = here ∙ ap (option_and_then (refusal_in_space c caller receiver vpn)) (sym (space_is c parent space is))

  pub for_row : (row : Row) → row_of (seen c).rows space.no vpn.0 ≡ Some row → o ≡ refusal_of_row c caller receiver (name.Mapping space.no vpn) row → o ≡ option_and_then (refusal_of_row c caller receiver (name.Mapping space.no vpn)) (row_of (seen c).rows space.no vpn.0)
  for_row row found here = here ∙ ap (option_and_then (refusal_of_row c caller receiver (name.Mapping space.no vpn))) (sym found)

-- ---- what it depends on

-- the owner is the caller's kernel
pub own_if : (given own : KernelNo) → None ≡ not_owner given own → own ≡ given
own_if given own passes = ap (λ (n : ℕ). record { 0 = n }) (sym (eqb-true given.0 own.0 (passes_if (given.0 == own.0) (why.NotOwner given own) passes)))

-- what is given is what is declared
pub one_if : (given declared : Option Name) → None ≡ wrong_parent given declared → given ≡ declared
one_if given declared passes = by given declared (passes_if (option_eq is_name given declared) (why.WrongParent given declared) passes)
  where
    by : (a b : Option Name) → option_eq is_name a b ≡ true → a ≡ b
    by None None same = refl
    by None (Some b) same = absurd (cc)
    by (Some a) None same = absurd (cc)
    by (Some a) (Some b) same = ap (λ (n : Name). Some n) (same_by_eq a b same)

module _ (c : Contents) (one : IsExactlyOne c) where
  named_resident : (ident : Ident) (it : Item) (n : Name) → IsResident (residents_of c) ident n → IsNameResident (residents_of c) n
  named_resident ident it n r = (r.0, r.1, r.3)

  kernel_has : (kernel : KernelNo) → HasParents (seen c) (residents_of c) (name.Kernel kernel)
  unfolding parents
  kernel_has kernel parent depends = absurd (contains_nothing parent depends)

  pub kernel_loadable : (kernel : KernelNo) → None ≡ not_declared c (name.Kernel kernel) → None ≡ already_loaded c (name.Kernel kernel) → IsLoadable c (name.Kernel kernel)
  unfolding is_fit_name
  kernel_loadable kernel there absent = record { shelved = shelved_if c one (name.Kernel kernel) there absent; fit = refl; has = kernel_has kernel }

  -- the kernel of a space is the caller's, which is loaded
  space_has : (caller : Ident) (kernel : KernelRec) → item_as c caller ≡ Some (item.Kernel kernel) → (space : SpaceNo) → None ≡ option_and_then (not_owner kernel.no) (owner (seen c) (name.Space space)) → HasParents (seen c) (residents_of c) (name.Space space)
  unfolding parents owner
  space_has caller kernel is space passes parent depends =
      let own = Contains-option_map name.Kernel (slice_get (seen c).spaces space.0) parent depends in
      let tested : None ≡ not_owner kernel.no own.0 = passes ∙ ap (option_and_then (not_owner kernel.no)) own.1 in
      let r = item_resident c caller one (item.Kernel kernel) is in
      let same : name.Kernel kernel.no ≡ parent = ap name.Kernel (sym (own_if kernel.no own.0 tested)) ∙ own.2 in
      (r.0, r.1, r.3 ∙ same)

  pub space_loadable : (caller : Ident) (kernel : KernelRec) → item_as c caller ≡ Some (item.Kernel kernel) → (space : SpaceNo) → None ≡ not_declared c (name.Space space) → None ≡ option_and_then (not_owner kernel.no) (owner (seen c) (name.Space space)) → None ≡ already_loaded c (name.Space space) → IsLoadable c (name.Space space)
  unfolding is_fit_name
  space_loadable caller kernel is space there owned absent = record { shelved = shelved_if c one (name.Space space) there absent; fit = refl; has = space_has caller kernel is space owned }

  -- a space that is loaded
  space_resident : (parent : Ident) (space : SpaceRec) → item_as c parent ≡ Some (item.Space space) → IsNameResident (residents_of c) (name.Space space.no)
  space_resident parent space is = let r = item_resident c parent one (item.Space space) is in (r.0, r.1, r.3)

  -- the space of a thread is the parent
  pub space_tested : (parent : Ident) (space : SpaceRec) → item_as c parent ≡ Some (item.Space space) → (thread : ThreadNo) (declared : SpaceNo) → option_map (λ (t : FlatThread). t.space) (slice_get (seen c).threads thread.0) ≡ Some declared → wrong_parent (Some (name.Space space.no)) (Some (name.Space declared)) ≡ wrong_space c parent thread
  unfolding wrong_space
  space_tested parent space is thread declared its =
      ap (λ (o : Option SpaceNo). wrong_parent (option_map name.Space o) (Some (name.Space declared))) (sym (space_is c parent space is))
      ∙ ap (wrong_parent (option_map name.Space (space_as c parent))) (sym (mapped (slice_get (seen c).threads thread.0) its))
    where
      mapped : (o : Option FlatThread) → option_map (λ (t : FlatThread). t.space) o ≡ Some declared → option_map (λ (t : FlatThread). name.Space t.space) o ≡ Some (name.Space declared)
      mapped None is = absurd (cc)
      mapped (Some t) is = ap (λ (s : SpaceNo). Some (name.Space s)) (same_Some t.space declared is)

  thread_has : (parent : Ident) (space : SpaceRec) → item_as c parent ≡ Some (item.Space space) → (thread : ThreadNo) (declared : SpaceNo) → option_map (λ (t : FlatThread). t.space) (slice_get (seen c).threads thread.0) ≡ Some declared → None ≡ wrong_parent (Some (name.Space space.no)) (Some (name.Space declared)) → HasParents (seen c) (residents_of c) (name.Thread thread)
  unfolding parents
  thread_has parent space is thread declared its passes above depends =
      let t = Contains-option_map (λ (t : FlatThread). name.Space t.space) (slice_get (seen c).threads thread.0) above depends in
      let its_space : t.0.space ≡ declared = same_Some t.0.space declared (ap (option_map (λ (t : FlatThread). t.space)) (sym t.1) ∙ its) in
      let same : name.Space space.no ≡ name.Space declared = same_Some (name.Space space.no) (name.Space declared) (one_if (Some (name.Space space.no)) (Some (name.Space declared)) passes) in
      subst (IsNameResident (residents_of c)) (same ∙ ap name.Space (sym its_space) ∙ t.2) (space_resident parent space is)

  pub thread_loadable : (parent : Ident) (space : SpaceRec) → item_as c parent ≡ Some (item.Space space) → (thread : ThreadNo) (declared : SpaceNo) → option_map (λ (t : FlatThread). t.space) (slice_get (seen c).threads thread.0) ≡ Some declared → None ≡ not_declared c (name.Thread thread) → None ≡ wrong_parent (Some (name.Space space.no)) (Some (name.Space declared)) → None ≡ already_loaded c (name.Thread thread) → IsLoadable c (name.Thread thread)
  unfolding is_fit_name
  thread_loadable parent space is thread declared its there passes absent = record { shelved = shelved_if c one (name.Thread thread) there absent; fit = refl; has = thread_has parent space is thread declared its passes }

  -- ---- a row

  -- a thread that is given is loaded
  thread_resident : (ident : Ident) (o : Option Item) → item_as c ident ≡ o → (thread : ThreadNo) → option_map (λ (t : FlatThread). name.Thread t.no) (thread_of o) ≡ Some (name.Thread thread) → IsNameResident (residents_of c) (name.Thread thread)
  thread_resident ident None held thread named = absurd (cc)
  thread_resident ident (Some (item.Kernel kernel)) held thread named = absurd (cc)
  thread_resident ident (Some (item.Space space)) held thread named = absurd (cc)
  thread_resident ident (Some (item.Mapping row)) held thread named = absurd (cc)
  thread_resident ident (Some (item.Thread t)) held thread named =
      let r = item_resident c ident one (item.Thread t) held in
      (r.0, r.1, r.3 ∙ same_Some (name.Thread t.no) (name.Thread thread) named)

  -- and so is a receiver
  receiver_resident : (receiver : Option Ident) (thread : ThreadNo) → receiver_as c receiver ≡ Some (name.Thread thread) → IsNameResident (residents_of c) (name.Thread thread)
  unfolding thread_as
  receiver_resident None thread is = absurd (cc)
  receiver_resident (Some ident) thread is = thread_resident ident (item_as c ident) refl thread is

  -- no fit signal row of a message row's frame is missing
  signal_resident : (row other : Row) → None ≡ receivers_absent c row → Contains (signal_rows_of (seen c) row) other → IsNameResident (residents_of c) (row_name other)
  unfolding receivers_absent
  signal_resident row other passes there =
      let none : find (is_absent c) (signal_rows_of (seen c) row) ≡ None = none_mapped (λ (x : Row). why.ReceiversAbsent x.space x.vpn) (find (is_absent c) (signal_rows_of (seen c) row)) passes in
      let place = get_from_Contains (signal_rows_of (seen c) row) other there in
      by (ident_of (residents_of c) (row_name other)) refl (fails_if_not_found (is_absent c) (signal_rows_of (seen c) row) place.0 other none place.1)
    where
      by : (o : Option Ident) → ident_of (residents_of c) (row_name other) ≡ o → is_none o ≡ false → IsNameResident (residents_of c) (row_name other)
      by None is present = absurd (cc)
      by (Some ident) is present = let r = ident_back (residents_of c) (row_name other) ident is in (r.0, r.1, r.3)

  module _ (parent : Ident) (space : SpaceRec) (is : item_as c parent ≡ Some (item.Space space)) (vpn : Vpn) (row : Row) (found : row_of (seen c).rows space.no vpn.0 ≡ Some row) where
    -- the row is of the page
    pub row_named : row_name row ≡ name.Mapping space.no vpn
    row_named = row_has_name c (name.Mapping space.no vpn) row (sym (found_row None [] c one space.no vpn) ∙ found)

    row_has : (receiver : Option Ident) (named : Option Name) → receiver_as c receiver ≡ named → None ≡ wrong_parent named (option_map name.Thread row.receiver) → None ≡ receivers_absent c row → HasParents (seen c) (residents_of c) (name.Mapping space.no vpn)
    unfolding parents
    row_has receiver named given passes signals above depends =
        elim (Contains-cases (name.Space row.space) (option_to_list (option_map name.Thread row.receiver) ++ map row_name (signal_rows_of (seen c) row)) above (subst (λ (o : Option Row). Contains (parents_of_found (seen c) o) above) found depends)) [
          | inl same ↦ let page = row_named in let in_space : row.space ≡ space.no = cc in subst (IsNameResident (residents_of c)) (ap name.Space (sym in_space) ∙ same) (space_resident parent space is)
          | inr behind ↦ elim (Contains-append_cases (option_to_list (option_map name.Thread row.receiver)) (map row_name (signal_rows_of (seen c) row)) above behind) [
            | inl receives ↦
                let thread = Contains-option_map name.Thread row.receiver above receives in
                let its : receiver_as c receiver ≡ Some (name.Thread thread.0) = given ∙ one_if named (option_map name.Thread row.receiver) passes ∙ ap (option_map name.Thread) thread.1 in
                subst (IsNameResident (residents_of c)) thread.2 (receiver_resident receiver thread.0 its)
            | inr signal ↦
                let other = Contains-from_map row_name (signal_rows_of (seen c) row) above signal in
                subst (IsNameResident (residents_of c)) other.2 (signal_resident row other.0 signals other.1)
          ]
        ]

    row_fit : None ≡ beyond_rights c row → is_fit_name (seen c) (name.Mapping space.no vpn) ≡ true
    unfolding is_fit_name beyond_rights
    row_fit passes = ap (is_fit_found (seen c)) found ∙ passes_if (is_fit_row (seen c) row) (why.Rights row.frame (row.frame.0 / 128)) passes

    pub row_loadable : (receiver : Option Ident) (named : Option Name) → receiver_as c receiver ≡ named → None ≡ not_declared c (name.Mapping space.no vpn) → None ≡ wrong_parent named (option_map name.Thread row.receiver) → None ≡ already_loaded c (name.Mapping space.no vpn) → None ≡ beyond_rights c row → None ≡ receivers_absent c row → IsLoadable c (name.Mapping space.no vpn)
    row_loadable receiver named given there passes absent fits signals = record {
      shelved = shelved_if c one (name.Mapping space.no vpn) there absent;
      fit = row_fit fits;
      has = row_has receiver named given passes signals;
    }
