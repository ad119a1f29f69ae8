-- What a load is answered whose identifiers are live and of their kinds.
use Rattle.std.proofs.Common.{◌≡◌, ◌/◌, Bool, true, false, List, [], length, Contains, Option, Some, None, is_some, slice_get, refl, sym, ap, ◌∙◌, subst}
use Rattle.std.specs.Prelude.{if◌then◌else◌, ◌==◌, ◌&&◌, find, filter, is_none}
use Rattle.std.specs.Option.{option_and_then, option_map, option_or}
use Rattle.std.proofs.lemmas.Bool.{and_parts, eq-eqb, eqb-true, lt-ltb}
use Rattle.std.proofs.lemmas.Option.{same_Some, slice_get_within}
use Rattle.cache_ident.specs.declared.idents.Ident.{Ident}
use Rattle.cache_ident.specs.declared.idents.Kind.TheVariants as kind
use Rattle.cache_ident.specs.declared.names.KernelNo.{KernelNo}
use Rattle.cache_ident.specs.declared.names.Name.{Name}
use Rattle.cache_ident.specs.declared.names.Name.TheVariants as name
use Rattle.cache_ident.specs.declared.names.SpaceNo.{SpaceNo}
use Rattle.cache_ident.specs.declared.names.ThreadNo.{ThreadNo}
use Rattle.cache_ident.specs.declared.names.Vpn.{Vpn}
use Rattle.cache_ident.specs.Names.{first_name}
use Rattle.cache_ident.specs.Residents.{IsNameResident, IsResident}
use Rattle.phys_groups.specs.declared.rows.Row.{Row}
use Rattle.phys_groups.specs.Rows.{row_name}
use Rattle.phys_groups.specs.Translation.{is_row_of, row_of}
use Rattle.board_loads.specs.signal_pages.specs.Signals.{is_signal_row_of}
use Rattle.board_loads.specs.flat_state.specs.declared.records.FlatKernel.{FlatKernel}
use Rattle.board_loads.specs.flat_state.specs.declared.records.FlatThread.{FlatThread}
use Rattle.board_loads.specs.flat_state.specs.Dependence.{owner, owner_of_row, owner_of_thread, signal_rows_of}
use Rattle.board_loads.specs.flat_state.specs.Names.{stands}
use Rattle.board_loads.specs.flat_state.specs.Translation.{is_fit_row}
use Rattle.board_loads.specs.flat_state.proofs.Finding.{find-contains, find-passes}
use Rattle.board_threads.specs.desc_stores.specs.declared.items.Item.TheVariants as item
use Rattle.board_threads.specs.desc_stores.specs.Contents.{residents_of, Contents}
use Rattle.board_threads.specs.desc_stores.specs.Sound.{IsExactlyOne}
use Rattle.board_loads.specs.desc_parents.specs.Idents.{ident_of}
use Rattle.board_loads.specs.desc_parents.specs.Seen.{seen}
use Rattle.board_loads.specs.desc_parents.proofs.IdentLemmas.{ident_back, ident_found, ident_none}
use Rattle.board_threads.specs.store_residents.proofs.ResidentLemmas.{one_each}
use Rattle.board_threads.specs.board_ops.specs.declared.refusals.Refused.{Refused}
use Rattle.board_threads.specs.board_ops.specs.declared.refusals.Refused.TheVariants as why
use Rattle.board_threads.specs.board_checks.specs.Identifiers.{not_a_receiver, receiver_as}
use Rattle.board_threads.specs.board_checks.specs.Refusals.{already_loaded, beyond_rights, is_absent, not_declared, not_owner, receivers_absent, refusal_in_space, refusal_of_load_kernel, refusal_of_load_mapping, refusal_of_load_space, refusal_of_load_thread, refusal_of_row, wrong_parent, wrong_receiver, wrong_space}
use Rattle.board_threads.specs.board_checks.proofs.IdentifierLemmas.{thread_is}
use Rattle.board_threads.specs.board_checks.proofs.LoadLemmas.{space_tested}
use Rattle.board_threads.proofs.IdentLemmas.{record_named}
use Rattle.answer_laws.specs.Given.{IsGiven}
use Rattle.answer_laws.proofs.Passing.{first, item_named, owned, owns_itself, passes, second, skip, space_given, space_record, stands_so}

-- ---- what is told

told_as : (o : Option Ident) (refused : Refused) → option_map why.AlreadyLoaded o ≡ Some refused → (ident : Ident) × (o ≡ Some ident) × (refused ≡ why.AlreadyLoaded ident)
told_as None refused is = absurd (cc)
told_as (Some ident) refused is = (ident, refl, sym (same_Some (why.AlreadyLoaded ident) refused is))

pub told : (c : Contents) (n : Name) (refused : Refused) → already_loaded c n ≡ Some refused → (ident : Ident) × (refused ≡ why.AlreadyLoaded ident) × IsResident (residents_of c) ident n
unfolding already_loaded
told c n refused is =
    let o = told_as (ident_of (residents_of c) n) refused is in
    (o.0, o.2, ident_back (residents_of c) n o.0 o.1)

pub absent : (c : Contents) (n : Name) → (IsNameResident (residents_of c) n → ⊥) → already_loaded c n ≡ None
unfolding already_loaded
absent c n never = ap (option_map why.AlreadyLoaded) (ident_none (residents_of c) n never)

is_space_itself : (space : SpaceNo) → wrong_parent (Some (name.Space space)) (Some (name.Space space)) ≡ None
is_space_itself space = ap (λ (b : Bool). if b then None else Some (why.WrongParent (Some (name.Space space)) (Some (name.Space space)))) (eq-eqb space.0 space.0 refl)

is_receiver_itself : (r : Option ThreadNo) → wrong_parent (option_map name.Thread r) (option_map name.Thread r) ≡ None
is_receiver_itself None = refl
is_receiver_itself (Some r) = ap (λ (b : Bool). if b then None else Some (why.WrongParent (Some (name.Thread r)) (Some (name.Thread r)))) (eq-eqb r.0 r.0 refl)

-- ---- rights and signal rows

pub fit_passes : (c : Contents) (row : Row) → is_fit_row (seen c) row ≡ true → beyond_rights c row ≡ None
unfolding beyond_rights
fit_passes c row fit = ap (λ (b : Bool). if b then None else Some (why.Rights row.frame (row.frame.0 / 128))) fit

pub unfit_told : (c : Contents) (row : Row) → is_fit_row (seen c) row ≡ false → beyond_rights c row ≡ Some (why.Rights row.frame (row.frame.0 / 128))
unfolding beyond_rights
unfit_told c row unfit = ap (λ (b : Bool). if b then None else Some (why.Rights row.frame (row.frame.0 / 128))) unfit

abbrev absent_among : Contents → List Row → Option Refused
absent_among c rows = option_map (λ (other : Row). why.ReceiversAbsent other.space other.vpn) (find (is_absent c) rows)

pub plain_passes : (c : Contents) (row : Row) → row.flags.m ≡ false → receivers_absent c row ≡ None
unfolding receivers_absent
plain_passes c row plain = ap (λ (b : Bool). absent_among c (if b then filter (λ (other : Row). is_signal_row_of row.frame other && is_fit_row (seen c) other) (seen c).rows else [])) plain

-- of some rows the one that is told is among them, and isn't loaded
absent_as : (c : Contents) → IsExactlyOne c → (rows : List Row) (refused : Refused) (o : Option Row) → find (is_absent c) rows ≡ o → option_map (λ (other : Row). why.ReceiversAbsent other.space other.vpn) o ≡ Some refused → (other : Row) × (refused ≡ why.ReceiversAbsent other.space other.vpn) × Contains rows other × (IsNameResident (residents_of c) (row_name other) → ⊥)
absent_as c one rows refused None is told = absurd (cc)
absent_as c one rows refused (Some other) is told = (
  other,
  sym (same_Some (why.ReceiversAbsent other.space other.vpn) refused told),
  find-contains (is_absent c) rows other is,
  λ r.
      let there : ident_of (residents_of c) (row_name other) ≡ Some r.0.ident = subst (λ (n : Name). ident_of (residents_of c) n ≡ Some r.0.ident) r.2 (ident_found (residents_of c) (one_each c one) r.0 r.1) in
      let clash : false ≡ true = sym (ap is_none there) ∙ find-passes (is_absent c) rows other is in
      cc,
)

pub absent_told : (c : Contents) → IsExactlyOne c → (row : Row) (refused : Refused) → receivers_absent c row ≡ Some refused → (other : Row) × (refused ≡ why.ReceiversAbsent other.space other.vpn) × Contains (signal_rows_of (seen c) row) other × (IsNameResident (residents_of c) (row_name other) → ⊥)
unfolding receivers_absent
absent_told c one row refused is = absent_as c one (signal_rows_of (seen c) row) refused (find (is_absent c) (signal_rows_of (seen c) row)) refl is

module _ (c : Contents) (one : IsExactlyOne c) where
  -- ---- kernels, spaces and threads

  pub kernel_answers : (caller : Ident) (given kernel : KernelNo) (k : FlatKernel) → IsResident (residents_of c) caller (name.Kernel given) → slice_get (seen c).kernels kernel.0 ≡ Some k → refusal_of_load_kernel c caller kernel ≡ option_or (not_owner given (record { 0 = 0 })) (already_loaded c (name.Kernel kernel))
  unfolding owner stands
  kernel_answers caller given kernel k r here =
      let of : owner (seen c) (name.Kernel kernel) ≡ Some (record { 0 = 0 }) = ap (λ (b : Bool). if b then Some (record { 0 = 0 }) else None) (lt-ltb kernel.0 (length (seen c).kernels) (slice_get_within (seen c).kernels kernel.0 k here)) in
      skip _ _ _ (passes c one kind.Kernel caller (name.Kernel given) refl r)
      (skip _ _ _ (stands_so c one (name.Kernel kernel) (ap is_some here))
      (first _ _ _ (owned c one caller given (record { 0 = 0 }) (name.Kernel kernel) r of)))

  pub kernel_right : (caller : Ident) (kernel : KernelNo) (k : FlatKernel) → IsResident (residents_of c) caller first_name → slice_get (seen c).kernels kernel.0 ≡ Some k → refusal_of_load_kernel c caller kernel ≡ already_loaded c (name.Kernel kernel)
  kernel_right caller kernel k r here = kernel_answers caller (record { 0 = 0 }) kernel k r here

  pub space_answers : (caller : Ident) (given kernel : KernelNo) (space : SpaceNo) → IsResident (residents_of c) caller (name.Kernel given) → slice_get (seen c).spaces space.0 ≡ Some kernel → refusal_of_load_space c caller space ≡ option_or (not_owner given kernel) (already_loaded c (name.Space space))
  unfolding owner stands
  space_answers caller given kernel space r its =
      skip _ _ _ (passes c one kind.Kernel caller (name.Kernel given) refl r)
      (skip _ _ _ (stands_so c one (name.Space space) (ap is_some its))
      (first _ _ _ (owned c one caller given kernel (name.Space space) r its)))

  pub space_right : (caller : Ident) (kernel : KernelNo) (space : SpaceNo) → IsResident (residents_of c) caller (name.Kernel kernel) → slice_get (seen c).spaces space.0 ≡ Some kernel → refusal_of_load_space c caller space ≡ already_loaded c (name.Space space)
  space_right caller kernel space r its = space_answers caller kernel kernel space r its ∙ skip _ _ _ (owns_itself kernel) refl

  pub thread_answers : (caller parent : Ident) (given kernel : KernelNo) (space : SpaceNo) (thread : ThreadNo) (t : FlatThread) → IsResident (residents_of c) caller (name.Kernel given) → IsResident (residents_of c) parent (name.Space space) → slice_get (seen c).threads thread.0 ≡ Some t → slice_get (seen c).spaces t.space.0 ≡ Some kernel → refusal_of_load_thread c caller parent thread ≡ option_or (not_owner given kernel) (option_or (wrong_parent (Some (name.Space space)) (Some (name.Space t.space))) (already_loaded c (name.Thread thread)))
  unfolding owner stands
  thread_answers caller parent given kernel space thread t r q here its =
      let k = space_record c one parent space q in
      let of : owner (seen c) (name.Thread thread) ≡ Some kernel = ap (owner_of_thread (seen c)) here ∙ its in
      let right : wrong_space c parent thread ≡ wrong_parent (Some (name.Space space)) (Some (name.Space t.space)) =
      sym (space_tested c one parent k.0 k.1 thread t.space (ap (option_map (λ (x : FlatThread). x.space)) here)) ∙ ap (λ (x : SpaceNo). wrong_parent (Some (name.Space x)) (Some (name.Space t.space))) k.2 in
      skip _ _ _ (passes c one kind.Kernel caller (name.Kernel given) refl r)
      (skip _ _ _ (passes c one kind.Space parent (name.Space space) refl q)
      (skip _ _ _ (stands_so c one (name.Thread thread) (ap is_some here))
      (first _ _ _ (owned c one caller given kernel (name.Thread thread) r of)
      ∙ second _ _ _ (first _ _ _ right))))

  pub thread_right : (caller parent : Ident) (kernel : KernelNo) (thread : ThreadNo) (t : FlatThread) → IsResident (residents_of c) caller (name.Kernel kernel) → IsResident (residents_of c) parent (name.Space t.space) → slice_get (seen c).threads thread.0 ≡ Some t → slice_get (seen c).spaces t.space.0 ≡ Some kernel → refusal_of_load_thread c caller parent thread ≡ already_loaded c (name.Thread thread)
  thread_right caller parent kernel thread t r q here its =
      thread_answers caller parent kernel kernel t.space thread t r q here its
      ∙ skip _ _ _ (owns_itself kernel) (skip _ _ _ (is_space_itself t.space) refl)

  -- ---- rows

  passes_receiver : (receiver : Option Ident) (named : Option ThreadNo) → IsGiven c receiver named → not_a_receiver c receiver ≡ None
  passes_receiver None None given = refl
  passes_receiver (Some ident) (Some r) given = passes c one kind.Thread ident (name.Thread r) refl given
  passes_receiver None (Some r) given = absurd given
  passes_receiver (Some ident) None given = absurd given

  named_receiver : (receiver : Option Ident) (named : Option ThreadNo) → IsGiven c receiver named → receiver_as c receiver ≡ option_map name.Thread named
  named_receiver None None given = refl
  named_receiver (Some ident) (Some r) given =
      let found = record_named c one ident r given in
      let named : name.Thread found.0.no ≡ name.Thread r = item_named c one ident (name.Thread r) given (item.Thread found.0) found.1 in
      ap (option_map (λ (t : FlatThread). name.Thread t.no)) (thread_is c ident found.0 found.1) ∙ ap (λ (n : Name). Some n) named
  named_receiver None (Some r) given = absurd given
  named_receiver (Some ident) None given = absurd given

  -- whatever the identifiers are, the space and the page are looked at
  in_space : (caller parent : Ident) (receiver : Option Ident) (given : KernelNo) (space : SpaceNo) (named : Option ThreadNo) (vpn : Vpn) → IsResident (residents_of c) caller (name.Kernel given) → IsResident (residents_of c) parent (name.Space space) → IsGiven c receiver named → refusal_of_load_mapping c caller parent vpn receiver ≡ refusal_in_space c caller receiver vpn space
  in_space caller parent receiver given space named vpn r q g =
      skip _ _ _ (passes c one kind.Kernel caller (name.Kernel given) refl r)
      (skip _ _ _ (passes c one kind.Space parent (name.Space space) refl q)
      (skip _ _ _ (passes_receiver receiver named g)
      (ap (option_and_then (refusal_in_space c caller receiver vpn)) (space_given c one parent space q))))

  pub row_answers : (caller parent : Ident) (receiver : Option Ident) (given kernel : KernelNo) (space : SpaceNo) (named : Option ThreadNo) (vpn : Vpn) (row : Row) → IsResident (residents_of c) caller (name.Kernel given) → IsResident (residents_of c) parent (name.Space space) → IsGiven c receiver named → slice_get (seen c).spaces space.0 ≡ Some kernel → row_of (seen c).rows space vpn.0 ≡ Some row
      → refusal_of_load_mapping c caller parent vpn receiver ≡ option_or (not_owner given kernel) (option_or (wrong_parent (option_map name.Thread named) (option_map name.Thread row.receiver)) (option_or (already_loaded c (name.Mapping space vpn)) (option_or (beyond_rights c row) (receivers_absent c row))))
  unfolding owner stands wrong_receiver
  row_answers caller parent receiver given kernel space named vpn row r q g its here =
      let at : row.space.0 ≡ space.0 = eqb-true row.space.0 space.0 (and_parts (row.space.0 == space.0) (row.vpn.0 == vpn.0) (find-passes (is_row_of space vpn.0) (seen c).rows row here)).0 in
      let of : owner (seen c) (name.Mapping space vpn) ≡ Some kernel = ap (owner_of_row (seen c)) here ∙ ap (slice_get (seen c).spaces) at ∙ its in
      let right : wrong_receiver c receiver row ≡ wrong_parent (option_map name.Thread named) (option_map name.Thread row.receiver) = ap (λ (x : Option Name). wrong_parent x (option_map name.Thread row.receiver)) (named_receiver receiver named g) in
      in_space caller parent receiver given space named vpn r q g
      ∙ skip _ _ _ (stands_so c one (name.Mapping space vpn) (ap is_some here))
      (ap (option_and_then (refusal_of_row c caller receiver (name.Mapping space vpn))) here
      ∙ first _ _ _ (owned c one caller given kernel (name.Mapping space vpn) r of)
      ∙ second _ _ _ (first _ _ _ right))

  pub row_right : (caller parent : Ident) (receiver : Option Ident) (kernel : KernelNo) (space : SpaceNo) (vpn : Vpn) (row : Row) → IsResident (residents_of c) caller (name.Kernel kernel) → IsResident (residents_of c) parent (name.Space space) → IsGiven c receiver row.receiver → slice_get (seen c).spaces space.0 ≡ Some kernel → row_of (seen c).rows space vpn.0 ≡ Some row
      → refusal_of_load_mapping c caller parent vpn receiver ≡ option_or (already_loaded c (name.Mapping space vpn)) (option_or (beyond_rights c row) (receivers_absent c row))
  row_right caller parent receiver kernel space vpn row r q g its here =
      row_answers caller parent receiver kernel kernel space row.receiver vpn row r q g its here
      ∙ skip _ _ _ (owns_itself kernel) (skip _ _ _ (is_receiver_itself row.receiver) refl)

  pub no_row_answers : (caller parent : Ident) (receiver : Option Ident) (given : KernelNo) (space : SpaceNo) (named : Option ThreadNo) (vpn : Vpn) → IsResident (residents_of c) caller (name.Kernel given) → IsResident (residents_of c) parent (name.Space space) → IsGiven c receiver named → row_of (seen c).rows space vpn.0 ≡ None → refusal_of_load_mapping c caller parent vpn receiver ≡ Some (why.NotDeclared (name.Mapping space vpn))
  unfolding stands not_declared
  no_row_answers caller parent receiver given space named vpn r q g none =
      in_space caller parent receiver given space named vpn r q g
      ∙ first _ _ _ (ap (λ (b : Bool). if b then None else Some (why.NotDeclared (name.Mapping space vpn))) (ap is_some none))
