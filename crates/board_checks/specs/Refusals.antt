-- Why a call is refused, as far as the tables alone tell: of its tests, in their order, the first that fails.
use Rattle.std.specs.Prelude.{◌/◌, Bool, ◌==◌, if◌then◌else◌, is_none, find, Option, Some, None, slice_get}
use Rattle.std.specs.Option.{option_and_then, option_eq, option_map, option_or}
use Rattle.cache_ident.specs.declared.idents.Ident.{Ident}
use Rattle.cache_ident.specs.declared.idents.Kind.{Kind}
use Rattle.cache_ident.specs.declared.idents.Kind.TheVariants as kind
use Rattle.cache_ident.specs.declared.names.KernelNo.{KernelNo}
use Rattle.cache_ident.specs.declared.names.SpaceNo.{SpaceNo}
use Rattle.cache_ident.specs.declared.names.ThreadNo.{ThreadNo}
use Rattle.cache_ident.specs.declared.names.Vpn.{Vpn}
use Rattle.cache_ident.specs.declared.names.Name.{Name}
use Rattle.cache_ident.specs.declared.names.Name.TheVariants as name
use Rattle.cache_ident.specs.Names.{first_name}
use Rattle.cache_ident.specs.Residents.{Resident}
use Rattle.phys_groups.specs.declared.rows.Row.{Row}
use Rattle.phys_groups.specs.Rows.{row_name}
use Rattle.phys_groups.specs.Translation.{row_of}
use Rattle.board_ops.specs.flat_state.specs.declared.records.FlatThread.{FlatThread}
use Rattle.board_ops.specs.flat_state.specs.Call.{has_nothing_to_take}
use Rattle.board_ops.specs.flat_state.specs.Dependence.{owner, signal_rows_of}
use Rattle.board_ops.specs.flat_state.specs.Names.{stands}
use Rattle.board_ops.specs.flat_state.specs.State.{is_trapped}
use Rattle.board_ops.specs.flat_state.specs.Translation.{is_fit_row}
use Rattle.desc_tables.specs.run_journal.specs.Legal.{limit_of, locked_by}
use Rattle.kind_store.specs.Changes.{is_name}
use Rattle.desc_tables.specs.desc_stores.specs.Contents.{resident_as, residents_of, Contents}
use Rattle.desc_tables.specs.desc_parents.specs.Idents.{ident_of}
use Rattle.desc_tables.specs.desc_parents.specs.Seen.{seen}
use Rattle.board_ops.specs.declared.refusals.Refused.{Refused}
use Rattle.board_ops.specs.declared.refusals.Refused.TheVariants as why
use Rattle.board_checks.specs.Identifiers.{kernel_as, name_as, not_a, not_a_receiver, not_live, receiver_as, space_as, thread_as}

-- ---- the tests

-- there is nothing of that name
unfoldable pub not_declared : Contents → Name → Option Refused
not_declared c name = if stands (seen c) name then None else Some (why.NotDeclared name)

-- the one kernel isn't the other
abbrev pub not_owner : KernelNo → KernelNo → Option Refused
not_owner given owner = if given.0 == owner.0 then None else Some (why.NotOwner given owner)

-- the caller's kernel isn't the owner of what has the name
unfoldable pub not_owned : Contents → Ident → Name → Option Refused
not_owned c caller name = option_and_then (λ given. option_and_then (not_owner given) (owner (seen c) name)) (kernel_as c caller)

-- nor of what is loaded with the identifier
abbrev pub not_owned_as : Contents → Ident → Ident → Option Refused
not_owned_as c caller ident = option_and_then (not_owned c caller) (name_as c ident)

-- what was given is not what is declared
abbrev pub wrong_parent : Option Name → Option Name → Option Refused
wrong_parent given declared = if option_eq is_name given declared then None else Some (why.WrongParent given declared)

-- the thread is of another space than the parent
unfoldable pub wrong_space : Contents → Ident → ThreadNo → Option Refused
wrong_space c parent thread = wrong_parent (option_map name.Space (space_as c parent)) (option_map (λ t. name.Space t.space) (slice_get (seen c).threads thread.0))

-- the row has another receiver, or one where none is given, or none
unfoldable pub wrong_receiver : Contents → Option Ident → Row → Option Refused
wrong_receiver c receiver row = wrong_parent (receiver_as c receiver) (option_map name.Thread row.receiver)

-- the name is loaded
unfoldable pub already_loaded : Contents → Name → Option Refused
already_loaded c name = option_map why.AlreadyLoaded (ident_of (residents_of c) name)

-- the row isn't fit
unfoldable pub beyond_rights : Contents → Row → Option Refused
beyond_rights c row = if is_fit_row (seen c) row then None else Some (why.Rights row.frame (row.frame.0 / 128))

-- of the fit signal rows that a message row depends on, in declared order, that is the first that isn't loaded
abbrev pub is_absent : Contents → Row → Bool
is_absent c row = is_none (ident_of (residents_of c) (row_name row))

unfoldable pub receivers_absent : Contents → Row → Option Refused
receivers_absent c row = option_map (λ other. why.ReceiversAbsent other.space other.vpn) (find (is_absent c) (signal_rows_of (seen c) row))

-- the kernel has as many locked of the kind as it may have
unfoldable pub at_limit : Contents → Kind → KernelNo → Option Refused
at_limit c kind kernel =
    if locked_by (seen c) (residents_of c) kernel kind == limit_of (seen c) kernel kind then Some (why.LimitReached kernel kind (limit_of (seen c) kernel kind)) else None

-- what is loaded with the identifier isn't locked, and its owner has as many locked of the kind as it may have
abbrev pub limit_reached_by : Contents → Ident → Resident → Option Refused
limit_reached_by c ident r = if r.locked then None else option_and_then (at_limit c ident.kind) (owner (seen c) r.name)

unfoldable pub limit_reached : Contents → Ident → Option Refused
limit_reached c ident = option_and_then (limit_reached_by c ident) (resident_as c ident)

-- it is the first kernel
abbrev pub is_first_kernel : Name → Option Refused
is_first_kernel name = if is_name name first_name then Some why.FirstKernel else None

unfoldable pub first_kernel : Contents → Ident → Option Refused
first_kernel c ident = option_and_then is_first_kernel (name_as c ident)

-- the thread is in no call, or in one that waits for a signal that hasn't come
abbrev pub not_trapped : FlatThread → Option Refused
not_trapped t = if is_trapped t.status then None else Some (why.NotTrapped t.status)

abbrev pub wait_empty : FlatThread → Option Refused
wait_empty t = if has_nothing_to_take t then Some (why.WaitEmpty t.no) else None

unfoldable pub not_completable : Contents → Ident → Option Refused
not_completable c thread = option_and_then (λ t. option_or (not_trapped t) (wait_empty t)) (thread_as c thread)

-- ---- the calls

abbrev pub refusal_of_load_kernel : Contents → Ident → KernelNo → Option Refused
refusal_of_load_kernel c caller kernel =
    option_or (not_a kind.Kernel c caller)
    (option_or (not_declared c (name.Kernel kernel))
    (option_or (not_owned c caller (name.Kernel kernel))
    (already_loaded c (name.Kernel kernel))))

abbrev pub refusal_of_load_space : Contents → Ident → SpaceNo → Option Refused
refusal_of_load_space c caller space =
    option_or (not_a kind.Kernel c caller)
    (option_or (not_declared c (name.Space space))
    (option_or (not_owned c caller (name.Space space))
    (already_loaded c (name.Space space))))

abbrev pub refusal_of_load_thread : Contents → Ident → Ident → ThreadNo → Option Refused
refusal_of_load_thread c caller parent thread =
    option_or (not_a kind.Kernel c caller)
    (option_or (not_a kind.Space c parent)
    (option_or (not_declared c (name.Thread thread))
    (option_or (not_owned c caller (name.Thread thread))
    (option_or (wrong_space c parent thread)
    (already_loaded c (name.Thread thread))))))

-- of the row of that name
abbrev pub refusal_of_row : Contents → Ident → Option Ident → Name → Row → Option Refused
refusal_of_row c caller receiver name row =
    option_or (not_owned c caller name)
    (option_or (wrong_receiver c receiver row)
    (option_or (already_loaded c name)
    (option_or (beyond_rights c row)
    (receivers_absent c row))))

-- of the row of a page in a space
abbrev pub refusal_in_space : Contents → Ident → Option Ident → Vpn → SpaceNo → Option Refused
refusal_in_space c caller receiver vpn space =
    option_or (not_declared c (name.Mapping space vpn))
    (option_and_then (refusal_of_row c caller receiver (name.Mapping space vpn)) (row_of (seen c).rows space vpn.0))

abbrev pub refusal_of_load_mapping : Contents → Ident → Ident → Vpn → Option Ident → Option Refused
refusal_of_load_mapping c caller parent vpn receiver =
    option_or (not_a kind.Kernel c caller)
    (option_or (not_a kind.Space c parent)
    (option_or (not_a_receiver c receiver)
    (option_and_then (refusal_in_space c caller receiver vpn) (space_as c parent))))

abbrev pub refusal_of_unload : Contents → Ident → Ident → Option Refused
refusal_of_unload c caller ident =
    option_or (not_a kind.Kernel c caller)
    (option_or (not_live c ident)
    (option_or (not_owned_as c caller ident)
    (first_kernel c ident)))

-- the first kernel stays locked as it stays loaded
abbrev pub refusal_of_unlock : Contents → Ident → Ident → Option Refused
refusal_of_unlock c caller ident = refusal_of_unload c caller ident

abbrev pub refusal_of_lock : Contents → Ident → Ident → Option Refused
refusal_of_lock c caller ident =
    option_or (not_a kind.Kernel c caller)
    (option_or (not_live c ident)
    (option_or (not_owned_as c caller ident)
    (limit_reached c ident)))

-- of a call for a thread, before the thread itself is looked at
abbrev pub refusal_of_thread : Contents → Ident → Ident → Option Refused
refusal_of_thread c caller thread =
    option_or (not_a kind.Kernel c caller)
    (option_or (not_a kind.Thread c thread)
    (not_owned_as c caller thread))

abbrev pub refusal_of_complete : Contents → Ident → Ident → Option Refused
refusal_of_complete c caller thread =
    option_or (not_a kind.Kernel c caller)
    (option_or (not_a kind.Thread c thread)
    (option_or (not_owned_as c caller thread)
    (not_completable c thread)))
