-- No test of a call says that memory is wanted; and whoever passes the first one is live.
use Rattle.std.proofs.Common.{◌≡◌, ◌≢◌, Bool, true, false, Option, Some, None, Result, Ok, Err, refl, sym, ◌∙◌, ap}
use Rattle.std.specs.Prelude.{◌/◌, ◌==◌, if◌then◌else◌, find, IfErr, slice_get}
use Rattle.std.specs.Option.{option_and_then, option_eq, option_map, option_or}
use Rattle.std.specs.Result.{result_err}
use Rattle.cache_ident.specs.declared.idents.Ident.{Ident}
use Rattle.cache_ident.specs.declared.idents.Kind.{Kind}
use Rattle.cache_ident.specs.declared.idents.Kind.TheVariants as kind
use Rattle.cache_ident.specs.declared.idents.Standing.{Standing}
use Rattle.cache_ident.specs.declared.idents.Standing.TheVariants.{Live, Left, Never}
use Rattle.cache_ident.specs.declared.names.KernelNo.{KernelNo}
use Rattle.cache_ident.specs.declared.names.Name.{Name}
use Rattle.cache_ident.specs.declared.names.Name.TheVariants as name
use Rattle.cache_ident.specs.declared.names.SpaceNo.{SpaceNo}
use Rattle.cache_ident.specs.declared.names.ThreadNo.{ThreadNo}
use Rattle.cache_ident.specs.declared.names.Vpn.{Vpn}
use Rattle.cache_ident.specs.Names.{first_name}
use Rattle.cache_ident.specs.Residents.{Resident}
use Rattle.cache_ident.specs.Rolls.{standing_in}
use Rattle.phys_groups.specs.declared.rows.Row.{Row}
use Rattle.phys_groups.specs.Translation.{row_of}
use Rattle.board_ops.specs.flat_state.specs.declared.records.FlatThread.{FlatThread}
use Rattle.board_ops.specs.flat_state.specs.Dependence.{owner, signal_rows_of}
use Rattle.board_ops.specs.flat_state.specs.Names.{stands}
use Rattle.board_ops.specs.flat_state.specs.Translation.{is_fit_row}
use Rattle.desc_tables.specs.run_journal.specs.Legal.{is_kind, limit_of, locked_by}
use Rattle.kind_store.specs.Changes.{is_name}
use Rattle.desc_tables.specs.desc_stores.specs.Contents.{resident_as, residents_of, Contents}
use Rattle.desc_tables.specs.desc_parents.specs.Idents.{ident_of}
use Rattle.desc_tables.specs.desc_parents.specs.Seen.{seen}
use Rattle.board_ops.specs.declared.refusals.Refused.{Refused}
use Rattle.board_ops.specs.declared.refusals.Refused.TheVariants as why
use Rattle.board_checks.specs.Identifiers.{gone_by, kernel_as, name_as, not_a, not_a_receiver, not_live, receiver_as, space_as, wrong_kind}
use Rattle.board_checks.specs.Refusals.{already_loaded, at_limit, beyond_rights, first_kernel, is_absent, is_first_kernel, limit_reached, limit_reached_by, not_declared, not_owned, not_owned_as, not_owner, receivers_absent, refusal_in_space, refusal_of_load_kernel, refusal_of_load_mapping, refusal_of_load_space, refusal_of_load_thread, refusal_of_lock, refusal_of_row, refusal_of_thread, refusal_of_unload, wrong_parent, wrong_receiver, wrong_space}
use Rattle.board_checks.proofs.FirstLemmas.{both_pass}

-- ---- no test wants memory

abbrev pub IsNoWant : Option Refused → Type 0
IsNoWant o = o ≡ Some why.NoMemory → ⊥

pub by_either : (a b : Option Refused) → IsNoWant a → IsNoWant b → IsNoWant (option_or a b)
by_either None b first second = second
by_either (Some x) b first second = first

pub by_each : {A : Type 0} (f : A → Option Refused) (o : Option A) → ((x : A) → IsNoWant (f x)) → IsNoWant (option_and_then f o)
by_each f None each = λ same. cc
by_each f (Some x) each = each x

pub by_map : {A : Type 0} (f : A → Refused) (o : Option A) → ((x : A) → f x ≢ why.NoMemory) → IsNoWant (option_map f o)
by_map f None each = λ same. cc
by_map f (Some x) each = λ same. each x (cc)

pub unless : (b : Bool) (e : Refused) → e ≢ why.NoMemory → IsNoWant (if b then None else Some e)
unless true e other = λ same. cc
unless false e other = λ same. other (cc)

pub where_so : (b : Bool) (e : Refused) → e ≢ why.NoMemory → IsNoWant (if b then Some e else None)
where_so true e other = λ same. other (cc)
where_so false e other = λ same. cc

by_standing : (ident : Ident) (standing : Standing) → IsNoWant (gone_by ident standing)
by_standing ident Live = λ same. cc
by_standing ident (Left at) = λ same. cc
by_standing ident Never = λ same. cc

module _ (c : Contents) where
  pub live_tells : (ident : Ident) → IsNoWant (not_live c ident)
  unfolding not_live
  live_tells ident = by_standing ident (standing_in c.issued ident)

  pub kind_tells : (of : Kind) (ident : Ident) → IsNoWant (wrong_kind of ident)
  unfolding wrong_kind
  kind_tells of ident = unless (is_kind ident.kind of) (why.WrongKind ident) (λ same. cc)

  pub ident_tells : (of : Kind) (ident : Ident) → IsNoWant (not_a of c ident)
  ident_tells of ident = by_either (not_live c ident) (wrong_kind of ident) (live_tells ident) (kind_tells of ident)

  receiver_ident_tells : (receiver : Option Ident) → IsNoWant (not_a_receiver c receiver)
  receiver_ident_tells None = λ same. cc
  receiver_ident_tells (Some ident) = ident_tells kind.Thread ident

  declared_tells : (n : Name) → IsNoWant (not_declared c n)
  unfolding not_declared
  declared_tells n = unless (stands (seen c) n) (why.NotDeclared n) (λ same. cc)

  pub owner_tells : (caller : Ident) (n : Name) → IsNoWant (not_owned c caller n)
  unfolding not_owned
  owner_tells caller n =
      by_each (λ (given : KernelNo). option_and_then (not_owner given) (owner (seen c) n)) (kernel_as c caller) (λ given.
      by_each (not_owner given) (owner (seen c) n) (λ own. unless (given.0 == own.0) (why.NotOwner given own) (λ same. cc)))

  pub owned_tells : (caller ident : Ident) → IsNoWant (not_owned_as c caller ident)
  owned_tells caller ident = by_each (not_owned c caller) (name_as c ident) (owner_tells caller)

  parent_tells : (given declared : Option Name) → IsNoWant (wrong_parent given declared)
  parent_tells given declared = unless (option_eq is_name given declared) (why.WrongParent given declared) (λ same. cc)

  space_tells : (parent : Ident) (thread : ThreadNo) → IsNoWant (wrong_space c parent thread)
  unfolding wrong_space
  space_tells parent thread = parent_tells (option_map name.Space (space_as c parent)) (option_map (λ (t : FlatThread). name.Space t.space) (slice_get (seen c).threads thread.0))

  receiver_tells : (receiver : Option Ident) (row : Row) → IsNoWant (wrong_receiver c receiver row)
  unfolding wrong_receiver
  receiver_tells receiver row = parent_tells (receiver_as c receiver) (option_map name.Thread row.receiver)

  loaded_tells : (n : Name) → IsNoWant (already_loaded c n)
  unfolding already_loaded
  loaded_tells n = by_map why.AlreadyLoaded (ident_of (residents_of c) n) (λ ident same. cc)

  rights_tell : (row : Row) → IsNoWant (beyond_rights c row)
  unfolding beyond_rights
  rights_tell row = unless (is_fit_row (seen c) row) (why.Rights row.frame (row.frame.0 / 128)) (λ same. cc)

  absent_tells : (row : Row) → IsNoWant (receivers_absent c row)
  unfolding receivers_absent
  absent_tells row = by_map (λ (other : Row). why.ReceiversAbsent other.space other.vpn) (find (is_absent c) (signal_rows_of (seen c) row)) (λ other same. cc)

  limit_tells : (of : Kind) (kernel : KernelNo) → IsNoWant (at_limit c of kernel)
  unfolding at_limit
  limit_tells of kernel = where_so (locked_by (seen c) (residents_of c) kernel of == limit_of (seen c) kernel of) (why.LimitReached kernel of (limit_of (seen c) kernel of)) (λ same. cc)

  lock_tells : (ident : Ident) → IsNoWant (limit_reached c ident)
  unfolding limit_reached
  lock_tells ident = by_each (limit_reached_by c ident) (resident_as c ident) (λ r. by r r.locked)
    where
      by : (r : Resident) (b : Bool) → IsNoWant (if b then None else option_and_then (at_limit c ident.kind) (owner (seen c) r.name))
      by r true = λ same. cc
      by r false = by_each (at_limit c ident.kind) (owner (seen c) r.name) (limit_tells ident.kind)

  first_tells : (ident : Ident) → IsNoWant (first_kernel c ident)
  unfolding first_kernel
  first_tells ident = by_each is_first_kernel (name_as c ident) (λ n. where_so (is_name n first_name) why.FirstKernel (λ same. cc))

  -- ---- the calls

  module _ (caller : Ident) where
    pub load_kernel_tells : (kernel : KernelNo) → IsNoWant (refusal_of_load_kernel c caller kernel)
    load_kernel_tells kernel =
        by_either _ _ (ident_tells kind.Kernel caller)
        (by_either _ _ (declared_tells (name.Kernel kernel))
        (by_either _ _ (owner_tells caller (name.Kernel kernel)) (loaded_tells (name.Kernel kernel))))

    pub load_space_tells : (space : SpaceNo) → IsNoWant (refusal_of_load_space c caller space)
    load_space_tells space =
        by_either _ _ (ident_tells kind.Kernel caller)
        (by_either _ _ (declared_tells (name.Space space))
        (by_either _ _ (owner_tells caller (name.Space space)) (loaded_tells (name.Space space))))

    pub load_thread_tells : (parent : Ident) (thread : ThreadNo) → IsNoWant (refusal_of_load_thread c caller parent thread)
    load_thread_tells parent thread =
        by_either _ _ (ident_tells kind.Kernel caller)
        (by_either _ _ (ident_tells kind.Space parent)
        (by_either _ _ (declared_tells (name.Thread thread))
        (by_either _ _ (owner_tells caller (name.Thread thread))
        (by_either _ _ (space_tells parent thread) (loaded_tells (name.Thread thread))))))

    row_tells : (receiver : Option Ident) (n : Name) (row : Row) → IsNoWant (refusal_of_row c caller receiver n row)
    row_tells receiver n row =
        by_either _ _ (owner_tells caller n)
        (by_either _ _ (receiver_tells receiver row)
        (by_either _ _ (loaded_tells n)
        (by_either _ _ (rights_tell row) (absent_tells row))))

    in_space_tells : (receiver : Option Ident) (vpn : Vpn) (space : SpaceNo) → IsNoWant (refusal_in_space c caller receiver vpn space)
    in_space_tells receiver vpn space =
        by_either _ _ (declared_tells (name.Mapping space vpn))
        (by_each (refusal_of_row c caller receiver (name.Mapping space vpn)) (row_of (seen c).rows space vpn.0) (row_tells receiver (name.Mapping space vpn)))

    pub load_mapping_tells : (parent : Ident) (vpn : Vpn) (receiver : Option Ident) → IsNoWant (refusal_of_load_mapping c caller parent vpn receiver)
    load_mapping_tells parent vpn receiver =
        by_either _ _ (ident_tells kind.Kernel caller)
        (by_either _ _ (ident_tells kind.Space parent)
        (by_either _ _ (receiver_ident_tells receiver)
        (by_each (refusal_in_space c caller receiver vpn) (space_as c parent) (in_space_tells receiver vpn))))

    pub thread_tells : (thread : Ident) → IsNoWant (refusal_of_thread c caller thread)
    thread_tells thread =
        by_either _ _ (ident_tells kind.Kernel caller)
        (by_either _ _ (ident_tells kind.Thread thread) (owned_tells caller thread))

    pub unload_tells : (ident : Ident) → IsNoWant (refusal_of_unload c caller ident)
    unload_tells ident =
        by_either _ _ (ident_tells kind.Kernel caller)
        (by_either _ _ (live_tells ident)
        (by_either _ _ (owned_tells caller ident) (first_tells ident)))

    pub lock_call_tells : (ident : Ident) → IsNoWant (refusal_of_lock c caller ident)
    lock_call_tells ident =
        by_either _ _ (ident_tells kind.Kernel caller)
        (by_either _ _ (live_tells ident)
        (by_either _ _ (owned_tells caller ident) (lock_tells ident)))

module _ {T : Type 0} where
  -- what a test told isn't want of memory
  pub told_why : (r : Result T Refused) (o : Option Refused) → result_err r ≡ o → IsNoWant o → IfErr r (λ w. w ≢ why.NoMemory)
  told_why (Ok x) o is none = tt
  told_why (Err w) o is none = λ same. none (sym is ∙ ap (λ (x : Refused). Some x) same)

  -- nor is it where it is passed on
  pub passed_why : (r : Result T Refused) (x : Refused) → (y : Refused) × (r ≡ Err y) × (y ≡ x) → (o : Option Refused) → Some x ≡ o → IsNoWant o → IfErr r (λ w. w ≢ why.NoMemory)
  passed_why (Ok v) x p o is none = tt
  passed_why (Err w) x p o is none = λ same. none (sym is ∙ ap (λ (y : Refused). Some y) (let one : w ≡ p.0 = cc in sym p.2 ∙ sym one ∙ same))

-- ---- who passes is live

stands_live : (ident : Ident) (standing : Standing) → None ≡ gone_by ident standing → standing ≡ Live
stands_live ident Live passes = refl
stands_live ident (Left at) passes = absurd (cc)
stands_live ident Never passes = absurd (cc)

pub is_live : (c : Contents) (ident : Ident) → None ≡ not_live c ident → standing_in c.issued ident ≡ Live
unfolding not_live
is_live c ident passes = stands_live ident (standing_in c.issued ident) passes

pub kernel_live : (c : Contents) (caller : Ident) (rest : Option Refused) → None ≡ option_or (not_a kind.Kernel c caller) rest → standing_in c.issued caller ≡ Live
kernel_live c caller rest passes =
    let kernel = (both_pass (not_a kind.Kernel c caller) rest passes).0 in
    is_live c caller (both_pass (not_live c caller) (wrong_kind kind.Kernel caller) kernel).0
