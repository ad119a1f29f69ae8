-- A receiver that is told of a row is a thread of its space.
use Rattle.std.proofs.Common.{◌≡◌, Bool, true, false, List, Option, Some, None, slice_get, refl, sym, ap, ◌∙◌, subst}
use Rattle.std.specs.Prelude.{◌/◌, ◌==◌, if◌then◌else◌, find, IfSome}
use Rattle.std.specs.Option.{option_and_then, option_map, option_or}
use Rattle.std.proofs.lemmas.Bool.{and_parts, eqb-true}
use Rattle.std.proofs.lemmas.Option.{same_Some}
use Rattle.cache_ident.proofs.Numbers.{same_space}
use Rattle.cache_ident.specs.declared.idents.Ident.{Ident}
use Rattle.cache_ident.specs.declared.idents.Kind.TheVariants as kind
use Rattle.cache_ident.specs.declared.names.Name.{Name}
use Rattle.cache_ident.specs.declared.names.Name.TheVariants as name
use Rattle.cache_ident.specs.declared.names.SpaceNo.{SpaceNo}
use Rattle.cache_ident.specs.declared.names.ThreadNo.{ThreadNo}
use Rattle.cache_ident.specs.declared.names.Vpn.{Vpn}
use Rattle.phys_groups.specs.declared.rows.Row.{Row}
use Rattle.phys_groups.specs.Translation.{is_row_of, row_of}
use Rattle.legal_laws.specs.flat_state.specs.declared.records.FlatThread.{FlatThread}
use Rattle.legal_laws.specs.flat_state.specs.Declaration.{is_receiver_in, thread_is_in}
use Rattle.legal_laws.specs.flat_state.specs.Dependence.{signal_rows_of}
use Rattle.legal_laws.specs.flat_state.specs.Events.{flat}
use Rattle.legal_laws.specs.flat_state.specs.Translation.{is_fit_row}
use Rattle.legal_laws.specs.flat_state.specs.State.{FlatState}
use Rattle.legal_laws.specs.flat_state.proofs.Finding.{find-contains, find-passes}
use Rattle.legal_laws.specs.flat_state.proofs.FormedEvents.{flat_formed}
use Rattle.legal_laws.specs.run_journal.specs.Entries.{erase}
use Rattle.answer_laws.specs.desc_stores.specs.Contents.{residents_of, Contents}
use Rattle.answer_laws.specs.desc_parents.specs.Idents as idents
use Rattle.answer_laws.specs.desc_parents.specs.Seen.{seen}
use Rattle.answer_laws.specs.board_ops.specs.declared.refusals.Refused.{Refused}
use Rattle.answer_laws.specs.board_ops.specs.declared.refusals.Refused.TheVariants as why
use Rattle.answer_laws.specs.board_core.specs.Core.{contents_of, IsSound, Recorded}
use Rattle.answer_laws.specs.board_checks.specs.Identifiers.{receiver_as}
use Rattle.answer_laws.specs.board_checks.specs.Refusals.{already_loaded, beyond_rights, is_absent, receivers_absent, refusal_in_space, refusal_of_load_mapping, refusal_of_row, wrong_receiver}
use Rattle.owners.specs.Known.{ident_of, Known}
use Rattle.owners.specs.Owning.{AreOwnersOf, IsThreadOf}
use Rattle.owner_laws.specs.Passing.{thread_named}
use Rattle.owner_laws.proofs.Spaces.{same_rows, stands_for}
use Rattle.owner_laws.proofs.Tests.{first_passes, not_a_never, not_a_receiver_never, not_declared_never, not_owned_never, parent_is_later}

-- ---- where the receiver is told

pub map_never : {A : Type 0} (f : A → Refused) (o : Option A) (w : Refused) → ((a : A) → f a ≡ w → ⊥) → option_map f o ≡ Some w → ⊥
map_never f None w never told = absurd (cc)
map_never f (Some a) w never told = never a (same_Some (f a) w told)

module _ (c : Contents) (given declared : Option Name) where
  already_never : (n : Name) → already_loaded c n ≡ Some (why.WrongParent given declared) → ⊥
  unfolding already_loaded
  already_never n told = map_never why.AlreadyLoaded (idents.ident_of (residents_of c) n) (why.WrongParent given declared) (λ i is. absurd (cc)) told

  rights_never : (row : Row) → beyond_rights c row ≡ Some (why.WrongParent given declared) → ⊥
  unfolding beyond_rights
  rights_never row told = by (is_fit_row (seen c) row) told
    where
      by : (t : Bool) → (if t then None else Some (why.Rights row.frame (row.frame.0 / 128))) ≡ Some (why.WrongParent given declared) → ⊥
      by true is = absurd (cc)
      by false is = absurd (cc)

  absent_never : (row : Row) → receivers_absent c row ≡ Some (why.WrongParent given declared) → ⊥
  unfolding receivers_absent
  absent_never row told = map_never (λ (other : Row). why.ReceiversAbsent other.space other.vpn) (find (is_absent c) (signal_rows_of (seen c) row)) (why.WrongParent given declared) (λ other is. absurd (cc)) told

  -- what comes behind the receiver's test tells no parent
  rest_never : (n : Name) (row : Row) → option_or (already_loaded c n) (option_or (beyond_rights c row) (receivers_absent c row)) ≡ Some (why.WrongParent given declared) → ⊥
  rest_never n row told =
      let loaded = first_passes _ _ (why.WrongParent given declared) (already_never n) told in
      let fit = first_passes _ _ (why.WrongParent given declared) (rights_never row) loaded.1 in
      absent_never row fit.1

  -- the test of the receiver tells the row's
  tells : (receiver : Option Ident) (row : Row) → wrong_receiver c receiver row ≡ Some (why.WrongParent given declared) → declared ≡ option_map name.Thread row.receiver
  unfolding wrong_receiver
  tells receiver row told = by (receiver_as c receiver) (option_map name.Thread row.receiver) _ told
    where
      by : (a b : Option Name) (t : Bool) → (if t then None else Some (why.WrongParent a b)) ≡ Some (why.WrongParent given declared) → declared ≡ b
      by a b true is = absurd (cc)
      by a b false is = cc

  told_of : (receiver : Option Ident) (n : Name) (row : Row) (o : Option Refused) → wrong_receiver c receiver row ≡ o → option_or o (option_or (already_loaded c n) (option_or (beyond_rights c row) (receivers_absent c row))) ≡ Some (why.WrongParent given declared) → declared ≡ option_map name.Thread row.receiver
  told_of receiver n row None is told = absurd (rest_never n row told)
  told_of receiver n row (Some x) is told = tells receiver row (is ∙ told)

  -- a page that is refused so has a row, whose receiver is told
  row_told : (caller : Ident) (receiver : Option Ident) (space : SpaceNo) (vpn : Vpn) (o : Option Row) → option_and_then (refusal_of_row c caller receiver (name.Mapping space vpn)) o ≡ Some (why.WrongParent given declared) → (row : Row) × (o ≡ Some row) × (declared ≡ option_map name.Thread row.receiver)
  row_told caller receiver space vpn None told = absurd (cc)
  row_told caller receiver space vpn (Some row) told =
      let later = parent_is_later given declared in
      let mine = first_passes _ _ (why.WrongParent given declared) (not_owned_never c (why.WrongParent given declared) later caller (name.Mapping space vpn)) told in
      (row, refl, told_of receiver (name.Mapping space vpn) row (wrong_receiver c receiver row) refl mine.1)

-- ---- whose thread it is

-- a thread in a space, as the rules of a declaration test it
thread_in : (space : SpaceNo) (o : Option FlatThread) → thread_is_in space o ≡ true → option_map (λ (t : FlatThread). t.space) o ≡ Some space
thread_in space None is = absurd (cc)
thread_in space (Some t) is = ap (λ (s : SpaceNo). Some s) (same_space t.space space (eqb-true t.space.0 space.0 is))

receiver_in : (s : FlatState) (space : SpaceNo) (r : Option ThreadNo) → is_receiver_in space s.threads r ≡ true → IfSome (thread_named (option_map name.Thread r)) (IsThreadOf s space)
receiver_in s space None is = tt
receiver_in s space (Some thread) is = thread_in space (slice_get s.threads thread.0) is

pub is_receiver : (b : Recorded) (o : Known) (caller parent : Ident) (space : SpaceNo) (vpn : Vpn) (receiver : Option Ident) (given declared : Option Name) → IsSound b → AreOwnersOf b.journal.entries o → ident_of o (name.Space space) ≡ Some parent → refusal_of_load_mapping (contents_of b) caller parent vpn receiver ≡ Some (why.WrongParent given declared) → IfSome (thread_named declared) (IsThreadOf (flat (erase b.journal.entries)) space)
is_receiver b o caller parent space vpn receiver given declared sound are noted told =
    let c = contents_of b in
    let w = why.WrongParent given declared in
    let later = parent_is_later given declared in
    let kernel = first_passes _ _ w (not_a_never c w later kind.Kernel caller) told in
    let live = first_passes _ _ w (not_a_never c w later kind.Space parent) kernel.1 in
    let thread = first_passes _ _ w (not_a_receiver_never c w later receiver) live.1 in
    let its = stands_for b o parent space sound are noted live.0 in
    let in_space : refusal_in_space c caller receiver vpn space ≡ Some w = ap (option_and_then (refusal_in_space c caller receiver vpn)) (sym its) ∙ thread.1 in
    let there = first_passes _ _ w (not_declared_never c w later (name.Mapping space vpn)) in_space in
    let row = row_told c given declared caller receiver space vpn (row_of (seen c).rows space vpn.0) there.1 in
    let s : FlatState = flat (erase b.journal.entries) in
    let found : row_of s.rows space vpn.0 ≡ Some row.0 = ap (λ (rows : List Row). row_of rows space vpn.0) (same_rows b sound) ∙ row.1 in
    let is = (flat_formed (erase b.journal.entries)).rows.each row.0 (find-contains (is_row_of space vpn.0) s.rows row.0 found) in
    let at : row.0.space ≡ space = same_space row.0.space space (eqb-true row.0.space.0 space.0 (and_parts (row.0.space.0 == space.0) (row.0.vpn.0 == vpn.0) (find-passes (is_row_of space vpn.0) s.rows row.0 found)).0) in
    subst (λ (d : Option Name). IfSome (thread_named d) (IsThreadOf s space)) (sym row.2)
    (receiver_in s space row.0.receiver (subst (λ (x : SpaceNo). is_receiver_in x s.threads row.0.receiver ≡ true) at is.receiver))
