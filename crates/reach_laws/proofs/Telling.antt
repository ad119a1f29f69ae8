-- What calls tell that were made by what is noted, whether it is live or not.
use Rattle.std.proofs.Common.{◌≡◌, ℕ, Bool, true, false, Option, Some, None, slice_get, refl, sym, ap, ◌∙◌, subst, inl, inr, ◌⊎◌}
use Rattle.std.specs.Prelude.{◌==◌, ◌/◌, if◌then◌else◌, find, is_some, nat_lt, ◌-◌}
use Rattle.std.specs.Option.{option_and_then, option_map, option_or}
use Rattle.std.proofs.lemmas.Option.{same_Some}
use Rattle.cache_ident.specs.declared.idents.Ident.{Ident}
use Rattle.cache_ident.specs.declared.idents.Kind.{Kind}
use Rattle.cache_ident.specs.declared.idents.Kind.TheVariants as kind
use Rattle.cache_ident.specs.declared.idents.Standing.{Standing}
use Rattle.cache_ident.specs.declared.idents.Standing.TheVariants.{Left, Live, Never}
use Rattle.cache_ident.specs.declared.names.Frame.{Frame}
use Rattle.cache_ident.specs.declared.names.KernelNo.{KernelNo}
use Rattle.cache_ident.specs.declared.names.Name.{Name}
use Rattle.cache_ident.specs.declared.names.Name.TheVariants as name
use Rattle.cache_ident.specs.declared.names.SpaceNo.{SpaceNo}
use Rattle.cache_ident.specs.declared.names.ThreadNo.{ThreadNo}
use Rattle.cache_ident.specs.declared.names.Vpn.{Vpn}
use Rattle.cache_ident.specs.Residents.{IsResident}
use Rattle.cache_ident.specs.Rolls.{standing_in}
use Rattle.phys_groups.specs.declared.rows.Row.{Row}
use Rattle.phys_groups.specs.Translation.{row_of}
use Rattle.board_calls.specs.flat_state.specs.declared.records.FlatThread.{FlatThread}
use Rattle.board_calls.specs.flat_state.specs.declared.records.NextStep.{NextStep}
use Rattle.board_calls.specs.flat_state.specs.Dependence.{owner, signal_rows_of}
use Rattle.board_calls.specs.flat_state.specs.Names.{is_fit_found, is_fit_name, stands}
use Rattle.board_calls.specs.flat_state.specs.NextSteps.{faults, next_step_if, next_step_of}
use Rattle.board_calls.specs.flat_state.specs.State.{is_ready}
use Rattle.board_calls.specs.flat_state.specs.Translation.{is_fit_row}
use Rattle.board_calls.specs.run_journal.specs.Legal.{is_kind}
use Rattle.board_calls.specs.desc_stores.specs.declared.items.Item.{Item}
use Rattle.board_calls.specs.desc_stores.specs.declared.items.Item.TheVariants as item
use Rattle.board_calls.specs.desc_stores.specs.Contents.{item_as, residents_of, Contents}
use Rattle.board_calls.specs.desc_parents.specs.Idents.{ident_of as ident_among}
use Rattle.board_calls.specs.desc_parents.specs.Seen.{seen}
use Rattle.board_calls.specs.shown_state.specs.Shown.{shown}
use Rattle.board_calls.specs.store_residents.proofs.ResidentLemmas.{live_iff}
use Rattle.board_calls.specs.board_ops.specs.declared.refusals.Refused.{Refused}
use Rattle.board_calls.specs.board_ops.specs.declared.refusals.Refused.TheVariants as why
use Rattle.board_calls.specs.cached_machine.specs.Cached.{is_loaded, state_of}
use Rattle.board_calls.specs.cached_machine.specs.Posts.{mark_of}
use Rattle.board_calls.specs.board_core.specs.Core.{contents_of, Recorded}
use Rattle.board_calls.specs.board_core.specs.Refusals.{not_ready, not_waiting, over}
use Rattle.board_calls.specs.board_checks.specs.Identifiers.{gone_by, kernel_as, name_as, not_a, not_a_receiver, not_live, receiver_as, space_as, space_number, thread_as, wrong_kind}
use Rattle.board_calls.specs.board_checks.specs.Refusals.{already_loaded, beyond_rights, is_absent, not_declared, not_owned, not_owned_as, not_owner, receivers_absent, refusal_in_space, refusal_of_load_mapping, refusal_of_row, refusal_of_thread, wrong_receiver}
use Rattle.board_calls.specs.board_checks.proofs.IdentifierLemmas.{item_resident, thread_is}
use Rattle.board_calls.specs.board_loads.specs.Loads.{IsLoadedAs}
use Rattle.owner_laws.specs.board_threads.specs.Refusals.{mapped_by, not_faulting, refusal_of_ending, refusal_of_fault, refusal_of_next, row_absent}
use Rattle.owner_laws.specs.answer_laws.proofs.CallAnswers.{found}
use Rattle.owner_laws.specs.answer_laws.proofs.LoadAnswers.{plain_passes, told}
use Rattle.owner_laws.specs.owners.specs.Known.{ident_of, Known}
use Rattle.owner_laws.proofs.Naming.{names_it}
use Rattle.owner_laws.proofs.Receivers.{map_never}
use Rattle.owner_laws.proofs.Spaces.{live_of, stands_for}
use Rattle.owner_laws.proofs.Tests.{and_then_never, both_pass, first_passes, if_never, or_never}
use Rattle.reach_laws.specs.Reaching.{IsOwned}

-- ---- tests that don't give a reason

or_cases : (a b : Option Refused) (w : Refused) → option_or a b ≡ Some w → (a ≡ Some w) ⊎ ((a ≡ None) × (b ≡ Some w))
or_cases None b w told = inr (refl, told)
or_cases (Some x) b w told = inl told

-- the reason isn't that an identifier isn't one of something loaded of its kind
record IsNoIdent (w : Refused) : Type 0 where
  unknown : (i : Ident) → why.Unknown i ≡ w → ⊥
  stale : (i : Ident) (at : ℕ) → why.Stale i at ≡ w → ⊥
  of_kind : (i : Ident) → why.WrongKind i ≡ w → ⊥

-- .. nor that the caller isn't the owner, or another receiver was given
record IsOfRow (w : Refused) : Type 0 where
  idents : IsNoIdent w
  owner : (x y : KernelNo) → why.NotOwner x y ≡ w → ⊥
  receiver : (x y : Option Name) → why.WrongParent x y ≡ w → ⊥

module _ (c : Contents) (w : Refused) where
  gone_never : IsNoIdent w → (i : Ident) (s : Standing) → gone_by i s ≡ Some w → ⊥
  gone_never none i Live tells = absurd (cc)
  gone_never none i (Left at) tells = none.stale i at (same_Some (why.Stale i at) w tells)
  gone_never none i Never tells = none.unknown i (same_Some (why.Unknown i) w tells)

  never_a : IsNoIdent w → (k : Kind) (i : Ident) → not_a k c i ≡ Some w → ⊥
  unfolding not_live wrong_kind
  never_a none k i tells = or_never (not_live c i) (wrong_kind k i) w (gone_never none i (standing_in c.issued i)) (if_never (is_kind i.kind k) (why.WrongKind i) w (none.of_kind i)) tells

  never_receiver : IsNoIdent w → (r : Option Ident) → not_a_receiver c r ≡ Some w → ⊥
  never_receiver none None tells = absurd (cc)
  never_receiver none (Some i) tells = never_a none kind.Thread i tells

  owner_never : ((x y : KernelNo) → why.NotOwner x y ≡ w → ⊥) → (caller : Ident) (n : Name) → not_owned c caller n ≡ Some w → ⊥
  unfolding not_owned
  owner_never apart caller n tells =
      and_then_never (λ (given : KernelNo). option_and_then (not_owner given) (owner (seen c) n)) (kernel_as c caller) w
      (λ given one. and_then_never (not_owner given) (owner (seen c) n) w (λ its two. if_never (given.0 == its.0) (why.NotOwner given its) w (apart given its) two) one) tells

  declared_never : ((n : Name) → why.NotDeclared n ≡ w → ⊥) → (n : Name) → not_declared c n ≡ Some w → ⊥
  unfolding not_declared
  declared_never apart n tells = if_never (stands (seen c) n) (why.NotDeclared n) w (apart n) tells

  receiver_never : ((x y : Option Name) → why.WrongParent x y ≡ w → ⊥) → (r : Option Ident) (row : Row) → wrong_receiver c r row ≡ Some w → ⊥
  unfolding wrong_receiver
  receiver_never apart r row tells = if_never _ (why.WrongParent (receiver_as c r) (option_map name.Thread row.receiver)) w (apart (receiver_as c r) (option_map name.Thread row.receiver)) tells

  loaded_never : ((i : Ident) → why.AlreadyLoaded i ≡ w → ⊥) → (n : Name) → already_loaded c n ≡ Some w → ⊥
  unfolding already_loaded
  loaded_never apart n tells = map_never why.AlreadyLoaded (ident_among (residents_of c) n) w apart tells

  rights_never : ((row : Row) → why.Rights row.frame (row.frame.0 / 128) ≡ w → ⊥) → (row : Row) → beyond_rights c row ≡ Some w → ⊥
  unfolding beyond_rights
  rights_never apart row tells = if_never (is_fit_row (seen c) row) (why.Rights row.frame (row.frame.0 / 128)) w (apart row) tells

  absent_never : ((row : Row) → why.ReceiversAbsent row.space row.vpn ≡ w → ⊥) → (row : Row) → receivers_absent c row ≡ Some w → ⊥
  unfolding receivers_absent
  absent_never apart row tells = map_never (λ (other : Row). why.ReceiversAbsent other.space other.vpn) (find (is_absent c) (signal_rows_of (seen c) row)) w apart tells

-- ---- what is noted

module _ (b : Recorded) (o : Known) (owned : IsOwned b o) where
  -- an identifier that passes is that of the name that it is noted for
  pub noted_live : (k : Kind) (n : Name) (ident : Ident) → ident_of o n ≡ Some ident → not_a k (contents_of b) ident ≡ None → IsResident (residents_of (contents_of b)) ident n
  unfolding not_live
  noted_live k n ident noted passes =
      let live = live_of ident (standing_in (contents_of b).issued ident) (both_pass (not_live (contents_of b) ident) (wrong_kind k ident) passes).0 in
      let is = (live_iff (contents_of b) owned.sound.tables.1.whole.one.sound ident).0 live in
      (is.0, is.1, is.2, names_it b owned.sound o ident n is.0.name owned.are noted (is.0, is.1, is.2, refl))

  -- what is noted for a space stands for no other
  pub space_noted : (space : SpaceNo) (parent : Ident) → ident_of o (name.Space space) ≡ Some parent → (other : SpaceNo) → space_as (contents_of b) parent ≡ Some other → other ≡ space
  unfolding space_as
  space_noted space parent noted other stands = by (item_as (contents_of b) parent) refl stands
    where
      by : (it : Option Item) → item_as (contents_of b) parent ≡ it → space_number it ≡ Some other → other ≡ space
      by None is stands = absurd (cc)
      by (Some (item.Kernel k)) is stands = absurd (cc)
      by (Some (item.Thread t)) is stands = absurd (cc)
      by (Some (item.Mapping row)) is stands = absurd (cc)
      by (Some (item.Space rec)) is stands =
          let q = item_resident (contents_of b) parent owned.sound.tables.1.whole.one (item.Space rec) is in
          let named : q.0.name ≡ name.Space space = names_it b owned.sound o parent (name.Space space) q.0.name owned.are noted (q.0, q.1, q.2, refl) in
          let same : name.Space rec.no ≡ name.Space space = sym q.3 ∙ named in
          let its : rec.no ≡ other = same_Some rec.no other stands in
          cc

  -- ---- rows

  -- a row that was loaded is one that is fit
  pub loaded_fit : (cpu : ℕ) (space : SpaceNo) (vpn : Vpn) (ident : Ident) (c : Recorded) → IsLoadedAs cpu (name.Mapping space vpn) ident b c → (row : Row) × (row_of (state_of b.machine).rows space vpn.0 ≡ Some row) × (is_fit_row (state_of b.machine) row ≡ true)
  unfolding shown is_fit_name
  loaded_fit cpu space vpn ident c load = by (row_of (state_of b.machine).rows space vpn.0) refl load.may.fit
    where
      by : (x : Option Row) → row_of (state_of b.machine).rows space vpn.0 ≡ x → is_fit_found (state_of b.machine) x ≡ true → (row : Row) × (row_of (state_of b.machine).rows space vpn.0 ≡ Some row) × (is_fit_row (state_of b.machine) row ≡ true)
      by None is fit = absurd (cc)
      by (Some row) is fit = (row, is, fit)

  module _ (caller parent : Ident) (space : SpaceNo) (noted : ident_of o (name.Space space) ≡ Some parent) (vpn : Vpn) (receiver : Option Ident) where
    abbrev c : Contents
    c = contents_of b

    -- the tests of identifiers are passed
    in_space : (w : Refused) → IsNoIdent w → refusal_of_load_mapping c caller parent vpn receiver ≡ Some w → refusal_in_space c caller receiver vpn space ≡ Some w
    in_space w none tells =
        let inside : Option Refused = option_and_then (refusal_in_space c caller receiver vpn) (space_as c parent) in
        let kernel = first_passes (not_a kind.Kernel c caller) (option_or (not_a kind.Space c parent) (option_or (not_a_receiver c receiver) inside)) w (never_a c w none kind.Kernel caller) tells in
        let live = first_passes (not_a kind.Space c parent) (option_or (not_a_receiver c receiver) inside) w (never_a c w none kind.Space parent) kernel.1 in
        let thread = first_passes (not_a_receiver c receiver) inside w (never_receiver c w none receiver) live.1 in
        let its : space_as c parent ≡ Some space = stands_for b o parent space owned.sound owned.are noted live.0 in
        ap (option_and_then (refusal_in_space c caller receiver vpn)) (sym its) ∙ thread.1

    abbrev n : Name
    n = name.Mapping space vpn

    -- the tests of a row that stands are passed, but for those of the row itself
    abbrev of_itself : Row → Option Refused
    of_itself row = option_or (already_loaded c n) (option_or (beyond_rights c row) (receivers_absent c row))

    for_itself : (w : Refused) → IsOfRow w → (row : Row) → refusal_of_row c caller receiver n row ≡ Some w → of_itself row ≡ Some w
    for_itself w late row tells =
        let mine = first_passes (not_owned c caller n) (option_or (wrong_receiver c receiver row) (of_itself row)) w (owner_never c w late.owner caller n) tells in
        (first_passes (wrong_receiver c receiver row) (of_itself row) w (receiver_never c w late.receiver receiver row) mine.1).1

    -- where a row is told of there is one
    for_row : (w : Refused) → IsOfRow w → ((m : Name) → why.NotDeclared m ≡ w → ⊥) → refusal_of_load_mapping c caller parent vpn receiver ≡ Some w → (row : Row) × (row_of (seen c).rows space vpn.0 ≡ Some row) × (of_itself row ≡ Some w)
    for_row w late apart tells =
        let there = first_passes (not_declared c n) (option_and_then (refusal_of_row c caller receiver n) (row_of (seen c).rows space vpn.0)) w (declared_never c w apart n) (in_space w late.idents tells) in
        by (row_of (seen c).rows space vpn.0) refl there.1
      where
        by : (x : Option Row) → row_of (seen c).rows space vpn.0 ≡ x → option_and_then (refusal_of_row c caller receiver n) x ≡ Some w → (row : Row) × (row_of (seen c).rows space vpn.0 ≡ Some row) × (of_itself row ≡ Some w)
        by None is tells = absurd (cc)
        by (Some row) is tells = (row, is, for_itself w late row tells)

    pub told_loaded : (ident : Ident) → refusal_of_load_mapping c caller parent vpn receiver ≡ Some (why.AlreadyLoaded ident) → IsResident (residents_of c) ident n
    told_loaded ident tells =
        let w = why.AlreadyLoaded ident in
        let row = for_row w (record { idents = record { unknown = λ i is. absurd (cc); stale = λ i at is. absurd (cc); of_kind = λ i is. absurd (cc) }; owner = λ x y is. absurd (cc); receiver = λ x y is. absurd (cc) }) (λ m is. absurd (cc)) tells in
        elim (or_cases (already_loaded c n) (option_or (beyond_rights c row.0) (receivers_absent c row.0)) w row.2) [
          | inl loaded ↦
              let t = told c n w loaded in
              let same : why.AlreadyLoaded ident ≡ why.AlreadyLoaded t.0 = t.1 in
              let one : t.0 ≡ ident = cc in
              subst (λ (i : Ident). IsResident (residents_of c) i n) one t.2
          | inr rest ↦ absurd (or_never (beyond_rights c row.0) (receivers_absent c row.0) w (rights_never c w (λ r is. absurd (cc)) row.0) (absent_never c w (λ r is. absurd (cc)) row.0) rest.1)
        ]

    pub told_unfit : (frame : Frame) (group : ℕ) → refusal_of_load_mapping c caller parent vpn receiver ≡ Some (why.Rights frame group) → (row : Row) × (row_of (state_of b.machine).rows space vpn.0 ≡ Some row) × (is_fit_row (state_of b.machine) row ≡ false)
    unfolding shown beyond_rights
    told_unfit frame group tells =
        let w = why.Rights frame group in
        let row = for_row w (record { idents = record { unknown = λ i is. absurd (cc); stale = λ i at is. absurd (cc); of_kind = λ i is. absurd (cc) }; owner = λ x y is. absurd (cc); receiver = λ x y is. absurd (cc) }) (λ m is. absurd (cc)) tells in
        let fresh = first_passes (already_loaded c n) (option_or (beyond_rights c row.0) (receivers_absent c row.0)) w (loaded_never c w (λ i is. absurd (cc)) n) row.2 in
        elim (or_cases (beyond_rights c row.0) (receivers_absent c row.0) w fresh.1) [
          | inl unfit ↦ (row.0, row.1, fails (is_fit_row (seen c) row.0) (why.Rights row.0.frame (row.0.frame.0 / 128)) w unfit)
          | inr rest ↦ absurd (absent_never c w (λ r is. absurd (cc)) row.0 rest.1)
        ]
      where
        fails : (t : Bool) (x w : Refused) → (if t then None else Some x) ≡ Some w → t ≡ false
        fails true x w is = absurd (cc)
        fails false x w is = refl

    -- a message row alone wants signal rows
    pub told_message : (other : SpaceNo) (page : Vpn) → refusal_of_load_mapping c caller parent vpn receiver ≡ Some (why.ReceiversAbsent other page) → (row : Row) × (row_of (state_of b.machine).rows space vpn.0 ≡ Some row) × (row.flags.m ≡ true)
    unfolding shown
    told_message other page tells =
        let w = why.ReceiversAbsent other page in
        let row = for_row w (record { idents = record { unknown = λ i is. absurd (cc); stale = λ i at is. absurd (cc); of_kind = λ i is. absurd (cc) }; owner = λ x y is. absurd (cc); receiver = λ x y is. absurd (cc) }) (λ m is. absurd (cc)) tells in
        let fresh = first_passes (already_loaded c n) (option_or (beyond_rights c row.0) (receivers_absent c row.0)) w (loaded_never c w (λ i is. absurd (cc)) n) row.2 in
        let fit = first_passes (beyond_rights c row.0) (receivers_absent c row.0) w (rights_never c w (λ r is. absurd (cc)) row.0) fresh.1 in
        (row.0, row.1, is_message row.0 fit.1)
      where
        by : (row : Row) (m : Bool) → row.flags.m ≡ m → receivers_absent c row ≡ Some (why.ReceiversAbsent other page) → row.flags.m ≡ true
        by row true is tells = is
        by row false is tells = absurd (let clash : None ≡ Some (why.ReceiversAbsent other page) = sym (plain_passes c row is) ∙ tells in cc)

        is_message : (row : Row) → receivers_absent c row ≡ Some (why.ReceiversAbsent other page) → row.flags.m ≡ true
        is_message row tells = by row row.flags.m refl tells

    pub told_absent : (m : Name) → refusal_of_load_mapping c caller parent vpn receiver ≡ Some (why.NotDeclared m) → row_of (state_of b.machine).rows space vpn.0 ≡ None
    unfolding shown not_declared stands
    told_absent m tells = by (row_of (seen c).rows space vpn.0) refl (in_space (why.NotDeclared m) late.idents tells)
      where
        late : IsOfRow (why.NotDeclared m)
        late = record { idents = record { unknown = λ i is. absurd (cc); stale = λ i at is. absurd (cc); of_kind = λ i is. absurd (cc) }; owner = λ x y is. absurd (cc); receiver = λ x y is. absurd (cc) }

        never : (row : Row) → refusal_of_row c caller receiver n row ≡ Some (why.NotDeclared m) → ⊥
        never row is =
            let rest = for_itself (why.NotDeclared m) late row is in
            let fresh = first_passes (already_loaded c n) (option_or (beyond_rights c row) (receivers_absent c row)) (why.NotDeclared m) (loaded_never c (why.NotDeclared m) (λ i same. absurd (cc)) n) rest in
            or_never (beyond_rights c row) (receivers_absent c row) (why.NotDeclared m) (rights_never c (why.NotDeclared m) (λ r same. absurd (cc)) row) (absent_never c (why.NotDeclared m) (λ r same. absurd (cc)) row) fresh.1

        by : (x : Option Row) → row_of (seen c).rows space vpn.0 ≡ x → refusal_in_space c caller receiver vpn space ≡ Some (why.NotDeclared m) → x ≡ None
        by None is inside = refl
        by (Some row) is inside =
            let here : refusal_in_space c caller receiver vpn space ≡ refusal_of_row c caller receiver n row =
            ap (λ (x : Option Row). option_or (if is_some x then None else Some (why.NotDeclared n)) (option_and_then (refusal_of_row c caller receiver n) x)) is in
            absurd (never row (sym here ∙ inside))

  -- ---- faults

  module _ (caller ident : Ident) (thread : ThreadNo) (noted : ident_of o (name.Thread thread) ≡ Some ident) (t : FlatThread) (here : slice_get (state_of b.machine).threads thread.0 ≡ Some t) (space : SpaceNo) (vpn : Vpn) where
    abbrev w : Refused
    w = why.Mapped space vpn

    no_ident : IsNoIdent w
    no_ident = record { unknown = λ i is. absurd (cc); stale = λ i at is. absurd (cc); of_kind = λ i is. absurd (cc) }

    others_never : (k : Contents) → not_owned_as k caller ident ≡ Some w → ⊥
    others_never k tells = and_then_never (not_owned k caller) (name_as k ident) w (λ n is. owner_never k w (λ x y same. absurd (cc)) caller n is) tells

    waiting_never : not_waiting (contents_of b) t ≡ Some w → ⊥
    unfolding not_waiting
    waiting_never tells = or_never (not_ready t) (option_map why.OnCpu (mark_of (contents_of b) t.no)) w (if_never (is_ready t.status) (why.NotRunnable t.status) w (λ is. absurd (cc))) (map_never why.OnCpu (mark_of (contents_of b) t.no) w (λ cpu is. absurd (cc))) tells

    row_never : (n : Option Name) → row_absent (contents_of b) n ≡ Some w → ⊥
    unfolding row_absent
    row_never None tells = absurd (cc)
    row_never (Some (name.Kernel kernel)) tells = absurd (cc)
    row_never (Some (name.Space other)) tells = absurd (cc)
    row_never (Some (name.Thread other)) tells = absurd (cc)
    row_never (Some (name.Mapping other page)) tells = if_never (is_loaded (contents_of b) (name.Mapping other page)) (why.NotLoaded page) w (λ is. absurd (cc)) tells

    over_never : over b 1 ≡ Some w → ⊥
    unfolding over
    over_never tells = by (nat_lt (b.limit - b.steps) 1) tells
      where
        by : (x : Bool) → (if x then Some (why.Over (b.limit - b.steps)) else None) ≡ Some w → ⊥
        by true is = absurd (cc)
        by false is = absurd (cc)

    -- a step that is said to go through rows doesn't fault
    next_faults : (next : NextStep) → refusal_of_next b next ≡ Some w → next.faults ≡ false
    next_faults next tells = by next.faults refl
      where
        by : (x : Bool) → next.faults ≡ x → next.faults ≡ false
        by false is = is
        by true is =
            let passes : not_faulting next ≡ None = ap (λ (x : Bool). if x then None else mapped_by (option_or next.data_row next.fetch_row)) is in
            let rest : option_or (row_absent (contents_of b) next.fetch_row) (over b 1) ≡ Some w = sym (ap (λ (x : Option Refused). option_or x (option_or (row_absent (contents_of b) next.fetch_row) (over b 1))) passes) ∙ tells in
            absurd (or_never (row_absent (contents_of b) next.fetch_row) (over b 1) w (row_never next.fetch_row) over_never rest)

    ending : refusal_of_ending b t ≡ Some w → faults (state_of b.machine) t ≡ false
    unfolding refusal_of_ending not_waiting
    ending tells =
        let rest = first_passes (not_waiting (contents_of b) t) (refusal_of_next b (next_step_of (state_of b.machine) t)) w waiting_never tells in
        let waits = both_pass (not_ready t) (option_map why.OnCpu (mark_of (contents_of b) t.no)) rest.0 in
        by (is_ready t.status) refl waits.0 rest.1
      where
        by : (x : Bool) → is_ready t.status ≡ x → (if x then None else Some (why.NotRunnable t.status)) ≡ None → refusal_of_next b (next_step_of (state_of b.machine) t) ≡ Some w → faults (state_of b.machine) t ≡ false
        by false is passes tells = absurd (cc)
        by true is passes tells =
            let goes : next_step_of (state_of b.machine) t ≡ next_step_if true (state_of b.machine) t = ap (λ (x : Bool). next_step_if x (state_of b.machine) t) is in
            next_faults (next_step_if true (state_of b.machine) t) (sym (ap (refusal_of_next b) goes) ∙ tells)

    pub told_mapped : refusal_of_fault b caller ident ≡ Some w → faults (state_of b.machine) t ≡ false
    unfolding thread_as
    told_mapped tells =
        let kernel_or = or_cases (refusal_of_thread (contents_of b) caller ident) (option_and_then (refusal_of_ending b) (thread_as (contents_of b) ident)) w tells in
        elim kernel_or [
          | inl early ↦
              let kernel = first_passes _ _ w (never_a (contents_of b) w no_ident kind.Kernel caller) early in
              let live = first_passes _ _ w (never_a (contents_of b) w no_ident kind.Thread ident) kernel.1 in
              absurd (others_never (contents_of b) live.1)
          | inr late ↦
              let kernel = both_pass _ _ late.0 in
              let live = both_pass _ _ kernel.1 in
              let q = noted_live kind.Thread (name.Thread thread) ident noted live.0 in
              let rec = found (contents_of b) owned.sound.tables.1.whole.one (Some b.machine.machine) b.machine.memory ident thread q t here in
              let its : thread_as (contents_of b) ident ≡ Some t = thread_is (contents_of b) ident rec.0 rec.1 ∙ ap (λ (x : FlatThread). Some x) rec.2 in
              ending (sym (ap (option_and_then (refusal_of_ending b)) its) ∙ late.1)
        ]
