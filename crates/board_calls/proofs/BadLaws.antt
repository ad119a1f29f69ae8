-- What is bad once a call is completed, and what stays good.
use Rattle.std.proofs.Common.{◌≡◌, ◌↔◌, ℕ, ◌+◌, ◌*◌, ◌/◌, ◌%◌, ◌<◌, Bool, true, false, not, List, [], ◌∷◌, ◌++◌, filter, length, set, get_or-set_other, Contains, Option, Some, None, is_some, slice_get, cond, refl, sym, ◌∙◌, ap, subst, inl, inr, arith}
use Rattle.std.specs.Prelude.{◌&&◌, ◌||◌, ◌==◌, nat_le, nat_lt, unwrap_or}
use Rattle.std.specs.List.{find}
use Rattle.std.specs.Option.{option_map}
use Rattle.std.proofs.lemmas.Option.{same_Some}
use Rattle.std.proofs.lemmas.Bool.{and_from, and_parts, and_cases, cases_Bool, cases_eq, cases_lt, eq-eqb, eqb-true, false_from_ne_true, false≢true, leb-false, not-false, not-true, or_cases, or_parts}
use Rattle.std.proofs.lemmas.List.{get_or-set_same}
use Rattle.std.proofs.Math.ListN.{get_or-eq_default}
use Rattle.std.proofs.lemmas.List.Elements.{Contains-push, Contains-push_cases}
use Rattle.cache_ident.specs.declared.classes.Class.TheVariants as classes
use Rattle.cache_ident.specs.declared.idents.Ident.{Ident}
use Rattle.cache_ident.specs.declared.idents.Kind.TheVariants as kind
use Rattle.cache_ident.specs.declared.names.Frame.{Frame}
use Rattle.cache_ident.specs.declared.names.KernelNo.{KernelNo}
use Rattle.cache_ident.specs.declared.names.SpaceNo.{SpaceNo}
use Rattle.cache_ident.specs.declared.names.ThreadNo.{ThreadNo}
use Rattle.cache_ident.specs.declared.names.Vpn.{Vpn}
use Rattle.cache_ident.specs.declared.names.Name.{Name}
use Rattle.cache_ident.specs.declared.names.Name.TheVariants as name
use Rattle.cache_ident.specs.Names.{kind_of}
use Rattle.cache_ident.specs.Residents.{Resident, IsNameResident, IsResident}
use Rattle.phys_groups.specs.declared.rows.Flags.{Flags}
use Rattle.phys_groups.specs.declared.rows.Row.{Row}
use Rattle.phys_groups.specs.Rows.{row_name}
use Rattle.phys_groups.specs.Translation.{implies, is_fit, is_row_of, right_on, row_of, without}
use Rattle.row_store.specs.signal_pages.specs.Signals.{is_signal_row_of}
use Rattle.flat_state.specs.declared.events.Decl.{Decl}
use Rattle.flat_state.specs.declared.events.Decl.TheVariants as decls
use Rattle.flat_state.specs.declared.records.FlatKernel.{FlatKernel}
use Rattle.flat_state.specs.declared.records.FlatThread.{FlatThread}
use Rattle.flat_state.specs.declared.events.Event.TheVariants.{Complete}
use Rattle.flat_state.specs.Call.{after_completion, answered}
use Rattle.flat_state.specs.Events.{applied}
use Rattle.flat_state.specs.Declaration.{agree, broken_rule, declared, has_frame, has_no_flag, has_receiver, new_row, with_right}
use Rattle.flat_state.specs.Dependence.{Depends}
use Rattle.flat_state.specs.Names.{class_by, class_of, is_fit_name, stands}
use Rattle.flat_state.specs.State.{groups_of, with_thread, FlatState}
use Rattle.flat_state.specs.Translation.{is_fit_row, kernel_rights, rights_in, rights_of}
use Rattle.flat_state.specs.WellFormed.{IsWellFormed}
use Rattle.flat_state.proofs.Finding.{find-contains}
use Rattle.flat_state.proofs.FormedParts.{breaks_none, other_rule, row_formed}
use Rattle.flat_state.proofs.Places.{get-append, get-set_other, get-set_same}
use Rattle.board_core.specs.flat_events.specs.declared.asked.Asked.{Asked}
use Rattle.board_core.specs.flat_events.specs.declared.asked.Asked.TheVariants.{Nothing, Refused, Declares, Unmaps}
use Rattle.board_core.specs.flat_events.specs.Asked.{after_asked, CanBeDone}
use Rattle.board_checks.specs.flat_laws.proofs.EventKeeps.{event_keeps, Keeps}
use Rattle.board_checks.specs.flat_laws.proofs.Members.{Contains-filter}
use Rattle.board_checks.specs.flat_laws.proofs.ParentLaws.{there_is}
use Rattle.board_checks.specs.run_journal.specs.Legal.{AreGood, StaysGood}
use Rattle.board_checks.specs.run_journal.proofs.Others.{Contains-from_filter}
use Rattle.board_checks.specs.desc_stores.specs.declared.items.Item.TheVariants as item
use Rattle.board_checks.specs.desc_stores.specs.Contents.{item_as, residents_of, Contents}
use Rattle.board_checks.specs.desc_stores.specs.Sound.{IsExactlyOne}
use Rattle.board_core.specs.store_residents.proofs.ResidentLemmas.{resident_kind}
use Rattle.board_core.specs.cached_machine.specs.Cached.{state_of, Cached}
use Rattle.board_core.specs.cached_machine.proofs.CompleteLaws.{row_gone}
use Rattle.board_core.specs.cached_machine.proofs.GoodLaws.{not_good}
use Rattle.board_checks.proofs.IdentifierLemmas.{item_resident}
use Rattle.board_calls.specs.declared.leaving.Grant.{Grant}
use Rattle.board_calls.specs.Leaving.{after_grant, goes_so, is_absent, is_message, lacks_rows, takes_away, AreBad, GoesFor, GoesForDecl, IsBadAs, IsRowAs, IsRowGoing, LacksOne}
use Rattle.board_calls.proofs.GoodLaws.{found, no_row, on_signal, row_class, row_depends, row_fits, signals_resident, stays_good, IsGood}
use Rattle.board_calls.proofs.LoopLaws.{any_of, none_of}
use Rattle.board_calls.proofs.RowLaws.{absent_is, as_row, present_is, row_as, row_known}

-- ---- lists

-- what was found is still found in front of others
find_before : {X : Type 0} (p : X → Bool) (xs ys : List X) (x : X) → find p xs ≡ Some x → find p (xs ++ ys) ≡ Some x
find_before p [] ys x e = absurd (cc)
find_before {X} p (z ∷ xs) ys x e = by (λ later. find_before p xs ys x later) (p z) e
  where
    by : (find p xs ≡ Some x → find p (xs ++ ys) ≡ Some x) → (b : Bool) → cond b (Some z) (find p xs) ≡ Some x → cond b (Some z) (find p (xs ++ ys)) ≡ Some x
    by rest true e = e
    by rest false e = rest e

-- and among those that pass a test, if whatever it could be does
find_kept : {X : Type 0} (p q : X → Bool) → ((y : X) → p y ≡ true → q y ≡ true) → (xs : List X) (x : X) → find p xs ≡ Some x → find p (filter q xs) ≡ Some x
find_kept p q kept [] x e = absurd (cc)
find_kept {X} p q kept (z ∷ xs) x e = by (λ later. find_kept p q kept xs x later) (p z) (q z) refl refl e
  where
    by : (find p xs ≡ Some x → find p (filter q xs) ≡ Some x) → (b c : Bool) → p z ≡ b → q z ≡ c → cond b (Some z) (find p xs) ≡ Some x → find p (cond c (z ∷ filter q xs) (filter q xs)) ≡ Some x
    by rest true true is passes e = ap (λ b. cond b (Some z) (find p (filter q xs))) is ∙ e
    by rest true false is fails e = absurd (false≢true (sym fails ∙ kept z is))
    by rest false true is passes e = ap (λ b. cond b (Some z) (find p (filter q xs))) is ∙ rest e
    by rest false false is fails e = rest e

-- ---- rights

module _ (s : FlatState) (g : Grant) where
  -- rights on another group stay
  right_elsewhere : (n group : ℕ) → (group ≡ g.group → ⊥) → right_on (rights_in (slice_get (after_grant s g).kernels n)) group ≡ right_on (rights_in (slice_get s.kernels n)) group
  right_elsewhere n group apart = by (slice_get s.kernels g.kernel.0) refl
    where
      by : (o : Option FlatKernel) → slice_get s.kernels g.kernel.0 ≡ o → right_on (rights_in (slice_get (with_right s.kernels o g.kernel.0 g.group (g.read, g.write)) n)) group ≡ right_on (rights_in (slice_get s.kernels n)) group
      by None here = refl
      by (Some k) here =
          let now : FlatKernel = record k { rights = set k.rights g.group (g.read, g.write) } in
          elim (cases_eq n g.kernel.0) [
            | inl same ↦
                ap (λ (o : Option FlatKernel). right_on (rights_in o) group) (ap (slice_get (set s.kernels g.kernel.0 now)) same ∙ get-set_same s.kernels g.kernel.0 now k here)
                ∙ get_or-set_other k.rights g.group group (g.read, g.write) (false, false) apart
                ∙ sym (ap (λ (o : Option FlatKernel). right_on (rights_in o) group) (ap (slice_get s.kernels) same ∙ here))
            | inr other ↦ ap (λ (o : Option FlatKernel). right_on (rights_in o) group) (get-set_other s.kernels g.kernel.0 n now other)
          ]

  right_over : (space : SpaceNo) (group : ℕ) → (group ≡ g.group → ⊥) → right_on (rights_of (after_grant s g) space) group ≡ right_on (rights_of s space) group
  right_over space group apart = by (slice_get s.spaces space.0)
    where
      by : (o : Option KernelNo) → right_on (kernel_rights (after_grant s g).kernels o) group ≡ right_on (kernel_rights s.kernels o) group
      by None = refl
      by (Some kernel) = right_elsewhere kernel.0 group apart

  -- so a row of another group is fit as before
  fit_elsewhere : (row : Row) → (row.frame.0 / 128 ≡ g.group → ⊥) → is_fit_row (after_grant s g) row ≡ is_fit_row s row
  fit_elsewhere row apart =
      ap (λ (right : Bool × Bool). implies (row.flags.r || row.flags.x) right.0 && implies row.flags.w right.1) (right_over row.space (row.frame.0 / 128) apart)

  -- ---- whether the kernel loses a right

  -- a kernel that isn't there loses none
  pub nothing_taken : None ≡ option_map (λ (k : FlatKernel). k.rights) (slice_get s.kernels g.kernel.0) → false ≡ takes_away s g
  nothing_taken none = by (slice_get s.kernels g.kernel.0) none
    where
      by : (o : Option FlatKernel) → None ≡ option_map (λ (k : FlatKernel). k.rights) o → false ≡ (let right = right_on (rights_in o) g.group in (right.0 && not g.read) || (right.1 && not g.write))
      by None is = refl
      by (Some k) is = absurd (cc)

  -- one that is loses those of its own that it then won't have
  pub rights_taken : (rights : List (Bool × Bool)) → Some rights ≡ option_map (λ (k : FlatKernel). k.rights) (slice_get s.kernels g.kernel.0) → (((right_on rights g.group).0 && not g.read) || ((right_on rights g.group).1 && not g.write)) ≡ takes_away s g
  rights_taken rights is = by (slice_get s.kernels g.kernel.0) is
    where
      by : (o : Option FlatKernel) → Some rights ≡ option_map (λ (k : FlatKernel). k.rights) o → (((right_on rights g.group).0 && not g.read) || ((right_on rights g.group).1 && not g.write)) ≡ (let right = right_on (rights_in o) g.group in (right.0 && not g.read) || (right.1 && not g.write))
      by None is = absurd (cc)
      by (Some k) is = ap (λ (all : List (Bool × Bool)). ((right_on all g.group).0 && not g.read) || ((right_on all g.group).1 && not g.write)) (same_Some rights k.rights is)

  -- ---- where the kernel loses no right

  -- a test that a right makes true stays so
  right_grows : takes_away s g ≡ false → (n group : ℕ) → ((right_on (rights_in (slice_get s.kernels n)) group).0 ≡ true → (right_on (rights_in (slice_get (after_grant s g).kernels n)) group).0 ≡ true) × ((right_on (rights_in (slice_get s.kernels n)) group).1 ≡ true → (right_on (rights_in (slice_get (after_grant s g).kernels n)) group).1 ≡ true)
  right_grows keeps n group = elim (cases_eq group g.group) [
    | inr apart ↦
        let same = right_elsewhere n group apart in
        (λ is. ap (λ (right : Bool × Bool). right.0) same ∙ is, λ is. ap (λ (right : Bool × Bool). right.1) same ∙ is)
    | inl here ↦ by (slice_get s.kernels g.kernel.0) refl here
  ]
    where
      by : (o : Option FlatKernel) → slice_get s.kernels g.kernel.0 ≡ o → group ≡ g.group
          → ((right_on (rights_in (slice_get s.kernels n)) group).0 ≡ true → (right_on (rights_in (slice_get (with_right s.kernels o g.kernel.0 g.group (g.read, g.write)) n)) group).0 ≡ true) × ((right_on (rights_in (slice_get s.kernels n)) group).1 ≡ true → (right_on (rights_in (slice_get (with_right s.kernels o g.kernel.0 g.group (g.read, g.write)) n)) group).1 ≡ true)
      by None at here = (λ is. is, λ is. is)
      by (Some k) at here =
          let now : FlatKernel = record k { rights = set k.rights g.group (g.read, g.write) } in
          elim (cases_eq n g.kernel.0) [
            | inr other ↦
                let same = ap (λ (o : Option FlatKernel). right_on (rights_in o) group) (get-set_other s.kernels g.kernel.0 n now other) in
                (λ is. ap (λ (right : Bool × Bool). right.0) same ∙ is, λ is. ap (λ (right : Bool × Bool). right.1) same ∙ is)
            | inl its ↦
                let old : right_on (rights_in (slice_get s.kernels n)) group ≡ right_on k.rights g.group = ap (λ (o : Option FlatKernel). right_on (rights_in o) group) (ap (slice_get s.kernels) its ∙ at) ∙ ap (right_on k.rights) here in
                let lost : ((right_on k.rights g.group).0 && not g.read) || ((right_on k.rights g.group).1 && not g.write) ≡ false = sym (ap (λ (o : Option FlatKernel). let right = right_on (rights_in o) g.group in (right.0 && not g.read) || (right.1 && not g.write)) at) ∙ keeps in
                let parts = or_parts ((right_on k.rights g.group).0 && not g.read) ((right_on k.rights g.group).1 && not g.write) lost in
                elim (cases_lt g.group (length k.rights)) [
                  | inl within ↦
                      let new : right_on (rights_in (slice_get (set s.kernels g.kernel.0 now) n)) group ≡ (g.read, g.write) =
                      ap (λ (o : Option FlatKernel). right_on (rights_in o) group) (ap (slice_get (set s.kernels g.kernel.0 now)) its ∙ get-set_same s.kernels g.kernel.0 now k at)
                      ∙ ap (right_on (set k.rights g.group (g.read, g.write))) here
                      ∙ get_or-set_same k.rights g.group (g.read, g.write) (false, false) within in (
                        λ is. ap (λ (right : Bool × Bool). right.0) new ∙ kept (right_on k.rights g.group).0 g.read parts.0 (sym (ap (λ (right : Bool × Bool). right.0) old) ∙ is),
                        λ is. ap (λ (right : Bool × Bool). right.1) new ∙ kept (right_on k.rights g.group).1 g.write parts.1 (sym (ap (λ (right : Bool × Bool). right.1) old) ∙ is),
                      )
                  | inr past ↦
                      let none : right_on k.rights g.group ≡ (false, false) = get_or-eq_default k.rights (false, false) past in (
                        λ is. absurd (false≢true (sym (ap (λ (right : Bool × Bool). right.0) (old ∙ none)) ∙ is)),
                        λ is. absurd (false≢true (sym (ap (λ (right : Bool × Bool). right.1) (old ∙ none)) ∙ is)),
                      )
                ]
          ]
        where
          kept : (a b : Bool) → (a && not b) ≡ false → a ≡ true → b ≡ true
          kept a true lost is = refl
          kept true false lost is = absurd (false≢true (sym lost))
          kept false false lost is = absurd (false≢true is)

  -- so what is fit stays fit
  fit_grows : takes_away s g ≡ false → (row : Row) → is_fit_row s row ≡ true → is_fit_row (after_grant s g) row ≡ true
  fit_grows keeps row fit = by (slice_get s.spaces row.space.0) fit
    where
      more : (a b c : Bool) → (b ≡ true → c ≡ true) → implies a b ≡ true → implies a c ≡ true
      more true b c grows is = grows is
      more false b c grows is = refl

      by : (o : Option KernelNo) → is_fit (kernel_rights s.kernels o) row ≡ true → is_fit (kernel_rights (after_grant s g).kernels o) row ≡ true
      by None is = is
      by (Some kernel) is =
          let grows = right_grows keeps kernel.0 (row.frame.0 / 128) in
          let was = right_on (rights_in (slice_get s.kernels kernel.0)) (row.frame.0 / 128) in
          let now = right_on (rights_in (slice_get (after_grant s g).kernels kernel.0)) (row.frame.0 / 128) in
          let parts = and_parts (implies (row.flags.r || row.flags.x) was.0) (implies row.flags.w was.1) is in
          and_from (implies (row.flags.r || row.flags.x) now.0) (implies row.flags.w now.1) (more (row.flags.r || row.flags.x) was.0 now.0 grows.0 parts.0) (more row.flags.w was.1 now.1 grows.1 parts.1)

same_frame : (a b : Frame) → a.0 ≡ b.0 → a ≡ b
same_frame a b same = ap (λ (n : ℕ). let f : Frame = record { 0 = n } in f) same

module _ (m : Cached) (one : IsExactlyOne m.held.contents) (good : AreGood (state_of m) (residents_of m.held.contents)) (formed : IsWellFormed (state_of m)) where
  abbrev s : FlatState
  s = state_of m

  abbrev c : Contents
  c = m.held.contents

  abbrev rs : List Resident
  rs = residents_of c

  name_good : (r : Resident) → Contains rs r → IsGood s rs r.name
  name_good r there = let its = good r there in record { there = its.there; fit = its.fit; has = its.parents }

  -- a loaded row is fit
  loaded_fit : (ident : Ident) (row : Row) → item_as c ident ≡ Some (item.Mapping row) → is_fit_row s row ≡ true
  loaded_fit ident row is =
      let r = item_resident c ident one (item.Mapping row) is in
      let here = as_row (Some m.machine) m.memory c one r.0 r.1 row (ap (item_as c) r.2 ∙ is) r.3 in
      sym (row_fits s row.space row.vpn row here) ∙ subst (λ (n : Name). is_fit_name s n ≡ true) r.3 (good r.0 r.1).fit

  -- where the kernel loses no right, of a frame only message rows go, and only once they lack a signal row
  module _ (g : Grant) (frame : Frame) (lacks : Bool) (told : lacks ≡ lacks_rows (after_grant s g) rs frame) where
    pub goes_as_message : takes_away s g ≡ false → (ident : Ident) → IsRowGoing m g frame ident → (lacks ≡ true) × IsRowAs c frame is_message ident
    goes_as_message keeps ident its = elim (or_cases (lacks_rows (after_grant s g) rs frame && its.row.flags.m) (not (is_fit_row (after_grant s g) its.row)) its.passing) [
      | inr unfit ↦ absurd (false≢true (sym (not-true (is_fit_row (after_grant s g) its.row) unfit) ∙ fit_grows s g keeps its.row (loaded_fit ident its.row its.loaded)))
      | inl both ↦
          let parts = and_parts (lacks_rows (after_grant s g) rs frame) its.row.flags.m both in
          (told ∙ parts.0, record { row = its.row; loaded = its.loaded; on = its.on; passing = parts.1 })
    ]

    pub message_goes : lacks ≡ true → (ident : Ident) → IsRowAs c frame is_message ident → IsRowGoing m g frame ident
    message_goes is ident its = record {
      row = its.row;
      loaded = its.loaded;
      on = its.on;
      passing = by (lacks_rows (after_grant s g) rs frame) its.row.flags.m (sym told ∙ is) its.passing;
    }
      where
        by : (a b : Bool) → a ≡ true → b ≡ true → ((a && b) || not (is_fit_row (after_grant s g) its.row)) ≡ true
        by true true first second = refl
        by true false first second = absurd (false≢true second)
        by false b first second = absurd (false≢true first)

  -- ---- what stays good

  -- the row is there still, is fit, and its fit signal rows are resident
  abbrev RowStays : FlatState → SpaceNo → Vpn → Type 0
  RowStays w space vpn =
      (now : Row) × (row_of w.rows space vpn.0 ≡ Some now) × (is_fit_row w now ≡ true)
      × (now.flags.m ≡ true → (other : Row) → Contains w.rows other → is_signal_row_of now.frame other ≡ true → is_fit_row w other ≡ true → IsNameResident rs (row_name other))

  module _ (r : Resident) (there : Contains rs r) (space : SpaceNo) (vpn : Vpn) (row : Row) (named : r.name ≡ name.Mapping space vpn) (here : row_of s.rows space vpn.0 ≡ Some row) where
    row_in : Contains s.rows row
    row_in = find-contains (is_row_of space vpn.0) s.rows row here

    its_good : IsGood s rs (name.Mapping space vpn)
    its_good = subst (IsGood s rs) named (name_good r there)

    its_item : item_as c r.ident ≡ Some (item.Mapping row)
    its_item = row_as (Some m.machine) m.memory c one r there space vpn row named here

    -- where rows of its frame are as fit as before, and its frame has no new fit signal row that matters
    stays_where : (w : FlatState) → row_of w.rows space vpn.0 ≡ Some row → ((x : Row) → Contains s.rows x → x.frame.0 ≡ row.frame.0 → is_fit_row w x ≡ is_fit_row s x)
        → ((other : Row) → Contains w.rows other → is_signal_row_of row.frame other ≡ true → is_fit_row w other ≡ true → row.flags.m ≡ true → Contains s.rows other) → RowStays w space vpn
    stays_where w is fits old = (
      row,
      is,
      fits row row_in refl ∙ sym (row_fits s space vpn row here) ∙ its_good.fit,
      λ message other other_in signals fit.
          let was = old other other_in signals fit message in
          let framed = eqb-true other.frame.0 row.frame.0 (and_parts (other.frame.0 == row.frame.0) (is_some other.receiver) signals).0 in
          signals_resident s rs space vpn row its_good here message other was signals (sym (fits other was framed) ∙ fit),
    )

    -- another kernel more, or another space, leaves what rights there are
    kernel_stays : (new : FlatKernel) → RowStays (record s { kernels = s.kernels ++ new ∷ [] }) space vpn
    kernel_stays new = stays_where (record s { kernels = s.kernels ++ new ∷ [] }) here fits (λ other other_in signals fit message. other_in)
      where
        fits : (x : Row) → Contains s.rows x → x.frame.0 ≡ row.frame.0 → is_fit_row (record s { kernels = s.kernels ++ new ∷ [] }) x ≡ is_fit_row s x
        fits x x_in framed = ap (λ (rights : List (Bool × Bool)). is_fit rights x) (by (slice_get s.spaces x.space.0) refl)
          where
            by : (o : Option KernelNo) → slice_get s.spaces x.space.0 ≡ o → kernel_rights (s.kernels ++ new ∷ []) o ≡ kernel_rights s.kernels o
            by None is = refl
            by (Some kernel) is =
                let k = found (slice_get s.kernels kernel.0) (there_is s.kernels kernel.0 (formed.spaces.owned x.space.0 kernel is)) in
                ap rights_in (get-append s.kernels (new ∷ []) kernel.0 k.0 k.1 ∙ sym k.1)

    space_stays : (new : KernelNo) → RowStays (record s { spaces = s.spaces ++ new ∷ [] }) space vpn
    space_stays new = stays_where (record s { spaces = s.spaces ++ new ∷ [] }) here fits (λ other other_in signals fit message. other_in)
      where
        fits : (x : Row) → Contains s.rows x → x.frame.0 ≡ row.frame.0 → is_fit_row (record s { spaces = s.spaces ++ new ∷ [] }) x ≡ is_fit_row s x
        fits x x_in framed =
            let k = found (slice_get s.spaces x.space.0) (there_is s.spaces x.space.0 (formed.rows.each x x_in).space) in
            ap (λ (o : Option KernelNo). is_fit (kernel_rights s.kernels o) x) (get-append s.spaces (new ∷ []) x.space.0 k.0 k.1 ∙ sym k.1)

    -- a row more, which is no fit signal row of the frame of a message row
    row_stays : (new : Row) → (is_signal_row_of row.frame new ≡ true → is_fit_row s new ≡ true → row.flags.m ≡ true → ⊥) → RowStays (record s { rows = s.rows ++ new ∷ [] }) space vpn
    row_stays new never = stays_where (record s { rows = s.rows ++ new ∷ [] }) (find_before (is_row_of space vpn.0) s.rows (new ∷ []) row here) (λ x x_in framed. refl) old
      where
        old : (other : Row) → Contains (s.rows ++ new ∷ []) other → is_signal_row_of row.frame other ≡ true → is_fit_row s other ≡ true → row.flags.m ≡ true → Contains s.rows other
        old other other_in signals fit message = elim (Contains-push_cases s.rows new other other_in) [
          | inl before ↦ before
          | inr same ↦ absurd (never (subst (λ (x : Row). is_signal_row_of row.frame x ≡ true) (sym same) signals) (subst (λ (x : Row). is_fit_row s x ≡ true) (sym same) fit) message)
        ]

    -- a row less, which is another
    other_stays : (gone_space : SpaceNo) (gone : Vpn) → (name.Mapping space vpn ≡ name.Mapping gone_space gone → ⊥) → RowStays (record s { rows = without gone_space gone.0 s.rows }) space vpn
    other_stays gone_space gone apart =
        stays_where (record s { rows = without gone_space gone.0 s.rows })
        (find_kept (is_row_of space vpn.0) (λ (x : Row). not (is_row_of gone_space gone.0 x)) kept s.rows row here) (λ x x_in framed. refl)
        (λ other other_in signals fit message. (Contains-filter (λ (x : Row). not (is_row_of gone_space gone.0 x)) s.rows other other_in).0)
      where
        kept : (y : Row) → is_row_of space vpn.0 y ≡ true → not (is_row_of gone_space gone.0 y) ≡ true
        kept y is = elim (cases_Bool (is_row_of gone_space gone.0 y)) [
          | inl both ↦ (
              let first = and_parts (y.space.0 == space.0) (y.vpn.0 == vpn.0) is in
              let second = and_parts (y.space.0 == gone_space.0) (y.vpn.0 == gone.0) both in
              let spaces : space.0 ≡ gone_space.0 = sym (eqb-true y.space.0 space.0 first.0) ∙ eqb-true y.space.0 gone_space.0 second.0 in
              let pages : vpn.0 ≡ gone.0 = sym (eqb-true y.vpn.0 vpn.0 first.1) ∙ eqb-true y.vpn.0 gone.0 second.1 in
              let same_space : space ≡ gone_space = ap (λ (n : ℕ). let x : SpaceNo = record { 0 = n } in x) spaces in
              let same_page : vpn ≡ gone = ap (λ (n : ℕ). let x : Vpn = record { 0 = n } in x) pages in
              absurd (apart (cc))
              )
          | inr other ↦ ap not other
        ]

    -- other rights, where the row doesn't go for them
    grant_stays : (g : Grant) → ((place : ℕ) → place < 128 → IsRowGoing m g (record { 0 = g.group * 128 + place }) r.ident → ⊥) → RowStays (after_grant s g) space vpn
    grant_stays g never = elim (cases_eq (row.frame.0 / 128) g.group) [
      | inr other ↦ stays_where (after_grant s g) here
          (λ x x_in framed. fit_elsewhere s g x (λ same. other (ap (λ (n : ℕ). n / 128) (sym framed) ∙ same)))
          (λ x x_in signals fit message. x_in)
      | inl same ↦
          let framed : Frame = record { 0 = g.group * 128 + row.frame.0 % 128 } in
          let whole : framed.0 ≡ row.frame.0 = omega arith in
          let is_framed : framed ≡ row.frame = same_frame framed row.frame whole in
          let goes_not : goes_so (after_grant s g) (lacks_rows (after_grant s g) rs row.frame) row ≡ false =
          false_from_ne_true (goes_so (after_grant s g) (lacks_rows (after_grant s g) rs row.frame) row) (λ goes.
          let as_row_of : IsRowGoing m g row.frame r.ident = record { row = row; loaded = its_item; on = refl; passing = goes } in
          never (row.frame.0 % 128) (omega arith) (subst (λ (f : Frame). IsRowGoing m g f r.ident) (sym is_framed) as_row_of)) in
          let parts = or_parts (lacks_rows (after_grant s g) rs row.frame && row.flags.m) (not (is_fit_row (after_grant s g) row)) goes_not in
          (row, here, not-false (is_fit_row (after_grant s g) row) parts.1, λ message other other_in signals fit. lacks_none g parts.0 message other other_in signals fit)
    ]
      where
        lacks_none : (g : Grant) → (lacks_rows (after_grant s g) rs row.frame && row.flags.m) ≡ false → row.flags.m ≡ true → (other : Row) → Contains s.rows other → is_signal_row_of row.frame other ≡ true → is_fit_row (after_grant s g) other ≡ true → IsNameResident rs (row_name other)
        lacks_none g not_both message other other_in signals fit = elim (and_cases (lacks_rows (after_grant s g) rs row.frame) row.flags.m not_both) [
          | inr plain ↦ absurd (false≢true (sym plain ∙ message))
          | inl none ↦
              let each = none_of (λ (x : Row). is_fit_row (after_grant s g) x && is_absent rs x) (filter (is_signal_row_of row.frame) s.rows) none other (Contains-from_filter (is_signal_row_of row.frame) s.rows other other_in signals) in
              elim (and_cases (is_fit_row (after_grant s g) other) (is_absent rs other) each) [
                | inl unfit ↦ absurd (false≢true (sym unfit ∙ fit))
                | inr present ↦ present_is c one other present
              ]
        ]

    -- a declaration, where the row doesn't go for it
    decl_stays : (d : Decl) → (GoesForDecl m d r.ident → ⊥) → RowStays (declared s d) space vpn
    unfolding declared
    decl_stays (decls.Machine machine) never = stays_where (declared s (decls.Machine machine)) here (λ x x_in framed. refl) (λ x x_in signals fit message. x_in)
    decl_stays (decls.Kernel number limits) never = kernel_stays _
    decl_stays (decls.Right kernel group read write) never = grant_stays (record { kernel = kernel; group = group; read = read; write = write }) (λ place low goes. never (place, low, goes))
    decl_stays (decls.Space number kernel) never = space_stays kernel
    decl_stays (decls.Thread number in_space pc priority a0 a1) never = stays_where (declared s (decls.Thread number in_space pc priority a0 a1)) here (λ x x_in framed. refl) (λ x x_in signals fit message. x_in)
    decl_stays (decls.Map to page frame flags None) never =
        row_stays (new_row to page frame flags None) (λ signals fit message. false≢true (and_parts (frame.0 == row.frame.0) false signals).1)
    decl_stays (decls.Map to page frame flags (Some receiver)) never =
        row_stays (new_row to page frame flags (Some receiver)) (λ signals fit message.
        let framed = same_frame row.frame frame (sym (eqb-true frame.0 row.frame.0 (and_parts (frame.0 == row.frame.0) true signals).0)) in
        never (fit, record { row = row; loaded = its_item; on = framed; passing = message }))
    decl_stays (decls.Word frame offset value) never = stays_where (declared s (decls.Word frame offset value)) here (λ x x_in framed. refl) (λ x x_in signals fit message. x_in)

    -- what is asked, where the row doesn't go for it
    asked_stays : (n : ℕ) (t : FlatThread) (asked : Asked) → (GoesFor m asked r.ident → ⊥) → RowStays (after_asked s n t asked) space vpn
    asked_stays n t Nothing never = stays_where s here (λ x x_in framed. refl) (λ x x_in signals fit message. x_in)
    asked_stays n t (Refused rule) never = stays_where s here (λ x x_in framed. refl) (λ x x_in signals fit message. x_in)
    asked_stays n t (Declares d answer) never = decl_stays d never
    asked_stays n t (Unmaps gone_space gone) never = other_stays gone_space gone (λ same. never (r, there, refl, named ∙ same))

  module _ (n : ℕ) (t : FlatThread) (asked : Asked) (keeps : Keeps s (after_asked s n t asked)) where
    -- each resident that doesn't leave for what is asked is good then
    pub others_good : (r : Resident) → Contains rs r → (GoesFor m asked r.ident → ⊥) → StaysGood (after_asked s n t asked) rs r
    others_good r there never =
        let its = stays_good s (after_asked s n t asked) keeps rs r.name (name_good r there) (λ space vpn row named here. asked_stays r there space vpn row named here n t asked never) in
        record { there = its.there; fit = its.fit; parents = its.has }

  -- ---- what is bad

  module _ (ident : Ident) (row : Row) (loaded : item_as c ident ≡ Some (item.Mapping row)) where
    row_resident : IsResident rs ident (row_name row)
    row_resident = item_resident c ident one (item.Mapping row) loaded

    its_row : row_of s.rows row.space row.vpn.0 ≡ Some row
    its_row = let r = row_resident in as_row (Some m.machine) m.memory c one r.0 r.1 row (ap (item_as c) r.2 ∙ loaded) r.3

    row_kind : ident.kind ≡ kind.Mapping
    row_kind =
        let r = row_resident in
        ap (λ (i : Ident). i.kind) (sym r.2) ∙ resident_kind c one.sound r.0 r.1 ∙ ap kind_of r.3

    -- it isn't fit in the state
    unfit_bad : (w : FlatState) → row_of w.rows row.space row.vpn.0 ≡ Some row → is_fit_row w row ≡ false → IsBadAs w rs ident
    unfit_bad w is unfit =
        let r = row_resident in
        record {
          resident = r.0;
          there = r.1;
          its = r.2;
          row = row_kind;
          why = inr (inl (ap (is_fit_name w) r.3 ∙ row_fits w row.space row.vpn row is ∙ unfit));
        }

    -- a message row that depends on a fit signal row which isn't loaded
    message_bad : (w : FlatState) → row_of w.rows row.space row.vpn.0 ≡ Some row → row.flags.m ≡ true → (other : Row) → Contains w.rows other → is_signal_row_of row.frame other ≡ true → is_fit_row w other ≡ true → (IsNameResident rs (row_name other) → ⊥) → IsBadAs w rs ident
    message_bad w is message other other_in signals fit absent =
        let r = row_resident in
        let class : class_of w (row_name row) ≡ classes.MessageRow = row_class w row.space row.vpn row is ∙ ap (λ (b : Bool). class_by b (is_some row.receiver)) message in
        let depends : Depends w (row_name row) (row_name other) = subst (λ (names : List Name). Contains names (row_name other)) (sym (row_depends w row.space row.vpn row is)) (on_signal w row other other_in signals fit message) in
        let lacks : LacksOne w rs (row_name row) = record { message = class; other = row_name other; depends = depends; absent = absent } in
        record {
          resident = r.0;
          there = r.1;
          its = r.2;
          row = row_kind;
          why = inr (inr (subst (LacksOne w rs) (sym r.3) lacks));
        }

  -- a row that may be asked for isn't there
  fresh_row : (space : SpaceNo) (vpn : Vpn) (frame : Frame) (flags : Flags) (receiver : Option ThreadNo) → broken_rule s (decls.Map space vpn frame flags receiver) ≡ None → is_some (row_of s.rows space vpn.0) ≡ false
  unfolding broken_rule
  fresh_row space vpn frame flags receiver fits =
      let rule = other_rule s.machine s (decls.Map space vpn frame flags receiver) refl fits in
      let flagged = breaks_none (has_no_flag flags) 4 _ rule in
      let few = breaks_none (nat_le 262144 (length s.rows)) 9 _ flagged.1 in
      let there = breaks_none (nat_le (length s.spaces) space.0 || not (has_receiver s.threads receiver)) 12 _ few.1 in
      let placed = breaks_none (not (has_frame s frame) || nat_lt 1048575 vpn.0) 13 _ there.1 in
      let agreed = breaks_none (not (agree flags (is_some receiver))) 16 _ placed.1 in
      (breaks_none (is_some (row_of s.rows space vpn.0)) 17 _ agreed.1).0

  decl_bad : (n : ℕ) (t : FlatThread) (d : Decl) → broken_rule s d ≡ None → (ident : Ident) → GoesForDecl m d ident → IsBadAs (with_thread (declared s d) n t) rs ident
  unfolding declared
  decl_bad n t (decls.Machine machine) fits ident goes = absurd goes
  decl_bad n t (decls.Kernel number limits) fits ident goes = absurd goes
  decl_bad n t (decls.Right kernel group read write) fits ident goes =
      let g : Grant = record { kernel = kernel; group = group; read = read; write = write } in
      let row = goes.2.row in
      let frame : Frame = record { 0 = group * 128 + goes.0 } in
      let is = its_row ident row goes.2.loaded in
      elim (or_cases (lacks_rows (after_grant s g) rs frame && row.flags.m) (not (is_fit_row (after_grant s g) row)) goes.2.passing) [
        | inr unfit ↦ unfit_bad ident row goes.2.loaded (with_thread (after_grant s g) n t) is (not-true (is_fit_row (after_grant s g) row) unfit)
        | inl both ↦
            let parts = and_parts (lacks_rows (after_grant s g) rs frame) row.flags.m both in
            let lacking = any_of (λ (x : Row). is_fit_row (after_grant s g) x && is_absent rs x) (filter (is_signal_row_of frame) s.rows) parts.0 in
            let kept = Contains-filter (is_signal_row_of frame) s.rows lacking.0 lacking.1 in
            let fit_absent = and_parts (is_fit_row (after_grant s g) lacking.0) (is_absent rs lacking.0) lacking.2 in
            let signals = subst (λ (f : Frame). is_signal_row_of f lacking.0 ≡ true) (sym goes.2.on) kept.1 in
            message_bad ident row goes.2.loaded (with_thread (after_grant s g) n t) is parts.1 lacking.0 kept.0 signals fit_absent.0 (absent_is c one lacking.0 fit_absent.1)
      ]
  decl_bad n t (decls.Space number kernel) fits ident goes = absurd goes
  decl_bad n t (decls.Thread number in_space pc priority a0 a1) fits ident goes = absurd goes
  decl_bad n t (decls.Map to page frame flags None) fits ident goes = absurd goes
  decl_bad n t (decls.Map to page frame flags (Some receiver)) fits ident goes =
      let new : Row = new_row to page frame flags (Some receiver) in
      let row = goes.1.row in
      let w : FlatState = with_thread (record s { rows = s.rows ++ new ∷ [] }) n t in
      let framed : (frame.0 == row.frame.0) ≡ true = eq-eqb frame.0 row.frame.0 (ap (λ (f : Frame). f.0) (sym goes.1.on)) in
      message_bad ident row goes.1.loaded w (find_before (is_row_of row.space row.vpn.0) s.rows (new ∷ []) row (its_row ident row goes.1.loaded)) goes.1.passing new (Contains-push s.rows new)
      (and_from (frame.0 == row.frame.0) true framed refl) goes.0
      (not_good s rs (name.Mapping to page) good (no_row s to page (fresh_row to page frame flags (Some receiver) fits)))
  decl_bad n t (decls.Word frame offset value) fits ident goes = absurd goes

  -- what leaves for what is asked is bad then
  pub asked_bad : (n : ℕ) (t : FlatThread) (asked : Asked) → CanBeDone s asked → (ident : Ident) → GoesFor m asked ident → IsBadAs (after_asked s n t asked) rs ident
  asked_bad n t Nothing done ident goes = absurd goes
  asked_bad n t (Refused rule) done ident goes = absurd goes
  asked_bad n t (Declares d answer) done ident goes = decl_bad n (answered t answer) d done ident goes
  asked_bad n t (Unmaps space vpn) done ident goes = record {
    resident = goes.0;
    there = goes.1;
    its = goes.2;
    row = ap (λ (i : Ident). i.kind) (sym goes.2) ∙ resident_kind c one.sound goes.0 goes.1 ∙ ap kind_of goes.3;
    why = inl (ap (stands (after_asked s n t (Unmaps space vpn))) goes.3 ∙ row_gone s space vpn n (answered t 0));
  }

  -- so those that leave are all that is bad then
  pub all_bad : (whom : ThreadNo) (t : FlatThread) (asked : Asked) → CanBeDone s asked → after_completion s whom.0 ≡ Some (after_asked s whom.0 t asked) → (idents : List Ident) → ((i : Ident) → Contains idents i ↔ GoesFor m asked i) → AreBad (applied s (Complete whom)) rs idents
  all_bad whom t asked done comes idents are =
      let is : applied s (Complete whom) ≡ after_asked s whom.0 t asked = ap (λ (o : Option FlatState). unwrap_or o s) comes in
      let keeps : Keeps s (after_asked s whom.0 t asked) = subst (Keeps s) is (event_keeps s (Complete whom)) in
      record {
        bad = λ ident there. subst (λ (w : FlatState). IsBadAs w rs ident) (sym is) (asked_bad whom.0 t asked done ident ((are ident).0 there));
        others = λ r there never. subst (λ (w : FlatState). StaysGood w rs r) (sym is) (others_good whom.0 t asked keeps r there (λ goes. never ((are r.ident).1 goes)));
      }

-- ---- what may be asked for

-- a row that may be declared is of a space that there is, and of a frame that a memory can have
pub map_placed : (s : FlatState) → IsWellFormed s → (space : SpaceNo) (vpn : Vpn) (frame : Frame) (flags : Flags) (receiver : Option ThreadNo) → broken_rule s (decls.Map space vpn frame flags receiver) ≡ None → (space.0 < length s.spaces) × (frame.0 < 2048)
unfolding declared
map_placed s formed space vpn frame flags receiver fits =
    let new : Row = new_row space vpn frame flags receiver in
    row_known (declared s (decls.Map space vpn frame flags receiver)) (row_formed s space vpn frame flags receiver formed fits) new (Contains-push s.rows new)

-- rights may be declared on groups that there are, of which there are 16 at most
pub right_placed : (s : FlatState) → IsWellFormed s → (kernel : KernelNo) (group : ℕ) (read write : Bool) → broken_rule s (decls.Right kernel group read write) ≡ None → group < 16
unfolding broken_rule
right_placed s formed kernel group read write fits =
    let rule = other_rule s.machine s (decls.Right kernel group read write) refl fits in
    let there = breaks_none (nat_le (length s.kernels) kernel.0) 12 _ rule in
    let within = breaks_none (nat_le (groups_of s.machine) group) 13 _ there.1 in
    let low = leb-false (groups_of s.machine) group within.0 in
    let few = formed.memory.groups in
    omega arith
