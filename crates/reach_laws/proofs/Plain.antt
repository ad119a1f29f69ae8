-- A row with neither receiver nor flag m stays loaded while threads of its space are loaded.
use Rattle.std.proofs.Common.{◌≡◌, ℕ, Bool, false, List, [], ◌∷◌, ◌++◌, length, map, Contains, Option, Some, None, slice_get, sym, ap, ◌∙◌, subst, inl, inr}
use Rattle.std.specs.Prelude.{◌&&◌, if◌then◌else◌, filter, Ok, Err, Result, option_to_list}
use Rattle.std.specs.Option.{option_map}
use Rattle.cache_ident.specs.declared.idents.Ident.{Ident}
use Rattle.cache_ident.specs.declared.idents.Kind.TheVariants as kind
use Rattle.cache_ident.specs.declared.names.KernelNo.{KernelNo}
use Rattle.cache_ident.specs.declared.names.Name.{Name}
use Rattle.cache_ident.specs.declared.names.Name.TheVariants as name
use Rattle.cache_ident.specs.declared.names.SpaceNo.{SpaceNo}
use Rattle.cache_ident.specs.declared.names.ThreadNo.{ThreadNo}
use Rattle.cache_ident.specs.declared.names.Vpn.{Vpn}
use Rattle.cache_ident.specs.Names.{kind_of}
use Rattle.cache_ident.specs.Residents.{Resident, IsNameResident, IsResident}
use Rattle.phys_groups.specs.declared.rows.Row.{Row}
use Rattle.phys_groups.specs.Rows.{row_name}
use Rattle.phys_groups.specs.Translation.{row_of}
use Rattle.board_calls.specs.signal_pages.specs.Signals.{is_signal_row_of}
use Rattle.board_calls.specs.flat_laws.proofs.Members.{Contains-behind, Contains-cases, Contains-here, contains_nothing}
use Rattle.board_calls.specs.flat_state.specs.Dependence.{parents, parents_of_found, signal_rows_of, Depends}
use Rattle.board_calls.specs.flat_state.specs.State.{FlatState}
use Rattle.board_calls.specs.flat_state.specs.Translation.{is_fit_row}
use Rattle.board_calls.specs.desc_stores.specs.Contents.{residents_of}
use Rattle.board_calls.specs.desc_stores.specs.Sound.{IsExactlyOne}
use Rattle.board_calls.specs.desc_parents.specs.Seen.{seen}
use Rattle.board_calls.specs.desc_tables.proofs.Remaining.{KeepsParentsOfKept}
use Rattle.board_calls.specs.shown_state.specs.Shown.{shown}
use Rattle.board_calls.specs.store_residents.proofs.ResidentLemmas.{one_each, resident_kind}
use Rattle.board_calls.specs.board_laws.specs.Moves.{IsLoad}
use Rattle.board_calls.specs.board_ops.specs.declared.refusals.Refused.{Refused}
use Rattle.board_calls.specs.cached_machine.specs.Cached.{state_of}
use Rattle.board_calls.specs.board_core.specs.Core.{contents_of, IsSound, Recorded}
use Rattle.board_calls.specs.board_core.specs.Growth.{IsRoomMade}
use Rattle.board_calls.specs.board_loads.specs.Loads.{IsLoadedAs}
use Rattle.board_calls.specs.board_loads.proofs.GoneLaws.{kept_is_there}
use Rattle.owner_laws.specs.owners.specs.Owning.{IsThreadOf}
use Rattle.reach_laws.specs.Reaching.{IsLoadAnswer, IsPlainLoaded}
use Rattle.reach_laws.proofs.Keeping.{live_still, row_near, row_space, thread_near, was_absent}
use Rattle.reach_laws.proofs.Showing.{space_depends}

-- ---- a load of what is loaded is refused, and nothing leaves

module _ (refusal : Option Refused) (n : Name) (old new : Recorded) (sound : IsSound old) (here : IsNameResident (residents_of (contents_of old)) n) where
  pub loaded_stays : (answer : Result Ident Refused) → IsLoadAnswer refusal n old new answer → (its : Ident) (m : Name) → IsResident (residents_of (contents_of old)) its m → IsResident (residents_of (contents_of new)) its m
  loaded_stays (Ok ident) a its m live = absurd (was_absent 0 n ident old new sound a.made here)
  loaded_stays (Err why) a its m live = live_still old new a.refused.only its m live

-- ---- what a loaded row depends on is loaded

module _ (b : Recorded) (sound : IsSound b) (space : SpaceNo) (vpn : Vpn) (row : Row) (here : row_of (state_of b.machine).rows space vpn.0 ≡ Some row) (live : IsNameResident (residents_of (contents_of b)) (name.Mapping space vpn)) where
  pub its_space_loaded : IsNameResident (residents_of (contents_of b)) (name.Space space)
  its_space_loaded = (sound.tables.1.whole.good live.0 live.1).parents (name.Space space) (subst (λ (m : Name). Depends (seen (contents_of b)) m (name.Space space)) (sym live.2) (row_near b space vpn row here))

  pub its_kernel_loaded : (kernel : KernelNo) → slice_get (state_of b.machine).spaces space.0 ≡ Some kernel → IsNameResident (residents_of (contents_of b)) (name.Kernel kernel)
  unfolding shown
  its_kernel_loaded kernel its =
      let up = its_space_loaded in
      (sound.tables.1.whole.good up.0 up.1).parents (name.Kernel kernel) (subst (λ (m : Name). Depends (seen (contents_of b)) m (name.Kernel kernel)) (sym up.2) (space_depends (seen (contents_of b)) space kernel its))

-- ---- a load of a thread

module _ (cpu : ℕ) (thread : ThreadNo) (ident : Ident) (old new : Recorded) (sound : IsSound old) (load : IsLoadedAs cpu (name.Thread thread) ident old new)
    (space : SpaceNo) (is : IsThreadOf (state_of old.machine) space thread) (vpn : Vpn) (row : Row) (here : row_of (state_of old.machine).rows space vpn.0 ≡ Some row) (alone : row.receiver ≡ None) (plain : row.flags.m ≡ false)
    (its : Ident) (live : IsResident (residents_of (contents_of old)) its (name.Mapping space vpn)) where
  abbrev rs : List Resident
  rs = residents_of (contents_of old)

  one_now : IsExactlyOne (contents_of old)
  one_now = sound.tables.1.whole.one

  -- it depends on its space alone
  space_only : (parent : Name) → Depends (seen (contents_of old)) (name.Mapping space vpn) parent → name.Space space ≡ parent
  unfolding parents shown
  space_only parent depends =
      let s : FlatState = seen (contents_of old) in
      let found : Contains (parents_of_found s (Some row)) parent = subst (λ (x : Option Row). Contains (parents_of_found s x) parent) here depends in
      let none : option_to_list (option_map name.Thread row.receiver) ++ map row_name (signal_rows_of s row) ≡ [] =
      ap (λ (r : Option ThreadNo). option_to_list (option_map name.Thread r) ++ map row_name (signal_rows_of s row)) alone
      ∙ ap (λ (m : Bool). map row_name (if m then filter (λ (other : Row). is_signal_row_of row.frame other && is_fit_row s other) s.rows else [])) plain in
      elim (Contains-cases (name.Space row.space) [] parent (subst (λ (ns : List Name). Contains (name.Space row.space ∷ ns) parent) none found)) [
        | inl same ↦ ap name.Space (sym (row_space old space vpn row here)) ∙ same
        | inr nothing ↦ absurd (contains_nothing parent nothing)
      ]

  -- so it may be kept beside what the thread depends on
  abbrev keep : List Ident
  keep = its ∷ load.keep

  closed : KeepsParentsOfKept (seen (contents_of old)) rs keep
  closed r parent there kept parent_there depends = elim (Contains-cases its load.keep r.ident kept) [
    | inl same ↦
        let it : r ≡ live.0 = (one_each (contents_of old) one_now).idents r live.0 there live.1 (sym same ∙ sym live.2) in
        let named : r.name ≡ name.Mapping space vpn = ap (λ (x : Resident). x.name) it ∙ live.3 in
        let up : name.Space space ≡ parent.name = space_only parent.name (subst (λ (m : Name). Depends (seen (contents_of old)) m parent.name) named depends) in
        Contains-behind its load.keep parent.ident (load.may.kept.direct parent parent_there (subst (λ (m : Name). Depends (seen (contents_of old)) (name.Thread thread) m) up (thread_near old space thread is)))
    | inr behind ↦ Contains-behind its load.keep parent.ident (load.may.kept.closed r parent there behind parent_there depends)
  ]

  -- it is no thread, and so is none that leaves first
  no_thread : (r : Resident) → r.ident.kind ≡ kind.Thread → its ≡ r.ident → ⊥
  no_thread r of_kind same =
      let row_kind : live.0.ident.kind ≡ kind.Mapping = resident_kind (contents_of old) one_now.sound live.0 live.1 ∙ ap kind_of live.3 in
      let clash : kind.Mapping ≡ kind.Thread = sym row_kind ∙ ap (λ (i : Ident). i.kind) (live.2 ∙ same) ∙ of_kind in
      cc

  beside : IsLoad old.machine.held.caps (contents_of old) (contents_of new) (name.Thread thread) keep (length old.journal.entries) new.machine.held.gone ident
  beside =
      let l = load.load in
      record {
        displaced = λ full.
            let d = l.displaced full in
            let may = d.1.may_go in (
              d.0,
              record {
                there = d.1.there;
                may_go = record {
                  of_kind = may.of_kind;
                  unlocked = may.unlocked;
                  not_kept = λ kept. elim (Contains-cases its load.keep d.0.ident kept) [
                    | inl same ↦ no_thread d.0 may.of_kind same
                    | inr behind ↦ may.not_kept behind
                  ];
                };
                oldest = λ other there go. d.1.oldest other there (record { of_kind = go.of_kind; unlocked = go.unlocked; not_kept = λ kept. go.not_kept (Contains-behind its load.keep other.ident kept) });
              },
              d.2,
            );
        nothing = l.nothing;
        causes = l.causes;
        own = l.own;
        free = l.free;
        lowest = l.lowest;
        within = l.within;
        residents = l.residents;
        issued = l.issued;
        shows = l.shows;
      }

  pub plain_stays : IsResident (residents_of (contents_of new)) its (name.Mapping space vpn)
  plain_stays = (
    live.0,
    kept_is_there old.machine.held.caps (contents_of old) sound.tables.0 sound.tables.1.whole (contents_of new) (name.Thread thread) keep (length old.journal.entries) new.machine.held.gone ident beside closed live.0 live.1
        (subst (Contains keep) (sym live.2) (Contains-here its load.keep)),
    live.2,
    live.3,
  )

-- ---- whatever owners load in its space

plain_where : (b c : Recorded) (space : SpaceNo) (vpn : Vpn) (is : IsPlainLoaded b space vpn) → state_of c.machine ≡ state_of b.machine → IsResident (residents_of (contents_of c)) is.ident (name.Mapping space vpn) → IsPlainLoaded c space vpn
plain_where b c space vpn is same live = record {
  row = is.row;
  here = ap (λ (s : FlatState). row_of s.rows space vpn.0) same ∙ is.here;
  alone = is.alone;
  plain = is.plain;
  ident = is.ident;
  live = live;
}

pub plain_still : (old new : Recorded) → IsRoomMade old new → (space : SpaceNo) (vpn : Vpn) → IsPlainLoaded old space vpn → IsPlainLoaded new space vpn
plain_still old new room space vpn is = plain_where old new space vpn is room.only.state (live_still old new room is.ident (name.Mapping space vpn) is.live)

module _ (refusal : Option Refused) (old new : Recorded) (sound : IsSound old) (space : SpaceNo) (vpn : Vpn) (is : IsPlainLoaded old space vpn) where
  loaded : IsNameResident (residents_of (contents_of old)) (name.Mapping space vpn)
  loaded = (is.live.0, is.live.1, is.live.3)

  -- of what is loaded already nothing comes
  pub plain_beside : (n : Name) → IsNameResident (residents_of (contents_of old)) n → (answer : Result Ident Refused) → IsLoadAnswer refusal n old new answer → IsPlainLoaded new space vpn
  plain_beside n here (Ok ident) a = absurd (was_absent 0 n ident old new sound a.made here)
  plain_beside n here (Err why) a = plain_still old new a.refused.only space vpn is

  pub plain_kernel : (kernel : KernelNo) → slice_get (state_of old.machine).spaces space.0 ≡ Some kernel → (answer : Result Ident Refused) → IsLoadAnswer refusal (name.Kernel kernel) old new answer → IsPlainLoaded new space vpn
  plain_kernel kernel its answer a = plain_beside (name.Kernel kernel) (its_kernel_loaded old sound space vpn is.row is.here loaded kernel its) answer a

  pub plain_space : (answer : Result Ident Refused) → IsLoadAnswer refusal (name.Space space) old new answer → IsPlainLoaded new space vpn
  plain_space answer a = plain_beside (name.Space space) (its_space_loaded old sound space vpn is.row is.here loaded) answer a

  pub plain_thread : (thread : ThreadNo) → IsThreadOf (state_of old.machine) space thread → (answer : Result Ident Refused) → IsLoadAnswer refusal (name.Thread thread) old new answer → IsPlainLoaded new space vpn
  plain_thread thread mine (Ok ident) a = plain_where old new space vpn is a.made.state (plain_stays 0 thread ident old new sound a.made space mine vpn is.row is.here is.alone is.plain is.ident is.live)
  plain_thread thread mine (Err why) a = plain_still old new a.refused.only space vpn is
