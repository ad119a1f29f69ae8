-- What a load keeps, and what a refusal does.
use Rattle.std.proofs.Common.{◌≡◌, ℕ, List, [], ◌∷◌, ◌++◌, Contains, Option, Some, count_by, slice_get, refl, sym, ap, ◌∙◌, subst, arith}
use Rattle.std.specs.Prelude.{◌==◌, option_to_list, Ok, Err, Result, map}
use Rattle.std.specs.Option.{option_map}
use Rattle.std.proofs.lemmas.Bool.{and_parts, eqb-true}
use Rattle.cache_ident.proofs.Numbers.{same_space}
use Rattle.cache_ident.specs.declared.idents.Ident.{Ident}
use Rattle.cache_ident.specs.declared.names.KernelNo.{KernelNo}
use Rattle.cache_ident.specs.declared.names.Name.{Name}
use Rattle.cache_ident.specs.declared.names.Name.TheVariants as name
use Rattle.cache_ident.specs.declared.names.SpaceNo.{SpaceNo}
use Rattle.cache_ident.specs.declared.names.ThreadNo.{ThreadNo}
use Rattle.cache_ident.specs.declared.names.Vpn.{Vpn}
use Rattle.cache_ident.specs.Residents.{Resident, IsNameResident, IsResident}
use Rattle.phys_groups.specs.declared.rows.Row.{Row}
use Rattle.phys_groups.specs.Rows.{row_name}
use Rattle.phys_groups.specs.Translation.{is_row_of, row_of}
use Rattle.board_calls.specs.flat_laws.proofs.Members.{Contains-here}
use Rattle.board_calls.specs.flat_state.specs.Dependence.{directly, further, parents, parents_of_found, signal_rows_of, Depends, DependsFar}
use Rattle.board_calls.specs.flat_state.specs.State.{FlatState}
use Rattle.board_calls.specs.flat_state.proofs.Finding.{find-passes}
use Rattle.board_calls.specs.run_journal.specs.declared.entries.Entry.{Entry}
use Rattle.board_calls.specs.run_journal.specs.declared.entries.Entry.TheVariants.{Loaded}
use Rattle.board_calls.specs.run_journal.specs.Entries.{is_step, steps_in}
use Rattle.board_calls.specs.flat_state.specs.declared.events.Event.{Event}
use Rattle.board_calls.specs.run_journal.proofs.Growth.{steps-append}
use Rattle.board_calls.specs.desc_stores.specs.Contents.{residents_of}
use Rattle.board_calls.specs.desc_parents.specs.Seen.{seen}
use Rattle.board_calls.specs.shown_state.specs.Shown.{shown}
use Rattle.board_calls.specs.store_residents.proofs.ContentLemmas.{shelved_iff}
use Rattle.board_calls.specs.board_laws.specs.Moves.{written_back}
use Rattle.board_calls.specs.board_ops.specs.declared.refusals.Refused.{Refused}
use Rattle.board_calls.specs.cached_machine.specs.Cached.{state_of}
use Rattle.board_calls.specs.board_core.specs.Core.{contents_of, IsSound, Recorded}
use Rattle.board_calls.specs.board_core.specs.Growth.{IsRoomMade}
use Rattle.board_calls.specs.board_core.proofs.RoomLaws.{same_residents}
use Rattle.board_calls.specs.board_loads.specs.Loads.{IsLoadedAs}
use Rattle.board_calls.specs.board_loads.proofs.GoneLaws.{erase_load}
use Rattle.owner_laws.specs.answer_laws.proofs.KeptParents.{all_kept}
use Rattle.owner_laws.specs.owners.specs.Known.{Known}
use Rattle.owner_laws.specs.owners.specs.Owning.{IsThreadOf}
use Rattle.reach_laws.specs.Reaching.{IsLoadAnswer, IsReached}
use Rattle.reach_laws.proofs.Showing.{space_depends, thread_depends}

-- ---- what the contents show without a memory

pub seen_spaces : (b : Recorded) → (seen (contents_of b)).spaces ≡ (state_of b.machine).spaces
unfolding shown
seen_spaces b = refl

pub seen_threads : (b : Recorded) → (seen (contents_of b)).threads ≡ (state_of b.machine).threads
unfolding shown
seen_threads b = refl

pub seen_rows : (b : Recorded) → (seen (contents_of b)).rows ≡ (state_of b.machine).rows
unfolding shown
seen_rows b = refl

pub seen_kernels : (b : Recorded) → (seen (contents_of b)).kernels ≡ (state_of b.machine).kernels
unfolding shown
seen_kernels b = refl

-- ---- dependence, as the contents show it

module _ (b : Recorded) where
  pub space_far : (space : SpaceNo) (kernel : KernelNo) → slice_get (state_of b.machine).spaces space.0 ≡ Some kernel → DependsFar (seen (contents_of b)) (name.Space space) (name.Kernel kernel)
  unfolding shown
  space_far space kernel its = directly {parent = name.Kernel kernel} (space_depends (seen (contents_of b)) space kernel its)

  module _ (space : SpaceNo) (thread : ThreadNo) (is : IsThreadOf (state_of b.machine) space thread) where
    pub thread_near : Depends (seen (contents_of b)) (name.Thread thread) (name.Space space)
    unfolding shown
    thread_near = thread_depends (seen (contents_of b)) space thread is

    pub thread_far : DependsFar (seen (contents_of b)) (name.Thread thread) (name.Space space)
    thread_far = directly {parent = name.Space space} thread_near

    pub thread_further : (kernel : KernelNo) → slice_get (state_of b.machine).spaces space.0 ≡ Some kernel → DependsFar (seen (contents_of b)) (name.Thread thread) (name.Kernel kernel)
    unfolding shown
    thread_further kernel its = further {between = name.Space space} {parent = name.Kernel kernel} thread_far (space_depends (seen (contents_of b)) space kernel its)

  module _ (space : SpaceNo) (vpn : Vpn) (row : Row) (here : row_of (state_of b.machine).rows space vpn.0 ≡ Some row) where
    pub row_space : row.space ≡ space
    unfolding shown
    row_space = same_space row.space space (eqb-true row.space.0 space.0 (and_parts (row.space.0 == space.0) (row.vpn.0 == vpn.0) (find-passes (is_row_of space vpn.0) (state_of b.machine).rows row here)).0)

    pub row_near : Depends (seen (contents_of b)) (name.Mapping space vpn) (name.Space space)
    unfolding parents shown
    row_near =
        let s : FlatState = seen (contents_of b) in
        let rest = option_to_list (option_map name.Thread row.receiver) ++ map row_name (signal_rows_of s row) in
        subst (λ (o : Option Row). Contains (parents_of_found s o) (name.Space space)) (sym here)
        (subst (λ (x : SpaceNo). Contains (name.Space row.space ∷ rest) (name.Space x)) row_space (Contains-here (name.Space row.space) rest))

    pub row_far : DependsFar (seen (contents_of b)) (name.Mapping space vpn) (name.Space space)
    row_far = directly {parent = name.Space space} row_near

    pub row_further : (kernel : KernelNo) → slice_get (state_of b.machine).spaces space.0 ≡ Some kernel → DependsFar (seen (contents_of b)) (name.Mapping space vpn) (name.Kernel kernel)
    unfolding shown
    row_further kernel its = further {between = name.Space space} {parent = name.Kernel kernel} row_far (space_depends (seen (contents_of b)) space kernel its)

-- ---- a refusal

module _ (old new : Recorded) (room : IsRoomMade old new) where
  pub live_still : (ident : Ident) (n : Name) → IsResident (residents_of (contents_of old)) ident n → IsResident (residents_of (contents_of new)) ident n
  live_still ident n live = subst (λ (rs : List Resident). IsResident rs ident n) (sym (same_residents old new room)) live

  pub reached_still : (o : Known) (space : SpaceNo) → IsReached old o space → IsReached new o space
  reached_still o space reached = record {
    kernel = reached.kernel;
    its = ap (λ (s : FlatState). slice_get s.spaces space.0) room.only.state ∙ reached.its;
    caller = reached.caller;
    caller_known = reached.caller_known;
    caller_live = live_still reached.caller (name.Kernel reached.kernel) reached.caller_live;
    parent = reached.parent;
    parent_known = reached.parent_known;
    parent_live = live_still reached.parent (name.Space space) reached.parent_live;
  }

-- ---- a load

module _ (cpu : ℕ) (n : Name) (ident : Ident) (old new : Recorded) (sound : IsSound old) (load : IsLoadedAs cpu n ident old new) where
  pub live_kept : (its : Ident) (m : Name) → IsResident (residents_of (contents_of old)) its m → DependsFar (seen (contents_of old)) n m → IsResident (residents_of (contents_of new)) its m
  live_kept its m live far = (live.0, all_kept cpu n ident old new sound load live.0 live.1 (subst (DependsFar (seen (contents_of old)) n) (sym live.3) far), live.2, live.3)

  -- what is reached stays so, where all that was loaded depends on it
  pub reached_kept : (o : Known) (space : SpaceNo) (reached : IsReached old o space) → DependsFar (seen (contents_of old)) n (name.Space space) → DependsFar (seen (contents_of old)) n (name.Kernel reached.kernel) → IsReached new o space
  reached_kept o space reached near far = record {
    kernel = reached.kernel;
    its = ap (λ (s : FlatState). slice_get s.spaces space.0) load.state ∙ reached.its;
    caller = reached.caller;
    caller_known = reached.caller_known;
    caller_live = live_kept reached.caller (name.Kernel reached.kernel) reached.caller_live far;
    parent = reached.parent;
    parent_known = reached.parent_known;
    parent_live = live_kept reached.parent (name.Space space) reached.parent_live near;
  }

  -- it wasn't loaded before
  pub was_absent : IsNameResident (residents_of (contents_of old)) n → ⊥
  was_absent = ((shelved_iff (contents_of old) sound.tables.1.whole.one n).0 load.may.shelved).1

  -- no step was taken
  pub steps_stay : IsSound new → new.steps ≡ old.steps
  steps_stay after =
      let es : List Entry = written_back cpu new.machine.held.gone ++ Loaded ident n cpu ∷ [] in
      let none : steps_in es ≡ 0 = ap (λ (events : List Event). count_by is_step events) (erase_load cpu new.machine.held.gone ident n) in
      let grown = ap steps_in load.entries.entries ∙ steps-append old.journal.entries es in
      let before = sound.steps in
      let now = after.steps in
      omega (arith, none, grown, before, now)

-- ---- an answer to a load

module _ (refusal : Option Refused) (n : Name) (old new : Recorded) (sound : IsSound old) where
  pub live_after : (answer : Result Ident Refused) → IsLoadAnswer refusal n old new answer → (its : Ident) (m : Name) → IsResident (residents_of (contents_of old)) its m → DependsFar (seen (contents_of old)) n m → IsResident (residents_of (contents_of new)) its m
  live_after (Ok ident) a its m live far = live_kept 0 n ident old new sound a.made its m live far
  live_after (Err why) a its m live far = live_still old new a.refused.only its m live

  pub reached_after : (answer : Result Ident Refused) → IsLoadAnswer refusal n old new answer → (o : Known) (space : SpaceNo) (reached : IsReached old o space) → DependsFar (seen (contents_of old)) n (name.Space space) → DependsFar (seen (contents_of old)) n (name.Kernel reached.kernel) → IsReached new o space
  reached_after (Ok ident) a o space reached near far = reached_kept 0 n ident old new sound a.made o space reached near far
  reached_after (Err why) a o space reached near far = reached_still old new a.refused.only o space reached
