-- What an unload, a lock and the end of one did behind room that was made, they did to the board as it was before.
use Rattle.std.proofs.Common.{◌≡◌, ◌≢◌, ℕ, ◌<◌, Bool, true, List, Contains, Some, length, sym, ◌∙◌, ap, subst, arith}
use Rattle.std.proofs.lemmas.Option.{same_Some}
use Rattle.cache_ident.specs.declared.idents.Ident.{Ident}
use Rattle.cache_ident.specs.declared.names.Name.{Name}
use Rattle.cache_ident.specs.declared.rolls.Issued.{Issued}
use Rattle.cache_ident.specs.Names.{first_name}
use Rattle.cache_ident.specs.Residents.{with_lock, IsResident, Resident}
use Rattle.board_checks.specs.flat_state.specs.Dependence.{owner}
use Rattle.board_checks.specs.flat_state.specs.Events.{after_events}
use Rattle.board_checks.specs.flat_state.specs.State.{FlatState}
use Rattle.board_checks.specs.run_journal.specs.Groups.{IsGroup}
use Rattle.board_checks.specs.run_journal.specs.Legal.{first_ident, limit_of, locked_by}
use Rattle.board_checks.specs.desc_stores.specs.Contents.{resident_as, residents_of, Contents, LockIs}
use Rattle.board_core.specs.store_residents.proofs.ResidentLemmas.{resident_loaded}
use Rattle.board_checks.specs.shown_state.specs.Shown.{shown}
use Rattle.board_checks.specs.desc_parents.specs.Seen.{seen}
use Rattle.board_checks.specs.desc_groups.specs.Moves.{departed_all, idents_of, MayBeLocked}
use Rattle.board_core.specs.group_laws.specs.Leaving.{without_all}
use Rattle.board_core.specs.board_laws.specs.Moves.{written_back, IsLock, IsUnload}
use Rattle.board_core.specs.board_laws.proofs.First.{first, first_there}
use Rattle.board_core.specs.cached_machine.specs.Cached.{state_of}
use Rattle.board_core.specs.cached_machine.specs.Posts.{HasLoadedMarks, HasSameMarks}
use Rattle.board_core.specs.Core.{contents_of, IsSound, Recorded}
use Rattle.board_core.specs.Growth.{GrowsBy, IsRoomMade}
use Rattle.board_loads.specs.Holds.{entries_of_lock, IsLockedAs, IsUnloadedAs}
use Rattle.board_core.proofs.GrowthLaws.{erase_back}
use Rattle.board_core.proofs.RoomLaws.{grows_before, loaded_marks_before, same_checkouts, same_entries, same_issued, same_marks_before, same_residents, same_sealed, same_seen}

-- what is loaded with an identifier
loaded_as : (c : Contents) (ident : Ident) (r : Resident) → Contains (residents_of c) r → r.ident ≡ ident → resident_as c ident ≡ Some r
loaded_as c ident r there its = subst (λ (i : Ident). resident_as c i ≡ Some r) its (resident_loaded c r there)

-- the first identifier is that of the first kernel alone
pub another_ident : (b : Recorded) → IsSound b → b.sealed ≡ true → (ident : Ident) (n : Name) → IsResident (residents_of (contents_of b)) ident n → n ≢ first_name → ident ≢ first_ident
another_ident b sound sealed ident n r other is =
    let there = subst (λ (rs : List Resident). Contains rs (first true)) sound.told.residents (first_there b.journal.entries sound.told.legal (sound.told.seal ∙ sealed)).1 in
    let one : r.0 ≡ first true = same_Some r.0 (first true) (sym (loaded_as (contents_of b) first_ident r.0 r.1 (r.2 ∙ is)) ∙ resident_loaded (contents_of b) (first true) there) in
    other (sym r.3 ∙ ap (λ (x : Resident). x.name) one)

module _ (old mid : Recorded) (room : IsRoomMade old mid) (ident : Ident) (n : Name) (r : IsResident (residents_of (contents_of old)) ident n) where
  here : Contains (residents_of (contents_of mid)) r.0
  here = subst (λ (rs : List Resident). Contains rs r.0) (sym (same_residents old mid room)) r.1

  it_is : (x : Resident) → resident_as (contents_of mid) ident ≡ Some x → x ≡ r.0
  it_is x found = same_Some x r.0 (sym found ∙ loaded_as (contents_of mid) ident r.0 here r.2)

  -- ---- locks

  pub may_still : MayBeLocked (contents_of old) ident → MayBeLocked (contents_of mid) ident
  may_still may x kernel found unlocked owned =
      let same = it_is x found in
      let was = may r.0 kernel (loaded_as (contents_of old) ident r.0 r.1 r.2) (ap (λ (y : Resident). y.locked) (sym same) ∙ unlocked)
      (ap (λ (s : FlatState). owner s r.0.name) (sym (same_seen old mid room)) ∙ ap (λ (y : Resident). owner (seen (contents_of mid)) y.name) (sym same) ∙ owned) in
      subst (λ (s : FlatState). locked_by s (residents_of (contents_of mid)) kernel ident.kind < limit_of s kernel ident.kind) (sym (same_seen old mid room))
      (subst (λ (rs : List Resident). locked_by (seen (contents_of old)) rs kernel ident.kind < limit_of (seen (contents_of old)) kernel ident.kind) (sym (same_residents old mid room)) was)

  lock_as : LockIs (contents_of mid) ident r.0.locked
  lock_as x found = ap (λ (y : Resident). y.locked) (it_is x found)

  pub locked_before : (cpu : ℕ) (on : Bool) (new : Recorded)
      → ((was : Bool) → LockIs (contents_of mid) ident was → GrowsBy (entries_of_lock on was ident cpu) mid new)
      → IsLock (contents_of mid) (contents_of new) ident on
      → HasSameMarks (contents_of mid) (contents_of new)
      → new.sealed ≡ mid.sealed → new.checkouts ≡ mid.checkouts
      → IsLockedAs cpu ident on old new
  locked_before cpu on new grows lock marks sealed checkouts = record {
    found = r.0;
    there = r.1;
    its = r.2;
    entries = grows_before old mid room (entries_of_lock on r.0.locked ident cpu) new (grows r.0.locked lock_as);
    residents = lock.residents ∙ ap (with_lock ident on) (same_residents old mid room);
    issued = lock.issued ∙ same_issued old mid room;
    marks = same_marks_before old mid room (contents_of new) marks;
    sealed = sealed ∙ same_sealed old mid room;
    checkouts = checkouts ∙ same_checkouts old mid room;
    spare = let same = lock.contents.spare in let more = room.only.spare in omega arith;
  }

  -- ---- unloads

  pub unloaded_before : (cpu : ℕ) (new : Recorded)
      → GrowsBy (written_back cpu new.machine.held.gone) mid new
      → IsUnload (contents_of mid) (contents_of new) ident (length mid.journal.entries) new.machine.held.gone
      → HasLoadedMarks (contents_of mid) (contents_of new)
      → new.sealed ≡ mid.sealed → new.checkouts ≡ mid.checkouts
      → (contents_of new).spare ≡ (contents_of mid).spare
      → IsUnloadedAs cpu ident old new
  unloaded_before cpu new grows unload marks sealed checkouts issues = record {
    root = r.0;
    there = r.1;
    its = r.2;
    group = subst (λ (s : FlatState). IsGroup s (residents_of (contents_of old)) r.0 (idents_of new.machine.held.gone)) (same_seen old mid room)
        (subst (λ (rs : List Resident). IsGroup (seen (contents_of mid)) rs r.0 (idents_of new.machine.held.gone)) (same_residents old mid room) (unload.group r.0 here r.2));
    causes = unload.causes;
    entries = grows_before old mid room (written_back cpu new.machine.held.gone) new grows;
    residents = unload.residents ∙ ap (without_all (idents_of new.machine.held.gone)) (same_residents old mid room);
    issued = unload.issued
        ∙ ap (λ (issued : List Issued). departed_all issued (idents_of new.machine.held.gone) (length mid.journal.entries)) (same_issued old mid room)
        ∙ ap (departed_all (contents_of old).issued (idents_of new.machine.held.gone)) (ap length (same_entries old mid room));
    state = grows.state ∙ ap (after_events (state_of mid.machine)) (erase_back cpu new.machine.held.gone) ∙ room.only.state;
    marks = loaded_marks_before old mid room (contents_of new) marks;
    sealed = sealed ∙ same_sealed old mid room;
    checkouts = checkouts ∙ same_checkouts old mid room;
    spare = let more = room.only.spare in omega arith;
  }

-- ---- what the core says

pub core_unload : (cpu : ℕ) (ident : Ident) (old new : Recorded) → IsUnloadedAs cpu ident old new → IsUnload (contents_of old) (contents_of new) ident (length old.journal.entries) new.machine.held.gone
unfolding shown
core_unload cpu ident old new is = record {
  group = λ r there its.
      let one : r ≡ is.root = same_Some r is.root (sym (loaded_as (contents_of old) ident r there its) ∙ loaded_as (contents_of old) ident is.root is.there is.its) in
      subst (λ (x : Resident). IsGroup (seen (contents_of old)) (residents_of (contents_of old)) x (idents_of new.machine.held.gone)) (sym one) is.group;
  causes = is.causes;
  residents = is.residents;
  issued = is.issued;
  shows = λ machine memory. ap (λ (s : FlatState). let x : FlatState = record s { machine = machine; memory = memory } in x) is.state;
}

pub core_lock : (cpu : ℕ) (ident : Ident) (on was : Bool) (old new : Recorded) → IsLockedAs cpu ident on old new → LockIs (contents_of old) ident was → GrowsBy (entries_of_lock on was ident cpu) old new
core_lock cpu ident on was old new is locked =
    subst (λ (b : Bool). GrowsBy (entries_of_lock on b ident cpu) old new) (locked is.found (loaded_as (contents_of old) ident is.found is.there is.its)) is.entries
