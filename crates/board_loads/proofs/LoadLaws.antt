-- What a load did behind room that was made, it did to the board as it was before.
use Rattle.std.proofs.Common.{◌≡◌, ℕ, ◌<◌, ◌≤◌, ◌+◌, List, [], ◌∷◌, ◌++◌, Contains, Option, Some, None, Result, Ok, Err, length, refl, sym, ◌∙◌, ap, subst, arith}
use Rattle.std.specs.Prelude.{IfOk, IsSome, OnOk}
use Rattle.std.specs.Option.{option_map}
use Rattle.std.specs.Result.{result_err}
use Rattle.std.proofs.lemmas.Option.{same_Some}
use Rattle.cache_ident.specs.declared.idents.Ident.{Ident}
use Rattle.cache_ident.specs.declared.idents.Kind.{Kind}
use Rattle.cache_ident.specs.declared.names.Caps.{Caps}
use Rattle.cache_ident.specs.declared.names.Name.{Name}
use Rattle.cache_ident.specs.declared.names.Name.TheVariants as name
use Rattle.cache_ident.specs.declared.names.SpaceNo.{SpaceNo}
use Rattle.cache_ident.specs.declared.names.ThreadNo.{ThreadNo}
use Rattle.cache_ident.specs.declared.names.Vpn.{Vpn}
use Rattle.cache_ident.specs.declared.rolls.Issued.{Issued}
use Rattle.cache_ident.specs.Names.{amount_of, kind_of}
use Rattle.cache_ident.specs.Residents.{with_loaded, Resident}
use Rattle.cache_ident.specs.Rolls.{just_issued}
use Rattle.board_checks.specs.depend_lists.specs.declared.nodes.Node.{Node}
use Rattle.board_checks.specs.flat_state.specs.Dependence.{Depends}
use Rattle.board_checks.specs.flat_state.specs.Names.{is_fit_name, stands}
use Rattle.board_checks.specs.flat_state.specs.Events.{after_events}
use Rattle.board_checks.specs.flat_state.specs.State.{FlatState}
use Rattle.board_checks.specs.run_journal.specs.declared.entries.Entry.TheVariants.{Loaded}
use Rattle.board_checks.specs.run_journal.specs.Groups.{HasParents, IsGroup}
use Rattle.board_checks.specs.run_journal.specs.Legal.{count_of, IsTaken}
use Rattle.board_core.specs.group_laws.specs.Leaving.{without_all}
use Rattle.board_checks.specs.desc_stores.specs.Contents.{content_of, residents_of, Contents, IsFullOf, IsShelved}
use Rattle.board_checks.specs.shown_state.proofs.LookupLemmas.{name_stands}
use Rattle.board_core.specs.store_residents.specs.Victims.{IsOldest}
use Rattle.board_core.specs.store_residents.proofs.ContentLemmas.{shelved_iff}
use Rattle.board_core.specs.store_residents.proofs.SlotLaws.{full_iff}
use Rattle.board_checks.specs.desc_parents.specs.Seen.{seen}
use Rattle.board_checks.specs.desc_groups.specs.declared.departures.Gone.{Gone}
use Rattle.board_checks.specs.desc_groups.specs.Moves.{departed_all, idents_of}
use Rattle.board_checks.specs.desc_tables.specs.May.{MayBeLoaded}
use Rattle.board_checks.specs.desc_tables.specs.Tables.{AreSound, Held}
use Rattle.board_core.specs.board_laws.specs.Moves.{written_back, IsLoad}
use Rattle.board_core.specs.cached_machine.specs.Cached.{state_of}
use Rattle.board_core.specs.cached_machine.specs.Posts.{mark_of, HasLoadedMarks}
use Rattle.board_core.specs.board_laws.proofs.Growing.{formed_told}
use Rattle.board_checks.specs.board_ops.specs.declared.refusals.Refused.{Refused}
use Rattle.board_checks.specs.Facts.{IsFormed}
use Rattle.board_checks.specs.Identifiers.{space_as}
use Rattle.board_checks.specs.Keeps.{IsLoadableBeside}
use Rattle.board_checks.specs.declared.loads.Loadable.{Loadable}
use Rattle.board_core.specs.Core.{contents_of, IsSound, Recorded}
use Rattle.board_core.specs.Growth.{GrowsBy, IsRoomMade}
use Rattle.board_loads.specs.Loads.{IsLoadedAs}
use Rattle.board_loads.proofs.GoneLaws.{erase_load, kept_is_there, loaded_there}
use Rattle.board_core.proofs.RoomLaws.{grows_before, loaded_marks_before, same_checkouts, same_entries, same_issued, same_residents, same_sealed, same_seen, same_shows}

-- what a board shows is as events can make it
formed : (b : Recorded) → IsSound b → IsFormed (contents_of b)
formed b sound = (Some b.machine.machine, b.machine.memory, formed_told b.machine.machine b.machine.memory (contents_of b) b.sealed b.journal.entries sound.told)

-- so it is of the tables that the board hands out
pub formed_held : (b : Recorded) → IsSound b → (held : Held) → held ≡ b.machine.held → IsFormed held.contents
formed_held b sound held same = subst (λ (h : Held). IsFormed h.contents) (sym same) (formed b sound)

module _ (old mid : Recorded) (room : IsRoomMade old mid) (were are : List (Ident × Node)) (was_sound : AreSound old.machine.held were) (sound : AreSound mid.machine.held are) where
  -- ---- what is asked

  has_still : (n : Name) → HasParents (seen (contents_of old)) (residents_of (contents_of old)) n → HasParents (seen (contents_of mid)) (residents_of (contents_of mid)) n
  has_still n has =
      subst (λ (s : FlatState). HasParents s (residents_of (contents_of mid)) n) (sym (same_seen old mid room))
      (subst (λ (rs : List Resident). HasParents (seen (contents_of old)) rs n) (sym (same_residents old mid room)) has)

  shelved_still : (n : Name) → IsShelved (contents_of old) n → IsShelved (contents_of mid) n
  shelved_still n shelved =
      let was = (shelved_iff (contents_of old) was_sound.whole.one n).0 shelved in
      let there : IsSome (content_of (contents_of mid) n) =
      sym (name_stands None [] (contents_of mid) sound.whole.one n)
      ∙ ap (λ (s : FlatState). stands s n) (same_seen old mid room)
      ∙ name_stands None [] (contents_of old) was_sound.whole.one n
      ∙ was.0 in
      (shelved_iff (contents_of mid) sound.whole.one n).1 (there, λ r. was.1 (r.0, subst (λ (rs : List Resident). Contains rs r.0) (same_residents old mid room) r.1, r.2))

  pub may_still : (n : Name) (keep : List Ident) → MayBeLoaded (contents_of old) n keep → MayBeLoaded (contents_of mid) n keep
  may_still n keep may = record {
    shelved = shelved_still n may.shelved;
    fit = ap (λ (s : FlatState). is_fit_name s n) (same_seen old mid room) ∙ may.fit;
    kept = record {
      has = has_still n may.kept.has;
      direct = λ r there depends. may.kept.direct r (was r there) (so n r.name depends);
      closed = λ r parent there kept parent_there depends. may.kept.closed r parent (was r there) kept (was parent parent_there) (so r.name parent.name depends);
      few = may.kept.few;
    };
  }
    where
      was : (r : Resident) → Contains (residents_of (contents_of mid)) r → Contains (residents_of (contents_of old)) r
      was r there = subst (λ (rs : List Resident). Contains rs r) (same_residents old mid room) there

      so : (a b : Name) → Depends (seen (contents_of mid)) a b → Depends (seen (contents_of old)) a b
      so a b depends = subst (λ (s : FlatState). Depends s a b) (same_seen old mid room) depends

  -- ---- what was done

  -- a cache that is full was full
  full_counts : (of : Kind) → count_of (residents_of (contents_of mid)) of ≡ count_of (residents_of (contents_of old)) of
  full_counts of = ap (λ (rs : List Resident). count_of rs of) (same_residents old mid room)

  full_sizes : (of : Kind) → amount_of mid.machine.held.caps of ≡ amount_of old.machine.held.caps of
  full_sizes of = ap (λ (caps : Caps). amount_of caps of) room.only.caps

  full_still : (of : Kind) → IsFullOf (contents_of old) of → IsFullOf (contents_of mid) of
  full_still of full =
      (full_iff (contents_of mid) sound.whole.one.sound of).1
      (full_counts of ∙ (full_iff (contents_of old) was_sound.whole.one.sound of).0 full ∙ was_sound.whole.sized of ∙ sym (full_sizes of) ∙ sym (sound.whole.sized of))

  full_before : (of : Kind) → IsFullOf (contents_of mid) of → IsFullOf (contents_of old) of
  full_before of full =
      (full_iff (contents_of old) was_sound.whole.one.sound of).1
      (sym (full_counts of) ∙ (full_iff (contents_of mid) sound.whole.one.sound of).0 full ∙ sound.whole.sized of ∙ full_sizes of ∙ sym (was_sound.whole.sized of))

  module _ (n : Name) (keep : List Ident) (ident : Ident) (new : Recorded) where
    abbrev gone : List Gone
    gone = new.machine.held.gone

    load_before : IsLoad mid.machine.held.caps (contents_of mid) (contents_of new) n keep (length mid.journal.entries) gone ident
        → IsLoad old.machine.held.caps (contents_of old) (contents_of new) n keep (length old.journal.entries) gone ident
    load_before load = record {
      displaced = λ full.
          let went = load.displaced (full_still (kind_of n) full) in (
            went.0,
            subst (λ (rs : List Resident). IsOldest rs (kind_of n) keep went.0) (same_residents old mid room) went.1,
            subst (λ (s : FlatState). IsGroup s (residents_of (contents_of old)) went.0 (idents_of gone)) (same_seen old mid room)
                (subst (λ (rs : List Resident). IsGroup (seen (contents_of mid)) rs went.0 (idents_of gone)) (same_residents old mid room) went.2),
          );
      nothing = λ none. load.nothing (λ full. none (full_before (kind_of n) full));
      causes = load.causes;
      own = subst (λ (issued : List Issued). ident ≡ record { kind = kind_of n; slot = ident.slot; serial = length issued }) (same_issued old mid room) load.own;
      free = subst (λ (rs : List Resident). IsTaken (without_all (idents_of gone) rs) (kind_of n) ident.slot → ⊥) (same_residents old mid room) load.free;
      lowest = subst (λ (rs : List Resident). (slot : ℕ) → slot < ident.slot → IsTaken (without_all (idents_of gone) rs) (kind_of n) slot) (same_residents old mid room) load.lowest;
      within = subst (λ (caps : Caps). ident.slot < amount_of caps (kind_of n)) room.only.caps load.within;
      residents = load.residents ∙ ap (λ (rs : List Resident). with_loaded ident n (without_all (idents_of gone) rs)) (same_residents old mid room);
      issued = load.issued
          ∙ ap (λ (issued : List Issued). departed_all issued (idents_of gone) (length mid.journal.entries) ++ just_issued ident ∷ []) (same_issued old mid room)
          ∙ ap (λ (at : ℕ). departed_all (contents_of old).issued (idents_of gone) at ++ just_issued ident ∷ []) (ap length (same_entries old mid room));
      shows = λ machine memory. load.shows machine memory ∙ same_shows old mid room machine memory;
    }

    -- loads and departures are no events
    same_state : (cpu : ℕ) → GrowsBy (written_back cpu gone ++ Loaded ident n cpu ∷ []) mid new → state_of new.machine ≡ state_of old.machine
    same_state cpu grows =
        grows.state
        ∙ ap (after_events (state_of mid.machine)) (erase_load cpu gone ident n)
        ∙ room.only.state

    pub loaded_before : (cpu : ℕ) → IsLoadableBeside (contents_of old) n keep
        → GrowsBy (written_back cpu gone ++ Loaded ident n cpu ∷ []) mid new
        → IsLoad mid.machine.held.caps (contents_of mid) (contents_of new) n keep (length mid.journal.entries) gone ident
        → HasLoadedMarks (contents_of mid) (contents_of new)
        → ((no : ThreadNo) → n ≡ name.Thread no → mark_of (contents_of new) no ≡ None)
        → new.sealed ≡ mid.sealed → new.checkouts ≡ mid.checkouts
        → (contents_of mid).spare ≤ (contents_of new).spare + 1
        → IsLoadedAs cpu n ident old new
    loaded_before cpu beside grows load marks unmarked sealed checkouts issues = let was = load_before load in record {
      keep = keep;
      may = beside.may;
      only = beside.only;
      entries = grows_before old mid room (written_back cpu gone ++ Loaded ident n cpu ∷ []) new grows;
      load = was;
      there = loaded_there old.machine.held.caps (contents_of old) were was_sound.whole (contents_of new) n keep (length old.journal.entries) gone ident was;
      stay = kept_is_there old.machine.held.caps (contents_of old) were was_sound.whole (contents_of new) n keep (length old.journal.entries) gone ident was beside.may.kept.closed;
      state = same_state cpu grows;
      marks = loaded_marks_before old mid room (contents_of new) marks;
      unmarked = unmarked;
      sealed = sealed ∙ same_sealed old mid room;
      checkouts = checkouts ∙ same_checkouts old mid room;
      spare = let more = room.only.spare in omega arith;
    }

-- a row that was loaded is that of the page in the space that was asked for
pub row_loaded : (c : Contents) (parent : Ident) (vpn : Vpn) (checked : Result Loadable Refused) (result : Result Ident Refused) (cpu : ℕ) (old new : Recorded)
    → IfOk checked (λ found. option_map (λ (space : SpaceNo). name.Mapping space vpn) (space_as c parent) ≡ Some found.name)
    → OnOk result (result_err checked ≡ None)
    → IfOk result (λ ident. IfOk checked (λ found. IsLoadedAs cpu found.name ident old new))
    → IfOk result (λ ident. (space : SpaceNo) × (space_as c parent ≡ Some space) × IsLoadedAs cpu (name.Mapping space vpn) ident old new)
row_loaded c parent vpn checked (Err w) cpu old new named done loaded = tt
row_loaded c parent vpn (Err w) (Ok ident) cpu old new named done loaded = absurd (cc)
row_loaded c parent vpn (Ok found) (Ok ident) cpu old new named done loaded = by (space_as c parent) refl named
  where
    by : (o : Option SpaceNo) → space_as c parent ≡ o → option_map (λ (space : SpaceNo). name.Mapping space vpn) o ≡ Some found.name → (space : SpaceNo) × (space_as c parent ≡ Some space) × IsLoadedAs cpu (name.Mapping space vpn) ident old new
    by None is none = absurd (cc)
    by (Some space) is same = (space, is, subst (λ (x : Name). IsLoadedAs cpu x ident old new) (sym (same_Some (name.Mapping space vpn) found.name same)) loaded)
