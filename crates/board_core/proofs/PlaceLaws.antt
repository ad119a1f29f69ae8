-- Loads, departures and locks, with their entries.
use Rattle.std.proofs.Common.{◌≡◌, ◌≢◌, ℕ, ◌+◌, ◌<◌, ◌≤◌, ◌^◌, Bool, true, false, List, [], ◌∷◌, ◌++◌, length, Contains, Some, refl, ap, sym, ◌∙◌, subst, inl, inr, arith}
use Rattle.std.specs.Prelude.{count_by}
use Rattle.std.proofs.lemmas.Bool.{cases_lt}
use Rattle.std.proofs.lemmas.List.{append-nil, length-map}
use Rattle.cache_ident.specs.declared.idents.Ident.{Ident}
use Rattle.cache_ident.specs.declared.idents.Standing.TheVariants.{Live}
use Rattle.cache_ident.specs.declared.names.Caps.{Caps}
use Rattle.cache_ident.specs.declared.names.Name.{Name}
use Rattle.cache_ident.specs.Rolls.{standing_in}
use Rattle.board_ops.specs.depend_lists.specs.declared.nodes.Node.{Node}
use Rattle.run_journal.specs.declared.entries.Entry.{Entry}
use Rattle.run_journal.specs.declared.entries.Entry.TheVariants.{Loaded, Locked, Unlocked}
use Rattle.run_journal.specs.Entries.{Written}
use Rattle.run_journal.specs.Legal.{first_ident}
use Rattle.cached_machine.specs.group_laws.proofs.LockCounts.{locked_already}
use Rattle.cached_machine.specs.desc_stores.specs.Contents.{residents_of, Contents, LockIs}
use Rattle.cached_machine.specs.desc_stores.specs.Sound.{AreSound}
use Rattle.cached_machine.specs.store_residents.proofs.ResidentLemmas.{live_iff, lock_iff}
use Rattle.cached_machine.specs.desc_parents.specs.Seen.{seen}
use Rattle.cached_machine.specs.desc_groups.specs.declared.departures.Gone.{Gone}
use Rattle.cached_machine.specs.desc_groups.specs.Moves.{idents_of, MayBeLocked}
use Rattle.cached_machine.specs.desc_tables.specs.Calls.{HasPlacesFor}
use Rattle.cached_machine.specs.desc_groups.specs.Whole.{AreWhole}
use Rattle.cached_machine.specs.board_laws.specs.Moves.{written_back, IsLoad, IsLock, IsUnload, ShowsTheSame}
use Rattle.cached_machine.specs.board_laws.specs.Telling.{AreAsTold}
use Rattle.cached_machine.specs.board_laws.proofs.Groups.{unloaded_told}
use Rattle.cached_machine.specs.board_laws.proofs.Loads.{loaded_told}
use Rattle.cached_machine.specs.board_laws.proofs.Locks.{locked_told, unlocked_told}
use Rattle.cached_machine.specs.Cached.{state_of, Cached}
use Rattle.cached_machine.specs.Posts.{HasLoadedMarks, HasSameMarks}
use Rattle.cached_machine.proofs.MoveLaws.{loaded_as_before}
use Rattle.board_core.specs.Core.{contents_of, IsSound, Recorded}
use Rattle.cached_machine.specs.desc_tables.proofs.Remaining.{KeepsParentsOfKept}
use Rattle.board_core.specs.Growth.{MayWrite}
use Rattle.board_core.proofs.SoundLaws.{loaded_marks, quiet_sound, same_marks, HasSoundTables}
use Rattle.board_core.proofs.StampLaws.{AreQuiet}
use Rattle.board_core.proofs.UnkeptLaws.{group_few, is_unkept}

-- ---- locks

-- whether it is locked is one answer
pub locks_agree : (c : Contents) (ident : Ident) (a b : Bool) → AreSound c → standing_in c.issued ident ≡ Live → LockIs c ident a → LockIs c ident b → a ≡ b
locks_agree c ident a b one live is other =
    let found = (live_iff c one ident).0 live in
    sym ((lock_iff c one ident a).0 is found.0 found.1 found.2) ∙ (lock_iff c one ident b).0 other found.0 found.1 found.2

-- to lock what is locked, or unlock what isn't, changes nothing
pub stays_locked : (c : Contents) (ident : Ident) (on : Bool) → AreSound c → LockIs c ident on → IsLock c c ident on
stays_locked c ident on one is = record {
  residents = sym (locked_already ident on (residents_of c) ((lock_iff c one ident on).0 is));
  issued = refl;
  contents = record { contents = λ other. refl; shows = λ machine memory. refl; room = refl; spare = refl };
}

-- the record with other contents
abbrev pub IsOnlyContents : Cached → Cached → Type 0
IsOnlyContents old new = new ≡ record old { held = record old.held { contents = new.held.contents } }

module _ (old : Recorded) (machine : Cached) (w : Written) (pairs : List (Ident × Node)) (ident : Ident) (cpu : ℕ) (sound : IsSound old)
    (whole : AreWhole old.machine.held.caps (contents_of old) pairs) (may : MayWrite old cpu 1) (live : standing_in (contents_of old).issued ident ≡ Live)
    (only : IsOnlyContents old.machine machine) (same : state_of machine ≡ state_of old.machine) (marks : HasSameMarks (contents_of old) machine.held.contents) (tables : HasSoundTables machine) where
  sealed_told : AreAsTold old.machine.machine old.machine.memory (contents_of old) true old.journal.entries
  sealed_told = subst (λ (b : Bool). AreAsTold old.machine.machine old.machine.memory (contents_of old) b old.journal.entries) may.sealed sound.told

  by_entry : (on : Bool) → IsLock (contents_of old) machine.held.contents ident on → (e : Entry) → AreQuiet (e ∷ []) → w.entries ≡ old.journal.entries ++ e ∷ [] → AreAsTold old.machine.machine old.machine.memory machine.held.contents true (old.journal.entries ++ e ∷ [])
      → IsSound (record old { machine = machine; journal = w })
  by_entry on is e quiet grown told =
      quiet_sound old machine w old.sealed (e ∷ []) sound quiet tables grown (ap (λ (m : Cached). m.machine) only) (ap (λ (m : Cached). m.memory) only) same
      (subst (λ (b : Bool). AreAsTold old.machine.machine old.machine.memory machine.held.contents b (old.journal.entries ++ e ∷ [])) (sym may.sealed) told)
      (same_marks (contents_of old) machine.held.contents (loaded_as_before old.machine.held machine.held ident on is.residents) marks)

  pub locked_sound : LockIs (contents_of old) ident false → MayBeLocked (contents_of old) ident → IsLock (contents_of old) machine.held.contents ident true
      → w.entries ≡ old.journal.entries ++ Locked ident cpu ∷ [] → IsSound (record old { machine = machine; journal = w })
  locked_sound unlocked owner is grown =
      by_entry true is (Locked ident cpu) (refl, tt) grown
      (locked_told old.machine.machine old.machine.memory old.machine.held.caps (contents_of old) machine.held.contents pairs old.journal.entries ident cpu sealed_told whole may.processor live unlocked owner is)

  pub unlocked_sound : LockIs (contents_of old) ident true → ident ≢ first_ident → IsLock (contents_of old) machine.held.contents ident false
      → w.entries ≡ old.journal.entries ++ Unlocked ident cpu ∷ [] → IsSound (record old { machine = machine; journal = w })
  unlocked_sound locked other is grown =
      by_entry false is (Unlocked ident cpu) (refl, tt) grown
      (unlocked_told old.machine.machine old.machine.memory old.machine.held.caps (contents_of old) machine.held.contents pairs old.journal.entries ident cpu sealed_told whole may.processor live locked other is)

-- ---- what comes and leaves

-- the record with other tables
abbrev pub IsOnlyHeld : Cached → Cached → Type 0
IsOnlyHeld old new = new ≡ record old { held = new.held }

pub same_shown : (old new : Cached) → IsOnlyHeld old new → ShowsTheSame old.held.contents new.held.contents → state_of new ≡ state_of old
same_shown old new only shows = ap state_of only ∙ shows (Some old.machine) old.memory

pub quiet_gone : (cpu : ℕ) (gone : List Gone) (es : List Entry) → AreQuiet es → AreQuiet (written_back cpu gone ++ es)
quiet_gone cpu [] es quiet = quiet
quiet_gone cpu (g ∷ gone) es quiet = (refl, quiet_gone cpu gone es quiet)

module _ (caps : Caps) (c : Contents) (pairs : List (Ident × Node)) (whole : AreWhole caps c pairs) (loading : Name) (keep : List Ident) (closed : KeepsParentsOfKept (seen c) (residents_of c) keep) where
  -- there are places for the group of a victim, where there is room for the entries of all that isn't kept
  pub places_for : (at spare : ℕ) → count_by (is_unkept keep) (residents_of c) + 1 ≤ spare → at + spare < 2 ^ 64 → HasPlacesFor c loading keep at
  places_for at spare room fits full victim oldest r idents there same group =
      let not_kept = λ (kept : Contains keep r.ident). oldest.may_go.not_kept (subst (λ (i : Ident). Contains keep i) same kept) in
      let few = group_few caps c pairs whole keep closed r there not_kept idents group in
      omega arith

  -- and no more than these leave
  pub gone_few : (new : Contents) (at : ℕ) (gone : List Gone) (ident : Ident) → IsLoad caps c new loading keep at gone ident → length gone ≤ count_by (is_unkept keep) (residents_of c)
  gone_few new at gone ident is = elim (cases_lt (count_by (is_unkept keep) (residents_of c)) (length gone)) [
    | inl more ↦ absurd (
        let none = is.nothing (λ full.
        let root = is.displaced full in
        let few = group_few caps c pairs whole keep closed root.0 root.1.there root.1.may_go.not_kept (idents_of gone) root.2 in
        let long = length-map gone (λ (g : Gone). g.ident) in
        omega arith) in
        let empty = ap length none in
        omega arith
        )
    | inr few ↦ few
  ]

module _ (old : Recorded) (machine : Cached) (w : Written) (pairs : List (Ident × Node)) (cpu : ℕ) (sound : IsSound old)
    (whole : AreWhole old.machine.held.caps (contents_of old) pairs) (sealed : old.sealed ≡ true) (few_processors : cpu < 8)
    (only : IsOnlyHeld old.machine machine) (marks : HasLoadedMarks (contents_of old) machine.held.contents) (tables : HasSoundTables machine) where
  sealed_as_told : AreAsTold old.machine.machine old.machine.memory (contents_of old) true old.journal.entries
  sealed_as_told = subst (λ (b : Bool). AreAsTold old.machine.machine old.machine.memory (contents_of old) b old.journal.entries) sealed sound.told

  by_entries : (es : List Entry) → AreQuiet es → state_of machine ≡ state_of old.machine → w.entries ≡ old.journal.entries ++ es → AreAsTold old.machine.machine old.machine.memory machine.held.contents true (old.journal.entries ++ es)
      → IsSound (record old { machine = machine; journal = w })
  by_entries es quiet same grown told =
      quiet_sound old machine w old.sealed es sound quiet tables grown (ap (λ (m : Cached). m.machine) only) (ap (λ (m : Cached). m.memory) only) same
      (subst (λ (b : Bool). AreAsTold old.machine.machine old.machine.memory machine.held.contents b (old.journal.entries ++ es)) (sym sealed) told)
      (loaded_marks (contents_of old) machine.held.contents marks)

  pub unloaded_sound : (ident : Ident) → standing_in (contents_of old).issued ident ≡ Live → ident ≢ first_ident → IsUnload (contents_of old) machine.held.contents ident (length old.journal.entries) machine.held.gone
      → w.entries ≡ old.journal.entries ++ written_back cpu machine.held.gone → IsSound (record old { machine = machine; journal = w })
  unloaded_sound ident live other is grown =
      by_entries (written_back cpu machine.held.gone) (subst AreQuiet (append-nil (written_back cpu machine.held.gone)) (quiet_gone cpu machine.held.gone [] tt)) (same_shown old.machine machine only is.shows) grown
      (unloaded_told old.machine.machine old.machine.memory old.machine.held.caps (contents_of old) machine.held.contents pairs old.journal.entries ident machine.held.gone cpu sealed_as_told whole few_processors live other is)

  pub loaded_sound : (after : List (Ident × Node)) (loading : Name) (keep : List Ident) (ident : Ident) → AreWhole old.machine.held.caps machine.held.contents after → old.machine.held.caps ≡ old.machine.machine.caps
      → IsLoad old.machine.held.caps (contents_of old) machine.held.contents loading keep (length old.journal.entries) machine.held.gone ident
      → w.entries ≡ old.journal.entries ++ (written_back cpu machine.held.gone ++ Loaded ident loading cpu ∷ []) → IsSound (record old { machine = machine; journal = w })
  loaded_sound after loading keep ident whole_new caps is grown =
      by_entries (written_back cpu machine.held.gone ++ Loaded ident loading cpu ∷ []) (quiet_gone cpu machine.held.gone (Loaded ident loading cpu ∷ []) (refl, tt)) (same_shown old.machine machine only is.shows) grown
      (loaded_told old.machine.machine old.machine.memory old.machine.held.caps (contents_of old) machine.held.contents pairs after old.journal.entries loading keep machine.held.gone ident cpu sealed_as_told whole whole_new caps few_processors is)
