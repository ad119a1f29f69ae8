-- A lock, and its end, in the journal.
use Rattle.std.proofs.Common.{◌≡◌, ◌≢◌, ℕ, ◌<◌, Bool, true, false, List, [], ◌∷◌, ◌++◌, length, Some, refl, ap, sym, ◌∙◌, subst}
use Rattle.cache_ident.specs.declared.idents.Ident.{Ident}
use Rattle.cache_ident.specs.declared.idents.Standing.TheVariants.{Live}
use Rattle.cache_ident.specs.declared.names.Caps.{Caps}
use Rattle.cache_ident.specs.declared.rolls.Issued.{Issued}
use Rattle.cache_ident.specs.Residents.{with_lock, IsIdentResident}
use Rattle.cache_ident.specs.Rolls.{standing_in}
use Rattle.quantum.specs.depend_lists.specs.declared.nodes.Node.{Node}
use Rattle.quantum.specs.flat_state.specs.declared.events.Machine.{Machine}
use Rattle.quantum.specs.flat_state.specs.Dependence.{owner}
use Rattle.desc_tables.specs.run_journal.specs.declared.entries.Entry.{Entry}
use Rattle.desc_tables.specs.run_journal.specs.declared.entries.Entry.TheVariants.{Locked, Unlocked}
use Rattle.desc_tables.specs.run_journal.specs.Legal.{first_ident, limit_of, locked_by, MayLock, MayUnlock}
use Rattle.desc_tables.specs.run_journal.specs.Told.{Anything, Due, told_of}
use Rattle.desc_tables.specs.desc_stores.specs.Contents.{resident_as, residents_of, Contents, LockIs}
use Rattle.desc_tables.specs.shown_state.specs.Shown.{shown}
use Rattle.desc_tables.specs.shown_state.proofs.DependenceLemmas.{same_owner}
use Rattle.desc_tables.specs.store_residents.proofs.ResidentLemmas.{live_iff, lock_iff, resident_loaded}
use Rattle.desc_tables.specs.store_residents.proofs.SlotLaws.{what_is_there}
use Rattle.desc_tables.specs.desc_parents.specs.Seen.{seen}
use Rattle.desc_tables.specs.desc_groups.specs.Moves.{MayBeLocked}
use Rattle.desc_tables.specs.desc_groups.specs.Whole.{AreWhole}
use Rattle.desc_tables.specs.desc_groups.proofs.OwnerLemmas.{resident_owned}
use Rattle.board_laws.specs.Moves.{IsLock}
use Rattle.board_laws.specs.Telling.{AreAsTold}
use Rattle.board_laws.proofs.Growing.{entry_told, same_told, tells}
use Rattle.board_laws.proofs.Shown.{limit_shown, locks_shown}

module _ (m : Machine) (memory : List ℕ) (caps : Caps) (c : Contents) (pairs : List (Ident × Node)) (whole : AreWhole caps c pairs) (ident : Ident) (live : standing_in c.issued ident ≡ Live) where
  -- what is loaded with the identifier
  found : IsIdentResident (residents_of c) ident
  found = (live_iff c whole.one.sound ident).0 live

  -- it may be locked
  pub may_lock : (sealed : Bool) (loads : ℕ) (due : Due) → LockIs c ident false → MayBeLocked c ident → MayLock (told_of (shown (Some m) memory c) sealed loads (residents_of c) due) ident
  may_lock sealed loads due unlocked may =
      let is_unlocked = (lock_iff c whole.one.sound ident false).0 unlocked found.0 found.1 found.2 in
      let own = what_is_there (owner (seen c) found.0.name) (resident_owned (seen c) (residents_of c) whole.good found.0 found.1) in
      let as_it : resident_as c ident ≡ Some found.0 = ap (resident_as c) (sym found.2) ∙ resident_loaded c found.0 found.1 in
      let room = may found.0 own.0 as_it is_unlocked own.1 in
      record {
        resident = found.0;
        there = found.1;
        its = found.2;
        unlocked = is_unlocked;
        kernel = own.0;
        owned = same_owner (Some m) memory c found.0.name ∙ own.1;
        room = subst (λ (n : ℕ). n < limit_of (shown (Some m) memory c) own.0 ident.kind) (locks_shown m memory c (residents_of c) own.0 ident.kind)
            (subst (λ (n : ℕ). locked_by (seen c) (residents_of c) own.0 ident.kind < n) (limit_shown m memory c own.0 ident.kind) room);
      }

  pub may_unlock : (sealed : Bool) (loads : ℕ) (due : Due) → LockIs c ident true → ident ≢ first_ident → MayUnlock (told_of (shown (Some m) memory c) sealed loads (residents_of c) due) ident
  may_unlock sealed loads due locked other = record {
    resident = found.0;
    there = found.1;
    its = found.2;
    locked = (lock_iff c whole.one.sound ident true).0 locked found.0 found.1 found.2;
    not_first = other;
  }

module _ (m : Machine) (memory : List ℕ) (old new : Contents) (ident : Ident) (on : Bool) (is : IsLock old new ident on) where
  -- what is told then
  pub lock_tells : told_of (shown (Some m) memory old) true (length old.issued) (with_lock ident on (residents_of old)) Anything ≡ tells m memory new true
  lock_tells = same_told (shown (Some m) memory old) (shown (Some m) memory new) true true (length old.issued) (length new.issued) (with_lock ident on (residents_of old)) (residents_of new)
      (sym (is.contents.shows (Some m) memory)) refl (ap length (sym is.issued)) (sym is.residents)

  pub lock_stands : (x : Ident) → standing_in old.issued x ≡ standing_in new.issued x
  lock_stands x = ap (λ (issued : List Issued). standing_in issued x) (sym is.issued)

module _ (m : Machine) (memory : List ℕ) (caps : Caps) (old new : Contents) (pairs : List (Ident × Node)) (j : List Entry) (ident : Ident) (cpu : ℕ)
    (as_told : AreAsTold m memory old true j) (whole : AreWhole caps old pairs) (few : cpu < 8) (live : standing_in old.issued ident ≡ Live) where
  pub locked_told : LockIs old ident false → MayBeLocked old ident → IsLock old new ident true → AreAsTold m memory new true (j ++ Locked ident cpu ∷ [])
  locked_told unlocked may is =
      entry_told m memory memory old new true true j as_told (Locked ident cpu) refl few
      (may_lock m memory caps old pairs whole ident live true (length old.issued) Anything unlocked may)
      (lock_tells m memory old new ident true is) (lock_stands m memory old new ident true is)

  pub unlocked_told : LockIs old ident true → ident ≢ first_ident → IsLock old new ident false → AreAsTold m memory new true (j ++ Unlocked ident cpu ∷ [])
  unlocked_told locked other is =
      entry_told m memory memory old new true true j as_told (Unlocked ident cpu) refl few
      (may_unlock m memory caps old pairs whole ident live true (length old.issued) Anything locked other)
      (lock_tells m memory old new ident false is) (lock_stands m memory old new ident false is)
