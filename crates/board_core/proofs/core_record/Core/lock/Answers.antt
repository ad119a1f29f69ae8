-- One entry tells of a lock, and none where it was locked already.
use Rattle.std.proofs.Common.{◌≡◌, Bool, true, false, [], ◌∷◌, refl, ap, sym, ◌∙◌, subst}
use Rattle.cache_ident.specs.Rolls.{standing_in}
use Rattle.cache_ident.specs.declared.idents.Standing.TheVariants.{Live}
use Rattle.run_journal.specs.declared.entries.Entry.TheVariants.{Locked}
use Rattle.cached_machine.specs.desc_stores.specs.Contents.{LockIs}
use Rattle.cached_machine.specs.desc_groups.specs.Moves.{MayBeLocked}
use Rattle.cached_machine.specs.desc_tables.specs.Tables.{Held}
use Rattle.cached_machine.specs.board_laws.specs.Moves.{IsLock}
use Rattle.cached_machine.specs.Cached.{Cached}
use Rattle.board_core.specs.Core.{contents_of, Recorded}
use Rattle.board_core.specs.Growth.{MayWrite}
use Rattle.board_core.proofs.CountLaws.{lock_counted}
use Rattle.board_core.proofs.PlaceLaws.{locked_sound, locks_agree, stays_locked}
use Rattle.board_core.proofs.SoundLaws.{grown_else, grown_where, grows, grows_by_none}
use Rattle.board_core.proofs.core_record.Core.lock.Goals as goal

pub invariant_of-self : goal.invariant_of-self
invariant_of-self c =
    let back = sym c.self.view_is in
    let may = subst (λ (b : Recorded). MayWrite b c.args.cpu 1) back c.requires.write in
    let live = subst (λ (b : Recorded). standing_in (contents_of b).issued c.args.ident ≡ Live) back c.requires.live in
    let owner = subst (λ (b : Recorded). MayBeLocked (contents_of b) c.args.ident) back c.requires.may in
    let unlocked = subst (λ (l : Bool). LockIs c.self.inside.machine.held.contents c.args.ident l) c.if-not-is_locked.true
    (subst (λ (h : Held). LockIs h.contents c.args.ident c.is_locked.result) c.tables.ensures.tables c.is_locked.ensures) in (
      locked_sound _ c.lock.new.self c.note.new.journal c.self.invariant.0.tables.0 c.args.ident c.args.cpu c.self.invariant.0 c.self.invariant.0.tables.1.whole may live
          c.lock.ensures.rest c.lock.ensures.state c.lock.ensures.marks c.known.ensures.sound unlocked owner c.lock.ensures.lock c.note.ensures.entries,
      c.self.invariant.1 ∙ sym (lock_counted _ _ c.args.ident true c.lock.ensures.lock),
    )

pub returns-then-not-is_locked-clause-entries : goal.returns-then-not-is_locked-clause-entries
returns-then-not-is_locked-clause-entries c = λ on is.
    let live = subst (λ (b : Recorded). standing_in (contents_of b).issued c.args.ident ≡ Live) (sym c.self.view_is) c.requires.live in
    let was = subst (λ (b : Recorded). LockIs (contents_of b) c.args.ident on) (sym c.self.view_is) is in
    let unlocked = subst (λ (l : Bool). LockIs c.self.inside.machine.held.contents c.args.ident l) c.if-not-is_locked.true
    (subst (λ (h : Held). LockIs h.contents c.args.ident c.is_locked.result) c.tables.ensures.tables c.is_locked.ensures) in
    grown_else on [] (Locked c.args.ident c.args.cpu ∷ []) _ _ _ c.self.view_is
    (locks_agree c.self.inside.machine.held.contents c.args.ident on false c.self.invariant.0.tables.1.whole.one.sound live was unlocked)
    (grows _ _ (Locked c.args.ident c.args.cpu ∷ []) c.self.invariant.0 (invariant_of-self c).0 c.note.ensures.entries refl
    (ap (λ (m : Cached). m.machine) c.lock.ensures.rest) (ap (λ (m : Cached). m.held.caps) c.lock.ensures.rest) c.note.ensures.spare)

pub returns-else-not-is_locked-clause-entries : goal.returns-else-not-is_locked-clause-entries
returns-else-not-is_locked-clause-entries c = λ on is.
    let live = subst (λ (b : Recorded). standing_in (contents_of b).issued c.args.ident ≡ Live) (sym c.self.view_is) c.requires.live in
    let was = subst (λ (b : Recorded). LockIs (contents_of b) c.args.ident on) (sym c.self.view_is) is in
    let locked = subst (λ (l : Bool). LockIs c.self.inside.machine.held.contents c.args.ident l) c.if-not-is_locked.false
    (subst (λ (h : Held). LockIs h.contents c.args.ident c.is_locked.result) c.tables.ensures.tables c.is_locked.ensures) in
    grown_where on [] (Locked c.args.ident c.args.cpu ∷ []) _ _ _ refl
    (locks_agree c.self.inside.machine.held.contents c.args.ident on true c.self.invariant.0.tables.1.whole.one.sound live was locked) (grows_by_none c.args.self.now)

pub returns-else-not-is_locked-clause-lock : goal.returns-else-not-is_locked-clause-lock
returns-else-not-is_locked-clause-lock c =
    let locked = subst (λ (l : Bool). LockIs c.self.inside.machine.held.contents c.args.ident l) c.if-not-is_locked.false
    (subst (λ (h : Held). LockIs h.contents c.args.ident c.is_locked.result) c.tables.ensures.tables c.is_locked.ensures) in
    subst (λ (b : Recorded). IsLock (contents_of b) (contents_of b) c.args.ident true) c.self.view_is (stays_locked c.self.inside.machine.held.contents c.args.ident true c.self.invariant.0.tables.1.whole.one.sound locked)
