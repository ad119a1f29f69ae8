-- One entry tells of the end of a lock, and none where it wasn't locked.
use Rattle.std.proofs.Common.{◌≡◌, Bool, true, false, [], ◌∷◌, refl, ap, sym, ◌∙◌, subst}
use Rattle.cache_ident.specs.Rolls.{standing_in}
use Rattle.cache_ident.specs.declared.idents.Standing.TheVariants.{Live}
use Rattle.run_journal.specs.declared.entries.Entry.TheVariants.{Unlocked}
use Rattle.cached_machine.specs.desc_stores.specs.Contents.{LockIs}
use Rattle.cached_machine.specs.desc_tables.specs.Tables.{Held}
use Rattle.cached_machine.specs.board_laws.specs.Moves.{IsLock}
use Rattle.cached_machine.specs.Cached.{Cached}
use Rattle.board_core.specs.Core.{contents_of, Recorded}
use Rattle.board_core.specs.Growth.{MayWrite}
use Rattle.board_core.proofs.CountLaws.{lock_counted}
use Rattle.board_core.proofs.PlaceLaws.{locks_agree, stays_locked, unlocked_sound}
use Rattle.board_core.proofs.SoundLaws.{grown_else, grown_where, grows, grows_by_none}
use Rattle.board_core.proofs.core_record.Core.unlock.Goals as goal

pub invariant_of-self : goal.invariant_of-self
invariant_of-self c =
    let back = sym c.self.view_is in
    let may = subst (λ (b : Recorded). MayWrite b c.args.cpu 1) back c.requires.write in
    let live = subst (λ (b : Recorded). standing_in (contents_of b).issued c.args.ident ≡ Live) back c.requires.live in
    let locked = subst (λ (l : Bool). LockIs c.self.inside.machine.held.contents c.args.ident l) c.if-is_locked.true
    (subst (λ (h : Held). LockIs h.contents c.args.ident c.is_locked.result) c.tables.ensures.tables c.is_locked.ensures) in (
      unlocked_sound _ c.unlock.new.self c.note.new.journal c.self.invariant.0.tables.0 c.args.ident c.args.cpu c.self.invariant.0 c.self.invariant.0.tables.1.whole may live
          c.unlock.ensures.rest c.unlock.ensures.state c.unlock.ensures.marks c.known.ensures.sound locked c.requires.not_first c.unlock.ensures.lock c.note.ensures.entries,
      c.self.invariant.1 ∙ sym (lock_counted _ _ c.args.ident false c.unlock.ensures.lock),
    )

pub returns-then-is_locked-clause-entries : goal.returns-then-is_locked-clause-entries
returns-then-is_locked-clause-entries c = λ on is.
    let live = subst (λ (b : Recorded). standing_in (contents_of b).issued c.args.ident ≡ Live) (sym c.self.view_is) c.requires.live in
    let was = subst (λ (b : Recorded). LockIs (contents_of b) c.args.ident on) (sym c.self.view_is) is in
    let locked = subst (λ (l : Bool). LockIs c.self.inside.machine.held.contents c.args.ident l) c.if-is_locked.true
    (subst (λ (h : Held). LockIs h.contents c.args.ident c.is_locked.result) c.tables.ensures.tables c.is_locked.ensures) in
    grown_where on (Unlocked c.args.ident c.args.cpu ∷ []) [] _ _ _ c.self.view_is
    (locks_agree c.self.inside.machine.held.contents c.args.ident on true c.self.invariant.0.tables.1.whole.one.sound live was locked)
    (grows _ _ (Unlocked c.args.ident c.args.cpu ∷ []) c.self.invariant.0 (invariant_of-self c).0 c.note.ensures.entries refl
    (ap (λ (m : Cached). m.machine) c.unlock.ensures.rest) (ap (λ (m : Cached). m.held.caps) c.unlock.ensures.rest) c.note.ensures.spare)

pub returns-else-is_locked-clause-entries : goal.returns-else-is_locked-clause-entries
returns-else-is_locked-clause-entries c = λ on is.
    let live = subst (λ (b : Recorded). standing_in (contents_of b).issued c.args.ident ≡ Live) (sym c.self.view_is) c.requires.live in
    let was = subst (λ (b : Recorded). LockIs (contents_of b) c.args.ident on) (sym c.self.view_is) is in
    let unlocked = subst (λ (l : Bool). LockIs c.self.inside.machine.held.contents c.args.ident l) c.if-is_locked.false
    (subst (λ (h : Held). LockIs h.contents c.args.ident c.is_locked.result) c.tables.ensures.tables c.is_locked.ensures) in
    grown_else on (Unlocked c.args.ident c.args.cpu ∷ []) [] _ _ _ refl
    (locks_agree c.self.inside.machine.held.contents c.args.ident on false c.self.invariant.0.tables.1.whole.one.sound live was unlocked) (grows_by_none c.args.self.now)

pub returns-else-is_locked-clause-lock : goal.returns-else-is_locked-clause-lock
returns-else-is_locked-clause-lock c =
    let unlocked = subst (λ (l : Bool). LockIs c.self.inside.machine.held.contents c.args.ident l) c.if-is_locked.false
    (subst (λ (h : Held). LockIs h.contents c.args.ident c.is_locked.result) c.tables.ensures.tables c.is_locked.ensures) in
    subst (λ (b : Recorded). IsLock (contents_of b) (contents_of b) c.args.ident false) c.self.view_is (stays_locked c.self.inside.machine.held.contents c.args.ident false c.self.invariant.0.tables.1.whole.one.sound unlocked)
