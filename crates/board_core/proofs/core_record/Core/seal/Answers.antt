-- The seal, the load of the first kernel and its lock are told, an entry each.
use Rattle.std.proofs.Common.{◌≡◌, ◌<◌, true, false, [], ◌∷◌, ◌++◌, length, refl, ap, sym, ◌∙◌, subst}
use Rattle.cache_ident.specs.declared.names.Caps.{Caps}
use Rattle.cache_ident.specs.declared.idents.Ident.{Ident}
use Rattle.cache_ident.specs.Names.{first_name}
use Rattle.run_journal.specs.declared.entries.Entry.TheVariants.{Loaded, Locked, Sealed}
use Rattle.run_journal.specs.Legal.{first_ident}
use Rattle.cached_machine.specs.desc_groups.specs.Whole.{AreWhole}
use Rattle.cached_machine.specs.Cached.{state_of, Cached}
use Rattle.cached_machine.specs.Posts.{HasSameMarks}
use Rattle.board_core.specs.Core.{contents_of, Recorded}
use Rattle.board_core.proofs.CountLaws.{first_counted, lock_counted}
use Rattle.board_core.proofs.OpeningLaws.{first_has_places, first_is, first_is_live, first_may_be_locked, first_may_come, none_resident, seal_marks, sealed_sound}
use Rattle.board_core.proofs.SoundLaws.{grown_from, grows}
use Rattle.board_core.proofs.core_record.Core.seal.Goals as goal

pub load-ident-requires-clause-may : goal.load-ident-requires-clause-may
load-ident-requires-clause-may c =
    let open_yet = subst (λ (b : Recorded). b.sealed ≡ false) (sym c.self.view_is) c.requires.open in
    let kernel = subst (λ (b : Recorded). 0 < length (state_of b.machine).kernels) (sym c.self.view_is) c.requires.kernel in
    first_may_come _ _ c.self.invariant.0 open_yet c.known.ensures.sound.1.whole c.known.ensures.caps kernel

pub load-ident-requires-clause-places : goal.load-ident-requires-clause-places
load-ident-requires-clause-places c =
    let open_yet = subst (λ (b : Recorded). b.sealed ≡ false) (sym c.self.view_is) c.requires.open in
    let kernel = subst (λ (b : Recorded). 0 < length (state_of b.machine).kernels) (sym c.self.view_is) c.requires.kernel in
    first_has_places _ _ c.self.invariant.0 open_yet c.known.ensures.sound.1.whole c.known.ensures.caps kernel c.next_place-at.result

pub lock-requires-clause-live : goal.lock-requires-clause-live
lock-requires-clause-live c =
    let open_yet = subst (λ (b : Recorded). b.sealed ≡ false) (sym c.self.view_is) c.requires.open in
    let kernel = subst (λ (b : Recorded). 0 < length (state_of b.machine).kernels) (sym c.self.view_is) c.requires.kernel in
    let whole = subst (λ (caps : Caps). AreWhole caps c.load-ident.new.self.held.contents c.known-2.ensures.sound.0) c.load-ident.ensures.caps c.known-2.ensures.sound.1.whole in
    first_is_live _ _ c.self.invariant.0 open_yet c.known.ensures.sound.1.whole c.known.ensures.caps kernel c.load-ident.new.self c.known-2.ensures.sound.0 c.load-ident.result _ whole c.load-ident.ensures.load

pub lock-requires-clause-may : goal.lock-requires-clause-may
lock-requires-clause-may c =
    let open_yet = subst (λ (b : Recorded). b.sealed ≡ false) (sym c.self.view_is) c.requires.open in
    let kernel = subst (λ (b : Recorded). 0 < length (state_of b.machine).kernels) (sym c.self.view_is) c.requires.kernel in
    let whole = subst (λ (caps : Caps). AreWhole caps c.load-ident.new.self.held.contents c.known-2.ensures.sound.0) c.load-ident.ensures.caps c.known-2.ensures.sound.1.whole in
    first_may_be_locked _ _ c.self.invariant.0 open_yet c.known.ensures.sound.1.whole c.known.ensures.caps kernel c.load-ident.new.self c.known-2.ensures.sound.0 c.load-ident.result _ whole c.load-ident.ensures.load

is_the_first : (c : goal.After-self-2-1) → c.load-ident.result ≡ first_ident
is_the_first c =
    let open_yet = subst (λ (b : Recorded). b.sealed ≡ false) (sym c.self.view_is) c.requires.open in
    let kernel = subst (λ (b : Recorded). 0 < length (state_of b.machine).kernels) (sym c.self.view_is) c.requires.kernel in
    let whole = subst (λ (caps : Caps). AreWhole caps c.load-ident.new.self.held.contents c.known-2.ensures.sound.0) c.load-ident.ensures.caps c.known-2.ensures.sound.1.whole in
    first_is _ _ c.self.invariant.0 open_yet c.known.ensures.sound.1.whole c.known.ensures.caps kernel c.load-ident.new.self c.known-2.ensures.sound.0 c.load-ident.result _ whole c.load-ident.ensures.load

grown : (c : goal.After-self-2-1) → c.note_seal.new.journal.entries ≡ c.self.inside.journal.entries ++ (Sealed ∷ Loaded first_ident first_name 0 ∷ Locked first_ident 0 ∷ [])
grown c = c.note_seal.ensures.entries ∙ ap (λ (i : Ident). c.self.inside.journal.entries ++ (Sealed ∷ Loaded i first_name 0 ∷ Locked i 0 ∷ [])) (is_the_first c)

pub invariant_of-self : goal.invariant_of-self
invariant_of-self c =
    let open_yet = subst (λ (b : Recorded). b.sealed ≡ false) (sym c.self.view_is) c.requires.open in
    let kernel = subst (λ (b : Recorded). 0 < length (state_of b.machine).kernels) (sym c.self.view_is) c.requires.kernel in
    let whole = subst (λ (caps : Caps). AreWhole caps c.load-ident.new.self.held.contents c.known-2.ensures.sound.0) c.load-ident.ensures.caps c.known-2.ensures.sound.1.whole in (
      sealed_sound _ _ c.self.invariant.0 open_yet c.known.ensures.sound.1.whole c.known.ensures.caps kernel c.load-ident.new.self c.known-2.ensures.sound.0 c.load-ident.result _ whole c.load-ident.ensures.load
          c.lock.new.self c.note_seal.new.journal c.lock.ensures.lock c.load-ident.ensures.rest c.lock.ensures.rest c.lock.ensures.state c.load-ident.ensures.marks c.lock.ensures.marks c.known-3.ensures.sound (grown c),
      sym (lock_counted _ _ c.load-ident.result true c.lock.ensures.lock ∙ first_counted _ _ _ _ [] _ _ _ (none_resident _ c.self.invariant.0 open_yet) c.load-ident.ensures.load),
    )

pub returns-clause-ident : goal.returns-clause-ident
returns-clause-ident c = is_the_first c

pub returns-clause-entries : goal.returns-clause-entries
returns-clause-entries c =
    grown_from _ _ _ _ c.self.view_is
    (grows _ _ (Sealed ∷ Loaded first_ident first_name 0 ∷ Locked first_ident 0 ∷ []) c.self.invariant.0 (invariant_of-self c).0 (grown c) refl
    (ap (λ (m : Cached). m.machine) c.lock.ensures.rest ∙ ap (λ (m : Cached). m.machine) c.load-ident.ensures.rest)
    (ap (λ (m : Cached). m.held.caps) c.lock.ensures.rest ∙ c.load-ident.ensures.caps) c.note_seal.ensures.spare)

pub returns-clause-marks : goal.returns-clause-marks
returns-clause-marks c =
    let open_yet = subst (λ (b : Recorded). b.sealed ≡ false) (sym c.self.view_is) c.requires.open in
    let kernel = subst (λ (b : Recorded). 0 < length (state_of b.machine).kernels) (sym c.self.view_is) c.requires.kernel in
    let whole = subst (λ (caps : Caps). AreWhole caps c.load-ident.new.self.held.contents c.known-2.ensures.sound.0) c.load-ident.ensures.caps c.known-2.ensures.sound.1.whole in
    subst (λ (b : Recorded). HasSameMarks (contents_of b) c.lock.new.self.held.contents) c.self.view_is
    (seal_marks _ _ c.self.invariant.0 open_yet c.known.ensures.sound.1.whole c.known.ensures.caps kernel c.load-ident.new.self c.known-2.ensures.sound.0 c.load-ident.result _ whole c.load-ident.ensures.load
    c.lock.new.self c.note_seal.new.journal c.lock.ensures.lock c.load-ident.ensures.rest c.lock.ensures.rest c.lock.ensures.state c.load-ident.ensures.marks c.lock.ensures.marks)
