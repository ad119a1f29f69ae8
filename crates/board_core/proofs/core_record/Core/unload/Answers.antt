-- All that leaves is told, an entry each.
use Rattle.std.proofs.Common.{◌≡◌, ℕ, List, ◌++◌, length, refl, ap, sym, ◌∙◌, subst, arith}
use Rattle.std.proofs.lemmas.List.{length-map}
use Rattle.cache_ident.specs.Rolls.{standing_in}
use Rattle.cache_ident.specs.declared.idents.Standing.TheVariants.{Live}
use Rattle.run_journal.specs.declared.entries.Entry.TheVariants.{WrittenBack}
use Rattle.cached_machine.specs.desc_groups.specs.declared.departures.Gone.{Gone}
use Rattle.cached_machine.specs.desc_tables.specs.Tables.{Held}
use Rattle.cached_machine.specs.desc_groups.proofs.PlaceLemmas.{there_are_places}
use Rattle.cached_machine.specs.board_laws.specs.Moves.{written_back, IsUnload}
use Rattle.cached_machine.specs.Cached.{Cached}
use Rattle.board_core.specs.Core.{contents_of, Recorded}
use Rattle.board_core.specs.Growth.{count_loaded, MayWrite}
use Rattle.board_core.proofs.CountLaws.{unloaded_counted}
use Rattle.board_core.proofs.PlaceLaws.{unloaded_sound}
use Rattle.board_core.proofs.SoundLaws.{grown_from, grows}
use Rattle.board_core.proofs.core_record.Core.unload.Goals as goal

pub unload-requires-clause-places : goal.unload-requires-clause-places
unload-requires-clause-places c =
    let may = subst (λ (b : Recorded). MayWrite b c.args.cpu (count_loaded b)) (sym c.self.view_is) c.requires.write in
    let room = may.room in
    let fits = c.next_place-at.ensures.fits in
    there_are_places _ _ _ c.self.invariant.0.tables.1.whole c.args.ident c.next_place-at.result (omega arith)

pub overflow_sub-self : goal.overflow_sub-self
overflow_sub-self c =
    let live = subst (λ (b : Recorded). standing_in (contents_of b).issued c.args.ident ≡ Live) (sym c.self.view_is) c.requires.live in
    let all = unloaded_counted _ _ _ c.self.invariant.0.tables.1.whole _ c.args.ident _ _ live c.unload.ensures.unload in
    let here = c.self.invariant.1 in
    let gone = ap length c.gone-gone.ensures ∙ ap (λ (h : Held). length h.gone) c.tables.ensures.tables in
    omega arith

pub note_departures-requires : goal.note_departures-requires
note_departures-requires c =
    let may = subst (λ (b : Recorded). MayWrite b c.args.cpu (count_loaded b)) (sym c.self.view_is) c.requires.write in
    let live = subst (λ (b : Recorded). standing_in (contents_of b).issued c.args.ident ≡ Live) (sym c.self.view_is) c.requires.live in
    let all = unloaded_counted _ _ _ c.self.invariant.0.tables.1.whole _ c.args.ident _ _ live c.unload.ensures.unload in
    let room = may.room in
    let is = ap length c.gone-gone.ensures ∙ ap (λ (h : Held). length h.gone) c.tables.ensures.tables in
    omega arith

grown : (c : goal.After-note_departures) → c.note_departures.new.journal.entries ≡ c.self.inside.journal.entries ++ written_back c.args.cpu c.unload.new.self.held.gone
grown c = c.note_departures.ensures.entries ∙ ap (λ (gone : List Gone). c.self.inside.journal.entries ++ written_back c.args.cpu gone) (c.gone-gone.ensures ∙ ap (λ (h : Held). h.gone) c.tables.ensures.tables)

pub invariant_of-self : goal.invariant_of-self
invariant_of-self c =
    let may = subst (λ (b : Recorded). MayWrite b c.args.cpu (count_loaded b)) (sym c.self.view_is) c.requires.write in
    let live = subst (λ (b : Recorded). standing_in (contents_of b).issued c.args.ident ≡ Live) (sym c.self.view_is) c.requires.live in
    let is = subst (λ (at : ℕ). IsUnload c.self.inside.machine.held.contents c.unload.new.self.held.contents c.args.ident at c.unload.new.self.held.gone) c.next_place-at.ensures.place c.unload.ensures.unload in (
      unloaded_sound _ c.unload.new.self c.note_departures.new.journal c.self.invariant.0.tables.0 c.args.cpu c.self.invariant.0 c.self.invariant.0.tables.1.whole may.sealed may.processor
          c.unload.ensures.rest c.unload.ensures.marks c.known.ensures.sound c.args.ident live c.requires.not_first is (grown c),
      (let all = unloaded_counted _ _ _ c.self.invariant.0.tables.1.whole _ c.args.ident _ _ live c.unload.ensures.unload in
          let here = c.self.invariant.1 in
          let gone = ap length c.gone-gone.ensures ∙ ap (λ (h : Held). length h.gone) c.tables.ensures.tables in
          omega arith),
    )

pub returns-clause-entries : goal.returns-clause-entries
returns-clause-entries c =
    let whole : length c.gone-gone.result.now ≡ length c.unload.new.self.held.gone = ap length c.gone-gone.ensures ∙ ap (λ (h : Held). length h.gone) c.tables.ensures.tables in
    let long = length-map c.unload.new.self.held.gone (λ (g : Gone). WrittenBack g.ident g.cause c.args.cpu) in
    let spare = c.note_departures.ensures.spare in
    grown_from _ _ _ _ c.self.view_is
    (grows _ _ (written_back c.args.cpu c.unload.new.self.held.gone) c.self.invariant.0 (invariant_of-self c).0 (grown c) refl
    (ap (λ (m : Cached). m.machine) c.unload.ensures.rest) c.unload.ensures.caps (omega arith))
