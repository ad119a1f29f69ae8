-- What is displaced and what comes is told, an entry each.
use Rattle.std.proofs.Common.{◌≡◌, ℕ, ◌+◌, [], ◌∷◌, List, ◌++◌, length, refl, ap, sym, ◌∙◌, subst, arith}
use Rattle.std.proofs.lemmas.List.{append_assoc, length-append, length-map}
use Rattle.cache_ident.specs.declared.names.Caps.{Caps}
use Rattle.cache_ident.specs.declared.names.Name.{Name}
use Rattle.cache_ident.specs.Residents.{IsNameResident}
use Rattle.run_journal.specs.declared.entries.Entry.{Entry}
use Rattle.run_journal.specs.declared.entries.Entry.TheVariants.{Loaded, WrittenBack}
use Rattle.cached_machine.specs.desc_stores.specs.Contents.{residents_of}
use Rattle.cached_machine.specs.store_residents.proofs.ContentLemmas.{shelved_iff}
use Rattle.cached_machine.specs.desc_groups.specs.declared.departures.Gone.{Gone}
use Rattle.cached_machine.specs.desc_groups.specs.Whole.{AreWhole}
use Rattle.cached_machine.specs.desc_tables.specs.May.{MayBeLoaded}
use Rattle.cached_machine.specs.desc_tables.specs.Tables.{Held}
use Rattle.cached_machine.specs.board_laws.specs.Moves.{written_back, IsLoad}
use Rattle.cached_machine.specs.Cached.{Cached}
use Rattle.board_core.specs.Core.{contents_of, Recorded}
use Rattle.board_core.specs.Growth.{count_unkept, MayWrite}
use Rattle.board_core.proofs.CountLaws.{loaded_counted}
use Rattle.board_core.proofs.NamedLaws.{just_loaded}
use Rattle.board_core.proofs.PlaceLaws.{gone_few, loaded_sound, places_for}
use Rattle.board_core.proofs.SoundLaws.{grown_from, grows}
use Rattle.board_core.proofs.core_record.Core.load.Goals as goal

pub load-ident-requires-clause-places : goal.load-ident-requires-clause-places
load-ident-requires-clause-places c =
    let room = (subst (λ (b : Recorded). MayWrite b c.args.cpu (count_unkept b c.args.keep.now + 1)) (sym c.self.view_is) c.requires.write).room in
    let may = subst (λ (b : Recorded). MayBeLoaded (contents_of b) c.args.name c.args.keep.now) (sym c.self.view_is) c.requires.may in
    places_for _ _ _ c.known.ensures.sound.1.whole c.args.name c.args.keep.now may.kept.closed c.next_place-at.result c.self.inside.journal.spare room c.next_place-at.ensures.fits

pub overflow_sub-self : goal.overflow_sub-self
overflow_sub-self c =
    let all = loaded_counted _ _ _ c.known.ensures.sound.1.whole _ _ _ _ _ _ c.load-ident.ensures.load in
    let here = c.self.invariant.1 in
    let gone = ap length c.gone-gone.ensures ∙ ap (λ (h : Held). length h.gone) c.tables.ensures.tables in
    omega arith

pub note_departures-requires : goal.note_departures-requires
note_departures-requires c =
    let room = (subst (λ (b : Recorded). MayWrite b c.args.cpu (count_unkept b c.args.keep.now + 1)) (sym c.self.view_is) c.requires.write).room in
    let may = subst (λ (b : Recorded). MayBeLoaded (contents_of b) c.args.name c.args.keep.now) (sym c.self.view_is) c.requires.may in
    let few = gone_few _ _ _ c.known.ensures.sound.1.whole c.args.name c.args.keep.now may.kept.closed _ _ _ _ c.load-ident.ensures.load in
    let is = ap length c.gone-gone.ensures ∙ ap (λ (h : Held). length h.gone) c.tables.ensures.tables in
    omega arith

pub note-requires : goal.note-requires
note-requires c =
    let room = (subst (λ (b : Recorded). MayWrite b c.args.cpu (count_unkept b c.args.keep.now + 1)) (sym c.self.view_is) c.requires.write).room in
    let may = subst (λ (b : Recorded). MayBeLoaded (contents_of b) c.args.name c.args.keep.now) (sym c.self.view_is) c.requires.may in
    let few = gone_few _ _ _ c.known.ensures.sound.1.whole c.args.name c.args.keep.now may.kept.closed _ _ _ _ c.load-ident.ensures.load in
    let is = ap length c.gone-gone.ensures ∙ ap (λ (h : Held). length h.gone) c.tables.ensures.tables in
    let spare = c.note_departures.ensures.spare in
    omega arith

grown : (c : goal.After-note) → c.note.new.journal.entries ≡ c.self.inside.journal.entries ++ (written_back c.args.cpu c.load-ident.new.self.held.gone ++ Loaded c.load-ident.result c.args.name c.args.cpu ∷ [])
grown c =
    c.note.ensures.entries
    ∙ ap (λ (es : List Entry). es ++ Loaded c.load-ident.result c.args.name c.args.cpu ∷ []) c.note_departures.ensures.entries
    ∙ ap (λ (gone : List Gone). (c.self.inside.journal.entries ++ written_back c.args.cpu gone) ++ Loaded c.load-ident.result c.args.name c.args.cpu ∷ []) (c.gone-gone.ensures ∙ ap (λ (h : Held). h.gone) c.tables.ensures.tables)
    ∙ append_assoc c.self.inside.journal.entries (written_back c.args.cpu c.load-ident.new.self.held.gone) (Loaded c.load-ident.result c.args.name c.args.cpu ∷ [])

pub invariant_of-self : goal.invariant_of-self
invariant_of-self c =
    let may = subst (λ (b : Recorded). MayWrite b c.args.cpu (count_unkept b c.args.keep.now + 1)) (sym c.self.view_is) c.requires.write in
    let is = subst (λ (at : ℕ). IsLoad c.self.inside.machine.held.caps c.self.inside.machine.held.contents c.load-ident.new.self.held.contents c.args.name c.args.keep.now at c.load-ident.new.self.held.gone c.load-ident.result) c.next_place-at.ensures.place c.load-ident.ensures.load in
    let whole = subst (λ (caps : Caps). AreWhole caps c.load-ident.new.self.held.contents c.known-2.ensures.sound.0) c.load-ident.ensures.caps c.known-2.ensures.sound.1.whole in (
      loaded_sound _ c.load-ident.new.self c.note.new.journal c.known.ensures.sound.0 c.args.cpu c.self.invariant.0 c.known.ensures.sound.1.whole may.sealed may.processor
          c.load-ident.ensures.rest c.load-ident.ensures.marks c.known-2.ensures.sound c.known-2.ensures.sound.0 c.args.name c.args.keep.now c.load-ident.result whole c.known.ensures.caps is (grown c),
      (let all = loaded_counted _ _ _ c.known.ensures.sound.1.whole _ _ _ _ _ _ c.load-ident.ensures.load in
          let here = c.self.invariant.1 in
          let gone = ap length c.gone-gone.ensures ∙ ap (λ (h : Held). length h.gone) c.tables.ensures.tables in
          omega arith),
    )

pub returns-clause-entries : goal.returns-clause-entries
returns-clause-entries c =
    let whole : length c.gone-gone.result.now ≡ length c.load-ident.new.self.held.gone = ap length c.gone-gone.ensures ∙ ap (λ (h : Held). length h.gone) c.tables.ensures.tables in
    let long = length-map c.load-ident.new.self.held.gone (λ (g : Gone). WrittenBack g.ident g.cause c.args.cpu) in
    let more = length-append (written_back c.args.cpu c.load-ident.new.self.held.gone) (Loaded c.load-ident.result c.args.name c.args.cpu ∷ []) in
    let departed = c.note_departures.ensures.spare in
    let loaded = c.note.ensures.spare in
    grown_from _ _ _ _ c.self.view_is
    (grows _ _ (written_back c.args.cpu c.load-ident.new.self.held.gone ++ Loaded c.load-ident.result c.args.name c.args.cpu ∷ []) c.self.invariant.0 (invariant_of-self c).0 (grown c) refl
    (ap (λ (m : Cached). m.machine) c.load-ident.ensures.rest) c.load-ident.ensures.caps (omega arith))

pub returns-clause-unmarked : goal.returns-clause-unmarked
returns-clause-unmarked c = λ whom named.
    let may = subst (λ (b : Recorded). MayBeLoaded (contents_of b) c.args.name c.args.keep.now) (sym c.self.view_is) c.requires.may in
    let absent = ((shelved_iff c.self.inside.machine.held.contents c.known.ensures.sound.1.whole.one c.args.name).0 may.shelved).1 in
    just_loaded _ _ whom c.self.invariant.0.out c.load-ident.ensures.marks (λ there. absent (subst (λ (n : Name). IsNameResident (residents_of c.self.inside.machine.held.contents) n) (sym named) there))
