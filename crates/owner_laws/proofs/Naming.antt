-- What is noted names what is loaded.
use Rattle.std.proofs.Common.{◌≡◌, ℕ, List, [], ◌∷◌, ◌++◌, Contains, Some, slice_get, sym, ap, ◌∙◌, subst}
use Rattle.std.proofs.lemmas.Option.{same_Some}
use Rattle.std.proofs.lemmas.List.Elements.{Contains-append_right, Contains-push}
use Rattle.cache_ident.specs.declared.idents.Ident.{Ident}
use Rattle.cache_ident.specs.declared.names.Name.{Name}
use Rattle.cache_ident.specs.Residents.{Resident, IsResident}
use Rattle.legal_laws.specs.flat_state.proofs.Places.{Contains-from_get, get_from_Contains}
use Rattle.legal_laws.specs.run_journal.specs.declared.entries.Entry.{Entry}
use Rattle.legal_laws.specs.run_journal.specs.declared.entries.Entry.TheVariants.{Loaded}
use Rattle.legal_laws.specs.run_journal.specs.Legal.{IsLegal}
use Rattle.legal_laws.specs.run_journal.specs.Told.{nothing_told, residents}
use Rattle.legal_laws.specs.run_journal.proofs.Growth.{residents_told_from}
use Rattle.legal_laws.specs.Places.{StaysLoaded}
use Rattle.legal_laws.proofs.Once.{loaded_once}
use Rattle.legal_laws.proofs.Residence.{residence}
use Rattle.answer_laws.specs.desc_stores.specs.Contents.{residents_of}
use Rattle.answer_laws.specs.board_laws.specs.Moves.{written_back}
use Rattle.answer_laws.specs.board_core.specs.Core.{contents_of, IsSound, Recorded}
use Rattle.answer_laws.specs.board_core.specs.Going.{Grew}
use Rattle.answer_laws.specs.board_loads.specs.Loads.{IsLoadedAs}
use Rattle.owners.specs.Known.{ident_of, Known}
use Rattle.owners.specs.Owning.{AreOwnersOf, WasLoadedAs}
use Rattle.owners.proofs.Learning.{still_owners}

module _ (b : Recorded) (sound : IsSound b) where
  -- what is loaded was loaded, and has not left
  stays_loaded : (ident : Ident) (name : Name) → IsResident (residents_of (contents_of b)) ident name → StaysLoaded b.journal.entries ident name
  stays_loaded ident name r =
      let told : IsResident (residents b.journal.entries) ident name = subst (λ (rs : List Resident). IsResident rs ident name) (sym sound.told.residents ∙ residents_told_from nothing_told b.journal.entries) r in
      (residence b.journal.entries ident name).0 told

  pub was_loaded : (ident : Ident) (name : Name) → IsResident (residents_of (contents_of b)) ident name → WasLoadedAs b.journal.entries name ident
  was_loaded ident name r =
      let s = stays_loaded ident name r in
      (s.loaded.0, Contains-from_get b.journal.entries s.at (Loaded ident name s.loaded.0) s.loaded.1)

  -- an identifier is of one name
  pub one_name : (ident : Ident) (name other : Name) → WasLoadedAs b.journal.entries name ident → IsResident (residents_of (contents_of b)) ident other → other ≡ name
  one_name ident name other was r =
      let s = stays_loaded ident other r in
      let w = get_from_Contains b.journal.entries (Loaded ident name was.0) was.1 in
      let at : s.at ≡ w.0 = loaded_once b.journal.entries sound.told.legal s.at w.0 ident other name s.loaded (was.0, w.1) in
      let one : Loaded ident other s.loaded.0 ≡ Loaded ident name was.0 = same_Some (Loaded ident other s.loaded.0) (Loaded ident name was.0) (sym s.loaded.1 ∙ (ap (slice_get b.journal.entries) at ∙ w.1)) in
      cc

  pub names_it : (o : Known) (ident : Ident) (name other : Name) → AreOwnersOf b.journal.entries o → ident_of o name ≡ Some ident → IsResident (residents_of (contents_of b)) ident other → other ≡ name
  names_it o ident name other are noted r = one_name ident name other (are.noted name ident noted) r

pub was_given : (cpu : ℕ) (name : Name) (ident : Ident) (old new : Recorded) → IsLoadedAs cpu name ident old new → WasLoadedAs new.journal.entries name ident
was_given cpu name ident old new load =
    let left = written_back cpu new.machine.held.gone in
    let last : Contains (left ++ Loaded ident name cpu ∷ []) (Loaded ident name cpu) = Contains-push left (Loaded ident name cpu) in
    (cpu, subst (λ (es : List Entry). Contains es (Loaded ident name cpu)) (sym load.entries.entries) (Contains-append_right old.journal.entries (left ++ Loaded ident name cpu ∷ []) (Loaded ident name cpu) last))

pub owners_stay : (cpu : ℕ) (old new : Recorded) (o : Known) → Grew cpu old new → IsSound new → AreOwnersOf old.journal.entries o → AreOwnersOf new.journal.entries o
owners_stay cpu old new o grew sound are =
    let grown : new.journal.entries ≡ old.journal.entries ++ grew.entries = grew.grows.entries in
    let longer = still_owners old.journal.entries grew.entries o are (subst IsLegal grown sound.told.legal) in
    subst (λ (es : List Entry). AreOwnersOf es o) (sym grown) longer
