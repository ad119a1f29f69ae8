-- Behind the seal alone is anything loaded.
use Rattle.std.proofs.Common.{◌≡◌, ◌<◌, true, false, List, [], ◌∷◌, length, sym, ◌∙◌, ap, inl, inr, arith}
use Rattle.std.proofs.lemmas.Bool.{cases_Bool}
use Rattle.cache_ident.specs.declared.idents.Ident.{Ident}
use Rattle.cache_ident.specs.declared.idents.Standing.TheVariants.{Live}
use Rattle.cache_ident.specs.declared.names.Name.{Name}
use Rattle.cache_ident.specs.declared.rolls.Issued.{Issued}
use Rattle.cache_ident.specs.Residents.{Resident, IsNameResident}
use Rattle.cache_ident.specs.Rolls.{standing_in}
use Rattle.run_journal.proofs.Whole.{nothing_loaded}
use Rattle.cached_machine.specs.desc_stores.specs.Contents.{residents_of}
use Rattle.board_core.specs.Core.{contents_of, IsSound, Recorded}
use Rattle.board_core.specs.Growth.{count_loaded}

module _ (b : Recorded) (sound : IsSound b) where
  unsealed : b.sealed ≡ false → (length (contents_of b).issued ≡ 0) × (residents_of (contents_of b) ≡ [])
  unsealed before =
      let none = nothing_loaded b.journal.entries sound.told.legal.each (sound.told.seal ∙ before) in
      (sym sound.told.loads ∙ none.0, sym sound.told.residents ∙ none.1)

  pub sealed_where_loaded : 0 < count_loaded b → b.sealed ≡ true
  sealed_where_loaded some = elim (cases_Bool b.sealed) [
    | inl sealed ↦ sealed
    | inr before ↦ absurd (let none = ap (λ (rs : List Resident). length rs) (unsealed before).1 in omega arith)
  ]

  pub sealed_if : (n : Name) → IsNameResident (residents_of (contents_of b)) n → b.sealed ≡ true
  sealed_if n r = let within = r.1.1 in sealed_where_loaded (omega arith)

  pub sealed_if_live : (ident : Ident) → standing_in (contents_of b).issued ident ≡ Live → b.sealed ≡ true
  sealed_if_live ident live = elim (cases_Bool b.sealed) [
    | inl sealed ↦ sealed
    | inr before ↦ absurd (none_issued (contents_of b).issued (unsealed before).0 live)
  ]
    where
      none_issued : (issued : List Issued) → length issued ≡ 0 → standing_in issued ident ≡ Live → ⊥
      none_issued [] none live = absurd (cc)
      none_issued (entry ∷ rest) none live = absurd (cc)
