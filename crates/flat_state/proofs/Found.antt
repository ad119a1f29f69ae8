-- What is known of a row that an access goes through.
use Rattle.std.proofs.Common.{◌≡◌, ℕ, ◌/◌, Bool, true, false, not, ◌&&◌, eqb, cond, List, Option, Some, None, refl, sym, ◌∙◌, ap, arith}
use Rattle.std.specs.List.{Contains}
use Rattle.std.proofs.lemmas.Bool.{and_from, and_parts, eq-eqb, eqb-true}
use Rattle.cache_ident.specs.declared.names.SpaceNo.{SpaceNo}
use Rattle.phys_groups.specs.declared.rows.Flags.{Flags}
use Rattle.phys_groups.specs.declared.rows.Row.{Row}
use Rattle.phys_groups.specs.Translation.{is_fit, is_row_of, judged, no_flag, no_right, row_of, through, translated}
use Rattle.flat_state.specs.Translation.{row_through}
use Rattle.flat_state.specs.Pages.{is_in}
use Rattle.flat_state.specs.Rest.{is_mapped}
use Rattle.flat_state.proofs.Finding.{any-found, find-contains, find-passes}

passed : (asked fit : Bool) (found row : Row) → row_through (cond (not asked) no_flag (cond (not fit) no_right (through found))) ≡ Some row → (asked ≡ true) × (fit ≡ true) × (found ≡ row)
passed false fit found row e = grind (arith, e)
passed true false found row e = grind (arith, e)
passed true true found row e = (refl, refl, grind (arith, e))

-- it is the row of the page, has the flag and is fit
judged-through : (rights : List (Bool × Bool)) (allows : Flags → Bool) (found : Option Row) (row : Row) → row_through (judged rights allows found) ≡ Some row → (found ≡ Some row) × (allows row.flags ≡ true) × (is_fit rights row ≡ true)
judged-through rights allows None row e = grind (arith, e)
judged-through rights allows (Some found) row e =
    let parts = passed (allows found.flags) (is_fit rights found) found row e in
    (ap Some parts.2, sym (ap (λ (r : Row). allows r.flags) parts.2) ∙ parts.0, sym (ap (λ (r : Row). is_fit rights r) parts.2) ∙ parts.1)

module _ (rights : List (Bool × Bool)) (rows : List Row) (allows : Flags → Bool) (space : SpaceNo) (va : ℕ) (row : Row) (found : row_through (translated rights rows allows space va) ≡ Some row) where
  pub found-row_of : row_of rows space (va / 4096) ≡ Some row
  found-row_of = (judged-through rights allows (row_of rows space (va / 4096)) row found).0

  pub found-allowed : allows row.flags ≡ true
  found-allowed = (judged-through rights allows (row_of rows space (va / 4096)) row found).1

  pub found-fit : is_fit rights row ≡ true
  found-fit = (judged-through rights allows (row_of rows space (va / 4096)) row found).2

  pub found-contains : Contains rows row
  found-contains = find-contains (is_row_of space (va / 4096)) rows row found-row_of

  pub found-space : row.space.0 ≡ space.0
  found-space = eqb-true row.space.0 space.0 (and_parts (eqb row.space.0 space.0) (eqb row.vpn.0 (va / 4096)) (find-passes (is_row_of space (va / 4096)) rows row found-row_of)).0

  pub found-page : row.vpn.0 ≡ va / 4096
  found-page = eqb-true row.vpn.0 (va / 4096) (and_parts (eqb row.space.0 space.0) (eqb row.vpn.0 (va / 4096)) (find-passes (is_row_of space (va / 4096)) rows row found-row_of)).1

  -- its frame is behind a page of the space
  pub found-mapped : is_mapped rows space row.frame ≡ true
  found-mapped = any-found (is_row_of space (va / 4096)) (λ r. is_in space r && eqb r.frame.0 row.frame.0) rows row found-row_of (and_from (is_in space row) (eqb row.frame.0 row.frame.0) (eq-eqb row.space.0 space.0 found-space) (eq-eqb row.frame.0 row.frame.0 refl))
