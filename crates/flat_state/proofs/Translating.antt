-- A page of a space translates as its row does.
use Rattle.std.proofs.Common.{◌≡◌, ℕ, ◌/◌, Bool, true, false, not, ◌&&◌, eqb, cond, List, Option, Some, None, refl, sym, ◌∙◌, ap}
use Rattle.std.specs.Option.{option_map}
use Rattle.cache_ident.specs.declared.names.SpaceNo.{SpaceNo}
use Rattle.phys_groups.specs.declared.rows.Row.{Row}
use Rattle.phys_groups.specs.Translation.{is_fit, judged, no_flag, no_right, row_of, through, translated}
use Rattle.rv32_exec.specs.declared.statuses.Access.{Access}
use Rattle.rv32_exec.specs.declared.statuses.Access.TheVariants.{Fetch, Read, Write}
use Rattle.rv32_exec.specs.Pages.{Page, allows, translation, where_allowed}
use Rattle.flat_state.specs.Translation.{row_through, wants}
use Rattle.flat_state.specs.Pages.{is_in, page_of, pages_in}
use Rattle.flat_state.proofs.Finding.{find-map-filter}

-- a page is gone through where it allows the access
allowed : (access : Access) (p : Page) (b : Bool) → allows access p ≡ b → where_allowed access (Some p) ≡ cond b (Some p) None
allowed access p b e = rw e refl

-- a row is gone through where it has the flag and is fit
reaches : {X : Type 0} (f : Row → X) (row : Row) (asked fit : Bool) → option_map f (row_through (cond (not asked) no_flag (cond (not fit) no_right (through row)))) ≡ cond (asked && fit) (Some (f row)) None
reaches f row false fit = refl
reaches f row true false = refl
reaches f row true true = refl

module _ (rights : List (Bool × Bool)) (memory : List ℕ) where
  -- a page has a flag where its row has it and is fit
  allows-page_of : (access : Access) (row : Row) → allows access (page_of rights memory row) ≡ (wants access row.flags && is_fit rights row)
  allows-page_of Fetch row = refl
  allows-page_of Read row = refl
  allows-page_of Write row = refl

  -- the same row is found, and it allows the same
  where_allowed-page_of : (access : Access) (found : Option Row) → where_allowed access (option_map (page_of rights memory) found) ≡ option_map (page_of rights memory) (row_through (judged rights (wants access) found))
  where_allowed-page_of access None = refl
  where_allowed-page_of access (Some row) =
      allowed access (page_of rights memory row) _ (allows-page_of access row) ∙ sym (reaches (page_of rights memory) row (wants access row.flags) (is_fit rights row))

  -- a page translates as its row does
  pub translation-pages : (rows : List Row) (space : SpaceNo) (va : ℕ) (access : Access) → translation (pages_in rights memory rows space) va access ≡ option_map (page_of rights memory) (row_through (translated rights rows (wants access) space va))
  unfolding translation
  translation-pages rows space va access =
      ap (where_allowed access) (find-map-filter (is_in space) (λ p. eqb p.number (va / 4096)) (page_of rights memory) rows) ∙ where_allowed-page_of access (row_of rows space (va / 4096))
