-- Rows with their stamps, and the stamp of each page that has a row.
use Rattle.std.specs.Prelude.{◌≡◌, ℕ, ◌<◌, Bool, false, cond, List, [], ◌∷◌, Option, Some, None}
use Rattle.std.specs.List.{All, AllPairs}
use Rattle.std.specs.List.Sorted.{IsStrictlySortedBy}
use Rattle.std.specs.Ordering.{nat_cmp}
use Rattle.std.specs.BTreeMap.{BTreeMap, get}
use Rattle.std.specs.Map.{keys_of, values_of}
use Rattle.phys_groups.specs.declared.rows.Row.{Row}
use Rattle.phys_groups.specs.Translation.{is_row_of}
use Rattle.row_table.specs.declared.pages.PageKey.{PageKey}
use Rattle.row_table.specs.Pages.{is_of, page_cmp}

-- the stamp of the first row that passes
abbrev pub stamp_of : (Row → Bool) → List (ℕ × Row) → Option ℕ
stamp_of test [] = None
stamp_of test (entry ∷ entries) = cond (test entry.1) (Some entry.0) (stamp_of test entries)

-- each stamp is below the number
abbrev pub AreBelow : ℕ → List ℕ → Type 0
AreBelow stamp stamps = All (λ other. other < stamp) stamps

-- no page has two rows
abbrev pub HaveOneRow : List Row → Type 0
HaveOneRow rows = AllPairs (λ a b. is_row_of a.space a.vpn.0 b ≡ false) rows

-- later rows have greater stamps, no page has two rows, and each page has the stamp of its row
pub record AreStamped (entries : List (ℕ × Row)) (stamps : BTreeMap PageKey ℕ) : Type 0 where
  pub rising : IsStrictlySortedBy nat_cmp (keys_of entries)
  pub one_row : HaveOneRow (values_of entries)
  pub found : (page : PageKey) → get page_cmp stamps page ≡ stamp_of (is_of page) entries
