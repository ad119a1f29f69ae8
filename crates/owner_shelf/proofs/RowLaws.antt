-- Which row a name has once another row has come or gone.
use Rattle.std.proofs.Common.{◌≡◌, ◌≢◌, ℕ, zero, suc, ◌≤◌, Bool, true, false, not, List, [], ◌∷◌, length, None, Some, sym, ◌∙◌, ap, refl, arith}
use Rattle.std.specs.List.{insert}
use Rattle.std.specs.Prelude.{if◌then◌else◌}
use Rattle.std.proofs.lemmas.Bool.{false≢true}
use Rattle.std.proofs.lemmas.List.Elements.{All-cons, All-head, All-tail}
use Rattle.cache_ident.specs.declared.names.Name.{Name}
use Rattle.sorted_list.specs.Sorted.{IsAdded}
use Rattle.owner_shelf.specs.declared.shelved.Shelved.{Shelved}
use Rattle.owner_shelf.specs.Rows.{is_named, row_under, rows_without, HasNoRow}
use Rattle.owner_shelf.proofs.NameLemmas.{eq_apart, eq_itself, eq_same, same_by_eq}

module _ {R : Type 0} (called : R → Name) where
  inserted_same : (rows : List (Shelved R)) (at : ℕ) (row : Shelved R) → at ≤ length rows → HasNoRow called rows (called row.content) → row_under called (insert rows at row) (called row.content) ≡ Some row
  inserted_same rows zero row within absent = rw (eq_itself (called row.content)) refl
  inserted_same [] (suc at) row within absent = absurd (omega (arith, within))
  inserted_same (x ∷ xs) (suc at) row within absent =
      let other = eq_apart (called x.content) (called row.content) (All-head (λ (r : Shelved R). called r.content ≢ called row.content) x xs absent) in
      rw other (inserted_same xs at row (omega arith) (All-tail (λ (r : Shelved R). called r.content ≢ called row.content) x xs absent))

  inserted_other : (rows : List (Shelved R)) (at : ℕ) (row : Shelved R) (name : Name) → called row.content ≢ name → row_under called (insert rows at row) name ≡ row_under called rows name
  inserted_other rows zero row name apart = rw (eq_apart (called row.content) name apart) refl
  inserted_other [] (suc at) row name apart = rw (eq_apart (called row.content) name apart) refl
  inserted_other (x ∷ xs) (suc at) row name apart = ap (λ later. if is_named called name x then Some x else later) (inserted_other xs at row name apart)

  -- the row that came is that of its name, and each other name keeps its row
  pub under-added_same : (old new : List (Shelved R)) (row : Shelved R) → IsAdded old new row → HasNoRow called old (called row.content) → row_under called new (called row.content) ≡ Some row
  under-added_same old new row added absent = ap (λ rows. row_under called rows (called row.content)) added.2 ∙ inserted_same old added.0 row added.1 absent

  pub under-added_other : (old new : List (Shelved R)) (row : Shelved R) (name : Name) → IsAdded old new row → called row.content ≢ name → row_under called new name ≡ row_under called old name
  under-added_other old new row name added apart = ap (λ rows. row_under called rows name) added.2 ∙ inserted_other old added.0 row name apart

  -- without a name no row has it
  pub absent-without : (rows : List (Shelved R)) (name : Name) → HasNoRow called (rows_without called rows name) name
  absent-without [] name = λ k d within. absurd (omega (arith, within))
  absent-without (x ∷ xs) name = by (absent-without xs name) (is_named called name x) refl
    where
      by : HasNoRow called (rows_without called xs name) name → (b : Bool) → is_named called name x ≡ b → HasNoRow called (if not b then x ∷ rows_without called xs name else rows_without called xs name) name
      by rest true passes = rest
      by rest false fails = All-cons (λ (r : Shelved R). called r.content ≢ name) x (rows_without called xs name) (λ same. false≢true (sym fails ∙ eq_same (called x.content) name same)) rest

  -- and each other name keeps its row
  pub under-without_other : (rows : List (Shelved R)) (name other : Name) → name ≢ other → row_under called (rows_without called rows name) other ≡ row_under called rows other
  under-without_other [] name other apart = refl
  under-without_other (x ∷ xs) name other apart = by (under-without_other xs name other apart) (is_named called name x) refl
    where
      by : row_under called (rows_without called xs name) other ≡ row_under called xs other → (b : Bool) → is_named called name x ≡ b → row_under called (if not b then x ∷ rows_without called xs name else rows_without called xs name) other ≡ (if is_named called other x then Some x else row_under called xs other)
      by rest true passes =
          let fails = eq_apart (called x.content) other (λ same. apart (sym (same_by_eq (called x.content) name passes) ∙ same)) in
          rw fails rest
      by rest false fails = ap (λ later. if is_named called other x then Some x else later) rest

  -- the row that is found has the name
  pub found_named : (rows : List (Shelved R)) (name : Name) (row : Shelved R) → row_under called rows name ≡ Some row → called row.content ≡ name
  found_named [] name row found = absurd (none found)
    where
      none : None ≡ Some row → ⊥
      none e = cc
  found_named (x ∷ xs) name row found = by (λ later. found_named xs name row later) (is_named called name x) refl found
    where
      same_row : (a b : Shelved R) → Some a ≡ Some b → a ≡ b
      same_row a b e = cc

      by : (row_under called xs name ≡ Some row → called row.content ≡ name) → (b : Bool) → is_named called name x ≡ b → (if b then Some x else row_under called xs name) ≡ Some row → called row.content ≡ name
      by next true passes here = ap (λ (r : Shelved R). called r.content) (sym (same_row x row here)) ∙ same_by_eq (called x.content) name passes
      by next false fails later = next later

  -- where no row has a name, none is found under it
  pub under-absent : (rows : List (Shelved R)) (name : Name) → HasNoRow called rows name → row_under called rows name ≡ None
  under-absent [] name absent = refl
  under-absent (x ∷ xs) name absent = rw (eq_apart (called x.content) name (All-head (λ (r : Shelved R). called r.content ≢ name) x xs absent)) (under-absent xs name (All-tail (λ (r : Shelved R). called r.content ≢ name) x xs absent))
