-- Rows once the content of a name changed where it stands.
use Rattle.std.proofs.Common.{◌≡◌, ◌≢◌, Bool, true, false, List, [], ◌∷◌, Option, Some, None, sym, ◌∙◌, ap, refl}
use Rattle.std.specs.Option.{option_map}
use Rattle.std.specs.Prelude.{if◌then◌else◌}
use Rattle.std.proofs.lemmas.List.Elements.{All-head, All-tail}
use Rattle.cache_ident.specs.declared.names.Name.{Name}
use Rattle.cache_ident.specs.contracts.names.NamePartialEq.TheImpl as names
use Rattle.owner_shelf.specs.declared.shelved.Shelved.{Shelved}
use Rattle.owner_shelf.specs.Rows.{is_named, row_under, row_with, rows_with, HasNoRow}
use Rattle.owner_shelf.proofs.NameLemmas.{eq_apart, eq_same, same_by_eq}
use Rattle.owner_shelf.proofs.RowLaws.{found_named}

module _ {R : Type 0} (called : R → Name) (name : Name) (left : R) (same : called left ≡ name) where
  -- the name stays
  pub name-with : (row : Shelved R) → called (row_with called name left row).content ≡ called row.content
  name-with row = by (is_named called name row) refl
    where
      by : (b : Bool) → is_named called name row ≡ b → called (if b then record row { content = left } else row).content ≡ called row.content
      by true passes = same ∙ sym (same_by_eq (called row.content) name passes)
      by false fails = refl

  -- and so does the owner
  pub owner-with : (row : Shelved R) → (row_with called name left row).owner ≡ row.owner
  owner-with row = by (is_named called name row)
    where
      by : (b : Bool) → (if b then record row { content = left } else row).owner ≡ row.owner
      by true = refl
      by false = refl

  pub with-there : (row : Shelved R) → called row.content ≡ name → row_with called name left row ≡ record row { content = left }
  with-there row is = ap (λ b. if b then record row { content = left } else row) (eq_same (called row.content) name is)

  pub with-other : (row : Shelved R) → called row.content ≢ name → row_with called name left row ≡ row
  with-other row apart = ap (λ b. if b then record row { content = left } else row) (eq_apart (called row.content) name apart)

  option_if : (f : Shelved R → Shelved R) (b : Bool) (x : Shelved R) (o : Option (Shelved R)) → (if b then Some (f x) else option_map f o) ≡ option_map f (if b then Some x else o)
  option_if f true x o = refl
  option_if f false x o = refl

  -- each name has its row, changed if it is of the name
  pub under-with : (rows : List (Shelved R)) (other : Name) → row_under called (rows_with called rows name left) other ≡ option_map (row_with called name left) (row_under called rows other)
  under-with [] other = refl
  under-with (x ∷ xs) other =
      let f = row_with called name left in
      let test : is_named called other (f x) ≡ is_named called other x = ap (λ (n : Name). (names.ghosts).eq n other) (name-with x) in
      ap (λ b. if b then Some (f x) else row_under called (rows_with called xs name left) other) test
      ∙ ap (λ later. if is_named called other x then Some (f x) else later) (under-with xs other)
      ∙ option_if f (is_named called other x) x (row_under called xs other)

  pub under-with_same : (rows : List (Shelved R)) (row : Shelved R) → row_under called rows name ≡ Some row → row_under called (rows_with called rows name left) name ≡ Some (record row { content = left })
  under-with_same rows row found = under-with rows name ∙ ap (option_map (row_with called name left)) found ∙ ap (λ (r : Shelved R). Some r) (with-there row (found_named called rows name row found))

  pub under-with_other : (rows : List (Shelved R)) (other : Name) → name ≢ other → row_under called (rows_with called rows name left) other ≡ row_under called rows other
  under-with_other rows other apart = under-with rows other ∙ by (row_under called rows other) refl
    where
      by : (o : Option (Shelved R)) → row_under called rows other ≡ o → option_map (row_with called name left) o ≡ o
      by None is = refl
      by (Some row) is = ap (λ (r : Shelved R). Some r) (with-other row (λ named. apart (sym named ∙ found_named called rows other row is)))

  -- where no row has the name, none changes
  pub with-absent : (rows : List (Shelved R)) → HasNoRow called rows name → rows_with called rows name left ≡ rows
  with-absent [] absent = refl
  with-absent (x ∷ xs) absent =
      let none : Shelved R → Type 0 = λ r. called r.content ≢ name in
      ap (λ (r : Shelved R). r ∷ rows_with called xs name left) (with-other x (All-head none x xs absent)) ∙ ap (λ rs. x ∷ rs) (with-absent xs (All-tail none x xs absent))
