-- What a search in the rows that finds nothing says.
use Rattle.std.proofs.Common.{◌≡◌, Bool, true, false, List, [], ◌∷◌, get_or, All, Option, None, Some, IsSome, sym, ◌∙◌, subst, refl, arith}
use Rattle.std.specs.List.{find}
use Rattle.std.specs.Prelude.{if◌then◌else◌}
use Rattle.std.proofs.lemmas.Bool.{false≢true}
use Rattle.std.specs.Option.{option_map}
use Rattle.std.proofs.lemmas.List.Elements.{All-cons}
use Rattle.cache_ident.specs.declared.names.Name.{Name}
use Rattle.owner_shelf.specs.declared.shelved.Shelved.{Shelved}
use Rattle.owner_shelf.specs.Rows.{content_under, is_named, row_under, HasNoRow}
use Rattle.owner_shelf.proofs.NameLemmas.{eq_same}

apart : {X : Type 0} (x : X) → Some x ≡ None → ⊥
apart x e = cc

pub some_is : {X : Type 0} (o : Option X) (x : X) → o ≡ Some x → IsSome o
some_is o x is = subst IsSome (sym is) refl

-- what isn't found fails the test everywhere
find_none : {X : Type 0} (p : X → Bool) (xs : List X) → find p xs ≡ None → All (λ x. p x ≡ false) xs
find_none p [] none = λ k d within. absurd (omega (arith, within))
find_none {X} p (x ∷ xs) none = by (λ later. find_none p xs later) (p x) refl none
  where
    by : (find p xs ≡ None → All (λ x. p x ≡ false) xs) → (b : Bool) → p x ≡ b → (if b then Some x else find p xs) ≡ None → All (λ x. p x ≡ false) (x ∷ xs)
    by next true passes here = absurd (apart x here)
    by next false fails later = All-cons (λ x. p x ≡ false) x xs fails (next later)

no_content : {X Y : Type 0} (f : X → Y) (o : Option X) → option_map f o ≡ None → o ≡ None
no_content f None none = refl
no_content f (Some x) none = absurd (apart (f x) none)

-- where no row is found, no row has the name
pub nothing_found : {R : Type 0} (called : R → Name) (rows : List (Shelved R)) (name : Name) → content_under called rows name ≡ None → HasNoRow called rows name
nothing_found {R} called rows name none k d within same =
    let fails = find_none (is_named called name) rows (no_content (λ (row : Shelved R). row.content) (row_under called rows name) none) in
    false≢true (sym (fails k d within) ∙ eq_same (called (get_or rows k d).content) name same)
