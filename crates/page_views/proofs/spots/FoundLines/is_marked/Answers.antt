-- The view of the page is noted with its mark.
use Rattle.std.proofs.Common.{◌≡◌, ℕ, ◌<◌, ◌%◌, Bool, true, false, List, length, get_or, Some, sym, ap, ap₂, ◌∙◌, rules}
use Rattle.std.specs.Prelude.{slice_get}
use Rattle.std.proofs.lemmas.Bool.{OnTrue_from}
use Rattle.std.proofs.lemmas.Option.{slice_get-get_or}
use Rattle.page_views.specs.declared.spots.Found.{Found}
use Rattle.page_views.proofs.spots.FoundLines.is_marked.Goals as goal

-- what is noted for a line, if that is of the page and has the mark
noted : (xs : List Found) (i k page : ℕ) (d : Found) → i ≡ k → k < length xs → (get_or xs i d).page ≡ page → (get_or xs i d).marked ≡ true
    → (place : ℕ) × (slice_get xs k ≡ Some (record { page = page; place = place; marked = true }))
noted xs i k page d same below is marked =
    let at : slice_get xs k ≡ Some (get_or xs i d) = slice_get-get_or xs k d below ∙ ap (λ (n : ℕ). Some (get_or xs n d)) (sym same) in
    ((get_or xs i d).place, at ∙ ap₂ (λ (n : ℕ) (b : Bool). let f : Found = record { page = n; place = (get_or xs i d).place; marked = b } in Some f) is marked)

pub returns-then-found-page : goal.returns-then-found-page
returns-then-found-page c =
    let xs = c.args.self.now.lines in
    let below : c.args.page % 64 < length xs = search rules in
    OnTrue_from _ _ (λ marked. noted xs c.line_of.result (c.args.page % 64) c.args.page (record { page = 0; place = 0; marked = false }) c.line_of.ensures below c.if-found-page.true marked)
