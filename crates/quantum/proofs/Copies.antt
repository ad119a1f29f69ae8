-- Steps leave what the views were copied from, and what is kept.
use Rattle.std.proofs.Common.{◌≡◌, ℕ, zero, suc, List, [], ◌∷◌, refl, ap, ◌∙◌}
use Rattle.rv32_exec.specs.Pages.{Page}
use Rattle.page_views.specs.Views.{copied, copies_of, Copied, View}
use Rattle.quantum.specs.declared.paused.Paused.{Paused}
use Rattle.quantum.specs.Ahead.{further, one_ahead, outcome, views_with, Ahead, HasSameCopies, IsRun}

with_copies : (vs : List View) (ps : List Page) → copies_of (views_with vs ps) ≡ copies_of vs
with_copies [] ps = refl
with_copies (v ∷ vs) [] = refl
with_copies (v ∷ vs) (p ∷ ps) = ap (λ (cs : List Copied). copied v ∷ cs) (with_copies vs ps)

further_copies : (k : ℕ) (a : Ahead) → copies_of (further k a).views ≡ copies_of a.views
further_copies zero a = refl
further_copies (suc k) a = further_copies k (one_ahead a) ∙ with_copies a.views (outcome a).pages

further_kept : (k : ℕ) (a : Ahead) → (further k a).kept ≡ a.kept
further_kept zero a = refl
further_kept (suc k) a = further_kept k (one_ahead a)

-- a run leaves them
pub run_copies : (limit : ℕ) (before after : Ahead) (answer : Paused) → IsRun limit before after answer → HasSameCopies before after
run_copies limit before after answer ran =
    record {
      views = ap (λ (a : Ahead). copies_of a.views) ran.took ∙ further_copies ran.count before;
      kept = ap (λ (a : Ahead). a.kept) ran.took ∙ further_kept ran.count before;
    }
