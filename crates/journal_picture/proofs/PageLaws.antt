-- Why the content of a page is well-formed.
use Rattle.std.proofs.Common.{◌≡◌, ℕ, List, [], ◌∷◌, ap₂, filter, map, subst, ◌∙◌}
use Rattle.std.specs.List.{flat_map}
use Rattle.page_markup.proofs.Formed.{element_is_content, elements_are_content, group_is_content}
use Rattle.page_markup.specs.declared.attributes.Tag.TheVariants as tags
use Rattle.page_markup.specs.Markup.{IsContent, Nothing, Within, Behind}
use Rattle.journal_picture.specs.declared.bars.Bar.{Bar}
use Rattle.journal_picture.specs.declared.page.Drawing.{Drawing}
use Rattle.run_journal.specs.declared.entries.Entry.{Entry}
use Rattle.journal_picture.specs.declared.lives.Life.{Life}
use Rattle.journal_picture.specs.declared.whole.Part.{Part}
use Rattle.journal_picture.specs.Lives.{meets}
use Rattle.journal_picture.specs.Pages.{bar_text, canvas_text, content_text}
use Rattle.journal_picture.specs.Pictures.{end_drawn, first_drawn, life_of, AreLivesOf, HasBars}

bars_are_content : (bars : List Bar) → IsContent (flat_map bar_text bars)
bars_are_content [] = Nothing
bars_are_content (bar ∷ bars) = Behind _ _ (element_is_content bar.element) (bars_are_content bars)

canvas_is_content : (d : Drawing) → IsContent (canvas_text d)
unfolding canvas_text
canvas_is_content d =
    Within tags.Svg d.canvas.items _ (Behind _ _ (Behind _ _ (elements_are_content d.below.items) (bars_are_content d.bars.items)) (elements_are_content d.above.items))

pub content_is_content : (d : Drawing) → IsContent (content_text d)
unfolding content_text
content_is_content d =
    Behind _ _ (Behind _ _ (Behind _ _ (elements_are_content d.heading.items) (group_is_content d.table)) (group_is_content d.overview))
    (Within tags.Div d.frame.items _ (Behind _ _ (group_is_content d.margin) (canvas_is_content d)))

-- a drawing whose bars are those of the lives that meet what is drawn
pub has_bars : (j shown : List Entry) (part : Part) (d : Drawing) (lives : List Life) (from to : ℕ) → shown ≡ j → AreLivesOf shown lives → from ≡ first_drawn shown part → to ≡ end_drawn shown part
    → map life_of d.bars.items ≡ filter (meets from to) lives → HasBars j part d
has_bars j shown part d lives from to is are first end bars =
    subst (λ (es : List Entry). HasBars es part d) is (record { lives = lives; are = are; bars = bars ∙ ap₂ (λ (x y : ℕ). filter (meets x y) lives) first end })
