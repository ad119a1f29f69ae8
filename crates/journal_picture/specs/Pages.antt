-- The text of a page.
use Rattle.std.specs.Prelude.{ℕ, List, ◌++◌}
use Rattle.std.specs.List.{flat_map}
use Rattle.page_markup.specs.declared.attributes.Tag.TheVariants as tags
use Rattle.page_markup.specs.Elements.{element_text, elements_text, group_text}
use Rattle.page_markup.specs.Markup.{opening_text, closing_text}
use Rattle.journal_picture.specs.declared.bars.Bar.{Bar}
use Rattle.journal_picture.specs.declared.page.Drawing.{Drawing}

-- an element for each bar
abbrev pub bar_text : Bar → List ℕ
bar_text bar = element_text bar.element

unfoldable pub canvas_text : Drawing → List ℕ
canvas_text d = opening_text tags.Svg d.canvas.items ++ (elements_text d.below.items ++ flat_map bar_text d.bars.items ++ elements_text d.above.items) ++ closing_text tags.Svg

-- what a page says of a journal
unfoldable pub content_text : Drawing → List ℕ
content_text d =
    elements_text d.heading.items ++ group_text d.table ++ group_text d.overview
    ++ (opening_text tags.Div d.frame.items ++ (group_text d.margin ++ canvas_text d) ++ closing_text tags.Div)

-- with what stands before it and behind it
unfoldable pub page_text : List ℕ → Drawing → List ℕ → List ℕ
page_text beginning d end = beginning ++ (content_text d ++ end)
