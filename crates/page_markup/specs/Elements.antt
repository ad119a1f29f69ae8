-- The texts of elements.
use Rattle.std.specs.Prelude.{ℕ, ◌==◌, if◌then◌else◌, List, [], ◌++◌, length, codes}
use Rattle.std.specs.List.{flat_map}
use Rattle.page_markup.specs.declared.attributes.Tag.TheVariants as tags
use Rattle.page_markup.specs.declared.elements.Element.{Element}
use Rattle.page_markup.specs.declared.elements.Group.{Group}
use Rattle.page_markup.specs.Markup.{escaped, opening_text, closing_text}

-- a title as an element, and nothing for none
unfoldable pub title_text : List ℕ → List ℕ
title_text title = if length title == 0 then [] else opening_text tags.Title [] ++ escaped title ++ closing_text tags.Title

-- an element with its title and its text, and a line feed
unfoldable pub element_text : Element → List ℕ
element_text e = opening_text e.tag e.attributes.items ++ (title_text e.title.items ++ escaped e.text.items) ++ closing_text e.tag ++ codes "\n"

abbrev pub elements_text : List Element → List ℕ
elements_text es = flat_map element_text es

unfoldable pub group_text : Group → List ℕ
group_text g = opening_text g.tag g.attributes.items ++ elements_text g.elements.items ++ closing_text g.tag
