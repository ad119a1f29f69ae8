-- What stands in a page: elements with attributes, and escaped texts.
use Rattle.std.specs.Prelude.{ℕ, ◌==◌, if◌then◌else◌, List, [], ◌∷◌, ◌++◌, codes}
use Rattle.std.specs.List.{flat_map}
use Rattle.page_markup.specs.declared.attributes.Attribute.{Attribute}
use Rattle.page_markup.specs.declared.attributes.AttributeName.{AttributeName}
use Rattle.page_markup.specs.declared.attributes.AttributeName.TheVariants as names
use Rattle.page_markup.specs.declared.attributes.Tag.{Tag}
use Rattle.page_markup.specs.declared.attributes.Tag.TheVariants as tags

-- ---- texts

-- what stands for a byte of a text, so that it isn't read as markup: `<`, `>`, `&` and `"` are written by name
abbrev pub escaped_byte : ℕ → List ℕ
escaped_byte byte =
    if byte == 60 then codes "&lt;" else (if byte == 62 then codes "&gt;" else (if byte == 38 then codes "&amp;" else (if byte == 34 then codes "&quot;" else byte ∷ [])))

abbrev pub escaped : List ℕ → List ℕ
escaped text = flat_map escaped_byte text

-- ---- words

abbrev pub tag_word : Tag → List ℕ
tag_word tags.Div = codes "div"
tag_word tags.Paragraph = codes "p"
tag_word tags.Span = codes "span"
tag_word tags.Svg = codes "svg"
tag_word tags.Title = codes "title"
tag_word tags.Text = codes "text"
tag_word tags.Rect = codes "rect"
tag_word tags.Path = codes "path"
tag_word tags.Polyline = codes "polyline"

abbrev pub attribute_word : AttributeName → List ℕ
attribute_word names.Class = codes "class"
attribute_word names.X = codes "x"
attribute_word names.Y = codes "y"
attribute_word names.Width = codes "width"
attribute_word names.Height = codes "height"
attribute_word names.Points = codes "points"
attribute_word names.Shape = codes "d"
attribute_word names.Transform = codes "transform"
attribute_word names.Role = codes "role"
attribute_word names.Ident = codes "data-ident"
attribute_word names.Name = codes "data-name"
attribute_word names.Loaded = codes "data-loaded"
attribute_word names.Left = codes "data-left"
attribute_word names.Cause = codes "data-cause"
attribute_word names.From = codes "data-from"
attribute_word names.To = codes "data-to"
attribute_word names.Down = codes "data-y"
attribute_word names.Counts = codes "data-counts"
attribute_word names.Step = codes "data-step"

-- ---- elements

-- a space, the name, and the escaped value in quotes
unfoldable pub attribute_text : Attribute → List ℕ
attribute_text a = codes " " ++ attribute_word a.name ++ codes "=\"" ++ escaped a.value.items ++ codes "\""

abbrev pub attributes_text : List Attribute → List ℕ
attributes_text as' = flat_map attribute_text as'

abbrev pub opening_text : Tag → List Attribute → List ℕ
opening_text tag as' = codes "<" ++ tag_word tag ++ attributes_text as' ++ codes ">"

abbrev pub closing_text : Tag → List ℕ
closing_text tag = codes "</" ++ tag_word tag ++ codes ">"

-- Well-formed content: nothing, a text that is escaped, an element with well-formed content whose end has the word of its
-- beginning, and one content behind another.
pub data IsContent : List ℕ → Type 0 where
  Nothing : IsContent []
  Escaped : (text : List ℕ) → IsContent (escaped text)
  Within : (tag : Tag) (as' : List Attribute) (inner : List ℕ) → IsContent inner → IsContent (opening_text tag as' ++ inner ++ closing_text tag)
  Behind : (first more : List ℕ) → IsContent first → IsContent more → IsContent (first ++ more)
