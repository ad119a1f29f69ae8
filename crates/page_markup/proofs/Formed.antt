-- Why the texts of elements are well-formed.
use Rattle.std.proofs.Common.{ℕ, Bool, true, false, List, [], ◌∷◌, length}
use Rattle.std.specs.Prelude.{◌==◌, if◌then◌else◌, codes}
use Rattle.page_markup.specs.declared.attributes.Tag.TheVariants as tags
use Rattle.page_markup.specs.declared.elements.Element.{Element}
use Rattle.page_markup.specs.declared.elements.Group.{Group}
use Rattle.page_markup.specs.Elements.{element_text, elements_text, group_text, title_text}
use Rattle.page_markup.specs.Markup.{escaped, IsContent, Nothing, Escaped, Within, Behind}

unless : (b : Bool) (text : List ℕ) → IsContent text → IsContent (if b then [] else text)
unless true text is = Nothing
unless false text is = is

title_is_content : (title : List ℕ) → IsContent (title_text title)
unfolding title_text
title_is_content title = unless (length title == 0) _ (Within tags.Title [] (escaped title) (Escaped title))

feed_is_content : IsContent (codes "\n")
feed_is_content = Escaped (10 ∷ [])

pub element_is_content : (e : Element) → IsContent (element_text e)
unfolding element_text
element_is_content e =
    Behind _ _ (Within e.tag e.attributes.items _ (Behind _ _ (title_is_content e.title.items) (Escaped e.text.items))) feed_is_content

pub elements_are_content : (es : List Element) → IsContent (elements_text es)
elements_are_content [] = Nothing
elements_are_content (e ∷ es) = Behind _ _ (element_is_content e) (elements_are_content es)

pub group_is_content : (g : Group) → IsContent (group_text g)
unfolding group_text
group_is_content g = Within g.tag g.attributes.items _ (elements_are_content g.elements.items)
