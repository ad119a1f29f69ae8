-- What a picture shows of a journal.
use Rattle.std.specs.Prelude.{◌≡◌, ℕ, ◌+◌, ◌-◌, nat_lt, if◌then◌else◌, List, All, length, map, filter, min, take}
use Rattle.run_journal.specs.declared.entries.Entry.{Entry}
use Rattle.page_markup.specs.Markup.{IsContent}
use Rattle.journal_picture.specs.declared.bars.Bar.{Bar}
use Rattle.journal_picture.specs.declared.lives.Life.{Life}
use Rattle.journal_picture.specs.declared.page.Drawing.{Drawing}
use Rattle.journal_picture.specs.declared.static_text.TheConstants.{BEGINNING, END}
use Rattle.journal_picture.specs.declared.whole.Part.{Part}
use Rattle.journal_picture.specs.declared.whole.Judged.{Judged}
use Rattle.journal_picture.specs.declared.whole.Judged.TheVariants.{Legal, Broken}
use Rattle.journal_picture.specs.Lives.{EndsIn, load_of, loads_from, meets}
use Rattle.journal_picture.specs.Pages.{content_text, page_text}

-- the entries that are by the rules: all, or those before the place that breaks one
abbrev pub legal_part : List Entry → Judged → List Entry
legal_part j (Legal settled) = j
legal_part j (Broken at point) = take at j

-- the life that a bar shows
abbrev pub life_of : Bar → Life
life_of bar = bar.life

-- These are lives of entries: one for each load in order, with its place, and what ends one stands at its end.
pub record AreLivesOf (j : List Entry) (lives : List Life) : Type 0 where
  pub loads : map load_of lives ≡ loads_from 0 j
  pub ends : All (EndsIn j) lives

-- ---- which places are drawn

abbrev pub end_asked : List Entry → Part → ℕ
end_asked j part = min part.to (length j)

-- the first place that is asked for and there
abbrev pub first_drawn : List Entry → Part → ℕ
first_drawn j part = min part.from (end_asked j part)

-- the end of what is drawn from one place on to another, of which there are at most 20,000 places
abbrev pub within_most : ℕ → ℕ → ℕ
within_most from end = if nat_lt 20000 (end - from) then from + 20000 else end

abbrev pub end_drawn : List Entry → Part → ℕ
end_drawn j part = within_most (first_drawn j part) (end_asked j part)

-- ---- pictures

-- A drawing of these entries has one bar for each of their lives that meets the places that are drawn, in order of loading.
pub record HasBars (j : List Entry) (part : Part) (drawing : Drawing) : Type 0 where
  pub lives : List Life
  pub are : AreLivesOf j lives
  pub bars : map life_of drawing.bars.items ≡ filter (meets (first_drawn j part) (end_drawn j part)) lives

-- The text is that of a page, between what stands in each, and its content is well-formed and on the entries that are by the rules.
pub record IsPicture (j : List Entry) (judged : Judged) (part : Part) (text : List ℕ) : Type 0 where
  pub drawing : Drawing
  pub its : text ≡ page_text BEGINNING.now drawing END.now
  pub formed : IsContent (content_text drawing)
  pub bars : HasBars (legal_part j judged) part drawing
