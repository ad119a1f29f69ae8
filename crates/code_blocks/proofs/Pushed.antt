-- A block with one more line.
use Rattle.std.proofs.Common.{◌≡◌, ℕ, true, false, List, [], ◌∷◌, ◌++◌, map, Option, Some, None, refl, ap, ◌∙◌}
use Rattle.std.specs.Prelude.{codes}
use Rattle.std.specs.Option.{is_some}
use Rattle.code_blocks.specs.Blocks.{Block, code_byte, first_of, with_line, with_unread}

abbrev pub block_of : List ℕ → List ℕ → Option ℕ → Block
block_of text numbers unread = record { text = text; numbers = numbers; unread = unread }

pub pushed : (old now : Block) (number : ℕ) (line text numbers : List ℕ) → old ≡ now → text ≡ old.text ++ map code_byte line ++ codes "\n" → numbers ≡ old.numbers ++ number ∷ [] → block_of text numbers old.unread ≡ with_line now number line
unfolding with_line
pushed old now number line text numbers is t ns = ap (λ (x : List ℕ). block_of x numbers old.unread) t ∙ ap (λ (x : List ℕ). block_of (old.text ++ map code_byte line ++ codes "\n") x old.unread) ns ∙ ap (λ (b : Block). with_line b number line) is

with_first : (u : Option ℕ) (number : ℕ) → is_some u ≡ false → Some number ≡ Some (first_of u number)
with_first None number e = refl
with_first (Some n) number e = absurd cc

with_later : (u : Option ℕ) (number : ℕ) → is_some u ≡ true → u ≡ Some (first_of u number)
with_later None number e = absurd cc
with_later (Some n) number e = refl

all_pushed : (old now : Block) (number : ℕ) (text numbers : List ℕ) (unread : Option ℕ) → old ≡ now → text ≡ old.text ++ codes "#\n" → numbers ≡ old.numbers ++ number ∷ [] → unread ≡ Some (first_of old.unread number) → block_of text numbers unread ≡ with_unread now number
unfolding with_unread
all_pushed old now number text numbers unread is t ns u = ap (λ (x : List ℕ). block_of x numbers unread) t ∙ ap (λ (x : List ℕ). block_of (old.text ++ codes "#\n") x unread) ns ∙ ap (λ (x : Option ℕ). block_of (old.text ++ codes "#\n") (old.numbers ++ number ∷ []) x) u ∙ ap (λ (b : Block). with_unread b number) is

pub pushed_first : (old now : Block) (number : ℕ) (text numbers : List ℕ) → old ≡ now → text ≡ old.text ++ codes "#\n" → numbers ≡ old.numbers ++ number ∷ [] → is_some old.unread ≡ false → block_of text numbers (Some number) ≡ with_unread now number
pushed_first old now number text numbers is t ns none = all_pushed old now number text numbers (Some number) is t ns (with_first old.unread number none)

pub pushed_later : (old now : Block) (number : ℕ) (text numbers : List ℕ) → old ≡ now → text ≡ old.text ++ codes "#\n" → numbers ≡ old.numbers ++ number ∷ [] → is_some old.unread ≡ true → block_of text numbers old.unread ≡ with_unread now number
pushed_later old now number text numbers is t ns some = all_pushed old now number text numbers old.unread is t ns (with_later old.unread number some)
