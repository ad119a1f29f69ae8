-- How many fields stand behind a line's word, and which options. Rule 3 is broken where they are too few or too many,
-- or where a word stands in the place of an option that is none of the line's.
use Rattle.std.specs.Prelude.{ℕ, ◌==◌, if◌then◌else◌, List, [], length, Result, Ok, Err, Option, Some, None, codes}
use Rattle.std.specs.Option.{ok_or}
use Rattle.std.specs.Str.{bytes_eq}
use Rattle.text_fields.specs.Reading.{first_of}
use Rattle.text_fields.specs.Lines.{one, two, three, four}
use Rattle.scenario_lines.specs.Rules.{◌>>=◌}

unfoldable pub next : List (List ℕ) → Result (List ℕ × List (List ℕ)) ℕ
next line = ok_or (first_of line) 3

unfoldable pub no_more : List (List ℕ) → Result (Unit {0}) ℕ
no_more line = if length line == 0 then Ok tt else Err 3

unfoldable pub single : List (List ℕ) → Result (List ℕ) ℕ
single line = ok_or (one line) 3

unfoldable pub pair : List (List ℕ) → Result (List ℕ × List ℕ) ℕ
pair line = ok_or (two line) 3

unfoldable pub triple : List (List ℕ) → Result (List ℕ × List ℕ × List ℕ) ℕ
triple line = ok_or (three line) 3

unfoldable pub quadruple : List (List ℕ) → Result (List ℕ × List ℕ × List ℕ × List ℕ) ℕ
quadruple line = ok_or (four line) 3

abbrev pub option_from : List ℕ → List (List ℕ) → Option (List ℕ × List (List ℕ)) → Result (List ℕ × List (List ℕ)) ℕ
option_from name line None = Ok ([], line)
option_from name line (Some p) = if bytes_eq p.0 name then next p.1 else Ok ([], line)

-- The field behind the option's name, where that stands at the front, and the fields behind. An option that is left
-- out has no bytes.
unfoldable pub option : List ℕ → List (List ℕ) → Result (List ℕ × List (List ℕ)) ℕ
option name line = option_from name line (first_of line)

abbrev pub locks_from : Option (List ℕ × List (List ℕ)) → Result (List ℕ × List ℕ × List ℕ × List ℕ) ℕ
locks_from None = Ok ([], [], [], [])
locks_from (Some p) = if bytes_eq p.0 (codes "locks") then quadruple p.1 else Err 3

-- nothing, or `locks` and four fields
unfoldable pub locks : List (List ℕ) → Result (List ℕ × List ℕ × List ℕ × List ℕ) ℕ
locks line = locks_from (first_of line)

-- the fields of a thread: its number, space and pc, and the options prio, a0 and a1
pub record ThreadFields : Type 0 where
  pub no : List ℕ
  pub space : List ℕ
  pub pc : List ℕ
  pub priority : List ℕ
  pub a0 : List ℕ
  pub a1 : List ℕ

unfoldable pub thread_fields : List (List ℕ) → Result ThreadFields ℕ
thread_fields line = do
  name ← next line
  space ← next name.1
  pc ← next space.1
  priority ← option (codes "prio") pc.1
  a0 ← option (codes "a0") priority.1
  a1 ← option (codes "a1") a0.1
  no_more a1.1 >>= λ _. Ok (record { no = name.0; space = space.0; pc = pc.0; priority = priority.0; a0 = a0.0; a1 = a1.0 })

-- the fields of a row: its space, page, frame and flags, and the option signal
pub record RowFields : Type 0 where
  pub space : List ℕ
  pub vpn : List ℕ
  pub frame : List ℕ
  pub flags : List ℕ
  pub signal : List ℕ

unfoldable pub row_fields : List (List ℕ) → Result RowFields ℕ
row_fields line = do
  space ← next line
  vpn ← next space.1
  frame ← next vpn.1
  flags ← next frame.1
  signal ← option (codes "signal") flags.1
  no_more signal.1 >>= λ _. Ok (record { space = space.0; vpn = vpn.0; frame = frame.0; flags = flags.0; signal = signal.0 })

-- the fields of words: their frame and offset, and one word or more
unfoldable pub word_fields : List (List ℕ) → Result (List ℕ × List ℕ × List (List ℕ)) ℕ
word_fields line = do
  frame ← next line
  offset ← next frame.1
  next offset.1 >>= λ _. Ok (frame.0, offset.0, offset.1)
