-- Where an input is cut into a scenario and a journal.
use Rattle.std.specs.Prelude.{ℕ, ◌+◌, Bool, if◌then◌else◌, List, [], ◌∷◌, length, take, drop, codes}
use Rattle.text_fields.specs.Lines.{pieces, is_feed, fields, one, without_comment, without_return}
use Rattle.scenario_reader.specs.scenario_lines.specs.Lines.{is_only}

-- the only field of the line is end
abbrev pub is_end : List ℕ → Bool
is_end line = is_only (codes "end") (one (fields (without_comment (without_return line))))

-- how many bytes the lines take up to the first such line, each with its line feed; all of them where there is none
abbrev pub bytes_to_end : List (List ℕ) → ℕ
bytes_to_end [] = 0
bytes_to_end (line ∷ more) = length line + 1 + (if is_end line then 0 else bytes_to_end more)

-- the bytes up to the first line whose only field is end, and with that line
unfoldable pub scenario_part : List ℕ → List ℕ
scenario_part bytes = take (bytes_to_end (pieces is_feed bytes)) bytes

-- what stands behind that line
unfoldable pub journal_part : List ℕ → List ℕ
journal_part bytes = drop (bytes_to_end (pieces is_feed bytes)) bytes
