-- What the bytes of a line say, or the first rule of its form that they break: rule 1 where a byte outside of a comment is
-- neither printing ASCII nor a space or tab, rule 2 where the first field is no line's word, then 3 and 4.
use Rattle.std.specs.Prelude.{ℕ, ◌%◌, Bool, false, not, ◌&&◌, ◌==◌, nat_le, if◌then◌else◌, List, length, Result, Ok, Err, Option, Some, None, codes}
use Rattle.std.specs.List.{list_all}
use Rattle.std.specs.Str.{bytes_eq}
use Rattle.hex.specs.Hex.{is_hex_digit}
use Rattle.text_fields.specs.Reading.{first_of}
use Rattle.text_fields.specs.Lines.{without_comment, are_plain, fields, one}
use Rattle.scenario_lines.specs.declared.blocks.CodeLine.{CodeLine as CodeLineValue}
use Rattle.scenario_lines.specs.declared.blocks.CodeLine.TheVariants as code_values
use Rattle.scenario_lines.specs.declared.blocks.ImageLine.{ImageLine as ImageLineValue}
use Rattle.scenario_lines.specs.declared.blocks.ImageLine.TheVariants as image_values
use Rattle.scenario_lines.specs.Forms.{Line, Blank, EndCode, EndImage, End, memory_line, capacities_line, kernel_line, right_line, space_line, thread_line, row_line, word_line, code_line, image_line, bare_line}

-- the word of a line, and its fields
unfoldable pub by_word : List ℕ → List (List ℕ) → Result Line ℕ
by_word name line =
    if bytes_eq name (codes "mem") then memory_line line else
    if bytes_eq name (codes "caps") then capacities_line line else
    if bytes_eq name (codes "kernel") then kernel_line line else
    if bytes_eq name (codes "right") then right_line line else
    if bytes_eq name (codes "space") then space_line line else
    if bytes_eq name (codes "thread") then thread_line line else
    if bytes_eq name (codes "map") then row_line line else
    if bytes_eq name (codes "word") then word_line line else
    if bytes_eq name (codes "code") then code_line line else
    if bytes_eq name (codes "endcode") then bare_line EndCode line else
    if bytes_eq name (codes "elf") then image_line line else
    if bytes_eq name (codes "endelf") then bare_line EndImage line else
    if bytes_eq name (codes "end") then bare_line End line else
    Err 2

abbrev pub by_fields : Option (List ℕ × List (List ℕ)) → Result Line ℕ
by_fields None = Ok Blank
by_fields (Some p) = by_word p.0 p.1

unfoldable pub line_of : List ℕ → Result Line ℕ
line_of bytes = let text = without_comment bytes in if are_plain text then by_fields (first_of (fields text)) else Err 1

-- ---- in a block of code

-- what a line of a block of code says: its end, or code, without the comment
pub data CodeLine : Type 0 where
  NoCode : CodeLine
  Code : (text : List ℕ) → CodeLine
  LastCode : CodeLine

-- the only field is that word
abbrev pub is_only : List ℕ → Option (List ℕ) → Bool
is_only name None = false
is_only name (Some field) = bytes_eq field name

unfoldable pub code_line_of : List ℕ → Result CodeLine ℕ
code_line_of bytes =
    let text = without_comment bytes in
    if not (are_plain text) then Err 1 else
    if length (fields text) == 0 then Ok NoCode else
    if is_only (codes "endcode") (one (fields text)) then Ok LastCode else
    Ok (Code text)

abbrev pub code_line_view : CodeLineValue → CodeLine
code_line_view code_values.Blank = NoCode
code_line_view (code_values.Code text) = Code text.now
code_line_view code_values.End = LastCode

-- ---- in a block of an image

-- what a line of a block of an image says: its end, or digits of bytes
pub data ImageLine : Type 0 where
  NoBytes : ImageLine
  Bytes : (digits : List ℕ) → ImageLine
  LastBytes : ImageLine

-- 1 to 64 bytes, each in two hexadecimal digits
abbrev pub are_bytes : List ℕ → Bool
are_bytes field = (length field % 2 == 0) && (nat_le 2 (length field) && (nat_le (length field) 128 && list_all is_hex_digit field))

abbrev pub bytes_from : Option (List ℕ) → Result ImageLine ℕ
bytes_from None = Err 26
bytes_from (Some field) =
    if bytes_eq field (codes "endelf") then Ok LastBytes else
    if are_bytes field then Ok (Bytes field) else
    Err 26

-- rule 26 is broken where the line isn't one field of such digits
unfoldable pub image_line_of : List ℕ → Result ImageLine ℕ
image_line_of bytes =
    let text = without_comment bytes in
    if not (are_plain text) then Err 1 else
    if length (fields text) == 0 then Ok NoBytes else
    bytes_from (one (fields text))

abbrev pub image_line_view : ImageLineValue → ImageLine
image_line_view image_values.Blank = NoBytes
image_line_view (image_values.Bytes digits) = Bytes digits.now
image_line_view image_values.End = LastBytes
