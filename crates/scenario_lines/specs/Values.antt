-- What a field writes. Rule 4 is broken where it doesn't have its form.
use Rattle.std.specs.Prelude.{ℕ, Bool, true, false, not, ◌||◌, ◌==◌, if◌then◌else◌, List, [], ◌∷◌, length, Result, Ok, Err, codes}
use Rattle.std.specs.Option.{ok_or}
use Rattle.std.specs.Str.{bytes_eq}
use Rattle.phys_groups.specs.declared.rows.Flags.{Flags}
use Rattle.text_fields.specs.Numbers.{number}

unfoldable pub value : List ℕ → Result ℕ ℕ
value field = ok_or (number field) 4

-- an option that is left out has no bytes, and then the value is the default
unfoldable pub value_or : ℕ → List ℕ → Result ℕ ℕ
value_or default field = if length field == 0 then Ok default else value field

-- the read right and the write right
unfoldable pub rights : List ℕ → Result (Bool × Bool) ℕ
rights field =
    if bytes_eq field (codes "r") then Ok (true, false) else
    if bytes_eq field (codes "w") then Ok (false, true) else
    if bytes_eq field (codes "rw") then Ok (true, true) else
    if bytes_eq field (codes "-") then Ok (false, false) else
    Err 4

-- whether the letter stands at the front, and what follows it
abbrev pub mark : ℕ → List ℕ → Bool × List ℕ
mark letter [] = (false, [])
mark letter (b ∷ bytes) = if b == letter then (true, bytes) else (false, b ∷ bytes)

-- at least one of the letters r, w, x and m, in that order, each at most once
unfoldable pub flags : List ℕ → Result Flags ℕ
flags field =
    let r = mark 114 field in
    let w = mark 119 r.1 in
    let x = mark 120 w.1 in
    let m = mark 109 x.1 in
    if (length field == 0) || not (length m.1 == 0) then Err 4 else Ok (record { r = r.0; w = w.0; x = x.0; m = m.0 })
