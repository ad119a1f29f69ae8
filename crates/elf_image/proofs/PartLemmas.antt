-- The parts of headers that pass no end.
use Rattle.std.proofs.Common.{◌≡◌, ℕ, Bool, true, false, not, ◌||◌, cond, List, [], ◌∷◌, map, refl, arith}
use Rattle.std.specs.List.{filter, AllByRecursion}
use Rattle.std.proofs.lemmas.Bool.{and_parts}
use Rattle.std.proofs.lemmas.Bool.Decides.{nat_tests}
use Rattle.elf_image.specs.declared.headers.ProgramHeader.{ProgramHeader}
use Rattle.elf_image.specs.Elf.{is_load, is_sized, are_sized, is_part, part_of, parts_of, LiesIn}

part_lies : (bytes : List ℕ) (h : ProgramHeader) → (not (is_load h) || is_sized bytes h) ≡ true → is_part h ≡ true → LiesIn bytes (part_of h)
part_lies bytes h sized part = record {
  in_file = grind (arith, nat_tests);
  no_longer = grind (arith, nat_tests);
  some = grind (arith, nat_tests);
  in_space = grind (arith, nat_tests);
}

with_head : (bytes : List ℕ) (h : ProgramHeader) (hs : List ProgramHeader) (b : Bool) → (b ≡ true → LiesIn bytes (part_of h)) → AllByRecursion (LiesIn bytes) (map part_of hs) → AllByRecursion (LiesIn bytes) (map part_of (cond b (h ∷ hs) hs))
with_head bytes h hs true head rest = (head refl, rest)
with_head bytes h hs false head rest = rest

-- each of them lies in the file and in the address space
pub parts_lie : (bytes : List ℕ) (hs : List ProgramHeader) → are_sized bytes hs ≡ true → AllByRecursion (LiesIn bytes) (parts_of hs)
parts_lie bytes [] sized = tt
parts_lie bytes (h ∷ hs) sized =
    let both = and_parts (not (is_load h) || is_sized bytes h) (are_sized bytes hs) sized in
    with_head bytes h (filter is_part hs) (is_part h) (part_lies bytes h both.0) (parts_lie bytes hs both.1)
