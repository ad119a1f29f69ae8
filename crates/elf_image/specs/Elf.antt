-- What a static executable for 32-bit RISC-V is, field by field under the names of the ELF specification, and
-- the first rule that the bytes of another file break.
use Rattle.std.specs.Prelude.{◌≡◌, ℕ, zero, suc, ◌+◌, ◌*◌, ◌/◌, ◌%◌, ◌^◌, ◌<◌, ◌≤◌, ◌⊎◌, Bool, false, not, ◌&&◌, ◌||◌, ◌==◌, nat_lt, nat_le, if◌then◌else◌, List, [], ◌∷◌, ◌++◌, length, map, nat_eq, Option, Some, None}
use Rattle.std.specs.List.{filter, list_all, list_any, sum_by, starts_with}
use Rattle.phys_groups.specs.declared.rows.Flags.{Flags}
use Rattle.phys_groups.specs.Memory.{half_at, word_at}
use Rattle.elf_image.specs.declared.fault.ElfFault.{ElfFault}
use Rattle.elf_image.specs.declared.fault.ElfFault.TheVariants.{NoMemory, Broken}
use Rattle.elf_image.specs.declared.headers.ProgramHeader.{ProgramHeader}
use Rattle.elf_image.specs.declared.images.Part.{Part}

-- ---- the header of the file

-- the magic number, 32 bits, the lowest byte first, version 1
abbrev pub identification : List ℕ
identification = 0x7f ∷ 69 ∷ 76 ∷ 70 ∷ 1 ∷ 1 ∷ 1 ∷ []

abbrev pub e_type : List ℕ → ℕ
e_type bytes = half_at bytes 16

abbrev pub e_machine : List ℕ → ℕ
e_machine bytes = half_at bytes 18

abbrev pub e_version : List ℕ → ℕ
e_version bytes = word_at bytes 20

abbrev pub e_entry : List ℕ → ℕ
e_entry bytes = word_at bytes 24

abbrev pub e_phoff : List ℕ → ℕ
e_phoff bytes = word_at bytes 28

abbrev pub e_phentsize : List ℕ → ℕ
e_phentsize bytes = half_at bytes 42

abbrev pub e_phnum : List ℕ → ℕ
e_phnum bytes = half_at bytes 44

-- The file is an executable (ET_EXEC) for RISC-V (EM_RISCV) in the version that there is (EV_CURRENT). Its
-- program headers, if it has any, are of the size that they have in 32 bits.
abbrev pub is_static : List ℕ → Bool
is_static bytes =
    nat_le 52 (length bytes) && (starts_with nat_eq bytes identification
    && ((e_type bytes == 2) && ((e_machine bytes == 243) && ((e_version bytes == 1)
    && ((e_phnum bytes == 0) || (e_phentsize bytes == 32))))))

-- ---- program headers

-- the program header whose first byte stands there
abbrev pub header_at : List ℕ → ℕ → ProgramHeader
header_at bytes at =
    record {
      p_type = word_at bytes at;
      p_offset = word_at bytes (at + 4);
      p_vaddr = word_at bytes (at + 8);
      p_filesz = word_at bytes (at + 16);
      p_memsz = word_at bytes (at + 20);
      p_flags = word_at bytes (at + 24);
    }

-- the first n headers of a table that begins there: each has 32 bytes
unfoldable pub first_headers : List ℕ → ℕ → ℕ → List ProgramHeader
first_headers bytes from zero = []
first_headers bytes from (suc n) = first_headers bytes from n ++ header_at bytes (from + 32 * n) ∷ []

-- the program headers, in the order of their table
abbrev pub headers : List ℕ → List ProgramHeader
headers bytes = first_headers bytes (e_phoff bytes) (e_phnum bytes)

-- PT_LOAD
abbrev pub is_load : ProgramHeader → Bool
is_load h = h.p_type == 1

-- PT_DYNAMIC and PT_INTERP are for a loader at run time
abbrev pub wants_loader : ProgramHeader → Bool
wants_loader h = (h.p_type == 2) || (h.p_type == 3)

-- the range ends where the bytes do, or before. A range without a byte passes no end
abbrev pub lies_in : List ℕ → ℕ → ℕ → Bool
lies_in bytes from size = (size == 0) || nat_le (from + size) (length bytes)

-- What is loaded lies in the file, is no longer there than in memory, and ends with the address space or before.
abbrev pub is_sized : List ℕ → ProgramHeader → Bool
is_sized bytes h = lies_in bytes h.p_offset h.p_filesz && (nat_le h.p_filesz h.p_memsz && nat_le (h.p_vaddr + h.p_memsz) (2 ^ 32))

abbrev pub are_sized : List ℕ → List ProgramHeader → Bool
are_sized bytes hs = list_all (λ h. not (is_load h) || is_sized bytes h) hs

-- ---- parts

-- PF_R, PF_W and PF_X are the bits of 4, 2 and 1
abbrev pub flags_of : ℕ → Flags
flags_of bits = record { r = bits / 4 % 2 == 1; w = bits / 2 % 2 == 1; x = bits % 2 == 1; m = false }

-- what is loaded and isn't empty is a part
abbrev pub is_part : ProgramHeader → Bool
is_part h = is_load h && nat_lt 0 h.p_memsz

abbrev pub part_of : ProgramHeader → Part
part_of h = record { vaddr = h.p_vaddr; size = h.p_memsz; flags = flags_of h.p_flags; offset = h.p_offset; length = h.p_filesz }

abbrev pub parts_of : List ProgramHeader → List Part
parts_of hs = map part_of (filter is_part hs)

abbrev pub allows_something : Part → Bool
allows_something part = part.flags.r || (part.flags.w || part.flags.x)

-- each part allows something, and all of them fit in memory
abbrev pub are_loadable : List Part → Bool
are_loadable parts = list_all allows_something parts && nat_le (sum_by (λ part. part.size) parts) 8388608

-- ---- the image

pub record Executable : Type 0 where
  pub entry : ℕ
  pub parts : List Part

-- what the bytes of a file say
abbrev pub executable : List ℕ → Executable
executable bytes = record { entry = e_entry bytes; parts = parts_of (headers bytes) }

-- the lowest rule that the bytes break
unfoldable pub broken_rule : List ℕ → Option ℕ
broken_rule bytes =
    if not (is_static bytes) then Some 27 else
    if not (lies_in bytes (e_phoff bytes) (32 * e_phnum bytes) && are_sized bytes (headers bytes)) then Some 28 else
    if list_any wants_loader (headers bytes) then Some 29 else
    if not (are_loadable (parts_of (headers bytes))) then Some 30 else
    None

-- The bytes break no rule, and this is what they say.
pub record IsExecutable (bytes : List ℕ) (image : Executable) : Type 0 where
  pub whole : broken_rule bytes ≡ None
  pub says : image ≡ executable bytes

-- why the bytes are no image: the lowest rule that they break, or memory ran out
abbrev pub IsFault : List ℕ → ElfFault → Type 0
IsFault bytes NoMemory = Unit {0}
IsFault bytes (Broken rule) = broken_rule bytes ≡ Some rule

-- The part's bytes lie among these and are no more than its addresses, which there are, and end with the address
-- space or before.
pub record LiesIn (bytes : List ℕ) (part : Part) : Type 0 where
  pub in_file : (part.length ≡ 0) ⊎ (part.offset + part.length ≤ length bytes)
  pub no_longer : part.length ≤ part.size
  pub some : 0 < part.size
  pub in_space : part.vaddr + part.size ≤ 2 ^ 32
