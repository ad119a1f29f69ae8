-- What an address space means: a list of pages, seen as plain data.
use Rattle.std.specs.Prelude.{ℕ, zero, suc, ◌+◌, ◌*◌, ◌/◌, ◌%◌, Bool, true, false, List, map, Option, Some, None, if◌then◌else◌, ◌==◌, is_some, slice_index, slice_set}
use Rattle.std.specs.List.{find}
use Rattle.std.specs.Option.{option_map}
use Rattle.rv32_exec.specs.declared.statuses.Access.{Access}
use Rattle.rv32_exec.specs.declared.statuses.Access.TheVariants.{Fetch, Read, Write}
use Rattle.rv32_exec.specs.declared.spaces.Width.{Width}
use Rattle.rv32_exec.specs.declared.spaces.Width.TheVariants.{Byte, Half, Word}

-- One page of a space: its number, the frame behind it, what may be done with it, its 4,096 bytes, and
-- whether an access and whether a store has gone through it. The numbers of a space's pages are all different.
pub record Page : Type 0 where
  pub number : ℕ
  pub frame : ℕ
  pub readable : Bool
  pub writable : Bool
  pub executable : Bool
  pub bytes : List ℕ
  pub touched : Bool
  pub written : Bool

-- how many bytes an access of this width takes
abbrev pub size_of : Width → ℕ
size_of Byte = 1
size_of Half = 2
size_of Word = 4

-- whether a page has the flag that an access asks for
abbrev pub allows : Access → Page → Bool
allows Fetch p = p.executable
allows Read p = p.readable
allows Write p = p.writable

abbrev pub where_allowed : Access → Option Page → Option Page
where_allowed access None = None
where_allowed access (Some p) = if allows access p then Some p else None

-- the page that an access to an address goes through: that of the address's number, where its flag is there
unfoldable pub translation : List Page → ℕ → Access → Option Page
translation ps va access = where_allowed access (find (λ p. p.number == va / 4096) ps)

unfoldable pub translates : List Page → ℕ → Access → Bool
translates ps va access = is_some (translation ps va access)

-- the little-endian number in the bytes from a place on
abbrev pub number_at : Width → List ℕ → ℕ → ℕ
number_at Byte bs at = slice_index bs at
number_at Half bs at = slice_index bs at + 256 * slice_index bs (at + 1)
number_at Word bs at =
    slice_index bs at + 256 * slice_index bs (at + 1) + 65536 * slice_index bs (at + 2) + 16777216 * slice_index bs (at + 3)

-- the number that an access of a width reads, where it translates
unfoldable pub read_through : Access → List Page → ℕ → Width → Option ℕ
read_through access ps va width = option_map (λ p. number_at width p.bytes (va % 4096)) (translation ps va access)

abbrev pub fetched : List Page → ℕ → Option ℕ
fetched ps va = read_through Fetch ps va Word

abbrev pub loaded : List Page → ℕ → Width → Option ℕ
loaded = read_through Read

-- the low `count` bytes of a number, put from a place on, the lowest first
abbrev pub put_bytes : ℕ → List ℕ → ℕ → ℕ → List ℕ
put_bytes zero bs at value = bs
put_bytes (suc count) bs at value = put_bytes count (slice_set bs at (value % 256)) (at + 1) (value / 256)

-- a page after a store to its frame
abbrev pub put_in_frame : ℕ → ℕ → ℕ → ℕ → Page → Page
put_in_frame frame count at value p = if p.frame == frame then record p { bytes = put_bytes count p.bytes at value } else p

abbrev pub stored_through : Option Page → List Page → ℕ → Width → ℕ → List Page
stored_through None ps va width value = ps
stored_through (Some p) ps va width value = map (put_in_frame p.frame (size_of width) (va % 4096) value) ps

-- the pages after a store: each page of the frame that it went to has its bytes
unfoldable pub stored : List Page → ℕ → Width → ℕ → List Page
stored ps va width value = stored_through (translation ps va Write) ps va width value

-- whether an access is a write
abbrev pub is_write : Access → Bool
is_write Fetch = false
is_write Read = false
is_write Write = true

-- the marks that an access leaves on its page
abbrev pub mark : Access → Page → Page
mark Fetch p = record p { touched = true }
mark Read p = record p { touched = true }
mark Write p = record p { touched = true; written = true }

abbrev pub mark_page : ℕ → Access → Page → Page
mark_page number access p = if p.number == number then mark access p else p

-- the pages after the marks of an access
unfoldable pub touched_at : List Page → ℕ → Access → List Page
touched_at ps va access = map (mark_page (va / 4096) access) ps
