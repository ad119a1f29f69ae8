-- The line forms, by the fields behind a line's word: first how many there are, then what each writes.
use Rattle.std.specs.Prelude.{ℕ, Bool, ◌==◌, if◌then◌else◌, List, length, map, is_some, Result, Ok, Err, Option, Some, None}
use Rattle.std.specs.Option.{unwrap_or}
use Rattle.std.specs.List.{list_all}
use Rattle.cache_ident.specs.declared.names.Caps.{Caps}
use Rattle.cache_ident.specs.declared.names.SpaceNo.{SpaceNo}
use Rattle.cache_ident.specs.declared.names.ThreadNo.{ThreadNo}
use Rattle.cache_ident.specs.declared.names.Frame.{Frame}
use Rattle.flat_state.specs.declared.events.Decl.{Decl}
use Rattle.flat_state.specs.declared.events.Decl.TheVariants as decls
use Rattle.text_fields.specs.Lines.{fields}
use Rattle.text_fields.specs.Numbers.{word}
use Rattle.scenario_lines.specs.declared.forms.Line.{Line as LineValue}
use Rattle.scenario_lines.specs.declared.forms.Line.TheVariants as values
use Rattle.scenario_lines.specs.Rules.{◌>>=◌}
use Rattle.scenario_lines.specs.Values.{value, value_or, rights, flags}
use Rattle.scenario_lines.specs.Shapes.{next, no_more, single, pair, triple, quadruple, locks, thread_fields, row_fields, word_fields}

-- what a line outside of blocks says
pub data Line : Type 0 where
  Blank : Line
  Memory : (groups : ℕ) → Line
  Capacities : (caps : Caps) → Line
  -- a kernel, a right, a space, a thread or a row
  Declares : (decl : Decl) → Line
  Words : (frame : Frame) (offset : ℕ) (words : List ℕ) → Line
  Code : (frame : Frame) (offset : ℕ) → Line
  EndCode : Line
  Image : (space : SpaceNo) (frame : Frame) (thread : ThreadNo) → Line
  EndImage : Line
  End : Line

-- mem <groups>
unfoldable pub memory_line : List (List ℕ) → Result Line ℕ
memory_line line = do
  field ← single line
  groups ← value field
  Ok (Memory groups)

unfoldable pub amounts : List ℕ × List ℕ × List ℕ × List ℕ → Result Caps ℕ
amounts four = do
  kernels ← value four.0
  spaces ← value four.1
  threads ← value four.2
  mappings ← value four.3
  Ok (record { kernels = kernels; spaces = spaces; threads = threads; mappings = mappings })

-- caps <kernels> <spaces> <threads> <mappings>
unfoldable pub capacities_line : List (List ℕ) → Result Line ℕ
capacities_line line = do
  four ← quadruple line
  caps ← amounts four
  Ok (Capacities caps)

-- kernel 0 may lock one kernel, itself, where nothing else is said
abbrev pub own_lock : ℕ → ℕ
own_lock kernel = if kernel == 0 then 1 else 0

unfoldable pub limits : ℕ → List ℕ × List ℕ × List ℕ × List ℕ → Result Caps ℕ
limits kernel four = do
  kernels ← value_or (own_lock kernel) four.0
  spaces ← value_or 0 four.1
  threads ← value_or 0 four.2
  mappings ← value_or 0 four.3
  Ok (record { kernels = kernels; spaces = spaces; threads = threads; mappings = mappings })

-- kernel <k> [locks <kernels> <spaces> <threads> <mappings>]
unfoldable pub kernel_line : List (List ℕ) → Result Line ℕ
kernel_line line = do
  field ← next line
  four ← locks field.1
  n ← value field.0
  limits ← limits n four
  Ok (Declares (decls.Kernel (record { 0 = n }) limits))

-- right <kernel> <group> <rights>
unfoldable pub right_line : List (List ℕ) → Result Line ℕ
right_line line = do
  three ← triple line
  kernel ← value three.0
  group ← value three.1
  right ← rights three.2
  Ok (Declares (decls.Right (record { 0 = kernel }) group right.0 right.1))

-- space <s> <kernel>
unfoldable pub space_line : List (List ℕ) → Result Line ℕ
space_line line = do
  two ← pair line
  n ← value two.0
  kernel ← value two.1
  Ok (Declares (decls.Space (record { 0 = n }) (record { 0 = kernel })))

-- thread <t> <space> <pc> [prio <priority>] [a0 <value>] [a1 <value>]
unfoldable pub thread_line : List (List ℕ) → Result Line ℕ
thread_line line = do
  t ← thread_fields line
  n ← value t.no
  space ← value t.space
  pc ← value t.pc
  priority ← value_or 0 t.priority
  a0 ← value_or 0 t.a0
  a1 ← value_or 0 t.a1
  Ok (Declares (decls.Thread (record { 0 = n }) (record { 0 = space }) pc priority a0 a1))

-- the thread that receives signals, if one does
unfoldable pub receiver : List ℕ → Result (Option ThreadNo) ℕ
receiver field = if length field == 0 then Ok None else (value field >>= λ n. Ok (Some (record { 0 = n })))

-- map <space> <page> <frame> <flags> [signal <thread>]
unfoldable pub row_line : List (List ℕ) → Result Line ℕ
row_line line = do
  row ← row_fields line
  space ← value row.space
  vpn ← value row.vpn
  frame ← value row.frame
  flags ← flags row.flags
  receiver ← receiver row.signal
  Ok (Declares (decls.Map (record { 0 = space }) (record { 0 = vpn }) (record { 0 = frame }) flags receiver))

abbrev pub is_word : List ℕ → Bool
is_word field = is_some (word field)

abbrev pub word_value : List ℕ → ℕ
word_value field = unwrap_or (word field) 0

unfoldable pub words : List (List ℕ) → Result (List ℕ) ℕ
words line = if list_all is_word line then Ok (map word_value line) else Err 4

-- word <frame> <offset> <word> ..
unfoldable pub word_line : List (List ℕ) → Result Line ℕ
word_line line = do
  f ← word_fields line
  frame ← value f.0
  offset ← value f.1
  words ← words f.2
  Ok (Words (record { 0 = frame }) offset words)

-- code <frame> <offset>
unfoldable pub code_line : List (List ℕ) → Result Line ℕ
code_line line = do
  two ← pair line
  frame ← value two.0
  offset ← value two.1
  Ok (Code (record { 0 = frame }) offset)

-- elf <space> <frame> <thread>
unfoldable pub image_line : List (List ℕ) → Result Line ℕ
image_line line = do
  three ← triple line
  space ← value three.0
  frame ← value three.1
  thread ← value three.2
  Ok (Image (record { 0 = space }) (record { 0 = frame }) (record { 0 = thread }))

-- a line's word alone: end, endcode, endelf
unfoldable pub bare_line : Line → List (List ℕ) → Result Line ℕ
bare_line is line = no_more line >>= λ _. Ok is

abbrev pub line_view : LineValue → Line
line_view values.Blank = Blank
line_view (values.Memory groups) = Memory groups
line_view (values.Capacities caps) = Capacities caps
line_view (values.Declares decl) = Declares decl
line_view (values.Words frame offset words) = Words frame offset (map word_value (fields words.now))
line_view (values.Code frame offset) = Code frame offset
line_view values.EndCode = EndCode
line_view (values.Image space frame thread) = Image space frame thread
line_view values.EndImage = EndImage
line_view values.End = End
