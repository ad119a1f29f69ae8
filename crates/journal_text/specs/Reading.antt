-- Which entry's line may stand at the front of the bytes. Each reader gives what it takes the front for, and the bytes after it.
use Rattle.std.specs.Prelude.{ℕ, ◌+◌, ◌-◌, ◌*◌, ◌^◌, Bool, true, false, ◌&&◌, ◌==◌, nat_lt, nat_le, if◌then◌else◌, List, [], ◌∷◌, length, take, Option, Some, None, Result, Ok, Err, codes}
use Rattle.std.specs.Int.{w32, from_be_bytes}
use Rattle.hex.specs.declared.error.FromHexError.{FromHexError}
use Rattle.hex.specs.Hex.{decode_sized}
use Rattle.text_fields.specs.Reading.{◌>>=◌, after}
use Rattle.cache_ident.specs.declared.idents.Cause.{Cause}
use Rattle.cache_ident.specs.declared.idents.Cause.TheVariants as causes
use Rattle.cache_ident.specs.declared.idents.Ident.{Ident}
use Rattle.cache_ident.specs.declared.idents.Kind.{Kind}
use Rattle.cache_ident.specs.declared.idents.Kind.TheVariants as kinds
use Rattle.cache_ident.specs.declared.names.Caps.{Caps}
use Rattle.cache_ident.specs.declared.names.Name.{Name}
use Rattle.cache_ident.specs.declared.names.Name.TheVariants as names
use Rattle.cache_ident.specs.declared.names.ThreadNo.{ThreadNo}
use Rattle.phys_groups.specs.declared.rows.Flags.{Flags}
use Rattle.flat_state.specs.declared.events.Decl.{Decl}
use Rattle.flat_state.specs.declared.events.Decl.TheVariants as decls
use Rattle.run_journal.specs.declared.entries.Entry.{Entry}
use Rattle.run_journal.specs.declared.entries.Entry.TheVariants as entries

-- one reading, where the bytes begin so, and else another
abbrev pub first : {A B : Type 0} → Option A → (A → Option B) → Option B → Option B
first None f other = other
first (Some x) f other = f x

-- the number with a digit behind it, where it has 64 bits
abbrev pub longer : ℕ → ℕ → Option ℕ
longer n digit = if nat_lt (10 * n + digit) (2 ^ 64) then Some (10 * n + digit) else None

-- the number that the digits at the front write behind those of n
unfoldable pub number_from : ℕ → List ℕ → Option (ℕ × List ℕ)
number_from n [] = Some (n, [])
number_from n (b ∷ bytes) = if nat_le 48 b && nat_le b 57 then (if nat_lt (10 * n + (b - 48)) (2 ^ 64) then number_from (10 * n + (b - 48)) bytes else None) else Some (n, b ∷ bytes)

abbrev pub number_at : List ℕ → Option (ℕ × List ℕ)
number_at bytes = number_from 0 bytes

-- a number of 32 bits
unfoldable pub small_at : List ℕ → Option (ℕ × List ℕ)
small_at bytes = do
  n ← number_at bytes
  if nat_lt n.0 (2 ^ 32) then Some n else None

-- a space and a number of 32 bits
unfoldable pub field_at : List ℕ → Option (ℕ × List ℕ)
field_at bytes = do
  a ← after (codes " ") bytes
  small_at a

unfoldable pub caps_at : List ℕ → Option (Caps × List ℕ)
caps_at bytes = do
  kernels ← field_at bytes
  spaces ← field_at kernels.1
  threads ← field_at spaces.1
  mappings ← field_at threads.1
  Some (record { kernels = kernels.0; spaces = spaces.0; threads = threads.0; mappings = mappings.0 }, mappings.1)

abbrev pub mark_at : ℕ → List ℕ → Bool × List ℕ
mark_at letter [] = (false, [])
mark_at letter (b ∷ bytes) = if b == letter then (true, bytes) else (false, b ∷ bytes)

unfoldable pub rights_at : List ℕ → Option (Bool × Bool)
rights_at bytes = do
  a ← after (codes " ") bytes
  Some ((mark_at 114 a).0, (mark_at 119 (mark_at 114 a).1).0)

unfoldable pub flags_at : List ℕ → Option (Flags × List ℕ)
flags_at bytes = do
  a ← after (codes " ") bytes
  let r = mark_at 114 a in
      let w = mark_at 119 r.1 in
      let x = mark_at 120 w.1 in
      let m = mark_at 109 x.1 in
      let none = mark_at 45 m.1 in
      Some (record { r = r.0; w = w.0; x = x.0; m = m.0 }, none.1)

unfoldable pub receiver_at : List ℕ → Option (Option ThreadNo)
receiver_at bytes = first (after (codes " -") bytes) (λ rest. Some None) (do
  thread ← field_at bytes
  Some (Some (record { 0 = thread.0 })))

abbrev pub word_of : Result (List ℕ) FromHexError → Option ℕ
word_of (Ok word) = Some (from_be_bytes w32 word)
word_of (Err e) = None

unfoldable pub word_at : List ℕ → Option ℕ
word_at bytes = do
  a ← after (codes " ") bytes
  if nat_lt (length a) 8 then None else word_of (decode_sized (take 8 a) 4)

abbrev pub kind_of_letter : ℕ → Option Kind
kind_of_letter b = if b == 75 then Some kinds.Kernel else (if b == 83 then Some kinds.Space else (if b == 84 then Some kinds.Thread else (if b == 77 then Some kinds.Mapping else None)))

unfoldable pub kind_at : List ℕ → Option (Kind × List ℕ)
kind_at [] = None
kind_at (b ∷ bytes) = do
  kind ← kind_of_letter b
  Some (kind, bytes)

unfoldable pub ident_at : List ℕ → Option (Ident × List ℕ)
ident_at bytes = do
  kind ← kind_at bytes
  slot ← small_at kind.1
  a ← after (codes ".") slot.1
  serial ← number_at a
  Some (record { kind = kind.0; slot = slot.0; serial = serial.0 }, serial.1)

unfoldable pub mapping_at : List ℕ → Option (Name × List ℕ)
mapping_at bytes = do
  space ← field_at bytes
  vpn ← field_at space.1
  Some (names.Mapping (record { 0 = space.0 }) (record { 0 = vpn.0 }), vpn.1)

unfoldable pub name_at : List ℕ → Option (Name × List ℕ)
name_at bytes =
    first (after (codes " kernel") bytes) (λ rest. field_at rest >>= λ number. Some (names.Kernel (record { 0 = number.0 }), number.1))
    (first (after (codes " space") bytes) (λ rest. field_at rest >>= λ number. Some (names.Space (record { 0 = number.0 }), number.1))
    (first (after (codes " thread") bytes) (λ rest. field_at rest >>= λ number. Some (names.Thread (record { 0 = number.0 }), number.1))
    (after (codes " row") bytes >>= mapping_at)))

unfoldable pub cause_at : List ℕ → Option (Cause × List ℕ)
cause_at bytes =
    first (after (codes " displaced") bytes) (λ rest. Some (causes.Displaced, rest))
    (first (after (codes " dependent") bytes) (λ rest. Some (causes.Dependent, rest))
    (after (codes " unloaded") bytes >>= λ rest. Some (causes.Unloaded, rest)))

unfoldable pub cpu_at : List ℕ → Option ℕ
cpu_at bytes = do
  a ← after (codes " cpu") bytes
  cpu ← field_at a
  Some cpu.0

-- ---- declarations

unfoldable pub machine_at : List ℕ → Option Decl
machine_at bytes = do
  groups ← field_at bytes
  caps ← caps_at groups.1
  Some (decls.Machine (record { groups = groups.0; caps = caps.0 }))

unfoldable pub kernel_at : List ℕ → Option Decl
kernel_at bytes = do
  number ← field_at bytes
  limits ← caps_at number.1
  Some (decls.Kernel (record { 0 = number.0 }) limits.0)

unfoldable pub right_at : List ℕ → Option Decl
right_at bytes = do
  kernel ← field_at bytes
  group ← field_at kernel.1
  rights ← rights_at group.1
  Some (decls.Right (record { 0 = kernel.0 }) group.0 rights.0 rights.1)

unfoldable pub space_at : List ℕ → Option Decl
space_at bytes = do
  number ← field_at bytes
  kernel ← field_at number.1
  Some (decls.Space (record { 0 = number.0 }) (record { 0 = kernel.0 }))

unfoldable pub thread_at : List ℕ → Option Decl
thread_at bytes = do
  number ← field_at bytes
  space ← field_at number.1
  pc ← field_at space.1
  priority ← field_at pc.1
  a0 ← field_at priority.1
  a1 ← field_at a0.1
  Some (decls.Thread (record { 0 = number.0 }) (record { 0 = space.0 }) pc.0 priority.0 a0.0 a1.0)

unfoldable pub map_at : List ℕ → Option Decl
map_at bytes = do
  space ← field_at bytes
  vpn ← field_at space.1
  frame ← field_at vpn.1
  flags ← flags_at frame.1
  receiver ← receiver_at flags.1
  Some (decls.Map (record { 0 = space.0 }) (record { 0 = vpn.0 }) (record { 0 = frame.0 }) flags.0 receiver)

unfoldable pub word_decl_at : List ℕ → Option Decl
word_decl_at bytes = do
  frame ← field_at bytes
  offset ← field_at frame.1
  value ← word_at offset.1
  Some (decls.Word (record { 0 = frame.0 }) offset.0 value)

unfoldable pub decl_at : List ℕ → Option Decl
decl_at bytes =
    first (after (codes "map") bytes) map_at
    (first (after (codes "word") bytes) word_decl_at
    (first (after (codes "thread") bytes) thread_at
    (first (after (codes "space") bytes) space_at
    (first (after (codes "right") bytes) right_at
    (first (after (codes "kernel") bytes) kernel_at
    (after (codes "machine") bytes >>= machine_at))))))

-- ---- the other entries

unfoldable pub loaded_at : List ℕ → Option Entry
loaded_at bytes = do
  ident ← ident_at bytes
  name ← name_at ident.1
  cpu ← cpu_at name.1
  Some (entries.Loaded ident.0 name.0 cpu)

unfoldable pub back_at : List ℕ → Option Entry
back_at bytes = do
  ident ← ident_at bytes
  cause ← cause_at ident.1
  cpu ← cpu_at cause.1
  Some (entries.WrittenBack ident.0 cause.0 cpu)

unfoldable pub lock_at : List ℕ → Option (Ident × ℕ)
lock_at bytes = do
  ident ← ident_at bytes
  cpu ← cpu_at ident.1
  Some (ident.0, cpu)

unfoldable pub ran_at : List ℕ → Option Entry
ran_at bytes = do
  thread ← field_at bytes
  steps ← field_at thread.1
  cpu ← cpu_at steps.1
  Some (entries.Ran (record { 0 = thread.0 }) steps.0 cpu)

unfoldable pub thread_line_at : List ℕ → Option (ThreadNo × ℕ)
thread_line_at bytes = do
  thread ← field_at bytes
  cpu ← cpu_at thread.1
  Some (record { 0 = thread.0 }, cpu)

unfoldable pub other_at : List ℕ → Option Entry
other_at bytes =
    first (after (codes "ran") bytes) ran_at
    (first (after (codes "loaded ") bytes) loaded_at
    (first (after (codes "back ") bytes) back_at
    (first (after (codes "completed") bytes) (λ rest. thread_line_at rest >>= λ l. Some (entries.Completed l.0 l.1))
    (first (after (codes "ended") bytes) (λ rest. thread_line_at rest >>= λ l. Some (entries.Ended l.0 l.1))
    (first (after (codes "locked ") bytes) (λ rest. lock_at rest >>= λ l. Some (entries.Locked l.0 l.1))
    (first (after (codes "unlocked ") bytes) (λ rest. lock_at rest >>= λ l. Some (entries.Unlocked l.0 l.1))
    (after (codes "sealed") bytes >>= λ rest. Some entries.Sealed)))))))

-- the one entry whose line may stand at the front
unfoldable pub entry_at : List ℕ → Option Entry
entry_at bytes = first (other_at bytes) Some (decl_at bytes >>= λ d. Some (entries.Declared d))
