-- Which entries there can be, and what isn't the text of any.
use Rattle.std.specs.Prelude.{◌≡◌, ◌≢◌, ℕ, ◌+◌, ◌^◌, ◌<◌, List, [], ◌++◌, length, Option, Some, None}
use Rattle.std.specs.List.{AllByRecursion}
use Rattle.cache_ident.specs.declared.idents.Ident.{Ident}
use Rattle.cache_ident.specs.declared.names.Caps.{Caps}
use Rattle.cache_ident.specs.declared.names.Name.{Name}
use Rattle.cache_ident.specs.declared.names.Name.TheVariants.{Kernel, Space, Thread, Mapping}
use Rattle.cache_ident.specs.declared.names.ThreadNo.{ThreadNo}
use Rattle.flat_state.specs.declared.events.Decl.{Decl}
use Rattle.flat_state.specs.declared.events.Decl.TheVariants as decls
use Rattle.run_journal.specs.declared.entries.Entry.{Entry}
use Rattle.run_journal.specs.declared.entries.Entry.TheVariants.{Declared, Sealed, Loaded, WrittenBack, Locked, Unlocked, Ran, Ended, Completed}
use Rattle.journal_text.specs.declared.fault.JournalFault.{JournalFault}
use Rattle.journal_text.specs.declared.fault.JournalFault.TheVariants.{NoMemory, Line}
use Rattle.journal_text.specs.Lines.{line, journal_text}

-- a number of 32 bits
abbrev pub IsSmall : ℕ → Type 0
IsSmall n = n < 2 ^ 32

abbrev pub AreCapsInRange : Caps → Type 0
AreCapsInRange caps = IsSmall caps.kernels × IsSmall caps.spaces × IsSmall caps.threads × IsSmall caps.mappings

abbrev pub IsNameInRange : Name → Type 0
IsNameInRange (Kernel kernel) = IsSmall kernel.0
IsNameInRange (Space space) = IsSmall space.0
IsNameInRange (Thread thread) = IsSmall thread.0
IsNameInRange (Mapping space vpn) = IsSmall space.0 × IsSmall vpn.0

abbrev pub IsIdentInRange : Ident → Type 0
IsIdentInRange ident = IsSmall ident.slot × (ident.serial < 2 ^ 64)

abbrev pub IsReceiverInRange : Option ThreadNo → Type 0
IsReceiverInRange None = Unit {0}
IsReceiverInRange (Some thread) = IsSmall thread.0

abbrev pub IsDeclInRange : Decl → Type 0
IsDeclInRange (decls.Machine machine) = IsSmall machine.groups × AreCapsInRange machine.caps
IsDeclInRange (decls.Kernel kernel limits) = IsSmall kernel.0 × AreCapsInRange limits
IsDeclInRange (decls.Right kernel group read write) = IsSmall kernel.0 × IsSmall group
IsDeclInRange (decls.Space space kernel) = IsSmall space.0 × IsSmall kernel.0
IsDeclInRange (decls.Thread thread space pc priority a0 a1) = IsSmall thread.0 × IsSmall space.0 × IsSmall pc × IsSmall priority × IsSmall a0 × IsSmall a1
IsDeclInRange (decls.Map space vpn frame flags receiver) = IsSmall space.0 × IsSmall vpn.0 × IsSmall frame.0 × IsReceiverInRange receiver
IsDeclInRange (decls.Word frame offset value) = IsSmall frame.0 × IsSmall offset × IsSmall value

-- each number is one of its type
abbrev pub IsInRange : Entry → Type 0
IsInRange (Declared d) = IsDeclInRange d
IsInRange Sealed = Unit {0}
IsInRange (Loaded ident name cpu) = IsIdentInRange ident × IsNameInRange name × IsSmall cpu
IsInRange (WrittenBack ident cause cpu) = IsIdentInRange ident × IsSmall cpu
IsInRange (Locked ident cpu) = IsIdentInRange ident × IsSmall cpu
IsInRange (Unlocked ident cpu) = IsIdentInRange ident × IsSmall cpu
IsInRange (Ran thread steps cpu) = IsSmall thread.0 × IsSmall steps × IsSmall cpu
IsInRange (Ended thread cpu) = IsSmall thread.0 × IsSmall cpu
IsInRange (Completed thread cpu) = IsSmall thread.0 × IsSmall cpu

abbrev pub AreInRange : List Entry → Type 0
AreInRange es = AllByRecursion IsInRange es

-- no entry's line stands at the front
abbrev pub BeginsWithNoLine : List ℕ → Type 0
BeginsWithNoLine bytes = (e : Entry) (rest : List ℕ) → IsInRange e → bytes ≡ line e ++ rest → ⊥

-- the lines of entries stand before it, and there is more, but no line of an entry
pub record IsFirstFault (bytes : List ℕ) (number : ℕ) : Type 0 where
  pub before : List Entry
  pub rest : List ℕ
  pub lines : bytes ≡ journal_text before ++ rest
  pub place : number ≡ length before + 1
  pub more : rest ≢ []
  pub none : BeginsWithNoLine rest

abbrev pub IsFault : List ℕ → JournalFault → Type 0
IsFault bytes NoMemory = Unit {0}
IsFault bytes (Line number) = IsFirstFault bytes number
