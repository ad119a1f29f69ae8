-- One step of a thread: what it does to its context and to the pages of its space, and what it answers.
use Rattle.std.specs.Prelude.{◌≡◌, ℕ, ◌%◌, ◌/◌, Bool, List, Option, Some, None, if◌then◌else◌, ◌==◌}
use Rattle.rv32_isa.specs.declared.forms.Instr.{Instr}
use Rattle.rv32_isa.specs.Table.{instruction_of}
use Rattle.rv32_ma.specs.declared.atomics.AmoOp.{AmoOp}
use Rattle.rv32_ma.specs.Atomics.{amo_of}
use Rattle.rv32_exec.specs.declared.contexts.Context.{Context}
use Rattle.rv32_exec.specs.declared.statuses.Access.{Access}
use Rattle.rv32_exec.specs.declared.statuses.Access.TheVariants.{Fetch, Read, Write}
use Rattle.rv32_exec.specs.declared.statuses.Reason.{Reason}
use Rattle.rv32_exec.specs.declared.statuses.Reason.TheVariants.{Illegal, Misaligned, Breakpoint}
use Rattle.rv32_exec.specs.declared.statuses.Misaligned.TheVariants as misaligned
use Rattle.rv32_exec.specs.declared.spaces.Width.{Width}
use Rattle.rv32_exec.specs.declared.spaces.Width.TheVariants.{Byte, Half, Word}
use Rattle.rv32_exec.specs.declared.actions.Action.{Action}
use Rattle.rv32_exec.specs.declared.actions.Action.TheVariants as actions
use Rattle.rv32_exec.specs.declared.steps.Stepped.{Stepped}
use Rattle.rv32_exec.specs.declared.steps.Stepped.TheVariants.{Next, Call, Stop, Miss}
use Rattle.rv32_exec.specs.Pages.{Page, size_of, translates, fetched, loaded, stored, touched_at}
use Rattle.rv32_exec.specs.Registers.{with_register, sum_of, next_of}
use Rattle.rv32_exec.specs.Actions.{action_of}

-- the context and the pages after a step, and its answer
pub record After : Type 0 where
  pub context : Context
  pub pages : List Page
  pub answer : Stepped

-- a context, pages and an answer are those after a step
pub record IsAfter (context : Context) (pages : List Page) (answer : Stepped) (after : After) : Type 0 where
  pub context_is : context ≡ after.context
  pub pages_are : pages ≡ after.pages
  pub answer_is : answer ≡ after.answer

-- a fact where a step is missed
abbrev pub OnMiss : Stepped → Type 0 → Type 0
OnMiss (Miss va access) P = P
OnMiss Next P = Unit {0}
OnMiss Call P = Unit {0}
OnMiss (Stop reason) P = Unit {0}

-- Nothing happens: the space has no translation for an access.
abbrev pub missed : Context → List Page → ℕ → Access → After
missed c ps va access = record { context = c; pages = ps; answer = Miss va access }

-- The thread ends: its context stays, and the fetch is the only access.
abbrev pub ended : Context → List Page → Reason → After
ended c ps reason = record { context = c; pages = touched_at ps c.pc Fetch; answer = Stop reason }

-- The thread goes on at the next instruction, with a value in a register.
abbrev pub advanced : Context → List Page → ℕ → ℕ → After
advanced c ps rd value = record { context = record { regs = with_register c rd value; pc = next_of c }; pages = ps; answer = Next }

abbrev pub after_jump : Context → List Page → ℕ → ℕ → After
after_jump c ps rd target =
    if target % 4 == 0 then record { context = record { regs = with_register c rd (next_of c); pc = target }; pages = touched_at ps c.pc Fetch; answer = Next } else ended c ps (Misaligned misaligned.Jump target)

-- a byte or a half as a word, sign-extended where that is asked
abbrev pub extended : Bool → Width → ℕ → ℕ
extended signed Byte n = if signed then (if n / 128 == 1 then sum_of n 0xffffff00 else n) else n
extended signed Half n = if signed then (if n / 32768 == 1 then sum_of n 0xffff0000 else n) else n
extended signed Word n = n

abbrev pub load_found : Context → List Page → ℕ → ℕ → Width → Bool → Option ℕ → After
load_found c ps rd va width signed None = missed c ps va Read
load_found c ps rd va width signed (Some n) = advanced c (touched_at (touched_at ps c.pc Fetch) va Read) rd (extended signed width n)

abbrev pub after_load : Context → List Page → ℕ → ℕ → Width → Bool → After
after_load c ps rd va width signed =
    if va % size_of width == 0 then load_found c ps rd va width signed (loaded ps va width) else ended c ps (Misaligned misaligned.Load va)

abbrev pub store_found : Context → List Page → ℕ → Width → ℕ → Bool → After
store_found c ps va width value found =
    if found then record { context = record c { pc = next_of c }; pages = touched_at (touched_at (stored ps va width value) c.pc Fetch) va Write; answer = Next } else missed c ps va Write

abbrev pub after_store : Context → List Page → ℕ → Width → ℕ → After
after_store c ps va width value =
    if va % size_of width == 0 then store_found c ps va width value (translates ps va Write) else ended c ps (Misaligned misaligned.Store va)

-- The word is read before it is written, and goes to the register as it was read.
abbrev pub write_found : Context → List Page → ℕ → ℕ → AmoOp → ℕ → ℕ → Bool → After
write_found c ps rd va op operand old found =
    if found then advanced c (touched_at (touched_at (touched_at (stored ps va Word (amo_of op old operand)) c.pc Fetch) va Read) va Write) rd old else missed c ps va Write

abbrev pub read_found : Context → List Page → ℕ → ℕ → AmoOp → ℕ → Option ℕ → After
read_found c ps rd va op operand None = missed c ps va Read
read_found c ps rd va op operand (Some old) = write_found c ps rd va op operand old (translates ps va Write)

abbrev pub after_atomic : Context → List Page → ℕ → ℕ → AmoOp → ℕ → After
after_atomic c ps rd va op operand =
    if va % 4 == 0 then read_found c ps rd va op operand (loaded ps va Word) else ended c ps (Misaligned misaligned.Store va)

unfoldable pub after_action : Action → Context → List Page → After
after_action (actions.Set rd value) c ps = advanced c (touched_at ps c.pc Fetch) rd value
after_action actions.Pass c ps = record { context = record c { pc = next_of c }; pages = touched_at ps c.pc Fetch; answer = Next }
after_action (actions.Jump rd target) c ps = after_jump c ps rd target
after_action (actions.Load rd va width signed) c ps = after_load c ps rd va width signed
after_action (actions.Store va width value) c ps = after_store c ps va width value
after_action (actions.Atomic rd va op operand) c ps = after_atomic c ps rd va op operand
after_action actions.Call c ps = record { context = record c { pc = next_of c }; pages = touched_at ps c.pc Fetch; answer = Call }
after_action actions.Break c ps = ended c ps Breakpoint

abbrev pub after_decoding : Context → List Page → ℕ → Option Instr → After
after_decoding c ps word None = ended c ps (Illegal word)
after_decoding c ps word (Some i) = after_action (action_of i c) c ps

abbrev pub after_fetch : Context → List Page → Option ℕ → After
after_fetch c ps None = missed c ps c.pc Fetch
after_fetch c ps (Some word) = after_decoding c ps word (instruction_of word)

-- the step of a thread with this context in a space of these pages
unfoldable pub after_step : Context → List Page → After
after_step c ps = after_fetch c ps (fetched ps c.pc)
