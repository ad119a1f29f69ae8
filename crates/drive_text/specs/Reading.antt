-- Which operation's line may stand at the front of the bytes. Each reader gives what it takes the front for, and the bytes after it where it says so.
use Rattle.std.specs.Prelude.{ℕ, List, Option, Some, None, codes}
use Rattle.cache_ident.specs.declared.idents.Ident.{Ident}
use Rattle.text_fields.specs.Reading.{◌>>=◌, after}
use Rattle.run_journal.specs.declared.entries.Entry.{Entry}
use Rattle.run_journal.specs.declared.entries.Entry.TheVariants as entries
use Rattle.journal_text.specs.Reading.{first, number_at, field_at, ident_at, entry_at}
use Rattle.board_ops.specs.declared.ops.Op.{Op}
use Rattle.board_ops.specs.declared.ops.Op.TheVariants.{Declare, Seal, LoadKernel, LoadSpace, LoadThread, LoadMapping, Unload, Lock, Unlock, Checkout, View, RunAhead, Commit, Leave, Complete, ConfirmFault, HealStep, Reserve}
use Rattle.drive_text.specs.declared.lines.Line.{Line}
use Rattle.drive_text.specs.declared.lines.Line.TheVariants.{Operation, Journal}

-- a space and an identifier
unfoldable pub ident_field_at : List ℕ → Option (Ident × List ℕ)
ident_field_at bytes = do
  a ← after (codes " ") bytes
  ident_at a

-- a processor and the caller
unfoldable pub asked_at : List ℕ → Option (ℕ × Ident × List ℕ)
asked_at bytes = do
  cpu ← field_at bytes
  caller ← ident_field_at cpu.1
  Some (cpu.0, caller.0, caller.1)

-- a processor, the caller and an identifier
unfoldable pub call_at : List ℕ → Option (ℕ × Ident × Ident)
call_at bytes = do
  asked ← asked_at bytes
  ident ← ident_field_at asked.2
  Some (asked.0, asked.1, ident.0)

-- a processor, and a number
unfoldable pub pair_at : List ℕ → Option (ℕ × ℕ)
pair_at bytes = do
  cpu ← field_at bytes
  n ← field_at cpu.1
  Some (cpu.0, n.0)

unfoldable pub cpu_at : List ℕ → Option ℕ
cpu_at bytes = do
  cpu ← field_at bytes
  Some cpu.0

unfoldable pub receiver_at : List ℕ → Option (Option Ident)
receiver_at bytes = first (after (codes " -") bytes) (λ rest. Some None) (do
  ident ← ident_field_at bytes
  Some (Some ident.0))

-- ---- loads

unfoldable pub load_kernel_at : List ℕ → Option Op
load_kernel_at bytes = do
  asked ← asked_at bytes
  kernel ← field_at asked.2
  Some (LoadKernel asked.0 asked.1 (record { 0 = kernel.0 }))

unfoldable pub load_space_at : List ℕ → Option Op
load_space_at bytes = do
  asked ← asked_at bytes
  space ← field_at asked.2
  Some (LoadSpace asked.0 asked.1 (record { 0 = space.0 }))

unfoldable pub load_thread_at : List ℕ → Option Op
load_thread_at bytes = do
  asked ← asked_at bytes
  parent ← ident_field_at asked.2
  thread ← field_at parent.1
  Some (LoadThread asked.0 asked.1 parent.0 (record { 0 = thread.0 }))

unfoldable pub load_row_at : List ℕ → Option Op
load_row_at bytes = do
  asked ← asked_at bytes
  parent ← ident_field_at asked.2
  vpn ← field_at parent.1
  receiver ← receiver_at vpn.1
  Some (LoadMapping asked.0 asked.1 parent.0 (record { 0 = vpn.0 }) receiver)

-- the load that the words at the front ask for
unfoldable pub load_at : List ℕ → Option Op
load_at bytes =
    first (after (codes "load row") bytes) load_row_at
    (first (after (codes "load thread") bytes) load_thread_at
    (first (after (codes "load space") bytes) load_space_at
    (after (codes "load kernel") bytes >>= load_kernel_at)))

-- ---- by their first word

-- what asks for a loaded descriptor
unfoldable pub loaded_at : List ℕ → Option Op
loaded_at bytes =
    first (after (codes "complete") bytes) (λ rest. call_at rest >>= λ c. Some (Complete c.0 c.1 c.2))
    (first (after (codes "confirm") bytes) (λ rest. call_at rest >>= λ c. Some (ConfirmFault c.0 c.1 c.2))
    (first (after (codes "unload") bytes) (λ rest. call_at rest >>= λ c. Some (Unload c.0 c.1 c.2))
    (first (after (codes "lock") bytes) (λ rest. call_at rest >>= λ c. Some (Lock c.0 c.1 c.2))
    (after (codes "unlock") bytes >>= λ rest. call_at rest >>= λ c. Some (Unlock c.0 c.1 c.2)))))

-- what asks for steps
unfoldable pub step_at : List ℕ → Option Op
step_at bytes =
    first (after (codes "checkout") bytes) (λ rest. cpu_at rest >>= λ cpu. Some (Checkout cpu))
    (first (after (codes "view") bytes) (λ rest. pair_at rest >>= λ p. Some (View p.0 (record { 0 = p.1 })))
    (first (after (codes "ahead") bytes) (λ rest. pair_at rest >>= λ p. Some (RunAhead p.0 p.1))
    (first (after (codes "commit") bytes) (λ rest. cpu_at rest >>= λ cpu. Some (Commit cpu))
    (first (after (codes "leave") bytes) (λ rest. cpu_at rest >>= λ cpu. Some (Leave cpu))
    (after (codes "heal") bytes >>= λ rest. pair_at rest >>= λ p. Some (HealStep p.0 (record { 0 = p.1 })))))))

-- the declaration whose line may stand at the front
abbrev pub declared_in : Entry → Option Op
declared_in (entries.Declared decl) = Some (Declare decl)
declared_in _ = None

unfoldable pub declare_at : List ℕ → Option Op
declare_at bytes = entry_at bytes >>= declared_in

unfoldable pub reserve_at : List ℕ → Option Op
reserve_at bytes = do
  n ← number_at bytes
  Some (Reserve n.0)

-- what no processor asks for
unfoldable pub other_at : List ℕ → Option Op
other_at bytes =
    first (after (codes "declare ") bytes) declare_at
    (first (after (codes "reserve ") bytes) reserve_at
    (after (codes "seal") bytes >>= λ rest. Some Seal))

-- the one operation whose line may stand at the front
unfoldable pub op_at : List ℕ → Option Op
op_at bytes = first (step_at bytes) Some (first (loaded_at bytes) Some (first (load_at bytes) Some (other_at bytes)))

-- .. or else `journal`
unfoldable pub line_at : List ℕ → Option Line
line_at bytes = first (op_at bytes) (λ op. Some (Operation op)) (after (codes "journal") bytes >>= λ rest. Some Journal)
