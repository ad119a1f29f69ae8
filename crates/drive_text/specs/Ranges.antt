-- Which lines there can be, and what isn't one.
use Rattle.std.specs.Prelude.{◌≡◌, ℕ, ◌^◌, ◌<◌, List, ◌++◌, Option, Some, None}
use Rattle.cache_ident.specs.declared.idents.Ident.{Ident}
use Rattle.journal_text.specs.Ranges.{IsSmall, IsIdentInRange, IsDeclInRange}
use Rattle.board_ops.specs.declared.ops.Op.{Op}
use Rattle.board_ops.specs.declared.ops.Op.TheVariants.{Declare, Seal, LoadKernel, LoadSpace, LoadThread, LoadMapping, Unload, Lock, Unlock, Checkout, View, RunAhead, Commit, Leave, Complete, ConfirmFault, HealStep, Reserve}
use Rattle.drive_text.specs.declared.lines.Line.{Line}
use Rattle.drive_text.specs.declared.lines.Line.TheVariants.{Operation, Journal}
use Rattle.drive_text.specs.Lines.{line_text}

abbrev pub IsReceiverInRange : Option Ident → Type 0
IsReceiverInRange None = Unit {0}
IsReceiverInRange (Some ident) = IsIdentInRange ident

-- each number is one of its type
abbrev pub IsOpInRange : Op → Type 0
IsOpInRange (Declare d) = IsDeclInRange d
IsOpInRange Seal = Unit {0}
IsOpInRange (LoadKernel cpu caller kernel) = IsSmall cpu × IsIdentInRange caller × IsSmall kernel.0
IsOpInRange (LoadSpace cpu caller space) = IsSmall cpu × IsIdentInRange caller × IsSmall space.0
IsOpInRange (LoadThread cpu caller parent thread) = IsSmall cpu × IsIdentInRange caller × IsIdentInRange parent × IsSmall thread.0
IsOpInRange (LoadMapping cpu caller parent vpn receiver) = IsSmall cpu × IsIdentInRange caller × IsIdentInRange parent × IsSmall vpn.0 × IsReceiverInRange receiver
IsOpInRange (Unload cpu caller ident) = IsSmall cpu × IsIdentInRange caller × IsIdentInRange ident
IsOpInRange (Lock cpu caller ident) = IsSmall cpu × IsIdentInRange caller × IsIdentInRange ident
IsOpInRange (Unlock cpu caller ident) = IsSmall cpu × IsIdentInRange caller × IsIdentInRange ident
IsOpInRange (Checkout cpu) = IsSmall cpu
IsOpInRange (View cpu vpn) = IsSmall cpu × IsSmall vpn.0
IsOpInRange (RunAhead cpu limit) = IsSmall cpu × IsSmall limit
IsOpInRange (Commit cpu) = IsSmall cpu
IsOpInRange (Leave cpu) = IsSmall cpu
IsOpInRange (Complete cpu caller thread) = IsSmall cpu × IsIdentInRange caller × IsIdentInRange thread
IsOpInRange (ConfirmFault cpu caller thread) = IsSmall cpu × IsIdentInRange caller × IsIdentInRange thread
IsOpInRange (HealStep cpu thread) = IsSmall cpu × IsSmall thread.0
IsOpInRange (Reserve n) = n < 2 ^ 64

abbrev pub IsInRange : Line → Type 0
IsInRange (Operation op) = IsOpInRange op
IsInRange Journal = Unit {0}

-- no line of an operation, and no line `journal`, stands at the front
abbrev pub BeginsWithNoLine : List ℕ → Type 0
BeginsWithNoLine bytes = (line : Line) (rest : List ℕ) → IsInRange line → bytes ≡ line_text line ++ rest → ⊥
