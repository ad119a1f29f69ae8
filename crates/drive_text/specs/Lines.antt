-- The line of each operation.
use Rattle.std.specs.Prelude.{ℕ, List, ◌++◌, codes, Option, Some, None}
use Rattle.std.specs.Fmt.{decimal}
use Rattle.cache_ident.specs.declared.idents.Ident.{Ident}
use Rattle.cache_ident.specs.Idents.{ident_text}
use Rattle.journal_text.specs.Lines.{field, decl_text}
use Rattle.board_ops.specs.declared.ops.Op.{Op}
use Rattle.board_ops.specs.declared.ops.Op.TheVariants.{Declare, Seal, LoadKernel, LoadSpace, LoadThread, LoadMapping, Unload, Lock, Unlock, Checkout, View, RunAhead, Commit, Leave, Complete, ConfirmFault, HealStep, Reserve}
use Rattle.drive_text.specs.declared.lines.Line.{Line}
use Rattle.drive_text.specs.declared.lines.Line.TheVariants.{Operation, Journal}

-- a space and an identifier
unfoldable pub ident_field : Ident → List ℕ
ident_field ident = codes " " ++ ident_text ident

-- `-` for no receiver
abbrev pub receiver_text : Option Ident → List ℕ
receiver_text None = codes " -"
receiver_text (Some ident) = ident_field ident

unfoldable pub op_text : Op → List ℕ
op_text (Declare d) = codes "declare " ++ decl_text d
op_text Seal = codes "seal"
op_text (LoadKernel cpu caller kernel) = codes "load kernel" ++ field cpu ++ ident_field caller ++ field kernel.0
op_text (LoadSpace cpu caller space) = codes "load space" ++ field cpu ++ ident_field caller ++ field space.0
op_text (LoadThread cpu caller parent thread) = codes "load thread" ++ field cpu ++ ident_field caller ++ ident_field parent ++ field thread.0
op_text (LoadMapping cpu caller parent vpn receiver) = codes "load row" ++ field cpu ++ ident_field caller ++ ident_field parent ++ field vpn.0 ++ receiver_text receiver
op_text (Unload cpu caller ident) = codes "unload" ++ field cpu ++ ident_field caller ++ ident_field ident
op_text (Lock cpu caller ident) = codes "lock" ++ field cpu ++ ident_field caller ++ ident_field ident
op_text (Unlock cpu caller ident) = codes "unlock" ++ field cpu ++ ident_field caller ++ ident_field ident
op_text (Checkout cpu) = codes "checkout" ++ field cpu
op_text (View cpu vpn) = codes "view" ++ field cpu ++ field vpn.0
op_text (RunAhead cpu limit) = codes "ahead" ++ field cpu ++ field limit
op_text (Commit cpu) = codes "commit" ++ field cpu
op_text (Leave cpu) = codes "leave" ++ field cpu
op_text (Complete cpu caller thread) = codes "complete" ++ field cpu ++ ident_field caller ++ ident_field thread
op_text (ConfirmFault cpu caller thread) = codes "confirm" ++ field cpu ++ ident_field caller ++ ident_field thread
op_text (HealStep cpu thread) = codes "heal" ++ field cpu ++ field thread.0
op_text (Reserve n) = codes "reserve " ++ decimal n

abbrev pub said_text : Line → List ℕ
said_text (Operation op) = op_text op
said_text Journal = codes "journal"

-- ended by a line feed
unfoldable pub line_text : Line → List ℕ
line_text line = said_text line ++ codes "\n"
