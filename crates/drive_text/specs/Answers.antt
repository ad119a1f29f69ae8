-- The line of each answer.
use Rattle.std.specs.Prelude.{ℕ, List, ◌++◌, codes, Option, Some, None}
use Rattle.std.specs.Fmt.{decimal}
use Rattle.cache_ident.specs.declared.idents.Kind.{Kind}
use Rattle.cache_ident.specs.declared.idents.Kind.TheVariants as kinds
use Rattle.cache_ident.specs.declared.names.Name.{Name}
use Rattle.cache_ident.specs.declared.names.ThreadNo.{ThreadNo}
use Rattle.cache_ident.specs.Idents.{ident_text}
use Rattle.cache_ident.specs.Names.{name_text}
use Rattle.rv32_exec.specs.declared.statuses.Status.{Status}
use Rattle.rv32_exec.specs.declared.statuses.Status.TheVariants as statuses
use Rattle.report_text.specs.Reports.{word_text, access_text, reason_text}
use Rattle.quantum.specs.declared.paused.Paused.{Paused}
use Rattle.quantum.specs.declared.paused.Paused.TheVariants as pauses
use Rattle.board_ops.specs.declared.refusals.Refused.{Refused}
use Rattle.board_ops.specs.declared.refusals.Refused.TheVariants as refusals
use Rattle.board_ops.specs.declared.answers.Answer.{Answer}
use Rattle.board_ops.specs.declared.answers.Answer.TheVariants as answers

-- two fields
abbrev pub pair_text : List ℕ → List ℕ → List ℕ
pair_text a b = a ++ (codes " " ++ b)

abbrev pub kind_text : Kind → List ℕ
kind_text kinds.Kernel = codes "kernel"
kind_text kinds.Space = codes "space"
kind_text kinds.Thread = codes "thread"
kind_text kinds.Mapping = codes "row"

-- `ready`, `trapped`, or the reason as the report has it
abbrev pub status_text : Status → List ℕ
status_text statuses.Ready = codes "ready"
status_text statuses.Trapped = codes "trapped"
status_text (statuses.Ended reason) = reason_text reason

-- `-` for none
abbrev pub named_text : Option Name → List ℕ
named_text None = codes "-"
named_text (Some name) = name_text name

abbrev pub cpu_text : Option ℕ → List ℕ
cpu_text None = codes "-"
cpu_text (Some cpu) = decimal cpu

abbrev pub thread_text : Option ThreadNo → List ℕ
thread_text None = codes "-"
thread_text (Some thread) = decimal thread.0

-- why a quantum stands
abbrev pub paused_text : Paused → List ℕ
paused_text pauses.Limit = codes "limit"
paused_text pauses.Call = codes "call"
paused_text (pauses.Stopped reason) = reason_text reason
paused_text (pauses.Miss va access) = codes "miss " ++ pair_text (word_text va) (access_text access)
paused_text pauses.Signal = codes "signal"

-- the refusal's name in small words, and its fields
abbrev pub refused_text : Refused → List ℕ
refused_text refusals.NoMemory = codes "no memory"
refused_text (refusals.Unknown ident) = codes "unknown " ++ ident_text ident
refused_text (refusals.Stale ident at) = codes "stale " ++ pair_text (ident_text ident) (decimal at)
refused_text (refusals.WrongKind ident) = codes "wrong kind " ++ ident_text ident
refused_text (refusals.NotDeclared name) = codes "not declared " ++ name_text name
refused_text (refusals.NotOwner given owner) = codes "not owner " ++ pair_text (decimal given.0) (decimal owner.0)
refused_text (refusals.WrongParent given declared) = codes "wrong parent " ++ pair_text (named_text given) (named_text declared)
refused_text (refusals.AlreadyLoaded ident) = codes "already loaded " ++ ident_text ident
refused_text (refusals.Rights frame group) = codes "rights " ++ pair_text (decimal frame.0) (decimal group)
refused_text (refusals.ReceiversAbsent space vpn) = codes "receivers absent " ++ pair_text (decimal space.0) (decimal vpn.0)
refused_text (refusals.LimitReached kernel kind limit) = codes "limit reached " ++ pair_text (decimal kernel.0) (pair_text (kind_text kind) (decimal limit))
refused_text refusals.FirstKernel = codes "first kernel"
refused_text (refusals.NotTrapped status) = codes "not trapped " ++ status_text status
refused_text (refusals.WaitEmpty thread) = codes "wait empty " ++ decimal thread.0
refused_text (refusals.NotRunnable status) = codes "not runnable " ++ status_text status
refused_text (refusals.OnCpu cpu) = codes "on cpu " ++ decimal cpu
refused_text (refusals.Mapped space vpn) = codes "mapped " ++ pair_text (decimal space.0) (decimal vpn.0)
refused_text (refusals.Moved cpu) = codes "moved " ++ cpu_text cpu
refused_text (refusals.NotLoaded vpn) = codes "not loaded " ++ decimal vpn.0
refused_text (refusals.Changed frame) = codes "changed " ++ decimal frame.0
refused_text (refusals.Over left) = codes "over " ++ decimal left
refused_text (refusals.Held receiver) = codes "held " ++ decimal receiver.0
refused_text refusals.Sealed = codes "sealed"
refused_text refusals.NotSealed = codes "not sealed"
refused_text (refusals.BadDecl rule) = codes "bad declaration " ++ decimal rule

abbrev pub answer_text : Answer → List ℕ
answer_text answers.Did = codes "did"
answer_text (answers.Loaded ident) = codes "loaded " ++ ident_text ident
answer_text (answers.Out thread) = codes "out " ++ thread_text thread
answer_text (answers.Paused paused) = codes "paused " ++ paused_text paused
answer_text (answers.Stepped n) = codes "stepped " ++ decimal n
answer_text (answers.Refused refused) = codes "refused " ++ refused_text refused
answer_text answers.NoTicket = codes "no ticket"
answer_text answers.NoView = codes "no view"
answer_text answers.NoCpu = codes "no cpu"

-- ended by a line feed
abbrev pub answer_line : Answer → List ℕ
answer_line answer = answer_text answer ++ codes "\n"
