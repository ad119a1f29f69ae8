-- Steps were taken and no pause was met; and no step changed whether a view has the message flag.
use Rattle.std.proofs.Common.{◌≡◌, ◌-◌, ◌%◌, None}
use Rattle.rv32_exec.specs.declared.contexts.Context.{Context}
use Rattle.page_views.specs.Views.{has_message}
use Rattle.quantum.specs.Ahead.{ahead_over}
use Rattle.quantum.proofs.Going.{Going}
use Rattle.quantum.proofs.ahead.go.Given as goal

abbrev pub invariant-loop-steps : goal.invariant-loop-steps
invariant-loop-steps l = record {
  aligned : l.context.pc % 4 ≡ 0;
  watched : l.watched ≡ has_message l.views.views;
  going : (first : Context) → Going l.limit (ahead_over first l.initial.context l.initial.views l.from None) (ahead_over first l.context l.views l.steps None);
}

abbrev pub decreases-loop-steps : goal.decreases-loop-steps
decreases-loop-steps l = l.limit - l.steps
