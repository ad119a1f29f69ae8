-- No test of a fault says that memory is wanted.
use Rattle.std.proofs.Common.{Bool, true, false, Option, Some, None}
use Rattle.std.specs.Prelude.{if◌then◌else◌}
use Rattle.std.specs.Option.{option_and_then, option_or}
use Rattle.cache_ident.specs.declared.idents.Ident.{Ident}
use Rattle.cache_ident.specs.declared.names.Name.{Name}
use Rattle.cache_ident.specs.declared.names.Name.TheVariants as name
use Rattle.flat_state.specs.declared.records.FlatThread.{FlatThread}
use Rattle.flat_state.specs.declared.records.NextStep.{NextStep}
use Rattle.flat_state.specs.NextSteps.{next_step_of}
use Rattle.board_checks.specs.desc_stores.specs.Contents.{Contents}
use Rattle.board_checks.specs.board_ops.specs.declared.refusals.Refused.TheVariants as why
use Rattle.board_checks.specs.Identifiers.{thread_as}
use Rattle.board_checks.specs.Refusals.{refusal_of_thread}
use Rattle.board_checks.proofs.WhyLaws.{by_each, by_either, thread_tells, unless, IsNoWant}
use Rattle.board_core.specs.cached_machine.specs.Cached.{is_loaded, state_of}
use Rattle.board_core.specs.Core.{contents_of, Recorded}
use Rattle.board_core.specs.Refusals.{not_waiting, over}
use Rattle.board_core.proofs.CheckLaws.{over_tells, waiting_tells}
use Rattle.board_threads.specs.Refusals.{mapped_by, not_faulting, refusal_of_ending, refusal_of_fault, refusal_of_next, row_absent}

module _ (c : Contents) where
  never_absent : (o : Option Name) → IsNoWant (row_absent c o)
  unfolding row_absent
  never_absent None = λ e. cc
  never_absent (Some (name.Kernel whom)) = λ e. cc
  never_absent (Some (name.Space whom)) = λ e. cc
  never_absent (Some (name.Thread whom)) = λ e. cc
  never_absent (Some (name.Mapping space vpn)) = unless (is_loaded c (name.Mapping space vpn)) (why.NotLoaded vpn) (λ e. cc)

never_mapped : (o : Option Name) → IsNoWant (mapped_by o)
never_mapped None = λ e. cc
never_mapped (Some (name.Kernel whom)) = λ e. cc
never_mapped (Some (name.Space whom)) = λ e. cc
never_mapped (Some (name.Thread whom)) = λ e. cc
never_mapped (Some (name.Mapping space vpn)) = λ e. cc

never_faulting : (next : NextStep) → IsNoWant (not_faulting next)
never_faulting next = by next.faults
  where
    by : (b : Bool) → IsNoWant (if b then None else mapped_by (option_or next.data_row next.fetch_row))
    by true = λ e. cc
    by false = never_mapped (option_or next.data_row next.fetch_row)

module _ (b : Recorded) where
  never_next : (next : NextStep) → IsNoWant (refusal_of_next b next)
  never_next next =
      by_either (not_faulting next) (option_or (row_absent (contents_of b) next.fetch_row) (over b 1)) (never_faulting next)
      (by_either (row_absent (contents_of b) next.fetch_row) (over b 1) (never_absent (contents_of b) next.fetch_row) (over_tells b 1))

  never_ending : (t : FlatThread) → IsNoWant (refusal_of_ending b t)
  unfolding refusal_of_ending
  never_ending t = by_either (not_waiting (contents_of b) t) (refusal_of_next b (next_step_of (state_of b.machine) t)) (waiting_tells (contents_of b) t) (never_next (next_step_of (state_of b.machine) t))

  pub never_memory : (caller ident : Ident) → IsNoWant (refusal_of_fault b caller ident)
  never_memory caller ident =
      let c = contents_of b in
      by_either (refusal_of_thread c caller ident) (option_and_then (refusal_of_ending b) (thread_as c ident))
      (thread_tells c caller ident)
      (by_each (refusal_of_ending b) (thread_as c ident) never_ending)
