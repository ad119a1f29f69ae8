use Rattle.std.proofs.Common.{◌∙◌, ap}
use Rattle.std.proofs.lemmas.Result.{err_from_is_err_and}
use Rattle.cache_ident.specs.declared.names.Name.TheVariants as name
use Rattle.board_checks.proofs.WhyLaws.{passed_why}
use Rattle.board_core.specs.Core.{Recorded}
use Rattle.board_core.proofs.SealLaws.{sealed_if}
use Rattle.board_threads.proofs.FaultLemmas.{faulting_still}
use Rattle.board_threads.proofs.NeverLemmas.{never_memory}
use Rattle.board_threads.proofs.faults.confirm_fault.Goals as goal

pub returns-in_err-no-clause-enough : goal.returns-in_err-no-clause-enough
returns-in_err-no-clause-enough c = λ spare.
    passed_why c.from_residual-in_err-no.result c.in_err-no.field-0.0 (err_from_is_err_and c.from_residual-in_err-no.result c.from_residual-in_err-no.ensures.1)
    _ c.in_err-no.ensures.exact (never_memory c.args.core.now c.args.caller c.args.thread)

pub step-requires : goal.step-requires
step-requires c =
    let still = faulting_still c.args.core.now c.make_entries.new.self c.make_entries.ensures.only c.in_ok-no.no c.in_ok-no.next c.in_ok-no.ensures.faults in
    record {
      next = still.its;
      may = still.may;
      loaded = still.loaded;
      unmarked = still.unmarked;
      left = still.left;
      write = record {
        sealed = ap (λ (b : Recorded). b.sealed) c.make_entries.ensures.only.rest ∙ sealed_if c.args.core.now c.known.ensures.sound (name.Thread c.in_ok-no.no) c.in_ok-no.ensures.faults.loaded;
        processor = c.requires.processor;
        room = c.in_ok-make_entries.ensures.ok;
      };
    }
