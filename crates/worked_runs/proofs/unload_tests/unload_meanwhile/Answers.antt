use Rattle.std.proofs.Common.{◌∙◌}
use Rattle.turn_lock.specs.Passes.{found_by, holder_first, value_of}
use Rattle.processors.proofs.Holding.{signed}
use Rattle.worked_runs.proofs.unload_tests.unload_meanwhile.Goals as goal

pub release-pass-requires : goal.release-pass-requires
release-pass-requires g c =
    let held = c.hold-held in
    record { signed = signed 1 (value_of held.result) c.value_mut.result.now c.unload-unloaded.new.self c.value_mut.ensures.value c.unload-unloaded.ensures.event (holder_first held.result) (found_by held.result) held.ensures.found (held.ensures.range.0 ∙ c.requires.number) }
