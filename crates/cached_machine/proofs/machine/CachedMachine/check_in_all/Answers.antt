use Rattle.std.proofs.Common.{◌≤◌, List, Contains, IsSome, sym, subst}
use Rattle.cache_ident.specs.declared.names.Caps.{Caps}
use Rattle.cache_ident.specs.declared.names.ThreadNo.{ThreadNo}
use Rattle.cached_machine.specs.Posts.{mark_of}
use Rattle.cached_machine.proofs.OutLaws.{few_slots, nobody_out}
use Rattle.cached_machine.specs.contracts.machine.CachedMachine.{the_view}
use Rattle.cached_machine.proofs.machine.CachedMachine.check_in_all.Goals as goal

pub threads_out-out-requires-clause-few : goal.threads_out-out-requires-clause-few
threads_out-out-requires-clause-few c =
    let i = c.self.inside in
    let sound = c.self.invariant.0 in
    subst (λ (x : Caps). x.threads ≤ 256) (sym sound.caps) (few_slots (the_view i) sound.formed)

pub returns-clause-marks : goal.returns-clause-marks
returns-clause-marks c =
    let i = c.self.inside in
    let all = subst (λ (nos : List ThreadNo). (no : ThreadNo) → IsSome (mark_of i.tables.contents no) → Contains nos no) (sym c.deref.ensures.0) c.threads_out-out.ensures.all in
    nobody_out c.deref.result.now i.tables c.bring_back.new.tables all c.bring_back.ensures
