use Rattle.std.proofs.Common.{◌<◌, refl, ◌∙◌}
use Rattle.flat_rules.specs.flat_state.specs.declared.records.Settled.{Settled}
use Rattle.paged_run.specs.Pagers.{left, Grew, IsOver}
use Rattle.paged_run.proofs.Growing.{grew_none, grew_over, grew_then}
use Rattle.paged_run.proofs.Settling.{none_of, some_of}
use Rattle.paged_run.proofs.pager.Pager.run_on.Goals as goal

pub loop-settled-init : goal.loop-settled-init
loop-settled-init g c = record { ready = c.requires; grew = grew_none c.args.self.now (g.K.Store.bytes_held c.args.store.now); faultless = refl }

pub turn-requires : goal.turn-requires
turn-requires g c = c.loop-settled.invariant.ready

pub returns-in-Some-clause-over : goal.returns-in-Some-clause-over
returns-in-Some-clause-over g c =
    let store = g.K.Store in
    let q = c.loop-settled.self in
    let r = c.turn.new.self in
    let k = store.bytes_held c.loop-settled.store in
    let l = store.bytes_held c.turn.new.store in
    grew_over c.args.self.now q r (store.bytes_held c.args.store.now) k l c.args.limit c.in-Some.settled c.loop-settled.invariant.grew
    (some_of _ c.in-Some.settled (λ (s : Settled). IsOver q k r l c.args.limit s) c.in-Some.is c.in_ok-settled.ensures.over)

pub returns-in-Some-clause-faultless : goal.returns-in-Some-clause-faultless
returns-in-Some-clause-faultless g c = c.in_ok-settled.ensures.faultless ∙ c.loop-settled.invariant.faultless

pub loop-settled-smaller : goal.loop-settled-smaller
loop-settled-smaller g c = none_of _ (left c.turn.new.self c.args.limit < left c.loop-settled.self c.args.limit) c.in_default.is c.in_ok-settled.ensures.less

pub loop-settled-preserved : goal.loop-settled-preserved
loop-settled-preserved g c =
    let store = g.K.Store in
    let q = c.loop-settled.self in
    let r = c.turn.new.self in
    let k = store.bytes_held c.loop-settled.store in
    let l = store.bytes_held c.turn.new.store in
    let before = c.loop-settled.invariant in
    record {
      ready = c.in_ok-settled.ensures.ready;
      grew = grew_then c.args.self.now q r (store.bytes_held c.args.store.now) k l before.grew (none_of _ (Grew q k r l) c.in_default.is c.in_ok-settled.ensures.grew);
      faultless = c.in_ok-settled.ensures.faultless ∙ before.faultless;
    }
