use Rattle.std.proofs.Common.{sym, ◌∙◌, subst}
use mathlib.Core.List.{IsPrefix}
use Rattle.turn_lock.specs.Lists.{numbers}
use Rattle.alone_run.specs.cache_board.specs.Events.{past_of}
use Rattle.alone_run.specs.cache_board.proofs.PastLaws.{limit_stays, made_by_numbers, seal_stays}
use Rattle.processors.proofs.Closing.{journal_begins}
use Rattle.processors.proofs.Parting.{are_processors, parts_gone_on, seen_by_parts}
use Rattle.processors.proofs.side_by_side.run_side_by_side.Goals as goal

-- a lock can be made over the board
pub new-requires : goal.new-requires
new-requires g c = made_by_numbers c.args.board c.holds.ensures.sound

pub run_with_passes-requires-clause-passes : goal.run_with_passes-requires-clause-passes
run_with_passes-requires-clause-passes g c = λ lifetimes within.
    are_processors c.in-Ok.lock 0 numbers c.args.cpus 8 c.in_ok-passes.passes.items c.requires.processors.1 c.in_ok-passes.ensures.parts c.in_ok-passes.ensures.few

pub joined-pass-requires : goal.joined-pass-requires
joined-pass-requires g c = record { parts = parts_gone_on c.in-Ok.lock 0 numbers c.in_ok-passes.passes.items c.in_ok-passes-2.passes.items c.in_ok-passes.ensures.parts c.in_ok-passes-2.ensures }

pub returns : goal.returns
returns g c =
    let old = c.args.board in
    let new = c.close-board.result in
    let begins = subst (λ more. IsPrefix (past_of old) more) (sym c.close-board.ensures)
    (seen_by_parts c.in-Ok.lock c.in_ok-passes.passes.items c.in_ok-passes-2.passes.items (past_of old) _ c.in_ok-passes.ensures.parts c.in_ok-passes-2.ensures (λ k d less. c.in_ok-passes.ensures.seen k d less ∙ c.in-Ok.ensures.seen) c.joined-pass.ensures.seen) in
    record {
      grew = journal_begins old new begins;
      limit = limit_stays old new c.holds.ensures.sound begins;
      sealed = λ sealed. seal_stays old new c.holds.ensures.sound c.holds-2.ensures.sound begins sealed;
      sound = c.holds-2.ensures.sound;
    }
