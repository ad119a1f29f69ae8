use Rattle.std.proofs.Common.{Some, sym, ap, ◌∙◌}
use Rattle.std.specs.Option.{option_map}
use Rattle.cache_ident.specs.declared.names.Frame.{Frame}
use Rattle.board_threads.specs.page_views.specs.Views.{View}
use Rattle.board_threads.specs.board_ops.specs.declared.refusals.Refused.TheVariants.{Changed}
use Rattle.board_commits.specs.Refusals.{is_changed, changed}
use Rattle.board_commits.proofs.FindLaws.{found_here, none_at_all, none_more}
use Rattle.board_commits.proofs.commits.check_contents.Goals as goal

pub is_changed-requires-clause-frame : goal.is_changed-requires-clause-frame
is_changed-requires-clause-frame c = c.requires.frames c.view-item.result (c.loop-view.view-index, c.loop-view-test.true, sym c.view-item.is)

pub is_changed-requires-clause-kept : goal.is_changed-requires-clause-kept
is_changed-requires-clause-kept c = c.requires.kept c.view-item.result (c.loop-view.view-index, c.loop-view-test.true, sym c.view-item.is)

pub returns-then-is_changed : goal.returns-then-is_changed
unfolding changed
returns-then-is_changed c =
    ap (λ (x : Frame). Some (Changed x)) c.frame.ensures
    ∙ sym (ap (option_map (λ (v : View). Changed v.frame)) (found_here (is_changed c.args.core.now.machine.memory) c.args.views.now c.loop-view.view-index c.view-item.result c.loop-view-test.true c.view-item.is c.loop-view.invariant (sym c.is_changed.ensures ∙ c.if-is_changed.true)))

pub loop-view-preserved : goal.loop-view-preserved
loop-view-preserved c = none_more (is_changed c.args.core.now.machine.memory) c.args.views.now c.loop-view.view-index c.view-item.result c.loop-view-test.true c.view-item.is c.loop-view.invariant (sym c.is_changed.ensures ∙ c.if-is_changed.false)

pub returns : goal.returns
unfolding changed
returns c = sym (ap (option_map (λ (v : View). Changed v.frame)) (none_at_all (is_changed c.args.core.now.machine.memory) c.args.views.now c.loop-view.view-index c.loop-view-test.false c.loop-view.invariant))
