use Rattle.std.proofs.Common.{Some, sym, ap, ◌∙◌}
use Rattle.std.specs.Option.{option_map}
use Rattle.cache_ident.specs.declared.names.Vpn.{Vpn}
use Rattle.board_threads.specs.page_views.specs.Views.{View}
use Rattle.board_threads.specs.board_ops.specs.declared.refusals.Refused.TheVariants.{NotLoaded}
use Rattle.board_commits.specs.Refusals.{is_gone, not_loaded}
use Rattle.board_commits.proofs.FindLaws.{found_here, none_at_all, none_more}
use Rattle.board_commits.proofs.commits.check_rows.Goals as goal

pub returns-then-is_gone : goal.returns-then-is_gone
unfolding not_loaded
returns-then-is_gone c =
    ap (λ (x : Vpn). Some (NotLoaded x)) c.vpn.ensures
    ∙ sym (ap (option_map (λ (v : View). NotLoaded v.vpn)) (found_here (is_gone c.args.tables.now.contents) c.args.views.now c.loop-view.view-index c.view-item.result c.loop-view-test.true c.view-item.is c.loop-view.invariant (sym c.is_gone.ensures ∙ c.if-is_gone.true)))

pub loop-view-preserved : goal.loop-view-preserved
loop-view-preserved c = none_more (is_gone c.args.tables.now.contents) c.args.views.now c.loop-view.view-index c.view-item.result c.loop-view-test.true c.view-item.is c.loop-view.invariant (sym c.is_gone.ensures ∙ c.if-is_gone.false)

pub returns : goal.returns
unfolding not_loaded
returns c = sym (ap (option_map (λ (v : View). NotLoaded v.vpn)) (none_at_all (is_gone c.args.tables.now.contents) c.args.views.now c.loop-view.view-index c.loop-view-test.false c.loop-view.invariant))
