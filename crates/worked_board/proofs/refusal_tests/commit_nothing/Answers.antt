use Rattle.std.proofs.Common.{◌≡◌, ◌<◌, List, [], Contains, ap, sym, subst, arith}
use Rattle.cache_board.specs.page_views.specs.Views.{View}
use Rattle.cache_board.specs.quantum.specs.Ahead.{Ahead}
use Rattle.cache_board.specs.board_commits.specs.Tickets.{AreAllAsOf}
use Rattle.cache_board.specs.board_commits.proofs.KeptLaws.{kept_begun, kept_unbegun}
use Rattle.worked_board.proofs.refusal_tests.commit_nothing.Goals as goal

-- there is no view, and nothing is kept
pub commit-requires : goal.commit-requires
commit-requires c =
    let j = c.args.board.now.journal.entries in
    let a : Ahead = c.begin.new.self in
    let from : Ahead = c.forget.new.self in
    let none : a.views ≡ [] = ap (λ (x : Ahead). x.views) c.begin.ensures in
    record {
      views = record {
        views = λ v there. let nowhere : Contains [] v = subst (λ (vs : List View). Contains vs v) none there in let below : nowhere.0 < 0 = nowhere.1 in absurd (omega arith);
        kept = subst (AreAllAsOf j) (sym c.begin.ensures) (kept_begun j c.args.ticket.now.context from (subst (AreAllAsOf j) (sym c.forget.ensures) (kept_unbegun j c.args.quantum.now.most)));
      };
    }
