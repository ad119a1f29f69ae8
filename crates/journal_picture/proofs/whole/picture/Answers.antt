use Rattle.std.proofs.lemmas.Result.{IfOk-weaker}
use Rattle.journal_picture.proofs.PageLaws.{content_is_content}
use Rattle.journal_picture.proofs.whole.picture.Goals as goal

pub returns : goal.returns
returns c =
    IfOk-weaker c.page.result _ _ (λ text its. record {
      drawing = c.in_ok-drawing.drawing;
      its = its;
      formed = content_is_content c.in_ok-drawing.drawing;
      bars = c.in_ok-drawing.ensures;
    }) c.page.ensures
