use Rattle.std.proofs.Common.{◌≡◌, ◌++◌, ◌<◌, List, ℕ, length, [], Some, None, ap, sym, subst, ◌∙◌, append_assoc, append-nil, arith}
use Rattle.drive_text.specs.Lines.{line_text}
use Rattle.drive_text.specs.Ranges.{BeginsWithNoLine}
use Rattle.v_drive.specs.Lines.{IsTaken}
use Rattle.v_drive.proofs.Taking.{matched_none, matched_some, not_empty, nothing_left, shorter, taken_all, taken_none, with_line}
use Rattle.v_drive.proofs.hand.Hand.take_lines.Goals as goal

pub returns-in_default : goal.returns-in_default
returns-in_default c =
    let l = c.loop-rest in
    let none : BeginsWithNoLine l.rest.now = matched_none c.in_ok-found.found _ _ c.in_default.is c.in_ok-found.ensures.found in
    let some : 0 < length l.rest.now = not_empty (length l.rest.now) (sym c.is_empty.ensures ∙ c.loop-rest-test.true) in
    (l.invariant.done ++ [], l.invariant.text ∙ ap (λ (x : List ℕ). c.args.self.now.text.items ++ x) (sym (append-nil l.invariant.done)), l.invariant.so_far (Some l.at) [] l.self.board l.self.desk (taken_none l.rest.now l.at l.self.board l.self.desk some none))

pub loop-rest-smaller : goal.loop-rest-smaller
loop-rest-smaller c =
    let is : c.loop-rest.rest.now ≡ line_text c.in-Some.read.line ++ c.in-Some.read.rest.now = matched_some c.in_ok-found.found c.in-Some.read _ _ c.in-Some.is c.in_ok-found.ensures.found in
    shorter c.loop-rest.rest.now c.in-Some.read.rest.now c.in-Some.read.line is

pub loop-rest-preserved : goal.loop-rest-preserved
loop-rest-preserved c =
    let l = c.loop-rest in
    let is : l.rest.now ≡ line_text c.in-Some.read.line ++ c.in-Some.read.rest.now = matched_some c.in_ok-found.found c.in-Some.read _ _ c.in-Some.is c.in_ok-found.ensures.found in
    let less = shorter l.rest.now c.in-Some.read.rest.now c.in-Some.read.line is in
    let one = c.in_ok-take.ensures.done in
    record {
      views = c.in_ok-take.ensures.views;
      few = omega (arith, l.invariant.few, less);
      done = l.invariant.done ++ one.0;
      text = one.1 ∙ ap (λ (x : List ℕ). x ++ one.0) l.invariant.text ∙ append_assoc c.args.self.now.text.items l.invariant.done one.0;
      so_far = λ fault text new laid taken. subst (λ (x : List ℕ). IsTaken c.args.lines.now c.args.number fault c.args.self.now.board c.args.self.now.desk x new laid) (sym (append_assoc l.invariant.done one.0 text))
          (l.invariant.so_far fault (one.0 ++ text) new laid (with_line l.rest.now c.in-Some.read.rest.now l.at fault c.in-Some.read.line l.self.board c.take.new.self.board new l.self.desk c.take.new.self.desk laid one.0 text is one.2 taken));
    }

pub returns : goal.returns
returns c =
    let l = c.loop-rest in
    let none = nothing_left l.rest.now (sym c.is_empty.ensures ∙ c.loop-rest-test.false) in
    (l.invariant.done ++ [], l.invariant.text ∙ ap (λ (x : List ℕ). c.args.self.now.text.items ++ x) (sym (append-nil l.invariant.done)), l.invariant.so_far None [] l.self.board l.self.desk (taken_all l.rest.now l.at l.self.board l.self.desk none))
