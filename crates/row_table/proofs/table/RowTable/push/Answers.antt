use Rattle.std.proofs.Common.{◌∙◌, ◌<◌, length, count_by, ap, arith}
use Rattle.std.specs.Map.{values_of}
use Rattle.signal_pages.specs.Signals.{is_signal_row_of}
use Rattle.row_table.specs.Pages.{is_of, key_of}
use Rattle.row_table.proofs.OnlyOne.{NonePass, none_from_find}
use Rattle.row_table.proofs.SoundnessLemmas.{IsSound-push, length_pages}
use Rattle.row_table.proofs.table.RowTable.push.Goals as goal

pub add-requires-clause-room : goal.add-requires-clause-room
add-requires-clause-room c = λ received.
    let rows = values_of c.self.inside.rows in
    let few : count_by (is_signal_row_of c.args.row.frame) rows < 4 = rw c.self.view_is (c.requires.receivers received) in
    omega (arith, ap length (c.in_ok-make_list.ensures.same c.args.row.frame), length_pages rows c.self.inside.signals c.args.row.frame c.self.invariant.signal_pages)

pub invariant_of-self-2 : goal.invariant_of-self-2
invariant_of-self-2 c =
    let rows = values_of c.self.inside.rows in
    let row = c.args.row in
    let none : NonePass (is_of (key_of row)) rows = none_from_find (is_of (key_of row)) rows (rw c.self.view_is c.requires.page) in
    rw c.in_ok-push.ensures.ok
    (IsSound-push rows row c.make_list.new.self c.add.new.self c.self.invariant.proper (λ frame. c.in_ok-make_list.ensures.same frame ∙ c.self.invariant.signal_pages frame) none
    (λ received. rw c.self.view_is (c.requires.receivers received)) c.add.ensures)
