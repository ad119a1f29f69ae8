-- Whole pages differ within the whole page, and one page nowhere from itself.
use Rattle.std.proofs.Common.{◌≡◌, length, rules}
use Rattle.page_views.proofs.page.PageView.copy.Goals.{in-Some, in-None}
use Rattle.page_views.proofs.page.PageView.copy.Goals as goal

pub invariant_of-self : goal.invariant_of-self
invariant_of-self c = elim c.match-touched.branch [
  | in-Some w ↦
      let first : length c.copy_from_slice.new.self ≡ 4096 = search rules in
      let present : length w.copy_from_slice-in-Some.new.self ≡ 4096 = search rules in
      rw w.self-inside-is (w.all-body.ensures.alike _ _ first present, w.all-body.ensures.within)
  | in-None w ↦
      rw (w.self-inside-is, c.copy_from_slice.ensures.after, w.copy_from_slice-in-None.ensures.after) (w.none-body.ensures.alike c.args.bytes.now, w.none-body.ensures.within)
]
