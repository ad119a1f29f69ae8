use Rattle.std.proofs.Common.{◌≡◌, ◌+◌, ◌-◌, ◌*◌, ◌<◌, length, ap, ◌∙◌, arith}
use Rattle.std.specs.Vec.{with_items}
use Rattle.std.proofs.lemmas.Grind.{common_steps}
use borrow.Rule.Slice.PartMut.{put_mid}
use Rattle.phys_groups.specs.Memory.{padded, with_page}
use Rattle.phys_groups.proofs.Padded.{reached-frame, reached-page}
use Rattle.phys_groups.proofs.Pages.{page_at-with_page, page_at-with_page_other, with_page-page_at}
use Rattle.phys_groups.proofs.bytes.Memory.copy_in.Goals as goal

pub returns-clause-after : goal.returns-clause-after
returns-clause-after c =
    let start : c.args.frame.0 * 4096 ≡ 4096 * c.args.frame.0 = omega arith in
    let within : c.args.frame.0 * 4096 < length c.args.self.now = let has = c.requires.in_memory in omega arith in
    let reach = reached-page (c.args.frame.0 * 4096) c.self.invariant c.self.view_is within c.reach.ensures.items in
    let items : (with_items c.reach.new.bytes (put_mid (c.args.frame.0 * 4096) (c.args.frame.0 * 4096 + 4096 - c.args.frame.0 * 4096) c.deref_mut.result.now c.copy_from_slice.new.self)).items ≡ with_page c.reach.new.bytes.items c.args.frame c.args.bytes.now = grind (arith, common_steps) in
    ap (padded c.self.inside.size) items ∙ reached-frame (c.args.frame.0 * 4096) c.self.invariant c.self.view_is within c.reach.ensures.items c.args.frame c.args.bytes.now start c.requires.whole_page

pub returns-clause-holds : goal.returns-clause-holds
returns-clause-holds c = rw (returns-clause-after c) (page_at-with_page _ _ _ c.requires.in_memory c.requires.whole_page)

pub returns-clause-same : goal.returns-clause-same
returns-clause-same c same = rw (returns-clause-after c, same) (with_page-page_at _ _ c.requires.in_memory)

pub returns-clause-others : goal.returns-clause-others
returns-clause-others c f other = rw (returns-clause-after c) (page_at-with_page_other _ _ _ f c.requires.in_memory c.requires.whole_page other)
