-- The part of the frame becomes that of the page, and the rest is as there already.
use Rattle.std.proofs.Common.{◌≡◌, ℕ, List, ◌+◌, ◌-◌, ◌*◌, ◌<◌, length, take, drop, ap, ◌∙◌, arith, sym}
use Rattle.std.specs.Vec.{with_items}
use Rattle.std.proofs.lemmas.List.{drop-drop, with_items_is}
use borrow.Rule.Slice.PartMut.{put_mid}
use Rattle.phys_groups.specs.Memory.{HasFrame, padded, page_at, with_page}
use Rattle.phys_groups.proofs.Padded.{page_at-padded, reached-frame, reached-page, reached-same}
use Rattle.phys_groups.proofs.Pages.{page_at-with_page, page_at-with_page_other, length-with_page, same_around, with_page-between, with_page-page_at}
use Rattle.phys_groups.proofs.bytes.Memory.copy_part_in.Goals as goal

pub returns-then-from-to-clause-after : goal.returns-then-from-to-clause-after
returns-then-from-to-clause-after c =
    let start : c.args.frame.0 * 4096 ≡ 4096 * c.args.frame.0 = omega arith in
    let within : c.args.frame.0 * 4096 < length c.args.self.now = let has = c.requires.in_memory in omega arith in
    let reach = reached-page (c.args.frame.0 * 4096) c.self.invariant c.self.view_is within c.reach.ensures.items in
    let has : HasFrame c.reach.new.bytes.items c.args.frame = omega arith in
    let page : page_at c.reach.new.bytes.items c.args.frame ≡ page_at c.args.self.now c.args.frame =
    sym (page_at-padded c.self.inside.size c.reach.new.bytes.items c.args.frame has)
    ∙ ap (λ (bytes : List ℕ). page_at bytes c.args.frame) (reached-same (c.args.frame.0 * 4096) c.self.invariant c.self.view_is within c.reach.ensures.items) in
    let count : c.args.frame.0 * 4096 + c.args.to - (c.args.frame.0 * 4096 + c.args.from) ≡ c.args.to - c.args.from = omega arith in
    let end : 4096 * c.args.frame.0 + c.args.from + (c.args.to - c.args.from) ≡ 4096 * c.args.frame.0 + c.args.to = omega arith in
    let between = with_page-between c.reach.new.bytes.items c.args.frame c.args.bytes.now c.args.from c.args.to has c.requires.whole_page (omega arith) c.requires.within (ap (take c.args.from) page ∙ c.requires.before) (ap (drop c.args.to) page ∙ c.requires.behind) in
    let written : put_mid (c.args.frame.0 * 4096 + c.args.from) (c.args.frame.0 * 4096 + c.args.to - (c.args.frame.0 * 4096 + c.args.from)) c.deref_mut.result.now c.copy_from_slice.new.self ≡ with_page c.reach.new.bytes.items c.args.frame c.args.bytes.now =
    rw (count, start, c.deref_mut.ensures.value, c.copy_from_slice.ensures.after, drop-drop (c.args.to - c.args.from) (4096 * c.args.frame.0 + c.args.from) c.reach.new.bytes.items, end) between in
    let size : length (with_page c.reach.new.bytes.items c.args.frame c.args.bytes.now) ≡ length c.reach.new.bytes.items = length-with_page c.reach.new.bytes.items c.args.frame c.args.bytes.now has c.requires.whole_page in
    let items : (with_items c.reach.new.bytes (put_mid (c.args.frame.0 * 4096 + c.args.from) (c.args.frame.0 * 4096 + c.args.to - (c.args.frame.0 * 4096 + c.args.from)) c.deref_mut.result.now c.copy_from_slice.new.self)).items ≡ with_page c.reach.new.bytes.items c.args.frame c.args.bytes.now =
    with_items_is c.reach.new.bytes _ (rw (written, size) (sym c.reach.new.bytes.ok.0)) ∙ written in
    ap (padded c.self.inside.size) items ∙ reached-frame (c.args.frame.0 * 4096) c.self.invariant c.self.view_is within c.reach.ensures.items c.args.frame c.args.bytes.now start c.requires.whole_page

pub returns-then-from-to-clause-holds : goal.returns-then-from-to-clause-holds
returns-then-from-to-clause-holds c = rw (returns-then-from-to-clause-after c) (page_at-with_page _ _ _ c.requires.in_memory c.requires.whole_page)

pub returns-then-from-to-clause-same : goal.returns-then-from-to-clause-same
returns-then-from-to-clause-same c same = rw (returns-then-from-to-clause-after c, same) (with_page-page_at _ _ c.requires.in_memory)

pub returns-then-from-to-clause-others : goal.returns-then-from-to-clause-others
returns-then-from-to-clause-others c f other = rw (returns-then-from-to-clause-after c) (page_at-with_page_other _ _ _ f c.requires.in_memory c.requires.whole_page other)

pub returns-else-from-to-clause-after : goal.returns-else-from-to-clause-after
returns-else-from-to-clause-after c =
    let same : page_at c.args.self.now c.args.frame ≡ c.args.bytes.now = same_around c.args.from c.args.to _ _ (omega arith) c.requires.before c.requires.behind in
    sym (ap (with_page c.args.self.now c.args.frame) (sym same) ∙ with_page-page_at _ _ c.requires.in_memory)

pub returns-else-from-to-clause-holds : goal.returns-else-from-to-clause-holds
returns-else-from-to-clause-holds c = same_around c.args.from c.args.to _ _ (omega arith) c.requires.before c.requires.behind
