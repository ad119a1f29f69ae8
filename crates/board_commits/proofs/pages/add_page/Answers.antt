-- The page is what the quantum keeps of the frame, or what memory has of it.
use Rattle.std.proofs.Common.{Bool, List, ℕ, IsTrue, length, sym, ap, subst, ◌∙◌}
use Rattle.std.specs.Bool.{OnFalse, OnTrue}
use Rattle.phys_groups.specs.Memory.{page_at, HasFrame}
use Rattle.board_threads.specs.page_views.specs.Views.{can_fill}
use Rattle.board_threads.specs.run_journal.specs.Entries.{Written}
use Rattle.board_threads.specs.quantum.specs.Ahead.{Ahead, HasRefilled, HasReordered}
use Rattle.board_threads.specs.cached_machine.specs.Cached.{state_of, Cached}
use Rattle.board_commits.proofs.KeptLaws.{has_copied, has_kept}
use Rattle.board_commits.proofs.TicketLaws.{memory_shown}
use Rattle.board_commits.proofs.pages.add_page.Goals as goal

pub returns-then-refill : goal.returns-then-refill
returns-then-refill c =
    let old = c.args.quantum.now in
    let refilled = subst (λ (b : Bool). OnTrue b (HasRefilled c.args.vpn c.args.frame c.args.flags c.args.row c.stamp.result old c.refill.new.self)) c.if-refill.true c.refill.ensures.refilled in
    has_kept c.args.core.now c.args.vpn c.args.frame c.args.flags c.args.row old c.refill.new.self c.stamp.result c.stamp.ensures.since c.requires.kept refilled

pub page-bytes-requires : goal.page-bytes-requires
page-bytes-requires c =
    let memory = c.memory.ensures ∙ ap (λ (m : Cached). (state_of m).memory) c.machine.ensures ∙ memory_shown c.args.core.now.machine in
    subst (λ (m : List ℕ). HasFrame m c.args.frame) (sym memory) c.requires.frame

pub fill_as_of-requires-clause-room : goal.fill_as_of-requires-clause-room
fill_as_of-requires-clause-room c =
    let same = subst (λ (b : Bool). OnFalse b (HasReordered c.args.quantum.now c.refill.new.self)) c.if-refill.false c.refill.ensures.not in
    subst (λ (a : Ahead). IsTrue (can_fill a.most a.views c.args.vpn)) (sym same.is) c.requires.room

pub returns : goal.returns
returns c =
    let old = c.args.quantum.now in
    let b = c.args.core.now in
    let memory = c.memory.ensures ∙ ap (λ (m : Cached). (state_of m).memory) c.machine.ensures ∙ memory_shown b.machine in
    let same = subst (λ (b : Bool). OnFalse b (HasReordered old c.refill.new.self)) c.if-refill.false c.refill.ensures.not in
    has_copied b c.args.vpn c.args.frame c.args.flags c.args.row old c.fill_as_of.new.self c.stamp.result c.stamp.ensures.since c.refill.new.self same c.page-bytes.result.now c.len.result
    (c.page-bytes.ensures.bytes ∙ ap (λ (m : List ℕ). page_at m c.args.frame) memory)
    (c.len.ensures ∙ ap (λ (w : Written). length w.entries) c.journal.ensures)
    c.fill_as_of.ensures
