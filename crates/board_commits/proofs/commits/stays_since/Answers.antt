-- Where the place isn't below the stamp, the bytes that were copied are the frame's.
use Rattle.std.proofs.Common.{◌≡◌, sym, subst, ◌∙◌}
use Rattle.cache_ident.specs.declared.names.Frame.{Frame}
use Rattle.phys_groups.specs.Memory.{page_at, HasFrame}
use Rattle.board_threads.specs.board_core.specs.Stamps.{IsSince}
use Rattle.board_commits.proofs.KeptLaws.{on_order, same_first}
use Rattle.board_commits.proofs.commits.stays_since.Goals as goal

pub stamp-requires : goal.stamp-requires
stamp-requires c = subst (λ (f : Frame). HasFrame c.args.core.now.machine.memory f) (sym c.frame.ensures) c.requires.frame

pub returns-in-Some : goal.returns-in-Some
returns-in-Some c =
    let j = c.args.core.now.journal.entries in
    let memory = c.args.core.now.machine.memory in
    let v = c.args.view.now in
    let since = subst (λ (f : Frame). IsSince j memory f c.stamp.result) c.frame.ensures c.stamp.ensures.since in
    on_order (v.first ≡ page_at memory v.frame) c.stamp.result c.in-Some.place
    (λ low. same_first j memory v c.stamp.result c.in-Some.place since (sym c.taken.ensures ∙ c.in-Some.is) low c.requires.kept)
