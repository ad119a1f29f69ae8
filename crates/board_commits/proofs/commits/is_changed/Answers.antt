-- An untouched view isn't changed; nor is one whose frame stayed since; and else a comparison says whether it is.
use Rattle.std.proofs.Common.{◌≡◌, Bool, List, ℕ, sym, ◌∙◌, ap, subst}
use Rattle.std.specs.Bool.{OnTrue}
use Rattle.std.specs.Prelude.{◌&&◌, bytes_eq, not}
use Rattle.cache_ident.specs.declared.names.Frame.{Frame}
use Rattle.phys_groups.specs.Memory.{page_at, HasFrame}
use Rattle.board_threads.specs.cached_machine.specs.Cached.{state_of, Cached}
use Rattle.board_commits.proofs.CommitLaws.{compared}
use Rattle.board_commits.proofs.KeptLaws.{unchanged_if, untouched_if}
use Rattle.board_commits.proofs.TicketLaws.{memory_shown}
use Rattle.board_commits.proofs.commits.is_changed.Goals as goal

pub returns-then-not-touched : goal.returns-then-not-touched
returns-then-not-touched c = untouched_if c.args.view.now c.args.core.now.machine.memory (sym c.touched.ensures ∙ c.if-not-touched.true)

pub returns-then-stays_since : goal.returns-then-stays_since
returns-then-stays_since c =
    let view = c.args.view.now in
    let memory = c.args.core.now.machine.memory in
    unchanged_if view memory (sym c.touched.ensures ∙ c.if-not-touched.false)
    (subst (λ (b : Bool). OnTrue b (view.first ≡ page_at memory view.frame)) c.if-stays_since.true c.stays_since.ensures)

pub equals-requires-clause-in_memory : goal.equals-requires-clause-in_memory
equals-requires-clause-in_memory c =
    let memory = c.memory.ensures ∙ ap (λ (m : Cached). (state_of m).memory) c.machine.ensures ∙ memory_shown c.args.core.now.machine in
    subst (λ (m : List ℕ). HasFrame m c.frame.result) (sym memory) (subst (λ (f : Frame). HasFrame c.args.core.now.machine.memory f) (sym c.frame.ensures) c.requires.frame)

pub returns : goal.returns
returns c =
    let memory = c.memory.result.now in
    let now = c.args.core.now.machine.memory in
    let view = c.args.view.now in
    let same : memory ≡ now = c.memory.ensures ∙ ap (λ (m : Cached). (state_of m).memory) c.machine.ensures ∙ memory_shown c.args.core.now.machine in
    let test = compared c.equals.result c.first.result.now (page_at memory c.frame.result) c.equals.ensures.0 c.equals.ensures.1 in
    ap not
    (test ∙ ap (λ (bytes : List ℕ). bytes_eq bytes (page_at memory c.frame.result)) c.first.ensures.bytes
    ∙ ap (λ (frame : Frame). bytes_eq view.first (page_at memory frame)) c.frame.ensures
    ∙ ap (λ (m : List ℕ). bytes_eq view.first (page_at m view.frame)) same)
    ∙ ap (λ (b : Bool). b && not (bytes_eq view.first (page_at now view.frame))) (sym (sym c.touched.ensures ∙ c.if-not-touched.false))
