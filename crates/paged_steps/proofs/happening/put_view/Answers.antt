use Rattle.std.proofs.Common.{◌≡◌, ℕ, Bool, List, ap, sym, ◌∙◌, subst, arith}
use Rattle.std.specs.Bool.{OnTrue}
use Rattle.phys_groups.specs.Memory.{with_page, HasFrame}
use Rattle.phys_groups.proofs.Pages.{with_page-page_at}
use Rattle.page_store.specs.Kept.{Means}
use Rattle.paged_steps.proofs.happening.put_view.Goals as goal

pub returns-then-is_as_copied-clause-memory : goal.returns-then-is_as_copied-clause-memory
returns-then-is_as_copied-clause-memory g c = λ m means put.
    let v = c.args.view.now in
    let as_copied : v.present ≡ v.first = subst (λ (b : Bool). OnTrue b (v.present ≡ v.first)) c.if-is_as_copied.true c.is_as_copied.ensures in
    let size = means.size in
    let within : HasFrame m v.frame = omega arith in
    let same : with_page m v.frame v.present ≡ m = ap (with_page m v.frame) (sym (put as_copied)) ∙ with_page-page_at m v.frame within in
    subst (λ (n : List ℕ). Means c.args.paged.now (g.K.Store.bytes_held c.args.store.now) n) (sym same) means

pub returns-clause-memory : goal.returns-clause-memory
returns-clause-memory g c = λ m means put. rw (sym c.frame.ensures, sym c.present-bytes.ensures.bytes) (c.in_ok-put.ensures.memory m means)
