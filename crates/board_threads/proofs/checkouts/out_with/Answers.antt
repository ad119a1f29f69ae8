use Rattle.std.proofs.Common.{◌≡◌, ℕ, None, Some, ap, subst, sym, ◌∙◌}
use Rattle.cache_ident.specs.declared.idents.Kind.TheVariants as kind
use Rattle.board_checks.specs.desc_stores.specs.declared.items.Item.TheVariants as item
use Rattle.board_checks.specs.desc_stores.specs.Contents.{item_as}
use Rattle.board_checks.specs.desc_tables.specs.Tables.{Held}
use Rattle.board_checks.specs.Identifiers.{not_a}
use Rattle.board_core.specs.cached_machine.specs.Cached.{Cached}
use Rattle.board_core.specs.cached_machine.specs.Posts.{mark_of}
use Rattle.board_threads.proofs.PostLemmas.{alone_out, none_out, not_out, out_if}
use Rattle.board_threads.proofs.checkouts.out_with.Goals as goal

pub returns-in_default-clause-absent : goal.returns-in_default-clause-absent
returns-in_default-clause-absent c =
    let b = c.args.core.now in
    let held : c.tables.result.now ≡ b.machine.held = c.tables.ensures.tables ∙ ap (λ (m : Cached). m.held) c.machine.ensures in
    none_out b c.known.ensures.one c.args.ticket.now c.in_default.field-0 (subst (λ (h : Held). Some c.in_default.field-0 ≡ not_a kind.Thread h.contents c.args.ticket.now.thread) held c.in_default.ensures.exact)

pub returns-in_err-cpu-clause-absent : goal.returns-in_err-cpu-clause-absent
returns-in_err-cpu-clause-absent c =
    let b = c.args.core.now in
    let thread = c.in-Ok.thread.now in
    let held : c.tables.result.now ≡ b.machine.held = c.tables.ensures.tables ∙ ap (λ (m : Cached). m.held) c.machine.ensures in
    let there = subst (λ (h : Held). item_as h.contents c.args.ticket.now.thread ≡ Some (item.Thread thread)) held c.in-Ok.ensures.found in
    let off = subst (λ (m : Cached). None ≡ mark_of m.held.contents thread.no) c.machine-2.ensures c.in_err-cpu.ensures.mark in
    rw c.from_residual.ensures (not_out b c.known.ensures.one c.args.ticket.now thread there None off (λ e. cc))

pub returns-then-cpu-ticket-clause-found : goal.returns-then-cpu-ticket-clause-found
returns-then-cpu-ticket-clause-found c =
    let b = c.args.core.now in
    let thread = c.in-Ok.thread.now in
    let held : c.tables.result.now ≡ b.machine.held = c.tables.ensures.tables ∙ ap (λ (m : Cached). m.held) c.machine.ensures in
    let there = subst (λ (h : Held). item_as h.contents c.args.ticket.now.thread ≡ Some (item.Thread thread)) held c.in-Ok.ensures.found in
    let on = subst (λ (m : Cached). Some c.in_ok-cpu.cpu ≡ mark_of m.held.contents thread.no) c.machine-2.ensures c.in_ok-cpu.ensures.mark in
    out_if b c.known.ensures.one c.args.ticket.now thread there (sym on ∙ ap (λ (cpu : ℕ). Some cpu) c.if-cpu-ticket.true)

pub returns-then-cpu-ticket-clause-alone : goal.returns-then-cpu-ticket-clause-alone
returns-then-cpu-ticket-clause-alone c =
    let b = c.args.core.now in
    let thread = c.in-Ok.thread.now in
    let held : c.tables.result.now ≡ b.machine.held = c.tables.ensures.tables ∙ ap (λ (m : Cached). m.held) c.machine.ensures in
    let there = subst (λ (h : Held). item_as h.contents c.args.ticket.now.thread ≡ Some (item.Thread thread)) held c.in-Ok.ensures.found in
    alone_out b c.known.ensures.one c.args.ticket.now thread there

pub returns-else-cpu-ticket-clause-absent : goal.returns-else-cpu-ticket-clause-absent
returns-else-cpu-ticket-clause-absent c =
    let b = c.args.core.now in
    let thread = c.in-Ok.thread.now in
    let held : c.tables.result.now ≡ b.machine.held = c.tables.ensures.tables ∙ ap (λ (m : Cached). m.held) c.machine.ensures in
    let there = subst (λ (h : Held). item_as h.contents c.args.ticket.now.thread ≡ Some (item.Thread thread)) held c.in-Ok.ensures.found in
    let on = subst (λ (m : Cached). Some c.in_ok-cpu.cpu ≡ mark_of m.held.contents thread.no) c.machine-2.ensures c.in_ok-cpu.ensures.mark in
    not_out b c.known.ensures.one c.args.ticket.now thread there (Some c.in_ok-cpu.cpu) on (λ same. c.if-cpu-ticket.false (cc))
