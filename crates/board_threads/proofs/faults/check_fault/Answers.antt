use Rattle.std.proofs.Common.{◌≡◌, false, Option, Some, None, ap, subst, ◌∙◌, slice_get}
use Rattle.std.specs.Option.{option_or}
use Rattle.std.proofs.lemmas.Result.{err_from_is_err_and}
use Rattle.cache_ident.specs.declared.names.Name.TheVariants as name
use Rattle.board_checks.specs.desc_stores.specs.declared.items.Item.TheVariants as item
use Rattle.board_checks.specs.desc_stores.specs.Contents.{item_as}
use Rattle.board_checks.specs.desc_tables.specs.Tables.{Held}
use Rattle.board_checks.specs.shown_state.specs.Shown.{flat_thread, thread_of}
use Rattle.board_checks.specs.board_ops.specs.declared.refusals.Refused.{Refused}
use Rattle.board_checks.specs.Refusals.{refusal_of_thread}
use Rattle.board_core.specs.cached_machine.specs.Cached.{state_of, Cached}
use Rattle.board_core.specs.Core.{contents_of}
use Rattle.board_core.specs.Refusals.{not_waiting, over}
use Rattle.board_threads.specs.Refusals.{not_faulting, row_absent}
use Rattle.board_checks.proofs.FirstLemmas.{err_shown, first_fails, first_passes}
use Rattle.board_checks.proofs.IdentifierLemmas.{item_resident}
use Rattle.board_threads.proofs.FaultLemmas.{by_ending, by_next, by_waiting, is_faulting, next_is, no_next}
use Rattle.board_threads.proofs.IdentLemmas.{item_content, named_so}
use Rattle.board_threads.proofs.faults.check_fault.Goals as goal

pub returns-in_err-check_waiting-clause-exact : goal.returns-in_err-check_waiting-clause-exact
returns-in_err-check_waiting-clause-exact c =
    let b = c.args.core.now in
    let found = c.in_ok-found.found.now in
    let held : c.tables.result.now ≡ b.machine.held = c.tables.ensures.tables ∙ ap (λ (m : Cached). m.held) c.machine.ensures in
    let its = subst (λ (h : Held). item_as h.contents c.args.thread ≡ Some (item.Thread found)) held c.in_ok-found.ensures.found in
    let passes = subst (λ (h : Held). None ≡ refusal_of_thread h.contents c.args.caller c.args.thread) held c.in_ok-found.ensures.exact in
    let p = err_from_is_err_and c.from_residual-in_err-check_waiting.result c.from_residual-in_err-check_waiting.ensures.1 in
    let x : Refused = c.in_err-check_waiting.field-0.0 in
    let refused = subst (λ (m : Cached). Some x ≡ not_waiting m.held.contents (flat_thread found)) c.machine-2.ensures c.in_err-check_waiting.ensures in
    err_shown _ _ p ∙ by_ending b c.args.caller c.args.thread found (Some x) passes its (by_waiting b (flat_thread found) (record { runnable = false; faults = false; fetch_row = None; data_row = None }) x refused)

pub unreachable-requires : goal.unreachable-requires
unreachable-requires c =
    let b = c.args.core.now in
    let found = c.in_ok-found.found.now in
    let held : c.tables.result.now ≡ b.machine.held = c.tables.ensures.tables ∙ ap (λ (m : Cached). m.held) c.machine.ensures in
    let its = subst (λ (h : Held). item_as h.contents c.args.thread ≡ Some (item.Thread found)) held c.in_ok-found.ensures.found in
    let there : slice_get (state_of b.machine).threads found.no.0 ≡ Some (flat_thread found) = c.known.ensures.found.threads found.no.0 ∙ ap thread_of (item_content (contents_of b) c.known.ensures.one c.args.thread (item.Thread found) its) in
    no_next (state_of b.machine) found.no.0 (flat_thread found) there c.in_default.ensures

pub returns-in_err-check_faulting-clause-exact : goal.returns-in_err-check_faulting-clause-exact
returns-in_err-check_faulting-clause-exact c =
    let b = c.args.core.now in
    let found = c.in_ok-found.found.now in
    let held : c.tables.result.now ≡ b.machine.held = c.tables.ensures.tables ∙ ap (λ (m : Cached). m.held) c.machine.ensures in
    let its = subst (λ (h : Held). item_as h.contents c.args.thread ≡ Some (item.Thread found)) held c.in_ok-found.ensures.found in
    let passes = subst (λ (h : Held). None ≡ refusal_of_thread h.contents c.args.caller c.args.thread) held c.in_ok-found.ensures.exact in
    let there : slice_get (state_of b.machine).threads found.no.0 ≡ Some (flat_thread found) = c.known.ensures.found.threads found.no.0 ∙ ap thread_of (item_content (contents_of b) c.known.ensures.one c.args.thread (item.Thread found) its) in
    let waits = subst (λ (m : Cached). None ≡ not_waiting m.held.contents (flat_thread found)) c.machine-2.ensures c.in_ok-check_waiting.ensures in
    let next = c.in-Some.next in
    let is = next_is (state_of b.machine) found.no.0 (flat_thread found) next there c.in-Some.ensures in
    let p = err_from_is_err_and c.from_residual-in_err-check_faulting.result c.from_residual-in_err-check_faulting.ensures.1 in
    let x : Refused = c.in_err-check_faulting.field-0.0 in
    let rest : Option Refused = option_or (row_absent (contents_of b) next.fetch_row) (over b 1) in
    err_shown _ _ p ∙ by_ending b c.args.caller c.args.thread found (Some x) passes its (by_next b (flat_thread found) next (Some x) waits is (first_fails (not_faulting next) rest x c.in_err-check_faulting.ensures))

pub returns-in_err-check_fetch-clause-exact : goal.returns-in_err-check_fetch-clause-exact
returns-in_err-check_fetch-clause-exact c =
    let b = c.args.core.now in
    let found = c.in_ok-found.found.now in
    let held : c.tables.result.now ≡ b.machine.held = c.tables.ensures.tables ∙ ap (λ (m : Cached). m.held) c.machine.ensures in
    let its = subst (λ (h : Held). item_as h.contents c.args.thread ≡ Some (item.Thread found)) held c.in_ok-found.ensures.found in
    let passes = subst (λ (h : Held). None ≡ refusal_of_thread h.contents c.args.caller c.args.thread) held c.in_ok-found.ensures.exact in
    let there : slice_get (state_of b.machine).threads found.no.0 ≡ Some (flat_thread found) = c.known.ensures.found.threads found.no.0 ∙ ap thread_of (item_content (contents_of b) c.known.ensures.one c.args.thread (item.Thread found) its) in
    let waits = subst (λ (m : Cached). None ≡ not_waiting m.held.contents (flat_thread found)) c.machine-2.ensures c.in_ok-check_waiting.ensures in
    let next = c.in-Some.next in
    let is = next_is (state_of b.machine) found.no.0 (flat_thread found) next there c.in-Some.ensures in
    let p = err_from_is_err_and c.from_residual-in_err-check_fetch.result c.from_residual-in_err-check_fetch.ensures.1 in
    let x : Refused = c.in_err-check_fetch.field-0.0 in
    let rest : Option Refused = option_or (row_absent (contents_of b) next.fetch_row) (over b 1) in
    err_shown _ _ p ∙ by_ending b c.args.caller c.args.thread found (Some x) passes its (by_next b (flat_thread found) next (Some x) waits is (first_passes (not_faulting next) rest (Some x) c.in_ok-check_faulting.ensures (first_fails (row_absent (contents_of b) next.fetch_row) (over b 1) x c.in_err-check_fetch.ensures)))

pub returns-in_err-check_steps-clause-exact : goal.returns-in_err-check_steps-clause-exact
returns-in_err-check_steps-clause-exact c =
    let b = c.args.core.now in
    let found = c.in_ok-found.found.now in
    let held : c.tables.result.now ≡ b.machine.held = c.tables.ensures.tables ∙ ap (λ (m : Cached). m.held) c.machine.ensures in
    let its = subst (λ (h : Held). item_as h.contents c.args.thread ≡ Some (item.Thread found)) held c.in_ok-found.ensures.found in
    let passes = subst (λ (h : Held). None ≡ refusal_of_thread h.contents c.args.caller c.args.thread) held c.in_ok-found.ensures.exact in
    let there : slice_get (state_of b.machine).threads found.no.0 ≡ Some (flat_thread found) = c.known.ensures.found.threads found.no.0 ∙ ap thread_of (item_content (contents_of b) c.known.ensures.one c.args.thread (item.Thread found) its) in
    let waits = subst (λ (m : Cached). None ≡ not_waiting m.held.contents (flat_thread found)) c.machine-2.ensures c.in_ok-check_waiting.ensures in
    let next = c.in-Some.next in
    let is = next_is (state_of b.machine) found.no.0 (flat_thread found) next there c.in-Some.ensures in
    let p = err_from_is_err_and c.from_residual-in_err-check_steps.result c.from_residual-in_err-check_steps.ensures.1 in
    let x : Refused = c.in_err-check_steps.field-0.0 in
    let rest : Option Refused = option_or (row_absent (contents_of b) next.fetch_row) (over b 1) in
    err_shown _ _ p ∙ by_ending b c.args.caller c.args.thread found (Some x) passes its (by_next b (flat_thread found) next (Some x) waits is (first_passes (not_faulting next) rest (Some x) c.in_ok-check_faulting.ensures (first_passes (row_absent (contents_of b) next.fetch_row) (over b 1) (Some x) c.in_ok-check_fetch.ensures c.in_err-check_steps.ensures)))

pub returns-clause-exact : goal.returns-clause-exact
returns-clause-exact c =
    let b = c.args.core.now in
    let found = c.in_ok-found.found.now in
    let held : c.tables.result.now ≡ b.machine.held = c.tables.ensures.tables ∙ ap (λ (m : Cached). m.held) c.machine.ensures in
    let its = subst (λ (h : Held). item_as h.contents c.args.thread ≡ Some (item.Thread found)) held c.in_ok-found.ensures.found in
    let passes = subst (λ (h : Held). None ≡ refusal_of_thread h.contents c.args.caller c.args.thread) held c.in_ok-found.ensures.exact in
    let there : slice_get (state_of b.machine).threads found.no.0 ≡ Some (flat_thread found) = c.known.ensures.found.threads found.no.0 ∙ ap thread_of (item_content (contents_of b) c.known.ensures.one c.args.thread (item.Thread found) its) in
    let waits = subst (λ (m : Cached). None ≡ not_waiting m.held.contents (flat_thread found)) c.machine-2.ensures c.in_ok-check_waiting.ensures in
    let next = c.in-Some.next in
    let is = next_is (state_of b.machine) found.no.0 (flat_thread found) next there c.in-Some.ensures in
    let rest : Option Refused = option_or (row_absent (contents_of b) next.fetch_row) (over b 1) in
    by_ending b c.args.caller c.args.thread found None passes its (by_next b (flat_thread found) next None waits is (first_passes (not_faulting next) rest None c.in_ok-check_faulting.ensures (first_passes (row_absent (contents_of b) next.fetch_row) (over b 1) None c.in_ok-check_fetch.ensures c.in_ok-check_steps.ensures)))

pub returns-clause-named : goal.returns-clause-named
returns-clause-named c =
    let b = c.args.core.now in
    let found = c.in_ok-found.found.now in
    let held : c.tables.result.now ≡ b.machine.held = c.tables.ensures.tables ∙ ap (λ (m : Cached). m.held) c.machine.ensures in
    let its = subst (λ (h : Held). item_as h.contents c.args.thread ≡ Some (item.Thread found)) held c.in_ok-found.ensures.found in
    item_resident (contents_of b) c.args.thread c.known.ensures.one (item.Thread found) its

pub returns-clause-faults : goal.returns-clause-faults
returns-clause-faults c =
    let b = c.args.core.now in
    let found = c.in_ok-found.found.now in
    let held : c.tables.result.now ≡ b.machine.held = c.tables.ensures.tables ∙ ap (λ (m : Cached). m.held) c.machine.ensures in
    let its = subst (λ (h : Held). item_as h.contents c.args.thread ≡ Some (item.Thread found)) held c.in_ok-found.ensures.found in
    let there : slice_get (state_of b.machine).threads found.no.0 ≡ Some (flat_thread found) = c.known.ensures.found.threads found.no.0 ∙ ap thread_of (item_content (contents_of b) c.known.ensures.one c.args.thread (item.Thread found) its) in
    let waits = subst (λ (m : Cached). None ≡ not_waiting m.held.contents (flat_thread found)) c.machine-2.ensures c.in_ok-check_waiting.ensures in
    let r = item_resident (contents_of b) c.args.thread c.known.ensures.one (item.Thread found) its in
    is_faulting b (flat_thread found) c.in-Some.next there c.in-Some.ensures (named_so (contents_of b) c.args.thread (name.Thread found.no) r) waits c.in_ok-check_faulting.ensures c.in_ok-check_fetch.ensures c.in_ok-check_steps.ensures
