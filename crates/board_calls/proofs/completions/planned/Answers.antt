use Rattle.std.proofs.Common.{◌≡◌, ◌<◌, true, [], length, Some, sym, ◌∙◌, ap, subst}
use Rattle.flat_state.specs.declared.events.Event.TheVariants.{Complete}
use Rattle.flat_state.specs.Call.{is_completable}
use Rattle.flat_state.specs.Events.{applied}
use Rattle.flat_rules.specs.Readings.{OfThread}
use Rattle.board_core.specs.flat_events.specs.declared.asked.Asked.TheVariants.{Nothing}
use Rattle.board_core.specs.flat_events.specs.Asked.{asked_of}
use Rattle.board_checks.specs.desc_stores.specs.declared.items.Item.TheVariants as item
use Rattle.board_checks.specs.desc_stores.specs.Contents.{item_as, residents_of}
use Rattle.board_checks.specs.desc_tables.specs.Tables.{Held}
use Rattle.board_core.specs.cached_machine.specs.Cached.{state_of, Cached}
use Rattle.board_calls.specs.Leaving.{AreBad}
use Rattle.board_calls.proofs.CompletionLaws.{some_loaded, thread_completable, thread_resident, thread_within}
use Rattle.board_calls.proofs.completions.planned.Goals as goal

pub leaving-requires-clause-there : goal.leaving-requires-clause-there
leaving-requires-clause-there c =
    let a = c.args.core.now in
    let found = c.in_ok-no.field-0.now in
    let its = subst (λ (h : Held). item_as h.contents c.args.thread ≡ Some (item.Thread found)) (c.tables.ensures.tables ∙ ap (λ (m : Cached). m.held) c.machine.ensures) c.in_ok-no.ensures.found in
    subst (λ (m : Cached). found.no.0 < length (state_of m).threads) (sym c.machine-2.ensures) (thread_within a c.known.ensures.whole c.args.thread found its)

pub leaving-requires-clause-completable : goal.leaving-requires-clause-completable
leaving-requires-clause-completable c =
    let a = c.args.core.now in
    let found = c.in_ok-no.field-0.now in
    let its = subst (λ (h : Held). item_as h.contents c.args.thread ≡ Some (item.Thread found)) (c.tables.ensures.tables ∙ ap (λ (m : Cached). m.held) c.machine.ensures) c.in_ok-no.ensures.found in
    subst (λ (m : Cached). OfThread (state_of m) found.no.0 (λ t. is_completable t ≡ true)) (sym c.machine-2.ensures)
    (thread_completable a c.known.ensures.whole c.args.thread found its c.in_ok-no.ensures.completable)

pub returns-clause-planned : goal.returns-clause-planned
returns-clause-planned c =
    let a = c.args.core.now in
    let found = c.in_ok-no.field-0.now in
    let its = subst (λ (h : Held). item_as h.contents c.args.thread ≡ Some (item.Thread found)) (c.tables.ensures.tables ∙ ap (λ (m : Cached). m.held) c.machine.ensures) c.in_ok-no.ensures.found in
    let idents = c.in_ok-idents.idents.items in
    record {
      its = thread_resident a c.known.ensures.whole c.args.thread found its;
      sealed = c.known.ensures.sealed (some_loaded a c.known.ensures.whole c.args.thread found its);
      completable = thread_completable a c.known.ensures.whole c.args.thread found its c.in_ok-no.ensures.completable;
      bad = subst (λ (m : Cached). AreBad (applied (state_of m) (Complete found.no)) (residents_of m.held.contents) idents) c.machine-2.ensures c.in_ok-idents.ensures.bad;
      ordered = c.in_ok-idents.ensures.ordered;
      quiet = subst (λ (m : Cached). OfThread (state_of m) found.no.0 (λ t. asked_of (state_of m) t ≡ Nothing → idents ≡ [])) c.machine-2.ensures c.in_ok-idents.ensures.quiet;
    }
