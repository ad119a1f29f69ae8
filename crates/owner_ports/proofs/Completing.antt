-- A completion that isn't refused is of a call that can be completed.
use Rattle.std.proofs.Common.{◌≡◌, Bool, true, false, not, Option, Some, None, slice_get, refl, ap, ◌∙◌}
use Rattle.std.specs.Prelude.{if◌then◌else◌, ◌&&◌}
use Rattle.std.specs.Option.{option_or}
use Rattle.cache_ident.specs.declared.idents.Ident.{Ident}
use Rattle.cache_ident.specs.declared.idents.Kind.TheVariants as kind
use Rattle.cache_ident.specs.declared.names.Name.TheVariants as name
use Rattle.cache_ident.specs.declared.names.ThreadNo.{ThreadNo}
use Rattle.cache_ident.specs.Residents.{IsResident}
use Rattle.left_laws.specs.flat_state.specs.declared.records.FlatThread.{FlatThread}
use Rattle.left_laws.specs.flat_state.specs.Call.{has_nothing_to_take, is_completable}
use Rattle.left_laws.specs.flat_state.specs.State.{is_trapped}
use Rattle.cache_board.specs.board_core.specs.Core.{contents_of, IsSound, Recorded}
use Rattle.left_laws.specs.desc_stores.specs.Contents.{residents_of}
use Rattle.left_laws.specs.desc_stores.specs.declared.items.Item.TheVariants as item
use Rattle.left_laws.specs.shown_state.specs.Shown.{flat_thread, shown, thread_of}
use Rattle.left_laws.specs.shown_state.proofs.LookupLemmas.{found_thread}
use Rattle.cache_board.specs.board_checks.specs.Identifiers.{not_a}
use Rattle.cache_board.specs.board_checks.specs.Refusals.{not_completable, not_owned_as, not_trapped, refusal_of_complete, wait_empty}
use Rattle.cache_board.specs.board_checks.proofs.IdentifierLemmas.{call_tested}
use Rattle.cache_board.specs.board_threads.proofs.IdentLemmas.{content_named, record_named}
use Rattle.cache_board.specs.board_ops.specs.declared.refusals.Refused.{Refused}
use Rattle.cache_board.specs.board_ops.specs.declared.refusals.Refused.TheVariants as why
use Rattle.cache_board.specs.cached_machine.specs.Cached.{state_of}

-- where none of the tests fails the last doesn't
last_passes : (a b c d : Option Refused) → option_or a (option_or b (option_or c d)) ≡ None → d ≡ None
last_passes None None None d passes = passes
last_passes None None (Some c) d passes = absurd (cc)
last_passes None (Some b) c d passes = absurd (cc)
last_passes (Some a) b c d passes = absurd (cc)

completes : (t : FlatThread) → option_or (not_trapped t) (wait_empty t) ≡ None → is_completable t ≡ true
completes t passes = by (is_trapped t.status) (has_nothing_to_take t) passes
  where
    by : (b w : Bool) → option_or (if b then None else Some (why.NotTrapped t.status)) (if w then Some (why.WaitEmpty t.no) else None) ≡ None → (b && not (b && w)) ≡ true
    by true false passes = refl
    by true true passes = absurd (cc)
    by false w passes = absurd (cc)

pub completable_of : (b : Recorded) → IsSound b → (caller ident : Ident) (thread : ThreadNo) → IsResident (residents_of (contents_of b)) ident (name.Thread thread) → refusal_of_complete (contents_of b) caller ident ≡ None
    → (t : FlatThread) × (slice_get (state_of b.machine).threads thread.0 ≡ Some t) × (is_completable t ≡ true)
unfolding shown
completable_of b sound caller ident thread q passes =
    let c = contents_of b in
    let one = sound.tables.1.whole.one in
    let rec = record_named c one ident thread q in
    let content = content_named c one ident (name.Thread thread) q (item.Thread rec.0) rec.1 in
    let last : not_completable c ident ≡ None = last_passes (not_a kind.Kernel c caller) (not_a kind.Thread c ident) (not_owned_as c caller ident) (not_completable c ident) passes in (
      flat_thread rec.0,
      found_thread (Some b.machine.machine) b.machine.memory c one thread.0 ∙ ap thread_of content,
      completes (flat_thread rec.0) (call_tested c ident rec.0 rec.1 ∙ last),
    )
