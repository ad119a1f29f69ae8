use Rattle.std.proofs.Common.{◌≡◌, sym, subst, ◌∙◌, rules}
use Rattle.std.specs.List.Sorted.{IsPermutation, IsSortedBy}
use Rattle.std.proofs.lemmas.List.Sorted.{answers_always}
use Rattle.arrayvec.proofs.ArrayVecLemmas.{items-with_items}
use Rattle.ready_queue.specs.Choice.{is_before}
use Rattle.board_threads.proofs.CandidateLemmas.{choice_ranks, chosen_among, nobody_waits}
use Rattle.board_threads.proofs.checkouts.next_in_order.Goals as goal

pub first_runnable-requires : goal.first_runnable-requires
first_runnable-requires c =
    let sort = c.sort_unstable_by in
    let same : c.deref.result.now ≡ sort.new.self = c.deref.ensures.0 ∙ items-with_items c.candidates-waiting.result sort.new.self (search rules) in
    record { sorted = subst (IsSortedBy is_before) (sym same) (sort.ensures.sorted is_before choice_ranks (answers_always _ _ _ (λ f a r h called. search rules))) }

pub returns : goal.returns
returns c =
    let sort = c.sort_unstable_by in
    let same : c.deref.result.now ≡ sort.new.self = c.deref.ensures.0 ∙ items-with_items c.candidates-waiting.result sort.new.self (search rules) in
    let moved : IsPermutation c.candidates-waiting.result.items c.deref.result.now = rw same (rw c.deref_mut.ensures.value at sort.ensures.permutation) in
    record {
      chosen = chosen_among c.args.core.now c.candidates-waiting.result.items c.deref.result.now c.candidates-waiting.ensures moved c.first_runnable.result c.first_runnable.ensures.first;
      nobody = nobody_waits c.args.core.now c.candidates-waiting.result.items c.deref.result.now c.candidates-waiting.ensures moved c.first_runnable.result c.first_runnable.ensures.none;
    }
