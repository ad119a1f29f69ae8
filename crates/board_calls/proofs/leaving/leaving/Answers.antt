use Rattle.std.proofs.Common.{rules, ◌∙◌, subst}
use Rattle.std.proofs.lemmas.List.Sorted.{answers_always, Contains-permutation, IsNonDecreasingBy-from_sort, IsPermutation-sym}
use Rattle.cache_ident.specs.declared.idents.Ident.{Ident}
use Rattle.board_core.specs.flat_events.specs.declared.asked.Asked.{Asked}
use Rattle.board_core.specs.cached_machine.specs.Cached.{state_of}
use Rattle.board_core.specs.cached_machine.proofs.CompleteLaws.{found_at}
use Rattle.board_calls.specs.Leaving.{GoesFor}
use Rattle.board_calls.proofs.BadLaws.{all_bad}
use Rattle.board_calls.proofs.LoopLaws.{adds_to_nothing, nothing_in}
use Rattle.board_calls.proofs.leaving.leaving.Goals as goal

pub returns-clause-bad : goal.returns-clause-bad
returns-clause-bad c =
    let m = c.args.machine.now in
    let s = state_of m in
    let known = c.known.ensures in
    let t = found_at s.threads c.args.no.0 c.requires.there in
    let added = adds_to_nothing (GoesFor m c.asks-asked.result) c.new-idents.result.items c.add_for.new.idents.items c.new-idents.ensures.items c.in_ok-add_for.ensures in
    all_bad m known.one known.good known.formed c.args.no t.0 c.asks-asked.result c.asks-asked.ensures.can_be_done (c.asks-asked.ensures.comes_of_it t.0 t.1) c.sort_unstable_by_key.new.self.items (λ (i : Ident). (
      λ there. (added i).0 (Contains-permutation c.sort_unstable_by_key.new.self.items c.add_for.new.idents.items i (IsPermutation-sym c.add_for.new.idents.items c.sort_unstable_by_key.new.self.items c.sort_unstable_by_key.ensures.permutation) there),
      λ goes. Contains-permutation c.add_for.new.idents.items c.sort_unstable_by_key.new.self.items i c.sort_unstable_by_key.ensures.permutation ((added i).1 goes),
    ))

pub returns-clause-ordered : goal.returns-clause-ordered
returns-clause-ordered c = IsNonDecreasingBy-from_sort (λ (i : Ident). i.serial) _ (c.sort_unstable_by_key.ensures.sorted (λ (i : Ident). i.serial) (answers_always _ _ _ (λ f a r g h. search rules)))

pub returns-clause-quiet : goal.returns-clause-quiet
returns-clause-quiet c = λ t here nothing.
    let m = c.args.machine.now in
    let is = c.asks-asked.ensures.asked t here ∙ nothing in
    let added = adds_to_nothing (GoesFor m c.asks-asked.result) c.new-idents.result.items c.add_for.new.idents.items c.new-idents.ensures.items c.in_ok-add_for.ensures in
    nothing_in c.sort_unstable_by_key.new.self.items (λ i there.
    let p = c.sort_unstable_by_key.ensures.permutation in
    let goes : GoesFor m c.asks-asked.result i = (added i).0 (Contains-permutation c.sort_unstable_by_key.new.self.items c.add_for.new.idents.items i (IsPermutation-sym c.add_for.new.idents.items c.sort_unstable_by_key.new.self.items p) there) in
    subst (λ (a : Asked). GoesFor m a i) is goes)
