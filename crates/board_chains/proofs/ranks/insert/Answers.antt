use Rattle.std.proofs.Common.{◌≡◌, List, slice_get, Contains, Some, sym, subst, inl, inr, ◌∙◌, arith}
use Rattle.std.proofs.lemmas.Bool.{false≢true}
use Rattle.cache_ident.specs.declared.names.Name.{Name}
use Rattle.board_chains.specs.Ranks.{IsBefore}
use Rattle.board_chains.proofs.RankLemmas.{insert_cases, insert_order, insert_stays, insert_there, next_is_behind, none_behind}
use Rattle.board_chains.proofs.ranks.insert.Goals.{then-loop-at-test+else-is_before, else-loop-at-test}
use Rattle.board_chains.proofs.ranks.insert.Goals as goal

pub returns-clause-order : goal.returns-clause-order
returns-clause-order c =
    let names = c.args.numbered.now.items in
    let at = c.loop-at.at in
    let behind : (other : Name) → slice_get names at ≡ Some other → IsBefore c.args.name other = elim c.loop-at-test.branch [
      | then-loop-at-test+else-is_before w ↦
          let found : slice_get names at ≡ Some w.name_at.result = subst (λ (xs : List Name). slice_get xs at ≡ Some w.name_at.result) w.as_slice.ensures.value w.name_at.ensures in
          next_is_behind names c.args.name c.requires.plain c.requires.fresh at w.name_at.result found (λ before. false≢true (sym w.if-is_before.false ∙ w.is_before.ensures.1 before))
      | else-loop-at-test w ↦ none_behind names c.args.name at (omega (arith, w.loop-at-test.false, c.len.ensures.value))
    ] in
    rw c.insert.ensures.items (insert_order names at c.args.name c.requires.order c.loop-at.invariant.before behind c.loop-at.invariant.within)

pub returns-clause-exact : goal.returns-clause-exact
returns-clause-exact c other = (
  λ there. insert_cases c.args.numbered.now.items c.loop-at.at c.args.name other (rw c.insert.ensures.items at there),
  λ either. rw c.insert.ensures.items (elim either [
    | inl before ↦ insert_stays c.args.numbered.now.items c.loop-at.at c.args.name other before
    | inr same ↦ subst (Contains _) same (insert_there c.args.numbered.now.items c.loop-at.at c.args.name)
  ]),
)
