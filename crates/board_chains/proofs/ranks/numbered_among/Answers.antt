use Rattle.std.proofs.Common.{◌≡◌, ◌↔◌, false, List, Contains, sym, subst, ◌∙◌, arith}
use Rattle.std.proofs.lemmas.Option.{slice_get-get_or}
use Rattle.std.proofs.lemmas.List.{take_all}
use Rattle.cache_ident.specs.declared.names.Name.{Name}
use Rattle.cache_ident.specs.Names.{first_name}
use Rattle.board_chains.specs.Ranks.{is_row}
use Rattle.board_chains.proofs.ListLemmas.{apart_before}
use Rattle.board_chains.proofs.RankLemmas.{numbered_more, numbered_same}
use Rattle.board_chains.proofs.ranks.numbered_among.Goals.{then-not-is_row, else-not-is_row}
use Rattle.board_chains.proofs.ranks.numbered_among.Goals as goal

pub insert-requires-clause-fresh : goal.insert-requires-clause-fresh
insert-requires-clause-fresh c = λ there.
    let names = c.args.names.now in
    let at = c.loop-name.name-index in
    apart_before names at _ c.requires.apart (slice_get-get_or names at _ c.loop-name-test.true) ((c.loop-name.invariant.exact _).0 there).0

pub loop-name-preserved : goal.loop-name-preserved
loop-name-preserved c =
    let names = c.args.names.now in
    let loop = c.loop-name in
    elim c.if-not-is_row.branch [
      | then-not-is_row w ↦ rw w.numbered-is (record {
        order = w.insert.ensures.order;
        exact = numbered_more names loop.numbered.items w.insert.new.numbered.items loop.name-index first_name c.loop-name-test.true loop.invariant.exact (sym c.is_row.ensures ∙ w.if-not-is_row.true) w.insert.ensures.exact;
        few = let longer = w.insert.ensures.len in omega (arith, longer, loop.invariant.few);
      })
      | else-not-is_row w ↦ rw w.numbered-is (record {
        order = loop.invariant.order;
        exact = numbered_same names loop.numbered.items loop.numbered.items loop.name-index first_name c.loop-name-test.true loop.invariant.exact (sym c.is_row.ensures ∙ w.if-not-is_row.false);
        few = omega (arith, loop.invariant.few);
      })
    ]

pub returns-clause-exact : goal.returns-clause-exact
returns-clause-exact c = subst (λ (names : List Name). (name : Name) → Contains c.loop-name.numbered.items name ↔ (Contains names name × (is_row name ≡ false))) (take_all c.loop-name.name-index c.args.names.now c.loop-name-test.false) c.loop-name.invariant.exact
