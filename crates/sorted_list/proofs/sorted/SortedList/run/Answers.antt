use Rattle.std.proofs.Common.{refl, arith}
use Rattle.sorted_list.proofs.SortedLemmas.{falls_below, falls_upto, run_is}
use Rattle.sorted_list.proofs.sorted.SortedList.run.Goals as goal

pub count_before-begin-requires : goal.count_before-begin-requires
count_before-begin-requires g c = falls_below g.K.Ord.cmp g.met.K.Ord.total g.V.Ord.cmp c.self.inside.list.items c.self.invariant.rising c.args.key.now

pub count_before-end-requires : goal.count_before-end-requires
count_before-end-requires g c = falls_upto g.K.Ord.cmp g.met.K.Ord.total g.V.Ord.cmp c.self.inside.list.items c.self.invariant.rising c.args.key.now

pub new-requires-clause-order : goal.new-requires-clause-order
new-requires-clause-order g c =
    let found = run_is g.K.Ord.cmp g.met.K.Ord.total g.V.Ord.cmp c.self.inside.list.items c.self.invariant.rising c.args.key.now g.K.PartialEq.eq g.met.K.Ord.matches_eq in
    omega (arith, found.order, c.count_before-begin.ensures, c.count_before-end.ensures)

pub new-requires-clause-within : goal.new-requires-clause-within
new-requires-clause-within g c =
    let found = run_is g.K.Ord.cmp g.met.K.Ord.total g.V.Ord.cmp c.self.inside.list.items c.self.invariant.rising c.args.key.now g.K.PartialEq.eq g.met.K.Ord.matches_eq in
    omega (arith, found.within, c.count_before-end.ensures)

pub returns-clause-values : goal.returns-clause-values
returns-clause-values g c =
    let found = run_is g.K.Ord.cmp g.met.K.Ord.total g.V.Ord.cmp c.self.inside.list.items c.self.invariant.rising c.args.key.now g.K.PartialEq.eq g.met.K.Ord.matches_eq in
    rw (← c.self.view_is, c.new.ensures, c.count_before-begin.ensures, c.count_before-end.ensures, found.run) refl
