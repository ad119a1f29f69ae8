use Rattle.sorted_list.proofs.SortedLemmas.{falls_below}
use Rattle.sorted_list.proofs.sorted.SortedList.count_below.Goals as goal

pub count_before-requires : goal.count_before-requires
count_before-requires g c = falls_below g.K.Ord.cmp g.met.K.Ord.total g.V.Ord.cmp c.self.inside.list.items c.self.invariant.rising c.args.key.now
