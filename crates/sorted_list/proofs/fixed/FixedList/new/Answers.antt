use Rattle.std.proofs.Common.{refl, arith}
use Rattle.sorted_list.proofs.FixedLemmas.{sound_empty}
use Rattle.sorted_list.proofs.fixed.FixedList.new.Goals as goal

pub invariant_of-result : goal.invariant_of-result
invariant_of-result g c =
    let nodes = c.in_ok-nodes.ensures in
    let spare = c.in_ok-spare.ensures in
    (sound_empty c.args.room c.in_ok-nodes.nodes.items c.in_ok-spare.spare.items (omega arith) nodes.items spare.items, omega (arith, nodes.capacity), omega (arith, spare.capacity))

pub returns : goal.returns
returns g c = refl
