use Rattle.sorted_list.proofs.TreeLemmas.{put_keeps}
use Rattle.sorted_list.proofs.nodes.put.Goals as goal

pub returns-clause-kept : goal.returns-clause-kept
returns-clause-kept g c = λ before behind joins. put_keeps c.args.nodes.now c.args.seat c.args.node before behind c.requires.seat joins
