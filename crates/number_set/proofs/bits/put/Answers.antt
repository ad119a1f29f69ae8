use Rattle.std.proofs.Common.{ap, ◌∙◌}
use Rattle.std.proofs.lemmas.List.{get_or_read}
use Rattle.number_set.specs.Bits.{has_bit}
use Rattle.number_set.proofs.WordLemmas.{put_others, put_there}
use Rattle.number_set.proofs.bits.put.Goals as goal

pub returns-clause-there : goal.returns-clause-there
returns-clause-there c = put_there c.args.words.now.items c.args.number c.with_bit.result c.args.on c.requires c.with_bit.ensures.there

pub returns-clause-others : goal.returns-clause-others
returns-clause-others c =
    let words = c.args.words.now.items in
    put_others words c.args.number c.with_bit.result c.requires (λ place apart. c.with_bit.ensures.others place apart ∙ ap (λ word. has_bit word place) (get_or_read words _ c.index.result.now c.requires c.index.ensures 0))
