use Rattle.std.proofs.Common.{arith}
use Rattle.image_decls.proofs.Sized.{placed, total, whole}
use Rattle.image_decls.proofs.images.image_decls.Goals as goal

pub push_all_rows-requires-clause-few : goal.push_all_rows-requires-clause-few
push_all_rows-requires-clause-few c = let few = total c.args.bytes.now c.in_ok-image.image c.in_ok-image.ensures.found in omega (arith, few, c.requires)

pub push_all_words-requires-clause-placed : goal.push_all_words-requires-clause-placed
push_all_words-requires-clause-placed c = placed c.args.bytes.now c.in_ok-image.image.parts c.in_ok-image.ensures.within

pub push_all_words-requires-clause-few : goal.push_all_words-requires-clause-few
push_all_words-requires-clause-few c = let few = total c.args.bytes.now c.in_ok-image.image c.in_ok-image.ensures.found in omega (arith, few, c.requires)

pub returns-clause-found : goal.returns-clause-found
returns-clause-found c =
    (c.in_ok-image.ensures.found.whole, whole c.args.bytes.now c.args.space c.args.frame.0 c.args.thread c.in_ok-image.image c.new-decls.result.items c.push_all_rows.new.decls.items c.push_all_words.new.decls.items c.push.new.self.items c.entry.result c.in_ok-image.ensures.found c.new-decls.ensures.items c.in_ok-push_all_rows.ensures c.in_ok-push_all_words.ensures c.entry.ensures c.in_ok-push.ensures.items)
