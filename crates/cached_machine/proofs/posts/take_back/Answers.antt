use Rattle.std.proofs.Common.{◌<◌, length, ap, ◌∙◌, arith}
use Rattle.board_laws.specs.desc_tables.specs.Tables.{Held}
use Rattle.cached_machine.proofs.BackLaws.{next_back, next_stands}
use Rattle.cached_machine.proofs.posts.take_back.Goals as goal

pub take_back_one-requires : goal.take_back_one-requires
take_back_one-requires c =
    let same = c.left_names.ensures ∙ ap (λ (h : Held). h.left) c.loop-i.invariant.only.rest in
    let low : c.loop-i.i < length c.left_names.result.now = omega (arith, ap length same, ap length c.left_names-i-end.ensures) in
    next_stands c.args.tables.now.left c.left_names.result.now c.loop-i.i _ c.args.tables.now c.loop-i.tables same low c.loop-i.invariant c.requires

pub loop-i-preserved : goal.loop-i-preserved
loop-i-preserved c =
    let same = c.left_names.ensures ∙ ap (λ (h : Held). h.left) c.loop-i.invariant.only.rest in
    let low : c.loop-i.i < length c.left_names.result.now = omega (arith, ap length same, ap length c.left_names-i-end.ensures) in
    next_back c.args.tables.now.left c.left_names.result.now c.loop-i.i _ c.args.tables.now c.loop-i.tables same low c.loop-i.invariant c.take_back_one.new.tables c.take_back_one.ensures
