use Rattle.std.proofs.Common.{sym, ◌∙◌}
use Rattle.std.proofs.lemmas.Map.Text.{btree_map_updates_str}
use Rattle.rv32_asm.specs.Labels.{marks_of}
use Rattle.rv32_asm.proofs.Marks.{bound}
use Rattle.rv32_asm.proofs.labels.define.Goals as goal

pub returns-in_ok-insert-clause-bound : goal.returns-in_ok-insert-clause-bound
returns-in_ok-insert-clause-bound c q =
    bound c.args.name.now q (marks_of c.args.labels.now) (marks_of c.insert.new.self q) c.args.at (btree_map_updates_str c.args.name.now c.args.labels.now c.insert.new.self _ c.in_ok-insert.ensures.updates q) (sym c.contains_key.ensures ∙ c.if-not-contains_key.true)
