use Rattle.std.specs.Map.{values_of}
use Rattle.row_table.proofs.SoundnessLemmas.{IsSound-map}
use Rattle.row_table.proofs.table.RowTable.mark.Goals as goal

pub invariant_of-self : goal.invariant_of-self
invariant_of-self c =
    rw (c.mark.ensures, c.new.ensures)
    (IsSound-map (values_of c.self.inside.rows) c.self.inside.signals c.args.space c.args.vpn.0 c.args.written c.self.invariant)
