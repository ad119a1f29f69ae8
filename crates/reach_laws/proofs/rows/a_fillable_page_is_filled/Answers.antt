use Rattle.reach_laws.proofs.Filling.{fillable_after, noted_waits, row_filled, something_loads}
use Rattle.reach_laws.proofs.rows.a_fillable_page_is_filled.Goals as goal

pub returns : goal.returns
returns c = record { stays = fillable_after; noted = something_loads; waits = noted_waits; reached = row_filled }
