use Rattle.store_residents.proofs.FrameLemmas.{rows_on_frame}
use Rattle.store_residents.proofs.laws.rows_of_a_frame_are_residents.Goals as goal

pub returns : goal.returns
returns c = λ contents frame message ident one. rows_on_frame contents one frame message ident
