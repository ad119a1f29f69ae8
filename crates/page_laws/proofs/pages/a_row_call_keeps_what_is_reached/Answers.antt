use Rattle.page_laws.proofs.Filled.{reached_after_row}
use Rattle.page_laws.proofs.pages.a_row_call_keeps_what_is_reached.Goals as goal

pub returns : goal.returns
returns c = reached_after_row
