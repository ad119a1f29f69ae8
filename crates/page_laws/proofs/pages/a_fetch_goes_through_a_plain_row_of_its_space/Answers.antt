use Rattle.page_laws.proofs.Filled.{fetched_plain, fetched_space}
use Rattle.page_laws.proofs.pages.a_fetch_goes_through_a_plain_row_of_its_space.Goals as goal

pub returns : goal.returns
returns c = record { space = fetched_space; plain = fetched_plain }
