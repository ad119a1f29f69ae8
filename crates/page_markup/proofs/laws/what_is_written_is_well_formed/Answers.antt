use Rattle.page_markup.proofs.Formed.{elements_are_content, group_is_content}
use Rattle.page_markup.proofs.laws.what_is_written_is_well_formed.Goals as goal

pub returns : goal.returns
returns c = record { elements = elements_are_content; groups = group_is_content }
