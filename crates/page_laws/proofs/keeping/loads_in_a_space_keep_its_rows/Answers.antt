use Rattle.page_laws.proofs.Kept.{keeps_further, keeps_kernel, keeps_room, keeps_same, keeps_space, keeps_thread}
use Rattle.page_laws.proofs.keeping.loads_in_a_space_keep_its_rows.Goals as goal

pub returns : goal.returns
returns c = record { same = keeps_same; further = keeps_further; room = keeps_room; kernel = keeps_kernel; space = keeps_space; thread = keeps_thread }
