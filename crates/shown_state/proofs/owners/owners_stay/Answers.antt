use Rattle.shown_state.proofs.OwnerLemmas.{owners_declared, owners_kernel, owners_mark, owners_retracted, owners_row, owners_thread}
use Rattle.shown_state.proofs.owners.owners_stay.Goals as goal

pub returns : goal.returns
returns c = record {
  declared = λ s content. owners_declared s content;
  kernel = λ s kernel. owners_kernel s kernel;
  thread = λ s thread was at same. owners_thread s thread was at same;
  row = λ s row. owners_row s row;
  mark = λ s space vpn written. owners_mark s space vpn written;
  retracted = λ s space vpn. owners_retracted s space vpn;
}
