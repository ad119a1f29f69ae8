use Rattle.reach_laws.proofs.Loading.{kernel_got}
use Rattle.reach_laws.proofs.loads.a_kernel_is_got.Goals as goal

pub returns : goal.returns
returns c = kernel_got
