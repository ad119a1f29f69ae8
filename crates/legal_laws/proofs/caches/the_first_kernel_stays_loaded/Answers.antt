use Rattle.std.proofs.Common.{refl}
use Rattle.legal_laws.proofs.FirstStays.{first_stays}
use Rattle.legal_laws.proofs.caches.the_first_kernel_stays_loaded.Goals as goal

pub returns : goal.returns
returns c = record {
  resident = λ j legal sealed. (_, first_stays j legal sealed, refl, refl);
  locked = first_stays;
}
