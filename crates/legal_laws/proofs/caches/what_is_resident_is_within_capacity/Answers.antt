use Rattle.legal_laws.proofs.Capacity.{slots_within, few_told}
use Rattle.legal_laws.proofs.caches.what_is_resident_is_within_capacity.Goals as goal

pub returns : goal.returns
returns c = record {
  slots = λ j r legal there. slots_within j legal r there;
  few = λ j kind legal. few_told j legal kind;
}
