use Rattle.desc_groups.proofs.PlaceLemmas as lemma
use Rattle.desc_groups.proofs.places.there_are_places.Goals as goal

-- src/places.rt:12:1
pub returns : goal.returns
returns c = lemma.there_are_places
