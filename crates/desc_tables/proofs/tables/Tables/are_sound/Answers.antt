use Rattle.std.proofs.Common.{ℕ, ◌+◌, ◌≤◌, ◌^◌, subst, arith}
use Rattle.cache_ident.specs.declared.idents.Ident.{Ident}
use Rattle.depend_lists.specs.Pairs.{count_of}
use Rattle.desc_groups.specs.Moves.{HasPlaces}
use Rattle.desc_groups.proofs.PlaceLemmas.{there_are_places}
use Rattle.desc_tables.specs.Tables.{Held}
use Rattle.desc_tables.proofs.Limits.{few_residents}
use Rattle.desc_tables.proofs.tables.Tables.are_sound.Goals as goal

-- there are no more groups' departures than what the capacities allow
pub returns-clause-places : goal.returns-clause-places
returns-clause-places c =
    let whole = c.self.invariant.0.whole in
    let few = few_residents _ _ _ whole in
    subst (λ (h : Held). (root : Ident) (at : ℕ) → at + count_of h.caps ≤ 2 ^ 64 → HasPlaces h.contents root at) c.self.view_is (λ root at low. there_are_places _ _ _ whole root at (omega (arith, few, low)))
