use Rattle.std.proofs.Common.{ℕ, ◌+◌, ◌≤◌, ◌^◌, length, subst}
use Rattle.cache_ident.specs.declared.idents.Ident.{Ident}
use Rattle.board_laws.specs.depend_lists.specs.Pairs.{count_of}
use Rattle.board_laws.specs.desc_groups.specs.Moves.{HasPlaces}
use Rattle.board_laws.specs.desc_stores.specs.Contents.{residents_of}
use Rattle.cached_machine.specs.Cached.{Cached}
use Rattle.cached_machine.proofs.RoomLaws.{few_loaded}
use Rattle.cached_machine.proofs.machine.CachedMachine.tables_are_sound.Goals as goal

pub returns-clause-places : goal.returns-clause-places
returns-clause-places c = subst (λ (m : Cached). (root : Ident) (at : ℕ) → at + count_of m.held.caps ≤ 2 ^ 64 → HasPlaces m.held.contents root at) c.self.view_is c.are_sound.ensures.places

pub returns-clause-few : goal.returns-clause-few
returns-clause-few c =
    let h = c.self.inside.tables in
    subst (λ (m : Cached). length (residents_of m.held.contents) ≤ count_of m.held.caps) c.self.view_is (few_loaded h.caps h.contents c.are_sound.ensures.sound.0 c.are_sound.ensures.sound.1.whole)
