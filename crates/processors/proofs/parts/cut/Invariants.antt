use Rattle.std.proofs.Common.{◌≡◌, ◌+◌, ◌<◌, ◌≤◌, vec_len, vec_capacity}
use Rattle.std.specs.List.{AllByRecursion}
use Rattle.turn_lock.specs.Lists.{numbers}
use Rattle.turn_lock.specs.Passes.{IsPassOf, first_of, end_of, seen_of}
use Rattle.processors.specs.Parts.{AreParts}
use Rattle.processors.proofs.parts.cut.Given as goal

abbrev pub invariant-loop-next : goal.invariant-loop-next
invariant-loop-next g l = IsPassOf l.lock l.rest × (first_of l.rest + 1 ≡ l.next) × (end_of l.rest ≡ numbers) × (seen_of l.rest ≡ seen_of l.fn.pass)
    × AreParts l.lock 0 (first_of l.rest) l.parts.items
    × AllByRecursion (λ part. first_of part < l.count) l.parts.items
    × AllByRecursion (λ part. seen_of part ≡ seen_of l.fn.pass) l.parts.items
    × (vec_len l.parts + 1 ≡ l.next) × (l.count ≤ vec_capacity l.parts)
