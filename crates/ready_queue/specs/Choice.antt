-- The order in which waiting threads are chosen.
use Rattle.std.specs.Prelude.{◌≡◌, Bool, false, ◌&&◌, ◌||◌, ◌==◌, nat_lt, List, All, Contains}
use Rattle.cache_ident.specs.declared.names.ThreadNo.{ThreadNo}
use Rattle.ready_queue.specs.declared.Candidate.{Candidate}

-- the first is chosen before the second: it has the higher priority; or the same, and was checked out
-- longer ago; or both are equal, and it has the lower number
abbrev pub is_before : Candidate → Candidate → Bool
is_before a b =
    nat_lt b.priority a.priority
    || ((a.priority == b.priority)
    && (nat_lt a.last b.last || ((a.last == b.last) && nat_lt a.no.0 b.no.0)))

-- a candidate, before which none of the list is chosen
pub record IsBest (waiting : List Candidate) (c : Candidate) : Type 0 where
  pub waits : Contains waiting c
  pub first : All (λ other. is_before other c ≡ false) waiting

-- the thread of a best candidate
abbrev pub IsChosen : List Candidate → ThreadNo → Type 0
IsChosen waiting thread = (c : Candidate) × IsBest waiting c × (c.no ≡ thread)
