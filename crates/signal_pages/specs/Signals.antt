-- Who receives a signal, what it receives, and who has no room for it.
use Rattle.std.specs.Prelude.{ℕ, ◌+◌, ◌-◌, ◌*◌, ◌%◌, Bool, not, ◌&&◌, ◌==◌, nat_lt, is_some, if◌then◌else◌, List, [], ◌∷◌, ◌++◌, count_by, Option, Some, None, option_to_list}
use Rattle.std.specs.Option.{option_map}
use Rattle.cache_ident.specs.declared.names.Frame.{Frame}
use Rattle.cache_ident.specs.declared.names.ThreadNo.{ThreadNo}
use Rattle.cache_ident.specs.declared.names.Vpn.{Vpn}
use Rattle.phys_groups.specs.declared.rows.Row.{Row}

-- the offset is that of the last word of a message slot of 64 bytes
abbrev pub is_signalling : ℕ → Bool
is_signalling offset = offset % 64 == 60

-- the address of the message slot in a receiver's page
abbrev pub address_of : Vpn → ℕ → ℕ
address_of vpn offset = 4096 * vpn.0 + (offset - 60)

-- the row is one of the frame and has a receiver
abbrev pub is_signal_row_of : Frame → Row → Bool
is_signal_row_of frame row = (row.frame.0 == frame.0) && is_some row.receiver

-- the receiver that the row is for, with its page, if it is a fit row of the frame
abbrev pub receiver_of : Frame → Row → Bool → Option (ThreadNo × Vpn)
receiver_of frame row fit = if (row.frame.0 == frame.0) && fit then option_map (λ thread. (thread, row.vpn)) row.receiver else None

-- the receivers of a frame, in the order of the rows, of each of which it is told whether it is fit
abbrev pub receivers_in : Frame → List Row → List Bool → List (ThreadNo × Vpn)
receivers_in frame [] fits = []
receivers_in frame (row ∷ rows) [] = []
receivers_in frame (row ∷ rows) (fit ∷ fits) = option_to_list (receiver_of frame row fit) ++ receivers_in frame rows fits

-- how many times a thread stands in a list
abbrev pub times_in : List ThreadNo → ThreadNo → ℕ
times_in to thread = count_by (λ other. other.0 == thread.0) to

-- a queue of that length would pass 64 addresses, if its thread, which stands among the receivers, got
-- one each time; a thread that has ended gets none
abbrev pub would_pass : List ThreadNo → ThreadNo → ℕ → Bool → Bool
would_pass to thread length ended = not ended && nat_lt 64 (length + times_in to thread)

-- the first of the threads whose queue would pass 64, if all receivers got their addresses
abbrev pub room_in : List ThreadNo → List ℕ → List Bool → List ThreadNo → Option ThreadNo
room_in to lengths ended [] = None
room_in to [] ended (thread ∷ threads) = None
room_in to (length ∷ lengths) [] (thread ∷ threads) = None
room_in to (length ∷ lengths) (end ∷ ended) (thread ∷ threads) = if would_pass to thread length end then Some thread else room_in to lengths ended threads
