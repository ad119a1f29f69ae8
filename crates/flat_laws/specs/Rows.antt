-- What an event keeps of a row, and whom a frame's rows name.
use Rattle.std.specs.Prelude.{◌≡◌, List, Option}
use Rattle.std.specs.List.{filter_map}
use Rattle.std.specs.Option.{option_map}
use Rattle.cache_ident.specs.declared.names.ThreadNo.{ThreadNo}
use Rattle.cache_ident.specs.declared.names.Vpn.{Vpn}
use Rattle.phys_groups.specs.declared.rows.Row.{Row}

-- the row as it was, but for its bits: of the same space, page, frame and flags, with the same receiver
abbrev pub IsButForBits : Row → Row → Type 0
IsButForBits before after = after ≡ record before { referenced = after.referenced; modified = after.modified }

-- the receiver of a row, with the row's page
abbrev pub receiver_with_page : Row → Option (ThreadNo × Vpn)
receiver_with_page row = option_map (λ thread. (thread, row.vpn)) row.receiver

-- the receivers of some rows, each with its row's page
abbrev pub receivers_among : List Row → List (ThreadNo × Vpn)
receivers_among rows = filter_map receiver_with_page rows
