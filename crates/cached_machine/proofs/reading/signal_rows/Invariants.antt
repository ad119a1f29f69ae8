use Rattle.std.proofs.Common.{◌≡◌, filter_map}
use Rattle.cached_machine.proofs.ReadLaws.{row_in}
use Rattle.cached_machine.proofs.reading.signal_rows.Given as goal

-- the rows of the names before this one were found
abbrev pub invariant-loop-name : goal.invariant-loop-name
invariant-loop-name l = l.found.items ≡ filter_map (row_in l.tables.contents) l.yielded
