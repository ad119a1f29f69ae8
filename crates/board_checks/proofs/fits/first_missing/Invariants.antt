use Rattle.std.proofs.Common.{◌≡◌, find, None}
use Rattle.board_checks.specs.Facts.{is_missing}
use Rattle.board_checks.proofs.fits.first_missing.Given as goal

-- none of those before this one is missing
abbrev pub invariant-loop-name : goal.invariant-loop-name
invariant-loop-name l = find (is_missing l.tables.contents) l.yielded ≡ None
