-- What refusals tell of the space of a thread.
use Rattle.std.specs.Prelude.{◌≡◌, Option, Some, None, slice_get}
use Rattle.cache_ident.specs.declared.names.Name.TheVariants.{Space}
use Rattle.cache_ident.specs.declared.names.SpaceNo.{SpaceNo}
use Rattle.board_calls.specs.board_ops.specs.declared.refusals.Refused.{Refused}
use Rattle.board_calls.specs.board_ops.specs.declared.refusals.Refused.TheVariants.{NotOwner, WrongParent}
use Rattle.owner_laws.specs.owners.specs.Known.{home_of, Known}

-- the space that a refusal tells, or one of the kernel that it tells
abbrev pub space_told : Known → Refused → Option SpaceNo
space_told o (NotOwner given owner) = home_of o owner
space_told o (WrongParent given (Some (Space space))) = Some space
space_told o _ = None

-- The next space that is tried is one of the right kernel; where the one before was so already, it is the right space.
pub record IsNearer (o : Known) (its tried next : SpaceNo) : Type 0 where
  pub kernel : slice_get o.spaces next.0 ≡ slice_get o.spaces its.0
  pub space : slice_get o.spaces tried.0 ≡ slice_get o.spaces its.0 → next ≡ its
