-- What an identifier stands for, and why it is refused.
use Rattle.std.specs.Prelude.{if◌then◌else◌, Option, Some, None}
use Rattle.std.specs.Option.{option_map, option_or}
use Rattle.cache_ident.specs.declared.idents.Ident.{Ident}
use Rattle.cache_ident.specs.declared.idents.Kind.{Kind}
use Rattle.cache_ident.specs.declared.idents.Kind.TheVariants as kind
use Rattle.cache_ident.specs.declared.idents.Standing.{Standing}
use Rattle.cache_ident.specs.declared.idents.Standing.TheVariants.{Live, Left, Never}
use Rattle.cache_ident.specs.declared.names.KernelNo.{KernelNo}
use Rattle.cache_ident.specs.declared.names.SpaceNo.{SpaceNo}
use Rattle.cache_ident.specs.declared.names.Name.{Name}
use Rattle.cache_ident.specs.declared.names.Name.TheVariants as name
use Rattle.cache_ident.specs.Rolls.{standing_in}
use Rattle.desc_tables.specs.run_journal.specs.Legal.{is_kind}
use Rattle.desc_tables.specs.desc_stores.specs.declared.items.Item.{Item}
use Rattle.desc_tables.specs.desc_stores.specs.declared.items.Item.TheVariants as item
use Rattle.desc_tables.specs.desc_stores.specs.Contents.{item_as, Contents}
use Rattle.desc_tables.specs.desc_stores.specs.Items.{name_of}
use Rattle.desc_tables.specs.shown_state.specs.Shown.{thread_of}
use Rattle.board_ops.specs.flat_state.specs.declared.records.FlatThread.{FlatThread}
use Rattle.board_ops.specs.declared.refusals.Refused.{Refused}
use Rattle.board_ops.specs.declared.refusals.Refused.TheVariants as why

-- ---- what is loaded with an identifier

-- its name
unfoldable pub name_as : Contents → Ident → Option Name
name_as c ident = option_map name_of (item_as c ident)

-- the number of a kernel, if that is one
abbrev pub kernel_number : Option Item → Option KernelNo
kernel_number (Some (item.Kernel kernel)) = Some kernel.no
kernel_number _ = None

unfoldable pub kernel_as : Contents → Ident → Option KernelNo
kernel_as c ident = kernel_number (item_as c ident)

-- the number of a space, if that is one
abbrev pub space_number : Option Item → Option SpaceNo
space_number (Some (item.Space space)) = Some space.no
space_number _ = None

unfoldable pub space_as : Contents → Ident → Option SpaceNo
space_as c ident = space_number (item_as c ident)

-- what a thread shows, if that is one
unfoldable pub thread_as : Contents → Ident → Option FlatThread
thread_as c ident = thread_of (item_as c ident)

-- the name of a receiver, if one is given
abbrev pub receiver_as : Contents → Option Ident → Option Name
receiver_as c None = None
receiver_as c (Some ident) = option_map (λ t. name.Thread t.no) (thread_as c ident)

-- ---- why it is refused

-- an identifier was never issued, or what had it has left its cache
abbrev pub gone_by : Ident → Standing → Option Refused
gone_by ident Live = None
gone_by ident (Left at) = Some (why.Stale ident at)
gone_by ident Never = Some (why.Unknown ident)

unfoldable pub not_live : Contents → Ident → Option Refused
not_live c ident = gone_by ident (standing_in c.issued ident)

-- it is of another kind
unfoldable pub wrong_kind : Kind → Ident → Option Refused
wrong_kind kind ident = if is_kind ident.kind kind then None else Some (why.WrongKind ident)

-- it is none of something loaded of the kind
abbrev pub not_a : Kind → Contents → Ident → Option Refused
not_a kind c ident = option_or (not_live c ident) (wrong_kind kind ident)

-- a receiver, if one is given, is a loaded thread
abbrev pub not_a_receiver : Contents → Option Ident → Option Refused
not_a_receiver c None = None
not_a_receiver c (Some ident) = not_a kind.Thread c ident
