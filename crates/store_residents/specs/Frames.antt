-- Which residents are rows of a frame.
use Rattle.std.specs.Prelude.{◌≡◌, Bool, Contains, Some}
use Rattle.cache_ident.specs.declared.idents.Ident.{Ident}
use Rattle.cache_ident.specs.declared.names.Frame.{Frame}
use Rattle.cache_ident.specs.Residents.{Resident}
use Rattle.phys_groups.specs.declared.rows.Row.{Row}
use Rattle.desc_stores.specs.declared.items.Item.TheVariants as item
use Rattle.desc_stores.specs.Contents.{content_of, residents_of, Contents}

-- the identifier is that of a resident whose content is a row of the frame, which is a message row or isn't, as is said
pub record IsResidentOn (c : Contents) (frame : Frame) (message : Bool) (ident : Ident) : Type 0 where
  pub resident : Resident
  pub there : Contains (residents_of c) resident
  pub own : resident.ident ≡ ident
  pub row : Row
  pub content : content_of c resident.name ≡ Some (item.Mapping row)
  pub on : row.frame ≡ frame
  pub flag : row.flags.m ≡ message
