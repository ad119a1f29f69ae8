-- What a state has of contents.
use Rattle.std.specs.Prelude.{◌≡◌, ℕ, is_some, length, map, Some, slice_get}
use Rattle.cache_ident.specs.declared.names.Name.{Name}
use Rattle.cache_ident.specs.declared.names.Name.TheVariants as name
use Rattle.cache_ident.specs.declared.names.SpaceNo.{SpaceNo}
use Rattle.cache_ident.specs.declared.names.Vpn.{Vpn}
use Rattle.phys_groups.specs.Rows.{row_name}
use Rattle.phys_groups.specs.Translation.{row_of}
use Rattle.flat_state.specs.declared.records.FlatThread.{FlatThread}
use Rattle.flat_state.specs.Names.{stands}
use Rattle.flat_state.specs.State.{FlatState}
use Rattle.desc_stores.specs.Contents.{content_of, Contents}
use Rattle.desc_stores.specs.Sound.{kernel_named, space_named, thread_named}
use Rattle.shown_state.specs.Shown.{kernel_of, row_of_item, space_of, thread_of}

-- what is found under a number or a page is what the content of that name shows, and no other name stands
pub record AreFound (s : FlatState) (c : Contents) : Type 0 where
  pub kernels : (n : ℕ) → slice_get s.kernels n ≡ kernel_of (content_of c (kernel_named n))
  pub spaces : (n : ℕ) → slice_get s.spaces n ≡ space_of (content_of c (space_named n))
  pub threads : (n : ℕ) → slice_get s.threads n ≡ thread_of (content_of c (thread_named n))
  pub rows : (space : SpaceNo) (vpn : Vpn) → row_of s.rows space vpn.0 ≡ row_of_item (content_of c (name.Mapping space vpn))
  pub stands : (name : Name) → stands s name ≡ is_some (content_of c name)

-- there are as many of each kind as were declared, each thread at the place of its number, and the rows in the order of
-- their names
pub record AreListed (s : FlatState) (c : Contents) : Type 0 where
  pub kernels : length s.kernels ≡ c.kernel_count
  pub spaces : length s.spaces ≡ c.space_count
  pub threads : length s.threads ≡ c.thread_count
  pub rows : length s.rows ≡ length c.rows.names
  pub thread_numbers : (n : ℕ) (thread : FlatThread) → slice_get s.threads n ≡ Some thread → thread.no.0 ≡ n
  pub row_names : map row_name s.rows ≡ c.rows.names
