-- Contents in which one name changed or went, and the state that they show then.
use Rattle.std.specs.Prelude.{◌≡◌, Bool, not, if◌then◌else◌, [], ◌∷◌, ◌++◌, filter, map, Some, IsSome, slice_set}
use Rattle.cache_ident.specs.declared.names.Name.TheVariants as name
use Rattle.cache_ident.specs.declared.names.SpaceNo.{SpaceNo}
use Rattle.cache_ident.specs.declared.names.Vpn.{Vpn}
use Rattle.phys_groups.specs.declared.rows.Row.{Row}
use Rattle.phys_groups.specs.Rows.{marked}
use Rattle.phys_groups.specs.Translation.{is_row_of, without}
use Rattle.flat_state.specs.State.{with_thread, FlatState}
use Rattle.desc_stores.specs.kind_store.specs.Changes.{is_name}
use Rattle.desc_stores.specs.declared.items.Item.{Item}
use Rattle.desc_stores.specs.declared.items.Item.TheVariants as item
use Rattle.desc_stores.specs.Items.{name_of}
use Rattle.desc_stores.specs.Changes.{HasContent, HasNoContent}
use Rattle.desc_stores.specs.Contents.{content_of, Contents}
use Rattle.shown_state.specs.Shown.{flat_kernel, flat_thread, HasSameNames}

-- a row in the place of the one of its page
abbrev pub in_place_of : Row → Row → Row
in_place_of row other = if is_row_of row.space row.vpn.0 other then row else other

-- the state with what a content shows in the place of what has its name
abbrev pub with_changed : FlatState → Item → FlatState
with_changed s (item.Kernel kernel) = record s { kernels = slice_set s.kernels kernel.no.0 (flat_kernel kernel) }
with_changed s (item.Space space) = record s { spaces = slice_set s.spaces space.no.0 space.kernel }
with_changed s (item.Thread thread) = with_thread s thread.no.0 (flat_thread thread)
with_changed s (item.Mapping row) = record s { rows = map (in_place_of row) s.rows }

-- the state with what a content shows behind the others of its kind
abbrev pub with_new : FlatState → Item → FlatState
with_new s (item.Kernel kernel) = record s { kernels = s.kernels ++ flat_kernel kernel ∷ [] }
with_new s (item.Space space) = record s { spaces = s.spaces ++ space.kernel ∷ [] }
with_new s (item.Thread thread) = record s { threads = s.threads ++ flat_thread thread ∷ [] }
with_new s (item.Mapping row) = record s { rows = s.rows ++ row ∷ [] }

-- the state once a step or a store has gone through the row of a page, if there is one
abbrev pub with_mark : FlatState → SpaceNo → Vpn → Bool → FlatState
with_mark s space vpn written = record s { rows = map (marked space vpn.0 written) s.rows }

-- the state without the row of a page
abbrev pub without_row : FlatState → SpaceNo → Vpn → FlatState
without_row s space vpn = record s { rows = without space vpn.0 s.rows }

-- a content came in the place of one of its name
pub record IsChange (old new : Contents) (content : Item) : Type 0 where
  pub names : HasSameNames old new
  pub was : IsSome (content_of old (name_of content))
  pub contents : HasContent old new content

-- the row of a page was marked
pub record IsMark (old new : Contents) (space : SpaceNo) (vpn : Vpn) (written : Bool) : Type 0 where
  pub names : HasSameNames old new
  pub row : Row
  pub was : content_of old (name.Mapping space vpn) ≡ Some (item.Mapping row)
  pub contents : HasContent old new (item.Mapping (marked space vpn.0 written row))

-- the row of a page went, with its name
pub record IsRetraction (old new : Contents) (space : SpaceNo) (vpn : Vpn) : Type 0 where
  pub contents : HasNoContent old new (name.Mapping space vpn)
  pub names : new.rows.names ≡ filter (λ other. not (is_name other (name.Mapping space vpn))) old.rows.names
  pub only : new ≡ record old { rows = new.rows }
