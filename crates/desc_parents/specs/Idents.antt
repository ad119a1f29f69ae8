-- The identifiers with which names are loaded.
use Rattle.std.specs.Prelude.{◌≡◌, ◌&&◌, List, ◌++◌, map, filter, filter_map, find, Option}
use Rattle.std.specs.Option.{option_map}
use Rattle.cache_ident.specs.declared.idents.Ident.{Ident}
use Rattle.cache_ident.specs.declared.names.Frame.{Frame}
use Rattle.cache_ident.specs.declared.names.Name.{Name}
use Rattle.cache_ident.specs.Residents.{Resident}
use Rattle.phys_groups.specs.Rows.{row_name}
use Rattle.group_laws.specs.signal_pages.specs.Signals.{is_signal_row_of}
use Rattle.group_laws.specs.flat_state.specs.State.{FlatState}
use Rattle.group_laws.specs.flat_state.specs.Translation.{is_fit_row}
use Rattle.shown_state.specs.kind_store.specs.Changes.{is_name}

-- the identifier of what is resident under a name
unfoldable pub ident_of : List Resident → Name → Option Ident
ident_of rs name = option_map (λ r. r.ident) (find (λ r. is_name r.name name) rs)

-- those of the names that are resident, in the order of the names
abbrev pub idents_of : List Resident → List Name → List Ident
idents_of rs names = filter_map (ident_of rs) names

-- the new list has behind what the old one has the identifiers of those of the names that are resident
abbrev pub HasAlsoIdentsOf : List Resident → List Ident → List Ident → List Name → Type 0
HasAlsoIdentsOf rs old new names = new ≡ old ++ idents_of rs names

-- the names of the fit signal rows of a frame
abbrev pub fit_signal_names : FlatState → Frame → List Name
fit_signal_names s frame = map row_name (filter (λ row. is_signal_row_of frame row && is_fit_row s row) s.rows)
