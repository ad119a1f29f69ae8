-- What is so where a call isn't refused.
use Rattle.std.specs.Prelude.{◌≡◌, ℕ, Bool, true, ◌&&◌, is_none, List, Option}
use Rattle.cache_ident.specs.declared.names.Name.{Name}
use Rattle.board_ops.specs.flat_state.specs.declared.events.Machine.{Machine}
use Rattle.board_ops.specs.flat_state.specs.Names.{is_fit_found, is_fit_name}
use Rattle.board_ops.specs.flat_state.specs.WellFormed.{IsWellFormed}
use Rattle.desc_tables.specs.run_journal.specs.Groups.{HasParents}
use Rattle.desc_tables.specs.desc_stores.specs.Contents.{content_of, residents_of, Contents, IsShelved}
use Rattle.desc_tables.specs.shown_state.specs.Shown.{row_of_item, shown}
use Rattle.desc_tables.specs.desc_parents.specs.Idents.{ident_of}
use Rattle.desc_tables.specs.desc_parents.specs.Seen.{seen}

-- a name may be loaded, but for what is kept: it stands on the shelf, is fit, and all that it depends on is loaded
pub record IsLoadable (c : Contents) (name : Name) : Type 0 where
  pub shelved : IsShelved c name
  pub fit : is_fit_name (seen c) name ≡ true
  pub has : HasParents (seen c) (residents_of c) name

-- the name is that of a fit row, and isn't loaded
abbrev pub is_missing : Contents → Name → Bool
is_missing c name = is_fit_found (seen c) (row_of_item (content_of c name)) && is_none (ident_of (residents_of c) name)

-- the machine that the contents show, with some machine and some memory, is as events can make it
abbrev pub IsFormed : Contents → Type 0
IsFormed c = (machine : Option Machine) × (memory : List ℕ) × IsWellFormed (shown machine memory c)
