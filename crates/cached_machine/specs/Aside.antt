-- What a step leaves of a machine with caches.
use Rattle.std.specs.Prelude.{ℕ, false, List, [], Option}
use Rattle.std.specs.Option.{option_map}
use Rattle.cache_ident.specs.declared.names.Caps.{Caps}
use Rattle.cache_ident.specs.declared.names.Name.{Name}
use Rattle.cache_ident.specs.declared.rolls.Issued.{Issued}
use Rattle.cache_ident.specs.Residents.{Resident}
use Rattle.rv32_exec.specs.declared.statuses.Status.TheVariants.{Ready}
use Rattle.flat_state.specs.declared.events.Machine.{Machine}
use Rattle.board_laws.specs.desc_stores.specs.declared.items.Item.{Item}
use Rattle.board_laws.specs.desc_stores.specs.declared.items.Item.TheVariants as item
use Rattle.board_laws.specs.desc_stores.specs.Changes.{room_of}
use Rattle.board_laws.specs.desc_stores.specs.Contents.{content_of, residents_of, Contents}
use Rattle.board_laws.specs.desc_groups.specs.declared.departures.Gone.{Gone}
use Rattle.cached_machine.specs.Cached.{Cached}

-- a content but for what a step changes of it: the registers, the status and the queue of a thread, and the marks of a row
abbrev pub but_for_steps : Item → Item
but_for_steps (item.Kernel kernel) = item.Kernel kernel
but_for_steps (item.Space space) = item.Space space
but_for_steps (item.Thread thread) =
    item.Thread (record thread { context = record { regs = []; pc = 0 }; status = Ready; queue = record { items = [] } })
but_for_steps (item.Mapping row) = item.Mapping (record row { referenced = false; modified = false })

-- which descriptors stand: how many of the numbered kinds, and the rows in declared order
pub record Standings : Type 0 where
  pub kernels : ℕ
  pub spaces : ℕ
  pub threads : ℕ
  pub rows : List Name

abbrev pub standings_of : Contents → Standings
standings_of c = record { kernels = c.kernel_count; spaces = c.space_count; threads = c.thread_count; rows = c.rows.names }

-- All but memory, and what steps change of contents: which descriptors stand, which are loaded, with which identifiers and
-- locks, what is in them, and how much room there is
pub record Aside : Type 0 where
  pub machine : Machine
  pub caps : Caps
  pub gone : List Gone
  pub stand : Standings
  pub residents : List Resident
  pub issued : List Issued
  pub spare : ℕ
  pub room : ℕ
  pub sets_room : ℕ
  pub contents : Name → Option Item

abbrev pub aside_of : Cached → Aside
aside_of m =
    record {
      machine = m.machine;
      caps = m.held.caps;
      gone = m.held.gone;
      stand = standings_of m.held.contents;
      residents = residents_of m.held.contents;
      issued = m.held.contents.issued;
      spare = m.held.contents.spare;
      room = room_of m.held.contents;
      sets_room = m.sets.room;
      contents = λ name. option_map but_for_steps (content_of m.held.contents name);
    }
