-- What a step makes of a thread, and what else that changes.
use Rattle.std.specs.Prelude.{◌≡◌, ◌%◌, ◌<◌, ◌||◌, ◌&&◌, not, false, if◌then◌else◌, nat_lt, length, Bool, Option, Some, None}
use Rattle.cache_ident.specs.declared.names.Name.TheVariants as name
use Rattle.cache_ident.specs.declared.names.ThreadNo.{ThreadNo}
use Rattle.cache_ident.specs.declared.names.SpaceNo.{SpaceNo}
use Rattle.cache_ident.specs.declared.names.Vpn.{Vpn}
use Rattle.phys_groups.specs.declared.rows.Row.{Row}
use Rattle.phys_groups.specs.Rows.{marked}
use Rattle.flat_state.specs.fault_forward.specs.Calls.{with_answer}
use Rattle.rv32_exec.specs.declared.statuses.Status.TheVariants.{Ready}
use Rattle.flat_state.specs.declared.records.FlatThread.{FlatThread}
use Rattle.flat_state.specs.State.{is_ended}
use Rattle.flat_state.specs.Signals.{with_address}
use Rattle.flat_state.specs.Call.{answered}
use Rattle.flat_thread.specs.Calls.{queue_with}
use Rattle.thread_cache.specs.declared.ThreadRec.{ThreadRec}
use Rattle.board_laws.specs.desc_stores.specs.declared.items.Item.{Item}
use Rattle.board_laws.specs.desc_stores.specs.declared.items.Item.TheVariants as item
use Rattle.board_laws.specs.desc_stores.specs.Changes.{room_of, HasContent}
use Rattle.board_laws.specs.desc_stores.specs.Contents.{content_of, residents_of}
use Rattle.board_laws.specs.shown_state.specs.Shown.{HasSameNames}
use Rattle.thread_sets.specs.Sets.{noted, Sets}
use Rattle.board_laws.specs.desc_tables.specs.Tables.{Held}
use Rattle.cached_machine.specs.declared.stepping.Change.{Change}
use Rattle.cached_machine.specs.declared.stepping.Change.TheVariants.{Put, Give, Answer}

-- a thread as a change leaves it. An address finds no place in a full queue.
abbrev pub left_by : Change → ThreadRec → ThreadRec
left_by (Put context status) thread = record thread { context = context; status = status }
left_by (Give va) thread =
    if nat_lt (length thread.queue.items) 64 then record thread { queue = queue_with va thread.status thread.queue } else thread
left_by (Answer value) thread = record thread { context = with_answer thread.context value; status = Ready }

-- the same of a thread of the machine that is shown
abbrev pub shows_left_by : Change → FlatThread → FlatThread
shows_left_by (Put context status) t = record t { context = context; status = status }
shows_left_by (Give va) t = with_address va t
shows_left_by (Answer value) t = answered t value

-- a change that may come to a thread: the new pc is aligned, and the queue of a thread that goes on has room
abbrev pub MayCome : Change → FlatThread → Type 0
MayCome (Put context status) t = context.pc % 4 ≡ 0
MayCome (Give va) t = is_ended t.status ≡ false → length t.queue.items < 64
MayCome (Answer value) t = Unit {0}

-- nothing but contents changed: what is loaded, with which identifiers and locks, what stands, and the room are as they were
pub record OnlyContents (old new : Held) : Type 0 where
  pub rest : new ≡ record old { contents = new.contents }
  pub names : HasSameNames old.contents new.contents
  pub residents : residents_of new.contents ≡ residents_of old.contents
  pub issued : new.contents.issued ≡ old.contents.issued
  pub spare : new.contents.spare ≡ old.contents.spare
  pub room : room_of new.contents ≡ room_of old.contents

-- the thread of that number is as a change leaves it, and the sets have noted it
pub record IsStepped (change : Change) (old new : Held) (was are : Sets) (no : ThreadNo) : Type 0 where
  pub value : ThreadRec
  pub there : content_of old.contents (name.Thread no) ≡ Some (item.Thread value)
  pub contents : HasContent old.contents new.contents (item.Thread (left_by change value))
  pub only : OnlyContents old new
  pub sets : are ≡ noted was (left_by change value)

-- it is a row that isn't marked as used, or, where it is to be, as stored to
abbrev pub lacks_mark : Bool → Option Item → Bool
lacks_mark written (Some (item.Mapping row)) = not row.referenced || (written && not row.modified)
lacks_mark written _ = false

-- the row of that page, if there is one, is marked, and nothing else changed
pub record IsMarked (old new : Held) (space : SpaceNo) (vpn : Vpn) (written : Bool) : Type 0 where
  pub some : (row : Row) → content_of old.contents (name.Mapping space vpn) ≡ Some (item.Mapping row) → HasContent old.contents new.contents (item.Mapping (marked space vpn.0 written row)) × OnlyContents old new
  pub none : content_of old.contents (name.Mapping space vpn) ≡ None → new ≡ old

-- a fact of a thread, if the content is one
abbrev pub IfThread : Option Item → (ThreadRec → Type 0) → Type 0
IfThread (Some (item.Thread thread)) P = P thread
IfThread _ P = Unit {0}
