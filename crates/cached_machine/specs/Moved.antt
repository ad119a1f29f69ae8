-- What a call leaves of a machine with caches, and of what a step doesn't change.
use Rattle.std.specs.Prelude.{◌≡◌, ◌≤◌, None}
use Rattle.cache_ident.specs.declared.names.ThreadNo.{ThreadNo}
use Rattle.flat_state.specs.declared.events.Decl.{Decl}
use Rattle.flat_state.specs.declared.events.Event.TheVariants.{Complete}
use Rattle.flat_state.specs.Declaration.{broken_rule, declared}
use Rattle.flat_state.specs.Events.{applied}
use Rattle.flat_state.specs.State.{FlatState}
use Rattle.board_laws.specs.run_journal.specs.Legal.{AreGood}
use Rattle.thread_cache.specs.declared.ThreadRec.{ThreadRec}
use Rattle.board_laws.specs.desc_stores.specs.Changes.{room_of}
use Rattle.board_laws.specs.desc_stores.specs.Contents.{residents_of}
use Rattle.board_laws.specs.Moves.{KeepsLoaded}
use Rattle.cached_machine.specs.Cached.{state_of, Cached}
use Rattle.cached_machine.specs.Posts.{HasSameMarks}

-- nothing changed but room, and none of it fell
pub record OnlyRoom (old new : Cached) : Type 0 where
  pub machine : new.machine ≡ old.machine
  pub memory : new.memory ≡ old.memory
  pub caps : new.held.caps ≡ old.held.caps
  pub gone : new.held.gone ≡ old.held.gone
  pub state : state_of new ≡ state_of old
  pub loaded : KeepsLoaded old.held.contents new.held.contents
  pub marks : HasSameMarks old.held.contents new.held.contents
  pub room : room_of old.held.contents ≤ room_of new.held.contents
  pub sets_room : old.sets.room ≤ new.sets.room
  pub spare : old.held.contents.spare ≤ new.held.contents.spare

-- which machine it is, its capacities, what is loaded and who is on which processor stay as they were
pub record KeepsBeside (old new : Cached) : Type 0 where
  pub machine : new.machine ≡ old.machine
  pub caps : new.held.caps ≡ old.held.caps
  pub gone : new.held.gone ≡ old.held.gone
  pub spare : new.held.contents.spare ≡ old.held.contents.spare
  pub loaded : KeepsLoaded old.held.contents new.held.contents
  pub marks : HasSameMarks old.held.contents new.held.contents

-- a thread is the same one, on the same processor, with the same last checkout
pub record KeepsPost (was now : ThreadRec) : Type 0 where
  pub no : now.no ≡ was.no
  pub space : now.space ≡ was.space
  pub on_cpu : now.on_cpu ≡ was.on_cpu
  pub last : now.last ≡ was.last

-- the declaration was made
pub record IsMade (d : Decl) (old new : Cached) : Type 0 where
  pub state : state_of new ≡ declared (state_of old) d
  pub beside : KeepsBeside old new

-- what is loaded stays good in that state
abbrev pub StaysGoodIn : FlatState → Cached → Type 0
StaysGoodIn s m = AreGood s (residents_of m.held.contents)

-- a declaration that breaks no rule, and after which what is loaded is still good
pub record MayBeMade (d : Decl) (m : Cached) : Type 0 where
  pub fits : broken_rule (state_of m) d ≡ None
  pub good : StaysGoodIn (declared (state_of m) d) m

-- the call of the thread was completed
pub record IsCompleted (no : ThreadNo) (old new : Cached) : Type 0 where
  pub state : state_of new ≡ applied (state_of old) (Complete no)
  pub beside : KeepsBeside old new
