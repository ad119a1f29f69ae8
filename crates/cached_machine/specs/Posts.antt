-- Which processor has a thread, and when it was checked out last.
use Rattle.std.specs.Prelude.{◌≡◌, ℕ, ◌==◌, if◌then◌else◌, false, List, Contains, Option, Some, None, IsSome, ◌⊎◌}
use Rattle.cache_ident.specs.declared.names.Name.{Name}
use Rattle.cache_ident.specs.declared.names.Name.TheVariants as name
use Rattle.cache_ident.specs.declared.names.ThreadNo.{ThreadNo}
use Rattle.thread_cache.specs.declared.ThreadRec.{ThreadRec}
use Rattle.board_laws.specs.desc_stores.specs.declared.items.Item.{Item}
use Rattle.board_laws.specs.desc_stores.specs.declared.items.Item.TheVariants as item
use Rattle.board_laws.specs.desc_stores.specs.Changes.{room_of, HasContent}
use Rattle.board_laws.specs.desc_stores.specs.Contents.{content_of, Contents}
use Rattle.board_laws.specs.desc_tables.specs.Tables.{Held}
use Rattle.board_laws.specs.Moves.{KeepsLoaded, ShowsTheSame}
use Rattle.cached_machine.specs.declared.posts.Post.{Post}
use Rattle.cached_machine.specs.declared.posts.Post.TheVariants.{Out, In}
use Rattle.cached_machine.specs.Cached.{is_loaded}

-- ---- processors and checkouts

-- the processor that a content names, and the number of its last checkout
abbrev pub mark_in : Option Item → Option ℕ
mark_in (Some (item.Thread thread)) = thread.on_cpu
mark_in _ = None

abbrev pub last_in : Option Item → ℕ
last_in (Some (item.Thread thread)) = thread.last
last_in _ = 0

-- the processor that has a thread
abbrev pub mark_of : Contents → ThreadNo → Option ℕ
mark_of c whom = mark_in (content_of c (name.Thread whom))

-- the number of its last checkout, loaded or not
abbrev pub last_of : Contents → ThreadNo → ℕ
last_of c whom = last_in (content_of c (name.Thread whom))

-- a thread that isn't loaded is on no processor
abbrev pub OnlyLoadedAreOut : Contents → Type 0
OnlyLoadedAreOut c = (no : ThreadNo) → is_loaded c (name.Thread no) ≡ false → mark_of c no ≡ None

-- what is said of each thread, with something else said of one
abbrev pub but_at : {T : Type 0} → ThreadNo → T → (ThreadNo → T) → ThreadNo → T
but_at whom said f other = if other.0 == whom.0 then said else f other

-- a thread as it goes to a processor, or comes back from one
abbrev pub posted : Post → ThreadRec → ThreadRec
posted (Out cpu number) thread = record thread { on_cpu = Some cpu; last = number }
posted In thread = record thread { on_cpu = None }

-- nothing changed that is shown, or loaded, or has room
pub record OnlyPosts (old new : Held) : Type 0 where
  pub rest : new ≡ record old { contents = new.contents }
  pub shows : ShowsTheSame old.contents new.contents
  pub loaded : KeepsLoaded old.contents new.contents
  pub spare : new.contents.spare ≡ old.contents.spare
  pub room : room_of new.contents ≡ room_of old.contents

-- the thread of that number went to a processor or came back
pub record IsPosted (post : Post) (old new : Held) (no : ThreadNo) : Type 0 where
  pub value : ThreadRec
  pub there : content_of old.contents (name.Thread no) ≡ Some (item.Thread value)
  pub contents : HasContent old.contents new.contents (item.Thread (posted post value))
  pub only : OnlyPosts old new

-- each thread that is loaded still has the processor that it had, and all others have none; each has its last checkout still
pub record HasLoadedMarks (old new : Contents) : Type 0 where
  pub marks : (no : ThreadNo) → mark_of new no ≡ (if is_loaded new (name.Thread no) then mark_of old no else None)
  pub lasts : (no : ThreadNo) → last_of new no ≡ last_of old no

-- each thread has the processor that it had, and its last checkout
pub record HasSameMarks (old new : Contents) : Type 0 where
  pub marks : (no : ThreadNo) → mark_of new no ≡ mark_of old no
  pub lasts : (no : ThreadNo) → last_of new no ≡ last_of old no

-- ---- threads that left

-- Each thread among the names is on no processor, and each other one is on the one that it was on. Who stood stands.
pub record AreBackFrom (left : List Name) (old new : Held) : Type 0 where
  pub only : OnlyPosts old new
  pub back : (no : ThreadNo) → Contains left (name.Thread no) → mark_of new.contents no ≡ None
  pub others : (no : ThreadNo) → Contains left (name.Thread no) ⊎ (mark_of new.contents no ≡ mark_of old.contents no)
  pub lasts : (no : ThreadNo) → last_of new.contents no ≡ last_of old.contents no
  pub stand : (no : ThreadNo) → IsSome (content_of old.contents (name.Thread no)) → IsSome (content_of new.contents (name.Thread no))
