-- A machine with its journal, and what holds of both.
use Rattle.std.specs.Prelude.{◌≡◌, ℕ, ◌<◌, ◌≤◌, Bool, List, Some}
use Rattle.cache_ident.specs.declared.idents.Ident.{Ident}
use Rattle.cache_ident.specs.declared.names.ThreadNo.{ThreadNo}
use Rattle.board_ops.specs.depend_lists.specs.declared.nodes.Node.{Node}
use Rattle.rv32_exec.specs.declared.statuses.Status.TheVariants.{Ready}
use Rattle.flat_rules.specs.Readings.{OfThread}
use Rattle.run_journal.specs.Entries.{steps_in, Written}
use Rattle.cached_machine.specs.desc_stores.specs.Contents.{Contents}
use Rattle.cached_machine.specs.desc_tables.specs.Tables.{AreSound}
use Rattle.cached_machine.specs.board_laws.specs.Telling.{AreAsTold}
use Rattle.cached_machine.specs.Cached.{state_of, Cached}
use Rattle.cached_machine.specs.Posts.{last_of, mark_of, OnlyLoadedAreOut}
use Rattle.board_core.specs.Stamps.{AreStamps}

-- The machine, its journal, and whether that is sealed; how many steps may be taken and how many were; how many checkouts
-- gave a thread; and for each frame its stamp
pub record Recorded : Type 0 where
  pub machine : Cached
  pub journal : Written
  pub sealed : Bool
  pub limit : ℕ
  pub steps : ℕ
  pub checkouts : ℕ
  pub stamps : List ℕ

-- the contents of caches and shelves
abbrev pub contents_of : Recorded → Contents
contents_of b = b.machine.held.contents

-- a processor that has a thread is one of eight, and the thread is ready
pub record IsReadyOn (m : Cached) (no : ThreadNo) (cpu : ℕ) : Type 0 where
  pub processor : cpu < 8
  pub ready : OfThread (state_of m) no.0 (λ t. t.status ≡ Ready)

-- each thread that a processor has is ready
abbrev pub AreReady : Cached → Type 0
AreReady m = (no : ThreadNo) (cpu : ℕ) → mark_of m.held.contents no ≡ Some cpu → IsReadyOn m no cpu

-- no checkout has a number above the count
abbrev pub AreCounted : Contents → ℕ → Type 0
AreCounted c checkouts = (no : ThreadNo) → last_of c no ≤ checkouts

-- The journal is legal, and tells what the machine shows and what is loaded. It has the steps that were taken, which are no
-- more than may be. Each thread that a processor has is ready and loaded, and no checkout has a number above the count. Each
-- frame has a stamp. And the tables are sound, with the pairs of what depends on what: each descriptor is in exactly one place,
-- what is loaded has all that it depends on, and each kernel's counts of locks are right.
pub record IsSound (b : Recorded) : Type 0 where
  pub told : AreAsTold b.machine.machine b.machine.memory (contents_of b) b.sealed b.journal.entries
  pub steps : b.steps ≡ steps_in b.journal.entries
  pub limit : b.steps ≤ b.limit
  pub marks : AreReady b.machine
  pub out : OnlyLoadedAreOut (contents_of b)
  pub lasts : AreCounted (contents_of b) b.checkouts
  pub stamps : AreStamps b.journal.entries b.machine.memory b.stamps
  pub tables : (pairs : List (Ident × Node)) × AreSound b.machine.held pairs
