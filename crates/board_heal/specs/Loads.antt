-- What is missing of a chain is loaded, one after the other.
use Rattle.std.specs.Prelude.{◌≡◌, ℕ, ◌+◌, ◌<◌, ◌≤◌, ◌⊎◌, Bool, not, List, [], ◌∷◌, ◌++◌, count_by, filter, length, take, Contains}
use Rattle.cache_ident.specs.declared.idents.Ident.{Ident}
use Rattle.cache_ident.specs.declared.names.Caps.{Caps}
use Rattle.cache_ident.specs.declared.names.Name.{Name}
use Rattle.cache_ident.specs.Residents.{Resident, IsNameResident}
use Rattle.board_core.specs.depend_lists.specs.declared.nodes.Node.{Node}
use Rattle.board_core.specs.run_journal.specs.declared.entries.Entry.{Entry}
use Rattle.board_core.specs.run_journal.specs.declared.entries.Entry.TheVariants.{Loaded}
use Rattle.board_core.specs.run_journal.specs.Groups.{HasParents}
use Rattle.board_core.specs.desc_stores.specs.Contents.{residents_of, Contents}
use Rattle.board_core.specs.desc_parents.specs.Idents.{idents_of}
use Rattle.board_core.specs.desc_groups.specs.declared.departures.Gone.{Gone}
use Rattle.board_core.specs.desc_groups.specs.Whole.{AreWhole}
use Rattle.board_core.specs.desc_tables.specs.May.{MayBeLoaded}
use Rattle.board_core.specs.board_laws.specs.Moves.{written_back, IsLoad}
use Rattle.board_core.specs.cached_machine.specs.Cached.{is_loaded, state_of}
use Rattle.board_core.specs.cached_machine.specs.Posts.{HasLoadedMarks}
use Rattle.board_chains.specs.Chains.{HoldsAllParents, IsFewByKind, MayBeChained}
use Rattle.board_chains.specs.Lists.{has, AreAllOnce}
use Rattle.board_core.specs.Core.{contents_of, Recorded}
use Rattle.board_core.specs.Growth.{GrowsBy, IsRoomMade}

-- the name isn't loaded
abbrev pub is_to_load : Contents → Name → Bool
is_to_load c name = not (is_loaded c name)

-- what a processor writes as it loads a name: what left for it, and the load
abbrev pub entries_of_load : ℕ → List Gone → Ident → Name → List Entry
entries_of_load cpu gone ident name = written_back cpu gone ++ Loaded ident name cpu ∷ []

-- A name was loaded at that place of the journal. The tables were whole until then, and what was loaded of the chain was kept, and
-- nothing else.
pub record IsLoadOfChain (caps : Caps) (chain : List Name) (old new : Contents) (name : Name) (at : ℕ) (gone : List Gone) (ident : Ident) : Type 0 where
  pub pairs : List (Ident × Node)
  pub whole : AreWhole caps old pairs
  pub may : MayBeLoaded old name (idents_of (residents_of old) chain)
  pub load : IsLoad caps old new name (idents_of (residents_of old) chain) at gone ident

-- The names were loaded one after the other, from these contents and this place of the journal to those contents, and the entries
-- tell exactly that. The next place is behind the entries of the load.
abbrev pub AreLoads : ℕ → Caps → List Name → List Name → Contents → ℕ → Contents → List Entry → Type 0
AreLoads cpu caps chain [] old at new es = (new ≡ old) × (es ≡ [])
AreLoads cpu caps chain (name ∷ names) old at new es =
    (mid : Contents) × (gone : List Gone) × (ident : Ident) × (rest : List Entry) × IsLoadOfChain caps chain old mid name at gone ident
    × (es ≡ entries_of_load cpu gone ident name ++ rest) × AreLoads cpu caps chain names mid (at + length (entries_of_load cpu gone ident name)) new rest

-- how much is loaded that isn't of the chain, and so may leave
abbrev pub count_others : Recorded → List Name → ℕ
count_others b chain = count_by (λ r. not (has chain r.name)) (residents_of (contents_of b))

-- A name of a chain may be loaded, if it isn't: it stands and is fit, all that it depends on is loaded, and there is room for the
-- entries and the identifier.
pub record MayComeNext (b : Recorded) (chain : List Name) (name : Name) : Type 0 where
  pub listed : Contains chain name
  pub once : AreAllOnce chain
  pub few : IsFewByKind chain
  pub closed : HoldsAllParents (state_of b.machine) chain
  pub good : MayBeChained (state_of b.machine) name
  pub parents : HasParents (state_of b.machine) (residents_of (contents_of b)) name
  pub room : count_others b chain + 1 ≤ b.journal.spare
  pub issue : 0 < (contents_of b).spare

-- a processor loaded the name, and what was loaded of the chain stayed
pub record IsLoadedBeside (cpu : ℕ) (chain : List Name) (name : Name) (old new : Recorded) : Type 0 where
  pub gone : List Gone
  pub ident : Ident
  pub load : IsLoadOfChain old.machine.held.caps chain (contents_of old) (contents_of new) name (length old.journal.entries) gone ident
  pub grows : GrowsBy (entries_of_load cpu gone ident name) old new
  pub there : IsNameResident (residents_of (contents_of new)) name
  pub stay : (r : Resident) → Contains (residents_of (contents_of old)) r → Contains chain r.name → Contains (residents_of (contents_of new)) r
  pub only : (r : Resident) → Contains (residents_of (contents_of new)) r → Contains (residents_of (contents_of old)) r ⊎ (r.name ≡ name)
  pub fewer : length gone + count_others new chain ≤ count_others old chain
  pub issues : (contents_of old).spare ≤ (contents_of new).spare + 1
  pub marks : HasLoadedMarks (contents_of old) (contents_of new)
  pub sealed : new.sealed ≡ old.sealed
  pub checkouts : new.checkouts ≡ old.checkouts

-- .. if it wasn't loaded
abbrev pub IsThereNow : ℕ → List Name → Name → Recorded → Recorded → Type 0
IsThereNow cpu chain name old new =
    (IsNameResident (residents_of (contents_of old)) name × (new ≡ old)) ⊎ ((IsNameResident (residents_of (contents_of old)) name → ⊥) × IsLoadedBeside cpu chain name old new)

-- Once room was made the first names of the chain were loaded. There is room for the others and for a step, and nothing of the
-- chain has left.
pub record AreLoadedTo (cpu : ℕ) (chain : List Name) (i : ℕ) (old new : Recorded) : Type 0 where
  pub begun : Recorded
  pub begins : IsRoomMade old begun
  pub loads : List Entry
  pub are : AreLoads cpu old.machine.held.caps chain (filter (is_to_load (contents_of old)) (take i chain)) (contents_of begun) (length old.journal.entries) (contents_of new) loads
  pub grows : GrowsBy loads old new
  pub state : state_of new.machine ≡ state_of old.machine
  pub there : (name : Name) → Contains (take i chain) name → IsNameResident (residents_of (contents_of new)) name
  pub stay : (r : Resident) → Contains (residents_of (contents_of old)) r → Contains chain r.name → Contains (residents_of (contents_of new)) r
  pub only : (r : Resident) → Contains (residents_of (contents_of new)) r → Contains (residents_of (contents_of old)) r ⊎ Contains (take i chain) r.name
  pub room : count_others new chain + length chain + 1 ≤ new.journal.spare + i
  pub issues : length chain ≤ (contents_of new).spare + i
  pub spare : (contents_of old).spare ≤ (contents_of new).spare + length (filter (is_to_load (contents_of old)) (take i chain))
  pub marks : HasLoadedMarks (contents_of old) (contents_of new)
  pub sealed : new.sealed ≡ old.sealed
  pub checkouts : new.checkouts ≡ old.checkouts
