-- The chain of a thread's next step, in the order of loading.
use Rattle.std.specs.Prelude.{◌≡◌, ℕ, ◌≤◌, ◌↔◌, true, false, List, [], ◌++◌, count_by, filter, take, Contains, Option, Some, None, slice_get}
use Rattle.cache_ident.specs.declared.idents.Kind.{Kind}
use Rattle.cache_ident.specs.declared.names.Name.{Name}
use Rattle.cache_ident.specs.Names.{kind_of}
use Rattle.flat_state.specs.declared.records.FlatThread.{FlatThread}
use Rattle.flat_state.specs.declared.records.NextStep.{NextStep}
use Rattle.flat_state.specs.Dependence.{parents, Depends}
use Rattle.flat_state.specs.Names.{is_fit_name, stands}
use Rattle.flat_state.specs.NextSteps.{chain}
use Rattle.flat_state.specs.State.{FlatState}
use Rattle.cached_machine.specs.run_journal.specs.Legal.{is_kind}
use Rattle.cached_machine.specs.desc_tables.specs.May.{wanted_of}
use Rattle.board_chains.specs.Lists.{with_any, AreAllOnce}
use Rattle.board_chains.specs.Ranks.{is_row, AreInOrder}

-- the chain of the next step of the thread of that number; nothing where there is none
abbrev pub chain_found : FlatState → Option FlatThread → List Name
chain_found s None = []
chain_found s (Some t) = chain s t

abbrev pub chain_at : FlatState → ℕ → List Name
chain_at s n = chain_found s (slice_get s.threads n)

-- the rows that a descriptor depends on, in declared order: the signal rows of a message row's frame
abbrev pub row_parents : FlatState → Option Name → List Name
row_parents s None = []
row_parents s (Some name) = filter is_row (parents s name)

-- the rows of a step: those that the row of its data depends on, that of its fetch, and that of its data, each once
abbrev pub rows_in_order : FlatState → Option Name → Option Name → List Name
rows_in_order s fetch accessed = with_any (with_any (row_parents s accessed) fetch) accessed

-- The names are those of the chain: first kernels, spaces and threads, each by their numbers, and then the rows.
pub record IsChainInOrder (s : FlatState) (n : ℕ) (next : NextStep) (names : List Name) : Type 0 where
  pub numbered : List Name
  pub order : AreInOrder numbered
  pub plain : (name : Name) → Contains numbered name → is_row name ≡ false
  pub parts : names ≡ numbered ++ rows_in_order s next.fetch_row next.data_row
  pub each : (name : Name) → Contains names name ↔ Contains (chain_at s n) name

-- at most 5 kernels, 5 spaces, 5 threads and 6 rows
abbrev pub IsFewByKind : List Name → Type 0
IsFewByKind names = (of : Kind) → count_by (λ name. is_kind (kind_of name) of) names ≤ wanted_of of

-- each name stands behind all that it depends on
abbrev pub AreParentsFirst : FlatState → List Name → Type 0
AreParentsFirst s names = (i : ℕ) (child parent : Name) → slice_get names i ≡ Some child → Depends s child parent → Contains (take i names) parent

-- the name stands, and is fit
pub record MayBeChained (s : FlatState) (name : Name) : Type 0 where
  pub there : stands s name ≡ true
  pub fit : is_fit_name s name ≡ true

-- ---- on the way there

-- the names are of the chain of that thread's step, each once
pub record IsPart (s : FlatState) (n : ℕ) (names : List Name) : Type 0 where
  pub apart : AreAllOnce names
  pub among : (name : Name) → Contains names name → Contains (chain_at s n) name

abbrev pub IsPartOfSome : FlatState → List Name → Type 0
IsPartOfSome s names = (n : ℕ) × IsPart s n names

-- all that a name depends on is among the names
abbrev pub HasParents : FlatState → List Name → Name → Type 0
HasParents s names name = (parent : Name) → Depends s name parent → Contains names parent

abbrev pub HoldsAllParents : FlatState → List Name → Type 0
HoldsAllParents s names = (name : Name) → Contains names name → HasParents s names name

-- the old names are the first of the new ones
abbrev pub StartsWith : List Name → List Name → Type 0
StartsWith old new = (more : List Name) × (new ≡ old ++ more)
