-- What the tables stand for.
use Rattle.std.specs.Prelude.{◌≡◌, ◌↔◌, ℕ, List}
use Rattle.cache_ident.specs.declared.idents.Cause.TheVariants.{Dependent}
use Rattle.cache_ident.specs.declared.idents.Ident.{Ident}
use Rattle.cache_ident.specs.declared.idents.Kind.{Kind}
use Rattle.cache_ident.specs.declared.names.KernelNo.{KernelNo}
use Rattle.cache_ident.specs.declared.names.Name.{Name}
use Rattle.cache_ident.specs.Residents.{Resident, IsNameResident}
use Rattle.residents.specs.flat_state.specs.State.{FlatState}
use Rattle.residents.specs.flat_state.specs.Dependence.{Depends}
use Rattle.residents.specs.run_journal.specs.Told.{Told}
use Rattle.residents.specs.run_journal.specs.Legal.{IsTaken, count_of, locked_by, MayLeave}
use Rattle.residents.specs.declared.dependents.Dependents.{Dependents}
use Rattle.residents.specs.declared.list.Held.{Held}
use Rattle.residents.specs.declared.slots.Slots.{Slots}
use Rattle.residents.specs.Pairs.{IsPair}
use Rattle.residents.specs.Slots.{IsCount, IsTakenIn}
use Rattle.residents.specs.Tables.{AreThose, resident_of}
use Rattle.journal_rules.specs.Relied.{AreRelyingOn}
use Rattle.journal_tables.specs.declared.tables.Tables.{Tables}
use Rattle.journal_tables.specs.KindSlots.{slots_of}
use Rattle.journal_tables.specs.Locks.{lock_count}
use Rattle.journal_tables.specs.Whole.{AreWhole}

-- the slots of a kind that residents have, and no others, are taken
pub record AreSlotsOf (slots : Slots) (rs : List Resident) (kind : Kind) : Type 0 where
  pub taken : (slot : ℕ) → IsTakenIn slots slot ↔ IsTaken rs kind slot
  pub count : IsCount slots (count_of rs kind)

-- the pairs are the residents with what they depend on
abbrev pub ArePairsBy : Dependents → FlatState → List Resident → Type 0
ArePairsBy dependents s rs = (parent child : Name) → IsPair dependents parent child ↔ (IsNameResident rs child × Depends s child parent)

-- what is resident is whole, and the tables are of it
pub record AreOf (tables : Tables) (k : Told) : Type 0 where
  pub whole : AreWhole k.state k.loads k.residents
  pub those : AreThose tables.residents k.residents
  pub slots : (kind : Kind) → AreSlotsOf (slots_of tables.slots kind) k.residents kind
  pub pairs : ArePairsBy tables.dependents k.state k.residents
  pub relying : AreRelyingOn tables.relying k.state k.residents
  pub locks : (kernel : KernelNo) (kind : Kind) → lock_count tables.locks kernel kind ≡ locked_by k.state k.residents kernel kind

-- this one has the identifier, and may leave as one of a group
pub record MayLeaveAs (k : Told) (ident : Ident) (held : Held) : Type 0 where
  pub may : MayLeave k ident Dependent
  pub its : may.resident ≡ resident_of held
