-- What holds of what is resident while a journal is legal.
use Rattle.std.specs.Prelude.{◌≡◌, ℕ, ◌<◌, List, Contains}
use Rattle.cache_ident.specs.Names.{kind_of}
use Rattle.cache_ident.specs.Residents.{Resident}
use Rattle.residents.specs.flat_state.specs.State.{FlatState}
use Rattle.residents.specs.run_journal.specs.Legal.{AreGood}
use Rattle.journal_rules.specs.journal_laws.specs.Leaving.{AreApart, HaveOneEach}

-- After so many loads no identifier stands twice. Each has a serial that a load gave out, the kind of its name, and an
-- identifier, a name and a slot of its own; it stands, is fit, and has all that it depends on.
pub record AreWhole (s : FlatState) (loads : ℕ) (rs : List Resident) : Type 0 where
  pub apart : AreApart rs
  pub issued : (r : Resident) → Contains rs r → r.ident.serial < loads
  pub kinds : (r : Resident) → Contains rs r → r.ident.kind ≡ kind_of r.name
  pub one : HaveOneEach rs
  pub slots : (a b : Resident) → Contains rs a → Contains rs b → a.ident.kind ≡ b.ident.kind → a.ident.slot ≡ b.ident.slot → a ≡ b
  pub good : AreGood s rs
