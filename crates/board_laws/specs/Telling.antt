-- When a journal and the tables tell the same.
use Rattle.std.specs.Prelude.{◌≡◌, ℕ, Bool, List, Some, length}
use Rattle.cache_ident.specs.declared.idents.Ident.{Ident}
use Rattle.cache_ident.specs.Rolls.{standing_in}
use Rattle.quantum.specs.flat_state.specs.declared.events.Machine.{Machine}
use Rattle.desc_tables.specs.run_journal.specs.declared.entries.Entry.{Entry}
use Rattle.desc_tables.specs.run_journal.specs.Legal.{IsLegal}
use Rattle.desc_tables.specs.run_journal.specs.Standing.{standing_of}
use Rattle.desc_tables.specs.run_journal.specs.Told.{told}
use Rattle.desc_tables.specs.desc_stores.specs.Contents.{residents_of, Contents}
use Rattle.desc_tables.specs.shown_state.specs.Shown.{shown}

-- The journal is legal. Of the machine with unlimited tables it tells what that machine, this memory and the contents show; what is
-- resident is what is loaded, in order of loading; each identifier stands where the roll has it; as many were loaded as were
-- issued; and it is sealed or not.
pub record AreAsTold (m : Machine) (memory : List ℕ) (c : Contents) (sealed : Bool) (j : List Entry) : Type 0 where
  pub legal : IsLegal j
  pub state : (told j).state ≡ shown (Some m) memory c
  pub residents : (told j).residents ≡ residents_of c
  pub standings : (ident : Ident) → standing_of j ident ≡ standing_in c.issued ident
  pub loads : (told j).loads ≡ length c.issued
  pub seal : (told j).sealed ≡ sealed
