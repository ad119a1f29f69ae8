-- The board of a scenario: that of its declarations.
use Rattle.std.specs.Prelude.{◌≡◌, ℕ, false, List, [], ◌∷◌}
use Rattle.flat_state.specs.declared.events.Decl.{Decl}
use Rattle.flat_state.specs.declared.events.Decl.TheVariants as decls
use Rattle.flat_state.specs.declared.events.Machine.{Machine}
use Rattle.cache_board.specs.run_journal.specs.declared.entries.Entry.TheVariants.{Declared}
use Rattle.cache_board.specs.board_core.specs.Core.{IsSound, Recorded}
use Rattle.cache_board.specs.board_calls.specs.Calls.{IsDeclaring}

-- a new board of a machine, which takes at most so many steps
pub record IsNewBoard (machine : Machine) (limit : ℕ) (b : Recorded) : Type 0 where
  pub entries : b.journal.entries ≡ Declared (decls.Machine machine) ∷ []
  pub unsealed : b.sealed ≡ false
  pub steps : b.limit ≡ limit
  pub checkouts : b.checkouts ≡ 0
  pub its : b.machine.machine ≡ machine
  pub sound : IsSound b

-- these were declared on a board, one after another
abbrev pub AreDeclared : List Decl → Recorded → Recorded → Type 0
AreDeclared [] old new = new ≡ old
AreDeclared (d ∷ ds) old new = (between : Recorded) × IsDeclaring d old between × AreDeclared ds between new

-- the board of declarations: the first makes it, and the others are made on it
pub record IsBoardOf (ds : List Decl) (limit : ℕ) (b : Recorded) : Type 0 where
  pub machine : Machine
  pub rest : List Decl
  pub begins : ds ≡ decls.Machine machine ∷ rest
  pub first : Recorded
  pub bare : IsNewBoard machine limit first
  pub declared : AreDeclared rest first b
