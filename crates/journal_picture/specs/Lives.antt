-- What was loaded, from when to when.
use Rattle.std.specs.Prelude.{◌≡◌, ℕ, ◌+◌, ◌&&◌, not, nat_lt, Bool, false, List, [], ◌∷◌, ◌++◌, Option, Some, None, IfSome, slice_get}
use Rattle.cache_ident.specs.declared.idents.Ident.{Ident}
use Rattle.cache_ident.specs.declared.names.Name.{Name}
use Rattle.run_journal.specs.declared.entries.Entry.{Entry}
use Rattle.run_journal.specs.declared.entries.Entry.TheVariants.{Loaded, WrittenBack}
use Rattle.journal_picture.specs.declared.lives.Departure.{Departure}
use Rattle.journal_picture.specs.declared.lives.Life.{Life}

-- a load, and its place in the journal
pub record Load : Type 0 where
  pub ident : Ident
  pub name : Name
  pub cpu : ℕ
  pub place : ℕ

-- the loads of entries, the first of which stands at a place
abbrev pub loads_at : ℕ → Entry → List Load
loads_at place (Loaded ident name cpu) = record { ident = ident; name = name; cpu = cpu; place = place } ∷ []
loads_at place _ = []

abbrev pub loads_from : ℕ → List Entry → List Load
loads_from place [] = []
loads_from place (e ∷ es) = loads_at place e ++ loads_from (place + 1) es

-- the load that a life begins with
abbrev pub load_of : Life → Load
load_of life = record { ident = life.ident; name = life.name; cpu = life.cpu; place = life.loaded }

-- where a life has an end, an entry of the journal writes its identifier back there, for that cause
abbrev pub EndsIn : List Entry → Life → Type 0
EndsIn j life = IfSome life.left (λ d. (cpu : ℕ) × (slice_get j d.place ≡ Some (WrittenBack life.ident d.cause cpu)))

-- it had ended before a place
abbrev pub ended_before : ℕ → Option Departure → Bool
ended_before place None = false
ended_before place (Some d) = nat_lt d.place place

-- the life meets the places from one on and before another
abbrev pub meets : ℕ → ℕ → Life → Bool
meets from to life = nat_lt life.loaded to && not (ended_before from life.left)
