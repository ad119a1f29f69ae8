-- What a table of residents stands for.
use Rattle.std.specs.Prelude.{◌≡◌, ◌≢◌, ℕ, List, Contains, Option, Some}
use Rattle.std.specs.Ordering.{nat_cmp}
use Rattle.std.specs.BTreeMap.{get}
use Rattle.cache_ident.specs.declared.idents.Ident.{Ident}
use Rattle.cache_ident.specs.declared.names.Name.{Name}
use Rattle.cache_ident.specs.contracts.names.NameOrd.TheImpl as name_order
use Rattle.cache_ident.specs.Residents.{Resident}
use Rattle.residents.specs.declared.list.Held.{Held}
use Rattle.residents.specs.declared.list.Residents.{Residents}

-- the same in a list of residents, and back
abbrev pub resident_of : Held → Resident
resident_of held = record { ident = held.ident; name = held.name; locked = held.locked }

abbrev pub held_of : Resident → Held
held_of r = record { ident = r.ident; name = r.name; locked = r.locked }

-- what the table has under a name, and which name under a serial
abbrev pub held_at : Residents → Name → Option Held
held_at table name = get (name_order.ghosts).cmp table.by_name name

abbrev pub name_at : Residents → ℕ → Option Name
name_at table serial = get nat_cmp table.names serial

-- the table has these residents, each under its name and its serial, and no others
pub record AreThose (table : Residents) (rs : List Resident) : Type 0 where
  pub held : (name : Name) (held : Held) → held_at table name ≡ Some held → Contains rs (resident_of held) × (held.name ≡ name)
  pub named : (r : Resident) → Contains rs r → held_at table r.name ≡ Some (held_of r)
  pub serial : (serial : ℕ) (name : Name) → name_at table serial ≡ Some name → (held : Held) × (held_at table name ≡ Some held) × (held.ident.serial ≡ serial)
  pub numbered : (r : Resident) → Contains rs r → name_at table r.ident.serial ≡ Some r.name

-- none of them has the identifier, or the serial
abbrev pub HasNoIdent : List Resident → Ident → Type 0
HasNoIdent rs ident = (r : Resident) → Contains rs r → r.ident ≢ ident

abbrev pub HasNoSerial : List Resident → ℕ → Type 0
HasNoSerial rs serial = (r : Resident) → Contains rs r → r.ident.serial ≢ serial

-- it is one of them, and has the identifier
abbrev pub IsHeldAs : List Resident → Ident → Held → Type 0
IsHeldAs rs ident held = Contains rs (resident_of held) × (held.ident ≡ ident)
