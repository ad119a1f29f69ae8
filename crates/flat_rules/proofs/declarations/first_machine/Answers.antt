use Rattle.std.proofs.Common.{◌≡◌, ◌<◌, List, [], ◌∷◌, length, drop, get_or, ap, arith}
use Rattle.flat_state.specs.declared.events.Decl.{Decl}
use Rattle.flat_state.specs.declared.events.Decl.TheVariants as declaration
use Rattle.flat_state.specs.declared.events.Machine.{Machine}
use Rattle.flat_rules.proofs.declarations.first_machine.Goals as goal

abbrev BeginsWithMachine : List Decl → Type 0
BeginsWithMachine ds = (machine : Machine) × (rest : List Decl) × (ds ≡ declaration.Machine machine ∷ rest)

some_first : (ds : List Decl) → BeginsWithMachine ds → 0 < length ds
some_first [] (m, rest, e) = absurd cc
some_first (d ∷ ds) h = omega arith

is_first : (ds : List Decl) (d : Decl) (m : Machine) → get_or ds 0 d ≡ declaration.Machine m → 0 < length ds → ds ≡ declaration.Machine m ∷ drop 1 ds
is_first [] d m is some = absurd (omega arith)
is_first (x ∷ xs) d m is some = ap (λ (y : Decl). y ∷ xs) is

-- it can't be anything else
is_nothing_else : (ds : List Decl) (d : Decl) → BeginsWithMachine ds → ((m : Machine) → get_or ds 0 d ≡ declaration.Machine m → ⊥) → ⊥
is_nothing_else ds d (m, rest, e) other = other m (ap (λ (xs : List Decl). get_or xs 0 d) e)

pub bounds-decls-0 : goal.bounds-decls-0
bounds-decls-0 c = some_first c.args.decls.now c.requires

pub unreachable-requires : goal.unreachable-requires
unreachable-requires c = is_nothing_else c.args.decls.now _ c.requires c.in_default.not-Machine

pub returns : goal.returns
returns c = is_first c.args.decls.now _ c.in-Machine.machine c.in-Machine.is (some_first c.args.decls.now c.requires)
