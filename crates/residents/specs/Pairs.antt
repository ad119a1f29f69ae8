-- Pairs of a parent and a child.
use Rattle.std.specs.Prelude.{◌≡◌, true}
use Rattle.std.specs.Ordering.{ordering_then}
use Rattle.std.specs.declared.cmp.Ordering.{Ordering}
use Rattle.std.specs.BTreeSet.{contains}
use Rattle.cache_ident.specs.declared.names.Name.{Name}
use Rattle.cache_ident.specs.contracts.names.NameOrd.TheImpl as name_order
use Rattle.residents.specs.declared.dependents.Dependents.{Dependents}

-- by parent, and then by child
abbrev pub pair_cmp : Name × Name → Name × Name → Ordering
pair_cmp a b = ordering_then ((name_order.ghosts).cmp a.0 b.0) ((name_order.ghosts).cmp a.1 b.1)

-- the child depends on the parent
abbrev pub IsPair : Dependents → Name → Name → Type 0
IsPair dependents parent child = contains pair_cmp dependents.pairs (parent, child) ≡ true
