-- Which rows rely on what.
use Rattle.std.specs.Prelude.{◌≡◌, true}
use Rattle.std.specs.Ordering.{ordering_then}
use Rattle.std.specs.declared.cmp.Ordering.{Ordering}
use Rattle.std.specs.BTreeSet.{contains}
use Rattle.cache_ident.specs.declared.names.Name.{Name}
use Rattle.cache_ident.specs.contracts.names.NameOrd.TheImpl as name_order
use Rattle.residents.specs.contracts.relying.RelianceOrd.TheImpl as reliance_order
use Rattle.residents.specs.declared.relying.Reliance.{Reliance}
use Rattle.residents.specs.declared.relying.RelyingRows.{RelyingRows}

-- by what is relied on, and then by name
abbrev pub relying_cmp : Reliance × Name → Reliance × Name → Ordering
relying_cmp a b = ordering_then ((reliance_order.ghosts).cmp a.0 b.0) ((name_order.ghosts).cmp a.1 b.1)

-- the row of that name relies on it
abbrev pub IsRelying : RelyingRows → Reliance → Name → Type 0
IsRelying rows reliance name = contains relying_cmp rows.pairs (reliance, name) ≡ true
