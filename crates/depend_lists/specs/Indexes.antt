-- What holds of the lists in which the pairs stand.
use Rattle.std.specs.Prelude.{◌≡◌, ◌*◌, Bool, List, count_by}
use Rattle.std.specs.declared.cmp.Ordering.{Ordering}
use Rattle.cache_ident.specs.declared.idents.Ident.{Ident}
use Rattle.cache_ident.specs.declared.names.Caps.{Caps}
use Rattle.cache_ident.specs.contracts.idents.IdentOrd.TheImpl as ident
use Rattle.cache_ident.specs.declared.classes.Class.{Class}
use Rattle.depend_lists.specs.declared.nodes.Node.{Node}
use Rattle.depend_lists.specs.declared.nodes.TheConstants.{MOST_PARENTS}
use Rattle.cache_ident.specs.contracts.classes.ClassOrd.TheImpl as class
use Rattle.depend_lists.specs.contracts.nodes.NodeOrd.TheImpl as node
use Rattle.sorted_list.specs.Sorted.{Sorted, by_parts}
use Rattle.depend_lists.specs.Pairs.{count_of, IsProper}

-- a pair from its other end
abbrev pub turned : Ident × Node → Ident × (Class × Ident)
turned pair = (pair.1.ident, (pair.1.class, pair.0))

-- the order of the pairs: by parent, then by child
abbrev pub pair_cmp : Ident × Node → Ident × Node → Ordering
pair_cmp = by_parts (ident.ghosts).cmp (node.ghosts).cmp

-- and from their other ends: by child, then by parent
abbrev pub turned_cmp : Ident × (Class × Ident) → Ident × (Class × Ident) → Ordering
turned_cmp = by_parts (ident.ghosts).cmp (by_parts (class.ghosts).cmp (ident.ghosts).cmp)

-- the other list has each pair from its other end, and nothing else: as many pass a test there, whichever it is
abbrev pub Mirrors : List (Ident × Node) → List (Ident × (Class × Ident)) → Type 0
Mirrors pairs parents = (test : Ident × (Class × Ident) → Bool) → count_by test parents ≡ count_by (λ pair. test (turned pair)) pairs

-- the lists agree, and have room for all that may come
pub record IsSound (caps : Caps) (pairs : Sorted Ident Node) (parents : Sorted Ident (Class × Ident)) : Type 0 where
  pub proper : IsProper (record { caps = caps; pairs = pairs.entries })
  pub mirrored : Mirrors pairs.entries parents.entries
  pub pairs_room : pairs.room ≡ MOST_PARENTS * count_of caps
  pub parents_room : parents.room ≡ MOST_PARENTS * count_of caps
