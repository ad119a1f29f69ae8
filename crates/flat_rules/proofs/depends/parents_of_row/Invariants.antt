use Rattle.std.proofs.Common.{◌≡◌, ◌+◌, ◌≤◌, ◌∷◌, ◌++◌, length, map, take}
use Rattle.std.specs.Option.{option_map, option_to_list}
use Rattle.cache_ident.specs.declared.names.Name.TheVariants.{Space, Thread}
use Rattle.phys_groups.specs.Rows.{row_name}
use Rattle.flat_rules.proofs.depends.parents_of_row.Given as goal

abbrev pub invariant-loop-other : goal.invariant-loop-other
invariant-loop-other g l = (l.parents.items ≡ Space l.row.space ∷ (option_to_list (option_map Thread l.row.receiver) ++ map row_name (take l.other-index l.other-items))) × (length l.parents.items ≤ 2 + l.other-index)
