-- A map of labels by their bytes.
use Rattle.std.specs.Prelude.{ℕ, List, Option}
use Rattle.std.specs.BTreeMap.{BTreeMap, get_by}
use Rattle.std.specs.Cmp.Lexicographic.{slice_cmp}
use Rattle.std.specs.Ordering.{nat_cmp}
use denote.Ref.{Bor}
use Rattle.rv32_asm.specs.declared.labels.Mark.{Mark}

abbrev pub marks_of : BTreeMap (Bor (List ℕ)) Mark → List ℕ → Option Mark
marks_of m q = get_by (λ k. slice_cmp nat_cmp q k.now) m
