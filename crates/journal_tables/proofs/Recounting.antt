-- How many are locked, once one count is another.
use Rattle.std.proofs.Common.{◌≡◌, ℕ, false, Option, ap, ◌∙◌}
use Rattle.std.specs.Prelude.{unwrap_or}
use Rattle.std.specs.BTreeMap.{get, is_at}
use Rattle.cache_ident.specs.declared.idents.Kind.{Kind}
use Rattle.cache_ident.specs.declared.names.KernelNo.{KernelNo}
use Rattle.journal_tables.specs.declared.locks.Locks.{Locks}
use Rattle.journal_tables.specs.Locks.{owned_cmp, Recounts}
use Rattle.journal_tables.proofs.KindLemmas.{other_owned}

pub recounted : (old new : Locks) (kernel : KernelNo) (kind : Kind) (entry : Option ℕ) (count : ℕ) → get owned_cmp new.counts (kernel, kind) ≡ entry → unwrap_or entry 0 ≡ count
    → ((q : KernelNo × Kind) → is_at (owned_cmp (kernel, kind)) q ≡ false → get owned_cmp new.counts q ≡ get owned_cmp old.counts q) → Recounts old new kernel kind count
recounted old new kernel kind entry count here is others = record {
  here = ap (λ (o : Option ℕ). unwrap_or o 0) here ∙ is;
  other = λ q other. ap (λ (o : Option ℕ). unwrap_or o 0) (others q (other_owned (kernel, kind) q other));
}
