-- What stays resident as a group leaves, and what is counted of it.
use Rattle.std.specs.Prelude.{◌≡◌, ℕ, true, ◌&&◌, is_some, if◌then◌else◌, List, [], ◌∷◌, Contains}
use Rattle.cache_ident.specs.declared.idents.Ident.{Ident}
use Rattle.cache_ident.specs.declared.idents.Kind.{Kind}
use Rattle.cache_ident.specs.declared.names.KernelNo.{KernelNo}
use Rattle.cache_ident.specs.Residents.{Resident, without}
use Rattle.phys_groups.specs.declared.rows.Row.{Row}
use Rattle.journal_laws.specs.flat_state.specs.State.{FlatState}
use Rattle.journal_laws.specs.flat_state.specs.Declaration.{agree}
use Rattle.journal_laws.specs.flat_state.specs.Dependence.{owner}
use Rattle.journal_laws.specs.run_journal.specs.Legal.{is_kernel, is_kind}

-- what is resident once these have left, one after another
abbrev pub without_all : List Ident → List Resident → List Resident
without_all [] rs = rs
without_all (ident ∷ idents) rs = without_all idents (without ident rs)

-- the flags of each row agree with its receiver: so no message row has a receiver
abbrev pub AreAgreed : FlatState → Type 0
AreAgreed s = (row : Row) → Contains s.rows row → agree row.flags (is_some row.receiver) ≡ true

-- 1 if it is locked, of the kind, and the kernel owns it
abbrev pub lock_of : FlatState → Resident → KernelNo → Kind → ℕ
lock_of s r kernel kind = if r.locked && (is_kind r.ident.kind kind && is_kernel kernel (owner s r.name)) then 1 else 0
