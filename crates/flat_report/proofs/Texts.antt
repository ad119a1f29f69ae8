-- Lists of lines, a line more at a time.
use Rattle.std.proofs.lemmas.List.Sums.{sum_by-cons}
use Rattle.std.proofs.Common.{arith, ◌≡◌, ℕ, suc, ◌+◌, ◌<◌, List, ◌++◌, length, get_or, drop, sym, ◌∙◌, append_assoc, add-one, ◌≤◌, Some, None, inl, inr}
use Rattle.std.specs.Prelude.{sum_by}
use Rattle.std.specs.List.{slice_get}
use Rattle.std.proofs.lemmas.Option.{slice_get_cases}
use Rattle.std.specs.List.{flat_map}
use Rattle.std.proofs.Math.Seq.{drop-cons}
use Rattle.cache_ident.specs.declared.names.KernelNo.{KernelNo}
use Rattle.flat_state.specs.declared.records.FlatThread.{FlatThread}
use Rattle.phys_groups.specs.declared.rows.Row.{Row}
use Rattle.report_text.specs.Reports.{line_of_space, line_of_thread, lines_of_spaces}

-- one line, and then the rest
pub spaces_more : (out : List ℕ) (rows : List Row) (i : ℕ) (kernels : List KernelNo) → i < length kernels
    → (out ++ line_of_space rows i) ++ lines_of_spaces rows (i + 1) (drop (i + 1) kernels) ≡ out ++ lines_of_spaces rows i (drop i kernels)
spaces_more out rows i kernels lt =
    simp add-one (rw (drop-cons kernels i (record { 0 = 0 }) lt) (simp add-one (append_assoc out (line_of_space rows i) (lines_of_spaces rows (suc i) (drop (suc i) kernels)))))

pub threads_more : (out : List ℕ) (threads : List FlatThread) (i : ℕ) (t : FlatThread) → i < length threads → get_or threads i t ≡ t
    → (out ++ line_of_thread t) ++ flat_map line_of_thread (drop (i + 1) threads) ≡ out ++ flat_map line_of_thread (drop i threads)
threads_more out threads i t lt is =
    simp add-one (rw (drop-cons threads i t lt, is) (append_assoc out (line_of_thread t) (flat_map line_of_thread (drop (suc i) threads))))

-- one output more
pub outputs_more : (bytes : ℕ) (threads : List FlatThread) (i : ℕ) (t : FlatThread) → i < length threads → get_or threads i t ≡ t
    → bytes + length t.output + sum_by (λ t. length t.output) (drop (i + 1) threads) ≡ bytes + sum_by (λ t. length t.output) (drop i threads)
outputs_more bytes threads i t lt is = simp add-one (rw (drop-cons threads i t lt, is, sum_by-cons (λ (t : FlatThread). length t.output) t (drop (suc i) threads)) (omega arith))

some_is_none : {X : Type 0} (x : X) (P : Type 0) → Some x ≡ None → P
some_is_none x P e = absurd cc

-- where a list has nothing, it has ended
pub none_is_past : {X : Type 0} (xs : List X) (i : ℕ) → slice_get xs i ≡ None → length xs ≤ i
none_is_past xs i e = elim (slice_get_cases xs i).1 [ inl h ↦ some_is_none h.0 _ (sym h.2 ∙ e) | inr h ↦ h.0 ]
