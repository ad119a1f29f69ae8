-- A step keeps pc aligned, and each page its number, its frame and its 4,096 bytes.
use Rattle.std.proofs.Common.{◌≡◌, ℕ, ◌+◌, ◌*◌, ◌%◌, ◌≤◌, Bool, true, false, List, [], ◌∷◌, length, Some, slice_get, refl, sym, ◌∙◌, subst}
use Rattle.std.specs.Prelude.{if◌then◌else◌, ◌==◌}
use Rattle.rv32_exec.specs.declared.contexts.Context.{Context}
use Rattle.rv32_exec.specs.declared.statuses.Access.{Access}
use Rattle.rv32_exec.specs.declared.statuses.Access.TheVariants.{Fetch, Read, Write}
use Rattle.rv32_exec.specs.Pages.{Page, put_bytes, mark}
use Rattle.rv32_exec.specs.Changes.{Change, Marked, Put, changed}
use Rattle.rv32_exec.specs.Steps.{After, after_step}
use Rattle.rv32_exec.proofs.StepChanges.{is_step, changed_by, all_changed-is}
use Rattle.flat_state.proofs.Places.{get_from_map}
use Rattle.flat_state.proofs.Storing.{length-put_bytes}

-- what any change keeps of a page
pub record Keeps (p q : Page) : Type 0 where
  pub number : q.number ≡ p.number
  pub frame : q.frame ≡ p.frame
  pub size : length q.bytes ≡ length p.bytes

mark_keeps : (access : Access) (p : Page) → Keeps p (mark access p)
mark_keeps Fetch p = record { number = refl; frame = refl; size = refl }
mark_keeps Read p = record { number = refl; frame = refl; size = refl }
mark_keeps Write p = record { number = refl; frame = refl; size = refl }

pub changed_keeps : (change : Change) (p : Page) → Keeps p (changed change p)
changed_keeps (Marked number access) p = by_test (p.number == number)
  where
    by_test : (b : Bool) → Keeps p (if b then mark access p else p)
    by_test true = mark_keeps access p
    by_test false = record { number = refl; frame = refl; size = refl }
changed_keeps (Put frame count at value) p = by_test (p.frame == frame)
  where
    by_test : (b : Bool) → Keeps p (if b then record p { bytes = put_bytes count p.bytes at value } else p)
    by_test true = record { number = refl; frame = refl; size = length-put_bytes count p.bytes at value }
    by_test false = record { number = refl; frame = refl; size = refl }

pub changed_by_keeps : (changes : List Change) (p : Page) → Keeps p (changed_by changes p)
changed_by_keeps [] p = record { number = refl; frame = refl; size = refl }
changed_by_keeps (change ∷ changes) p =
    let first = changed_keeps change p in
    let rest = changed_by_keeps changes (changed change p) in
    record { number = rest.number ∙ first.number; frame = rest.frame ∙ first.frame; size = rest.size ∙ first.size }

-- a page of a memory of that size, with all its bytes
pub record IsPageOf (size : ℕ) (p : Page) : Type 0 where
  pub frame : 4096 * p.frame + 4096 ≤ size
  pub whole : length p.bytes ≡ 4096

pub record ArePagesOf (size : ℕ) (ps : List Page) : Type 0 where
  pub each : (k : ℕ) (p : Page) → slice_get ps k ≡ Some p → IsPageOf size p

-- pc is aligned, and the pages are those of a memory of that size
pub record IsKept (size : ℕ) (after : After) : Type 0 where
  pub aligned : after.context.pc % 4 ≡ 0
  pub pages : ArePagesOf size after.pages

pub step_keeps : (size : ℕ) (c : Context) (ps : List Page) → c.pc % 4 ≡ 0 → ArePagesOf size ps → IsKept size (after_step c ps)
step_keeps size c ps aligned are =
    let step = is_step c ps in
    record {
      aligned = step.aligned aligned;
      pages = record {
        each = λ k p there.
            let old = get_from_map (changed_by step.changes) ps k p (subst (λ (qs : List Page). slice_get qs k ≡ Some p) (step.here ∙ all_changed-is step.changes ps) there) in
            let kept = changed_by_keeps step.changes old.0 in
            let is = are.each k old.0 old.1 in
            subst (IsPageOf size) old.2 (record { frame = subst (λ f. 4096 * f + 4096 ≤ size) (sym kept.frame) is.frame; whole = kept.size ∙ is.whole });
      };
    }
