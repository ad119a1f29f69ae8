-- Changes of pages that are made of rows, and which of them rights allow.
use Rattle.std.proofs.Common.{◌≡◌, ◌/◌, Bool, true, false, List, [], ◌∷◌, map, refl, sym, ◌∙◌, subst, eqb-true}
use Rattle.std.proofs.lemmas.Simd.{map-map}
use Rattle.std.specs.Prelude.{if◌then◌else◌, ◌==◌}
use Rattle.phys_groups.specs.declared.rows.Row.{Row}
use Rattle.phys_groups.specs.Translation.{right_on}
use Rattle.flat_state.specs.rv32_exec.specs.declared.statuses.Access.{Access}
use Rattle.flat_state.specs.rv32_exec.specs.declared.statuses.Access.TheVariants.{Fetch, Read, Write}
use Rattle.flat_state.specs.rv32_exec.specs.Pages.{Page, put_bytes, put_in_frame, mark, mark_page}
use Rattle.flat_state.specs.rv32_exec.specs.Changes.{Change, Marked, Put, all_changed}
use Rattle.flat_state.specs.rv32_exec.proofs.StepChanges.{changed_by, all_changed-is}
use Rattle.flat_state.proofs.StepKeeps.{changed_keeps}

-- pages made of rows, and then changed, are made of rows
pub all_changed-map : (cs : List Change) (h : Row → Page) (rs : List Row) → all_changed cs (map h rs) ≡ map (λ r. changed_by cs (h r)) rs
all_changed-map cs h rs = all_changed-is cs (map h rs) ∙ map-map (changed_by cs) h rs

-- each number is put into a frame whose group has its write bit
abbrev pub AreAllowed : List (Bool × Bool) → List Change → Type 0
AreAllowed rights [] = Unit {0}
AreAllowed rights (Marked number access ∷ cs) = AreAllowed rights cs
AreAllowed rights (Put frame count at value ∷ cs) = ((right_on rights (frame / 128)).1 ≡ true) × AreAllowed rights cs

mark_keeps_bytes : (access : Access) (p : Page) → (mark access p).bytes ≡ p.bytes
mark_keeps_bytes Fetch p = refl
mark_keeps_bytes Read p = refl
mark_keeps_bytes Write p = refl

-- a page of a frame whose group lacks the write bit keeps its bytes
pub bytes_stay : (rights : List (Bool × Bool)) (cs : List Change) → AreAllowed rights cs → (p : Page) → (right_on rights (p.frame / 128)).1 ≡ false → (changed_by cs p).bytes ≡ p.bytes
bytes_stay rights [] allowed p off = refl
bytes_stay rights (Marked number access ∷ cs) allowed p off =
    bytes_stay rights cs allowed (mark_page number access p) (subst (λ f. (right_on rights (f / 128)).1 ≡ false) (sym (changed_keeps (Marked number access) p).frame) off)
    ∙ by_test (p.number == number)
  where
    by_test : (b : Bool) → (if b then mark access p else p).bytes ≡ p.bytes
    by_test true = mark_keeps_bytes access p
    by_test false = refl
bytes_stay rights (Put frame count at value ∷ cs) allowed p off =
    bytes_stay rights cs allowed.1 (put_in_frame frame count at value p) (subst (λ f. (right_on rights (f / 128)).1 ≡ false) (sym (changed_keeps (Put frame count at value) p).frame) off)
    ∙ by_test (p.frame == frame) refl
  where
    by_test : (b : Bool) → (p.frame == frame) ≡ b → (if b then record p { bytes = put_bytes count p.bytes at value } else p).bytes ≡ p.bytes
    by_test false same = refl
    by_test true same =
        let here : p.frame ≡ frame = eqb-true p.frame frame same in
        let on : (right_on rights (p.frame / 128)).1 ≡ true = subst (λ f. (right_on rights (f / 128)).1 ≡ true) (sym here) allowed.0 in
        let clash : true ≡ false = sym on ∙ off in
        cc
