-- Going along the parts of an executable: what is declared so far, and the frame of the next part.
use Rattle.std.proofs.Common.{◌≡◌, ℕ, zero, suc, ◌+◌, ◌^◌, ◌<◌, ◌≤◌, List, [], ◌∷◌, ◌++◌, length, drop, Some, None, refl, sym, ap, subst, ◌∙◌, append_assoc, arith}
use Rattle.std.specs.List.{slice_get, sum_by, AllByRecursion}
use Rattle.std.proofs.lemmas.List.{append-nil, drop_all}
use Rattle.std.proofs.lemmas.List.Sums.{sum_by-cons}
use Rattle.std.proofs.lemmas.Option.{same_Some}
use Rattle.flat_state.specs.declared.events.Decl.{Decl}
use Rattle.elf_image.specs.declared.images.Part.{Part}
use Rattle.image_decls.specs.Declarations.{page_count, each}

pub record Along (declares : ℕ → Part → List Decl) (start now : List Decl) (frame next : ℕ) (parts : List Part) (i : ℕ) : Type 0 where
  pub made : now ++ each declares next (drop i parts) ≡ start ++ each declares frame parts
  pub few : next + sum_by (λ part. part.size) (drop i parts) < 2 ^ 32

pub at_start : (declares : ℕ → Part → List Decl) (start : List Decl) (frame : ℕ) (parts : List Part) → frame + sum_by (λ part. part.size) parts < 2 ^ 32 → Along declares start start frame frame parts 0
at_start declares start frame parts few = record { made = refl; few = few }

cut : (parts : List Part) (i : ℕ) (part : Part) → slice_get parts i ≡ Some part → drop i parts ≡ part ∷ drop (i + 1) parts
cut [] i part e = absurd cc
cut (p ∷ ps) zero part e = ap (λ (x : Part). x ∷ ps) (same_Some _ _ e)
cut (p ∷ ps) (suc i) part e =
    let more : suc i + 1 ≡ suc (i + 1) = omega arith in
    rw more (cut ps i part e)

-- what holds of all parts holds of each
pub of_part : (P : Part → Type 0) (parts : List Part) (i : ℕ) (part : Part) → slice_get parts i ≡ Some part → AllByRecursion P parts → P part
of_part P [] i part e all = absurd cc
of_part P (p ∷ ps) zero part e all = subst P (same_Some _ _ e) all.0
of_part P (p ∷ ps) (suc i) part e all = of_part P ps i part e all.1

pub few_pages : (declares : ℕ → Part → List Decl) (start now : List Decl) (frame next : ℕ) (parts : List Part) (i : ℕ) (part : Part) → slice_get parts i ≡ Some part → Along declares start now frame next parts i → next + part.size < 2 ^ 32
few_pages declares start now frame next parts i part e a =
    let few : next + sum_by (λ (part : Part). part.size) (part ∷ drop (i + 1) parts) < 2 ^ 32 = subst (λ (ps : List Part). next + sum_by (λ (part : Part). part.size) ps < 2 ^ 32) (cut parts i part e) a.few in
    let split : sum_by (λ (part : Part). part.size) (part ∷ drop (i + 1) parts) ≡ part.size + sum_by (λ (part : Part). part.size) (drop (i + 1) parts) = sum_by-cons (λ (part : Part). part.size) part (drop (i + 1) parts) in
    omega (arith, few, split)

pub further : (declares : ℕ → Part → List Decl) (start now new : List Decl) (frame next behind : ℕ) (parts : List Part) (i : ℕ) (part : Part) → slice_get parts i ≡ Some part → new ≡ now ++ declares next part → behind ≡ next + page_count part → page_count part ≤ part.size → Along declares start now frame next parts i → Along declares start new frame behind parts (i + 1)
unfolding each
further declares start now new frame next behind parts i part e pushed moved few a =
    let rest = drop (i + 1) parts in
    let is : drop i parts ≡ part ∷ rest = cut parts i part e in
    let left : now ++ each declares next (part ∷ rest) ≡ start ++ each declares frame parts = subst (λ (ps : List Part). now ++ each declares next ps ≡ start ++ each declares frame parts) is a.made in
    let room : next + sum_by (λ (part : Part). part.size) (part ∷ rest) < 2 ^ 32 = subst (λ (ps : List Part). next + sum_by (λ (part : Part). part.size) ps < 2 ^ 32) is a.few in
    let split : sum_by (λ (part : Part). part.size) (part ∷ rest) ≡ part.size + sum_by (λ (part : Part). part.size) rest = sum_by-cons (λ (part : Part). part.size) part rest in
    record {
      made = ap (λ (x : List Decl). x ++ each declares behind rest) pushed ∙ append_assoc now (declares next part) (each declares behind rest) ∙ ap (λ (n : ℕ). now ++ (declares next part ++ each declares n rest)) moved ∙ left;
      few = omega (arith, room, split, moved, few);
    }

-- no part is left at that place
pub past : (declares : ℕ → Part → List Decl) (start now : List Decl) (frame next : ℕ) (parts : List Part) (i : ℕ) → length parts ≤ i → Along declares start now frame next parts i → now ≡ start ++ each declares frame parts
unfolding each
past declares start now frame next parts i h a =
    let none : drop i parts ≡ [] = drop_all i parts h in
    sym (append-nil now) ∙ sym (ap (λ (ps : List Part). now ++ each declares next ps) none) ∙ a.made

pub not_past : (parts : List Part) (i : ℕ) → None ≡ slice_get parts i → i < length parts → ⊥
not_past [] i e h = omega (arith, h)
not_past (p ∷ ps) zero e h = absurd cc
not_past (p ∷ ps) (suc i) e h = not_past ps i e (omega (arith, h))
