-- Parts of the numbers of a lock, one behind another, and what they have seen.
use Rattle.std.proofs.Common.{◌≡◌, ℕ, ◌<◌, ◌≤◌, List, [], ◌∷◌, ◌++◌, length, refl, sym, ◌∙◌, ap, subst, append_assoc, append-nil, arith}
use Rattle.std.specs.Prelude.{All}
use Rattle.std.specs.List.{AllByRecursion, AllZip}
use Rattle.std.proofs.lemmas.List.Elements.{All-from_recursion, recursion_from_All}
use mathlib.Core.List.{IsPrefix}
use Rattle.turn_lock.specs.declared.history.History.{Ghosts}
use Rattle.turn_lock.specs.declared.pass.Pass.{Pass}
use Rattle.turn_lock.specs.declared.turn.Turn.{Turn}
use Rattle.turn_lock.specs.Lists.{longer, numbers, shorter}
use Rattle.turn_lock.specs.Passes.{IsPassOf, first_of, end_of, seen_of}
use Rattle.turn_lock.proofs.Lists.{all_weaker, longer_shorter}
use Rattle.processors.specs.Parts.{AreParts, HasGoneOn}

module _ {X E : Type 0} {g : Ghosts X E} (lock : Turn X E) where
  -- one more part behind the last
  pub part_more : (first end : ℕ) (ps : List (Pass X E g)) (p : Pass X E g) → AreParts lock first end ps → IsPassOf lock p → first_of p ≡ end → end < end_of p → AreParts lock first (end_of p) (ps ++ p ∷ [])
  part_more first end [] p are its from wide = (its, from ∙ sym are, subst (λ (n : ℕ). n < end_of p) (sym are) wide, refl)
  part_more first end (q ∷ ps) p are its from wide = (are.0, are.1, are.2, part_more (end_of q) end ps p are.3 its from wide)

module _ {A : Type 0} where
  pub prefix_self : (xs : List A) → IsPrefix xs xs
  prefix_self xs = ([], append-nil xs)

  pub prefix_then : (xs ys zs : List A) → IsPrefix xs ys → IsPrefix ys zs → IsPrefix xs zs
  prefix_then xs ys zs first second = (first.0 ++ second.0, sym (append_assoc xs first.0 second.0) ∙ (ap (λ (l : List A). l ++ second.0) first.1 ∙ second.1))

  -- what is the longer of two lists, and begins with the shorter, begins with either
  pub both_begin : (xs ys zs : List A) → zs ≡ longer xs ys → IsPrefix (shorter xs ys) zs → IsPrefix xs zs × IsPrefix ys zs
  both_begin xs ys zs =
      longer_shorter (λ (long short : List A). zs ≡ long → IsPrefix short zs → IsPrefix xs zs × IsPrefix ys zs) xs ys
      (λ _ is begins. (begins, subst (IsPrefix ys) (sym is) (prefix_self ys)))
      (λ _ is begins. (subst (IsPrefix xs) (sym is) (prefix_self xs), begins))

-- who began what was seen begins what has more
pub all_begin : {X E : Type 0} {g : Ghosts X E} (ps : List (Pass X E g)) (seen more : List E) → IsPrefix seen more → AllByRecursion (λ p. IsPrefix (seen_of p) seen) ps → AllByRecursion (λ p. IsPrefix (seen_of p) more) ps
all_begin ps seen more further = all_weaker (λ p. IsPrefix (seen_of p) seen) (λ p. IsPrefix (seen_of p) more) (λ p begins. prefix_then (seen_of p) seen more begins further) ps

pub nothing_left : {X : Type 0} (xs : List X) → 0 ≡ length xs → xs ≡ []
nothing_left [] none = refl
nothing_left (x ∷ xs) none = absurd (omega arith)

-- ---- passes that go on side by side

module _ {X E : Type 0} {g : Ghosts X E} (lock : Turn X E) where
  -- parts that went on are parts still
  pub parts_gone_on : (first end : ℕ) (ps qs : List (Pass X E g)) → AreParts lock first end ps → AllZip (HasGoneOn lock) ps qs → AreParts lock first end qs
  parts_gone_on first end [] [] are gone = are
  parts_gone_on first end [] (q ∷ qs) are gone = absurd gone
  parts_gone_on first end (p ∷ ps) [] are gone = absurd gone
  parts_gone_on first end (p ∷ ps) (q ∷ qs) are gone =
      let to = gone.0.range.1 in (
        gone.0.of_lock,
        gone.0.range.0 ∙ are.1,
        subst (λ (n : ℕ). first < n) (sym to) are.2,
        subst (λ (n : ℕ). AreParts lock n end qs) (sym to) (parts_gone_on (end_of p) end ps qs are.3 gone.1),
      )

  its_processors : (first end count most : ℕ) (ps : List (Pass X E g)) → count ≤ most → AreParts lock first end ps → AllByRecursion (λ p. first_of p < count) ps → AllByRecursion (λ p. IsPassOf lock p × (first_of p < most)) ps
  its_processors first end count most [] within are few = tt
  its_processors first end count most (p ∷ ps) within are few = ((are.0, omega (arith, few.0)), its_processors (end_of p) end count most ps within are.3 few.1)

  -- they are of the lock, and begin with a processor's number
  pub are_processors : (first end count most : ℕ) (ps : List (Pass X E g)) → count ≤ most → AreParts lock first end ps → All (λ p. first_of p < count) ps → All (λ p. IsPassOf lock p × (first_of p < most)) ps
  are_processors first end count most ps within are few =
      All-from_recursion (λ p. IsPassOf lock p × (first_of p < most)) ps (its_processors first end count most ps within are (recursion_from_All (λ p. first_of p < count) ps few))

  -- what all parts of the numbers had seen begins what has more than each of them saw later
  pub seen_by_parts : (ps qs : List (Pass X E g)) (seen more : List E) → AreParts lock 0 numbers ps → AllZip (HasGoneOn lock) ps qs → All (λ p. seen_of p ≡ seen) ps → All (λ q. IsPrefix (seen_of q) more) qs → IsPrefix seen more
  seen_by_parts [] qs seen more are gone had sees = absurd (omega (arith, are))
  seen_by_parts (p ∷ ps) [] seen more are gone had sees = absurd gone
  seen_by_parts (p ∷ ps) (q ∷ qs) seen more are gone had sees =
      prefix_then seen (seen_of q) more (subst (λ (s : List E). IsPrefix s (seen_of q)) (had 0 p (omega arith)) gone.0.begins) (sees 0 q (omega arith))
