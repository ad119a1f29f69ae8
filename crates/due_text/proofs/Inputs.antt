-- What is known of an input, passed on.
use Rattle.std.proofs.Common.{◌≡◌, ℕ, ◌<◌, ◌≤◌, List, length, Option, Some, Result, Ok, Err, subst, arith}
use Rattle.std.specs.Prelude.{IfSome}
use Rattle.due_text.specs.declared.input.NoText.{NoText}
use Rattle.due_text.specs.declared.input.NoText.TheVariants as no_text
use Rattle.due_text.specs.Inputs.{IsWhole, IsTooLong, most_bytes, OnFailed}

-- what is known of a fault of the source
pub failed_by : {X : Type 0} (r : Result X NoText) (P Q : Type 0) → (P → Q) → OnFailed r P → OnFailed r Q
failed_by (Ok x) P Q more h = h
failed_by (Err no_text.ReadFault) P Q more h = more h
failed_by (Err no_text.NoMemory) P Q more h = h

-- an input that is told, of bytes that the source had
pub same_input : (bytes left : Option (List ℕ)) (input told : List ℕ) → bytes ≡ Some told → IsWhole bytes left input → input ≡ told
same_input bytes left input told is from = subst (λ (b : Option (List ℕ)). IfSome b (λ t. input ≡ t)) is from.0

-- what is told and isn't too long
pub not_too_long : (bytes left : Option (List ℕ)) (told : List ℕ) → bytes ≡ Some told → length told ≤ most_bytes → IsTooLong bytes left → ⊥
not_too_long bytes left told is few long =
    let more : most_bytes < length told = subst (λ (b : Option (List ℕ)). IfSome b (λ bs. most_bytes < length bs)) is long.0 in
    omega (arith, few, more)
