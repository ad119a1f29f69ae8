-- What one call after another does to bytes that are told.
use Rattle.std.proofs.Common.{ℕ, ◌+◌, ◌-◌, List, Option, length, take, drop, subst, sym}
use Rattle.std.proofs.Math.Seq.{take-add}
use Rattle.std.proofs.lemmas.List.{take_rest}
use Rattle.std.proofs.KnownBytes.{Appends-trans}
use Rattle.std.specs.Io.KnownBytes.{Appends}

-- n bytes of the rest of a text were appended after its first m
pub Appends-next : (a b c : Option (List ℕ)) (text : List ℕ) (m n : ℕ) → Appends a b (take m text)
    → Appends b c (take n (take (length text - m) (drop m text))) → Appends a c (take (m + n) text)
Appends-next a b c text m n before after =
    let next : Appends b c (take n (drop m text)) = subst (λ piece. Appends b c (take n piece)) (take_rest text m) after in
    subst (Appends a c) (sym (take-add m n text)) (Appends-trans a b c (take m text) (take n (drop m text)) before next)
