-- The first of some tests that fails.
use Rattle.std.proofs.Common.{◌≡◌, Bool, true, false, Option, Some, None, Result, Err, refl, ◌∙◌, ap, subst}
use Rattle.std.specs.Prelude.{if◌then◌else◌}
use Rattle.std.specs.Option.{option_map, option_or}
use Rattle.std.specs.Result.{result_err}

-- the error that a call answers is the one that another gave it
pub err_shown : {T E : Type 0} (r : Result T E) (x : E) → (y : E) × (r ≡ Err y) × (y ≡ x) → result_err r ≡ Some x
err_shown {T} {E} r x p = ap result_err p.1 ∙ ap (λ (y : E). Some y) p.2

module _ {T : Type 0} where
  -- a test that passes
  pub passes_if : (b : Bool) (e : T) → None ≡ (if b then None else Some e) → b ≡ true
  passes_if true e is = refl
  passes_if false e is = absurd (cc)

  pub passes_unless : (b : Bool) (e : T) → None ≡ (if b then Some e else None) → b ≡ false
  passes_unless true e is = absurd (cc)
  passes_unless false e is = refl

  pub none_mapped : {X : Type 0} (f : X → T) (o : Option X) → None ≡ option_map f o → o ≡ None
  none_mapped f None is = refl
  none_mapped f (Some x) is = absurd (cc)

  -- the first one fails
  pub first_fails : (a b : Option T) (e : T) → Some e ≡ a → Some e ≡ option_or a b
  first_fails a b e fails = subst (λ (o : Option T). Some e ≡ option_or o b) fails refl

  -- the first one passes, and the others say what they say
  pub first_passes : (a b o : Option T) → None ≡ a → o ≡ b → o ≡ option_or a b
  first_passes a b o passes others = subst (λ (x : Option T). o ≡ option_or x b) passes others

  -- where the first of two passes, both do
  pub both_pass : (a b : Option T) → None ≡ option_or a b → (None ≡ a) × (None ≡ b)
  both_pass None b passes = (refl, passes)
  both_pass (Some x) b passes = absurd (cc)

  -- a further test behind three
  pub one_more_test : (a b c d o : Option T) → None ≡ option_or a (option_or b c) → o ≡ d → o ≡ option_or a (option_or b (option_or c d))
  one_more_test a b c d o pass is =
      let first = both_pass a (option_or b c) pass in
      let second = both_pass b c first.1 in
      first_passes a (option_or b (option_or c d)) o first.0 (first_passes b (option_or c d) o second.0 (first_passes c d o second.1 is))
