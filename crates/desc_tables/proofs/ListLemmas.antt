-- Lists of which some elements were changed, added or taken away.
use Rattle.std.proofs.Common.{◌≡◌, ℕ, Bool, true, false, cond, List, [], ◌∷◌, map, filter, length, Option, Some, Contains, refl, ap, ap₂, sym, ◌∙◌}
use Rattle.std.specs.List.{count_by, find}
use Rattle.std.specs.Option.{option_map}
use Rattle.std.proofs.lemmas.List.{length-map}
use Rattle.std.proofs.lemmas.List.Sums.{length-filter}
use Rattle.desc_groups.specs.flat_laws.proofs.Members.{Contains-here, Contains-behind}

module _ {X : Type 0} where
  -- two tests that agree on the elements keep the same
  pub filter-agree : (p q : X → Bool) (xs : List X) → ((x : X) → Contains xs x → p x ≡ q x) → filter p xs ≡ filter q xs
  filter-agree p q [] same = refl
  filter-agree p q (x ∷ xs) same =
      ap (λ (b : Bool). cond b (x ∷ filter p xs) (filter p xs)) (same x (Contains-here x xs))
      ∙ ap (λ (ys : List X). cond (q x) (x ∷ ys) ys) (filter-agree p q xs (λ y there. same y (Contains-behind x xs y there)))

  -- what a second test keeps of what it would keep anyway
  pub filter-kept : (p keep : X → Bool) (xs : List X) → ((x : X) → Contains xs x → p x ≡ true → keep x ≡ true) → filter p (filter keep xs) ≡ filter p xs
  filter-kept p keep [] kept = refl
  filter-kept p keep (x ∷ xs) kept = by (keep x) refl (p x) refl (filter-kept p keep xs (λ y there. kept y (Contains-behind x xs y there)))
    where
      by : (k : Bool) → keep x ≡ k → (b : Bool) → p x ≡ b → filter p (filter keep xs) ≡ filter p xs → filter p (cond k (x ∷ filter keep xs) (filter keep xs)) ≡ cond b (x ∷ filter p xs) (filter p xs)
      by true k_is true is rest = ap (λ (b : Bool). cond b (x ∷ filter p (filter keep xs)) (filter p (filter keep xs))) is ∙ ap (λ (ys : List X). x ∷ ys) rest
      by true k_is false is rest = ap (λ (b : Bool). cond b (x ∷ filter p (filter keep xs)) (filter p (filter keep xs))) is ∙ rest
      by false k_is true is rest = absurd (let passes : keep x ≡ true = kept x (Contains-here x xs) is in cc)
      by false k_is false is rest = rest

  -- and what a search finds that finds only what is kept
  pub find-kept : (p keep : X → Bool) (xs : List X) → ((x : X) → p x ≡ true → keep x ≡ true) → find p (filter keep xs) ≡ find p xs
  find-kept p keep [] kept = refl
  find-kept p keep (x ∷ xs) kept = by (keep x) refl (p x) refl (find-kept p keep xs kept)
    where
      by : (k : Bool) → keep x ≡ k → (b : Bool) → p x ≡ b → find p (filter keep xs) ≡ find p xs → find p (cond k (x ∷ filter keep xs) (filter keep xs)) ≡ cond b (Some x) (find p xs)
      by true k_is b is rest = ap (λ (b : Bool). cond b (Some x) (find p (filter keep xs))) is ∙ ap (λ (o : Option X). cond b (Some x) o) rest
      by false k_is true is rest = absurd (let passes : keep x ≡ true = kept x is in cc)
      by false k_is false is rest = rest

  -- what is found among changed elements
  pub find-changed : (q : X → Bool) (f : X → X) (xs : List X) → ((x : X) → Contains xs x → q (f x) ≡ q x) → find q (map f xs) ≡ option_map f (find q xs)
  find-changed q f [] same = refl
  find-changed q f (x ∷ xs) same =
      ap (λ (b : Bool). cond b (Some (f x)) (find q (map f xs))) (same x (Contains-here x xs))
      ∙ ap (cond (q x) (Some (f x))) (find-changed q f xs (λ y there. same y (Contains-behind x xs y there)))
      ∙ by (q x)
    where
      by : (b : Bool) → cond b (Some (f x)) (option_map f (find q xs)) ≡ option_map f (cond b (Some x) (find q xs))
      by true = refl
      by false = refl

  -- what is kept of changed elements
  pub map-filter-changed : {Y : Type 0} (g : X → Y) (p q : X → Bool) (f : X → X) (xs : List X) → ((x : X) → Contains xs x → (q (f x) ≡ p x) × (g (f x) ≡ g x)) → map g (filter q (map f xs)) ≡ map g (filter p xs)
  map-filter-changed g p q f [] same = refl
  map-filter-changed g p q f (x ∷ xs) same =
      ap (λ (b : Bool). map g (cond b (f x ∷ filter q (map f xs)) (filter q (map f xs)))) (same x (Contains-here x xs)).0
      ∙ by (p x) (map-filter-changed g p q f xs (λ y there. same y (Contains-behind x xs y there)))
    where
      by : (b : Bool) → map g (filter q (map f xs)) ≡ map g (filter p xs) → map g (cond b (f x ∷ filter q (map f xs)) (filter q (map f xs))) ≡ map g (cond b (x ∷ filter p xs) (filter p xs))
      by true rest = ap₂ (λ y ys. y ∷ ys) (same x (Contains-here x xs)).1 rest
      by false rest = rest

  pub count_by-changed : (p : X → Bool) (f : X → X) (xs : List X) → ((x : X) → Contains xs x → p (f x) ≡ p x) → count_by p (map f xs) ≡ count_by p xs
  count_by-changed p f xs same =
      let unit : X → ℕ = λ x. 0 in
      sym (length-filter p (map f xs)) ∙ sym (length-map (filter p (map f xs)) unit) ∙ ap length (map-filter-changed unit p p f xs (λ x there. (same x there, refl))) ∙ length-map (filter p xs) unit ∙ length-filter p xs
