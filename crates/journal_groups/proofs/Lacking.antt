-- Those that left, one after another.
use Rattle.std.proofs.Common.{◌≡◌, ◌↔◌, ℕ, ◌+◌, ◌-◌, ◌<◌, List, length, get_or, map, Option, Some, None, IfSome, slice_get, ap, sym, ◌∙◌, subst, inl, inr, arith}
use Rattle.std.specs.Option.{option_map}
use Rattle.std.proofs.lemmas.Bool.{cases_lt}
use Rattle.std.proofs.lemmas.List.{get_or_default, length-map}
use Rattle.std.proofs.lemmas.Option.{slice_get-map}
use Rattle.std.specs.declared.cmp.Ordering.TheVariants.{Less}
use Rattle.cache_ident.specs.Residents.{Resident}
use Rattle.residents.specs.depend_lists.specs.declared.nodes.Node.{Node}
use Rattle.residents.specs.writeback_order.specs.Order.{leaving_cmp}
use Rattle.residents.specs.flat_state.specs.State.{FlatState}
use Rattle.residents.specs.run_journal.specs.Groups.{HasParents}
use Rattle.journal_tables.specs.journal_laws.specs.Leaving.{LacksParent}
use Rattle.journal_groups.specs.declared.gone.Gone.{Gone}
use Rattle.journal_groups.specs.Leaving.{node_of_gone, IsBehindLast, LackOneEach}
use Rattle.journal_groups.proofs.Rising.{IsLastBefore}

-- ---- the last one

if_mapped : (P : Node → Type 0) (o : Option Gone) → IfSome o (λ gone. P (node_of_gone gone)) ↔ IfSome (option_map node_of_gone o) P
if_mapped P None = (λ t. t, λ t. t)
if_mapped P (Some gone) = (λ p. p, λ p. p)

pub last_is : (all : List Gone) (gone : Gone) → IsBehindLast all gone ↔ IsLastBefore (map node_of_gone all) (node_of_gone gone)
last_is all gone =
    let P : Node → Type 0 = λ last. leaving_cmp last (node_of_gone gone) ≡ Less in
    let both = if_mapped P (slice_get all (length all - 1)) in
    let there : slice_get (map node_of_gone all) (length (map node_of_gone all) - 1) ≡ option_map node_of_gone (slice_get all (length all - 1)) = ap (λ (n : ℕ). slice_get (map node_of_gone all) (n - 1)) (length-map all node_of_gone) ∙ slice_get-map node_of_gone all (length all - 1) in
    (λ behind. subst (λ (o : Option Node). IfSome o P) (sym there) (both.0 behind), λ before. both.1 (subst (λ (o : Option Node). IfSome o P) there before))

-- ---- each of them

-- each of the first so many lacks something
abbrev pub LackTo : FlatState → List Resident → List Gone → ℕ → Type 0
LackTo s rs all n = (i : ℕ) (gone : Gone) → i < n → i < length all → get_or all i gone ≡ gone → LacksParent s rs gone.name

pub lack_none : (s : FlatState) (rs : List Resident) (all : List Gone) → LackTo s rs all 0
lack_none s rs all i gone low within is = absurd (omega arith)

pub lack_more : (s : FlatState) (rs : List Resident) (all : List Gone) (n : ℕ) (e : Gone) → n < length all → LackTo s rs all n → LacksParent s rs (get_or all n e).name → LackTo s rs all (n + 1)
lack_more s rs all n e n_within before here i gone low within is = elim (cases_lt i n) [
  | inl below ↦ before i gone below within is
  | inr above ↦
      let last : i ≡ n = omega (arith, low) in
      subst (λ (g : Gone). LacksParent s rs g.name) (get_or_default all n e gone n_within ∙ ap (λ (k : ℕ). get_or all k gone) (sym last) ∙ is) here
]

pub lack_all : (s : FlatState) (rs : List Resident) (all : List Gone) → LackTo s rs all (length all) → LackOneEach s rs all
lack_all s rs all lack gone there = lack there.0 gone there.1 there.1 there.2

pub has_all : (s : FlatState) (rs : List Resident) (all : List Gone) (n : ℕ) (e : Gone) → n < length all → HasParents s rs (get_or all n e).name → LackOneEach s rs all → ⊥
has_all s rs all n e within has lack =
    let lacks = lack (get_or all n e) (n, within, get_or_default all n (get_or all n e) e within) in
    lacks.2 (has lacks.0 lacks.1)
