-- What stays of a group where one more leaves, and when it is the group of what leaves last.
use Rattle.std.proofs.Common.{◌≡◌, ◌≢◌, ◌↔◌, ℕ, ◌+◌, Bool, cond, not, List, [], ◌∷◌, ◌++◌, map, count_by, Contains, IsTrue, refl, ap, sym, ◌∙◌, subst, inl, inr, ◌⊎◌, arith}
use Rattle.std.specs.Prelude.{Result, Ok, Err, OnErr}
use Rattle.std.proofs.lemmas.Bool.{cases_Bool}
use Rattle.std.proofs.lemmas.List.{map-append}
use Rattle.std.proofs.lemmas.List.Elements.{Contains-push_cases, Contains-push, Contains-append_left}
use Rattle.std.proofs.lemmas.List.Kept.{AllPairs-filter}
use Rattle.cache_ident.specs.declared.idents.Ident.{Ident}
use Rattle.cache_ident.specs.declared.idents.Kind.{Kind}
use Rattle.cache_ident.specs.Rolls.{is_same}
use Rattle.cache_ident.proofs.RollLemmas.{same_ident}
use Rattle.cache_ident.specs.Residents.{Resident, without}
use Rattle.residents.specs.depend_lists.specs.declared.nodes.Node.{Node}
use Rattle.sorted_list.specs.Sorted.{IsRising}
use Rattle.residents.specs.writeback_order.specs.Order.{leaving_cmp}
use Rattle.residents.specs.flat_state.specs.State.{FlatState}
use Rattle.residents.specs.flat_state.specs.WellFormed.{IsWellFormed}
use Rattle.residents.specs.flat_state.proofs.Places.{count_by-cons}
use Rattle.residents.specs.flat_laws.proofs.Members.{Contains-map, Contains-from_map}
use Rattle.residents.specs.run_journal.specs.Groups.{node_of, IsGroup}
use Rattle.residents.specs.run_journal.specs.Legal.{is_kind, count_of, AreGood}
use Rattle.residents.specs.run_journal.proofs.Growth.{count-append}
use Rattle.residents.specs.run_journal.proofs.Others.{other_ident, without_cases, stays_without}
use Rattle.journal_tables.specs.journal_laws.specs.Leaving.{AreApart, HaveLeft, HaveOneEach, LacksParent}
use Rattle.journal_tables.specs.journal_laws.proofs.GroupLaw.{group_if, order_if}
use Rattle.journal_tables.specs.group_laws.proofs.Counting.{count-without}
use Rattle.journal_groups.specs.declared.gone.Gone.{Gone}
use Rattle.journal_groups.specs.declared.group.Group.{Group}
use Rattle.journal_groups.specs.Leaving.{gone_of, node_of_gone, IsLeaving, IsBehindLast, LackOneEach}
use Rattle.journal_groups.proofs.Rising.{IsLastBefore, rising_more, rising_front, rising_last}
use Rattle.journal_groups.proofs.Lacking.{last_is}

-- what holds holds on an error
pub on_err : {X E : Type 0} (r : Result X E) {P : Type 0} → P → OnErr r P
on_err (Ok x) p = tt
on_err (Err e) p = p

-- ---- counts

-- of each kind one fewer stays where one of that kind leaves
module _ (kind : Kind) where
  abbrev Is : Resident → Bool
  Is r = is_kind r.ident.kind kind

  abbrev one_if : Resident → ℕ
  one_if r = cond (Is r) 1 0

  count_without : (rs : List Resident) (r : Resident) → AreApart rs → Contains rs r → count_of rs kind ≡ count_of (without r.ident rs) kind + count_of (r ∷ []) kind
  count_without rs r apart there =
      let fewer = count-without Is r rs apart there in
      let last : count_of (r ∷ []) kind ≡ one_if r + 0 = count_by-cons Is r [] in
      omega arith

  -- what is kept of those that left has their kinds
  count_gone : (s : FlatState) (rs : List Resident) → count_by (λ (g : Gone). is_kind g.ident.kind kind) (map (gone_of s) rs) ≡ count_of rs kind
  count_gone s [] = refl
  count_gone s (r ∷ rs) =
      count_by-cons (λ (g : Gone). is_kind g.ident.kind kind) (gone_of s r) (map (gone_of s) rs)
      ∙ ap (λ (n : ℕ). one_if r + n) (count_gone s rs)
      ∙ sym (count_by-cons Is r rs)

  pub count_left : (group : Group) (s : FlatState) (before now : List Resident) (left : List Ident) → IsLeaving group s before now left → count_of before kind ≡ count_of now kind + count_by (λ (g : Gone). is_kind g.ident.kind kind) group.gone.items
  count_left group s before now left are =
      are.counts kind ∙ ap (λ (n : ℕ). count_of now kind + n) (sym (ap (count_by (λ (g : Gone). is_kind g.ident.kind kind)) are.kept ∙ count_gone s are.those))

-- ---- a group that stays

pub same_group : (old new : Group) → new.gone.items ≡ old.gone.items → new.rising ≡ old.rising → (s : FlatState) (before now : List Resident) (left : List Ident) → IsLeaving old s before now left → IsLeaving new s before now left
same_group old new gone rising s before now left are = record {
  those = are.those;
  idents = are.idents;
  kept = gone ∙ are.kept;
  rising = subst (λ (b : Bool). IsTrue b ↔ IsRising leaving_cmp (map (node_of s) are.those)) (sym rising) are.rising;
  one = are.one;
  apart = are.apart;
  whole = are.whole;
  good = are.good;
  there = are.there;
  out = are.out;
  stay = are.stay;
  all = are.all;
  counts = are.counts;
}

-- ---- one more leaves

nodes_kept : (s : FlatState) (rs : List Resident) → map node_of_gone (map (gone_of s) rs) ≡ map (node_of s) rs
nodes_kept s [] = refl
nodes_kept s (r ∷ rs) = ap (λ (ns : List Node). node_of s r ∷ ns) (nodes_kept s rs)

-- of one identifier there is one, or another
same_or : (before : List Resident) → HaveOneEach before → (a b : Resident) → Contains before a → Contains before b → (a ≡ b) ⊎ (a.ident ≢ b.ident)
same_or before one a b a_there b_there = elim (cases_Bool (is_same a.ident b.ident)) [
  | inl same ↦ inl (one.idents a b a_there b_there (same_ident a.ident b.ident same))
  | inr differs ↦ inr (other_ident a.ident b.ident differs)
]

module _ (s : FlatState) (before now : List Resident) (left : List Ident) (r : Resident) (r_there : Contains now r) where
  module _ (old new : Group) (are : IsLeaving old s before now left) (good : AreGood s (without r.ident now))
      (gone : Gone) (same_gone : gone ≡ gone_of s r)
      (kept : new.gone.items ≡ old.gone.items ++ gone ∷ [])
      (rising : IsTrue new.rising ↔ (IsTrue old.rising × IsBehindLast old.gone.items gone)) where
    nodes : List Node
    nodes = map (node_of s) are.those

    nodes_are : map node_of_gone old.gone.items ≡ nodes
    unfolding nodes
    nodes_are = ap (map node_of_gone) are.kept ∙ nodes_kept s are.those

    -- it leaves behind the last of them
    behind : IsBehindLast old.gone.items gone ↔ IsLastBefore nodes (node_of s r)
    unfolding nodes
    behind =
        let both = last_is old.gone.items gone in
        let P : List Node → Gone → Type 0 = λ ns g. IsLastBefore ns (node_of_gone g) in (
          λ is. subst (λ (g : Gone). P nodes g) same_gone (subst (λ (ns : List Node). P ns gone) nodes_are (both.0 is)),
          λ is. both.1 (subst (λ (ns : List Node). P ns gone) (sym nodes_are) (subst (λ (g : Gone). P nodes g) (sym same_gone) is)),
        )

    with_last : map (node_of s) (are.those ++ r ∷ []) ≡ nodes ++ node_of s r ∷ []
    unfolding nodes
    with_last = map-append (node_of s) are.those (r ∷ [])

    rises : IsTrue new.rising ↔ IsRising leaving_cmp (map (node_of s) (are.those ++ r ∷ []))
    unfolding nodes
    rises = (
      λ e.
          let both = rising.0 e in
          subst (IsRising leaving_cmp) (sym with_last) (rising_more nodes (node_of s r) (are.rising.0 both.0) (behind.0 both.1)),
      λ up.
          let up_with = subst (IsRising leaving_cmp) with_last up in
          rising.1 (are.rising.1 (rising_front nodes (node_of s r) up_with), behind.1 (rising_last nodes (node_of s r) up_with)),
    )

    pub one_more : IsLeaving new s before (without r.ident now) (left ++ r.ident ∷ [])
    one_more = record {
      those = are.those ++ r ∷ [];
      idents = ap (λ (is : List Ident). is ++ r.ident ∷ []) are.idents ∙ sym (map-append (λ (x : Resident). x.ident) are.those (r ∷ []));
      kept = kept ∙ ap (λ (g : Gone). old.gone.items ++ g ∷ []) same_gone ∙ ap (λ (gs : List Gone). gs ++ gone_of s r ∷ []) are.kept ∙ sym (map-append (gone_of s) are.those (r ∷ []));
      rising = rises;
      one = are.one;
      apart = AllPairs-filter (λ (a b : Resident). a.ident ≢ b.ident) (λ (x : Resident). not (is_same x.ident r.ident)) now are.apart;
      whole = are.whole;
      good = good;
      there = λ x there. elim (Contains-push_cases are.those r x there) [
        | inl earlier ↦ are.there x earlier
        | inr same ↦ subst (λ (y : Resident). Contains before y) same (are.stay r r_there)
      ];
      out = λ x there stays. elim (Contains-push_cases are.those r x there) [
        | inl earlier ↦ are.out x earlier (without_cases r.ident now x stays).0
        | inr same ↦ (without_cases r.ident now x stays).1 (ap (λ (y : Resident). y.ident) (sym same))
      ];
      stay = λ x there. are.stay x (without_cases r.ident now x there).0;
      all = λ x there. elim (are.all x there) [
        | inl stays ↦ elim (same_or before are.one x r there (are.stay r r_there)) [
          | inl same ↦ inr (subst (λ (y : Resident). Contains (are.those ++ r ∷ []) y) (sym same) (Contains-push are.those r))
          | inr other ↦ inl (stays_without r.ident now x stays other)
        ]
        | inr out ↦ inr (Contains-append_left are.those (r ∷ []) x out)
      ];
      counts = λ kind.
          let was = are.counts kind in
          let fewer = count_without kind now r are.apart r_there in
          let more : count_of (are.those ++ r ∷ []) kind ≡ count_of are.those kind + count_of (r ∷ []) kind = count-append (λ (x : Resident). is_kind x.ident.kind kind) are.those (r ∷ []) in
          omega arith;
    }

  -- ---- the last one leaves

  module _ (group : Group) (are : IsLeaving group s before now left) (formed : IsWellFormed s) (good : AreGood s (without r.ident now)) where
    abbrev after : List Resident
    after = without r.ident now

    have_left : HaveLeft before after are.those r
    have_left = record {
      one = are.one;
      last = are.stay r r_there;
      last_out = λ there. (without_cases r.ident now r there).1 refl;
      there = are.there;
      out = λ x there stays. are.out x there (without_cases r.ident now x stays).0;
      other = λ x there same. are.out x there (subst (λ (y : Resident). Contains now y) (sym same) r_there);
      stay = λ x there. are.stay x (without_cases r.ident now x there).0;
      all = λ x there. elim (are.all x there) [
        | inl stays ↦ elim (same_or before are.one x r there (are.stay r r_there)) [
          | inl same ↦ inr (inr same)
          | inr other ↦ inl (stays_without r.ident now x stays other)
        ]
        | inr out ↦ inr (inl out)
      ];
    }

    pub group_if_all : IsTrue group.rising → LackOneEach s after group.gone.items → IsGroup s before r (left ++ r.ident ∷ [])
    group_if_all rising lack =
        subst (λ (is : List Ident). IsGroup s before r (is ++ r.ident ∷ [])) (sym are.idents)
        (group_if s formed before after are.those r have_left are.whole good (
          are.rising.0 rising,
          λ g there. lack (gone_of s g) (subst (λ (gs : List Gone). Contains gs (gone_of s g)) (sym are.kept) (Contains-map (gone_of s) are.those g there)),
        ))

    pub all_if_group : IsGroup s before r (left ++ r.ident ∷ []) → IsTrue group.rising × LackOneEach s after group.gone.items
    all_if_group is =
        let order = order_if s formed before after are.those r have_left are.whole good (subst (λ (is : List Ident). IsGroup s before r (is ++ r.ident ∷ [])) are.idents is) in (
          are.rising.1 order.0,
          λ gone there.
              let from = Contains-from_map (gone_of s) are.those gone (subst (λ (gs : List Gone). Contains gs gone) are.kept there) in
              subst (λ (g : Gone). LacksParent s after g.name) from.2 (order.1 from.0 from.1),
        )
