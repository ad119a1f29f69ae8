-- How many may leave while some are kept.
use Rattle.std.proofs.Common.{◌≡◌, ℕ, zero, suc, ◌+◌, ◌≤◌, Bool, true, false, cond, List, [], ◌∷◌, length, map, take, drop, Contains, None, refl, ap, sym, ◌∙◌, subst, inl, inr, arith}
use Rattle.std.specs.Prelude.{count_by, not, ◌||◌}
use Rattle.std.specs.List.{list_any}
use Rattle.std.proofs.lemmas.List.{length-map, take_all}
use Rattle.std.proofs.lemmas.Option.{slice_get_cases}
use Rattle.cache_ident.specs.declared.idents.Ident.{Ident}
use Rattle.cache_ident.specs.declared.names.Caps.{Caps}
use Rattle.cache_ident.specs.Residents.{Resident, without}
use Rattle.cache_ident.specs.Rolls.{is_same}
use Rattle.cache_ident.proofs.RollLemmas.{same_ident}
use Rattle.board_ops.specs.depend_lists.specs.declared.nodes.Node.{Node}
use Rattle.flat_state.proofs.Places.{Contains-from_get}
use Rattle.board_ops.specs.flat_laws.proofs.Members.{Contains-behind, Contains-here, Contains-map}
use Rattle.run_journal.specs.Groups.{IsGroup}
use Rattle.cached_machine.specs.group_laws.specs.Leaving.{without_all}
use Rattle.cached_machine.specs.group_laws.proofs.Counting.{one, count-without}
use Rattle.cached_machine.specs.group_laws.proofs.FromBelow.{group_leaves}
use Rattle.cached_machine.specs.group_laws.proofs.Remaining.{without_all-push, without_all_cases}
use Rattle.cached_machine.specs.group_laws.proofs.StayingOne.{apart_all_left}
use Rattle.cached_machine.specs.desc_stores.specs.Contents.{residents_of, Contents}
use Rattle.cached_machine.specs.shown_state.proofs.LookupLemmas.{one_row_a_page}
use Rattle.cached_machine.specs.store_residents.proofs.ResidentLemmas.{one_each}
use Rattle.cached_machine.specs.desc_parents.specs.Seen.{seen}
use Rattle.cached_machine.specs.desc_groups.specs.Whole.{AreWhole}
use Rattle.cached_machine.specs.desc_groups.proofs.LeaveLemmas.{ident_of, idents_more, idents_to, splits}
use Rattle.cached_machine.specs.desc_groups.proofs.LockLemmas.{residents_apart}
use Rattle.cached_machine.specs.desc_tables.proofs.Remaining.{kept_stays, KeepsParentsOfKept}
use Rattle.board_core.specs.Growth.{is_kept}

-- ---- what is kept

not_any : (ident : Ident) (keep : List Ident) → (Contains keep ident → ⊥) → list_any (is_same ident) keep ≡ false
not_any ident [] absent = refl
not_any ident (k ∷ keep) absent = by (is_same ident k) refl (not_any ident keep (λ there. absent (Contains-behind k keep ident there)))
  where
    by : (b : Bool) → is_same ident k ≡ b → list_any (is_same ident) keep ≡ false → list_any (is_same ident) (k ∷ keep) ≡ false
    by true same rest = absurd (absent (subst (λ (i : Ident). Contains (k ∷ keep) i) (sym (same_ident ident k same)) (Contains-here k keep)))
    by false other rest = ap (λ (b : Bool). b || list_any (is_same ident) keep) other ∙ rest

abbrev pub is_unkept : List Ident → Resident → Bool
is_unkept keep r = not (is_kept keep r)

unkept_passes : (keep : List Ident) (r : Resident) → (Contains keep r.ident → ⊥) → is_unkept keep r ≡ true
unkept_passes keep r absent = ap not (not_any r.ident keep absent)

-- ---- groups

module _ (caps : Caps) (c : Contents) (pairs : List (Ident × Node)) (whole : AreWhole caps c pairs) where
  abbrev rs : List Resident
  rs = residents_of c

  module _ (p : Resident → Bool) (root : Resident) (there : Contains rs root) (idents : List Ident) (group : IsGroup (seen c) rs root idents) (passes : (r : Resident) → Contains rs r → Contains idents r.ident → p r ≡ true) where
    -- each that has left leaves fewer
    fewer : (n : ℕ) → n ≤ length group.nodes → n + count_by p (without_all (idents_to group.nodes n) rs) ≤ count_by p rs
    fewer zero low = omega arith
    fewer (suc n) low = elim (slice_get_cases group.nodes n).1 [
      | inl found ↦
          let node = found.0 in
          let is = found.2 in
          let next = group_leaves (seen c) rs group.pairs root group.nodes (take n group.nodes) (drop (n + 1) group.nodes) node whole.rows.agreed (one_row_a_page None [] c whole.one) (one_each c whole.one) group.are there group.order (splits group.nodes n node is) in
          let its : node.ident ≡ next.0.ident = ap ident_of next.2 in
          let apart = apart_all_left rs (idents_to group.nodes n) (residents_apart c whole.one) in
          let counted = count-without p next.0 (without_all (idents_to group.nodes n) rs) apart next.1 in
          let among : Contains idents next.0.ident = subst (Contains idents) its (subst (λ (is : List Ident). Contains is node.ident) (sym group.whole) (Contains-map ident_of group.nodes node (Contains-from_get group.nodes n node is))) in
          let was = (without_all_cases (idents_to group.nodes n) rs next.0 next.1).0 in
          let passed : one p next.0 ≡ 1 = ap (λ (b : Bool). cond b 1 0) (passes next.0 was among) in
          let same : without_all (idents_to group.nodes (n + 1)) rs ≡ without next.0.ident (without_all (idents_to group.nodes n) rs) =
          ap (λ (all : List Ident). without_all all rs) (idents_more group.nodes n node is) ∙ without_all-push (idents_to group.nodes n) node.ident rs ∙ ap (λ (i : Ident). without i (without_all (idents_to group.nodes n) rs)) its in
          let more : suc n ≡ n + 1 = omega arith in
          let long = ap (λ (m : ℕ). count_by p (without_all (idents_to group.nodes m) rs)) more ∙ ap (count_by p) same in
          let before = fewer n (omega arith) in
          omega arith
      | inr past ↦ absurd (let high = past.0 in omega arith)
    ]

    -- of those that pass a test, which all of a group do, there are fewer by the group
    pub group_counts : length idents + count_by p (without_all idents rs) ≤ count_by p rs
    group_counts =
        let all = fewer (length group.nodes) (omega arith) in
        let long = ap length group.whole ∙ length-map group.nodes ident_of in
        let taken : idents_to group.nodes (length group.nodes) ≡ idents = ap (map ident_of) (take_all (length group.nodes) group.nodes (omega arith)) ∙ sym group.whole in
        let counted = ap (λ (is : List Ident). count_by p (without_all is rs)) taken in
        omega arith

  -- no group of what isn't kept is larger than what isn't kept
  pub group_few : (keep : List Ident) → KeepsParentsOfKept (seen c) rs keep → (root : Resident) → Contains rs root → (Contains keep root.ident → ⊥) → (idents : List Ident) → IsGroup (seen c) rs root idents → length idents ≤ count_by (is_unkept keep) rs
  group_few keep closed root there not_kept idents group =
      let counted = group_counts (is_unkept keep) root there idents group (λ r here within. unkept_passes keep r (λ kept. kept_stays (seen c) rs keep closed root idents group not_kept r.ident kept within)) in
      omega arith
