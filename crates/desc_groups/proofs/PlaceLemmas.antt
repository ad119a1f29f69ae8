-- Why a group has no more places than there are residents.
use Rattle.std.proofs.Common.{◌≡◌, ℕ, zero, suc, ◌+◌, ◌≤◌, ◌^◌, List, length, take, drop, Contains, None, [], sym, ◌∙◌, ap, inl, inr, arith}
use Rattle.std.proofs.lemmas.List.{length-map}
use Rattle.std.proofs.lemmas.Option.{slice_get_cases}
use Rattle.cache_ident.specs.declared.idents.Ident.{Ident}
use Rattle.cache_ident.specs.declared.names.Caps.{Caps}
use Rattle.cache_ident.specs.Residents.{Resident, without}
use Rattle.depend_lists.specs.declared.nodes.Node.{Node}
use Rattle.desc_parents.specs.run_journal.specs.Groups.{IsGroup}
use Rattle.desc_parents.specs.desc_stores.specs.Contents.{residents_of, Contents}
use Rattle.desc_parents.specs.group_laws.specs.Leaving.{without_all}
use Rattle.desc_parents.specs.group_laws.proofs.FromBelow.{group_leaves}
use Rattle.desc_parents.specs.group_laws.proofs.Remaining.{without_all-push}
use Rattle.desc_parents.specs.shown_state.proofs.LookupLemmas.{one_row_a_page}
use Rattle.desc_parents.specs.store_residents.proofs.ResidentLemmas.{one_each}
use Rattle.desc_parents.specs.Seen.{seen}
use Rattle.desc_groups.specs.Moves.{HasPlaces}
use Rattle.desc_groups.specs.Whole.{AreWhole}
use Rattle.desc_groups.proofs.LeaveLemmas.{ident_of, idents_more, idents_to, one_less, splits}

module _ (caps : Caps) (c : Contents) (pairs : List (Ident × Node)) (whole : AreWhole caps c pairs) (root : Resident) (there : Contains (residents_of c) root) (idents : List Ident) (group : IsGroup (seen c) (residents_of c) root idents) where
  abbrev rs : List Resident
  rs = residents_of c

  -- each that has left leaves fewer
  fewer : (n : ℕ) → n ≤ length group.nodes → n + length (without_all (idents_to group.nodes n) rs) ≤ length rs
  fewer zero low = omega arith
  fewer (suc n) low = elim (slice_get_cases group.nodes n).1 [
    | inl found ↦
        let node = found.0 in
        let is = found.2 in
        let next = group_leaves (seen c) rs group.pairs root group.nodes (take n group.nodes) (drop (n + 1) group.nodes) node whole.rows.agreed (one_row_a_page None [] c whole.one) (one_each c whole.one) group.are there group.order (splits group.nodes n node is) in
        let left = one_less node.ident (without_all (idents_to group.nodes n) rs) next.0 next.1 (sym (ap ident_of next.2)) in
        let same : without_all (idents_to group.nodes (n + 1)) rs ≡ without node.ident (without_all (idents_to group.nodes n) rs) = ap (λ (all : List Ident). without_all all rs) (idents_more group.nodes n node is) ∙ without_all-push (idents_to group.nodes n) node.ident rs in
        let more : suc n ≡ n + 1 = omega arith in
        let long = ap (λ (m : ℕ). length (without_all (idents_to group.nodes m) rs)) more ∙ ap length same in
        let before = fewer n (omega arith) in
        omega arith
    | inr past ↦ absurd (let high = past.0 in omega arith)
  ]

  pub few : length idents ≤ length rs
  few =
      let all = fewer (length group.nodes) (omega arith) in
      let long = ap length group.whole ∙ length-map group.nodes ident_of in
      omega arith

pub there_are_places : (caps : Caps) (c : Contents) (pairs : List (Ident × Node)) → AreWhole caps c pairs → (root : Ident) (at : ℕ) → at + length (residents_of c) ≤ 2 ^ 64 → HasPlaces c root at
there_are_places caps c pairs whole root at room r idents there is group =
    let low = few caps c pairs whole r there idents group in
    omega arith
