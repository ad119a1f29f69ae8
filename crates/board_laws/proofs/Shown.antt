-- What holds of the machine of which dependence is read holds of that with its memory too.
use Rattle.std.proofs.Common.{◌≡◌, ℕ, true, List, Some, None, [], Contains, refl, ap, sym, ◌∙◌, subst}
use Rattle.cache_ident.specs.declared.classes.Class.{Class}
use Rattle.cache_ident.specs.declared.idents.Ident.{Ident}
use Rattle.cache_ident.specs.declared.idents.Kind.{Kind}
use Rattle.cache_ident.specs.declared.names.KernelNo.{KernelNo}
use Rattle.cache_ident.specs.declared.names.Name.{Name}
use Rattle.cache_ident.specs.Names.{amount_of}
use Rattle.cache_ident.specs.Residents.{Resident}
use Rattle.quantum.specs.depend_lists.specs.declared.nodes.Node.{Node}
use Rattle.quantum.specs.flat_state.specs.declared.events.Machine.{Machine}
use Rattle.quantum.specs.flat_state.specs.Names.{stands}
use Rattle.desc_tables.specs.run_journal.specs.Groups.{node_of, ArePairsOf, HasParents}
use Rattle.desc_tables.specs.run_journal.specs.Legal.{cap_of, limit_of, locked_by, AreGood}
use Rattle.desc_tables.specs.resident_pairs.proofs.Staying.{same_keeps}
use Rattle.desc_tables.specs.desc_stores.specs.Contents.{Contents}
use Rattle.desc_tables.specs.desc_stores.specs.Sound.{IsExactlyOne}
use Rattle.desc_tables.specs.group_laws.proofs.LockCounts.{locks_same}
use Rattle.desc_tables.specs.shown_state.specs.Shown.{shown}
use Rattle.desc_tables.specs.shown_state.proofs.DependenceLemmas.{same_class, same_fit, same_owner, same_parents}
use Rattle.desc_tables.specs.shown_state.proofs.LookupLemmas.{name_stands}
use Rattle.desc_tables.specs.desc_parents.specs.Seen.{seen}

module _ (m : Machine) (memory : List ℕ) (c : Contents) where
  pub limit_shown : (kernel : KernelNo) (of : Kind) → limit_of (seen c) kernel of ≡ limit_of (shown (Some m) memory c) kernel of
  unfolding shown
  limit_shown kernel of = refl

  pub cap_shown : (of : Kind) → cap_of (shown (Some m) memory c) of ≡ amount_of m.caps of
  unfolding shown
  cap_shown of = refl

  pub locks_shown : (rs : List Resident) (kernel : KernelNo) (of : Kind) → locked_by (seen c) rs kernel of ≡ locked_by (shown (Some m) memory c) rs kernel of
  locks_shown rs kernel of = locks_same (seen c) (shown (Some m) memory c) rs kernel of (λ r there. sym (same_owner (Some m) memory c r.name))

  pub node_shown : (r : Resident) → node_of (seen c) r ≡ node_of (shown (Some m) memory c) r
  node_shown r =
      let with_class : Class → Node = λ class. record { ident = r.ident; class = class } in
      ap with_class (sym (same_class (Some m) memory c r.name))

  pub pairs_shown : (rs : List Resident) (pairs : List (Ident × Node)) → ArePairsOf (seen c) rs pairs → ArePairsOf (shown (Some m) memory c) rs pairs
  pairs_shown rs pairs are = same_keeps (seen c) (shown (Some m) memory c) rs pairs (λ r there. (same_parents (Some m) memory c r.name, same_class (Some m) memory c r.name)) are

  pub parents_shown : (rs : List Resident) (name : Name) → HasParents (seen c) rs name → HasParents (shown (Some m) memory c) rs name
  parents_shown rs name has parent depends = has parent (subst (λ (names : List Name). Contains names parent) (same_parents (Some m) memory c name) depends)

  pub stands_shown : IsExactlyOne c → (name : Name) → stands (seen c) name ≡ true → stands (shown (Some m) memory c) name ≡ true
  stands_shown one name there = name_stands (Some m) memory c one name ∙ sym (name_stands None [] c one name) ∙ there

  pub good_shown : IsExactlyOne c → (rs : List Resident) → AreGood (seen c) rs → AreGood (shown (Some m) memory c) rs
  good_shown one rs good r there = let its = good r there in record {
    there = stands_shown one r.name its.there;
    fit = same_fit (Some m) memory c r.name ∙ its.fit;
    parents = parents_shown rs r.name its.parents;
  }
