-- What stays whole where a descriptor is loaded.
use Rattle.std.proofs.Common.{◌≡◌, true, false, List, [], ◌∷◌, Contains, Some, None, sym, ◌∙◌, ap, subst, inl, inr}
use Rattle.std.proofs.lemmas.List.Elements.{Contains-append_left, Contains-append_right, Contains-push_cases}
use Rattle.cache_ident.specs.declared.classes.Class.{Class}
use Rattle.cache_ident.specs.declared.idents.Ident.{Ident}
use Rattle.cache_ident.specs.declared.idents.Standing.TheVariants.{Live}
use Rattle.cache_ident.specs.declared.names.Caps.{Caps}
use Rattle.cache_ident.specs.declared.names.Name.{Name}
use Rattle.cache_ident.specs.Residents.{with_loaded, Resident, IsNameResident}
use Rattle.cache_ident.specs.Rolls.{standing_in}
use Rattle.depend_lists.specs.declared.nodes.Node.{Node}
use Rattle.desc_parents.specs.flat_laws.proofs.Members.{Contains-here}
use Rattle.desc_parents.specs.flat_state.specs.Dependence.{owner, Depends}
use Rattle.desc_parents.specs.flat_state.specs.Names.{class_of, stands}
use Rattle.desc_parents.specs.flat_state.specs.State.{FlatState}
use Rattle.desc_parents.specs.run_journal.specs.Groups.{node_of, ArePairsOf, NothingDependsOn}
use Rattle.desc_parents.specs.run_journal.specs.Legal.{locked_by, AreGood}
use Rattle.desc_parents.specs.desc_stores.specs.Changes.{IsLoadingOf, KeepsContents}
use Rattle.desc_parents.specs.desc_stores.specs.Contents.{resident_as, residents_of, Contents}
use Rattle.desc_parents.specs.desc_stores.specs.Sound.{AreOwned, IsExactlyOne}
use Rattle.desc_parents.specs.group_laws.proofs.LockCounts.{locks_loaded}
use Rattle.desc_parents.specs.group_laws.proofs.StayingGood.{good_loaded, last_loaded}
use Rattle.desc_parents.specs.resident_pairs.specs.Among.{AreParents}
use Rattle.desc_parents.specs.shown_state.proofs.LookupLemmas.{all_found}
use Rattle.desc_parents.specs.shown_state.proofs.MoveLemmas.{alike_loading}
use Rattle.desc_parents.specs.store_residents.proofs.ContentLemmas.{shelved_iff}
use Rattle.desc_parents.specs.store_residents.proofs.KindLemmas.{loaded_live}
use Rattle.desc_parents.specs.store_residents.proofs.ResidentLemmas.{resident_loaded}
use Rattle.desc_parents.specs.store_residents.proofs.StayLemmas.{slots-loading}
use Rattle.desc_parents.specs.Seen.{seen, HasPlainRows}
use Rattle.desc_groups.specs.Moves.{MayEnter}
use Rattle.desc_groups.specs.Whole.{AreWhole}
use Rattle.desc_groups.proofs.ShowLemmas.{counted_kept, seen_alike, whole_moved, AreCounted}

-- what the stores say once they loaded a name
pub record HasCome (old new : Contents) (n : Name) (ident : Ident) : Type 0 where
  pub keeps : KeepsContents old new
  pub residents : residents_of new ≡ with_loaded ident n (residents_of old)
  pub moves : IsLoadingOf old new n ident
  pub one : IsExactlyOne new

module _ (caps : Caps) (old : Contents) (pairs : List (Ident × Node)) (whole : AreWhole caps old pairs) (n : Name) (may : MayEnter old n) (ident : Ident) where
  abbrev all : List Resident
  all = with_loaded ident n (residents_of old)

  abbrev loaded : Resident
  loaded = record { ident = ident; name = n; locked = false }

  absent : IsNameResident (residents_of old) n → ⊥
  absent = ((shelved_iff old whole.one n).0 may.shelved).1

  there : stands (seen old) n ≡ true
  there = (all_found None [] old whole.one).stands n ∙ ((shelved_iff old whole.one n).0 may.shelved).0

  good : AreGood (seen old) all
  good = good_loaded (seen old) (residents_of old) ident n whole.good there may.fit may.has

  -- nothing that is loaded depends on it
  pub nothing_behind : NothingDependsOn (seen old) all n
  nothing_behind = last_loaded (seen old) (residents_of old) ident n whole.good absent may.has

  -- what it depends on was loaded before it
  parents_before : (parents : List Ident) → AreParents (seen old) all n parents → AreParents (seen old) (residents_of old) n parents
  parents_before parents are = record {
    sound = λ parent there. (let is = are.sound parent there in (is.0, before is.0 is.1 is.3, is.2, is.3));
    complete = λ r there depends. are.complete r (Contains-append_left (residents_of old) (loaded ∷ []) r there) depends;
  }
    where
      before : (r : Resident) → Contains all r → Depends (seen old) n r.name → Contains (residents_of old) r
      before r there depends = elim (Contains-push_cases (residents_of old) loaded r there) [
        | inl was ↦ was
        | inr is ↦ absurd (absent (may.has n (subst (λ (x : Resident). Depends (seen old) n x.name) (sym is) depends)))
      ]

  module _ (new : Contents) (come : HasCome old new n ident) where
    same : seen new ≡ seen old
    same = seen_alike old new (alike_loading old new n ident come.keeps come.moves)

    held : resident_as new ident ≡ Some loaded
    held = resident_loaded new loaded (subst (λ (rs : List Resident). Contains rs loaded) (sym come.residents) (Contains-append_right (residents_of old) (loaded ∷ []) loaded (Contains-here loaded [])))

    pub live_loaded : standing_in new.issued ident ≡ Live
    live_loaded = loaded_live new come.one.sound ident loaded held

    pub rows_loaded : HasPlainRows (seen new)
    rows_loaded = subst HasPlainRows (sym same) whole.rows

    -- its class and what it depends on are those that it had on the shelf
    pub node_loaded : (class : Class) → ((r : Resident) → resident_as new ident ≡ Some r → class_of (seen new) r.name ≡ class) → record { ident = ident; class = class } ≡ node_of (seen old) loaded
    node_loaded class is = ap (λ (k : Class). record { ident = ident; class = k }) (sym (is loaded held) ∙ ap (λ (s : FlatState). class_of s n) same)

    pub parents_loaded : (parents : List Ident) → ((r : Resident) → resident_as new ident ≡ Some r → AreParents (seen new) (residents_of new) r.name parents) → AreParents (seen old) (residents_of old) n parents
    parents_loaded parents are =
        parents_before parents
        (subst (λ (rs : List Resident). AreParents (seen old) rs n parents) come.residents (subst (λ (s : FlatState). AreParents s (residents_of new) n parents) same (are loaded held)))

    counted : AreCounted (seen old) (residents_of new) new
    counted = counted_kept (seen old) old new whole.counted come.keeps
        (λ kernel kind. ap (λ (rs : List Resident). locked_by (seen old) rs kernel kind) come.residents ∙ locks_loaded (seen old) (residents_of old) kernel kind ident n)

    pub whole_loaded : (after : List (Ident × Node)) → AreOwned (owner (seen old)) new → ArePairsOf (seen old) all after → AreWhole caps new after
    whole_loaded after owned pairs_are =
        whole_moved old new caps pairs after whole come.one same (slots-loading old new n ident come.moves)
        (subst (λ (rs : List Resident). ArePairsOf (seen old) rs after) (sym come.residents) pairs_are)
        (subst (λ (rs : List Resident). AreGood (seen old) rs) (sym come.residents) good) owned counted
