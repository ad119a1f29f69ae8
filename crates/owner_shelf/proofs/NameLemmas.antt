-- Names that are tested as equal are one.
use Rattle.std.proofs.Common.{◌≡◌, ◌≢◌, Bool, true, false, List, All, Contains, None, Some, refl, ap, sym, ◌∙◌}
use Rattle.std.specs.declared.cmp.Ordering.{Ordering}
use Rattle.std.specs.declared.cmp.Ordering.TheVariants.{Equal}
use Rattle.std.specs.Ordering.{is_eq}
use Rattle.std.specs.Prelude.{slice_get}
use Rattle.cache_ident.specs.declared.names.Name.{Name}
use Rattle.cache_ident.specs.contracts.names.NamePartialEq.TheImpl as names
use Rattle.cache_ident.specs.contracts.names.NameOrd.TheImpl as order
use Rattle.cache_ident.specs.contracts.names.NameOrd.TheImpl.Laws as laws
use Rattle.sorted_list.specs.Sorted.{by_parts, values_under, IsAdded, IsProper, IsTakenOut, Sorted}
use Rattle.slot_cache.proofs.IndexLemmas.{is_equal}
use Rattle.slot_cache.proofs.NameLemmas.{name_itself, same_name}
use Rattle.growing_list.specs.Index.{IsIndex}
use Rattle.growing_list.proofs.IndexLemmas.{absent_entries, found_entry, index_added, index_taken, none_is}

not_true : (b : Bool) → (b ≡ true → ⊥) → b ≡ false
not_true true never = absurd (never refl)
not_true false never = refl

-- a name is tested as equal to itself
pub eq_itself : (a : Name) → (names.ghosts).eq a a ≡ true
eq_itself a = laws.matches_eq-law a a ∙ ap is_eq (name_itself a)

-- and to one name it is
pub eq_same : (a b : Name) → a ≡ b → (names.ghosts).eq a b ≡ true
eq_same a b same = ap ((names.ghosts).eq a) (sym same) ∙ eq_itself a

pub same_by_eq : (a b : Name) → (names.ghosts).eq a b ≡ true → a ≡ b
same_by_eq a b passes = same_name a b (is_equal ((order.ghosts).cmp a b) (sym (laws.matches_eq-law a b) ∙ passes))

-- but not to another
pub eq_apart : (a b : Name) → a ≢ b → (names.ghosts).eq a b ≡ false
eq_apart a b apart = not_true ((names.ghosts).eq a b) (λ passes. apart (same_by_eq a b passes))

-- a list in which each name stands once
module _ {V : Type 0} (entries : List (Name × V)) (name : Name) where
  -- has what is found under a name
  pub found_name : (value : V) → Some value ≡ slice_get (values_under (names.ghosts).eq entries name) 0 → Contains entries (name, value)
  found_name value is = found_entry (order.ghosts).cmp laws.total-law same_name (names.ghosts).eq laws.matches_eq-law entries name (Some value) is

  -- and nothing of a name under which nothing is found
  pub no_name : None ≡ slice_get (values_under (names.ghosts).eq entries name) 0 → All (λ entry. entry.0 ≢ name) entries
  no_name is = absent_entries (order.ghosts).cmp laws.total-law same_name (names.ghosts).eq laws.matches_eq-law entries name None is

module _ {V : Type 0} (second : V → V → Ordering) where
  -- so an entry of a name that isn't there isn't there
  pub entry_absent : (entries : List (Name × V)) (name : Name) (value : V) → All (λ entry. entry.0 ≢ name) entries → All (λ entry. by_parts (order.ghosts).cmp second entry (name, value) ≡ Equal → ⊥) entries
  entry_absent entries name value absent = none_is (order.ghosts).cmp laws.total-law same_name second entries name value absent

  module _ (old new : Sorted Name V) (name : Name) (value : V) (index : IsIndex (order.ghosts).cmp old) (proper : IsProper (order.ghosts).cmp second new) where
    -- the names still stand once when one came, and when one went
    pub names_added : All (λ entry. entry.0 ≢ name) old.entries → IsAdded old.entries new.entries (name, value) → IsIndex (order.ghosts).cmp new
    names_added absent added = index_added (order.ghosts).cmp laws.total-law same_name second old new name value index absent added proper

    pub names_taken : IsTakenOut old.entries new.entries (name, value) → IsIndex (order.ghosts).cmp new
    names_taken taken = index_taken (order.ghosts).cmp laws.total-law same_name second old new name value index taken proper
