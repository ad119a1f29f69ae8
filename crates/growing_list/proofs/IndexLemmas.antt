-- What a list finds in which each key stands once, and what an edit leaves of it.
use Rattle.std.proofs.Common.{◌≡◌, ◌≢◌, Bool, get_or, All, AllPairs, Contains, List, Option, None, Some, sym, subst}
use Rattle.std.specs.declared.cmp.Ordering.{Ordering}
use Rattle.std.specs.declared.cmp.Ordering.TheVariants.{Less, Equal}
use Rattle.std.specs.Cmp.{IsTotalOrder}
use Rattle.std.specs.Ordering.{eq_by_cmp}
use Rattle.std.specs.Prelude.{slice_get, IfNone, IfSome}
use Rattle.std.proofs.lemmas.Cmp.{tied_itself}
use Rattle.sorted_list.specs.Sorted.{by_parts, values_under, IsAdded, IsProper, IsTakenOut, Sorted}
use Rattle.slot_cache.specs.Index.{IsKeyOf, IsRising}
use Rattle.slot_cache.proofs.IndexLemmas.{absent_entry, absent_key_of, found_key, rising_with, rising_without}
use Rattle.slot_cache.proofs.SlotLemmas.{pair_same}
use Rattle.growing_list.specs.Index.{IsIndex}

module _ {K V : Type 0} (cmp : K → K → Ordering) (o : IsTotalOrder cmp) (one : (a b : K) → cmp a b ≡ Equal → a ≡ b) where
  -- keys that are apart compare so
  pub none_ties : (entries : List (K × V)) (key : K) → All (λ entry. entry.0 ≢ key) entries → All (λ entry. cmp entry.0 key ≡ Equal → ⊥) entries
  none_ties entries key absent k d within equal = absent k d within (one (get_or entries k d).0 key equal)

  module _ (same : K → K → Bool) (ties : (a b : K) → same a b ≡ eq_by_cmp cmp a b) (entries : List (K × V)) (key : K) where
    entry_found : (r : Option V) → IfSome r (IsKeyOf cmp entries key) → IfSome r (λ value. Contains entries (key, value))
    entry_found None found = tt
    entry_found (Some value) found = subst (Contains entries) (pair_same found.0 key value (sym (one found.0.0 key found.2)) (sym found.3)) found.1

    key_absent : (r : Option V) → IfNone r (All (λ entry. cmp entry.0 key ≡ Equal → ⊥) entries) → IfNone r (All (λ entry. entry.0 ≢ key) entries)
    key_absent None absent = λ k d within at. absent k d within (subst (λ a. cmp a key ≡ Equal) (sym at) (tied_itself o key))
    key_absent (Some value) absent = tt

    -- a value that is found stands with its key
    pub found_entry : (r : Option V) → r ≡ slice_get (values_under same entries key) 0 → IfSome r (λ value. Contains entries (key, value))
    found_entry r is = entry_found r (found_key cmp same ties entries key r is)

    -- and where none is, no entry has the key
    pub absent_entries : (r : Option V) → r ≡ slice_get (values_under same entries key) 0 → IfNone r (All (λ entry. entry.0 ≢ key) entries)
    absent_entries r is = key_absent r (absent_key_of cmp same ties entries key r is)

  module _ (second : V → V → Ordering) where
    -- an entry of a key that isn't there isn't there
    pub none_is : (entries : List (K × V)) (key : K) (value : V) → All (λ entry. entry.0 ≢ key) entries → All (λ entry. by_parts cmp second entry (key, value) ≡ Equal → ⊥) entries
    none_is entries key value absent = absent_entry cmp o second entries key value (none_ties entries key absent)

    -- the keys still rise once one came
    pub index_added : (old new : Sorted K V) (key : K) (value : V) → IsIndex cmp old → All (λ entry. entry.0 ≢ key) old.entries → IsAdded old.entries new.entries (key, value) → IsProper cmp second new → IsIndex cmp new
    index_added old new key value index absent added proper =
        let pairs = subst (AllPairs (λ a b. by_parts cmp second a b ≡ Less)) added.2 proper.rising in
        record {
          rising = subst (IsRising cmp) (sym added.2) (rising_with cmp o second old.entries key value added.0 added.1 index.rising (none_ties old.entries key absent) pairs);
          few = proper.few;
          small = proper.small;
        }

    -- and once one went
    pub index_taken : (old new : Sorted K V) (key : K) (value : V) → IsIndex cmp old → IsTakenOut old.entries new.entries (key, value) → IsProper cmp second new → IsIndex cmp new
    index_taken old new key value index taken proper = record {
      rising = subst (IsRising cmp) (sym taken.3) (rising_without cmp o old.entries taken.0 taken.1 index.rising);
      few = proper.few;
      small = proper.small;
    }

    -- and where the room grew
    pub index_grown : (old new : Sorted K V) → IsIndex cmp old → new.entries ≡ old.entries → IsProper cmp second new → IsIndex cmp new
    index_grown old new index same proper = record { rising = subst (IsRising cmp) (sym same) index.rising; few = proper.few; small = proper.small }
