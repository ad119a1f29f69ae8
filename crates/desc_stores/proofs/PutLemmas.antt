-- A content wherever it stands.
use Rattle.std.proofs.Common.{◌≡◌, ℕ, Bool, true, false, cond, List, [], ◌∷◌, Option, Some, None, IsSome, subst}
use Rattle.std.specs.Option.{option_map}
use Rattle.std.proofs.lemmas.List.Elements.{All-head, All-tail, All-filter}
use Rattle.std.specs.Prelude.{not}
use Rattle.cache_ident.specs.declared.idents.Kind.{Kind}
use Rattle.cache_ident.specs.declared.names.KernelNo.{KernelNo}
use Rattle.cache_ident.specs.declared.names.Name.{Name}
use Rattle.sorted_list.specs.Sorted.{IsAdded}
use Rattle.slot_cache.specs.declared.loaded.Loaded.{Loaded}
use Rattle.slot_cache.specs.Cells.{cell_at, HasNoName}
use Rattle.slot_cache.proofs.SlotLemmas.{some_same}
use Rattle.kind_store.specs.owner_shelf.specs.declared.shelved.Shelved.{Shelved}
use Rattle.kind_store.specs.owner_shelf.specs.Rows.{content_under, is_named, row_under, rows_without}
use Rattle.kind_store.specs.owner_shelf.proofs.RowLaws.{found_named}
use Rattle.kind_store.specs.Kept as stored
use Rattle.kind_store.proofs.CellLemmas.{found-absent, found-there}
use Rattle.kind_store.proofs.ContentLemmas.{content-loaded, content-shelved}
use Rattle.kind_store.proofs.SoundLemmas.{owned-added}

-- what a choice of nothing more is
pub some_under : {A B : Type 0} (f : A → B) (o : Option A) → IsSome (option_map f o) → IsSome o
some_under f None some = absurd (cc)
some_under f (Some x) some = some

module _ {T : Type 0} (called : T → Name) where
  -- the content of a name that is loaded
  pub loaded_content : (of : Kind) (kept : stored.Kept T) → stored.IsExactlyOne called of kept → (slot : ℕ) (l : Loaded T) → cell_at kept.cells slot ≡ Some l → (n : Name) → called l.value ≡ n → stored.content_of called kept n ≡ Some l.value
  loaded_content of kept one slot l there n named =
      let there_is = found-there called kept.cells slot l there (λ other a at same. one.slots.one_name other slot a l at there same) in
      subst (λ m. stored.content_of called kept m ≡ Some l.value) named (content-loaded called kept (called l.value) l there_is)

  -- and of one that isn't
  pub shelved_content : (kept : stored.Kept T) (n : Name) → HasNoName called kept.cells n → stored.content_of called kept n ≡ content_under called kept.rows n
  shelved_content kept n absent = content-shelved called kept n (found-absent called kept.cells n absent)

  module _ (owner_of : Name → Option KernelNo) where
    abbrev Own : Shelved T → Type 0
    Own row = owner_of (called row.content) ≡ Some row.owner

    -- the row of a name stands under its content's owner, as each does
    under_owned : (rows : List (Shelved T)) (n : Name) (row : Shelved T) → stored.AreOwned called owner_of rows → row_under called rows n ≡ Some row → Own row
    under_owned [] n row owned there = absurd (cc)
    under_owned (r ∷ rest) n row owned there = by (is_named called n r) (under_owned rest n row (All-tail Own r rest owned)) there
      where
        by : (b : Bool) → (row_under called rest n ≡ Some row → Own row) → cond b (Some r) (row_under called rest n) ≡ Some row → Own row
        by true later there = subst Own (some_same r row there) (All-head Own r rest owned)
        by false later there = later there

    -- the rest stand so too
    pub owned-without : (rows : List (Shelved T)) (n : Name) → stored.AreOwned called owner_of rows → stored.AreOwned called owner_of (rows_without called rows n)
    owned-without rows n owned = All-filter (λ row. not (is_named called n row)) Own rows owned

    -- and so does one that takes the place of another under the same owner
    pub owned-exchanging : (rows new : List (Shelved T)) (value result : T) (owner : KernelNo) → row_under called rows (called value) ≡ Some (record { owner = owner; content = result }) → IsAdded (rows_without called rows (called value)) new (record { owner = owner; content = value }) → stored.AreOwned called owner_of rows → stored.AreOwned called owner_of new
    owned-exchanging rows new value result owner was added owned =
        let row : Shelved T = record { owner = owner; content = value } in
        let old : Shelved T = record { owner = owner; content = result } in
        let named = found_named called rows (called value) old was in
        let own = subst (λ n. owner_of n ≡ Some owner) named (under_owned rows (called value) old owned was) in
        owned-added called owner_of (rows_without called rows (called value)) new row own added (owned-without rows (called value) owned)
