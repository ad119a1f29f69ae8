-- What holds of a cache and a shelf together stays, once a descriptor has moved or changed.
use Rattle.std.proofs.Common.{◌≡◌, ◌≢◌, ℕ, suc, ◌+◌, ◌<◌, Bool, true, false, not, cond, List, [], ◌∷◌, length, get_or, set, replicate, All, AllPairs, Contains, lit<, Option, Some, None, sym, ◌∙◌, ap, subst, inl, inr, refl, arith}
use Rattle.std.proofs.lemmas.Bool.{cases_eq}
use Rattle.std.proofs.lemmas.List.Edits.{length-insert}
use Rattle.std.proofs.lemmas.List.Elements.{All-contains, Contains-get_or}
use Rattle.cache_ident.specs.declared.idents.Kind.{Kind}
use Rattle.cache_ident.specs.declared.names.KernelNo.{KernelNo}
use Rattle.cache_ident.specs.declared.names.Name.{Name}
use Rattle.sorted_list.proofs.ListLemmas.{Contains-insert_cases}
use Rattle.sorted_list.proofs.RisingLemmas.{filter_all}
use Rattle.sorted_list.specs.Sorted.{IsAdded}
use Rattle.slot_cache.specs.declared.loaded.Loaded.{Loaded}
use Rattle.slot_cache.specs.Cells.{cell_at, HasNoName}
use Rattle.slot_cache.proofs.SlotLemmas.{all_none, cell_within, count-none, count-put, count-same, count-take, elsewhere, here, not_none, some_same}
use Rattle.owner_shelf.specs.declared.shelved.Shelved.{Shelved}
use Rattle.owner_shelf.specs.Rows.{content_under, is_named, row_under, rows_without, HasNoRow, OnShelf}
use Rattle.owner_shelf.proofs.NameLemmas.{eq_apart, same_by_eq}
use Rattle.kind_store.specs.Kept.{count_of, AreOwned, IsSound}
use Rattle.kind_store.proofs.ContentLemmas.{not_absent, row_of_content}
use Rattle.kind_store.proofs.ProperLemmas.{fits_there, proper-put}

module _ {T : Type 0} (called : T → Name) where
  -- a shelf has one row fewer without a name that it has
  length-without_one : (rows : List (Shelved T)) (name : Name) (row : Shelved T) → AllPairs (λ a b. called a.content ≢ called b.content) rows → row_under called rows name ≡ Some row → length (rows_without called rows name) + 1 ≡ length rows
  length-without_one [] name row once found = absurd (none found)
    where
      none : None ≡ Some row → ⊥
      none e = cc
  length-without_one (x ∷ xs) name row once found = by (λ later. length-without_one xs name row rest later) (is_named called name x) refl found
    where
      rest : AllPairs (λ a b. called a.content ≢ called b.content) xs
      rest i j d lt within = once (suc i) (suc j) d (omega arith) (omega arith)

      kept : is_named called name x ≡ true → All (λ r. not (is_named called name r) ≡ true) xs
      kept passes k d within = ap not (eq_apart (called (get_or xs k d).content) name (λ same. once 0 (suc k) d (omega arith) (omega arith) (same_by_eq (called x.content) name passes ∙ sym same)))

      by : (row_under called xs name ≡ Some row → length (rows_without called xs name) + 1 ≡ length xs) → (b : Bool) → is_named called name x ≡ b → cond b (Some x) (row_under called xs name) ≡ Some row → length (cond (not b) (x ∷ rows_without called xs name) (rows_without called xs name)) + 1 ≡ suc (length xs)
      by next true passes here = omega (arith, ap length (filter_all (λ r. not (is_named called name r)) xs (kept passes)))
      by next false fails later = omega (arith, next later)

  pub length-added : (rows new_rows : List (Shelved T)) (row : Shelved T) → IsAdded rows new_rows row → length new_rows ≡ length rows + 1
  length-added rows new_rows row added = ap length added.2 ∙ length-insert rows added.0 row added.1

  module _ (kind : Kind) where
    -- nothing is sound
    pub sound-new : (cap : ℕ) → IsSound called kind (replicate cap None) (record { room = 0; rows = [] })
    sound-new cap =
        let none : (slot : ℕ) (l : Loaded T) → cell_at (replicate cap None) slot ≡ Some l → ⊥ = λ slot l there. not_none (replicate cap None) slot l there (all_none cap slot) in
        record {
          slots = record {
            placed = λ slot l there. absurd (none slot l there);
            one_serial = λ i j a b at. absurd (none i a at);
            one_name = λ i j a b at. absurd (none i a at);
          };
          rows = record {
            once = λ i j d lt within. absurd (omega (arith, within));
            few = omega arith;
            small = lit< tt;
          };
          apart = λ slot l there. absurd (none slot l there);
          roomy = omega (arith, count-none T cap);
        }

    module _ (cells : List (Option (Loaded T))) (shelf : OnShelf T) (sound : IsSound called kind cells shelf) where
      -- with a row more
      pub count-declaring : (new_rows : List (Shelved T)) (row : Shelved T) → IsAdded shelf.rows new_rows row → count_of cells new_rows ≡ count_of cells shelf.rows + 1
      count-declaring new_rows row added = omega (arith, length-added shelf.rows new_rows row added)

      -- a name of the shelf isn't loaded
      pub unloaded : (name : Name) (value : T) → content_under called shelf.rows name ≡ Some value → HasNoName called cells name
      unloaded name value shelved slot l there same = not_absent called shelf.rows name value shelved (subst (HasNoRow called shelf.rows) same (sound.apart slot l there))

      -- with another content under one of its names
      pub count-exchanging : (new_rows : List (Shelved T)) (row : Shelved T) (value : T) → content_under called shelf.rows (called row.content) ≡ Some value → IsAdded (rows_without called shelf.rows (called row.content)) new_rows row → length new_rows ≡ length shelf.rows
      count-exchanging new_rows row value shelved added =
          let was = row_of_content called shelf.rows (called row.content) value shelved in
          omega (arith, length-added (rows_without called shelf.rows (called row.content)) new_rows row added, length-without_one shelf.rows (called row.content) was.0 sound.rows.once was.1)

      -- without one of the shelf
      module _ (name : Name) (value : T) (shelved : content_under called shelf.rows name ≡ Some value) where
        pub count-retracting : count_of cells (rows_without called shelf.rows name) + 1 ≡ count_of cells shelf.rows
        count-retracting =
            let was = row_of_content called shelf.rows name value shelved in
            omega (arith, length-without_one shelf.rows name was.0 sound.rows.once was.1)

      -- with what stood on the shelf in a free slot
      module _ (x : Loaded T) (within : x.ident.slot < length cells) (free : cell_at cells x.ident.slot ≡ None) (shelved : content_under called shelf.rows (called x.value) ≡ Some x.value) where
        pub count-loading : count_of (set cells x.ident.slot (Some x)) (rows_without called shelf.rows (called x.value)) ≡ count_of cells shelf.rows
        count-loading =
            let was = row_of_content called shelf.rows (called x.value) x.value shelved in
            omega (arith, count-put cells x.ident.slot x within free, length-without_one shelf.rows (called x.value) was.0 sound.rows.once was.1)

      module _ (slot : ℕ) (e : Loaded T) (there : cell_at cells slot ≡ Some e) where
        pub count-leaving : (new_rows : List (Shelved T)) (row : Shelved T) → IsAdded shelf.rows new_rows row → count_of (set cells slot None) new_rows ≡ count_of cells shelf.rows
        count-leaving new_rows row added = omega (arith, count-take cells slot e there, length-added shelf.rows new_rows row added)

        -- with another one of the same identifier and name in its place
        pub sound-changing : (new : Loaded T) → new.ident ≡ e.ident → called new.value ≡ called e.value → IsSound called kind (set cells slot (Some new)) shelf
        sound-changing new ident name =
            let within = cell_within cells slot e there in
            record {
              slots = proper-put called kind cells slot new within (fits_there called kind cells slot e new there ident name sound.slots) sound.slots;
              rows = sound.rows;
              apart = λ other l at. elim (cases_eq other slot) [
                | inl is ↦
                    let same = some_same new l (sym (here cells slot (Some new) within) ∙ ap (cell_at (set cells slot (Some new))) (sym is) ∙ at) in
                    subst (HasNoRow called shelf.rows) (sym name ∙ ap (λ (y : Loaded T). called y.value) same) (sound.apart slot e there)
                | inr apart ↦ sound.apart other l (sym (elsewhere cells slot other (Some new) apart) ∙ at)
              ];
              roomy = omega (arith, sound.roomy, count-same cells slot e new there);
            }

        pub count-changing : (new : Loaded T) → count_of (set cells slot (Some new)) shelf.rows ≡ count_of cells shelf.rows
        count-changing new = omega (arith, count-same cells slot e new there)

-- rows under their owners stay so with one more that is
pub owned-added : {T : Type 0} (called : T → Name) (owner : Name → Option KernelNo) (old new : List (Shelved T)) (row : Shelved T) → owner (called row.content) ≡ Some row.owner → IsAdded old new row → AreOwned called owner old → AreOwned called owner new
owned-added {T} called owner old new row own added owned k d within =
    let Own : Shelved T → Type 0 = λ r. owner (called r.content) ≡ Some r.owner in
    let r = get_or new k d in
    elim (Contains-insert_cases old added.0 row r (subst (λ rows. Contains rows r) added.2 (Contains-get_or new k d within))) [
      | inl same ↦ subst Own (sym same) own
      | inr was ↦ All-contains Own old r owned was
    ]
