-- A resident's content, and that of what is shelved.
use Rattle.std.proofs.Common.{◌≡◌, ◌≢◌, ◌↔◌, ℕ, suc, List, [], ◌∷◌, ◌++◌, get_or, map, AllPairs, Contains, Some, IsSome, sym, ◌∙◌, ap, subst, inl, inr, refl, arith}
use Rattle.std.specs.Option.{option_map}
use Rattle.std.proofs.lemmas.List.Elements.{All-contains, Contains-append_right, Contains-get_or}
use Rattle.cache_ident.specs.declared.idents.Ident.{Ident}
use Rattle.cache_ident.specs.declared.idents.Kind.{Kind}
use Rattle.cache_ident.specs.declared.idents.Kind.TheVariants as kind
use Rattle.cache_ident.specs.declared.names.Name.{Name}
use Rattle.cache_ident.specs.declared.names.Name.TheVariants as name
use Rattle.cache_ident.specs.Names.{kind_of}
use Rattle.cache_ident.specs.Residents.{Resident, IsNameResident}
use Rattle.sorted_list.proofs.ListLemmas.{Contains-cons_cases, Contains-map}
use Rattle.resident_pairs.specs.flat_laws.proofs.Members.{contains_nothing}
use Rattle.desc_stores.specs.slot_cache.specs.declared.loaded.Loaded.{Loaded}
use Rattle.desc_stores.specs.slot_cache.specs.Cells.{cell_at, loaded_in, HasNoName}
use Rattle.desc_stores.specs.slot_cache.specs.Rows.{row_name}
use Rattle.desc_stores.specs.slot_cache.proofs.IterLemmas.{lists_exactly}
use Rattle.desc_stores.specs.owner_shelf.specs.declared.shelved.Shelved.{Shelved}
use Rattle.desc_stores.specs.owner_shelf.specs.Rows.{content_under}
use Rattle.desc_stores.specs.owner_shelf.proofs.SoundLemmas.{some_is}
use Rattle.desc_stores.specs.kernel_cache.specs.Kernels as kernel_rec
use Rattle.desc_stores.specs.space_cache.specs.Spaces as space_rec
use Rattle.desc_stores.specs.thread_cache.specs.Threads as thread_rec
use Rattle.desc_stores.specs.kind_store.specs.Kept as stored
use Rattle.desc_stores.specs.kind_store.specs.Rolls.{loaded_as}
use Rattle.desc_stores.specs.kind_store.proofs.ContentLemmas.{not_absent}
use Rattle.desc_stores.specs.declared.items.Item.{Item}
use Rattle.desc_stores.specs.declared.items.Item.TheVariants as item
use Rattle.desc_stores.specs.Contents.{content_of, item_as, item_in, resident_as, resident_in, resident_of, residents_of, Contents, IsShelved}
use Rattle.desc_stores.specs.Sound.{IsExactlyOne}
use Rattle.desc_stores.proofs.CellLemmas.{as_loaded}
use Rattle.desc_stores.proofs.KindLemmas.{resident_back}
use Rattle.desc_stores.proofs.PutLemmas.{loaded_content, shelved_content, some_under}
use Rattle.store_residents.specs.Slots.{resident_at}
use Rattle.store_residents.proofs.CellLemmas.{seen, seen_back}
use Rattle.store_residents.proofs.ResidentLemmas.{resident_kind, resident_loaded, resident_seat, seat_resident}
use Rattle.store_residents.proofs.SlotLaws.{some_map, what_is_there}

-- what is loaded of a kind with a resident's identifier has the content of its name
pub loaded_of : {T : Type 0} (c : Contents) (called : T → Name) (of_kind : Kind) (kept : stored.Kept T) (wrap : T → Item) → stored.IsExactlyOne called of_kind kept → ((v : T) → content_of c (called v) ≡ option_map wrap (stored.content_of called kept (called v))) → (i : Ident) (r : Resident) → option_map (resident_of called) (loaded_as kept.cells i) ≡ Some r → (l : Loaded T) × (cell_at kept.cells i.slot ≡ Some l) × (l.ident ≡ i) × (content_of c r.name ≡ Some (wrap l.value))
loaded_of c called of_kind kept wrap once is i r held =
    let back = resident_back called kept.cells i r held in
    let value = back.0.value in
    let content = is value ∙ ap (option_map wrap) (loaded_content called of_kind kept once i.slot back.0 back.1 (called value) refl) in
    (back.0, back.1, back.2, subst (λ n. content_of c n ≡ Some (wrap value)) (ap (λ (x : Resident). x.name) back.3) content)

-- so a resident has a content, which is that of its name
pub loaded_item : (c : Contents) → IsExactlyOne c → (i : Ident) (r : Resident) → resident_as c i ≡ Some r → (it : Item) × (item_as c i ≡ Some it) × (content_of c r.name ≡ Some it)
loaded_item c one i r held = by i.kind held
  where
    of : {T : Type 0} (called : T → Name) (of_kind : Kind) (kept : stored.Kept T) (wrap : T → Item) → stored.IsExactlyOne called of_kind kept → ((v : T) → content_of c (called v) ≡ option_map wrap (stored.content_of called kept (called v))) → option_map (resident_of called) (loaded_as kept.cells i) ≡ Some r → (it : Item) × (option_map (λ (l : Loaded T). wrap l.value) (loaded_as kept.cells i) ≡ Some it) × (content_of c r.name ≡ Some it)
    of {T} called of_kind kept wrap once is held =
        let l = loaded_of c called of_kind kept wrap once is i r held in
        (wrap l.0.value, ap (option_map (λ (x : Loaded T). wrap x.value)) (as_loaded kept.cells i l.0 l.1 l.2), l.3)

    by : (k : Kind) → resident_in c k i ≡ Some r → (it : Item) × (item_in c k i ≡ Some it) × (content_of c r.name ≡ Some it)
    by kind.Kernel = of kernel_rec.name_of kind.Kernel c.kernels item.Kernel one.kernels (λ v. refl)
    by kind.Space = of space_rec.name_of kind.Space c.spaces item.Space one.spaces (λ v. refl)
    by kind.Thread = of thread_rec.name_of kind.Thread c.threads item.Thread one.threads (λ v. refl)
    by kind.Mapping = of row_name kind.Mapping c.rows.kept item.Mapping one.rows (λ v. refl)

pub resident_item : (c : Contents) → IsExactlyOne c → (r : Resident) → Contains (residents_of c) r → item_as c r.ident ≡ content_of c r.name
resident_item c one r there = let it = loaded_item c one r.ident r (resident_loaded c r there) in it.1 ∙ sym it.2

pub resident_content : (c : Contents) → IsExactlyOne c → (r : Resident) → Contains (residents_of c) r → IsSome (content_of c r.name)
resident_content c one r there = let it = loaded_item c one r.ident r (resident_loaded c r there) in some_is (content_of c r.name) it.0 it.2

-- of two lists end to end, what holds of each and each later one holds across
across : {X : Type 0} (R : X → X → Type 0) (xs ys : List X) → AllPairs R (xs ++ ys) → (x y : X) → Contains xs x → Contains ys y → R x y
across R [] ys pairs x y first second = absurd (contains_nothing x first)
across R (a ∷ xs) ys pairs x y first second = elim (Contains-cons_cases xs a x first) [
  | inl same ↦ subst (λ z. R z y) (sym same) (All-contains (R a) (xs ++ ys) y (λ k d within. pairs 0 (suc k) d (omega arith) (omega (arith, within))) (Contains-append_right xs ys y second))
  | inr behind ↦ across R xs ys (λ i j d lt within. pairs (suc i) (suc j) d (omega (arith, lt)) (omega (arith, within))) x y behind second
]

module _ {T : Type 0} (called : T → Name) (of_kind : Kind) (kept : stored.Kept T) (one : stored.IsExactlyOne called of_kind kept) (n : Name) where
  -- what is shelved isn't loaded
  not_both : (value : T) → content_under called kept.rows n ≡ Some value → HasNoName called kept.cells n
  not_both value found slot l there named =
      let own = (one.slots.placed slot l there).0 in
      let listed = (lists_exactly of_kind kept.cells one.slots.placed l).1 (subst (λ s. cell_at kept.cells s ≡ Some l) (sym own) there) in
      not_absent called kept.rows n value found (λ k d within row_named. across (λ (a : Name) (b : Name). a ≢ b) (map (λ (x : Loaded T). called x.value) (loaded_in kept.cells)) (map (λ (row : Shelved T). called row.content) kept.rows) one.once (called l.value) (called (get_or kept.rows k d).content) (Contains-map (λ (x : Loaded T). called x.value) (loaded_in kept.cells) l listed) (Contains-map (λ (row : Shelved T). called row.content) kept.rows (get_or kept.rows k d) (Contains-get_or kept.rows k d within)) (named ∙ sym row_named))

  -- nothing that is loaded has the name
  abbrev IsUnseen : Type 0
  IsUnseen = (slot : ℕ) (r : Resident) → seen called (cell_at kept.cells slot) ≡ Some r → r.name ≢ n

  shelved_kind : IsSome (content_under called kept.rows n) ↔ (IsSome (stored.content_of called kept n) × IsUnseen)
  shelved_kind = (
    λ shelved.
        let value = what_is_there (content_under called kept.rows n) shelved in
        let absent = not_both value.0 value.1 in (
          subst (λ o. IsSome o) (sym (shelved_content called kept n absent)) shelved,
          λ slot r there named.
              let back = seen_back called (cell_at kept.cells slot) r there in
              absent slot back.0 back.1 (ap (λ (x : Resident). x.name) back.2 ∙ named),
        ),
    λ is.
        let absent : HasNoName called kept.cells n = λ slot l there named. is.1 slot (resident_of called l) (ap (seen called) there) named in
        subst (λ o. IsSome o) (shelved_content called kept n absent) is.0,
  )

module _ (c : Contents) (one : IsExactlyOne c) where
  -- no resident has a name where nothing in a slot of its kind has
  unseen_iff : (n : Name) → (IsNameResident (residents_of c) n → ⊥) ↔ ((slot : ℕ) (r : Resident) → resident_at c (kind_of n) slot ≡ Some r → r.name ≢ n)
  unseen_iff n = (
    λ none slot r there named. none (r, seat_resident c one.sound (kind_of n) slot r there, named),
    λ none is.
        let of_kind = resident_kind c one.sound is.0 is.1 ∙ ap kind_of is.2 in
        none is.0.ident.slot is.0 (subst (λ (k : Kind). resident_at c k is.0.ident.slot ≡ Some is.0) of_kind (resident_seat c is.0 is.1)) is.2,
  )

  pub shelved_iff : (n : Name) → IsShelved c n ↔ (IsSome (content_of c n) × (IsNameResident (residents_of c) n → ⊥))
  shelved_iff n = by n (unseen_iff n)
    where
      of : {T : Type 0} (called : T → Name) (of_kind : Kind) (kept : stored.Kept T) (wrap : T → Item) (m : Name) → stored.IsExactlyOne called of_kind kept → (IsNameResident (residents_of c) m → ⊥) ↔ ((slot : ℕ) (r : Resident) → seen called (cell_at kept.cells slot) ≡ Some r → r.name ≢ m) → IsSome (content_under called kept.rows m) ↔ (IsSome (option_map wrap (stored.content_of called kept m)) × (IsNameResident (residents_of c) m → ⊥))
      of called of_kind kept wrap m once unseen = (
        λ shelved.
            let is = (shelved_kind called of_kind kept once m).0 shelved in
            (some_map wrap (stored.content_of called kept m) is.0, unseen.1 is.1),
        λ is. (shelved_kind called of_kind kept once m).1 (some_under wrap (stored.content_of called kept m) is.0, unseen.0 is.1),
      )

      by : (m : Name) → (IsNameResident (residents_of c) m → ⊥) ↔ ((slot : ℕ) (r : Resident) → resident_at c (kind_of m) slot ≡ Some r → r.name ≢ m) → IsShelved c m ↔ (IsSome (content_of c m) × (IsNameResident (residents_of c) m → ⊥))
      by (name.Kernel number) = of kernel_rec.name_of kind.Kernel c.kernels item.Kernel (name.Kernel number) one.kernels
      by (name.Space number) = of space_rec.name_of kind.Space c.spaces item.Space (name.Space number) one.spaces
      by (name.Thread number) = of thread_rec.name_of kind.Thread c.threads item.Thread (name.Thread number) one.threads
      by (name.Mapping space vpn) = of row_name kind.Mapping c.rows.kept item.Mapping (name.Mapping space vpn) one.rows
