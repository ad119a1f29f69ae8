-- Each name is in one place at most.
use Rattle.std.proofs.Common.{◌≢◌, suc, ◌<◌, List, [], ◌∷◌, ◌++◌, length, get_or, map, All, AllPairs, Contains, Option, sym, ◌∙◌, arith}
use Rattle.std.proofs.lemmas.List.{get_or-map, length-map}
use Rattle.std.proofs.lemmas.List.Elements.{All-append, All-contains, Contains-get_or}
use Rattle.std.proofs.lemmas.List.Kept.{AllPairs-cons}
use Rattle.cache_ident.specs.declared.idents.Kind.{Kind}
use Rattle.cache_ident.specs.declared.names.Name.{Name}
use Rattle.sorted_list.proofs.ListLemmas.{some_item, Contains-first, Contains-from_map, Contains-later}
use Rattle.slot_cache.specs.declared.loaded.Loaded.{Loaded}
use Rattle.slot_cache.specs.Cells.{loaded_in}
use Rattle.slot_cache.proofs.IterLemmas.{lists_exactly, lists_in_order}
use Rattle.owner_shelf.specs.declared.shelved.Shelved.{Shelved}
use Rattle.owner_shelf.specs.Rows.{OnShelf}
use Rattle.kind_store.specs.Kept.{kept_in, IsExactlyOne, IsSound}

AllPairs-map : {X Y : Type 0} (f : X → Y) (R : Y → Y → Type 0) (xs : List X) → AllPairs (λ a b. R (f a) (f b)) xs → AllPairs R (map f xs)
AllPairs-map f R xs pairs i j d lt within =
    let in_range : j < length xs = omega (arith, within, length-map xs f) in
    let e = some_item xs (omega (arith, in_range)) in
    rw (get_or-map f xs i e d (omega (arith, lt, in_range)), get_or-map f xs j e d in_range) (pairs i j e lt in_range)

AllPairs-append : {X : Type 0} (R : X → X → Type 0) (xs ys : List X) → AllPairs R xs → AllPairs R ys → ((x y : X) → Contains xs x → Contains ys y → R x y) → AllPairs R (xs ++ ys)
AllPairs-append R [] ys front back across = back
AllPairs-append R (x ∷ xs) ys front back across =
    let first : All (R x) xs = λ k d within. front 0 (suc k) d (omega arith) (omega (arith, within)) in
    let over : All (R x) ys = λ k d within. across x (get_or ys k d) (Contains-first xs x) (Contains-get_or ys k d within) in
    AllPairs-cons R x (xs ++ ys) (All-append (R x) xs ys first over) (AllPairs-append R xs ys (λ i j d lt within. front (suc i) (suc j) d (omega (arith, lt)) (omega (arith, within))) back (λ a b here. across a b (Contains-later xs x a here)))

module _ {T : Type 0} (called : T → Name) (kind : Kind) (cells : List (Option (Loaded T))) (shelf : OnShelf T) (sound : IsSound called kind cells shelf) where
  loaded_once : AllPairs (λ a b. called a.value ≢ called b.value) (loaded_in cells)
  loaded_once i j d lt within same =
      let listed = lists_exactly kind cells sound.slots.placed in
      let a = get_or (loaded_in cells) i d in
      let b = get_or (loaded_in cells) j d in
      let a_there = (listed a).0 (Contains-get_or (loaded_in cells) i d (omega (arith, lt, within))) in
      let b_there = (listed b).0 (Contains-get_or (loaded_in cells) j d within) in
      omega (arith, lists_in_order kind cells sound.slots.placed i j d lt within, sound.slots.one_name a.ident.slot b.ident.slot a b a_there b_there same)

  not_both : (x y : Name) → Contains (map (λ (l : Loaded T). called l.value) (loaded_in cells)) x → Contains (map (λ (r : Shelved T). called r.content) shelf.rows) y → x ≢ y
  not_both x y loaded shelved same =
      let l = Contains-from_map (λ (l : Loaded T). called l.value) (loaded_in cells) x loaded in
      let r = Contains-from_map (λ (r : Shelved T). called r.content) shelf.rows y shelved in
      let there = (lists_exactly kind cells sound.slots.placed l.0).0 l.1 in
      All-contains (λ (r : Shelved T). called r.content ≢ called l.0.value) shelf.rows r.0 (sound.apart l.0.ident.slot l.0 there) r.1 (r.2 ∙ sym same ∙ sym l.2)

  pub exactly_one : IsExactlyOne called kind (kept_in cells shelf)
  exactly_one = record {
    slots = sound.slots;
    once = AllPairs-append (λ a b. a ≢ b) (map (λ (l : Loaded T). called l.value) (loaded_in cells)) (map (λ (r : Shelved T). called r.content) shelf.rows) (AllPairs-map (λ (l : Loaded T). called l.value) (λ a b. a ≢ b) (loaded_in cells) loaded_once) (AllPairs-map (λ (r : Shelved T). called r.content) (λ a b. a ≢ b) shelf.rows sound.rows.once) not_both;
  }
