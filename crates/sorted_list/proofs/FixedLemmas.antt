-- What the table of a list holds.
use Rattle.std.proofs.Common.{◌≡◌, ◌≢◌, ℕ, zero, suc, ◌+◌, ◌<◌, ◌≤◌, List, [], ◌∷◌, ◌++◌, length, ◌⊎◌, inl, inr, refl, sym, ◌∙◌, ap, subst, arith, length-append, ◌^◌, take, drop, get_or, All, AllPairs}
use Rattle.std.specs.Prelude.{slice_get, slice_set, Some}
use Rattle.std.proofs.Math.ListN.{get_or-append}
use Rattle.std.proofs.Math.Seq.{get_or-append_seam}
use Rattle.std.proofs.lemmas.List.{length-set, length_push, take_all, take-append-le}
use Rattle.std.proofs.lemmas.List.Elements.{All-push}
use Rattle.std.proofs.lemmas.List.Quantifiers.{all_pairs_push}
use Rattle.sorted_list.specs.declared.nodes.Branch.{Branch}
use Rattle.sorted_list.specs.declared.nodes.Node.{Node}
use Rattle.sorted_list.specs.Fixed.{Fixed}
use Rattle.sorted_list.specs.Layout.{items_at, items_down, items_of_node, IsSeated, IsSound}
use Rattle.sorted_list.specs.Trees.{Tree, leaf, fork, alone, items_of, seat_of, Becomes, HasSeat, IsAlone, Lies, Stands}
use Rattle.sorted_list.proofs.EditLemmas.{get_before, get_here}
use Rattle.sorted_list.proofs.TreeLemmas.{get_set_other, get_set_same, lies_on, seat_within}

pairs_front : (R : ℕ → ℕ → Type 0) (xs : List ℕ) (x : ℕ) → AllPairs R (xs ++ x ∷ []) → AllPairs R xs
pairs_front R xs x pairs i j d lt within =
    let longer = length_push xs x in
    rw (← get_or-append xs (x ∷ []) d i (omega (arith, lt, within)), ← get_or-append xs (x ∷ []) d j within) (pairs i j d lt (omega (arith, within, longer)))

pairs_last : (R : ℕ → ℕ → Type 0) (xs : List ℕ) (x : ℕ) → AllPairs R (xs ++ x ∷ []) → All (λ y. R y x) xs
pairs_last R xs x pairs i d within =
    let longer = length_push xs x in
    subst (λ y. R (get_or xs i d) y) (get_or-append_seam xs x [] d) (subst (λ y. R y (get_or (xs ++ x ∷ []) (length xs) d)) (get_or-append xs (x ∷ []) d i within) (pairs i (length xs) d within (omega (arith, longer))))

pub last_of : (P : ℕ → Type 0) (xs : List ℕ) (x : ℕ) → All P (xs ++ x ∷ []) → P x
last_of P xs x all = subst P (get_or-append_seam xs x [] 0) (all (length xs) 0 (omega (arith, length_push xs x)))

front_of : (P : ℕ → Type 0) (xs : List ℕ) (x : ℕ) → All P (xs ++ x ∷ []) → All P xs
front_of P xs x all i d within = subst P (get_or-append xs (x ∷ []) d i within) (all i d (omega (arith, within, length_push xs x)))

all_none : {X : Type 0} (P : X → Type 0) → All P []
all_none P k d within = absurd (omega (arith, within))

module _ {T : Type 0} where
  down_step : (steps count : ℕ) (nodes : List (Node T)) (seat : ℕ) (node : Node T) → 0 < count → slice_get nodes seat ≡ Some node → items_down (suc steps) count nodes seat ≡ items_down steps node.before.count nodes node.before.seat ++ node.item ∷ items_down steps node.behind.count nodes node.behind.seat
  down_step steps zero nodes seat node some read = absurd (omega (arith, some))
  down_step steps (suc count) nodes seat node some read = ap (items_of_node (λ branch. items_down steps branch.count nodes branch.seat)) read

  -- the way down a tree finds its items
  items_found : (nodes : List (Node T)) (tree : Tree T) (steps : ℕ) → Lies nodes tree → length (items_of tree) ≤ steps → items_down steps (length (items_of tree)) nodes (seat_of tree) ≡ items_of tree
  items_found nodes leaf zero lies enough = refl
  items_found nodes leaf (suc steps) lies enough = refl
  items_found nodes (fork own before item behind) zero lies enough = absurd (omega (arith, enough, length-append (items_of before) (item ∷ items_of behind)))
  items_found nodes (fork own before item behind) (suc steps) lies enough =
      let whole = length-append (items_of before) (item ∷ items_of behind) in
      let some : 0 < length (items_of before ++ item ∷ items_of behind) = omega (arith, whole) in
      let few_before : length (items_of before) ≤ steps = omega (arith, enough, whole) in
      let few_behind : length (items_of behind) ≤ steps = omega (arith, enough, whole) in
      down_step steps (length (items_of before ++ item ∷ items_of behind)) nodes own _ some lies.0
      ∙ ap (λ l. l ++ item ∷ items_down steps (length (items_of behind)) nodes (seat_of behind)) (items_found nodes before steps lies.1 few_before)
      ∙ ap (λ l. items_of before ++ item ∷ l) (items_found nodes behind steps lies.2 few_behind)

  -- so a contract sees the items of the tree
  pub items_are : (nodes : List (Node T)) (root : Branch) (tree : Tree T) → Stands nodes root tree → items_at nodes root ≡ items_of tree
  items_are nodes root tree stands = ap (items_at nodes) stands.named ∙ items_found nodes tree (length (items_of tree)) stands.lies (omega arith)

  -- the node at a seat is ready to come into a tree that stands
  pub record Ready (tree : Tree T) (nodes : List (Node T)) (spare : List ℕ) (seat : ℕ) (item : T) : Type 0 where
    pub lies : Lies nodes tree
    pub lone : IsAlone nodes seat item
    pub within : seat < length nodes
    pub fresh : HasSeat tree seat → ⊥
    pub counted : length nodes ≡ length (items_of tree) + length spare + 1
    pub spare_within : All (λ other. other < length nodes) spare
    pub spare_free : All (λ other. HasSeat tree other → ⊥) spare
    pub spare_once : AllPairs ◌≢◌ spare
    pub spare_others : All (λ other. other ≢ seat) spare

  pub ready : (room : ℕ) (root : Branch) (nodes : List (Node T)) (spare : List ℕ) (sound : IsSound room root nodes spare) (new_nodes : List (Node T)) (new_spare : List ℕ) (seat : ℕ) (item : T) → IsSeated nodes spare new_nodes new_spare seat item → Ready sound.tree new_nodes new_spare seat item
  ready room root nodes spare sound new_nodes new_spare seat item (inl again) =
      let tree = sound.tree in
      let within = subst (All (λ other. other < length nodes)) again.0 sound.spare_within in
      let free = subst (All (λ other. HasSeat tree other → ⊥)) again.0 sound.spare_free in
      let once = subst (AllPairs ◌≢◌) again.0 sound.spare_once in
      let longer : length spare ≡ length new_spare + 1 = ap length again.0 ∙ length_push new_spare seat in
      let same : length new_nodes ≡ length nodes = ap length again.1 ∙ length-set nodes seat (alone item) in
      let below = last_of (λ other. other < length nodes) new_spare seat within in
      let fresh = last_of (λ other. HasSeat tree other → ⊥) new_spare seat free in
      record {
        lies = subst (λ n. Lies n tree) (sym again.1) (lies_on nodes (slice_set nodes seat (alone item)) tree sound.stands.lies (λ own has. get_set_other nodes seat own (alone item) (λ here. fresh (subst (HasSeat tree) here has))));
        lone = subst (λ n. IsAlone n seat item) (sym again.1) (get_set_same nodes seat (alone item) below);
        within = omega (arith, same, below);
        fresh = fresh;
        counted = omega (arith, same, longer, sound.counted);
        spare_within = subst (λ n. All (λ other. other < n) new_spare) (sym same) (front_of (λ other. other < length nodes) new_spare seat within);
        spare_free = front_of (λ other. HasSeat tree other → ⊥) new_spare seat free;
        spare_once = pairs_front ◌≢◌ new_spare seat once;
        spare_others = pairs_last ◌≢◌ new_spare seat once;
      }
  ready room root nodes spare sound new_nodes new_spare seat item (inr more) =
      let tree = sound.tree in
      let none : length spare ≡ 0 = ap length more.0 in
      let none_left : length new_spare ≡ 0 = ap length more.1 in
      let node = alone item in
      let longer : length new_nodes ≡ length nodes + 1 = ap length more.3 ∙ length_push nodes node in
      record {
        lies = subst (λ n. Lies n tree) (sym more.3) (lies_on nodes (nodes ++ node ∷ []) tree sound.stands.lies (λ own has. get_before nodes (node ∷ []) own (seat_within nodes tree own sound.stands.lies has)));
        lone = subst (λ n. IsAlone n seat item) (sym more.3) (get_here nodes [] node seat more.2);
        within = omega (arith, longer, more.2);
        fresh = λ has. below_itself seat (subst (λ n. seat < n) (sym more.2) (seat_within nodes tree seat sound.stands.lies has));
        counted = omega (arith, longer, none, none_left, sound.counted);
        spare_within = subst (All (λ other. other < length new_nodes)) (sym more.1) (all_none (λ other. other < length new_nodes));
        spare_free = subst (All (λ other. HasSeat tree other → ⊥)) (sym more.1) (all_none (λ other. HasSeat tree other → ⊥));
        spare_once = subst (AllPairs ◌≢◌) (sym more.1) (λ i j d lt within. absurd (omega (arith, within)));
        spare_others = subst (All (λ other. other ≢ seat)) (sym more.1) (all_none (λ other. other ≢ seat));
      }
    where
      below_itself : (n : ℕ) → n < n → ⊥
      below_itself n lt = omega (arith, lt)

  -- and the table stays within the room
  pub still_few : (room : ℕ) (root : Branch) (nodes : List (Node T)) (spare : List ℕ) (sound : IsSound room root nodes spare) (new_nodes : List (Node T)) (new_spare : List ℕ) (seat : ℕ) (item : T) → length (items_of sound.tree) < room → IsSeated nodes spare new_nodes new_spare seat item → length new_nodes ≤ room
  still_few room root nodes spare sound new_nodes new_spare seat item less (inl again) = omega (arith, ap length again.1, length-set nodes seat (alone item), sound.few)
  still_few room root nodes spare sound new_nodes new_spare seat item less (inr more) = omega (arith, less, sound.counted, ap length more.0, ap length more.3, length_push nodes (alone item))

  -- with its node in the tree the list is sound again
  pub sound_inserted : (room : ℕ) (old_root result : Branch) (tree : Tree T) (nodes new : List (Node T)) (spare : List ℕ) (seat : ℕ) (item : T) (list : List T) → room < 2 ^ 32 → length (items_of tree) < room → Ready tree nodes spare seat item → length nodes ≤ room → Becomes nodes new result list (λ own. (own ≡ seat) ⊎ HasSeat tree own) → length new ≡ length nodes → length list ≡ length (items_of tree) + 1 → IsSound room result new spare
  sound_inserted room old_root result tree nodes new spare seat item list small less r few became same longer = record {
    tree = became.tree;
    stands = became.stands;
    counted = omega (arith, same, longer, r.counted, ap length became.items);
    few = omega (arith, same, few);
    small = small;
    spare_within = subst (λ n. All (λ other. other < n) spare) (sym same) r.spare_within;
    spare_free = λ k d within has. clear (get_or spare k d) (r.spare_others k d within) (r.spare_free k d within) (became.seats (get_or spare k d) has);
    spare_once = r.spare_once;
  }
    where
      clear : (own : ℕ) → own ≢ seat → (HasSeat tree own → ⊥) → (own ≡ seat) ⊎ HasSeat tree own → ⊥
      clear own other free (inl here) = other here
      clear own other free (inr has) = free has

  -- and without a node whose seat is spare from then on
  pub sound_removed : (room : ℕ) (root result : Branch) (nodes new : List (Node T)) (spare : List ℕ) (gone : ℕ) (list : List T) (sound : IsSound room root nodes spare) → HasSeat sound.tree gone → Becomes nodes new result list (λ own. HasSeat sound.tree own × (own ≢ gone)) → length new ≡ length nodes → length list + 1 ≡ length (items_of sound.tree) → IsSound room result new (spare ++ gone ∷ [])
  sound_removed room root result nodes new spare gone list sound was became same shorter = record {
    tree = became.tree;
    stands = became.stands;
    counted = omega (arith, same, shorter, sound.counted, ap length became.items, length_push spare gone);
    few = omega (arith, same, sound.few);
    small = sound.small;
    spare_within = All-push (λ other. other < length new) spare gone (subst (λ n. All (λ other. other < n) spare) (sym same) sound.spare_within) (omega (arith, same, seat_within nodes sound.tree gone sound.stands.lies was));
    spare_free = All-push (λ other. HasSeat became.tree other → ⊥) spare gone (λ k d within has. sound.spare_free k d within (became.seats (get_or spare k d) has).0) (λ has. (became.seats gone has).1 refl);
    spare_once = all_pairs_push ◌≢◌ spare gone sound.spare_once (λ k d within here. sound.spare_free k d within (subst (HasSeat sound.tree) (sym here) was));
  }

-- a table whose length stays is what was written over it
pub written_over : {X : Type 0} (n : ℕ) (xs ys : List X) → n ≡ length xs → length ys ≡ n → take n (ys ++ drop (length ys) xs) ≡ ys
written_over n xs ys whole same = take-append-le n ys (drop (length ys) xs) (omega (arith, same)) ∙ take_all n ys (omega (arith, same))

pub emptied : {X : Type 0} (xs : List X) → length xs ≡ 0 → xs ≡ []
emptied [] none = refl
emptied (x ∷ xs) none = absurd (omega (arith, none))

-- a table with nothing in it is sound
pub sound_empty : {T : Type 0} (room : ℕ) (nodes : List (Node T)) (spare : List ℕ) → room < 2 ^ 32 → nodes ≡ [] → spare ≡ [] → IsSound room (record { seat = 0; count = 0 }) nodes spare
sound_empty room nodes spare small no_nodes no_spare = record {
  tree = leaf;
  stands = record { named = refl; lies = tt };
  counted = omega (arith, ap length no_nodes, ap length no_spare);
  few = omega (arith, ap length no_nodes);
  small = small;
  spare_within = subst (All (λ seat. seat < length nodes)) (sym no_spare) (all_none (λ seat. seat < length nodes));
  spare_free = λ k d within has. has;
  spare_once = subst (AllPairs ◌≢◌) (sym no_spare) (λ i j d lt within. absurd (omega (arith, within)));
}

abbrev view_of : {T : Type 0} → ℕ → List T → Fixed T
view_of room items = record { room = room; items = items }

-- what a contract sees after an edit
pub seen : {T : Type 0} (edit : List T → List T) (room : ℕ) (root result : Branch) (nodes over new : List (Node T)) (sees : Fixed T) → over ≡ new → view_of room (items_at nodes root) ≡ sees → items_at new result ≡ edit (items_at nodes root) → view_of room (items_at over result) ≡ view_of sees.room (edit sees.items)
seen edit room root result nodes over new sees same before after = ap (λ l. view_of room (items_at l result)) same ∙ ap (view_of room) after ∙ ap (λ s. view_of s.room (edit s.items)) before
