-- What a step down a tree finds and changes, put together with the node above.
use Rattle.std.proofs.Common.{◌≡◌, ◌≢◌, ℕ, zero, suc, ◌-◌, ◌<◌, ◌≤◌, List, [], ◌∷◌, ◌++◌, length, ◌⊎◌, inl, inr, refl, sym, ◌∙◌, ap, subst, arith, length-append, append-nil}
use Rattle.std.specs.Prelude.{slice_get, Some, option_map}
use Rattle.std.specs.List.{insert, remove}
use Rattle.sorted_list.specs.declared.nodes.Branch.{Branch}
use Rattle.sorted_list.specs.declared.nodes.Node.{Node}
use Rattle.sorted_list.specs.Trees.{Tree, leaf, fork, items_of, HasSeat, IsAlone, Stands, Joins, Becomes, Keeps, IsItemAt, Opens}
use Rattle.sorted_list.proofs.EditLemmas.{get_before, get_behind, get_here, insert_before, insert_behind, remove_before, remove_behind, remove_here, first_and_others}
use Rattle.sorted_list.proofs.TreeLemmas.{became_before, became_behind, counts, joins_before, joins_behind, lies_on}

module _ {T : Type 0} (nodes : List (Node T)) (branch : Branch) (node : Node T) (tree : Tree T) (opens : Opens nodes branch node tree) (place : ℕ) where
  before_count : node.before.count ≡ length (items_of opens.before)
  before_count = counts nodes node.before opens.before opens.joins.before_it

  behind_count : node.behind.count ≡ length (items_of opens.behind)
  behind_count = counts nodes node.behind opens.behind opens.joins.behind_it

  -- places of the tree are places before, at and behind the node
  pub found_before : (seat : ℕ) → place < node.before.count → IsItemAt nodes seat opens.before place → IsItemAt nodes seat tree place
  found_before seat front found = subst (λ t. IsItemAt nodes seat t place) (sym opens.is) (inr (inl found.0), found.1 ∙ sym (get_before (items_of opens.before) (node.item ∷ items_of opens.behind) place (omega (arith, front, before_count))))

  pub found_behind : (seat : ℕ) → node.before.count < place → IsItemAt nodes seat opens.behind (place - node.before.count - 1) → IsItemAt nodes seat tree place
  found_behind seat back found = subst (λ t. IsItemAt nodes seat t place) (sym opens.is) (inr (inr found.0), found.1 ∙ sym (get_behind (items_of opens.before) (items_of opens.behind) node.item place (place - node.before.count - 1) (omega (arith, back, before_count))))

  pub found_here : place ≡ node.before.count → slice_get nodes branch.seat ≡ Some node → IsItemAt nodes branch.seat tree place
  found_here here read = subst (λ t. IsItemAt nodes branch.seat t place) (sym opens.is) (inl refl, ap (option_map (λ n. n.item)) read ∙ sym (get_here (items_of opens.before) (items_of opens.behind) node.item place (here ∙ before_count)))

  -- where there is a place behind
  pub place_behind : node.before.count < place → place < length (items_of tree) → place - node.before.count - 1 < length (items_of opens.behind)
  place_behind back within =
      let all : length (items_of tree) ≡ length (items_of opens.before ++ node.item ∷ items_of opens.behind) = ap (λ t. length (items_of t)) opens.is in
      omega (arith, back, within, all, before_count, length-append (items_of opens.before) (node.item ∷ items_of opens.behind))

  pub gap_behind : node.before.count < place → place ≤ length (items_of tree) → place - node.before.count - 1 ≤ length (items_of opens.behind)
  gap_behind back within =
      let all : length (items_of tree) ≡ length (items_of opens.before ++ node.item ∷ items_of opens.behind) = ap (λ t. length (items_of t)) opens.is in
      omega (arith, back, within, all, before_count, length-append (items_of opens.before) (node.item ∷ items_of opens.behind))

  -- a seat that the tree lacks
  pub fresh_parts : (seat : ℕ) → (HasSeat tree seat → ⊥) → record { not_own : seat ≢ branch.seat; not_before : HasSeat opens.before seat → ⊥; not_behind : HasSeat opens.behind seat → ⊥ }
  fresh_parts seat fresh =
      let f = subst (λ t. HasSeat t seat → ⊥) opens.is fresh in
      record { not_own = λ same. f (inl same); not_before = λ has. f (inr (inl has)); not_behind = λ has. f (inr (inr has)) }

  -- what goes into one of the sides, on a seat that the tree lacks
  module _ (item : T) (seat : ℕ) (fresh : HasSeat tree seat → ⊥) where
    abbrev pub Widened : Tree T → ℕ → Type 0
    Widened side own = (own ≡ seat) ⊎ HasSeat side own

    -- the node itself stays where it lies
    not_in_before : Widened opens.before branch.seat → ⊥
    not_in_before (inl here) = (fresh_parts seat fresh).not_own (sym here)
    not_in_before (inr has) = opens.joins.apart.not_before has

    not_in_behind : Widened opens.behind branch.seat → ⊥
    not_in_behind (inl here) = (fresh_parts seat fresh).not_own (sym here)
    not_in_behind (inr has) = opens.joins.apart.not_behind has

    pub node_kept_before : (mid : List (Node T)) (left : Branch) (list : List T) → Becomes nodes mid left list (Widened opens.before) → slice_get nodes branch.seat ≡ Some node → slice_get mid branch.seat ≡ Some node
    node_kept_before mid left list became read = became.others branch.seat not_in_before ∙ read

    pub node_kept_behind : (mid : List (Node T)) (left : Branch) (list : List T) → Becomes nodes mid left list (Widened opens.behind) → slice_get nodes branch.seat ≡ Some node → slice_get mid branch.seat ≡ Some node
    node_kept_behind mid left list became read = became.others branch.seat not_in_behind ∙ read

    pub joins_inserted_before : (mid : List (Node T)) (changed : Node T) (list : List T) (became : Becomes nodes mid changed.before list (Widened opens.before)) → changed.behind ≡ node.behind → Joins mid branch.seat changed became.tree opens.behind
    joins_inserted_before mid changed list became same =
        let f = fresh_parts seat fresh in
        joins_before nodes mid branch.seat node changed opens.before opens.behind list (Widened opens.before) became same opens.joins not_in_before (λ own mine has. sides_apart f.not_behind own mine has)
      where
        sides_apart : (HasSeat opens.behind seat → ⊥) → (own : ℕ) → Widened opens.before own → HasSeat opens.behind own → ⊥
        sides_apart not_behind own (inl here) has = not_behind (subst (HasSeat opens.behind) here has)
        sides_apart not_behind own (inr mine) has = opens.joins.apart.apart own mine has

    pub joins_inserted_behind : (mid : List (Node T)) (changed : Node T) (list : List T) (became : Becomes nodes mid changed.behind list (Widened opens.behind)) → changed.before ≡ node.before → Joins mid branch.seat changed opens.before became.tree
    joins_inserted_behind mid changed list became same =
        let f = fresh_parts seat fresh in
        joins_behind nodes mid branch.seat node changed opens.before opens.behind list (Widened opens.behind) became same opens.joins not_in_behind (λ own mine has. sides_apart f.not_before own mine has)
      where
        sides_apart : (HasSeat opens.before seat → ⊥) → (own : ℕ) → Widened opens.behind own → HasSeat opens.before own → ⊥
        sides_apart not_before own (inl here) has = not_before (subst (HasSeat opens.before) here has)
        sides_apart not_before own (inr mine) has = opens.joins.apart.apart own has mine

    pub inserted_before : (mid new : List (Node T)) (left result : Branch) (became : Becomes nodes mid left (insert (items_of opens.before) place item) (Widened opens.before)) → place ≤ node.before.count → Keeps mid new result (fork branch.seat became.tree node.item opens.behind) → Becomes nodes new result (insert (items_of tree) place item) (Widened tree)
    inserted_before mid new left result became front kept =
        let whole = fork branch.seat opens.before node.item opens.behind in
        subst (λ t. Becomes nodes new result (insert (items_of t) place item) (Widened t)) (sym opens.is)
        (became_before nodes mid new branch.seat node.item opens.behind left result (insert (items_of opens.before) place item) (insert (items_of whole) place item) (Widened opens.before) (Widened whole) became kept
        (insert_before (items_of opens.before) (items_of opens.behind) node.item item place (omega (arith, front, before_count))) among)
      where
        among : (own : ℕ) → (own ≡ branch.seat) ⊎ (Widened opens.before own ⊎ HasSeat opens.behind own) → (own ≡ seat) ⊎ ((own ≡ branch.seat) ⊎ (HasSeat opens.before own ⊎ HasSeat opens.behind own))
        among own (inl here) = inr (inl here)
        among own (inr (inl (inl new))) = inl new
        among own (inr (inl (inr has))) = inr (inr (inl has))
        among own (inr (inr has)) = inr (inr (inr has))

    pub inserted_behind : (mid new : List (Node T)) (left result : Branch) (became : Becomes nodes mid left (insert (items_of opens.behind) (place - node.before.count - 1) item) (Widened opens.behind)) → node.before.count < place → Keeps mid new result (fork branch.seat opens.before node.item became.tree) → Becomes nodes new result (insert (items_of tree) place item) (Widened tree)
    inserted_behind mid new left result became back kept =
        let whole = fork branch.seat opens.before node.item opens.behind in
        let inner = insert (items_of opens.behind) (place - node.before.count - 1) item in
        subst (λ t. Becomes nodes new result (insert (items_of t) place item) (Widened t)) (sym opens.is)
        (became_behind nodes mid new branch.seat node.item opens.before left result inner (insert (items_of whole) place item) (Widened opens.behind) (Widened whole) became kept
        (insert_behind (items_of opens.before) (items_of opens.behind) node.item item place (place - node.before.count - 1) (omega (arith, back, before_count))) among)
      where
        among : (own : ℕ) → (own ≡ branch.seat) ⊎ (HasSeat opens.before own ⊎ Widened opens.behind own) → (own ≡ seat) ⊎ ((own ≡ branch.seat) ⊎ (HasSeat opens.before own ⊎ HasSeat opens.behind own))
        among own (inl here) = inr (inl here)
        among own (inr (inl has)) = inr (inr (inl has))
        among own (inr (inr (inl new))) = inl new
        among own (inr (inr (inr has))) = inr (inr (inr has))

  -- what goes out of one of the sides, from a seat of it
  abbrev pub Narrowed : Tree T → ℕ → ℕ → Type 0
  Narrowed side gone own = HasSeat side own × (own ≢ gone)

  pub node_left_before : (mid : List (Node T)) (left : Branch) (gone : ℕ) (list : List T) → Becomes nodes mid left list (Narrowed opens.before gone) → slice_get nodes branch.seat ≡ Some node → slice_get mid branch.seat ≡ Some node
  node_left_before mid left gone list became read = became.others branch.seat (λ mine. opens.joins.apart.not_before mine.0) ∙ read

  pub node_left_behind : (mid : List (Node T)) (left : Branch) (gone : ℕ) (list : List T) → Becomes nodes mid left list (Narrowed opens.behind gone) → slice_get nodes branch.seat ≡ Some node → slice_get mid branch.seat ≡ Some node
  node_left_behind mid left gone list became read = became.others branch.seat (λ mine. opens.joins.apart.not_behind mine.0) ∙ read

  pub joins_removed_before : (mid : List (Node T)) (changed : Node T) (gone : ℕ) (list : List T) (became : Becomes nodes mid changed.before list (Narrowed opens.before gone)) → changed.behind ≡ node.behind → Joins mid branch.seat changed became.tree opens.behind
  joins_removed_before mid changed gone list became same = joins_before nodes mid branch.seat node changed opens.before opens.behind list (Narrowed opens.before gone) became same opens.joins (λ mine. opens.joins.apart.not_before mine.0) (λ own mine has. opens.joins.apart.apart own mine.0 has)

  pub joins_removed_behind : (mid : List (Node T)) (changed : Node T) (gone : ℕ) (list : List T) (became : Becomes nodes mid changed.behind list (Narrowed opens.behind gone)) → changed.before ≡ node.before → Joins mid branch.seat changed opens.before became.tree
  joins_removed_behind mid changed gone list became same = joins_behind nodes mid branch.seat node changed opens.before opens.behind list (Narrowed opens.behind gone) became same opens.joins (λ mine. opens.joins.apart.not_behind mine.0) (λ own mine has. opens.joins.apart.apart own has mine.0)

  pub removed_before : (mid new : List (Node T)) (gone : ℕ) (left result : Branch) (became : Becomes nodes mid left (remove (items_of opens.before) place) (Narrowed opens.before gone)) → HasSeat opens.before gone → place < node.before.count → Keeps mid new result (fork branch.seat became.tree node.item opens.behind) → Becomes nodes new result (remove (items_of tree) place) (Narrowed tree gone)
  removed_before mid new gone left result became was front kept =
      let whole = fork branch.seat opens.before node.item opens.behind in
      subst (λ t. Becomes nodes new result (remove (items_of t) place) (Narrowed t gone)) (sym opens.is)
      (became_before nodes mid new branch.seat node.item opens.behind left result (remove (items_of opens.before) place) (remove (items_of whole) place) (Narrowed opens.before gone) (Narrowed whole gone) became kept
      (remove_before (items_of opens.before) (items_of opens.behind) node.item place (omega (arith, front, before_count))) among)
    where
      among : (own : ℕ) → (own ≡ branch.seat) ⊎ (Narrowed opens.before gone own ⊎ HasSeat opens.behind own) → ((own ≡ branch.seat) ⊎ (HasSeat opens.before own ⊎ HasSeat opens.behind own)) × (own ≢ gone)
      among own (inl here) = (inl here, λ same. opens.joins.apart.not_before (subst (HasSeat opens.before) (sym same ∙ here) was))
      among own (inr (inl mine)) = (inr (inl mine.0), mine.1)
      among own (inr (inr has)) = (inr (inr has), λ same. opens.joins.apart.apart gone was (subst (HasSeat opens.behind) same has))

  pub removed_behind : (mid new : List (Node T)) (gone : ℕ) (left result : Branch) (became : Becomes nodes mid left (remove (items_of opens.behind) (place - node.before.count - 1)) (Narrowed opens.behind gone)) → HasSeat opens.behind gone → node.before.count < place → Keeps mid new result (fork branch.seat opens.before node.item became.tree) → Becomes nodes new result (remove (items_of tree) place) (Narrowed tree gone)
  removed_behind mid new gone left result became was back kept =
      let whole = fork branch.seat opens.before node.item opens.behind in
      let inner = remove (items_of opens.behind) (place - node.before.count - 1) in
      subst (λ t. Becomes nodes new result (remove (items_of t) place) (Narrowed t gone)) (sym opens.is)
      (became_behind nodes mid new branch.seat node.item opens.before left result inner (remove (items_of whole) place) (Narrowed opens.behind gone) (Narrowed whole gone) became kept
      (remove_behind (items_of opens.before) (items_of opens.behind) node.item place (place - node.before.count - 1) (omega (arith, back, before_count))) among)
    where
      among : (own : ℕ) → (own ≡ branch.seat) ⊎ (HasSeat opens.before own ⊎ Narrowed opens.behind gone own) → ((own ≡ branch.seat) ⊎ (HasSeat opens.before own ⊎ HasSeat opens.behind own)) × (own ≢ gone)
      among own (inl here) = (inl here, λ same. opens.joins.apart.not_behind (subst (HasSeat opens.behind) (sym same ∙ here) was))
      among own (inr (inl has)) = (inr (inl has), λ same. opens.joins.apart.apart gone (subst (HasSeat opens.before) same has) was)
      among own (inr (inr mine)) = (inr (inr mine.0), mine.1)

  -- where nothing is behind the node, what is before it is left
  pub removed_last : place ≡ node.before.count → node.behind.count ≡ 0 → Becomes nodes nodes node.before (remove (items_of tree) place) (Narrowed tree branch.seat)
  removed_last here none =
      let whole = fork branch.seat opens.before node.item opens.behind in
      subst (λ t. Becomes nodes nodes node.before (remove (items_of t) place) (Narrowed t branch.seat)) (sym opens.is)
      (record {
        tree = opens.before;
        stands = opens.joins.before_it;
        items = sym (ap (λ l. items_of opens.before ++ l) (empty (items_of opens.behind) (sym behind_count ∙ none)) ∙ append-nil (items_of opens.before)) ∙ remove_here (items_of opens.before) (items_of opens.behind) node.item place (here ∙ before_count);
        seats = λ own has. (inr (inl has), λ same. opens.joins.apart.not_before (subst (HasSeat opens.before) same has));
        others = λ own not. refl;
      })
    where
      empty : (l : List T) → length l ≡ 0 → l ≡ []
      empty [] none = refl
      empty (x ∷ l) none = absurd (omega (arith, none))

  -- else the next one takes its place
  module _ (mid : List (Node T)) (next : ℕ) (above changed : Node T) (became : Becomes nodes mid changed.behind (remove (items_of opens.behind) 0) (Narrowed opens.behind next)) (was : IsItemAt nodes next opens.behind 0) where
    pub joins_next : changed.before ≡ node.before → Joins mid next changed opens.before became.tree
    joins_next same = record {
      before_it = record {
        named = same ∙ opens.joins.before_it.named;
        lies = lies_on nodes mid opens.before opens.joins.before_it.lies (λ own has. became.others own (λ mine. opens.joins.apart.apart own has mine.0));
      };
      behind_it = became.stands;
      apart = record {
        not_before = λ has. opens.joins.apart.apart next has was.0;
        not_behind = λ has. (became.seats next has).1 refl;
        apart = λ own has there. opens.joins.apart.apart own has (became.seats own there).0;
      };
    }

    pub removed_next : (new : List (Node T)) (result : Branch) → place ≡ node.before.count → slice_get mid next ≡ Some above → Keeps mid new result (fork next opens.before above.item became.tree) → Becomes nodes new result (remove (items_of tree) place) (Narrowed tree branch.seat)
    removed_next new result here read kept =
        let whole = fork branch.seat opens.before node.item opens.behind in
        let first : slice_get (items_of opens.behind) 0 ≡ Some above.item = sym (sym (ap (option_map (λ n. n.item)) (sym (became.others next (λ mine. mine.1 refl)) ∙ read)) ∙ was.1) in
        subst (λ t. Becomes nodes new result (remove (items_of t) place) (Narrowed t branch.seat)) (sym opens.is)
        (became_behind nodes mid new next above.item opens.before changed.behind result (remove (items_of opens.behind) 0) (remove (items_of whole) place) (Narrowed opens.behind next) (Narrowed whole branch.seat) became kept
        (ap (λ l. items_of opens.before ++ l) (first_and_others (items_of opens.behind) above.item first) ∙ remove_here (items_of opens.before) (items_of opens.behind) node.item place (here ∙ before_count)) among)
      where
        among : (own : ℕ) → (own ≡ next) ⊎ (HasSeat opens.before own ⊎ Narrowed opens.behind next own) → ((own ≡ branch.seat) ⊎ (HasSeat opens.before own ⊎ HasSeat opens.behind own)) × (own ≢ branch.seat)
        among own (inl here) = (inr (inr (subst (HasSeat opens.behind) (sym here) was.0)), λ same. opens.joins.apart.not_behind (subst (HasSeat opens.behind) (sym here ∙ same) was.0))
        among own (inr (inl has)) = (inr (inl has), λ same. opens.joins.apart.not_before (subst (HasSeat opens.before) same has))
        among own (inr (inr mine)) = (inr (inr mine.0), λ same. opens.joins.apart.not_behind (subst (HasSeat opens.behind) same mine.0))

-- a branch with no nodes has no tree
pub no_tree : {T : Type 0} (nodes : List (Node T)) (branch : Branch) (tree : Tree T) → Stands nodes branch tree → branch.count ≡ 0 → tree ≡ leaf
no_tree nodes branch leaf stands none = refl
no_tree nodes branch (fork own before x behind) stands none = absurd (omega (arith, none, counts nodes branch (fork own before x behind) stands, length-append (items_of before) (x ∷ items_of behind)))

module _ {T : Type 0} where
  insert_empty : (place : ℕ) (item : T) → insert [] place item ≡ item ∷ []
  insert_empty zero item = refl
  insert_empty (suc place) item = refl

  -- a node that is written down alone is what an insert leaves of nothing
  pub inserted_alone : (nodes : List (Node T)) (place seat : ℕ) (item : T) → IsAlone nodes seat item → Becomes nodes nodes (record { seat = seat; count = 1 }) (insert [] place item) (λ own. (own ≡ seat) ⊎ ⊥)
  inserted_alone nodes place seat item lies = record {
    tree = fork seat leaf item leaf;
    stands = record {
      named = refl;
      lies = (lies, tt, tt, record { not_before = λ has. has; not_behind = λ has. has; apart = λ own has there. has });
    };
    items = sym (insert_empty place item);
    seats = λ own has. inl (alone_at own has);
    others = λ own not. refl;
  }
    where
      alone_at : (own : ℕ) → (own ≡ seat) ⊎ (⊥ ⊎ ⊥) → own ≡ seat
      alone_at own (inl here) = here
      alone_at own (inr (inl has)) = absurd has
      alone_at own (inr (inr has)) = absurd has
