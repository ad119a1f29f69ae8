-- What holds of trees that lie in a table, and of the steps that change them.
use Rattle.std.proofs.Common.{◌≡◌, ◌≢◌, ℕ, zero, suc, ◌+◌, ◌<◌, List, [], ◌∷◌, ◌++◌, length, ◌⊎◌, inl, inr, refl, sym, ◌∙◌, ap, subst, arith, length-append, append_assoc}
use Rattle.std.specs.Prelude.{slice_get, slice_set, Option, Some, None}
use Rattle.std.proofs.lemmas.Option.{slice_get_within}
use Rattle.sorted_list.specs.declared.nodes.Branch.{Branch}
use Rattle.sorted_list.specs.declared.nodes.Node.{Node}
use Rattle.sorted_list.specs.Trees.{Tree, leaf, fork, items_of, HasSeat, branch_of, AreApart, Lies, Stands, Joins, Becomes, Keeps, Opens}

module _ {X : Type 0} where
  pub get_set_same : (xs : List X) (i : ℕ) (x : X) → i < length xs → slice_get (slice_set xs i x) i ≡ Some x
  get_set_same [] i x within = absurd (omega (arith, within))
  get_set_same (y ∷ xs) zero x within = refl
  get_set_same (y ∷ xs) (suc i) x within = get_set_same xs i x (omega (arith, within))

  pub get_set_other : (xs : List X) (i j : ℕ) (x : X) → j ≢ i → slice_get (slice_set xs i x) j ≡ slice_get xs j
  get_set_other [] i j x apart = refl
  get_set_other (y ∷ xs) zero zero x apart = absurd (apart refl)
  get_set_other (y ∷ xs) zero (suc j) x apart = refl
  get_set_other (y ∷ xs) (suc i) zero x apart = refl
  get_set_other (y ∷ xs) (suc i) (suc j) x apart = get_set_other xs i j x (λ same. apart (ap suc same))

  abbrev unwrapped : X → Option X → X
  unwrapped d (Some x) = x
  unwrapped d None = d

  pub some_same : (x y : X) → Some x ≡ Some y → x ≡ y
  some_same x y same = ap (unwrapped x) same

module _ {T : Type 0} where
  -- where its nodes are as they were, a tree still lies
  pub lies_on : (old new : List (Node T)) (tree : Tree T) → Lies old tree → ((seat : ℕ) → HasSeat tree seat → slice_get new seat ≡ slice_get old seat) → Lies new tree
  lies_on old new leaf lies same = tt
  lies_on old new (fork own before item behind) lies same = (same own (inl refl) ∙ lies.0, lies_on old new before lies.1 (λ seat has. same seat (inr (inl has))), lies_on old new behind lies.2 (λ seat has. same seat (inr (inr has))), lies.3)

  -- its seats are in the table
  pub seat_within : (nodes : List (Node T)) (tree : Tree T) (seat : ℕ) → Lies nodes tree → HasSeat tree seat → seat < length nodes
  seat_within nodes leaf seat lies has = absurd has
  seat_within nodes (fork own before item behind) seat lies (inl same) = subst (λ s. s < length nodes) (sym same) (slice_get_within nodes own _ lies.0)
  seat_within nodes (fork own before item behind) seat lies (inr (inl has)) = seat_within nodes before seat lies.1 has
  seat_within nodes (fork own before item behind) seat lies (inr (inr has)) = seat_within nodes behind seat lies.2 has

  -- the node at the seat of a tree is its uppermost one
  pub opened : (nodes : List (Node T)) (branch : Branch) (node : Node T) (tree : Tree T) → Stands nodes branch tree → 0 < branch.count → slice_get nodes branch.seat ≡ Some node → Opens nodes branch node tree
  opened nodes branch node leaf stands some read =
      let none : branch.count ≡ 0 = ap (λ b. b.count) stands.named in
      absurd (omega (arith, some, none))
  opened nodes branch node (fork own before item behind) stands some read =
      let seat : branch.seat ≡ own = ap (λ b. b.seat) stands.named in
      let is : node ≡ record { item = item; before = branch_of before; behind = branch_of behind } = some_same _ _ (sym read ∙ ap (slice_get nodes) seat ∙ stands.lies.0) in
      record {
        before = before;
        behind = behind;
        is = ap (λ s. fork s before item behind) (sym seat) ∙ ap (λ n. fork branch.seat before n.item behind) (sym is);
        joins = record {
          before_it = record { named = ap (λ n. n.before) is; lies = stands.lies.1 };
          behind_it = record { named = ap (λ n. n.behind) is; lies = stands.lies.2 };
          apart = subst (λ s. AreApart s before behind) (sym seat) stands.lies.3;
        };
      }

  -- a tree with nodes has its uppermost one in the table
  pub stands_within : (nodes : List (Node T)) (branch : Branch) (tree : Tree T) → Stands nodes branch tree → 0 < branch.count → branch.seat < length nodes
  stands_within nodes branch leaf stands some =
      let none : branch.count ≡ 0 = ap (λ b. b.count) stands.named in
      absurd (omega (arith, some, none))
  stands_within nodes branch (fork own before item behind) stands some =
      let seat : branch.seat ≡ own = ap (λ b. b.seat) stands.named in
      subst (λ s. s < length nodes) (sym seat) (slice_get_within nodes own _ stands.lies.0)

  -- a branch counts the items of its tree
  pub counts : (nodes : List (Node T)) (branch : Branch) (tree : Tree T) → Stands nodes branch tree → branch.count ≡ length (items_of tree)
  counts nodes branch tree stands = ap (λ b. b.count) stands.named

  -- and a node counts those of its branches and its own
  pub joins_count : (nodes : List (Node T)) (own : ℕ) (node : Node T) (before behind : Tree T) → Joins nodes own node before behind → node.before.count + node.behind.count + 1 ≡ length (items_of before ++ node.item ∷ items_of behind)
  joins_count nodes own node before behind joins =
      omega (arith, length-append (items_of before) (node.item ∷ items_of behind), counts nodes node.before before joins.before_it, counts nodes node.behind behind joins.behind_it)

  pub opened_count : (nodes : List (Node T)) (branch : Branch) (node : Node T) (tree : Tree T) → Stands nodes branch tree → Opens nodes branch node tree → node.before.count + node.behind.count + 1 ≡ branch.count
  opened_count nodes branch node tree stands opens = joins_count nodes branch.seat node opens.before opens.behind opens.joins ∙ sym (ap (λ t. length (items_of t)) opens.is) ∙ sym (counts nodes branch tree stands)

  -- a node that is written down at its seat stands over its branches
  pub put_keeps : (nodes : List (Node T)) (own : ℕ) (node : Node T) (before behind : Tree T) → own < length nodes → Joins nodes own node before behind → Keeps nodes (slice_set nodes own node) (record { seat = own; count = node.before.count + node.behind.count + 1 }) (fork own before node.item behind)
  put_keeps nodes own node before behind within joins =
      let new = slice_set nodes own node in
      let is : node ≡ record { item = node.item; before = branch_of before; behind = branch_of behind } = ap (λ b. record { item = node.item; before = b; behind = node.behind }) joins.before_it.named ∙ ap (λ b. record { item = node.item; before = branch_of before; behind = b }) joins.behind_it.named in
      record {
        tree = fork own before node.item behind;
        stands = record {
          named = ap (λ n. record { seat = own; count = n }) (joins_count nodes own node before behind joins);
          lies = (
            get_set_same nodes own node within ∙ ap Some is,
            lies_on nodes new before joins.before_it.lies (λ seat has. get_set_other nodes own seat node (λ same. joins.apart.not_before (subst (HasSeat before) same has))),
            lies_on nodes new behind joins.behind_it.lies (λ seat has. get_set_other nodes own seat node (λ same. joins.apart.not_behind (subst (HasSeat behind) same has))),
            joins.apart,
          );
        };
        items = refl;
        seats = λ seat has. has;
        others = λ seat not. get_set_other nodes own seat node (λ same. not (inl same));
      }

  -- where what is before has become another tree, the node joins that one
  pub joins_before : (old mid : List (Node T)) (own : ℕ) (node changed : Node T) (before behind : Tree T) (list : List T) (Own : ℕ → Type 0) (became : Becomes old mid changed.before list Own) → changed.behind ≡ node.behind → Joins old own node before behind → (Own own → ⊥) → ((seat : ℕ) → Own seat → HasSeat behind seat → ⊥) → Joins mid own changed became.tree behind
  joins_before old mid own node changed before behind list Own became same joins fresh apart = record {
    before_it = became.stands;
    behind_it = record {
      named = same ∙ joins.behind_it.named;
      lies = lies_on old mid behind joins.behind_it.lies (λ seat has. became.others seat (λ mine. apart seat mine has));
    };
    apart = record {
      not_before = λ has. fresh (became.seats own has);
      not_behind = joins.apart.not_behind;
      apart = λ seat has there. apart seat (became.seats seat has) there;
    };
  }

  -- and where what is behind has
  pub joins_behind : (old mid : List (Node T)) (own : ℕ) (node changed : Node T) (before behind : Tree T) (list : List T) (Own : ℕ → Type 0) (became : Becomes old mid changed.behind list Own) → changed.before ≡ node.before → Joins old own node before behind → (Own own → ⊥) → ((seat : ℕ) → Own seat → HasSeat before seat → ⊥) → Joins mid own changed before became.tree
  joins_behind old mid own node changed before behind list Own became same joins fresh apart = record {
    before_it = record {
      named = same ∙ joins.before_it.named;
      lies = lies_on old mid before joins.before_it.lies (λ seat has. became.others seat (λ mine. apart seat mine has));
    };
    behind_it = became.stands;
    apart = record {
      not_before = joins.apart.not_before;
      not_behind = λ has. fresh (became.seats own has);
      apart = λ seat has there. apart seat (became.seats seat there) has;
    };
  }

  -- the whole, once the node over the tree that what is before became is in its place
  pub became_before : (old mid new : List (Node T)) (own : ℕ) (item : T) (behind : Tree T) (left result : Branch) (list all : List T) (Own Whole : ℕ → Type 0) (became : Becomes old mid left list Own) → Keeps mid new result (fork own became.tree item behind) → list ++ item ∷ items_of behind ≡ all → ((seat : ℕ) → (seat ≡ own) ⊎ (Own seat ⊎ HasSeat behind seat) → Whole seat) → Becomes old new result all Whole
  became_before old mid new own item behind left result list all Own Whole became kept same among = record {
    tree = kept.tree;
    stands = kept.stands;
    items = kept.items ∙ ap (λ l. l ++ item ∷ items_of behind) became.items ∙ same;
    seats = λ seat has. among seat (wider seat (kept.seats seat has));
    others = λ seat not. kept.others seat (λ has. not (among seat (wider seat has))) ∙ became.others seat (λ mine. not (among seat (inr (inl mine))));
  }
    where
      wider : (seat : ℕ) → (seat ≡ own) ⊎ (HasSeat became.tree seat ⊎ HasSeat behind seat) → (seat ≡ own) ⊎ (Own seat ⊎ HasSeat behind seat)
      wider seat (inl here) = inl here
      wider seat (inr (inl there)) = inr (inl (became.seats seat there))
      wider seat (inr (inr there)) = inr (inr there)

  -- and over the tree that what is behind became
  pub became_behind : (old mid new : List (Node T)) (own : ℕ) (item : T) (before : Tree T) (left result : Branch) (list all : List T) (Own Whole : ℕ → Type 0) (became : Becomes old mid left list Own) → Keeps mid new result (fork own before item became.tree) → items_of before ++ item ∷ list ≡ all → ((seat : ℕ) → (seat ≡ own) ⊎ (HasSeat before seat ⊎ Own seat) → Whole seat) → Becomes old new result all Whole
  became_behind old mid new own item before left result list all Own Whole became kept same among = record {
    tree = kept.tree;
    stands = kept.stands;
    items = kept.items ∙ ap (λ l. items_of before ++ item ∷ l) became.items ∙ same;
    seats = λ seat has. among seat (wider seat (kept.seats seat has));
    others = λ seat not. kept.others seat (λ has. not (among seat (wider seat has))) ∙ became.others seat (λ mine. not (among seat (inr (inr mine))));
  }
    where
      wider : (seat : ℕ) → (seat ≡ own) ⊎ (HasSeat before seat ⊎ HasSeat became.tree seat) → (seat ≡ own) ⊎ (HasSeat before seat ⊎ Own seat)
      wider seat (inl here) = inl here
      wider seat (inr (inl there)) = inr (inl there)
      wider seat (inr (inr there)) = inr (inr (became.seats seat there))

  -- what the opened tree has below it joins there
  pub opens_joins : (nodes : List (Node T)) (own : ℕ) (node up : Node T) (before behind : Tree T) (opens : Opens nodes node.before up before) → Joins nodes own node before behind → Joins nodes own node (fork node.before.seat opens.before up.item opens.behind) behind
  opens_joins nodes own node up before behind opens joins = subst (λ t. Joins nodes own node t behind) opens.is joins

  -- the node comes down over what is behind the one that comes up
  pub lowered_joins_before : (nodes : List (Node T)) (own : ℕ) (node changed up : Node T) (before behind : Tree T) (opens : Opens nodes node.before up before) → Joins nodes own node before behind → changed.before ≡ up.behind → changed.behind ≡ node.behind → Joins nodes own changed opens.behind behind
  lowered_joins_before nodes own node changed up before behind opens joins same_before same_behind =
      let j = subst (λ t. Joins nodes own node t behind) opens.is joins in
      record {
        before_it = record { named = same_before ∙ opens.joins.behind_it.named; lies = opens.joins.behind_it.lies };
        behind_it = record { named = same_behind ∙ joins.behind_it.named; lies = joins.behind_it.lies };
        apart = record {
          not_before = λ has. j.apart.not_before (inr (inr has));
          not_behind = joins.apart.not_behind;
          apart = λ seat has there. j.apart.apart seat (inr (inr has)) there;
        };
      }

  -- and the one that comes up stands over it
  pub raised_joins_before : (old mid : List (Node T)) (own : ℕ) (node changed up : Node T) (before behind : Tree T) (opens : Opens old node.before up before) → Joins old own node before behind → changed.before ≡ up.before → (kept : Keeps old mid changed.behind (fork own opens.behind node.item behind)) → Joins mid node.before.seat changed opens.before kept.tree
  raised_joins_before old mid own node changed up before behind opens joins same kept =
      let j = subst (λ t. Joins old own node t behind) opens.is joins in
      let clear : (seat : ℕ) → (seat ≡ node.before.seat) ⊎ HasSeat opens.before seat → HasSeat (fork own opens.behind node.item behind) seat → ⊥ = λ seat mine has. apart_there old own node up before behind opens j seat mine has in
      record {
        before_it = record {
          named = same ∙ opens.joins.before_it.named;
          lies = lies_on old mid opens.before opens.joins.before_it.lies (λ seat has. kept.others seat (λ there. clear seat (inr has) there));
        };
        behind_it = kept.stands;
        apart = record {
          not_before = opens.joins.apart.not_before;
          not_behind = λ has. clear node.before.seat (inl refl) (kept.seats node.before.seat has);
          apart = λ seat has there. clear seat (inr has) (kept.seats seat there);
        };
      }
    where
      apart_there : (old : List (Node T)) (own : ℕ) (node up : Node T) (before behind : Tree T) (opens : Opens old node.before up before) → Joins old own node (fork node.before.seat opens.before up.item opens.behind) behind → (seat : ℕ) → (seat ≡ node.before.seat) ⊎ HasSeat opens.before seat → (seat ≡ own) ⊎ (HasSeat opens.behind seat ⊎ HasSeat behind seat) → ⊥
      apart_there old own node up before behind opens j seat (inl top) (inl here) = j.apart.not_before (inl (sym here ∙ top))
      apart_there old own node up before behind opens j seat (inl top) (inr (inl has)) = opens.joins.apart.not_behind (subst (HasSeat opens.behind) top has)
      apart_there old own node up before behind opens j seat (inl top) (inr (inr has)) = j.apart.apart seat (inl top) has
      apart_there old own node up before behind opens j seat (inr mine) (inl here) = j.apart.not_before (inr (inl (subst (HasSeat opens.before) here mine)))
      apart_there old own node up before behind opens j seat (inr mine) (inr (inl has)) = opens.joins.apart.apart seat mine has
      apart_there old own node up before behind opens j seat (inr mine) (inr (inr has)) = j.apart.apart seat (inr (inl mine)) has

  -- so the items and seats are those that were there
  pub turned_before : (old mid new : List (Node T)) (own : ℕ) (node up : Node T) (before behind : Tree T) (opens : Opens old node.before up before) (lower result : Branch) (kept : Keeps old mid lower (fork own opens.behind node.item behind)) → Keeps mid new result (fork node.before.seat opens.before up.item kept.tree) → Keeps old new result (fork own before node.item behind)
  turned_before old mid new own node up before behind opens lower result kept raised =
      let top = node.before.seat in
      let whole = fork own (fork top opens.before up.item opens.behind) node.item behind in
      subst (λ t. Keeps old new result (fork own t node.item behind)) (sym opens.is)
      (became_behind old mid new top up.item opens.before lower result (items_of (fork own opens.behind node.item behind)) (items_of whole) (HasSeat (fork own opens.behind node.item behind)) (HasSeat whole) kept raised
      (sym (append_assoc (items_of opens.before) (up.item ∷ items_of opens.behind) (node.item ∷ items_of behind)))
      (λ seat has. moved seat has))
    where
      moved : (seat : ℕ) → (seat ≡ node.before.seat) ⊎ (HasSeat opens.before seat ⊎ ((seat ≡ own) ⊎ (HasSeat opens.behind seat ⊎ HasSeat behind seat))) → (seat ≡ own) ⊎ (((seat ≡ node.before.seat) ⊎ (HasSeat opens.before seat ⊎ HasSeat opens.behind seat)) ⊎ HasSeat behind seat)
      moved seat (inl top) = inr (inl (inl top))
      moved seat (inr (inl has)) = inr (inl (inr (inl has)))
      moved seat (inr (inr (inl here))) = inl here
      moved seat (inr (inr (inr (inl has)))) = inr (inl (inr (inr has)))
      moved seat (inr (inr (inr (inr has)))) = inr (inr has)

  -- the other way round: the node comes down over what is before the one that comes up
  pub lowered_joins_behind : (nodes : List (Node T)) (own : ℕ) (node changed up : Node T) (before behind : Tree T) (opens : Opens nodes node.behind up behind) → Joins nodes own node before behind → changed.before ≡ node.before → changed.behind ≡ up.before → Joins nodes own changed before opens.before
  lowered_joins_behind nodes own node changed up before behind opens joins same_before same_behind =
      let j = subst (λ t. Joins nodes own node before t) opens.is joins in
      record {
        before_it = record { named = same_before ∙ joins.before_it.named; lies = joins.before_it.lies };
        behind_it = record { named = same_behind ∙ opens.joins.before_it.named; lies = opens.joins.before_it.lies };
        apart = record {
          not_before = joins.apart.not_before;
          not_behind = λ has. j.apart.not_behind (inr (inl has));
          apart = λ seat has there. j.apart.apart seat has (inr (inl there));
        };
      }

  pub raised_joins_behind : (old mid : List (Node T)) (own : ℕ) (node changed up : Node T) (before behind : Tree T) (opens : Opens old node.behind up behind) → Joins old own node before behind → changed.behind ≡ up.behind → (kept : Keeps old mid changed.before (fork own before node.item opens.before)) → Joins mid node.behind.seat changed kept.tree opens.behind
  raised_joins_behind old mid own node changed up before behind opens joins same kept =
      let j = subst (λ t. Joins old own node before t) opens.is joins in
      let clear : (seat : ℕ) → (seat ≡ node.behind.seat) ⊎ HasSeat opens.behind seat → HasSeat (fork own before node.item opens.before) seat → ⊥ = λ seat mine has. apart_there old own node up before behind opens j seat mine has in
      record {
        before_it = kept.stands;
        behind_it = record {
          named = same ∙ opens.joins.behind_it.named;
          lies = lies_on old mid opens.behind opens.joins.behind_it.lies (λ seat has. kept.others seat (λ there. clear seat (inr has) there));
        };
        apart = record {
          not_before = λ has. clear node.behind.seat (inl refl) (kept.seats node.behind.seat has);
          not_behind = opens.joins.apart.not_behind;
          apart = λ seat has there. clear seat (inr there) (kept.seats seat has);
        };
      }
    where
      apart_there : (old : List (Node T)) (own : ℕ) (node up : Node T) (before behind : Tree T) (opens : Opens old node.behind up behind) → Joins old own node before (fork node.behind.seat opens.before up.item opens.behind) → (seat : ℕ) → (seat ≡ node.behind.seat) ⊎ HasSeat opens.behind seat → (seat ≡ own) ⊎ (HasSeat before seat ⊎ HasSeat opens.before seat) → ⊥
      apart_there old own node up before behind opens j seat (inl top) (inl here) = j.apart.not_behind (inl (sym here ∙ top))
      apart_there old own node up before behind opens j seat (inl top) (inr (inl has)) = j.apart.apart seat has (inl top)
      apart_there old own node up before behind opens j seat (inl top) (inr (inr has)) = opens.joins.apart.not_before (subst (HasSeat opens.before) top has)
      apart_there old own node up before behind opens j seat (inr mine) (inl here) = j.apart.not_behind (inr (inr (subst (HasSeat opens.behind) here mine)))
      apart_there old own node up before behind opens j seat (inr mine) (inr (inl has)) = j.apart.apart seat has (inr (inr mine))
      apart_there old own node up before behind opens j seat (inr mine) (inr (inr has)) = opens.joins.apart.apart seat has mine

  pub turned_behind : (old mid new : List (Node T)) (own : ℕ) (node up : Node T) (before behind : Tree T) (opens : Opens old node.behind up behind) (lower result : Branch) (kept : Keeps old mid lower (fork own before node.item opens.before)) → Keeps mid new result (fork node.behind.seat kept.tree up.item opens.behind) → Keeps old new result (fork own before node.item behind)
  turned_behind old mid new own node up before behind opens lower result kept raised =
      let top = node.behind.seat in
      let whole = fork own before node.item (fork top opens.before up.item opens.behind) in
      subst (λ t. Keeps old new result (fork own before node.item t)) (sym opens.is)
      (became_before old mid new top up.item opens.behind lower result (items_of (fork own before node.item opens.before)) (items_of whole) (HasSeat (fork own before node.item opens.before)) (HasSeat whole) kept raised
      (append_assoc (items_of before) (node.item ∷ items_of opens.before) (up.item ∷ items_of opens.behind))
      (λ seat has. moved seat has))
    where
      moved : (seat : ℕ) → (seat ≡ node.behind.seat) ⊎ (((seat ≡ own) ⊎ (HasSeat before seat ⊎ HasSeat opens.before seat)) ⊎ HasSeat opens.behind seat) → (seat ≡ own) ⊎ (HasSeat before seat ⊎ ((seat ≡ node.behind.seat) ⊎ (HasSeat opens.before seat ⊎ HasSeat opens.behind seat)))
      moved seat (inl top) = inr (inr (inl top))
      moved seat (inr (inl (inl here))) = inl here
      moved seat (inr (inl (inr (inl has)))) = inr (inl has)
      moved seat (inr (inl (inr (inr has)))) = inr (inr (inr (inl has)))
      moved seat (inr (inr has)) = inr (inr (inr (inr has)))

  -- what opens a tree says of its items
  pub kept_as : (old new : List (Node T)) (branch result : Branch) (node : Node T) (tree : Tree T) (opens : Opens old branch node tree) → Keeps old new result (fork branch.seat opens.before node.item opens.behind) → Keeps old new result tree
  kept_as old new branch result node tree opens kept = subst (Keeps old new result) (sym opens.is) kept
