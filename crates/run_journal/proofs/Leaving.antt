-- What leaves in its order leaves by the rules.
use Rattle.std.proofs.Common.{◌≡◌, ◌≢◌, ℕ, suc, ◌<◌, ◌≤◌, true, false, List, [], ◌∷◌, ◌++◌, map, AllPairs, Contains, refl, ap, sym, ◌∙◌, subst, inl, inr, append_assoc, arith}
use Rattle.std.specs.declared.cmp.Ordering.{Ordering}
use Rattle.std.specs.declared.cmp.Ordering.TheVariants.{Less, Equal, Greater}
use Rattle.std.specs.Cmp.{IsTotalOrder, nat_cmp_is}
use Rattle.std.specs.Ordering.{nat_cmp, ordering_then}
use Rattle.std.proofs.lemmas.Bool.{cases_lt}
use Rattle.std.proofs.lemmas.Cmp.{nat_cmp_total, on_total, then_total, tied_itself}
use Rattle.std.proofs.lemmas.List.{map-append, append-nil}
use Rattle.std.proofs.lemmas.List.Elements.{Contains-append_cases, Contains-append_left, Contains-append_right, Contains-push_cases}
use Rattle.cache_ident.specs.declared.idents.Ident.{Ident}
use Rattle.cache_ident.specs.declared.idents.Cause.{Cause}
use Rattle.cache_ident.specs.declared.idents.Cause.TheVariants as causes
use Rattle.cache_ident.specs.contracts.idents.IdentOrd.TheImpl as ident_order
use Rattle.cache_ident.specs.contracts.idents.IdentOrd.TheImpl.Laws as ident_laws
use Rattle.cache_ident.specs.Residents.{Resident, without}
use Rattle.flat_laws.specs.depend_lists.specs.declared.nodes.Node.{Node}
use Rattle.flat_laws.specs.writeback_order.specs.Order.{DependsOn, directly, further, leaving_cmp, rank_of, IsClosure, IsOrder}
use Rattle.flat_state.specs.State.{FlatState}
use Rattle.flat_state.specs.Dependence.{Depends}
use Rattle.flat_state.specs.WellFormed.{IsWellFormed}
use Rattle.flat_laws.proofs.Members.{Contains-here, Contains-behind, Contains-cases}
use Rattle.flat_laws.proofs.ParentLaws.{parent_leaves_later}
use Rattle.run_journal.specs.declared.entries.Entry.TheVariants.{WrittenBack}
use Rattle.run_journal.specs.Told.{Told, Due, Departure}
use Rattle.run_journal.specs.Groups.{node_of, IsPairOf, ArePairsOf, NothingDependsOn, IsGroup, departures}
use Rattle.run_journal.specs.Legal.{first_ident, IsFullBefore, LeavesBy, Comes, AreLegal}
use Rattle.run_journal.proofs.Others.{without_cases, stays_without}
use Rattle.run_journal.proofs.Sound.{IsOneEach}

-- the order of leaving is a total order
leaving_total : IsTotalOrder leaving_cmp
leaving_total = then_total (then_total (on_total (λ (n : Node). rank_of n.class) nat_cmp_total) (on_total (λ (n : Node). n.ident.serial) nat_cmp_total)) (on_total (λ (n : Node). n.ident) ident_laws.total-law)

less≢equal : (o : Ordering) → o ≡ Less → o ≡ Equal → ⊥
less≢equal o less equal = let e : Less ≡ Equal = sym less ∙ equal in cc

not_itself : (n : Node) → leaving_cmp n n ≡ Less → ⊥
not_itself n before = less≢equal _ before (tied_itself leaving_total n)

-- of two that leave in this order the first has no greater rank
rank_of_earlier : (a b : Node) → leaving_cmp a b ≡ Less → rank_of a.class ≤ rank_of b.class
rank_of_earlier a b before = elim (cases_lt (rank_of b.class) (rank_of a.class)) [
  | inl greater ↦ absurd (differ (sym (ap (λ (o : Ordering). ordering_then (ordering_then o (nat_cmp a.ident.serial b.ident.serial)) ((ident_order.ghosts).cmp a.ident b.ident)) (nat_cmp_is (rank_of a.class) (rank_of b.class) Greater greater) ∙ before)))
  | inr least ↦ least
]
  where
    differ : Less ≡ Greater → ⊥
    differ e = cc

-- what depends is the child of some pair
parent_of : (pairs : List (Ident × Node)) (root : Ident) (node : Node) → DependsOn pairs root node → (parent : Ident) × Contains pairs (parent, node)
parent_of pairs root node (directly there) = (root, there)
parent_of pairs root node (further {between = between} before there) = (between.ident, there)

module _
    (base : Told)
    (formed : IsWellFormed base.state)
    (sealed : base.sealed ≡ true)
    (one : IsOneEach base.before)
    (pairs : List (Ident × Node))
    (are : ArePairsOf base.state base.before pairs)
    (root : Resident)
    (root_there : Contains base.before root)
    (dependents : List Node)
    (closure : IsClosure pairs root.ident dependents)
    (cpu : ℕ)
    (few : cpu < 8)
    -- nothing that depends on something is the first kernel
    (no_first : (child parent : Resident) → Contains base.before child → Contains base.before parent → Depends base.state child.name parent.name → child.ident ≢ first_ident)
  where
    abbrev pub s : FlatState
    s = base.state

    abbrev pub node : Resident → Node
    node = node_of base.state

    -- a dependent is the node of something resident, which depends on something resident
    of_dependent : (n : Node) → DependsOn pairs root.ident n → (pair : Ident × Node) × (pair.1 ≡ n) × IsPairOf s base.before pair
    of_dependent n depends =
        let parent = parent_of pairs root.ident n depends in
        ((parent.0, n), refl, are.sound (parent.0, n) parent.1)

    -- of two residents that depend one on the other the ranks tell
    falls : (child parent : Resident) → Depends s child.name parent.name → rank_of (node child).class < rank_of (node parent).class
    falls child parent depends = parent_leaves_later s formed child.name parent.name depends

    -- a pair's child falls below a resident with the identifier of its parent
    falls_below : (pair : Ident × Node) → IsPairOf s base.before pair → (r : Resident) → Contains base.before r → r.ident ≡ pair.0 → rank_of pair.1.class < rank_of (node r).class
    falls_below pair its r there is =
        let same : its.parent ≡ r = one its.parent r its.parent_there there (sym its.of_parent ∙ sym is) in
        let low = falls its.child its.parent its.depends in
        subst (λ (m : Node). rank_of m.class < rank_of (node r).class) (sym its.of_child) (subst (λ (p : Resident). rank_of (node its.child).class < rank_of (node p).class) same low)

    -- what depends on the root has a lower rank
    all_fall : (n : Node) → DependsOn pairs root.ident n → rank_of n.class < rank_of (node root).class
    all_fall n (directly there) = falls_below (root.ident, n) (are.sound (root.ident, n) there) root root_there refl
    all_fall n (further {between = between} before there) =
        let mid = of_dependent between before in
        let mid_is : between ≡ node mid.2.child = sym mid.1 ∙ mid.2.of_child in
        let low = falls_below (between.ident, n) (are.sound (between.ident, n) there) mid.2.child mid.2.child_there (sym (ap (λ (m : Node). m.ident) mid_is)) in
        let high : rank_of (node mid.2.child).class < rank_of (node root).class = subst (λ (m : Node). rank_of m.class < rank_of (node root).class) mid_is (all_fall between before) in
        omega arith

    -- so far these have left
    abbrev pub going : List Ident → List Resident → Due → Told
    going left now due = record base { residents = now; left = left; due = due }

    abbrev pub idents : List Node → List Ident
    idents nodes = map (λ (n : Node). n.ident) nodes

    -- what is resident still is what was and hasn't left
    pub record AreLeft (done : List Node) (now : List Resident) : Type 0 where
      pub were : (r : Resident) → Contains now r → Contains base.before r
      pub gone : (r : Resident) → Contains now r → (n : Node) → Contains done n → r.ident ≢ n.ident
      pub stay : (r : Resident) → Contains base.before r → ((n : Node) → Contains done n → r.ident ≢ n.ident) → Contains now r

    left_more : (done : List Node) (now : List Resident) (n : Node) → AreLeft done now → AreLeft (done ++ n ∷ []) (without n.ident now)
    left_more done now n are = record {
      were = λ r there. are.were r (without_cases n.ident now r there).0;
      gone = λ r there m went. elim (Contains-push_cases done n m went) [
        | inl before ↦ are.gone r (without_cases n.ident now r there).0 m before
        | inr same ↦ λ e. (without_cases n.ident now r there).1 (e ∙ ap (λ (x : Node). x.ident) (sym same))
      ];
      stay = λ r there apart. stays_without n.ident now r
          (are.stay r there (λ m went. apart m (Contains-append_left done (n ∷ []) m went)))
          (apart n (Contains-append_right done (n ∷ []) n (Contains-here n [])));
    }

    -- the dependents are what has left, and what is to leave, in order
    pub record AreCut (done todo : List Node) : Type 0 where
      pub all : dependents ≡ done ++ todo
      pub apart : (a b : Node) → Contains done a → Contains todo b → a.ident ≢ b.ident
      pub rising : AllPairs (λ a b. leaving_cmp a b ≡ Less) todo

    tail_rising : (n : Node) (todo : List Node) → AllPairs (λ a b. leaving_cmp a b ≡ Less) (n ∷ todo) → AllPairs (λ a b. leaving_cmp a b ≡ Less) todo
    tail_rising n todo rising i j d lt within = rising (suc i) (suc j) d (omega arith) (omega arith)

    head_first : (n : Node) (todo : List Node) → AllPairs (λ a b. leaving_cmp a b ≡ Less) (n ∷ todo) → (m : Node) → Contains todo m → leaving_cmp n m ≡ Less
    head_first n todo rising m (k, lt, e) = subst (λ (x : Node). leaving_cmp n x ≡ Less) e (rising 0 (suc k) m (omega arith) (omega arith))

    -- why the last of the group may leave
    abbrev pub MayGoBy : Cause → Type 0
    MayGoBy causes.Dependent = ⊥
    MayGoBy causes.Unloaded = Unit {0}
    MayGoBy causes.Displaced = (root.locked ≡ false) × IsFullBefore base root.ident.kind

    module _ (not_first : root.ident ≢ first_ident) (c : Cause) (may : MayGoBy c) (rising : AllPairs (λ a b. leaving_cmp a b ≡ Less) dependents) where
      order : IsOrder pairs (node root) (dependents ++ node root ∷ [])
      order = record { dependents = dependents; closure = closure; rising = rising; root_last = refl }

      by_cause : (b : Cause) → MayGoBy b → (left : List Ident) (now : List Resident) (due : Due) → IsGroup s base.before root (left ++ root.ident ∷ []) → LeavesBy b (going left now due) root
      by_cause causes.Dependent never left now due group = absurd never
      by_cause causes.Unloaded so left now due group = group
      by_cause causes.Displaced so left now due group = (group, so.0, so.1)

      -- a resident that depends on the root, or on a dependent, is a dependent
      is_dependent : (r : Resident) → Contains base.before r → DependsOn pairs root.ident (node r) → (rank_of (node r).class < rank_of (node root).class) → Contains dependents (node r)
      is_dependent r there depends low = (closure (node r)).1 (
        depends,
        λ same.
            let e : r ≡ root = one r root there root_there same in
            let equal = ap (λ (x : Resident). rank_of (node x).class) e in
            omega arith,
      )

      pub departs : (todo done : List Node) (now : List Resident) (left : List Ident) (due : Due) → AreCut done todo → AreLeft done now → left ≡ idents done
          → ((ident : Ident) (b : Cause) → Comes due (WrittenBack ident b cpu)) → AreLegal (going left now due) (departures cpu todo root.ident c)
      departs [] done now left due cut are_left is comes =
          let all : dependents ≡ done = cut.all ∙ append-nil done in
          let there : Contains now root = are_left.stay root root_there (λ n went same. ((closure n).0 (subst (λ (ns : List Node). Contains ns n) (sym all) went)).1 (sym same)) in
          let last : NothingDependsOn s now root.name = λ child child_there depends.
          let was = are_left.were child child_there in
          let pair = are.complete root child root_there was depends in
          let one_of = is_dependent child was (directly pair) (falls child root depends) in
          are_left.gone child child_there (node child) (subst (λ (ns : List Node). Contains ns (node child)) all one_of) refl in
          let group : IsGroup s base.before root (left ++ root.ident ∷ []) = record {
            pairs = pairs;
            are = are;
            nodes = dependents ++ node root ∷ [];
            order = order;
            whole = sym (map-append (λ (n : Node). n.ident) dependents (node root ∷ []) ∙ ap (λ (is : List Ident). is ++ root.ident ∷ []) (ap idents all ∙ sym is));
          } in (
            record {
              comes = comes root.ident c;
              place = sealed;
              processor = few;
              happens = record {
                resident = root;
                there = there;
                its = refl;
                not_first = not_first;
                last = last;
                by_cause = by_cause c may left now due group;
              };
            },
            tt,
          )
      departs (n ∷ todo) done now left due cut are_left is comes =
          let here : Contains dependents n = subst (λ (ns : List Node). Contains ns n) (sym cut.all) (Contains-append_right done (n ∷ todo) n (Contains-here n todo)) in
          let depends = ((closure n).0 here).0 in
          let its = of_dependent n depends in
          let r : Resident = its.2.child in
          let n_is : n ≡ node r = sym its.1 ∙ its.2.of_child in
          let same : r.ident ≡ n.ident = sym (ap (λ (m : Node). m.ident) n_is) in
          let there : Contains now r = are_left.stay r its.2.child_there (λ m went e. cut.apart m n went (Contains-here n todo) (sym e ∙ same)) in
          let n_rank : rank_of n.class ≡ rank_of (node r).class = ap (λ (m : Node). rank_of m.class) n_is in
          let n_falls = all_fall n depends in
          let last : NothingDependsOn s now r.name = λ child child_there child_depends.
          let was = are_left.were child child_there in
          let pair = are.complete r child its.2.child_there was child_depends in
          let low = falls child r child_depends in
          let deeper : DependsOn pairs root.ident (node child) = further depends (subst (λ (i : Ident). Contains pairs (i, node child)) same pair) in
          let one_of = is_dependent child was deeper (omega arith) in
          elim (Contains-append_cases done (n ∷ todo) (node child) (subst (λ (ns : List Node). Contains ns (node child)) cut.all one_of)) [
            | inl went ↦ are_left.gone child child_there (node child) went refl
            | inr coming ↦ elim (Contains-cases n todo (node child) coming) [
              | inl e ↦ (let equal = ap (λ (m : Node). rank_of m.class) e in omega arith)
              | inr behind ↦ (let later = rank_of_earlier n (node child) (head_first n todo cut.rising (node child) behind) in omega arith)
            ]
          ] in
          let cut_more : AreCut (done ++ n ∷ []) todo = record {
            all = cut.all ∙ sym (append_assoc done (n ∷ []) todo);
            apart = λ a b went coming. elim (Contains-push_cases done n a went) [
              | inl before ↦ cut.apart a b before (Contains-behind n todo b coming)
              | inr equal ↦ λ e.
                  let b_here : Contains dependents b = subst (λ (ns : List Node). Contains ns b) (sym cut.all) (Contains-append_right done (n ∷ todo) b (Contains-behind n todo b coming)) in
                  let b_its = of_dependent b ((closure b).0 b_here).0 in
                  let b_is : b ≡ node b_its.2.child = sym b_its.1 ∙ b_its.2.of_child in
                  let idents_are : r.ident ≡ b_its.2.child.ident = same ∙ (ap (λ (m : Node). m.ident) equal ∙ (e ∙ ap (λ (m : Node). m.ident) b_is)) in
                  let nodes_are : n ≡ b = n_is ∙ (ap node (one r b_its.2.child its.2.child_there b_its.2.child_there idents_are) ∙ sym b_is) in
                  not_itself n (subst (λ (m : Node). leaving_cmp n m ≡ Less) (sym nodes_are) (head_first n todo cut.rising b coming))
            ];
            rising = tail_rising n todo cut.rising;
          } in (
            record {
              comes = comes n.ident causes.Dependent;
              place = sealed;
              processor = few;
              happens = record {
                resident = r;
                there = there;
                its = same;
                not_first = λ e. no_first r its.2.parent its.2.child_there its.2.parent_there its.2.depends (same ∙ e);
                last = last;
                by_cause = tt;
              };
            },
            departs todo (done ++ n ∷ []) (without n.ident now) (left ++ n.ident ∷ []) (Departure cpu) cut_more (left_more done now n are_left)
                (ap (λ (is : List Ident). is ++ n.ident ∷ []) is ∙ sym (map-append (λ (m : Node). m.ident) done (n ∷ [])))
                (λ ident b. refl),
          )
