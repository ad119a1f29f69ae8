-- A child gets its parents one after another, and what the pairs are then.
use Rattle.std.proofs.Common.{◌≡◌, ◌≢◌, ◌↔◌, ◌⊎◌, ℕ, ◌+◌, ◌<◌, false, List, [], ◌∷◌, length, get_or, AllPairs, Contains, refl, ap, sym, ◌∙◌, subst, inl, inr, arith}
use Rattle.std.specs.List.{insert}
use Rattle.std.proofs.lemmas.Bool.{cases_lt}
use Rattle.std.proofs.lemmas.List.{get_or_default}
use Rattle.std.proofs.lemmas.List.Sorted.{Contains-permutation, IsPermutation-insert}
use Rattle.std.proofs.lemmas.List.Elements.{Contains-append_left, Contains-push, Contains-push_cases}
use Rattle.cache_ident.specs.declared.idents.Ident.{Ident}
use Rattle.cache_ident.specs.declared.names.Caps.{Caps}
use Rattle.cache_ident.specs.declared.names.Name.{Name}
use Rattle.cache_ident.specs.Residents.{Resident, with_loaded}
use Rattle.sorted_list.specs.Sorted.{IsAdded}
use Rattle.cache_ident.specs.Rolls.{is_same}
use Rattle.sorted_list.proofs.CountLemmas.{count_none}
use Rattle.sorted_list.proofs.ListLemmas.{Contains-insert_cases}
use Rattle.depend_lists.specs.declared.nodes.Node.{Node}
use Rattle.depend_lists.specs.Pairs.{IsChild, IsWithin}
use Rattle.depend_lists.proofs.RoomyLemmas.{HasParents, parents_more}
use Rattle.journal_laws.specs.flat_state.specs.State.{FlatState}
use Rattle.journal_laws.specs.flat_state.specs.Dependence.{Depends}
use Rattle.journal_laws.specs.flat_laws.proofs.Members.{Contains-cases, Contains-here, Contains-behind}
use Rattle.journal_laws.specs.run_journal.specs.Groups.{node_of, ArePairsOf, NothingDependsOn}
use Rattle.journal_laws.specs.run_journal.proofs.Others.{differ}
use Rattle.resident_pairs.specs.Among.{AreParents, HasAlso, HasRoomFor}

module _ (s : FlatState) (rs : List Resident) (old new : List (Ident × Node)) (child : Node) (name : Name) (parents : List Ident) where
  abbrev pub loaded : Resident
  loaded = record { ident = child.ident; name = name; locked = false }

  abbrev pub all : List Resident
  all = with_loaded child.ident name rs

  older : (r : Resident) → Contains rs r → Contains all r
  older r there = Contains-append_left rs (loaded ∷ []) r there

  pub load_keeps : HasAlso old new child parents → ArePairsOf s rs old → child ≡ node_of s loaded → AreParents s rs name parents → NothingDependsOn s all name → ArePairsOf s all new
  load_keeps also are its of last = record {
    sound = λ pair there. elim ((also pair).0 there) [
      | inl was ↦ let p = are.sound pair was in record {
        parent = p.parent;
        child = p.child;
        parent_there = older p.parent p.parent_there;
        child_there = older p.child p.child_there;
        of_parent = p.of_parent;
        of_child = p.of_child;
        depends = p.depends;
      }
      | inr its_own ↦ let p = of.sound pair.0 its_own.1 in record {
        parent = p.0;
        child = loaded;
        parent_there = older p.0 p.1;
        child_there = Contains-push rs loaded;
        of_parent = sym p.2;
        of_child = its_own.0 ∙ its;
        depends = p.3;
      }
    ];
    complete = λ parent kid parent_there kid_there depends. elim (Contains-push_cases rs loaded kid kid_there) [
      | inl was ↦ elim (Contains-push_cases rs loaded parent parent_there) [
        | inl before ↦ (also (parent.ident, node_of s kid)).1 (inl (are.complete parent kid before was depends))
        | inr is ↦ absurd (last kid kid_there (subst (λ (p : Resident). Depends s kid.name p.name) (sym is) depends))
      ]
      | inr is_new ↦ elim (Contains-push_cases rs loaded parent parent_there) [
        | inl before ↦ (also (parent.ident, node_of s kid)).1 (inr (ap (node_of s) (sym is_new) ∙ sym its, of.complete parent before (subst (λ (k : Resident). Depends s k.name parent.name) (sym is_new) depends)))
        | inr is ↦ absurd (last kid kid_there (subst (λ (p : Resident). Depends s kid.name p.name) (sym is) depends))
      ]
    ];
  }

-- ---- one parent after another

-- the parent is one of the first so many
abbrev pub IsAmong : List Ident → ℕ → Ident → Type 0
IsAmong parents n parent = (i : ℕ) × (i < n) × (i < length parents) × (get_or parents i parent ≡ parent)

-- what holds once the child has the first so many of its parents
pub record IsLoadedWith (old now : List (Ident × Node)) (child : Node) (parents : List Ident) (n : ℕ) : Type 0 where
  pub also : (pair : Ident × Node) → Contains now pair ↔ (Contains old pair ⊎ ((pair.1 ≡ child) × IsAmong parents n pair.0))
  pub has : HasParents (length old) now child n

Contains-inserted : {X : Type 0} (xs : List X) (at : ℕ) (x y : X) → (y ≡ x) ⊎ Contains xs y → Contains (insert xs at x) y
Contains-inserted xs at x y either = Contains-permutation (x ∷ xs) (insert xs at x) y (IsPermutation-insert xs at x) (elim either [
  | inl same ↦ subst (Contains (x ∷ xs)) (sym same) (Contains-here x xs)
  | inr there ↦ Contains-behind x xs y there
])

module _ (old : List (Ident × Node)) (child : Node) (new : IsChild old child.ident → ⊥) (parents : List Ident) where
  -- a child of no pair has no parent
  pub with_none : IsLoadedWith old old child parents 0
  with_none = record {
    also = λ pair. (λ there. inl there, λ either. elim either [ inl there ↦ there | inr one ↦ absurd (let low = one.1.1 in omega arith) ]);
    has = record {
      count = count_none (λ pair. is_same pair.1.ident child.ident) old (λ k d within. differ _ _ (λ same. new (get_or old k d, ((k, within, get_or_default old k (get_or old k d) d within), same))));
      one_class = λ pair there same. absurd (new (pair, (there, same)));
      short = omega arith;
    };
  }

  module _ (now : List (Ident × Node)) (n : ℕ) (parent : Ident) (within : n < length parents) (is : (d : Ident) → get_or parents n d ≡ parent) (loaded : IsLoadedWith old now child parents n) where
    -- it doesn't have the next parent yet
    pub not_yet : AllPairs ◌≢◌ parents → Contains now (parent, child) → ⊥
    not_yet apart there = elim ((loaded.also (parent, child)).0 there) [
      | inl was ↦ new ((parent, child), (was, refl))
      | inr one ↦ apart one.1.0 n parent one.1.1 within (one.1.3 ∙ sym (is parent))
    ]

    more : (p : Ident) → IsAmong parents n p → IsAmong parents (n + 1) p
    more p among = (among.0, omega (arith, among.1), among.2, among.3)

    last : (p : Ident) → p ≡ parent → IsAmong parents (n + 1) p
    last p same = (n, omega arith, within, is p ∙ sym same)

    before : (p : Ident) → IsAmong parents (n + 1) p → (p ≡ parent) ⊎ IsAmong parents n p
    before p among = elim (cases_lt among.0 n) [
      | inl below ↦ inr (among.0, below, among.2, among.3)
      | inr above ↦ inl (let same : among.0 ≡ n = omega (arith, among.1) in sym among.3 ∙ ap (λ (k : ℕ). get_or parents k p) same ∙ is p)
    ]

    pub with_more : (next : List (Ident × Node)) → IsAdded now next (parent, child) → IsLoadedWith old next child parents (n + 1)
    with_more next added = record {
      also = λ pair. (λ there. forth pair (Contains-insert_cases now added.0 (parent, child) pair (subst (λ (all : List (Ident × Node)). Contains all pair) added.2 there)), λ either. subst (λ (all : List (Ident × Node)). Contains all pair) (sym added.2) (back pair either));
      has = parents_more (length old) now next parent child n loaded.has added;
    }
      where
        forth : (pair : Ident × Node) → (pair ≡ (parent, child)) ⊎ Contains now pair → Contains old pair ⊎ ((pair.1 ≡ child) × IsAmong parents (n + 1) pair.0)
        forth pair (inl same) = inr (ap (λ (p : Ident × Node). p.1) same, last pair.0 (ap (λ (p : Ident × Node). p.0) same))
        forth pair (inr there) = elim ((loaded.also pair).0 there) [ inl was ↦ inl was | inr one ↦ inr (one.0, more pair.0 one.1) ]

        back : (pair : Ident × Node) → Contains old pair ⊎ ((pair.1 ≡ child) × IsAmong parents (n + 1) pair.0) → Contains (insert now added.0 (parent, child)) pair
        back pair (inl was) = Contains-inserted now added.0 (parent, child) pair (inr ((loaded.also pair).1 (inl was)))
        back pair (inr one) = elim (before pair.0 one.1) [
          | inl same ↦ Contains-inserted now added.0 (parent, child) pair (inl (let made : Ident → Node → Ident × Node = λ p c. (p, c) in ap (λ (p : Ident). made p pair.1) same ∙ ap (made parent) one.0))
          | inr among ↦ Contains-inserted now added.0 (parent, child) pair (inr ((loaded.also pair).1 (inr (one.0, among))))
        ]

    -- and there is room for it
    pub with_room : (caps : Caps) → HasRoomFor caps old child → IsWithin caps ((parent, child) ∷ now)
    with_room caps room of =
        let most = room parent of in (
          most.0,
          most.1,
          λ pair there. elim (Contains-cases (parent, child) now pair there) [
            | inl first ↦ most.2 pair (subst (Contains ((parent, child) ∷ old)) first (Contains-here (parent, child) old))
            | inr behind ↦ elim ((loaded.also pair).0 behind) [
              | inl was ↦ most.2 pair (Contains-behind (parent, child) old pair was)
              | inr one ↦ subst (λ (c : Node). c.ident.kind ≡ of → Contains most.0 c.ident) (sym one.0) (most.2 (parent, child) (Contains-here (parent, child) old))
            ]
          ],
        )

  -- once it has all, it has exactly these
  pub with_all : (now : List (Ident × Node)) → IsLoadedWith old now child parents (length parents) → HasAlso old now child parents
  with_all now loaded pair = (
    λ there. elim ((loaded.also pair).0 there) [ inl was ↦ inl was | inr one ↦ inr (one.0, (one.1.0, one.1.1, one.1.3)) ],
    λ either. (loaded.also pair).1 (elim either [ inl was ↦ inl was | inr one ↦ inr (one.0, (one.1.0, one.1.1, one.1.1, one.1.2)) ]),
  )
