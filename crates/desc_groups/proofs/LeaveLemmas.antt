-- What has left, at each place of the order in which a group leaves.
use Rattle.std.proofs.Common.{◌≡◌, ◌≢◌, ℕ, ◌+◌, ◌<◌, ◌≤◌, ◌^◌, Bool, true, false, not, cond, List, [], ◌∷◌, ◌++◌, length, take, drop, map, Contains, Option, Some, None, slice_get, refl, sym, ◌∙◌, ap, subst, ◌⊎◌, inl, inr, arith}
use Rattle.std.proofs.lemmas.List.{drop_more, length-map, length-take-le, map-append, take-append-drop, take_all, take_more}
use Rattle.std.proofs.lemmas.Option.{get_or_from_slice_get, slice_get_cases, slice_get_within}
use Rattle.cache_ident.specs.declared.idents.Cause.{Cause}
use Rattle.cache_ident.specs.declared.idents.Cause.TheVariants.{Dependent}
use Rattle.cache_ident.specs.declared.idents.Ident.{Ident}
use Rattle.cache_ident.specs.declared.idents.Standing.TheVariants.{Live}
use Rattle.cache_ident.specs.declared.names.Caps.{Caps}
use Rattle.cache_ident.specs.declared.rolls.Issued.{Issued}
use Rattle.cache_ident.specs.declared.names.Name.{Name}
use Rattle.cache_ident.specs.Residents.{without, IsResident, Resident}
use Rattle.cache_ident.specs.Rolls.{departed, is_same, standing_in}
use Rattle.cache_ident.proofs.RollLemmas.{is_same-refl}
use Rattle.depend_lists.specs.declared.nodes.Node.{Node}
use Rattle.desc_parents.specs.writeback_order.specs.Order.{IsOrder}
use Rattle.desc_parents.specs.flat_state.specs.State.{FlatState}
use Rattle.desc_parents.specs.flat_laws.proofs.Members.{Contains-behind, Contains-cases, Contains-here, contains_nothing}
use Rattle.desc_parents.specs.slot_cache.proofs.SlotLemmas.{some_same}
use Rattle.desc_parents.specs.run_journal.specs.Groups.{node_of, IsGroup, NothingDependsOn}
use Rattle.desc_parents.specs.run_journal.proofs.Others.{differ}
use Rattle.desc_parents.specs.resident_pairs.specs.Among.{Among}
use Rattle.desc_parents.specs.desc_stores.specs.Contents.{resident_as, residents_of, Contents}
use Rattle.desc_parents.specs.group_laws.specs.Leaving.{without_all}
use Rattle.desc_parents.specs.group_laws.proofs.FromBelow.{group_leaves}
use Rattle.desc_parents.specs.group_laws.proofs.Remaining.{without_all-push, without_all_cases}
use Rattle.desc_parents.specs.shown_state.proofs.LookupLemmas.{one_row_a_page}
use Rattle.desc_parents.specs.store_residents.proofs.KindLemmas.{at_as, live_loaded}
use Rattle.desc_parents.specs.store_residents.proofs.ResidentLemmas.{live_iff, loaded_resident, one_each, resident_loaded}
use Rattle.desc_parents.specs.Seen.{seen}
use Rattle.desc_groups.specs.declared.departures.Gone.{Gone}
use Rattle.desc_groups.specs.Moves.{departed_all, gone_as, idents_of, AreNamed, HasPlaces, KeepsButCounts}
use Rattle.desc_groups.specs.Whole.{AreWhole}
use Rattle.desc_groups.proofs.ShowLemmas.{but_counts_onward, seen_kept}

-- ---- what leaves at a place

abbrev pub ident_of : Node → Ident
ident_of n = n.ident

-- the identifiers of those before a place
abbrev pub idents_to : List Node → ℕ → List Ident
idents_to nodes place = map ident_of (take place nodes)

-- what is said of a node that has left: the root leaves for the cause, and the others as its dependents
abbrev pub gone_of : Ident → Cause → Node → Gone
gone_of root cause n = record { ident = n.ident; cause = cond (is_same n.ident root) cause Dependent }

-- what stands at a place stands between those before and those behind it
pub splits : (nodes : List Node) (place : ℕ) (node : Node) → slice_get nodes place ≡ Some node → nodes ≡ take place nodes ++ node ∷ drop (place + 1) nodes
splits nodes place node is =
    let low = slice_get_within nodes place node is in
    sym (take-append-drop place nodes)
    ∙ ap (λ (xs : List Node). take place nodes ++ xs) (drop_more nodes place node low)
    ∙ ap (λ (n : Node). take place nodes ++ n ∷ drop (place + 1) nodes) (get_or_from_slice_get nodes place node node is)

taken_more : (nodes : List Node) (place : ℕ) (node : Node) → slice_get nodes place ≡ Some node → take (place + 1) nodes ≡ take place nodes ++ node ∷ []
taken_more nodes place node is =
    take_more nodes place node (slice_get_within nodes place node is) ∙ ap (λ (n : Node). take place nodes ++ n ∷ []) (get_or_from_slice_get nodes place node node is)

pub idents_more : (nodes : List Node) (place : ℕ) (node : Node) → slice_get nodes place ≡ Some node → idents_to nodes (place + 1) ≡ idents_to nodes place ++ node.ident ∷ []
idents_more nodes place node is = ap (map ident_of) (taken_more nodes place node is) ∙ map-append ident_of (take place nodes) (node ∷ [])

departed_all-push : (issued : List Issued) (idents : List Ident) (ident : Ident) (at : ℕ) → departed_all issued (idents ++ ident ∷ []) at ≡ departed (departed_all issued idents at) ident (at + length idents)
departed_all-push issued [] ident at = ap (departed issued ident) (omega arith)
departed_all-push issued (first ∷ idents) ident at =
    let more : (at + 1) + length idents ≡ at + length (first ∷ idents) = omega arith in
    departed_all-push (departed issued first at) idents ident (at + 1) ∙ ap (departed (departed_all (departed issued first at) idents (at + 1)) ident) more

-- where one leaves, fewer are left
no_more : (ident : Ident) (rs : List Resident) → length (without ident rs) ≤ length rs
no_more ident [] = omega arith
no_more ident (x ∷ rs) = by (is_same x.ident ident) (no_more ident rs)
  where
    by : (b : Bool) → length (without ident rs) ≤ length rs → length (cond (not b) (x ∷ without ident rs) (without ident rs)) ≤ length (x ∷ rs)
    by true rest = omega arith
    by false rest = omega arith

pub one_less : (ident : Ident) (rs : List Resident) (q : Resident) → Contains rs q → q.ident ≡ ident → length (without ident rs) + 1 ≤ length rs
one_less ident [] q there is = absurd (contains_nothing q there)
one_less ident (x ∷ rs) q there is = by (λ later. one_less ident rs q later is) (is_same x.ident ident) refl (Contains-cases x rs q there)
  where
    by : (Contains rs q → length (without ident rs) + 1 ≤ length rs) → (b : Bool) → is_same x.ident ident ≡ b → (x ≡ q) ⊎ Contains rs q → length (cond (not b) (x ∷ without ident rs) (without ident rs)) + 1 ≤ length (x ∷ rs)
    by less true test which = let rest = no_more ident rs in omega arith
    by less false test (inl first) = let itself : is_same x.ident ident ≡ true = ap (λ (r : Resident). is_same r.ident ident) first ∙ ap (λ (i : Ident). is_same i ident) is ∙ is_same-refl ident in absurd (cc)
    by less false test (inr later) = let rest = less later in omega arith

-- one more has its name
named_more : (rs : List Resident) (idents : List Ident) (names : List Name) (ident : Ident) (name : Name) → AreNamed rs idents names → IsResident rs ident name → AreNamed rs (idents ++ ident ∷ []) (names ++ name ∷ [])
named_more rs [] [] ident name are is = (is, tt)
named_more rs [] (n ∷ names) ident name are is = absurd are
named_more rs (i ∷ idents) [] ident name are is = absurd are
named_more rs (i ∷ idents) (n ∷ names) ident name are is = (are.0, named_more rs idents names ident name are.1 is)

-- there are as many names as identifiers
named_length : (rs : List Resident) (idents : List Ident) (names : List Name) → AreNamed rs idents names → length names ≡ length idents
named_length rs [] [] are = refl
named_length rs [] (n ∷ names) are = absurd are
named_length rs (i ∷ idents) [] are = absurd are
named_length rs (i ∷ idents) (n ∷ names) are = let rest = named_length rs idents names are.1 in omega arith

-- ---- what has left before a place

pub record HasLeft (root : Ident) (cause : Cause) (at : ℕ) (nodes : List Node) (old now : Contents) (among : Among) (gone : List Gone) (names : List Name) (place : ℕ) : Type 0 where
  pub order : among.order ≡ nodes
  pub whole : AreWhole among.caps now among.pairs
  pub within : place ≤ length nodes
  pub residents : residents_of now ≡ without_all (idents_to nodes place) (residents_of old)
  pub issued : now.issued ≡ departed_all old.issued (idents_to nodes place) at
  pub kept : KeepsButCounts old now
  pub gone_are : gone ≡ map (gone_of root cause) (take place nodes)
  pub named : AreNamed (residents_of old) (idents_to nodes place) names
  pub few : place + length (residents_of now) ≤ length (residents_of old)

all_taken : (nodes : List Node) (place : ℕ) → slice_get nodes place ≡ None → take place nodes ≡ nodes
all_taken nodes place none = elim (slice_get_cases nodes place).1 [
  | inl some ↦ (let is = some.2 in absurd (cc))
  | inr past ↦ take_all place nodes past.0
]

idents_gone : (root : Ident) (cause : Cause) (nodes : List Node) → idents_of (map (gone_of root cause) nodes) ≡ map ident_of nodes
idents_gone root cause [] = refl
idents_gone root cause (n ∷ nodes) = ap (λ (idents : List Ident). n.ident ∷ idents) (idents_gone root cause nodes)

gone_as-cons : (cause : Cause) (ident : Ident) (nodes : List Node) (final : Node) → gone_as cause (ident ∷ map ident_of (nodes ++ final ∷ [])) ≡ record { ident = ident; cause = Dependent } ∷ gone_as cause (map ident_of (nodes ++ final ∷ []))
gone_as-cons cause ident [] final = refl
gone_as-cons cause ident (n ∷ nodes) final = refl

-- the root is the last one, and leaves for the cause
root_last : (root : Ident) (cause : Cause) (nodes : List Node) (final : Node) → final.ident ≡ root → ((n : Node) → Contains nodes n → n.ident ≢ root) → map (gone_of root cause) (nodes ++ final ∷ []) ≡ gone_as cause (map ident_of (nodes ++ final ∷ []))
root_last root cause [] final is others = ap (λ (b : Bool). record { ident = final.ident; cause = cond b cause Dependent } ∷ []) (ap (λ (i : Ident). is_same i root) is ∙ is_same-refl root)
root_last root cause (n ∷ nodes) final is others =
    ap (λ (b : Bool). record { ident = n.ident; cause = cond b cause Dependent } ∷ map (gone_of root cause) (nodes ++ final ∷ [])) (differ n.ident root (others n (Contains-here n nodes)))
    ∙ ap (λ (all : List Gone). record { ident = n.ident; cause = Dependent } ∷ all) (root_last root cause nodes final is (λ m m_there. others m (Contains-behind n nodes m m_there)))
    ∙ sym (gone_as-cons cause n.ident nodes final)

-- ---- how they leave, one after another

module _ {caps : Caps} {old : Contents} {pairs : List (Ident × Node)} (whole : AreWhole caps old pairs) (root : Ident) (live : standing_in old.issued root ≡ Live) {nodes : List Node} (order : (r : Resident) → resident_as old root ≡ Some r → IsOrder pairs (node_of (seen old) r) nodes) where
  -- the root
  held : (r : Resident) × (resident_as old root ≡ Some r)
  held = live_loaded old whole.one.sound root live

  abbrev r : Resident
  r = held.0

  r_order : IsOrder pairs (node_of (seen old) r) nodes
  r_order = order r held.1

  -- what stands at a place is resident still, and nothing depends on it
  next : (place : ℕ) (node : Node) → slice_get nodes place ≡ Some node → (q : Resident) × Contains (without_all (idents_to nodes place) (residents_of old)) q × (node ≡ node_of (seen old) q) × NothingDependsOn (seen old) (without_all (idents_to nodes place) (residents_of old)) q.name
  next place node is = group_leaves (seen old) (residents_of old) pairs r nodes (take place nodes) (drop (place + 1) nodes) node whole.rows.agreed (one_row_a_page None [] old whole.one) (one_each old whole.one) whole.pairs_are (loaded_resident old whole.one.sound root r held.1) r_order (splits nodes place node is)

  -- there is a place for each
  pub places_all : (at : ℕ) → HasPlaces old root at → at + length nodes ≤ 2 ^ 64
  places_all at places =
      let group : IsGroup (seen old) (residents_of old) r (map ident_of nodes) = record { pairs = pairs; are = whole.pairs_are; nodes = nodes; order = r_order; whole = refl } in
      subst (λ (n : ℕ). at + n ≤ 2 ^ 64) (length-map nodes ident_of) (places r (map ident_of nodes) (loaded_resident old whole.one.sound root r held.1) (at_as old root r held.1).1 group)

  module _ {cause : Cause} {at : ℕ} {now : Contents} {among : Among} {gone : List Gone} {names : List Name} {place : ℕ} (left : HasLeft root cause at nodes old now among gone names place) where
    ordered : (o : Option Node) → slice_get among.order place ≡ o → slice_get nodes place ≡ o
    ordered o is = ap (λ (all : List Node). slice_get all place) (sym left.order) ∙ is

    module _ {node : Node} (at_place : slice_get among.order place ≡ Some node) where
      is : slice_get nodes place ≡ Some node
      is = ordered (Some node) at_place

      abbrev q : Resident
      q = (next place node is).0

      q_there : Contains (residents_of now) q
      q_there = subst (λ (rs : List Resident). Contains rs q) (sym left.residents) (next place node is).1

      own : q.ident ≡ node.ident
      own = sym (ap ident_of (next place node is).2)

      pub next_live : standing_in now.issued node.ident ≡ Live
      next_live = (live_iff now left.whole.one.sound node.ident).1 (q, q_there, own)

      last : NothingDependsOn (seen now) (residents_of now) q.name
      last = subst (λ (s : FlatState). NothingDependsOn s (residents_of now) q.name) (sym (seen_kept old now left.kept)) (subst (λ (rs : List Resident). NothingDependsOn (seen old) rs q.name) (sym left.residents) (next place node is).3)

      pub next_last : (x : Resident) → resident_as now node.ident ≡ Some x → NothingDependsOn (seen now) (residents_of now) x.name
      next_last x found =
          let same : q ≡ x = some_same q x (sym (resident_loaded now q q_there) ∙ ap (resident_as now) own ∙ found) in
          subst (λ (y : Resident). NothingDependsOn (seen now) (residents_of now) y.name) same last

      -- there is a place for it
      pub next_fits : place < length (residents_of old)
      next_fits = let one = one_less node.ident (residents_of now) q q_there own in let few = left.few in omega arith

      pub next_within : place < length nodes
      next_within = slice_get_within nodes place node is

      pub gone_before : length gone ≡ place
      gone_before = ap length left.gone_are ∙ length-map (take place nodes) (gone_of root cause) ∙ length-take-le place nodes left.within

      -- it was resident under its name before the first one left
      next_named : (name : Name) → ((x : Resident) → resident_as now node.ident ≡ Some x → x.name ≡ name) → IsResident (residents_of old) node.ident name
      next_named name its =
          let before = (without_all_cases (idents_to nodes place) (residents_of old) q (next place node is).1).0 in
          (q, before, own, its q (ap (resident_as now) (sym own) ∙ resident_loaded now q q_there))

      pub named_before : length names ≡ place
      named_before = named_length (residents_of old) (idents_to nodes place) names left.named ∙ length-map (take place nodes) ident_of ∙ length-take-le place nodes left.within

      pub next_left : (new : Contents) (rest : Among) (behind : List Gone) (others : List Name) (name : Name) → AreWhole rest.caps new rest.pairs → rest.order ≡ among.order → residents_of new ≡ without node.ident (residents_of now)
          → new.issued ≡ departed now.issued node.ident (at + place) → KeepsButCounts now new → behind ≡ gone ++ gone_of root cause node ∷ []
          → ((x : Resident) → resident_as now node.ident ≡ Some x → x.name ≡ name) → others ≡ names ++ name ∷ [] → HasLeft root cause at nodes old new rest behind others (place + 1)
      next_left new rest behind others name whole_new same_order residents issued kept behind_is its others_are = record {
        order = same_order ∙ left.order;
        whole = whole_new;
        within = (let low = next_within in omega arith);
        residents = residents ∙ ap (without node.ident) left.residents ∙ sym (without_all-push (idents_to nodes place) node.ident (residents_of old))
            ∙ ap (λ (idents : List Ident). without_all idents (residents_of old)) (sym (idents_more nodes place node is));
        issued = issued ∙ ap (λ (roll : List Issued). departed roll node.ident (at + place)) left.issued
            ∙ ap (λ (n : ℕ). departed (departed_all old.issued (idents_to nodes place) at) node.ident (at + n)) (sym count)
            ∙ sym (departed_all-push old.issued (idents_to nodes place) node.ident at)
            ∙ ap (λ (idents : List Ident). departed_all old.issued idents at) (sym (idents_more nodes place node is));
        kept = but_counts_onward old now new left.kept kept;
        gone_are = behind_is ∙ ap (λ (all : List Gone). all ++ gone_of root cause node ∷ []) left.gone_are
            ∙ sym (map-append (gone_of root cause) (take place nodes) (node ∷ [])) ∙ ap (map (gone_of root cause)) (sym (taken_more nodes place node is));
        named = subst (λ (all : List Name). AreNamed (residents_of old) (idents_to nodes (place + 1)) all) (sym others_are)
            (subst (λ (idents : List Ident). AreNamed (residents_of old) idents (names ++ name ∷ [])) (sym (idents_more nodes place node is))
            (named_more (residents_of old) (idents_to nodes place) names node.ident name left.named (next_named name its)));
        few = (let one = one_less node.ident (residents_of now) q q_there own in let few = left.few in let same = ap length residents in omega arith);
      }
        where
          count : length (idents_to nodes place) ≡ place
          count = length-map (take place nodes) ident_of ∙ length-take-le place nodes left.within

    -- once all have left
    module _ (at_end : slice_get among.order place ≡ None) where
      whole_order : take place nodes ≡ nodes
      whole_order = all_taken nodes place (ordered None at_end)

      gone_all : gone ≡ map (gone_of root cause) nodes
      gone_all = left.gone_are ∙ ap (map (gone_of root cause)) whole_order

      pub idents_all : idents_of gone ≡ map ident_of nodes
      idents_all = ap idents_of gone_all ∙ idents_gone root cause nodes

      idents_are : idents_to nodes place ≡ idents_of gone
      idents_are = ap (map ident_of) whole_order ∙ sym idents_all

      pub residents_all : residents_of now ≡ without_all (idents_of gone) (residents_of old)
      residents_all = left.residents ∙ ap (λ (idents : List Ident). without_all idents (residents_of old)) idents_are

      pub named_all : AreNamed (residents_of old) (idents_of gone) names
      named_all = subst (λ (idents : List Ident). AreNamed (residents_of old) idents names) idents_are left.named

      pub issued_all : now.issued ≡ departed_all old.issued (idents_of gone) at
      issued_all = left.issued ∙ ap (λ (idents : List Ident). departed_all old.issued idents at) idents_are

      root_is : r.ident ≡ root
      root_is = (at_as old root r held.1).1

      in_order : map (gone_of root cause) nodes ≡ gone_as cause (map ident_of nodes)
      in_order = subst (λ (all : List Node). map (gone_of root cause) all ≡ gone_as cause (map ident_of all)) (sym r_order.root_last)
          (root_last root cause r_order.dependents (node_of (seen old) r) root_is (λ n n_there same. ((r_order.closure n).0 n_there).1 (same ∙ sym root_is)))

      pub causes_all : gone ≡ gone_as cause (idents_of gone)
      causes_all = gone_all ∙ in_order ∙ ap (gone_as cause) (sym idents_all)

      pub group_all : (x : Resident) → Contains (residents_of old) x → x.ident ≡ root → IsGroup (seen old) (residents_of old) x (idents_of gone)
      group_all x x_there x_is = record {
        pairs = pairs;
        are = whole.pairs_are;
        nodes = nodes;
        order = order x (ap (resident_as old) (sym x_is) ∙ resident_loaded old x x_there);
        whole = idents_all;
      }
