-- What leaves with a row, and what is good once all that was bad has left.
use Rattle.std.proofs.Common.{◌≡◌, ℕ, Bool, true, List, [], ◌∷◌, map, Contains, Option, Some, None, is_some, slice_get, refl, sym, ◌∙◌, ap, subst, ◌⊎◌, inl, inr, arith}
use Rattle.std.proofs.lemmas.Bool.{cases_Bool, false≢true}
use Rattle.std.proofs.lemmas.List.Elements.{Contains-push, Contains-push_cases}
use Rattle.cache_ident.specs.declared.classes.Class.TheVariants as classes
use Rattle.cache_ident.specs.declared.idents.Ident.{Ident}
use Rattle.cache_ident.specs.declared.idents.Kind.TheVariants as kind
use Rattle.cache_ident.specs.declared.names.Name.{Name}
use Rattle.cache_ident.specs.declared.names.Name.TheVariants as name
use Rattle.cache_ident.specs.Names.{kind_of}
use Rattle.cache_ident.specs.Residents.{Resident}
use Rattle.cache_ident.specs.Rolls.{is_same}
use Rattle.cache_ident.proofs.RollLemmas.{same_ident}
use Rattle.board_checks.specs.depend_lists.specs.declared.nodes.Node.{Node}
use Rattle.phys_groups.specs.declared.rows.Row.{Row}
use Rattle.phys_groups.specs.Translation.{row_of}
use Rattle.board_checks.specs.writeback_order.specs.Order.{directly, further, rank_of, DependsOn}
use Rattle.flat_state.specs.declared.records.FlatThread.{FlatThread}
use Rattle.flat_state.specs.Dependence.{parents, parents_of_found, Depends}
use Rattle.flat_state.specs.Names.{class_by, class_of, class_of_row, is_fit_name, stands}
use Rattle.flat_state.specs.State.{FlatState}
use Rattle.flat_state.specs.WellFormed.{IsWellFormed}
use Rattle.board_checks.specs.flat_laws.specs.Rows.{IsButForBits}
use Rattle.board_checks.specs.flat_laws.proofs.EventKeeps.{Keeps}
use Rattle.board_checks.specs.flat_laws.proofs.Members.{Contains-cases, Contains-from_map, Contains-here, Contains-behind, Contains-option_map, contains_nothing}
use Rattle.board_checks.specs.flat_laws.proofs.ParentLaws.{parent_leaves_later, parent_stands}
use Rattle.board_checks.specs.flat_laws.proofs.ShortChains.{own_row}
use Rattle.board_checks.specs.run_journal.specs.declared.entries.Entry.{Entry}
use Rattle.board_checks.specs.run_journal.specs.Groups.{IsGroup}
use Rattle.board_checks.specs.run_journal.specs.Legal.{AreGood}
use Rattle.board_checks.specs.run_journal.proofs.Others.{other_ident}
use Rattle.board_core.specs.journal_laws.specs.Leaving.{HaveOneEach}
use Rattle.board_core.specs.group_laws.proofs.Remaining.{stays_without_all, without_all_cases}
use Rattle.board_core.specs.group_laws.proofs.StayingOne.{one_all_left}
use Rattle.board_checks.specs.desc_groups.proofs.LeaveLemmas.{ident_of}
use Rattle.board_core.specs.board_laws.proofs.Departing.{group_idents}
use Rattle.board_calls.specs.Departures.{LeaveInTurn, LeavesIfThere}
use Rattle.board_calls.specs.Leaving.{AreBad}
use Rattle.board_calls.proofs.GoodLaws.{on_each, row_class, row_fits, row_found}

-- an identifier is among others, or isn't
among : (xs : List Ident) (i : Ident) → Contains xs i ⊎ (Contains xs i → ⊥)
among [] i = inr (λ none. contains_nothing i none)
among (x ∷ xs) i = elim (cases_Bool (is_same x i)) [
  | inl same ↦ inl (subst (λ (j : Ident). Contains (x ∷ xs) j) (same_ident x i same) (Contains-here x xs))
  | inr other ↦ elim (among xs i) [
    | inl behind ↦ inl (Contains-behind x xs i behind)
    | inr none ↦ inr (λ there. elim (Contains-cases x xs i there) [
      | inl same ↦ other_ident x i other same
      | inr behind ↦ none behind
    ])
  ]
]

-- ---- what depends on a row

-- a message row, and nothing else
abbrev IsMessage : FlatState → Name → Type 0
IsMessage s n = (class_of s n ≡ classes.MessageRow) × (kind_of n ≡ kind.Mapping)

module _ (s : FlatState) where
  message_depends : (child parent : Name) → Depends s child parent → kind_of parent ≡ kind.Mapping → IsMessage s child
  unfolding parents
  message_depends (name.Kernel kernel) parent depends row = absurd (contains_nothing parent depends)
  message_depends (name.Space space) parent depends row =
      let above = Contains-option_map name.Kernel (slice_get s.spaces space.0) parent depends in
      absurd (let clash : kind.Kernel ≡ kind.Mapping = ap kind_of above.2 ∙ row in cc)
  message_depends (name.Thread thread) parent depends row =
      let above = Contains-option_map (λ (t : FlatThread). name.Space t.space) (slice_get s.threads thread.0) parent depends in
      absurd (let clash : kind.Space ≡ kind.Mapping = ap kind_of above.2 ∙ row in cc)
  message_depends (name.Mapping space vpn) parent depends row = by (row_of s.rows space vpn.0) refl depends
    where
      by : (o : Option Row) → row_of s.rows space vpn.0 ≡ o → Contains (parents_of_found s o) parent → IsMessage s (name.Mapping space vpn)
      by None here there = absurd (contains_nothing parent there)
      by (Some found) here there =
          on_each s found (λ p. kind_of p ≡ kind.Mapping → IsMessage s (name.Mapping space vpn))
          (λ of_space. absurd (let clash : kind.Space ≡ kind.Mapping = of_space in cc))
          (λ p receives of_thread.
          let receiver = Contains-option_map name.Thread found.receiver p receives in
          absurd (let clash : kind.Thread ≡ kind.Mapping = ap kind_of receiver.2 ∙ of_thread in cc))
          (λ message other other_in signals fit is. (row_class s space vpn found here ∙ ap (λ (b : Bool). class_by b (is_some found.receiver)) message, refl))
          parent there row

-- ---- one group

module _ (s : FlatState) (rs : List Resident) (one : HaveOneEach rs) (root : Resident) (there : Contains rs root) (row : kind_of root.name ≡ kind.Mapping) (idents : List Ident) (group : IsGroup s rs root idents) where
  -- it leaves with message rows
  dependent_is : (n : Node) → DependsOn group.pairs root.ident n → (child : Resident) × Contains rs child × (child.ident ≡ n.ident) × IsMessage s child.name
  dependent_is n (directly pair) =
      let its = group.are.sound (root.ident, n) pair in
      let parent = one.idents its.parent root its.parent_there there (sym its.of_parent) in
      let depends = subst (λ (r : Resident). Depends s its.child.name r.name) parent its.depends in
      (its.child, its.child_there, sym (ap ident_of its.of_child), message_depends s its.child.name root.name depends row)
  dependent_is n (further {between = between} deeper pair) =
      let mid = dependent_is between deeper in
      let its = group.are.sound (between.ident, n) pair in
      let parent = one.idents its.parent mid.0 its.parent_there mid.1 (sym its.of_parent ∙ sym mid.2) in
      let depends = subst (λ (r : Resident). Depends s its.child.name r.name) parent its.depends in
      (its.child, its.child_there, sym (ap ident_of its.of_child), message_depends s its.child.name mid.0.name depends mid.3.1)

  in_group : (q : Resident) → Contains rs q → Contains idents q.ident → (q.ident ≡ root.ident) ⊎ (class_of s q.name ≡ classes.MessageRow)
  in_group q q_there within = elim (Contains-push_cases (map ident_of group.order.dependents) root.ident q.ident (subst (λ (all : List Ident). Contains all q.ident) (group_idents s rs root idents group) within)) [
    | inr last ↦ inl (sym last)
    | inl before ↦
        let n = Contains-from_map ident_of group.order.dependents q.ident before in
        let child = dependent_is n.0 ((group.order.closure n.0).0 n.1).0 in
        let same = one.idents child.0 q child.1 q_there (child.2 ∙ n.2) in
        inr (subst (λ (r : Resident). class_of s r.name ≡ classes.MessageRow) same child.3.0)
  ]

  root_leaves : Contains idents root.ident
  root_leaves = subst (λ (all : List Ident). Contains all root.ident) (sym (group_idents s rs root idents group)) (Contains-push (map ident_of group.order.dependents) root.ident)

-- ---- some groups

-- what left is a row that was to leave, or a message row; the rest is there, and is none that was to leave
pub record AreLeft (s : FlatState) (idents : List Ident) (rs left : List Resident) : Type 0 where
  pub stay : (q : Resident) → Contains rs q → Contains left q ⊎ (Contains idents q.ident ⊎ (class_of s q.name ≡ classes.MessageRow))
  pub were : (q : Resident) → Contains left q → Contains rs q
  pub gone : (q : Resident) → Contains left q → Contains idents q.ident → ⊥
  pub one : HaveOneEach left

one_left : (s : FlatState) (cpu : ℕ) (ident : Ident) (rs : List Resident) (es : List Entry) (left : List Resident) → HaveOneEach rs → ((r : Resident) → Contains rs r → r.ident.kind ≡ kind_of r.name) → ident.kind ≡ kind.Mapping → LeavesIfThere s cpu ident rs es left → AreLeft s (ident ∷ []) rs left
one_left s cpu ident rs es left one kinds row (inl gone) = subst (AreLeft s (ident ∷ []) rs) (sym gone.same) (record {
  stay = λ q q_there. inl q_there;
  were = λ q q_there. q_there;
  gone = λ q q_there same. elim (Contains-cases ident [] q.ident same) [
    | inl is ↦ gone.absent (q, q_there, sym is)
    | inr none ↦ contains_nothing q.ident none
  ];
  one = one;
})
one_left s cpu ident rs es left one kinds row (inr leaves) =
    let root_row : kind_of leaves.root.name ≡ kind.Mapping = sym (kinds leaves.root leaves.there) ∙ ap (λ (i : Ident). i.kind) leaves.its ∙ row in
    subst (AreLeft s (ident ∷ []) rs) (sym leaves.rest) (record {
      stay = λ q q_there. elim (among leaves.idents q.ident) [
        | inr out ↦ inl (stays_without_all leaves.idents rs q q_there out)
        | inl within ↦ elim (in_group s rs one leaves.root leaves.there root_row leaves.idents leaves.group q q_there within) [
          | inl is ↦ inr (inl (subst (λ (i : Ident). Contains (ident ∷ []) i) (sym (is ∙ leaves.its)) (Contains-here ident [])))
          | inr message ↦ inr (inr message)
        ]
      ];
      were = λ q q_there. (without_all_cases leaves.idents rs q q_there).0;
      gone = λ q q_there same. elim (Contains-cases ident [] q.ident same) [
        | inl is ↦ (without_all_cases leaves.idents rs q q_there).1 (subst (λ (i : Ident). Contains leaves.idents i) (leaves.its ∙ is) (root_leaves s rs one leaves.root leaves.there root_row leaves.idents leaves.group))
        | inr none ↦ contains_nothing q.ident none
      ];
      one = one_all_left rs leaves.idents one;
    })

pub all_left : (s : FlatState) (cpu : ℕ) (idents : List Ident) (rs : List Resident) (es : List Entry) (left : List Resident) → HaveOneEach rs → ((r : Resident) → Contains rs r → r.ident.kind ≡ kind_of r.name) → ((i : Ident) → Contains idents i → i.kind ≡ kind.Mapping) → LeaveInTurn s cpu idents rs es left → AreLeft s idents rs left
all_left s cpu [] rs es left one kinds rows turns = subst (AreLeft s [] rs) (sym turns.1) (record {
  stay = λ q q_there. inl q_there;
  were = λ q q_there. q_there;
  gone = λ q q_there none. contains_nothing q.ident none;
  one = one;
})
all_left s cpu (ident ∷ idents) rs es left one kinds rows (first, later, between, split, turn, turns) =
    let now = one_left s cpu ident rs first between one kinds (rows ident (Contains-here ident idents)) turn in
    let rest = all_left s cpu idents between later left now.one (λ r there. kinds r (now.were r there)) (λ i there. rows i (Contains-behind ident idents i there)) turns in
    record {
      stay = λ q q_there. elim (now.stay q q_there) [
        | inl still ↦ elim (rest.stay q still) [
          | inl there ↦ inl there
          | inr out ↦ elim out [
            | inl within ↦ inr (inl (Contains-behind ident idents q.ident within))
            | inr message ↦ inr (inr message)
          ]
        ]
        | inr out ↦ elim out [
          | inl is ↦ elim (Contains-cases ident [] q.ident is) [
            | inl same ↦ inr (inl (subst (λ (i : Ident). Contains (ident ∷ idents) i) same (Contains-here ident idents)))
            | inr none ↦ absurd (contains_nothing q.ident none)
          ]
          | inr message ↦ inr (inr message)
        ]
      ];
      were = λ q q_there. now.were q (rest.were q q_there);
      gone = λ q q_there within. elim (Contains-cases ident idents q.ident within) [
        | inl same ↦ now.gone q (rest.were q q_there) (subst (λ (i : Ident). Contains (ident ∷ []) i) same (Contains-here ident []))
        | inr behind ↦ rest.gone q q_there behind
      ];
      one = rest.one;
    }

-- ---- what is good then

module _ (u : FlatState) (formed : IsWellFormed u) where
  -- what something depends on is fit
  parent_fits : (child parent : Name) → Depends u child parent → is_fit_name u parent ≡ true
  unfolding parents is_fit_name
  parent_fits (name.Kernel kernel) parent depends = absurd (contains_nothing parent depends)
  parent_fits (name.Space space) parent depends =
      let above = Contains-option_map name.Kernel (slice_get u.spaces space.0) parent depends in
      subst (λ (n : Name). is_fit_name u n ≡ true) above.2 refl
  parent_fits (name.Thread thread) parent depends =
      let above = Contains-option_map (λ (t : FlatThread). name.Space t.space) (slice_get u.threads thread.0) parent depends in
      subst (λ (n : Name). is_fit_name u n ≡ true) above.2 refl
  parent_fits (name.Mapping space vpn) parent depends = by (row_of u.rows space vpn.0) depends
    where
      by : (o : Option Row) → Contains (parents_of_found u o) parent → is_fit_name u parent ≡ true
      by None there = absurd (contains_nothing parent there)
      by (Some found) there =
          on_each u found (λ p. is_fit_name u p ≡ true) refl
          (λ p receives. let receiver = Contains-option_map name.Thread found.receiver p receives in subst (λ (n : Name). is_fit_name u n ≡ true) receiver.2 refl)
          (λ message other other_in signals fit. row_fits u other.space other.vpn other (own_row u formed other other_in) ∙ fit)
          parent there

  -- and is no message row
  no_message : (child parent : Name) → Depends u child parent → class_of u parent ≡ classes.MessageRow → ⊥
  no_message child parent depends message =
      let later = parent_leaves_later u formed child parent depends in
      let least : rank_of (class_of u parent) ≡ 0 = ap rank_of message in
      omega arith

-- the class of a row that stands before and after is one
class_stays : (s u : FlatState) → Keeps s u → (n : Name) → class_of s n ≡ classes.MessageRow → stands s n ≡ true → stands u n ≡ true → class_of u n ≡ classes.MessageRow
unfolding class_of
class_stays s u keeps (name.Kernel kernel) message was is = absurd (let clash : classes.Kernel ≡ classes.MessageRow = message in cc)
class_stays s u keeps (name.Space space) message was is = absurd (let clash : classes.Space ≡ classes.MessageRow = message in cc)
class_stays s u keeps (name.Thread thread) message was is = absurd (let clash : classes.Thread ≡ classes.MessageRow = message in cc)
class_stays s u keeps (name.Mapping space vpn) message was is =
    let row = row_found s space vpn was in
    let now = row_found u space vpn is in
    let same : IsButForBits row.0 now.0 = keeps.rows space vpn.0 row.0 now.0 row.1 now.1 in
    ap class_of_row now.1
    ∙ ap (λ (x : Row). class_by x.flags.m (is_some x.receiver)) same
    ∙ sym (ap class_of_row row.1)
    ∙ message

-- once all that is bad in a state has left, what is left is good in it
pub left_good : (s u : FlatState) (idents : List Ident) (rs left : List Resident) → IsWellFormed u → Keeps s u → HaveOneEach rs → AreGood s rs → AreBad u rs idents → AreLeft s idents rs left → AreGood u left
left_good s u idents rs left formed keeps one good bad are r there =
    let its = bad.others r (are.were r there) (are.gone r there) in
    record {
      there = its.there;
      fit = its.fit;
      parents = λ parent depends.
          let q = its.parents parent depends in
          let stands_then : stands u q.0.name ≡ true = subst (λ (n : Name). stands u n ≡ true) (sym q.2) (parent_stands u formed r.name parent depends) in
          let on_it : Depends u r.name q.0.name = subst (Depends u r.name) (sym q.2) depends in
          elim (are.stay q.0 q.1) [
            | inl still ↦ (q.0, still, q.2)
            | inr out ↦ elim out [
              | inr message ↦ absurd (no_message u formed r.name q.0.name on_it (class_stays s u keeps q.0.name message (good q.0 q.1).there stands_then))
              | inl within ↦ absurd (never q.0 q.1 r.name on_it stands_then within)
            ]
          ];
    }
  where
    never : (q : Resident) → Contains rs q → (child : Name) → Depends u child q.name → stands u q.name ≡ true → Contains idents q.ident → ⊥
    never q q_there child depends stands_then within =
        let why = bad.bad q.ident within in
        let same = one.idents why.resident q why.there q_there why.its in
        elim why.why [
          | inl gone ↦ false≢true (sym gone ∙ ap (λ (x : Resident). stands u x.name) same ∙ stands_then)
          | inr rest ↦ elim rest [
            | inl unfit ↦ false≢true (sym unfit ∙ ap (λ (x : Resident). is_fit_name u x.name) same ∙ parent_fits u formed child q.name depends)
            | inr lacks ↦ no_message u formed child q.name depends (sym (ap (λ (x : Resident). class_of u x.name) same) ∙ lacks.message)
          ]
        ]
