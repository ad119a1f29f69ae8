-- What is missing of a chain may be loaded beside what is loaded of it.
use Rattle.std.proofs.Common.{◌≡◌, ℕ, ◌+◌, ◌≤◌, Bool, true, false, cond, not, List, [], ◌∷◌, length, count_by, Contains, Option, Some, None, refl, ap, sym, ◌∙◌, subst, ◌⊎◌, inl, inr, arith}
use Rattle.std.specs.Prelude.{if◌then◌else◌, is_some, IfNone, ◌||◌}
use Rattle.std.specs.List.{cons_option, list_any}
use Rattle.std.proofs.lemmas.Bool.{cases_Bool, false≢true}
use Rattle.board_core.specs.flat_laws.proofs.Members.{Contains-behind, Contains-cases, Contains-filter_map, Contains-from_filter_map, Contains-here, contains_nothing}
use Rattle.cache_ident.specs.declared.idents.Ident.{Ident}
use Rattle.cache_ident.specs.declared.idents.Kind.{Kind}
use Rattle.cache_ident.specs.declared.names.Name.{Name}
use Rattle.cache_ident.specs.Names.{kind_of}
use Rattle.cache_ident.specs.Residents.{Resident, IsNameResident}
use Rattle.cache_ident.specs.Rolls.{is_same}
use Rattle.cache_ident.proofs.RollLemmas.{is_same-refl, same_ident}
use Rattle.board_core.specs.depend_lists.specs.declared.nodes.Node.{Node}
use Rattle.flat_state.specs.Dependence.{Depends}
use Rattle.flat_state.proofs.Places.{count_by-cons}
use Rattle.board_core.specs.run_journal.specs.Legal.{is_kind}
use Rattle.board_core.specs.journal_laws.specs.Leaving.{HaveOneEach}
use Rattle.board_core.specs.group_laws.proofs.Counting.{count-same}
use Rattle.board_core.specs.desc_stores.specs.Contents.{residents_of, Contents}
use Rattle.board_core.specs.shown_state.proofs.ContentLemmas.{same_tests}
use Rattle.board_core.specs.shown_state.proofs.DependenceLemmas.{same_fit, same_parents}
use Rattle.board_core.specs.shown_state.proofs.LookupLemmas.{name_stands}
use Rattle.board_core.specs.store_residents.proofs.ContentLemmas.{shelved_iff}
use Rattle.board_core.specs.store_residents.proofs.ResidentLemmas.{one_each, resident_kind}
use Rattle.board_core.specs.desc_parents.specs.Idents.{ident_of, idents_of}
use Rattle.board_core.specs.desc_parents.specs.Seen.{seen}
use Rattle.board_core.specs.desc_parents.proofs.IdentLemmas.{ident_back, ident_found, ident_none}
use Rattle.board_core.specs.desc_groups.specs.declared.departures.Gone.{Gone}
use Rattle.board_core.specs.desc_groups.specs.Moves as moves
use Rattle.board_core.specs.desc_tables.specs.May.{kept_of, wanted_of, MayBeLoaded}
use Rattle.board_core.specs.desc_tables.specs.Tables.{AreSound}
use Rattle.board_core.specs.desc_tables.proofs.Remaining.{KeepsParentsOfKept}
use Rattle.board_core.specs.board_laws.specs.Moves.{IsLoad}
use Rattle.board_core.specs.cached_machine.specs.Cached.{state_of}
use Rattle.board_chains.specs.Lists.{has}
use Rattle.board_chains.proofs.ListLemmas.{has_not, has_there}
use Rattle.board_core.specs.Core.{contents_of, Recorded}
use Rattle.board_core.specs.Growth.{count_unkept, is_kept}
use Rattle.board_loads.proofs.GoneLaws.{fewer_pass, kept_is_there, loaded_there, new_cases, not_gone}
use Rattle.board_heal.specs.Loads.{count_others, MayComeNext}

-- ---- identifiers that are kept

any_there : (ident : Ident) (keep : List Ident) → list_any (is_same ident) keep ≡ true → Contains keep ident
any_there ident [] is = absurd (false≢true is)
any_there ident (k ∷ keep) is = elim (cases_Bool (is_same ident k)) [
  | inl same ↦ subst (λ (i : Ident). Contains (k ∷ keep) i) (sym (same_ident ident k same)) (Contains-here k keep)
  | inr other ↦ Contains-behind k keep ident (any_there ident keep (rw other at is))
]

any_from : (ident : Ident) (keep : List Ident) → Contains keep ident → list_any (is_same ident) keep ≡ true
any_from ident [] there = absurd (contains_nothing ident there)
any_from ident (k ∷ keep) there = elim (Contains-cases k keep ident there) [
  | inl same ↦ ap (λ (b : Bool). b || list_any (is_same ident) keep) (ap (is_same ident) same ∙ is_same-refl ident)
  | inr behind ↦ elim (cases_Bool (is_same ident k)) [
    | inl first ↦ ap (λ (b : Bool). b || list_any (is_same ident) keep) first
    | inr other ↦ ap (λ (b : Bool). b || list_any (is_same ident) keep) other ∙ any_from ident keep behind
  ]
]

has_from : (names : List Name) (n : Name) → Contains names n → has names n ≡ true
has_from names n there = elim (cases_Bool (has names n)) [
  | inl is ↦ is
  | inr none ↦ absurd (has_not names n none there)
]

module _ (c : Contents) (one : HaveOneEach (residents_of c)) (kinds : (r : Resident) → Contains (residents_of c) r → r.ident.kind ≡ kind_of r.name) (of : Kind) where
  abbrev loaded : List Resident
  loaded = residents_of c

  abbrev its : List Name → ℕ
  its names = count_by (λ (n : Name). is_kind (kind_of n) of) names

  kept_kind : (n : Name) (ident : Ident) → ident_of loaded n ≡ Some ident → is_kind ident.kind of ≡ is_kind (kind_of n) of
  kept_kind n ident is = let back = ident_back loaded n ident is in ap (λ (k : Kind). is_kind k of) (ap (λ (i : Ident). i.kind) (sym back.2) ∙ kinds back.0 back.1 ∙ ap kind_of back.3)

  abbrev counts : Name → ℕ
  counts n = cond (is_kind (kind_of n) of) 1 0

  -- a name adds one of its kind at most
  adds : (n : Name) (names : List Name) (o : Option Ident) → ident_of loaded n ≡ o → kept_of (cons_option o (idents_of loaded names)) of ≤ counts n + kept_of (idents_of loaded names) of
  adds n names None is = omega arith
  adds n names (Some ident) is =
      let kept = count_by-cons (λ (i : Ident). is_kind i.kind of) ident (idents_of loaded names) in
      let same : cond (is_kind ident.kind of) 1 0 ≡ counts n = ap (λ (k : Bool). cond k 1 0) (kept_kind n ident is) in
      omega arith

  all_of : (n : Name) (names : List Name) → its (n ∷ names) ≡ counts n + its names
  all_of n names = count_by-cons (λ (x : Name). is_kind (kind_of x) of) n names

  -- no more are kept than there are names
  no_more : (names : List Name) → kept_of (idents_of loaded names) of ≤ its names
  no_more [] = omega arith
  no_more (n ∷ names) =
      let rest = no_more names in
      let added = adds n names (ident_of loaded n) refl in
      let all = all_of n names in
      omega arith

  -- and fewer where one that isn't loaded is of the kind
  fewer_kept : (names : List Name) (name : Name) → Contains names name → ident_of loaded name ≡ None → is_kind (kind_of name) of ≡ true → kept_of (idents_of loaded names) of + 1 ≤ its names
  fewer_kept [] name there none kind = absurd (contains_nothing name there)
  fewer_kept (n ∷ names) name there none kind = elim (Contains-cases n names name there) [
    | inl same ↦
        let rest = no_more names in
        let all = all_of n names in
        let kept : kept_of (idents_of loaded (n ∷ names)) of ≡ kept_of (idents_of loaded names) of = ap (λ (o : Option Ident). kept_of (cons_option o (idents_of loaded names)) of) (ap (ident_of loaded) same ∙ none) in
        let one_more : counts n ≡ 1 = ap counts same ∙ ap (λ (k : Bool). cond k 1 0) kind in
        omega arith
    | inr behind ↦
        let rest = fewer_kept names name behind none kind in
        let added = adds n names (ident_of loaded n) refl in
        let all = all_of n names in
        omega arith
  ]

module _ (b : Recorded) (pairs : List (Ident × Node)) (sound : AreSound b.machine.held pairs) (chain : List Name) (name : Name) (may : MayComeNext b chain name) where
  abbrev c : Contents
  c = contents_of b

  abbrev rs : List Resident
  rs = residents_of c

  abbrev keep : List Ident
  keep = idents_of rs chain

  one : HaveOneEach rs
  one = one_each c sound.whole.one

  in_keep : (r : Resident) → Contains rs r → Contains chain r.name → Contains keep r.ident
  in_keep r there listed = Contains-filter_map (ident_of rs) chain r.name r.ident listed (ident_found rs one r there)

  from_keep : (r : Resident) → Contains rs r → Contains keep r.ident → Contains chain r.name
  from_keep r there kept =
      let from = Contains-from_filter_map (ident_of rs) chain r.ident kept in
      let back = ident_back rs from.0 r.ident from.2 in
      let same = one.idents back.0 r back.1 there back.2 in
      subst (Contains chain) (sym back.3 ∙ ap (λ (x : Resident). x.name) same) from.1

  depends_so : (child parent : Name) → Depends (seen c) child parent → Depends (state_of b.machine) child parent
  depends_so child parent depends = subst (λ (names : List Name). Contains names parent) (sym (same_parents (Some b.machine.machine) b.machine.memory c child)) depends

  closed_in : KeepsParentsOfKept (seen c) rs keep
  closed_in r parent there kept parent_there depends = in_keep parent parent_there (may.closed r.name (from_keep r there kept) parent.name (depends_so r.name parent.name depends))

  pub may_load : (IsNameResident rs name → ⊥) → MayBeLoaded c name keep
  may_load absent = record {
    shelved = (shelved_iff c sound.whole.one name).1 (sym (name_stands (Some b.machine.machine) b.machine.memory c sound.whole.one name) ∙ may.good.there, absent);
    fit = sym (same_fit (Some b.machine.machine) b.machine.memory c name) ∙ may.good.fit;
    kept = record {
      has = λ parent depends. may.parents parent (depends_so name parent depends);
      direct = λ r there depends. in_keep r there (may.closed name may.listed r.name (depends_so name r.name depends));
      closed = closed_in;
      few = λ of. few of (is_kind (kind_of name) of) refl;
    };
  }
    where
      few : (of : Kind) (k : Bool) → is_kind (kind_of name) of ≡ k → kept_of keep of + (if k then 1 else 0) ≤ wanted_of of
      few of true is =
          let fewer = fewer_kept c one (resident_kind c sound.whole.one.sound) of chain name may.listed (ident_none rs name absent) is in
          let all = may.few of in
          omega arith
      few of false is =
          let more = no_more c one (resident_kind c sound.whole.one.sound) of chain in
          let all = may.few of in
          omega arith

  unkept_so : (r : Resident) → Contains rs r → not (is_kept keep r) ≡ not (has chain r.name)
  unkept_so r there = ap not (same_tests (is_kept keep r) (has chain r.name) (λ kept. has_from chain r.name (from_keep r there (any_there r.ident keep kept))) (λ listed. any_from r.ident keep (in_keep r there (has_there chain r.name listed))))

  -- so many may leave
  pub count_is : count_unkept b keep ≡ count_others b chain
  count_is = count-same (λ (r : Resident). not (is_kept keep r)) (λ (r : Resident). not (has chain r.name)) rs unkept_so

  module _ (new : Contents) (at : ℕ) (gone : List Gone) (ident : Ident) (is : IsLoad b.machine.held.caps c new name keep at gone ident) where
    pub stays : (r : Resident) → Contains rs r → Contains chain r.name → Contains (residents_of new) r
    stays r there listed = kept_is_there b.machine.held.caps c pairs sound.whole new name keep at gone ident is closed_in r there (in_keep r there listed)

    pub comes : IsNameResident (residents_of new) name
    comes = let there = loaded_there b.machine.held.caps c pairs sound.whole new name keep at gone ident is in (there.0, there.1, there.3)

    pub were : (r : Resident) → Contains (residents_of new) r → Contains rs r ⊎ (r.name ≡ name)
    were = new_cases b.machine.held.caps c pairs sound.whole new name keep at gone ident is

    pub fewer_others : length gone + count_by (λ (r : Resident). not (has chain r.name)) (residents_of new) ≤ count_by (λ (r : Resident). not (has chain r.name)) rs
    fewer_others = fewer_pass b.machine.held.caps c pairs sound.whole new name keep at gone ident is (λ (r : Resident). not (has chain r.name)) left (ap not (has_from chain name may.listed))
      where
        left : (r : Resident) → Contains rs r → Contains (moves.idents_of gone) r.ident → not (has chain r.name) ≡ true
        left r there out = elim (cases_Bool (has chain r.name)) [
          | inl listed ↦ absurd (not_gone b.machine.held.caps c pairs sound.whole new name keep at gone ident is closed_in r.ident (in_keep r there (has_there chain r.name listed)) out)
          | inr other ↦ ap not other
        ]

-- what is tested as none is none
pub none_found : {X : Type 0} (o : Option X) (P : Type 0) → is_some o ≡ false → IfNone o P → P
none_found None P is held = held
none_found (Some x) P is held = absurd (cc)
