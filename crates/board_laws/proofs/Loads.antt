-- Loads, and the seal, in the journal.
use Rattle.std.proofs.Common.{◌≡◌, ◌≢◌, ℕ, zero, suc, ◌+◌, ◌<◌, true, false, cond, eqb, List, [], ◌∷◌, ◌++◌, length, Contains, Some, None, refl, ap, sym, ◌∙◌, subst, inl, inr, arith}
use Rattle.std.proofs.lemmas.Bool.{cases_Bool, eqb-false, eqb-true}
use Rattle.std.proofs.lemmas.List.Elements.{Contains-append_left, Contains-push, Contains-push_cases}
use Rattle.cache_ident.specs.declared.idents.Cause.TheVariants as causes
use Rattle.cache_ident.specs.declared.idents.Ident.{Ident}
use Rattle.cache_ident.specs.declared.idents.Kind.{Kind}
use Rattle.cache_ident.specs.declared.idents.Kind.TheVariants as kinds
use Rattle.cache_ident.specs.declared.idents.Standing.{Standing}
use Rattle.cache_ident.specs.declared.idents.Standing.TheVariants.{Live, Never}
use Rattle.cache_ident.specs.declared.names.Caps.{Caps}
use Rattle.cache_ident.specs.declared.names.Name.{Name}
use Rattle.cache_ident.specs.declared.rolls.Issued.{Issued}
use Rattle.cache_ident.specs.Names.{amount_of, first_name, kind_of}
use Rattle.cache_ident.specs.Residents.{Resident, IsNameResident, with_loaded, with_lock}
use Rattle.cache_ident.specs.Rolls.{is_same, standing_in}
use Rattle.quantum.specs.depend_lists.specs.declared.nodes.Node.{Node}
use Rattle.quantum.specs.writeback_order.specs.Order.{rank_of}
use Rattle.quantum.specs.flat_state.specs.declared.events.Machine.{Machine}
use Rattle.quantum.specs.flat_state.specs.Dependence.{Depends}
use Rattle.quantum.specs.flat_state.specs.Names.{class_of, is_fit_name, stands}
use Rattle.quantum.specs.flat_state.specs.State.{FlatState}
use Rattle.quantum.specs.flat_laws.proofs.Members.{contains_nothing}
use Rattle.desc_tables.specs.run_journal.specs.declared.entries.Entry.{Entry}
use Rattle.desc_tables.specs.run_journal.specs.declared.entries.Entry.TheVariants.{Loaded, Locked, Sealed}
use Rattle.desc_tables.specs.run_journal.specs.Groups.{HasParents, IsGroup, departures}
use Rattle.desc_tables.specs.run_journal.specs.Legal.{cap_of, count_of, first_ident, AreLegal, Comes, IsTaken, MayCome, MayLoad, MayLock, StaysGood}
use Rattle.desc_tables.specs.run_journal.specs.Told.{due_after_load, Anything, Due, FirstLoad, FirstLock, Load, Told, told_from, told_of}
use Rattle.desc_tables.specs.run_journal.proofs.Growth.{legal-append, standing_from-append, told_from-append}
use Rattle.desc_tables.specs.run_journal.proofs.LegalGrowth.{not_first_load}
use Rattle.desc_tables.specs.run_journal.proofs.Whole.{nothing_loaded}
use Rattle.desc_tables.specs.desc_stores.specs.Contents.{residents_of, Contents, IsFullOf, LockIs}
use Rattle.desc_tables.specs.group_laws.specs.Leaving.{without_all}
use Rattle.desc_tables.specs.group_laws.proofs.Ranks.{parent_leaves_later}
use Rattle.desc_tables.specs.group_laws.proofs.Remaining.{without_all_cases}
use Rattle.desc_tables.specs.shown_state.specs.Shown.{shown}
use Rattle.desc_tables.specs.shown_state.proofs.DependenceLemmas.{same_fit}
use Rattle.desc_tables.specs.shown_state.proofs.LookupLemmas.{one_row_a_page}
use Rattle.desc_tables.specs.store_residents.specs.Slots.{slots_of}
use Rattle.desc_tables.specs.store_residents.specs.Victims.{IsOldest}
use Rattle.desc_tables.specs.store_residents.proofs.ResidentLemmas.{live_iff, lock_iff, no_later, one_each}
use Rattle.desc_tables.specs.store_residents.proofs.SlotLaws.{full_iff}
use Rattle.desc_tables.specs.desc_parents.specs.Seen.{seen}
use Rattle.desc_tables.specs.desc_groups.specs.declared.departures.Gone.{Gone}
use Rattle.desc_tables.specs.desc_groups.specs.Moves.{departed_all, idents_of, MayBeLocked}
use Rattle.desc_tables.specs.desc_groups.specs.Whole.{AreWhole}
use Rattle.board_laws.specs.Moves.{written_back, IsLoad, IsLock}
use Rattle.board_laws.specs.Telling.{AreAsTold}
use Rattle.board_laws.proofs.Departing.{group_entries, group_leaves_behind, told_displaced}
use Rattle.board_laws.proofs.First.{first, first_there}
use Rattle.board_laws.proofs.Growing.{grown_told, same_told, tells}
use Rattle.board_laws.proofs.Groups.{group_issued, group_legal}
use Rattle.board_laws.proofs.Locks.{may_lock}
use Rattle.board_laws.proofs.Shown.{cap_shown, parents_shown, stands_shown}
use Rattle.board_laws.proofs.Standings.{all_stand, length_all, length_issued, new_stands, next_is_new, numbered_all, WasIssued}

-- ---- a load

module _ (m : Machine) (memory : List ℕ) (caps : Caps) (old new : Contents) (before after : List (Ident × Node)) (name : Name) (keep : List Ident) (at : ℕ) (gone : List Gone) (ident : Ident)
    (whole : AreWhole caps old before) (whole_new : AreWhole caps new after) (is : IsLoad caps old new name keep at gone ident) where
  -- what was left to load it beside
  abbrev pub left : List Resident
  left = without_all (idents_of gone) (residents_of old)

  abbrev pub loaded : Resident
  loaded = record { ident = ident; name = name; locked = false }

  pub of_kind : ident.kind ≡ kind_of name
  of_kind = ap (λ (i : Ident). i.kind) is.own

  pub next_serial : ident.serial ≡ length old.issued
  next_serial = ap (λ (i : Ident). i.serial) is.own

  pub loaded_there : Contains (residents_of new) loaded
  loaded_there = subst (λ (rs : List Resident). Contains rs loaded) (sym is.residents) (Contains-push left loaded)

  same_seen : seen new ≡ seen old
  same_seen = is.shows None []

  loaded_good : StaysGood (seen new) (residents_of new) loaded
  loaded_good = whole_new.good loaded loaded_there

  absent : IsNameResident left name → ⊥
  absent found =
      let there : Contains (residents_of new) found.0 = subst (λ (rs : List Resident). Contains rs found.0) (sym is.residents) (Contains-append_left left (loaded ∷ []) found.0 found.1) in
      let same : found.0 ≡ loaded = (one_each new whole_new.one).names found.0 loaded there loaded_there found.2 in
      no_later old whole.one.sound ident next_serial found.0 (without_all_cases (idents_of gone) (residents_of old) found.0 found.1).0 (ap (λ (r : Resident). r.ident) same)

  -- nothing depends on itself
  has_parents : HasParents (seen old) left name
  has_parents parent depends =
      let found = loaded_good.parents parent (subst (λ (s : FlatState). Depends s name parent) (sym same_seen) depends) in
      elim (Contains-push_cases left loaded found.0 (subst (λ (rs : List Resident). Contains rs found.0) is.residents found.1)) [
        | inl was ↦ (found.0, was, found.2)
        | inr itself ↦ absurd (
            let same : name ≡ parent = ap (λ (r : Resident). r.name) itself ∙ found.2 in
            let low = parent_leaves_later (seen old) whole.rows.agreed (one_row_a_page None [] old whole.one) name parent depends in
            let equal : rank_of (class_of (seen old) name) ≡ rank_of (class_of (seen old) parent) = ap (λ (n : Name). rank_of (class_of (seen old) n)) same in
            omega arith)
      ]

  pub may_load : caps ≡ m.caps → (due : Due) → MayLoad (told_of (shown (Some m) memory old) true (length old.issued) left due) ident name
  may_load machine due = record {
    there = stands_shown m memory old whole.one name (subst (λ (s : FlatState). stands s name ≡ true) same_seen loaded_good.there);
    absent = absent;
    parents = parents_shown m memory old left name has_parents;
    fit = same_fit (Some m) memory old name ∙ ap (λ (s : FlatState). is_fit_name s name) (sym same_seen) ∙ loaded_good.fit;
    kind = of_kind;
    serial = next_serial;
    free = λ taken. is.free (subst (λ (k : Kind). IsTaken left k ident.slot) of_kind taken);
    lowest = λ slot low. subst (λ (k : Kind). IsTaken left k slot) (sym of_kind) (is.lowest slot low);
    within = subst (λ (n : ℕ). ident.slot < n) (ap (λ (c : Caps). amount_of c (kind_of name)) machine ∙ ap (amount_of m.caps) (sym of_kind) ∙ sym (cap_shown m memory old ident.kind)) is.within;
  }

  abbrev roll : List Issued
  roll = departed_all old.issued (idents_of gone) at

  is_new : standing_in roll ident ≡ Never
  is_new = next_is_new roll ident (numbered_all old.issued (idents_of gone) at whole.one.sound.numbered) (next_serial ∙ sym (length_all old.issued (idents_of gone) at))

  pub stands_then : (x : Ident) → cond (is_same ident x) Live (standing_in roll x) ≡ standing_in new.issued x
  stands_then x = sym (new_stands roll ident x is_new) ∙ ap (λ (issued : List Issued). standing_in issued x) (sym is.issued)

  pub one_more : length old.issued + 1 ≡ length new.issued
  one_more = sym (ap length is.issued ∙ length_issued roll ident ∙ ap (λ (n : ℕ). n + 1) (length_all old.issued (idents_of gone) at))

module _ (m : Machine) (memory : List ℕ) (caps : Caps) (old new : Contents) (before after : List (Ident × Node)) (j : List Entry) (name : Name) (keep : List Ident) (gone : List Gone) (ident : Ident) (cpu : ℕ)
    (as_told : AreAsTold m memory old true j) (whole : AreWhole caps old before) (whole_new : AreWhole caps new after) (machine : caps ≡ m.caps) (few : cpu < 8) (is : IsLoad caps old new name keep (length j) gone ident) where
  abbrev k : Told
  k = tells m memory old true

  abbrev backs : List Entry
  backs = written_back cpu gone

  abbrev behind : Due → Told
  behind due = told_of (shown (Some m) memory old) true (length old.issued) (left m memory caps old new before after name keep (length j) gone ident whole whole_new is) due

  -- where what left is told, the load is
  finish : (due : Due) → AreLegal k backs → told_from k backs ≡ behind due → Comes due (Loaded ident name cpu) → ((x : Ident) → Contains (idents_of gone) x → WasIssued old.issued x) → AreAsTold m memory new true (j ++ (backs ++ Loaded ident name cpu ∷ []))
  finish due legal then comes were =
      let last : MayCome (behind due) (Loaded ident name cpu) = record { comes = comes; place = refl; processor = few; happens = may_load m memory caps old new before after name keep (length j) gone ident whole whole_new is machine due } in
      let some : 0 < length old.issued = subst (λ (n : ℕ). 0 < n) as_told.loads (first_there j as_told.legal as_told.seal).0 in
      let next : due_after_load (length old.issued) ≡ Anything = not_first_load (length old.issued) some in
      let all_residents : with_loaded ident name (behind due).residents ≡ residents_of new = sym is.residents in
      grown_told m memory memory old new true true j as_told (backs ++ Loaded ident name cpu ∷ [])
      (legal-append k backs (Loaded ident name cpu ∷ []) legal (subst (λ (t : Told). AreLegal t (Loaded ident name cpu ∷ [])) {x = behind due} {y = told_from k backs} (sym then) (last, tt)))
      (told_from-append k backs (Loaded ident name cpu ∷ [])
      ∙ ap (λ (t : Told). told_from t (Loaded ident name cpu ∷ [])) then
      ∙ ap (λ (d : Due). told_of (shown (Some m) memory old) true (length old.issued + 1) (with_loaded ident name (behind due).residents) d) next
      ∙ same_told (shown (Some m) memory old) (shown (Some m) memory new) true true (length old.issued + 1) (length new.issued) (with_loaded ident name (behind due).residents) (residents_of new)
      (sym (is.shows (Some m) memory)) refl (one_more m memory caps old new before after name keep (length j) gone ident whole whole_new is) all_residents)
      (λ x. standing_from-append (length j) x (standing_in old.issued x) backs (Loaded ident name cpu ∷ [])
      ∙ ap (λ (standing : Standing). cond (is_same ident x) Live standing) (all_stand gone cpu old.issued (length j) x were)
      ∙ stands_then m memory caps old new before after name keep (length j) gone ident whole whole_new is x)

  -- nothing left
  none_left : gone ≡ [] → AreAsTold m memory new true (j ++ (backs ++ Loaded ident name cpu ∷ []))
  none_left none =
      finish Anything
      (subst (λ (g : List Gone). AreLegal k (written_back cpu g)) (sym none) tt)
      (ap (λ (g : List Gone). told_from k (written_back cpu g)) none ∙ ap (λ (g : List Gone). told_of (shown (Some m) memory old) true (length old.issued) (without_all (idents_of g) (residents_of old)) Anything) (sym none))
      tt
      (λ x within. absurd (contains_nothing x (subst (λ (g : List Gone). Contains (idents_of g) x) none within)))

  -- a victim left, with its group
  some_left : IsFullOf old (kind_of name) → (root : Resident) → IsOldest (residents_of old) (kind_of name) keep root → IsGroup (seen old) (residents_of old) root (idents_of gone) → AreAsTold m memory new true (j ++ (backs ++ Loaded ident name cpu ∷ []))
  some_left full root oldest group =
      let there = oldest.there in
      let entries : backs ≡ departures cpu group.order.dependents root.ident causes.Displaced = group_entries (seen old) (residents_of old) root (idents_of gone) group cpu causes.Displaced gone is.causes in
      let its_kind : root.ident.kind ≡ kind_of name = oldest.may_go.of_kind in
      let other : root.ident ≢ first_ident = λ same.
      let first_in = subst (λ (rs : List Resident). Contains rs (first true)) as_told.residents (first_there j as_told.legal as_told.seal).1 in
      let is_first : root ≡ first true = (one_each old whole.one).idents root (first true) there first_in same in
      let locked : root.locked ≡ true = ap (λ (r : Resident). r.locked) is_first in
      let unlocked = oldest.may_go.unlocked in
      absurd (cc)
      in
      let full_before : count_of (residents_of old) root.ident.kind ≡ cap_of (shown (Some m) memory old) root.ident.kind =
      (full_iff old whole.one.sound root.ident.kind).0 (subst (λ (of : Kind). IsFullOf old of) (sym its_kind) full)
      ∙ whole.sized root.ident.kind ∙ ap (λ (c : Caps). amount_of c root.ident.kind) machine ∙ sym (cap_shown m memory old root.ident.kind) in
      let legal : AreLegal k backs = subst (λ (es : List Entry). AreLegal k es) (sym entries) (group_legal m memory caps old before whole root there (idents_of gone) group j as_told cpu few other causes.Displaced (oldest.may_go.unlocked, full_before)) in
      finish (Load root.ident.kind cpu) legal
      (ap (told_from k) entries
      ∙ told_displaced cpu group.order.dependents root.ident k
      ∙ ap (λ (rs : List Resident). told_of (shown (Some m) memory old) true (length old.issued) rs (Load root.ident.kind cpu)) (group_leaves_behind (seen old) (residents_of old) root (idents_of gone) group))
      (of_kind m memory caps old new before after name keep (length j) gone ident whole whole_new is ∙ sym its_kind, refl)
      (group_issued m memory caps old before whole root there (idents_of gone) group)

  pub loaded_told : AreAsTold m memory new true (j ++ (backs ++ Loaded ident name cpu ∷ []))
  loaded_told =
      let full = full_iff old whole.one.sound (kind_of name) in
      elim (cases_Bool (eqb (count_of (residents_of old) (kind_of name)) (slots_of old (kind_of name)))) [
        | inl all ↦
            let is_full = full.1 (eqb-true (count_of (residents_of old) (kind_of name)) (slots_of old (kind_of name)) all) in
            let root = is.displaced is_full in
            some_left is_full root.0 root.1 root.2
        | inr less ↦ none_left (is.nothing (λ is_full. eqb-false (count_of (residents_of old) (kind_of name)) (slots_of old (kind_of name)) less (full.0 is_full)))
      ]

-- ---- the seal

zero_if_none : (n : ℕ) → ((lower : ℕ) → lower < n → ⊥) → n ≡ 0
zero_if_none zero none = refl
zero_if_none (suc n) none = absurd (none 0 (omega arith))

-- before the seal nothing is loaded
pub nothing_resident : (m : Machine) (memory : List ℕ) (c : Contents) (j : List Entry) → AreAsTold m memory c false j → residents_of c ≡ []
nothing_resident m memory c j as_told = sym as_told.residents ∙ (nothing_loaded j as_told.legal.each as_told.seal).1

module _ (m : Machine) (memory : List ℕ) (caps : Caps) (old new : Contents) (before : List (Ident × Node)) (j : List Entry) (keep : List Ident) (at : ℕ) (gone : List Gone) (ident : Ident)
    (as_told : AreAsTold m memory old false j) (whole : AreWhole caps old before) (is : IsLoad caps old new first_name keep at gone ident) where
  none_before : residents_of old ≡ []
  none_before = nothing_resident m memory old j as_told

  pub none_issued : length old.issued ≡ 0
  none_issued = sym as_told.loads ∙ (nothing_loaded j as_told.legal.each as_told.seal).0

  not_full : IsFullOf old kinds.Kernel → ⊥
  not_full full =
      let all = (full_iff old whole.one.sound kinds.Kernel).0 full in
      let none : count_of (residents_of old) kinds.Kernel ≡ 0 = ap (λ (rs : List Resident). count_of rs kinds.Kernel) none_before in
      let sized = whole.sized kinds.Kernel in
      let within = is.within in
      omega arith

  pub none_gone : gone ≡ []
  none_gone = is.nothing not_full

  slot_zero : ident.slot ≡ 0
  slot_zero = zero_if_none ident.slot (λ lower low.
      let taken = is.lowest lower low in
      let there = (without_all_cases (idents_of gone) (residents_of old) taken.0 taken.1).0 in
      contains_nothing taken.0 (subst (λ (rs : List Resident). Contains rs taken.0) none_before there))

  pub is_first : ident ≡ first_ident
  is_first = is.own ∙ ap (λ (slot : ℕ). record { kind = kinds.Kernel; slot = slot; serial = length old.issued }) slot_zero ∙ ap (λ (serial : ℕ). record { kind = kinds.Kernel; slot = 0; serial = serial }) none_issued

module _ (m : Machine) (memory : List ℕ) (caps : Caps) (old mid new : Contents) (before after : List (Ident × Node)) (j : List Entry) (keep : List Ident) (at : ℕ) (gone : List Gone)
    (as_told : AreAsTold m memory old false j) (whole : AreWhole caps old before) (whole_mid : AreWhole caps mid after) (machine : caps ≡ m.caps) (is : IsLoad caps old mid first_name keep at gone first_ident)
    (may : MayBeLocked mid first_ident) (lock : IsLock mid new first_ident true) where
  abbrev base : Told
  base = tells m memory old false

  none : gone ≡ []
  none = none_gone m memory caps old mid before j keep at gone first_ident as_told whole is

  nothing_issued : length old.issued ≡ 0
  nothing_issued = none_issued m memory caps old mid before j keep at gone first_ident as_told whole is

  -- what is resident once the first kernel is loaded
  abbrev kernel_in : List Resident
  kernel_in = with_loaded first_ident first_name (residents_of old)

  residents_mid : residents_of mid ≡ kernel_in
  residents_mid = is.residents ∙ ap (λ (g : List Gone). with_loaded first_ident first_name (without_all (idents_of g) (residents_of old))) none

  shows_mid : shown (Some m) memory mid ≡ shown (Some m) memory old
  shows_mid = is.shows (Some m) memory

  load_first : MayLoad (told_of (shown (Some m) memory old) true (length old.issued) (residents_of old) FirstLoad) first_ident first_name
  load_first = subst (λ (g : List Gone). MayLoad (told_of (shown (Some m) memory old) true (length old.issued) (without_all (idents_of g) (residents_of old)) FirstLoad) first_ident first_name) none
      (may_load m memory caps old mid before after first_name keep at gone first_ident whole whole_mid is machine FirstLoad)

  kernel_there : Contains (residents_of mid) (first false)
  kernel_there = loaded_there m memory caps old mid before after first_name keep at gone first_ident whole whole_mid is

  unlocked : LockIs mid first_ident false
  unlocked = (lock_iff mid whole_mid.one.sound first_ident false).1 (λ r there own. ap (λ (q : Resident). q.locked) ((one_each mid whole_mid.one).idents r (first false) there kernel_there own))

  lock_first : (due : Due) → MayLock (told_of (shown (Some m) memory old) true (length old.issued + 1) kernel_in due) first_ident
  lock_first due =
      let live = (live_iff mid whole_mid.one.sound first_ident).1 (first false, kernel_there, refl) in
      subst (λ (s : FlatState). MayLock (told_of s true (length old.issued + 1) kernel_in due) first_ident) shows_mid
      (subst (λ (rs : List Resident). MayLock (told_of (shown (Some m) memory mid) true (length old.issued + 1) rs due) first_ident) residents_mid
      (may_lock m memory caps mid after whole_mid first_ident live true (length old.issued + 1) due unlocked may))

  abbrev entries : List Entry
  entries = Sealed ∷ Loaded first_ident first_name 0 ∷ Locked first_ident 0 ∷ []

  entries_legal : AreLegal base entries
  entries_legal =
      let due : due_after_load (length old.issued) ≡ FirstLock = ap due_after_load nothing_issued in (
        record { comes = tt; place = refl; processor = omega arith; happens = tt },
        (
          record { comes = refl; place = refl; processor = omega arith; happens = load_first },
          (
            record {
              comes = subst (λ (d : Due). Comes d (Locked first_ident 0)) {x = FirstLock} {y = due_after_load (length old.issued)} (sym due) refl;
              place = refl;
              processor = omega arith;
              happens = lock_first (due_after_load (length old.issued));
            },
            tt,
          ),
        ),
      )

  pub sealed_told : AreAsTold m memory new true (j ++ Sealed ∷ Loaded first_ident first_name 0 ∷ Locked first_ident 0 ∷ [])
  sealed_told =
      let loads : length old.issued + 1 ≡ length new.issued = one_more m memory caps old mid before after first_name keep at gone first_ident whole whole_mid is ∙ ap length (sym lock.issued) in
      let residents : with_lock first_ident true kernel_in ≡ residents_of new = ap (with_lock first_ident true) (sym residents_mid) ∙ sym lock.residents in
      grown_told m memory memory old new false true j as_told entries entries_legal
      (same_told (shown (Some m) memory old) (shown (Some m) memory new) true true (length old.issued + 1) (length new.issued) (with_lock first_ident true kernel_in) (residents_of new)
      (sym shows_mid ∙ sym (lock.contents.shows (Some m) memory)) refl loads residents)
      (λ x. ap (λ (g : List Gone). cond (is_same first_ident x) Live (standing_in (departed_all old.issued (idents_of g) at) x)) (sym none)
      ∙ stands_then m memory caps old mid before after first_name keep at gone first_ident whole whole_mid is x
      ∙ ap (λ (issued : List Issued). standing_in issued x) (sym lock.issued))
