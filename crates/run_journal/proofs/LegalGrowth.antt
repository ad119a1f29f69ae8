-- A legal journal grows by what is legal.
use Rattle.std.proofs.Common.{◌≡◌, ◌≢◌, ℕ, ◌<◌, Bool, true, false, cond, eqb, List, [], ◌∷◌, ◌++◌, Contains, refl, ap, sym, ◌∙◌, subst, arith}
use Rattle.std.specs.Prelude.{count_by, ◌||◌}
use Rattle.std.specs.List.{list_any}
use Rattle.std.proofs.lemmas.Bool.{ne_eqb}
use Rattle.cache_ident.specs.declared.idents.Cause.{Cause}
use Rattle.cache_ident.specs.declared.idents.Cause.TheVariants as causes
use Rattle.cache_ident.specs.declared.idents.Ident.{Ident}
use Rattle.cache_ident.specs.declared.names.Name.{Name}
use Rattle.cache_ident.specs.Names.{first_name}
use Rattle.cache_ident.specs.Residents.{Resident}
use Rattle.flat_laws.specs.depend_lists.specs.declared.nodes.Node.{Node}
use Rattle.flat_laws.specs.writeback_order.specs.Order.{IsOrder}
use Rattle.flat_state.specs.State.{FlatState, nothing_declared}
use Rattle.flat_state.specs.Events.{after_events, flat}
use Rattle.flat_state.specs.WellFormed.{IsWellFormed}
use Rattle.flat_state.proofs.FormedEvents.{flat_formed}
use Rattle.flat_laws.proofs.Members.{contains_nothing}
use Rattle.run_journal.specs.declared.entries.Entry.{Entry}
use Rattle.run_journal.specs.declared.entries.Entry.TheVariants.{Sealed, Loaded, WrittenBack, Locked}
use Rattle.run_journal.specs.Entries.{erase}
use Rattle.run_journal.specs.Told.{Due, Anything, FirstLock, Load, is_load, is_seal, Told, nothing_told, told_of, told_after, told_from, told, residents, due_after_load}
use Rattle.run_journal.specs.Groups.{node_of, ArePairsOf, departures}
use Rattle.run_journal.specs.Legal.{first_ident, Comes, IsInPlace, IsByProcessor, IsFullBefore, AreGood, MayLoad, MayLock, MayHappen, MayCome, AreLegal, IsLegal}
use Rattle.run_journal.proofs.Growth.{told_from-append, after_events-append, erase-append, legal-append, state_from, residents_told_from, loads_from, sealed_from}
use Rattle.run_journal.proofs.Sound.{no_group, AreNumbered, are_numbered, not_first}
use Rattle.run_journal.proofs.Whole.{nothing_loaded, HaveSlots, whole_from, nothing_whole}
use Rattle.run_journal.proofs.Leaving.{departs}

pub state_told : (j : List Entry) → (told j).state ≡ flat (erase j)
state_told j = state_from nothing_told j

pub flat-append : (j es : List Entry) → flat (erase (j ++ es)) ≡ after_events (flat (erase j)) (erase es)
flat-append j es = ap flat (erase-append j es) ∙ after_events-append nothing_declared (erase j) (erase es)

pub loads_told : (j : List Entry) → (told j).loads ≡ count_by is_load j
loads_told j = let all = loads_from nothing_told j in omega arith

pub grows : (j es : List Entry) → IsLegal j → AreLegal (told j) es → (told_from (told j) es).due ≡ Anything → IsLegal (j ++ es)
grows j es legal more due = record {
  each = legal-append nothing_told j es legal.each more;
  whole = ap (λ (k : Told). k.due) (told_from-append nothing_told j es) ∙ due;
}

-- ---- one entry

comes_any : (due : Due) (e : Entry) → due ≡ Anything → Comes due e
comes_any due e any = subst (λ (d : Due). Comes d e) {x = Anything} {y = due} (sym any) tt

pub grown : (j : List Entry) (e : Entry) → IsLegal j → IsInPlace (told j) e → IsByProcessor e → MayHappen (told j) e → (told_after (told j) e).due ≡ Anything → IsLegal (j ++ e ∷ [])
grown j e legal place by may due =
    grows j (e ∷ []) legal (record { comes = comes_any (told j).due e legal.whole; place = place; processor = by; happens = may }, tt) due

pub not_first_load : (loads : ℕ) → 0 < loads → due_after_load loads ≡ Anything
not_first_load loads some = let other : eqb loads 0 ≡ false = ne_eqb loads 0 (λ e. omega arith) in ap (λ (b : Bool). cond b FirstLock Anything) other

-- ---- the seal

-- nothing is loaded before the seal
no_loads : (j : List Entry) → IsLegal j → (told j).sealed ≡ false → (told j).loads ≡ 0
no_loads j legal unsealed = (nothing_loaded j legal.each unsealed).0

pub sealed_grows : (j : List Entry) → IsLegal j → (told j).sealed ≡ false → MayLoad (told (j ++ Sealed ∷ [])) first_ident first_name → MayLock (told (j ++ Sealed ∷ Loaded first_ident first_name 0 ∷ [])) first_ident → IsLegal (j ++ Sealed ∷ Loaded first_ident first_name 0 ∷ Locked first_ident 0 ∷ [])
sealed_grows j legal unsealed load lock =
    let load_now : MayLoad (told_after (told j) Sealed) first_ident first_name = subst (λ (k : Told). MayLoad k first_ident first_name) (told_from-append nothing_told j (Sealed ∷ [])) load in
    let lock_now : MayLock (told_after (told_after (told j) Sealed) (Loaded first_ident first_name 0)) first_ident = subst (λ (k : Told). MayLock k first_ident) (told_from-append nothing_told j (Sealed ∷ Loaded first_ident first_name 0 ∷ [])) lock in
    let due : due_after_load (told j).loads ≡ FirstLock = ap due_after_load (no_loads j legal unsealed) in
    grows j (Sealed ∷ Loaded first_ident first_name 0 ∷ Locked first_ident 0 ∷ []) legal (
      record { comes = comes_any (told j).due Sealed legal.whole; place = unsealed; processor = omega arith; happens = tt },
      (
        record { comes = refl; place = refl; processor = omega arith; happens = load_now },
        (
          record { comes = subst (λ (d : Due). Comes d (Locked first_ident 0)) {x = FirstLock} {y = due_after_load (told j).loads} (sym due) refl; place = refl; processor = omega arith; happens = lock_now },
          tt,
        ),
      ),
    )
    refl

-- ---- groups

-- where nothing more has to come, no group is leaving
pub settled : (j : List Entry) → IsLegal j → told j ≡ told_of (told j).state (told j).sealed (told j).loads (told j).residents Anything
settled j legal =
    let none = no_group j legal.whole in
    ap (λ (b : List Resident). record (told j) { before = b }) none.0
    ∙ ap (λ (l : List Ident). record (told j) { before = (told j).residents; left = l }) none.1
    ∙ ap (λ (d : Due). record (told j) { before = (told j).residents; left = []; due = d }) legal.whole

-- why the last of a group may leave
abbrev pub MayGo : Told → Resident → Cause → Type 0
MayGo k root causes.Dependent = ⊥
MayGo k root causes.Unloaded = Unit {0}
MayGo k root causes.Displaced = (root.locked ≡ false) × IsFullBefore k root.ident.kind

pub departures_legal : (j : List Entry) (root : Resident) (pairs : List (Ident × Node)) (nodes : List Node) (cpu : ℕ) (cause : Cause) → IsLegal j → (told j).sealed ≡ true → cpu < 8 → Contains (told j).residents root → root.ident ≢ first_ident → ArePairsOf (told j).state (told j).residents pairs → (order : IsOrder pairs (node_of (told j).state root) nodes) → MayGo (told j) root cause → AreLegal (told j) (departures cpu order.dependents root.ident cause)
departures_legal j root pairs nodes cpu cause legal sealed few there first are order may =
    let base = told_of (told j).state (told j).sealed (told j).loads (told j).residents Anything in
    let numbered = are_numbered j legal.each in
    let formed : IsWellFormed (told j).state = subst IsWellFormed {x = flat (erase j)} {y = (told j).state} (sym (state_told j)) (flat_formed (erase j)) in
    let may_go = subst (λ (k : Told). MayGo k root cause) {x = told j} {y = base} (settled j legal) may in
    let going : AreLegal base (departures cpu order.dependents root.ident cause) =
    departs base formed sealed numbered.one pairs are root there order.dependents order.closure cpu few
    (λ child parent child_there parent_there depends. not_first (told j).state (told j).residents (told j).loads numbered child parent.name child_there depends)
    first cause (by cause may_go) order.rising
    order.dependents [] (told j).residents [] Anything
    (record { all = refl; apart = λ a b went coming. absurd (contains_nothing a went); rising = order.rising })
    (record { were = λ r r_there. r_there; gone = λ r r_there n went. absurd (contains_nothing n went); stay = λ r r_there apart. r_there })
    refl (λ ident c. tt)
    in
    subst (λ (k : Told). AreLegal k (departures cpu order.dependents root.ident cause)) {x = base} {y = told j} (sym (settled j legal)) going
  where
    by : (c : Cause) → MayGo (told_of (told j).state (told j).sealed (told j).loads (told j).residents Anything) root c → MayGo (told_of (told j).state (told j).sealed (told j).loads (told j).residents Anything) root c
    by c so = so

due_unloaded : (k : Told) (cpu : ℕ) (nodes : List Node) (root : Ident) → (told_from k (departures cpu nodes root causes.Unloaded)).due ≡ Anything
due_unloaded k cpu [] root = refl
due_unloaded k cpu (n ∷ nodes) root = due_unloaded (told_after k (WrittenBack n.ident causes.Dependent cpu)) cpu nodes root

due_displaced : (k : Told) (cpu : ℕ) (nodes : List Node) (root : Ident) → (told_from k (departures cpu nodes root causes.Displaced)).due ≡ Load root.kind cpu
due_displaced k cpu [] root = refl
due_displaced k cpu (n ∷ nodes) root = due_displaced (told_after k (WrittenBack n.ident causes.Dependent cpu)) cpu nodes root

pub unloaded_grows : (j : List Entry) (root : Resident) (pairs : List (Ident × Node)) (nodes : List Node) (cpu : ℕ) → IsLegal j → (told j).sealed ≡ true → cpu < 8 → Contains (told j).residents root → root.ident ≢ first_ident → ArePairsOf (told j).state (told j).residents pairs → (order : IsOrder pairs (node_of (told j).state root) nodes) → IsLegal (j ++ departures cpu order.dependents root.ident causes.Unloaded)
unloaded_grows j root pairs nodes cpu legal sealed few there first are order =
    grows j (departures cpu order.dependents root.ident causes.Unloaded) legal (departures_legal j root pairs nodes cpu causes.Unloaded legal sealed few there first are order tt) (due_unloaded (told j) cpu order.dependents root.ident)

pub displaced_grows : (j : List Entry) (root : Resident) (pairs : List (Ident × Node)) (nodes : List Node) (ident : Ident) (name : Name) (cpu : ℕ) → IsLegal j → (told j).sealed ≡ true → 0 < (told j).loads → cpu < 8 → Contains (told j).residents root → root.ident ≢ first_ident → ArePairsOf (told j).state (told j).residents pairs → (order : IsOrder pairs (node_of (told j).state root) nodes) → root.locked ≡ false → IsFullBefore (told j) root.ident.kind → ident.kind ≡ root.ident.kind → MayLoad (told (j ++ departures cpu order.dependents root.ident causes.Displaced)) ident name → IsLegal (j ++ (departures cpu order.dependents root.ident causes.Displaced ++ Loaded ident name cpu ∷ []))
displaced_grows j root pairs nodes ident name cpu legal sealed some few there first are order unlocked full kind may =
    let gone = departures cpu order.dependents root.ident causes.Displaced in
    let after = told_from (told j) gone in
    let loads = loads_from (told j) gone in
    let still : after.sealed ≡ true = sealed_from (told j) gone ∙ ap (λ (b : Bool). b || list_any is_seal gone) sealed in
    let may_now : MayLoad after ident name = subst (λ (k : Told). MayLoad k ident name) (told_from-append nothing_told j gone) may in
    let last : MayCome after (Loaded ident name cpu) = record {
      comes = subst (λ (d : Due). Comes d (Loaded ident name cpu)) {x = Load root.ident.kind cpu} {y = after.due} (sym (due_displaced (told j) cpu order.dependents root.ident)) (kind, refl);
      place = still;
      processor = few;
      happens = may_now;
    } in
    grows j (gone ++ Loaded ident name cpu ∷ []) legal
    (legal-append (told j) gone (Loaded ident name cpu ∷ []) (departures_legal j root pairs nodes cpu causes.Displaced legal sealed few there first are order (unlocked, full)) (last, tt))
    (ap (λ (k : Told). k.due) (told_from-append (told j) gone (Loaded ident name cpu ∷ [])) ∙ not_first_load after.loads (omega arith))

-- ---- what is resident, as the lists say it

pub record IsWholeAs (s : FlatState) (loads : ℕ) (rs : List Resident) : Type 0 where
  pub numbered : AreNumbered loads rs
  pub apart : HaveSlots rs
  pub good : AreGood s rs

pub whole_told : (j : List Entry) → IsLegal j → IsWholeAs (flat (erase j)) (count_by is_load j) (residents j)
whole_told j legal =
    let is = whole_from nothing_told j legal.each nothing_whole in
    let as_told : IsWholeAs (told j).state (told j).loads (told j).residents = record { numbered = is.numbered; apart = is.apart; good = is.good } in
    subst (λ (s : FlatState). IsWholeAs s (count_by is_load j) (residents j)) {x = (told j).state} {y = flat (erase j)} (state_told j)
    (subst (λ (n : ℕ). IsWholeAs (told j).state n (residents j)) {x = (told j).loads} {y = count_by is_load j} (loads_told j)
    (subst (λ (rs : List Resident). IsWholeAs (told j).state (told j).loads rs) {x = (told j).residents} {y = residents j} (residents_told_from nothing_told j) as_told))
