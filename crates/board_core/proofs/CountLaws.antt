-- What is loaded is counted, as it comes and leaves.
use Rattle.std.proofs.Common.{◌≡◌, ℕ, zero, suc, ◌+◌, ◌≤◌, Bool, true, false, List, [], ◌∷◌, length, map, take, drop, Contains, None, refl, ap, sym, ◌∙◌, inl, inr, arith}
use Rattle.std.specs.Prelude.{count_by}
use Rattle.std.proofs.lemmas.Bool.{cases_lt}
use Rattle.std.proofs.lemmas.List.{length-append, length-map}
use Rattle.std.proofs.lemmas.Option.{slice_get_cases}
use Rattle.cache_ident.specs.declared.idents.Ident.{Ident}
use Rattle.cache_ident.specs.declared.idents.Standing.TheVariants.{Live}
use Rattle.cache_ident.specs.declared.names.Caps.{Caps}
use Rattle.cache_ident.specs.declared.names.Name.{Name}
use Rattle.cache_ident.specs.Residents.{locked_if, without, Resident}
use Rattle.cache_ident.specs.Rolls.{standing_in}
use Rattle.board_ops.specs.depend_lists.specs.declared.nodes.Node.{Node}
use Rattle.flat_state.proofs.Places.{count_by-cons}
use Rattle.run_journal.specs.Groups.{IsGroup}
use Rattle.cached_machine.specs.group_laws.specs.Leaving.{without_all}
use Rattle.cached_machine.specs.journal_laws.specs.Leaving.{AreApart}
use Rattle.cached_machine.specs.group_laws.proofs.Counting.{count-without}
use Rattle.cached_machine.specs.group_laws.proofs.FromBelow.{group_leaves}
use Rattle.cached_machine.specs.group_laws.proofs.Remaining.{without_all-push}
use Rattle.cached_machine.specs.group_laws.proofs.StayingOne.{apart_all_left}
use Rattle.cached_machine.specs.desc_stores.specs.Contents.{residents_of, Contents}
use Rattle.cached_machine.specs.shown_state.proofs.LookupLemmas.{one_row_a_page}
use Rattle.cached_machine.specs.store_residents.proofs.ResidentLemmas.{live_iff, one_each}
use Rattle.cached_machine.specs.desc_parents.specs.Seen.{seen}
use Rattle.cached_machine.specs.desc_groups.specs.declared.departures.Gone.{Gone}
use Rattle.cached_machine.specs.desc_groups.specs.Moves.{idents_of}
use Rattle.cached_machine.specs.desc_groups.specs.Whole.{AreWhole}
use Rattle.cached_machine.specs.desc_groups.proofs.LeaveLemmas.{ident_of, idents_more, idents_to, splits}
use Rattle.cached_machine.specs.desc_groups.proofs.LockLemmas.{residents_apart}
use Rattle.cached_machine.specs.board_laws.specs.Moves.{IsLoad, IsLock, IsUnload}

-- ---- a group

all_count : (rs : List Resident) → count_by (λ (r : Resident). true) rs ≡ length rs
all_count [] = refl
all_count (r ∷ rs) =
    let rest = all_count rs in
    let first = count_by-cons (λ (q : Resident). true) r rs in
    omega arith

-- one that leaves leaves one fewer
one_fewer : (rs : List Resident) (r : Resident) → AreApart rs → Contains rs r → length (without r.ident rs) + 1 ≡ length rs
one_fewer rs r apart there =
    let counted = count-without (λ (q : Resident). true) r rs apart there in
    let before = all_count rs in
    let after = all_count (without r.ident rs) in
    omega arith

take_length : {X : Type 0} (xs : List X) → take (length xs) xs ≡ xs
take_length [] = refl
take_length (x ∷ xs) = ap (λ (rest : List _). x ∷ rest) (take_length xs)

module _ (caps : Caps) (c : Contents) (pairs : List (Ident × Node)) (whole : AreWhole caps c pairs) (root : Resident) (there : Contains (residents_of c) root) (idents : List Ident) (group : IsGroup (seen c) (residents_of c) root idents) where
  before_place : (n : ℕ) → n ≤ length group.nodes → n + length (without_all (idents_to group.nodes n) (residents_of c)) ≡ length (residents_of c)
  before_place zero low = omega arith
  before_place (suc n) low = elim (slice_get_cases group.nodes n).1 [
    | inl found ↦
        let rs = residents_of c in
        let node = found.0 in
        let is = found.2 in
        let next = group_leaves (seen c) rs group.pairs root group.nodes (take n group.nodes) (drop (n + 1) group.nodes) node whole.rows.agreed (one_row_a_page None [] c whole.one) (one_each c whole.one) group.are there group.order (splits group.nodes n node is) in
        let its : node.ident ≡ next.0.ident = ap ident_of next.2 in
        let left = one_fewer (without_all (idents_to group.nodes n) rs) next.0 (apart_all_left rs (idents_to group.nodes n) (residents_apart c whole.one)) next.1 in
        let same : without_all (idents_to group.nodes (n + 1)) rs ≡ without next.0.ident (without_all (idents_to group.nodes n) rs) =
        ap (λ (all : List Ident). without_all all rs) (idents_more group.nodes n node is) ∙ without_all-push (idents_to group.nodes n) node.ident rs ∙ ap (λ (i : Ident). without i (without_all (idents_to group.nodes n) rs)) its in
        let more : suc n ≡ n + 1 = omega arith in
        let long = ap (λ (m : ℕ). length (without_all (idents_to group.nodes m) rs)) more ∙ ap length same in
        let before = before_place n (omega arith) in
        omega arith
    | inr past ↦ absurd (let high = past.0 in omega arith)
  ]

  -- what leaves and what stays are all that was loaded
  pub all_counted : length idents + length (without_all idents (residents_of c)) ≡ length (residents_of c)
  all_counted =
      let all = before_place (length group.nodes) (omega arith) in
      let to_end : idents_to group.nodes (length group.nodes) ≡ idents = ap (map ident_of) (take_length group.nodes) ∙ sym group.whole in
      let left = ap (λ (is : List Ident). length (without_all is (residents_of c))) to_end in
      let long = ap length group.whole ∙ length-map group.nodes ident_of in
      omega arith

-- ---- what comes and leaves

-- numbers that can't differ are the same
same_number : (a b : ℕ) → ((a ≡ b → ⊥) → ⊥) → a ≡ b
same_number a b both = elim (cases_lt a b) [
  | inl low ↦ absurd (both (λ same. omega arith))
  | inr high ↦ elim (cases_lt b a) [
    | inl low ↦ absurd (both (λ same. omega arith))
    | inr less ↦ omega arith
  ]
]

module _ (caps : Caps) (c : Contents) (pairs : List (Ident × Node)) (whole : AreWhole caps c pairs) where
  pub unloaded_counted : (new : Contents) (ident : Ident) (at : ℕ) (gone : List Gone) → standing_in c.issued ident ≡ Live → IsUnload c new ident at gone
      → length gone + length (residents_of new) ≡ length (residents_of c)
  unloaded_counted new ident at gone live is =
      let found = (live_iff c whole.one.sound ident).0 live in
      let all = all_counted caps c pairs whole found.0 found.1 (idents_of gone) (is.group found.0 found.1 found.2) in
      let long = length-map gone (λ (g : Gone). g.ident) in
      let left = ap length is.residents in
      omega arith

  module _ (new : Contents) (loading : Name) (keep : List Ident) (at : ℕ) (gone : List Gone) (ident : Ident) (is : IsLoad caps c new loading keep at gone ident) where
    before_it_came : length gone + length (without_all (idents_of gone) (residents_of c)) ≡ length (residents_of c)
    before_it_came = same_number _ _ (λ other. other (
        let none = is.nothing (λ full. other (
        let root = is.displaced full in
        let all = all_counted caps c pairs whole root.0 root.1.there (idents_of gone) root.2 in
        let long = length-map gone (λ (g : Gone). g.ident) in
        omega arith)) in
        let left = ap (λ (gs : List Gone). length (without_all (idents_of gs) (residents_of c))) none in
        let empty = ap length none in
        omega arith))

    pub loaded_counted : length gone + length (residents_of new) ≡ length (residents_of c) + 1
    loaded_counted =
        let before = before_it_came in
        let left = ap length is.residents in
        let more = length-append (without_all (idents_of gone) (residents_of c)) (record { ident = ident; name = loading; locked = false } ∷ []) in
        omega arith

-- a lock leaves as many
pub lock_counted : (old new : Contents) (ident : Ident) (on : Bool) → IsLock old new ident on → length (residents_of new) ≡ length (residents_of old)
lock_counted old new ident on is = ap length is.residents ∙ length-map (residents_of old) (locked_if ident on)

nothing_stays : (idents : List Ident) → without_all idents [] ≡ []
nothing_stays [] = refl
nothing_stays (ident ∷ idents) = nothing_stays idents

-- where nothing was loaded, one is loaded then
pub first_counted : (caps : Caps) (old new : Contents) (loading : Name) (keep : List Ident) (at : ℕ) (gone : List Gone) (ident : Ident) → residents_of old ≡ [] → IsLoad caps old new loading keep at gone ident
    → length (residents_of new) ≡ 1
first_counted caps old new loading keep at gone ident nothing is =
    let left : without_all (idents_of gone) (residents_of old) ≡ [] = ap (without_all (idents_of gone)) nothing ∙ nothing_stays (idents_of gone) in
    let none = ap length left in
    let all = ap length is.residents in
    let more = length-append (without_all (idents_of gone) (residents_of old)) (record { ident = ident; name = loading; locked = false } ∷ []) in
    omega arith
