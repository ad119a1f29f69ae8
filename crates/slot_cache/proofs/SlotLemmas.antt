-- What an edit of the cells leaves in their indexes.
use Rattle.std.proofs.Common.{◌≡◌, ◌≢◌, ◌⊎◌, ℕ, zero, suc, ◌+◌, ◌<◌, ◌≤◌, Bool, true, false, not, cond, List, [], length, get_or, set, Contains, Option, Some, None, unwrap_or, is_some, IsSome, count_by, replicate, sym, ◌∙◌, ap, subst, inl, inr, refl, arith}
use Rattle.std.specs.declared.cmp.Ordering.{Ordering}
use Rattle.std.specs.declared.cmp.Ordering.TheVariants.{Less, Equal}
use Rattle.std.specs.Ordering.{nat_cmp}
use Rattle.std.proofs.lemmas.Bool.{cases_lt, cases_eq, false≢true}
use Rattle.std.proofs.lemmas.Cmp.{ranked}
use Rattle.std.proofs.lemmas.List.{get_or-set_same, get_or-set_other, get_or-replicate, length-replicate, get_or_past, get_or_default, length-set}
use Rattle.std.proofs.lemmas.List.Sums.{sum_by-set}
use Rattle.std.proofs.lemmas.List.Elements.{Contains-get_or}
use Rattle.cache_ident.specs.declared.idents.Ident.{Ident}
use Rattle.cache_ident.specs.declared.idents.Kind.{Kind}
use Rattle.slot_cache.specs.declared.loaded.Loaded.{Loaded}
use Rattle.slot_cache.specs.Index.{IsRising, IsInserted, IsRelisted, IsRemoved}
use Rattle.slot_cache.specs.Cells.{cell_at, MayGo, MayNotGo, IsVictim, NoneMayGo}
use Rattle.slot_cache.specs.Slots.{slot_at, HasNoGap, IsFree, IsLowestGap}
use Rattle.slot_cache.specs.Table.{is_unlocked, places_of, IsOncePerSerial, IsUnlocked, Lists, IsPlaced}

-- what two equal options hold is equal
pub some_same : {X : Type 0} (a b : X) → Some a ≡ Some b → a ≡ b
some_same a b e = ap (λ o. unwrap_or o a) e

-- what is some option is the one of something
pub is_there : {X : Type 0} (o : Option X) → IsSome o → (x : X) × (o ≡ Some x)
is_there None some = absurd (false≢true some)
is_there (Some x) some = (x, refl)

-- a pair by its parts
pub pair_same : {A B : Type 0} (p : A × B) (a : A) (b : B) → a ≡ p.0 → b ≡ p.1 → p ≡ (a, b)
pair_same {A} {B} p a b first second =
    let Left : A → Type 0 = λ x. p ≡ (x, b) in
    let Right : B → Type 0 = λ y. p ≡ (p.0, y) in
    subst Left (sym first) (subst Right (sym second) refl)

module _ {X : Type 0} where
  -- something and nothing don't stand at one slot
  pub not_none : (cells : List (Option X)) (slot : ℕ) (e : X) → slot_at cells slot ≡ Some e → slot_at cells slot ≡ None → ⊥
  not_none cells slot e some none = cc

  -- a slot that holds something is one of the cells
  pub cell_within : (cells : List (Option X)) (slot : ℕ) (e : X) → slot_at cells slot ≡ Some e → slot < length cells
  cell_within cells slot e some = elim (cases_lt slot (length cells)) [
    | inl within ↦ within
    | inr past ↦ absurd (not_none cells slot e some (get_or_past cells slot None past))
  ]

  -- one descriptor stands at a slot
  pub one_at : (cells : List (Option X)) (slot : ℕ) (a b : X) → slot_at cells slot ≡ Some a → slot_at cells slot ≡ Some b → a ≡ b
  one_at cells slot a b first second = some_same a b (sym first ∙ second)

  -- what stands at a slot after a write there
  pub here : (cells : List (Option X)) (slot : ℕ) (c : Option X) → slot < length cells → slot_at (set cells slot c) slot ≡ c
  here cells slot c within = get_or-set_same cells slot c None within

  -- and at another slot
  pub elsewhere : (cells : List (Option X)) (slot other : ℕ) (c : Option X) → other ≢ slot → slot_at (set cells slot c) other ≡ slot_at cells other
  elsewhere cells slot other c apart = get_or-set_other cells slot other c None apart

  -- a write of a cell changes the count by that cell
  count-set : (cells : List (Option X)) (slot : ℕ) (c : Option X) → slot < length cells → count_by is_some (set cells slot c) + cond (is_some (slot_at cells slot)) 1 0 ≡ count_by is_some cells + cond (is_some c) 1 0
  count-set cells slot c within = sum_by-set (λ c. cond (is_some c) 1 0) cells slot c None within

  -- a cell that is filled adds one to the count
  pub count-put : (cells : List (Option X)) (slot : ℕ) (e : X) → slot < length cells → slot_at cells slot ≡ None → count_by is_some (set cells slot (Some e)) ≡ count_by is_some cells + 1
  count-put cells slot e within none = let n = rw none at (count-set cells slot (Some e) within) in omega (arith, n)

  -- a cell that is emptied takes one from it
  pub count-take : (cells : List (Option X)) (slot : ℕ) (e : X) → slot_at cells slot ≡ Some e → count_by is_some (set cells slot None) + 1 ≡ count_by is_some cells
  count-take cells slot e some = let n = rw some at (count-set cells slot None (cell_within cells slot e some)) in omega (arith, n)

  -- a cell that stays filled leaves it
  pub count-same : (cells : List (Option X)) (slot : ℕ) (e new : X) → slot_at cells slot ≡ Some e → count_by is_some (set cells slot (Some new)) ≡ count_by is_some cells
  count-same cells slot e new some = let n = rw some at (count-set cells slot (Some new) (cell_within cells slot e some)) in omega (arith, n)

  -- the free list after a slot was filled
  pub free-put : (cells : List (Option X)) (slot : ℕ) (e : X) (old new : List (ℕ × Unit {0})) → slot < length cells → Lists nat_cmp (IsFree cells) old → IsRising nat_cmp new → IsRemoved old new (slot, tt) → Lists nat_cmp (IsFree (set cells slot (Some e))) new
  free-put cells slot e old new within lists rising edit = record {
    rising = rising;
    sound = λ place there.
        let was = lists.sound place (edit.only place there) in
        let apart : place.0 ≢ slot = λ at. edit.gone place there (pair_same place slot tt (sym at) refl) in
        (rw (length-set cells slot (Some e)) was.0, elsewhere cells slot place.0 (Some e) apart ∙ was.1);
    complete = λ place free.
        let apart : place.0 ≢ slot = λ at. not_none (set cells slot (Some e)) slot e (here cells slot (Some e) within) (ap (slot_at (set cells slot (Some e))) (sym at) ∙ free.1) in
        edit.kept place (lists.complete place (rw (length-set cells slot (Some e)) at free.0, sym (elsewhere cells slot place.0 (Some e) apart) ∙ free.1)) (λ same. apart (ap (λ (p : ℕ × Unit {0}). p.0) same));
  }

  -- and after it was emptied
  pub free-take : (cells : List (Option X)) (slot : ℕ) (e : X) (old new : List (ℕ × Unit {0})) → slot_at cells slot ≡ Some e → Lists nat_cmp (IsFree cells) old → IsRising nat_cmp new → IsInserted old new (slot, tt) → Lists nat_cmp (IsFree (set cells slot None)) new
  free-take cells slot e old new some lists rising edit =
      let within = cell_within cells slot e some in
      record {
        rising = rising;
        sound = λ place there. elim (edit.only place there) [
          | inl same ↦ subst (IsFree (set cells slot None)) (sym same) (rw (length-set cells slot None) within, here cells slot None within)
          | inr old_there ↦
              let was = lists.sound place old_there in
              let apart : place.0 ≢ slot = λ at. not_none cells slot e some (ap (slot_at cells) (sym at) ∙ was.1) in
              (rw (length-set cells slot None) was.0, elsewhere cells slot place.0 None apart ∙ was.1)
        ];
        complete = λ place free. elim (cases_eq place.0 slot) [
          | inl at ↦ subst (Contains new) (sym (pair_same place slot tt (sym at) refl)) edit.here
          | inr apart ↦ edit.kept place (lists.complete place (rw (length-set cells slot None) at free.0, sym (elsewhere cells slot place.0 None apart) ∙ free.1))
        ];
      }

module _ {T : Type 0} where
  -- each stands in its slot after a write of one that does
  pub placed-put : (kind : Kind) (cells : List (Option (Loaded T))) (slot : ℕ) (e : Loaded T) → slot < length cells → e.ident.slot ≡ slot → e.ident.kind ≡ kind → IsPlaced kind cells → IsPlaced kind (set cells slot (Some e))
  placed-put kind cells slot e within slot_is kind_is placed k x there = elim (cases_eq k slot) [
    | inl at ↦
        let same : e ≡ x = some_same e x (sym (here cells slot (Some e) within) ∙ ap (cell_at (set cells slot (Some e))) (sym at) ∙ there) in
        (ap (λ (x : Loaded T). x.ident.slot) (sym same) ∙ slot_is ∙ sym at, ap (λ (x : Loaded T). x.ident.kind) (sym same) ∙ kind_is)
    | inr apart ↦ placed k x (sym (elsewhere cells slot k (Some e) apart) ∙ there)
  ]

  -- and after one left
  pub placed-take : (kind : Kind) (cells : List (Option (Loaded T))) (slot : ℕ) → slot < length cells → IsPlaced kind cells → IsPlaced kind (set cells slot None)
  placed-take kind cells slot within placed k x there = elim (cases_eq k slot) [
    | inl at ↦ absurd (not_none (set cells slot None) slot x (ap (cell_at (set cells slot None)) (sym at) ∙ there) (here cells slot None within))
    | inr apart ↦ placed k x (sym (elsewhere cells slot k None apart) ∙ there)
  ]

-- of the first n places of an index none may go
abbrev pub NoneBefore : {T : Type 0} → List (Option (Loaded T)) → List (ℕ × ℕ) → List Ident → ℕ → Type 0
NoneBefore cells places keep n = (k : ℕ) (d : ℕ × ℕ) → k < n → MayNotGo (cell_at cells (get_or places k d).1) keep

-- nor of one more, if the next may not
pub none_more : {T : Type 0} (cells : List (Option (Loaded T))) (places : List (ℕ × ℕ)) (keep : List Ident) (n : ℕ) (d : ℕ × ℕ) → n < length places → NoneBefore cells places keep n → MayNotGo (cell_at cells (get_or places n d).1) keep → NoneBefore cells places keep (n + 1)
none_more cells places keep n d within none last k e lt = elim (cases_lt k n) [
  | inl before ↦ none k e before
  | inr not_before ↦ λ x there.
      let same : k ≡ n = omega arith in
      last x (ap (λ (p : ℕ × ℕ). cell_at cells p.1) (get_or_default places n d e within ∙ ap (λ k. get_or places k e) (sym same)) ∙ there)
]

module _ {T : Type 0} (kind : Kind) (cells : List (Option (Loaded T))) (places : List (ℕ × ℕ)) (keep : List Ident) (placed : IsPlaced kind cells) (lists : Lists nat_cmp (IsUnlocked cells) places) where
  -- then no slot may, at the end
  pub none_may_go : (n : ℕ) → length places ≤ n → NoneBefore cells places keep n → NoneMayGo cells keep
  none_may_go n all none slot e there candidate =
      let listed = lists.complete (e.ident.serial, slot) (e, there, refl, candidate.unlocked) in
      let place : ℕ × ℕ = (e.ident.serial, slot) in
      none listed.0 place (omega (arith, listed.1)) e (ap (λ (p : ℕ × ℕ). cell_at cells p.1) listed.2 ∙ there) candidate

  -- and the first one that may is the victim
  pub is_victim : (n : ℕ) (place : ℕ × ℕ) (ident : Ident) → n < length places → place ≡ get_or places n place → NoneBefore cells places keep n → MayGo (cell_at cells place.1) keep ident → IsVictim cells keep ident
  is_victim n place ident within read none go =
      let e = go.0 in
      let slot_is : ident.slot ≡ place.1 = ap (λ (i : Ident). i.slot) (sym go.2) ∙ (placed place.1 e go.1).0 in
      let listed = lists.sound place (n, within, sym read) in
      let serial_is : ident.serial ≡ place.0 = ap (λ (i : Ident). i.serial) (sym go.2) ∙ ap (λ (x : Loaded T). x.ident.serial) (one_at cells place.1 e listed.0 go.1 listed.1) ∙ listed.2 in
      record {
        candidate = (e, ap (cell_at cells) slot_is ∙ go.1, go.2, go.3);
        smallest = λ slot x there candidate.
            let other : ℕ × ℕ = (x.ident.serial, slot) in
            let at = lists.complete other (x, there, refl, candidate.unlocked) in
            elim (cases_lt at.0 n) [
              | inl before ↦ absurd (none at.0 other before x (ap (λ (p : ℕ × ℕ). cell_at cells p.1) at.2 ∙ there) candidate)
              | inr not_before ↦ elim (cases_eq at.0 n) [
                | inl same ↦
                    let one : get_or places n other ≡ other = ap (λ k. get_or places k other) (sym same) ∙ at.2 in
                    let serial : place.0 ≡ x.ident.serial = ap (λ (p : ℕ × ℕ). p.0) (read ∙ default n place other within ∙ one) in
                    omega (arith, serial_is, serial)
                | inr apart ↦
                    let less = lists.rising n at.0 other (omega (arith, not_before, apart)) at.1 in
                    let rises = ranked (get_or places n other).0 (get_or places at.0 other).0 Less (sym less) in
                    let first : place.0 ≡ (get_or places n other).0 = ap (λ (p : ℕ × ℕ). p.0) (read ∙ default n place other within) in
                    let last : (get_or places at.0 other).0 ≡ x.ident.serial = ap (λ (p : ℕ × ℕ). p.0) at.2 in
                    omega (arith, serial_is, rises, first, last)
              ]
            ];
      }
    where
      default : (k : ℕ) (a b : ℕ × ℕ) → k < length places → get_or places k a ≡ get_or places k b
      default k a b lt = get_or_default places k a b lt

module _ {X : Type 0} (cells : List (Option X)) (free : List (ℕ × Unit {0})) (lists : Lists nat_cmp (IsFree cells) free) where
  -- an option is nothing or something
  none_or_some : (c : Option X) → (c ≡ None) ⊎ IsSome c
  none_or_some None = inl refl
  none_or_some (Some e) = inr refl

  -- where nothing is listed as free, each slot is taken
  pub is_full : length free ≡ 0 → HasNoGap cells
  is_full empty slot within = elim (none_or_some (slot_at cells slot)) [
    | inl none ↦ let listed = lists.complete (slot, tt) (within, none) in absurd (omega (arith, empty, listed.1))
    | inr some ↦ some
  ]

  -- the first that is listed as free is the lowest free slot
  pub is_lowest : (place : ℕ × Unit {0}) → 0 < length free → place ≡ get_or free 0 place → IsLowestGap cells place.0
  is_lowest place some read =
      let first = lists.sound place (0, some, sym read) in
      record {
        below = first.0;
        free = first.1;
        lowest = λ other lower. elim (none_or_some (slot_at cells other)) [
          | inl none ↦
              let it : ℕ × Unit {0} = (other, tt) in
              let listed = lists.complete it (omega (arith, first.0), none) in
              let head : place.0 ≡ (get_or free 0 it).0 = ap (λ (p : ℕ × Unit {0}). p.0) (read ∙ get_or_default free 0 place it some) in
              elim (cases_eq listed.0 0) [
                | inl same ↦
                    let one : (get_or free 0 it).0 ≡ other = ap (λ k. (get_or free k it).0) (sym same) ∙ ap (λ (p : ℕ × Unit {0}). p.0) listed.2 in
                    absurd (omega (arith, head, one))
                | inr apart ↦
                    let rises = ranked (get_or free 0 it).0 (get_or free listed.0 it).0 Less (sym (lists.rising 0 listed.0 it (omega (arith, apart)) listed.1)) in
                    let last : (get_or free listed.0 it).0 ≡ other = ap (λ (p : ℕ × Unit {0}). p.0) listed.2 in
                    absurd (omega (arith, head, rises, last))
              ]
          | inr taken ↦ taken
        ];
      }

  -- a slot that is taken is not listed as free
  pub not_listed : (slot : ℕ) (e : X) → slot_at cells slot ≡ Some e → (k : ℕ) (d : ℕ × Unit {0}) → k < length free → nat_cmp (get_or free k d).0 slot ≡ Equal → ⊥
  not_listed slot e some k d within equal =
      let was = lists.sound (get_or free k d) (Contains-get_or free k d within) in
      let at : (get_or free k d).0 ≡ slot = ranked (get_or free k d).0 slot Equal (sym equal) in
      not_none cells slot e some (ap (slot_at cells) (sym at) ∙ was.1)

-- a lock is set or clear
lock_is : (b : Bool) → b ≡ true → b ≡ false → ⊥
lock_is b on off = false≢true (sym off ∙ on)

not_locked : (b : Bool) → (b ≡ true → ⊥) → b ≡ false
not_locked true off = absurd (off refl)
not_locked false off = refl

-- a slot stands in the list in as many places as it counts for
pub counts_for : (b : Bool) → cond (not b) 1 0 ≡ places_of b
counts_for true = refl
counts_for false = refl

module _ {T : Type 0} (cells : List (Option (Loaded T))) (slot : ℕ) where
  -- what a write of a cell adds to what isn't locked
  pub unlocked-count : (c : Option (Loaded T)) → slot < length cells → count_by is_unlocked (set cells slot c) + cond (is_unlocked (cell_at cells slot)) 1 0 ≡ count_by is_unlocked cells + cond (is_unlocked c) 1 0
  unlocked-count c within = sum_by-set (λ c. cond (is_unlocked c) 1 0) cells slot c None within

  pub unlocked-count_put : (e : Loaded T) → slot < length cells → cell_at cells slot ≡ None → e.locked ≡ false → count_by is_unlocked (set cells slot (Some e)) ≡ count_by is_unlocked cells + 1
  unlocked-count_put e within none clear =
      let n = rw none at (unlocked-count (Some e) within) in
      let one : cond {A = ℕ} (not e.locked) 1 0 ≡ 1 = ap (λ b. cond {A = ℕ} (not b) 1 0) clear in
      omega (arith, n, one)

  pub unlocked-count_take : (e : Loaded T) → cell_at cells slot ≡ Some e → count_by is_unlocked (set cells slot None) + places_of e.locked ≡ count_by is_unlocked cells
  unlocked-count_take e some =
      let n = rw some at (unlocked-count None (cell_within cells slot e some)) in
      omega (arith, n, counts_for e.locked)

  pub unlocked-count_lock : (e new : Loaded T) → cell_at cells slot ≡ Some e → count_by is_unlocked (set cells slot (Some new)) + places_of e.locked ≡ count_by is_unlocked cells + places_of new.locked
  unlocked-count_lock e new some =
      let n = rw some at (unlocked-count (Some new) (cell_within cells slot e some)) in
      omega (arith, n, counts_for e.locked, counts_for new.locked)

  pub unlocked-count_same : (e new : Loaded T) → cell_at cells slot ≡ Some e → new.locked ≡ e.locked → count_by is_unlocked (set cells slot (Some new)) ≡ count_by is_unlocked cells
  unlocked-count_same e new some same = omega (arith, unlocked-count_lock e new some, ap places_of same)

  -- where a serial stands once, none but the slot has what stands there
  pub others_apart : (e : Loaded T) → cell_at cells slot ≡ Some e → IsOncePerSerial cells → (k : ℕ) (x : Loaded T) → cell_at cells k ≡ Some x → x.ident.serial ≡ e.ident.serial → k ≡ slot
  others_apart e some once k x there same = once k slot x e there some same

  -- each serial stands once after a write of a cell whose serial no other slot has
  pub once-set : (c : Option (Loaded T)) (serial : ℕ) → ((x : Loaded T) → c ≡ Some x → x.ident.serial ≡ serial) → slot < length cells → ((k : ℕ) (x : Loaded T) → cell_at cells k ≡ Some x → x.ident.serial ≡ serial → k ≡ slot) → IsOncePerSerial cells → IsOncePerSerial (set cells slot c)
  once-set c serial is within apart once i j a b at_i at_j same = elim (cases_eq i slot) [
    | inl i_here ↦ elim (cases_eq j slot) [
      | inl j_here ↦ i_here ∙ sym j_here
      | inr j_other ↦ absurd (j_other (apart j b (sym (elsewhere cells slot j c j_other) ∙ at_j) (sym same ∙ is a (written i a i_here at_i))))
    ]
    | inr i_other ↦ elim (cases_eq j slot) [
      | inl j_here ↦ absurd (i_other (apart i a (sym (elsewhere cells slot i c i_other) ∙ at_i) (same ∙ is b (written j b j_here at_j))))
      | inr j_other ↦ once i j a b (sym (elsewhere cells slot i c i_other) ∙ at_i) (sym (elsewhere cells slot j c j_other) ∙ at_j) same
    ]
  ]
    where
      written : (k : ℕ) (x : Loaded T) → k ≡ slot → cell_at (set cells slot c) k ≡ Some x → c ≡ Some x
      written k x at there = sym (here cells slot c within) ∙ ap (cell_at (set cells slot c)) (sym at) ∙ there

  -- the list of what isn't locked after a write of a cell, where the slot was listed anew by its lock
  pub unlocked-set : (c : Option (Loaded T)) (serial : ℕ) (out : Bool) (old new : List (ℕ × ℕ)) → slot < length cells → ((x : Loaded T) → cell_at cells slot ≡ Some x → x.ident.serial ≡ serial) → (out ≡ false → (x : Loaded T) × (c ≡ Some x) × (x.ident.serial ≡ serial) × (x.locked ≡ false)) → ((x : Loaded T) → c ≡ Some x → x.locked ≡ false → (out ≡ false) × (x.ident.serial ≡ serial)) → Lists nat_cmp (IsUnlocked cells) old → IsRising nat_cmp new → IsRelisted old new (serial, slot) out → Lists nat_cmp (IsUnlocked (set cells slot c)) new
  unlocked-set c serial out old new within was clear shut lists rising edit = record {
    rising = rising;
    sound = λ place there. elim (cases_eq place.1 slot) [
      | inl at ↦ elim (cases_eq place.0 serial) [
        | inl same ↦
            let it : place ≡ (serial, slot) = pair_same place serial slot (sym same) (sym at) in
            let on = clear (not_locked out (λ gone. edit.gone gone (subst (Contains new) it there))) in
            (on.0, ap (cell_at (set cells slot c)) at ∙ here cells slot c within ∙ on.1, on.2 ∙ sym same, on.3)
        | inr other ↦
            let it = lists.sound place (edit.only place there (λ is. other (ap (λ (p : ℕ × ℕ). p.0) is))) in
            absurd (other (sym it.2 ∙ was it.0 (ap (cell_at cells) (sym at) ∙ it.1)))
      ]
      | inr apart ↦
          let it = lists.sound place (edit.only place there (λ is. apart (ap (λ (p : ℕ × ℕ). p.1) is))) in
          (it.0, elsewhere cells slot place.1 c apart ∙ it.1, it.2, it.3)
    ];
    complete = λ place it. elim (cases_eq place.1 slot) [
      | inl at ↦
          let on = shut it.0 (sym (here cells slot c within) ∙ ap (cell_at (set cells slot c)) (sym at) ∙ it.1) it.3 in
          subst (Contains new) (sym (pair_same place serial slot (sym on.1 ∙ it.2) (sym at))) (edit.here on.0)
      | inr apart ↦ edit.kept place (lists.complete place (it.0, sym (elsewhere cells slot place.1 c apart) ∙ it.1, it.2, it.3)) (λ is. apart (ap (λ (p : ℕ × ℕ). p.1) is))
    ];
  }

  -- as it is, a list has the slot by its lock
  pub as_it_is : (e : Loaded T) (places : List (ℕ × ℕ)) → cell_at cells slot ≡ Some e → Lists nat_cmp (IsUnlocked cells) places → IsRelisted places places (e.ident.serial, slot) e.locked
  as_it_is e places some lists = record {
    here = λ clear. lists.complete (e.ident.serial, slot) (e, some, refl, clear);
    gone = λ locked there.
        let it = lists.sound (e.ident.serial, slot) there in
        lock_is e.locked locked (ap (λ (x : Loaded T). x.locked) (one_at cells slot e it.0 some it.1) ∙ it.3);
    kept = λ y there _. there;
    only = λ y there _. there;
  }

  -- what is locked isn't listed, nor is its serial
  pub locked_absent : (e : Loaded T) (places : List (ℕ × ℕ)) → cell_at cells slot ≡ Some e → IsOncePerSerial cells → Lists nat_cmp (IsUnlocked cells) places → e.locked ≡ true → (k : ℕ) (d : ℕ × ℕ) → k < length places → nat_cmp (get_or places k d).0 e.ident.serial ≡ Equal → ⊥
  locked_absent e places some once lists locked k d within equal =
      let it = lists.sound (get_or places k d) (Contains-get_or places k d within) in
      let same = it.2 ∙ ranked (get_or places k d).0 e.ident.serial Equal (sym equal) in
      let at = once (get_or places k d).1 slot it.0 e it.1 some same in
      let one = one_at cells slot e it.0 some (ap (cell_at cells) (sym at) ∙ it.1) in
      lock_is e.locked locked (ap (λ (x : Loaded T). x.locked) one ∙ it.3)

  -- nor is a serial that nothing has
  pub serial_absent : (serial : ℕ) (places : List (ℕ × ℕ)) → Lists nat_cmp (IsUnlocked cells) places → ((k : ℕ) (x : Loaded T) → cell_at cells k ≡ Some x → x.ident.serial ≢ serial) → (k : ℕ) (d : ℕ × ℕ) → k < length places → nat_cmp (get_or places k d).0 serial ≡ Equal → ⊥
  serial_absent serial places lists none k d within equal =
      let it = lists.sound (get_or places k d) (Contains-get_or places k d within) in
      none (get_or places k d).1 it.0 it.1 (it.2 ∙ ranked (get_or places k d).0 serial Equal (sym equal))

-- of cells with nothing in them each holds nothing
pub all_none : {X : Type 0} (n slot : ℕ) → slot_at {X = X} (replicate n None) slot ≡ None
all_none {X} n slot = elim (cases_lt slot n) [
  | inl within ↦ get_or-replicate n slot None None within
  | inr past ↦ get_or_past (replicate n None) slot None (rw (length-replicate {A = Option X} n None) past)
]

-- and none counts
pub count-nothing : (X : Type 0) (n : ℕ) → count_by (is_some {T = X}) (replicate n None) ≡ 0
count-nothing X zero = refl
count-nothing X (suc n) = count-nothing X n

pub count-none : (T : Type 0) (n : ℕ) → count_by (is_some {T = Loaded T}) (replicate n None) ≡ 0
count-none T n = count-nothing (Loaded T) n

-- an index with nothing in it lists nothing
pub lists-nil : {K V : Type 0} (cmp : K → K → Ordering) (P : K × V → Type 0) → ((place : K × V) → P place → ⊥) → Lists cmp P []
lists-nil cmp P none = record { rising = λ i j d lt within. absurd (omega (arith, within)); sound = λ place there. absurd (omega (arith, there.1)); complete = λ place it. absurd (none place it) }
