-- What is loaded with an identifier is what was loaded with it, however long ago: its row has the frame and the flags that it had
-- then, and its thread the space.
use Rattle.std.proofs.Common.{◌≡◌, ◌≢◌, ℕ, zero, suc, ◌<◌, Bool, true, false, List, [], ◌∷◌, ◌++◌, take, replicate, Contains, Some, slice_get, refl, ap, sym, ◌∙◌, subst, inl, inr, ◌⊎◌, arith}
use Rattle.std.proofs.lemmas.List.Elements.{Contains-append_left, Contains-push, Contains-push_cases}
use Rattle.cache_ident.specs.declared.idents.Ident.{Ident}
use Rattle.cache_ident.specs.declared.names.Name.{Name}
use Rattle.cache_ident.specs.declared.names.Name.TheVariants as name
use Rattle.cache_ident.specs.declared.names.SpaceNo.{SpaceNo}
use Rattle.cache_ident.specs.declared.names.ThreadNo.{ThreadNo}
use Rattle.cache_ident.specs.declared.names.Vpn.{Vpn}
use Rattle.cache_ident.specs.Residents.{locked_if, with_lock, Resident}
use Rattle.cache_ident.specs.Rolls.{is_same}
use Rattle.cache_ident.proofs.RollLemmas.{same_ident}
use Rattle.phys_groups.specs.declared.rows.Row.{Row}
use Rattle.phys_groups.specs.Translation.{row_of}
use Rattle.flat_rules.specs.flat_state.specs.declared.events.Event.{Event}
use Rattle.flat_rules.specs.flat_state.specs.declared.events.Event.TheVariants.{Complete, Declare, Step}
use Rattle.flat_rules.specs.flat_state.specs.declared.records.FlatThread.{FlatThread}
use Rattle.flat_rules.specs.flat_state.specs.Events.{after_events, applied}
use Rattle.flat_rules.specs.flat_state.specs.Names.{stands}
use Rattle.flat_rules.specs.flat_state.specs.State.{FlatState}
use Rattle.board_threads.specs.flat_laws.proofs.EventKeeps.{event_keeps}
use Rattle.board_threads.specs.flat_laws.proofs.Members.{contains_nothing, Contains-from_map, Contains-map}
use Rattle.board_threads.specs.flat_laws.proofs.StepSame.{same_stands, step_same}
use Rattle.board_threads.specs.run_journal.specs.declared.entries.Entry.{Entry}
use Rattle.board_threads.specs.run_journal.specs.declared.entries.Entry.TheVariants.{Completed, Declared, Ended, Loaded, Locked, Ran, Sealed, Unlocked, WrittenBack}
use Rattle.board_threads.specs.run_journal.specs.Entries.{events_of}
use Rattle.board_threads.specs.run_journal.specs.Legal.{AreLegal, IsLegal, MayCome, MayHappen}
use Rattle.board_threads.specs.run_journal.specs.Told.{nothing_told, residents_after, residents_from, told, told_after, told_from, Told}
use Rattle.board_threads.specs.run_journal.proofs.Growth.{legal-split, loads_after, residents_told, residents_told_from, state_after, state_from, told_from-append}
use Rattle.board_threads.specs.run_journal.proofs.Others.{locked_keeps, other_ident, stays_without, without_cases}
use Rattle.board_threads.specs.run_journal.proofs.Whole.{nothing_whole, whole_after, whole_from, IsWhole}
use Rattle.board_threads.specs.store_residents.proofs.SlotLaws.{what_is_there}
use Rattle.board_commits.specs.Tickets.{state_at}

-- ---- a descriptor at two moments

pub record IsSameRow (s u : FlatState) (space : SpaceNo) (vpn : Vpn) : Type 0 where
  pub row : Row
  pub its : row_of s.rows space vpn.0 ≡ Some row
  pub later : Row
  pub now : row_of u.rows space vpn.0 ≡ Some later
  pub frame : later.frame ≡ row.frame
  pub flags : later.flags ≡ row.flags

pub record IsSameThread (s u : FlatState) (whom : ThreadNo) : Type 0 where
  pub thread : FlatThread
  pub its : slice_get s.threads whom.0 ≡ Some thread
  pub later : FlatThread
  pub now : slice_get u.threads whom.0 ≡ Some later
  pub space : later.space ≡ thread.space

abbrev pub IsKept : Name → FlatState → FlatState → Type 0
IsKept (name.Mapping space vpn) s u = IsSameRow s u space vpn
IsKept (name.Thread whom) s u = IsSameThread s u whom
IsKept _ s u = Unit {0}

kept_itself : (n : Name) (s : FlatState) → stands s n ≡ true → IsKept n s s
unfolding stands
kept_itself (name.Kernel kernel) s there = tt
kept_itself (name.Space space) s there = tt
kept_itself (name.Thread whom) s there =
    let found = what_is_there (slice_get s.threads whom.0) there in
    record { thread = found.0; its = found.1; later = found.0; now = found.1; space = refl }
kept_itself (name.Mapping space vpn) s there =
    let found = what_is_there (row_of s.rows space vpn.0) there in
    record { row = found.0; its = found.1; later = found.0; now = found.1; frame = refl; flags = refl }

kept_event : (n : Name) (s u : FlatState) (e : Event) → IsKept n s u → stands (applied u e) n ≡ true → IsKept n s (applied u e)
unfolding stands
kept_event (name.Kernel kernel) s u e kept there = tt
kept_event (name.Space space) s u e kept there = tt
kept_event (name.Thread whom) s u e kept there =
    let found = (event_keeps u e).threads.kept whom.0 kept.later kept.now in
    record { thread = kept.thread; its = kept.its; later = found.0; now = found.1; space = found.2 ∙ kept.space }
kept_event (name.Mapping space vpn) s u e kept there =
    let found = what_is_there (row_of (applied u e).rows space vpn.0) there in
    let bits = (event_keeps u e).rows space vpn.0 kept.later found.0 kept.now found.1 in
    record { row = kept.row; its = kept.its; later = found.0; now = found.1; frame = ap (λ (r : Row). r.frame) bits ∙ kept.frame; flags = ap (λ (r : Row). r.flags) bits ∙ kept.flags }

kept_steps : (k : ℕ) (n : Name) (s u : FlatState) (whom : ThreadNo) → IsKept n s u → stands u n ≡ true → IsKept n s (after_events u (replicate k (Step whom)))
kept_steps zero n s u whom kept there = kept
kept_steps (suc k) n s u whom kept there =
    let later = same_stands u (applied u (Step whom)) (step_same u whom) n ∙ there in
    kept_steps k n s (applied u (Step whom)) whom (kept_event n s u (Step whom) kept later) later

kept_by : (n : Name) (s u : FlatState) (e : Entry) → IsKept n s u → stands u n ≡ true → stands (after_events u (events_of e)) n ≡ true → IsKept n s (after_events u (events_of e))
kept_by n s u (Declared d) kept was there = kept_event n s u (Declare d) kept there
kept_by n s u Sealed kept was there = kept
kept_by n s u (Loaded ident m cpu) kept was there = kept
kept_by n s u (WrittenBack ident cause cpu) kept was there = kept
kept_by n s u (Locked ident cpu) kept was there = kept
kept_by n s u (Unlocked ident cpu) kept was there = kept
kept_by n s u (Ran whom steps cpu) kept was there = kept_steps steps n s u whom kept was
kept_by n s u (Ended whom cpu) kept was there = kept_event n s u (Step whom) kept there
kept_by n s u (Completed whom cpu) kept was there = kept_event n s u (Complete whom) kept there

kept_entry : (n : Name) (s : FlatState) (k : Told) (e : Entry) → IsKept n s k.state → stands k.state n ≡ true → stands (told_after k e).state n ≡ true → IsKept n s (told_after k e).state
kept_entry n s k e kept was there =
    let after = state_after k e in
    subst (IsKept n s) (sym after) (kept_by n s k.state e kept was (ap (λ (u : FlatState). stands u n) (sym after) ∙ there))

-- ---- what is resident

-- a resident stays, locked or not
abbrev Stays : List Resident → Entry → Resident → Type 0
Stays rs e r = (q : Resident) × Contains (residents_after rs e) q × (q.ident ≡ r.ident) × (q.name ≡ r.name)

-- nothing that is resident has the identifier
abbrev HasNone : List Resident → Ident → Type 0
HasNone rs ident = (q : Resident) → Contains rs q → q.ident ≢ ident

stays_or_leaves : (rs : List Resident) (e : Entry) (r : Resident) → Contains rs r → Stays rs e r ⊎ HasNone (residents_after rs e) r.ident
stays_or_leaves rs (Declared d) r there = inl (r, there, refl, refl)
stays_or_leaves rs Sealed r there = inl (r, there, refl, refl)
stays_or_leaves rs (Loaded ident n cpu) r there = inl (r, Contains-append_left rs (record { ident = ident; name = n; locked = false } ∷ []) r there, refl, refl)
stays_or_leaves rs (WrittenBack other cause cpu) r there = by (is_same r.ident other) refl
  where
    by : (b : Bool) → is_same r.ident other ≡ b → Stays rs (WrittenBack other cause cpu) r ⊎ HasNone (residents_after rs (WrittenBack other cause cpu)) r.ident
    by true is = inr (λ q left same. (without_cases other rs q left).1 (same ∙ same_ident r.ident other is))
    by false is = inl (r, stays_without other rs r there (other_ident r.ident other is), refl, refl)
stays_or_leaves rs (Locked other cpu) r there = inl (locked_if other true r, Contains-map (locked_if other true) rs r there, (locked_keeps other true r).0, (locked_keeps other true r).1)
stays_or_leaves rs (Unlocked other cpu) r there = inl (locked_if other false r, Contains-map (locked_if other false) rs r there, (locked_keeps other false r).0, (locked_keeps other false r).1)
stays_or_leaves rs (Ran whom steps cpu) r there = inl (r, there, refl, refl)
stays_or_leaves rs (Ended whom cpu) r there = inl (r, there, refl, refl)
stays_or_leaves rs (Completed whom cpu) r there = inl (r, there, refl, refl)

none_locked : (rs : List Resident) (other : Ident) (on : Bool) (ident : Ident) → HasNone rs ident → (q : Resident) → Contains (with_lock other on rs) q → q.ident ≢ ident
none_locked rs other on ident none q there same =
    let was = Contains-from_map (locked_if other on) rs q there in
    none was.0 was.1 (sym (locked_keeps other on was.0).0 ∙ ap (λ (x : Resident). x.ident) was.2 ∙ same)

-- an identifier that has gone is issued to nothing else
stays_gone : (k : Told) (e : Entry) (ident : Ident) → MayHappen k e → ident.serial < k.loads → HasNone k.residents ident → HasNone (residents_after k.residents e) ident
stays_gone k (Declared d) ident may old none = none
stays_gone k Sealed ident may old none = none
stays_gone k (Loaded other n cpu) ident may old none = λ q there same. elim (Contains-push_cases k.residents new q there) [
  | inl before ↦ none q before same
  | inr now ↦ (let fresh = may.serial in let one : other.serial ≡ ident.serial = ap (λ (i : Ident). i.serial) (ap (λ (x : Resident). x.ident) now ∙ same) in absurd (omega arith))
]
  where
    new : Resident
    new = record { ident = other; name = n; locked = false }
stays_gone k (WrittenBack other cause cpu) ident may old none = λ q there same. none q (without_cases other k.residents q there).0 same
stays_gone k (Locked other cpu) ident may old none = none_locked k.residents other true ident none
stays_gone k (Unlocked other cpu) ident may old none = none_locked k.residents other false ident none
stays_gone k (Ran whom steps cpu) ident may old none = none
stays_gone k (Ended whom cpu) ident may old none = none
stays_gone k (Completed whom cpu) ident may old none = none

-- ---- from one moment on

module _ (s : FlatState) (ident : Ident) (n : Name) where
  record IsHere (k : Told) : Type 0 where
    pub r : Resident
    pub there : Contains k.residents r
    pub its : r.ident ≡ ident
    pub named : r.name ≡ n
    pub kept : IsKept n s k.state

  record IsGone (k : Told) : Type 0 where
    pub old : ident.serial < k.loads
    pub none : HasNone k.residents ident

  more_loads : (k : Told) (e : Entry) → ident.serial < k.loads → ident.serial < (told_after k e).loads
  more_loads k e old = let more = loads_after k e in omega (arith, more)

  here_after : (k : Told) (e : Entry) → MayCome k e → IsWhole k → IsHere k → IsHere (told_after k e) ⊎ IsGone (told_after k e)
  here_after k e may whole here =
      let later = whole_after k e may whole in
      let was : stands k.state n ≡ true = ap (stands k.state) (sym here.named) ∙ (whole.good here.r here.there).there in
      elim (stays_or_leaves k.residents e here.r here.there) [
        | inl q ↦
            (let stays = subst (λ (rs : List Resident). Contains rs q.0) (sym (residents_told k e)) q.1 in
            let named : q.0.name ≡ n = q.3 ∙ here.named in
            inl (record {
              r = q.0;
              there = stays;
              its = q.2 ∙ here.its;
              named = named;
              kept = kept_entry n s k e here.kept was (ap (stands (told_after k e).state) (sym named) ∙ (later.good q.0 stays).there);
            }))
        | inr left ↦ inr (record {
          old = more_loads k e (subst (λ (i : Ident). i.serial < k.loads) here.its (whole.numbered.issued here.r here.there));
          none = λ q there same. left q (subst (λ (rs : List Resident). Contains rs q) (residents_told k e) there) (same ∙ sym here.its);
        })
      ]

  gone_after : (k : Told) (e : Entry) → MayCome k e → IsGone k → IsGone (told_after k e)
  gone_after k e may gone = record {
    old = more_loads k e gone.old;
    none = λ q there same. stays_gone k e ident may.happens gone.old gone.none q (subst (λ (rs : List Resident). Contains rs q) (residents_told k e) there) same;
  }

  here_or_gone : (k : Told) (es : List Entry) → AreLegal k es → IsWhole k → IsHere k ⊎ IsGone k → IsHere (told_from k es) ⊎ IsGone (told_from k es)
  here_or_gone k [] legal whole is = is
  here_or_gone k (e ∷ es) legal whole is =
      here_or_gone (told_after k e) es legal.1 (whole_after k e legal.0 whole) (elim is [
        | inl here ↦ here_after k e legal.0 whole here
        | inr gone ↦ inr (gone_after k e legal.0 gone)
      ])

cut : {X : Type 0} (xs : List X) (at : ℕ) (x : X) → slice_get xs at ≡ Some x → (rest : List X) × (xs ≡ take at xs ++ x ∷ rest)
cut [] at x is = absurd (cc)
cut (y ∷ ys) zero x is = (ys, ap (λ z. z ∷ ys) (let same : y ≡ x = cc in same))
cut (y ∷ ys) (suc at) x is = let behind = cut ys at x is in (behind.0, ap (λ l. y ∷ l) behind.1)

-- what has an identifier that an entry loaded is what that entry loaded
module _ (j : List Entry) (legal : IsLegal j) (at : ℕ) (ident : Ident) (n : Name) (cpu : ℕ) (loaded : slice_get j at ≡ Some (Loaded ident n cpu)) where
  pub still_as_loaded : (q : Resident) → Contains (told j).residents q → q.ident ≡ ident → (q.name ≡ n) × IsKept n (state_at j at) (told j).state
  still_as_loaded q there its =
      let e = Loaded ident n cpu in
      let parts = cut j at e loaded in
      let split = legal-split nothing_told (take at j) (e ∷ parts.0) (subst (AreLegal nothing_told) parts.1 legal.each) in
      let k = told_from nothing_told (take at j) in
      let whole = whole_from nothing_told (take at j) split.0 nothing_whole in
      let new : Resident = record { ident = ident; name = n; locked = false } in
      let same : k.state ≡ state_at j at = state_from nothing_told (take at j) in
      let here : IsHere (state_at j at) ident n (told_after k e) = record {
        r = new;
        there = Contains-push k.residents new;
        its = refl;
        named = refl;
        kept = subst (λ (s : FlatState). IsKept n s k.state) same (kept_itself n k.state split.1.0.happens.there);
      } in
      let last : told_from (told_after k e) parts.0 ≡ told j = sym (told_from-append nothing_told (take at j) (e ∷ parts.0)) ∙ ap told (sym parts.1) in
      elim (here_or_gone (state_at j at) ident n (told_after k e) parts.0 split.1.1 (whole_after k e split.1.0 whole) (inl here)) [
        | inl found ↦
            (let now = subst (λ (t : Told). IsHere (state_at j at) ident n t) last found in
            let one : q ≡ now.r = (whole_from nothing_told j legal.each nothing_whole).numbered.one q now.r there now.there (its ∙ sym now.its) in
            (ap (λ (x : Resident). x.name) one ∙ now.named, now.kept))
        | inr gone ↦ absurd ((subst (λ (t : Told). IsGone (state_at j at) ident n t) last gone).none q there its)
      ]

-- ---- what is resident was loaded

abbrev WasThere : List Resident → Resident → Type 0
WasThere rs r = (q : Resident) × Contains rs q × (q.ident ≡ r.ident) × (q.name ≡ r.name)

abbrev pub WasLoadedAt : List Entry → Resident → Type 0
WasLoadedAt es r = (at : ℕ) × (cpu : ℕ) × (slice_get es at ≡ Some (Loaded r.ident r.name cpu))

was_locked : (rs : List Resident) (other : Ident) (on : Bool) (q : Resident) → Contains (with_lock other on rs) q → WasThere rs q
was_locked rs other on q there =
    let was = Contains-from_map (locked_if other on) rs q there in
    (was.0, was.1, sym (locked_keeps other on was.0).0 ∙ ap (λ (x : Resident). x.ident) was.2, sym (locked_keeps other on was.0).1 ∙ ap (λ (x : Resident). x.name) was.2)

was_or_came : (rs : List Resident) (e : Entry) (es : List Entry) (r q : Resident) → q.ident ≡ r.ident → q.name ≡ r.name → Contains (residents_after rs e) q → WasThere rs r ⊎ WasLoadedAt (e ∷ es) r
was_or_came rs (Declared d) es r q its named there = inl (q, there, its, named)
was_or_came rs Sealed es r q its named there = inl (q, there, its, named)
was_or_came rs (Loaded ident n cpu) es r q its named there = elim (Contains-push_cases rs (record { ident = ident; name = n; locked = false }) q there) [
  | inl before ↦ inl (q, before, its, named)
  | inr now ↦
      (let ident_is : ident ≡ r.ident = ap (λ (x : Resident). x.ident) now ∙ its in
      let name_is : n ≡ r.name = ap (λ (x : Resident). x.name) now ∙ named in
      inr (0, cpu, ap (λ (i : Ident). Some (Loaded i n cpu)) ident_is ∙ ap (λ (m : Name). Some (Loaded r.ident m cpu)) name_is))
]
was_or_came rs (WrittenBack other cause cpu) es r q its named there = inl (q, (without_cases other rs q there).0, its, named)
was_or_came rs (Locked other cpu) es r q its named there = let was = was_locked rs other true q there in inl (was.0, was.1, was.2 ∙ its, was.3 ∙ named)
was_or_came rs (Unlocked other cpu) es r q its named there = let was = was_locked rs other false q there in inl (was.0, was.1, was.2 ∙ its, was.3 ∙ named)
was_or_came rs (Ran whom steps cpu) es r q its named there = inl (q, there, its, named)
was_or_came rs (Ended whom cpu) es r q its named there = inl (q, there, its, named)
was_or_came rs (Completed whom cpu) es r q its named there = inl (q, there, its, named)

there_or_loaded : (rs : List Resident) (es : List Entry) (r : Resident) → Contains (residents_from rs es) r → WasThere rs r ⊎ WasLoadedAt es r
there_or_loaded rs [] r there = inl (r, there, refl, refl)
there_or_loaded rs (e ∷ es) r there = elim (there_or_loaded (residents_after rs e) es r there) [
  | inl q ↦ was_or_came rs e es r q.0 q.2 q.3 q.1
  | inr at ↦ inr (suc at.0, at.1, at.2)
]

pub was_loaded : (j : List Entry) (r : Resident) → Contains (told j).residents r → WasLoadedAt j r
was_loaded j r there = elim (there_or_loaded [] j r (subst (λ (rs : List Resident). Contains rs r) (residents_told_from nothing_told j) there)) [
  | inl q ↦ absurd (contains_nothing q.0 q.1)
  | inr at ↦ at
]
