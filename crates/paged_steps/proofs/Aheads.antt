-- What further steps and further views leave of steps ahead.
use Rattle.std.proofs.Common.{◌≡◌, ℕ, zero, suc, ◌+◌, ◌/◌, ◌%◌, ◌<◌, ◌≤◌, Bool, true, false, List, [], ◌∷◌, length, Contains, Option, Some, None, refl, ap, sym, ◌∙◌, subst, ◌⊎◌, inl, inr, arith}
use Rattle.std.specs.Prelude.{◌==◌, ◌-◌, if◌then◌else◌, find, is_some, nat_le, nat_lt, not, IfSome, IfNone}
use Rattle.std.specs.Option.{option_or}
use Rattle.std.proofs.lemmas.Bool.{and_parts, eqb-true, leb-false, leb-true, ltb-true}
use Rattle.std.proofs.lemmas.List.{length-append, length-map}
use Rattle.std.proofs.lemmas.List.Elements.{Contains-append_cases}
use Rattle.cache_ident.specs.declared.idents.Ident.{Ident}
use Rattle.cache_ident.specs.declared.names.Frame.{Frame}
use Rattle.cache_ident.specs.declared.names.SpaceNo.{SpaceNo}
use Rattle.phys_groups.specs.declared.rows.Row.{Row}
use Rattle.phys_groups.specs.Memory.{page_at}
use Rattle.phys_groups.specs.Translation.{is_fit, is_row_of, judged, no_flag, no_right, row_of, through}
use Rattle.rv32_exec.specs.declared.statuses.Access.{Access}
use Rattle.rv32_exec.specs.declared.steps.Stepped.{Stepped}
use Rattle.rv32_exec.specs.declared.steps.Stepped.TheVariants as steps
use Rattle.rv32_exec.proofs.StepChanges.{is_step}
use Rattle.flat_state.specs.declared.records.FlatThread.{FlatThread}
use Rattle.flat_state.specs.State.{FlatState}
use Rattle.flat_state.specs.Translation.{reached, rights_of, wants}
use Rattle.flat_state.proofs.Finding.{find-contains, find-passes}
use Rattle.quantum.specs.flat_laws.proofs.Members.{Contains-from_map, Contains-map, Contains-option, contains_nothing}
use Rattle.quantum.specs.page_views.specs.Views.{can_fill, copied, copies_of, filled, is_of_page, is_touched_of, pages_of_views, present_in, Copied, View, AreCopies}
use Rattle.quantum.specs.declared.paused.Paused.{Paused}
use Rattle.quantum.specs.declared.paused.Paused.TheVariants as pauses
use Rattle.quantum.specs.Ahead.{at_limit, begun, further, is_signal, more_with, one_ahead, outcome, pause_at, pause_before, pause_if_missed, signal_store, signals_next, standing, Ahead, HasSameCopies, IsRun}
use Rattle.paged_steps.specs.Aheads.{IsAheadOf, IsFresh, IsOfRow, StandsSo}
use Rattle.paged_steps.specs.declared.ahead.Stands.{Stands}
use Rattle.paged_steps.specs.declared.ahead.Stands.TheVariants.{Whole, Signals}
use Rattle.quantum.specs.declared.paused.SignalStore.{SignalStore}

-- ---- further steps

pub further_first : (k : ℕ) (a : Ahead) → (further k a).first ≡ a.first
further_first zero a = refl
further_first (suc k) a = further_first k (one_ahead a)

pub further_most : (k : ℕ) (a : Ahead) → (further k a).most ≡ a.most
further_most zero a = refl
further_most (suc k) a = further_most k (one_ahead a)

pub further_steps : (k : ℕ) (a : Ahead) → (further k a).steps ≡ a.steps + k
further_steps zero a = omega arith
further_steps (suc k) a = let more : (further k (one_ahead a)).steps ≡ a.steps + 1 + k = further_steps k (one_ahead a) in omega arith

further_aligned : (k : ℕ) (a : Ahead) → a.context.pc % 4 ≡ 0 → (further k a).context.pc % 4 ≡ 0
further_aligned zero a aligned = aligned
further_aligned (suc k) a aligned = further_aligned k (one_ahead a) ((is_step a.context (pages_of_views a.views)).aligned aligned)

-- a view is a copy of the same as one before
pub before_copy : (vs ws : List View) → copies_of ws ≡ copies_of vs → (w : View) → Contains ws w → (v : View) × Contains vs v × (copied v ≡ copied w)
before_copy vs ws same w there = Contains-from_map copied vs (copied w) (subst (λ (cs : List Copied). Contains cs (copied w)) same (Contains-map copied ws w there))

pub of_row_too : (tables : FlatState) (space : SpaceNo) (v w : View) → copied v ≡ copied w → IsOfRow tables space v → IsOfRow tables space w
of_row_too tables space v w same of = record {
  row = of.row;
  its = ap (λ (c : Copied). row_of tables.rows space c.vpn.0) (sym same) ∙ of.its;
  fit = of.fit;
  frame = of.frame ∙ ap (λ (c : Copied). c.frame) same;
  flags = of.flags ∙ ap (λ (c : Copied). c.flags) same;
}

-- where there is no pause, the limit isn't reached
below_limit : (limit : ℕ) (a : Ahead) → pause_at limit a ≡ None → a.steps < limit
below_limit limit a e = by (standing a.paused) (nat_le limit a.steps) refl e
  where
    by : (o : Option Paused) (b : Bool) → nat_le limit a.steps ≡ b → option_or o (option_or (if b then Some pauses.Limit else None) (pause_before a)) ≡ None → a.steps < limit
    by (Some q) b at e = absurd (cc)
    by None true at e = absurd (cc)
    by None false at e = leb-false limit a.steps at

module _ (limit : ℕ) (a b : Ahead) (p : Paused) (run : IsRun limit a b p) where
  pub ran_steps : b.steps ≡ a.steps + run.count
  ran_steps = ap (λ (x : Ahead). x.steps) run.took ∙ further_steps run.count a

  -- no step was taken: only the pause is new
  pub no_step : b.steps ≡ 0 → (a.steps ≡ 0) × (b ≡ record a { paused = Some p })
  no_step none =
      let sum = ran_steps in
      let count : run.count ≡ 0 = omega arith in
      (omega arith, run.took ∙ ap (λ (k : ℕ). record (further k a) { paused = Some p }) count)

  pub ran_most : b.most ≡ a.most
  ran_most = ap (λ (x : Ahead). x.most) run.took ∙ further_most run.count a

  pub ran_within : a.steps ≤ limit → b.steps ≤ limit
  ran_within within = by run.count refl
    where
      by : (n : ℕ) → run.count ≡ n → b.steps ≤ limit
      by zero e = let sum = ran_steps in omega arith
      by (suc n) e =
          let sum = ran_steps in
          let low = below_limit limit (further n a) (run.went_on n (omega arith)) in
          let there = further_steps n a in
          omega arith

  pub ran_copies : HasSameCopies a b → (m : List ℕ) → AreCopies m a.views → AreCopies m b.views
  ran_copies same m copies w there =
      let was = before_copy a.views b.views same.views w there in
      ap (λ (c : Copied). page_at m c.frame) (sym was.2) ∙ copies was.0 was.1 ∙ ap (λ (c : Copied). c.first) was.2

  pub ahead_then : (tables : FlatState) (t : FlatThread) → HasSameCopies a b → IsAheadOf tables t a → IsAheadOf tables t b
  ahead_then tables t copies ahead = record {
    first = ap (λ (x : Ahead). x.first) run.took ∙ further_first run.count a ∙ ahead.first;
    rows = λ w there. let was = before_copy a.views b.views copies.views w there in of_row_too tables t.space was.0 w was.2 (ahead.rows was.0 was.1);
    fresh = λ none.
        let so = no_step none in
        let fresh = ahead.fresh so.0 in
        subst IsFresh (sym so.1) (record { context = fresh.context; untouched = fresh.untouched; present = fresh.present });
    aligned = subst (λ (x : Ahead). x.context.pc % 4 ≡ 0) (sym run.took) (further_aligned run.count a ahead.aligned);
  }

-- before any step and any view
pub begun_ahead : (tables : FlatState) (t : FlatThread) (q : Ahead) → t.context.pc % 4 ≡ 0 → IsAheadOf tables t (begun t.context q)
begun_ahead tables t q aligned = record {
  first = refl;
  rows = λ v there. absurd (contains_nothing v there);
  fresh = λ none. record { context = refl; untouched = λ v there. absurd (contains_nothing v there); present = λ v there. absurd (contains_nothing v there) };
  aligned = aligned;
}

-- ---- one view more

-- what an access that translates goes through
pub reached_row : (s : FlatState) (access : Access) (space : SpaceNo) (va : ℕ) (row : Row) → reached s access space va ≡ through row
    → (row_of s.rows space (va / 4096) ≡ Some row) × (wants access row.flags ≡ true) × (is_fit (rights_of s space) row ≡ true)
reached_row s access space va row is = by (row_of s.rows space (va / 4096)) refl is
  where
    at : (r : Row) (b d : Bool) → wants access r.flags ≡ b → is_fit (rights_of s space) r ≡ d → (if not b then no_flag else (if not d then no_right else through r)) ≡ through row
        → (r ≡ row) × (b ≡ true) × (d ≡ true)
    at r true true wanted fits e = (cc, refl, refl)
    at r true false wanted fits e = absurd (cc)
    at r false d wanted fits e = absurd (cc)

    by : (o : Option Row) → row_of s.rows space (va / 4096) ≡ o → judged (rights_of s space) (wants access) o ≡ through row
        → (row_of s.rows space (va / 4096) ≡ Some row) × (wants access row.flags ≡ true) × (is_fit (rights_of s space) row ≡ true)
    by None found e = absurd (cc)
    by (Some r) found e =
        let so = at r (wants access r.flags) (is_fit (rights_of s space) r) refl refl e in
        (found ∙ ap (λ (x : Row). Some x) so.0, subst (λ (x : Row). wants access x.flags ≡ true) so.0 so.1, subst (λ (x : Row). is_fit (rights_of s space) x ≡ true) so.0 so.2)

-- it is that of the page of the space
pub row_page : (rows : List Row) (space : SpaceNo) (vpn : ℕ) (row : Row) → row_of rows space vpn ≡ Some row → (row.space ≡ space) × (row.vpn.0 ≡ vpn)
row_page rows space vpn row found =
    let parts = and_parts (row.space.0 == space.0) (row.vpn.0 == vpn) (find-passes (is_row_of space vpn) rows row found) in
    (ap (λ (n : ℕ). let x : SpaceNo = record { 0 = n } in x) (eqb-true row.space.0 space.0 parts.0), eqb-true row.vpn.0 vpn parts.1)

none_touched : (frame : Frame) (vs : List View) → ((v : View) → Contains vs v → v.touched ≡ false) → find (is_touched_of frame) vs ≡ None
none_touched frame vs untouched = by (find (is_touched_of frame) vs) refl
  where
    by : (o : Option View) → find (is_touched_of frame) vs ≡ o → o ≡ None
    by None e = refl
    by (Some v) e = absurd (let t = (and_parts v.touched (v.frame.0 == frame.0) (find-passes (is_touched_of frame) vs v e)).0 in let f = untouched v (find-contains (is_touched_of frame) vs v e) in cc)

-- the only element
one_of : {X : Type 0} (x y : X) → Contains (x ∷ []) y → y ≡ x
one_of x y there = let e = Contains-option (Some x) y there in cc

module _ (tables : FlatState) (t : FlatThread) (a : Ahead) (row : Row) (access : Access) (va : ℕ) (reaches : reached tables access t.space va ≡ through row) (ident : Ident) (bytes : List ℕ) where
  abbrev new_view : View
  new_view = filled a.views row.vpn row.frame row.flags ident bytes None

  pub new_of_row : IsOfRow tables t.space new_view
  new_of_row =
      let parts = reached_row tables access t.space va row reaches in
      let page = row_page tables.rows t.space (va / 4096) row parts.0 in
      record {
        row = row;
        its = ap (row_of tables.rows t.space) page.1 ∙ parts.0;
        fit = ap (λ (x : SpaceNo). is_fit (rights_of tables x) row) page.0 ∙ parts.2;
        frame = refl;
        flags = refl;
      }

  pub ahead_more : IsAheadOf tables t a → IsAheadOf tables t (more_with new_view a)
  ahead_more ahead = record {
    first = ahead.first;
    rows = λ w there. elim (Contains-append_cases a.views (new_view ∷ []) w there) [
      | inl before ↦ ahead.rows w before
      | inr last ↦ subst (IsOfRow tables t.space) (sym (one_of new_view w last)) new_of_row
    ];
    fresh = λ none.
        let fresh = ahead.fresh none in
        record {
          context = fresh.context;
          untouched = λ w there. elim (Contains-append_cases a.views (new_view ∷ []) w there) [
            | inl before ↦ fresh.untouched w before
            | inr last ↦ ap (λ (v : View). v.touched) (one_of new_view w last)
          ];
          present = λ w there. elim (Contains-append_cases a.views (new_view ∷ []) w there) [
            | inl before ↦ fresh.present w before
            | inr last ↦ subst (λ (v : View). v.present ≡ v.first) (sym (one_of new_view w last)) (ap (λ (o : Option View). present_in o bytes) (none_touched row.frame a.views fresh.untouched))
          ];
        };
    aligned = ahead.aligned;
  }

-- ---- where it pauses

-- a pause that doesn't stand is at the limit or before a step
pub pause_cases : (limit : ℕ) (a : Ahead) (p : Paused) → pause_at limit a ≡ Some p → standing a.paused ≡ None → (limit ≤ a.steps) ⊎ (pause_before a ≡ Some p)
pause_cases limit a p e free = by (nat_le limit a.steps) refl (sym (ap (λ (o : Option Paused). option_or o (option_or (at_limit limit a.steps) (pause_before a))) free) ∙ e)
  where
    by : (b : Bool) → nat_le limit a.steps ≡ b → option_or (if b then Some pauses.Limit else None) (pause_before a) ≡ Some p → (limit ≤ a.steps) ⊎ (pause_before a ≡ Some p)
    by true at e = inl (leb-true limit a.steps at)
    by false at e = inr e

-- before a step the run pauses where that signals or misses a page
pub before_cases : (a : Ahead) (p : Paused) → pause_before a ≡ Some p → (p ≡ pauses.Signal) ⊎ ((va : ℕ) × (access : Access) × (p ≡ pauses.Miss va access) × ((outcome a).answer ≡ steps.Miss va access))
before_cases a p e = by (signals_next a) e
  where
    missed : (answer : Stepped) → (outcome a).answer ≡ answer → pause_if_missed answer ≡ Some p → (va : ℕ) × (access : Access) × (p ≡ pauses.Miss va access) × ((outcome a).answer ≡ steps.Miss va access)
    missed steps.Next is e = absurd (cc)
    missed steps.Call is e = absurd (cc)
    missed (steps.Stop reason) is e = absurd (cc)
    missed (steps.Miss va access) is e = (va, access, cc, is)

    by : (b : Bool) → (if b then Some pauses.Signal else pause_if_missed (outcome a).answer) ≡ Some p → (p ≡ pauses.Signal) ⊎ ((va : ℕ) × (access : Access) × (p ≡ pauses.Miss va access) × ((outcome a).answer ≡ steps.Miss va access))
    by true e = inl (cc)
    by false e = inr (missed (outcome a).answer refl e)

-- a page that is asked for is asked for by the next step
pub missed_at : (limit : ℕ) (a : Ahead) (va : ℕ) (access : Access) → pause_at limit a ≡ Some (pauses.Miss va access) → (outcome a).answer ≡ steps.Miss va access
missed_at limit a va access e = by a.paused refl
  where
    before : pause_before a ≡ Some (pauses.Miss va access) → (outcome a).answer ≡ steps.Miss va access
    before is = elim (before_cases a (pauses.Miss va access) is) [
      | inl signal ↦ absurd (cc)
      | inr miss ↦ let same = miss.2 in let answer = miss.3 in cc
    ]

    at : (b : Bool) → (if b then Some pauses.Limit else None) ≡ at_limit limit a.steps → option_or (if b then Some pauses.Limit else None) (pause_before a) ≡ Some (pauses.Miss va access) → (outcome a).answer ≡ steps.Miss va access
    at true is e = absurd (cc)
    at false is e = before e

    free : standing a.paused ≡ None → (outcome a).answer ≡ steps.Miss va access
    free none = at (nat_le limit a.steps) refl (sym (ap (λ (o : Option Paused). option_or o (option_or (at_limit limit a.steps) (pause_before a))) none) ∙ e)

    stood : (q : Paused) → standing a.paused ≡ Some q → pauses.Miss va access ≡ q
    stood q is = let x = sym e ∙ ap (λ (o : Option Paused). option_or o (option_or (at_limit limit a.steps) (pause_before a))) is in cc

    by : (o : Option Paused) → a.paused ≡ o → (outcome a).answer ≡ steps.Miss va access
    by None is = free (ap standing is)
    by (Some pauses.Limit) is = free (ap standing is)
    by (Some pauses.Signal) is = free (ap standing is)
    by (Some (pauses.Miss v x)) is = free (ap standing is)
    by (Some pauses.Call) is = absurd (let x = stood pauses.Call (ap standing is) in cc)
    by (Some (pauses.Stopped reason)) is = absurd (let x = stood (pauses.Stopped reason) (ap standing is) in cc)

pub ran_missed : (limit : ℕ) (a b : Ahead) (va : ℕ) (access : Access) → IsRun limit a b (pauses.Miss va access) → (outcome b).answer ≡ steps.Miss va access
ran_missed limit a b va access run = ap (λ (x : Ahead). (outcome x).answer) run.took ∙ missed_at limit (further run.count a) va access run.stands

-- a step was taken, or the run paused before the first one
some_step : (limit : ℕ) (a b : Ahead) (p : Paused) → IsRun limit a b p → standing a.paused ≡ None → 0 < limit → (0 < b.steps) ⊎ (pause_before a ≡ Some p)
some_step limit a b p run free some = by run.count refl
  where
    by : (n : ℕ) → run.count ≡ n → (0 < b.steps) ⊎ (pause_before a ≡ Some p)
    by zero e =
        let sum = ran_steps limit a b p run in
        elim (pause_cases limit a p (ap (λ (k : ℕ). pause_at limit (further k a)) (sym e) ∙ run.stands) free) [
          | inl full ↦ inl (omega arith)
          | inr before ↦ inr before
        ]
    by (suc n) e = let sum = ran_steps limit a b p run in inl (omega arith)

-- where a run stands that paused for no page
pub stands_default : (tables : FlatState) (t : FlatThread) (limit : ℕ) (a b : Ahead) (p : Paused) (result : Stands) → IsRun limit a b p → standing a.paused ≡ None → 0 < limit → ((va : ℕ) (access : Access) → p ≡ pauses.Miss va access → ⊥)
    → is_some (signal_store b) ≡ is_signal (Some p) → IfSome (signal_store b) (λ store. result ≡ Signals store) → IfNone (signal_store b) (result ≡ Whole) → StandsSo tables t b result
stands_default tables t limit a b p result run free some other told signals whole = by (signal_store b) refl told signals whole
  where
    moved : is_signal (Some p) ≡ false → 0 < b.steps
    moved none = elim (some_step limit a b p run free some) [
      | inl took ↦ took
      | inr before ↦ elim (before_cases a p before) [
        | inl signal ↦ absurd (let e = ap (λ (q : Paused). is_signal (Some q)) signal in cc)
        | inr miss ↦ absurd (other miss.0 miss.1 miss.2)
      ]
    ]

    by : (o : Option SignalStore) → signal_store b ≡ o → is_some o ≡ is_signal (Some p) → IfSome o (λ store. result ≡ Signals store) → IfNone o (result ≡ Whole) → StandsSo tables t b result
    by None is told signals whole = subst (StandsSo tables t b) (sym whole) (moved (sym told))
    by (Some store) is told signals whole = subst (StandsSo tables t b) (sym signals) is

pub nonzero : (n : ℕ) → (n ≡ 0 → ⊥) → 0 < n
nonzero zero h = absurd (h refl)
nonzero (suc n) h = omega arith

-- ---- what a further view leaves of the room

pub few_more : (a : Ahead) (v : View) → can_fill a.most a.views v.vpn ≡ true → length (more_with v a).views ≤ a.most
few_more a v room =
    let low = ltb-true (length a.views) a.most (and_parts (nat_lt (length a.views) a.most) (not (is_some (find (is_of_page v.vpn) a.views))) room).0 in
    omega (arith, low, length-append a.views (v ∷ []))

pub smaller : (a b : Ahead) (v : View) → copies_of b.views ≡ copies_of a.views → b.most ≡ a.most → can_fill b.most b.views v.vpn ≡ true → (more_with v b).most - length (more_with v b).views < a.most - length a.views
smaller a b v same most room =
    let low = ltb-true (length b.views) b.most (and_parts (nat_lt (length b.views) b.most) (not (is_some (find (is_of_page v.vpn) b.views))) room).0 in
    let lengths : length b.views ≡ length a.views = sym (length-map b.views copied) ∙ ap length same ∙ length-map a.views copied in
    omega (arith, low, lengths, length-append b.views (v ∷ []))

pub copies_more : (m : List ℕ) (a : Ahead) (row : Row) (ident : Ident) (bytes : List ℕ) → AreCopies m a.views → bytes ≡ page_at m row.frame → AreCopies m (more_with (filled a.views row.vpn row.frame row.flags ident bytes None) a).views
copies_more m a row ident bytes copies is w there =
    let v = filled a.views row.vpn row.frame row.flags ident bytes None in
    elim (Contains-append_cases a.views (v ∷ []) w there) [
      | inl before ↦ copies w before
      | inr last ↦ subst (λ (x : View). page_at m x.frame ≡ x.first) (sym (one_of v w last)) (sym is)
    ]
