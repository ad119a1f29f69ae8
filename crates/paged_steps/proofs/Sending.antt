-- A thread whose next step is a store that signals.
use Rattle.std.proofs.Common.{◌≡◌, ℕ, ◌/◌, ◌%◌, Bool, true, false, ◌&&◌, List, map, Contains, Option, Some, None, is_some, refl, ap, ap₂, sym, ◌∙◌, arith}
use Rattle.std.specs.Prelude.{if◌then◌else◌}
use Rattle.std.proofs.lemmas.Bool.{and_parts, eqb-true}
use Rattle.cache_ident.specs.declared.names.Frame.{Frame}
use Rattle.phys_groups.specs.declared.rows.Row.{Row}
use Rattle.phys_groups.specs.Memory.{page_at}
use Rattle.phys_groups.specs.Translation.{row_of, through}
use Rattle.signal_pages.specs.Signals.{is_signalling}
use Rattle.rv32_exec.specs.declared.contexts.Context.{Context}
use Rattle.rv32_exec.specs.declared.statuses.Access.TheVariants.{Fetch, Write}
use Rattle.rv32_exec.specs.declared.statuses.Status.{Status}
use Rattle.rv32_exec.specs.declared.statuses.Status.TheVariants.{Ready}
use Rattle.rv32_exec.specs.declared.spaces.Width.TheVariants.{Byte, Half, Word}
use Rattle.rv32_exec.specs.declared.actions.Action.{Action}
use Rattle.rv32_exec.specs.declared.actions.Action.TheVariants as actions
use Rattle.rv32_exec.specs.Registers.{next_of}
use Rattle.rv32_exec.specs.Steps.{after_step as after_instruction}
use Rattle.flat_state.specs.declared.records.FlatThread.{FlatThread}
use Rattle.flat_state.specs.declared.records.Signal.{Signal}
use Rattle.flat_state.specs.State.{FlatState, is_ready}
use Rattle.flat_state.specs.NextSteps.{is_miss}
use Rattle.flat_state.specs.Pages.{pages_of}
use Rattle.flat_state.specs.Signals.{full_among, is_held, next_action, next_signal, receivers_for, receivers_of, signal_of, signal_through}
use Rattle.flat_state.specs.Translation.{reached}
use Rattle.memory_laws.specs.Apart.{over}
use Rattle.quantum.specs.page_views.specs.Views.{pages_of_views, view_through, View, AreCopies}
use Rattle.quantum.specs.declared.paused.SignalStore.{SignalStore}
use Rattle.quantum.specs.Ahead.{is_signal, signal_store, signals_through, store_by, store_if, Ahead}
use Rattle.quantum.specs.LocalRun.{Shows}
use Rattle.quantum.proofs.Changed.{reaches, shows_at, through_parts}
use Rattle.quantum.proofs.Signalling.{store_ahead}
use Rattle.quantum.proofs.StepsIn.{same_action, ShowsAt}
use Rattle.paged_steps.specs.Aheads.{IsAheadOf, IsFresh, IsSentBy}
use Rattle.paged_steps.proofs.Aheads.{reached_row}
use Rattle.paged_steps.proofs.Taking.{shows_of}

-- what it stores, and through which view
pub record Stores (a : Ahead) (store : SignalStore) : Type 0 where
  pub va : ℕ
  pub value : ℕ
  pub action : next_action a.context (pages_of_views a.views) ≡ Some (actions.Store va Word value)
  pub is : store ≡ record { vpn = record { 0 = va / 4096 }; offset = va % 4096; word = value; context = record a.context { pc = next_of a.context } }
  pub view : View
  pub found : view_through a.views Write va ≡ Some view
  pub flag : view.flags.m ≡ true
  pub signals : is_signalling (va % 4096) ≡ true

pub stores_of : (a : Ahead) (store : SignalStore) → signal_store a ≡ Some store → Stores a store
stores_of a store e = by_pause (is_signal a.paused) e
  where
    by_view : (va value : ℕ) (o : Option View) → next_action a.context (pages_of_views a.views) ≡ Some (actions.Store va Word value) → view_through a.views Write va ≡ o → (b : Bool) → signals_through va o ≡ b → store_if a.context va value b ≡ Some store → Stores a store
    by_view va value o action found false signals e = absurd (cc)
    by_view va value None action found true signals e = absurd (cc)
    by_view va value (Some v) action found true signals e =
        let parts = and_parts v.flags.m (is_signalling (va % 4096)) signals in
        record { va = va; value = value; action = action; is = cc; view = v; found = found; flag = parts.0; signals = parts.1 }

    by_action : (o : Option Action) → next_action a.context (pages_of_views a.views) ≡ o → store_by a.context a.views o ≡ Some store → Stores a store
    by_action None is e = absurd (cc)
    by_action (Some (actions.Store va Word value)) is e = by_view va value (view_through a.views Write va) is refl (signals_through va (view_through a.views Write va)) refl e
    by_action (Some (actions.Store va Byte value)) is e = absurd (cc)
    by_action (Some (actions.Store va Half value)) is e = absurd (cc)
    by_action (Some (actions.Set rd value)) is e = absurd (cc)
    by_action (Some actions.Pass) is e = absurd (cc)
    by_action (Some (actions.Jump rd target)) is e = absurd (cc)
    by_action (Some (actions.Load rd va width signed)) is e = absurd (cc)
    by_action (Some (actions.Atomic rd va op operand)) is e = absurd (cc)
    by_action (Some actions.Call) is e = absurd (cc)
    by_action (Some actions.Break) is e = absurd (cc)

    by_pause : (b : Bool) → (if b then store_by a.context a.views (next_action a.context (pages_of_views a.views)) else None) ≡ Some store → Stores a store
    by_pause true e = by_action (next_action a.context (pages_of_views a.views)) refl e
    by_pause false e = absurd (cc)

module _ (tables : FlatState) (t : FlatThread) (a : Ahead) (store : SignalStore) (ahead : IsAheadOf tables t a) (fresh : IsFresh a) (told : signal_store a ≡ Some store) where
  abbrev its : Stores a store
  its = stores_of a store told

  -- the row of its page
  pub record HasRow : Type 0 where
    pub row : Row
    pub reaches : reached tables Write t.space (stores_of a store told).va ≡ through row
    pub there : row_of tables.rows t.space store.vpn.0 ≡ Some row
    pub flag : row.flags.m ≡ true

  pub has_row : HasRow
  has_row =
      let s = stores_of a store told in
      let through = through_parts a.views Write s.va s.view s.found in
      let of = ahead.rows s.view through.0 in
      let shows : Shows tables t.space s.view (page_at tables.memory s.view.frame) = record { row = of.row; its = of.its; fit = of.fit; frame = of.frame; flags = of.flags; holds = refl } in
      let at = reaches tables t.space Write s.va s.view (page_at tables.memory s.view.frame) shows through.1 through.2 in
      record {
        row = at.row;
        reaches = at.reached;
        there = ap (λ (x : SignalStore). row_of tables.rows t.space x.vpn.0) s.is ∙ (reached_row tables Write t.space s.va at.row at.reached).0;
        flag = ap (λ f. f.m) at.flags ∙ s.flag;
      }

  pub sent_by : (row : Row) → row_of tables.rows t.space store.vpn.0 ≡ Some row → (signal : Signal) → signal ≡ record { frame = row.frame; offset = store.offset } → IsSentBy tables t store signal
  sent_by row found signal is =
      let s = stores_of a store told in
      let at = has_row in
      let same : at.row ≡ row = let e = at.there in cc in
      let context : a.context ≡ t.context = fresh.context ∙ ahead.first in
      record {
        va = s.va;
        value = s.value;
        row = at.row;
        store_is = s.is ∙ ap (λ (c : Context). let x : SignalStore = record { vpn = record { 0 = s.va / 4096 }; offset = s.va % 4096; word = s.value; context = record c { pc = next_of c } } in x) context;
        reaches = at.reaches;
        flag = at.flag;
        signals = s.signals;
        signal_is = is ∙ ap₂ (λ (f : Frame) (o : ℕ). let x : Signal = record { frame = f; offset = o } in x) (ap (λ (r : Row). r.frame) (sym same)) (ap (λ (x : SignalStore). x.offset) s.is);
      }

  -- what is sent is what is stored
  module _ (signal : Signal) (sent : IsSentBy tables t store signal) where
    same_va : (stores_of a store told).va ≡ sent.va
    same_va =
        let s = stores_of a store told in
        let page : s.va / 4096 ≡ sent.va / 4096 = ap (λ (x : SignalStore). x.vpn.0) (sym s.is ∙ sent.store_is) in
        let offset : s.va % 4096 ≡ sent.va % 4096 = ap (λ (x : SignalStore). x.offset) (sym s.is ∙ sent.store_is) in
        omega arith

    pub asks : next_action t.context (pages_of_views a.views) ≡ Some (actions.Store sent.va Word sent.value)
    asks =
        let s = stores_of a store told in
        let context : a.context ≡ t.context = fresh.context ∙ ahead.first in
        ap (λ (c : Context). next_action c (pages_of_views a.views)) (sym context) ∙ s.action
        ∙ ap₂ (λ (x y : ℕ). Some (actions.Store x Word y)) same_va (ap (λ (x : SignalStore). x.word) (sym s.is ∙ sent.store_is))

    pub goes_on : is_miss (after_instruction t.context (pages_of_views a.views)).answer ≡ false
    goes_on =
        let context : a.context ≡ t.context = fresh.context ∙ ahead.first in
        ap (λ (c : Context). is_miss (after_instruction c (pages_of_views a.views)).answer) (sym context) ∙ ap is_miss (store_ahead a store told).goes_on

    pub divides : sent.va % 4 ≡ 0
    divides =
        let e : sent.va % 4096 % 64 ≡ 60 = eqb-true (sent.va % 4096 % 64) 60 sent.signals in
        omega arith

    pub all_show : (m : List ℕ) → AreCopies m a.views → (v : View) → Contains a.views v → Shows (over tables m) t.space v v.present
    all_show m copies v there = shows_of tables t.space m v v.present (ahead.rows v there) (copies v there ∙ sym (fresh.present v there))

    pub both_so : (sent.row.flags.m && is_signalling (sent.va % 4096)) ≡ true
    both_so = ap₂ (λ (x y : Bool). x && y) sent.flag sent.signals

    pub sends : (m : List ℕ) → AreCopies m a.views → next_signal (over tables m) t ≡ Some signal
    unfolding next_signal
    sends m copies =
        let s = over tables m in
        let vs = a.views in
        let fetches : ShowsAt (pages_of_views vs) (pages_of s t.space) Fetch t.context.pc = shows_at s t.space vs Fetch t.context.pc (λ v found. all_show m copies v (through_parts vs Fetch t.context.pc v found).0) in
        let action : next_action t.context (pages_of s t.space) ≡ Some (actions.Store sent.va Word sent.value) = same_action (pages_of_views vs) (pages_of s t.space) t.context goes_on fetches ∙ asks in
        ap (signal_of s t) action ∙ ap (signal_through sent.va) sent.reaches
        ∙ ap (λ (b : Bool). if b then Some (let x : Signal = record { frame = sent.row.frame; offset = sent.va % 4096 } in x) else None) both_so
        ∙ ap (λ (x : Signal). Some x) (sym sent.signal_is)

    pub held_so : (m : List ℕ) → AreCopies m a.views → t.status ≡ Ready → is_some (full_among tables.threads (map (λ r. r.0) (receivers_of tables signal.frame))) ≡ true → is_held (over tables m) t ≡ true
    held_so m copies ready full =
        ap₂ (λ (st : Status) (o : Option Signal). is_ready st && is_some (full_among tables.threads (map (λ receiver. receiver.0) (receivers_for (over tables m) o)))) ready (sends m copies) ∙ full
