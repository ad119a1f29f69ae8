-- What a store that signals makes of tables, pages and the state that they mean.
use Rattle.std.proofs.Common.{◌≡◌, ℕ, ◌+◌, ◌*◌, ◌/◌, ◌%◌, ◌<◌, ◌≤◌, false, true, List, [], ◌∷◌, map, Some, None, slice_get, refl, ap, ap₂, sym, ◌∙◌, subst, arith}
use Rattle.std.specs.Prelude.{slice_set}
use Rattle.std.proofs.lemmas.Bool.{eqb-true}
use Rattle.cache_ident.specs.declared.names.ThreadNo.{ThreadNo}
use Rattle.cache_ident.specs.declared.names.Vpn.{Vpn}
use Rattle.phys_groups.specs.Memory.{word_bytes, written}
use Rattle.phys_groups.specs.Rows.{marked}
use Rattle.phys_groups.specs.Translation.{is_row_of, place_in}
use Rattle.signal_pages.specs.Signals.{is_signalling}
use Rattle.rv32_exec.specs.Pages.{put_bytes}
use Rattle.rv32_exec.specs.Registers.{next_of}
use Rattle.rv32_exec.specs.declared.statuses.Status.TheVariants.{Ready}
use Rattle.flat_state.specs.declared.records.FlatThread.{FlatThread}
use Rattle.flat_state.specs.declared.records.Signal.{Signal}
use Rattle.flat_state.specs.State.{FlatState, is_ended, with_thread}
use Rattle.flat_state.specs.Signals.{full_among, receivers_of, sent, HasRoom}
use Rattle.flat_state.specs.WellFormed.{IsWellFormed}
use Rattle.flat_state.proofs.Finding.{find-contains}
use Rattle.flat_state.proofs.FormedEvents.{ends_at_most, receivers_are, room_if_none_full, room_kept}
use Rattle.memory_laws.specs.Apart.{over}
use Rattle.page_store.specs.Kept.{Kept}
use Rattle.quantum.specs.declared.paused.SignalStore.{SignalStore}
use Rattle.ahead_laws.specs.Signalled.{signalled_by}
use Rattle.rv32_exec.specs.declared.statuses.Access.TheVariants.{Write}
use Rattle.paged_steps.specs.Aheads.{IsSentBy}
use Rattle.paged_steps.specs.Pages.{HasFrames}
use Rattle.paged_steps.proofs.Aheads.{reached_row}

-- the four bytes of a word, as a store puts them
word_put : (m : List ℕ) (at value : ℕ) → written m at (word_bytes value) ≡ put_bytes 4 m at value
word_put m at value =
    let third : value / 65536 ≡ value / 256 / 256 = omega arith in
    let fourth : value / 16777216 ≡ value / 256 / 256 / 256 = omega arith in
    ap₂ (λ (x y : ℕ). written m at (value % 256 ∷ value / 256 % 256 ∷ x % 256 ∷ y % 256 ∷ [])) third fourth

module _ (old : FlatState) (t : FlatThread) (what : SignalStore) (signal : Signal) (sent_so : IsSentBy old t what signal) where
  pub sent_frame : (pages : Kept) (frames : ℕ) → IsWellFormed old → HasFrames old pages frames → signal.frame.0 < pages.frames
  sent_frame pages frames formed has =
      let found = (reached_row old Write t.space sent_so.va sent_so.row sent_so.reaches).0 in
      let low = (formed.rows.each sent_so.row (find-contains (is_row_of t.space (sent_so.va / 4096)) old.rows sent_so.row found)).frame in
      let size = formed.memory.size in
      let same = has.size in
      let is : signal.frame.0 ≡ sent_so.row.frame.0 = ap (λ (x : Signal). x.frame.0) sent_so.signal_is in
      omega arith

  pub sent_offset : (signal.offset ≤ 4092) × (signal.offset % 4 ≡ 0) × (signal.offset < 4096)
  sent_offset =
      let e : sent_so.va % 4096 % 64 ≡ 60 = eqb-true (sent_so.va % 4096 % 64) 60 sent_so.signals in
      let is : signal.offset ≡ sent_so.va % 4096 = ap (λ (x : Signal). x.offset) sent_so.signal_is in
      (omega arith, omega arith, omega arith)

  pub sent_aligned : t.context.pc % 4 ≡ 0 → what.context.pc % 4 ≡ 0
  sent_aligned aligned =
      let is : what.context.pc ≡ (t.context.pc + 4) % 4294967296 = ap (λ (x : SignalStore). x.context.pc) sent_so.store_is in
      omega arith

  -- the receivers have room still when the thread went on
  pub sent_room : (i : ℕ) (threads : List FlatThread) (receivers : List (ThreadNo × Vpn)) → IsWellFormed old → slice_get old.threads i ≡ Some t → t.status ≡ Ready → receivers ≡ receivers_of old signal.frame
      → full_among old.threads (map (λ r. r.0) (receivers_of old signal.frame)) ≡ None → threads ≡ slice_set old.threads i (record t { context = what.context; status = Ready }) → HasRoom threads receivers
  sent_room i threads receivers formed here ready are none is =
      let u : FlatThread = record t { context = what.context; status = Ready } in
      let running : is_ended t.status ≡ false = ap is_ended ready in
      let room = room_if_none_full old.threads (receivers_of old signal.frame) (receivers_are old signal.frame formed) none in
      subst (λ (rs : List (ThreadNo × Vpn)). HasRoom threads rs) (sym are)
      (subst (λ (ts : List FlatThread). HasRoom ts (receivers_of old signal.frame)) (sym is)
      (room_kept old.threads (slice_set old.threads i u) (receivers_of old signal.frame) (ends_at_most old.threads i t u here refl running) room))

  pub sent_signalling : is_signalling signal.offset ≡ true
  sent_signalling = ap (λ (x : Signal). is_signalling x.offset) sent_so.signal_is ∙ sent_so.signals

  -- the state that is meant
  pub sent_state : (mk1 mk2 put new : FlatState) (m : List ℕ) (i : ℕ) (receivers : List (ThreadNo × Vpn)) → mk1 ≡ record old { rows = map (marked t.space (t.context.pc / 4096) false) old.rows }
      → mk2 ≡ record mk1 { rows = map (marked t.space what.vpn.0 true) mk1.rows } → put ≡ with_thread mk2 i (record t { context = what.context; status = Ready }) → new ≡ record put { threads = sent put.threads signal.offset receivers }
      → receivers ≡ receivers_of old signal.frame → over new (written m (4096 * signal.frame.0 + signal.offset) (word_bytes what.word)) ≡ signalled_by (over old m) i t sent_so.va sent_so.value sent_so.row
  sent_state mk1 mk2 put new m i receivers mk1_is mk2_is put_is new_is are =
      let n = written m (4096 * signal.frame.0 + signal.offset) (word_bytes what.word) in
      let marked_once = mk2_is ∙ ap (λ (x : FlatState). record x { rows = map (marked t.space what.vpn.0 true) x.rows }) mk1_is in
      let gone : SignalStore → FlatState = λ w. with_thread (record old { rows = map (marked t.space w.vpn.0 true) (map (marked t.space (t.context.pc / 4096) false) old.rows) }) i (record t { context = w.context; status = Ready }) in
      ap (λ (x : FlatState). over x n) new_is
      ∙ ap (λ (x : FlatState). over (record x { threads = sent x.threads signal.offset receivers }) n) (put_is ∙ ap (λ (x : FlatState). with_thread x i (record t { context = what.context; status = Ready })) marked_once)
      ∙ ap (λ (rs : List (ThreadNo × Vpn)). over (record (gone what) { threads = sent (gone what).threads signal.offset rs }) n) are
      ∙ ap₂ (λ (w : SignalStore) (g : Signal). over (record (gone w) { threads = sent (gone w).threads g.offset (receivers_of old g.frame) }) (written m (4096 * g.frame.0 + g.offset) (word_bytes w.word))) sent_so.store_is sent_so.signal_is
      ∙ ap (λ (mem : List ℕ). let w : SignalStore = record { vpn = record { 0 = sent_so.va / 4096 }; offset = sent_so.va % 4096; word = sent_so.value; context = record t.context { pc = next_of t.context } } in
      over (record (gone w) { threads = sent (gone w).threads (sent_so.va % 4096) (receivers_of old sent_so.row.frame) }) mem) (word_put m (place_in sent_so.row.frame sent_so.va) sent_so.value)
