-- Who is known to be held stays so while steps happen that leave what tells it.
use Rattle.std.proofs.Common.{◌≡◌, ◌≢◌, ℕ, Bool, true, false, List, [], ◌∷◌, map, length, Contains, Option, Some, None, is_some, slice_get, refl, ap, ap₂, sym, ◌∙◌, subst, inl, inr, arith}
use Rattle.std.specs.Prelude.{slice_set, if◌then◌else◌, find, ◌==◌, ◌++◌, option_to_list}
use Rattle.std.specs.Bool.{OnTrue}
use Rattle.std.specs.Option.{option_map}
use Rattle.std.proofs.lemmas.Bool.{cases_eq}
use Rattle.cache_ident.specs.declared.names.Frame.{Frame}
use Rattle.cache_ident.specs.declared.names.SpaceNo.{SpaceNo}
use Rattle.cache_ident.specs.declared.names.ThreadNo.{ThreadNo}
use Rattle.cache_ident.specs.declared.names.Vpn.{Vpn}
use Rattle.phys_groups.specs.declared.rows.Row.{Row}
use Rattle.phys_groups.specs.Memory.{page_at, with_page, HasFrame}
use Rattle.phys_groups.specs.Translation.{is_row_of, row_of}
use Rattle.phys_groups.proofs.Pages.{length-with_page, page_at-with_page, page_at-with_page_other}
use Rattle.signal_pages.specs.Signals.{receiver_of, receivers_in, room_in}
use Rattle.rv32_exec.specs.declared.statuses.Status.TheVariants.{Ready}
use Rattle.rv32_exec.specs.declared.statuses.Access.TheVariants.{Write}
use Rattle.flat_state.specs.declared.records.FlatThread.{FlatThread}
use Rattle.flat_state.specs.declared.records.Signal.{Signal}
use Rattle.flat_state.specs.Pages.{is_in}
use Rattle.flat_state.specs.Signals.{full_among, has_ended, is_held, queued, queued_by, ended_by, receivers_of}
use Rattle.flat_state.specs.State.{FlatState, is_ended}
use Rattle.flat_state.specs.Translation.{is_fit_row}
use Rattle.flat_state.proofs.FormedParts.{KeepsRow}
use Rattle.flat_state.proofs.Places.{get-set_other, get-set_same}
use Rattle.memory_laws.specs.Apart.{over}
use Rattle.quantum.specs.flat_laws.proofs.Members.{find-map, Contains-behind, Contains-here}
use Rattle.quantum.specs.page_views.specs.Views.{View, AreCopies}
use Rattle.quantum.specs.declared.paused.Paused.{Paused}
use Rattle.quantum.specs.declared.paused.SignalStore.{SignalStore}
use Rattle.quantum.specs.Ahead.{Ahead}
use Rattle.quantum.specs.LocalRun.{committed, status_by, touched_views, with_marks_of, with_view_marks, with_views}
use Rattle.paged_steps.specs.Aheads.{IsAheadOf}
use Rattle.paged_steps.specs.Knowing.{AreSpared, IsHeldAhead, IsKnownHeld, Knows, KnowsNobody, KnowsNoMore}
use Rattle.paged_steps.specs.declared.order.Order.{Order}
use Rattle.paged_steps.proofs.Aheads.{reached_row}
use Rattle.paged_steps.proofs.Sending.{held_so, sent_by}
use Rattle.paged_steps.proofs.Taking.{in_views}

-- who is known to be held is
pub held_is : (s : FlatState) (t : FlatThread) (watched : List Bool) → IsKnownHeld s t watched → is_held s t ≡ true
held_is s t watched known =
    let h = known.held in
    held_so s t known.by h.store h.ahead (h.ahead.fresh h.first) h.told h.signal h.sent s.memory known.copies h.ready h.full

-- ---- the same over another memory

ahead_over : (s : FlatState) (m : List ℕ) (t : FlatThread) (a : Ahead) → IsAheadOf s t a → IsAheadOf (over s m) t a
ahead_over s m t a ahead = record {
  first = ahead.first;
  rows = λ v there. let of = ahead.rows v there in record { row = of.row; its = of.its; fit = of.fit; frame = of.frame; flags = of.flags };
  fresh = ahead.fresh;
  aligned = ahead.aligned;
}

pub held_over : (s : FlatState) (m : List ℕ) (t : FlatThread) (a : Ahead) → IsHeldAhead s t a → IsHeldAhead (over s m) t a
held_over s m t a h =
    let sent = h.sent in
    record {
      ready = h.ready;
      ahead = ahead_over s m t a h.ahead;
      first = h.first;
      store = h.store;
      told = h.told;
      signal = h.signal;
      sent = record { va = sent.va; value = sent.value; row = sent.row; store_is = sent.store_is; reaches = sent.reaches; flag = sent.flag; signals = sent.signals; signal_is = sent.signal_is };
      full = h.full;
    }

-- ---- who is noted

pub knows_more : (s : FlatState) (before after : Order) → KnowsNoMore before after → Knows s before → Knows s after
knows_more s before after (inl kept) knows n t there here =
    subst (IsKnownHeld s t) (sym kept.1) (knows n t (ap (λ (xs : List Bool). slice_get xs n) (sym kept.0) ∙ there) here)
knows_more s before after (inr nobody) knows n t there here = absurd (nobody n there)

pub knows_none : (s : FlatState) (order : Order) → KnowsNobody order.held.items → Knows s order
knows_none s order nobody n t there here = absurd (nobody n there)

pub knows_nothing : (s : FlatState) (order : Order) → order.held.items ≡ [] → Knows s order
knows_nothing s order none = knows_none s order (λ n there. (let e : None ≡ Some true = sym (ap (λ (xs : List Bool). slice_get xs n) none) ∙ there in cc))

pub spared_if : (b : Bool) (watched : List Bool) (a : Ahead) (vs : List View) (paused : Option Paused) → vs ≡ a.views → paused ≡ a.paused → is_ended (status_by paused) ≡ false
    → OnTrue b ((v : View) → Contains vs v → slice_get watched v.frame.0 ≡ Some true → v.present ≡ v.first) → OnTrue b (AreSpared watched a)
spared_if true watched a vs paused views is goes left = record {
  goes_on = ap (λ (o : Option Paused). is_ended (status_by o)) (sym is) ∙ goes;
  views = λ v there. left v (subst (λ (xs : List View). Contains xs v) (sym views) there);
}
spared_if false watched a vs paused views is goes left = tt

-- ---- the marks of views are bits of rows, and nothing else

marks_keep : (space : SpaceNo) (vs : List View) → KeepsRow (with_view_marks space vs)
marks_keep space vs = record {
  space = λ row. by (λ (r : Row). r.space) row (is_in space row) (find (λ v. v.vpn.0 == row.vpn.0) vs) (λ v. refl);
  vpn = λ row. by (λ (r : Row). r.vpn) row (is_in space row) (find (λ v. v.vpn.0 == row.vpn.0) vs) (λ v. refl);
  frame = λ row. by (λ (r : Row). r.frame) row (is_in space row) (find (λ v. v.vpn.0 == row.vpn.0) vs) (λ v. refl);
  flags = λ row. by (λ (r : Row). r.flags) row (is_in space row) (find (λ v. v.vpn.0 == row.vpn.0) vs) (λ v. refl);
  receiver = λ row. by (λ (r : Row). r.receiver) row (is_in space row) (find (λ v. v.vpn.0 == row.vpn.0) vs) (λ v. refl);
}
  where
    by : {X : Type 0} (part : Row → X) (row : Row) (b : Bool) (o : Option View) → ((v : View) → part (with_marks_of (Some v) row) ≡ part row) → part (if b then with_marks_of o row else row) ≡ part row
    by part row true None same = refl
    by part row true (Some v) same = same v
    by part row false o same = refl

-- ---- what rows say stays when their bits change

module _ (f : Row → Row) (keeps : KeepsRow f) where
  same_row_of : (space : SpaceNo) (vpn : ℕ) (row : Row) → is_row_of space vpn (f row) ≡ is_row_of space vpn row
  same_row_of space vpn row = rw (keeps.space row, keeps.vpn row) refl

  row_found : (rows : List Row) (space : SpaceNo) (vpn : ℕ) (row : Row) → row_of rows space vpn ≡ Some row → row_of (map f rows) space vpn ≡ Some (f row)
  row_found rows space vpn row found = find-map (is_row_of space vpn) (is_row_of space vpn) f (same_row_of space vpn) rows ∙ ap (option_map f) found

  same_fit : (s : FlatState) (row : Row) → is_fit_row s (f row) ≡ is_fit_row s row
  same_fit s row = rw (keeps.space row, keeps.frame row, keeps.flags row) refl

  same_receiver : (frame : Frame) (row : Row) (fit : Bool) → receiver_of frame (f row) fit ≡ receiver_of frame row fit
  same_receiver frame row fit = rw (keeps.frame row, keeps.receiver row, keeps.vpn row) refl

  same_receivers : (s : FlatState) (frame : Frame) (rows : List Row) → receivers_in frame (map f rows) (map (is_fit_row s) (map f rows)) ≡ receivers_in frame rows (map (is_fit_row s) rows)
  same_receivers s frame [] = refl
  same_receivers s frame (row ∷ rows) =
      ap₂ (λ (o : Option (ThreadNo × Vpn)) (rs : List (ThreadNo × Vpn)). option_to_list o ++ rs) (same_receiver frame row (is_fit_row s (f row)) ∙ ap (receiver_of frame row) (same_fit s row)) (same_receivers s frame rows)

-- ---- queues stay where a thread takes steps

module _ (threads : List FlatThread) (n : ℕ) (t u : FlatThread) (here : slice_get threads n ≡ Some t) (queue : queued_by (Some u) ≡ queued_by (Some t)) (ended : is_ended u.status ≡ is_ended t.status) where
  same_queue : (r : ThreadNo) → queued (slice_set threads n u) r ≡ queued threads r
  same_queue r = elim (cases_eq r.0 n) [
    | inl is ↦ ap (λ (k : ℕ). queued_by (slice_get (slice_set threads n u) k)) is ∙ ap queued_by (get-set_same threads n u t here) ∙ queue ∙ sym (ap queued_by here) ∙ ap (λ (k : ℕ). queued_by (slice_get threads k)) (sym is)
    | inr apart ↦ ap queued_by (get-set_other threads n r.0 u apart)
  ]

  same_end : (r : ThreadNo) → has_ended (slice_set threads n u) r ≡ has_ended threads r
  same_end r = elim (cases_eq r.0 n) [
    | inl is ↦ ap (λ (k : ℕ). ended_by (slice_get (slice_set threads n u) k)) is ∙ ap ended_by (get-set_same threads n u t here) ∙ ended ∙ sym (ap ended_by here) ∙ ap (λ (k : ℕ). ended_by (slice_get threads k)) (sym is)
    | inr apart ↦ ap ended_by (get-set_other threads n r.0 u apart)
  ]

  map_same : {X : Type 0} (f g : ThreadNo → X) → ((r : ThreadNo) → f r ≡ g r) → (rs : List ThreadNo) → map f rs ≡ map g rs
  map_same f g same [] = refl
  map_same f g same (r ∷ rs) = ap₂ (λ x xs. x ∷ xs) (same r) (map_same f g same rs)

  pub same_full : (to : List ThreadNo) → full_among (slice_set threads n u) to ≡ full_among threads to
  same_full to = ap₂ (λ (qs : List ℕ) (es : List Bool). room_in to qs es to) (map_same _ _ same_queue to) (map_same _ _ same_end to)

-- ---- pages that no store went to stay

page_stays : (vs : List View) (m : List ℕ) (frame : Frame) (bytes : List ℕ) → ((v : View) → Contains vs v → HasFrame m v.frame) → ((v : View) → Contains vs v → length v.present ≡ 4096) → ((v : View) → Contains vs v → v.frame.0 ≡ frame.0 → v.present ≡ bytes)
    → page_at m frame ≡ bytes → page_at (with_views m vs) frame ≡ bytes
page_stays [] m frame bytes within whole same is = is
page_stays (v ∷ vs) m frame bytes within whole same is =
    let here = within v (Contains-here v vs) in
    let full = whole v (Contains-here v vs) in
    let long : length (with_page m v.frame v.present) ≡ length m = length-with_page m v.frame v.present here full in
    let now : page_at (with_page m v.frame v.present) frame ≡ bytes = elim (cases_eq frame.0 v.frame.0) [
      | inl equal ↦ ap (λ (n : ℕ). page_at (with_page m v.frame v.present) (record { 0 = n })) equal ∙ page_at-with_page m v.frame v.present here full ∙ same v (Contains-here v vs) (sym equal)
      | inr apart ↦ page_at-with_page_other m v.frame v.present frame here full apart ∙ is
    ] in
    page_stays vs (with_page m v.frame v.present) frame bytes (λ w there. let low = within w (Contains-behind v vs w there) in omega (arith, low, long)) (λ w there. whole w (Contains-behind v vs w there)) (λ w there. same w (Contains-behind v vs w there)) now

-- ---- all together

module _ (s : FlatState) (n : ℕ) (t : FlatThread) (q : Ahead) (watched : List Bool) (here : slice_get s.threads n ≡ Some t) (ready : t.status ≡ Ready) (spared : AreSpared watched q)
    (within : (v : View) → Contains (touched_views q.views) v → HasFrame s.memory v.frame) (whole : (v : View) → Contains (touched_views q.views) v → length v.present ≡ 4096) (copies : AreCopies s.memory q.views) where
  one_stays : (u : FlatThread) → IsKnownHeld s u watched → IsKnownHeld (committed s n t q) u watched
  one_stays u known =
      let s2 = committed s n t q in
      let a = known.by in
      let h = known.held in
      let keeps = marks_keep t.space q.views in
      let ahead : IsAheadOf s2 u a = record {
        first = h.ahead.first;
        rows = λ v there. let of = h.ahead.rows v there in record {
          row = with_view_marks t.space q.views of.row;
          its = row_found (with_view_marks t.space q.views) keeps s.rows u.space v.vpn.0 of.row of.its;
          fit = same_fit (with_view_marks t.space q.views) keeps s of.row ∙ of.fit;
          frame = keeps.frame of.row ∙ of.frame;
          flags = keeps.flags of.row ∙ of.flags;
        };
        fresh = h.ahead.fresh;
        aligned = h.ahead.aligned;
      } in
      let sent = h.sent in
      let fresh = h.ahead.fresh h.first in
      let its = reached_row s Write u.space sent.va sent.row sent.reaches in
      let page : row_of s.rows u.space h.store.vpn.0 ≡ Some sent.row = ap (λ (x : SignalStore). row_of s.rows u.space x.vpn.0) sent.store_is ∙ its.0 in
      let found = row_found (with_view_marks t.space q.views) keeps s.rows u.space h.store.vpn.0 sent.row page in
      let signal_is : h.signal ≡ record { frame = (with_view_marks t.space q.views sent.row).frame; offset = h.store.offset } =
      sent.signal_is ∙ ap₂ (λ (f : Frame) (o : ℕ). let x : Signal = record { frame = f; offset = o } in x) (sym (keeps.frame sent.row)) (ap (λ (x : SignalStore). x.offset) (sym sent.store_is)) in
      let u2 : FlatThread = record t { context = q.context; status = status_by q.paused } in
      let goes_on : is_ended (status_by q.paused) ≡ is_ended t.status = spared.goes_on ∙ sym (ap is_ended ready) in
      let to = λ (x : FlatState). map (λ (r : ThreadNo × Vpn). r.0) (receivers_of x h.signal.frame) in
      record {
        by = a;
        held = record {
          ready = h.ready;
          ahead = ahead;
          first = h.first;
          store = h.store;
          told = h.told;
          signal = h.signal;
          sent = sent_by s2 u a h.store ahead fresh h.told (with_view_marks t.space q.views sent.row) found h.signal signal_is;
          full =
              ap (λ (rs : List (ThreadNo × Vpn)). is_some (full_among s2.threads (map (λ r. r.0) rs))) (same_receivers (with_view_marks t.space q.views) keeps s h.signal.frame s.rows)
              ∙ ap is_some (same_full s.threads n t u2 here refl goes_on (to s)) ∙ h.full;
        };
        copies = λ v there.
            page_stays (touched_views q.views) s.memory v.frame v.first within whole (λ w w_there equal.
            let w_in = in_views q.views w w_there in
            let frames : w.frame ≡ v.frame = ap (λ (k : ℕ). let f : Frame = record { 0 = k } in f) equal in
            spared.views w w_in (ap (λ (f : Frame). slice_get watched f.0) frames ∙ known.watched v there)
            ∙ sym (copies w w_in) ∙ ap (page_at s.memory) frames ∙ known.copies v there) (known.copies v there);
        watched = known.watched;
      }

-- who is known to be held is still, once such steps happened
pub knows_still : (s : FlatState) (n : ℕ) (t : FlatThread) (q : Ahead) (order : Order) → slice_get s.threads n ≡ Some t → t.status ≡ Ready → slice_get order.held.items n ≡ Some false → AreSpared order.watched.items q
    → ((v : View) → Contains (touched_views q.views) v → HasFrame s.memory v.frame) → ((v : View) → Contains (touched_views q.views) v → length v.present ≡ 4096) → AreCopies s.memory q.views
    → Knows s order → Knows (committed s n t q) order
knows_still s n t q order here ready free spared within whole copies knows k u noted there =
    let u2 : FlatThread = record t { context = q.context; status = status_by q.paused } in
    let apart : k ≢ n = λ same. (let e : Some true ≡ Some false = sym noted ∙ ap (slice_get order.held.items) same ∙ free in cc) in
    one_stays s n t q order.watched.items here ready spared within whole copies u (knows k u noted (sym (get-set_other s.threads n k u2 apart) ∙ there))
