-- What the parts of a completion leave of the machine.
use Rattle.std.proofs.Common.{◌≡◌, ℕ, ◌<◌, Bool, true, false, not, List, [], ◌∷◌, filter, length, zero, suc, Option, Some, None, slice_get, set, refl, sym, ◌∙◌, ap, subst, subst₂, arith}
use Rattle.std.specs.List.{find}
use Rattle.std.specs.Prelude.{if◌then◌else◌, is_some, Result, Ok, Err, OnErr, OnOk}
use Rattle.std.proofs.lemmas.List.{set-get_or}
use Rattle.std.proofs.lemmas.Option.{get_or_from_slice_get, same_Some, slice_get_within}
use Rattle.std.proofs.lemmas.Result.{on_err_weaker, on_ok_weaker}
use Rattle.cache_ident.specs.declared.names.Caps.{Caps}
use Rattle.cache_ident.specs.declared.names.Name.{Name}
use Rattle.cache_ident.specs.declared.names.Name.TheVariants as name
use Rattle.cache_ident.specs.declared.names.SpaceNo.{SpaceNo}
use Rattle.cache_ident.specs.declared.names.ThreadNo.{ThreadNo}
use Rattle.cache_ident.specs.declared.names.Vpn.{Vpn}
use Rattle.phys_groups.specs.declared.rows.Row.{Row}
use Rattle.phys_groups.specs.Translation.{is_row_of, without}
use Rattle.flat_state.specs.declared.events.Machine.{Machine}
use Rattle.flat_state.specs.declared.records.FlatThread.{FlatThread}
use Rattle.flat_state.specs.Names.{stands}
use Rattle.flat_state.specs.State.{FlatState, with_thread}
use Rattle.flat_rules.specs.Readings.{OfThread}
use Rattle.flat_thread.specs.Calls.{own_part}
use Rattle.flat_machine.proofs.ChangeSound.{in_place, own_sound, without_sound}
use Rattle.flat_machine.proofs.DeclareSound.{Sound}
use Rattle.thread_cache.specs.declared.ThreadRec.{ThreadRec}
use Rattle.board_laws.specs.desc_stores.specs.declared.items.Item.{Item}
use Rattle.board_laws.specs.desc_stores.specs.declared.items.Item.TheVariants as item
use Rattle.board_laws.specs.desc_stores.specs.Changes.{room_of, HasContent}
use Rattle.board_laws.specs.desc_stores.specs.Contents.{content_of, residents_of, Contents}
use Rattle.board_laws.specs.desc_stores.specs.Items.{name_of}
use Rattle.board_laws.specs.desc_stores.specs.Sound.{IsExactlyOne}
use Rattle.board_laws.specs.shown_state.specs.Edits.{with_changed, IsRetraction}
use Rattle.board_laws.specs.shown_state.specs.Shown.{flat_thread, shown, thread_of}
use Rattle.board_laws.specs.shown_state.proofs.ChangeLemmas.{at_name}
use Rattle.board_laws.specs.shown_state.proofs.DeclareLemmas.{retraction_shown}
use Rattle.board_laws.specs.shown_state.proofs.LookupLemmas.{all_found}
use Rattle.thread_sets.specs.Sets.{noted, Sets}
use Rattle.thread_sets.specs.SetsOf.{AreSetsOf}
use Rattle.thread_sets.proofs.SetsLemmas.{sets_noted}
use Rattle.board_laws.specs.desc_tables.specs.Tables.{Held}
use Rattle.cached_machine.specs.Aside.{aside_of, Aside}
use Rattle.cached_machine.specs.Cached.{state_of, Cached, IsSoundMachine}
use Rattle.cached_machine.specs.Moved.{KeepsBeside, KeepsPost, OnlyRoom}
use Rattle.cached_machine.specs.Posts.{last_in, mark_in, OnlyLoadedAreOut}
use Rattle.cached_machine.specs.Stepping.{IfThread}
use Rattle.cached_machine.proofs.AsideLaws.{checked_alike, marked_alike}
use Rattle.cached_machine.proofs.MadeLaws.{beside_held, held_with, held_without, out_kept, room_held, sound_as, KeepsHeld}

-- ---- beside the state

-- what a step leaves is kept beside the state
pub beside_aside : (m m' : Cached) → aside_of m' ≡ aside_of m → KeepsBeside m m'
beside_aside m m' same =
    let residents : residents_of m'.held.contents ≡ residents_of m.held.contents = ap (λ (a : Aside). a.residents) same in
    let content = λ (n : Name). ap (λ (a : Aside). a.contents n) same in
    record {
      machine = ap (λ (a : Aside). a.machine) same;
      caps = ap (λ (a : Aside). a.caps) same;
      gone = ap (λ (a : Aside). a.gone) same;
      spare = ap (λ (a : Aside). a.spare) same;
      loaded = record { residents = residents; issued = ap (λ (a : Aside). a.issued) same };
      marks = record {
        marks = λ whom. sym (marked_alike (content_of m'.held.contents (name.Thread whom))) ∙ ap mark_in (content (name.Thread whom)) ∙ marked_alike (content_of m.held.contents (name.Thread whom));
        lasts = λ whom. sym (checked_alike (content_of m'.held.contents (name.Thread whom))) ∙ ap last_in (content (name.Thread whom)) ∙ checked_alike (content_of m.held.contents (name.Thread whom));
      };
    }

-- ---- declarations

-- the thread of a number below the count
pub found_at : (threads : List FlatThread) (n : ℕ) → n < length threads → (t : FlatThread) × (slice_get threads n ≡ Some t)
found_at [] n within = absurd (omega arith)
found_at (t ∷ threads) zero within = (t, refl)
found_at (t ∷ threads) (suc n) within = found_at threads n (omega arith)

-- ---- rows

none_passes : (p : Row → Bool) (rows : List Row) → find p (filter (λ row. not (p row)) rows) ≡ None
none_passes p [] = refl
none_passes p (row ∷ rows) = by (none_passes p rows) (p row) refl
  where
    by : find p (filter (λ row. not (p row)) rows) ≡ None → (b : Bool) → p row ≡ b → find p (if not (p row) then row ∷ filter (λ row. not (p row)) rows else filter (λ row. not (p row)) rows) ≡ None
    by later true is = rw is later
    by later false is = rw (is, is) later

-- a row that goes doesn't stand afterwards, whatever its thread is answered
pub row_gone : (s : FlatState) (space : SpaceNo) (vpn : Vpn) (n : ℕ) (u : FlatThread) → stands (with_thread (record s { rows = without space vpn.0 s.rows }) n u) (name.Mapping space vpn) ≡ false
unfolding stands
row_gone s space vpn n u = ap (λ (o : Option Row). is_some o) (none_passes (is_row_of space vpn.0) s.rows)

-- the row of a page went
module _ (machine : Machine) (memory : List ℕ) (h h' : Held) (sets : Sets) (space : SpaceNo) (vpn : Vpn) (rest : h' ≡ record h { contents = h'.contents }) (gone : IsRetraction h.contents h'.contents space vpn) where
  abbrev with_it : Cached
  with_it = record { machine = machine; memory = memory; held = h; sets = sets }

  abbrev without_it : Cached
  without_it = record { machine = machine; memory = memory; held = h'; sets = sets }

  pub row_went : state_of without_it ≡ record (state_of with_it) { rows = without space vpn.0 (state_of with_it).rows }
  row_went = retraction_shown (Some machine) memory h.contents h'.contents space vpn gone

  pub row_went_sound : (granted : Caps) → residents_of h'.contents ≡ residents_of h.contents → IsSoundMachine with_it granted × OnlyLoadedAreOut h.contents → IsSoundMachine without_it granted × OnlyLoadedAreOut h'.contents
  row_went_sound granted residents sound =
      let s = state_of with_it in
      let kept = held_without h h' rest residents (ap (λ (c : Contents). c.issued) gone.only) space vpn gone.contents in
      let fits = without_sound s granted (record { formed = sound.0.formed; sums = sound.0.sums }) space vpn.0 in
      (sound_as with_it without_it granted granted refl (ap (λ (x : Held). x.caps) rest) sound.0 (record s { rows = without space vpn.0 s.rows }) row_went fits sound.0.sets, out_kept h h' kept sound.1)

-- ---- a thread's own part

module _ (s : FlatState) (granted : Caps) (sound : Sound s granted) (n : ℕ) (t u : FlatThread) (here : slice_get s.threads n ≡ Some t) where
  -- a thread as its call left it, or as it was
  own_fits : {T E : Type 0} (r : Result T E) → OnOk r (u ≡ own_part t) → OnErr r (u ≡ t) → Sound (with_thread s n u) granted
  own_fits (Ok x) ok err = subst (λ (v : FlatThread). Sound (with_thread s n v) granted) (sym ok) (own_sound s granted sound n t here)
  own_fits (Err e) ok err = subst (λ (v : FlatThread). Sound (with_thread s n v) granted) (sym err) (in_place s granted sound n t here t refl refl refl refl (omega arith))

-- a thread in its own place
unchanged : (s : FlatState) (n : ℕ) (t : FlatThread) → slice_get s.threads n ≡ Some t → with_thread s n t ≡ s
unchanged s n t here =
    ap (λ (u : FlatThread). with_thread s n u) (sym (get_or_from_slice_get s.threads n t t here))
    ∙ ap (λ (threads : List FlatThread). record s { threads = threads }) (set-get_or s.threads n t)

module _ (machine : Machine) (memory : List ℕ) (h h' : Held) (sets sets' : Sets) (no : ThreadNo) (one : IsExactlyOne h.contents) (was left : ThreadRec) (there : content_of h.contents (name.Thread no) ≡ Some (item.Thread was)) (named : name_of (item.Thread left) ≡ name.Thread no) (post : KeepsPost was left) where
  abbrev before : Cached
  before = record { machine = machine; memory = memory; held = h; sets = sets }

  abbrev after : Cached
  after = record { machine = machine; memory = memory; held = h'; sets = sets' }

  left_no : left.no ≡ no
  left_no = by named
    where
      by : name.Thread left.no ≡ name.Thread no → left.no ≡ no
      by e = cc e

  -- it stood there
  pub stood : slice_get (state_of before).threads no.0 ≡ Some (flat_thread was)
  stood = (all_found (Some machine) memory h.contents one).threads no.0 ∙ ap thread_of there

  its_content : content_of h.contents (name_of (item.Thread left)) ≡ Some (item.Thread was)
  its_content = subst (λ (n : Name). content_of h.contents n ≡ Some (item.Thread was)) (sym named) there

  pub held_left : h' ≡ record h { contents = h'.contents } → residents_of h'.contents ≡ residents_of h.contents → h'.contents.issued ≡ h.contents.issued → HasContent h.contents h'.contents (item.Thread left) → KeepsHeld h h'
  held_left rest residents issued has =
      held_with h h' rest residents issued (item.Thread left) has (post.on_cpu ∙ sym (ap mark_in its_content)) (post.last ∙ sym (ap last_in its_content))

  module _ (shows : (m : Option Machine) (bytes : List ℕ) → shown m bytes h'.contents ≡ with_changed (shown m bytes h.contents) (item.Thread left)) where
    -- and stands there as it was left
    pub now_stands : state_of after ≡ with_thread (state_of before) no.0 (flat_thread left)
    now_stands = shows (Some machine) memory ∙ ap (λ (n : ThreadNo). with_thread (state_of before) n.0 (flat_thread left)) left_no

    sets_after : sets' ≡ noted sets left → AreSetsOf (state_of before).threads sets → AreSetsOf (with_thread (state_of before) no.0 (flat_thread left)).threads sets'
    sets_after is of =
        let threads = (state_of before).threads in
        let within : left.no.0 < length threads = subst (λ (n : ThreadNo). n.0 < length threads) (sym left_no) (slice_get_within threads no.0 (flat_thread was) stood) in
        subst₂ (λ (n : ThreadNo) (ss : Sets). AreSetsOf (set threads n.0 (flat_thread left)) ss) left_no (sym is) (sets_noted threads sets left within of)

    -- where it is one that may stand, the machine is sound
    pub sound_left : (granted : Caps) → h'.caps ≡ h.caps → sets' ≡ noted sets left → Sound (with_thread (state_of before) no.0 (flat_thread left)) granted → IsSoundMachine before granted → IsSoundMachine after granted
    sound_left granted caps is fits sound =
        sound_as before after granted granted refl caps sound (with_thread (state_of before) no.0 (flat_thread left)) now_stands fits (sets_after is sound.sets)

  module _ (has : HasContent h.contents h'.contents (item.Thread left)) (rest : h' ≡ record h { contents = h'.contents }) (residents : residents_of h'.contents ≡ residents_of h.contents) (issued : h'.contents.issued ≡ h.contents.issued) (spare : h'.contents.spare ≡ h.contents.spare) (shows : (m : Option Machine) (bytes : List ℕ) → shown m bytes h'.contents ≡ with_changed (shown m bytes h.contents) (item.Thread left)) (note : IfThread (content_of h'.contents (name.Thread no)) (λ thread. sets' ≡ noted sets thread)) where
    held : KeepsHeld h h'
    held = held_left rest residents issued has

    now_there : content_of h'.contents (name.Thread no) ≡ Some (item.Thread left)
    now_there = subst (λ (n : Name). content_of h'.contents n ≡ Some (item.Thread left)) named (at_name h.contents h'.contents (item.Thread left) has)

    sets_are : sets' ≡ noted sets left
    sets_are = subst (λ (o : Option Item). IfThread o (λ thread. sets' ≡ noted sets thread)) now_there note

    pub carried_beside : KeepsBeside before after
    carried_beside = beside_held before after refl held spare

    module _ {T E : Type 0} (r : Result T E) (ok : OnOk r (flat_thread left ≡ own_part (flat_thread was))) (err : OnErr r (left ≡ was)) where
      pub carried_sound : (granted : Caps) → IsSoundMachine before granted × OnlyLoadedAreOut h.contents → IsSoundMachine after granted × OnlyLoadedAreOut h'.contents
      carried_sound granted sound =
          let fits = own_fits (state_of before) granted (record { formed = sound.0.formed; sums = sound.0.sums }) no.0 (flat_thread was) (flat_thread left) stood r ok (on_err_weaker r (ap flat_thread) err) in
          (sound_left shows granted (ap (λ (x : Held). x.caps) rest) sets_are fits sound.0, out_kept h h' held sound.1)

      pub carried_ok : OnOk r (OfThread (state_of before) no.0 (λ t. state_of after ≡ with_thread (state_of before) no.0 (own_part t)))
      carried_ok = on_ok_weaker r (λ done t here. now_stands shows ∙ ap (λ (u : FlatThread). with_thread (state_of before) no.0 u) (done ∙ ap own_part (same_Some (flat_thread was) t (sym stood ∙ here)))) ok

      pub carried_err : room_of h'.contents ≡ room_of h.contents → OnErr r (OnlyRoom before after)
      carried_err room = on_err_weaker r (λ same.
          room_held before after refl refl held
          (now_stands shows ∙ ap (λ (u : ThreadRec). with_thread (state_of before) no.0 (flat_thread u)) same ∙ unchanged (state_of before) no.0 (flat_thread was) stood)
          (omega (arith, room)) (let same_room : sets'.room ≡ sets.room = ap (λ (x : Sets). x.room) sets_are in omega (arith, same_room)) spare) err
