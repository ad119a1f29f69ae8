-- What holds of the tables once a content came in the place of a loaded one.
use Rattle.std.proofs.Common.{◌≡◌, ◌≢◌, ◌⊎◌, ℕ, ◌<◌, ◌≤◌, Bool, true, false, cond, ◌&&◌, List, [], map, filter, length, Option, Some, None, is_some, IsSome, slice_get, slice_set, Contains, refl, ap, ap₂, sym, ◌∙◌, subst, inl, inr}
use Rattle.std.specs.Prelude.{if◌then◌else◌, ◌==◌}
use Rattle.std.specs.Option.{option_map}
use Rattle.std.proofs.lemmas.Bool.{cases_eq}
use Rattle.cache_ident.specs.declared.idents.Ident.{Ident}
use Rattle.cache_ident.specs.declared.names.Caps.{Caps}
use Rattle.cache_ident.specs.declared.names.Frame.{Frame}
use Rattle.cache_ident.specs.declared.names.KernelNo.{KernelNo}
use Rattle.cache_ident.specs.declared.names.Name.{Name}
use Rattle.cache_ident.specs.declared.names.Name.TheVariants as name
use Rattle.cache_ident.specs.declared.names.SpaceNo.{SpaceNo}
use Rattle.cache_ident.specs.declared.names.ThreadNo.{ThreadNo}
use Rattle.cache_ident.specs.declared.names.Vpn.{Vpn}
use Rattle.cache_ident.specs.Residents.{Resident}
use Rattle.depend_lists.specs.declared.nodes.Node.{Node}
use Rattle.phys_groups.specs.declared.rows.Flags.{Flags}
use Rattle.phys_groups.specs.declared.rows.Row.{Row}
use Rattle.phys_groups.specs.Rows.{row_name, HasOneRowAPage}
use Rattle.phys_groups.specs.Translation.{covers, is_row_of, row_of}
use Rattle.row_store.specs.signal_pages.specs.Signals.{is_signal_row_of}
use Rattle.kernel_cache.specs.declared.KernelRec.{KernelRec}
use Rattle.desc_groups.specs.space_cache.specs.declared.SpaceRec.{SpaceRec}
use Rattle.desc_groups.specs.flat_state.specs.declared.events.Machine.{Machine}
use Rattle.desc_groups.specs.flat_state.specs.declared.records.FlatThread.{FlatThread}
use Rattle.desc_groups.specs.flat_state.specs.Declaration.{agree}
use Rattle.desc_groups.specs.flat_state.specs.State.{FlatState}
use Rattle.desc_groups.specs.flat_state.specs.Translation.{is_fit_row, rights_of}
use Rattle.desc_groups.specs.flat_state.specs.Dependence.{owner, signal_rows_of}
use Rattle.desc_groups.specs.flat_state.proofs.Finding.{find-contains}
use Rattle.desc_groups.specs.flat_state.proofs.Places.{get-set_same, get-set_other}
use Rattle.desc_groups.specs.flat_laws.proofs.Members.{Contains-from_map}
use Rattle.desc_groups.specs.run_journal.specs.Legal.{AreGood}
use Rattle.desc_groups.specs.group_laws.proofs.Ranks.{own_row}
use Rattle.row_store.specs.kind_store.specs.Changes.{is_name}
use Rattle.desc_groups.specs.desc_stores.specs.declared.items.Item.{Item}
use Rattle.desc_groups.specs.desc_stores.specs.declared.items.Item.TheVariants as item
use Rattle.desc_groups.specs.desc_stores.specs.Changes.{with_item, with_named, HasContent, KeepsContents}
use Rattle.desc_groups.specs.desc_stores.specs.Contents.{content_of, item_as, residents_of, Contents}
use Rattle.desc_groups.specs.desc_stores.specs.Items.{name_of, Agrees}
use Rattle.desc_groups.specs.desc_stores.specs.Sound.{AreOwned, IsExactlyOne}
use Rattle.row_store.specs.owner_shelf.proofs.NameLemmas.{same_by_eq}
use Rattle.desc_groups.specs.shown_state.specs.Shown.{flat_thread, row_of_item, shown, thread_of, HasSameNames}
use Rattle.desc_groups.specs.shown_state.specs.Edits.{in_place_of, with_changed}
use Rattle.desc_groups.specs.shown_state.specs.Owning.{OwnersStay}
use Rattle.desc_groups.specs.shown_state.proofs.AlikeLemmas.{alike_kept, shown_alike}
use Rattle.desc_groups.specs.shown_state.proofs.ChangeLemmas.{change_shown}
use Rattle.desc_groups.specs.shown_state.proofs.ContentLemmas.{item_has_name, named_by_page}
use Rattle.desc_groups.specs.shown_state.proofs.LookupLemmas.{found_row, found_thread, one_row_a_page}
use Rattle.desc_groups.specs.shown_state.proofs.MoveLemmas.{names_changed}
use Rattle.desc_groups.specs.shown_state.proofs.OwnerLemmas.{owners_row, owners_thread, stays_owned}
use Rattle.desc_groups.specs.shown_state.proofs.UpdateLemmas.{agreed_name, loaded_content}
use Rattle.desc_groups.specs.store_residents.specs.Slots.{KeepsSlots}
use Rattle.desc_groups.specs.store_residents.proofs.StayLemmas.{slots-changing}
use Rattle.desc_groups.specs.desc_parents.specs.Seen.{seen, HasPlainRows}
use Rattle.desc_groups.specs.declared.departures.Gone.{Gone}
use Rattle.desc_tables.specs.Calls.{IsLike}
use Rattle.desc_tables.specs.Tables.{ArePlaced, AreSound}
use Rattle.desc_tables.proofs.LikeLemmas.{fit_there, like_for, KeepsLoaded}
use Rattle.desc_tables.proofs.ListLemmas.{count_by-changed, find-changed, map-filter-changed}
use Rattle.desc_tables.proofs.NamedLemmas.{names_named, slots_named}
use Rattle.desc_tables.proofs.SoundLemmas.{sound_kept, sound_like, IsLikeFor, RoomIn}

-- what is like agrees
pub like_agrees : (was new : Item) → IsLike was new → Agrees was new
like_agrees (item.Kernel was) (item.Kernel kernel) like = ap (λ k. k.no) like
like_agrees (item.Space was) (item.Space space) like = ap (λ s. s.no) like
like_agrees (item.Thread was) (item.Thread thread) like = like.0
like_agrees (item.Mapping was) (item.Mapping row) like = like
like_agrees _ _ like = absurd like

-- who owns what is on a shelf, whatever came in the place of what is loaded
owned_item : (owner_of : Name → Option KernelNo) (c : Contents) (ident : Ident) (it : Item) → AreOwned owner_of c → AreOwned owner_of (with_item c ident it)
owned_item owner_of c ident (item.Kernel kernel) o = record { kernels = o.kernels; spaces = o.spaces; threads = o.threads; rows = o.rows }
owned_item owner_of c ident (item.Space space) o = record { kernels = o.kernels; spaces = o.spaces; threads = o.threads; rows = o.rows }
owned_item owner_of c ident (item.Thread thread) o = record { kernels = o.kernels; spaces = o.spaces; threads = o.threads; rows = o.rows }
owned_item owner_of c ident (item.Mapping row) o = record { kernels = o.kernels; spaces = o.spaces; threads = o.threads; rows = o.rows }

-- where the same content came, nothing changed
same_contents : (old new : Contents) (it : Item) → content_of old (name_of it) ≡ Some it → HasContent old new it → KeepsContents old new
same_contents old new it there has n = has n ∙ by (is_name (name_of it) n) refl
  where
    by : (b : Bool) → is_name (name_of it) n ≡ b → cond b (Some it) (content_of old n) ≡ content_of old n
    by true is = sym there ∙ ap (content_of old) (same_by_eq (name_of it) n is)
    by false is = refl

-- a thread that changed, but not in its space
module _ (s : FlatState) (rs : List Resident) (good : AreGood s rs) (n : ℕ) (was now : FlatThread) (here : slice_get s.threads n ≡ Some was) (same : was.space ≡ now.space) where
  abbrev with_threads : FlatState
  with_threads = record s { threads = slice_set s.threads n now }

  thread_stays : (k : ℕ) (t : FlatThread) → slice_get s.threads k ≡ Some t → (k ≡ n) ⊎ (k ≢ n) → (u : FlatThread) × (slice_get (slice_set s.threads n now) k ≡ Some u) × (u.space ≡ t.space)
  thread_stays k t at (inl is) =
      let there : slice_get s.threads n ≡ Some t = subst (λ (m : ℕ). slice_get s.threads m ≡ Some t) is at in
      let one : was ≡ t = cc in
      (now, subst (λ (m : ℕ). slice_get (slice_set s.threads n now) m ≡ Some now) (sym is) (get-set_same s.threads n now was here), sym same ∙ ap (λ (x : FlatThread). x.space) one)
  thread_stays k t at (inr other) = (t, get-set_other s.threads n k now other ∙ at, refl)

  keeps_thread : KeepsLoaded s with_threads rs
  keeps_thread = record {
    kernels = λ k some. some;
    spaces = λ k kernel at. at;
    threads = λ k t at. thread_stays k t at (cases_eq k n);
    rows = λ r space vpn x there is at. record { row = x; there = at; space = refl; message = refl; receiver = refl; signals = refl; fit = fit_there s rs good r space vpn x there is at };
  }

-- alike but for their marks
record IsAlike (x y : Row) : Type 0 where
  space : x.space ≡ y.space
  vpn : x.vpn ≡ y.vpn
  frame : x.frame ≡ y.frame
  flags : x.flags ≡ y.flags
  receiver : x.receiver ≡ y.receiver

-- a row that changed in its marks
module _ (s : FlatState) (single : HasOneRowAPage s.rows) (was now : Row) (here : row_of s.rows was.space was.vpn.0 ≡ Some was) (named : row_name was ≡ row_name now) (framed : was.frame ≡ now.frame) (flagged : was.flags ≡ now.flags) (received : was.receiver ≡ now.receiver) where
  abbrev change : Row → Row
  change = in_place_of now

  abbrev with_rows : FlatState
  with_rows = record s { rows = map change s.rows }

  alike : (x : Row) → Contains s.rows x → IsAlike (change x) x
  alike x there = by (is_row_of now.space now.vpn.0 x) refl
    where
      by : (b : Bool) → is_row_of now.space now.vpn.0 x ≡ b → IsAlike (cond b now x) x
      by false is = record { space = refl; vpn = refl; frame = refl; flags = refl; receiver = refl }
      by true is =
          let its : row_name x ≡ row_name now = named_by_page now.space now.vpn x is in
          let same_space : x.space ≡ was.space = cc in
          let same_vpn : x.vpn ≡ was.vpn = cc in
          let own : row_of s.rows x.space x.vpn.0 ≡ Some x = own_row s.rows single x there in
          let found : row_of s.rows x.space x.vpn.0 ≡ Some was = ap₂ (λ (space : SpaceNo) (vpn : Vpn). row_of s.rows space vpn.0) same_space same_vpn ∙ here in
          let one : was ≡ x = cc in
          let now_space : now.space ≡ x.space = cc in
          let now_vpn : now.vpn ≡ x.vpn = cc in
          record { space = now_space; vpn = now_vpn; frame = sym framed ∙ ap (λ (r : Row). r.frame) one; flags = sym flagged ∙ ap (λ (r : Row). r.flags) one; receiver = sym received ∙ ap (λ (r : Row). r.receiver) one }

  fits : (x y : Row) → IsAlike x y → is_fit_row s x ≡ is_fit_row s y
  fits x y like =
      ap₂ (λ (space : SpaceNo) (flags : Flags). covers (rights_of s space) x.frame flags) like.space like.flags
      ∙ ap (λ (frame : Frame). covers (rights_of s y.space) frame y.flags) like.frame

  signals : (frame : Frame) (x y : Row) → IsAlike x y → is_signal_row_of frame x ≡ is_signal_row_of frame y
  signals frame x y like = ap₂ (λ (f : Frame) (r : Option ThreadNo). (f.0 == frame.0) && is_some r) like.frame like.receiver

  passes : (frame : Frame) (x y : Row) → IsAlike x y → (is_signal_row_of frame x && is_fit_row s x) ≡ (is_signal_row_of frame y && is_fit_row s y)
  passes frame x y like = ap₂ (λ (a b : Bool). a && b) (signals frame x y like) (fits x y like)

  same_page : (space : SpaceNo) (vpn : ℕ) (x : Row) → Contains s.rows x → is_row_of space vpn (change x) ≡ is_row_of space vpn x
  same_page space vpn x there = ap₂ (λ (a : SpaceNo) (b : Vpn). (a.0 == space.0) && (b.0 == vpn)) (alike x there).space (alike x there).vpn

  same_signals : (x : Row) → IsAlike (change x) x → map row_name (signal_rows_of with_rows (change x)) ≡ map row_name (signal_rows_of s x)
  same_signals x like =
      ap₂ (λ (flags : Flags) (frame : Frame). map row_name (if flags.m then filter (λ other. is_signal_row_of frame other && is_fit_row s other) (map change s.rows) else [])) like.flags like.frame
      ∙ by x.flags.m
    where
      by : (m : Bool) → map row_name (if m then filter (λ other. is_signal_row_of x.frame other && is_fit_row s other) (map change s.rows) else []) ≡ map row_name (if m then filter (λ other. is_signal_row_of x.frame other && is_fit_row s other) s.rows else [])
      by true =
          map-filter-changed row_name (λ other. is_signal_row_of x.frame other && is_fit_row s other) (λ other. is_signal_row_of x.frame other && is_fit_row s other) change s.rows
          (λ y there. (passes x.frame (change y) y (alike y there), ap₂ name.Mapping (alike y there).space (alike y there).vpn))
      by false = refl

  keeps_row : (rs : List Resident) → AreGood s rs → KeepsLoaded s with_rows rs
  keeps_row rs good = record {
    kernels = λ k some. some;
    spaces = λ k kernel at. at;
    threads = λ k t at. (t, at, refl);
    rows = λ r space vpn x there is at.
        let like = alike x (find-contains (is_row_of space vpn.0) s.rows x at) in
        record {
          row = change x;
          there = find-changed (is_row_of space vpn.0) change s.rows (same_page space vpn.0) ∙ ap (option_map change) at;
          space = like.space;
          message = ap (λ (f : Flags). f.m) like.flags;
          receiver = like.receiver;
          signals = same_signals x like;
          fit = fits (change x) x like ∙ fit_there s rs good r space vpn x there is at;
        };
  }

  plain_changed : HasPlainRows s → HasPlainRows with_rows
  plain_changed plain = record {
    agreed = λ row there.
        let from = Contains-from_map change s.rows row there in
        let like = alike from.0 from.1 in
        subst (λ (y : Row). agree y.flags (is_some y.receiver) ≡ true) from.2 (ap₂ (λ (flags : Flags) (r : Option ThreadNo). agree flags (is_some r)) like.flags like.receiver ∙ plain.agreed from.0 from.1);
    framed = λ row there.
        let from = Contains-from_map change s.rows row there in
        subst (λ (frame : Frame). frame.0 < 2048) (sym (alike from.0 from.1).frame ∙ ap (λ (y : Row). y.frame) from.2) (plain.framed from.0 from.1);
    few = λ frame. subst (λ (n : ℕ). n ≤ 4) (sym (count_by-changed (is_signal_row_of frame) change s.rows (λ x there. signals frame (change x) x (alike x there)))) (plain.few frame);
  }

  placed_changed : ArePlaced s → ArePlaced with_rows
  placed_changed placed = record {
    spaces = placed.spaces;
    rows = λ row there.
        let from = Contains-from_map change s.rows row there in
        subst (λ (space : SpaceNo). space.0 < length s.spaces) (sym (alike from.0 from.1).space ∙ ap (λ (y : Row). y.space) from.2) (placed.rows from.0 from.1);
  }

-- a content of one name came in the place of another, while the same names stand, in as many slots
module _ (caps : Caps) (old new : Contents) (gone : List Gone) (left : List Name) (pairs : List (Ident × Node)) (sound : AreSound (record { caps = caps; contents = old; gone = gone; left = left }) pairs) (one : IsExactlyOne new) (residents : residents_of new ≡ residents_of old) (names : HasSameNames old new) (slots : KeepsSlots old new) (owned : AreOwned (owner (seen old)) new) where
  -- where the same content came
  same_item : (it : Item) → content_of old (name_of it) ≡ Some it → HasContent old new it → AreSound (record { caps = caps; contents = new; gone = gone; left = left }) pairs
  same_item it there has =
      let keeps = same_contents old new it there has in
      sound_kept caps old new gone left pairs sound one slots residents (shown_alike None [] old new (alike_kept old new keeps names)) keeps owned

  -- where one came that is no kernel, after which owners stay
  module _ (it : Item) (there : IsSome (content_of old (name_of it))) (has : HasContent old new it) where
    shows : seen new ≡ with_changed (seen old) it
    shows = change_shown None [] old new sound.whole.one names it has there

    owned_changed : OwnersStay (seen old) (with_changed (seen old) it) → AreOwned (owner (seen new)) new
    owned_changed stay = stays_owned new (owner (seen old)) (owner (seen new)) (λ n kernel some at. subst (λ (s : FlatState). owner s n ≡ Some kernel) (sym shows) (stay n kernel at)) owned

    -- a kernel has the content that it had
    kernel_kept : ((kernel : KernelRec) → it ≡ item.Kernel kernel → ⊥) → (n : Name) (kernel : KernelRec) → content_of new n ≡ Some (item.Kernel kernel) → content_of old n ≡ Some (item.Kernel kernel)
    kernel_kept none n kernel at = by (is_name (name_of it) n) (sym (has n) ∙ at)
      where
        by : (b : Bool) → cond b (Some it) (content_of old n) ≡ Some (item.Kernel kernel) → content_of old n ≡ Some (item.Kernel kernel)
        by true same = absurd (let clash : it ≡ item.Kernel kernel = cc in none kernel clash)
        by false same = same

    changed : ((kernel : KernelRec) → it ≡ item.Kernel kernel → ⊥) → OwnersStay (seen old) (with_changed (seen old) it) → HasPlainRows (with_changed (seen old) it) → KeepsLoaded (seen old) (with_changed (seen old) it) (residents_of old) → RoomIn caps (with_changed (seen old) it) → ArePlaced (with_changed (seen old) it) → AreSound (record { caps = caps; contents = new; gone = gone; left = left }) pairs
    changed none stay plain keeps room placed =
        sound_like caps old new gone left pairs sound one slots residents
        (subst HasPlainRows (sym shows) plain)
        (subst (λ (s : FlatState). IsLikeFor (seen old) s (residents_of old)) (sym shows) (like_for (seen old) (with_changed (seen old) it) (residents_of old) sound.whole.good keeps))
        (owned_changed stay)
        (λ n kernel at. sound.whole.counted n kernel (kernel_kept none n kernel at))
        (subst (RoomIn caps) (sym shows) room)
        (λ n kernel at. sound.limited n kernel (kernel_kept none n kernel at))
        (subst ArePlaced (sym shows) placed)

  -- whatever came that is like what was there
  pub sound_replaced : (was it : Item) → content_of old (name_of was) ≡ Some was → IsLike was it → HasContent old new it → AreSound (record { caps = caps; contents = new; gone = gone; left = left }) pairs
  sound_replaced (item.Kernel was) (item.Kernel kernel) there like has = same_item (item.Kernel kernel) (subst (λ (k : KernelRec). content_of old (name_of (item.Kernel k)) ≡ Some (item.Kernel k)) like there) has
  sound_replaced (item.Space was) (item.Space space) there like has = same_item (item.Space space) (subst (λ (k : SpaceRec). content_of old (name_of (item.Space k)) ≡ Some (item.Space k)) like there) has
  sound_replaced (item.Thread was) (item.Thread thread) there like has =
      let found : content_of old (name.Thread thread.no) ≡ Some (item.Thread was) = ap (λ (no : ThreadNo). content_of old (name.Thread no)) (sym like.0) ∙ there in
      let here : slice_get (seen old).threads thread.no.0 ≡ Some (flat_thread was) = found_thread None [] old sound.whole.one thread.no.0 ∙ ap thread_of found in
      changed (item.Thread thread) (subst (λ o. IsSome o) (sym found) refl) has
      (λ kernel clash. (cc))
      (owners_thread (seen old) thread (flat_thread was) here like.1)
      (record { agreed = sound.whole.rows.agreed; framed = sound.whole.rows.framed; few = sound.whole.rows.few })
      (keeps_thread (seen old) (residents_of old) sound.whole.good thread.no.0 (flat_thread was) (flat_thread thread) here like.1)
      sound.room
      (record { spaces = sound.placed.spaces; rows = sound.placed.rows })
  sound_replaced (item.Mapping was) (item.Mapping row) there like has =
      let found : content_of old (row_name row) ≡ Some (item.Mapping was) = ap (content_of old) (sym like.0) ∙ there in
      let here : row_of (seen old).rows was.space was.vpn.0 ≡ Some was = found_row None [] old sound.whole.one was.space was.vpn ∙ ap row_of_item there in
      let single = one_row_a_page None [] old sound.whole.one in
      changed (item.Mapping row) (subst (λ o. IsSome o) (sym found) refl) has
      (λ kernel clash. (cc))
      (owners_row (seen old) row)
      (plain_changed (seen old) single was row here like.0 like.1 like.2 like.3 sound.whole.rows)
      (keeps_row (seen old) single was row here like.0 like.1 like.2 like.3 (residents_of old) sound.whole.good)
      sound.room
      (placed_changed (seen old) single was row here like.0 like.1 like.2 like.3 sound.placed)
  sound_replaced _ _ there like has = absurd like

-- what is shown then, whatever the machine
pub shown_replaced : (old new : Contents) (was it : Item) → IsExactlyOne old → HasSameNames old new → content_of old (name_of was) ≡ Some was → IsLike was it → HasContent old new it → (machine : Option Machine) (memory : List ℕ) → shown machine memory new ≡ with_changed (shown machine memory old) it
shown_replaced old new was it one names there like has machine memory =
    change_shown machine memory old new one names it has
    (subst (λ (o : Option Item). IsSome o) (sym there ∙ ap (content_of old) (agreed_name was it (like_agrees was it like))) refl)

-- once one came in the place of what is loaded with an identifier
module _ (old new : Contents) (ident : Ident) (was it : Item) (at : item_as old ident ≡ Some was) (like : IsLike was it) (has : HasContent old new it) (is : new ≡ with_item old ident it) where
  pub sound_changed : (caps : Caps) (gone : List Gone) (left : List Name) (pairs : List (Ident × Node)) → AreSound (record { caps = caps; contents = old; gone = gone; left = left }) pairs → IsExactlyOne new → residents_of new ≡ residents_of old → AreSound (record { caps = caps; contents = new; gone = gone; left = left }) pairs
  sound_changed caps gone left pairs sound one residents =
      sound_replaced caps old new gone left pairs sound one residents (names_changed old new ident it is) (slots-changing old new ident it is)
      (subst (AreOwned (owner (seen old))) (sym is) (owned_item (owner (seen old)) old ident it sound.whole.owned))
      was it (loaded_content old sound.whole.one ident was at) like has

  pub shown_changed : IsExactlyOne old → (machine : Option Machine) (memory : List ℕ) → shown machine memory new ≡ with_changed (shown machine memory old) it
  shown_changed one machine memory = shown_replaced old new was it one (names_changed old new ident it is) (loaded_content old one ident was at) like has machine memory

-- once one came in the place of the content of a name
module _ (old new : Contents) (n : Name) (was it : Item) (at : content_of old n ≡ Some was) (like : IsLike was it) (has : HasContent old new it) (is : new ≡ with_named old it) where
  found_named : content_of old (name_of was) ≡ Some was
  found_named = ap (content_of old) (item_has_name old n was at) ∙ at

  pub sound_named : (caps : Caps) (gone : List Gone) (left : List Name) (pairs : List (Ident × Node)) → AreSound (record { caps = caps; contents = old; gone = gone; left = left }) pairs → IsExactlyOne new → residents_of new ≡ residents_of old → AreOwned (owner (seen old)) new → AreSound (record { caps = caps; contents = new; gone = gone; left = left }) pairs
  sound_named caps gone left pairs sound one residents owned = sound_replaced caps old new gone left pairs sound one residents (names_named old new it is) (slots_named old new it is) owned was it found_named like has

  pub shown_named : IsExactlyOne old → (machine : Option Machine) (memory : List ℕ) → shown machine memory new ≡ with_changed (shown machine memory old) it
  shown_named one machine memory = shown_replaced old new was it one (names_named old new it is) found_named like has machine memory

  -- it has the name
  pub called_named : name_of it ≡ n
  called_named = sym (agreed_name was it (like_agrees was it like)) ∙ item_has_name old n was at
