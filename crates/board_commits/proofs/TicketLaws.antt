-- What a view that was copied for a ticket shows now, where its identifier is live.
use Rattle.std.proofs.Common.{◌≡◌, ℕ, ◌≤◌, true, List, ◌++◌, length, Contains, Some, slice_get, refl, ap, sym, ◌∙◌, subst, arith}
use Rattle.std.proofs.lemmas.List.{take-append-le}
use Rattle.std.proofs.lemmas.Option.{same_Some, slice_get_within}
use Rattle.cache_ident.specs.declared.idents.Ident.{Ident}
use Rattle.cache_ident.specs.declared.names.Name.{Name}
use Rattle.cache_ident.specs.declared.names.Name.TheVariants as name
use Rattle.cache_ident.specs.declared.names.SpaceNo.{SpaceNo}
use Rattle.cache_ident.specs.declared.names.ThreadNo.{ThreadNo}
use Rattle.cache_ident.specs.declared.names.Vpn.{Vpn}
use Rattle.cache_ident.specs.Residents.{IsResident, Resident}
use Rattle.phys_groups.specs.declared.rows.Row.{Row}
use Rattle.phys_groups.specs.Memory.{page_at, HasFrame}
use Rattle.phys_groups.specs.Translation.{is_row_of, row_of}
use Rattle.flat_rules.specs.flat_state.specs.declared.records.FlatThread.{FlatThread}
use Rattle.flat_rules.specs.flat_state.specs.Events.{flat}
use Rattle.flat_rules.specs.flat_state.specs.Names.{is_fit_found, is_fit_name, stands}
use Rattle.flat_rules.specs.flat_state.specs.State.{FlatState}
use Rattle.flat_rules.specs.flat_state.specs.Translation.{is_fit_row}
use Rattle.flat_rules.specs.flat_state.specs.WellFormed.{IsWellFormed}
use Rattle.flat_rules.specs.flat_state.proofs.Finding.{find-contains}
use Rattle.flat_rules.specs.flat_state.proofs.Places.{get-append}
use Rattle.board_threads.specs.page_views.specs.Views.{View}
use Rattle.board_threads.specs.quantum.specs.Ahead.{Ahead}
use Rattle.board_threads.specs.quantum.specs.LocalRun.{Shows}
use Rattle.board_threads.specs.run_journal.specs.declared.entries.Entry.{Entry}
use Rattle.board_threads.specs.run_journal.specs.declared.entries.Entry.TheVariants.{Loaded}
use Rattle.board_threads.specs.run_journal.specs.Entries.{erase}
use Rattle.board_threads.specs.run_journal.specs.Told.{nothing_told, told}
use Rattle.board_threads.specs.run_journal.proofs.Whole.{nothing_whole, whole_from, IsWhole}
use Rattle.board_threads.specs.desc_stores.specs.Contents.{residents_of}
use Rattle.board_threads.specs.shown_state.specs.Shown.{shown}
use Rattle.board_threads.specs.store_residents.proofs.SlotLaws.{what_is_there}
use Rattle.board_threads.specs.board_laws.proofs.Growing.{formed_told}
use Rattle.board_threads.specs.cached_machine.specs.Cached.{state_of, Cached}
use Rattle.board_threads.specs.board_core.specs.Core.{contents_of, IsSound, Recorded}
use Rattle.board_commits.specs.Tickets.{state_at, AreOfTicket, IsCopiedIn, IsThreadIn}
use Rattle.board_commits.proofs.KeptLaws.{kept_stays}
use Rattle.board_commits.proofs.SinceLaws.{still_as_loaded, was_loaded, IsKept, IsSameRow, IsSameThread}

pub memory_shown : (m : Cached) → (state_of m).memory ≡ m.memory
unfolding shown
memory_shown m = refl

module _ (b : Recorded) (sound : IsSound b) where
  pub formed_now : IsWellFormed (state_of b.machine)
  formed_now = formed_told b.machine.machine b.machine.memory (contents_of b) b.sealed b.journal.entries sound.told

  whole : IsWhole (told b.journal.entries)
  whole = whole_from nothing_told b.journal.entries sound.told.legal.each nothing_whole

  told_there : (r : Resident) → Contains (residents_of (contents_of b)) r → Contains (told b.journal.entries).residents r
  told_there r there = subst (λ (rs : List Resident). Contains rs r) (sym sound.told.residents) there

  -- what is loaded stands, and is fit
  module _ (r : Resident) (there : Contains (residents_of (contents_of b)) r) where
    stands_now : stands (state_of b.machine) r.name ≡ true
    stands_now = ap (λ (s : FlatState). stands s r.name) (sym sound.told.state) ∙ (whole.good r (told_there r there)).there

    fit_now : is_fit_name (state_of b.machine) r.name ≡ true
    fit_now = ap (λ (s : FlatState). is_fit_name s r.name) (sym sound.told.state) ∙ (whole.good r (told_there r there)).fit

    module _ (space : SpaceNo) (vpn : Vpn) (named : r.name ≡ name.Mapping space vpn) where
      pub row_now : (row : Row) × (row_of (state_of b.machine).rows space vpn.0 ≡ Some row)
      unfolding stands
      row_now = what_is_there (row_of (state_of b.machine).rows space vpn.0) (ap (stands (state_of b.machine)) (sym named) ∙ stands_now)

      fit_row_now : (row : Row) → row_of (state_of b.machine).rows space vpn.0 ≡ Some row → is_fit_row (state_of b.machine) row ≡ true
      unfolding is_fit_name
      fit_row_now row found = ap (is_fit_found (state_of b.machine)) (sym found) ∙ ap (is_fit_name (state_of b.machine)) (sym named) ∙ fit_now

  -- the frame of a row is in memory
  pub framed_now : (space : SpaceNo) (vpn : ℕ) (row : Row) → row_of (state_of b.machine).rows space vpn ≡ Some row → HasFrame b.machine.memory row.frame
  framed_now space vpn row found =
      let few = (formed_now.rows.each row (find-contains (is_row_of space vpn) (state_of b.machine).rows row found)).frame in
      let size = formed_now.memory.size in
      subst (λ (memory : List ℕ). HasFrame memory row.frame) (memory_shown b.machine) (omega arith)

  -- ---- since a load

  since : (at : ℕ) (ident : Ident) (n : Name) (cpu : ℕ) → slice_get b.journal.entries at ≡ Some (Loaded ident n cpu) → (r : Resident) → Contains (residents_of (contents_of b)) r → r.ident ≡ ident → (r.name ≡ n) × IsKept n (state_at b.journal.entries at) (state_of b.machine)
  since at ident n cpu loaded r there its =
      let now = still_as_loaded b.journal.entries sound.told.legal at ident n cpu loaded r (told_there r there) its in
      (now.0, subst (IsKept n (state_at b.journal.entries at)) sound.told.state now.1)

  -- the thread is of the space still
  pub space_is : (thread : Ident) (whom : ThreadNo) → IsResident (residents_of (contents_of b)) thread (name.Thread whom) → (space : SpaceNo) → IsThreadIn b.journal.entries thread space
      → (t : FlatThread) → slice_get (state_of b.machine).threads whom.0 ≡ Some t → t.space ≡ space
  space_is thread whom r space of t found =
      let now = since of.at thread (name.Thread of.whom) of.cpu of.loaded r.0 r.1 r.2 in
      let names : name.Thread of.whom ≡ name.Thread whom = sym now.0 ∙ r.3 in
      let same : of.whom ≡ whom = cc in
      let kept : IsSameThread (state_at b.journal.entries of.at) (state_of b.machine) of.whom = now.1 in
      let later : kept.later ≡ t = same_Some kept.later t (sym kept.now ∙ ap (λ (w : ThreadNo). slice_get (state_of b.machine).threads w.0) same ∙ found) in
      let first : kept.thread ≡ of.found = same_Some kept.thread of.found (sym kept.its ∙ of.there) in
      ap (λ (x : FlatThread). x.space) (sym later) ∙ kept.space ∙ ap (λ (x : FlatThread). x.space) first ∙ of.its

  -- a view shows what its frame holds now
  module _ (space : SpaceNo) (v : View) (copied : IsCopiedIn b.journal.entries space v) (r : Resident) (there : Contains (residents_of (contents_of b)) r) (its : r.ident ≡ v.row) where
    now : (r.name ≡ name.Mapping space v.vpn) × IsSameRow (state_at b.journal.entries copied.at) (state_of b.machine) space v.vpn
    now = since copied.at v.row (name.Mapping space v.vpn) copied.cpu copied.loaded r there its

    pub named_still : r.name ≡ name.Mapping space v.vpn
    named_still = now.0

    first_row : now.1.row ≡ copied.row
    first_row = same_Some now.1.row copied.row (sym now.1.its ∙ copied.there)

    frame_still : now.1.later.frame ≡ v.frame
    frame_still = now.1.frame ∙ ap (λ (row : Row). row.frame) first_row ∙ copied.frame

    pub shows_still : (bytes : List ℕ) → page_at b.machine.memory v.frame ≡ bytes → Shows (state_of b.machine) space v bytes
    shows_still bytes holds = record {
      row = now.1.later;
      its = now.1.now;
      fit = fit_row_now r there space v.vpn now.0 now.1.later now.1.now;
      frame = frame_still;
      flags = now.1.flags ∙ ap (λ (row : Row). row.flags) first_row ∙ copied.flags;
      holds = ap (λ (memory : List ℕ). page_at memory v.frame) (memory_shown b.machine) ∙ holds;
    }

    pub in_memory_still : HasFrame b.machine.memory v.frame
    in_memory_still = subst (HasFrame b.machine.memory) frame_still (framed_now space v.vpn.0 now.1.later now.1.now)

  -- ---- a view that is copied now

  pub thread_now : (thread : Ident) (whom : ThreadNo) → IsResident (residents_of (contents_of b)) thread (name.Thread whom)
      → (t : FlatThread) → slice_get (state_of b.machine).threads whom.0 ≡ Some t → IsThreadIn b.journal.entries thread t.space
  thread_now thread whom r t found =
      let at = was_loaded b.journal.entries r.0 (told_there r.0 r.1) in
      let loaded : slice_get b.journal.entries at.0 ≡ Some (Loaded thread (name.Thread whom) at.1) =
      at.2 ∙ ap (λ (i : Ident). Some (Loaded i r.0.name at.1)) r.2 ∙ ap (λ (n : Name). Some (Loaded thread n at.1)) r.3 in
      let kept : IsSameThread (state_at b.journal.entries at.0) (state_of b.machine) whom = (since at.0 thread (name.Thread whom) at.1 loaded r.0 r.1 r.2).1 in
      record {
        at = at.0;
        cpu = at.1;
        whom = whom;
        loaded = loaded;
        found = kept.thread;
        there = kept.its;
        its = sym kept.space ∙ ap (λ (x : FlatThread). x.space) (same_Some kept.later t (sym kept.now ∙ found));
      }

  pub copied_now : (ident : Ident) (space : SpaceNo) (v : View) → IsResident (residents_of (contents_of b)) ident (name.Mapping space v.vpn) → v.row ≡ ident
      → (row : Row) → row_of (state_of b.machine).rows space v.vpn.0 ≡ Some row → row.frame ≡ v.frame → row.flags ≡ v.flags → IsCopiedIn b.journal.entries space v
  copied_now ident space v r its row found frame flags =
      let at = was_loaded b.journal.entries r.0 (told_there r.0 r.1) in
      let loaded : slice_get b.journal.entries at.0 ≡ Some (Loaded v.row (name.Mapping space v.vpn) at.1) =
      at.2 ∙ ap (λ (i : Ident). Some (Loaded i r.0.name at.1)) (r.2 ∙ sym its) ∙ ap (λ (n : Name). Some (Loaded v.row n at.1)) r.3 in
      let kept : IsSameRow (state_at b.journal.entries at.0) (state_of b.machine) space v.vpn = (since at.0 v.row (name.Mapping space v.vpn) at.1 loaded r.0 r.1 (r.2 ∙ sym its)).1 in
      let later : kept.later ≡ row = same_Some kept.later row (sym kept.now ∙ found) in
      record {
        at = at.0;
        cpu = at.1;
        loaded = loaded;
        row = kept.row;
        there = kept.its;
        frame = sym kept.frame ∙ ap (λ (x : Row). x.frame) later ∙ frame;
        flags = sym kept.flags ∙ ap (λ (x : Row). x.flags) later ∙ flags;
      }

-- ---- while the journal grows

module _ (j es : List Entry) where
  still_at : (at : ℕ) (e : Entry) → slice_get j at ≡ Some e → state_at (j ++ es) at ≡ state_at j at
  still_at at e there =
      let within : at ≤ length j = let below = slice_get_within j at e there in omega arith in
      ap (λ (front : List Entry). flat (erase front)) (take-append-le at j es within)

  pub thread_stays : (thread : Ident) (space : SpaceNo) → IsThreadIn j thread space → IsThreadIn (j ++ es) thread space
  thread_stays thread space of = record {
    at = of.at;
    cpu = of.cpu;
    whom = of.whom;
    loaded = get-append j es of.at (Loaded thread (name.Thread of.whom) of.cpu) of.loaded;
    found = of.found;
    there = ap (λ (s : FlatState). slice_get s.threads of.whom.0) (still_at of.at (Loaded thread (name.Thread of.whom) of.cpu) of.loaded) ∙ of.there;
    its = of.its;
  }

  pub copy_stays : (space : SpaceNo) (v : View) → IsCopiedIn j space v → IsCopiedIn (j ++ es) space v
  copy_stays space v copied = record {
    at = copied.at;
    cpu = copied.cpu;
    loaded = get-append j es copied.at (Loaded v.row (name.Mapping space v.vpn) copied.cpu) copied.loaded;
    row = copied.row;
    there = ap (λ (s : FlatState). row_of s.rows space v.vpn.0) (still_at copied.at (Loaded v.row (name.Mapping space v.vpn) copied.cpu) copied.loaded) ∙ copied.there;
    frame = copied.frame;
    flags = copied.flags;
  }

  pub views_stay : (thread : Ident) (a : Ahead) → AreOfTicket j thread a → AreOfTicket (j ++ es) thread a
  views_stay thread a are = record {
    views = λ v there.
        let of = are.views v there in
        record { space = of.space; of = thread_stays thread of.space of.of; copied = copy_stays of.space v of.copied };
    kept = kept_stays j es a are.kept;
  }
