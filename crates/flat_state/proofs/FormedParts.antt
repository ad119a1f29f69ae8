-- A change of one part keeps a state well-formed.
use Rattle.std.proofs.Common.{◌≡◌, ℕ, zero, suc, ◌+◌, ◌*◌, ◌%◌, ◌<◌, ◌≤◌, Bool, true, false, not, cond, List, [], ◌∷◌, ◌++◌, map, length, set, Option, Some, None, slice_get, filter, count_by, refl, ap, sym, ◌∙◌, subst, inl, inr, arith, length-set}
use Rattle.std.specs.Prelude.{◌==◌, ◌&&◌, ◌||◌, nat_lt, nat_le, is_some}
use Rattle.std.proofs.lemmas.List.{length-map, length_push, length-replicate}
use Rattle.std.proofs.lemmas.Bool.{leb-true, leb-false, ltb-true, ltb-false, not-false, or_parts, cases_Bool, cases_eq, eqb-true, eq-eqb, ne_eqb, and_parts, and_from, false≢true}
use Rattle.std.proofs.lemmas.List.Elements.{Contains-push_cases}
use Rattle.std.proofs.lemmas.List.Sums.{length-filter, count_by-le-length, sum_by_push}
use Rattle.cache_ident.specs.declared.names.Caps.{Caps}
use Rattle.cache_ident.specs.declared.names.Frame.{Frame}
use Rattle.cache_ident.specs.declared.names.KernelNo.{KernelNo}
use Rattle.cache_ident.specs.declared.names.SpaceNo.{SpaceNo}
use Rattle.cache_ident.specs.declared.names.ThreadNo.{ThreadNo}
use Rattle.cache_ident.specs.declared.names.Vpn.{Vpn}
use Rattle.cache_ident.proofs.Numbers.{same_frame, same_thread as same_thread_no}
use Rattle.phys_groups.specs.Memory.{written, word_bytes}
use Rattle.phys_groups.specs.declared.rows.Flags.{Flags}
use Rattle.phys_groups.specs.declared.rows.Row.{Row}
use Rattle.phys_groups.specs.Rows.{HasOneRowAPage}
use Rattle.phys_groups.specs.Translation.{is_row_of, row_of, without}
use Rattle.signal_pages.specs.Signals.{is_signal_row_of, times_in, address_of}
use Rattle.flat_state.specs.declared.events.Decl.{Decl}
use Rattle.flat_state.specs.declared.events.Decl.TheVariants as decls
use Rattle.flat_state.specs.declared.events.Machine.{Machine}
use Rattle.flat_state.specs.declared.records.FlatKernel.{FlatKernel}
use Rattle.flat_state.specs.declared.records.FlatThread.{FlatThread}
use Rattle.flat_state.specs.State.{FlatState, nothing_declared, groups_of, with_thread, is_ended}
use Rattle.flat_state.specs.Declaration.{agree, is_receiver_in, thread_is_in, caps_of, locks_granted, breaks, may_lock_kernels, leaves_room, has_no_flag, has_receiver, has_frame, has_four, is_capacity, are_capacities, rule_of_early, rule_of_first, rule_of_other, rule_of_machine, rule_by_machine, broken_rule, new_kernel, with_right, new_thread, new_row, declared}
use Rattle.flat_state.specs.Signals.{HasRoom, has_ended, queued, ended_by, queued_by, with_address, sent_to, sent}
use Rattle.flat_state.specs.WellFormed.{AreWithin, AreKernels, AreSpaces, IsThread, AreThreads, IsRow, AreRows, IsWellFormed}
use Rattle.flat_state.proofs.Places.{Contains-from_get, get_from_Contains, set_cases, get-set_same, get-set_other, get_from_filter, get_from_map, count_by-filter, count_by-map, count_by-cons, sum_by-set_same, push_cases, get-append, fails_if_not_found}

-- before any declaration nothing is there
pub nothing_formed : IsWellFormed nothing_declared
nothing_formed = record {
  memory = record {
    groups = omega arith;
    caps = record { kernels = omega arith; spaces = omega arith; threads = omega arith; mappings = omega arith };
    size = refl;
  };
  kernels = record { few = omega arith; locking = λ n k e. absurd (cc); locks = λ some. absurd (omega arith) };
  spaces = record { few = omega arith; owned = λ n kernel e. absurd (cc) };
  threads = record { few = omega arith; each = λ n t e. absurd (cc) };
  rows = record {
    few = omega arith;
    each = λ row there. absurd (omega arith);
    single = λ i j a b here e same. absurd (cc);
    signals = λ frame. omega arith;
  };
}

-- memory of the same length in its place
pub memory_formed : (s : FlatState) (memory : List ℕ) → IsWellFormed s → length memory ≡ length s.memory → IsWellFormed (record s { memory = memory })
memory_formed s memory formed same = record {
  memory = record { groups = formed.memory.groups; caps = formed.memory.caps; size = same ∙ formed.memory.size };
  kernels = formed.kernels;
  spaces = formed.spaces;
  threads = formed.threads;
  rows = formed.rows;
}

-- each thread is still there, in its space
pub record KeepSpaces (before after : List FlatThread) : Type 0 where
  pub kept : (n : ℕ) (t : FlatThread) → slice_get before n ≡ Some t → (u : FlatThread) × (slice_get after n ≡ Some u) × (u.space ≡ t.space)

in_some : (space : SpaceNo) (o : Option FlatThread) → thread_is_in space o ≡ true → (t : FlatThread) × (o ≡ Some t) × ((t.space.0 == space.0) ≡ true)
in_some space None is_in = absurd (false≢true is_in)
in_some space (Some t) is_in = (t, refl, is_in)

-- so a receiver is still a thread of its space
pub receiver_kept : (before after : List FlatThread) → KeepSpaces before after → (space : SpaceNo) (receiver : Option ThreadNo) → is_receiver_in space before receiver ≡ true → is_receiver_in space after receiver ≡ true
receiver_kept before after keep space None is_in = refl
receiver_kept before after keep space (Some thread) is_in =
    let there = in_some space (slice_get before thread.0) is_in in
    let still = keep.kept thread.0 there.0 there.1 in
    rw (still.1, still.2) there.2

-- the rows are as good with such threads
pub rows_with_threads : (machine : Option Machine) (spaces : List KernelNo) (before after : List FlatThread) (rows : List Row) → KeepSpaces before after → AreRows machine spaces before rows → AreRows machine spaces after rows
rows_with_threads machine spaces before after rows keep are = record {
  few = are.few;
  each = λ row there. record {
    space = (are.each row there).space;
    page = (are.each row there).page;
    frame = (are.each row there).frame;
    some = (are.each row there).some;
    flags = (are.each row there).flags;
    receiver = receiver_kept before after keep row.space row.receiver (are.each row there).receiver;
  };
  single = are.single;
  signals = are.signals;
}

-- other threads in the same spaces
pub threads_formed : (s : FlatState) (threads : List FlatThread) → IsWellFormed s → AreThreads s.spaces threads → KeepSpaces s.threads threads → IsWellFormed (record s { threads = threads })
threads_formed s threads formed are keep = record {
  memory = formed.memory;
  kernels = formed.kernels;
  spaces = formed.spaces;
  threads = are;
  rows = rows_with_threads s.machine s.spaces s.threads threads s.rows keep formed.rows;
}

-- a thread in the place of one with its number and space
module _ (spaces : List KernelNo) (threads : List FlatThread) (n : ℕ) (t u : FlatThread) (here : slice_get threads n ≡ Some t) (same_space : u.space ≡ t.space) where
  pub set_keeps : KeepSpaces threads (set threads n u)
  set_keeps = record {
    kept = λ k v there. elim (cases_eq k n) [
      | inl same ↦ (u, rw same (get-set_same threads n u t here), same_space ∙ ap (λ (w : FlatThread). w.space) (same_thread k v there same))
      | inr other ↦ (v, rw (get-set_other threads n k u other) there, refl)
    ];
  }
    where
      some_same : (a b : FlatThread) → Some a ≡ Some b → a ≡ b
      some_same a b e = cc

      same_thread : (k : ℕ) (v : FlatThread) → slice_get threads k ≡ Some v → k ≡ n → t ≡ v
      same_thread k v there same = some_same t v (sym here ∙ ap (slice_get threads) (sym same) ∙ there)

  pub set_are : AreThreads spaces threads → u.no ≡ t.no → u.priority ≡ t.priority → u.context.pc % 4 ≡ 0 → length u.queue.items ≤ 64 → AreThreads spaces (set threads n u)
  set_are are same_no same_priority aligned queued = record {
    few = rw (length-set threads n u) are.few;
    each = λ k v there. elim (set_cases threads n k u v there) [
      | inl at ↦ subst (λ (w : FlatThread). IsThread spaces k w) at.1 (rw at.0 (record {
        number = ap (λ (no : ThreadNo). no.0) same_no ∙ (are.each n t here).number;
        space = rw same_space (are.each n t here).space;
        aligned = aligned;
        priority = rw same_priority (are.each n t here).priority;
        queued = queued;
      }))
      | inr other ↦ are.each k v other
    ];
  }

pub thread_formed : (s : FlatState) (n : ℕ) (t u : FlatThread) → IsWellFormed s → slice_get s.threads n ≡ Some t → u.no ≡ t.no → u.space ≡ t.space → u.priority ≡ t.priority → u.context.pc % 4 ≡ 0 → length u.queue.items ≤ 64 → IsWellFormed (with_thread s n u)
thread_formed s n t u formed here same_no same_space same_priority aligned queued =
    threads_formed s (set s.threads n u) formed (set_are s.spaces s.threads n t u here same_space formed.threads same_no same_priority aligned queued) (set_keeps s.spaces s.threads n t u here same_space)

-- a change of a row that leaves all but its bits
pub record KeepsRow (f : Row → Row) : Type 0 where
  pub space : (row : Row) → (f row).space ≡ row.space
  pub vpn : (row : Row) → (f row).vpn ≡ row.vpn
  pub frame : (row : Row) → (f row).frame ≡ row.frame
  pub flags : (row : Row) → (f row).flags ≡ row.flags
  pub receiver : (row : Row) → (f row).receiver ≡ row.receiver

module _ (f : Row → Row) (keeps : KeepsRow f) where
  kept_row : (machine : Option Machine) (spaces : List KernelNo) (threads : List FlatThread) (row : Row) → IsRow machine spaces threads row → IsRow machine spaces threads (f row)
  kept_row machine spaces threads row is = record {
    space = rw keeps.space is.space;
    page = rw keeps.vpn is.page;
    frame = rw keeps.frame is.frame;
    some = rw keeps.flags is.some;
    flags = rw (keeps.flags, keeps.receiver) is.flags;
    receiver = rw (keeps.space, keeps.receiver) is.receiver;
  }

  same_page : (a b : Row) → is_row_of (f a).space (f a).vpn.0 (f b) ≡ is_row_of a.space a.vpn.0 b
  same_page a b = rw (keeps.space a, keeps.vpn a, keeps.space b, keeps.vpn b) refl

  same_signals : (frame : Frame) (row : Row) → is_signal_row_of frame (f row) ≡ is_signal_row_of frame row
  same_signals frame row = rw (keeps.frame, keeps.receiver) refl

  rows_map : (machine : Option Machine) (spaces : List KernelNo) (threads : List FlatThread) (rows : List Row) → AreRows machine spaces threads rows → AreRows machine spaces threads (map f rows)
  rows_map machine spaces threads rows are = record {
    few = rw (length-map rows f) are.few;
    each = λ row there.
        let at = get_from_Contains (map f rows) row there in
        let old = get_from_map f rows at.0 row at.1 in
        subst (IsRow machine spaces threads) old.2 (kept_row machine spaces threads old.0 (are.each old.0 (Contains-from_get rows at.0 old.0 old.1)));
    single = λ i j a b at_i at_j same.
        let old_a = get_from_map f rows i a at_i in
        let old_b = get_from_map f rows j b at_j in
        are.single i j old_a.0 old_b.0 old_a.1 old_b.1 (sym (same_page old_a.0 old_b.0) ∙ subst2 old_a.0 old_b.0 a b old_a.2 old_b.2 same);
    signals = λ frame. rw (count_by-map (is_signal_row_of frame) f (same_signals frame) rows) (are.signals frame);
  }
    where
      subst2 : (x y a b : Row) → f x ≡ a → f y ≡ b → is_row_of a.space a.vpn.0 b ≡ true → is_row_of (f x).space (f x).vpn.0 (f y) ≡ true
      subst2 x y a b ea eb same = rw (ea, eb) same

  -- rows of which no more than the bits changed
  pub rows_formed : (s : FlatState) → IsWellFormed s → IsWellFormed (record s { rows = map f s.rows })
  rows_formed s formed = record {
    memory = formed.memory;
    kernels = formed.kernels;
    spaces = formed.spaces;
    threads = formed.threads;
    rows = rows_map s.machine s.spaces s.threads s.rows formed.rows;
  }

single_tail : (row : Row) (rows : List Row) → HasOneRowAPage (row ∷ rows) → HasOneRowAPage rows
single_tail row rows single i j a b at_i at_j same = let e : suc i ≡ suc j = single (suc i) (suc j) a b at_i at_j same in omega arith

-- a row in front of rows of other pages
single_cons : (row : Row) (rows : List Row) → HasOneRowAPage rows → ((k : ℕ) (b : Row) → slice_get rows k ≡ Some b → is_row_of row.space row.vpn.0 b ≡ true → ⊥) → ((k : ℕ) (b : Row) → slice_get rows k ≡ Some b → is_row_of b.space b.vpn.0 row ≡ true → ⊥) → HasOneRowAPage (row ∷ rows)
single_cons row rows single before behind zero zero a b at_i at_j same = refl
single_cons row rows single before behind zero (suc j) a b at_i at_j same = absurd (before j b at_j (rw (some_row row a at_i) same))
  where
    some_row : (x y : Row) → Some x ≡ Some y → x ≡ y
    some_row x y e = cc
single_cons row rows single before behind (suc i) zero a b at_i at_j same = absurd (behind i a at_i (rw (some_row row b at_j) same))
  where
    some_row : (x y : Row) → Some x ≡ Some y → x ≡ y
    some_row x y e = cc
single_cons row rows single before behind (suc i) (suc j) a b at_i at_j same = ap suc (single i j a b at_i at_j same)

single_in_front : (p : Row → Bool) (row : Row) (rows : List Row) → HasOneRowAPage (row ∷ rows) → HasOneRowAPage (filter p rows) → (b : Bool) → HasOneRowAPage (cond b (row ∷ filter p rows) (filter p rows))
single_in_front p row rows all single true =
    single_cons row (filter p rows) single
    (λ k b there same. let old = get_from_filter p rows k b there in let e : zero ≡ suc old.0 = all zero (suc old.0) row b refl old.1 same in absurd (omega arith))
    (λ k b there same. let old = get_from_filter p rows k b there in let e : suc old.0 ≡ zero = all (suc old.0) zero b row old.1 refl same in absurd (omega arith))
single_in_front p row rows all single false = single

-- fewer rows are single too
single_filter : (p : Row → Bool) (rows : List Row) → HasOneRowAPage rows → HasOneRowAPage (filter p rows)
single_filter p [] single = single
single_filter p (row ∷ rows) single = single_in_front p row rows single (single_filter p rows (single_tail row rows single)) (p row)

pub rows_filter : (machine : Option Machine) (spaces : List KernelNo) (threads : List FlatThread) (p : Row → Bool) (rows : List Row) → AreRows machine spaces threads rows → AreRows machine spaces threads (filter p rows)
rows_filter machine spaces threads p rows are = record {
  few = rw (length-filter p rows) (omega (arith, count_by-le-length p rows, are.few));
  each = λ row there.
      let at = get_from_Contains (filter p rows) row there in
      let old = get_from_filter p rows at.0 row at.1 in
      are.each row (Contains-from_get rows old.0 row old.1);
  single = single_filter p rows are.single;
  signals = λ frame. omega (arith, count_by-filter (is_signal_row_of frame) p rows, are.signals frame);
}

-- rows without that of a page
pub without_formed : (s : FlatState) (space : SpaceNo) (vpn : ℕ) → IsWellFormed s → IsWellFormed (record s { rows = without space vpn s.rows })
without_formed s space vpn formed = record {
  memory = formed.memory;
  kernels = formed.kernels;
  spaces = formed.spaces;
  threads = formed.threads;
  rows = rows_filter s.machine s.spaces s.threads (λ row. not (is_row_of space vpn row)) s.rows formed.rows;
}

-- each thread among some receivers has room for all that it gets
pub record IsRoomFor (threads : List FlatThread) (to : List ThreadNo) : Type 0 where
  pub room : (thread : ThreadNo) → 0 < times_in to thread → has_ended threads thread ≡ false → queued threads thread + times_in to thread ≤ 64

times_in-cons : (a : ThreadNo) (to : List ThreadNo) (b : ThreadNo) → times_in (a ∷ to) b ≡ cond (a.0 == b.0) 1 0 + times_in to b
times_in-cons a to b = count_by-cons (λ (other : ThreadNo). other.0 == b.0) a to

pub times_in-here : (a : ThreadNo) (to : List ThreadNo) (b : ThreadNo) → a.0 ≡ b.0 → times_in (a ∷ to) b ≡ 1 + times_in to b
times_in-here a to b same = rw (times_in-cons a to b, eq-eqb a.0 b.0 same) refl

times_in-other : (a : ThreadNo) (to : List ThreadNo) (b : ThreadNo) → (a.0 ≡ b.0 → ⊥) → times_in (a ∷ to) b ≡ times_in to b
times_in-other a to b other = rw (times_in-cons a to b, ne_eqb a.0 b.0 other) (omega arith)

pub room_from : (threads : List FlatThread) (receivers : List (ThreadNo × Vpn)) → HasRoom threads receivers → IsRoomFor threads (map (λ r. r.0) receivers)
room_from threads [] has = record { room = λ thread some not_ended. absurd (omega arith) }
room_from threads ((first, vpn) ∷ rest) has = record {
  room = λ thread some not_ended. elim (cases_eq first.0 thread.0) [
    | inl same ↦ subst (λ (t : ThreadNo). has_ended threads t ≡ false → queued threads t + times_in (first ∷ map (λ r. r.0) rest) t ≤ 64) (same_thread_no first thread same) has.2 not_ended
    | inr other ↦
        let less = times_in-other first (map (λ r. r.0) rest) thread other in
        omega (arith, less, (room_from threads rest has.3).room thread (omega (arith, less)) not_ended)
  ];
}

-- a thread that got an address is the same but for its queue
pub record IsAddressed (t u : FlatThread) : Type 0 where
  pub no : u.no ≡ t.no
  pub space : u.space ≡ t.space
  pub priority : u.priority ≡ t.priority
  pub context : u.context ≡ t.context
  pub status : u.status ≡ t.status
  pub ended : is_ended t.status ≡ true → length u.queue.items ≡ length t.queue.items
  pub running : is_ended t.status ≡ false → length u.queue.items ≡ length t.queue.items + 1

pub addressed : (va : ℕ) (t : FlatThread) → IsAddressed t (with_address va t)
addressed va t = by (is_ended t.status) refl
  where
    by : (b : Bool) → is_ended t.status ≡ b → IsAddressed t (cond b t (record t { queue = record { items = t.queue.items ++ va ∷ [] } }))
    by true is = record { no = refl; space = refl; priority = refl; context = refl; status = refl; ended = λ e. refl; running = λ e. absurd (cc) }
    by false is = record { no = refl; space = refl; priority = refl; context = refl; status = refl; ended = λ e. absurd (cc); running = λ e. length_push t.queue.items va }

pub keeps_all : (threads : List FlatThread) → KeepSpaces threads threads
keeps_all threads = record { kept = λ n t there. (t, there, refl) }

pub keeps_on : (a b c : List FlatThread) → KeepSpaces a b → KeepSpaces b c → KeepSpaces a c
keeps_on a b c first then = record {
  kept = λ n t there.
      let u = first.kept n t there in
      let v = then.kept n u.0 u.1 in
      (v.0, v.1, v.2 ∙ u.2);
}

-- what is left of the threads when one receiver got its address
pub record IsSentOne (spaces : List KernelNo) (before after : List FlatThread) (to : List ThreadNo) : Type 0 where
  pub are : AreThreads spaces after
  pub keep : KeepSpaces before after
  pub room : IsRoomFor after to

pub times_in-le : (a : ThreadNo) (to : List ThreadNo) (b : ThreadNo) → times_in to b ≤ times_in (a ∷ to) b
times_in-le a to b = omega (arith, times_in-cons a to b)

less_room : (threads : List FlatThread) (a : ThreadNo) (to : List ThreadNo) → IsRoomFor threads (a ∷ to) → IsRoomFor threads to
less_room threads a to room = record {
  room = λ thread some not_ended.
      let le = times_in-le a to thread in
      omega (arith, le, room.room thread (omega (arith, le)) not_ended);
}

-- one receiver gets its address
module _ (spaces : List KernelNo) (threads : List FlatThread) (thread : ThreadNo) (to : List ThreadNo) (va : ℕ) (are : AreThreads spaces threads) (room : IsRoomFor threads (thread ∷ to)) where
  module _ (t : FlatThread) (here : slice_get threads thread.0 ≡ Some t) where
    pub room_here : is_ended t.status ≡ false → length t.queue.items + times_in (thread ∷ to) thread ≤ 64
    room_here running =
        let same : queued threads thread ≡ length t.queue.items = ap queued_by here in
        let some : 0 < times_in (thread ∷ to) thread = rw (times_in-here thread to thread refl) (omega arith) in
        let all = room.room thread some (ap ended_by here ∙ running) in
        omega (arith, all, same)

    short : length (with_address va t).queue.items ≤ 64
    short = elim (cases_Bool (is_ended t.status)) [
      | inl ended ↦ omega (arith, (addressed va t).ended ended, (are.each thread.0 t here).queued)
      | inr running ↦ omega (arith, (addressed va t).running running, room_here running, times_in-here thread to thread refl)
    ]

    room_after : (w : ThreadNo) → 0 < times_in to w → has_ended (set threads thread.0 (with_address va t)) w ≡ false → queued (set threads thread.0 (with_address va t)) w + times_in to w ≤ 64
    room_after w some running = elim (cases_eq w.0 thread.0) [
      | inl same ↦
          let now : slice_get (set threads thread.0 (with_address va t)) w.0 ≡ Some (with_address va t) = rw same (get-set_same threads thread.0 (with_address va t) t here) in
          let was : slice_get threads w.0 ≡ Some t = rw same here in
          let runs : is_ended t.status ≡ false = sym (ap is_ended (addressed va t).status) ∙ sym (ap ended_by now) ∙ running in
          let queue : queued (set threads thread.0 (with_address va t)) w ≡ length (with_address va t).queue.items = ap queued_by now in
          let queue_was : queued threads w ≡ length t.queue.items = ap queued_by was in
          let times = times_in-here thread to w (sym same) in
          let all = room.room w (omega (arith, times)) (ap ended_by was ∙ runs) in
          omega (arith, queue, queue_was, times, all, (addressed va t).running runs)
      | inr other ↦
          let still = get-set_other threads thread.0 w.0 (with_address va t) other in
          let queue : queued (set threads thread.0 (with_address va t)) w ≡ queued threads w = ap queued_by still in
          let times = times_in-other thread to w (λ e. other (sym e)) in
          let all = room.room w (omega (arith, times)) (sym (ap ended_by still) ∙ running) in
          omega (arith, queue, times, all)
    ]

    sent_some : IsSentOne spaces threads (set threads thread.0 (with_address va t)) to
    sent_some = record {
      are = set_are spaces threads thread.0 t (with_address va t) here (addressed va t).space are (addressed va t).no (addressed va t).priority (rw (addressed va t).context (are.each thread.0 t here).aligned) short;
      keep = set_keeps spaces threads thread.0 t (with_address va t) here (addressed va t).space;
      room = record { room = room_after };
    }

  pub sent_one : (o : Option FlatThread) → slice_get threads thread.0 ≡ o → IsSentOne spaces threads (sent_to threads thread va o) to
  sent_one None none = record { are = are; keep = keeps_all threads; room = less_room threads thread to room }
  sent_one (Some t) here = sent_some t here

-- each receiver in turn gets its address
pub sent_are : (spaces : List KernelNo) (threads : List FlatThread) (offset : ℕ) (receivers : List (ThreadNo × Vpn)) → AreThreads spaces threads → IsRoomFor threads (map (λ r. r.0) receivers) → AreThreads spaces (sent threads offset receivers) × KeepSpaces threads (sent threads offset receivers)
sent_are spaces threads offset [] are room = (are, keeps_all threads)
sent_are spaces threads offset ((thread, vpn) ∷ rest) are room =
    let one = sent_one spaces threads thread (map (λ r. r.0) rest) (address_of vpn offset) are room (slice_get threads thread.0) refl in
    let next = sent_are spaces (sent_to threads thread (address_of vpn offset) (slice_get threads thread.0)) offset rest one.are one.room in
    (next.0, keeps_on threads _ _ one.keep next.1)

pub sent_formed : (s : FlatState) (offset : ℕ) (receivers : List (ThreadNo × Vpn)) → IsWellFormed s → HasRoom s.threads receivers → IsWellFormed (record s { threads = sent s.threads offset receivers })
sent_formed s offset receivers formed has =
    let all = sent_are s.spaces s.threads offset receivers formed.threads (room_from s.threads receivers has) in
    threads_formed s (sent s.threads offset receivers) formed all.0 all.1

-- a rule that isn't broken: its test fails, and no later rule is broken
pub breaks_none : (test : Bool) (rule : ℕ) (later : Option ℕ) → breaks test rule later ≡ None → (test ≡ false) × (later ≡ None)
breaks_none true rule later e = absurd (cc)
breaks_none false rule later e = (refl, e)

-- a declaration other than the machine's breaks none of the rules behind the machine's own
pub other_rule : (machine : Option Machine) (s : FlatState) (d : Decl) → rule_of_first d ≡ Some (rule_of_early d) → rule_by_machine machine s d ≡ None → rule_of_other s d ≡ None
other_rule None s d first e = absurd (cc)
other_rule (Some m) s d first e = e

-- the machine is declared where there is none
pub first_rule : (machine : Option Machine) (s : FlatState) (m : Machine) → rule_by_machine machine s (decls.Machine m) ≡ None → (machine ≡ None) × (rule_of_machine m ≡ None)
first_rule None s m e = (refl, e)
first_rule (Some other) s m e = absurd (cc)

-- capacities that break no rule are bounded
within : (caps : Caps) → are_capacities caps ≡ true → AreWithin caps
within caps e =
    let kernels = and_parts (is_capacity 16 caps.kernels) _ e in
    let spaces = and_parts (is_capacity 64 caps.spaces) _ kernels.1 in
    let threads = and_parts (is_capacity 256 caps.threads) _ spaces.1 in
    record {
      kernels = most 16 caps.kernels kernels.0;
      spaces = most 64 caps.spaces spaces.0;
      threads = most 256 caps.threads threads.0;
      mappings = most 65536 caps.mappings threads.1;
    }
  where
    most : (greatest cap : ℕ) → is_capacity greatest cap ≡ true → cap ≤ greatest
    most greatest cap e = leb-true cap greatest (and_parts (nat_lt 0 cap) (nat_le cap greatest) e).1

pub machine_formed : (s : FlatState) (machine : Machine) → IsWellFormed s → broken_rule s (decls.Machine machine) ≡ None → IsWellFormed (declared s (decls.Machine machine))
unfolding broken_rule declared
machine_formed s machine formed e =
    let rules = first_rule s.machine s machine e in
    let tests = breaks_none (not (nat_lt 0 machine.groups && nat_le machine.groups 16)) 6 _ rules.1 in
    let sized = and_parts (nat_lt 0 machine.groups) (nat_le machine.groups 16) (not-false _ tests.0) in
    let no_groups : groups_of s.machine ≡ 0 = ap groups_of rules.0 in
    let no_room : (caps_of s.machine).kernels ≡ 0 = ap (λ (m : Option Machine). (caps_of m).kernels) rules.0 in
    record {
      memory = record {
        groups = leb-true machine.groups 16 sized.1;
        caps = within machine.caps (not-false _ (breaks_none (not (are_capacities machine.caps)) 7 None tests.1).0);
        size = length-replicate (524288 * machine.groups) 0;
      };
      kernels = record { few = formed.kernels.few; locking = formed.kernels.locking; locks = λ some. let room = (formed.kernels.locks some).0 in absurd (omega (arith, room, no_room)) };
      spaces = formed.spaces;
      threads = formed.threads;
      rows = record {
        few = formed.rows.few;
        each = λ row there. let frame = (formed.rows.each row there).frame in absurd (omega (arith, frame, no_groups));
        single = formed.rows.single;
        signals = formed.rows.signals;
      };
    }

-- more kernels own all spaces that the first ones owned
more_kernels : (before after : List FlatKernel) (spaces : List KernelNo) → length before ≤ length after → AreSpaces before spaces → AreSpaces after spaces
more_kernels before after spaces more are = record {
  few = are.few;
  owned = λ n kernel there. let lt = are.owned n kernel there in omega arith;
}

pub kernel_formed : (s : FlatState) (n : KernelNo) (limits : Caps) → IsWellFormed s → broken_rule s (decls.Kernel n limits) ≡ None → IsWellFormed (declared s (decls.Kernel n limits))
unfolding broken_rule declared
kernel_formed s n limits formed e =
    let rule = other_rule s.machine s (decls.Kernel n limits) refl e in
    let next = breaks_none (not (n.0 == length s.kernels)) 8 _ rule in
    let few = breaks_none (nat_le 1024 (length s.kernels)) 9 _ next.1 in
    let locking = breaks_none (not (may_lock_kernels n.0 limits)) 10 _ few.1 in
    let leaving = breaks_none (not (leaves_room (caps_of s.machine) (locks_granted s.kernels) limits)) 11 _ locking.1 in
    let room = room_left (caps_of s.machine) (locks_granted s.kernels) limits (not-false _ leaving.0) in
    let more : length (s.kernels ++ new_kernel limits ∷ []) ≡ length s.kernels + 1 = length_push s.kernels (new_kernel limits) in
    record {
      memory = formed.memory;
      kernels = record {
        few = let lt = leb-false 1024 (length s.kernels) few.0 in omega (arith, lt, more);
        locking = λ k x there. elim (push_cases s.kernels (new_kernel limits) x k there) [
          | inl before ↦ formed.kernels.locking k x before
          | inr last ↦
              let number : n.0 ≡ k = eqb-true n.0 (length s.kernels) (not-false _ next.0) ∙ sym last.0 in
              subst (λ (y : FlatKernel). may_lock_kernels k y.limits ≡ true) last.1 (subst (λ (m : ℕ). may_lock_kernels m limits ≡ true) number (not-false _ locking.0))
        ];
        locks = λ some. (
          rw (sum_by_push (λ (k : FlatKernel). k.limits.kernels) s.kernels (new_kernel limits)) room.0,
          rw (sum_by_push (λ (k : FlatKernel). k.limits.spaces) s.kernels (new_kernel limits)) room.1,
          rw (sum_by_push (λ (k : FlatKernel). k.limits.threads) s.kernels (new_kernel limits)) room.2,
          rw (sum_by_push (λ (k : FlatKernel). k.limits.mappings) s.kernels (new_kernel limits)) room.3,
        );
      };
      spaces = more_kernels s.kernels (s.kernels ++ new_kernel limits ∷ []) s.spaces (omega (arith, more)) formed.spaces;
      threads = formed.threads;
      rows = formed.rows;
    }
  where
    room_left : (caps granted limits : Caps) → leaves_room caps granted limits ≡ true → (granted.kernels + limits.kernels + 5 ≤ caps.kernels) × (granted.spaces + limits.spaces + 5 ≤ caps.spaces) × (granted.threads + limits.threads + 5 ≤ caps.threads) × (granted.mappings + limits.mappings + 6 ≤ caps.mappings)
    room_left caps granted limits e =
        let kernels = and_parts (nat_le (granted.kernels + limits.kernels + 5) caps.kernels) _ e in
        let spaces = and_parts (nat_le (granted.spaces + limits.spaces + 5) caps.spaces) _ kernels.1 in
        let threads = and_parts (nat_le (granted.threads + limits.threads + 5) caps.threads) _ spaces.1 in
        (leb-true _ _ kernels.0, leb-true _ _ spaces.0, leb-true _ _ threads.0, leb-true _ _ threads.1)

-- a kernel's rights change
module _ (machine : Option Machine) (kernels : List FlatKernel) (kernel group : ℕ) (right : Bool × Bool) (are : AreKernels machine kernels) where
  same_locks : (k u : FlatKernel) → slice_get kernels kernel ≡ Some k → u.limits ≡ k.limits → locks_granted (set kernels kernel u) ≡ locks_granted kernels
  same_locks k u here same =
      rw (sum_by-set_same (λ (x : FlatKernel). x.limits.kernels) kernels kernel u k here (ap (λ (c : Caps). c.kernels) same), sum_by-set_same (λ (x : FlatKernel). x.limits.spaces) kernels kernel u k here (ap (λ (c : Caps). c.spaces) same), sum_by-set_same (λ (x : FlatKernel). x.limits.threads) kernels kernel u k here (ap (λ (c : Caps). c.threads) same), sum_by-set_same (λ (x : FlatKernel). x.limits.mappings) kernels kernel u k here (ap (λ (c : Caps). c.mappings) same)) refl

  with_right_formed : (o : Option FlatKernel) → slice_get kernels kernel ≡ o → AreKernels machine (with_right kernels o kernel group right) × (length (with_right kernels o kernel group right) ≡ length kernels)
  with_right_formed None here = (are, refl)
  with_right_formed (Some k) here =
      let u : FlatKernel = record k { rights = set k.rights group right } in
      let same : length (set kernels kernel u) ≡ length kernels = length-set kernels kernel u in (
        record {
          few = rw same are.few;
          locking = λ n x there. elim (set_cases kernels kernel n u x there) [
            | inl at ↦ subst (λ (y : FlatKernel). may_lock_kernels n y.limits ≡ true) at.1 (rw at.0 (are.locking kernel k here))
            | inr other ↦ are.locking n x other
          ];
          locks = λ some. subst (λ (c : Caps). (c.kernels + 5 ≤ (caps_of machine).kernels) × (c.spaces + 5 ≤ (caps_of machine).spaces) × (c.threads + 5 ≤ (caps_of machine).threads) × (c.mappings + 6 ≤ (caps_of machine).mappings)) (sym (same_locks k u here refl)) (are.locks (omega (arith, same, some)));
        },
        same,
      )

pub right_formed : (s : FlatState) (kernel : KernelNo) (group : ℕ) (read write : Bool) → IsWellFormed s → broken_rule s (decls.Right kernel group read write) ≡ None → IsWellFormed (declared s (decls.Right kernel group read write))
unfolding broken_rule declared
right_formed s kernel group read write formed e =
    let after = with_right_formed s.machine s.kernels kernel.0 group (read, write) formed.kernels (slice_get s.kernels kernel.0) refl in
    record {
      memory = formed.memory;
      kernels = after.0;
      spaces = more_kernels s.kernels _ s.spaces (omega (arith, after.1)) formed.spaces;
      threads = formed.threads;
      rows = formed.rows;
    }

pub space_formed : (s : FlatState) (n : SpaceNo) (kernel : KernelNo) → IsWellFormed s → broken_rule s (decls.Space n kernel) ≡ None → IsWellFormed (declared s (decls.Space n kernel))
unfolding broken_rule declared
space_formed s n kernel formed e =
    let rule = other_rule s.machine s (decls.Space n kernel) refl e in
    let next = breaks_none (not (n.0 == length s.spaces)) 8 _ rule in
    let few = breaks_none (nat_le 4096 (length s.spaces)) 9 _ next.1 in
    let owned = breaks_none (nat_le (length s.kernels) kernel.0) 12 _ few.1 in
    let more : length (s.spaces ++ kernel ∷ []) ≡ length s.spaces + 1 = length_push s.spaces kernel in
    record {
      memory = formed.memory;
      kernels = formed.kernels;
      spaces = record {
        few = let lt = leb-false 4096 (length s.spaces) few.0 in omega (arith, lt, more);
        owned = λ k x there. elim (push_cases s.spaces kernel x k there) [
          | inl before ↦ formed.spaces.owned k x before
          | inr last ↦ subst (λ (y : KernelNo). y.0 < length s.kernels) last.1 (leb-false (length s.kernels) kernel.0 owned.0)
        ];
      };
      threads = record {
        few = formed.threads.few;
        each = λ k t there. record {
          number = (formed.threads.each k t there).number;
          space = let lt = (formed.threads.each k t there).space in omega (arith, lt, more);
          aligned = (formed.threads.each k t there).aligned;
          priority = (formed.threads.each k t there).priority;
          queued = (formed.threads.each k t there).queued;
        };
      };
      rows = record {
        few = formed.rows.few;
        each = λ row there. record {
          space = let lt = (formed.rows.each row there).space in omega (arith, lt, more);
          page = (formed.rows.each row there).page;
          frame = (formed.rows.each row there).frame;
          some = (formed.rows.each row there).some;
          flags = (formed.rows.each row there).flags;
          receiver = (formed.rows.each row there).receiver;
        };
        single = formed.rows.single;
        signals = formed.rows.signals;
      };
    }

pub thread_declared_formed : (s : FlatState) (n : ThreadNo) (space : SpaceNo) (pc priority a0 a1 : ℕ) → IsWellFormed s → broken_rule s (decls.Thread n space pc priority a0 a1) ≡ None → IsWellFormed (declared s (decls.Thread n space pc priority a0 a1))
unfolding broken_rule declared
thread_declared_formed s n space pc priority a0 a1 formed e =
    let rule = other_rule s.machine s (decls.Thread n space pc priority a0 a1) refl e in
    let next = breaks_none (not (n.0 == length s.threads)) 8 _ rule in
    let few = breaks_none (nat_le 16384 (length s.threads)) 9 _ next.1 in
    let owned = breaks_none (nat_le (length s.spaces) space.0) 12 _ few.1 in
    let starts = breaks_none (not (pc % 4 == 0) || nat_lt 31 priority) 14 _ owned.1 in
    let begins = or_parts (not (pc % 4 == 0)) (nat_lt 31 priority) starts.0 in
    let new = new_thread n space pc priority a0 a1 in
    let more : length (s.threads ++ new ∷ []) ≡ length s.threads + 1 = length_push s.threads new in
    threads_formed s (s.threads ++ new ∷ []) formed
    (record {
      few = let lt = leb-false 16384 (length s.threads) few.0 in omega (arith, lt, more);
      each = λ k t there. elim (push_cases s.threads new t k there) [
        | inl before ↦ formed.threads.each k t before
        | inr last ↦ subst (λ (u : FlatThread). IsThread s.spaces k u) last.1 (record {
          number = eqb-true n.0 (length s.threads) (not-false _ next.0) ∙ sym last.0;
          space = leb-false (length s.spaces) space.0 owned.0;
          aligned = eqb-true (pc % 4) 0 (not-false _ begins.0);
          priority = ltb-false 31 priority begins.1;
          queued = omega arith;
        })
      ];
    })
    (record { kept = λ k t there. (t, get-append s.threads (new ∷ []) k t there, refl) })

length-written : (bytes : List ℕ) (at : ℕ) (new : List ℕ) → length (written bytes at new) ≡ length bytes
length-written bytes at [] = refl
length-written bytes at (b ∷ rest) = length-written (set bytes at b) (at + 1) rest ∙ length-set bytes at b

pub word_formed : (s : FlatState) (frame : Frame) (offset value : ℕ) → IsWellFormed s → broken_rule s (decls.Word frame offset value) ≡ None → IsWellFormed (declared s (decls.Word frame offset value))
unfolding declared
word_formed s frame offset value formed e =
    memory_formed s (written s.memory (4096 * frame.0 + offset) (word_bytes value)) formed (length-written s.memory (4096 * frame.0 + offset) (word_bytes value))

-- a row of a page that has none is no row of the page of another
other_page : (a b : Row) → is_row_of a.space a.vpn.0 b ≡ true → is_row_of b.space b.vpn.0 a ≡ true
other_page a b same =
    let parts = and_parts (b.space.0 == a.space.0) (b.vpn.0 == a.vpn.0) same in
    and_from _ _ (eq-eqb a.space.0 b.space.0 (sym (eqb-true b.space.0 a.space.0 parts.0))) (eq-eqb a.vpn.0 b.vpn.0 (sym (eqb-true b.vpn.0 a.vpn.0 parts.1)))

-- what the rules of a row say
record IsRowFor (s : FlatState) (row : Row) : Type 0 where
  few : length s.rows < 262144
  is : IsRow s.machine s.spaces s.threads row
  fresh : (k : ℕ) (b : Row) → slice_get s.rows k ≡ Some b → is_row_of row.space row.vpn.0 b ≡ false
  signals : is_some row.receiver ≡ true → count_by (is_signal_row_of row.frame) s.rows < 4

-- so the rows with it are as good
rows_with : (s : FlatState) (row : Row) → AreRows s.machine s.spaces s.threads s.rows → IsRowFor s row → AreRows s.machine s.spaces s.threads (s.rows ++ row ∷ [])
rows_with s row are for = record {
  few = let lt = for.few in omega (arith, lt, length_push s.rows row);
  each = λ x there. elim (Contains-push_cases s.rows row x there) [
    | inl before ↦ are.each x before
    | inr last ↦ subst (IsRow s.machine s.spaces s.threads) last for.is
  ];
  single = λ i j a b at_i at_j same. elim (push_cases s.rows row a i at_i) [
    | inl before_i ↦ elim (push_cases s.rows row b j at_j) [
      | inl before_j ↦ are.single i j a b before_i before_j same
      | inr last_j ↦ absurd (false≢true (sym (for.fresh i a before_i) ∙ other_page a row (rw last_j.1 same)))
    ]
    | inr last_i ↦ elim (push_cases s.rows row b j at_j) [
      | inl before_j ↦ absurd (false≢true (sym (for.fresh j b before_j) ∙ rw last_i.1 same))
      | inr last_j ↦ last_i.0 ∙ sym last_j.0
    ]
  ];
  signals = λ frame. rw (sum_by_push (λ (x : Row). cond (is_signal_row_of frame x) 1 0) s.rows row) (counted frame (is_signal_row_of frame row) refl);
}
  where
    counted : (frame : Frame) (b : Bool) → is_signal_row_of frame row ≡ b → count_by (is_signal_row_of frame) s.rows + cond b 1 0 ≤ 4
    counted frame true is =
        let parts = and_parts (row.frame.0 == frame.0) (is_some row.receiver) is in
        let same : row.frame ≡ frame = same_frame row.frame frame (eqb-true row.frame.0 frame.0 parts.0) in
        let lt = subst (λ (f : Frame). count_by (is_signal_row_of f) s.rows < 4) same (for.signals parts.1) in
        omega (arith, lt)
    counted frame false is = let le = are.signals frame in omega (arith, le)

pub row_formed : (s : FlatState) (space : SpaceNo) (vpn : Vpn) (frame : Frame) (flags : Flags) (receiver : Option ThreadNo) → IsWellFormed s → broken_rule s (decls.Map space vpn frame flags receiver) ≡ None → IsWellFormed (declared s (decls.Map space vpn frame flags receiver))
unfolding broken_rule declared
row_formed s space vpn frame flags receiver formed e =
    let rule = other_rule s.machine s (decls.Map space vpn frame flags receiver) refl e in
    let flagged = breaks_none (has_no_flag flags) 4 _ rule in
    let few = breaks_none (nat_le 262144 (length s.rows)) 9 _ flagged.1 in
    let there = breaks_none (nat_le (length s.spaces) space.0 || not (has_receiver s.threads receiver)) 12 _ few.1 in
    let placed = breaks_none (not (has_frame s frame) || nat_lt 1048575 vpn.0) 13 _ there.1 in
    let agreed = breaks_none (not (agree flags (is_some receiver))) 16 _ placed.1 in
    let fresh = breaks_none (is_some (row_of s.rows space vpn.0)) 17 _ agreed.1 in
    let received = breaks_none (not (is_receiver_in space s.threads receiver)) 18 _ fresh.1 in
    let four = breaks_none (is_some receiver && has_four s.rows frame) 19 _ received.1 in
    let at = or_parts (not (has_frame s frame)) (nat_lt 1048575 vpn.0) placed.0 in
    record {
      memory = formed.memory;
      kernels = formed.kernels;
      spaces = formed.spaces;
      threads = formed.threads;
      rows = rows_with s (new_row space vpn frame flags receiver) formed.rows (record {
        few = leb-false 262144 (length s.rows) few.0;
        is = record {
          space = leb-false (length s.spaces) space.0 (or_parts _ _ there.0).0;
          page = ltb-false 1048575 vpn.0 at.1;
          frame = ltb-true frame.0 (128 * groups_of s.machine) (not-false _ at.0);
          some = flagged.0;
          flags = not-false _ agreed.0;
          receiver = not-false _ received.0;
        };
        fresh = λ k b here. fails_if_not_found (is_row_of space vpn.0) s.rows k b (none_from (row_of s.rows space vpn.0) fresh.0) here;
        signals = λ some. leb-false 4 _ (and_second (is_some receiver) (has_four s.rows frame) some four.0);
      });
    }
  where
    none_from : (o : Option Row) → is_some o ≡ false → o ≡ None
    none_from None e = refl
    none_from (Some row) e = absurd (cc)

    and_second : (a b : Bool) → a ≡ true → (a && b) ≡ false → b ≡ false
    and_second true b is e = e
    and_second false b is e = absurd (cc)

-- a declaration that breaks no rule keeps a state well-formed
pub declared_formed : (s : FlatState) (d : Decl) → IsWellFormed s → broken_rule s d ≡ None → IsWellFormed (declared s d)
declared_formed s (decls.Machine machine) formed e = machine_formed s machine formed e
declared_formed s (decls.Kernel n limits) formed e = kernel_formed s n limits formed e
declared_formed s (decls.Right kernel group read write) formed e = right_formed s kernel group read write formed e
declared_formed s (decls.Space n kernel) formed e = space_formed s n kernel formed e
declared_formed s (decls.Thread n space pc priority a0 a1) formed e = thread_declared_formed s n space pc priority a0 a1 formed e
declared_formed s (decls.Map space vpn frame flags receiver) formed e = row_formed s space vpn frame flags receiver formed e
declared_formed s (decls.Word frame offset value) formed e = word_formed s frame offset value formed e
