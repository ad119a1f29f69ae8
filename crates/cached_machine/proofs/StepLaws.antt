-- What a change of one thread, or of the marks of one row, leaves of a machine with caches.
use Rattle.std.proofs.Common.{◌≡◌, ℕ, ◌%◌, ◌<◌, ◌≤◌, Bool, true, false, List, length, map, Option, Some, None, IsSome, slice_get, refl, sym, ◌∙◌, ap, set, subst, subst₂, ◌⊎◌, inl, inr, arith, length-append}
use Rattle.std.specs.Option.{option_map}
use Rattle.std.specs.Prelude.{◌||◌, ◌&&◌, not, is_some, if◌then◌else◌, nat_lt}
use Rattle.std.proofs.Math.Path.{fun_ext}
use Rattle.std.proofs.lemmas.Bool.{cases_Bool, false≢true, ltb-false}
use Rattle.std.proofs.lemmas.Option.{same_Some, slice_get_within}
use Rattle.cache_ident.specs.declared.names.Caps.{Caps}
use Rattle.cache_ident.specs.declared.names.Name.{Name}
use Rattle.cache_ident.specs.declared.names.Name.TheVariants as name
use Rattle.cache_ident.specs.declared.names.ThreadNo.{ThreadNo}
use Rattle.cache_ident.specs.declared.names.SpaceNo.{SpaceNo}
use Rattle.cache_ident.specs.declared.names.Vpn.{Vpn}
use Rattle.phys_groups.specs.declared.rows.Row.{Row}
use Rattle.phys_groups.specs.Rows.{marked, row_name}
use Rattle.phys_groups.specs.Translation.{is_row_of}
use Rattle.flat_machine.proofs.ChangeSound.{marked_sound}
use Rattle.flat_state.specs.declared.events.Machine.{Machine}
use Rattle.flat_state.specs.declared.records.FlatThread.{FlatThread}
use Rattle.flat_state.specs.State.{FlatState, is_ended, with_thread}
use Rattle.flat_state.specs.Signals.{with_address}
use Rattle.flat_state.specs.Declaration.{locks_granted}
use Rattle.flat_state.proofs.FormedParts.{memory_formed, thread_formed}
use Rattle.flat_state.specs.Names.{stands}
use Rattle.board_laws.specs.flat_laws.proofs.ParentLaws.{there_is}
use Rattle.flat_thread.specs.Calls.{queue_with}
use Rattle.thread_cache.specs.declared.ThreadRec.{ThreadRec}
use Rattle.kernel_cache.specs.slot_cache.specs.Rows.{row_name as slot_row_name}
use Rattle.thread_sets.specs.owner_shelf.proofs.NameLemmas.{eq_apart, eq_itself}
use Rattle.thread_sets.specs.kind_store.specs.Changes.{is_name}
use Rattle.thread_sets.specs.kind_store.specs.Kept as stored
use Rattle.thread_sets.specs.kind_store.proofs.ContentLemmas.{cases_name}
use Rattle.board_laws.specs.desc_stores.specs.declared.items.Item.{Item}
use Rattle.board_laws.specs.desc_stores.specs.declared.items.Item.TheVariants as item
use Rattle.board_laws.specs.desc_stores.specs.Changes.{HasContent}
use Rattle.board_laws.specs.desc_stores.specs.Contents.{content_of, Contents}
use Rattle.board_laws.specs.desc_stores.specs.Sound.{IsExactlyOne}
use Rattle.board_laws.specs.shown_state.specs.Shown.{flat_thread, shown, thread_of}
use Rattle.board_laws.specs.shown_state.proofs.ChangeLemmas.{at_name, change_shown, elsewhere, mark_nothing, mark_shown}
use Rattle.board_laws.specs.shown_state.proofs.ContentLemmas.{item_has_name, page_by_name}
use Rattle.board_laws.specs.shown_state.proofs.LookupLemmas.{all_found}
use Rattle.thread_sets.specs.Sets.{noted, Sets}
use Rattle.thread_sets.specs.SetsOf.{AreSetsOf}
use Rattle.thread_sets.proofs.SetsLemmas.{sets_noted}
use Rattle.board_laws.specs.desc_tables.specs.Tables.{Held}
use Rattle.cached_machine.specs.declared.stepping.Change.{Change}
use Rattle.cached_machine.specs.declared.stepping.Change.TheVariants.{Put, Give, Answer}
use Rattle.cached_machine.specs.Cached.{state_of, Cached, IsSoundMachine}
use Rattle.cached_machine.specs.Aside.{aside_of, but_for_steps}
use Rattle.cached_machine.specs.Stepping.{lacks_mark, left_by, shows_left_by, IsMarked, IsStepped, MayCome, OnlyContents}

-- what no step changes of a thread
pub record KeepsThread (was now : ThreadRec) : Type 0 where
  pub no : now.no ≡ was.no
  pub space : now.space ≡ was.space
  pub priority : now.priority ≡ was.priority
  pub aside : but_for_steps (item.Thread now) ≡ but_for_steps (item.Thread was)

pub thread_kept : (change : Change) (thread : ThreadRec) → KeepsThread thread (left_by change thread)
thread_kept (Put context status) thread = record { no = refl; space = refl; priority = refl; aside = refl }
thread_kept (Answer value) thread = record { no = refl; space = refl; priority = refl; aside = refl }
thread_kept (Give va) thread = by (nat_lt (length thread.queue.items) 64)
  where
    by : (room : Bool) → KeepsThread thread (if room then record thread { queue = queue_with va thread.status thread.queue } else thread)
    by true = record { no = refl; space = refl; priority = refl; aside = refl }
    by false = record { no = refl; space = refl; priority = refl; aside = refl }

-- what it is in what is shown
pub shows_left : (change : Change) (thread : ThreadRec) → MayCome change (flat_thread thread) → flat_thread (left_by change thread) ≡ shows_left_by change (flat_thread thread)
shows_left (Put context status) thread may = refl
shows_left (Answer value) thread may = refl
shows_left (Give va) thread may = by (cases_Bool (is_ended thread.status)) (cases_Bool (nat_lt (length thread.queue.items) 64))
  where
    by : (is_ended thread.status ≡ true) ⊎ (is_ended thread.status ≡ false) → (nat_lt (length thread.queue.items) 64 ≡ true) ⊎ (nat_lt (length thread.queue.items) 64 ≡ false) → flat_thread (left_by (Give va) thread) ≡ with_address va (flat_thread thread)
    by (inl ended) (inl room) = rw (ended, room) refl
    by (inl ended) (inr full) = rw (ended, full) refl
    by (inr running) (inl room) = rw (running, room) refl
    by (inr running) (inr full) = absurd (omega (arith, may running, ltb-false (length thread.queue.items) 64 full))

-- and it is one that may stand
pub left_fits : (change : Change) (thread : ThreadRec) → MayCome change (flat_thread thread) → thread.context.pc % 4 ≡ 0 → length thread.queue.items ≤ 64 → ((left_by change thread).context.pc % 4 ≡ 0) × (length (left_by change thread).queue.items ≤ 64)
left_fits (Put context status) thread may aligned queued = (may, queued)
left_fits (Answer value) thread may aligned queued = (aligned, queued)
left_fits (Give va) thread may aligned queued = by (cases_Bool (is_ended thread.status)) (cases_Bool (nat_lt (length thread.queue.items) 64))
  where
    by : (is_ended thread.status ≡ true) ⊎ (is_ended thread.status ≡ false) → (nat_lt (length thread.queue.items) 64 ≡ true) ⊎ (nat_lt (length thread.queue.items) 64 ≡ false) → ((left_by (Give va) thread).context.pc % 4 ≡ 0) × (length (left_by (Give va) thread).queue.items ≤ 64)
    by (inl ended) (inl room) = rw (ended, room) (aligned, queued)
    by (inl ended) (inr full) = rw full (aligned, queued)
    by (inr running) (inl room) = rw (running, room) (aligned, rw length-append (omega (arith, may running)))
    by (inr running) (inr full) = rw full (aligned, queued)

-- where nothing but contents changed, and each only in what steps change, all else is as it was
aside_kept : (machine : Machine) (memory memory' : List ℕ) (h h' : Held) (sets sets' : Sets) → OnlyContents h h' → sets'.room ≡ sets.room → ((n : Name) → option_map but_for_steps (content_of h'.contents n) ≡ option_map but_for_steps (content_of h.contents n)) → aside_of (record { machine = machine; memory = memory'; held = h'; sets = sets' }) ≡ aside_of (record { machine = machine; memory = memory; held = h; sets = sets })
aside_kept machine memory memory' h h' sets sets' only room contents =
    let c = h.contents in
    let c' = h'.contents in
    let caps : h'.caps ≡ h.caps = ap (λ (x : Held). x.caps) only.rest in
    let gone : h'.gone ≡ h.gone = ap (λ (x : Held). x.gone) only.rest in
    let all : (λ (n : Name). option_map but_for_steps (content_of c' n)) ≡ (λ (n : Name). option_map but_for_steps (content_of c n)) = fun_ext contents in
    rw (all, only.residents, only.room, only.issued, only.spare, only.names.kernels, only.names.spaces, only.names.threads, only.names.rows, caps, gone, room) refl

-- ---- a thread

-- a thread that is found under a number has it
pub number_found : (c : Contents) (no : ThreadNo) (thread : ThreadRec) → content_of c (name.Thread no) ≡ Some (item.Thread thread) → thread.no ≡ no
number_found c whom thread there = by (item_has_name c (name.Thread whom) (item.Thread thread) there)
  where
    by : name.Thread thread.no ≡ name.Thread whom → thread.no ≡ whom
    by e = cc e

-- the thread of a number below the count stands
pub thread_there : (machine : Option Machine) (memory : List ℕ) (c : Contents) → IsExactlyOne c → (no : ThreadNo) → no.0 < length (shown machine memory c).threads → IsSome (content_of c (name.Thread no))
unfolding stands
thread_there machine memory c one whom within = sym ((all_found machine memory c one).stands (name.Thread whom)) ∙ there_is (shown machine memory c).threads whom.0 within

pub found_at : (threads : List FlatThread) (n : ℕ) → n < length threads → (t : FlatThread) × (slice_get threads n ≡ Some t)
found_at threads n within = by (slice_get threads n) refl
  where
    by : (o : Option FlatThread) → slice_get threads n ≡ o → (t : FlatThread) × (slice_get threads n ≡ Some t)
    by (Some t) e = (t, e)
    by None e = absurd (false≢true (ap is_some (sym e) ∙ there_is threads n within))

module _ (machine : Machine) (memory : List ℕ) (change : Change) (h h' : Held) (sets sets' : Sets) (no : ThreadNo) (one : IsExactlyOne h.contents) (is : IsStepped change h h' sets sets' no) where
  abbrev before : Cached
  before = record { machine = machine; memory = memory; held = h; sets = sets }

  abbrev after : Cached
  after = record { machine = machine; memory = memory; held = h'; sets = sets' }

  abbrev left : ThreadRec
  left = left_by change is.value

  left_no : left.no ≡ no
  left_no = (thread_kept change is.value).no ∙ number_found h.contents no is.value is.there

  -- it stood there
  pub stood : slice_get (state_of before).threads no.0 ≡ Some (flat_thread is.value)
  stood = (all_found (Some machine) memory h.contents one).threads no.0 ∙ ap thread_of is.there

  there : IsSome (content_of h.contents (name.Thread left.no))
  there = rw (left_no, is.there) refl

  -- and stands there as it was left
  pub now_stands : state_of after ≡ with_thread (state_of before) no.0 (flat_thread left)
  now_stands =
      change_shown (Some machine) memory h.contents h'.contents one is.only.names (item.Thread left) is.contents there
      ∙ ap (λ (n : ThreadNo). with_thread (state_of before) n.0 (flat_thread left)) left_no

  contents_kept : (n : Name) → option_map but_for_steps (content_of h'.contents n) ≡ option_map but_for_steps (content_of h.contents n)
  contents_kept n = elim (cases_name (name.Thread left.no) n) [
    | inl same ↦
        let now : content_of h'.contents n ≡ Some (item.Thread left) = subst (λ (m : Name). content_of h'.contents m ≡ Some (item.Thread left)) same (at_name h.contents h'.contents (item.Thread left) is.contents) in
        let was : content_of h.contents n ≡ Some (item.Thread is.value) = subst (λ (m : Name). content_of h.contents m ≡ Some (item.Thread is.value)) (ap name.Thread (sym left_no) ∙ same) is.there in
        ap (option_map but_for_steps) now ∙ ap Some (thread_kept change is.value).aside ∙ sym (ap (option_map but_for_steps) was)
    | inr apart ↦ ap (option_map but_for_steps) (elsewhere h.contents h'.contents (item.Thread left) is.contents n apart)
  ]

  pub aside_stays : aside_of after ≡ aside_of before
  aside_stays = aside_kept machine memory memory h h' sets sets' is.only (ap (λ (s : Sets). s.room) is.sets) contents_kept

  sets_after : AreSetsOf (state_of before).threads sets → AreSetsOf (state_of after).threads sets'
  sets_after of =
      let threads = (state_of before).threads in
      let within : left.no.0 < length threads = subst (λ (n : ThreadNo). n.0 < length threads) (sym left_no) (slice_get_within threads no.0 (flat_thread is.value) stood) in
      let done : AreSetsOf (set threads left.no.0 (flat_thread left)) (noted sets left) = sets_noted threads sets left within of in
      let same_threads : set threads left.no.0 (flat_thread left) ≡ (state_of after).threads = ap (λ (n : ThreadNo). set threads n.0 (flat_thread left)) left_no ∙ sym (ap (λ (s : FlatState). s.threads) now_stands) in
      subst₂ (λ (ts : List FlatThread) (ss : Sets). AreSetsOf ts ss) same_threads (sym is.sets) done

  module _ (t : FlatThread) (here : slice_get (state_of before).threads no.0 ≡ Some t) (may : MayCome change t) where
    is_value : flat_thread is.value ≡ t
    is_value = same_Some _ _ (sym stood ∙ here)

    its_may : MayCome change (flat_thread is.value)
    its_may = subst (MayCome change) (sym is_value) may

    -- what is shown has the thread as the change leaves it
    pub shows : state_of after ≡ with_thread (state_of before) no.0 (shows_left_by change t)
    shows = now_stands ∙ ap (with_thread (state_of before) no.0) (shows_left change is.value its_may ∙ ap (shows_left_by change) is_value)

    pub sound_stays : (granted : Caps) → IsSoundMachine before granted → IsSoundMachine after granted
    sound_stays granted sound =
        let kept = thread_kept change is.value in
        let known = sound.formed.threads.each no.0 (flat_thread is.value) stood in
        let fits = left_fits change is.value its_may known.aligned known.queued in
        record {
          formed = rw now_stands (thread_formed (state_of before) no.0 (flat_thread is.value) (flat_thread left) sound.formed stood kept.no kept.space kept.priority fits.0 fits.1);
          sets = sets_after sound.sets;
          caps = ap (λ (x : Held). x.caps) is.only.rest ∙ sound.caps;
          sums = sound.sums ∙ ap (λ (s : FlatState). locks_granted s.kernels) (sym now_stands);
        }

-- ---- the marks of a row

mark_kept : (space : SpaceNo) (vpn : ℕ) (written : Bool) (row : Row) → but_for_steps (item.Mapping (marked space vpn written row)) ≡ but_for_steps (item.Mapping row)
mark_kept space vpn written row = by (is_row_of space vpn row)
  where
    by : (its : Bool) → but_for_steps (item.Mapping (if its then record row { referenced = true; modified = row.modified || written } else row)) ≡ but_for_steps (item.Mapping row)
    by true = refl
    by false = refl

module _ (machine : Machine) (memory : List ℕ) (h h' : Held) (sets : Sets) (space : SpaceNo) (vpn : Vpn) (written : Bool) (row : Row) (was : content_of h.contents (name.Mapping space vpn) ≡ Some (item.Mapping row)) (contents : HasContent h.contents h'.contents (item.Mapping (marked space vpn.0 written row))) (only : OnlyContents h h') where
  abbrev unmarked : Cached
  unmarked = record { machine = machine; memory = memory; held = h; sets = sets }

  abbrev remarked : Cached
  remarked = record { machine = machine; memory = memory; held = h'; sets = sets }

  row_named : row_name row ≡ name.Mapping space vpn
  row_named = item_has_name h.contents (name.Mapping space vpn) (item.Mapping row) was

  mark_named : row_name (marked space vpn.0 written row) ≡ name.Mapping space vpn
  mark_named = rw (page_by_name space vpn row row_named) row_named

  pub marks : state_of remarked ≡ record (state_of unmarked) { rows = map (marked space vpn.0 written) (state_of unmarked).rows }
  marks = mark_shown (Some machine) memory h.contents h'.contents space vpn written (record { names = only.names; row = row; was = was; contents = contents })

  mark_contents : (n : Name) → option_map but_for_steps (content_of h'.contents n) ≡ option_map but_for_steps (content_of h.contents n)
  mark_contents n = elim (cases_name (name.Mapping space vpn) n) [
    | inl same ↦
        let here : content_of h'.contents (name.Mapping space vpn) ≡ Some (item.Mapping (marked space vpn.0 written row)) = subst (λ (m : Name). content_of h'.contents m ≡ Some (item.Mapping (marked space vpn.0 written row))) mark_named (at_name h.contents h'.contents (item.Mapping (marked space vpn.0 written row)) contents) in
        subst (λ (m : Name). option_map but_for_steps (content_of h'.contents m) ≡ option_map but_for_steps (content_of h.contents m)) same (ap (option_map but_for_steps) here ∙ ap Some (mark_kept space vpn.0 written row) ∙ sym (ap (option_map but_for_steps) was))
    | inr apart ↦ ap (option_map but_for_steps) (elsewhere h.contents h'.contents (item.Mapping (marked space vpn.0 written row)) contents n (λ e. apart (sym mark_named ∙ e)))
  ]

  pub mark_aside : aside_of remarked ≡ aside_of unmarked
  mark_aside = aside_kept machine memory memory h h' sets sets only refl mark_contents

  pub mark_sound : (granted : Caps) → IsSoundMachine unmarked granted → IsSoundMachine remarked granted
  mark_sound granted sound = record {
    formed = rw marks (marked_sound (state_of unmarked) granted (record { formed = sound.formed; sums = sound.sums }) space vpn.0 written).formed;
    sets = subst (λ (ts : List FlatThread). AreSetsOf ts sets) (sym (ap (λ (s : FlatState). s.threads) marks)) sound.sets;
    caps = ap (λ (x : Held). x.caps) only.rest ∙ sound.caps;
    sums = sound.sums ∙ ap (λ (s : FlatState). locks_granted s.kernels) (sym marks);
  }

-- ---- a row that has its marks

lacking : (referenced written modified : Bool) → (not referenced || (written && not modified)) ≡ false → (referenced ≡ true) × ((modified || written) ≡ modified)
lacking false written modified has = absurd (cc)
lacking true false true has = (refl, refl)
lacking true false false has = (refl, refl)
lacking true true true has = (refl, refl)
lacking true true false has = absurd (cc)

pub lacks_of_some : (written : Bool) (o : Option Item) → lacks_mark written o ≡ true → IsSome o
lacks_of_some written None lacks = absurd (cc)
lacks_of_some written (Some it) lacks = refl

module _ (h : Held) (space : SpaceNo) (vpn : Vpn) (written : Bool) (has : lacks_mark written (content_of h.contents (name.Mapping space vpn)) ≡ false) where
  module _ (row : Row) (was : content_of h.contents (name.Mapping space vpn) ≡ Some (item.Mapping row)) where
    mark_changes_nothing : marked space vpn.0 written row ≡ row
    mark_changes_nothing = by (is_row_of space vpn.0 row)
      where
        its : (row.referenced ≡ true) × ((row.modified || written) ≡ row.modified)
        its = lacking row.referenced written row.modified (subst (λ (o : Option Item). lacks_mark written o ≡ false) was has)

        by : (b : Bool) → (if b then record row { referenced = true; modified = row.modified || written } else row) ≡ row
        by false = refl
        by true =
            ap (λ (x : Bool). let r : Row = record row { referenced = x; modified = row.modified || written } in r) (sym its.0)
            ∙ ap (λ (x : Bool). let r : Row = record row { modified = x } in r) its.1

    content_stays : HasContent h.contents h.contents (item.Mapping row)
    content_stays other = elim (cases_name (row_name row) other) [
      | inl same ↦ subst (λ (n : Name). content_of h.contents n ≡ (if is_name (row_name row) n then Some (item.Mapping row) else content_of h.contents n)) same (
          ap (content_of h.contents) (item_has_name h.contents (name.Mapping space vpn) (item.Mapping row) was) ∙ was
          ∙ sym (ap (λ (b : Bool). if b then Some (item.Mapping row) else content_of h.contents (row_name row)) (eq_itself (row_name row))))
      | inr apart ↦ sym (ap (λ (b : Bool). if b then Some (item.Mapping row) else content_of h.contents other) (eq_apart (row_name row) other apart))
    ]

  -- stays as it is
  pub marks_stay : IsMarked h h space vpn written
  marks_stay = record {
    some = λ row was. (
      subst (λ (r : Row). HasContent h.contents h.contents (item.Mapping r)) (sym (mark_changes_nothing row was)) (content_stays row was),
      record {
        rest = refl;
        names = record { kernels = refl; spaces = refl; threads = refl; rows = refl };
        residents = refl;
        issued = refl;
        spare = refl;
        room = refl;
      },
    );
    none = λ absent. refl;
  }

-- a page with no row has no mark
module _ (machine : Machine) (memory : List ℕ) (h h' : Held) (sets : Sets) (space : SpaceNo) (vpn : Vpn) (written : Bool) (is : IsMarked h h' space vpn written) where
  pub record MarkLeaves : Type 0 where
    pub state : state_of (record { machine = machine; memory = memory; held = h'; sets = sets }) ≡ record (state_of (record { machine = machine; memory = memory; held = h; sets = sets })) { rows = map (marked space vpn.0 written) (state_of (record { machine = machine; memory = memory; held = h; sets = sets })).rows }
    pub aside : aside_of (record { machine = machine; memory = memory; held = h'; sets = sets }) ≡ aside_of (record { machine = machine; memory = memory; held = h; sets = sets })
    pub sound : (granted : Caps) → IsSoundMachine (record { machine = machine; memory = memory; held = h; sets = sets }) granted → IsSoundMachine (record { machine = machine; memory = memory; held = h'; sets = sets }) granted

  pub mark_left : MarkLeaves
  mark_left = by (stored.content_of slot_row_name h.contents.rows.kept (name.Mapping space vpn)) refl
    where
      by : (o : Option Row) → stored.content_of slot_row_name h.contents.rows.kept (name.Mapping space vpn) ≡ o → MarkLeaves
      by None e =
          let was : content_of h.contents (name.Mapping space vpn) ≡ None = ap (option_map item.Mapping) e in
          let same : h' ≡ h = is.none was in
          record {
            state = ap (λ (x : Held). shown (Some machine) memory x.contents) same ∙ sym (mark_nothing (Some machine) memory h.contents space vpn was written);
            aside = ap (λ (x : Held). aside_of (record { machine = machine; memory = memory; held = x; sets = sets })) same;
            sound = λ granted sound. subst (λ (x : Held). IsSoundMachine (record { machine = machine; memory = memory; held = x; sets = sets }) granted) (sym same) sound;
          }
      by (Some row) e =
          let was : content_of h.contents (name.Mapping space vpn) ≡ Some (item.Mapping row) = ap (option_map item.Mapping) e in
          let now = is.some row was in
          record {
            state = marks machine memory h h' sets space vpn written row was now.0 now.1;
            aside = mark_aside machine memory h h' sets space vpn written row was now.0 now.1;
            sound = mark_sound machine memory h h' sets space vpn written row was now.0 now.1;
          }

-- ---- memory

module _ (machine : Machine) (memory memory' : List ℕ) (h : Held) (sets : Sets) where
  pub stores : state_of (record { machine = machine; memory = memory'; held = h; sets = sets }) ≡ record (state_of (record { machine = machine; memory = memory; held = h; sets = sets })) { memory = memory' }
  unfolding shown
  stores = refl

  pub store_sound : (granted : Caps) → length memory' ≡ length memory → IsSoundMachine (record { machine = machine; memory = memory; held = h; sets = sets }) granted → IsSoundMachine (record { machine = machine; memory = memory'; held = h; sets = sets }) granted
  unfolding shown
  store_sound granted same sound = record { formed = memory_formed (state_of (record { machine = machine; memory = memory; held = h; sets = sets })) memory' sound.formed same; sets = sound.sets; caps = sound.caps; sums = sound.sums }
