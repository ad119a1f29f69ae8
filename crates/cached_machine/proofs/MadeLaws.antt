-- What stays beside the state as a content comes, changes or goes, and what holds of the machine then.
use Rattle.std.proofs.Common.{◌≡◌, ◌≢◌, ℕ, ◌+◌, ◌*◌, ◌≤◌, IsSome, Bool, List, Option, Some, None, refl, sym, ◌∙◌, ap, subst, inl, inr, arith}
use Rattle.std.specs.List.{list_any}
use Rattle.std.specs.Option.{option_map}
use Rattle.std.specs.Prelude.{if◌then◌else◌, Result, Ok, Err, OnErr}
use Rattle.cache_ident.specs.declared.idents.Ident.{Ident}
use Rattle.cache_ident.specs.declared.idents.Kind.{Kind}
use Rattle.cache_ident.specs.declared.idents.Kind.TheVariants as kind
use Rattle.cache_ident.specs.declared.names.Caps.{Caps}
use Rattle.cache_ident.specs.declared.names.Frame.{Frame}
use Rattle.cache_ident.specs.declared.names.KernelNo.{KernelNo}
use Rattle.cache_ident.specs.declared.names.Name.{Name}
use Rattle.cache_ident.specs.declared.names.Name.TheVariants as name
use Rattle.cache_ident.specs.declared.names.SpaceNo.{SpaceNo}
use Rattle.cache_ident.specs.declared.names.ThreadNo.{ThreadNo}
use Rattle.cache_ident.specs.declared.names.Vpn.{Vpn}
use Rattle.cache_ident.specs.Residents.{Resident}
use Rattle.phys_groups.specs.declared.rows.Flags.{Flags}
use Rattle.phys_groups.specs.Memory.{word_bytes, written}
use Rattle.flat_state.specs.declared.events.Decl.{Decl}
use Rattle.flat_state.specs.declared.events.Decl.TheVariants as decls
use Rattle.flat_state.specs.declared.events.Machine.{Machine}
use Rattle.flat_state.specs.declared.records.FlatThread.{FlatThread}
use Rattle.flat_state.specs.Declaration.{broken_rule, declared, locks_granted}
use Rattle.flat_state.specs.State.{FlatState}
use Rattle.flat_state.specs.WellFormed.{IsWellFormed}
use Rattle.flat_machine.proofs.DeclareSound.{kernel_sound, plus, right_sound, row_sound, space_sound, thread_sound, word_sound, Sound}
use Rattle.thread_sets.specs.owner_shelf.proofs.NameLemmas.{eq_apart}
use Rattle.thread_sets.specs.kind_store.specs.Changes.{is_name}
use Rattle.thread_sets.specs.kind_store.specs.Kept as stored
use Rattle.thread_sets.specs.kind_store.proofs.ContentLemmas.{cases_name}
use Rattle.kernel_cache.specs.declared.KernelRec.{KernelRec}
use Rattle.kernel_cache.specs.Kernels as kernel_rec
use Rattle.board_laws.specs.desc_stores.specs.declared.items.Item.{Item}
use Rattle.board_laws.specs.desc_stores.specs.declared.items.Item.TheVariants as item
use Rattle.board_laws.specs.desc_stores.specs.Changes.{room_of, HasContent, HasNoContent, KeepsContents, OnlyMakesRoom}
use Rattle.board_laws.specs.desc_stores.specs.Contents.{content_of, resident_as, resident_in, residents_of, Contents}
use Rattle.board_laws.specs.desc_stores.specs.Items.{name_of}
use Rattle.board_laws.specs.shown_state.specs.Edits.{with_new}
use Rattle.board_laws.specs.shown_state.specs.Shown.{shown}
use Rattle.board_laws.specs.shown_state.proofs.AlikeLemmas.{shown_alike}
use Rattle.board_laws.specs.shown_state.proofs.ChangeLemmas.{at_name, elsewhere}
use Rattle.board_laws.specs.shown_state.proofs.ListLemmas.{filter_map-agree}
use Rattle.board_laws.specs.shown_state.proofs.MoveLemmas.{alike_room}
use Rattle.thread_sets.specs.Sets.{SameButRoom, Sets}
use Rattle.thread_sets.specs.SetsOf.{AreSetsOf}
use Rattle.board_laws.specs.desc_tables.specs.Calls.{with_right}
use Rattle.board_laws.specs.desc_tables.specs.Tables.{Held}
use Rattle.board_laws.specs.Moves.{Declares, KeepsLoaded}
use Rattle.cached_machine.specs.Cached.{is_loaded, state_of, Cached, IsSoundMachine}
use Rattle.cached_machine.specs.Moved.{IsMade, KeepsBeside, OnlyRoom}
use Rattle.cached_machine.specs.Posts.{last_in, last_of, mark_in, HasSameMarks, OnlyLoadedAreOut}
use Rattle.board_laws.proofs.Declarations.{new_declared}
use Rattle.cached_machine.proofs.AlikeLaws.{same_out}

-- ---- beside the state

-- the same is loaded, and the records of threads name the same processors and last checkouts
pub record KeepsHeld (h h' : Held) : Type 0 where
  pub rest : h' ≡ record h { contents = h'.contents }
  pub loaded : KeepsLoaded h.contents h'.contents
  pub on_cpu : (whom : ThreadNo) → mark_in (content_of h'.contents (name.Thread whom)) ≡ mark_in (content_of h.contents (name.Thread whom))
  pub last : (whom : ThreadNo) → last_of h'.contents whom ≡ last_of h.contents whom

loaded_same : (old new : Contents) → residents_of new ≡ residents_of old → (n : Name) → is_loaded new n ≡ is_loaded old n
loaded_same old new same n = ap (λ (rs : List Resident). list_any (λ (r : Resident). is_name n r.name) rs) same

pub marks_kept : (h h' : Held) → KeepsHeld h h' → HasSameMarks h.contents h'.contents
marks_kept h h' kept = record { marks = kept.on_cpu; lasts = kept.last }

pub out_kept : (h h' : Held) → KeepsHeld h h' → OnlyLoadedAreOut h.contents → OnlyLoadedAreOut h'.contents
out_kept h h' kept = same_out h.contents h'.contents (marks_kept h h' kept) (loaded_same h.contents h'.contents kept.loaded.residents)

pub beside_held : (m m' : Cached) → m'.machine ≡ m.machine → KeepsHeld m.held m'.held → m'.held.contents.spare ≡ m.held.contents.spare → KeepsBeside m m'
beside_held m m' machine kept spare = record {
  machine = machine;
  caps = ap (λ (x : Held). x.caps) kept.rest;
  gone = ap (λ (x : Held). x.gone) kept.rest;
  spare = spare;
  loaded = kept.loaded;
  marks = marks_kept m.held m'.held kept;
}

pub beside_onward : (a b c : Cached) → KeepsBeside a b → KeepsBeside b c → KeepsBeside a c
beside_onward a b c first second = record {
  machine = second.machine ∙ first.machine;
  caps = second.caps ∙ first.caps;
  gone = second.gone ∙ first.gone;
  spare = second.spare ∙ first.spare;
  loaded = record { residents = second.loaded.residents ∙ first.loaded.residents; issued = second.loaded.issued ∙ first.loaded.issued };
  marks = record { marks = λ whom. second.marks.marks whom ∙ first.marks.marks whom; lasts = λ whom. second.marks.lasts whom ∙ first.marks.lasts whom };
}

pub room_held : (m m' : Cached) → m'.machine ≡ m.machine → m'.memory ≡ m.memory → KeepsHeld m.held m'.held → state_of m' ≡ state_of m → room_of m.held.contents ≤ room_of m'.held.contents → m.sets.room ≤ m'.sets.room → m'.held.contents.spare ≡ m.held.contents.spare → OnlyRoom m m'
room_held m m' machine memory kept state room sets_room spare = record {
  machine = machine;
  memory = memory;
  caps = ap (λ (x : Held). x.caps) kept.rest;
  gone = ap (λ (x : Held). x.gone) kept.rest;
  state = state;
  loaded = kept.loaded;
  marks = marks_kept m.held m'.held kept;
  room = room;
  sets_room = sets_room;
  spare = omega (arith, spare);
}

-- a view of a content that came, or changed, which sees what it saw
view_kept : {Y : Type 0} (view : Option Item → Y) (old new : Contents) (it : Item) → HasContent old new it → view (Some it) ≡ view (content_of old (name_of it)) → (n : Name) → view (content_of new n) ≡ view (content_of old n)
view_kept view old new it has same n = elim (cases_name (name_of it) n) [
  | inl is ↦ subst (λ (k : Name). view (content_of new k) ≡ view (content_of old k)) is (ap view (at_name old new it has) ∙ same)
  | inr apart ↦ ap view (elsewhere old new it has n apart)
]

module _ (h h' : Held) (rest : h' ≡ record h { contents = h'.contents }) (residents : residents_of h'.contents ≡ residents_of h.contents) (issued : h'.contents.issued ≡ h.contents.issued) where
  -- a content came or changed
  pub held_with : (it : Item) → HasContent h.contents h'.contents it → mark_in (Some it) ≡ mark_in (content_of h.contents (name_of it)) → last_in (Some it) ≡ last_in (content_of h.contents (name_of it)) → KeepsHeld h h'
  held_with it has mark last = record {
    rest = rest;
    loaded = record { residents = residents; issued = issued };
    on_cpu = λ whom. view_kept mark_in h.contents h'.contents it has mark (name.Thread whom);
    last = λ whom. view_kept last_in h.contents h'.contents it has last (name.Thread whom);
  }

  -- one came that is no thread which has run
  pub held_new : (it : Item) → HasContent h.contents h'.contents it → content_of h.contents (name_of it) ≡ None → mark_in (Some it) ≡ None → last_in (Some it) ≡ 0 → KeepsHeld h h'
  held_new it has absent mark last = held_with it has (mark ∙ sym (ap mark_in absent)) (last ∙ sym (ap last_in absent))

  not_a_row : (space : SpaceNo) (vpn : Vpn) (whom : ThreadNo) → name.Mapping space vpn ≢ name.Thread whom
  not_a_row space vpn whom e = cc e

  -- a row went
  pub held_without : (space : SpaceNo) (vpn : Vpn) → HasNoContent h.contents h'.contents (name.Mapping space vpn) → KeepsHeld h h'
  held_without space vpn gone =
      let same = λ (whom : ThreadNo).
      gone (name.Thread whom) ∙ ap (λ (b : Bool). if b then None else content_of h.contents (name.Thread whom)) (eq_apart (name.Mapping space vpn) (name.Thread whom) (not_a_row space vpn whom)) in
      record {
        rest = rest;
        loaded = record { residents = residents; issued = issued };
        on_cpu = λ whom. ap mark_in (same whom);
        last = λ whom. ap last_in (same whom);
      }

-- ---- room

module _ (old new : Contents) (more : OnlyMakesRoom old new) where
  abbrev roomy : Contents
  roomy = record old {
    kernels = record old.kernels { room = new.kernels.room };
    spaces = record old.spaces { room = new.spaces.room };
    threads = record old.threads { room = new.threads.room };
    rows = record old.rows { kept = record old.rows.kept { room = new.rows.kept.room }; room = new.rows.room };
  }

  keeps_roomy : KeepsContents old roomy
  unfolding stored.content_of
  keeps_roomy (name.Kernel number) = refl
  keeps_roomy (name.Space number) = refl
  keeps_roomy (name.Thread number) = refl
  keeps_roomy (name.Mapping space vpn) = refl

  same_roomy : (k : Kind) (ident : Ident) → resident_in roomy k ident ≡ resident_in old k ident
  same_roomy kind.Kernel ident = refl
  same_roomy kind.Space ident = refl
  same_roomy kind.Thread ident = refl
  same_roomy kind.Mapping ident = refl

  resident_roomy : residents_of roomy ≡ residents_of old
  unfolding residents_of
  resident_roomy = filter_map-agree (λ entry. resident_as roomy entry.ident) (λ entry. resident_as old entry.ident) old.issued (λ entry there. same_roomy entry.ident.kind entry.ident)

  pub residents_by_room : residents_of new ≡ residents_of old
  residents_by_room = ap residents_of more.is ∙ resident_roomy

  pub contents_by_room : KeepsContents old new
  contents_by_room = subst (KeepsContents old) (sym more.is) keeps_roomy

  pub shown_by_room : (machine : Option Machine) (memory : List ℕ) → shown machine memory new ≡ shown machine memory old
  shown_by_room machine memory = shown_alike machine memory old new (alike_room old new more)

  pub spare_by_room : new.spare ≡ old.spare
  spare_by_room = ap (λ (c : Contents). c.spare) more.is

  pub more_by_room : room_of old ≤ room_of new
  more_by_room = omega (arith, more.kernels, more.spaces, more.threads, more.rows)

pub held_by_room : (h h' : Held) → h' ≡ record h { contents = h'.contents } → OnlyMakesRoom h.contents h'.contents → KeepsHeld h h'
held_by_room h h' rest more = record {
  rest = rest;
  loaded = record { residents = residents_by_room h.contents h'.contents more; issued = ap (λ (c : Contents). c.issued) more.is };
  on_cpu = λ whom. ap mark_in (contents_by_room h.contents h'.contents more (name.Thread whom));
  last = λ whom. ap last_in (contents_by_room h.contents h'.contents more (name.Thread whom));
}

-- nothing changed
pub held_itself : (h : Held) → KeepsHeld h h
held_itself h = record { rest = refl; loaded = record { residents = refl; issued = refl }; on_cpu = λ whom. refl; last = λ whom. refl }

-- whatever room there is, the sets are those of the same threads
pub same_but_room : (threads : List FlatThread) (sets sets' : Sets) → SameButRoom sets sets' → AreSetsOf threads sets → AreSetsOf threads sets'
same_but_room threads sets sets' same of = record { completable = same.completable ∙ of.completable; ready = same.ready ∙ of.ready }

-- ---- what holds of the machine

-- where only room changed
pub sound_by_room : (m m' : Cached) (granted : Caps) → m'.machine ≡ m.machine → m'.held.caps ≡ m.held.caps → state_of m' ≡ state_of m → SameButRoom m.sets m'.sets → IsSoundMachine m granted → IsSoundMachine m' granted
sound_by_room m m' granted machine caps state same sound = record {
  formed = subst IsWellFormed (sym state) sound.formed;
  sets = subst (λ (s : FlatState). AreSetsOf s.threads m'.sets) (sym state) (same_but_room (state_of m).threads m.sets m'.sets same sound.sets);
  caps = caps ∙ sound.caps ∙ ap (λ (x : Machine). x.caps) (sym machine);
  sums = sound.sums ∙ ap (λ (s : FlatState). locks_granted s.kernels) (sym state);
}

module _ (m m' : Cached) (granted granted' : Caps) (machine : m'.machine ≡ m.machine) (caps : m'.held.caps ≡ m.held.caps) (sound : IsSoundMachine m granted) where
  -- where another state is shown
  pub sound_as : (t : FlatState) → state_of m' ≡ t → Sound t granted' → AreSetsOf t.threads m'.sets → IsSoundMachine m' granted'
  sound_as t state is of = record {
    formed = subst IsWellFormed (sym state) is.formed;
    sets = subst (λ (s : FlatState). AreSetsOf s.threads m'.sets) (sym state) of;
    caps = caps ∙ sound.caps ∙ ap (λ (x : Machine). x.caps) (sym machine);
    sums = is.sums ∙ ap (λ (s : FlatState). locks_granted s.kernels) (sym state);
  }

module _ (m m' : Cached) (granted : Caps) (machine : m'.machine ≡ m.machine) (caps : m'.held.caps ≡ m.held.caps) (sound : IsSoundMachine m granted) where
  abbrev s : FlatState
  s = state_of m

  base : Sound s granted
  base = record { formed = sound.formed; sums = sound.sums }

  pub kernel_made : (n : KernelNo) (limits : Caps) → broken_rule s (decls.Kernel n limits) ≡ None → state_of m' ≡ declared s (decls.Kernel n limits) → AreSetsOf s.threads m'.sets → IsSoundMachine m' (plus granted limits)
  unfolding declared
  kernel_made n limits fits state of = sound_as m m' granted (plus granted limits) machine caps sound (declared s (decls.Kernel n limits)) state (kernel_sound s granted base n limits fits) of

  pub right_made : (kernel : KernelNo) (group : ℕ) (read write : Bool) → broken_rule s (decls.Right kernel group read write) ≡ None → state_of m' ≡ declared s (decls.Right kernel group read write) → AreSetsOf s.threads m'.sets → IsSoundMachine m' granted
  unfolding declared
  right_made kernel group read write fits state of = sound_as m m' granted granted machine caps sound (declared s (decls.Right kernel group read write)) state (right_sound s granted base kernel group read write fits) of

  pub space_made : (n : SpaceNo) (kernel : KernelNo) → broken_rule s (decls.Space n kernel) ≡ None → state_of m' ≡ declared s (decls.Space n kernel) → AreSetsOf s.threads m'.sets → IsSoundMachine m' granted
  unfolding declared
  space_made n kernel fits state of = sound_as m m' granted granted machine caps sound (declared s (decls.Space n kernel)) state (space_sound s granted base n kernel fits) of

  pub thread_made : (n : ThreadNo) (space : SpaceNo) (pc priority a0 a1 : ℕ) → broken_rule s (decls.Thread n space pc priority a0 a1) ≡ None → state_of m' ≡ declared s (decls.Thread n space pc priority a0 a1) → AreSetsOf (declared s (decls.Thread n space pc priority a0 a1)).threads m'.sets → IsSoundMachine m' granted
  thread_made n space pc priority a0 a1 fits state of = sound_as m m' granted granted machine caps sound (declared s (decls.Thread n space pc priority a0 a1)) state (thread_sound s granted base n space pc priority a0 a1 fits) of

  pub row_made : (space : SpaceNo) (vpn : Vpn) (frame : Frame) (flags : Flags) (receiver : Option ThreadNo) → broken_rule s (decls.Map space vpn frame flags receiver) ≡ None → state_of m' ≡ declared s (decls.Map space vpn frame flags receiver) → AreSetsOf s.threads m'.sets → IsSoundMachine m' granted
  unfolding declared
  row_made space vpn frame flags receiver fits state of = sound_as m m' granted granted machine caps sound (declared s (decls.Map space vpn frame flags receiver)) state (row_sound s granted base space vpn frame flags receiver fits) of

  pub word_made : (frame : Frame) (offset value : ℕ) → broken_rule s (decls.Word frame offset value) ≡ None → state_of m' ≡ declared s (decls.Word frame offset value) → AreSetsOf s.threads m'.sets → IsSoundMachine m' granted
  unfolding declared
  word_made frame offset value fits state of = sound_as m m' granted granted machine caps sound (declared s (decls.Word frame offset value)) state (word_sound s granted base frame offset value fits) of

-- ---- the tables made room, or a new descriptor came

module _ (machine : Machine) (memory : List ℕ) (h h' : Held) (sets sets' : Sets) (rest : h' ≡ record h { contents = h'.contents }) where
  abbrev before : Cached
  before = record { machine = machine; memory = memory; held = h; sets = sets }

  abbrev after : Cached
  after = record { machine = machine; memory = memory; held = h'; sets = sets' }

  same_caps : h'.caps ≡ h.caps
  same_caps = ap (λ (x : Held). x.caps) rest

  module _ (more : OnlyMakesRoom h.contents h'.contents) where
    pub room_state : state_of after ≡ state_of before
    room_state = shown_by_room h.contents h'.contents more (Some machine) memory

    pub room_sound : (granted : Caps) → SameButRoom sets sets' → IsSoundMachine before granted × OnlyLoadedAreOut h.contents → IsSoundMachine after granted × OnlyLoadedAreOut h'.contents
    room_sound granted same sound = (
      sound_by_room before after granted refl same_caps room_state same sound.0,
      out_kept h h' (held_by_room h h' rest more) sound.1,
    )

    pub room_only : sets.room ≤ sets'.room → OnlyRoom before after
    room_only grown =
        room_held before after refl refl (held_by_room h h' rest more) room_state (more_by_room h.contents h'.contents more) grown (spare_by_room h.contents h'.contents more)

    pub room_beside : KeepsBeside before after
    room_beside = beside_held before after refl (held_by_room h h' rest more) (spare_by_room h.contents h'.contents more)

  module _ (d : Decl) (it : Item) (residents : residents_of h'.contents ≡ residents_of h.contents) (issued : h'.contents.issued ≡ h.contents.issued) (has : HasContent h.contents h'.contents it) (absent : content_of h.contents (name_of it) ≡ None) (mark : mark_in (Some it) ≡ None) (last : last_in (Some it) ≡ 0) where
    put_held : KeepsHeld h h'
    put_held = held_new h h' rest residents issued it has absent mark last

    pub put_out : OnlyLoadedAreOut h.contents → OnlyLoadedAreOut h'.contents
    put_out = out_kept h h' put_held

    pub put_made : h'.contents.spare ≡ h.contents.spare → state_of after ≡ declared (state_of before) d → IsMade d before after
    put_made spare state = record { state = state; beside = beside_held before after refl put_held spare }

  pub put_state : (d : Decl) (it : Item) → Declares d it → ((m : Option Machine) (bytes : List ℕ) → shown m bytes h'.contents ≡ with_new (shown m bytes h.contents) it) → state_of after ≡ declared (state_of before) d
  put_state d it its shows = shows (Some machine) memory ∙ new_declared (state_of before) d it its

-- ---- rights and words

silent : {Y : Type 0} (view : Option Item → Y) (y : Y) → view None ≡ y → ((v : KernelRec) → view (Some (item.Kernel v)) ≡ y) → (o : Option KernelRec) → view (option_map item.Kernel o) ≡ y
silent view y none some None = none
silent view y none some (Some v) = some v

kernel_found : (c : Contents) (kernel : KernelNo) → IsSome (content_of c (name.Kernel kernel)) → (was : KernelRec) × (content_of c (name.Kernel kernel) ≡ Some (item.Kernel was))
kernel_found c kernel some = by (stored.content_of kernel_rec.name_of c.kernels (name.Kernel kernel)) refl some
  where
    by : (o : Option KernelRec) → stored.content_of kernel_rec.name_of c.kernels (name.Kernel kernel) ≡ o → IsSome (option_map item.Kernel o) → (was : KernelRec) × (content_of c (name.Kernel kernel) ≡ Some (item.Kernel was))
    by None is there = absurd (cc)
    by (Some was) is there = (was, ap (option_map item.Kernel) is)

-- a kernel got other rights
pub held_right : (h h' : Held) (kernel : KernelNo) (group : ℕ) (right : Bool × Bool) → h' ≡ record h { contents = h'.contents } → residents_of h'.contents ≡ residents_of h.contents → h'.contents.issued ≡ h.contents.issued → IsSome (content_of h.contents (name.Kernel kernel))
    → ((was : KernelRec) → content_of h.contents (name.Kernel kernel) ≡ Some (item.Kernel was) → HasContent h.contents h'.contents (item.Kernel (with_right group right was))) → KeepsHeld h h'
held_right h h' kernel group right rest residents issued there has =
    let was = kernel_found h.contents kernel there in
    let now = with_right group right was.0 in
    let found = stored.content_of kernel_rec.name_of h.contents.kernels (name.Kernel now.no) in
    held_with h h' rest residents issued (item.Kernel now) (has was.0 was.1) (sym (silent mark_in None refl (λ v. refl) found)) (sym (silent last_in 0 refl (λ v. refl) found))

pub word_state : (machine : Machine) (memory : List ℕ) (h : Held) (sets : Sets) (frame : Frame) (offset value : ℕ) → state_of (record { machine = machine; memory = written memory (4096 * frame.0 + offset) (word_bytes value); held = h; sets = sets }) ≡ declared (state_of (record { machine = machine; memory = memory; held = h; sets = sets })) (decls.Word frame offset value)
unfolding shown declared
word_state machine memory h sets frame offset value = refl

-- ---- results

-- what holds also holds on an error
pub on_err : {T E P : Type 0} (r : Result T E) → P → OnErr r P
on_err (Ok x) holds = tt
on_err (Err e) holds = holds
