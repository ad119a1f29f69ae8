-- Room, identifiers that may be issued, and bytes leave the rest of the machine as it was.
use Rattle.std.proofs.Common.{◌≡◌, ℕ, ◌+◌, ◌≤◌, cond, List, [], ◌∷◌, Option, Some, length, refl, sym, ◌∙◌, ap, subst, arith}
use Rattle.cache_ident.specs.declared.idents.Ident.{Ident}
use Rattle.cache_ident.specs.declared.idents.Kind.{Kind}
use Rattle.cache_ident.specs.declared.idents.Kind.TheVariants as kind
use Rattle.cache_ident.specs.declared.names.Caps.{Caps}
use Rattle.cache_ident.specs.declared.names.Name.TheVariants as name
use Rattle.cache_ident.specs.declared.names.ThreadNo.{ThreadNo}
use Rattle.cache_ident.specs.Residents.{Resident}
use Rattle.board_laws.specs.depend_lists.specs.Pairs.{count_of}
use Rattle.flat_state.proofs.Places.{count_by-cons}
use Rattle.flat_state.specs.declared.events.Machine.{Machine}
use Rattle.flat_state.specs.Declaration.{locks_granted}
use Rattle.flat_state.specs.State.{FlatState}
use Rattle.flat_state.specs.WellFormed.{IsWellFormed}
use Rattle.thread_sets.specs.kind_store.specs.Kept as stored
use Rattle.board_laws.specs.run_journal.specs.Legal.{is_kind}
use Rattle.board_laws.specs.run_journal.specs.Legal as legal
use Rattle.board_laws.specs.desc_stores.specs.Changes.{room_of, OnlyMakesRoom}
use Rattle.board_laws.specs.desc_stores.specs.Contents.{content_of, resident_as, resident_in, residents_of, Contents}
use Rattle.board_laws.specs.desc_groups.specs.Whole.{AreWhole}
use Rattle.board_laws.specs.depend_lists.specs.declared.nodes.Node.{Node}
use Rattle.board_laws.specs.desc_tables.specs.Tables.{Held}
use Rattle.board_laws.specs.shown_state.specs.Shown.{shown}
use Rattle.board_laws.specs.shown_state.proofs.AlikeLemmas.{shown_alike}
use Rattle.board_laws.specs.shown_state.proofs.ListLemmas.{filter_map-agree}
use Rattle.board_laws.specs.shown_state.proofs.MoveLemmas.{alike_room, alike_spare}
use Rattle.board_laws.specs.store_residents.proofs.SlotLaws.{are_few}
use Rattle.thread_sets.specs.Sets.{SameButRoom, Sets}
use Rattle.thread_sets.specs.SetsOf.{AreSetsOf}
use Rattle.cached_machine.specs.Cached.{Cached, IsSoundMachine}
use Rattle.cached_machine.specs.Moved.{OnlyRoom}
use Rattle.cached_machine.specs.Posts.{OnlyLoadedAreOut}
use Rattle.cached_machine.proofs.AlikeLaws.{alike_sound, same_loaded, same_marks, same_out}

-- ---- what only makes room

module _ (old new : Contents) where
  abbrev roomy : Contents
  roomy = record old {
    kernels = record old.kernels { room = new.kernels.room };
    spaces = record old.spaces { room = new.spaces.room };
    threads = record old.threads { room = new.threads.room };
    rows = record old.rows { kept = record old.rows.kept { room = new.rows.kept.room }; room = new.rows.room };
  }

  keeps_roomy : (whom : ThreadNo) → content_of roomy (name.Thread whom) ≡ content_of old (name.Thread whom)
  unfolding stored.content_of
  keeps_roomy whom = refl

  same_roomy : (k : Kind) (ident : Ident) → resident_in roomy k ident ≡ resident_in old k ident
  same_roomy kind.Kernel ident = refl
  same_roomy kind.Space ident = refl
  same_roomy kind.Thread ident = refl
  same_roomy kind.Mapping ident = refl

  resident_roomy : residents_of roomy ≡ residents_of old
  unfolding residents_of
  resident_roomy = filter_map-agree (λ entry. resident_as roomy entry.ident) (λ entry. resident_as old entry.ident) old.issued (λ entry there. same_roomy entry.ident.kind entry.ident)

  abbrev spared : Contents
  spared = record old { spare = new.spare }

  keeps_spared : (whom : ThreadNo) → content_of spared (name.Thread whom) ≡ content_of old (name.Thread whom)
  unfolding stored.content_of
  keeps_spared whom = refl

  same_spared : (k : Kind) (ident : Ident) → resident_in spared k ident ≡ resident_in old k ident
  same_spared kind.Kernel ident = refl
  same_spared kind.Space ident = refl
  same_spared kind.Thread ident = refl
  same_spared kind.Mapping ident = refl

  resident_spared : residents_of spared ≡ residents_of old
  unfolding residents_of
  resident_spared = filter_map-agree (λ entry. resident_as spared entry.ident) (λ entry. resident_as old entry.ident) old.issued (λ entry there. same_spared entry.ident.kind entry.ident)

-- what is the same of contents that differ in their room
pub record DiffersInRoom (old new : Contents) : Type 0 where
  pub shows : (machine : Option Machine) (memory : List ℕ) → shown machine memory new ≡ shown machine memory old
  pub residents : residents_of new ≡ residents_of old
  pub issued : new.issued ≡ old.issued
  pub threads : (whom : ThreadNo) → content_of new (name.Thread whom) ≡ content_of old (name.Thread whom)
  pub room : room_of old ≤ room_of new
  pub spare : old.spare ≤ new.spare

pub by_room : (old new : Contents) → OnlyMakesRoom old new → DiffersInRoom old new
by_room old new more = record {
  shows = λ machine memory. shown_alike machine memory old new (alike_room old new more);
  residents = ap residents_of more.is ∙ resident_roomy old new;
  issued = ap (λ (c : Contents). c.issued) more.is;
  threads = λ whom. ap (λ (c : Contents). content_of c (name.Thread whom)) more.is ∙ keeps_roomy old new whom;
  room = omega (arith, more.kernels, more.spaces, more.threads, more.rows);
  spare = let same = ap (λ (c : Contents). c.spare) more.is in omega arith;
}

pub by_spare : (old new : Contents) → new ≡ record old { spare = new.spare } → old.spare ≤ new.spare → DiffersInRoom old new
by_spare old new is grows = record {
  shows = λ machine memory. shown_alike machine memory old new (alike_spare old new is);
  residents = ap residents_of is ∙ resident_spared old new;
  issued = ap (λ (c : Contents). c.issued) is;
  threads = λ whom. ap (λ (c : Contents). content_of c (name.Thread whom)) is ∙ keeps_spared old new whom;
  room = let same = ap room_of is in omega arith;
  spare = grows;
}

pub stays_beside : (h h' : Held) → h' ≡ record h { contents = record h.contents { spare = h'.contents.spare } } → h' ≡ record h { contents = h'.contents }
stays_beside h h' stays = stays ∙ ap (λ (c : Contents). let x : Held = record h { contents = c } in x) (sym (ap (λ (x : Held). x.contents) stays))

module _ (machine : Machine) (memory : List ℕ) (h h' : Held) (sets sets' : Sets) (rest : h' ≡ record h { contents = h'.contents }) (differs : DiffersInRoom h.contents h'.contents) (same : SameButRoom sets sets') where
  abbrev before : Cached
  before = record { machine = machine; memory = memory; held = h; sets = sets }

  abbrev after : Cached
  after = record { machine = machine; memory = memory; held = h'; sets = sets' }

  same_caps : h'.caps ≡ h.caps
  same_caps = ap (λ (x : Held). x.caps) rest

  pub room_sound : (granted : Caps) → IsSoundMachine before granted → IsSoundMachine after granted
  room_sound = alike_sound machine memory h h' sets sets' (differs.shows (Some machine) memory) same_caps same

  pub room_out : OnlyLoadedAreOut h.contents → OnlyLoadedAreOut h'.contents
  room_out = same_out h.contents h'.contents (same_marks h.contents h'.contents differs.threads) (same_loaded h.contents h'.contents differs.residents)

  pub only_room : sets.room ≤ sets'.room → OnlyRoom before after
  only_room kept = record {
    machine = refl;
    memory = refl;
    caps = same_caps;
    gone = ap (λ (x : Held). x.gone) rest;
    state = differs.shows (Some machine) memory;
    loaded = record { residents = differs.residents; issued = differs.issued };
    marks = same_marks h.contents h'.contents differs.threads;
    room = differs.room;
    sets_room = kept;
    spare = differs.spare;
  }

-- ---- what bytes change

memory_shown : (machine : Option Machine) (memory memory' : List ℕ) (c : Contents) → shown machine memory' c ≡ record (shown machine memory c) { memory = memory' }
unfolding shown
memory_shown machine memory memory' c = refl

its_memory : (machine : Option Machine) (memory : List ℕ) (c : Contents) → (shown machine memory c).memory ≡ memory
unfolding shown
its_memory machine memory c = refl

pub memory_sound : (machine : Machine) (memory memory' : List ℕ) (h : Held) (sets : Sets) (granted : Caps) → length memory' ≡ length memory → IsSoundMachine (record { machine = machine; memory = memory; held = h; sets = sets }) granted → IsSoundMachine (record { machine = machine; memory = memory'; held = h; sets = sets }) granted
memory_sound machine memory memory' h sets granted long sound =
    let is = memory_shown (Some machine) memory memory' h.contents in
    let formed = sound.formed in
    record {
      formed = subst IsWellFormed (sym is) (record {
        memory = record { groups = formed.memory.groups; caps = formed.memory.caps; size = long ∙ sym (ap length (its_memory (Some machine) memory h.contents)) ∙ formed.memory.size };
        kernels = formed.kernels;
        spaces = formed.spaces;
        threads = formed.threads;
        rows = formed.rows;
      });
      sets = subst (λ (s : FlatState). AreSetsOf s.threads sets) (sym is) sound.sets;
      caps = sound.caps;
      sums = sound.sums ∙ ap (λ (s : FlatState). locks_granted s.kernels) (sym is);
    }

-- ---- how many are loaded

-- each resident is of one kind
pub all_kinds : (rs : List Resident) → length rs ≡ legal.count_of rs kind.Kernel + legal.count_of rs kind.Space + legal.count_of rs kind.Thread + legal.count_of rs kind.Mapping
all_kinds [] = refl
all_kinds (r ∷ rs) =
    let rest = all_kinds rs in
    let kernels = count_by-cons (λ (q : Resident). is_kind q.ident.kind kind.Kernel) r rs in
    let spaces = count_by-cons (λ (q : Resident). is_kind q.ident.kind kind.Space) r rs in
    let threads = count_by-cons (λ (q : Resident). is_kind q.ident.kind kind.Thread) r rs in
    let rows = count_by-cons (λ (q : Resident). is_kind q.ident.kind kind.Mapping) r rs in
    let one = by r.ident.kind in
    omega arith
  where
    by : (k : Kind) → cond (is_kind k kind.Kernel) 1 0 + cond (is_kind k kind.Space) 1 0 + cond (is_kind k kind.Thread) 1 0 + cond (is_kind k kind.Mapping) 1 0 ≡ 1
    by kind.Kernel = refl
    by kind.Space = refl
    by kind.Thread = refl
    by kind.Mapping = refl

-- and of each kind there are no more than slots
pub few_loaded : (caps : Caps) (c : Contents) (pairs : List (Ident × Node)) → AreWhole caps c pairs → length (residents_of c) ≤ count_of caps
few_loaded caps c pairs whole =
    let few = are_few c whole.one.sound caps whole.sized in
    let all = all_kinds (residents_of c) in
    let kernels = few kind.Kernel in
    let spaces = few kind.Space in
    let threads = few kind.Thread in
    let rows = few kind.Mapping in
    omega arith
