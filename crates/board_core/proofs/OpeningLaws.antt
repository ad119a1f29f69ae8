-- Declarations and the seal, with their entries.
use Rattle.std.proofs.Common.{◌≡◌, ◌≢◌, ℕ, ◌+◌, ◌*◌, ◌<◌, Bool, true, false, List, [], ◌∷◌, ◌++◌, length, Contains, Option, Some, None, IsSome, is_some, refl, ap, sym, ◌∙◌, subst, inl, inr, arith}
use Rattle.std.proofs.lemmas.List.Elements.{Contains-push}
use Rattle.std.proofs.lemmas.Option.{slice_get_cases}
use Rattle.cache_ident.specs.declared.idents.Ident.{Ident}
use Rattle.cache_ident.specs.declared.idents.Standing.TheVariants.{Live}
use Rattle.cache_ident.specs.declared.names.Frame.{Frame}
use Rattle.cache_ident.specs.declared.names.ThreadNo.{ThreadNo}
use Rattle.cache_ident.specs.Names.{first_name}
use Rattle.cache_ident.specs.Residents.{Resident}
use Rattle.cache_ident.specs.Rolls.{standing_in}
use Rattle.board_ops.specs.depend_lists.specs.declared.nodes.Node.{Node}
use Rattle.phys_groups.specs.Memory.{page_at, HasFrame}
use Rattle.flat_state.specs.declared.events.Decl.{Decl}
use Rattle.flat_state.specs.declared.events.Decl.TheVariants as decls
use Rattle.flat_state.specs.declared.events.Machine.{Machine}
use Rattle.flat_state.specs.Declaration.{broken_rule, declared, locks_granted}
use Rattle.flat_state.specs.Events.{flat}
use Rattle.flat_state.specs.Names.{stands}
use Rattle.flat_state.specs.State.{FlatState}
use Rattle.flat_state.specs.WellFormed.{IsWellFormed}
use Rattle.flat_state.proofs.Storing.{length-put_bytes, page_at-put_bytes_other, written-word}
use Rattle.board_ops.specs.flat_laws.proofs.Members.{contains_nothing}
use Rattle.cached_machine.specs.flat_machine.proofs.DeclareSound.{word_rules}
use Rattle.run_journal.specs.declared.entries.Entry.{Entry}
use Rattle.run_journal.specs.declared.entries.Entry.TheVariants.{Declared, Loaded, Locked, Sealed}
use Rattle.run_journal.specs.Entries.{erase, steps_in, Written}
use Rattle.run_journal.specs.Legal.{first_ident}
use Rattle.run_journal.proofs.Growth.{steps-append}
use Rattle.cached_machine.specs.desc_stores.specs.Contents.{content_of, residents_of, Contents}
use Rattle.cached_machine.specs.desc_stores.specs.Sound.{IsExactlyOne}
use Rattle.cached_machine.specs.shown_state.specs.Shown.{shown}
use Rattle.cached_machine.specs.shown_state.proofs.LookupLemmas.{all_found}
use Rattle.cached_machine.specs.store_residents.proofs.ResidentLemmas.{live_iff}
use Rattle.cached_machine.specs.desc_groups.specs.Moves.{idents_of, MayBeLocked}
use Rattle.cached_machine.specs.desc_groups.specs.Whole.{AreWhole}
use Rattle.cached_machine.specs.group_laws.specs.Leaving.{without_all}
use Rattle.cached_machine.specs.desc_tables.specs.May.{MayBeLoaded}
use Rattle.cached_machine.specs.desc_tables.specs.Calls.{HasPlacesFor}
use Rattle.cached_machine.specs.board_laws.specs.Moves.{IsLoad, IsLock}
use Rattle.cached_machine.specs.board_laws.specs.Telling.{AreAsTold}
use Rattle.cached_machine.specs.board_laws.proofs.Admitted.{first_has_place, first_may_load, first_may_lock}
use Rattle.cached_machine.specs.board_laws.proofs.Declarations.{declared_told}
use Rattle.cached_machine.specs.board_laws.proofs.Growing.{formed_told, state_is_flat}
use Rattle.cached_machine.specs.board_laws.proofs.Loads.{is_first, none_gone, nothing_resident, sealed_told}
use Rattle.cached_machine.specs.Cached.{state_of, Cached}
use Rattle.cached_machine.specs.Moved.{IsMade, MayBeMade}
use Rattle.cached_machine.specs.Posts.{mark_of, HasLoadedMarks, HasSameMarks}
use Rattle.board_core.specs.Core.{contents_of, IsSound, Recorded}
use Rattle.board_core.specs.Stamps.{frame_declared, stamped_at, AreStamped, AreStamps, IsWithin}
use Rattle.cached_machine.proofs.AlikeLaws.{same_loaded, same_out}
use Rattle.cached_machine.proofs.MoveLaws.{loaded_as_before}
use Rattle.board_core.proofs.NamedLaws.{just_loaded, unloaded_unmarked}
use Rattle.board_core.proofs.PlaceLaws.{same_shown, IsOnlyContents, IsOnlyHeld}
use Rattle.board_core.proofs.SoundLaws.{loaded_marks, quiet_sound, same_marks, told_again, HasSoundTables}
use Rattle.board_core.proofs.StampLaws.{have_places, one_stamped, stamps_grow}

-- ---- what a declaration changes of memory

word_in_memory : (s : FlatState) (frame : Frame) (offset value : ℕ) → IsWellFormed s → broken_rule s (decls.Word frame offset value) ≡ None → HasFrame s.memory frame
word_in_memory s frame offset value formed none =
    let rules = word_rules s (locks_granted s.kernels) (record { formed = formed; sums = refl }) frame offset value none in
    let within = rules.3 in
    let size = formed.memory.size in
    omega arith

word_size : (s : FlatState) (frame : Frame) (offset value : ℕ) → length (declared s (decls.Word frame offset value)).memory ≡ length s.memory
unfolding declared
word_size s frame offset value = ap length (written-word s.memory (4096 * frame.0 + offset) value) ∙ length-put_bytes 4 s.memory (4096 * frame.0 + offset) value

word_elsewhere : (s : FlatState) (frame : Frame) (offset value : ℕ) → IsWellFormed s → broken_rule s (decls.Word frame offset value) ≡ None → (other : Frame) → other.0 ≢ frame.0 → page_at (declared s (decls.Word frame offset value)).memory other ≡ page_at s.memory other
unfolding declared
word_elsewhere s frame offset value formed none other apart =
    let rules = word_rules s (locks_granted s.kernels) (record { formed = formed; sums = refl }) frame offset value none in
    let low = rules.1 in
    ap (λ (m : List ℕ). page_at m other) (written-word s.memory (4096 * frame.0 + offset) value)
    ∙ page_at-put_bytes_other 4 s.memory frame other offset value (omega arith) apart

no_machine : (s : FlatState) (m other : Machine) {X : Type 0} → s.machine ≡ Some m → broken_rule s (decls.Machine other) ≡ None → X
unfolding broken_rule
no_machine s m other is none = absurd (let five = ap (λ (o : Option Machine). broken_rule (record s { machine = o }) (decls.Machine other)) is in cc)

-- the declarations that a machine allows leave memory its size, and all frames but one their bytes
pub declared_size : (s : FlatState) (m : Machine) (d : Decl) → s.machine ≡ Some m → broken_rule s d ≡ None → length (declared s d).memory ≡ length s.memory
unfolding declared
declared_size s m (decls.Machine other) is none = no_machine s m other is none
declared_size s m (decls.Kernel number limits) is none = refl
declared_size s m (decls.Right kernel group read write) is none = refl
declared_size s m (decls.Space number kernel) is none = refl
declared_size s m (decls.Thread number space pc priority a0 a1) is none = refl
declared_size s m (decls.Map space vpn frame flags receiver) is none = refl
declared_size s m (decls.Word frame offset value) is none = word_size s frame offset value

pub declared_elsewhere : (s : FlatState) (m : Machine) (d : Decl) → IsWellFormed s → s.machine ≡ Some m → broken_rule s d ≡ None → (frame : Frame) → (frame_declared d ≡ Some frame → ⊥) → page_at (declared s d).memory frame ≡ page_at s.memory frame
unfolding declared
declared_elsewhere s m (decls.Machine other) formed is none frame apart = no_machine s m other is none
declared_elsewhere s m (decls.Kernel number limits) formed is none frame apart = refl
declared_elsewhere s m (decls.Right kernel group read write) formed is none frame apart = refl
declared_elsewhere s m (decls.Space number kernel) formed is none frame apart = refl
declared_elsewhere s m (decls.Thread number space pc priority a0 a1) formed is none frame apart = refl
declared_elsewhere s m (decls.Map space vpn other flags receiver) formed is none frame apart = refl
declared_elsewhere s m (decls.Word other offset value) formed is none frame apart =
    word_elsewhere s other offset value formed none frame (λ same. apart (ap (λ (n : ℕ). Some (record { 0 = n })) (sym same)))

-- the frame of a word has a stamp
pub frame_within : (s : FlatState) (d : Decl) (stamps : List ℕ) → IsWellFormed s → broken_rule s d ≡ None → ((frame : Frame) → HasFrame s.memory frame → frame.0 < length stamps) → IsWithin (frame_declared d) stamps
frame_within s (decls.Machine other) stamps formed none have = tt
frame_within s (decls.Kernel number limits) stamps formed none have = tt
frame_within s (decls.Right kernel group read write) stamps formed none have = tt
frame_within s (decls.Space number kernel) stamps formed none have = tt
frame_within s (decls.Thread number space pc priority a0 a1) stamps formed none have = tt
frame_within s (decls.Map space vpn frame flags receiver) stamps formed none have = tt
frame_within s (decls.Word frame offset value) stamps formed none have = have frame (word_in_memory s frame offset value formed none)

-- ---- declarations

pub memory_shown : (m : Machine) (memory : List ℕ) (c : Contents) → (shown (Some m) memory c).memory ≡ memory
unfolding shown
memory_shown m memory c = refl

pub machine_shown : (m : Machine) (memory : List ℕ) (c : Contents) → (shown (Some m) memory c).machine ≡ Some m
unfolding shown
machine_shown m memory c = refl

module _ (old : Recorded) (sound : IsSound old) (open_yet : old.sealed ≡ false) where
  told_open : AreAsTold old.machine.machine old.machine.memory (contents_of old) false old.journal.entries
  told_open = subst (λ (b : Bool). AreAsTold old.machine.machine old.machine.memory (contents_of old) b old.journal.entries) open_yet sound.told

  formed_now : IsWellFormed (state_of old.machine)
  formed_now = formed_told old.machine.machine old.machine.memory (contents_of old) false old.journal.entries told_open

  pub none_resident : residents_of (contents_of old) ≡ []
  none_resident = nothing_resident old.machine.machine old.machine.memory (contents_of old) old.journal.entries told_open

  none_there : (r : Resident) → Contains (residents_of (contents_of old)) r → ⊥
  none_there r there = contains_nothing r (subst (λ (rs : List Resident). Contains rs r) none_resident there)

  -- before the seal nobody is on a processor
  pub none_marked : (whom : ThreadNo) → mark_of (contents_of old) whom ≡ None
  none_marked whom = unloaded_unmarked (contents_of old) whom sound.out (λ there. none_there there.0 there.1)

  module _ (d : Decl) (none : broken_rule (state_of old.machine) d ≡ None) where
    pub may_be_made : MayBeMade d old.machine
    may_be_made = record { fits = none; good = λ r there. absurd (none_there r there) }

    pub has_stamp : IsWithin (frame_declared d) old.stamps
    has_stamp = frame_within (state_of old.machine) d old.stamps formed_now none
        (λ frame there. have_places old.journal.entries old.machine.memory old.stamps sound.stamps frame (subst (λ (m : List ℕ). HasFrame m frame) (memory_shown old.machine.machine old.machine.memory (contents_of old)) there))

    module _ (machine : Cached) (w : Written) (at : ℕ) (end : at ≡ length w.entries) (made : IsMade d old.machine machine) (grown : w.entries ≡ old.journal.entries ++ Declared d ∷ []) where
      shown_then : shown (Some old.machine.machine) machine.memory machine.held.contents ≡ declared (state_of old.machine) d
      shown_then = ap (λ (m : Machine). shown (Some m) machine.memory machine.held.contents) (sym made.beside.machine) ∙ made.state

      told_then : AreAsTold old.machine.machine machine.memory machine.held.contents false (old.journal.entries ++ Declared d ∷ [])
      told_then = declared_told old.machine.machine old.machine.memory machine.memory (contents_of old) machine.held.contents old.journal.entries d told_open none made.beside.loaded (sym shown_then)

      memory_then : (flat (erase (old.journal.entries ++ Declared d ∷ []))).memory ≡ machine.memory
      memory_then =
          ap (λ (s : FlatState). s.memory) (sym (state_is_flat old.machine.machine machine.memory machine.held.contents false (old.journal.entries ++ Declared d ∷ []) told_then))
          ∙ memory_shown old.machine.machine machine.memory machine.held.contents

      memory_made : machine.memory ≡ (declared (state_of old.machine) d).memory
      memory_made = sym (memory_shown old.machine.machine machine.memory machine.held.contents) ∙ ap (λ (s : FlatState). s.memory) shown_then

      stamped : AreStamped at old.machine.memory old.stamps machine.memory (stamped_at (frame_declared d) at old.stamps)
      stamped =
          let m = old.machine.machine in
          let is = machine_shown m old.machine.memory (contents_of old) in
          let was = memory_shown m old.machine.memory (contents_of old) in
          one_stamped at old.machine.memory old.stamps machine.memory (frame_declared d)
          (ap length memory_made ∙ declared_size (state_of old.machine) m d is none ∙ ap length was)
          has_stamp
          (λ frame there apart. ap (λ (x : List ℕ). page_at x frame) memory_made ∙ declared_elsewhere (state_of old.machine) m d formed_now is none frame apart ∙ ap (λ (x : List ℕ). page_at x frame) was)

      pub declared_sound : HasSoundTables machine → (news : List ℕ) → news ≡ stamped_at (frame_declared d) at old.stamps → IsSound (record old { machine = machine; journal = w; stamps = news })
      declared_sound tables news is =
          let j = old.journal.entries in
          let ends = end ∙ ap length grown in
          let stamps = stamps_grow j (Declared d) old.machine.memory old.stamps machine.memory (stamped_at (frame_declared d) at old.stamps) memory_then at ends sound.stamps stamped in
          let more : steps_in (j ++ Declared d ∷ []) ≡ steps_in j + 0 = steps-append j (Declared d ∷ []) in
          let all = sound.steps in
          let whole = ap steps_in grown in
          record {
            told = told_again old.machine.machine machine.machine machine.memory machine.memory machine.held.contents old.sealed (j ++ Declared d ∷ []) w.entries made.beside.machine refl grown
                (subst (λ (b : Bool). AreAsTold old.machine.machine machine.memory machine.held.contents b (j ++ Declared d ∷ [])) (sym open_yet) told_then);
            steps = omega arith;
            limit = sound.limit;
            marks = λ whom cpu is_on. absurd (let none_before = none_marked whom in let same = made.beside.marks.marks whom in cc);
            out = same_out (contents_of old) machine.held.contents made.beside.marks (same_loaded (contents_of old) machine.held.contents made.beside.loaded.residents) sound.out;
            lasts = λ whom. let last = made.beside.marks.lasts whom in let was = sound.lasts whom in omega arith;
            stamps = subst (λ (xs : List ℕ). AreStamps w.entries machine.memory xs) (sym is) (subst (λ (k : List Entry). AreStamps k machine.memory (stamped_at (frame_declared d) at old.stamps)) (sym grown) stamps);
            tables = tables;
          }

-- ---- the seal

some_first : (c : Contents) (m : Machine) (memory : List ℕ) → IsExactlyOne c → 0 < length (shown (Some m) memory c).kernels → IsSome (content_of c first_name)
unfolding stands
some_first c m memory one some =
    let found = (all_found (Some m) memory c one).stands first_name in
    elim (slice_get_cases (shown (Some m) memory c).kernels 0).1 [
      | inl is ↦ sym found ∙ ap is_some is.2
      | inr past ↦ absurd (let low = past.0 in omega arith)
    ]

module _ (old : Recorded) (pairs : List (Ident × Node)) (sound : IsSound old) (open_yet : old.sealed ≡ false) (whole : AreWhole old.machine.held.caps (contents_of old) pairs)
    (caps : old.machine.held.caps ≡ old.machine.machine.caps) (kernel : 0 < length (state_of old.machine).kernels) where
  told_now : AreAsTold old.machine.machine old.machine.memory (contents_of old) false old.journal.entries
  told_now = told_open old sound open_yet

  some_kernel : IsSome (content_of (contents_of old) first_name)
  some_kernel = some_first (contents_of old) old.machine.machine old.machine.memory whole.one kernel

  pub first_may_come : MayBeLoaded (contents_of old) first_name []
  first_may_come = first_may_load old.machine.machine old.machine.memory old.machine.held.caps (contents_of old) pairs whole (formed_now old sound open_yet) (none_resident old sound open_yet) some_kernel

  pub first_has_places : (at : ℕ) → HasPlacesFor (contents_of old) first_name [] at
  first_has_places at full = absurd (first_has_place old.machine.machine old.machine.memory old.machine.held.caps (contents_of old) pairs whole (formed_now old sound open_yet) (none_resident old sound open_yet) some_kernel caps full)

  module _ (mid : Cached) (after : List (Ident × Node)) (ident : Ident) (at : ℕ) (whole_mid : AreWhole old.machine.held.caps mid.held.contents after)
      (is : IsLoad old.machine.held.caps (contents_of old) mid.held.contents first_name [] at mid.held.gone ident) where
    pub first_is : ident ≡ first_ident
    first_is = is_first old.machine.machine old.machine.memory old.machine.held.caps (contents_of old) mid.held.contents pairs old.journal.entries [] at mid.held.gone ident told_now whole is

    is_the_first : IsLoad old.machine.held.caps (contents_of old) mid.held.contents first_name [] at mid.held.gone first_ident
    is_the_first = subst (λ (i : Ident). IsLoad old.machine.held.caps (contents_of old) mid.held.contents first_name [] at mid.held.gone i) first_is is

    may_lock_it : MayBeLocked mid.held.contents first_ident
    may_lock_it =
        first_may_lock old.machine.machine old.machine.memory old.machine.held.caps (contents_of old) pairs whole (formed_now old sound open_yet) (none_resident old sound open_yet) some_kernel
        mid.held.contents after [] at mid.held.gone whole_mid is_the_first
        (none_gone old.machine.machine old.machine.memory old.machine.held.caps (contents_of old) mid.held.contents pairs old.journal.entries [] at mid.held.gone first_ident told_now whole is_the_first)

    pub first_may_be_locked : MayBeLocked mid.held.contents ident
    first_may_be_locked = subst (λ (i : Ident). MayBeLocked mid.held.contents i) (sym first_is) may_lock_it

    pub first_is_live : standing_in mid.held.contents.issued ident ≡ Live
    first_is_live =
        let others = without_all (idents_of mid.held.gone) (residents_of (contents_of old)) in
        let new : Resident = record { ident = ident; name = first_name; locked = false } in
        (live_iff mid.held.contents whole_mid.one.sound ident).1 (new, subst (λ (rs : List Resident). Contains rs new) (sym is.residents) (Contains-push others new), refl)

    module _ (machine : Cached) (w : Written) (lock : IsLock mid.held.contents machine.held.contents ident true) (held : IsOnlyHeld old.machine mid) (only : IsOnlyContents mid machine) (same : state_of machine ≡ state_of mid)
        (came : HasLoadedMarks (contents_of old) mid.held.contents) (stay : HasSameMarks mid.held.contents machine.held.contents) where
      abbrev the_seal : List Entry
      the_seal = Sealed ∷ Loaded first_ident first_name 0 ∷ Locked first_ident 0 ∷ []

      pub sealed_sound : HasSoundTables machine → w.entries ≡ old.journal.entries ++ the_seal → IsSound (record old { machine = machine; journal = w; sealed = true })
      sealed_sound tables grown =
          let keeps = loaded_marks (contents_of old) mid.held.contents came in
          let then = same_marks mid.held.contents machine.held.contents (loaded_as_before mid.held machine.held ident true lock.residents) stay in
          quiet_sound old machine w true the_seal sound (refl, (refl, (refl, tt))) tables grown
          (ap (λ (m : Cached). m.machine) only ∙ ap (λ (m : Cached). m.machine) held) (ap (λ (m : Cached). m.memory) only ∙ ap (λ (m : Cached). m.memory) held)
          (same ∙ same_shown old.machine mid held is.shows)
          (sealed_told old.machine.machine old.machine.memory old.machine.held.caps (contents_of old) mid.held.contents machine.held.contents pairs after old.journal.entries [] at mid.held.gone
          told_now whole whole_mid caps is_the_first may_lock_it (subst (λ (i : Ident). IsLock mid.held.contents machine.held.contents i true) first_is lock))
          (record { marks = λ whom cpu is_on. keeps.marks whom cpu (then.marks whom cpu is_on); lasts = λ whom. then.lasts whom ∙ keeps.lasts whom; out = λ only. then.out (keeps.out only) })

      pub seal_marks : HasSameMarks (contents_of old) machine.held.contents
      seal_marks = record {
        marks = λ whom.
            stay.marks whom
            ∙ just_loaded (contents_of old) mid.held.contents whom sound.out came (λ there. none_there old sound open_yet there.0 there.1)
            ∙ sym (none_marked old sound open_yet whom);
        lasts = λ whom. stay.lasts whom ∙ came.lasts whom;
      }
