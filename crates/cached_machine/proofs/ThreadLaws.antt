-- A thread that is declared, once there is room for it in the sets and in the tables.
use Rattle.std.proofs.Common.{◌≡◌, ℕ, List, [], ◌∷◌, ◌++◌, Option, None, length, refl, sym, ◌∙◌, ap, ap₂, subst, subst₂}
use Rattle.std.proofs.lemmas.List.{length-map}
use Rattle.arrayvec.specs.ArrayVec.{ArrayVec}
use Rattle.cache_ident.specs.declared.names.Caps.{Caps}
use Rattle.cache_ident.specs.declared.names.SpaceNo.{SpaceNo}
use Rattle.cache_ident.specs.declared.names.ThreadNo.{ThreadNo}
use Rattle.rv32_exec.specs.declared.contexts.Context.{Context}
use Rattle.rv32_exec.specs.declared.statuses.Status.TheVariants.{Ready}
use Rattle.flat_state.specs.declared.events.Decl.{Decl}
use Rattle.flat_state.specs.declared.events.Decl.TheVariants as decls
use Rattle.flat_state.specs.declared.events.Machine.{Machine}
use Rattle.flat_state.specs.declared.records.FlatThread.{FlatThread}
use Rattle.flat_state.specs.Call.{is_completable}
use Rattle.flat_state.specs.Declaration.{broken_rule, declared, new_registers, new_thread}
use Rattle.flat_state.specs.State.{FlatState}
use Rattle.thread_cache.specs.declared.ThreadRec.{ThreadRec}
use Rattle.board_laws.specs.desc_stores.specs.declared.items.Item.TheVariants as item
use Rattle.board_laws.specs.desc_stores.specs.Changes.{HasContent, OnlyMakesRoom}
use Rattle.board_laws.specs.desc_stores.specs.Contents.{residents_of}
use Rattle.board_laws.specs.desc_stores.specs.Sound.{IsExactlyOne}
use Rattle.board_laws.specs.shown_state.specs.Edits.{with_new}
use Rattle.board_laws.specs.shown_state.specs.Shown.{flat_thread, shown}
use Rattle.thread_sets.specs.Sets.{pushed, SameButRoom, Sets}
use Rattle.thread_sets.specs.SetsOf.{AreSetsOf}
use Rattle.thread_sets.proofs.SetsLemmas.{sets_pushed}
use Rattle.board_laws.specs.desc_tables.specs.May.{MayBeDeclared}
use Rattle.board_laws.specs.desc_tables.specs.Tables.{Held}
use Rattle.cached_machine.specs.Cached.{state_of, Cached, IsSoundMachine}
use Rattle.cached_machine.specs.Moved.{IsMade}
use Rattle.cached_machine.specs.Posts.{OnlyLoadedAreOut}
use Rattle.board_laws.proofs.Admitted.{thread_may}
use Rattle.cached_machine.proofs.AdmitLaws.{next_thread}
use Rattle.cached_machine.proofs.MadeLaws.{beside_onward, put_made, put_out, put_state, room_beside, room_sound, room_state, thread_made}

-- a new thread, and what is shown of it
abbrev pub fresh : ThreadNo → SpaceNo → ℕ → Context → ArrayVec ℕ → List ℕ → ThreadRec
fresh whom space priority context queue output =
    record { no = whom; space = space; context = context; status = Ready; priority = priority; queue = queue; output = output; on_cpu = None; last = 0 }

pub shows_fresh : (no : ThreadNo) (space : SpaceNo) (pc priority a0 a1 : ℕ) (context : Context) (queue : ArrayVec ℕ) (output : List ℕ) → context ≡ record { regs = new_registers a0 a1; pc = pc } → queue.items ≡ [] → output ≡ [] → flat_thread (fresh no space priority context queue output) ≡ new_thread no space pc priority a0 a1
shows_fresh whom space pc priority a0 a1 context queue output is empty silent =
    ap (λ (x : Context). flat_thread (fresh whom space priority x queue output)) is
    ∙ ap₂ (λ (items bytes : List ℕ). flat_thread (fresh whom space priority (record { regs = new_registers a0 a1; pc = pc }) (record { items = items }) bytes)) empty silent

module _ (machine : Machine) (memory : List ℕ) (h h1 : Held) (sets sets1 : Sets) (rest1 : h1 ≡ record h { contents = h1.contents }) (more : OnlyMakesRoom h.contents h1.contents) (same : SameButRoom sets sets1) (no : ThreadNo) (space : SpaceNo) (pc priority a0 a1 : ℕ) where
  abbrev before : Cached
  before = record { machine = machine; memory = memory; held = h; sets = sets }

  abbrev between : Cached
  between = record { machine = machine; memory = memory; held = h1; sets = sets1 }

  abbrev d : Decl
  d = decls.Thread no space pc priority a0 a1

  state_between : state_of between ≡ state_of before
  state_between = room_state machine memory h h1 sets sets1 rest1 more

  module _ (fits : broken_rule (state_of before) d ≡ None) (thread : ThreadRec) (its : flat_thread thread ≡ new_thread no space pc priority a0 a1) where
    fits_between : broken_rule (state_of between) d ≡ None
    fits_between = subst (λ (s : FlatState). broken_rule s d ≡ None) (sym state_between) fits

    pub next_in_sets : IsExactlyOne h1.contents → AreSetsOf (state_of before).threads sets → no.0 ≡ length sets1.completable
    next_in_sets one of =
        next_thread machine memory h1.contents one no space pc priority a0 a1 fits_between
        ∙ ap (λ (s : FlatState). length s.threads) state_between
        ∙ sym (ap length (same.completable ∙ of.completable) ∙ length-map (state_of before).threads is_completable)

    module _ (one : IsExactlyOne h1.contents) (caps : h.caps ≡ machine.caps) where
      caps_between : h1.caps ≡ machine.caps
      caps_between = ap (λ (x : Held). x.caps) rest1 ∙ caps

      pub thread_declares : MayBeDeclared h1.caps h1.contents (item.Thread thread)
      thread_declares = thread_may machine memory h1.contents one h1.caps caps_between no space pc priority a0 a1 thread fits_between its

      module _ (h2 : Held) (sets2 : Sets) (rest2 : h2 ≡ record h1 { contents = h2.contents }) (residents : residents_of h2.contents ≡ residents_of h1.contents) (issued : h2.contents.issued ≡ h1.contents.issued) (has : HasContent h1.contents h2.contents (item.Thread thread)) (on_cpu : thread.on_cpu ≡ None) (last : thread.last ≡ 0) (shows : (m : Option Machine) (bytes : List ℕ) → shown m bytes h2.contents ≡ with_new (shown m bytes h1.contents) (item.Thread thread)) where
        abbrev after : Cached
        after = record { machine = machine; memory = memory; held = h2; sets = sets2 }

        state_after : state_of after ≡ declared (state_of between) d
        state_after = put_state machine memory h1 h2 sets1 sets2 rest2 d (item.Thread thread) its shows

        all_sets : sets2 ≡ pushed sets1 thread → AreSetsOf (state_of between).threads sets1 → AreSetsOf (declared (state_of between) d).threads sets2
        unfolding declared
        all_sets is of =
            subst₂ (λ (t : FlatThread) (ss : Sets). AreSetsOf ((state_of between).threads ++ t ∷ []) ss) its (sym is) (sets_pushed (state_of between).threads sets1 thread of)

        pub thread_keeps : (granted : Caps) → sets2 ≡ pushed sets1 thread → IsSoundMachine before granted × OnlyLoadedAreOut h.contents → IsSoundMachine after granted × OnlyLoadedAreOut h2.contents
        thread_keeps granted is sound =
            let mid = room_sound machine memory h h1 sets sets1 rest1 more granted same sound in (
              thread_made between after granted refl (ap (λ (x : Held). x.caps) rest2) mid.0 no space pc priority a0 a1 fits_between state_after (all_sets is mid.0.sets),
              put_out machine memory h1 h2 sets1 sets2 rest2 d (item.Thread thread) residents issued has thread_declares.absent on_cpu last mid.1,
            )

        pub thread_is_made : h2.contents.spare ≡ h1.contents.spare → IsMade d before after
        thread_is_made spare =
            let made = put_made machine memory h1 h2 sets1 sets2 rest2 d (item.Thread thread) residents issued has thread_declares.absent on_cpu last spare state_after in
            record {
              state = made.state ∙ ap (λ (s : FlatState). declared s d) state_between;
              beside = beside_onward before between after (room_beside machine memory h h1 sets sets1 rest1 more) made.beside;
            }
