-- What moves keep of a machine with its journal.
use Rattle.std.proofs.Common.{◌≡◌, ℕ, ◌+◌, ◌≤◌, Bool, true, false, List, [], ◌∷◌, ◌++◌, length, Option, Some, None, refl, ap, sym, ◌∙◌, subst, arith}
use Rattle.std.specs.Prelude.{count_by, if◌then◌else◌}
use Rattle.std.proofs.lemmas.List.{append-nil}
use Rattle.cache_ident.specs.declared.idents.Ident.{Ident}
use Rattle.cache_ident.specs.declared.names.Name.{Name}
use Rattle.cache_ident.specs.declared.names.Name.TheVariants as name
use Rattle.cache_ident.specs.declared.names.ThreadNo.{ThreadNo}
use Rattle.board_ops.specs.depend_lists.specs.declared.nodes.Node.{Node}
use Rattle.rv32_exec.specs.declared.statuses.Status.TheVariants.{Ready}
use Rattle.flat_state.specs.declared.events.Event.{Event}
use Rattle.flat_state.specs.declared.events.Machine.{Machine}
use Rattle.flat_state.specs.Events.{after_events, flat}
use Rattle.flat_state.specs.State.{FlatState}
use Rattle.flat_rules.specs.Readings.{OfThread}
use Rattle.run_journal.specs.declared.entries.Entry.{Entry}
use Rattle.run_journal.specs.Entries.{erase, steps_in, is_step, Written}
use Rattle.run_journal.proofs.Growth.{steps-append}
use Rattle.run_journal.proofs.LegalGrowth.{flat-append}
use Rattle.cached_machine.specs.desc_stores.specs.Contents.{Contents}
use Rattle.cached_machine.specs.shown_state.specs.Shown.{shown}
use Rattle.cached_machine.specs.desc_tables.specs.Tables.{AreSound}
use Rattle.cached_machine.specs.board_laws.specs.Telling.{AreAsTold}
use Rattle.cached_machine.specs.board_laws.proofs.Growing.{state_is_flat}
use Rattle.cached_machine.specs.Cached.{is_loaded, state_of, Cached}
use Rattle.cached_machine.specs.Posts.{last_of, mark_of, HasLoadedMarks, HasSameMarks, OnlyLoadedAreOut}
use Rattle.cached_machine.proofs.AlikeLaws.{loaded_out, same_out}
use Rattle.board_core.specs.Core.{contents_of, AreReady, IsReadyOn, IsSound, Recorded}
use Rattle.board_core.specs.Growth.{GrowsBy}
use Rattle.board_core.specs.Stamps.{AreStamps}
use Rattle.board_core.proofs.StampLaws.{stamps_stay, AreQuiet}

-- ---- marks

-- whoever is on a processor was there, and is loaded still if only loaded threads were; each has its last checkout still
pub record KeepsMarks (old new : Contents) : Type 0 where
  pub marks : (no : ThreadNo) (cpu : ℕ) → mark_of new no ≡ Some cpu → mark_of old no ≡ Some cpu
  pub lasts : (no : ThreadNo) → last_of new no ≡ last_of old no
  pub out : OnlyLoadedAreOut old → OnlyLoadedAreOut new

pub same_marks : (old new : Contents) → ((n : Name) → is_loaded new n ≡ is_loaded old n) → HasSameMarks old new → KeepsMarks old new
same_marks old new loaded same = record { marks = λ whom cpu is. sym (same.marks whom) ∙ is; lasts = same.lasts; out = same_out old new same loaded }

mark_if : (b : Bool) (mark : Option ℕ) (cpu : ℕ) → (if b then mark else None) ≡ Some cpu → mark ≡ Some cpu
mark_if true mark cpu is = is
mark_if false mark cpu is = absurd (cc)

pub loaded_marks : (old new : Contents) → HasLoadedMarks old new → KeepsMarks old new
loaded_marks old new has = record {
  marks = λ whom cpu is. mark_if (is_loaded new (name.Thread whom)) (mark_of old whom) cpu (sym (has.marks whom) ∙ is);
  lasts = has.lasts;
  out = λ only. loaded_out old new has;
}

ready_in : (old new : Cached) → state_of new ≡ state_of old → (whom : ThreadNo) (cpu : ℕ) → IsReadyOn old whom cpu → IsReadyOn new whom cpu
ready_in old new same whom cpu is = record {
  processor = is.processor;
  ready = subst (λ (s : FlatState). OfThread s whom.0 (λ t. t.status ≡ Ready)) (sym same) is.ready;
}

pub still_ready : (old new : Cached) → state_of new ≡ state_of old → KeepsMarks old.held.contents new.held.contents → AreReady old → AreReady new
still_ready old new same keeps ready whom cpu is = ready_in old new same whom cpu (ready whom cpu (keeps.marks whom cpu is))

-- ---- tables

-- the tables are sound with some pairs
abbrev pub HasSoundTables : Cached → Type 0
HasSoundTables machine = (pairs : List (Ident × Node)) × AreSound machine.held pairs

-- ---- entries without events

pub quiet_erased : (es : List Entry) → AreQuiet es → erase es ≡ []
quiet_erased [] quiet = refl
quiet_erased (e ∷ es) quiet = ap (λ (xs : List Event). xs ++ erase es) quiet.0 ∙ quiet_erased es quiet.1

quiet_steps : (j es : List Entry) → AreQuiet es → steps_in (j ++ es) ≡ steps_in j
quiet_steps j es quiet =
    let none : steps_in es ≡ 0 = ap (λ (xs : List Event). count_by is_step xs) (quiet_erased es quiet) in
    let all = steps-append j es in
    omega arith

-- the same told of the same
pub told_again : (m n : Machine) (before after : List ℕ) (c : Contents) (sealed : Bool) (j k : List Entry) → n ≡ m → after ≡ before → k ≡ j → AreAsTold m before c sealed j → AreAsTold n after c sealed k
told_again m n before after c sealed j k machine memory journal told =
    subst (λ (x : List Entry). AreAsTold n after c sealed x) (sym journal)
    (subst (λ (x : List ℕ). AreAsTold n x c sealed j) (sym memory) (subst (λ (x : Machine). AreAsTold x before c sealed j) (sym machine) told))

pub memory_told : (old : Recorded) → IsSound old → (flat (erase old.journal.entries)).memory ≡ old.machine.memory
unfolding shown
memory_told old sound = ap (λ (s : FlatState). s.memory) (sym (state_is_flat old.machine.machine old.machine.memory (contents_of old) old.sealed old.journal.entries sound.told))

-- entries without events come, and the machine shows what it showed
module _ (old : Recorded) (machine : Cached) (w : Written) (sealed : Bool) (es : List Entry) (sound : IsSound old) (quiet : AreQuiet es) (tables : HasSoundTables machine) where
  pub quiet_sound : w.entries ≡ old.journal.entries ++ es → machine.machine ≡ old.machine.machine → machine.memory ≡ old.machine.memory → state_of machine ≡ state_of old.machine
      → AreAsTold old.machine.machine old.machine.memory machine.held.contents sealed (old.journal.entries ++ es) → KeepsMarks (contents_of old) machine.held.contents
      → IsSound (record old { machine = machine; journal = w; sealed = sealed })
  quiet_sound grown same_machine same_memory same told keeps =
      let j = old.journal.entries in
      let stamps = subst (λ (m : List ℕ). AreStamps (j ++ es) m old.stamps) (sym same_memory) (stamps_stay es j old.machine.memory old.stamps quiet (memory_told old sound) sound.stamps) in
      record {
        told = told_again old.machine.machine machine.machine old.machine.memory machine.memory machine.held.contents sealed (j ++ es) w.entries same_machine same_memory grown told;
        steps = sound.steps ∙ sym (quiet_steps j es quiet) ∙ ap steps_in (sym grown);
        limit = sound.limit;
        marks = still_ready old.machine machine same keeps sound.marks;
        out = keeps.out sound.out;
        lasts = λ whom. let last = keeps.lasts whom in let was = sound.lasts whom in omega arith;
        stamps = subst (λ (k : List Entry). AreStamps k machine.memory old.stamps) (sym grown) stamps;
        tables = tables;
      }

-- what the events of the entries make of the machine, when the journal tells of both
pub state_grows : (old new : Recorded) (es : List Entry) → IsSound old → IsSound new → new.journal.entries ≡ old.journal.entries ++ es → state_of new.machine ≡ after_events (state_of old.machine) (erase es)
state_grows old new es was is grown =
    state_is_flat new.machine.machine new.machine.memory (contents_of new) new.sealed new.journal.entries is.told
    ∙ ap (λ (j : List Entry). flat (erase j)) grown
    ∙ flat-append old.journal.entries es
    ∙ ap (λ (s : FlatState). after_events s (erase es)) (sym (state_is_flat old.machine.machine old.machine.memory (contents_of old) old.sealed old.journal.entries was.told))

pub grows : (old new : Recorded) (es : List Entry) → IsSound old → IsSound new → new.journal.entries ≡ old.journal.entries ++ es → new.limit ≡ old.limit → new.machine.machine ≡ old.machine.machine
    → new.machine.held.caps ≡ old.machine.held.caps → old.journal.spare ≤ new.journal.spare + length es → GrowsBy es old new
grows old new es was is grown limit machine caps spare = record {
  entries = grown;
  state = state_grows old new es was is grown;
  limit = limit;
  machine = machine;
  caps = caps;
  spare = spare;
}

pub grows_by_none : (b : Recorded) → GrowsBy [] b b
grows_by_none b = record { entries = sym (append-nil b.journal.entries); state = refl; limit = refl; machine = refl; caps = refl; spare = omega arith }

pub grown_where : (on : Bool) (es fs : List Entry) (old now new : Recorded) → old ≡ now → on ≡ true → GrowsBy es old new → GrowsBy (if on then es else fs) now new
grown_where on es fs old now new is on_it grown =
    subst (λ (b : Recorded). GrowsBy (if on then es else fs) b new) is (subst (λ (l : Bool). GrowsBy (if l then es else fs) old new) {x = true} {y = on} (sym on_it) grown)

pub grown_else : (on : Bool) (es fs : List Entry) (old now new : Recorded) → old ≡ now → on ≡ false → GrowsBy fs old new → GrowsBy (if on then es else fs) now new
grown_else on es fs old now new is off grown =
    subst (λ (b : Recorded). GrowsBy (if on then es else fs) b new) is (subst (λ (l : Bool). GrowsBy (if l then es else fs) old new) {x = false} {y = on} (sym off) grown)

pub grown_from : (es : List Entry) (old now new : Recorded) → old ≡ now → GrowsBy es old new → GrowsBy es now new
grown_from es old now new is grown = subst (λ (b : Recorded). GrowsBy es b new) is grown
