-- A machine of which nothing but itself was declared.
use Rattle.std.proofs.Common.{◌≡◌, ℕ, ◌*◌, ◌<◌, false, List, [], ◌∷◌, length, replicate, take, Option, Some, None, slice_get, refl, ap, sym, ◌∙◌, subst, arith}
use Rattle.std.proofs.lemmas.List.{get_or-replicate, length-replicate}
use Rattle.std.proofs.lemmas.Option.{slice_get-get_or}
use Rattle.cache_ident.specs.declared.names.Frame.{Frame}
use Rattle.cache_ident.specs.declared.names.Name.TheVariants as name
use Rattle.cache_ident.specs.declared.names.ThreadNo.{ThreadNo}
use Rattle.phys_groups.specs.Memory.{page_at}
use Rattle.flat_state.specs.declared.events.Decl.TheVariants as decls
use Rattle.flat_state.specs.declared.events.Machine.{Machine}
use Rattle.flat_state.specs.Declaration.{broken_rule, rule_of_machine}
use Rattle.flat_state.specs.Events.{flat}
use Rattle.flat_state.specs.State.{nothing_declared, FlatState}
use Rattle.run_journal.specs.declared.entries.Entry.{Entry}
use Rattle.run_journal.specs.declared.entries.Entry.TheVariants.{Declared}
use Rattle.run_journal.specs.Entries.{erase, steps_in, Written}
use Rattle.cached_machine.specs.desc_stores.specs.declared.items.Item.{Item}
use Rattle.cached_machine.specs.desc_stores.specs.declared.items.Item.TheVariants as item
use Rattle.cached_machine.specs.desc_stores.specs.Changes.{IsNothing}
use Rattle.cached_machine.specs.desc_stores.specs.Contents.{content_of}
use Rattle.cached_machine.specs.shown_state.specs.Shown.{thread_of}
use Rattle.cached_machine.specs.shown_state.proofs.LookupLemmas.{all_found}
use Rattle.cached_machine.specs.board_laws.specs.Telling.{AreAsTold}
use Rattle.cached_machine.specs.board_laws.proofs.Declarations.{machine_told}
use Rattle.cached_machine.specs.board_laws.proofs.Growing.{state_is_flat}
use Rattle.cached_machine.specs.Cached.{state_of, Cached}
use Rattle.cached_machine.specs.Posts.{last_in, last_of, mark_in, mark_of}
use Rattle.board_core.specs.Core.{IsSound}
use Rattle.board_core.specs.Stamps.{AreStamps, IsSince}
use Rattle.board_core.proofs.OpeningLaws.{memory_shown}
use Rattle.board_core.proofs.SoundLaws.{told_again, HasSoundTables}

first_rule : (m : Machine) → rule_of_machine m ≡ None → broken_rule nothing_declared (decls.Machine m) ≡ None
unfolding broken_rule
first_rule m none = none

last_none : (o : Option Item) → thread_of o ≡ None → last_in o ≡ 0
last_none (Some (item.Thread thread)) none = absurd (cc)
last_none (Some (item.Kernel kernel)) none = refl
last_none (Some (item.Space space)) none = refl
last_none (Some (item.Mapping row)) none = refl
last_none None none = refl

mark_none : (o : Option Item) → thread_of o ≡ None → mark_in o ≡ None
mark_none (Some (item.Thread thread)) none = absurd (cc)
mark_none (Some (item.Kernel kernel)) none = refl
mark_none (Some (item.Space space)) none = refl
mark_none (Some (item.Mapping row)) none = refl
mark_none None none = refl

module _ (m : Machine) (machine : Cached) (rule : rule_of_machine m ≡ None) (is : machine.machine ≡ m) (nothing : IsNothing m.caps machine.held.contents) (tables : HasSoundTables machine)
    (state : state_of machine ≡ record nothing_declared { machine = Some m; memory = replicate (524288 * m.groups) 0 }) where
  abbrev first : List Entry
  first = Declared (decls.Machine m) ∷ []

  memory_is : machine.memory ≡ replicate (524288 * m.groups) 0
  memory_is = sym (memory_shown machine.machine machine.memory machine.held.contents) ∙ ap (λ (s : FlatState). s.memory) state

  first_told : AreAsTold m (replicate (524288 * m.groups) 0) machine.held.contents false first
  first_told = machine_told m machine.held.contents (first_rule m rule) nothing

  now_told : AreAsTold machine.machine machine.memory machine.held.contents false first
  now_told = told_again m machine.machine (replicate (524288 * m.groups) 0) machine.memory machine.held.contents false first first is memory_is refl first_told

  no_thread : (whom : ThreadNo) → thread_of (content_of machine.held.contents (name.Thread whom)) ≡ None
  no_thread whom =
      let found = (all_found (Some machine.machine) machine.memory machine.held.contents tables.1.whole.one).threads whom.0 in
      sym found ∙ ap (λ (s : FlatState). slice_get s.threads whom.0) state

  last_zero : (whom : ThreadNo) → last_of machine.held.contents whom ≡ 0
  last_zero whom = last_none (content_of machine.held.contents (name.Thread whom)) (no_thread whom)

  unmarked : (whom : ThreadNo) → mark_of machine.held.contents whom ≡ None
  unmarked whom = mark_none (content_of machine.held.contents (name.Thread whom)) (no_thread whom)

  memory_flat : (flat (erase first)).memory ≡ machine.memory
  memory_flat =
      ap (λ (s : FlatState). s.memory) (sym (state_is_flat machine.machine machine.memory machine.held.contents false first now_told)) ∙ memory_shown machine.machine machine.memory machine.held.contents

  first_since : (frame : Frame) → IsSince first machine.memory frame 1
  first_since frame = record {
    within = omega arith;
    same = λ n low high.
        let all : n ≡ 1 = omega arith in
        ap (λ (k : ℕ). page_at (flat (erase (take k first))).memory frame) all ∙ ap (λ (x : List ℕ). page_at x frame) memory_flat;
  }

  first_stamps : (frames : ℕ) → frames ≡ 128 * m.groups → AreStamps first machine.memory (replicate frames 1)
  first_stamps frames enough frame there =
      let size : length machine.memory ≡ 524288 * m.groups = ap length memory_is ∙ length-replicate (524288 * m.groups) 0 in
      let low : frame.0 < frames = omega arith in
      let within : frame.0 < length (replicate frames 1) = subst (λ (n : ℕ). frame.0 < n) (sym (length-replicate frames 1)) low in
      record {
        stamp = 1;
        there = slice_get-get_or (replicate frames 1) frame.0 0 within ∙ ap Some (get_or-replicate frames frame.0 1 0 low);
        since = first_since frame;
      }

  pub new_sound : (w : Written) (limit frames stamp : ℕ) (stamps : List ℕ) → w.entries ≡ first → frames ≡ 128 * m.groups → stamp ≡ length w.entries → stamps ≡ replicate frames stamp
      → IsSound (record { machine = machine; journal = w; sealed = false; limit = limit; steps = 0; checkouts = 0; stamps = stamps })
  new_sound w limit frames stamp stamps begun enough ends are = record {
    told = subst (λ (j : List Entry). AreAsTold machine.machine machine.memory machine.held.contents false j) (sym begun) now_told;
    steps = ap steps_in (sym begun);
    limit = omega arith;
    marks = λ whom cpu is_on. absurd (let none = unmarked whom in cc);
    out = λ whom absent. unmarked whom;
    lasts = λ whom. let zero_yet = last_zero whom in omega arith;
    stamps = subst (λ (j : List Entry). AreStamps j machine.memory stamps) (sym begun)
        (subst (λ (xs : List ℕ). AreStamps first machine.memory xs) (sym (are ∙ ap (replicate frames) (ends ∙ ap length begun))) (first_stamps frames enough));
    tables = tables;
  }
