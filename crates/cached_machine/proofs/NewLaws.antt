-- What holds of a machine that is declared, and in which nothing stands.
use Rattle.std.proofs.Common.{◌≡◌, ℕ, ◌*◌, ◌≤◌, List, [], replicate, Option, Some, None, IsSome, refl, sym, ◌∙◌, ap, subst, arith}
use Rattle.std.specs.Option.{option_map}
use Rattle.cache_ident.specs.declared.names.Caps.{Caps}
use Rattle.cache_ident.specs.declared.names.Name.TheVariants as name
use Rattle.flat_state.specs.declared.events.Decl.TheVariants as decls
use Rattle.flat_state.specs.declared.events.Machine.{Machine}
use Rattle.flat_state.specs.declared.records.FlatThread.{FlatThread}
use Rattle.flat_state.specs.Declaration.{broken_rule, declared, locks_granted, rule_of_machine}
use Rattle.flat_state.specs.State.{nothing_declared, FlatState}
use Rattle.flat_state.specs.WellFormed.{IsWellFormed}
use Rattle.flat_state.proofs.FormedParts.{nothing_formed}
use Rattle.flat_machine.proofs.DeclareSound.{machine_rules, machine_sound}
use Rattle.thread_sets.specs.kind_store.specs.Kept as stored
use Rattle.thread_cache.specs.declared.ThreadRec.{ThreadRec}
use Rattle.thread_cache.specs.Threads as thread_rec
use Rattle.board_laws.specs.desc_stores.specs.declared.items.Item.TheVariants as item
use Rattle.board_laws.specs.desc_stores.specs.Changes.{IsNothing}
use Rattle.board_laws.specs.desc_stores.proofs.RoomLemmas.{sound-nothing}
use Rattle.board_laws.specs.shown_state.proofs.DeclareLemmas.{nothing_shown}
use Rattle.thread_sets.specs.Sets.{Sets}
use Rattle.thread_sets.specs.SetsOf.{AreSetsOf}
use Rattle.board_laws.specs.desc_tables.specs.Tables.{Held}
use Rattle.cached_machine.specs.Cached.{state_of, Cached, IsSoundMachine}
use Rattle.cached_machine.specs.Posts.{mark_in, OnlyLoadedAreOut}

-- a declared machine, before all else
abbrev pub only_machine : Machine → FlatState
only_machine machine = record nothing_declared { machine = Some machine; memory = replicate (524288 * machine.groups) 0 }

-- a machine that breaks no rule of machines can be declared
pub fits_first : (machine : Machine) → rule_of_machine machine ≡ None → broken_rule nothing_declared (decls.Machine machine) ≡ None
unfolding broken_rule
fits_first machine fits = fits

pub groups_fit : (machine : Machine) → rule_of_machine machine ≡ None → (1 ≤ machine.groups) × (machine.groups ≤ 16)
groups_fit machine fits = machine_rules nothing_declared machine (fits_first machine fits)

first_formed : (machine : Machine) → rule_of_machine machine ≡ None → IsWellFormed (only_machine machine)
unfolding declared
first_formed machine fits = (machine_sound nothing_declared (locks_granted []) (record { formed = nothing_formed; sums = refl }) machine (fits_first machine fits)).formed

-- what doesn't stand is on no processor
unmarked : (o : Option ThreadRec) → (IsSome o → ⊥) → mark_in (option_map item.Thread o) ≡ None
unmarked None never = refl
unmarked (Some thread) never = absurd (never refl)

module _ (machine : Machine) (memory : List ℕ) (held : Held) (sets : Sets) (zeros : memory ≡ replicate (524288 * machine.groups) 0) (nothing : IsNothing machine.caps held.contents) where
  abbrev made : Cached
  made = record { machine = machine; memory = memory; held = held; sets = sets }

  pub shows_nothing : state_of made ≡ only_machine machine
  shows_nothing =
      nothing_shown (Some machine) memory machine.caps held.contents nothing
      ∙ ap (λ (bytes : List ℕ). record nothing_declared { machine = Some machine; memory = bytes }) zeros

  pub new_sound : (granted : Caps) → rule_of_machine machine ≡ None → held.caps ≡ machine.caps → sets.completable ≡ [] → sets.ready ≡ [] → granted ≡ locks_granted [] → IsSoundMachine made granted
  new_sound granted fits caps completable ready none = record {
    formed = subst IsWellFormed (sym shows_nothing) (first_formed machine fits);
    sets = subst (λ (ts : List FlatThread). AreSetsOf ts sets) (sym (ap (λ (s : FlatState). s.threads) shows_nothing)) (record { completable = completable; ready = ready });
    caps = caps;
    sums = none ∙ ap (λ (s : FlatState). locks_granted s.kernels) (sym shows_nothing);
  }

  pub none_out : OnlyLoadedAreOut held.contents
  none_out whom absent = unmarked (stored.content_of thread_rec.name_of held.contents.threads (name.Thread whom)) (λ some.
      let number = (sound-nothing machine.caps held.contents nothing).thread_names.only (name.Thread whom) some in
      let below = number.1 in
      let none = nothing.thread_count in
      omega arith)
