-- What holds still where the same machine is shown, and each thread has the same content.
use Rattle.std.proofs.Common.{◌≡◌, ℕ, ◌<◌, Bool, List, Option, Some, None, length, slice_get, refl, sym, ◌∙◌, ap, subst, inl, inr, arith}
use Rattle.std.specs.List.{list_any}
use Rattle.std.specs.Option.{option_map}
use Rattle.std.specs.Prelude.{if◌then◌else◌}
use Rattle.std.proofs.lemmas.Option.{slice_get_cases}
use Rattle.cache_ident.specs.declared.names.Caps.{Caps}
use Rattle.cache_ident.specs.declared.names.Name.{Name}
use Rattle.cache_ident.specs.declared.names.Name.TheVariants as name
use Rattle.cache_ident.specs.declared.names.ThreadNo.{ThreadNo}
use Rattle.cache_ident.specs.Residents.{Resident}
use Rattle.flat_state.specs.declared.events.Machine.{Machine}
use Rattle.flat_state.specs.Declaration.{locks_granted}
use Rattle.flat_state.specs.State.{FlatState}
use Rattle.flat_state.specs.WellFormed.{IsWellFormed}
use Rattle.thread_sets.specs.kind_store.specs.Changes.{is_name}
use Rattle.thread_cache.specs.declared.ThreadRec.{ThreadRec}
use Rattle.board_laws.specs.desc_stores.specs.declared.items.Item.TheVariants as item
use Rattle.board_laws.specs.desc_stores.specs.Contents.{content_of, residents_of, Contents}
use Rattle.board_laws.specs.desc_groups.specs.Moves.{but_for_counts}
use Rattle.board_laws.specs.desc_tables.specs.Tables.{Held}
use Rattle.board_laws.specs.shown_state.specs.Shown.{shown}
use Rattle.thread_sets.specs.Sets.{SameButRoom, Sets}
use Rattle.thread_sets.specs.SetsOf.{AreSetsOf}
use Rattle.cached_machine.specs.Cached.{is_loaded, Cached, IsSoundMachine}
use Rattle.cached_machine.specs.Posts.{last_in, mark_in, mark_of, HasLoadedMarks, HasSameMarks, OnlyLoadedAreOut}

pub itself_but_room : (sets : Sets) → SameButRoom sets sets
itself_but_room sets = record { completable = refl; ready = refl }

-- the machine is sound still
module _ (machine : Machine) (memory : List ℕ) (h h' : Held) (sets sets' : Sets) (state : shown (Some machine) memory h'.contents ≡ shown (Some machine) memory h.contents) (caps : h'.caps ≡ h.caps) (same : SameButRoom sets sets') where
  abbrev before : Cached
  before = record { machine = machine; memory = memory; held = h; sets = sets }

  abbrev after : Cached
  after = record { machine = machine; memory = memory; held = h'; sets = sets' }

  pub alike_sound : (granted : Caps) → IsSoundMachine before granted → IsSoundMachine after granted
  alike_sound granted sound = record {
    formed = subst IsWellFormed (sym state) sound.formed;
    sets = subst (λ (s : FlatState). AreSetsOf s.threads sets') (sym state) (record {
      completable = same.completable ∙ sound.sets.completable;
      ready = same.ready ∙ sound.sets.ready;
    });
    caps = caps ∙ sound.caps;
    sums = sound.sums ∙ ap (λ (s : FlatState). locks_granted s.kernels) (sym state);
  }

-- ---- marks and last checkouts

-- threads are the same but for the counts of locks, which they haven't
same_thread : (a b : Option ThreadRec) → option_map but_for_counts (option_map item.Thread a) ≡ option_map but_for_counts (option_map item.Thread b) → option_map item.Thread a ≡ option_map item.Thread b
same_thread None None e = refl
same_thread None (Some y) e = absurd (cc)
same_thread (Some x) None e = absurd (cc)
same_thread (Some x) (Some y) e = let same : x ≡ y = cc in ap (λ (t : ThreadRec). Some (item.Thread t)) same

pub threads_kept : (old new : Contents) → ((n : Name) → option_map but_for_counts (content_of new n) ≡ option_map but_for_counts (content_of old n)) → (whom : ThreadNo) → content_of new (name.Thread whom) ≡ content_of old (name.Thread whom)
threads_kept old new kept whom = same_thread _ _ (kept (name.Thread whom))

-- each thread has the same content
pub same_marks : (old new : Contents) → ((whom : ThreadNo) → content_of new (name.Thread whom) ≡ content_of old (name.Thread whom)) → HasSameMarks old new
same_marks old new threads = record { marks = λ whom. ap mark_in (threads whom); lasts = λ whom. ap last_in (threads whom) }

-- ---- who is on a processor

-- marks are the same, and the same are loaded
pub same_out : (old new : Contents) → HasSameMarks old new → ((n : Name) → is_loaded new n ≡ is_loaded old n) → OnlyLoadedAreOut old → OnlyLoadedAreOut new
same_out old new same loaded out whom absent = same.marks whom ∙ out whom (sym (loaded (name.Thread whom)) ∙ absent)

-- only the marks of what is loaded are left
pub loaded_out : (old new : Contents) → HasLoadedMarks old new → OnlyLoadedAreOut new
loaded_out old new has whom absent = has.marks whom ∙ ap (λ (b : Bool). if b then mark_of old whom else None) absent

pub same_loaded : (old new : Contents) → residents_of new ≡ residents_of old → (n : Name) → is_loaded new n ≡ is_loaded old n
same_loaded old new residents n = ap (λ (rs : List Resident). list_any (λ (r : Resident). is_name n r.name) rs) residents

-- a place within a list has something
pub at_place : {X : Type 0} (xs : List X) (n : ℕ) → n < length xs → (x : X) × (slice_get xs n ≡ Some x)
at_place xs n within = elim (slice_get_cases xs n).1 [
  | inl found ↦ (found.0, found.2)
  | inr past ↦ absurd (let high = past.0 in omega arith)
]
