-- What a sound board shows.
use Rattle.std.proofs.Common.{◌≡◌, ℕ, ◌<◌, List, [], ◌∷◌, length, Contains, Option, Some, None, slice_get, refl, sym, ◌∙◌, subst, inl, inr, arith}
use Rattle.std.specs.Prelude.{option_to_list}
use Rattle.std.specs.Option.{option_map}
use Rattle.std.proofs.lemmas.Option.{same_Some, slice_get_cases}
use Rattle.cache_ident.specs.declared.names.KernelNo.{KernelNo}
use Rattle.cache_ident.specs.declared.names.Name.TheVariants as name
use Rattle.cache_ident.specs.declared.names.SpaceNo.{SpaceNo}
use Rattle.cache_ident.specs.declared.names.ThreadNo.{ThreadNo}
use Rattle.board_calls.specs.flat_laws.proofs.Members.{Contains-here}
use Rattle.board_calls.specs.flat_state.specs.declared.records.FlatKernel.{FlatKernel}
use Rattle.board_calls.specs.flat_state.specs.declared.records.FlatThread.{FlatThread}
use Rattle.board_calls.specs.flat_state.specs.Dependence.{parents, Depends}
use Rattle.board_calls.specs.flat_state.specs.Events.{flat}
use Rattle.board_calls.specs.flat_state.specs.State.{FlatState}
use Rattle.board_calls.specs.flat_state.specs.WellFormed.{IsWellFormed}
use Rattle.board_calls.specs.flat_state.proofs.FormedEvents.{flat_formed}
use Rattle.board_calls.specs.run_journal.specs.Entries.{erase}
use Rattle.board_calls.specs.run_journal.proofs.LegalGrowth.{state_told}
use Rattle.board_calls.specs.cached_machine.specs.Cached.{state_of}
use Rattle.board_calls.specs.board_core.specs.Core.{IsSound, Recorded}
use Rattle.owner_laws.specs.owners.specs.Owning.{IsThreadOf}

-- the machine that it shows is that which its journal makes
pub shows : (b : Recorded) → IsSound b → flat (erase b.journal.entries) ≡ state_of b.machine
shows b sound = sym (state_told b.journal.entries) ∙ sound.told.state

pub formed : (b : Recorded) → IsSound b → IsWellFormed (state_of b.machine)
formed b sound = subst IsWellFormed (shows b sound) (flat_formed (erase b.journal.entries))

-- ---- what stands

some_at : {X : Type 0} (xs : List X) (n : ℕ) → n < length xs → (x : X) × (slice_get xs n ≡ Some x)
some_at xs n within = elim (slice_get_cases xs n).1 [
  | inl some ↦ (some.0, some.2)
  | inr none ↦ absurd (let past = none.0 in omega (arith, past, within))
]

-- the kernel of a space
pub kernel_there : (b : Recorded) → IsSound b → (n : ℕ) (kernel : KernelNo) → slice_get (state_of b.machine).spaces n ≡ Some kernel → (k : FlatKernel) × (slice_get (state_of b.machine).kernels kernel.0 ≡ Some k)
kernel_there b sound n kernel its = some_at (state_of b.machine).kernels kernel.0 ((formed b sound).spaces.owned n kernel its)

-- a thread, with its space
pub thread_there : (s : FlatState) (space : SpaceNo) (thread : ThreadNo) → IsThreadOf s space thread → (t : FlatThread) × (slice_get s.threads thread.0 ≡ Some t) × (t.space ≡ space)
thread_there s space thread is = by (slice_get s.threads thread.0) refl is
  where
    by : (o : Option FlatThread) → slice_get s.threads thread.0 ≡ o → option_map (λ (t : FlatThread). t.space) o ≡ Some space → (t : FlatThread) × (slice_get s.threads thread.0 ≡ Some t) × (t.space ≡ space)
    by None found its = absurd (cc)
    by (Some t) found its = (t, found, same_Some t.space space its)

-- .. and the space's kernel
pub space_there : (b : Recorded) → IsSound b → (space : SpaceNo) (thread : ThreadNo) → IsThreadOf (state_of b.machine) space thread → (kernel : KernelNo) × (slice_get (state_of b.machine).spaces space.0 ≡ Some kernel)
space_there b sound space thread is =
    let s : FlatState = state_of b.machine in
    let t = thread_there s space thread is in
    some_at s.spaces space.0 (subst (λ (x : SpaceNo). x.0 < length s.spaces) t.2 ((formed b sound).threads.each thread.0 t.0 t.1).space)

-- where there is a space there is one of number 0
pub a_first_one : (spaces : List KernelNo) (n : ℕ) (kernel : KernelNo) → slice_get spaces n ≡ Some kernel → (first : KernelNo) × (slice_get spaces 0 ≡ Some first)
a_first_one [] n kernel its = absurd (cc)
a_first_one (first ∷ rest) n kernel its = (first, refl)

-- ---- what depends on what

pub space_depends : (s : FlatState) (space : SpaceNo) (kernel : KernelNo) → slice_get s.spaces space.0 ≡ Some kernel → Depends s (name.Space space) (name.Kernel kernel)
unfolding parents
space_depends s space kernel its = subst (λ (o : Option KernelNo). Contains (option_to_list (option_map name.Kernel o)) (name.Kernel kernel)) (sym its) (Contains-here (name.Kernel kernel) [])

pub thread_depends : (s : FlatState) (space : SpaceNo) (thread : ThreadNo) → IsThreadOf s space thread → Depends s (name.Thread thread) (name.Space space)
unfolding parents
thread_depends s space thread is =
    let t = thread_there s space thread is in
    subst (λ (o : Option FlatThread). Contains (option_to_list (option_map (λ (x : FlatThread). name.Space x.space) o)) (name.Space space)) (sym t.1)
    (subst (λ (x : SpaceNo). Contains (name.Space t.0.space ∷ []) (name.Space x)) t.2 (Contains-here (name.Space t.0.space) []))
