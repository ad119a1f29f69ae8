use Rattle.std.proofs.Common.{◌≡◌, ℕ, ◌+◌, ◌≤◌, List, length, sym, ap, subst, ◌∙◌}
use Rattle.rv32_exec.specs.Pages.{put_bytes, size_of}
use Rattle.flat_state.proofs.Storing.{length-put_bytes}
use Rattle.cached_machine.specs.Aside.{aside_of}
use Rattle.cached_machine.specs.Cached.{state_of, Cached}
use Rattle.cached_machine.proofs.ReadLaws.{shows_memory}
use Rattle.cached_machine.proofs.StepLaws.{store_sound, stores}
use Rattle.cached_machine.proofs.steps.CachedMachineSteps.store.Goals as goal

pub store_in-requires-clause-within : goal.store_in-requires-clause-within
store_in-requires-clause-within c =
    let is : c.self.inside.memory ≡ (state_of c.args.self.now).memory = ap (λ (m : Cached). m.memory) c.self.view_is ∙ shows_memory c.args.self.now in
    subst (λ (m : List ℕ). c.args.at + size_of c.args.width ≤ length m) (sym is) c.requires.within

pub invariant_of-self : goal.invariant_of-self
invariant_of-self c =
    let i = c.self.inside in
    rw c.store_in.ensures (store_sound i.machine i.memory (put_bytes (size_of c.args.width) i.memory c.args.at c.args.value) i.tables i.sets i.granted (length-put_bytes (size_of c.args.width) i.memory c.args.at c.args.value) c.self.invariant.0, c.self.invariant.1)

pub returns-clause-state : goal.returns-clause-state
returns-clause-state c =
    let i = c.self.inside in
    stores i.machine i.memory c.store_in.new.memory i.tables i.sets
    ∙ ap (λ (m : List ℕ). record (state_of (record { machine = i.machine; memory = i.memory; held = i.tables; sets = i.sets })) { memory = m }) c.store_in.ensures
    ∙ ap (λ (m : Cached). record (state_of m) { memory = put_bytes (size_of c.args.width) m.memory c.args.at c.args.value }) c.self.view_is
    ∙ ap (λ (m : List ℕ). record (state_of c.args.self.now) { memory = put_bytes (size_of c.args.width) m c.args.at c.args.value }) (shows_memory c.args.self.now)

pub returns-clause-rest : goal.returns-clause-rest
returns-clause-rest c = ap aside_of c.self.view_is
