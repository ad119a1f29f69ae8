use Rattle.std.proofs.Common.{◌≡◌, rules, Option, ℕ, IsSome, subst}
use Rattle.cached_machine.specs.Cached.{Cached}
use Rattle.cached_machine.specs.Posts.{mark_of, OnlyLoadedAreOut}
use Rattle.cached_machine.proofs.PostLaws.{loaded_if_out}
use Rattle.cached_machine.proofs.machine.CachedMachine.processor_of.Goals as goal

pub returns-in-Some-Thread-clause-loaded : goal.returns-in-Some-Thread-clause-loaded
returns-in-Some-Thread-clause-loaded c = λ some.
    let contents = c.args.self.now.held.contents in
    let mark : c.in-Some-Thread.thread.now.on_cpu ≡ mark_of contents c.args.no = search rules in
    let out = subst (λ (m : Cached). OnlyLoadedAreOut m.held.contents) c.self.view_is c.self.invariant.1 in
    loaded_if_out contents c.args.no out (subst (λ (o : Option ℕ). IsSome o) mark some)
