use Rattle.std.proofs.Common.{ℕ, [], ◌∷◌, ◌++◌, ◌↔◌, Contains, IsTrue, refl, sym, subst}
use Rattle.run_journal.specs.Legal.{AreGood}
use Rattle.cache_ident.specs.declared.idents.Cause.TheVariants.{Displaced, Unloaded}
use Rattle.cache_ident.specs.Residents.{without}
use Rattle.flat_state.specs.State.{FlatState}
use Rattle.flat_state.specs.WellFormed.{IsWellFormed}
use Rattle.flat_state.proofs.FormedEvents.{flat_formed}
use Rattle.residents.specs.Tables.{AreThose, resident_of}
use Rattle.run_journal.specs.declared.entries.Entry.TheVariants.{WrittenBack}
use Rattle.run_journal.specs.Groups.{IsGroup}
use Rattle.run_journal.specs.Told.{told_after}
use Rattle.journal_groups.specs.Leaving.{IsLeaving}
use Rattle.journal_facts.specs.Facts.{AreFactsBehind}
use Rattle.journal_facts.proofs.Standing.{decided, stand_on}
use Rattle.journal_facts.proofs.Departing.{held_there}
use Rattle.journal_facts.proofs.facts.Facts.leave_last.Goals as goal

pub returns : goal.returns
returns c = λ k are sealed one.
    let displaced = λ (cpu : ℕ). c.in_ok-leave.ensures k are.stand.state are.stand.tables one Displaced cpu in
    let unloaded = λ (cpu : ℕ). c.in_ok-leave.ensures k are.stand.state are.stand.tables one Unloaded cpu in
    let root = resident_of c.args.held in
    let whole = subst (λ (s : FlatState). IsLeaving c.args.self.now.group s k.before k.residents k.left → IsWellFormed s → Contains k.residents root → AreThose c.residents.result.now (without root.ident k.residents) → AreGood s (without root.ident k.residents)
    → (IsTrue c.is_group-whole.result ↔ IsGroup s k.before root (k.left ++ root.ident ∷ []))) (sym are.stand.state) (c.is_group-whole.ensures k.before k.residents k.left root) in
    let is = whole are.group (subst IsWellFormed (sym are.stand.made) (flat_formed are.stand.events)) (held_there k c.args.held.ident c.args.held one)
    (c.residents.ensures (told_after k (WrittenBack c.args.held.ident Unloaded 0)) (unloaded 0)) (unloaded 0).whole.good in
    decided c.is_group-whole.result (IsGroup k.state k.before root (k.left ++ root.ident ∷ [])) (AreFactsBehind c.go_on.new.self k c.args.held.ident) is (record {
      displaced = λ cpu. c.go_on.ensures (told_after k (WrittenBack c.args.held.ident Displaced cpu))
          (stand_on c.args.self.now _ k (told_after k (WrittenBack c.args.held.ident Displaced cpu)) are.stand sealed refl refl (displaced cpu) are.stand.loads refl refl)
          refl refl refl;
      unloaded = λ cpu. c.go_on.ensures (told_after k (WrittenBack c.args.held.ident Unloaded cpu))
          (stand_on c.args.self.now _ k (told_after k (WrittenBack c.args.held.ident Unloaded cpu)) are.stand sealed refl refl (unloaded cpu) are.stand.loads refl refl)
          refl refl refl;
    })
