use Rattle.std.proofs.Common.{[], ◌∷◌, ◌++◌, Contains, refl, sym, subst}
use Rattle.run_journal.specs.Legal.{AreGood}
use Rattle.cache_ident.specs.declared.idents.Cause.TheVariants.{Dependent}
use Rattle.cache_ident.specs.Residents.{without}
use Rattle.flat_state.specs.State.{FlatState}
use Rattle.residents.specs.Tables.{resident_of}
use Rattle.run_journal.specs.declared.entries.Entry.TheVariants.{WrittenBack}
use Rattle.run_journal.specs.Told.{told_after}
use Rattle.journal_groups.specs.Leaving.{IsLeaving}
use Rattle.journal_facts.proofs.Standing.{stand_on}
use Rattle.journal_facts.proofs.Departing.{held_there}
use Rattle.journal_facts.proofs.facts.Facts.leave_first.Goals as goal

pub returns : goal.returns
returns c = λ k are sealed one. (
  refl,
  λ cpu.
      let tables = c.in_ok-leave.ensures k are.stand.state are.stand.tables one Dependent cpu in
      let push = subst (λ (s : FlatState). IsLeaving c.args.self.now.group s k.before k.residents k.left → Contains k.residents (resident_of c.args.held) → AreGood s (without c.args.held.ident k.residents)
      → IsLeaving c.push.new.self s k.before (without c.args.held.ident k.residents) (k.left ++ c.args.held.ident ∷ [])) (sym are.stand.state) (c.in_ok-push.ensures.ok k.before k.residents k.left) in
      record {
        stand = stand_on c.args.self.now _ k (told_after k (WrittenBack c.args.held.ident Dependent cpu)) are.stand sealed refl refl tables are.stand.loads refl refl;
        group = push are.group (held_there k c.args.held.ident c.args.held one) tables.whole.good;
        due = refl;
      },
)
