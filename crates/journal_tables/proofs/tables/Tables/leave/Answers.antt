use Rattle.std.proofs.Common.{◌≡◌, ◌↔◌, List, Contains, ap, sym, ◌∙◌, subst}
use Rattle.cache_ident.specs.declared.names.Name.{Name}
use Rattle.residents.specs.flat_state.specs.State.{FlatState}
use Rattle.residents.specs.flat_state.specs.Dependence.{owner, parents}
use Rattle.residents.specs.Relying.{IsRelying}
use Rattle.residents.specs.declared.relying.Reliance.{Reliance}
use Rattle.residents.specs.Pairs.{IsPair}
use Rattle.journal_rules.specs.Relied.{reliances_of}
use Rattle.journal_tables.specs.Locks.{RecountsIf}
use Rattle.journal_tables.proofs.TableLemmas.{of_left}
use Rattle.journal_tables.proofs.tables.Tables.leave.Goals as goal

pub returns : goal.returns
returns c = λ k state are may cause cpu.
    let there = subst (Contains k.residents) may.its may.may.there in
    of_left c.args.self.now _ k c.args.held cause cpu are may (record {
      those = c.remove-3.ensures k.residents are.those there;
      taken = c.in_ok-release.ensures.taken;
      count = c.in_ok-release.ensures.count;
      others = c.in_ok-release.ensures.others;
      removes = subst (λ (ps : List Name). (parent other : Name) → IsPair c.remove.new.self parent other ↔ (IsPair c.args.self.now.dependents parent other × (((other ≡ c.args.held.name) × Contains ps parent) → ⊥)))
          (c.as_slice.ensures.value ∙ c.parents-parents.ensures ∙ ap (λ (s : FlatState). parents s c.args.held.name) (sym state)) c.remove.ensures;
      relies = subst (λ (qs : List Reliance). (reliance : Reliance) (other : Name) → IsRelying c.remove-2.new.self reliance other ↔ (IsRelying c.args.self.now.relying reliance other × (((other ≡ c.args.held.name) × Contains qs reliance) → ⊥)))
          (c.as_slice-2.ensures.value ∙ c.reliances-relied.ensures ∙ ap (λ (s : FlatState). reliances_of s c.args.held.name) (sym state)) c.remove-2.ensures;
      locks = subst (λ (s : FlatState). RecountsIf c.args.held.locked c.args.self.now.locks c.forget_lock.new.locks (owner s c.args.held.name) c.args.held.ident.kind) (sym state) c.forget_lock.ensures;
    })
