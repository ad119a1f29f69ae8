use Rattle.std.proofs.Common.{◌≡◌, ◌↔◌, ◌⊎◌, List, Contains, refl, ap, sym, ◌∙◌, subst}
use Rattle.std.proofs.lemmas.Bool.{false≢true}
use Rattle.cache_ident.specs.declared.names.Name.{Name}
use Rattle.residents.specs.flat_state.specs.State.{FlatState}
use Rattle.residents.specs.flat_state.specs.Dependence.{parents}
use Rattle.residents.specs.Relying.{IsRelying}
use Rattle.residents.specs.declared.relying.Reliance.{Reliance}
use Rattle.residents.specs.Pairs.{IsPair}
use Rattle.journal_rules.specs.Relied.{reliances_of}
use Rattle.journal_tables.proofs.TableLemmas.{of_loaded, fresh_serial}
use Rattle.journal_tables.proofs.tables.Tables.load.Goals as goal

pub returns-then-not-may_load : goal.returns-then-not-may_load
returns-then-not-may_load c = λ k state loads are. (λ may. false≢true ((c.if-not-may_load.ensures.may k state loads are).1 may), are)

pub returns : goal.returns
returns c = λ k state loads are.
    let may = (c.if-not-may_load.ensures.may k state loads are).0 refl in (
      may,
      λ cpu. of_loaded c.args.self.now _ k c.args.ident c.args.name cpu are may (record {
        those = c.in_ok-load.ensures.ok k.residents are.those may.absent (fresh_serial c.args.self.now k c.args.ident c.args.name are may);
        taken = c.take.ensures.taken;
        count = c.take.ensures.count;
        others = c.take.ensures.others;
        adds = subst (λ (ps : List Name). (parent other : Name) → IsPair c.add.new.self parent other ↔ (IsPair c.args.self.now.dependents parent other ⊎ ((other ≡ c.args.name) × Contains ps parent)))
            (c.as_slice.ensures.value ∙ c.parents-parents.ensures ∙ ap (λ (s : FlatState). parents s c.args.name) (sym state)) c.in_ok-add.ensures;
        relies = subst (λ (qs : List Reliance). (reliance : Reliance) (other : Name) → IsRelying c.add-2.new.self reliance other ↔ (IsRelying c.args.self.now.relying reliance other ⊎ ((other ≡ c.args.name) × Contains qs reliance)))
            (c.as_slice-2.ensures.value ∙ c.reliances-relied.ensures ∙ ap (λ (s : FlatState). reliances_of s c.args.name) (sym state)) c.in_ok-add-2.ensures;
        locks = refl;
      }),
    )
