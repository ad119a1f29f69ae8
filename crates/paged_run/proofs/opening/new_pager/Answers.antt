use Rattle.std.proofs.Common.{◌≡◌, ◌≤◌, ◌*◌, List, [], ◌∷◌, ◌++◌, refl, sym, ap, subst, ◌∙◌, arith}
use Rattle.std.specs.Prelude.{replicate}
use Rattle.std.proofs.lemmas.List.{length-replicate}
use Rattle.flat_rules.specs.flat_state.specs.declared.events.Decl.TheVariants.{Machine}
use Rattle.flat_rules.specs.flat_state.specs.declared.events.Event.TheVariants.{Declare}
use Rattle.flat_rules.specs.flat_state.specs.Declaration.{declared}
use Rattle.flat_rules.specs.flat_state.specs.Events.{applied}
use Rattle.flat_rules.specs.flat_state.specs.State.{nothing_declared, FlatState}
use Rattle.page_store.specs.Kept.{nothing_kept}
use Rattle.quantum.specs.Ahead.{Ahead}
use Rattle.run_journal.specs.declared.entries.Entry.{Entry}
use Rattle.run_journal.specs.declared.entries.Entry.TheVariants.{Declared}
use Rattle.paged_run.proofs.Opened.{applied_so, machine_alone}
use Rattle.paged_run.proofs.opening.new_pager.Goals as goal

pub returns : goal.returns
returns c =
    let m = c.args.machine in
    let made : c.apply.new.self ≡ declared nothing_declared (Machine m) =
    c.in_ok-apply.ensures.ok ∙ ap (λ (s : FlatState). applied s (Declare (Machine m))) c.new-tables.ensures ∙ applied_so nothing_declared (Machine m) (machine_alone m c.requires.fits) in
    let many : m.groups * 128 ≡ 128 * m.groups = omega arith in
    record {
      tables = c.tables.view_is ∙ made;
      paged = c.in_ok-new.ensures.empty ∙ ap (nothing_kept c.args.frames) many;
      memory = c.in_ok-new.ensures.memory (replicate (524288 * m.groups) 0) (length-replicate (524288 * m.groups) 0 ∙ omega arith);
      room = λ two. subst (λ (a : Ahead). 2 ≤ a.most) (sym c.in_ok-new-2.ensures) (omega (arith, two, c.min.ensures));
      entries = c.in_ok-push.ensures.ok ∙ ap (λ (j : List Entry). j ++ Declared (Machine m) ∷ []) c.new-journal.ensures;
      nobody = c.new-3.ensures;
      steps = refl;
    }
