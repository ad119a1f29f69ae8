use Rattle.std.proofs.Common.{◌≡◌, Some, ap, ◌∙◌}
use Rattle.run_journal.specs.declared.entries.Entry.{Entry}
use Rattle.run_journal.specs.declared.entries.Entry.TheVariants.{Declared}
use Rattle.journal_check.proofs.SameDeclarations.{declared_test}
use Rattle.journal_check.proofs.places.is_declared.Goals as goal

pub returns-in-Some-Declared : goal.returns-in-Some-Declared
returns-in-Some-Declared c =
    let arm = c.in-Some-Declared in
    let inner : arm.field-0 ≡ Declared arm.found = rw arm.is at arm.field-0-is in
    let is : c.args.here ≡ Some (Declared arm.found) = arm.is ∙ ap (λ (e : Entry). Some e) inner in
    declared_test arm.found c.args.decl.now c.args.here c.eq.result is c.eq.ensures
