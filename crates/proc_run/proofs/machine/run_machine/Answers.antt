use Rattle.std.proofs.Common.{◌≡◌, true}
use Rattle.byte_ports.specs.Faults.{HasRisen}
use Rattle.run_words.specs.Options.{options}
use Rattle.proc_run.specs.Outcomes.{reads_source}
use Rattle.proc_run.proofs.Answered.{completes, faulty, legal_so, no_fault, refused_so}
use Rattle.proc_run.proofs.machine.run_machine.Goals as goal

pub returns-in-Ok-write_all-clause-refused : goal.returns-in-Ok-write_all-clause-refused
returns-in-Ok-write_all-clause-refused g c none = refused_so c.args.words.now _ _ c.in-Ok.due.status c.in-Ok.due.kept c.in-Ok.due.text.items none c.in-Ok.ensures.due

pub returns-in-Ok-write_all-clause-complete : goal.returns-in-Ok-write_all-clause-complete
returns-in-Ok-write_all-clause-complete g c o taken text told no_read no_write =
    completes c.args.words.now o _ _ c.in-Ok.due.status c.in-Ok.due.kept c.in-Ok.due.text.items text taken told c.in-Ok.ensures.due

pub returns-in-Err-ReadFault-clause-complete : goal.returns-in-Err-ReadFault-clause-complete
returns-in-Err-ReadFault-clause-complete g c o taken text told no_read no_write =
    let failed : HasRisen (g.S.Source.faults c.args.source.now) (g.S.Source.faults c.due.new.source) × (reads_source (options c.args.words.now) ≡ true) = rw c.in-Err-ReadFault.field-0-is at c.in-Err-ReadFault.ensures.fault in
    absurd (faulty c.args.words.now o _ taken failed.1 no_read failed.0)

pub returns-in-Ok-write_all-clause-legal : goal.returns-in-Ok-write_all-clause-legal
returns-in-Ok-write_all-clause-legal g c o taken checks text told no_read no_write ds j has =
    legal_so c.args.words.now o _ _ c.in-Ok.due.status c.in-Ok.due.kept c.in-Ok.due.text.items text ds j taken checks told has c.in-Ok.ensures.due

pub returns-in-Err-ReadFault-clause-legal : goal.returns-in-Err-ReadFault-clause-legal
returns-in-Err-ReadFault-clause-legal g c o taken checks text told no_read no_write ds j has =
    let failed : HasRisen (g.S.Source.faults c.args.source.now) (g.S.Source.faults c.due.new.source) × (reads_source (options c.args.words.now) ≡ true) = rw c.in-Err-ReadFault.field-0-is at c.in-Err-ReadFault.ensures.fault in
    absurd (faulty c.args.words.now o _ taken failed.1 no_read failed.0)

pub returns-in-Ok-write_all-clause-generated : goal.returns-in-Ok-write_all-clause-generated
returns-in-Ok-write_all-clause-generated g c o taken gen =
    no_fault c.args.words.now o _ _ c.in-Ok.due.status c.in-Ok.due.kept c.in-Ok.due.text.items taken gen c.in-Ok.ensures.due
