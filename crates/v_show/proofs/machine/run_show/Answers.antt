use Rattle.std.proofs.Common.{None}
use Rattle.std.specs.Prelude.{◌≢◌}
use Rattle.byte_ports.specs.Faults.{HasRisen}
use Rattle.v_show.specs.Words.{options}
use Rattle.v_show.proofs.Answering.{completes, refused_so}
use Rattle.v_show.proofs.machine.run_show.Goals as goal

pub returns-in-Ok-write_all-clause-refused : goal.returns-in-Ok-write_all-clause-refused
returns-in-Ok-write_all-clause-refused g c none = refused_so c.args.words.now _ _ c.in-Ok.due.ending c.in-Ok.due.text.items none c.in-Ok.ensures.due

pub returns-in-Ok-write_all-clause-complete : goal.returns-in-Ok-write_all-clause-complete
returns-in-Ok-write_all-clause-complete g c limit taken input told few no_read no_write =
    completes c.args.words.now limit _ _ c.in-Ok.due.ending c.in-Ok.due.text.items input taken told few c.in-Ok.ensures.due

pub returns-in-Err-ReadFault-clause-refused : goal.returns-in-Err-ReadFault-clause-refused
returns-in-Err-ReadFault-clause-refused g c none =
    let failed : HasRisen (g.S.Source.faults c.args.source.now) (g.S.Source.faults c.due.new.source) × (options c.args.words.now ≢ None) = rw c.in-Err-ReadFault.field-0-is at c.in-Err-ReadFault.ensures.fault in
    absurd (failed.1 none)

pub returns-in-Err-ReadFault-clause-complete : goal.returns-in-Err-ReadFault-clause-complete
returns-in-Err-ReadFault-clause-complete g c limit taken input told few no_read no_write =
    let failed : HasRisen (g.S.Source.faults c.args.source.now) (g.S.Source.faults c.due.new.source) × (options c.args.words.now ≢ None) = rw c.in-Err-ReadFault.field-0-is at c.in-Err-ReadFault.ensures.fault in
    absurd (no_read failed.0)
