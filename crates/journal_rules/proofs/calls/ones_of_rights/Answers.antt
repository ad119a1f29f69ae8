use Rattle.journal_rules.proofs.Among.{rights_asked_of}
use Rattle.journal_rules.proofs.calls.ones_of_rights.Goals as goal

pub returns : goal.returns
returns c = rights_asked_of c.args.relying.now c.args.kernel c.args.group c.new-names.result.items c.add_of_rights.new.names.items c.add_of_rights-2.new.names.items c.add_of_rights-3.new.names.items c.add_of_rights-4.new.names.items _
    c.new-names.ensures.items c.in_ok-add_of_rights.ensures c.in_ok-add_of_rights-2.ensures c.in_ok-add_of_rights-3.ensures c.in_ok-add_of_rights-4.ensures c.in_ok-add_of_frames.ensures
