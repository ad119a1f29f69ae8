use Rattle.proc_run.proofs.Opened.{sealed_begins}
use Rattle.worked_runs.proofs.scenes.scene_of.Goals as goal

pub returns : goal.returns
returns c =
    let ds = c.args.decls.now in
    let sealed = c.seal.new.self in
    let sealing = c.in-Ok.ensures.sealed in
    let begins = sealed_begins ds 1000000 c.in_ok-board.board sealed _ c.in_ok-board.ensures sealing in
    record {
      sealed = sealing.sealed;
      owners = c.in_ok-owners.ensures.owners sealed.journal.entries begins.0 c.holds.ensures.sound.told.legal begins.1;
    }
