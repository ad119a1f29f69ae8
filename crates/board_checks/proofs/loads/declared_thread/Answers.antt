use Rattle.std.proofs.Common.{Some, ◌∙◌, ap}
use Rattle.desc_tables.specs.desc_stores.specs.Items.{shown}
use Rattle.board_checks.proofs.GivenLemmas.{only_thread}
use Rattle.board_checks.proofs.loads.declared_thread.Goals as goal

pub returns-clause-its : goal.returns-clause-its
returns-clause-its c = c.in_ok-found.ensures.its ∙ ap (λ x. Some (shown x)) c.in-Thread.is

pub unreachable-requires : goal.unreachable-requires
unreachable-requires c = only_thread c.args.tables.now.contents c.args.thread c.in_ok-found.found.item c.in_ok-found.ensures.its c.in_default.not-Thread
