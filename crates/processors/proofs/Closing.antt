-- What is known of a board that went on behind its lock.
use Rattle.std.proofs.Common.{List, subst}
use mathlib.Core.List.{IsPrefix}
use Rattle.alone_run.specs.run_journal.specs.declared.entries.Entry.{Entry}
use Rattle.alone_run.specs.board_core.specs.Core.{Recorded}
use Rattle.alone_run.specs.cache_board.specs.Events.{past_of}
use Rattle.alone_run.specs.cache_board.specs.Pasts.{entries_of}
use Rattle.alone_run.specs.cache_board.proofs.PastLaws.{entries_begin, past_entries}

pub journal_begins : (old new : Recorded) → IsPrefix (past_of old) (past_of new) → IsPrefix old.journal.entries new.journal.entries
journal_begins old new begins =
    subst (λ (j : List Entry). IsPrefix j new.journal.entries) (past_entries old)
    (subst (λ (j : List Entry). IsPrefix (entries_of (past_of old)) j) (past_entries new) (entries_begin (past_of old) (past_of new) begins))
