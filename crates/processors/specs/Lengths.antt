-- How long quanta are where several processors share a board.
use Rattle.std.specs.Prelude.{ℕ, ◌*◌, ◌%◌, ◌&&◌, ◌||◌, ◌==◌, Bool, false, not, List, Option, Some, None, min, nat_le, if◌then◌else◌, slice_index_or, slice_set}
use Rattle.cache_ident.specs.declared.names.ThreadNo.{ThreadNo}
use Rattle.alone_run.specs.board_turns.specs.Paces.{must_bring, Beat}
use Rattle.alone_run.specs.board_turns.specs.declared.found.Found.{Found}
use Rattle.alone_run.specs.board_turns.specs.declared.found.Found.TheVariants.{Out, Wanted, Nothing, Over}
use Rattle.processors.specs.declared.lengths.Length.{Length}
use Rattle.processors.specs.declared.lengths.Ran.{Ran}

abbrev pub first_length : Length
first_length = record { steps = 256; wary = false }

-- How long a thread's next quantum may be, once one of that length came to this and was committed, or not. After one that was refused it has
-- 256 steps, or 64 where that stored nothing; the next one that is committed leaves that so; and from then on each that ran to its end makes it
-- twice as long, up to 1,024 steps.
abbrev pub length_after : Length → Ran → Bool → Length
length_after length ran committed = record {
  steps = if committed && nat_le length.steps ran.steps && not length.wary then min (2 * length.steps) 1024 else (if committed then length.steps else (if ran.stored then 256 else 64));
  wary = not committed;
}

-- of which thread a turn for whom was found may run a quantum
abbrev pub runner_of : Found → Option ThreadNo
runner_of (Out ticket) = Some ticket.no
runner_of (Wanted whom trapped pc) = None
runner_of Nothing = None
runner_of Over = None

-- the length for the thread, if there is one
abbrev pub length_for : List Length → Option ThreadNo → ℕ
length_for lengths (Some whom) = (slice_index_or lengths (whom.0 % 16) first_length).steps
length_for lengths None = 256

-- .. once its quantum came to this
abbrev pub lengths_after : List Length → Option ThreadNo → Ran → Bool → List Length
lengths_after lengths (Some whom) ran committed = slice_set lengths (whom.0 % 16) (length_after (slice_index_or lengths (whom.0 % 16) first_length) ran committed)
lengths_after lengths None ran committed = lengths

-- of which thread a turn ran a quantum that took a step: one that had to bring something ran none
abbrev pub ran_by : Beat → Option ThreadNo → Ran → Option ThreadNo
ran_by beat runner ran = if must_bring beat || ran.steps == 0 then None else runner
