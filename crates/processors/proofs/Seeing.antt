-- What is so of the board that is found is so of what is seen then.
use Rattle.std.proofs.Common.{◌≡◌, ◌≤◌, ℕ, Bool, Option, List, sym, subst}
use Rattle.std.specs.Prelude.{IfSome}
use mathlib.Core.List.{IsPrefix}
use Rattle.cache_ident.specs.declared.idents.Ident.{Ident}
use Rattle.alone_run.specs.run_journal.specs.declared.entries.Entry.{Entry}
use Rattle.alone_run.specs.run_journal.specs.Entries.{steps_in}
use Rattle.alone_run.specs.board_commits.specs.Tickets.{AreAllAsOf, AreOfTicket}
use Rattle.alone_run.specs.quantum.specs.Ahead.{Ahead}
use Rattle.alone_run.specs.board_core.specs.Core.{IsSound, Recorded}
use Rattle.alone_run.specs.cache_board.specs.Events.{past_of}
use Rattle.alone_run.specs.cache_board.specs.Pasts.{entries_of}
use Rattle.alone_run.specs.cache_board.proofs.PastLaws.{kept_on, views_on}
use Rattle.alone_run.specs.board_threads.specs.declared.tickets.Ticket.{Ticket}
use Rattle.alone_run.specs.board_turns.specs.declared.found.Found.{Found}
use Rattle.alone_run.specs.board_turns.specs.Holds.{IsReadyFor}
use Rattle.alone_run.specs.board_turns.specs.Looks.{IsFound}
use Rattle.alone_run.specs.board_turns.proofs.Looking.{so_found}
use Rattle.processors.specs.Sharing.{IsSoOf}
use Rattle.processors.proofs.Holding.{journal_seen}

-- ---- what was found

-- a thread, or why nobody
pub so_of : (cpu limit : ℕ) (want_first : Bool) (old new : Recorded) (found : Found) → IsSound old → IsFound cpu want_first old new found → IsSoOf cpu limit new.journal.entries found
so_of cpu limit want_first old new found sound is = so_found cpu (limit ≤ steps_in new.journal.entries) want_first old new found sound is

-- the end
pub so_over : (limit : ℕ) (b : Recorded) → IsSound b → limit ≤ b.steps → limit ≤ steps_in b.journal.entries
so_over limit b sound taken = subst (λ (n : ℕ). limit ≤ n) sound.steps taken

-- the processor has seen that journal
pub so_seen : (cpu limit : ℕ) (j k : List Entry) (found : Found) → k ≡ j → IsSoOf cpu limit j found → IsSoOf cpu limit k found
so_seen cpu limit j k found same so = subst (λ (l : List Entry). IsSoOf cpu limit l found) (sym same) so

-- .. and is the one by which that was found
pub so_seen_if : (by cpu limit : ℕ) (j k : List Entry) (found : Option Found) → by ≡ cpu → k ≡ j → IfSome found (IsSoOf by limit j) → IfSome found (IsSoOf cpu limit k)
so_seen_if by cpu limit j k found its same so =
    subst (λ (n : ℕ). IfSome found (IsSoOf n limit k)) its (subst (λ (l : List Entry). IfSome found (IsSoOf by limit l)) (sym same) so)

-- ---- quanta, on the board that was found by who had seen so much, and is read as b

module _ (before seen : List (Entry × ℕ)) (found b : Recorded) (a : Ahead) (its : before ≡ seen) (same : b ≡ found) (begins : IsPrefix before (past_of found)) where
  begins_here : IsPrefix seen (past_of b)
  begins_here = subst (λ (p : List (Entry × ℕ)). IsPrefix p (past_of b)) its (subst (λ (c : Recorded). IsPrefix before (past_of c)) (sym same) begins)

  pub kept_found : AreAllAsOf (entries_of seen) a → AreAllAsOf b.journal.entries a
  kept_found kept = kept_on seen b a begins_here kept

  pub views_found : (thread : Ident) → AreOfTicket (entries_of seen) thread a → AreOfTicket b.journal.entries thread a
  views_found thread views = views_on seen b thread a begins_here views

-- who has seen all of it knows so too
pub views_seen : (after : List (Entry × ℕ)) (found b : Recorded) (thread : Ident) (a : Ahead) → b ≡ found → after ≡ past_of found → AreOfTicket b.journal.entries thread a → AreOfTicket (entries_of after) thread a
views_seen after found b thread a same is views =
    subst (λ (j : List Entry). AreOfTicket j thread a) (sym (journal_seen after found is)) (subst (λ (c : Recorded). AreOfTicket c.journal.entries thread a) same views)

pub kept_seen : (after : List (Entry × ℕ)) (b : Recorded) (a : Ahead) → after ≡ past_of b → AreAllAsOf b.journal.entries a → AreAllAsOf (entries_of after) a
kept_seen after b a is kept = subst (λ (j : List Entry). AreAllAsOf j a) (sym (journal_seen after b is)) kept

pub ready_seen : (after : List (Entry × ℕ)) (b : Recorded) (a : Ahead) (found : Found) → after ≡ past_of b → IsReadyFor b.journal.entries a found → IsReadyFor (entries_of after) a found
ready_seen after b a found is ready = subst (λ (j : List Entry). IsReadyFor j a found) (sym (journal_seen after b is)) ready

pub ready_seen_if : (after : List (Entry × ℕ)) (b : Recorded) (a : Ahead) (found : Option Found) → after ≡ past_of b → IfSome found (IsReadyFor b.journal.entries a) → IfSome found (IsReadyFor (entries_of after) a)
ready_seen_if after b a found is ready = subst (λ (j : List Entry). IfSome found (IsReadyFor j a)) (sym (journal_seen after b is)) ready

-- ---- tickets

pub own_if : (cpu number : ℕ) (ticket : Option Ticket) → cpu ≡ number → IfSome ticket (λ its. its.cpu ≡ number) → IfSome ticket (λ its. its.cpu ≡ cpu)
own_if cpu number ticket same own = subst (λ (n : ℕ). IfSome ticket (λ its. its.cpu ≡ n)) (sym same) own
