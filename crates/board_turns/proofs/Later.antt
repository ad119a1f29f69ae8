-- What a quantum has, as its processor sees more of the journal.
use Rattle.std.proofs.Common.{◌≡◌, ℕ, ◌<◌, List, length, refl, ap, sym, ◌∙◌, subst}
use mathlib.Core.List.{IsPrefix}
use Rattle.cache_ident.specs.declared.idents.Ident.{Ident}
use Rattle.cache_board.specs.run_journal.specs.declared.entries.Entry.{Entry}
use Rattle.quantum.specs.flat_laws.proofs.Members.{contains_nothing}
use Rattle.quantum.specs.Ahead.{begun, happened, Ahead}
use Rattle.cache_board.specs.board_core.specs.Core.{Recorded}
use Rattle.cache_board.specs.board_core.specs.Going.{IsOneEvent}
use Rattle.cache_board.specs.board_threads.specs.declared.tickets.Ticket.{Ticket}
use Rattle.cache_board.specs.board_commits.specs.Commits.{IsCommitted}
use Rattle.cache_board.specs.board_commits.specs.Tickets.{AreAllAsOf, AreOfTicket}
use Rattle.cache_board.specs.board_commits.proofs.KeptLaws.{kept_happened, kept_stays}
use Rattle.cache_board.specs.board_commits.proofs.TicketLaws.{views_stay}
use Rattle.board_turns.specs.declared.found.Found.TheVariants.{Out}
use Rattle.board_turns.specs.Holds.{IsReadyFor}

module _ (j k : List Entry) (a : Ahead) (begins : IsPrefix j k) where
  pub kept_later : AreAllAsOf j a → AreAllAsOf k a
  kept_later kept = subst (λ (l : List Entry). AreAllAsOf l a) begins.1 (kept_stays j begins.0 a kept)

  pub views_later : (thread : Ident) → AreOfTicket j thread a → AreOfTicket k thread a
  views_later thread views = subst (λ (l : List Entry). AreOfTicket l thread a) begins.1 (views_stay j begins.0 thread a views)

-- a quantum that is begun for a ticket
pub begun_ready : (j : List Entry) (a after : Ahead) (ticket : Ticket) → after ≡ begun ticket.context a → AreAllAsOf j a → IsReadyFor j after (Out ticket)
begun_ready j a after ticket is kept = subst (λ (x : Ahead). IsReadyFor j x (Out ticket)) (sym is) (record { views = λ v within. absurd (contains_nothing v within); kept = kept }, refl)

-- one event more of the board
module _ (cpu : ℕ) (old new : Recorded) (event : IsOneEvent cpu old new) (a : Ahead) (kept : AreAllAsOf old.journal.entries a) where
  pub kept_event : AreAllAsOf new.journal.entries a
  kept_event = subst (λ (l : List Entry). AreAllAsOf l a) (sym event.grew.grows.entries) (kept_stays old.journal.entries event.grew.entries a kept)

  -- .. in which the quantum's steps happened
  pub kept_commit : (ticket : Ticket) (after : Ahead) (end : ℕ) → end ≡ length new.journal.entries → after ≡ happened end a → IsCommitted ticket a old new → 0 < a.steps → AreAllAsOf new.journal.entries after
  kept_commit ticket after end its same done some =
      subst (AreAllAsOf new.journal.entries) (sym (same ∙ ap (λ (n : ℕ). happened n a) its)) (kept_happened ticket a old new event.sound done some kept)
