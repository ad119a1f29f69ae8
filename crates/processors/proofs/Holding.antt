-- What a hold leaves of the pass that it was made with.
use Rattle.std.proofs.Common.{◌≡◌, ℕ, List, Some, Option, refl, sym, ◌∙◌, ap, subst}
use mathlib.Core.List.{IsPrefix}
use Rattle.turn_lock.specs.declared.history.History.{Ghosts}
use Rattle.turn_lock.specs.declared.pass.Pass.{Pass}
use Rattle.turn_lock.specs.declared.turn.Turn.{Turn}
use Rattle.turn_lock.specs.Lists.{IsContinuedBy}
use Rattle.turn_lock.specs.Passes.{end_of, first_of, lock_of, pass_lock, seen_of}
use Rattle.alone_run.specs.run_journal.specs.declared.entries.Entry.{Entry}
use Rattle.alone_run.specs.board_core.specs.Core.{Recorded}
use Rattle.alone_run.specs.board_core.specs.Going.{IsOneEvent}
use Rattle.alone_run.specs.cache_board.specs.Events.{author_of, past_of}
use Rattle.alone_run.specs.cache_board.specs.Pasts.{entries_of}
use Rattle.alone_run.specs.cache_board.proofs.PastLaws.{begins_further, event_added, found_begins, nothing_added, past_entries}
use Rattle.alone_run.specs.owner_ports.specs.declared.port.Heard.{Heard}
use Rattle.processors.specs.Sharing.{end_by, first_by, seen_by, SeesMore, Sharer, Stands}

abbrev Past : Type 0
Past = List (Entry × ℕ)

-- ---- one event in the hold: the board was found so, was called so, and was left so

module _ (cpu : ℕ) (found was new : Recorded) (same : was ≡ found) (event : IsOneEvent cpu was new) where
  added : IsContinuedBy author_of cpu (past_of found) (past_of new)
  added = subst (λ (b : Recorded). IsContinuedBy author_of cpu (past_of b) (past_of new)) same (event_added cpu was new event)

  -- what was added bears the number
  pub signed : (number : ℕ) (past : Past) → past ≡ past_of found → number ≡ cpu → IsContinuedBy author_of number past (past_of new)
  signed number past is its = subst (λ (n : ℕ). IsContinuedBy author_of n past (past_of new)) (sym its) (subst (λ (p : Past). IsContinuedBy author_of cpu p (past_of new)) (sym is) added)

  -- what was seen before begins what is seen now
  pub seen_on : (before after : Past) → IsPrefix before (past_of found) → after ≡ past_of new → IsPrefix before after
  seen_on before after begins is = subst (λ (p : Past). IsPrefix before p) (sym is) (begins_further before (past_of found) (past_of new) begins (found_begins cpu (past_of found) (past_of new) added))

-- ---- nothing in the hold

pub signed_nothing : (number : ℕ) (past : Past) (b : Recorded) → past ≡ past_of b → IsContinuedBy author_of number past (past_of b)
signed_nothing number past b is = subst (λ (p : Past). IsContinuedBy author_of number p (past_of b)) (sym is) (nothing_added number b)

pub seen_still : (before after : Past) (b : Recorded) → IsPrefix before (past_of b) → after ≡ past_of b → IsPrefix before after
seen_still before after b begins is = subst (λ (p : Past). IsPrefix before p) (sym is) begins

-- ---- what the pass knows then

pub journal_seen : (past : Past) (b : Recorded) → past ≡ past_of b → entries_of past ≡ b.journal.entries
journal_seen past b is = ap entries_of is ∙ past_entries b

-- ---- the processor that has it

module _ {g : Ghosts Recorded (Entry × ℕ)} (lock : Turn Recorded (Entry × ℕ)) (cpu : ℕ) (before : Option (Pass Recorded (Entry × ℕ) g)) (pass : Pass Recorded (Entry × ℕ) g) where
  pub stands_again : Stands lock cpu before → pass_lock pass ≡ lock_of lock → first_of pass ≡ first_by before → Stands lock cpu (Some pass)
  stands_again stands its first = record { below = stands.below; there = its; number = first ∙ stands.number }

  pub sees_more : (limit : ℕ) (heard heard_then : Heard) (brought brought_then : ℕ) → end_of pass ≡ end_by before → IsPrefix (seen_by before) (seen_of pass)
      → (old : Sharer) → record { lock = lock_of lock; cpu = cpu; end = end_by before; seen = seen_by before; limit = limit; heard = heard; brought = brought } ≡ old
      → SeesMore old (record { lock = lock_of lock; cpu = cpu; end = end_of pass; seen = seen_of pass; limit = limit; heard = heard_then; brought = brought_then })
  sees_more limit heard heard_then brought brought_then ends seen old is =
      subst (λ (it : Sharer). SeesMore it (record { lock = lock_of lock; cpu = cpu; end = end_of pass; seen = seen_of pass; limit = limit; heard = heard_then; brought = brought_then })) is
      (record { lock = refl; cpu = refl; end = ends; limit = refl; seen = seen })
