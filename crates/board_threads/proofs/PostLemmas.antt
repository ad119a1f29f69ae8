-- Whether a ticket's thread is still out, and what is known of who is loaded.
use Rattle.std.proofs.Common.{◌≡◌, ℕ, Option, Some, None, ap, ◌∙◌}
use Rattle.cache_ident.specs.declared.idents.Kind.TheVariants as kind
use Rattle.cache_ident.specs.declared.names.ThreadNo.{ThreadNo}
use Rattle.thread_cache.specs.declared.ThreadRec.{ThreadRec}
use Rattle.board_checks.specs.desc_stores.specs.declared.items.Item.TheVariants as item
use Rattle.board_checks.specs.desc_stores.specs.Contents.{item_as}
use Rattle.board_checks.specs.desc_stores.specs.Sound.{IsExactlyOne}
use Rattle.board_checks.specs.board_ops.specs.declared.refusals.Refused.{Refused}
use Rattle.board_checks.specs.Identifiers.{not_a}
use Rattle.board_checks.proofs.IdentifierLemmas.{item_resident}
use Rattle.board_core.specs.cached_machine.specs.Posts.{mark_of}
use Rattle.board_core.specs.Core.{contents_of, Recorded}
use Rattle.board_threads.specs.declared.tickets.Ticket.{Ticket}
use Rattle.board_threads.specs.Posts.{IsOutWith}
use Rattle.board_threads.proofs.IdentLemmas.{one_thread, thread_passes}

module _ (b : Recorded) (one : IsExactlyOne (contents_of b)) where
  module _ (ticket : Ticket) where
    -- what is refused as a thread isn't out
    pub none_out : (e : Refused) → Some e ≡ not_a kind.Thread (contents_of b) ticket.thread → (whom : ThreadNo) → IsOutWith b ticket whom → ⊥
    none_out e refused whom out = let both : Some e ≡ None = refused ∙ thread_passes (contents_of b) one ticket.thread whom out.named in cc

    module _ (thread : ThreadRec) (is : item_as (contents_of b) ticket.thread ≡ Some (item.Thread thread)) where
      pub alone_out : (whom : ThreadNo) → IsOutWith b ticket whom → thread.no ≡ whom
      alone_out whom out = one_thread (contents_of b) one ticket.thread thread.no whom (item_resident (contents_of b) ticket.thread one (item.Thread thread) is) out.named

      pub out_if : mark_of (contents_of b) thread.no ≡ Some ticket.cpu → IsOutWith b ticket thread.no
      out_if on = record { named = item_resident (contents_of b) ticket.thread one (item.Thread thread) is; on = on }

      pub not_out : (o : Option ℕ) → o ≡ mark_of (contents_of b) thread.no → (o ≡ Some ticket.cpu → ⊥) → (whom : ThreadNo) → IsOutWith b ticket whom → ⊥
      not_out o is other whom out = other (is ∙ ap (mark_of (contents_of b)) (alone_out whom out) ∙ out.on)
