-- What came of steps that happened behind room that was made came of them on the board as it was before.
use Rattle.std.proofs.Common.{◌≡◌, ℕ, ◌<◌, List, Option, None, zero, suc, append-nil, refl, ◌∙◌, ap, arith}
use Rattle.std.specs.Prelude.{◌==◌, ◌+◌, if◌then◌else◌, replicate, slice_get}
use Rattle.cache_ident.specs.declared.names.ThreadNo.{ThreadNo}
use Rattle.flat_rules.specs.flat_state.specs.declared.events.Event.{Event}
use Rattle.flat_rules.specs.flat_state.specs.declared.events.Event.TheVariants.{Step}
use Rattle.flat_rules.specs.flat_state.specs.declared.records.FlatThread.{FlatThread}
use Rattle.flat_rules.specs.flat_state.specs.Events.{after_events}
use Rattle.flat_rules.specs.flat_state.specs.State.{FlatState}
use Rattle.flat_rules.specs.flat_state.proofs.Places.{get-set_same}
use Rattle.board_threads.specs.run_journal.specs.Entries.{erase}
use Rattle.board_threads.specs.quantum.specs.Ahead.{Ahead}
use Rattle.board_threads.specs.quantum.specs.LocalRun.{committed, state_after, status_by, touched_views, CouldRun, IsLocalRun}
use Rattle.board_threads.specs.board_laws.specs.Moves.{KeepsLoaded}
use Rattle.board_threads.specs.cached_machine.specs.Cached.{state_of}
use Rattle.board_threads.specs.cached_machine.specs.Posts.{but_at, last_of, mark_of}
use Rattle.board_threads.specs.board_core.specs.Core.{contents_of, Recorded}
use Rattle.board_threads.specs.board_core.specs.Growth.{entries_of_run, AreHeld, GrowsBy, IsRoomMade}
use Rattle.board_threads.specs.board_core.proofs.RoomLaws.{grows_before, same_checkouts, same_sealed}
use Rattle.board_threads.specs.declared.tickets.Ticket.{Ticket}
use Rattle.board_commits.specs.Commits.{IsCommitted, MayBeCommitted}

-- the entry of some steps is so many events
events_of_run : (whom : ThreadNo) (steps cpu : ℕ) → erase (entries_of_run whom steps cpu) ≡ replicate steps (Step whom)
events_of_run whom zero cpu = refl
events_of_run whom (suc n) cpu = append-nil (replicate (suc n) (Step whom))

module _ (ticket : Ticket) (a : Ahead) (old mid new : Recorded) (room : IsRoomMade old mid) (no : ThreadNo) (may : MayBeCommitted old ticket a no) (local_run : IsLocalRun a) where
  abbrev s : FlatState
  s = state_of old.machine

  could : CouldRun s may.thread a
  could = may.could may.thread may.there

  made : state_after s no.0 a.steps ≡ committed s no.0 may.thread a
  made = local_run.makes s no.0 may.thread may.formed may.there could

  pub committed_before : GrowsBy (entries_of_run no a.steps ticket.cpu) mid new
      → KeepsLoaded (contents_of mid) (contents_of new)
      → ((other : ThreadNo) → mark_of (contents_of new) other ≡ but_at no None (mark_of (contents_of mid)) other)
      → ((other : ThreadNo) → last_of (contents_of new) other ≡ last_of (contents_of mid) other)
      → new.steps ≡ mid.steps + a.steps → new.sealed ≡ mid.sealed → new.checkouts ≡ mid.checkouts
      → (contents_of new).spare ≡ (contents_of mid).spare
      → (0 < a.steps → AreHeld new.machine.memory (touched_views a.views))
      → IsCommitted ticket a old new
  committed_before grows loaded marks lasts steps sealed checkouts issues held =
      let grown = grows_before old mid room (entries_of_run no a.steps ticket.cpu) new grows in
      let state : state_of new.machine ≡ state_after s no.0 a.steps = grown.state ∙ ap (λ (es : List Event). after_events s es) (events_of_run no a.steps ticket.cpu) in
      let taken : FlatThread = record may.thread { context = a.context; status = status_by a.paused } in
      record {
        whom = no;
        named = may.named;
        thread = may.thread;
        there = may.there;
        fits = local_run.each s no.0 may.thread may.formed may.there could;
        state = state;
        made = state ∙ made;
        becomes = ap (λ (x : FlatState). slice_get x.threads no.0) (state ∙ made) ∙ get-set_same s.threads no.0 taken may.thread may.there;
        entries = grown;
        loaded = record { residents = loaded.residents ∙ room.only.loaded.residents; issued = loaded.issued ∙ room.only.loaded.issued };
        marks = λ other. marks other ∙ ap (λ (o : Option ℕ). if other.0 == no.0 then None else o) (room.only.marks.marks other);
        lasts = λ other. lasts other ∙ room.only.marks.lasts other;
        steps_taken = steps ∙ ap (λ (b : Recorded). b.steps + a.steps) room.rest;
        sealed = sealed ∙ same_sealed old mid room;
        checkouts = checkouts ∙ same_checkouts old mid room;
        spare = let more = room.only.spare in omega arith;
        held = held;
      }
