-- A page that is copied through a loaded row is of the ticket.
use Rattle.std.proofs.Common.{◌≡◌, List, Contains, Some, refl, sym, ◌∙◌, ap, subst, inl, inr}
use Rattle.std.proofs.lemmas.List.Elements.{Contains-push_cases}
use Rattle.cache_ident.specs.declared.idents.Ident.{Ident}
use Rattle.cache_ident.specs.declared.names.Name.TheVariants as name
use Rattle.cache_ident.specs.declared.names.SpaceNo.{SpaceNo}
use Rattle.cache_ident.specs.declared.names.Vpn.{Vpn}
use Rattle.cache_ident.specs.Residents.{IsResident}
use Rattle.phys_groups.specs.declared.rows.Row.{Row}
use Rattle.phys_groups.specs.Memory.{page_at}
use Rattle.phys_groups.specs.Translation.{row_of}
use Rattle.board_threads.specs.page_views.specs.Views.{filled, View}
use Rattle.board_threads.specs.quantum.specs.Ahead.{Ahead}
use Rattle.thread_cache.specs.declared.ThreadRec.{ThreadRec}
use Rattle.board_threads.specs.desc_stores.specs.declared.items.Item.TheVariants as item
use Rattle.board_threads.specs.desc_stores.specs.Contents.{content_of, item_as, residents_of}
use Rattle.board_threads.specs.desc_stores.specs.Sound.{IsExactlyOne}
use Rattle.board_threads.specs.shown_state.specs.Shown.{flat_thread, row_of_item}
use Rattle.board_threads.specs.shown_state.proofs.LookupLemmas.{found_row}
use Rattle.board_threads.specs.board_checks.specs.Identifiers.{thread_as}
use Rattle.board_threads.specs.cached_machine.specs.Cached.{state_of}
use Rattle.board_threads.specs.board_core.specs.Core.{contents_of, IsSound, Recorded}
use Rattle.board_threads.specs.declared.tickets.Ticket.{Ticket}
use Rattle.board_threads.proofs.IdentLemmas.{content_named}
use Rattle.board_commits.specs.Commits.{HasPage, IsPaged}
use Rattle.board_commits.specs.Tickets.{AreAllAsOf, AreOfTicket, IsOfTicket}
use Rattle.board_commits.proofs.KeptLaws.{kept_more}
use Rattle.board_commits.proofs.ThreadLaws.{thread_there}
use Rattle.board_commits.proofs.TicketLaws.{copied_now, thread_now}

-- what is loaded with the identifier of a page's row is the row of the page
pub row_is : (b : Recorded) → IsExactlyOne (contents_of b) → (ident : Ident) (space : SpaceNo) (vpn : Vpn) → IsResident (residents_of (contents_of b)) ident (name.Mapping space vpn) → (row : Row)
    → item_as (contents_of b) ident ≡ Some (item.Mapping row) → Some row ≡ row_of (state_of b.machine).rows space vpn.0
row_is b one ident space vpn r row is =
    sym (found_row (Some b.machine.machine) b.machine.memory (contents_of b) one space vpn ∙ ap row_of_item (content_named (contents_of b) one ident (name.Mapping space vpn) r (item.Mapping row) is))

module _ (b : Recorded) (sound : IsSound b) (one : IsExactlyOne (contents_of b)) (ticket : Ticket) (vpn : Vpn) (found : ThreadRec)
    (named : IsResident (residents_of (contents_of b)) ticket.thread (name.Thread found.no)) (content : content_of (contents_of b) (name.Thread found.no) ≡ Some (item.Thread found))
    (ident : Ident) (r : IsResident (residents_of (contents_of b)) ident (name.Mapping found.space vpn)) where
  module _ (row : Row) (at : Some row ≡ row_of (state_of b.machine).rows found.space vpn.0) (old new : Ahead) (has : HasPage b vpn row.frame row.flags ident old new) where
    pub paged : thread_as (contents_of b) ticket.thread ≡ Some (flat_thread found) → IsPaged b ticket vpn old new
    paged shows = record {
      thread = flat_thread found;
      its = shows;
      ident = ident;
      loaded = r;
      row = row;
      there = sym at;
      place = has.place;
      views = has.views;
      kept = has.kept;
    }

    abbrev view : View
    view = filled old.views vpn row.frame row.flags ident (page_at b.machine.memory row.frame) (Some has.place)

    new_of_ticket : IsOfTicket b.journal.entries ticket.thread view
    new_of_ticket = record {
      space = found.space;
      of = thread_now b sound ticket.thread found.no named (flat_thread found) (thread_there b one found content);
      copied = copied_now b sound ident found.space view r refl row (sym at) refl refl;
    }

    pub all_kept : AreAllAsOf b.journal.entries old → AreAllAsOf b.journal.entries new
    all_kept kept = subst (AreAllAsOf b.journal.entries) (sym has.views) (kept_more b.journal.entries old view new.kept has.dated has.kept kept)

    pub all_of_ticket : AreOfTicket b.journal.entries ticket.thread old → AreOfTicket b.journal.entries ticket.thread new
    all_of_ticket are = record {
      views = λ v there. elim (Contains-push_cases old.views view v (subst (λ (vs : List View). Contains vs v) (ap (λ (a : Ahead). a.views) has.views) there)) [
        | inl before ↦ are.views v before
        | inr now ↦ subst (IsOfTicket b.journal.entries ticket.thread) now new_of_ticket
      ];
      kept = all_kept are.kept;
    }
