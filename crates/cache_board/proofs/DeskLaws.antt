-- The tickets on a desk, while its places change and the journal grows.
use Rattle.std.proofs.Common.{◌≡◌, ℕ, ◌<◌, List, [], ◌∷◌, ◌++◌, Option, Some, None, slice_get, set, get_or, length, MatchOption, inl, inr, refl, sym, ◌∙◌, ap, subst, append-nil, arith}
use Rattle.std.proofs.lemmas.Option.{same_Some, slice_get_read}
use Rattle.cache_ident.specs.declared.names.Vpn.{Vpn}
use Rattle.flat_state.proofs.Places.{push_cases, set_cases}
use Rattle.run_journal.specs.declared.entries.Entry.{Entry}
use Rattle.board_core.specs.quantum.specs.Ahead.{begun, unbegun, Ahead}
use Rattle.board_core.specs.board_ops.specs.declared.answers.Answer.{Answer}
use Rattle.board_core.specs.board_ops.specs.declared.answers.Answer.TheVariants as answers
use Rattle.board_core.specs.Core.{Recorded}
use Rattle.board_core.specs.Growth.{GrowsBy, IsRoomMade}
use Rattle.board_commits.specs.board_threads.specs.declared.tickets.Ticket.{Ticket}
use Rattle.board_commits.specs.board_threads.specs.Posts.{OnlyMarks}
use Rattle.board_commits.specs.Tickets.{AreAllAsOf, AreOfTicket}
use Rattle.board_commits.proofs.KeptLaws.{kept_begun, kept_stays, kept_unbegun}
use Rattle.board_commits.proofs.TicketLaws.{views_stay}
use Rattle.cache_board.specs.declared.place.Place.{Place}
use Rattle.cache_board.specs.Desks.{AreOfTickets, AtPlace, Desktop, IsClear, IsItsOwn, IsOfIts}
use Rattle.cache_board.specs.Drive.{IsCheckout, IsCommit, IsCommitWith, IsLeave, IsLeaveWith, IsRunAhead, IsRunTo, IsView, IsViewWith, Spares}
use Rattle.board_commits.proofs.CopyLaws.{all_of, kept_as}
use Rattle.board_core.specs.quantum.proofs.Copies.{run_copies}
use Rattle.cache_board.specs.declared.place.TheConstants.{DESK_VIEWS}

-- nothing lies on a clear desk
pub clear_is_of_tickets : (j : List Entry) (d : Desktop) → IsClear d → AreOfTickets j d
clear_is_of_tickets j d clear cpu place there = subst (IsItsOwn j cpu) (sym (clear cpu place there)) (record { its = λ ticket is. absurd (cc); kept = kept_unbegun j DESK_VIEWS })

-- ---- places without a ticket

-- none of them has one, and each quantum is a new one
abbrev pub new_place : Place
new_place = record { ticket = None; quantum = unbegun DESK_VIEWS }

abbrev pub AllClear : List Place → Type 0
AllClear places = (k : ℕ) (place : Place) → slice_get places k ≡ Some place → place ≡ new_place

pub clear_if_none : (places : List Place) → places ≡ [] → AllClear places
clear_if_none places none k place there = let e : None ≡ Some place = ap (λ (ps : List Place). slice_get ps k) (sym none) ∙ there in absurd (cc)

pub one_clear_more : (old new : List Place) (place : Place) → new ≡ old ++ place ∷ [] → AllClear old → place ≡ new_place → AllClear new
one_clear_more old new place is clear none k other there = elim (push_cases old place other k (ap (λ (ps : List Place). slice_get ps k) (sym is) ∙ there)) [
  | inl before ↦ clear k other before
  | inr here ↦ sym here.1 ∙ none
]

-- ---- what is read of a desk

pub place_there : (d : Desktop) (places : List Place) (cpu : ℕ) (place : Place) → let shown : Desktop = record { places = places } in shown ≡ d → length places ≡ 8 → cpu < 8 → place ≡ get_or places cpu place
    → slice_get d.places cpu ≡ Some place
place_there d places cpu place shows eight few is =
    ap (λ (x : Desktop). slice_get x.places cpu) (sym shows) ∙ slice_get_read places (length places) cpu place refl (subst (λ (n : ℕ). cpu < n) (sym eight) few) is

-- ---- growth

-- the journal grew by some entries
abbrev pub HasGrown : Recorded → Recorded → Type 0
HasGrown b b′ = (es : List Entry) × (b′.journal.entries ≡ b.journal.entries ++ es)

module _ (b b′ : Recorded) where
  pub grown_by : (es : List Entry) → GrowsBy es b b′ → HasGrown b b′
  grown_by es grows = (es, grows.entries)

  not_grown : b′.journal.entries ≡ b.journal.entries → HasGrown b b′
  not_grown same = ([], same ∙ sym (append-nil b.journal.entries))

  pub grown_if_same : b′ ≡ b → HasGrown b b′
  grown_if_same same = not_grown (ap (λ (x : Recorded). x.journal.entries) same)

  pub grown_if_room : IsRoomMade b b′ → HasGrown b b′
  grown_if_room room = not_grown (ap (λ (x : Recorded). x.journal.entries) room.rest)

  grown_if_marks : OnlyMarks b b′ → HasGrown b b′
  grown_if_marks marks = not_grown (ap (λ (x : Recorded). x.journal.entries) marks.rest)

-- ---- a place

module _ (b b′ : Recorded) (grown : HasGrown b b′) where
  its_stays : (cpu : ℕ) (place : Place) (ticket : Ticket) → IsOfIts b.journal.entries cpu place ticket → IsOfIts b′.journal.entries cpu place ticket
  its_stays cpu place ticket of = record {
    processor = of.processor;
    views = subst (λ (j : List Entry). AreOfTicket j ticket.thread place.quantum) (sym grown.1) (views_stay b.journal.entries grown.0 ticket.thread place.quantum of.views);
  }

  kept_then : (a : Ahead) → AreAllAsOf b.journal.entries a → AreAllAsOf b′.journal.entries a
  kept_then a kept = subst (λ (j : List Entry). AreAllAsOf j a) (sym grown.1) (kept_stays b.journal.entries grown.0 a kept)

  own_stays : (cpu : ℕ) (place : Place) → IsItsOwn b.journal.entries cpu place → IsItsOwn b′.journal.entries cpu place
  own_stays cpu place own = record { its = λ ticket is. its_stays cpu place ticket (own.its ticket is); kept = kept_then place.quantum own.kept }

  pub tickets_stay : (d : Desktop) → AreOfTickets b.journal.entries d → AreOfTickets b′.journal.entries d
  tickets_stay d are cpu place there = own_stays cpu place (are cpu place there)

  own_if_same : (cpu : ℕ) (old new : Place) → new ≡ old → IsItsOwn b.journal.entries cpu old → IsItsOwn b′.journal.entries cpu new
  own_if_same cpu old new same own = subst (IsItsOwn b′.journal.entries cpu) (sym same) (own_stays cpu old own)

  -- the quantum stays, and the ticket goes
  own_if_gone : (cpu : ℕ) (old new : Place) → new ≡ record old { ticket = None } → IsItsOwn b.journal.entries cpu old → IsItsOwn b′.journal.entries cpu new
  own_if_gone cpu old new gone own = subst (IsItsOwn b′.journal.entries cpu) (sym gone) (record { its = λ ticket is. absurd (cc); kept = kept_then old.quantum own.kept })

-- another place is as it was
at_place : (j : List Entry) (cpu : ℕ) (P : Place → Place → Type 0) (d d′ : Desktop) (at : AtPlace cpu P d d′) → AreOfTickets j d → IsItsOwn j cpu at.after → AreOfTickets j d′
at_place j cpu P d d′ at others own k place there =
    let in_set : slice_get (set d.places cpu at.after) k ≡ Some place = ap (λ (x : Desktop). slice_get x.places k) (sym at.rest) ∙ there in
    elim (set_cases d.places cpu k at.after place in_set) [
      | inl here ↦ subst (λ (n : ℕ). IsItsOwn j n place) (sym here.0) (subst (IsItsOwn j cpu) here.1 own)
      | inr other ↦ others k place other
    ]

-- what is done at a place keeps the tickets, where it keeps its own
pub kept_at : (b b′ : Recorded) (cpu : ℕ) (P : Place → Place → Type 0) (d d′ : Desktop) → AtPlace cpu P d d′
    → ((old new : Place) → P old new → IsItsOwn b.journal.entries cpu old → HasGrown b b′ × IsItsOwn b′.journal.entries cpu new)
    → AreOfTickets b.journal.entries d → AreOfTickets b′.journal.entries d′
kept_at b b′ cpu P d d′ at each are =
    let after = each at.before at.after at.changes (are cpu at.before at.there) in
    at_place b′.journal.entries cpu P d d′ at (tickets_stay b b′ after.0 d are) after.1

-- ---- what is done there

module _ (cpu : ℕ) (b : Recorded) (old : Place) (own : IsItsOwn b.journal.entries cpu old) where
  pub checkout_keeps : (answer : Answer) (after : Recorded) (new : Place) → IsCheckout cpu b old answer after new → HasGrown b after × IsItsOwn after.journal.entries cpu new
  checkout_keeps (answers.Out (Some whom)) after new done =
      let grown = not_grown b after (ap (λ (x : Recorded). x.journal.entries) done.4.rest) in
      let begins = begun done.0.context old.quantum in
      let kept : AreAllAsOf after.journal.entries begins = kept_begun after.journal.entries done.0.context old.quantum (kept_then b after grown old.quantum own.kept) in
      let fresh : IsItsOwn after.journal.entries cpu (record { ticket = Some done.0; quantum = begins }) = record {
        its = λ ticket is.
            let same : done.0 ≡ ticket = same_Some done.0 ticket is in
            record {
              processor = ap (λ (t : Ticket). t.cpu) (sym same) ∙ done.3.processor;
              views = record { views = λ v there. let below : there.0 < 0 = there.1 in absurd (omega arith); kept = kept };
            };
        kept = kept;
      } in
      (grown, subst (IsItsOwn after.journal.entries cpu) (sym done.5) fresh)
  checkout_keeps (answers.Out None) after new done =
      let grown = grown_if_same b after done.1 in
      (grown, own_if_same b after grown cpu old new done.2 own)
  checkout_keeps _ after new done = absurd done

  module _ (vpn : Vpn) where
    view_with_keeps : (ticket : Ticket) → old.ticket ≡ Some ticket → (answer : Answer) (new : Place) → IsViewWith ticket b vpn old answer new → IsItsOwn b.journal.entries cpu new
    view_with_keeps ticket at answers.NoView new done = own_if_same b b (grown_if_same b b refl) cpu old new done.1 own
    view_with_keeps ticket at answers.Did new done = record {
      its = λ other is.
          let still : old.ticket ≡ Some other = sym done.2 ∙ is in
          let same : other ≡ ticket = same_Some other ticket (sym still ∙ at) in
          let of = own.its other still in
          record {
            processor = of.processor;
            views = subst (λ (t : Ticket). AreOfTicket b.journal.entries t.thread new.quantum) (sym same) (done.4 (subst (λ (t : Ticket). AreOfTicket b.journal.entries t.thread old.quantum) same of.views));
          };
      kept = done.5;
    }
    view_with_keeps ticket at (answers.Refused why) new done = own_if_same b b (grown_if_same b b refl) cpu old new done.2 own
    view_with_keeps ticket at _ new done = absurd done

    view_at : (t : Option Ticket) → old.ticket ≡ t → (answer : Answer) (new : Place)
        → MatchOption t ((answer ≡ answers.NoTicket) × (new ≡ old)) (λ ticket. IsViewWith ticket b vpn old answer new) → IsItsOwn b.journal.entries cpu new
    view_at None at answer new done = own_if_same b b (grown_if_same b b refl) cpu old new done.1 own
    view_at (Some ticket) at answer new done = view_with_keeps ticket at answer new done

    pub view_keeps : (answer : Answer) (new : Place) → IsView b vpn old answer new → IsItsOwn b.journal.entries cpu new
    view_keeps answer new done = view_at old.ticket refl answer new done

  module _ (limit : ℕ) where
    run_to_keeps : (answer : Answer) (new : Place) → IsRunTo limit old answer new → IsItsOwn b.journal.entries cpu new
    run_to_keeps (answers.Paused paused) new done =
        let same = run_copies limit old.quantum new.quantum paused done.1 in
        record {
          its = λ ticket is.
              let of = own.its ticket (sym done.0 ∙ is) in
              record { processor = of.processor; views = all_of b.journal.entries ticket.thread old.quantum new.quantum same of.views };
          kept = kept_as b.journal.entries old.quantum new.quantum same own.kept;
        }
    run_to_keeps _ new done = absurd done

    run_at : (t : Option Ticket) (answer : Answer) (new : Place) → MatchOption t ((answer ≡ answers.NoTicket) × (new ≡ old)) (λ ticket. IsRunTo limit old answer new) → IsItsOwn b.journal.entries cpu new
    run_at None answer new done = own_if_same b b (grown_if_same b b refl) cpu old new done.1 own
    run_at (Some ticket) answer new done = run_to_keeps answer new done

    pub run_keeps : (answer : Answer) (new : Place) → IsRunAhead limit old answer new → IsItsOwn b.journal.entries cpu new
    run_keeps answer new done = run_at old.ticket answer new done

  commit_with_keeps : (ticket : Ticket) (answer : Answer) (after : Recorded) (new : Place) → IsCommitWith ticket b old answer after new → HasGrown b after × IsItsOwn after.journal.entries cpu new
  commit_with_keeps ticket (answers.Stepped steps) after new done =
      let grown = grown_by b after _ done.2.entries in
      (grown, own_if_gone b after grown cpu old new done.3 own)
  commit_with_keeps ticket (answers.Refused why) after new done =
      let grown = grown_if_room b after done.0.only in
      (grown, own_if_same b after grown cpu old new done.1 own)
  commit_with_keeps ticket _ after new done = absurd done

  commit_at : (t : Option Ticket) (answer : Answer) (after : Recorded) (new : Place)
      → MatchOption t ((answer ≡ answers.NoTicket) × (after ≡ b) × (new ≡ old)) (λ ticket. IsCommitWith ticket b old answer after new × Spares b answer) → HasGrown b after × IsItsOwn after.journal.entries cpu new
  commit_at None answer after new done =
      let grown = grown_if_same b after done.1 in
      (grown, own_if_same b after grown cpu old new done.2 own)
  commit_at (Some ticket) answer after new done = commit_with_keeps ticket answer after new done.0

  pub commit_keeps : (answer : Answer) (after : Recorded) (new : Place) → IsCommit b old answer after new → HasGrown b after × IsItsOwn after.journal.entries cpu new
  commit_keeps answer after new done = commit_at old.ticket answer after new done

  leave_at : (t : Option Ticket) (answer : Answer) (after : Recorded) (new : Place)
      → MatchOption t ((answer ≡ answers.NoTicket) × (after ≡ b) × (new ≡ old)) (λ ticket. IsLeaveWith ticket b old answer after new) → HasGrown b after × IsItsOwn after.journal.entries cpu new
  leave_at None answer after new done =
      let grown = grown_if_same b after done.1 in
      (grown, own_if_same b after grown cpu old new done.2 own)
  leave_at (Some ticket) answer after new done =
      let grown = grown_if_marks b after done.only in
      (grown, own_if_gone b after grown cpu old new done.gone own)

  pub leave_keeps : (answer : Answer) (after : Recorded) (new : Place) → IsLeave b old answer after new → HasGrown b after × IsItsOwn after.journal.entries cpu new
  leave_keeps answer after new done = leave_at old.ticket answer after new done
