-- Who is on a processor once something was done.
use Rattle.std.proofs.Common.{◌≡◌, ℕ, Bool, true, false, Option, Some, None, refl, sym, ap, ◌∙◌, subst}
use Rattle.std.specs.Prelude.{if◌then◌else◌, ◌==◌, IfErr, OnOk, List, Result, Ok, Err}
use Rattle.std.proofs.lemmas.Bool.{eq-eqb, eqb-true}
use Rattle.cache_ident.specs.declared.names.Name.TheVariants as name
use Rattle.cache_ident.specs.declared.names.ThreadNo.{ThreadNo}
use Rattle.cache_ident.specs.Residents.{Resident, IsResident}
use Rattle.cache_board.specs.board_ops.specs.declared.refusals.Refused.{Refused}
use Rattle.cache_board.specs.cached_machine.specs.Posts.{but_at, mark_of}
use Rattle.quantum.specs.Ahead.{Ahead}
use Rattle.cache_board.specs.board_core.specs.Answers.{IsRefused}
use Rattle.cache_board.specs.board_core.specs.Core.{contents_of, IsSound, Recorded}
use Rattle.cache_board.specs.board_core.specs.Going.{GoesOn}
use Rattle.cache_board.specs.board_core.specs.Growth.{IsRoomMade}
use Rattle.cache_board.specs.board_core.proofs.SoundLaws.{loaded_marks}
use Rattle.cache_board.specs.board_threads.specs.declared.tickets.Ticket.{Ticket}
use Rattle.cache_board.specs.board_threads.proofs.IdentLemmas.{one_thread}
use Rattle.cache_board.specs.board_commits.specs.Commits.{IsCommitted}
use Rattle.cache_board.specs.board_heal.specs.Healed.{IsHealed}
use Rattle.cache_board.specs.board_heal.specs.Refusals.{refusal_of_heal}
use Rattle.board_turns.specs.Holds.{HasLeft}
use Rattle.board_turns.specs.Looks.{IsOut}
use Rattle.board_turns.specs.Turning.{IsOutAlone, IsUnmarked}

-- nothing is there where whatever is can't be
nothing_if : (o : Option ℕ) → ((n : ℕ) → o ≡ Some n → ⊥) → o ≡ None
nothing_if None never = refl
nothing_if (Some n) never = absurd (never n refl)

-- on no processor but by a mark that was there
unmarked_by : (a b : Recorded) → ((whom : ThreadNo) (by : ℕ) → mark_of (contents_of b) whom ≡ Some by → mark_of (contents_of a) whom ≡ Some by) → IsUnmarked a → IsUnmarked b
unmarked_by a b keeps unmarked whom =
    nothing_if (mark_of (contents_of b) whom) (λ by is. let was : mark_of (contents_of a) whom ≡ Some by = keeps whom by is in let none = unmarked whom in cc)

pub called_unmarked : (a b : Recorded) → GoesOn 0 a b → IsUnmarked a → IsUnmarked b
called_unmarked a b on = unmarked_by a b on.marks

pub room_unmarked : (a b : Recorded) → IsRoomMade a b → IsUnmarked a → IsUnmarked b
room_unmarked a b room unmarked whom = room.only.marks.marks whom ∙ unmarked whom

pub room_out : (a b : Recorded) (ticket : Ticket) → IsRoomMade a b → IsOutAlone a ticket → IsOutAlone b ticket
room_out a b ticket room out = record {
  named = subst (λ (rs : List Resident). IsResident rs ticket.thread (name.Thread ticket.no)) (sym room.only.loaded.residents) out.named;
  on = room.only.marks.marks ticket.no ∙ out.on;
  only = λ whom by is. out.only whom by (sym (room.only.marks.marks whom) ∙ is);
}

-- no mark but one, and then not that either
but_one : (whom other : ThreadNo) (was : Option ℕ) (n : ℕ) → ((by : ℕ) → was ≡ Some by → other ≡ whom) → (if other.0 == whom.0 then None else was) ≡ Some n → ⊥
but_one whom other was n only is = by (other.0 == whom.0) refl is
  where
    same_test : other ≡ whom → (other.0 == other.0) ≡ (other.0 == whom.0)
    same_test same = ap (λ (w : ThreadNo). other.0 == w.0) same

    by : (b : Bool) → (other.0 == whom.0) ≡ b → (if b then None else was) ≡ Some n → ⊥
    by true test is = cc
    by false test is = absurd (let same = same_test (only n is) in let own : (other.0 == other.0) ≡ true = eq-eqb other.0 other.0 refl in cc)

comes_back : (a b : Recorded) (whom : ThreadNo) → ((other : ThreadNo) → mark_of (contents_of b) other ≡ but_at whom None (mark_of (contents_of a)) other) → ((other : ThreadNo) (by : ℕ) → mark_of (contents_of a) other ≡ Some by → other ≡ whom) → IsUnmarked b
comes_back a b whom marks only other =
    nothing_if (mark_of (contents_of b) other) (λ n is. but_one whom other (mark_of (contents_of a) other) n (only other) (sym (marks other) ∙ is))

pub left_unmarked : (a b : Recorded) (ticket : Ticket) → IsOutAlone a ticket → HasLeft ticket a b → IsUnmarked b
left_unmarked a b ticket out left =
    comes_back a b ticket.no (left.back ticket.no (record { named = out.named; on = out.on })) out.only

pub committed_unmarked : (a b : Recorded) (ticket : Ticket) (q : Ahead) → IsSound a → IsOutAlone a ticket → IsCommitted ticket q a b → IsUnmarked b
committed_unmarked a b ticket q sound out committed =
    let same : ticket.no ≡ committed.whom = one_thread (contents_of a) sound.tables.1.whole.one ticket.thread ticket.no committed.whom out.named committed.named in
    comes_back a b committed.whom committed.marks (λ other by is. out.only other by is ∙ same)

pub healed_unmarked : (a b : Recorded) (whom : ThreadNo) (answer : Result (Unit {0}) Refused) → IfErr answer (IsRefused (refusal_of_heal a whom) a b) → OnOk answer (IsHealed 0 whom a b) → IsUnmarked a → IsUnmarked b
healed_unmarked a b whom (Ok done) refused healed = unmarked_by a b (loaded_marks (contents_of a) (contents_of b) healed.marks).marks
healed_unmarked a b whom (Err why) refused healed = room_unmarked a b refused.only

-- a thread that came to the processor is alone on one
pub out_alone : (a b : Recorded) (want_first : Bool) (ticket : Ticket) → IsUnmarked a → IsOut 0 want_first a b ticket → IsOutAlone b ticket
out_alone a b want_first ticket unmarked out = record {
  named = subst (λ (rs : List Resident). IsResident rs ticket.thread (name.Thread ticket.no)) (sym out.out.only.loaded.residents) out.ticket_for.named;
  on = out.out.marks ticket.no ∙ own (ticket.no.0 == ticket.no.0) (eq-eqb ticket.no.0 ticket.no.0 refl) ∙ ap (λ (n : ℕ). Some n) (sym out.ticket_for.processor);
  only = λ whom by is. came whom (whom.0 == ticket.no.0) refl by (sym (out.out.marks whom) ∙ is);
}
  where
    own : (t : Bool) → t ≡ true → (if t then Some 0 else mark_of (contents_of a) ticket.no) ≡ Some 0
    own true is = refl
    own false is = absurd (cc)

    came : (whom : ThreadNo) (t : Bool) → (whom.0 == ticket.no.0) ≡ t → (by : ℕ) → (if t then Some 0 else mark_of (contents_of a) whom) ≡ Some by → whom ≡ ticket.no
    came whom true test by is = ap (λ (n : ℕ). let w : ThreadNo = record { 0 = n } in w) (eqb-true whom.0 ticket.no.0 test)
    came whom false test by is = absurd (let none = unmarked whom in cc)
