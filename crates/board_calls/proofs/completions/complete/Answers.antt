use Rattle.std.proofs.Common.{◌≡◌, ◌≢◌, ◌<◌, true, List, [], rules, sym, ◌∙◌, ap, subst, arith}
use Rattle.std.proofs.lemmas.Bool.{false≢true}
use Rattle.cache_ident.specs.declared.idents.Ident.{Ident}
use Rattle.flat_state.specs.Call.{is_completable}
use Rattle.flat_state.specs.State.{FlatState}
use Rattle.flat_rules.specs.Readings.{OfThread}
use Rattle.board_checks.specs.desc_stores.specs.Changes.{room_of}
use Rattle.board_core.specs.thread_sets.specs.Sets.{Sets}
use Rattle.board_core.specs.cached_machine.specs.Cached.{state_of}
use Rattle.board_core.specs.Core.{contents_of, Recorded}
use Rattle.board_core.specs.Growth.{IsRoomMade}
use Rattle.board_core.proofs.RoomLaws.{rooms_more}
use Rattle.board_calls.specs.Calls.{IsPlanned}
use Rattle.board_calls.proofs.CompletionLaws.{asks_for_some, completion, good_then, nothing_left, room_left, since, thread_left}
use Rattle.board_calls.proofs.completions.complete.Goals as goal

pub unload_each-requires-clause-sealed : goal.unload_each-requires-clause-sealed
unload_each-requires-clause-sealed c =
    let made = rooms_more c.args.core.now c.make_room.new.self c.make_declarable.new.self c.make_room.ensures.only c.make_declarable.ensures.only in
    ap (λ (x : Recorded). x.sealed) made.rest ∙ c.in_ok-no.ensures.planned.sealed

pub unload_each-requires-clause-rows : goal.unload_each-requires-clause-rows
unload_each-requires-clause-rows c =
    let plan = subst (λ (xs : List Ident). IsPlanned c.args.core.now c.args.thread c.in_ok-no.no xs) (sym c.deref.ensures.value) c.in_ok-no.ensures.planned in
    λ ident there. (plan.bad.bad ident there).row

pub complete-requires-clause-loaded : goal.complete-requires-clause-loaded
complete-requires-clause-loaded c =
    let made = rooms_more c.args.core.now c.make_room.new.self c.make_declarable.new.self c.make_room.ensures.only c.make_declarable.ensures.only in
    let plan = subst (λ (xs : List Ident). IsPlanned c.args.core.now c.args.thread c.in_ok-no.no xs) (sym c.deref.ensures.value) c.in_ok-no.ensures.planned in
    let r = plan.its in
    thread_left c.args.cpu c.args.core.now c.make_declarable.new.self c.unload_each.new.core c.deref.result.now c.known.ensures.whole made c.unload_each.ensures.left c.in_ok-no.no plan.bad c.in_ok-no.no (r.0, r.1, r.3)

pub complete-requires-clause-completable : goal.complete-requires-clause-completable
complete-requires-clause-completable c =
    let made = rooms_more c.args.core.now c.make_room.new.self c.make_declarable.new.self c.make_room.ensures.only c.make_declarable.ensures.only in
    let left = since c.args.cpu c.args.core.now c.make_declarable.new.self c.unload_each.new.core c.deref.result.now c.known.ensures.whole made c.unload_each.ensures.left in
    subst (λ (s : FlatState). OfThread s c.in_ok-no.no.0 (λ t. is_completable t ≡ true)) (sym left.state) c.in_ok-no.ensures.planned.completable

pub complete-requires-clause-good : goal.complete-requires-clause-good
complete-requires-clause-good c =
    let made = rooms_more c.args.core.now c.make_room.new.self c.make_declarable.new.self c.make_room.ensures.only c.make_declarable.ensures.only in
    let plan = subst (λ (xs : List Ident). IsPlanned c.args.core.now c.args.thread c.in_ok-no.no xs) (sym c.deref.ensures.value) c.in_ok-no.ensures.planned in
    good_then c.args.cpu c.args.core.now c.make_declarable.new.self c.unload_each.new.core c.deref.result.now c.known.ensures.whole made c.unload_each.ensures.left c.in_ok-no.no plan.bad c.known.ensures.formed c.known.ensures.good

pub complete-requires-clause-write : goal.complete-requires-clause-write
complete-requires-clause-write c =
    let made = rooms_more c.args.core.now c.make_room.new.self c.make_declarable.new.self c.make_room.ensures.only c.make_declarable.ensures.only in
    let left = since c.args.cpu c.args.core.now c.make_declarable.new.self c.unload_each.new.core c.deref.result.now c.known.ensures.whole made c.unload_each.ensures.left in
    let room = c.in_ok-make_room.ensures.ok.1 in
    let more = c.make_declarable.ensures.only.spare in
    record {
      sealed = left.sealed ∙ c.in_ok-no.ensures.planned.sealed;
      processor = c.requires.processor;
      room = room_left c.args.cpu c.args.core.now c.make_declarable.new.self c.unload_each.new.core c.deref.result.now c.known.ensures.whole made c.unload_each.ensures.left (omega arith);
    }

pub returns-in_err-complete-clause-refused : goal.returns-in_err-complete-clause-refused
returns-in_err-complete-clause-refused c =
    let a = c.args.core.now in
    let d = c.unload_each.new.core in
    let idents = c.deref.result.now in
    let gone = c.unload_each.ensures.left in
    let made = rooms_more c.args.core.now c.make_room.new.self c.make_declarable.new.self c.make_room.ensures.only c.make_declarable.ensures.only in
    let plan = subst (λ (xs : List Ident). IsPlanned c.args.core.now c.args.thread c.in_ok-no.no xs) (sym c.deref.ensures.value) c.in_ok-no.ensures.planned in
    let left = since c.args.cpu c.args.core.now c.make_declarable.new.self c.unload_each.new.core c.deref.result.now c.known.ensures.whole made c.unload_each.ensures.left in
    let room = c.in_ok-make_declarable.ensures.ok in
    let never : (idents ≢ []) → ⊥ = λ some.
    let asks = asks_for_some (state_of a.machine) (state_of d.machine) c.in_ok-no.no.0 idents (sym left.state) some plan.quiet in
    let declarable = gone.room.room in
    let sets = ap (λ (x : Sets). x.room) gone.room.sets in
    let one : 0 < room_of (contents_of d) = omega (arith, room.0) in
    let two : 0 < d.machine.sets.room = omega (arith, room.1) in
    false≢true (c.in_err-complete.ensures.enough asks one two) in
    let only : IsRoomMade a c.complete.new.self = nothing_left a c.make_declarable.new.self d c.complete.new.self idents made c.unload_each.ensures.none c.in_err-complete.ensures.err never in
    search rules

pub returns-clause-completed : goal.returns-clause-completed
returns-clause-completed c =
    let made = rooms_more c.args.core.now c.make_room.new.self c.make_declarable.new.self c.make_room.ensures.only c.make_declarable.ensures.only in
    let plan = subst (λ (xs : List Ident). IsPlanned c.args.core.now c.args.thread c.in_ok-no.no xs) (sym c.deref.ensures.value) c.in_ok-no.ensures.planned in
    completion c.args.cpu c.args.core.now c.make_declarable.new.self c.unload_each.new.core c.deref.result.now c.known.ensures.whole made c.unload_each.ensures.left c.in_ok-no.no plan.bad c.complete.new.self c.args.thread plan.its plan.ordered
    c.in_ok-complete.ensures.ok.0 c.in_ok-complete.ensures.ok.1
