use Rattle.std.proofs.Common.{◌≡◌, rules, true, Some, slice_get, subst}
use Rattle.std.specs.Prelude.{OnErr, OnOk}
use Rattle.std.proofs.lemmas.Result.{on_ok_weaker}
use Rattle.flat_state.specs.Call.{is_completable}
use Rattle.flat_state.specs.State.{with_thread}
use Rattle.flat_rules.specs.Readings.{OfThread}
use Rattle.flat_thread.specs.Calls.{own_part}
use Rattle.board_laws.specs.shown_state.specs.Shown.{flat_thread}
use Rattle.cached_machine.specs.Cached.{state_of, Cached}
use Rattle.cached_machine.specs.Moved.{KeepsBeside, KeepsPost, OnlyRoom}
use Rattle.cached_machine.proofs.CompleteLaws.{carried_beside, carried_err, carried_ok, carried_sound, stood}
use Rattle.cached_machine.proofs.machine.CachedMachine.carry_out.Goals as goal

pub invariant_of-self : goal.invariant_of-self
invariant_of-self c =
    let i = c.self.inside in
    let no = c.args.no in
    let call = c.update_thread_named-done in
    let e = call.ensures in
    let updated = e.updated in
    let was = updated.value in
    let left = updated.left in
    let post : KeepsPost was left = search (rules, updated.called_with) in
    let told : OnOk call.result (is_completable (flat_thread was) ≡ true → flat_thread left ≡ own_part (flat_thread was)) = search (rules, updated.called_with) in
    let err : OnErr call.result (left ≡ was) = search (rules, updated.called_with) in
    let here = stood i.machine i.memory i.tables call.new.self i.sets c.note.new.sets no c.known.ensures.one was left updated.was updated.has_name post in
    let completable = c.requires.completable (flat_thread was) (subst (λ (m : Cached). slice_get (state_of m).threads no.0 ≡ Some (flat_thread was)) c.self.view_is here) in
    let ok = on_ok_weaker call.result (λ goes. goes completable) told in
    carried_sound i.machine i.memory i.tables call.new.self i.sets c.note.new.sets no c.known.ensures.one was left updated.was updated.has_name post updated.contents e.rest e.residents e.issued e.spare updated.shows c.note.ensures call.result ok err i.granted c.self.invariant

pub returns-clause-ok : goal.returns-clause-ok
returns-clause-ok c =
    let i = c.self.inside in
    let no = c.args.no in
    let call = c.update_thread_named-done in
    let e = call.ensures in
    let updated = e.updated in
    let was = updated.value in
    let left = updated.left in
    let post : KeepsPost was left = search (rules, updated.called_with) in
    let told : OnOk call.result (is_completable (flat_thread was) ≡ true → flat_thread left ≡ own_part (flat_thread was)) = search (rules, updated.called_with) in
    let err : OnErr call.result (left ≡ was) = search (rules, updated.called_with) in
    let here = stood i.machine i.memory i.tables call.new.self i.sets c.note.new.sets no c.known.ensures.one was left updated.was updated.has_name post in
    let completable = c.requires.completable (flat_thread was) (subst (λ (m : Cached). slice_get (state_of m).threads no.0 ≡ Some (flat_thread was)) c.self.view_is here) in
    let ok = on_ok_weaker call.result (λ goes. goes completable) told in
    subst (λ (m : Cached). OnOk call.result (OfThread (state_of m) no.0 (λ t. state_of (record { machine = i.machine; memory = i.memory; held = call.new.self; sets = c.note.new.sets }) ≡ with_thread (state_of m) no.0 (own_part t)))) c.self.view_is
    (carried_ok i.machine i.memory i.tables call.new.self i.sets c.note.new.sets no c.known.ensures.one was left updated.was updated.has_name post updated.contents e.rest e.residents e.issued e.spare updated.shows c.note.ensures call.result ok err)

pub returns-clause-err : goal.returns-clause-err
returns-clause-err c =
    let i = c.self.inside in
    let no = c.args.no in
    let call = c.update_thread_named-done in
    let e = call.ensures in
    let updated = e.updated in
    let was = updated.value in
    let left = updated.left in
    let post : KeepsPost was left = search (rules, updated.called_with) in
    let told : OnOk call.result (is_completable (flat_thread was) ≡ true → flat_thread left ≡ own_part (flat_thread was)) = search (rules, updated.called_with) in
    let err : OnErr call.result (left ≡ was) = search (rules, updated.called_with) in
    let here = stood i.machine i.memory i.tables call.new.self i.sets c.note.new.sets no c.known.ensures.one was left updated.was updated.has_name post in
    let completable = c.requires.completable (flat_thread was) (subst (λ (m : Cached). slice_get (state_of m).threads no.0 ≡ Some (flat_thread was)) c.self.view_is here) in
    let ok = on_ok_weaker call.result (λ goes. goes completable) told in
    subst (λ (m : Cached). OnErr call.result (OnlyRoom m (record { machine = i.machine; memory = i.memory; held = call.new.self; sets = c.note.new.sets }))) c.self.view_is
    (carried_err i.machine i.memory i.tables call.new.self i.sets c.note.new.sets no c.known.ensures.one was left updated.was updated.has_name post updated.contents e.rest e.residents e.issued e.spare updated.shows c.note.ensures call.result ok err e.room)

pub returns-clause-kept : goal.returns-clause-kept
returns-clause-kept c =
    let i = c.self.inside in
    let no = c.args.no in
    let call = c.update_thread_named-done in
    let e = call.ensures in
    let updated = e.updated in
    let was = updated.value in
    let left = updated.left in
    let post : KeepsPost was left = search (rules, updated.called_with) in
    subst (λ (m : Cached). KeepsBeside m (record { machine = i.machine; memory = i.memory; held = call.new.self; sets = c.note.new.sets })) c.self.view_is
    (carried_beside i.machine i.memory i.tables call.new.self i.sets c.note.new.sets no c.known.ensures.one was left updated.was updated.has_name post updated.contents e.rest e.residents e.issued e.spare updated.shows c.note.ensures)
