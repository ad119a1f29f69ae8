use Rattle.std.proofs.Common.{List, Some, None, sym, ap, subst, ◌∙◌}
use Rattle.std.specs.Option.{option_and_then}
use Rattle.std.proofs.lemmas.Result.{err_from_is_err_and}
use Rattle.board_threads.specs.page_views.specs.Views.{View}
use Rattle.board_threads.specs.desc_tables.specs.Tables.{Held}
use Rattle.board_threads.specs.board_checks.specs.Identifiers.{not_live, thread_as}
use Rattle.board_threads.specs.board_core.specs.Core.{contents_of}
use Rattle.board_threads.specs.board_core.specs.Growth.{AreInMemory}
use Rattle.board_commits.specs.Refusals.{changed, moved, not_loaded}
use Rattle.board_threads.specs.board_core.specs.Refusals.{over}
use Rattle.board_threads.specs.board_checks.proofs.FirstLemmas.{err_shown}
use Rattle.board_commits.proofs.CommitLaws.{all_in_memory, may_happen}
use Rattle.board_commits.specs.Tickets.{AreAsOf}
use Rattle.board_commits.proofs.KeptLaws.{as_of_views}
use Rattle.board_commits.proofs.ThreadLaws.{at_fifth, at_fourth, at_second, at_third, moved_is}
use Rattle.board_commits.proofs.commits.check_commit.Goals as goal

pub returns-in_err-check_place-clause-exact : goal.returns-in_err-check_place-clause-exact
returns-in_err-check_place-clause-exact c =
    let p = err_from_is_err_and c.from_residual-in_err-check_place.result c.from_residual-in_err-check_place.ensures.1 in
    let moves = moved_is (contents_of c.args.core.now) c.args.ticket.now.thread c.in_ok-thread.thread.now c.args.ticket.now.cpu c.args.quantum.now.first c.in_ok-thread.ensures.named c.in_ok-thread.ensures.found c.in_ok-thread.ensures.shown in
    err_shown c.from_residual-in_err-check_place.result c.in_err-check_place.field-0.0 p
    ∙ at_second (not_live (contents_of c.args.core.now) c.args.ticket.now.thread)
    (option_and_then (moved (contents_of c.args.core.now) c.args.ticket.now.cpu c.args.quantum.now.first) (thread_as (contents_of c.args.core.now) c.args.ticket.now.thread))
    (not_loaded (contents_of c.args.core.now) c.args.quantum.now.views) (changed c.args.core.now.machine.memory c.args.quantum.now.views) (over c.args.core.now c.args.quantum.now.steps)
    c.in_ok-thread.ensures.exact c.in_err-check_place.field-0.0 (c.in_err-check_place.ensures ∙ moves)

pub returns-in_err-check_rows-clause-exact : goal.returns-in_err-check_rows-clause-exact
returns-in_err-check_rows-clause-exact c =
    let p = err_from_is_err_and c.from_residual-in_err-check_rows.result c.from_residual-in_err-check_rows.ensures.1 in
    let moves = moved_is (contents_of c.args.core.now) c.args.ticket.now.thread c.in_ok-thread.thread.now c.args.ticket.now.cpu c.args.quantum.now.first c.in_ok-thread.ensures.named c.in_ok-thread.ensures.found c.in_ok-thread.ensures.shown in
    let rows = ap (λ (h : Held). not_loaded h.contents c.views.result.now) c.tables.ensures.tables ∙ ap (not_loaded (contents_of c.args.core.now)) c.views.ensures.views in
    err_shown c.from_residual-in_err-check_rows.result c.in_err-check_rows.field-0.0 p
    ∙ at_third (not_live (contents_of c.args.core.now) c.args.ticket.now.thread)
    (option_and_then (moved (contents_of c.args.core.now) c.args.ticket.now.cpu c.args.quantum.now.first) (thread_as (contents_of c.args.core.now) c.args.ticket.now.thread))
    (not_loaded (contents_of c.args.core.now) c.args.quantum.now.views) (changed c.args.core.now.machine.memory c.args.quantum.now.views) (over c.args.core.now c.args.quantum.now.steps)
    c.in_ok-thread.ensures.exact (c.in_ok-check_place.ensures ∙ moves) c.in_err-check_rows.field-0.0 (c.in_err-check_rows.ensures ∙ rows)

pub check_contents-requires-clause-frames : goal.check_contents-requires-clause-frames
check_contents-requires-clause-frames c =
    let rows = ap (λ (h : Held). not_loaded h.contents c.views.result.now) c.tables.ensures.tables ∙ ap (not_loaded (contents_of c.args.core.now)) c.views.ensures.views in
    subst (λ (vs : List View). AreInMemory c.args.core.now.machine.memory vs) (sym c.views-2.ensures.views)
    (all_in_memory c.args.core.now c.tables.ensures.known c.tables.ensures.sound.1.whole.one c.args.ticket.now c.args.quantum.now c.requires.views (c.in_ok-check_rows.ensures ∙ rows))

pub check_contents-requires-clause-kept : goal.check_contents-requires-clause-kept
check_contents-requires-clause-kept c =
    let j = c.args.core.now.journal.entries in
    subst (λ (vs : List View). AreAsOf j vs) (sym c.views-2.ensures.views) (as_of_views j c.args.quantum.now c.requires.views.kept)

pub returns-in_err-check_contents-clause-exact : goal.returns-in_err-check_contents-clause-exact
returns-in_err-check_contents-clause-exact c =
    let p = err_from_is_err_and c.from_residual-in_err-check_contents.result c.from_residual-in_err-check_contents.ensures.1 in
    let moves = moved_is (contents_of c.args.core.now) c.args.ticket.now.thread c.in_ok-thread.thread.now c.args.ticket.now.cpu c.args.quantum.now.first c.in_ok-thread.ensures.named c.in_ok-thread.ensures.found c.in_ok-thread.ensures.shown in
    let rows = ap (λ (h : Held). not_loaded h.contents c.views.result.now) c.tables.ensures.tables ∙ ap (not_loaded (contents_of c.args.core.now)) c.views.ensures.views in
    let pages = ap (changed c.args.core.now.machine.memory) c.views-2.ensures.views in
    err_shown c.from_residual-in_err-check_contents.result c.in_err-check_contents.field-0.0 p
    ∙ at_fourth (not_live (contents_of c.args.core.now) c.args.ticket.now.thread)
    (option_and_then (moved (contents_of c.args.core.now) c.args.ticket.now.cpu c.args.quantum.now.first) (thread_as (contents_of c.args.core.now) c.args.ticket.now.thread))
    (not_loaded (contents_of c.args.core.now) c.args.quantum.now.views) (changed c.args.core.now.machine.memory c.args.quantum.now.views) (over c.args.core.now c.args.quantum.now.steps)
    c.in_ok-thread.ensures.exact (c.in_ok-check_place.ensures ∙ moves) (c.in_ok-check_rows.ensures ∙ rows) c.in_err-check_contents.field-0.0 (c.in_err-check_contents.ensures ∙ pages)

pub returns-in_err-check_steps-clause-exact : goal.returns-in_err-check_steps-clause-exact
returns-in_err-check_steps-clause-exact c =
    let p = err_from_is_err_and c.from_residual-in_err-check_steps.result c.from_residual-in_err-check_steps.ensures.1 in
    let moves = moved_is (contents_of c.args.core.now) c.args.ticket.now.thread c.in_ok-thread.thread.now c.args.ticket.now.cpu c.args.quantum.now.first c.in_ok-thread.ensures.named c.in_ok-thread.ensures.found c.in_ok-thread.ensures.shown in
    let rows = ap (λ (h : Held). not_loaded h.contents c.views.result.now) c.tables.ensures.tables ∙ ap (not_loaded (contents_of c.args.core.now)) c.views.ensures.views in
    let pages = ap (changed c.args.core.now.machine.memory) c.views-2.ensures.views in
    let steps = ap (over c.args.core.now) (c.from.ensures ∙ c.steps.ensures.steps) in
    err_shown c.from_residual-in_err-check_steps.result c.in_err-check_steps.field-0.0 p
    ∙ at_fifth (not_live (contents_of c.args.core.now) c.args.ticket.now.thread)
    (option_and_then (moved (contents_of c.args.core.now) c.args.ticket.now.cpu c.args.quantum.now.first) (thread_as (contents_of c.args.core.now) c.args.ticket.now.thread))
    (not_loaded (contents_of c.args.core.now) c.args.quantum.now.views) (changed c.args.core.now.machine.memory c.args.quantum.now.views) (over c.args.core.now c.args.quantum.now.steps)
    c.in_ok-thread.ensures.exact (c.in_ok-check_place.ensures ∙ moves) (c.in_ok-check_rows.ensures ∙ rows) (c.in_ok-check_contents.ensures ∙ pages) (Some c.in_err-check_steps.field-0.0) (c.in_err-check_steps.ensures ∙ steps)

pub returns-clause-exact : goal.returns-clause-exact
returns-clause-exact c =
    let moves = moved_is (contents_of c.args.core.now) c.args.ticket.now.thread c.in_ok-thread.thread.now c.args.ticket.now.cpu c.args.quantum.now.first c.in_ok-thread.ensures.named c.in_ok-thread.ensures.found c.in_ok-thread.ensures.shown in
    let rows = ap (λ (h : Held). not_loaded h.contents c.views.result.now) c.tables.ensures.tables ∙ ap (not_loaded (contents_of c.args.core.now)) c.views.ensures.views in
    let pages = ap (changed c.args.core.now.machine.memory) c.views-2.ensures.views in
    let steps = ap (over c.args.core.now) (c.from.ensures ∙ c.steps.ensures.steps) in
    at_fifth (not_live (contents_of c.args.core.now) c.args.ticket.now.thread)
    (option_and_then (moved (contents_of c.args.core.now) c.args.ticket.now.cpu c.args.quantum.now.first) (thread_as (contents_of c.args.core.now) c.args.ticket.now.thread))
    (not_loaded (contents_of c.args.core.now) c.args.quantum.now.views) (changed c.args.core.now.machine.memory c.args.quantum.now.views) (over c.args.core.now c.args.quantum.now.steps)
    c.in_ok-thread.ensures.exact (c.in_ok-check_place.ensures ∙ moves) (c.in_ok-check_rows.ensures ∙ rows) (c.in_ok-check_contents.ensures ∙ pages) None (c.in_ok-check_steps.ensures ∙ steps)

pub returns-clause-may : goal.returns-clause-may
returns-clause-may c =
    let rows = ap (λ (h : Held). not_loaded h.contents c.views.result.now) c.tables.ensures.tables ∙ ap (not_loaded (contents_of c.args.core.now)) c.views.ensures.views in
    let pages = ap (changed c.args.core.now.machine.memory) c.views-2.ensures.views in
    let steps = ap (over c.args.core.now) (c.from.ensures ∙ c.steps.ensures.steps) in
    may_happen c.args.core.now c.tables.ensures.known c.tables.ensures.sound.1.whole.one c.args.ticket.now c.args.quantum.now c.requires.views (c.in_ok-check_rows.ensures ∙ rows)
    c.in_ok-thread.thread.now c.in_ok-thread.ensures.named c.in_ok-thread.ensures.found c.in_ok-thread.ensures.exact c.in_ok-check_place.ensures (c.in_ok-check_contents.ensures ∙ pages) (c.in_ok-check_steps.ensures ∙ steps)
