use Rattle.std.proofs.Common.{sym}
use Rattle.board_threads.specs.shown_state.specs.Shown.{flat_thread}
use Rattle.board_threads.specs.board_core.specs.Core.{contents_of}
use Rattle.board_commits.proofs.PageLaws.{all_kept, all_of_ticket, paged}
use Rattle.board_commits.proofs.ThreadLaws.{page_passes, page_refused}
use Rattle.board_commits.proofs.TicketLaws.{framed_now}
use Rattle.board_commits.proofs.pages.page.Goals as goal

pub returns-in_default-clause-exact : goal.returns-in_default-clause-exact
returns-in_default-clause-exact c =
    let found = c.in_ok-space.field-0.now in
    page_refused (contents_of c.args.core.now) c.args.vpn (flat_thread found) c.args.ticket.now.thread c.in_ok-space.ensures.exact c.in_ok-space.ensures.shown c.in_default.ensures.absent

pub add_page-requires-clause-frame : goal.add_page-requires-clause-frame
add_page-requires-clause-frame c =
    let found = c.in_ok-space.field-0.now in
    framed_now c.args.core.now c.holds.ensures found.space c.args.vpn.0 c.in-Some.row.now c.in-Some.ensures.found.there

pub returns-clause-exact : goal.returns-clause-exact
returns-clause-exact c =
    let found = c.in_ok-space.field-0.now in
    let r = c.in-Some.ensures.found.loaded in
    page_passes (contents_of c.args.core.now) c.args.vpn (flat_thread found) c.args.ticket.now.thread c.in_ok-space.ensures.exact c.in_ok-space.ensures.shown (r.0, r.1, r.3)

pub returns-clause-filled : goal.returns-clause-filled
returns-clause-filled c =
    let found = c.in_ok-space.field-0.now in
    let its = c.in-Some.ensures.found in
    paged c.args.core.now c.holds.ensures c.row_near.ensures.one c.args.ticket.now c.args.vpn found c.in_ok-space.ensures.named c.in_ok-space.ensures.found c.in-Some.ident its.loaded
    c.in-Some.row.now (sym its.there) c.args.quantum.now c.add_page.new.quantum c.add_page.ensures c.in_ok-space.ensures.shown

pub returns-clause-views : goal.returns-clause-views
returns-clause-views c =
    let found = c.in_ok-space.field-0.now in
    let its = c.in-Some.ensures.found in
    all_of_ticket c.args.core.now c.holds.ensures c.row_near.ensures.one c.args.ticket.now c.args.vpn found c.in_ok-space.ensures.named c.in_ok-space.ensures.found c.in-Some.ident its.loaded
    c.in-Some.row.now (sym its.there) c.args.quantum.now c.add_page.new.quantum c.add_page.ensures

pub returns-clause-kept : goal.returns-clause-kept
returns-clause-kept c =
    let found = c.in_ok-space.field-0.now in
    let its = c.in-Some.ensures.found in
    all_kept c.args.core.now c.holds.ensures c.row_near.ensures.one c.args.ticket.now c.args.vpn found c.in_ok-space.ensures.named c.in_ok-space.ensures.found c.in-Some.ident its.loaded
    c.in-Some.row.now (sym its.there) c.args.quantum.now c.add_page.new.quantum c.add_page.ensures c.requires.kept
