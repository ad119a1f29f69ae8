use Rattle.std.proofs.Common.{◌≡◌, None, Some, refl, sym, ap, ◌∙◌}
use Rattle.std.specs.Option.{option_copied}
use Rattle.phys_groups.specs.Translation.{row_of}
use Rattle.flat_state.specs.declared.records.FlatThread.{FlatThread}
use Rattle.paged_steps.proofs.Sending.{has_row, sent_by}
use Rattle.paged_steps.proofs.looking.signal_of.Goals as goal

pub returns : goal.returns
returns c = λ t here.
    let u = c.thread_at.result.now in
    let at = c.thread_at.ensures.thread in
    let ahead = c.requires.ahead t here in
    let same : u ≡ t = (cc) in
    let found : row_of c.args.tables.now.rows u.space c.args.what.now.vpn.0 ≡ Some c.in-Some.row.now = sym c.row.ensures ∙ ap option_copied c.in-Some.is in
    let there : row_of c.args.tables.now.rows t.space c.args.what.now.vpn.0 ≡ Some c.in-Some.row.now = ap (λ (x : FlatThread). row_of c.args.tables.now.rows x.space c.args.what.now.vpn.0) (sym same) ∙ found in
    sent_by c.args.tables.now t c.args.quantum.now c.args.what.now ahead (ahead.fresh c.requires.fresh) c.requires.store c.in-Some.row.now there _ refl

pub unreachable-requires : goal.unreachable-requires
unreachable-requires c =
    let u = c.thread_at.result.now in
    let ahead = c.requires.ahead u c.thread_at.ensures.thread in
    let at = has_row c.args.tables.now u c.args.quantum.now c.args.what.now ahead (ahead.fresh c.requires.fresh) c.requires.store in
    let there = at.there in
    let none : row_of c.args.tables.now.rows u.space c.args.what.now.vpn.0 ≡ None = sym c.row.ensures ∙ ap option_copied c.in-None.is in
    cc
