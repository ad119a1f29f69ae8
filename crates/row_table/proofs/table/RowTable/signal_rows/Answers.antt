use Rattle.std.proofs.Common.{◌∙◌, ◌<◌, ◌∷◌, ◌++◌, [], List, length, get_or, filter, take, ap, sym, arith}
use Rattle.std.specs.Map.{values_of}
use Rattle.std.proofs.lemmas.List.{length-take, take_all, take_more}
use Rattle.std.proofs.lemmas.List.Sums.{length-filter}
use Rattle.std.proofs.lemmas.Option.{same_Some}
use Rattle.phys_groups.specs.declared.rows.Row.{Row}
use Rattle.signal_pages.specs.Signals.{is_signal_row_of}
use Rattle.row_table.proofs.SoundnessLemmas.{length_pages, listed_has_row, signal_row_at, within_filter}
use Rattle.row_table.proofs.table.RowTable.signal_rows.Goals as goal

pub push-requires : goal.push-requires
push-requires c =
    let rows = values_of c.self.inside.rows in
    let filtered : List Row = filter (is_signal_row_of c.args.frame) rows in
    let listed = c.pages-page-items.ensures ∙ c.self.invariant.signal_pages c.args.frame in
    let within : c.loop-page.page-index < length filtered = within_filter c.args.frame rows c.pages-page-items.result.now listed c.loop-page.page-index c.loop-page-test.true in
    let short : length c.loop-page.rows.items < 4 =
    omega (arith, ap length c.loop-page.invariant, length-take c.loop-page.page-index filtered, length-filter (is_signal_row_of c.args.frame) rows, c.self.invariant.proper.few_signal_rows c.args.frame) in
    (omega arith, short)

pub unreachable-requires : goal.unreachable-requires
unreachable-requires c =
    let listed = c.pages-page-items.ensures ∙ c.self.invariant.signal_pages c.args.frame in
    listed_has_row c.args.frame (values_of c.self.inside.rows) c.pages-page-items.result.now listed c.loop-page.page-index c.loop-page-test.true (record { space = 0; vpn = 0 }) c.self.invariant.proper c.in-None.ensures

pub loop-page-preserved : goal.loop-page-preserved
loop-page-preserved c =
    let rows = values_of c.self.inside.rows in
    let i = c.loop-page.page-index in
    let row = c.in-Some.row.now in
    let filtered : List Row = filter (is_signal_row_of c.args.frame) rows in
    let listed = c.pages-page-items.ensures ∙ c.self.invariant.signal_pages c.args.frame in
    let within : i < length filtered = within_filter c.args.frame rows c.pages-page-items.result.now listed i c.loop-page-test.true in
    let found = c.in-Some.ensures ∙ signal_row_at c.args.frame rows c.pages-page-items.result.now listed i c.loop-page-test.true (record { space = 0; vpn = 0 }) row c.self.invariant.proper in
    c.push.ensures.items
    ∙ ap (λ (taken : List Row). taken ++ row ∷ []) c.loop-page.invariant
    ∙ ap (λ (last : Row). take i filtered ++ last ∷ []) (same_Some row (get_or filtered i row) found)
    ∙ sym (take_more filtered i row within)

pub returns : goal.returns
returns c =
    let rows = values_of c.self.inside.rows in
    let filtered : List Row = filter (is_signal_row_of c.args.frame) rows in
    let listed = c.pages-page-items.ensures in
    c.loop-page.invariant
    ∙ take_all c.loop-page.page-index filtered (omega (arith, ap length listed, length_pages rows c.self.inside.signals c.args.frame c.self.invariant.signal_pages, length-filter (is_signal_row_of c.args.frame) rows))
    ∙ ap (filter (is_signal_row_of c.args.frame)) c.self.view_is
