use Rattle.std.proofs.Common.{false}
use Rattle.desc_groups.specs.store_residents.proofs.FrameLemmas.{rows_on_frame}
use Rattle.desc_tables.proofs.tables.Tables.other_rows.Goals as goal

pub returns-clause-rows : goal.returns-clause-rows
returns-clause-rows c = rw (← c.self.view_is) (λ ident.
    let on = rows_on_frame c.self.inside.stores c.self.invariant.0.whole.one c.args.frame false ident in
    let listed = c.other_rows.ensures.rows ident in
    (λ there. on.0 (listed.0 there), λ is. listed.1 (on.1 is)))
