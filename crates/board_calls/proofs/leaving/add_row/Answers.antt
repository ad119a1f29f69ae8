use Rattle.std.proofs.Common.{List, sym, ◌∙◌, ap, subst}
use Rattle.cache_ident.specs.declared.idents.Ident.{Ident}
use Rattle.cache_ident.specs.declared.names.Name.TheVariants as name
use Rattle.cache_ident.specs.Residents.{Resident, IsResident}
use Rattle.board_checks.specs.desc_stores.specs.Contents.{residents_of}
use Rattle.board_checks.specs.desc_tables.specs.Tables.{Held}
use Rattle.board_core.specs.store_residents.proofs.ResidentLemmas.{one_each}
use Rattle.board_calls.specs.Leaving.{AddsThose}
use Rattle.board_calls.proofs.LoopLaws.{adds_one}
use Rattle.board_calls.proofs.leaving.add_row.Goals as goal

pub returns-in_ok-push : goal.returns-in_ok-push
returns-in_ok-push c =
    let contents = c.args.machine.now.held.contents in
    let its = λ (i : Ident). IsResident (residents_of contents) i (name.Mapping c.args.space c.args.vpn) in
    let found = subst (λ (h : Held). IsResident (residents_of h.contents) c.in-Some.ident (name.Mapping c.args.space c.args.vpn)) c.tables.ensures.tables c.in-Some.ensures.found in
    subst (λ (now : List Ident). AddsThose its c.args.idents.now.items now) (sym c.in_ok-push.ensures.items)
    (adds_one its c.args.idents.now.items c.in-Some.ident found (λ i other.
    sym found.2 ∙ ap (λ (r : Resident). r.ident) ((one_each contents c.known.ensures.one).names found.0 other.0 found.1 other.1 (found.3 ∙ sym other.3)) ∙ other.2))
