use Rattle.std.proofs.Common.{◌≡◌, Some, None, sym, ◌∙◌, ap}
use Rattle.rv32_exec.specs.declared.statuses.Access.TheVariants.{Read}
use Rattle.flat_mmu.specs.Seen.{seen, seen_row}
use Rattle.flat_mmu.proofs.MmuLaws.{read_seen, unread_seen}
use Rattle.flat_mmu.proofs.mmu.MmuSpace.load.Goals as goal

pub returns-in-Some : goal.returns-in-Some
returns-in-Some g c =
    let s = g.T.Records.state c.args.self.now.tables.now in
    let m = seen s c.args.self.now.space in
    let found : seen_row m Read c.args.va ≡ Some c.in-Some.row = sym c.translate.ensures.row ∙ c.in-Some.is in
    ap Some c.number.ensures ∙ read_seen m Read c.args.va c.args.width c.in-Some.row c.requires found

pub returns-in-None : goal.returns-in-None
returns-in-None g c =
    let s = g.T.Records.state c.args.self.now.tables.now in
    let m = seen s c.args.self.now.space in
    let lost : seen_row m Read c.args.va ≡ None = sym c.translate.ensures.row ∙ c.in-None.is in
    unread_seen m Read c.args.va c.args.width lost
