use Rattle.std.proofs.Common.{◌≡◌, Some, None, sym, ap, ◌∙◌}
use Rattle.std.specs.Option.{is_some, option_map}
use Rattle.rv32_exec.specs.declared.statuses.Access.TheVariants.{Write}
use Rattle.flat_rules.specs.flat_state.specs.Pages.{page_of}
use Rattle.flat_mmu.specs.Seen.{seen, seen_row}
use Rattle.flat_mmu.proofs.MmuLaws.{both_stay, place_aligned, place_within, store_keeps, store_pages, translates_seen, unstored_seen}
use Rattle.flat_mmu.proofs.mmu.MmuSpace.store.Goals as goal

pub store-requires-clause-within : goal.store-requires-clause-within
store-requires-clause-within g c =
    place_within (g.T.Records.state c.args.self.now.tables.now).memory c.in-Some.row.frame c.args.va c.args.width c.place_in.result c.requires (rw c.in-Some.is at c.translate.ensures.in_memory) c.place_in.ensures

pub store-requires-clause-aligned : goal.store-requires-clause-aligned
store-requires-clause-aligned g c = place_aligned c.in-Some.row.frame c.args.va c.args.width c.place_in.result c.requires c.place_in.ensures

pub returns-in-Some-clause-found : goal.returns-in-Some-clause-found
returns-in-Some-clause-found g c =
    let s = g.T.Records.state c.args.self.now.tables.now in
    let space = c.args.self.now.space in
    let m = seen s space in
    let found : seen_row m Write c.args.va ≡ Some c.in-Some.row = sym c.translate.ensures.row ∙ c.in-Some.is in
    sym (translates_seen m Write c.args.va ∙ ap (λ r. is_some (option_map (page_of m.rights m.memory) r)) found)

pub returns-in-Some-clause-bytes : goal.returns-in-Some-clause-bytes
returns-in-Some-clause-bytes g c =
    let s = g.T.Records.state c.args.self.now.tables.now in
    let space = c.args.self.now.space in
    let m = seen s space in
    let found : seen_row m Write c.args.va ≡ Some c.in-Some.row = sym c.translate.ensures.row ∙ c.in-Some.is in
    store_pages s (g.T.Records.state c.store.new.self) space c.args.va c.args.width c.args.value c.in-Some.row c.place_in.result c.requires found c.place_in.ensures c.store.ensures.state

pub returns-in-Some-clause-kept : goal.returns-in-Some-clause-kept
returns-in-Some-clause-kept g c =
    let s = g.T.Records.state c.args.self.now.tables.now in
    let space = c.args.self.now.space in
    let m = seen s space in
    let found : seen_row m Write c.args.va ≡ Some c.in-Some.row = sym c.translate.ensures.row ∙ c.in-Some.is in
    both_stay (store_keeps s (g.T.Records.state c.store.new.self) space c.args.va c.args.width c.args.value c.in-Some.row c.place_in.result c.requires found c.place_in.ensures c.store.ensures.state _) c.store.ensures.rest

pub returns-in-None-clause-found : goal.returns-in-None-clause-found
returns-in-None-clause-found g c =
    let s = g.T.Records.state c.args.self.now.tables.now in
    let space = c.args.self.now.space in
    let m = seen s space in
    let lost : seen_row m Write c.args.va ≡ None = sym c.translate.ensures.row ∙ c.in-None.is in
    sym (translates_seen m Write c.args.va ∙ ap (λ r. is_some (option_map (page_of m.rights m.memory) r)) lost)

pub returns-in-None-clause-bytes : goal.returns-in-None-clause-bytes
returns-in-None-clause-bytes g c =
    let s = g.T.Records.state c.args.self.now.tables.now in
    let space = c.args.self.now.space in
    let m = seen s space in
    let lost : seen_row m Write c.args.va ≡ None = sym c.translate.ensures.row ∙ c.in-None.is in
    unstored_seen m c.args.va c.args.width c.args.value lost
