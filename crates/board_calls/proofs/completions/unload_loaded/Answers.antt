use Rattle.std.proofs.Common.{refl, sym, ◌∙◌, ap, subst}
use Rattle.cache_ident.specs.Residents.{IsIdentResident}
use Rattle.board_checks.specs.desc_stores.specs.Contents.{residents_of}
use Rattle.board_checks.specs.desc_tables.specs.Tables.{Held}
use Rattle.board_core.specs.cached_machine.specs.Cached.{Cached}
use Rattle.board_calls.proofs.TurnLaws.{gone_already, left_now}
use Rattle.board_calls.proofs.completions.unload_loaded.Goals as goal

pub returns-in-Live : goal.returns-in-Live
returns-in-Live c =
    let held = c.tables.ensures.tables ∙ ap (λ (m : Cached). m.held) c.machine.ensures in
    let there = subst (λ (h : Held). IsIdentResident (residents_of h.contents) c.args.ident) held (c.in-Live.ensures.live.0 refl) in
    let done = c.unload.ensures in
    record { left = left_now c.args.cpu c.args.ident c.args.core.now c.unload.new.self c.unload.new.self.machine.held.gone _ c.known.ensures.whole there done.entries done.unload done.marks done.sealed done.checkouts done.issues done.room done.sets }

pub returns-in_default : goal.returns-in_default
returns-in_default c =
    let held = c.tables.ensures.tables ∙ ap (λ (m : Cached). m.held) c.machine.ensures in
    record { left = gone_already c.args.cpu c.args.ident c.args.core.now c.known.ensures.out (λ there. c.in_default.not-Live (c.standing.ensures.live.1 (subst (λ (h : Held). IsIdentResident (residents_of h.contents) c.args.ident) (sym held) there))) }
