use Rattle.std.proofs.Common.{◌≡◌, ap, subst, ◌∙◌}
use Rattle.std.specs.Option.{is_some}
use Rattle.board_checks.specs.desc_tables.specs.Tables.{Held}
use Rattle.board_core.specs.cached_machine.specs.Cached.{is_loaded, Cached}
use Rattle.board_threads.proofs.IdentLemmas.{loaded_tested}
use Rattle.board_threads.proofs.known.is_loaded.Goals as goal

pub returns : goal.returns
returns c =
    let held : c.tables.result.now ≡ c.args.core.now.machine.held = c.tables.ensures.tables ∙ ap (λ (m : Cached). m.held) c.machine.ensures in
    c.is_some.ensures ∙ subst (λ (h : Held). is_some c.resident.result ≡ is_loaded h.contents c.args.name) held (loaded_tested c.tables.result.now.contents c.args.name c.resident.result c.resident.ensures.found c.resident.ensures.absent)
