use Rattle.std.proofs.Common.{not, ap, ◌∙◌}
use Rattle.cache_ident.specs.declared.names.SpaceNo.{SpaceNo}
use Rattle.rv32_exec.specs.Pages.{translates}
use Rattle.flat_state.specs.Pages.{pages_of}
use Rattle.flat_rules.proofs.Looks.{unreached}
use Rattle.flat_rules.proofs.look.lacks.Goals as goal

pub returns : goal.returns
returns g c =
    let s = g.T.Records.state c.args.tables.now in
    unreached s c.args.access c.space_of.result c.args.va c.reached.result c.is_err.result c.reached.ensures.reaches c.is_err.ensures.value
    ∙ ap (λ (space : SpaceNo). not (translates (pages_of s space) c.args.va c.args.access)) c.space_of.ensures
