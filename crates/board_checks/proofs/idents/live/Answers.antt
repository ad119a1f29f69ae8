use Rattle.cache_ident.specs.declared.idents.Standing.TheVariants.{Live, Left, Never}
use Rattle.board_checks.proofs.IdentifierLemmas.{gone_as_it_stands}
use Rattle.board_checks.proofs.idents.live.Goals as goal

pub returns-in-Never-clause-exact : goal.returns-in-Never-clause-exact
returns-in-Never-clause-exact c = gone_as_it_stands c.args.tables.now.contents c.args.ident Never c.in-Never.ensures.standing

pub returns-in-Left-clause-exact : goal.returns-in-Left-clause-exact
returns-in-Left-clause-exact c = gone_as_it_stands c.args.tables.now.contents c.args.ident (Left c.in-Left.at) c.in-Left.ensures.standing

pub returns-in-Live-clause-exact : goal.returns-in-Live-clause-exact
returns-in-Live-clause-exact c = gone_as_it_stands c.args.tables.now.contents c.args.ident Live c.in-Live.ensures.standing
