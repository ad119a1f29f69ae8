use Rattle.std.proofs.Common.{◌∙◌, ap}
use Rattle.std.specs.Option.{option_map}
use Rattle.cache_ident.specs.declared.names.Name.TheVariants as name
use Rattle.board_ops.specs.flat_state.specs.declared.records.FlatThread.{FlatThread}
use Rattle.board_checks.specs.Identifiers.{receiver_as}
use Rattle.board_checks.proofs.IdentifierLemmas.{thread_is}
use Rattle.board_checks.proofs.idents.receiver_as.Goals as goal

pub returns-in_ok-thread_as-in-Some-clause-named : goal.returns-in_ok-thread_as-in-Some-clause-named
returns-in_ok-thread_as-in-Some-clause-named c =
    ap (receiver_as c.args.tables.now.contents) c.in-Some.is ∙ ap (option_map (λ (t : FlatThread). name.Thread t.no)) (thread_is c.args.tables.now.contents c.in-Some.ident c.in_ok-thread_as-in-Some.field-0.now c.in_ok-thread_as-in-Some.ensures.found)
